-- The text of the crash information of macOS: a count, and each record by index.
use Rattle.std.specs.Prelude.{ℕ, List, [], ◌∷◌, ◌++◌, codes, length}
use Rattle.std.specs.Fmt.{decimal}
use Rattle.std.specs.List.{concat, enumerate_from, flat_map}
use Rattle.minidump_bytes.specs.Piece.{plain_hex}
use Rattle.minidump_format.specs.Numbered.{count_text}
use Rattle.minidump_format.specs.Text.{if_there}
use Rattle.minidump_records.specs.Print.{text_or_nothing}
use Rattle.minidump_records.specs.MacCrashInfo.Record.{MacRecord, abort_cause, dialog_mode, text_of, thread, version}

-- the record at an index, and an empty line
unfoldable pub record_text : ℕ × MacRecord → List ℕ
record_text r = concat (
    codes "  RECORD[" ∷ decimal r.0 ∷ codes "] \n"
    ∷ codes "    version           = " ∷ if_there decimal (version r.1) ∷ codes "\n"
    ∷ codes "    thread            = " ∷ if_there decimal (thread r.1) ∷ codes "\n"
    ∷ codes "    dialog_mode       = " ∷ if_there plain_hex (dialog_mode r.1) ∷ codes "\n"
    ∷ codes "    module_path       = " ∷ text_or_nothing (text_of (λ t. t.module_path) r.1) ∷ codes "\n"
    ∷ codes "    message           = " ∷ text_or_nothing (text_of (λ t. t.message) r.1) ∷ codes "\n"
    ∷ codes "    signature_string  = " ∷ text_or_nothing (text_of (λ t. t.signature_string) r.1) ∷ codes "\n"
    ∷ codes "    backtrace         = " ∷ text_or_nothing (text_of (λ t. t.backtrace) r.1) ∷ codes "\n"
    ∷ codes "    message2          = " ∷ text_or_nothing (text_of (λ t. t.message2) r.1) ∷ codes "\n"
    ∷ codes "    abort_cause       = " ∷ if_there plain_hex (abort_cause r.1) ∷ codes "\n"
    ∷ codes "\n"
    ∷ [])

-- how many records there are, and each of them
abbrev pub mac_crash_info_text : List MacRecord → List ℕ
mac_crash_info_text rs =
    count_text (codes "MINIDUMP_MAC_CRASH_INFO\n  num_records = ") (length rs)
    ++ flat_map record_text (enumerate_from 0 rs)
