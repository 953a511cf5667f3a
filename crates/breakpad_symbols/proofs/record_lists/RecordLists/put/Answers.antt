-- A line that begins with no keyword's letter is no record.
use Rattle.std.proofs.Common.{◌≡◌, false}
use Rattle.minidump_bytes.specs.LinuxOsStr.{text_of}
use Rattle.breakpad_symbols.specs.RecordLists.{may_be_record}
use Rattle.breakpad_symbols.proofs.RecordListLemmas.{not_record}
use Rattle.breakpad_symbols.proofs.record_lists.RecordLists.put.Goals as goal

pub returns-then-not-may_be_record : goal.returns-then-not-may_be_record
returns-then-not-may_be_record c =
    let other : may_be_record (text_of c.args.line) ≡ false = cc in
    not_record _ (text_of c.args.line) _ other
