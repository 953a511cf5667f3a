-- The numbers and the texts of the record.
use Rattle.crash_json.specs.Records.{mac_record_json}
use Rattle.crash_json.proofs.Tokens.{views}
use Rattle.crash_json.proofs.records.RawMacCrashInfoToJson.put.Goals as goal

pub returns : goal.returns
unfolding mac_record_json
returns c =
    let numbers = rw (c.copied.ensures, c.copied-2.ensures, c.copied-3.ensures, c.thread.ensures, c.dialog_mode.ensures, c.abort_cause.ensures)
    at c.put_object.ensures in
    rw (← c.module_path.ensures, ← c.message.ensures, ← c.signature_string.ensures, ← c.backtrace.ensures, ← c.message2.ensures)
    (simp views numbers)
