-- The pieces are the fields.
use Rattle.minidump_records.specs.MacCrashInfo.Text.{record_text}
use Rattle.minidump_records.proofs.mac_crash_info.print.RecordTextPushed.push.Goals as goal

pub returns : goal.returns
unfolding record_text
returns c = rw (
  ← c.version.ensures,
  ← c.decimal_piece.ensures,
  ← c.thread.ensures,
  ← c.decimal_piece-2.ensures,
  ← c.dialog_mode.ensures,
  ← c.digits_piece.ensures,
  ← c.module_path.ensures,
  ← c.words_piece.ensures,
  ← c.message.ensures,
  ← c.words_piece-2.ensures,
  ← c.signature_string.ensures,
  ← c.words_piece-3.ensures,
  ← c.backtrace.ensures,
  ← c.words_piece-4.ensures,
  ← c.message2.ensures,
  ← c.words_piece-5.ensures,
  ← c.abort_cause.ensures,
  ← c.digits_piece-2.ensures,
) c.push_pieces.ensures.ok
