-- The pieces are the line.
use Rattle.std.proofs.Common.{w64, rules}
use Rattle.std.proofs.Math.Facts.{to_z-of_z}
use Rattle.minidump_stability.specs.ReportText.{process_id_line}
use Rattle.minidump_stability.proofs.report_print.push_id_line.Goals as goal

pub returns : goal.returns
unfolding process_id_line
returns c = rw (to_z-of_z {w = w64} {z = c.args.id} (search rules)) at c.push_pieces.ensures.ok
