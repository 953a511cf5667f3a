-- The heading, the lines and the empty line go out one after another.
use Rattle.std.proofs.Common.{codes}
use Rattle.minidump_format.proofs.Printing.{prints_exit, prints_then}
use Rattle.minidump.specs.Text.{streams_heading}
use Rattle.minidump.proofs.dump.Minidump.print_streams.Goals as goal

pub returns-in_err-put_text : goal.returns-in_err-put_text
unfolding streams_heading
returns-in_err-put_text g c = prints_exit _ _ _ (codes "Streams:\n") _ _ _ c.from_residual.ensures.1 c.in_err-put_text.ensures.prints

pub returns-in_err-print_stream_lines : goal.returns-in_err-print_stream_lines
unfolding streams_heading
returns-in_err-print_stream_lines g c =
    prints_then _ _ _ _ (codes "Streams:\n") _ _ c.in_ok-put_text.ensures.prints
    (prints_exit _ _ _ _ _ _ _ c.from_residual-in_err-print_stream_lines.ensures.1 c.in_err-print_stream_lines.ensures)

pub returns : goal.returns
unfolding streams_heading
returns g c =
    prints_then _ _ _ _ (codes "Streams:\n") _ _ c.in_ok-put_text.ensures.prints
    (prints_then _ _ _ _ _ _ _ c.in_ok-print_stream_lines.ensures c.print_line_end.ensures.prints)
