-- The lines so far are lines of names, and what they list is there.
use Rattle.std.proofs.Common.{◌≡◌, length, drop, map, take}
use Rattle.minidump_names.specs.NameLine.{listing_of}
use Rattle.minidump_names.specs.NamesText.{AreLines, lines_in, listings_in}
use Rattle.minidump_names.proofs.text.read_lines.Given as goal

abbrev pub invariant-loop-line : goal.invariant-loop-line
invariant-loop-line l = record {
  left : l.line-iterator ≡ drop (length l.yielded) (lines_in l.text);
  number : l.number ≡ length l.yielded;
  lines : AreLines (take (length l.yielded) (lines_in l.text));
  listings : map listing_of l.listings.items ≡ listings_in (take (length l.yielded) (lines_in l.text));
}
