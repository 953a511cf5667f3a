-- The bytes so far are those that the reader has given. A reader that had failed is as it was.
use Rattle.std.proofs.Common.{◌≡◌, ◌^◌, ◌-◌, vec_len}
use Rattle.std.specs.Prelude.{IsTrue}
use Rattle.std.specs.Io.KnownBytes.{Consumes}
use Rattle.minidump.proofs.reader.read_all.Given as goal

abbrev pub invariant-loop-n : goal.invariant-loop-n
invariant-loop-n g l = record {
  given : Consumes (g.R.ToldReader.left l.fn.reader) (g.R.ToldReader.left l.reader) l.into.items;
  dead : IsTrue (g.R.ToldReader.failed l.fn.reader) → l.reader ≡ l.fn.reader;
}

abbrev pub decreases-loop-n : goal.decreases-loop-n
decreases-loop-n g l = 2 ^ 64 - vec_len l.into
