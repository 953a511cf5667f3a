-- What is kept of the entries before i, and what will be of those from i on, are the last of each type.
use Rattle.std.proofs.Common.{◌≡◌, ◌++◌, ◌≤◌, drop, length, take}
use Rattle.minidump.proofs.DirectoryLemmas.{last_of_types}
use Rattle.minidump.proofs.directory.keep_last.Given as goal

abbrev pub invariant-loop-i : goal.invariant-loop-i
invariant-loop-i l = record {
  before : l.kept ≤ l.i;
  same : length l.entries.items ≡ length l.fn.entries.items;
  rest : drop l.i l.entries.items ≡ drop l.i l.fn.entries.items;
  last : take l.kept l.entries.items ++ last_of_types (drop l.i l.fn.entries.items) ≡ last_of_types l.fn.entries.items;
}
