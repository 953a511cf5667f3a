-- The families so far have other names.
use Rattle.std.proofs.Common.{◌≡◌, drop}
use Rattle.minidump_names.specs.NameLine.{family_in, find_family}
use Rattle.minidump_names.proofs.family.family_in.Given as goal

abbrev pub invariant-loop-family : goal.invariant-loop-family
invariant-loop-family l = family_in l.text ≡ find_family (drop l.family-index l.family-items) l.text
