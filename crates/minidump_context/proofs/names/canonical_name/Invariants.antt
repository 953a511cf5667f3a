-- No alias so far is the name.
use Rattle.std.proofs.Common.{◌≡◌, ℕ, ◌<◌, false, get_or}
use Rattle.std.specs.Str.{bytes_eq}
use Rattle.minidump_context.proofs.names.canonical_name.Given as goal

abbrev pub invariant-loop-alias : goal.invariant-loop-alias
invariant-loop-alias l = (k : ℕ) (d : _) → k < l.alias-index → bytes_eq (get_or l.aliases k d).0.now l.name ≡ false
