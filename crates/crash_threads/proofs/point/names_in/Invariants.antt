-- The names so far.
use Rattle.std.proofs.Common.{◌≡◌, ℕ, List, filter, map, take}
use Rattle.minidump.specs.Below.Format.Flags.{has_flag}
use Rattle.crash_threads.proofs.point.names_in.Given as goal

abbrev pub invariant-loop-flag : goal.invariant-loop-flag
invariant-loop-flag l = map (λ n. n.now) l.names.items ≡ map (λ (f : List ℕ × ℕ). f.0)
    (filter (λ (f : List ℕ × ℕ). has_flag l.number f.1) (map (λ f. (f.0.now, f.1)) (take l.flag-index l.table)))
