-- The registers so far.
use Rattle.std.proofs.Common.{◌≡◌, ℕ, List, filter, map, take}
use Rattle.crash_threads.specs.declared.addresses.AddressFacts.{AddressFacts}
use Rattle.crash_threads.specs.Addresses.{facts_of}
use Rattle.crash_streams.specs.Contents.{contents_of}
use Rattle.crash_threads.specs.Point.{holds_address}
use Rattle.crash_threads.proofs.point.register_facts.Given as goal

abbrev pub invariant-loop-register : goal.invariant-loop-register
invariant-loop-register l = map {B = List ℕ × AddressFacts} (λ r. (r.0.now, r.1)) l.facts.items
    ≡ map {B = List ℕ × AddressFacts} (λ (r : List ℕ × ℕ). (r.0, facts_of (contents_of l.contents) r.1))
    (filter (λ (r : List ℕ × ℕ). holds_address r.0) (map (λ r. (r.0.now, r.1)) (take l.register-index l.register-items)))
