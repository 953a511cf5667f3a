-- There are lines where one of the registers has one.
use Rattle.std.proofs.Common.{append_assoc, append-nil, ◌≡◌, [], ◌∷◌, ℕ, true, false, List, arith, codes, map, refl, rules, ⊎_elim}
use Rattle.std.proofs.lemmas.Grind.{common_steps}
use Rattle.std.proofs.lemmas.Bool.{cases_Bool, false≢true, or_parts}
use Rattle.std.proofs.lemmas.List.{take_all}
use Rattle.std.proofs.lemmas.List.Concat.{flat_map-cons}
use Rattle.std.specs.List.{flat_map, list_any}
use Rattle.crash.specs.Crash.{CrashValue, crash_of}
use Rattle.crash_threads.specs.declared.addresses.AddressFacts.{AddressFacts}
use Rattle.crash_threads.specs.Addresses.{is_placed}
use Rattle.crash_lines.specs.Lines.{headed}
use Rattle.crash_lines.specs.Point.{if_placed}
use Rattle.crash_lines.proofs.point.push_placed.Goals as goal

none_placed : {X : Type 0} (c : CrashValue) (value : X → List ℕ × AddressFacts) (xs : List X) → list_any (λ x. is_placed (value x).1) xs ≡ false
    → flat_map (if_placed c) (map value xs) ≡ []
none_placed c value [] h = refl
none_placed c value (x ∷ xs) h =
    let p = or_parts (is_placed (value x).1) (list_any (λ x. is_placed (value x).1) xs) h in
    rw (flat_map-cons, p.0) (none_placed c value xs p.1)

some_placed : {X : Type 0} (c : CrashValue) (value : X → List ℕ × AddressFacts) (heading : List ℕ) (xs : List X) → list_any (λ x. is_placed (value x).1) xs ≡ true
    → headed heading (flat_map (if_placed c) (map value xs)) ≡ heading ∷ flat_map (if_placed c) (map value xs)
some_placed c value heading [] h = absurd (false≢true h)
some_placed c value heading (x ∷ xs) h = ⊎_elim
    (λ (is : is_placed (value x).1 ≡ true). rw (flat_map-cons, is) refl)
    (λ (is : is_placed (value x).1 ≡ false). rw (flat_map-cons, is) (some_placed c value heading xs (rw is at h)))
    (cases_Bool (is_placed (value x).1))

pub returns-then-not-any_placed : goal.returns-then-not-any_placed
returns-then-not-any_placed c =
    let any = rw c.as_slice-registers.ensures.value at c.any_placed.ensures in
    rw (none_placed (crash_of c.args.crash.now) (λ r. (r.0.now, r.1)) c.args.point.now.registers.items (search rules)) (grind (arith, common_steps))

pub returns : goal.returns
returns c =
    let any = rw c.as_slice-registers.ensures.value at c.any_placed.ensures in
    let all = take_all c.loop-register.register-index c.as_slice-registers.result.now c.loop-register-test.false in
    let each = rw (all, c.as_slice-registers.ensures.value) at c.loop-register.invariant in
    rw (some_placed (crash_of c.args.crash.now) (λ r. (r.0.now, r.1)) (codes "registers in a module or a stack") c.args.point.now.registers.items (search rules))
    (rw (each, c.in_ok-push_text_line.ensures.ok) (simp (append_assoc, append-nil)))
