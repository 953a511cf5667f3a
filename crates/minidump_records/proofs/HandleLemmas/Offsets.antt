-- The set and the list of the offsets so far, and the pieces at these offsets.
use Rattle.std.proofs.Common.{◌≡◌, ℕ, List, [], ◌∷◌, ◌++◌, map, refl, ap, sym, ◌∙◌, Bool, true, false, nat_eq, cond, Option, Some}
use Rattle.std.specs.Prelude.{◌||◌, not}
use Rattle.std.specs.List.{filter_map, list_any}
use Rattle.std.proofs.lemmas.List.Folds.{list_any-append}
use Rattle.minidump_system.specs.Chain.{Follow}
use Rattle.minidump_system.proofs.EachOnce.{same_test}
use Rattle.minidump_system.proofs.OneChain.{right_false}

cond_or : (a b : Bool) → cond a true b ≡ (b || a)
cond_or true true = refl
cond_or true false = refl
cond_or false true = refl
cond_or false false = refl

-- the set and the list after one offset more
pub same_push : (done : List ℕ) (offset q : ℕ) (new old : Bool) → new ≡ cond (nat_eq offset q) true old → old ≡ list_any (nat_eq q) done
    → new ≡ list_any (nat_eq q) (done ++ offset ∷ [])
same_push done offset q new old e f =
    e ∙ cond_or (nat_eq offset q) old ∙ ap (λ b. b || nat_eq offset q) f ∙ ap (λ b. list_any (nat_eq q) done || b)
    (same_test offset q ∙ sym (right_false (nat_eq q offset)))
    ∙ sym (list_any-append (nat_eq q) done (offset ∷ []))

-- a set had a key exactly if to add it changed nothing
pub was_there : (added had : Bool) → added ≡ not had → added ≡ false → had ≡ true
was_there added true e h = refl
was_there added false e h = (let k : false ≡ true = sym h ∙ e in cc)

pub was_absent : (added had : Bool) → added ≡ not had → added ≡ true → had ≡ false
was_absent added false e h = refl
was_absent added true e h = (let k : true ≡ false = sym h ∙ e in cc)

-- a piece stands at each offset
pub none_skipped : {I : Type 0} (at : ℕ → Option I) (next : I → ℕ) (link : ℕ) (ps : List ℕ) → Follow at next link ps → map at ps ≡ map Some (filter_map at ps)
none_skipped at next link [] f = refl
none_skipped at next link (p ∷ ps) (here, i, is, more) = rw is (ap (λ l. Some i ∷ l) (none_skipped at next (next i) ps more))
