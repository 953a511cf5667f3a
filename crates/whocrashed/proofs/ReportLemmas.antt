-- Reports, with one more.
use Rattle.std.proofs.Common.{◌≡◌, ◌++◌, ◌<◌, ◌≤◌, ◌+◌, ℕ, List, [], ◌∷◌, arith, get_or, inl, inr, length, map, max, refl, subst, sym, take}
use Rattle.std.specs.Prelude.{Contains, flat_map}
use Rattle.std.proofs.lemmas.Bool.{cases_lt}
use Rattle.std.proofs.lemmas.Grind.{flat_map-append}
use Rattle.std.proofs.lemmas.List.{append-nil, map-append, map_more}
use Rattle.std.proofs.lemmas.List.Elements.{All-push, All-weaker, Contains-append_left, Contains-push}
use Rattle.std.proofs.lemmas.Slice.Zip.{all_zipped_more}
use Rattle.whocrashed_inputs.specs.Input.{Asked}
use Rattle.whocrashed.specs.Run.{AreReports, IsGreatest}

-- the greater of one of a list and one more is one of both
among : (xs : List ℕ) (n m : ℕ) → Contains xs n → Contains (xs ++ m ∷ []) (max n m)
among xs n m there = elim (cases_lt n m) [
  | inl lt ↦ let is : m ≡ max n m = grind (arith) in subst (λ k. Contains (xs ++ m ∷ []) k) is (Contains-push xs m)
  | inr le ↦ let is : n ≡ max n m = grind (arith) in subst (λ k. Contains (xs ++ m ∷ []) k) is (Contains-append_left xs (m ∷ []) n there)
]

-- the statuses, and the texts, with those of one more report
statuses_more : (first : ℕ) (reports : List (ℕ × List ℕ)) (m : ℕ) (t : List ℕ)
    → first ∷ map (λ report. report.0) (reports ++ (m, t) ∷ []) ≡ (first ∷ map (λ report. report.0) reports) ++ m ∷ []
statuses_more first reports m t = rw (map-append (λ report. report.0) reports ((m, t) ∷ [])) refl

texts_more : (reports : List (ℕ × List ℕ)) (m : ℕ) (t : List ℕ)
    → flat_map (λ report. report.1) (reports ++ (m, t) ∷ []) ≡ flat_map (λ report. report.1) reports ++ t
texts_more reports m t = rw (flat_map-append (λ report. report.1) reports ((m, t) ∷ []), append-nil t) refl

module _ (may : Asked → ℕ → List ℕ → Type 0) (first : ℕ) where
  -- of no dump
  pub begun : AreReports may first [] first []
  unfolding AreReports
  begun = ([], tt, (Contains-push [] first, All-push (λ other. other ≤ first) [] first (λ k d h. absurd (omega (arith, h))) (omega arith)), refl)

  -- with the next of a list
  pub with_next : {X : Type 0} (value : X → Asked) (xs : List X) (i : ℕ) (d : X) (n m both : ℕ) (text t : List ℕ) → i < length xs
      → may (value (get_or xs i d)) m t → AreReports may first (map value (take i xs)) n text → both ≡ max n m
      → AreReports may first (map value (take (i + 1) xs)) both (text ++ t)
  unfolding AreReports
  with_next value xs i d n m both text t within given (reports, each, (there, greatest), texts) same =
      rw (map_more value xs i d within, same, texts) (
        reports ++ (m, t) ∷ [],
        all_zipped_more (λ asked report. may asked report.0 report.1) (map value (take i xs)) reports (value (get_or xs i d)) (m, t) each given,
        subst (λ ss. IsGreatest ss (max n m)) (sym (statuses_more first reports m t)) (
          among (first ∷ map (λ report. report.0) reports) n m there,
          All-push (λ other. other ≤ max n m) (first ∷ map (λ report. report.0) reports) m
              (All-weaker (λ other. other ≤ n) (λ other. other ≤ max n m) (λ other h. grind (arith)) (first ∷ map (λ report. report.0) reports) greatest)
              (grind (arith)),
        ),
        rw (texts_more reports m t) refl,
      )

  -- of the first ones of a list, which is another
  pub of_first : (count : ℕ) (xs ys : List Asked) (n : ℕ) (text : List ℕ) → xs ≡ ys → AreReports may first (take count xs) n text
      → AreReports may first (take count ys) n text
  of_first count xs ys n text same reports = subst (λ ds. AreReports may first (take count ds) n text) same reports
