-- One more, and the end.
use Rattle.std.proofs.Common.{◌≡◌, ◌∙◌, ◌<◌, ℕ, ap, append-nil, append_assoc, arith, length, map, min, List, [], ◌∷◌, ◌++◌, refl, rules, sym}
use Rattle.std.proofs.lemmas.List.{length-map, map-append, nil_from_length}
use Rattle.std.specs.Slice.Iter.{chunks_rest}
use Rattle.crash_lines.specs.Point.{register_row, rows}
use Rattle.crash_lines.proofs.point.push_rows.Goals as goal

-- a row comes off: four items, or all where there are fewer
rows_more : {X : Type 0} (xs rest : List X) → length xs ≡ min 4 (length (xs ++ rest)) → 0 < length (xs ++ rest) → rows (xs ++ rest) ≡ xs ∷ rows rest
rows_more [] rest few some = absurd (omega (arith, few, some))
rows_more (a ∷ []) [] few some = refl
rows_more (a ∷ []) (x ∷ rest) few some = absurd (omega (arith, few))
rows_more (a ∷ b ∷ []) [] few some = refl
rows_more (a ∷ b ∷ []) (x ∷ rest) few some = absurd (omega (arith, few))
rows_more (a ∷ b ∷ c ∷ []) [] few some = refl
rows_more (a ∷ b ∷ c ∷ []) (x ∷ rest) few some = absurd (omega (arith, few))
rows_more (a ∷ b ∷ c ∷ d ∷ []) rest few some = refl
rows_more (a ∷ b ∷ c ∷ d ∷ e ∷ xs) rest few some = absurd (omega (arith, few))

-- the same of the values of items
rows_next : {X Y : Type 0} (value : X → Y) (all xs rest : List X) → all ≡ xs ++ rest → length xs ≡ min 4 (length all) → 0 < length all
    → rows (map value all) ≡ map value xs ∷ rows (map value rest)
rows_next value all xs rest is few some =
    let split : map value all ≡ map value xs ++ map value rest = ap (map value) is ∙ map-append value xs rest in
    let len : length (map value xs ++ map value rest) ≡ length all = ap length (sym split) ∙ length-map all value in
    ap rows split
    ∙ rows_more (map value xs) (map value rest) (length-map xs value ∙ few ∙ ap (min 4) (sym len)) (omega (arith, len, some))

pub loop-row-preserved : goal.loop-row-preserved
unfolding register_row
loop-row-preserved c =
    let steps = c.in-Some.ensures.steps in
    let fits = rw c.loop-row.invariant.size at steps.1.1 in
    record {
      size = steps.0 ∙ c.loop-row.invariant.size;
      whole = rw (c.in_ok-push_row.ensures.ok, append_assoc, append-nil)
          (rw (rows_next {Y = List ℕ × ℕ} (λ r. (r.0.now, r.1)) (chunks_rest c.loop-row.row-iterator) c.in-Some.row.now (chunks_rest c.next.new.self) steps.1.0 fits steps.1.2) at
          c.loop-row.invariant.whole);
    }

pub returns : goal.returns
returns c = search (rules, rw (nil_from_length (chunks_rest c.loop-row.row-iterator) c.in-None.ensures.steps.1.0) at c.loop-row.invariant.whole)
