-- One handle more, and the end: a table that has each name of a type with its number is that of the definition.
use Rattle.std.proofs.Common.{Less, ◌≡◌, ◌∙◌, ◌<◌, ℕ, Bool, ◌||◌, cond, List, [], ◌∷◌, ap, get_or, length, map, refl, sym, arith, rules, BTreeSet, count_by, unwrap_or, Bor, nat_cmp, take_all, length-take-le}
use Rattle.std.specs.BTreeMap.{is_at}
use Rattle.std.specs.Cmp.{on_total}
use Rattle.std.specs.Cmp.Lexicographic.{slice_cmp}
use Rattle.std.specs.List.{AllByRecursion, list_any}
use Rattle.std.specs.List.Sorted.{IsStrictlySortedBy}
use Rattle.std.specs.Map.{keys_of}
use Rattle.std.specs.Ordering.{eq_by_cmp}
use Rattle.std.proofs.lemmas.Cmp.{nat_list_cmp_total}
use Rattle.std.proofs.lemmas.List.Sums.{sum_by-cons, count_by-le-length}
use Rattle.std.proofs.lemmas.Map.Entries.{btree_map_get_place}
use Rattle.std.proofs.lemmas.Map.Lookups.{exact_bytes}
use Rattle.std.proofs.lemmas.Map.Made.{is_some-lookup}
use Rattle.std.proofs.lemmas.Map.Text.{is_eq-slice_cmp}
use Rattle.std.proofs.lemmas.Option.{slice_get-get_or}
use Rattle.minidump.specs.declared.MinidumpHandleDescriptor.{MinidumpHandleDescriptor}
use Rattle.minidump.specs.Below.Records.Handles.{handle_of}
use Rattle.crash_process.specs.HandleKinds.{has_type, kind_by, type_names}
use Rattle.crash_process.proofs.Ascending.{keys_ascend, one_table}
use Rattle.std.proofs.lemmas.Grind.{text_counts, text_groups}
use Rattle.crash_process.proofs.handle_kinds.tally_of.Goals as goal

abbrev Text : Type 0
Text = Bor (List ℕ)

-- ---- the keys of a table, by their bytes

above : (x : Text) (es : List (Text × ℕ)) → AllByRecursion (λ (y : Text). slice_cmp nat_cmp x.now y.now ≡ Less) (keys_of es)
    → AllByRecursion (λ y. slice_cmp nat_cmp x.now y ≡ Less) (map (λ e. e.0.now) es)
above x [] h = tt
above x (e ∷ es) h = (h.0, above x es h.1)

rises : (es : List (Text × ℕ)) → IsStrictlySortedBy (λ (x y : Text). slice_cmp nat_cmp x.now y.now) (keys_of es)
    → IsStrictlySortedBy (slice_cmp nat_cmp) (map (λ e. e.0.now) es)
unfolding IsStrictlySortedBy
rises [] h = tt
rises (e ∷ es) h = (above e.0 es h.0, rises es h.1)

any_mapped : {X Y : Type 0} (p : Y → Bool) (f : X → Y) (xs : List X) → list_any p (map f xs) ≡ list_any (λ x. p (f x)) xs
any_mapped p f [] = refl
any_mapped p f (x ∷ xs) = ap (λ b. p (f x) || b) (any_mapped p f xs)

-- ---- the handles of descriptors

any_named : (key : List ℕ) (hs : List MinidumpHandleDescriptor)
    → list_any (eq_by_cmp (slice_cmp nat_cmp) key) (type_names (map handle_of hs)) ≡ list_any (λ h. has_type key (handle_of h)) hs
any_named key [] = refl
any_named key (h ∷ hs) = grind (arith, is_eq-slice_cmp, any_named key hs)

counted : {X Y : Type 0} (p : Y → Bool) (f : X → Y) (xs : List X) → count_by (λ x. p (f x)) xs ≡ count_by p (map f xs)
counted p f [] = refl
counted p f (x ∷ xs) = grind (arith, sum_by-cons (λ x. cond (p (f x)) 1 0) x xs, sum_by-cons (λ y. cond (p y) 1 0) (f x) (map f xs), counted p f xs)

pub overflow_add-table : goal.overflow_add-table
overflow_add-table c = grind (arith, text_counts, count_by-le-length, length-take-le)

pub loop-handle-preserved : goal.loop-handle-preserved
loop-handle-preserved c = record {
  ordered = search rules;
  present = λ q. grind (arith, text_groups, c.loop-handle.invariant.present q);
  counted = λ q. grind (arith, text_counts, c.loop-handle.invariant.counted q);
}

pub returns : goal.returns
returns c =
    let hs = c.args.handles.now in
    let handles = map handle_of hs in
    let number : List ℕ → ℕ = λ name. count_by (has_type name) handles in
    let table = c.loop-handle.table in
    let es = table.entries in
    let all = take_all c.loop-handle.handle-index hs c.loop-handle-test.false in
    let ordered = c.loop-handle.invariant.ordered in
    let placed = λ (i : ℕ) (d : Text × ℕ) (within : i < length es).
    let e = get_or es i d in
    ap (λ o. unwrap_or o 0) (sym (btree_map_get_place (on_total (λ (k : Text). k.now) nat_list_cmp_total) table i e.0 e.1 ordered (slice_get-get_or es i d within)))
    ∙ c.loop-handle.invariant.counted e.0.now ∙ ap (count_by (λ h. has_type e.0.now (handle_of h))) all ∙ counted (has_type e.0.now) handle_of hs in
    let keys : BTreeSet (List ℕ) = record { keys = map (λ e. e.0.now) es } in
    let names = keys_ascend (slice_cmp nat_cmp) nat_list_cmp_total exact_bytes (type_names handles) keys (
      λ q.
          let found = is_at (λ (k : Text). slice_cmp nat_cmp q k.now) in
          any_mapped (is_at (slice_cmp nat_cmp q)) (λ e. e.0.now) es ∙ sym (is_some-lookup found es ∙ any_mapped found (λ e. e.0) es) ∙ c.loop-handle.invariant.present q
          ∙ ap (list_any (λ h. has_type q (handle_of h))) all ∙ sym (any_named q hs),
      rises es ordered,
    ) in
    one_table (slice_cmp nat_cmp) nat_list_cmp_total exact_bytes kind_by (λ e. e.0.now) (λ e. e.1) number (type_names handles) es names placed
