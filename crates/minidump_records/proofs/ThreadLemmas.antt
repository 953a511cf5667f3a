-- The names of threads in a sorted map, and the last of each.
use mir.Val.{bool_byte}
use Rattle.std.proofs.Common.{◌≡◌, ◌≢◌, ℕ, ◌+◌, ◌<◌, ◌≤◌, cond, Bool, true, false, List, [], ◌∷◌, ◌++◌, map, Option, Some, None, refl, ap, sym, ◌∙◌, arith}
use Rattle.std.proofs.Common.{get_or, length, take}
use Rattle.std.proofs.Common.{append_assoc, append-nil}
use Rattle.std.specs.Prelude.{◌==◌, All, count_by}
use Rattle.std.specs.BTreeMap.{BTreeMap, IsOrdered, Updates, get, is_at}
use Rattle.std.specs.List.{AllZip}
use Rattle.std.specs.Map.{lookup}
use Rattle.std.specs.Option.{option_map}
use Rattle.std.specs.Ordering.{nat_cmp}
use Rattle.std.proofs.lemmas.Bool.{eq-eqb, ne_eqb}
use Rattle.std.proofs.lemmas.List.{reverse-append}
use Rattle.std.proofs.lemmas.List.Elements.{All-head, All-tail}
use Rattle.std.proofs.lemmas.List.Sums.{sum_by_more}
use Rattle.std.proofs.lemmas.Map.Made.{lookup-map_values}
use Rattle.minidump_records.specs.declared.thread_info.MinidumpThreadInfo.{MinidumpThreadInfo}
use Rattle.minidump_records.specs.ThreadInfo.{last_info}
use Rattle.minidump_records.specs.ThreadNames.{ThreadName, last_name, last_name_of_each_thread, name_of_thread}
use Rattle.minidump_bytes.proofs.KeyLemmas.{at_is_equal, entries_by_key, keys_of-map, lookup_by_key, lookup_number}

-- one name more is the last of its own thread, and changes the last name of no other
pub last_name-more : (names : List ThreadName) (n : ThreadName) (id : ℕ) → last_name (names ++ n ∷ []) id ≡ cond (n.0 == id) (Some n.1) (last_name names id)
last_name-more names n id = rw (reverse-append names (n ∷ [])) refl

-- names of other threads change nothing
last_name-others : (id : ℕ) (later names : List ThreadName) → All (λ n. n.0 ≢ id) later → last_name (names ++ later) id ≡ last_name names id
last_name-others id [] names others = rw append-nil refl
last_name-others id (n ∷ later) names others =
    let other : (n.0 == id) ≡ false = ne_eqb n.0 id (All-head (λ x. x.0 ≢ id) n later others) in
    ap (λ l. last_name l id) (sym (append_assoc names (n ∷ []) later))
    ∙ last_name-others id later (names ++ n ∷ []) (All-tail (λ x. x.0 ≢ id) n later others)
    ∙ last_name-more names n id ∙ rw other refl

-- the last name of a thread is found among the last names
pub last_name-found : (limit : ℕ) (before later : List ThreadName) (n : ThreadName) → n.0 < limit → All (λ x. x.0 ≢ n.0) later
    → name_of_thread (last_name_of_each_thread limit (before ++ (n ∷ later))) n.0 ≡ Some n.1
unfolding last_name_of_each_thread
last_name-found limit before later n small others =
    lookup_by_key (last_name (before ++ (n ∷ later))) limit 0 n.0 (omega arith) (omega (arith, small))
    ∙ ap (λ l. last_name l n.0) (sym (append_assoc before (n ∷ []) later))
    ∙ last_name-others n.0 later (before ++ n ∷ []) others
    ∙ last_name-more before n n.0 ∙ rw (eq-eqb n.0 n.0 refl) refl

-- and none is, where all names are of other threads
pub last_name-none : (limit : ℕ) (names : List ThreadName) (id : ℕ) → id < limit → All (λ x. x.0 ≢ id) names → name_of_thread (last_name_of_each_thread limit names) id ≡ None
unfolding last_name_of_each_thread
last_name-none limit names id small others = lookup_by_key (last_name names) limit 0 id (omega arith) (omega arith) ∙ last_name-others id names [] others

-- information of other threads changes nothing
last_info-others : (id : ℕ) (later infos : List MinidumpThreadInfo) → All (λ i. i.raw.thread_id ≢ id) later → last_info (infos ++ later) id ≡ last_info infos id
last_info-others id [] infos others = rw append-nil refl
last_info-others id (i ∷ later) infos others =
    let other : (i.raw.thread_id == id) ≡ false = ne_eqb i.raw.thread_id id (All-head (λ x. x.raw.thread_id ≢ id) i later others) in
    ap (λ l. last_info l id) (sym (append_assoc infos (i ∷ []) later))
    ∙ last_info-others id later (infos ++ i ∷ []) (All-tail (λ x. x.raw.thread_id ≢ id) i later others)
    ∙ rw (reverse-append infos (i ∷ []), other) refl

-- the last information of a thread is found
pub last_info-found : (before later : List MinidumpThreadInfo) (i : MinidumpThreadInfo) → All (λ x. x.raw.thread_id ≢ i.raw.thread_id) later
    → last_info (before ++ (i ∷ later)) i.raw.thread_id ≡ Some i
last_info-found before later i others =
    ap (λ l. last_info l i.raw.thread_id) (sym (append_assoc before (i ∷ []) later))
    ∙ last_info-others i.raw.thread_id later (before ++ i ∷ []) others
    ∙ rw (reverse-append before (i ∷ []), eq-eqb i.raw.thread_id i.raw.thread_id refl) refl

-- and none is, where all information is of other threads
pub last_info-none : (infos : List MinidumpThreadInfo) (id : ℕ) → All (λ i. i.raw.thread_id ≢ id) infos → last_info infos id ≡ None
last_info-none infos id others = last_info-others id infos [] others

-- clones of entries have the same names
pub same_texts : {X : Type 0} (text : X → List ℕ) (es fs : List (ℕ × X)) → AllZip (λ e f. (f.0 ≡ e.0) × (text f.1 ≡ text e.1)) es fs
    → map {B = ThreadName} (λ e. (e.0, text e.1)) fs ≡ map (λ e. (e.0, text e.1)) es
same_texts text [] [] h = refl
same_texts text [] (f ∷ fs) h = absurd h
same_texts text (e ∷ es) [] h = absurd h
same_texts text (e ∷ es) (f ∷ fs) h = rw (h.0.0, h.0.1, same_texts text es fs h.1) refl

module _ {X : Type 0} (text : X → List ℕ) (limit : ℕ) where
  text_put : (b : Bool) (x : X) (o : Option X) → option_map text (cond b (Some x) o) ≡ cond b (Some (text x)) (option_map text o)
  text_put true x o = refl
  text_put false x o = refl

  -- a map has the last of some names, at ids below a limit
  pub record HasLast (m : BTreeMap ℕ X) (names : List ThreadName) : Type 0 where
    pub at : (t : ℕ) → option_map text (get nat_cmp m t) ≡ last_name names t
    pub small : (t : ℕ) → limit ≤ t → get nat_cmp m t ≡ None
    pub ordered : IsOrdered nat_cmp m

  pub has_none : (m : BTreeMap ℕ X) → m.entries ≡ [] → IsOrdered nat_cmp m → HasLast m []
  has_none m none ordered = record { at = λ t. rw none refl; small = λ t l. rw none refl; ordered = ordered }

  -- it has them after one name more, if that one is put in at its thread
  pub has_more : (m n : BTreeMap ℕ X) (names : List ThreadName) (id : ℕ) (x : X) → HasLast m names → id < limit
      → Updates nat_cmp m n id (Some x) → IsOrdered nat_cmp n → HasLast n (names ++ (id, text x) ∷ [])
  has_more m n names id x before small update ordered = record {
    at = λ t. ap (option_map text) (update.0 t ∙ rw (at_is_equal id t) refl)
        ∙ text_put (id == t) x (get nat_cmp m t) ∙ ap (cond (id == t) (Some (text x))) (before.at t) ∙ sym (last_name-more names (id, text x) t);
    small = λ t large.
        let other : is_at (nat_cmp id) t ≡ false = at_is_equal id t ∙ ne_eqb id t (λ same. omega arith) in
        update.0 t ∙ rw (other, before.small t large) refl;
    ordered = ordered;
  }

  pub has_all : (m : BTreeMap ℕ X) (names : List ThreadName) → HasLast m names → map {B = ThreadName} (λ e. (e.0, text e.1)) m.entries ≡ last_name_of_each_thread limit names
  unfolding last_name_of_each_thread
  has_all m names h =
      let es : List ThreadName = map (λ e. (e.0, text e.1)) m.entries in
      let at : (t : ℕ) → lookup (λ k. k == t) es ≡ option_map text (get nat_cmp m t) =
      λ t. lookup-map_values text (λ k. k == t) m.entries ∙ ap (option_map text) (sym (lookup_number t m.entries)) in
      entries_by_key (last_name names) limit 0 es (rw (keys_of-map text m.entries) h.ordered)
      (λ t l. sym (at t ∙ h.at t))
      (λ t l. absurd (omega arith))
      (λ t l. at t ∙ rw (h.small t (omega (arith, l))) refl)

-- a look-up in a map finds the name that a look-up among its names does
pub name_found : {X : Type 0} (text : X → List ℕ) (m : BTreeMap ℕ X) (id : ℕ)
    → name_of_thread (map (λ e. (e.0, text e.1)) m.entries) id ≡ option_map text (get nat_cmp m id)
name_found text m id = lookup-map_values text (λ k. k == id) m.entries ∙ ap (option_map text) (sym (lookup_number id m.entries))

-- ---- names that are no text

as_byte : (b : Bool) → cond b 1 0 ≡ bool_byte b
as_byte true = refl
as_byte false = refl

pub at_most_one : (b : Bool) → bool_byte b ≤ 1
at_most_one true = omega arith
at_most_one false = omega arith

-- one entry more counts, if it passes the test
pub counted_more : {R : Type 0} (p : R → Bool) (xs : List R) (i : ℕ) (x : R) (passes : Bool) → i < length xs → get_or xs i x ≡ x → p x ≡ passes
    → count_by p (take (i + 1) xs) ≡ count_by p (take i xs) + bool_byte passes
counted_more p xs i x passes inside item is =
    sum_by_more (λ y. cond (p y) 1 0) xs i x inside
    ∙ ap (λ b. count_by p (take i xs) + cond b 1 0) (ap p item ∙ is)
    ∙ ap (λ n. count_by p (take i xs) + n) (as_byte passes)
