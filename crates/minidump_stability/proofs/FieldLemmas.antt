-- The fields of bytes are those that they spell.
use Rattle.std.proofs.Common.{◌≡◌, ◌↔◌, ℕ, ◌<◌, List, [], ◌∷◌, ◌++◌, length, arith, refl, ap, sym, subst}
use Rattle.std.proofs.Common.{inl, inr, ◌∙◌, append-nil, append_assoc, length-append}
use Rattle.std.specs.Prelude.{◌⊎◌, Option, Some, None, Result, MatchResult}
use Rattle.std.specs.List.{concat, flat_map}
use Rattle.std.specs.Option.{ok_or, option_and_then, option_map, option_or}
use Rattle.minidump_bytes.specs.Wire.{Field, SpellsField, SpellsFields, field_in}
use Rattle.minidump_bytes.proofs.WireFieldLemmas.{field_gives, field_long, field_some, one_list}
use Rattle.minidump_format.specs.declared.error.Error.{Error}
use Rattle.minidump_format.specs.declared.error.Error.TheVariants.{DataError}
use Rattle.minidump_stability.specs.Fields.{cuts, each, field_of_piece, fields_in, first, whole, with_byte}
use Rattle.minidump_stability.specs.StabilityReport.{Report, report, stability_report_in}

some_is : {A : Type 0} (x y : A) → Some x ≡ Some y → x ≡ y
some_is x y h = cc

-- ---- items of a list
abbrev Has : {A : Type 0} → List A → A → Type 0
Has [] x = ⊥
Has (y ∷ ys) x = (y ≡ x) ⊎ Has ys x

has_left : {A : Type 0} (xs ys : List A) (x : A) → Has xs x → Has (xs ++ ys) x
has_left [] ys x h = absurd h
has_left (z ∷ zs) ys x h = elim h [ inl same ↦ inl same | inr more ↦ inr (has_left zs ys x more) ]

has_right : {A : Type 0} (xs ys : List A) (x : A) → Has ys x → Has (xs ++ ys) x
has_right [] ys x h = h
has_right (z ∷ zs) ys x h = inr (has_right zs ys x h)

has_either : {A : Type 0} (xs ys : List A) (x : A) → Has (xs ++ ys) x → Has xs x ⊎ Has ys x
has_either [] ys x h = inr h
has_either (z ∷ zs) ys x h = elim h [
  | inl same ↦ inl (inl same)
  | inr more ↦ elim (has_either zs ys x more) [ inl a ↦ inl (inr a) | inr b ↦ inr b ]
]

module _ {A B : Type 0} (f : A → List B) where
  has_flat : (xs : List A) (x : A) (y : B) → Has xs x → Has (f x) y → Has (flat_map f xs) y
  has_flat [] x y h k = absurd h
  has_flat (z ∷ zs) x y h k = elim h [
    | inl same ↦ has_left (f z) (flat_map f zs) y (rw same k)
    | inr more ↦ has_right (f z) (flat_map f zs) y (has_flat zs x y more k)
  ]

  flat_has : (xs : List A) (y : B) → Has (flat_map f xs) y → (x : A) × Has xs x × Has (f x) y
  flat_has [] y h = absurd h
  flat_has (z ∷ zs) y h = elim (has_either (f z) (flat_map f zs) y h) [
    | inl here ↦ (z, inl refl, here)
    | inr there ↦ let m = flat_has zs y there in (m.0, inr m.1, m.2)
  ]

module _ {A B : Type 0} (value : A → Option B) where
  abbrev IsFirst : List A → B → Type 0
  IsFirst xs y = (x : A) × Has xs x × (value x ≡ Some y)

  first_by : (x : A) (xs : List A) (y : B) (o : Option B) → value x ≡ o → (first value xs ≡ Some y → IsFirst xs y) → option_or o (first value xs) ≡ Some y
      → IsFirst (x ∷ xs) y
  first_by x xs y None is more h = let m = more h in (m.0, inr m.1, m.2)
  first_by x xs y (Some z) is more h = (x, inl refl, is ∙ h)

  -- a first value is one of an item
  first_is : (xs : List A) (y : B) → first value xs ≡ Some y → IsFirst xs y
  first_is [] y h = (let k : None ≡ Some y = h in cc)
  first_is (x ∷ xs) y h = first_by x xs y (value x) refl (first_is xs y) h

  either_some : (o p : Option B) (y : B) → p ≡ Some y → (z : B) × (option_or o p ≡ Some z)
  either_some None p y h = (y, h)
  either_some (Some z) p y h = (z, refl)

  -- if an item has a value, there is a first
  is_first : (xs : List A) (x : A) (y : B) → Has xs x → value x ≡ Some y → (z : B) × (first value xs ≡ Some z)
  is_first [] x y h is = absurd h
  is_first (w ∷ ws) x y h is = elim h [
    | inl same ↦ (y, rw (same, is) refl)
    | inr more ↦ let m = is_first ws x y more is in either_some (value w) (first value ws) m.0 m.1
  ]

-- ---- cuts
joined_by : (b : ℕ) (pieces cut : List (List ℕ)) → Has (with_byte b pieces) cut → concat cut ≡ b ∷ concat pieces
joined_by b [] cut h = elim h [ inl same ↦ rw (← same) refl | inr none ↦ absurd none ]
joined_by b (p ∷ ps) cut h = elim h [
  | inl same ↦ rw (← same) refl
  | inr more ↦ elim more [ inl same ↦ rw (← same) refl | inr none ↦ absurd none ]
]

-- the pieces of a cut are the bytes
joined : (bytes : List ℕ) (cut : List (List ℕ)) → Has (cuts bytes) cut → concat cut ≡ bytes
unfolding cuts
joined [] cut h = elim h [ inl same ↦ rw (← same) refl | inr none ↦ absurd none ]
joined (b ∷ bs) cut h =
    let m = flat_has (with_byte b) (cuts bs) cut h in joined_by b m.0 cut m.2 ∙ ap (λ l. b ∷ l) (joined bs m.0 m.1)

alone : (b : ℕ) (cut : List (List ℕ)) → Has (with_byte b cut) ((b ∷ []) ∷ cut)
alone b [] = inl refl
alone b (p ∷ ps) = inl refl

-- a piece before a cut
cut_before : (piece bytes : List ℕ) (cut : List (List ℕ)) → 0 < length piece → Has (cuts bytes) cut → Has (cuts (piece ++ bytes)) (piece ∷ cut)
unfolding cuts
cut_before [] bytes cut some h = absurd (omega (arith, some))
cut_before (b ∷ []) bytes cut some h = has_flat (with_byte b) (cuts bytes) cut ((b ∷ []) ∷ cut) h (alone b cut)
cut_before (b ∷ c ∷ cs) bytes cut some h =
    has_flat (with_byte b) (cuts (c ∷ cs ++ bytes)) ((c ∷ cs) ∷ cut) ((b ∷ c ∷ cs) ∷ cut) (cut_before (c ∷ cs) bytes cut (omega arith) h) (inr (inl refl))

-- ---- pieces
abbrev found : Field → List ℕ → Field × List ℕ
found f rest = (f, rest)

-- a field at the front of bytes, with nothing after it
whole_by : (piece : List ℕ) (f g : Field) (rest : List ℕ) → field_in piece ≡ Some (found g rest) → whole (found g rest) ≡ Some f → SpellsField piece f
whole_by piece f g [] is h =
    let there = field_gives piece g [] is in
    let all : there.0 ≡ piece = sym (there.2 ∙ append-nil there.0) in
    subst (λ l. SpellsField l f) all (subst (SpellsField there.0) (some_is g f h) there.1)
whole_by piece f g (b ∷ bs) is h = (let k : None ≡ Some f = h in cc)

piece_by : (piece : List ℕ) (f : Field) (o : Option (Field × List ℕ)) → field_in piece ≡ o → option_and_then whole o ≡ Some f → SpellsField piece f
piece_by piece f None is h = (let k : None ≡ Some f = h in cc)
piece_by piece f (Some r) is h = whole_by piece f r.0 r.1 is h

piece_spells : (piece : List ℕ) (f : Field) → field_of_piece piece ≡ Some f → SpellsField piece f
unfolding field_of_piece
piece_spells piece f h = piece_by piece f (field_in piece) refl h

spelled_piece : (piece : List ℕ) (f : Field) → SpellsField piece f → field_of_piece piece ≡ Some f
unfolding field_of_piece
spelled_piece piece f s = rw (rw (append-nil piece) at (field_some piece [] f s)) refl

-- ---- the fields of a cut are spelled
abbrev fields_of : List (List ℕ) → Option (List Field)
fields_of cut = each field_of_piece cut

cut_by : (piece : List ℕ) (pieces : List (List ℕ)) (fs : List Field) (o : Option Field) (p : Option (List Field)) → field_of_piece piece ≡ o
    → ((gs : List Field) → p ≡ Some gs → SpellsFields (concat pieces) gs) → option_and_then (λ y. option_map (λ ys. y ∷ ys) p) o ≡ Some fs
    → SpellsFields (piece ++ concat pieces) fs
cut_by piece pieces fs None p is more h = (let k : None ≡ Some fs = h in cc)
cut_by piece pieces fs (Some f) None is more h = (let k : None ≡ Some fs = h in cc)
cut_by piece pieces fs (Some f) (Some gs) is more h =
    subst (SpellsFields (piece ++ concat pieces)) (some_is (f ∷ gs) fs h) (piece, concat pieces, refl, piece_spells piece f is, more gs refl)

cut_spells : (cut : List (List ℕ)) (fs : List Field) → fields_of cut ≡ Some fs → SpellsFields (concat cut) fs
cut_spells [] fs h = subst (SpellsFields []) (some_is [] fs h) refl
cut_spells (piece ∷ pieces) fs h =
    cut_by piece pieces fs (field_of_piece piece) (fields_of pieces) refl (λ gs e. cut_spells pieces gs e) h

-- the cut of spelled fields
abbrev IsCutInto : List ℕ → List Field → Type 0
IsCutInto bytes fs = (cut : List (List ℕ)) × Has (cuts bytes) cut × (fields_of cut ≡ Some fs)

nothing : (bytes : List ℕ) → bytes ≡ [] → IsCutInto bytes []
unfolding cuts
nothing bytes none = rw none ([], inl refl, refl)

spelled_cut : (bytes : List ℕ) (fs : List Field) → SpellsFields bytes fs → IsCutInto bytes fs
spelled_cut bytes [] s = nothing bytes s
spelled_cut bytes (f ∷ fs) (front, back, parts, s, more) =
    let m = spelled_cut back fs more in
    rw parts (front ∷ m.0, cut_before front back m.0 (field_long front f s) m.1, rw (spelled_piece front f s, m.2) refl)

pub fields_are_spelled : (bytes : List ℕ) (fs : List Field) → (fields_in bytes ≡ Some fs) ↔ SpellsFields bytes fs
unfolding fields_in
fields_are_spelled bytes fs = (
  (λ h. let m = first_is fields_of (cuts bytes) fs h in subst (λ l. SpellsFields l fs) (joined bytes m.0 m.1) (cut_spells m.0 fs m.2)),
  (λ s.
      let m = spelled_cut bytes fs s in
      let one = is_first fields_of (cuts bytes) m.0 fs m.1 m.2 in
      let is = first_is fields_of (cuts bytes) one.0 one.1 in
      let other : SpellsFields bytes one.0 = subst (λ l. SpellsFields l one.0) (joined bytes is.0 is.1) (cut_spells is.0 one.0 is.2) in
      one.1 ∙ ap Some (one_list bytes one.0 fs other s)),
)

-- ---- fields at the front of others
-- bytes that are left begin with the first of their fields
pub first_field : (bytes : List ℕ) (fs : List Field) → 0 < length bytes → SpellsFields bytes fs
    → (f : Field) × (more : List Field) × (rest : List ℕ) × (fs ≡ f ∷ more) × (field_in bytes ≡ Some (found f rest))
first_field bytes [] some s = absurd (omega (arith, some, ap length s))
first_field bytes (f ∷ fs) some (front, back, parts, s, more) = (f, fs, back, refl, ap field_in parts ∙ field_some front back f s)

abbrev Begins : List Field → List ℕ → List Field → Type 0
Begins fs back gs = (hs : List Field) × (gs ≡ fs ++ hs) × SpellsFields back hs

after_one : (a rest back : List ℕ) (f : Field) (fs gs : List Field) → SpellsField a f → ((hs : List Field) → SpellsFields rest hs → Begins fs back hs)
    → SpellsFields (a ++ rest) gs → Begins (f ∷ fs) back gs
after_one a rest back f fs [] s more t = absurd (omega (arith, field_long a f s, ap length t, length-append a rest))
after_one a rest back f fs (g ∷ gs) s more (c, d, other, u, others) =
    let same : Some (found f rest) ≡ Some (found g d) = sym (field_some a rest f s) ∙ ap field_in other ∙ field_some c d g u in
    let p : found f rest ≡ found g d = cc in
    let head : f ≡ g = ap (λ r. r.0) p in
    let tail : d ≡ rest = sym (ap (λ r. r.1) p) in
    let m = more gs (subst (λ l. SpellsFields l gs) tail others) in
    (m.0, ap (λ x. x ∷ gs) (sym head) ∙ ap (λ l. f ∷ l) m.1, m.2)

-- fields that the front of bytes spells are the first that all of them spell
pub after_fields : (front back : List ℕ) (fs gs : List Field) → SpellsFields front fs → SpellsFields (front ++ back) gs
    → (hs : List Field) × (gs ≡ fs ++ hs) × SpellsFields back hs
after_fields front back [] gs none t = (gs, refl, subst (λ l. SpellsFields (l ++ back) gs) none t)
after_fields front back (f ∷ fs) gs (a, b, parts, s, more) t =
    let all : front ++ back ≡ a ++ (b ++ back) = ap (λ l. l ++ back) parts ∙ append_assoc a b back in
    after_one a (b ++ back) back f fs gs s (λ hs u. after_fields b back fs hs more u) (subst (λ l. SpellsFields l gs) all t)

-- ---- a report is of the fields that are spelled
Holds : List ℕ → Result Report Error → Type 0
Holds bytes answer =
    MatchResult answer (λ r. (fs : List Field) × SpellsFields bytes fs × (report fs ≡ Some r))
    (λ e. (e ≡ DataError) × ((fs : List Field) → SpellsFields bytes fs → report fs ≡ None))

holds_by : (bytes : List ℕ) (fs : List Field) (r : Option Report) → fields_in bytes ≡ Some fs → report fs ≡ r → Holds bytes (ok_or r DataError)
unfolding Holds
holds_by bytes fs None is means = (refl, (λ gs s. let same : gs ≡ fs = some_is gs fs (sym ((fields_are_spelled bytes gs).1 s) ∙ is) in rw same means))
holds_by bytes fs (Some r) is means = (fs, (fields_are_spelled bytes fs).0 is, means)

holds_in : (bytes : List ℕ) (o : Option (List Field)) → fields_in bytes ≡ o → Holds bytes (ok_or (option_and_then report o) DataError)
unfolding Holds
holds_in bytes None is = (refl, (λ gs s. absurd (let k : None ≡ Some gs = sym is ∙ (fields_are_spelled bytes gs).1 s in cc)))
holds_in bytes (Some fs) is = holds_by bytes fs (report fs) is refl

pub stream_holds_report : (bytes : List ℕ)
    → MatchResult (stability_report_in bytes) (λ r. (fs : List Field) × SpellsFields bytes fs × (report fs ≡ Some r))
    (λ e. (e ≡ DataError) × ((fs : List Field) → SpellsFields bytes fs → report fs ≡ None))
unfolding Holds
stream_holds_report bytes = holds_in bytes (fields_in bytes) refl
