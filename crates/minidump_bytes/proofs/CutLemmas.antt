-- A text that is cut at a byte or after its front, and steps that each find something or nothing.
use Rattle.std.proofs.Common.{◌≡◌, ◌≢◌, ℕ, ◌+◌, Bool, true, false, List, [], ◌∷◌, ◌++◌, length, Option, Some, None, refl, ap, sym, ◌∙◌}
use Rattle.std.proofs.Common.{add-one, drop, one-add, take}
use Rattle.std.specs.Prelude.{◌==◌, if◌then◌else◌}
use Rattle.std.specs.List.{list_any, position_or_len}
use Rattle.std.specs.Option.{option_map}
use Rattle.std.specs.Str.{bytes_eq}
use Rattle.std.proofs.lemmas.Bool.{eq-eqb, eqb-true, false_from_ne_true, ne_eqb}
use Rattle.std.proofs.lemmas.List.{take-append-drop}
use Rattle.std.proofs.Math.Seq.{drop-append_seam, take-append_seam}
use Rattle.std.proofs.lemmas.Slice.Eq.{bytes_eq-Decides}
use Rattle.minidump_bytes.specs.Cut.{IsCut, Lacks, and_then}
use Rattle.minidump_bytes.specs.LinuxOsStr.{after_prefix, cut_first}

-- ---- steps
pub some_same : {A : Type 0} (x y : A) → Some x ≡ Some y → x ≡ y
some_same x y h = cc

pub not_both : {A : Type 0} (o : Option A) (x : A) → o ≡ None → o ≡ Some x → ⊥
not_both o x none some = (let k : None ≡ Some x = sym none ∙ some in cc)

-- if two steps found something, the first did, and the second did from it
pub given : {A B : Type 0} (o : Option A) (f : A → Option B) (y : B) → and_then o f ≡ Some y → (x : A) × (o ≡ Some x) × (f x ≡ Some y)
given None f y h = absurd (let k : None ≡ Some y = h in cc)
given (Some x) f y h = (x, refl, h)

-- if something was found after a test, the test passed
pub passed : {A : Type 0} (t : Bool) (o : Option A) (y : A) → (if t then o else None) ≡ Some y → (t ≡ true) × (o ≡ Some y)
passed true o y h = (refl, h)
passed false o y h = absurd (let k : None ≡ Some y = h in cc)

-- ---- cuts
abbrev chosen : Bool → ℕ → List ℕ → Option (List ℕ × List ℕ) → Option (List ℕ × List ℕ)
chosen t b bs o = if t then Some ([], bs) else option_map (λ p. (b ∷ p.0, p.1)) o

cut_by : (t : Bool) (o : Option (List ℕ × List ℕ)) (byte b : ℕ) (bs front back : List ℕ) → (b == byte) ≡ t
    → ((f g : List ℕ) → o ≡ Some (f, g) → IsCut byte bs f g)
    → chosen t b bs o ≡ Some (front, back) → IsCut byte (b ∷ bs) front back
cut_by true o byte b bs front back is more h =
    let e = some_same {A = List ℕ × List ℕ} ([], bs) (front, back) h in
    let f : [] ≡ front = ap (λ r. r.0) e in
    let g : bs ≡ back = ap (λ r. r.1) e in
    let same : b ≡ byte = eqb-true _ _ is in
    rw (← f, ← g, same) (record { joined = refl; lacks = tt })
cut_by false None byte b bs front back is more h = absurd (let k : None ≡ Some (front, back) = h in cc)
cut_by false (Some (f, g)) byte b bs front back is more h =
    let e = some_same {A = List ℕ × List ℕ} (b ∷ f, g) (front, back) h in
    let p : b ∷ f ≡ front = ap (λ r. r.0) e in
    let q : g ≡ back = ap (λ r. r.1) e in
    let rest = more f g refl in
    rw (← p, ← q) (record { joined = ap (λ l. b ∷ l) rest.joined; lacks = ((λ e. let clash : true ≡ false = sym (eq-eqb b byte e) ∙ is in cc), rest.lacks) })

shifted : (b : ℕ) (bs : List ℕ) (k : ℕ) → (take (1 + k) (b ∷ bs) ≡ b ∷ take k bs) × (drop (1 + k + 1) (b ∷ bs) ≡ drop (k + 1) bs)
shifted b bs k = (rw one-add refl, rw (one-add, add-one, add-one) refl)

later : (t : Bool) (byte b : ℕ) (bs : List ℕ) → list_any (λ c. c == byte) bs ≡ t → (b == byte) ≡ false
    → cut_first byte (b ∷ bs) ≡ option_map (λ p. (b ∷ p.0, p.1)) (cut_first byte bs)
later true byte b bs there is =
    let k = position_or_len (λ c. c == byte) bs in
    rw (is, there, (shifted b bs k).0, (shifted b bs k).1) refl
later false byte b bs there is = rw (is, there) refl

cut_step_by : (t : Bool) (byte b : ℕ) (bs : List ℕ) → (b == byte) ≡ t → cut_first byte (b ∷ bs) ≡ chosen t b bs (cut_first byte bs)
cut_step_by true byte b bs is = rw is refl
cut_step_by false byte b bs is = later (list_any (λ c. c == byte) bs) byte b bs refl is

-- where the first byte is the one that is searched for, the rest is after it; else it goes to the front part
cut_step : (byte b : ℕ) (bs : List ℕ) → cut_first byte (b ∷ bs) ≡ chosen (b == byte) b bs (cut_first byte bs)
cut_step byte b bs = cut_step_by (b == byte) byte b bs refl

pub cut_is : (byte : ℕ) (bytes front back : List ℕ) → cut_first byte bytes ≡ Some (front, back) → IsCut byte bytes front back
cut_is byte [] front back h = absurd (let k : None ≡ Some (front, back) = h in cc)
cut_is byte (b ∷ bs) front back h =
    cut_by (b == byte) (cut_first byte bs) byte b bs front back refl (λ f g e. cut_is byte bs f g e) (sym (cut_step byte b bs) ∙ h)

cut_at : (byte : ℕ) (front back : List ℕ) → Lacks byte front → cut_first byte (front ++ byte ∷ back) ≡ Some (front, back)
cut_at byte [] back h = rw (cut_step byte byte back, eq-eqb byte byte refl) refl
cut_at byte (b ∷ front) back h = rw (cut_step byte b (front ++ byte ∷ back), ne_eqb b byte h.0, cut_at byte front back h.1) refl

pub is_cut : (byte : ℕ) (bytes front back : List ℕ) → IsCut byte bytes front back → cut_first byte bytes ≡ Some (front, back)
is_cut byte bytes front back h = rw h.joined (cut_at byte front back h.lacks)

-- ---- fronts
pub after_prefix_some : (front text rest : List ℕ) → text ≡ front ++ rest → after_prefix front text ≡ Some rest
after_prefix_some front text rest e = rw (e, take-append_seam front rest, (bytes_eq-Decides front front).1 refl, drop-append_seam front rest) refl

pub after_prefix_none : (front text : List ℕ) → ((rest : List ℕ) → text ≢ front ++ rest) → after_prefix front text ≡ None
after_prefix_none front text lacks =
    rw (false_from_ne_true (bytes_eq (take (length front) text) front) (λ t.
    let same = (bytes_eq-Decides (take (length front) text) front).0 t in
    lacks (drop (length front) text) (sym (take-append-drop (length front) text) ∙ ap (λ l. l ++ drop (length front) text) same))) refl

pub after_prefix_is : (front text rest : List ℕ) → after_prefix front text ≡ Some rest → text ≡ front ++ rest
after_prefix_is front text rest h =
    let test = passed (bytes_eq (take (length front) text) front) (Some (drop (length front) text)) rest h in
    let same = (bytes_eq-Decides (take (length front) text) front).0 test.0 in
    let back = some_same (drop (length front) text) rest test.1 in
    sym (take-append-drop (length front) text) ∙ rw (same, back) refl
