-- What a scan finds: of candidates with one return address the first.
use Rattle.std.proofs.Common.{◌≡◌, ◌∙◌, ◌⊎◌, inl, inr, ℕ, zero, suc, ◌+◌, ◌<◌, ◌≤◌, List, [], ◌∷◌, ◌++◌, length, map, take, Bool, true, false, Option, Some, None}
use Rattle.std.proofs.Common.{refl, ap, append-nil, append_assoc, get_or, sym, arith}
use Rattle.std.specs.Prelude.{All, Contains, ◌≢◌, ◌==◌, ◌||◌, not}
use Rattle.std.specs.List.{AllPairs, IsDistinct, cons_option, filter, filter_map, fold, list_any, range_with_len}
use Rattle.std.proofs.lemmas.Bool.{cases_lt}
use Rattle.std.proofs.lemmas.Bool.Decides.{Decides-eqb, nat_tests}
use Rattle.std.proofs.lemmas.Grind.{common_steps}
use Rattle.std.proofs.lemmas.List.{get_or-map, get_or-take, length-map, length-take, map-id, take-append-le, take_all}
use Rattle.std.proofs.lemmas.List.Elements.{All-cons, All-filter, All-head, All-nil, All-tail, All-weaker, filter-append, filter_map-append, filter_passes}
use Rattle.std.proofs.lemmas.List.Filters.{length-filter_both}
use Rattle.std.proofs.lemmas.List.FromFn.{map-range_with_len_more}
use Rattle.std.proofs.lemmas.List.Kept.{AllPairs-cons, AllPairs-filter}
use Rattle.std.proofs.lemmas.Map.Made.{IsDistinct-from_AllPairs}
use Rattle.std.proofs.lemmas.Map.Views.{any-filter_same}
use Rattle.stack_walk.specs.declared.frame.FrameTrust.TheVariants.{Link}
use Rattle.stack_walk.specs.declared.frame.StackFrame.{StackFrame}
use Rattle.stack_walk.specs.Found.{has_word, up_to}
use Rattle.stack_walk.specs.Frames.{StackValue, firsts, word_candidate, word_candidates}

-- ---- of frames with one return address the first

-- whether a frame has another return address than these frames
abbrev is_new : List StackFrame → StackFrame → Bool
is_new fs g = not (has_word fs g.instruction)

-- whether a frame has another return address than this one
abbrev differs : StackFrame → StackFrame → Bool
differs f g = not (f.instruction == g.instruction)

neither : {X : Type 0} (p q : X → Bool) (xs : List X) → filter (λ x. not (p x)) (filter (λ x. not (q x)) xs) ≡ filter (λ x. not (p x || q x)) xs
neither p q [] = refl
neither p q (x ∷ xs) = grind (arith, neither p q xs)

all_pass : {X : Type 0} (xs : List X) → xs ≡ filter (λ x. true) xs
all_pass [] = refl
all_pass (x ∷ xs) = ap (λ ys. x ∷ ys) (all_pass xs)

-- those of two lists: of the second those that are new
firsts_append : (fs gs : List StackFrame) → firsts (fs ++ gs) ≡ firsts fs ++ filter (is_new fs) (firsts gs)
firsts_append [] gs = all_pass (firsts gs)
firsts_append (f ∷ fs) gs =
    let same = neither (λ (g : StackFrame). f.instruction == g.instruction) (λ (g : StackFrame). has_word fs g.instruction) (firsts gs) in
    rw (firsts_append fs gs, filter-append (differs f) (firsts fs)) (ap (λ (hs : List StackFrame). f ∷ (filter (differs f) (firsts fs) ++ hs)) same)

-- they have all return addresses
pub has_firsts : (fs : List StackFrame) (word : ℕ) → has_word (firsts fs) word ≡ has_word fs word
has_firsts [] word = refl
has_firsts (f ∷ fs) word =
    let others = any-filter_same (λ (g : StackFrame). g.instruction == word) (differs f) (not (f.instruction == word)) (λ g same. grind (arith, nat_tests))
    (firsts fs) in
    grind (arith, others, has_firsts fs word)

pub length-firsts : (fs : List StackFrame) → length (firsts fs) ≤ length fs
length-firsts [] = omega arith
length-firsts (f ∷ fs) = omega (arith, length-firsts fs, length-filter_both (differs f) (λ g. not (differs f g)) (λ g. refl) (firsts fs))

-- all that holds of each
pub All-firsts : (P : StackFrame → Type 0) (fs : List StackFrame) → All P fs → All P (firsts fs)
All-firsts P [] all = all
All-firsts P (f ∷ fs) all =
    All-cons P f (filter (differs f) (firsts fs)) (All-head P f fs all) (All-filter (differs f) P (firsts fs) (All-firsts P fs (All-tail P f fs all)))

-- ---- return addresses

-- the return addresses of frames
abbrev pub words_of : List StackFrame → List ℕ
words_of fs = map (λ (f : StackFrame). f.instruction) fs

-- no two frames have the same
apart : (fs : List StackFrame) → AllPairs (λ (f g : StackFrame). f.instruction ≢ g.instruction) (firsts fs)
apart [] = λ i j d lt within. absurd (omega arith)
apart (f ∷ fs) =
    let Differ : StackFrame → StackFrame → Type 0 = λ g h. g.instruction ≢ h.instruction in
    AllPairs-cons Differ f (filter (differs f) (firsts fs))
    (All-weaker (λ g. differs f g ≡ true) (Differ f) (λ g is same. grind (arith, nat_tests)) (filter (differs f) (firsts fs)) (filter_passes (differs f) (firsts fs)))
    (AllPairs-filter Differ (differs f) (firsts fs) (apart fs))

-- none is there twice
pub distinct_firsts : (limit : ℕ) (fs : List StackFrame) → IsDistinct ◌==◌ (words_of (take limit (firsts fs)))
distinct_firsts limit fs =
    let frames = take limit (firsts fs) in
    let len = length-take limit (firsts fs) in
    IsDistinct-from_AllPairs Decides-eqb (words_of frames) (λ i j d lt within same.
    let e : StackFrame = record { instruction = d; stack_pointer = 0; frame_pointer = None; trust = Link } in
    let few : j < length frames = omega (arith, length-map frames (λ (f : StackFrame). f.instruction)) in
    let at : (k : ℕ) → k < length frames → get_or (words_of frames) k d ≡ (get_or (firsts fs) k e).instruction =
    λ k less. get_or-map (λ (f : StackFrame). f.instruction) frames k e d less ∙ ap (λ (f : StackFrame). f.instruction) (get_or-take limit (firsts fs) k e (omega (arith, len)))
    in
    apart fs i j e lt (omega (arith, len)) (sym (at i (omega arith)) ∙ same ∙ at j few))

-- and none is left out
pub word_there : (fs : List StackFrame) (word : ℕ) → has_word fs word ≡ true → Contains (words_of fs) word
word_there [] word is = cc
word_there (f ∷ fs) word is = by (word == f.instruction) refl (word_there fs word)
  where
    by : (b : Bool) → (word == f.instruction) ≡ b → (has_word fs word ≡ true → Contains (words_of fs) word) → Contains (words_of (f ∷ fs)) word
    by true here rest = (0, omega arith, grind (arith, nat_tests))
    by false other rest = (let c = rest (grind arith) in (suc c.0, omega arith, c.2))

-- ---- the candidates of words

added : (limit : ℕ) (fs : List StackFrame) (o : Option StackFrame)
    → fold (up_to limit) (take limit (firsts fs)) (cons_option o []) ≡ take limit (firsts (fs ++ cons_option o []))
added limit fs None = rw append-nil refl
added limit fs (Some f) = rw (firsts_append fs (f ∷ [])) (by (cases_lt (length (firsts fs)) limit))
  where
    by : (length (firsts fs) < limit) ⊎ (limit ≤ length (firsts fs))
        → up_to limit (take limit (firsts fs)) f ≡ take limit (firsts fs ++ filter (is_new fs) (f ∷ []))
    by (inl more) =
        let all = take_all limit (firsts fs) (omega arith) in
        let one = take_all limit (firsts fs ++ f ∷ []) (grind (arith, common_steps)) in
        rw all (grind (arith, nat_tests, has_firsts fs f.instruction, append-nil (firsts fs), all, one))
    by (inr enough) = rw (take-append-le limit (firsts fs) (filter (is_new fs) (f ∷ [])) enough) (grind (arith, nat_tests, length-take limit (firsts fs)))

-- a candidate more
pub one_found : (limit : ℕ) (fs now new : List StackFrame) (o : Option StackFrame) → now ≡ take limit (firsts fs)
    → new ≡ fold (up_to limit) now (cons_option o []) → new ≡ take limit (firsts (fs ++ cons_option o []))
one_found limit fs now new o was is = is ∙ ap (λ (gs : List StackFrame). fold (up_to limit) gs (cons_option o [])) was ∙ added limit fs o

-- the candidates of a word more
words_next : (s : StackValue) (before : List StackFrame) (a n : ℕ)
    → (before ++ word_candidates s (a, n)) ++ cons_option (word_candidate s (a + n)) [] ≡ before ++ word_candidates s (a, n + 1)
words_next s before a n =
    let range : range_with_len a (n + 1) ≡ range_with_len a n ++ (a + n) ∷ [] = simp map-id at (map-range_with_len_more (λ k. k) a n (a + n) refl) in
    rw (append_assoc, range, filter_map-append) refl

pub words_more : (s : StackValue) (limit : ℕ) (before : List StackFrame) (a n : ℕ) (now new : List StackFrame) (o : Option StackFrame)
    → o ≡ word_candidate s (a + n) → now ≡ take limit (firsts (before ++ word_candidates s (a, n))) → new ≡ fold (up_to limit) now (cons_option o [])
    → new ≡ take limit (firsts (before ++ word_candidates s (a, n + 1)))
words_more s limit before a n now new o is was more =
    one_found limit (before ++ word_candidates s (a, n)) now new o was more
    ∙ ap (λ (gs : List StackFrame). take limit (firsts gs)) (rw is (words_next s before a n))

-- as many as the limit stay as they are
full : (limit : ℕ) (now : List StackFrame) (o : Option StackFrame) → limit ≤ length now → now ≡ fold (up_to limit) now (cons_option o [])
full limit now None enough = refl
full limit now (Some f) enough = grind (arith, nat_tests)

pub words_enough : (s : StackValue) (limit : ℕ) (before : List StackFrame) (a n k : ℕ) (now : List StackFrame) → limit ≤ length now
    → now ≡ take limit (firsts (before ++ word_candidates s (a, n))) → now ≡ take limit (firsts (before ++ word_candidates s (a, n + k)))
words_enough s limit before a n zero now enough was = (let same : n + 0 ≡ n = omega arith in rw same was)
words_enough s limit before a n (suc k) now enough was =
    let next : n + suc k ≡ n + k + 1 = omega arith in
    let o = word_candidate s (a + (n + k)) in
    rw next (words_more s limit before a (n + k) now now o refl (words_enough s limit before a n k now enough was) (full limit now o enough))

-- ---- what is given of the numbers of a range

pub given : {X : Type 0} (p : X → Bool) (h : ℕ → Option X) (x : X) (n a k : ℕ) → a ≤ k → k < a + n → h k ≡ Some x → p x ≡ true
    → list_any p (filter_map h (range_with_len a n)) ≡ true
given p h x zero a k low high is passes = absurd (omega arith)
given p h x (suc n) a k low high is passes = grind (arith, given p h x n (a + 1) k)

pub few_given : {X Y : Type 0} (h : X → Option Y) (xs : List X) → length (filter_map h xs) ≤ length xs
few_given h [] = omega arith
few_given h (x ∷ xs) = grind (arith, few_given h xs)

pub one_more : {Y : Type 0} (P : Y → Type 0) (o : Option Y) (ys : List Y) → ((y : Y) → o ≡ Some y → P y) → All P ys → All P (cons_option o ys)
one_more P None ys gives rest = rest
one_more P (Some y) ys gives rest = All-cons P y ys (gives y refl) rest

pub all_given : {X Y : Type 0} (P : Y → Type 0) (h : X → Option Y) → ((x : X) (y : Y) → h x ≡ Some y → P y) → (xs : List X) → All P (filter_map h xs)
all_given P h gives [] = All-nil P
all_given P h gives (x ∷ xs) = one_more P (h x) (filter_map h xs) (gives x) (all_given P h gives xs)
