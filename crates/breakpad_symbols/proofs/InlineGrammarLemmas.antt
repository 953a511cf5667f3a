-- FILE, INLINE_ORIGIN, INLINE and STACK CFI lines mean what their grammar says.
use Rattle.std.proofs.Common.{◌≡◌, ◌≢◌, ◌↔◌, ◌∙◌, ℕ, Bool, true, false, List, [], ◌∷◌, Option, Some, None, refl, ap, sym}
use Rattle.std.specs.Prelude.{codes, if◌then◌else◌}
use Rattle.std.specs.Option.{option_map}
use Rattle.std.specs.Str.{bytes_eq}
use Rattle.std.proofs.lemmas.Bool.{false_from_ne_true}
use Rattle.std.proofs.lemmas.Slice.Eq.{bytes_eq-Decides}
use Rattle.minidump_bytes.proofs.DigitLemmas.{number_spells, spelled_number}
use Rattle.minidump_bytes.specs.Digits.{number_of_digits}
use Rattle.minidump_bytes.specs.LinuxOsStr.{after_prefix, cut_first, words_of}
use Rattle.breakpad_symbols.specs.declared.inline.InlineCall.{InlineCall}
use Rattle.breakpad_symbols.specs.Cfi.{ChangeValue, change_line}
use Rattle.breakpad_symbols.specs.Grammar.{AreRanges, IsChangeLine, IsFileNumber, IsInlineLine, IsNumberedName}
use Rattle.breakpad_symbols.specs.Inline.{InlineValue, file_number, inline_head, inline_line, ranges_in, some_ranges, with_range}
use Rattle.breakpad_symbols.specs.NumberedName.{NameValue, numbered_name}
use Rattle.minidump_bytes.proofs.CutLemmas.{after_prefix_is, after_prefix_some, cut_is, given, is_cut, some_same}

-- ---- names by number
name_by : (keyword line fields : List ℕ) (number : List ℕ × List ℕ) (n : ℕ) (v : NameValue)
    → after_prefix keyword line ≡ Some fields → cut_first 32 fields ≡ Some number → number_of_digits 10 32 number.0 ≡ Some n
    → (let g : NameValue = record { number = n; name = number.1 } in Some g ≡ Some v) → IsNumberedName keyword line v
name_by keyword line fields number n v k a b h =
    let g : NameValue = record { number = n; name = number.1 } in
    let same : g ≡ v = cc in
    rw (← same) (record {
      fields = fields;
      keyword_is = after_prefix_is keyword line fields k;
      number = number.0;
      number_field = cut_is 32 fields number.0 number.1 a;
      number_is = number_spells 10 32 number.0 n b;
    })

name_spells : (keyword line : List ℕ) (v : NameValue) → numbered_name keyword line ≡ Some v → IsNumberedName keyword line v
unfolding numbered_name
name_spells keyword line v h =
    let fields = given (after_prefix keyword line) _ v h in
    let number = given (cut_first 32 fields.0) _ v fields.2 in
    let n = given (number_of_digits 10 32 number.0.0) _ v number.2 in
    name_by keyword line fields.0 number.0 n.0 v fields.1 number.1 n.1 n.2

spelled_name : (keyword line : List ℕ) (v : NameValue) → IsNumberedName keyword line v → numbered_name keyword line ≡ Some v
unfolding numbered_name
spelled_name keyword line v h =
    rw (
      after_prefix_some keyword line h.fields h.keyword_is,
      is_cut 32 h.fields h.number v.name h.number_field,
      spelled_number 10 32 h.number v.number h.number_is,
    ) refl

pub names : (keyword line : List ℕ) (v : NameValue) → (numbered_name keyword line ≡ Some v) ↔ IsNumberedName keyword line v
names keyword line v = (name_spells keyword line v, spelled_name keyword line v)

-- ---- changes of rules
change_by : (line fields : List ℕ) (address : List ℕ × List ℕ) (n : ℕ) (c : ChangeValue)
    → after_prefix (codes "STACK CFI ") line ≡ Some fields → cut_first 32 fields ≡ Some address → number_of_digits 16 64 address.0 ≡ Some n
    → (let g : ChangeValue = record { address = n; rules = address.1 } in Some g ≡ Some c) → IsChangeLine line c
change_by line fields address n c k a b h =
    let g : ChangeValue = record { address = n; rules = address.1 } in
    let same : g ≡ c = cc in
    rw (← same) (record {
      fields = fields;
      keyword = after_prefix_is (codes "STACK CFI ") line fields k;
      address = address.0;
      address_field = cut_is 32 fields address.0 address.1 a;
      address_is = number_spells 16 64 address.0 n b;
    })

pub change_spells : (line : List ℕ) (c : ChangeValue) → change_line line ≡ Some c → IsChangeLine line c
unfolding change_line
change_spells line c h =
    let fields = given (after_prefix (codes "STACK CFI ") line) _ c h in
    let address = given (cut_first 32 fields.0) _ c fields.2 in
    let n = given (number_of_digits 16 64 address.0.0) _ c address.2 in
    change_by line fields.0 address.0 n.0 c fields.1 address.1 n.1 n.2

pub spelled_change : (line : List ℕ) (c : ChangeValue) → IsChangeLine line c → change_line line ≡ Some c
unfolding change_line
spelled_change line c h =
    rw (
      after_prefix_some (codes "STACK CFI ") line h.fields h.keyword,
      is_cut 32 h.fields h.address c.rules h.address_field,
      spelled_number 16 64 h.address c.address h.address_is,
    ) refl

pub changes : (line : List ℕ) (c : ChangeValue) → (change_line line ≡ Some c) ↔ IsChangeLine line c
changes line c = (change_spells line c, spelled_change line c)

-- ---- ranges
followed : (a s : ℕ) (o : Option (List (ℕ × ℕ))) (rs : List (ℕ × ℕ)) → with_range a s o ≡ Some rs
    → (more : List (ℕ × ℕ)) × (o ≡ Some more) × ((a, s) ∷ more ≡ rs)
followed a s None rs h = absurd (let k : None ≡ Some rs = h in cc)
followed a s (Some more) rs h = (more, refl, some_same ((a, s) ∷ more) rs h)

ranges_spell : (words : List (List ℕ)) (rs : List (ℕ × ℕ)) → ranges_in words ≡ Some rs → AreRanges words rs
unfolding ranges_in
ranges_spell [] [] h = tt
ranges_spell [] (r ∷ rs) h = absurd (let k : Some [] ≡ Some (r ∷ rs) = h in cc)
ranges_spell (first ∷ []) rs h = absurd (let k : None ≡ Some rs = h in cc)
ranges_spell (first ∷ size ∷ words) rs h =
    let a = given (number_of_digits 16 64 first) _ rs h in
    let s = given (number_of_digits 16 64 size) _ rs a.2 in
    let more = followed a.0 s.0 (ranges_in words) rs s.2 in
    rw (← more.2) (number_spells 16 64 first a.0 a.1, number_spells 16 64 size s.0 s.1, ranges_spell words more.0 more.1)

spelled_ranges : (words : List (List ℕ)) (rs : List (ℕ × ℕ)) → AreRanges words rs → ranges_in words ≡ Some rs
unfolding ranges_in
spelled_ranges [] [] h = refl
spelled_ranges [] (r ∷ rs) h = absurd h
spelled_ranges (first ∷ []) rs h = absurd h
spelled_ranges (first ∷ size ∷ words) [] h = absurd h
spelled_ranges (first ∷ size ∷ words) (r ∷ rs) h =
    rw (spelled_number 16 64 first r.0 h.0, spelled_number 16 64 size r.1 h.1, spelled_ranges words rs h.2) refl

-- ---- the file of a call
known_file : (o : Option ℕ) (file : Option ℕ) → option_map (λ number. Some number) o ≡ Some file → (n : ℕ) × (o ≡ Some n) × (Some n ≡ file)
known_file None file h = absurd (let k : None ≡ Some file = h in cc)
known_file (Some n) file h = (n, refl, some_same {A = Option ℕ} (Some n) file h)

file_spells : (word : List ℕ) (file : Option ℕ) → file_number word ≡ Some file → IsFileNumber word file
file_spells word file h = by (bytes_eq word (codes "-1")) refl h
  where
    by : (t : Bool) → bytes_eq word (codes "-1") ≡ t
        → (if t then Some None else option_map (λ number. Some number) (number_of_digits 10 32 word)) ≡ Some file → IsFileNumber word file
    by true is k = rw (← some_same {A = Option ℕ} None file k) ((bytes_eq-Decides word (codes "-1")).0 is)
    by false is k = let n = known_file (number_of_digits 10 32 word) file k in rw (← n.2) (number_spells 10 32 word n.0 n.1)

no_digits : number_of_digits 10 32 (codes "-1") ≡ None
unfolding number_of_digits
no_digits = refl

spelled_file : (word : List ℕ) (file : Option ℕ) → IsFileNumber word file → file_number word ≡ Some file
spelled_file word None h = rw ((bytes_eq-Decides word (codes "-1")).1 h) refl
spelled_file word (Some n) h =
    let number = spelled_number 10 32 word n h in
    rw (
      false_from_ne_true (bytes_eq word (codes "-1")) (λ t.
          let clash : None ≡ Some n = sym no_digits ∙ sym (ap (number_of_digits 10 32) ((bytes_eq-Decides word (codes "-1")).0 t)) ∙ number in cc),
      number,
    ) refl

-- ---- INLINE lines
abbrev call_of : ℕ → ℕ → Option ℕ → ℕ → InlineCall
call_of depth line file origin = record { depth = depth; line = line; file = file; origin = origin }

abbrev inline_of : InlineCall → List (ℕ × ℕ) → InlineValue
inline_of call ranges = record { call = call; ranges = ranges }

inline_by : (text fields : List ℕ) (depth line file origin : List ℕ × List ℕ) (d l : ℕ) (f : Option ℕ) (o : ℕ) (call : InlineCall) (rest : List ℕ) (rs : List (ℕ × ℕ))
    → after_prefix (codes "INLINE ") text ≡ Some fields
    → cut_first 32 fields ≡ Some depth → cut_first 32 depth.1 ≡ Some line → cut_first 32 line.1 ≡ Some file → cut_first 32 file.1 ≡ Some origin
    → number_of_digits 10 32 depth.0 ≡ Some d → number_of_digits 10 32 line.0 ≡ Some l
    → file_number file.0 ≡ Some f → number_of_digits 10 32 origin.0 ≡ Some o
    → (let x : InlineCall × List ℕ = (call_of d l f o, origin.1) in let y : InlineCall × List ℕ = (call, rest) in Some x ≡ Some y)
    → AreRanges (words_of rest) rs → rs ≢ [] → IsInlineLine text (inline_of call rs)
inline_by text fields depth line file origin d l f o call rest rs k a b c e n m p q h ranges some =
    let same = some_same {A = InlineCall × List ℕ} (call_of d l f o, origin.1) (call, rest) h in
    let call_is : call_of d l f o ≡ call = ap (λ x. x.0) same in
    let rest_is : origin.1 ≡ rest = ap (λ x. x.1) same in
    rw (← call_is) (record {
      fields = fields;
      keyword = after_prefix_is (codes "INLINE ") text fields k;
      depth = depth.0;
      after_depth = depth.1;
      depth_field = cut_is 32 fields depth.0 depth.1 a;
      line = line.0;
      after_line = line.1;
      line_field = cut_is 32 depth.1 line.0 line.1 b;
      file = file.0;
      after_file = file.1;
      file_field = cut_is 32 line.1 file.0 file.1 c;
      origin = origin.0;
      ranges = origin.1;
      origin_field = cut_is 32 file.1 origin.0 origin.1 e;
      depth_is = number_spells 10 32 depth.0 d n;
      line_is = number_spells 10 32 line.0 l m;
      file_is = file_spells file.0 f p;
      origin_is = number_spells 10 32 origin.0 o q;
      ranges_are = rw rest_is ranges;
      some_range = some;
    })

head_spells : (text : List ℕ) (call : InlineCall) (rest : List ℕ) (rs : List (ℕ × ℕ)) → inline_head text ≡ Some (call, rest)
    → AreRanges (words_of rest) rs → rs ≢ [] → IsInlineLine text (inline_of call rs)
unfolding inline_head
head_spells text call rest rs h ranges some =
    let y : InlineCall × List ℕ = (call, rest) in
    let fields = given (after_prefix (codes "INLINE ") text) _ y h in
    let depth = given (cut_first 32 fields.0) _ y fields.2 in
    let line = given (cut_first 32 depth.0.1) _ y depth.2 in
    let file = given (cut_first 32 line.0.1) _ y line.2 in
    let origin = given (cut_first 32 file.0.1) _ y file.2 in
    let d = given (number_of_digits 10 32 depth.0.0) _ y origin.2 in
    let l = given (number_of_digits 10 32 line.0.0) _ y d.2 in
    let f = given (file_number file.0.0) _ y l.2 in
    let o = given (number_of_digits 10 32 origin.0.0) _ y f.2 in
    inline_by text fields.0 depth.0 line.0 file.0 origin.0 d.0 l.0 f.0 o.0 call rest rs
    fields.1 depth.1 line.1 file.1 origin.1 d.1 l.1 f.1 o.1 o.2 ranges some

-- at least one range
not_empty : (word : List ℕ) (words : List (List ℕ)) (rs : List (ℕ × ℕ)) → AreRanges (word ∷ words) rs → rs ≢ []
not_empty word [] rs h = absurd h
not_empty word (size ∷ words) [] h = absurd h
not_empty word (size ∷ words) (r ∷ rs) h = λ e. cc

some_spell : (words : List (List ℕ)) (rs : List (ℕ × ℕ)) → some_ranges words ≡ Some rs → AreRanges words rs × (rs ≢ [])
some_spell [] rs h = absurd (let k : None ≡ Some rs = h in cc)
some_spell (word ∷ words) rs h = let are = ranges_spell (word ∷ words) rs h in (are, not_empty word words rs are)

spelled_some : (words : List (List ℕ)) (rs : List (ℕ × ℕ)) → AreRanges words rs → rs ≢ [] → some_ranges words ≡ Some rs
spelled_some [] [] h some = absurd (some refl)
spelled_some [] (r ∷ rs) h some = absurd h
spelled_some (word ∷ words) rs h some = spelled_ranges (word ∷ words) rs h

pub inline_spells : (text : List ℕ) (i : InlineValue) → inline_line text ≡ Some i → IsInlineLine text i
inline_spells text i h =
    let head = given (inline_head text) _ i h in
    let ranges = given (some_ranges (words_of head.0.1)) _ i head.2 in
    let same = some_same (inline_of head.0.0 ranges.0) i ranges.2 in
    let are = some_spell (words_of head.0.1) ranges.0 ranges.1 in
    rw (← same) (head_spells text head.0.0 head.0.1 ranges.0 head.1 are.0 are.1)

pub spelled_inline : (text : List ℕ) (i : InlineValue) → IsInlineLine text i → inline_line text ≡ Some i
unfolding inline_head
spelled_inline text i h =
    rw (
      after_prefix_some (codes "INLINE ") text h.fields h.keyword,
      is_cut 32 h.fields h.depth h.after_depth h.depth_field,
      is_cut 32 h.after_depth h.line h.after_line h.line_field,
      is_cut 32 h.after_line h.file h.after_file h.file_field,
      is_cut 32 h.after_file h.origin h.ranges h.origin_field,
      spelled_number 10 32 h.depth i.call.depth h.depth_is,
      spelled_number 10 32 h.line i.call.line h.line_is,
      spelled_file h.file i.call.file h.file_is,
      spelled_number 10 32 h.origin i.call.origin h.origin_is,
      spelled_some (words_of h.ranges) i.ranges h.ranges_are h.some_range,
    ) refl

pub inlines : (text : List ℕ) (i : InlineValue) → (inline_line text ≡ Some i) ↔ IsInlineLine text i
inlines text i = (inline_spells text i, spelled_inline text i)
