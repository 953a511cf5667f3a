-- INLINE lines: the ranges from a place on, and the call at an address.
use Rattle.std.proofs.Common.{◌≡◌, ◌∙◌, ℕ, Bool, true, false, List, [], ◌∷◌, ◌++◌, Option, Some, None, refl, ap, sym, append_assoc, cond}
use Rattle.std.specs.Prelude.{◌==◌, ◌||◌, if◌then◌else◌}
use Rattle.std.specs.List.{cons_option, filter_map, find}
use Rattle.std.specs.Option.{option_map, option_or}
use Rattle.std.proofs.lemmas.List.{append-nil}
use Rattle.minidump_bytes.specs.Digits.{number_of_digits}
use Rattle.minidump_bytes.specs.LinuxOsStr.{words_of}
use Rattle.breakpad_symbols.specs.declared.inline.InlineCall.{InlineCall}
use Rattle.breakpad_symbols.specs.Inline.{any_covers, call_at, if_depth, inline_with, ranges_in, with_range}
use Rattle.breakpad_symbols.specs.LineRecord.{covers}
use Rattle.minidump_bytes.specs.Cut.{and_then}
use Rattle.breakpad_symbols.specs.Lines.{first_line, lines_of}
use Rattle.breakpad_symbols.specs.Numbered.{first_numbered}
use Rattle.breakpad_symbols.specs.Records.{first_of, until}
use Rattle.breakpad_symbols.proofs.LineLemmas.{a_line, no_line}

-- whether a range from a place on has the address, or one before it had
abbrev pub Covered : ℕ → Bool → List ℕ → Option Bool
Covered address before rest = option_map (λ ranges. before || any_covers address ranges) (ranges_in (words_of rest))

or_false : (b : Bool) → (b || false) ≡ b
or_false true = refl
or_false false = refl

or_or : (a b c : Bool) → (a || (b || c)) ≡ ((a || b) || c)
or_or true b c = refl
or_or false b c = refl

pub covered_start : (address : ℕ) (text : List ℕ) → option_map (any_covers address) (ranges_in (words_of text)) ≡ Covered address false text
covered_start address text = refl

pub covered_end : (address : ℕ) (before : Bool) (rest : List ℕ) → words_of rest ≡ [] → Covered address before rest ≡ Some before
unfolding ranges_in
covered_end address before rest e = rw (e, or_false before) refl

pub covered_odd : (address : ℕ) (before : Bool) (rest first after : List ℕ) → words_of rest ≡ first ∷ words_of after → words_of after ≡ []
    → Covered address before rest ≡ None
unfolding ranges_in
covered_odd address before rest first after e none = rw (e, none) refl

pub covered_no_first : (address : ℕ) (before : Bool) (rest first after size more : List ℕ) → words_of rest ≡ first ∷ words_of after
    → words_of after ≡ size ∷ words_of more → None ≡ number_of_digits 16 64 first → Covered address before rest ≡ None
unfolding ranges_in
covered_no_first address before rest first after size more e f is = rw (e, f, ← is) refl

no_more : {A B : Type 0} (o : Option A) → and_then {A = A} {B = B} o (λ a. None) ≡ None
no_more None = refl
no_more (Some a) = refl

pub covered_no_size : (address : ℕ) (before : Bool) (rest first after size more : List ℕ) → words_of rest ≡ first ∷ words_of after
    → words_of after ≡ size ∷ words_of more → None ≡ number_of_digits 16 64 size → Covered address before rest ≡ None
unfolding ranges_in
covered_no_size address before rest first after size more e f is =
    rw (e, f, ← is, no_more {B = List (ℕ × ℕ)} (number_of_digits 16 64 first)) refl

joined : (address a s : ℕ) (before : Bool) (o : Option (List (ℕ × ℕ)))
    → option_map (λ ranges. before || any_covers address ranges) (with_range a s o)
    ≡ option_map (λ ranges. (before || covers a s address) || any_covers address ranges) o
joined address a s before None = refl
joined address a s before (Some ranges) = ap Some (or_or before (covers a s address) (any_covers address ranges))

pub covered_more : (address : ℕ) (before : Bool) (rest first after size more : List ℕ) (a s : ℕ) → words_of rest ≡ first ∷ words_of after
    → words_of after ≡ size ∷ words_of more → Some a ≡ number_of_digits 16 64 first → Some s ≡ number_of_digits 16 64 size
    → Covered address before rest ≡ Covered address (before || covers a s address) more
unfolding ranges_in
covered_more address before rest first after size more a s e f is has =
    rw (e, f, ← is, ← has) (joined address a s before (ranges_in (words_of more)))

-- ---- the calls of an address by their depth
-- the first call of a depth is that of the first record with this depth and address
pub first_depth : (address depth : ℕ) (lines : List (List ℕ))
    → first_numbered (λ (c : InlineCall). c.depth) depth (filter_map (call_at address) lines) ≡ first_of (inline_with depth address) lines
unfolding first_of
first_depth address depth [] = refl
first_depth address depth (line ∷ lines) = by (call_at address line) (first_depth address depth lines)
  where
    by : (o : Option InlineCall) → find (λ (c : InlineCall). c.depth == depth) (filter_map (call_at address) lines) ≡ first_of (inline_with depth address) lines
        → find (λ (c : InlineCall). c.depth == depth) (cons_option o (filter_map (call_at address) lines))
        ≡ option_or (and_then o (if_depth depth)) (first_of (inline_with depth address) lines)
    by None more = more
    by (Some c) more = chosen (c.depth == depth)
      where
        chosen : (t : Bool)
            → cond t (Some c) (find (λ (x : InlineCall). x.depth == depth) (filter_map (call_at address) lines))
            ≡ option_or (if t then Some c else None) (first_of (inline_with depth address) lines)
        chosen true = refl
        chosen false = more

-- the calls of the records are those so far, and then those of the rest
abbrev pub Calls : ℕ → (List ℕ → Bool) → List ℕ → List InlineCall → List ℕ → Type 0
Calls address ends text done rest =
    filter_map (call_at address) (until ends (lines_of text)) ≡ done ++ filter_map (call_at address) (until ends (lines_of rest))

module _ (address : ℕ) (ends : List ℕ → Bool) (text : List ℕ) (done : List InlineCall) (rest : List ℕ) (so_far : Calls address ends text done rest) where
  pub calls_end : None ≡ first_line rest → done ≡ filter_map (call_at address) (until ends (lines_of text))
  unfolding until
  calls_end e = sym (so_far ∙ rw (no_line rest e, append-nil) refl)

  pub calls_ends : (line after : List ℕ) → first_line rest ≡ Some (line, after) → ends line ≡ true
      → done ≡ filter_map (call_at address) (until ends (lines_of text))
  unfolding until
  calls_ends line after e is = sym (so_far ∙ rw ((a_line rest line after e).0, is, append-nil) refl)

  pub calls_more : (line after : List ℕ) (c : InlineCall) → first_line rest ≡ Some (line, after) → ends line ≡ false
      → Some c ≡ call_at address line → Calls address ends text (done ++ c ∷ []) after
  unfolding until
  calls_more line after c e goes is = so_far ∙ rw ((a_line rest line after e).0, goes, ← is, append_assoc) refl

  pub calls_skip : (line after : List ℕ) → first_line rest ≡ Some (line, after) → ends line ≡ false
      → None ≡ call_at address line → Calls address ends text done after
  unfolding until
  calls_skip line after e goes is = so_far ∙ rw ((a_line rest line after e).0, goes, ← is) refl
