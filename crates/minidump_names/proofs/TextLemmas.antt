-- One line more.
use Rattle.std.proofs.Common.{◌≡◌, ℕ, ◌+◌, ◌<◌, false, List, [], ◌∷◌, ◌++◌, length, get_or, take, Option, Some, None, refl, sym, ap, subst, ◌∙◌, All, rules}
use Rattle.std.specs.Prelude.{IsSome, unwrap_or}
use Rattle.std.proofs.lemmas.Grind.{flat_map-append}
use Rattle.std.proofs.lemmas.List.{append-nil, take_more}
use Rattle.std.proofs.lemmas.List.Elements.{All-more}
use Rattle.std.proofs.lemmas.List.Quantifiers.{all_pairs_push}
use Rattle.std.proofs.lemmas.Option.{slice_get-get_or}
use Rattle.minidump_names.specs.declared.error.NamesError.{NamesError}
use Rattle.minidump_names.specs.declared.error.NamesError.TheVariants.{NotALine, OutOfOrder, OutOfMemory}
use Rattle.minidump_names.specs.NameLine.{Listing, line_in, listing_in, says_nothing}
use Rattle.minidump_names.specs.NamesText.{AreLines, InOrder, IsNotAbove, IsLineError, AddsLine, IsNamesTextError, lines_in, listings_in}

abbrev listings_of : List ℕ → List Listing
listings_of line = unwrap_or (line_in line) []

listings_of_one : (line : List ℕ) (more : List Listing) → line_in line ≡ Some more → listings_in (line ∷ []) ≡ more
listings_of_one line more is = rw (append-nil, is) refl

pub listings_more : (lines : List (List ℕ)) (i : ℕ) (line : List ℕ) (more : List Listing) → i < length lines → get_or lines i line ≡ line
    → line_in line ≡ Some more → listings_in (take (i + 1) lines) ≡ listings_in (take i lines) ++ more
listings_more lines i line more inside there is =
    ap listings_in (take_more lines i line inside ∙ ap (λ l. take i lines ++ (l ∷ [])) there)
    ∙ flat_map-append listings_of (take i lines) (line ∷ [])
    ∙ ap (λ l. listings_in (take i lines) ++ l) (listings_of_one line more is)

some_line : (o : Option (List Listing)) (more : List Listing) → o ≡ Some more → IsSome o
some_line (Some x) more e = search rules
some_line None more e = absurd (let k : None ≡ Some more = e in cc)

pub lines_more : (lines : List (List ℕ)) (i : ℕ) (line : List ℕ) (after : List Listing) → i < length lines → get_or lines i line ≡ line
    → AreLines (take i lines) → AddsLine (listings_in (take i lines)) line after
    → AreLines (take (i + 1) lines) × (after ≡ listings_in (take (i + 1) lines))
lines_more lines i line after inside there before (more, is, grown, order) =
    let value : after ≡ listings_in (take (i + 1) lines) = grown ∙ sym (listings_more lines i line more inside there is) in
    let P : List ℕ → Type 0 = λ line. IsSome (line_in line) in (
      record {
        each = All-more P lines i line inside before.each (subst P (sym there) (some_line (line_in line) more is));
        ascending = subst (λ (l : List Listing). InOrder l) value order;
      },
      value,
    )

-- ---- what one line says

pub line_lists : (line : List ℕ) (l : Listing) → says_nothing line ≡ false → listing_in line ≡ Some l → line_in line ≡ Some (l ∷ [])
unfolding line_in
line_lists line l says is = rw (says, is) refl

pub adds_line : (before : List Listing) (line : List ℕ) (l : Listing) → line_in line ≡ Some (l ∷ []) → InOrder before
    → All (λ e. e.family ≡ l.family → e.number < l.number) before → AddsLine before line (before ++ l ∷ [])
adds_line before line l is order above =
    (l ∷ [], is, refl, all_pairs_push (λ (a b : Listing). a.family ≡ b.family → a.number < b.number) before l order above)

pub out_of_order : (before : List Listing) (line : List ℕ) (l : Listing) (number : ℕ) (e : NamesError) → line_in line ≡ Some (l ∷ [])
    → (e ≡ OutOfOrder number) × IsNotAbove before l → IsLineError before line number e
out_of_order before line l number e is (same, not_above) =
    let error : IsLineError before line number (OutOfOrder number) = (refl, l, is, not_above) in
    subst (λ (e : NamesError). IsLineError before line number e) (sym same) error

-- ---- the first line that has an error

pub error_at : (text : List ℕ) (i : ℕ) (line : List ℕ) (e : NamesError) → i < length (lines_in text) → get_or (lines_in text) i line ≡ line
    → AreLines (take i (lines_in text)) → IsLineError (listings_in (take i (lines_in text))) line (i + 1) e → IsNamesTextError text e
error_at text i line OutOfMemory inside there before error = tt
error_at text i line (NotALine n) inside there before error = record {
  index = i;
  line = line;
  there = slice_get-get_or (lines_in text) i line inside ∙ ap (λ l. Some l) there;
  before = before;
  error = error;
}
error_at text i line (OutOfOrder n) inside there before error = record {
  index = i;
  line = line;
  there = slice_get-get_or (lines_in text) i line inside ∙ ap (λ l. Some l) there;
  before = before;
  error = error;
}
