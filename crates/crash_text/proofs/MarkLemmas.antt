-- The modules that are listed, by marks and by what the marks say.
use Rattle.std.proofs.Common.{◌≡◌, ◌∙◌, ◌<◌, ◌++◌, ◌∷◌, ◌||◌, [], ℕ, Bool, List, Option, Some, None, ap, length, map, refl}
use Rattle.std.specs.Prelude.{slice_get}
use Rattle.std.specs.List.{flat_map}
use Rattle.std.proofs.lemmas.List.{length-map}
use Rattle.std.proofs.lemmas.Option.{slice_get_within}
use Rattle.crash_process.specs.Modules.{LoadedValue, loaded_of}
use Rattle.crash_text.specs.declared.limits.TextLimits.{TextLimits}
use Rattle.crash_text.specs.declared.text.Page.{Page}
use Rattle.crash_lines.specs.Lines.{line_of}
use Rattle.crash_text.specs.Modules.{HasMarks, address_place, each_module, is_in, is_marked, is_named, listed_lines, named_modules, symbols_text}
use Rattle.crash_text.specs.Page.{PageValue, page_of}
use Rattle.crash_text.specs.Threads.{frames_in}

-- the lines of a module, if there is one
one_listed : (limits : TextLimits) (a b : Bool) (i : ℕ) (m : Option LoadedValue) (words : List ℕ) → ((x : LoadedValue) → m ≡ Some x → a ≡ b)
    → listed_lines limits a i m words ≡ listed_lines limits b i m words
one_listed limits a b i (Some x) words same = ap (λ named. listed_lines limits named i (Some x) words) (same x refl)
one_listed limits a b i None words same = refl

same_listed : (p : PageValue) (f g : ℕ → Bool) (indices : List ℕ) → ((i : ℕ) → i < length p.crash.modules.loaded → f i ≡ g i)
    → each_module p f indices ≡ each_module p g indices
same_listed p f g [] same = refl
same_listed p f g (i ∷ rest) same =
    let m = slice_get p.crash.modules.loaded i in let words = symbols_text p.symbols i in
    ap (λ lines. lines ++ each_module p f rest) (one_listed p.limits (f i) (g i) i m words (λ x at. same i (slice_get_within p.crash.modules.loaded i x at)))
    ∙ ap (λ lines. listed_lines p.limits (g i) i m words ++ lines) (same_listed p f g rest same)

-- the lines by marks are those by what the marks say
pub marked_lines : (page : Page) (marks : List Bool) (old new : List ℕ)
    → HasMarks marks (length page.crash.now.modules.loaded.items) (frames_in (page_of page) (page_of page).crash.threads.threads)
    → new ≡ old ++ flat_map line_of (each_module (page_of page) (is_marked page.crash.now.cause.address marks) page.crash.now.modules.by_address.items)
    → new ≡ old ++ flat_map line_of (named_modules (page_of page))
unfolding named_modules
marked_lines page marks old new h added =
    let loaded = page.crash.now.modules.loaded.items in let address = page.crash.now.cause.address in
    let same : length (map loaded_of loaded) ≡ length loaded = length-map loaded loaded_of in
    added
    ∙ ap (λ lines. old ++ flat_map line_of lines)
    (same_listed (page_of page) (is_marked address marks) (is_named address (frames_in (page_of page) (page_of page).crash.threads.threads)) page.crash.now.modules.by_address.items
    (λ i within. ap (λ b. is_in i (address_place address) || b) (h.at i (rw same at within))))
