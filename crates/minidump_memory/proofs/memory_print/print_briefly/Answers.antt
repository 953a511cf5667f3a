-- The iterator yields the regions with their indices.
use Rattle.std.proofs.Common.{◌≡◌, ◌∙◌, ℕ, ◌+◌, List, [], ◌∷◌, ◌++◌, ap, codes, map, refl, rules, subst, true}
use Rattle.std.proofs.lemmas.Iterator.{YieldsList-from_map_by}
use Rattle.std.proofs.lemmas.Iterator.Consumers.{YieldsList-at}
use Rattle.std.proofs.lemmas.List.Folds.{flat_map-map}
use Rattle.std.specs.List.{enumerate_from, flat_map}
use Rattle.minidump_format.proofs.SequenceLemmas.{yields_numbered}
use Rattle.minidump_format.specs.Numbered.{numbered_item, numbered_text}
use Rattle.minidump_format.specs.Print.{Prints}
use Rattle.minidump_memory.specs.Memory.{memory_of}
use Rattle.minidump_memory.specs.MemoryText.{region_text}
use Rattle.minidump_memory.proofs.memory_print.print_briefly.Goals as goal

-- the text of values is that of what has these values
numbered : {X : Type 0} → (name : List ℕ) (text : X → List ℕ) (xs : List X) (i : ℕ)
    → flat_map (numbered_item name (λ t. t)) (enumerate_from i (map text xs)) ≡ flat_map (numbered_item name text) (enumerate_from i xs)
numbered name text [] i = refl
numbered name text (x ∷ xs) i = ap (λ t. numbered_item name text (i, x) ++ t) (numbered name text xs (i + 1))

-- the lines of values one after another
lines_of : {X : Type 0} → (name : List ℕ) (text : X → List ℕ) (xs : List X)
    → flat_map (λ t. t) (map (numbered_item name (λ t. t)) (enumerate_from 0 (map text xs))) ≡ numbered_text name text xs
lines_of name text xs = flat_map-map (λ t. t) (numbered_item name (λ t. t)) (enumerate_from 0 (map text xs)) ∙ numbered name text xs 0

pub returns : goal.returns
returns g c =
    let regions = c.args.regions.now in
    let line : ℕ × List ℕ → List ℕ = numbered_item (codes "region") (λ t. t) in
    subst (λ t. Prints g.W.Write.contents c.args.f.now c.print_all.new.f t c.print_all.result)
    (lines_of (codes "region") (λ m. region_text g.D.Pushed.text true (memory_of m)) regions)
    (c.print_all.ensures.prints (map line (enumerate_from 0 (map (λ m. region_text g.D.Pushed.text true (memory_of m)) regions)))
    (YieldsList-from_map_by _ _ line
    (YieldsList-at c.map-lines.ensures.source
    (yields_numbered (λ m. region_text g.D.Pushed.text true (memory_of m)) regions c.enumerate.result (cc) (cc)))
    c.map-lines.ensures.closure (λ x r q k. search rules)))
