-- The text so far.
use Rattle.std.proofs.Common.{◌≡◌, ◌++◌, codes, map, string_bytes, take}
use Rattle.std.specs.List.{flat_map}
use Rattle.crash_symbols.proofs.signature.text_after.Given as goal

abbrev pub invariant-loop-part : goal.invariant-loop-part
invariant-loop-part l =
    string_bytes l.text ≡ l.first ++ flat_map (λ t. codes " | " ++ t) (map string_bytes (take l.part-index l.rest))
