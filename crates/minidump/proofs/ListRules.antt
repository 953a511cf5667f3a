-- The rule by which the values of a list are those of its entries.
use Rattle.std.proofs.lemmas.Simd.{map-map}

pub ruleset entries = (map-map)
