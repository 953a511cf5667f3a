-- The first frame is that of the context.
use Rattle.std.proofs.Common.{◌∙◌, refl}
use Rattle.symbol_walk.proofs.walk.walk_by_symbols.Goals as goal

pub returns-clause-walk : goal.returns-clause-walk
returns-clause-walk c =
    c.in_ok-walk.ensures ∙ rw (c.in_ok-known_by.ensures, c.register_table.ensures, c.of_context.ensures, c.link_of.ensures) refl
