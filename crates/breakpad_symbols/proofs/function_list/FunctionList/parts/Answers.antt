-- The nearest beginning of a function parts them, unless it lies below the symbol.
use Rattle.std.proofs.Common.{sym, subst}
use Rattle.breakpad_symbols.specs.Numbered.{IsNearestNumber}
use Rattle.breakpad_symbols.proofs.PublicLemmas.{parted_by, parted_none}
use Rattle.breakpad_symbols.proofs.function_list.FunctionList.parts.Goals as goal

pub returns-in-Some : goal.returns-in-Some
returns-in-Some c =
    rw (← c.self.view_is)
    (sym (parted_by c.args.symbol c.args.address c.in-Some.start.now c.self.inside.regions
    (subst (λ xs. IsNearestNumber (λ n. n) xs c.args.address c.in-Some.start.now) c.self.invariant c.in-Some.ensures)))

pub returns-in-None : goal.returns-in-None
returns-in-None c =
    rw (← c.self.view_is) (sym (parted_none c.args.symbol c.args.address c.self.inside.regions (rw c.self.invariant at c.in-None.ensures)))
