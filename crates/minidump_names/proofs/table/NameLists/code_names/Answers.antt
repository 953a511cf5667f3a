-- The lists are valid.
use Rattle.minidump_reason.specs.Names.{IsFirstListError}
use Rattle.minidump_names.proofs.LentLemmas.{no_error}
use Rattle.minidump_names.proofs.table.NameLists.code_names.Goals as goal

pub returns-in-Err : goal.returns-in-Err
returns-in-Err c =
    let error : IsFirstListError c.self.inside.lists.items c.in-Err.field-0 = rw c.deref.ensures.value at c.in-Err.ensures in
    absurd (no_error c.self.inside.lists.items c.in-Err.field-0 c.self.invariant error)
