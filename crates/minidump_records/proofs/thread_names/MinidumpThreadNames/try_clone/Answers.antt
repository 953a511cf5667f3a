-- A clone of the map has the same names.
use Rattle.std.proofs.Common.{List, ap}
use Rattle.std.specs.Prelude.{string_bytes}
use Rattle.minidump_records.specs.ThreadNames.{ThreadName, ThreadNames}
use Rattle.minidump_records.proofs.ThreadLemmas.{same_texts}
use Rattle.minidump_records.proofs.thread_names.MinidumpThreadNames.try_clone.Goals as goal

pub returns-clause-same : goal.returns-clause-same
returns-clause-same c =
    let with_names : List ThreadName → ThreadNames = λ names. record { names = names; unreadable = c.args.self.now.unreadable } in
    ap with_names (same_texts string_bytes c.args.self.now.names.entries c.in_ok-clone.field-0.entries c.in_ok-clone.ensures.cases)
