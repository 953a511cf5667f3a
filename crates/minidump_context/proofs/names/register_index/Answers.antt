-- The first index in a list of borrowed names, mapped to what is borrowed.
use Rattle.minidump_context.specs.Register.{register_index}
use Rattle.minidump_context.proofs.NameLemmas.{position-map}
use Rattle.minidump_context.proofs.names.register_index.Goals as goal

pub returns-clause-value : goal.returns-clause-value
unfolding register_index
returns-clause-value c = rw (position-map _ (λ n. n.now) c.args.names.now, ← c.canonical_name.ensures) c.first_index.ensures.value
