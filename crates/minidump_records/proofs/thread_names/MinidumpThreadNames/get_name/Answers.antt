-- What the map finds.
use Rattle.std.proofs.Common.{◌∙◌, ap, sym}
use Rattle.std.specs.Prelude.{string_bytes}
use Rattle.std.specs.Option.{option_map}
use Rattle.minidump_records.proofs.ThreadLemmas.{name_found}
use Rattle.minidump_records.proofs.thread_names.MinidumpThreadNames.get_name.Goals as goal

pub returns-in_err-name : goal.returns-in_err-name
returns-in_err-name c =
    rw c.from_residual.ensures (ap (option_map string_bytes) c.in_err-name.ensures.value ∙ sym (name_found string_bytes c.args.self.now.names c.args.thread_id))

pub returns : goal.returns
returns c =
    rw c.as_str.ensures.value (ap (option_map string_bytes) c.in_ok-name.ensures.value ∙ sym (name_found string_bytes c.args.self.now.names c.args.thread_id))
