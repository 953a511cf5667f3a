-- The bytes of a UUID by the fields of the GUID.
use Rattle.minidump_format.specs.Guid.{guid_bytes}
use Rattle.minidump_format.proofs.GuidLemmas.{guid_spells}
use Rattle.minidump_format.proofs.format.guid.uuid_of.Goals as goal

pub returns : goal.returns
unfolding guid_bytes
returns c =
    let whole = rw c.as_bytes.ensures at c.bytes_fit.ensures in
    guid_spells _ _ _ _ _ whole.0 whole.1
    c.from_fields-uuid.ensures.d1 c.from_fields-uuid.ensures.d2 c.from_fields-uuid.ensures.d3 c.from_fields-uuid.ensures.d4
