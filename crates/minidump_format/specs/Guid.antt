-- A GUID, as Microsoft's guiddef.h has it, and its text.
use Rattle.std.specs.Prelude.{ℕ, List, ◌++◌}
use Rattle.std.specs.Int.{to_be_bytes, w16, w32}
use Rattle.minidump_bytes.specs.Layout.{Layout, byte_layout}
use Rattle.minidump_bytes.specs.Number.{number_at}
use Rattle.minidump_bytes.specs.Entries.{entries}
use Rattle.minidump_format.specs.declared.format.guid.GUID.{GUID}
use Rattle.uuid.specs.Text.{hyphenated_text, lower}

-- Microsoft's GUID
abbrev pub guid : Layout GUID
guid = record {
  size = 16;
  value = λ order bytes. record {
    data1 = number_at order 4 0 bytes;
    data2 = number_at order 2 4 bytes;
    data3 = number_at order 2 6 bytes;
    data4 = entries byte_layout order bytes 8 8;
  };
}

-- the 16 bytes of a GUID as RFC 9562 orders them: the highest byte of each number first
unfoldable pub guid_bytes : GUID → List ℕ
guid_bytes g = to_be_bytes w32 g.data1 ++
    (to_be_bytes w16 g.data2 ++ (to_be_bytes w16 g.data3 ++ g.data4))

-- the text of 16 bytes as RFC 9562 has it: 8, 4, 4, 4 and 12 digits in lower case, with hyphens
-- between
unfoldable pub uuid_text : List ℕ → List ℕ
uuid_text bytes = hyphenated_text lower bytes

-- the text of a GUID
abbrev pub guid_text : GUID → List ℕ
guid_text g = uuid_text (guid_bytes g)
