-- Where the thread that crashed stands, as JSON.
use Rattle.std.specs.Prelude.{ℕ, List, [], ◌∷◌, codes, filter}
use Rattle.json.specs.Json.{Json, string}
use Rattle.crash_threads.specs.declared.addresses.AddressFacts.{AddressFacts}
use Rattle.crash_threads.specs.declared.point.StackWord.{StackWord}
use Rattle.crash_threads.specs.Addresses.{is_placed}
use Rattle.crash_threads.specs.Point.{PointValue}
use Rattle.crash_json.specs.Tree.{array_of, count, hex_string, object_of}
use Rattle.crash_json.specs.Cause.{address_json, address_members, place_members}
use Rattle.crash_json.specs.Frames.{named_json}

-- a word of a stack, with the module that contains its value
unfoldable pub word_json : StackWord → Json
word_json w = object_of (
    (codes "address", hex_string w.address)
    ∷ (codes "value", hex_string w.value)
    ∷ place_members w.module)

-- a register by its name, and what is known of its value as an address
abbrev pub register_json : List ℕ × AddressFacts → Json
register_json r = object_of ((codes "name", string r.0) ∷ address_members r.1)

-- where a thread stands, with the registers whose values lie in a module, an unloaded module or the stack
-- of a thread
unfoldable pub point_json : PointValue → Json
point_json p = object_of (
    (codes "instruction", address_json p.instruction)
    ∷ (codes "registers", array_of register_json (filter (λ r. is_placed r.1) p.registers))
    ∷ (codes "code", array_of count p.code)
    ∷ (codes "words", array_of word_json p.words)
    ∷ (codes "flags", named_json p.flags)
    ∷ (codes "set_flags", array_of string p.set_flags)
    ∷ [])
