-- Crashpad's information as JSON.
use Rattle.std.specs.Prelude.{ℕ, List, [], ◌∷◌, codes}
use Rattle.json.specs.Json.{Json, string}
use Rattle.minidump.specs.Below.Format.Guid.{guid_text}
use Rattle.minidump.specs.Below.Records.Crashpad.{Crashpad, Module}
use Rattle.minidump.specs.Below.Records.CrashpadText.{annotation_text}
use Rattle.crash_json.specs.Tree.{array_of, count, object_of}

-- an entry of a dictionary by its name and its value
unfoldable pub entry_json : List ℕ → Json → Json
entry_json name value = object_of ((codes "name", string name) ∷ (codes "value", value) ∷ [])

-- the entries of a dictionary
abbrev pub dictionary_json : {V : Type 0} → (V → Json) → List (List ℕ × V) → Json
dictionary_json json entries = array_of (λ e. entry_json e.0 (json e.1)) entries

-- the annotations of a module: the index that its link states in the list of modules, its list of
-- texts, its dictionary, and those that have a type: a text as it is, and the kind of any other
unfoldable pub crashpad_module_json : Module → Json
crashpad_module_json m = object_of (
    (codes "module_index", count m.module_index)
    ∷ (codes "list", array_of string m.list_annotations)
    ∷ (codes "annotations", dictionary_json string m.simple_annotations)
    ∷ (
      codes "objects",
      dictionary_json (λ a. string (annotation_text a)) m.annotation_objects,
    )
    ∷ [])

-- Crashpad's information: its two identifiers, the annotations of the process, and those of its modules
unfoldable pub crashpad_json : Crashpad → Json
crashpad_json c = object_of (
    (codes "report_id", string (guid_text c.raw.report_id))
    ∷ (codes "client_id", string (guid_text c.raw.client_id))
    ∷ (codes "annotations", dictionary_json string c.simple_annotations)
    ∷ (codes "modules", array_of crashpad_module_json c.module_list)
    ∷ [])
