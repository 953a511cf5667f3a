-- The names of threads: Microsoft's MINIDUMP_THREAD_NAME_LIST.
use Rattle.std.specs.Prelude.{Any, IsOkAnd, IsSome, ◌⊎◌, ℕ, ◌+◌, ◌*◌, ◌^◌, ◌==◌, Bool, List, [], ◌∷◌, codes, count_by, map}
use Rattle.std.specs.Prelude.{reverse, Option, Result, Ok, string_bytes}
use Rattle.std.specs.List.{concat, filter_map, range_with_len}
use Rattle.std.specs.Map.{lookup}
use Rattle.std.specs.Option.{option_map}
use Rattle.minidump_bytes.specs.declared.endian.Endian.{Endian}
use Rattle.minidump_bytes.specs.Piece.{hex}
use Rattle.minidump_bytes.specs.Text16.{text16, TakesMemory16}
use Rattle.minidump_format.specs.declared.format.stream_type.MINIDUMP_STREAM_TYPE.TheVariants.{ThreadNamesStream}
use Rattle.minidump_format.specs.declared.error.Error.{Error}
use Rattle.minidump_format.specs.declared.format.thread.MINIDUMP_THREAD_NAME.{MINIDUMP_THREAD_NAME}
use Rattle.minidump_format.specs.StreamType.{number_of}
use Rattle.minidump_format.specs.Thread.{thread_name}
use Rattle.minidump_system.specs.Framing.{count_of, plain_list}
use Rattle.minidump_system.specs.StreamSpec.{StreamSpec}
use Rattle.minidump_system.specs.Reads.{and_then}
use Rattle.minidump_format.specs.Numbered.{numbered_list}
use Rattle.minidump_records.specs.NamedText.{lacks_text}
use Rattle.minidump_records.specs.declared.thread_names.MinidumpThreadNames.{MinidumpThreadNames}

-- the id of a thread and its name, in UTF-8
abbrev pub ThreadName : Type 0
ThreadName = ℕ × List ℕ

-- the names of threads, ascending by id, and how many entries name a text where none is
pub record ThreadNames : Type 0 where
  pub names : List ThreadName
  pub unreadable : ℕ

-- the names of a value, ascending by id
abbrev pub thread_names_of : MinidumpThreadNames → List ThreadName
thread_names_of n = map (λ e. (e.0, string_bytes e.1)) n.names.entries

-- the same, with how many entries of its stream name a text where none is
abbrev pub all_names_of : MinidumpThreadNames → ThreadNames
all_names_of n = record {
  names = thread_names_of n;
  unreadable = n.unreadable;
}

-- the name of an entry: none where no text is at its RVA
abbrev pub thread_name_in : Endian → List ℕ → MINIDUMP_THREAD_NAME → Option ThreadName
thread_name_in order file raw =
    option_map (λ name. (raw.thread_id, name)) (text16 order raw.thread_name_rva file)

-- an entry names a text where none is
abbrev pub is_unreadable : Endian → List ℕ → MINIDUMP_THREAD_NAME → Bool
is_unreadable order file raw =
    lacks_text raw.thread_name_rva (text16 order raw.thread_name_rva file)

-- an entry takes memory: its name is a text, which is kept, or has code units, which are decoded
abbrev pub NameTakesMemory : Endian → List ℕ → MINIDUMP_THREAD_NAME → Type 0
NameTakesMemory order file raw =
    IsSome (text16 order raw.thread_name_rva file) ⊎ TakesMemory16 order raw.thread_name_rva file

-- the last name that has the id of a thread
abbrev pub last_name : List ThreadName → ℕ → Option (List ℕ)
last_name names id = lookup (λ t. t == id) (reverse names)

-- the last name of each thread whose id is below a limit, ascending by id
unfoldable pub last_name_of_each_thread : ℕ → List ThreadName → List ThreadName
last_name_of_each_thread limit names =
    filter_map (λ id. option_map (λ name. (id, name)) (last_name names id)) (range_with_len 0 limit)

-- the names of entries, without those whose name is no text. An earlier name of such a thread stays
abbrev pub names_in : Endian → List ℕ → List MINIDUMP_THREAD_NAME → ThreadNames
names_in order file raws = record {
  names = last_name_of_each_thread (2 ^ 32) (filter_map (thread_name_in order file) raws);
  unreadable = count_by (is_unreadable order file) raws;
}

-- Microsoft's MINIDUMP_THREAD_NAME_LIST: a plain list of entries
abbrev pub thread_names_in : Endian → List ℕ → List ℕ → Result ThreadNames Error
thread_names_in order file bytes =
    and_then (plain_list thread_name order bytes) (λ raws. Ok (names_in order file raws))

-- the name of a thread: the first that has its id
abbrev pub name_of_thread : List ThreadName → ℕ → Option (List ℕ)
name_of_thread names id = lookup (λ t. t == id) names

-- the stream of type ThreadNamesStream. Its reads are the count, each entry and the name of each
abbrev pub thread_names_stream : StreamSpec MinidumpThreadNames ThreadNames
thread_names_stream = record {
  stream_type = number_of ThreadNamesStream;
  value = all_names_of;
  meaning = λ order file bytes system. thread_names_in order file bytes;
  most = λ n. n + 7;
  fewest = λ order bytes system names. 1 + 2 * count_of order bytes;
  memory =
      λ order file bytes system. IsOkAnd (plain_list thread_name order bytes)
      (Any (NameTakesMemory order file));
}

-- the printed text of a name, in quotes, with its thread
unfoldable pub thread_name_text : ThreadName → List ℕ
thread_name_text t = concat (
    codes "MINIDUMP_THREAD_NAME\n"
    ∷ codes "  thread_id = " ∷ hex t.0 ∷ codes "\n"
    ∷ codes "  name      = \"" ∷ t.1 ∷ codes "\"\n"
    ∷ codes "\n"
    ∷ [])

-- the printed text: the number of names, and each of them
abbrev pub thread_names_text : List ThreadName → List ℕ
thread_names_text names =
    numbered_list (codes "MinidumpThreadNames\n  thread_count = ")
    (codes "thread_name") thread_name_text names
