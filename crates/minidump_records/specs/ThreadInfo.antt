-- The state of threads: Microsoft's MINIDUMP_THREAD_INFO_LIST.
use Rattle.std.specs.Prelude.{IsOkAnd, ℕ, ◌+◌, ◌<◌, ◌==◌, List, [], ◌∷◌, codes, find, length, map, reverse, Option}
use Rattle.std.specs.Prelude.{Result}
use Rattle.std.specs.List.{concat}
use Rattle.minidump_bytes.specs.declared.endian.Endian.{Endian}
use Rattle.minidump_bytes.specs.Piece.{hex}
use Rattle.minidump_format.specs.declared.format.stream_type.MINIDUMP_STREAM_TYPE.TheVariants.{ThreadInfoListStream}
use Rattle.minidump_format.specs.declared.error.Error.{Error}
use Rattle.minidump_format.specs.declared.format.thread.MINIDUMP_THREAD_INFO.{MINIDUMP_THREAD_INFO}
use Rattle.minidump_format.specs.StreamType.{number_of}
use Rattle.minidump_format.specs.Thread.{thread_info}
use Rattle.minidump_system.specs.Framing.{list_header_of, extended_list}
use Rattle.minidump_system.specs.StreamSpec.{StreamSpec}
use Rattle.minidump_format.specs.Numbered.{numbered_list}
use Rattle.minidump_records.specs.declared.thread_info.MinidumpThreadInfo.{MinidumpThreadInfo}
use Rattle.minidump_records.specs.declared.thread_info.MinidumpThreadInfoList.{MinidumpThreadInfoList}

-- the entries of a list, in its order
abbrev pub thread_info_list_of : MinidumpThreadInfoList → List MINIDUMP_THREAD_INFO
thread_info_list_of l = map (λ i. i.raw) l.thread_infos.items

-- Microsoft's MINIDUMP_THREAD_INFO_LIST: an extended list of entries
abbrev pub thread_info_list_in : Endian → List ℕ → Result (List MINIDUMP_THREAD_INFO) Error
thread_info_list_in order bytes = extended_list thread_info order bytes

-- the last information that has the id of a thread
abbrev pub last_info : List MinidumpThreadInfo → ℕ → Option MinidumpThreadInfo
last_info infos id = find (λ i. i.raw.thread_id == id) (reverse infos)

-- the stream of type ThreadInfoListStream
abbrev pub thread_info_list_stream : StreamSpec MinidumpThreadInfoList (List MINIDUMP_THREAD_INFO)
thread_info_list_stream = record {
  stream_type = number_of ThreadInfoListStream;
  value = thread_info_list_of;
  meaning = λ order file bytes system. thread_info_list_in order bytes;
  most = λ n. n + 7;
  fewest = λ order bytes system infos. 1 + (list_header_of order bytes).number_of_entries;
  memory =
      λ order file bytes system. IsOkAnd (extended_list thread_info order bytes)
      (λ raws. 0 < length raws);
}

-- the printed text of an entry, MINIDUMP_THREAD_INFO. It ends with two spaces, without a line feed
unfoldable pub thread_info_text : MINIDUMP_THREAD_INFO → List ℕ
thread_info_text raw = concat (
    codes "MINIDUMP_THREAD_INFO\n"
    ∷ codes "  thread_id                   = " ∷ hex raw.thread_id ∷ codes "\n"
    ∷ codes "  dump_flags                  = " ∷ hex raw.dump_flags ∷ codes "\n"
    ∷ codes "  dump_error                  = " ∷ hex raw.dump_error ∷ codes "\n"
    ∷ codes "  exit_status                 = " ∷ hex raw.exit_status ∷ codes "\n"
    ∷ codes "  create_time                 = " ∷ hex raw.create_time ∷ codes "\n"
    ∷ codes "  exit_time                   = " ∷ hex raw.exit_time ∷ codes "\n"
    ∷ codes "  kernel_time                 = " ∷ hex raw.kernel_time ∷ codes "\n"
    ∷ codes "  user_time                   = " ∷ hex raw.user_time ∷ codes "\n"
    ∷ codes "  start_address               = " ∷ hex raw.start_address ∷ codes "\n"
    ∷ codes "  affinity                    = " ∷ hex raw.affinity ∷ codes "\n"
    ∷ codes "\n"
    ∷ codes "  "
    ∷ [])

-- the printed text of the list: the number of entries, and each of them
abbrev pub thread_info_list_text : List MINIDUMP_THREAD_INFO → List ℕ
thread_info_list_text infos =
    numbered_list (codes "MinidumpThreadInfoList\n  thread_info_count = ")
    (codes "thread info") thread_info_text infos
