-- What the parts of a row write.
use Rattle.std.specs.Prelude.{ℕ, List, [], map, string_bytes}
use Rattle.std.specs.Fmt.{decimal}
use Rattle.std.specs.List.{flat_map}
use Rattle.std.specs.Option.{option_copied, option_map}
use Rattle.minidump_bytes.specs.LinuxOsStr.{text_of}
use Rattle.minidump.specs.Below.Bytes.Piece.{hex}
use Rattle.minidump.specs.Below.Format.Guid.{guid_text}
use Rattle.minidump.specs.Below.Records.Assertion.{text_or_empty}
use Rattle.minidump.specs.Below.System.Cpu.{cpu_name}
use Rattle.crash_threads.specs.Cause.{exception_of}
use Rattle.crash_process.specs.Modules.{loaded_of}
use Rattle.crash_lines.specs.declared.parts.Part.{Part}
use Rattle.crash_lines.specs.declared.parts.Part.TheVariants.{Code, Count, Cpu, Decimal, DecimalIf}
use Rattle.crash_lines.specs.declared.parts.Part.TheVariants.{Failed, Flags, Guid, Hex, HexIf}
use Rattle.crash_lines.specs.declared.parts.Part.TheVariants.{HexUnless, Id, If, Key, Line, Lossy}
use Rattle.crash_lines.specs.declared.parts.Part.TheVariants.{Memory, Names, Os, Place, Record}
use Rattle.crash_lines.specs.declared.parts.Part.TheVariants.{Registers, Said, Short, Stream, Text}
use Rattle.crash_lines.specs.declared.parts.Part.TheVariants.{TextAfter, Units, Words}
use Rattle.crash_lines.specs.Point.{code_at, flag_words, memory_words, names_after, register_words}
use Rattle.crash_lines.specs.Point.{short_if}
use Rattle.crash_lines.specs.Exceptions.{record_text}
use Rattle.crash_lines.specs.System.{system_name}
use Rattle.crash_lines.specs.Words.{count_if, decimal_if, error_words, hex_if, hex_unless, id_if}
use Rattle.crash_lines.specs.Words.{key_text, line_text, lossy_if, or_empty, place_text}
use Rattle.crash_lines.specs.Words.{stream_text, text_after, text_if, words_or}

-- what a part of a row writes
abbrev pub part_text : Part → List ℕ
part_text (Words words) = words.now
part_text (If is_so words) = words_or is_so words.now []
part_text (Decimal n) = decimal n
part_text (DecimalIf before n after) = decimal_if before.now n after.now
part_text (Count before n after) = count_if before.now n after.now
part_text (Hex n) = hex n
part_text (HexIf words n) = hex_if words.now n
part_text (HexUnless known words n) = hex_unless known words.now n
part_text (Id words id) = id_if words.now id
part_text (Text before text after) =
    text_if before.now (option_map string_bytes text.now) after.now
part_text (TextAfter words text) =
    text_after words.now (or_empty (option_map string_bytes text.now))
part_text (Said words text) = text_if words.now (option_copied text) []
part_text (Units words units) = text_after words.now (text_or_empty units.now)
part_text (Lossy words text) = lossy_if words.now (option_map text_of text)
part_text (Guid guid) = guid_text guid.now
part_text (Os os) = system_name os
part_text (Cpu cpu) = cpu_name cpu
part_text (Stream number) = stream_text number
part_text (Failed error) = error_words error
part_text (Key words file id) = key_text words.now file.now (option_map string_bytes id.now)
part_text (Place modules nowhere place) = place_text (map loaded_of modules.now) nowhere.now place
part_text (Memory memory) = memory_words memory
part_text (Record exception) = record_text (exception_of exception.now)
part_text (Line file number) = line_text (option_map text_of file) number
part_text (Short words short) = short_if words.now short
part_text (Flags flags) = flat_map flag_words (map (λ r. (r.0.now, r.1)) flags.now)
part_text (Names words names) = names_after words.now (map (λ name. name.now) names.now)
part_text (Registers size registers) =
    flat_map (register_words size) (map (λ r. (r.0.now, r.1)) registers.now)
part_text (Code address code) = code_at address code.now
