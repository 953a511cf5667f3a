-- The words so far, and then those for the frames that are left, up to three in all, are the result.
use Rattle.std.proofs.Common.{◌≡◌, ◌-◌, ◌++◌, drop, length, map, string_bytes, take}
use Rattle.std.specs.List.{filter_map}
use Rattle.std.specs.Option.{option_copied, option_map}
use Rattle.crash_process.specs.Modules.{loaded_of}
use Rattle.crash_symbols.specs.Signature.{mark_of}
use Rattle.crash_symbols.specs.Symbols.{files_of, known_of}
use Rattle.crash_symbols.proofs.signature.marks_in.Given as goal

abbrev pub invariant-loop-frame : goal.invariant-loop-frame
invariant-loop-frame l =
    let marks = map string_bytes l.marks.items in
    let find = mark_of (map loaded_of l.modules) (files_of (option_map known_of (option_copied l.symbols))) in
    marks ++ take (3 - length marks) (filter_map find (drop l.frame-index l.frames)) ≡ take 3 (filter_map find l.frames)
