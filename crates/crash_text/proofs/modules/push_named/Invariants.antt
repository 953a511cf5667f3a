-- The lines of the modules so far.
use Rattle.std.proofs.Common.{◌≡◌, ◌++◌, string_bytes, take}
use Rattle.std.specs.List.{flat_map}
use Rattle.crash_lines.specs.Lines.{line_of}
use Rattle.crash_text.specs.Modules.{each_module, is_marked}
use Rattle.crash_text.specs.Page.{page_of}
use Rattle.crash_text.proofs.modules.push_named.Given as goal

abbrev pub invariant-loop-index : goal.invariant-loop-index
invariant-loop-index l = string_bytes l.out ≡ string_bytes l.fn.out
    ++ flat_map line_of (each_module (page_of l.page) (is_marked l.page.crash.now.cause.address l.marks.items) (take l.index-index l.index-items))
