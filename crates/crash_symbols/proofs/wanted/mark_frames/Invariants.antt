-- The marks by the frames so far.
use Rattle.std.proofs.Common.{◌≡◌, ◌<◌, ◌||◌, ℕ, false, get_or, length, take}
use Rattle.std.specs.List.{list_any}
use Rattle.crash_symbols.specs.Backtraces.{lies_in}
use Rattle.crash_symbols.proofs.wanted.mark_frames.Given as goal

abbrev pub invariant-loop-frame : goal.invariant-loop-frame
invariant-loop-frame l = (k : ℕ) → k < length l.marks →
    get_or l.marks k false ≡ (get_or l.initial.marks k false || list_any (lies_in k) (take l.frame-index l.frames))
