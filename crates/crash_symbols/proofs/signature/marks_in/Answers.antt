-- One frame more, and what is found at the end.
use Rattle.std.proofs.Common.{◌<◌, ◌+◌, List, append-nil, arith, drop, length, map, string_bytes}
use Rattle.std.proofs.Math.Seq.{take-nil}
use Rattle.std.proofs.lemmas.Grind.{common_steps}
use Rattle.std.proofs.lemmas.List.{at_drop_more, drop_all, length-map, map-append}
use Rattle.std.specs.List.{filter_map}
use Rattle.std.specs.Option.{option_copied, option_map}
use Rattle.crash_process.specs.Modules.{loaded_of}
use Rattle.crash_threads.specs.declared.frames.CrashFrame.{CrashFrame}
use Rattle.crash_symbols.specs.Signature.{mark_of, marks_in}
use Rattle.crash_symbols.specs.Symbols.{files_of, known_of}
use Rattle.crash_symbols.proofs.ListLemmas.{all_found, one_found}
use Rattle.crash_symbols.proofs.signature.marks_in.Goals.{in-Some+in_ok-push, in_default}
use Rattle.crash_symbols.proofs.signature.marks_in.Goals as goal

pub returns-then-len-ge-FRAMES : goal.returns-then-len-ge-FRAMES
unfolding marks_in
returns-then-len-ge-FRAMES c =
    let marks = c.loop-frame.marks.items in
    all_found 3 (map string_bytes marks) _ (omega (arith, length-map marks string_bytes, c.len.ensures, c.if-len-ge-FRAMES.true)) c.loop-frame.invariant

pub loop-frame-preserved : goal.loop-frame-preserved
loop-frame-preserved c =
    let marks = c.loop-frame.marks.items in
    let find = mark_of (map loaded_of c.args.modules.now) (files_of (option_map known_of (option_copied c.args.symbols))) in
    let below : length (map string_bytes marks) < 3 = omega (arith, length-map marks string_bytes, c.len.ensures, c.if-len-ge-FRAMES.false) in
    let next = at_drop_more (λ (frames : List CrashFrame). filter_map find frames) c.args.frames.now c.loop-frame.frame-index _ c.loop-frame-test.true in
    let rest = filter_map find (drop (c.loop-frame.frame-index + 1) c.args.frames.now) in
    let more = one_found 3 (map string_bytes marks) (map string_bytes c.match-branch-2.marks.items) rest (option_map string_bytes c.in_ok-mark.field-0) below in
    elim c.match-branch-2.branch [
      | in-Some+in_ok-push w ↦ more (grind (arith, common_steps, map-append)) (rw c.in_ok-mark.ensures (rw next at c.loop-frame.invariant))
      | in_default w ↦ more (grind (arith, common_steps, append-nil)) (rw c.in_ok-mark.ensures (rw next at c.loop-frame.invariant))
    ]

pub returns : goal.returns
unfolding marks_in
returns c = rw (drop_all c.loop-frame.frame-index c.args.frames.now c.loop-frame-test.false, take-nil, append-nil) at c.loop-frame.invariant
