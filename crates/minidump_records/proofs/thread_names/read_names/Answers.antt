-- One entry more: its name is put in, or it has none, and is counted if it names one.
use Rattle.std.proofs.Common.{◌≡◌, ◌∙◌, ◌^◌, ◌<◌, ◌≤◌, List, ℕ, Option, Some, None, arith, false, length, ap, refl, sym}
use Rattle.std.specs.Prelude.{◌==◌, ◌&&◌, is_none, not, string_bytes}
use Rattle.std.proofs.lemmas.Grind.{common_steps}
use Rattle.std.proofs.lemmas.List.{take_all}
use Rattle.std.proofs.lemmas.List.Sums.{count_by_more_no}
use Rattle.std.specs.Option.{option_map}
use Rattle.minidump_bytes.specs.Source.{bytes_of}
use Rattle.minidump_bytes.proofs.ListLemmas.{filtered_more, filtered_skip}
use Rattle.minidump_records.specs.ThreadNames.{ThreadName, is_unreadable, thread_name_in}
use Rattle.minidump_records.proofs.ThreadLemmas.{at_most_one, counted_more, has_all, has_more}
use Rattle.minidump_records.proofs.thread_names.read_names.Goals as goal
use Rattle.minidump_records.proofs.thread_names.read_names.Goals.{in-Some+in_ok-put_name-in-Some, in-None}

pub loop-index-preserved : goal.loop-index-preserved
loop-index-preserved c =
    let xs = c.args.raws in
    let i = c.loop-index.index in
    let raw = c.read-raw.result in
    let name_in = thread_name_in c.args.endian (bytes_of c.args.all) in
    let inside : i < length xs = omega (arith, c.loop-index-test.true, c.len-index-end.ensures) in
    let small : raw.thread_id < 2 ^ 32 = grind (arith, common_steps) in
    let unreadable = is_unreadable c.args.endian (bytes_of c.args.all) in
    let with_id : List ℕ → ThreadName = λ name. (raw.thread_id, name) in
    elim c.match-branch-2.branch [
      | in-Some+in_ok-put_name-in-Some w ↦
          let text = rw w.in-Some.is at c.in_ok-name.ensures.name in
          let is : name_in raw ≡ Some (with_id (string_bytes w.in-Some.name)) = ap (option_map with_id) (sym text) in
          let read : unreadable raw ≡ false = ap (λ (t : Option (List ℕ)). is_none t && not (raw.thread_name_rva == 0)) (sym text) in
          rw w.names-is (record {
            last = rw (filtered_more name_in xs i raw (with_id (string_bytes w.in-Some.name)) inside (rw c.read-raw.ensures.value is))
                (has_more string_bytes (2 ^ 32) _ _ _ raw.thread_id w.in-Some.name c.loop-index.invariant.last small w.in_ok-put_name-in-Some.ensures.updates
                w.put_name.ensures.ordered);
            counted = w.unreadable-is ∙ c.loop-index.invariant.counted ∙ sym (count_by_more_no unreadable xs i raw inside (rw c.read-raw.ensures.value read));
            bounded = omega (arith, w.unreadable-is, c.loop-index.invariant.bounded);
            reads = omega (arith, c.read-raw.ensures.step, c.read_name.ensures.step, c.loop-index.invariant.reads);
          })
      | in-None w ↦
          let text = rw w.in-None.is at c.in_ok-name.ensures.name in
          let is : name_in raw ≡ None = ap (option_map with_id) (sym text) in
          let read : unreadable raw ≡ not (raw.thread_name_rva == 0) =
          ap (λ (t : Option (List ℕ)). is_none t && not (raw.thread_name_rva == 0)) (sym text)
          in
          rw w.names-is (record {
            last = rw (filtered_skip name_in xs i raw inside (rw c.read-raw.ensures.value is)) c.loop-index.invariant.last;
            counted = rw (w.unreadable-is, w.from-unreadable.ensures, c.loop-index.invariant.counted)
                (sym (counted_more unreadable xs i raw (not (raw.thread_name_rva == 0)) inside c.read-raw.ensures.value read));
            bounded = omega (arith, w.unreadable-is, w.from-unreadable.ensures, at_most_one (not (raw.thread_name_rva == 0)), c.loop-index.invariant.bounded);
            reads = omega (arith, c.read-raw.ensures.step, c.read_name.ensures.step, c.loop-index.invariant.reads);
          })
    ]

pub returns-clause-names : goal.returns-clause-names
returns-clause-names c =
    let ended : length c.args.raws ≤ c.loop-index.index = omega (arith, c.loop-index-test.false, c.len-index-end.ensures) in
    let all = take_all c.loop-index.index c.args.raws ended in
    let names = has_all string_bytes (2 ^ 32) _ _ (rw all at c.loop-index.invariant.last) in
    let counted = rw all at c.loop-index.invariant.counted in
    rw (names, counted) refl
