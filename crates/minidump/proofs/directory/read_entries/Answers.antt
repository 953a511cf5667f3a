-- One entry more.
use Rattle.std.proofs.Common.{arith, ◌≡◌, ◌^◌, ◌<◌}
use Rattle.std.proofs.lemmas.Grind.{common_steps}
use Rattle.std.proofs.lemmas.List.Elements.{All-push}
use Rattle.minidump_bytes.specs.Source.{bytes_of}
use Rattle.minidump_bytes.specs.Entries.{entry, entries}
use Rattle.minidump_bytes.proofs.EntryLemmas.{entries-more, entries-none, length-entries}
use Rattle.minidump_format.specs.Header.{directory_entry}
use Rattle.minidump.specs.Deciding.{type_of}
use Rattle.minidump.proofs.DirectoryLemmas.{with_indices-more}
use Rattle.minidump.proofs.directory.read_entries.Goals as goal

pub loop-index-init : goal.loop-index-init
loop-index-init c = record {
  items = rw (entries-none directory_entry c.args.endian (bytes_of c.args.source) c.args.header.now.stream_directory_rva) c.in_ok-entries.ensures.items;
  small = rw c.in_ok-entries.ensures.items (λ k d h. absurd (omega arith));
  steps = omega arith;
  readable = λ h. absurd (omega arith);
}

pub loop-index-preserved : goal.loop-index-preserved
loop-index-preserved c =
    let source = bytes_of c.args.source in
    let start = c.args.header.now.stream_directory_rva in
    let order = c.args.endian in
    let before = entries directory_entry order source start c.loop-index.index in
    let read : c.in_ok-entry.entry ≡ entry directory_entry order source start c.loop-index.index = grind (arith, common_steps, c.record.ensures.found) in
    let small : c.in_ok-entry.entry.stream_type < 2 ^ 32 = grind (arith, common_steps) in
    record {
      items = rw (entries-more, ← read, with_indices-more before c.in_ok-entry.entry, length-entries, ← c.loop-index.invariant.items) c.in_ok-push.ensures.items;
      small = rw c.in_ok-push.ensures.items (All-push (λ d. type_of d < 2 ^ 32) _ _ c.loop-index.invariant.small small);
      steps = omega (arith, c.record.ensures.step, c.loop-index.invariant.steps);
      readable = grind (arith, c.record.ensures.readable.0);
    }
