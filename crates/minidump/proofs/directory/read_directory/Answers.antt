-- The sort keeps the order of the entries of a type.
use Rattle.std.proofs.Common.{arith, rules, ap, inl, inr, ◌∙◌, ◌<◌, ◌≡◌, length}
use Rattle.std.proofs.lemmas.Bool.{cases_lt}
use mathlib.Core.Bool.{false≢true}
use Rattle.std.proofs.lemmas.List.Sorted.{answers_always, IsNonDecreasingBy-from_sort_by_key}
use Rattle.minidump_bytes.specs.Source.{bytes_of}
use Rattle.minidump_bytes.proofs.EntryLemmas.{length-entries}
use Rattle.minidump_format.specs.Header.{directory_entry}
use Rattle.minidump.specs.Deciding.{type_of}
use Rattle.minidump.specs.Directory.{directory}
use Rattle.minidump.proofs.DirectoryLemmas.{decides, length-with_indices, stable_by_type}
use Rattle.minidump.proofs.directory.read_directory.Goals as goal

pub returns-in_err-sort_by_key-clause-means : goal.returns-in_err-sort_by_key-clause-means
returns-in_err-sort_by_key-clause-means c =
    let h = c.args.header.now in
    let source = bytes_of c.args.source in
    let count : length c.in_ok-entries.entries.items ≡ h.stream_count =
    ap length c.in_ok-entries.ensures.means.1 ∙ length-with_indices (directory c.args.endian source h)
    ∙ length-entries directory_entry c.args.endian source h.stream_directory_rva h.stream_count in
    let some : 0 < h.stream_count = elim (cases_lt 0 h.stream_count) [
      | inl some ↦ some
      | inr none ↦ absurd (false≢true (c.in_err-sort_by_key.ensures.succeeds (omega (arith, count, none))))
    ] in
    search (rules, some)

pub keep_last-requires : goal.keep_last-requires
keep_last-requires c = IsNonDecreasingBy-from_sort_by_key type_of _ c.in_ok-sort_by_key.ensures.sorted (λ a r q called. search rules)

pub returns-clause-means : goal.returns-clause-means
returns-clause-means c =
    let stable = c.in_ok-sort_by_key.ensures.stable type_of (answers_always _ _ _ (λ f a r g called. search rules)) in (
      c.in_ok-entries.ensures.means.0,
      decides (directory c.args.endian (bytes_of c.args.source) c.args.header.now) c.in_ok-entries.entries.items c.sort_by_key.new.self.items _
          c.in_ok-entries.ensures.means.1 c.in_ok-entries.ensures.small (λ t. stable_by_type t _ _ stable) c.keep_last.ensures,
    )
