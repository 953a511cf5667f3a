-- The letters before the space are those so far, and the text goes on after it.
use Rattle.std.proofs.Common.{◌≡◌, ◌<◌, arith, get_or, length, refl}
use Rattle.std.proofs.lemmas.Str.{IsCharBoundary-after_ascii}
use Rattle.minidump_memory.proofs.BeforeLemmas.{cut_here, no_cut}
use Rattle.minidump_memory.specs.MapLine.{permissions}
use Rattle.minidump_memory.proofs.map_text.permissions_before.Goals as goal

pub range_from-requires : goal.range_from-requires
range_from-requires c =
    let text = c.args.text.now in
    let lt : c.loop-at.at < length text = omega (arith, c.loop-at-test.true, c.as_bytes-letter-items.ensures.len) in
    let here : get_or text c.loop-at.at 0 ≡ 32 = rw c.as_bytes-letter-items.ensures.value at c.if-letter-eq32.true in
    λ _. IsCharBoundary-after_ascii text c.loop-at.at c.utf8.text lt (omega (arith, here))

pub returns-then-letter-eq32 : goal.returns-then-letter-eq32
unfolding permissions
returns-then-letter-eq32 c =
    let text = c.args.text.now in
    let lt : c.loop-at.at < length text = omega (arith, c.loop-at-test.true, c.as_bytes-letter-items.ensures.len) in
    let here : get_or text c.loop-at.at 0 ≡ 32 = rw c.as_bytes-letter-items.ensures.value at c.if-letter-eq32.true in
    let so_far = c.loop-at.invariant in
    rw (
      c.range_from.ensures.value,
      c.permissions-bits.ensures,
      cut_here 32 text c.loop-at.at lt so_far.lacks here,
      so_far.read,
      so_far.write,
      so_far.execute,
      so_far.shared,
      so_far.private,
    ) refl

pub returns : goal.returns
returns c =
    rw (no_cut 32 c.args.text.now c.loop-at.at (omega (arith, c.loop-at-test.false, c.as_bytes-letter-items.ensures.len)) c.loop-at.invariant.lacks) refl
