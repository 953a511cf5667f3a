-- A code unit alone, a pair, or a surrogate that lacks its partner.
use Rattle.std.proofs.Common.{◌≡◌, ℕ, List, length, refl, arith, inl, inr}
use Rattle.minidump_bytes.proofs.EntryLemmas.{length-entries}
use Rattle.minidump_bytes.specs.declared.endian.Endian.{Endian}
use Rattle.minidump_bytes.specs.Layout.{number_layout}
use Rattle.minidump_bytes.specs.Text16.{units_at}
use Rattle.minidump_bytes.proofs.UnitLemmas.{alone, last, paired, plain}
use Rattle.minidump_bytes.proofs.text16.char_at.Goals as goal

long : (order : Endian) (offset count : ℕ) (bytes : List ℕ) → length (units_at order offset count bytes) ≡ count
long order offset count bytes = length-entries (number_layout 2) order bytes offset count

pub returns-then-high-lt55296-clause-first : goal.returns-then-high-lt55296-clause-first
returns-then-high-lt55296-clause-first c =
    plain _ c.args.count c.args.at c.unit_at-high.result _ _
    (long c.args.endian c.args.offset c.args.count c.args.bytes.now) c.requires.index c.unit_at-high.ensures
    (inl c.if-high-lt55296.true) c.from_u32.ensures.value (c.from_u32.ensures.succeeds (inl c.if-high-lt55296.true))

pub returns-then-high-ge57344-clause-first : goal.returns-then-high-ge57344-clause-first
returns-then-high-ge57344-clause-first c =
    plain _ c.args.count c.args.at c.unit_at-high.result _ _
    (long c.args.endian c.args.offset c.args.count c.args.bytes.now) c.requires.index c.unit_at-high.ensures
    (inr c.if-high-ge57344.true) c.from_u32-then-high-ge57344.ensures.value
    (c.from_u32-then-high-ge57344.ensures.succeeds (inr (c.if-high-ge57344.true, omega (arith, c.unit_at-high.type_inv))))

pub returns-then-high-ge56320-clause-first : goal.returns-then-high-ge56320-clause-first
returns-then-high-ge56320-clause-first c =
    alone _ c.args.count c.args.at c.unit_at-high.result _
    (long c.args.endian c.args.offset c.args.count c.args.bytes.now) c.requires.index c.unit_at-high.ensures refl c.if-high-lt55296.false
    c.if-high-ge57344.false (λ pair. omega (arith, pair.1, c.if-high-ge56320.true))

pub returns-then-count-at-lt2-clause-first : goal.returns-then-count-at-lt2-clause-first
returns-then-count-at-lt2-clause-first c =
    alone _ c.args.count c.args.at c.unit_at-high.result 0
    (long c.args.endian c.args.offset c.args.count c.args.bytes.now) c.requires.index c.unit_at-high.ensures
    (last _ c.args.count c.args.at (long c.args.endian c.args.offset c.args.count c.args.bytes.now)
    (omega (arith, c.if-count-at-lt2.true))) c.if-high-lt55296.false c.if-high-ge57344.false (λ pair. omega (arith, pair.2))

pub returns-then-low-lt56320-clause-first : goal.returns-then-low-lt56320-clause-first
returns-then-low-lt56320-clause-first c =
    alone _ c.args.count c.args.at c.unit_at-high.result c.unit_at-low.result
    (long c.args.endian c.args.offset c.args.count c.args.bytes.now) c.requires.index c.unit_at-high.ensures c.unit_at-low.ensures
    c.if-high-lt55296.false c.if-high-ge57344.false (λ pair. omega (arith, pair.2, c.if-low-lt56320.true))

pub returns-then-low-ge57344-clause-first : goal.returns-then-low-ge57344-clause-first
returns-then-low-ge57344-clause-first c =
    alone _ c.args.count c.args.at c.unit_at-high.result c.unit_at-low.result
    (long c.args.endian c.args.offset c.args.count c.args.bytes.now) c.requires.index c.unit_at-high.ensures c.unit_at-low.ensures
    c.if-high-lt55296.false c.if-high-ge57344.false (λ pair. omega (arith, pair.3, c.if-low-ge57344.true))

pub returns-clause-first : goal.returns-clause-first
returns-clause-first c =
    paired _ c.args.count c.args.at c.unit_at-high.result c.unit_at-low.result _ _ (long c.args.endian c.args.offset c.args.count c.args.bytes.now)
    (omega (arith, c.if-count-at-lt2.false)) c.unit_at-high.ensures c.unit_at-low.ensures
    (c.if-high-lt55296.false, c.if-high-ge56320.false, c.if-low-lt56320.false, c.if-low-ge57344.false) c.from_u32-2.ensures.value
    (c.from_u32-2.ensures.succeeds (inr (omega (arith, c.if-high-lt55296.false), omega (arith, c.if-high-ge56320.false, c.if-low-ge57344.false))))
