-- A failed write leaves a prefix of the digits.
use Rattle.std.proofs.Common.{◌+◌, [], ◌∷◌, ◌∙◌, drop, get_or, sym, take}
use Rattle.std.proofs.lemmas.Result.{err_from_is_err_and}
use Rattle.hex.specs.Hex.{encode_lower}
use Rattle.std.proofs.KnownBytes.{Appends-trans}
use Rattle.minidump_bytes.proofs.ToldLemmas.{begins_on, digits_at, digits_on}
use Rattle.minidump_bytes.proofs.hexadecimal.write_bytes.Goals as goal

pub returns-in_err-put-clause-puts : goal.returns-in_err-put-clause-puts
returns-in_err-put-clause-puts g c =
    let p = err_from_is_err_and c.from_residual.result c.from_residual.ensures.1 in
    let bytes = c.args.bytes.now in
    let i = c.loop-byte.byte-index in
    let put = rw c.byte_digits.ensures at c.in_err-put.ensures.puts in
    rw p.1 (
      begins_on g.W.Write.contents c.args.f.now c.loop-byte.f c.put.new.self (encode_lower (take i bytes)) (encode_lower (get_or bytes i 0 ∷ []))
          (encode_lower (drop (i + 1) bytes)) (encode_lower bytes)
          (digits_at bytes i c.loop-byte-test.true) (sym c.failed.ensures ∙ c.if-failed.false) c.loop-byte.invariant.grown put.0,
      put.1,
    )

pub loop-byte-preserved : goal.loop-byte-preserved
loop-byte-preserved g c =
    let bytes = c.args.bytes.now in
    let i = c.loop-byte.byte-index in
    let put = rw c.byte_digits.ensures at c.in_ok-put.ensures.puts in
    record {
      grown = rw (digits_on bytes i c.loop-byte-test.true) (Appends-trans _ _ _ (encode_lower (take i bytes)) _ c.loop-byte.invariant.grown put.grown);
      alive = put.alive;
    }
