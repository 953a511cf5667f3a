-- The found index is that of the first byte 0.
use Rattle.std.proofs.Common.{refl}
use Rattle.std.specs.Prelude.{◌==◌}
use Rattle.minidump_bytes.proofs.SearchLemmas.{first_index, one_there, none_there}
use Rattle.minidump_bytes.proofs.text8.terminated.Goals as goal

pub returns-in_err-end : goal.returns-in_err-end
returns-in_err-end c = rw (c.from_residual.ensures, none_there (λ b. b == 0) c.args.bytes.now c.in_err-end.ensures) refl

pub returns : goal.returns
returns c =
    let bytes = c.args.bytes.now in
    rw (one_there (λ b. b == 0) bytes c.in_ok-end.end c.in_ok-end.ensures, first_index (λ b. b == 0) bytes c.in_ok-end.end c.in_ok-end.ensures) refl
