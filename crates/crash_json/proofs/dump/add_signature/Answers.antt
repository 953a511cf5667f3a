-- The signature, whose context the registers are of, and the values of the others.
use Rattle.crash_json.specs.Minidump.{signature_members}
use Rattle.crash_json.proofs.Tokens.{views}
use Rattle.crash_json.proofs.dump.add_signature.Goals as goal

pub returns : goal.returns
unfolding signature_members
returns c = rw (← c.in_ok-signature.ensures, ← c.registers_of.ensures) (simp views c.add.ensures)
