-- Which letters were there so far, without a space.
use Rattle.std.proofs.Common.{◌≡◌, take}
use Rattle.std.specs.Prelude.{◌==◌}
use Rattle.std.specs.List.{list_any}
use Rattle.minidump_bytes.specs.Cut.{Lacks}
use Rattle.minidump_memory.proofs.map_text.permissions_before.Given as goal

abbrev pub invariant-loop-at : goal.invariant-loop-at
invariant-loop-at l = record {
  lacks : Lacks 32 (take l.at l.text);
  read : l.read ≡ list_any (λ b. b == 114) (take l.at l.text);
  write : l.write ≡ list_any (λ b. b == 119) (take l.at l.text);
  execute : l.execute ≡ list_any (λ b. b == 120) (take l.at l.text);
  shared : l.shared ≡ list_any (λ b. b == 115) (take l.at l.text);
  private : l.private ≡ list_any (λ b. b == 112) (take l.at l.text);
}
