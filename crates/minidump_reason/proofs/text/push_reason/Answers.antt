-- Each row of the match says what the reason's text is.
use Rattle.minidump_reason.proofs.text.push_reason.Goals as goal
use Rattle.minidump_reason.proofs.text.push_reason.Goals.{in-MacBadAccessKern, in-MacBadAccessArm, in-MacBadAccessPpc, in-MacBadAccessX86}
use Rattle.minidump_reason.proofs.text.push_reason.Goals.{in-MacBadInstructionArm, in-MacBadInstructionPpc, in-MacBadInstructionX86}
use Rattle.minidump_reason.proofs.text.push_reason.Goals.{in-MacArithmeticArm, in-MacArithmeticPpc, in-MacArithmeticX86, in-MacSoftware}
use Rattle.minidump_reason.proofs.text.push_reason.Goals.{in-MacBreakpointArm, in-MacBreakpointPpc, in-MacBreakpointX86, in-LinuxSigill}
use Rattle.minidump_reason.proofs.text.push_reason.Goals.{in-LinuxSigtrap, in-LinuxSigbus, in-LinuxSigfpe, in-LinuxSigsegv, in-LinuxSigsys}
use Rattle.minidump_reason.proofs.text.push_reason.Goals.{in-WindowsWinError, in-WindowsNtStatus, in-WindowsAccessViolation}

pub returns : goal.returns
returns c = let put = c.push_name_32.ensures in elim c.match-reason.branch [
  | in-MacBadAccessKern w ↦ rw (w.in-MacBadAccessKern.is) (rw w.family-is at put)
  | in-MacBadAccessArm w ↦ rw (w.in-MacBadAccessArm.is) (rw w.family-is at put)
  | in-MacBadAccessPpc w ↦ rw (w.in-MacBadAccessPpc.is) (rw w.family-is at put)
  | in-MacBadAccessX86 w ↦ rw (w.in-MacBadAccessX86.is) (rw w.family-is at put)
  | in-MacBadInstructionArm w ↦ rw (w.in-MacBadInstructionArm.is) (rw w.family-is at put)
  | in-MacBadInstructionPpc w ↦ rw (w.in-MacBadInstructionPpc.is) (rw w.family-is at put)
  | in-MacBadInstructionX86 w ↦ rw (w.in-MacBadInstructionX86.is) (rw w.family-is at put)
  | in-MacArithmeticArm w ↦ rw (w.in-MacArithmeticArm.is) (rw w.family-is at put)
  | in-MacArithmeticPpc w ↦ rw (w.in-MacArithmeticPpc.is) (rw w.family-is at put)
  | in-MacArithmeticX86 w ↦ rw (w.in-MacArithmeticX86.is) (rw w.family-is at put)
  | in-MacSoftware w ↦ rw (w.in-MacSoftware.is) (rw w.family-is at put)
  | in-MacBreakpointArm w ↦ rw (w.in-MacBreakpointArm.is) (rw w.family-is at put)
  | in-MacBreakpointPpc w ↦ rw (w.in-MacBreakpointPpc.is) (rw w.family-is at put)
  | in-MacBreakpointX86 w ↦ rw (w.in-MacBreakpointX86.is) (rw w.family-is at put)
  | in-LinuxSigill w ↦ rw (w.in-LinuxSigill.is) (rw w.family-is at put)
  | in-LinuxSigtrap w ↦ rw (w.in-LinuxSigtrap.is) (rw w.family-is at put)
  | in-LinuxSigbus w ↦ rw (w.in-LinuxSigbus.is) (rw w.family-is at put)
  | in-LinuxSigfpe w ↦ rw (w.in-LinuxSigfpe.is) (rw w.family-is at put)
  | in-LinuxSigsegv w ↦ rw (w.in-LinuxSigsegv.is) (rw w.family-is at put)
  | in-LinuxSigsys w ↦ rw (w.in-LinuxSigsys.is) (rw w.family-is at put)
  | in-WindowsWinError w ↦ rw (w.in-WindowsWinError.is) (rw w.family-is at put)
  | in-WindowsNtStatus w ↦ rw (w.in-WindowsNtStatus.is) (rw w.family-is at put)
  | in-WindowsAccessViolation w ↦ rw (w.in-WindowsAccessViolation.is) (rw w.family-is at put)
]
