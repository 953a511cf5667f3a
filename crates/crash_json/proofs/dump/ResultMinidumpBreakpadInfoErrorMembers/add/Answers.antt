-- The ids, where the information can be read.
use Rattle.crash_json.proofs.dump.ResultMinidumpBreakpadInfoErrorMembers.add.Goals as goal

pub returns-in-Ok : goal.returns-in-Ok
returns-in-Ok c = rw c.in-Ok.is c.add.ensures

pub returns-in-Err : goal.returns-in-Err
returns-in-Err c = rw c.in-Err.is c.add-in-Err.ensures
