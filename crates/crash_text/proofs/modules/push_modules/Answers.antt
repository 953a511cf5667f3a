-- The line of the error.
use Rattle.crash_text.proofs.modules.push_modules.Goals as goal

pub returns-in-Some : goal.returns-in-Some
returns-in-Some c = rw c.in-Some.is c.push_if_missing.ensures.ok
