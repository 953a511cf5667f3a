-- What the exception says, or the error.
use Rattle.crash_json.specs.Cause.{exception_json}
use Rattle.crash_json.proofs.Tokens.{views}
use Rattle.crash_json.proofs.cause.ResultCrashExceptionErrorToJson.put.Goals as goal

pub returns-in-Ok : goal.returns-in-Ok
unfolding exception_json
returns-in-Ok c = rw c.in-Ok.is (simp views (rw c.unaccepted_size.ensures at c.put_object.ensures))

pub returns-in-Err : goal.returns-in-Err
unfolding exception_json
returns-in-Err c = rw c.in-Err.is c.put_object-in-Err.ensures
