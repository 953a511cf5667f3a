-- Files are read by the limit of the options.
use Rattle.std.proofs.Common.{◌≡◌, List, [], subst, Result, Ok, Err}
use Rattle.std.specs.Prelude.{IfErr, IfOk, None, OnOk, String}
use Rattle.std.specs.Global.{Global}
use Rattle.clap.specs.Words.{kind_of}
use Rattle.clap.specs.declared.error.Error.{Error}
use Rattle.whocrashed_inputs.specs.Options.{AreOptions, IsErrorOf, faults_in, refusal_in, rows_in}
use Rattle.whocrashed_inputs.specs.declared.options.Options.{Options}
use Rattle.whocrashed.specs.Run.{IsReadOf, IsRunBy, IsWithin, limit_of}
use Rattle.whocrashed.proofs.program.run.Goals as goal
use Rattle.whocrashed.proofs.program.run.Goals.{in-Ok, in-Err}

-- what reading words returned
is_read : (words : List (String Global)) (read : Result Options Error) → OnOk read (faults_in words ≡ []) → IfOk read (AreOptions (rows_in words))
    → IfOk read (λ options. refusal_in options ≡ None) → IfErr read (λ error. IsErrorOf words (kind_of error)) → IsReadOf words read
is_read words (Ok options) formed asked accepted why = (formed, asked, accepted)
is_read words (Err error) formed asked accepted why = why

pub returns : goal.returns
returns g c =
    let read = c.read-read.ensures in
    let limit : c.match-read.limit ≡ limit_of c.read-read.result = elim c.match-read.branch [
      | in-Ok w ↦ rw w.in-Ok.is w.limit-is
      | in-Err w ↦ rw w.in-Err.is w.limit-is
    ] in (
      c.read-read.result,
      is_read c.args.words.now c.read-read.result read.formed read.asked read.accepted read.why,
      subst (λ n. IsRunBy g.O.Write.contents c.args.out.now c.run_by.new.out (IsWithin n) c.read-read.result c.run_by.result) limit c.run_by.ensures,
    )
