-- The status after a failure of the output.
use Rattle.std.proofs.Common.{◌≡◌, ℕ, List, [], ap, arith, rules, subst, sym, take}
use Rattle.std.proofs.lemmas.Grind.{common_steps}
use Rattle.std.specs.Prelude.{IfOk, OnSome, Option, Some, Result, Ok}
use Rattle.std.specs.Global.{Vec}
use Rattle.std.specs.IoError.{error_kind}
use Rattle.std.specs.declared.io.Error.{Error as IoError}
use Rattle.clap.specs.declared.error.Error.{Error}
use Rattle.whocrashed_inputs.specs.Input.{Asked}
use Rattle.whocrashed_inputs.specs.declared.options.Options.{Options}
use Rattle.whocrashed.specs.Output.{failure_of}
use Rattle.whocrashed.specs.Run.{IsOfArguments, IsOfOptions, IsRunAfter, IsRunBy}
use Rattle.whocrashed.specs.Status.{status_after}
use Rattle.whocrashed.specs.declared.output.Output.{Output}
use Rattle.whocrashed.proofs.program.run_by.Goals as goal
use Rattle.whocrashed.proofs.program.run_by.Goals.{in-Ok, in-Err}

module _ {E : Type 0} (reads : Asked → Result (Option (Vec ℕ)) E → Type 0) (read : Result Options Error) (error : IoError) where
  -- the status of the first dumps, by that of options
  first : (failure : Option IoError) (options : Options) (result : Result ℕ IoError) (status : ℕ)
      → IfOk result (λ status. OnSome failure ((count : ℕ) × (text : List ℕ) × IsOfOptions reads (take count) options status text))
      → read ≡ Ok options → result ≡ Ok status → failure ≡ Some error
      → (count : ℕ) × (text : List ℕ) × IsOfArguments reads (take count) read status text
  first failure options result status h given is some =
      subst (λ r. (count : ℕ) × (text : List ℕ) × IsOfArguments reads (take count) r status text) (sym given) (rw (is, some) at h)

  -- the status of a run, by that
  after : {O : Type 0} (contents : O → Option (List ℕ)) (old new : Output O) (count before : ℕ) (text : List ℕ) (status : ℕ) → failure_of new ≡ Some error
      → status ≡ status_after (error_kind error) before → IsOfArguments reads (take count) read before text → IsRunBy contents old new reads read status
  after contents old new count before text status some same of =
      subst (λ f. IsRunAfter contents old new reads read f status) (sym some) (count, before, text, of, same)

pub returns-in-Ok-Some : goal.returns-in-Ok-Some
returns-in-Ok-Some g c =
    let reads = g.S.ReadDumps.reads c.args.source.now in
    let end = c.in-Ok-Some in
    let some : failure_of c.match-read.out ≡ Some end.error = cc (c.failure.ensures, end.is-1) in
    elim c.match-read.branch [
      | in-Ok w ↦
          let same : failure_of w.obey-status.new.out ≡ Some end.error = cc (ap failure_of w.out-is, some) in
          let is : w.obey-status.result ≡ Ok end.status = cc (w.status-is, end.is-0) in
          let part = first reads c.args.read.now end.error (failure_of w.obey-status.new.out) w.in-Ok.options w.obey-status.result end.status
          w.obey-status.ensures.failed (cc w.in-Ok.is) is same in
          after reads c.args.read.now end.error g.O.Write.contents _ _ part.0 end.status part.1 c.end.result some c.end.ensures part.2
      | in-Err w ↦
          let of : IsOfArguments reads (take 0) c.args.read.now end.status [] = first_of (search rules, grind (arith, common_steps)) in
          after reads c.args.read.now end.error g.O.Write.contents _ _ 0 end.status [] c.end.result some c.end.ensures of
    ]
