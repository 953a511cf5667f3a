-- What the error is said of, a colon, its name and the end of the line, one after another.
use Rattle.std.proofs.Common.{◌++◌, codes}
use Rattle.minidump.specs.Below.Format.Error.{name_of_error}
use Rattle.minidump.proofs.Printing.{prints_exit, prints_then}
use Rattle.mdump.proofs.program.put_error.Goals as goal

pub returns-in_err-put_text-clause-prints : goal.returns-in_err-put_text-clause-prints
returns-in_err-put_text-clause-prints g c =
    prints_exit g.E.Write.contents _ _ c.args.subject.now (codes ": " ++ (name_of_error c.args.error ++ codes "\n")) _ _
    c.from_residual.ensures.1 c.in_err-put_text.ensures.prints

pub returns-in_err-put_text-2-clause-prints : goal.returns-in_err-put_text-2-clause-prints
returns-in_err-put_text-2-clause-prints g c =
    prints_then g.E.Write.contents _ _ _ c.args.subject.now (codes ": " ++ (name_of_error c.args.error ++ codes "\n")) _ c.in_ok-put_text.ensures.prints
    (prints_exit g.E.Write.contents _ _ (codes ": ") (name_of_error c.args.error ++ codes "\n") _ _
    c.from_residual-in_err-put_text-2.ensures.1 c.in_err-put_text-2.ensures.prints)

pub returns-in_err-put_text-3-clause-prints : goal.returns-in_err-put_text-3-clause-prints
returns-in_err-put_text-3-clause-prints g c =
    prints_then g.E.Write.contents _ _ _ c.args.subject.now (codes ": " ++ (name_of_error c.args.error ++ codes "\n")) _ c.in_ok-put_text.ensures.prints
    (prints_then g.E.Write.contents _ _ _ (codes ": ") (name_of_error c.args.error ++ codes "\n") _ c.in_ok-put_text-2.ensures.prints
    (prints_exit g.E.Write.contents _ _ (name_of_error c.args.error) (codes "\n") _ _
    c.from_residual-in_err-put_text-3.ensures.1 (rw c.name.ensures at c.in_err-put_text-3.ensures.prints)))

pub returns-clause-prints : goal.returns-clause-prints
returns-clause-prints g c =
    prints_then g.E.Write.contents _ _ _ c.args.subject.now (codes ": " ++ (name_of_error c.args.error ++ codes "\n")) _ c.in_ok-put_text.ensures.prints
    (prints_then g.E.Write.contents _ _ _ (codes ": ") (name_of_error c.args.error ++ codes "\n") _ c.in_ok-put_text-2.ensures.prints
    (prints_then g.E.Write.contents _ _ _ (name_of_error c.args.error) (codes "\n") _ (rw c.name.ensures at c.in_ok-put_text-3.ensures.prints)
    c.put_text-4.ensures.prints))
