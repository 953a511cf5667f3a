-- The whole stream's steps.
use Rattle.std.proofs.Common.{◌≤◌, ◌+◌, length, arith}
use Rattle.std.specs.Prelude.{max}
use Rattle.minidump_bytes.specs.Source.{bytes_of}
use Rattle.minidump_records.proofs.CrashpadLemmas.{crashpad_steps}
use Rattle.minidump_records.proofs.crashpad.info.MinidumpCrashpadInfoMinidumpStream.read.Goals as goal

pub returns-in_err-module_list-clause-within : goal.returns-in_err-module_list-clause-within
returns-in_err-module_list-clause-within c =
    let texts = c.in_ok-simple_annotations.ensures.within in
    let modules = c.in_err-module_list.ensures.within in
    let one : c.read_record.new.steps ≤ c.args.steps.now + 1 = omega (arith, c.read_record.ensures.step) in
    crashpad_steps c.args.steps.now c.read_record.new.steps c.read_dictionary.new.steps c.read_list.new.steps texts.0 modules.0 (length (bytes_of c.args.all))
    (max (length (bytes_of c.args.bytes)) (length (bytes_of c.args.all))) (omega arith) one texts.1 texts.2 modules.1 modules.2

pub returns-clause-within : goal.returns-clause-within
returns-clause-within c =
    let texts = c.in_ok-simple_annotations.ensures.within in
    let modules = c.in_ok-module_list.ensures.within in
    let one : c.read_record.new.steps ≤ c.args.steps.now + 1 = omega (arith, c.read_record.ensures.step) in
    crashpad_steps c.args.steps.now c.read_record.new.steps c.read_dictionary.new.steps c.read_list.new.steps texts.0 modules.0 (length (bytes_of c.args.all))
    (max (length (bytes_of c.args.bytes)) (length (bytes_of c.args.all))) (omega arith) one texts.1 texts.2 modules.1 modules.2
