-- The exception that counts, as a row.
use Rattle.std.specs.Prelude.{ℕ, [], length, min, replicate, Option, unwrap_or}
use Rattle.std.specs.Option.{option_and_then, option_map_or}
use Rattle.crash_threads.specs.Cause.{ExceptionValue}
use Rattle.crash_threads.specs.declared.contexts.ContextProblem.{ContextProblem}
use Rattle.crash_threads.specs.declared.contexts.ContextProblem.TheVariants.{NoSystem, NotAccepted, Outside}
use Rattle.crash_streams.specs.declared.records.Access.{Access}
use Rattle.crash_streams.specs.declared.records.Access.TheVariants.{Execute, Read, Write}
use Rattle.minidump_c.specs.declared.exceptions.ExceptionRow.{ExceptionRow}
use Rattle.minidump_c.specs.Spans.{flag}
use Rattle.minidump_c.specs.Text.{buffer_with}

-- the numbers of how memory was accessed
abbrev pub access_number : Access → ℕ
access_number Read = 1
access_number Write = 2
access_number Execute = 3

-- the numbers of why a context gives no registers
abbrev pub problem_number : ContextProblem → ℕ
problem_number Outside = 1
problem_number NoSystem = 2
problem_number (NotAccepted size) = 3

-- the numbers of the exception that counts, zeros if there is none. Of its parameters 15 fit; zeros
-- follow them
abbrev pub exception_row : Option ExceptionValue → ExceptionRow
exception_row given = let sender = option_and_then (λ e. e.sender) given in record {
  address = option_map_or (λ e. e.at) given 0;
  nested = option_map_or (λ e. e.nested) given 0;
  parameters = buffer_with (option_map_or (λ e. e.parameters) given []) (replicate 15 0);
  thread = option_map_or (λ e. e.thread) given 0;
  code = option_map_or (λ e. e.code) given 0;
  flags = option_map_or (λ e. e.flags) given 0;
  parameter_count = option_map_or (λ e. min (length e.parameters) 15) given 0;
  access = option_map_or access_number (option_and_then (λ e. e.access) given) 0;
  sender = option_map_or (λ s. unwrap_or s.process 0) sender 0;
  sender_user = option_map_or (λ s. unwrap_or s.user 0) sender 0;
  has_exception = flag given;
  is_sent = flag sender;
  has_sender = option_map_or (λ s. flag s.process) sender 0;
  has_sender_user = option_map_or (λ s. flag s.user) sender 0;
  context_problem = option_map_or problem_number (option_and_then (λ e. e.context_problem) given) 0;
}
