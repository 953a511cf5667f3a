-- Where and why a process crashed, as JSON.
use Rattle.std.specs.Prelude.{ℕ, List, [], ◌∷◌, ◌++◌, codes, Option, Result}
use Rattle.std.specs.Option.{option_and_then, option_map}
use Rattle.std.specs.Result.{result_err, result_ok}
use Rattle.json.specs.Json.{Json, boolean, string}
use Rattle.minidump.specs.declared.Error.{Error}
use Rattle.minidump.specs.declared.format.MINIDUMP_ASSERTION_INFO.{MINIDUMP_ASSERTION_INFO}
use Rattle.minidump.specs.Below.Bytes.Text16.{text_before_nul}
use Rattle.minidump.specs.Below.Format.Error.{name_of_error}
use Rattle.crash_threads.specs.declared.addresses.AddressFacts.{AddressFacts}
use Rattle.crash_threads.specs.declared.addresses.AddressMemory.{AddressMemory}
use Rattle.crash_threads.specs.declared.addresses.AddressMemory.TheVariants.{Committed, Free, Reserved}
use Rattle.crash_threads.specs.declared.contexts.ContextProblem.{ContextProblem}
use Rattle.crash_threads.specs.declared.contexts.ContextProblem.TheVariants.{NoSystem, NotAccepted, Outside}
use Rattle.crash_streams.specs.declared.records.Access.{Access}
use Rattle.crash_streams.specs.declared.records.Access.TheVariants.{Execute, Read, Write}
use Rattle.crash_streams.specs.declared.records.Sender.{Sender}
use Rattle.crash_threads.specs.Addresses.{rights_of}
use Rattle.crash_threads.specs.Cause.{ExceptionValue, counted_exception}
use Rattle.crash_threads.specs.Contexts.{unaccepted_size}
use Rattle.crash.specs.Crash.{CrashValue}
use Rattle.crash_streams.specs.Records.{signal_code_name}
use Rattle.crash_json.specs.Tree.{array_of, count, hex_string, object_of, or_null}

-- ---- the crash

-- the expression of an assertion
abbrev pub expression_in : Result MINIDUMP_ASSERTION_INFO Error → Option (List ℕ)
expression_in a = option_and_then (λ a. text_before_nul a.expression) (result_ok a)

-- the crash: by the exception that counts
unfoldable pub crash_info_json : CrashValue → Json
crash_info_json c = object_of ((
  codes "type",
  or_null string (option_and_then (λ e. e.reason) (counted_exception c.cause)),
)
    ∷ (
      codes "address",
      or_null hex_string (option_and_then (λ e. e.address) (counted_exception c.cause)),
    )
    ∷ (codes "crashing_thread", or_null count c.threads.crashing)
    ∷ (codes "assertion", or_null string (expression_in c.contents.messages.assertion))
    ∷ [])

-- ---- exceptions

-- the words for why a context isn't used
abbrev pub problem_name : ContextProblem → List ℕ
problem_name Outside = codes "outside"
problem_name NoSystem = codes "no system"
problem_name (NotAccepted size) = codes "not accepted"

-- the word for how memory was accessed
abbrev pub access_name : Access → List ℕ
access_name Read = codes "read"
access_name Write = codes "write"
access_name Execute = codes "execute"

-- the process that sent a signal, its user, and the name of the signal's `si_code`
unfoldable pub sender_json : Sender → Json
sender_json s = object_of (
    (codes "process_id", or_null count s.process)
    ∷ (codes "user_id", or_null count s.user)
    ∷ (codes "code", string (signal_code_name s.code))
    ∷ [])

-- an exception: what its record says, and null for the error; or null for each, and the name of the error
unfoldable pub exception_json : Result ExceptionValue Error → Json
exception_json read = let e = result_ok read in object_of (
    (codes "thread_id", or_null (λ e. count e.thread) e)
    ∷ (codes "code", or_null (λ e. hex_string e.code) e)
    ∷ (codes "flags", or_null (λ e. hex_string e.flags) e)
    ∷ (codes "exception_address", or_null (λ e. hex_string e.at) e)
    ∷ (codes "nested", or_null (λ e. hex_string e.nested) e)
    ∷ (codes "parameters", or_null (λ e. array_of hex_string e.parameters) e)
    ∷ (codes "access", or_null (λ e. or_null string (option_map access_name e.access)) e)
    ∷ (codes "sender", or_null (λ e. or_null sender_json e.sender) e)
    ∷ (codes "address", or_null (λ e. or_null hex_string e.address) e)
    ∷ (codes "type", or_null (λ e. or_null string e.reason) e)
    ∷ (codes "description", or_null (λ e. or_null string e.description) e)
    ∷ (codes "context_problem", or_null (λ e. or_null string (option_map problem_name e.context_problem)) e)
    ∷ (codes "context_size", or_null (λ e. or_null count (unaccepted_size e.context_problem)) e)
    ∷ (codes "error", or_null string (option_map name_of_error (result_err read)))
    ∷ [])

-- ---- the address

-- the word for the state of memory
abbrev pub state_name : AddressMemory → List ℕ
state_name Free = codes "free"
state_name Reserved = codes "reserved"
state_name (Committed _) = codes "committed"

-- the memory that contains an address: null for each right, unless it is committed
unfoldable pub memory_json : AddressMemory → Json
memory_json m = let rights = rights_of m in object_of (
    (codes "state", string (state_name m))
    ∷ (codes "is_readable", or_null boolean (option_map (λ r. r.is_readable) rights))
    ∷ (codes "is_writable", or_null boolean (option_map (λ r. r.is_writable) rights))
    ∷ (codes "is_executable", or_null boolean (option_map (λ r. r.is_executable) rights))
    ∷ (codes "is_guarded", or_null boolean (option_map (λ r. r.is_guarded) rights))
    ∷ [])

-- the index of a module and the offset in it
abbrev pub place_members : Option (ℕ × ℕ) → List (List ℕ × Json)
place_members place = (codes "module", or_null count (option_map (λ p. p.0) place))
    ∷ (codes "module_offset", or_null hex_string (option_map (λ p. p.1) place)) ∷ []

-- what is known of an address, as members
unfoldable pub address_members : AddressFacts → List (List ℕ × Json)
address_members a =
    (codes "address", hex_string a.address)
    ∷ (codes "null_offset", or_null hex_string a.null_offset)
    ∷ (codes "is_canonical", boolean a.is_canonical)
    ∷ (place_members a.module
    ++ ((codes "unloaded_module", or_null count a.unloaded)
    ∷ (codes "stack_of", or_null count a.stack_of)
    ∷ (codes "below_stack", or_null count a.below_stack)
    ∷ (codes "memory", or_null memory_json a.memory)
    ∷ []))

-- what is known of an address
abbrev pub address_json : AddressFacts → Json
address_json a = object_of (address_members a)
