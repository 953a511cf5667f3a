-- What is known of the address of a crash, as a row.
use Rattle.std.specs.Prelude.{ℕ, Option, unwrap_or}
use Rattle.std.specs.Option.{option_and_then, option_map_or}
use Rattle.crash_threads.specs.declared.addresses.AddressFacts.{AddressFacts}
use Rattle.crash_threads.specs.declared.addresses.AddressMemory.{AddressMemory}
use Rattle.crash_threads.specs.declared.addresses.AddressMemory.TheVariants.{Committed, Free, Reserved}
use Rattle.crash_threads.specs.Addresses.{rights_of}
use Rattle.minidump_c.specs.declared.facts.FactsRow.{FactsRow}
use Rattle.minidump_c.specs.Spans.{bit, flag}

-- the numbers of the states of memory
abbrev pub state_number : AddressMemory → ℕ
state_number Free = 1
state_number Reserved = 2
state_number (Committed _) = 3

-- the numbers of the address of a crash: 0 for what is unknown, and if it has none
abbrev pub facts_row : Option AddressFacts → FactsRow
facts_row given = let memory = option_and_then (λ a. a.memory) given in
    let rights = option_and_then rights_of memory in record {
      address = option_map_or (λ a. a.address) given 0;
      null_offset = option_map_or (λ a. unwrap_or a.null_offset 0) given 0;
      module_offset = option_map_or (λ p. p.1) (option_and_then (λ a. a.module) given) 0;
      «module» = option_map_or (λ p. p.0) (option_and_then (λ a. a.module) given) 0;
      unloaded = option_map_or (λ a. unwrap_or a.unloaded 0) given 0;
      stack_of = option_map_or (λ a. unwrap_or a.stack_of 0) given 0;
      below_stack = option_map_or (λ a. unwrap_or a.below_stack 0) given 0;
      memory_state = option_map_or state_number memory 0;
      has_address = flag given;
      has_null_offset = option_map_or (λ a. flag a.null_offset) given 0;
      is_canonical = option_map_or (λ a. bit a.is_canonical) given 0;
      has_module = option_map_or (λ a. flag a.module) given 0;
      has_unloaded = option_map_or (λ a. flag a.unloaded) given 0;
      has_stack_of = option_map_or (λ a. flag a.stack_of) given 0;
      has_below_stack = option_map_or (λ a. flag a.below_stack) given 0;
      has_memory = flag memory;
      is_readable = option_map_or (λ r. bit r.is_readable) rights 0;
      is_writable = option_map_or (λ r. bit r.is_writable) rights 0;
      is_executable = option_map_or (λ r. bit r.is_executable) rights 0;
      is_guarded = option_map_or (λ r. bit r.is_guarded) rights 0;
    }
