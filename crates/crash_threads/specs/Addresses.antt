-- Where the stacks of threads are, and what is known of an address: where it lies among the modules, the
-- stacks and the regions.
use Rattle.std.specs.Prelude.{ℕ, ◌-◌, ◌^◌, ◌==◌, ◌&&◌, ◌||◌, nat_le, nat_lt, Bool, true, false, List, []}
use Rattle.std.specs.Prelude.{Option, Some, None, is_none, is_some, not, unwrap_or, if◌then◌else◌}
use Rattle.std.specs.Option.{option_map, option_map_or}
use Rattle.std.specs.Result.{result_ok}
use Rattle.minidump.specs.declared.format.MINIDUMP_MEMORY_DESCRIPTOR.{MINIDUMP_MEMORY_DESCRIPTOR}
use Rattle.minidump.specs.declared.system_info.Cpu.{Cpu}
use Rattle.minidump.specs.declared.system_info.Cpu.TheVariants.{X86_64}
use Rattle.minidump.specs.Below.Format.Flags.{has_flag}
use Rattle.minidump.specs.Below.Index.Lookup.{has_address, looked_up}
use Rattle.minidump.specs.Below.MemoryLists.UnifiedInfo.{InfoRegion, OfInfo, OfMaps, info_regions}
use Rattle.minidump.specs.Below.MemoryLists.UnifiedInfo.{range_of_info_region, region_is_executable}
use Rattle.minidump.specs.Below.MemoryLists.UnifiedInfo.{region_is_readable, region_is_writable}
use Rattle.minidump.specs.Below.Modules.UnloadedModule.{UnloadedValue, range_of_unloaded}
use Rattle.minidump.specs.Below.System.System.{System}
use Rattle.minidump.specs.Thread.{Thread, stack_of}
use Rattle.stack_walk.specs.Lookups.{module_place}
use Rattle.crash_threads.specs.declared.addresses.AddressFacts.{AddressFacts}
use Rattle.crash_threads.specs.declared.addresses.AddressMemory.{AddressMemory}
use Rattle.crash_threads.specs.declared.addresses.AddressMemory.TheVariants.{Committed, Free, Reserved}
use Rattle.crash_threads.specs.declared.addresses.MemoryRights.{MemoryRights}
use Rattle.crash_threads.specs.declared.stacks.StackRange.{StackRange}
use Rattle.crash_streams.specs.Contents.{ContentsValue}
use Rattle.crash_threads.specs.Contexts.{system_of}
use Rattle.crash_threads.specs.Last.{last_index}

-- the address, where it is in the 64 KiB from 0 on, which Windows doesn't map, nor Linux by default but on
-- ARM
abbrev pub null_offset : ℕ → Option ℕ
null_offset address = if nat_lt address 0x1_0000 then Some address else None

-- bits 47 to 63 of an address of x86-64 are alike, with 48-bit addresses: 57-bit addresses are not told apart. Other
-- processors have no such rule here
abbrev pub canonical_on : Cpu → ℕ → Bool
canonical_on X86_64 address = nat_lt address (2 ^ 47) || nat_le (2 ^ 64 - 2 ^ 47) address
canonical_on _ address = true

-- the same where the system is known
abbrev pub is_canonical : Option System → ℕ → Bool
is_canonical system address = option_map_or (λ s. canonical_on s.cpu address) system true

-- the index of the last unloaded module that contains an address
abbrev pub unloaded_at : List UnloadedValue → ℕ → Option ℕ
unloaded_at modules address = last_index (has_address range_of_unloaded address) modules

-- ---- stacks

-- where a stack is, as an entry names it: nowhere if it is empty
abbrev pub named_stack : MINIDUMP_MEMORY_DESCRIPTOR → Option StackRange
named_stack stack = if stack.memory.data_size == 0 then None
    else Some (record { base = stack.start_of_memory_range; size = stack.memory.data_size })

-- the memory of a stack: the thread's own, else the kept region in which it begins
abbrev pub stack_memory : ContentsValue → Thread → Option StackRange
stack_memory c t = option_map (λ r. record { base = r.base_address; size = r.size })
    (stack_of (Some c.space.memory) t)

-- a thread names bytes of a stack that are not in the file
abbrev pub is_outside : Thread → Bool
is_outside t = not (t.raw.stack.memory.rva == 0)
    && (not (t.raw.stack.memory.data_size == 0) && is_none t.stack)

-- a stack, as a thread names it, contains an address
abbrev pub has_stack : ℕ → Option StackRange → Bool
has_stack address (Some s) = nat_le s.base address && nat_lt (address - s.base) s.size
has_stack address None = false

-- a stack begins above an address, by at most a page of 4,096 bytes
abbrev pub is_below_stack : ℕ → Option StackRange → Bool
is_below_stack address (Some s) = nat_lt address s.base && nat_le (s.base - address) 4096
is_below_stack address None = false

-- the index of the last thread whose stack contains an address, and that of the last whose stack
-- begins that much above it
abbrev pub stack_at : List Thread → ℕ → Option ℕ
stack_at threads address = last_index (λ t. has_stack address (named_stack t.raw.stack)) threads

abbrev pub stack_above : List Thread → ℕ → Option ℕ
stack_above threads address =
    last_index (λ t. is_below_stack address (named_stack t.raw.stack)) threads

-- ---- memory

-- memory in a state by its number: winnt.h's MEM_FREE and MEM_RESERVE, and committed, with these rights,
-- in any other, as MEM_COMMIT
abbrev pub memory_in : ℕ → MemoryRights → AddressMemory
memory_in state rights = if state == 0x1_0000 then Free
    else (if state == 0x2000 then Reserved else Committed rights)

-- a region is guarded: winnt.h's PAGE_GUARD
abbrev pub is_guarded : InfoRegion → Bool
is_guarded (OfInfo m) = has_flag m.protection 0x100
is_guarded (OfMaps m) = false

-- a region may be read, and is copied where it is written: winnt.h's PAGE_WRITECOPY and PAGE_EXECUTE_WRITECOPY
abbrev pub is_copied : InfoRegion → Bool
is_copied (OfInfo m) = has_flag m.protection 0x8 || has_flag m.protection 0x80
is_copied (OfMaps m) = false

-- the rights of a region, if it is committed
abbrev pub region_rights : InfoRegion → MemoryRights
region_rights region = record {
  is_readable = region_is_readable region || is_copied region;
  is_writable = region_is_writable region;
  is_executable = region_is_executable region;
  is_guarded = is_guarded region;
}

-- the memory of a region: that of a line of the maps is committed
abbrev pub memory_of : InfoRegion → AddressMemory
memory_of (OfInfo m) = memory_in m.raw.state (region_rights (OfInfo m))
memory_of (OfMaps m) = Committed (region_rights (OfMaps m))

-- the memory of the kept region that contains an address
abbrev pub memory_at : ContentsValue → ℕ → Option AddressMemory
memory_at c address = option_map memory_of
    (looked_up range_of_info_region (info_regions c.space.infos) address)

-- the rights of memory, where it is committed
abbrev pub rights_of : AddressMemory → Option MemoryRights
rights_of Free = None
rights_of Reserved = None
rights_of (Committed rights) = Some rights

-- memory may be run as code
abbrev pub is_executable : AddressMemory → Bool
is_executable m = option_map_or (λ r. r.is_executable) (rights_of m) false

-- ---- all of it

-- an address lies in a module, an unloaded module, or the stack of a thread
abbrev pub is_placed : AddressFacts → Bool
is_placed f = is_some f.«module» || is_some f.unloaded || is_some f.stack_of

-- what is known of an address
abbrev pub facts_of : ContentsValue → ℕ → AddressFacts
facts_of c address = record {
  address = address;
  null_offset = null_offset address;
  is_canonical = is_canonical (system_of c) address;
  «module» = module_place c.space.modules address;
  unloaded = unloaded_at (unwrap_or (result_ok c.space.unloaded) []) address;
  stack_of = stack_at (unwrap_or (result_ok c.threads.threads) []) address;
  below_stack = stack_above (unwrap_or (result_ok c.threads.threads) []) address;
  memory = memory_at c address;
}
