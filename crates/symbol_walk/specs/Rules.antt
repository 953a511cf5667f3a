-- The caller of a frame by the rules of its module's symbols.
use Rattle.std.specs.Prelude.{◌≡◌, ℕ, ◌+◌, ◌==◌, ◌&&◌, Bool, true, false, nat_le, nat_lt, List, length}
use Rattle.std.specs.Prelude.{codes, map, is_none, Option, Some, None, if◌then◌else◌}
use Rattle.std.specs.Option.{option_and_then, option_map, option_map_or}
use Rattle.minidump.specs.Below.Contexts.Context.{registers_of, valid_value_in}
use Rattle.minidump.specs.declared.system_info.PointerWidth.{PointerWidth}
use Rattle.minidump.specs.declared.system_info.PointerWidth.TheVariants.{Bits32, Bits64, Unknown}
use Rattle.stack_walk.specs.declared.end.WalkEnd.{WalkEnd}
use Rattle.stack_walk.specs.declared.end.WalkEnd.TheVariants.{NoReturnRule, ZeroReturnAddress}
use Rattle.stack_walk.specs.declared.frame.FrameTrust.{FrameTrust}
use Rattle.stack_walk.specs.declared.frame.FrameTrust.TheVariants.{Context, Cfi}
use Rattle.stack_walk.specs.declared.frame.StackFrame.{StackFrame}
use Rattle.stack_walk.specs.Addresses.{unsigned}
use Rattle.stack_walk.specs.Frames.{StackValue, pointer_at, stack_of}
use Rattle.stack_walk.specs.Lookups.{lookup_address}
use Rattle.breakpad_symbols.specs.AddressWidth.{bits_of}
use Rattle.breakpad_symbols.specs.Caller.{caller_register_at, frame_address_at}
use Rattle.breakpad_symbols.specs.Cfi.{CfiValue, cfi_of, rule_at}
use Rattle.breakpad_symbols.specs.Expression.{StateValue, value_of}
use Rattle.symbol_walk.specs.declared.registers.RegisterSource.{RegisterSource}
use Rattle.symbol_walk.specs.declared.registers.RegisterSource.TheVariants as source
use Rattle.symbol_walk.specs.declared.registers.RegisterRole.{RegisterRole}
use Rattle.symbol_walk.specs.declared.registers.RegisterRole.TheVariants.{InstructionPointer}
use Rattle.symbol_walk.specs.declared.registers.RegisterRole.TheVariants.{StackPointer}
use Rattle.symbol_walk.specs.declared.registers.RegisterRole.TheVariants.{FramePointer as Frame}
use Rattle.symbol_walk.specs.declared.registers.RegisterRole.TheVariants.{Saved, Scratch}
use Rattle.symbol_walk.specs.declared.rules.Return.{Return}
use Rattle.symbol_walk.specs.declared.rules.Rules.{Rules}
use Rattle.symbol_walk.specs.declared.rules.FrameState.{FrameState}
use Rattle.symbol_walk.specs.Registers.{RegisterRow, known_by, known_frame_pointer, known_of}
use Rattle.symbol_walk.specs.Registers.{known_stack_pointer, known_value, labelled_value, row_of}
use Rattle.symbol_walk.specs.Symbols.{cfi_at, symbols_at}
use Rattle.symbol_walk.specs.Unwinder.{FrameValue, UnwinderValue, pointer_value}

-- ---- the rules of a frame

-- the number of bits of an address, if it is known
abbrev pub address_bits : PointerWidth → Option ℕ
address_bits Bits32 = Some 32
address_bits Bits64 = Some 64
address_bits Unknown = None

-- what rules refer to in a frame: its known registers by their labels, and the words of the stack
abbrev pub state_in : StackValue → List RegisterRow → List (List ℕ × ℕ) → ℕ → StateValue
state_in stack table known bits = record {
  bits = bits;
  register = labelled_value table known;
  word = pointer_at stack;
}

-- the same of a `FrameState`
abbrev pub state_of : FrameState → StateValue
state_of s = state_in (stack_of s.stack.now) (map row_of s.table.now) (map known_of s.known.now)
    (bits_of s.width)

-- the rules of a frame: the unwind information, the offset in the module at which it is read, the
-- known registers of the frame, what rules refer to, and how many of the low bits of a return
-- address are its address
pub record RulesValue : Type 0 where
  pub cfi : CfiValue
  pub offset : ℕ
  pub known : List (List ℕ × ℕ)
  pub state : StateValue
  pub code_bits : ℕ

-- the rules of a `Rules`
abbrev pub rules_of : Rules → RulesValue
rules_of r = record {
  cfi = cfi_of r.cfi.now;
  offset = r.offset;
  known = map known_of r.state.known.now;
  state = state_of r.state;
  code_bits = (stack_of r.state.stack.now).code_bits;
}

-- the rules of a frame: those that the symbols of the module have for the address by which it is
-- looked up
unfoldable pub rules_at : UnwinderValue → FrameValue → Option RulesValue
rules_at u f = option_and_then (λ bits. option_and_then (λ address. option_and_then
    (λ p. option_map (λ cfi. record {
      cfi = cfi;
      offset = p.1;
      known = f.registers;
      state = state_in u.stack u.registers f.registers bits;
      code_bits = u.stack.code_bits;
    }) (cfi_at p.0 p.1)) (symbols_at u.stack.modules u.symbols address))
    (lookup_address u.stack.cpu f.frame)) (address_bits u.stack.width)

-- ---- where they return to

-- the canonical frame address, and the return address without the bits that may sign it, where
-- rules have a value for both
unfoldable pub returns : RulesValue → Option Return
returns r = option_and_then (λ frame. option_map
    (λ word. record { frame_address = frame; return_address = unsigned r.code_bits word })
    (caller_register_at r.state r.cfi r.offset frame (codes ".ra")))
    (frame_address_at r.state r.cfi r.offset)

-- why the walk ends by rules: they have none for the return address, or it is 0
abbrev pub end_by : RulesValue → Option WalkEnd
end_by r = if is_none (rule_at r.cfi (codes ".ra") r.offset) then Some NoReturnRule
    else (if option_map_or (λ back. back.return_address == 0) (returns r) false
    then Some ZeroReturnAddress else None)

-- ---- the registers of the caller

-- what the calling convention says of a register that has no rule: the stack pointer of the caller
-- is the canonical frame address, and a saved register has its value in the callee
abbrev pub unruled_value : List (List ℕ × ℕ) → Return → List ℕ → RegisterRole → Option ℕ
unruled_value known back name InstructionPointer = Some back.return_address
unruled_value known back name StackPointer = Some back.frame_address
unruled_value known back name Frame = known_value known name
unruled_value known back name Saved = known_value known name
unruled_value known back name Scratch = None

-- whether a register is the instruction pointer
abbrev pub is_instruction_pointer : RegisterRole → Bool
is_instruction_pointer InstructionPointer = true
is_instruction_pointer _ = false

-- the value of a register in the caller: the instruction pointer is the return address, and any
-- other has the value by its rule, or else by the calling convention
abbrev pub caller_value : RulesValue → Return → RegisterRow → Option ℕ
caller_value r back row = if is_instruction_pointer row.role then Some back.return_address
    else option_map_or (value_of r.state (Some back.frame_address))
    (rule_at r.cfi row.label r.offset) (unruled_value r.known back row.name row.role)

-- the value of a register, by what those of its frame are found by
abbrev pub value_by : RegisterSource → RegisterRow → Option ℕ
value_by (source.Context c) row = valid_value_in c.now.valid (registers_of c.now.raw) row.name
value_by (source.Pointers f) row = pointer_value f row.role
value_by (source.Rules r back) row = caller_value (rules_of r.now) back row

-- ---- the caller

-- whether a frame is that of a context
abbrev pub is_of_context : FrameTrust → Bool
is_of_context Context = true
is_of_context _ = false

-- whether an address lies on the stack, or is the one after it
abbrev pub is_on_stack : StackValue → ℕ → Bool
is_on_stack s address = option_map_or (λ r. nat_le r.base_address address
    && nat_le address (r.base_address + length r.bytes)) s.region false

-- whether the stack of a frame goes on at an address, as the stack pointer of its caller: it is
-- above that of the frame. That of a context may be it: a function that has pushed nothing, with
-- its return address in a register, has its caller's
unfoldable pub goes_on : StackValue → StackFrame → ℕ → Bool
goes_on s f address = is_on_stack s address && (if is_of_context f.trust
    then nat_le f.stack_pointer address else nat_lt f.stack_pointer address)

-- the caller with these registers, if the stack goes on at its stack pointer
abbrev pub caller_with : UnwinderValue → StackFrame → Return → List (List ℕ × ℕ) → Option FrameValue
caller_with u f back registers = option_and_then (λ stack_pointer.
    if goes_on u.stack f stack_pointer then Some (record {
      frame = record {
        instruction = back.return_address;
        stack_pointer = stack_pointer;
        frame_pointer = known_frame_pointer u.registers registers;
        trust = Cfi;
      };
      registers = registers;
    })
    else None) (known_stack_pointer u.registers registers)

-- the caller of a frame by its rules
abbrev pub caller_by : UnwinderValue → StackFrame → RulesValue → Option FrameValue
caller_by u f r = option_and_then
    (λ back. caller_with u f back (known_by (caller_value r back) u.registers)) (returns r)

-- a frame is the caller of another by its rules: these return to its instruction, and its registers
-- have the values that they and the calling convention give by those of the callee
pub record IsByRules (u : UnwinderValue) (f g : FrameValue) : Type 0 where
  pub rules : RulesValue
  pub back : Return
  pub has_rules : rules_at u f ≡ Some rules
  pub has_return : returns rules ≡ Some back
  pub instruction : g.frame.instruction ≡ back.return_address
  pub registers : g.registers ≡ known_by (caller_value rules back) u.registers
