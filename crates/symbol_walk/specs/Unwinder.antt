-- What the frames of a thread are found by, and a frame with what is known of its registers.
use Rattle.std.specs.Prelude.{ℕ, List, map, Option, Some, None}
use Rattle.std.specs.Option.{option_map}
use Rattle.minidump.specs.declared.MinidumpContext.{MinidumpContext}
use Rattle.minidump.specs.Below.Contexts.Context.{registers_of, valid_value_in}
use Rattle.stack_walk.specs.declared.frame.StackFrame.{StackFrame}
use Rattle.stack_walk.specs.Frames.{StackValue, context_frame, stack_of}
use Rattle.breakpad_symbols.specs.SymbolFile.{SymbolsValue, symbols_of}
use Rattle.symbol_walk.specs.declared.walk.KnownFrame.{KnownFrame}
use Rattle.symbol_walk.specs.declared.registers.RegisterRole.{RegisterRole}
use Rattle.symbol_walk.specs.declared.registers.RegisterRole.TheVariants.{InstructionPointer}
use Rattle.symbol_walk.specs.declared.registers.RegisterRole.TheVariants.{StackPointer}
use Rattle.symbol_walk.specs.declared.registers.RegisterRole.TheVariants.{FramePointer}
use Rattle.symbol_walk.specs.declared.walk.Unwinder.{Unwinder}
use Rattle.symbol_walk.specs.Registers.{RegisterRow, known_by, known_of, register_table, row_of}

-- the stack of a thread, the symbols of its modules by their index, and the registers of its
-- processor
pub record UnwinderValue : Type 0 where
  pub stack : StackValue
  pub symbols : List (Option SymbolsValue)
  pub registers : List RegisterRow

-- the same of an `Unwinder`
abbrev pub unwinder_of : Unwinder → UnwinderValue
unwinder_of u = record {
  stack = stack_of u.stack.now;
  symbols = map (option_map (λ s. symbols_of s.now)) u.symbols.now;
  registers = map row_of u.registers.now;
}

-- a frame, and the registers of it that are known, each its name and its value
pub record FrameValue : Type 0 where
  pub frame : StackFrame
  pub registers : List (List ℕ × ℕ)

-- the same of a `KnownFrame`
abbrev pub frame_of : KnownFrame → FrameValue
frame_of f = record { frame = f.frame; registers = map known_of f.registers.items }

-- the frame of a context: of its registers the valid ones are known
abbrev pub first_frame : MinidumpContext → FrameValue
first_frame c = record {
  frame = context_frame c;
  registers = known_by (λ r. valid_value_in c.valid (registers_of c.raw) r.name)
      (register_table c.raw);
}

-- the value that the pointers of a frame give a register with a role
abbrev pub pointer_value : StackFrame → RegisterRole → Option ℕ
pointer_value f InstructionPointer = Some f.instruction
pointer_value f StackPointer = Some f.stack_pointer
pointer_value f FramePointer = f.frame_pointer
pointer_value f _ = None

-- a frame of whose registers only the pointers are known
abbrev pub pointer_frame : UnwinderValue → StackFrame → FrameValue
pointer_frame u f = record {
  frame = f;
  registers = known_by (λ r. pointer_value f r.role) u.registers;
}
