-- The printed texts of contexts: a line for each register, its value in hexadecimal.
use Rattle.std.specs.Prelude.{ℕ, List, [], ◌∷◌, ◌++◌, codes, slice_index, take}
use Rattle.std.specs.Fmt.{decimal}
use Rattle.std.specs.List.{concat, enumerate_from, flat_map}
use Rattle.hex.specs.Hex.{encode_lower}
use Rattle.minidump_bytes.specs.Piece.{hex, left, right}
use Rattle.minidump_format.specs.declared.format.context.amd64.CONTEXT_AMD64.{CONTEXT_AMD64}
use Rattle.minidump_format.specs.declared.format.context.arm.CONTEXT_ARM.{CONTEXT_ARM}
use Rattle.minidump_format.specs.declared.format.context.arm64.CONTEXT_ARM64.{CONTEXT_ARM64}
use Rattle.minidump_format.specs.declared.format.context.arm64.CONTEXT_ARM64_OLD.{CONTEXT_ARM64_OLD}
use Rattle.minidump_format.specs.declared.format.context.x86.CONTEXT_X86.{CONTEXT_X86}
use Rattle.minidump_format.specs.Text.{line_end}
use Rattle.minidump_context.specs.declared.print.lines.Front.{Front}
use Rattle.minidump_context.specs.declared.print.lines.Front.TheVariants.{Left, Right}
use Rattle.minidump_context.specs.declared.raw_context.MinidumpRawContext.{MinidumpRawContext}
use Rattle.minidump_context.specs.declared.raw_context.MinidumpRawContext.TheVariants.{X86, Amd64, Arm, Arm64, OldArm64}

-- the line of a register: the text in front of its value, and the value
unfoldable pub register_line : List ℕ → ℕ → List ℕ
register_line front value = front ++ (hex value ++ line_end)

-- the text in front of the value of a numbered register, the number at the left of its two columns
abbrev pub left_front : List ℕ → List ℕ → ℕ → List ℕ
left_front before after number = before ++ (left 2 (decimal number) ++ after)

-- the text in front of the value of a numbered register, the number at the right of its two columns
abbrev pub right_front : List ℕ → List ℕ → ℕ → List ℕ
right_front before after number = before ++ (right 2 (decimal number) ++ after)

-- the text in front of the value of a numbered register
abbrev pub front_text : Front → ℕ → List ℕ
front_text (Left before after) = left_front before.now after.now
front_text (Right before after) = right_front before.now after.now

-- the lines of numbered registers, by the text in front of the value of each
abbrev pub numbered_lines : (ℕ → List ℕ) → List ℕ → List ℕ
numbered_lines front values =
    flat_map (λ r. register_line (front r.0) r.1) (enumerate_from 0 values)

-- the line of a register of many bytes, with two digits for each byte
unfoldable pub bytes_line : List ℕ → List ℕ → List ℕ
bytes_line front bytes = front ++ (encode_lower bytes ++ line_end)

-- the lines of ContextFlags, the debug registers and the words of FLOATING_SAVE_AREA
unfoldable pub x86_debug_lines : CONTEXT_X86 → List ℕ
x86_debug_lines c = concat (
    register_line (codes "  context_flags                = ") c.context_flags
    ∷ register_line (codes "  dr0                          = ") c.dr0
    ∷ register_line (codes "  dr1                          = ") c.dr1
    ∷ register_line (codes "  dr2                          = ") c.dr2
    ∷ register_line (codes "  dr3                          = ") c.dr3
    ∷ register_line (codes "  dr6                          = ") c.dr6
    ∷ register_line (codes "  dr7                          = ") c.dr7
    ∷ register_line (codes "  float_save.control_word      = ") c.float_save.control_word
    ∷ register_line (codes "  float_save.status_word       = ") c.float_save.status_word
    ∷ register_line (codes "  float_save.tag_word          = ") c.float_save.tag_word
    ∷ register_line (codes "  float_save.error_offset      = ") c.float_save.error_offset
    ∷ register_line (codes "  float_save.error_selector    = ") c.float_save.error_selector
    ∷ register_line (codes "  float_save.data_offset       = ") c.float_save.data_offset
    ∷ register_line (codes "  float_save.data_selector     = ") c.float_save.data_selector
    ∷ [])

-- the lines of Cr0NpxState, the segment registers, the integer registers and the control registers
unfoldable pub x86_lines : CONTEXT_X86 → List ℕ
x86_lines c = concat (
    register_line (codes "  float_save.cr0_npx_state     = ") c.float_save.cr0_npx_state
    ∷ register_line (codes "  gs                           = ") c.gs
    ∷ register_line (codes "  fs                           = ") c.fs
    ∷ register_line (codes "  es                           = ") c.es
    ∷ register_line (codes "  ds                           = ") c.ds
    ∷ register_line (codes "  edi                          = ") c.edi
    ∷ register_line (codes "  esi                          = ") c.esi
    ∷ register_line (codes "  ebx                          = ") c.ebx
    ∷ register_line (codes "  edx                          = ") c.edx
    ∷ register_line (codes "  ecx                          = ") c.ecx
    ∷ register_line (codes "  eax                          = ") c.eax
    ∷ register_line (codes "  ebp                          = ") c.ebp
    ∷ register_line (codes "  eip                          = ") c.eip
    ∷ register_line (codes "  cs                           = ") c.cs
    ∷ register_line (codes "  eflags                       = ") c.eflags
    ∷ register_line (codes "  esp                          = ") c.esp
    ∷ register_line (codes "  ss                           = ") c.ss
    ∷ [])

-- the text of a context of x86, CONTEXT_X86: RegisterArea is 80 bytes, and ExtendedRegisters 512
unfoldable pub x86_text : CONTEXT_X86 → List ℕ
x86_text c =
    codes "CONTEXT_X86\n"
    ++ (x86_debug_lines c
    ++ (bytes_line (codes "  float_save.register_area[80] = 0x") c.float_save.register_area
    ++ (x86_lines c
    ++ (bytes_line (codes "  extended_registers[512]      = 0x") c.extended_registers
    ++ line_end))))

-- the lines of the fields from P1Home to Rip. The fields after Rip, the float and vector registers
-- among them, have none
unfoldable pub amd64_lines : CONTEXT_AMD64 → List ℕ
amd64_lines c = concat (
    register_line (codes "  p1_home       = ") c.p1_home
    ∷ register_line (codes "  p2_home       = ") c.p2_home
    ∷ register_line (codes "  p3_home       = ") c.p3_home
    ∷ register_line (codes "  p4_home       = ") c.p4_home
    ∷ register_line (codes "  p5_home       = ") c.p5_home
    ∷ register_line (codes "  p6_home       = ") c.p6_home
    ∷ register_line (codes "  context_flags = ") c.context_flags
    ∷ register_line (codes "  mx_csr        = ") c.mx_csr
    ∷ register_line (codes "  cs            = ") c.cs
    ∷ register_line (codes "  ds            = ") c.ds
    ∷ register_line (codes "  es            = ") c.es
    ∷ register_line (codes "  fs            = ") c.fs
    ∷ register_line (codes "  gs            = ") c.gs
    ∷ register_line (codes "  ss            = ") c.ss
    ∷ register_line (codes "  eflags        = ") c.eflags
    ∷ register_line (codes "  dr0           = ") c.dr0
    ∷ register_line (codes "  dr1           = ") c.dr1
    ∷ register_line (codes "  dr2           = ") c.dr2
    ∷ register_line (codes "  dr3           = ") c.dr3
    ∷ register_line (codes "  dr6           = ") c.dr6
    ∷ register_line (codes "  dr7           = ") c.dr7
    ∷ register_line (codes "  rax           = ") c.rax
    ∷ register_line (codes "  rcx           = ") c.rcx
    ∷ register_line (codes "  rdx           = ") c.rdx
    ∷ register_line (codes "  rbx           = ") c.rbx
    ∷ register_line (codes "  rsp           = ") c.rsp
    ∷ register_line (codes "  rbp           = ") c.rbp
    ∷ register_line (codes "  rsi           = ") c.rsi
    ∷ register_line (codes "  rdi           = ") c.rdi
    ∷ register_line (codes "  r8            = ") c.r8
    ∷ register_line (codes "  r9            = ") c.r9
    ∷ register_line (codes "  r10           = ") c.r10
    ∷ register_line (codes "  r11           = ") c.r11
    ∷ register_line (codes "  r12           = ") c.r12
    ∷ register_line (codes "  r13           = ") c.r13
    ∷ register_line (codes "  r14           = ") c.r14
    ∷ register_line (codes "  r15           = ") c.r15
    ∷ register_line (codes "  rip           = ") c.rip
    ∷ [])

-- the text of a context of x86-64, CONTEXT_AMD64
unfoldable pub amd64_text : CONTEXT_AMD64 → List ℕ
amd64_text c =
    codes "CONTEXT_AMD64\n"
    ++ (amd64_lines c
    ++ line_end)

-- the line of ContextFlags
unfoldable pub arm_flags_line : CONTEXT_ARM → List ℕ
arm_flags_line c = register_line (codes "  context_flags       = ") c.context_flags

-- the lines of iregs, the registers r0 to r15
unfoldable pub arm_iregs_lines : CONTEXT_ARM → List ℕ
arm_iregs_lines c =
    numbered_lines (right_front (codes "  iregs[") (codes "]            = ")) c.iregs

-- the lines of the status registers: cpsr, and fpscr of the float area
unfoldable pub arm_status_lines : CONTEXT_ARM → List ℕ
arm_status_lines c =
    register_line (codes "  cpsr                = ") c.cpsr
    ++ register_line (codes "  float_save.fpscr     = ") c.float_save.fpscr

-- the lines of the 32 float registers and of the 8 further words of the float area
unfoldable pub arm_float_lines : CONTEXT_ARM → List ℕ
arm_float_lines c =
    numbered_lines (right_front (codes "  float_save.regs[") (codes "] = ")) c.float_save.regs
    ++ numbered_lines (right_front (codes "  float_save.extra[") (codes "] = ")) c.float_save.extra

-- the text of a context of ARM, CONTEXT_ARM
unfoldable pub arm_text : CONTEXT_ARM → List ℕ
arm_text c =
    codes "CONTEXT_ARM\n"
    ++ (arm_flags_line c
    ++ (arm_iregs_lines c
    ++ (arm_status_lines c
    ++ arm_float_lines c)))

-- the lines of x0 to x28
unfoldable pub x_lines : List ℕ → List ℕ
x_lines iregs =
    numbered_lines (left_front (codes "  x") (codes "                  = ")) (take 29 iregs)

-- the lines of x29, x30, the stack pointer, the instruction pointer and the status registers
unfoldable pub state_lines : List ℕ → ℕ → ℕ → ℕ → ℕ → ℕ → List ℕ
state_lines iregs sp pc cpsr fpsr fpcr = concat (
    register_line (codes "  x29 (fp)             = ") (slice_index iregs 29)
    ∷ register_line (codes "  x30 (lr)             = ") (slice_index iregs 30)
    ∷ register_line (codes "  sp                   = ") sp
    ∷ register_line (codes "  pc                   = ") pc
    ∷ register_line (codes "  cpsr                 = ") cpsr
    ∷ register_line (codes "  fpsr                 = ") fpsr
    ∷ register_line (codes "  fpcr                 = ") fpcr
    ∷ [])

-- the lines of the 32 float registers, d0 to d31
unfoldable pub d_lines : List ℕ → List ℕ
d_lines float_regs = numbered_lines (left_front (codes "  d") (codes " = ")) float_regs

-- the lines that the two layouts of ARM64 have in common
unfoldable pub arm64_lines : List ℕ → ℕ → ℕ → ℕ → ℕ → ℕ → List ℕ → List ℕ
arm64_lines iregs sp pc cpsr fpsr fpcr float_regs =
    x_lines iregs ++ (state_lines iregs sp pc cpsr fpsr fpcr ++ d_lines float_regs)

-- the lines of the registers of hardware breakpoints and watchpoints: control and value
unfoldable pub watch_lines : CONTEXT_ARM64 → List ℕ
watch_lines c =
    numbered_lines (right_front (codes "  bcr[") (codes "] = ")) c.bcr
    ++ (numbered_lines (right_front (codes "  bvr[") (codes "] = ")) c.bvr
    ++ (numbered_lines (right_front (codes "  wcr[") (codes "] = ")) c.wcr
    ++ numbered_lines (right_front (codes "  wvr[") (codes "] = ")) c.wvr))

-- the text of a context of ARM64, CONTEXT_ARM64
unfoldable pub arm64_text : CONTEXT_ARM64 → List ℕ
arm64_text c =
    codes "CONTEXT_ARM64\n"
    ++ (register_line (codes "  context_flags        = ") c.context_flags
    ++ (arm64_lines c.iregs c.sp c.pc c.cpsr c.fpsr c.fpcr c.float_regs
    ++ watch_lines c))

-- the text of a context of ARM64 in Breakpad's old layout, CONTEXT_ARM64_OLD
unfoldable pub arm64_old_text : CONTEXT_ARM64_OLD → List ℕ
arm64_old_text c =
    codes "CONTEXT_ARM64_OLD\n"
    ++ (register_line (codes "  context_flags        = ") c.context_flags
    ++ arm64_lines c.iregs c.sp c.pc c.cpsr c.fpsr c.fpcr c.float_regs)

-- the text of a context, by its processor
abbrev pub context_text : MinidumpRawContext → List ℕ
context_text (X86 c) = x86_text c
context_text (Amd64 c) = amd64_text c
context_text (Arm c) = arm_text c
context_text (Arm64 c) = arm64_text c
context_text (OldArm64 c) = arm64_old_text c
