-- What unwind information says of a caller.
use Rattle.std.specs.Prelude.{ℕ, List, codes, Option, Some, None}
use Rattle.breakpad_symbols.specs.Cfi.{CfiValue, rule_at}
use Rattle.breakpad_symbols.specs.Expression.{StateValue, value_of}
use Rattle.minidump_bytes.specs.Cut.{and_then}

-- the canonical frame address: the value of its rule
abbrev pub frame_address_at : StateValue → CfiValue → ℕ → Option ℕ
frame_address_at state c address =
    and_then (rule_at c (codes ".cfa") address) (value_of state None)

-- a register of the caller: the value of its rule, by the canonical frame address too; none where
-- there is no rule. The return address is the register `.ra`
abbrev pub caller_register_at : StateValue → CfiValue → ℕ → ℕ → List ℕ → Option ℕ
caller_register_at state c address frame_address name =
    and_then (rule_at c name address) (value_of state (Some frame_address))
