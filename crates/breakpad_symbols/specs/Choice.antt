-- Which lines and words count: the first, or the last, that says something.
use Rattle.std.specs.Prelude.{◌≡◌, ◌≢◌, ℕ, ◌+◌, ◌<◌, ◌≤◌, ◌⊎◌, Bool, true, false, List, [], ◌∷◌, ◌++◌, codes, ⊤}
use Rattle.std.specs.Prelude.{Contains}
use Rattle.std.specs.List.{AllByRecursion}
use Rattle.minidump_bytes.specs.LinuxOsStr.{words_of}
use Rattle.breakpad_symbols.specs.declared.inline.InlineCall.{InlineCall}
use Rattle.breakpad_symbols.specs.declared.line_record.LineRecord.{LineRecord}
use Rattle.breakpad_symbols.specs.Cfi.{CfiValue, ChangeValue, is_label}
use Rattle.breakpad_symbols.specs.Function.{FunctionValue}
use Rattle.breakpad_symbols.specs.Grammar.{IsChangeLine, IsInlineLine, IsLineRecord}

-- a list is empty, or its first text passes a test
abbrev pub BeginsWithEnd : (List ℕ → Bool) → List (List ℕ) → Type 0
BeginsWithEnd ends [] = ⊤
BeginsWithEnd ends (text ∷ texts) = ends text ≡ true

-- texts are those of a list before the first that passes a test
pub record AreBefore (ends : List ℕ → Bool) (texts front : List (List ℕ)) : Type 0 where
  pub rest : List (List ℕ)
  pub joined : texts ≡ front ++ rest
  pub go_on : AllByRecursion (λ t. ends t ≡ false) front
  pub ends_there : BeginsWithEnd ends rest

-- no line says anything
abbrev pub NoneSays : {A : Type 0} → (List ℕ → A → Type 0) → List (List ℕ) → Type 0
NoneSays {A} Says lines = AllByRecursion (λ l. (x : A) → Says l x → ⊥) lines

-- the first line that says something says this
pub record FirstSays {A : Type 0} (Says : List ℕ → A → Type 0) (lines : List (List ℕ)) (x : A) : Type 0 where
  pub before : List (List ℕ)
  pub line : List ℕ
  pub after : List (List ℕ)
  pub joined : lines ≡ before ++ line ∷ after
  pub none_before : NoneSays Says before
  pub says : Says line x

-- the last line that says something says this
pub record LastSays {A : Type 0} (Says : List ℕ → A → Type 0) (lines : List (List ℕ)) (x : A) : Type 0 where
  pub before : List (List ℕ)
  pub line : List ℕ
  pub after : List (List ℕ)
  pub joined : lines ≡ before ++ line ∷ after
  pub says : Says line x
  pub none_after : NoneSays Says after

-- a line is a line record whose range has an address
pub record IsLineOf (address : ℕ) (text : List ℕ) (r : LineRecord) : Type 0 where
  pub is_record : IsLineRecord text r
  pub starts : r.address ≤ address
  pub goes_on : address < r.address + r.size

-- the line record of an address in a function
abbrev pub IsLineIn : FunctionValue → ℕ → LineRecord → Type 0
IsLineIn f address r = FirstSays (IsLineOf address) f.records r

-- a line is an INLINE line of this depth, and one of its ranges has an address
pub record IsCallOf (depth address : ℕ) (text : List ℕ) (call : InlineCall) : Type 0 where
  pub ranges : List (ℕ × ℕ)
  pub is_line : IsInlineLine text (record { call = call; ranges = ranges })
  pub has_depth : call.depth ≡ depth
  pub range : ℕ × ℕ
  pub among : Contains ranges range
  pub starts : range.0 ≤ address
  pub goes_on : address < range.0 + range.1

-- the call of a depth at an address in a function
abbrev pub IsInlineIn : FunctionValue → ℕ → ℕ → InlineCall → Type 0
IsInlineIn f depth address call = FirstSays (IsCallOf depth address) f.records call

-- words have a rule of a register: after the last word that is its name and a colon, the words up to
-- the next that ends with a colon
pub record HaveRule (name : List ℕ) (words expression : List (List ℕ)) : Type 0 where
  pub before : List (List ℕ)
  pub after : List (List ℕ)
  pub joined : words ≡ before ++ (name ++ codes ":") ∷ after
  pub expression_is : AreBefore is_label after expression
  pub last : AllByRecursion (λ w. w ≢ name ++ codes ":") after

-- a line changes the rule of a register, from an address on that isn't above another
pub record ChangesRule (name : List ℕ) (address : ℕ) (line : List ℕ) (expression : List (List ℕ)) : Type 0 where
  pub change : ChangeValue
  pub is_change : IsChangeLine line change
  pub reached : change.address ≤ address
  pub rule : HaveRule name (words_of change.rules) expression

-- the rule of a register at an address: that of the last line that changes it, or where none does, of
-- the first line
abbrev pub IsRuleAt : CfiValue → List ℕ → ℕ → List (List ℕ) → Type 0
IsRuleAt c name address expression =
    LastSays (ChangesRule name address) c.changes expression
    ⊎ (NoneSays (ChangesRule name address) c.changes × HaveRule name (words_of c.rules) expression)
