-- The lists of records that a file is read into.
use Rattle.std.specs.Prelude.{◌≡◌, ℕ, ◌==◌, ◌||◌, Bool, false, List, [], ◌∷◌, ◌++◌, map, Option}
use Rattle.std.specs.List.{cons_option}
use Rattle.breakpad_symbols.specs.declared.record_lists.RecordLists.{RecordLists}
use Rattle.breakpad_symbols.specs.Cfi.{cfi_in, cfi_of}
use Rattle.breakpad_symbols.specs.Function.{function_in, function_of}
use Rattle.breakpad_symbols.specs.NumberedName.{file_in, name_of, origin_in}
use Rattle.breakpad_symbols.specs.Public.{public_in, public_of}
use Rattle.breakpad_symbols.specs.Records.{each_record}

-- lists have the records of lines
pub record HoldRecords (lists : RecordLists) (lines : List (List ℕ)) : Type 0 where
  pub files : map name_of lists.files.items ≡ each_record file_in lines
  pub functions : map function_of lists.functions.items ≡ each_record function_in lines
  pub publics : map public_of lists.publics.items ≡ each_record public_in lines
  pub cfi : map cfi_of lists.cfi.items ≡ each_record cfi_in lines
  pub origins : map name_of lists.origins.items ≡ each_record origin_in lines

-- a list has a record more than before, if there is one
abbrev pub HasMore : {R A : Type 0} → (R → A) → List R → List R → Option A → Type 0
HasMore value before after next = map value after ≡ map value before ++ cons_option next []

-- lists have the record of a line more, by the lines after it
pub record HaveMore (before after : RecordLists) (line : List ℕ) (lines : List (List ℕ)) : Type 0 where
  pub files : HasMore name_of before.files.items after.files.items (file_in line lines)
  pub functions : HasMore function_of before.functions.items after.functions.items (function_in line lines)
  pub publics : HasMore public_of before.publics.items after.publics.items (public_in line lines)
  pub cfi : HasMore cfi_of before.cfi.items after.cfi.items (cfi_in line lines)
  pub origins : HasMore name_of before.origins.items after.origins.items (origin_in line lines)

-- a line begins with the first letter of a keyword: `FILE`, `FUNC`, `INLINE_ORIGIN`, `PUBLIC`,
-- `STACK`
abbrev pub may_be_record : List ℕ → Bool
may_be_record [] = false
may_be_record (b ∷ bytes) = b == 70 || b == 73 || b == 80 || b == 83
