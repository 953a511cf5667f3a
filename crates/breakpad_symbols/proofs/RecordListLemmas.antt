-- The lists of records, line by line.
use Rattle.std.proofs.Common.{◌≡◌, ◌∙◌, ℕ, true, false, List, ◌++◌, None, refl, ap, sym}
use Rattle.std.specs.Prelude.{codes}
use Rattle.std.proofs.lemmas.List.{append-nil}
use Rattle.minidump_bytes.specs.LinuxOsStr.{after_prefix}
use Rattle.breakpad_symbols.specs.declared.record_lists.RecordLists.{RecordLists}
use Rattle.breakpad_symbols.specs.Cfi.{cfi_in}
use Rattle.breakpad_symbols.specs.Function.{function_in}
use Rattle.breakpad_symbols.specs.NumberedName.{numbered_name}
use Rattle.breakpad_symbols.specs.Public.{public_line}
use Rattle.breakpad_symbols.specs.RecordLists.{HaveMore, may_be_record}
use Rattle.minidump_bytes.proofs.CutLemmas.{after_prefix_none}

-- a line that begins with no first letter of a keyword has none
no_keyword : (keyword line : List ℕ) → ((rest : List ℕ) → may_be_record (keyword ++ rest) ≡ true) → may_be_record line ≡ false
    → after_prefix keyword line ≡ None
no_keyword keyword line begins other =
    after_prefix_none keyword line (λ rest e. let clash : true ≡ false = sym (begins rest) ∙ ap may_be_record (sym e) ∙ other in cc)

no_name : (keyword line : List ℕ) → ((rest : List ℕ) → may_be_record (keyword ++ rest) ≡ true) → may_be_record line ≡ false
    → numbered_name keyword line ≡ None
unfolding numbered_name
no_name keyword line begins other = rw (no_keyword keyword line begins other) refl

no_function : (line : List ℕ) (lines : List (List ℕ)) → may_be_record line ≡ false → function_in line lines ≡ None
unfolding function_in
no_function line lines other = rw (no_keyword (codes "FUNC ") line (λ rest. refl) other) refl

no_public : (line : List ℕ) → may_be_record line ≡ false → public_line line ≡ None
unfolding public_line
no_public line other = rw (no_keyword (codes "PUBLIC ") line (λ rest. refl) other) refl

no_cfi : (line : List ℕ) (lines : List (List ℕ)) → may_be_record line ≡ false → cfi_in line lines ≡ None
unfolding cfi_in
no_cfi line lines other = rw (no_keyword (codes "STACK CFI INIT ") line (λ rest. refl) other) refl

pub not_record : (lists : RecordLists) (line : List ℕ) (lines : List (List ℕ)) → may_be_record line ≡ false → HaveMore lists lists line lines
not_record lists line lines other = record {
  files = rw (no_name (codes "FILE ") line (λ rest. refl) other, append-nil) refl;
  functions = rw (no_function line lines other, append-nil) refl;
  publics = rw (no_public line other, append-nil) refl;
  cfi = rw (no_cfi line lines other, append-nil) refl;
  origins = rw (no_name (codes "INLINE_ORIGIN ") line (λ rest. refl) other, append-nil) refl;
}
