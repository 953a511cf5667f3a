-- A line is read as its grammar says.
use Rattle.std.proofs.Common.{◌≡◌, ◌≢◌, ◌⊎◌, ℕ, ◌<◌, Bool, true, false, List, [], ◌∷◌, ◌++◌, length, codes, Option, Some, None}
use Rattle.std.proofs.Common.{refl, sym, ap, subst, ◌∙◌, inl, inr, arith}
use Rattle.std.specs.Prelude.{◌==◌, ◌↔◌, ◌&&◌, not, nat_lt, if◌then◌else◌}
use Rattle.std.specs.List.{list_any}
use Rattle.std.specs.Option.{option_map, option_or}
use Rattle.std.specs.Str.{IsUtf8, bytes_eq, is_utf8}
use Rattle.std.proofs.lemmas.Bool.{eq-eqb, eqb-true, ltb-true, ne_eqb}
use Rattle.std.proofs.lemmas.Slice.Eq.{bytes_eq-Decides}
use Rattle.std.proofs.lemmas.Str.{IsUtf8-from_is_utf8, is_utf8-from_IsUtf8}
use borrow.Author.Tests.{lt-ltb}
use Rattle.minidump_bytes.proofs.DigitLemmas.{number_spells, spelled_number}
use Rattle.minidump_bytes.specs.Digits.{number_of_digits}
use Rattle.minidump_bytes.specs.LinuxOsStr.{after_prefix, cut_first}
use Rattle.minidump_bytes.specs.Text8.{utf8_text}
use Rattle.minidump_bytes.specs.Cut.{IsCut, and_then}
use Rattle.minidump_bytes.proofs.CutLemmas.{after_prefix_is, after_prefix_some, cut_is, given, is_cut, passed, some_same}
use Rattle.minidump_reason.specs.declared.family.CodeFamily.{CodeFamily}
use Rattle.minidump_reason.specs.declared.family.CodeFamily.TheVariants.{Mac, MacBadAccessKern, MacBadAccessArm, MacBadAccessPpc, MacBadAccessX86}
use Rattle.minidump_reason.specs.declared.family.CodeFamily.TheVariants.{MacBadInstructionArm, MacBadInstructionPpc, MacBadInstructionX86}
use Rattle.minidump_reason.specs.declared.family.CodeFamily.TheVariants.{MacArithmeticArm, MacArithmeticPpc, MacArithmeticX86, MacBreakpointArm}
use Rattle.minidump_reason.specs.declared.family.CodeFamily.TheVariants.{MacBreakpointPpc, MacBreakpointX86, MacSoftware, MacResource, MacResourceCpu}
use Rattle.minidump_reason.specs.declared.family.CodeFamily.TheVariants.{MacResourceWakeups, MacResourceMemory, MacResourceIo, MacResourceThreads}
use Rattle.minidump_reason.specs.declared.family.CodeFamily.TheVariants.{MacGuard, MacGuardMachPort, MacGuardFd, MacGuardVn, MacGuardVirtMemory}
use Rattle.minidump_reason.specs.declared.family.CodeFamily.TheVariants.{MacGuardRejectedSysCall, Linux, LinuxSicode, LinuxSigill, LinuxSigtrap}
use Rattle.minidump_reason.specs.declared.family.CodeFamily.TheVariants.{LinuxSigbus, LinuxSigfpe, LinuxSigsegv, LinuxSigsys, Windows, WinError}
use Rattle.minidump_reason.specs.declared.family.CodeFamily.TheVariants.{WinErrorFacility, NtStatus, FastFail, WindowsAccess, WindowsInPageError}
use Rattle.minidump_names.specs.NameLine.{IsCode, IsLine, IsListing, IsName, Listing}
use Rattle.minidump_names.specs.NameLine.{code_in, families, family_in, family_name, is_outside, line_in, listing_in, name_in}
use Rattle.minidump_names.specs.NameLine.{find_family}

-- ---- families
find_by : (t : Bool) (text : List ℕ) (g f : CodeFamily) (rest : Option CodeFamily) → bytes_eq text (family_name g) ≡ t
    → (rest ≡ Some f → text ≡ family_name f) → (if t then Some g else rest) ≡ Some f → text ≡ family_name f
find_by true text g f rest same later h = (bytes_eq-Decides text (family_name g)).0 same ∙ ap family_name (some_same g f h)
find_by false text g f rest other later h = later h

find_is : (fs : List CodeFamily) (text : List ℕ) (f : CodeFamily) → find_family fs text ≡ Some f → text ≡ family_name f
find_is [] text f h = absurd (let k : None ≡ Some f = h in cc)
find_is (g ∷ rest) text f h = find_by (bytes_eq text (family_name g)) text g f (find_family rest text) refl (find_is rest text f) h

family_is : (text : List ℕ) (f : CodeFamily) → family_in text ≡ Some f → text ≡ family_name f
unfolding family_in
family_is text f h = find_is families text f h

spelled_family : (f : CodeFamily) → family_in (family_name f) ≡ Some f
unfolding family_in families
spelled_family Mac = refl
spelled_family MacBadAccessKern = refl
spelled_family MacBadAccessArm = refl
spelled_family MacBadAccessPpc = refl
spelled_family MacBadAccessX86 = refl
spelled_family MacBadInstructionArm = refl
spelled_family MacBadInstructionPpc = refl
spelled_family MacBadInstructionX86 = refl
spelled_family MacArithmeticArm = refl
spelled_family MacArithmeticPpc = refl
spelled_family MacArithmeticX86 = refl
spelled_family MacBreakpointArm = refl
spelled_family MacBreakpointPpc = refl
spelled_family MacBreakpointX86 = refl
spelled_family MacSoftware = refl
spelled_family MacResource = refl
spelled_family MacResourceCpu = refl
spelled_family MacResourceWakeups = refl
spelled_family MacResourceMemory = refl
spelled_family MacResourceIo = refl
spelled_family MacResourceThreads = refl
spelled_family MacGuard = refl
spelled_family MacGuardMachPort = refl
spelled_family MacGuardFd = refl
spelled_family MacGuardVn = refl
spelled_family MacGuardVirtMemory = refl
spelled_family MacGuardRejectedSysCall = refl
spelled_family Linux = refl
spelled_family LinuxSicode = refl
spelled_family LinuxSigill = refl
spelled_family LinuxSigtrap = refl
spelled_family LinuxSigbus = refl
spelled_family LinuxSigfpe = refl
spelled_family LinuxSigsegv = refl
spelled_family LinuxSigsys = refl
spelled_family Windows = refl
spelled_family WinError = refl
spelled_family WinErrorFacility = refl
spelled_family NtStatus = refl
spelled_family FastFail = refl
spelled_family WindowsAccess = refl
spelled_family WindowsInPageError = refl

-- ---- numbers
code_by : (o rest : Option ℕ) (n : ℕ) → option_or o rest ≡ Some n → (o ≡ Some n) ⊎ (rest ≡ Some n)
code_by (Some x) rest n h = inl h
code_by None rest n h = inr h

code_spells : (text : List ℕ) (n : ℕ) → code_in text ≡ Some n → IsCode text n
unfolding code_in
code_spells text n h =
    elim (code_by (number_of_digits 10 32 text) (and_then (after_prefix (codes "0x") text) (λ digits. number_of_digits 16 32 digits)) n h) [
      | inl decimal ↦ inl (number_spells 10 32 text n decimal)
      | inr other ↦
          (let digits = given (after_prefix (codes "0x") text) (λ digits. number_of_digits 16 32 digits) n other in
          inr (digits.0, after_prefix_is (codes "0x") text digits.0 digits.1, number_spells 16 32 digits.0 n digits.2))
    ]

not_decimal : (digits : List ℕ) → number_of_digits 10 32 (codes "0x" ++ digits) ≡ None
unfolding number_of_digits
not_decimal digits =
    let some : 0 < length (codes "0x" ++ digits) = omega arith in
    rw (lt-ltb 0 (length (codes "0x" ++ digits)) some) refl

spelled_code : (text : List ℕ) (n : ℕ) → IsCode text n → code_in text ≡ Some n
unfolding code_in
spelled_code text n (inl decimal) = rw (spelled_number 10 32 text n decimal) refl
spelled_code text n (inr (digits, joined, number)) =
    rw (after_prefix_some (codes "0x") text digits joined, joined, not_decimal digits, spelled_number 16 32 digits n number) refl

-- ---- names
both : (a b : Bool) → (a && not b) ≡ true → (a ≡ true) × (b ≡ false)
both true false e = (refl, refl)
both true true e = absurd cc
both false b e = absurd cc

utf8_is : (bytes text : List ℕ) → utf8_text bytes ≡ Some text → IsUtf8 bytes × (bytes ≡ text)
unfolding utf8_text
utf8_is bytes text h = let t = passed (is_utf8 bytes) (Some bytes) text h in (IsUtf8-from_is_utf8 bytes t.0, some_same bytes text t.1)

is_utf8_text : (bytes : List ℕ) → IsUtf8 bytes → utf8_text bytes ≡ Some bytes
unfolding utf8_text
is_utf8_text bytes h = rw (is_utf8-from_IsUtf8 bytes h) refl

name_spells : (text name : List ℕ) → name_in text ≡ Some name → IsName text × (text ≡ name)
unfolding name_in
name_spells text name h =
    let t = passed (nat_lt 0 (length text) && not (list_any is_outside text)) (utf8_text text) name h in
    let tests = both (nat_lt 0 (length text)) (list_any is_outside text) t.0 in
    let some = ltb-true 0 (length text) tests.0 in
    let utf8 = utf8_is text name t.1 in
    (record { some = λ empty. omega (arith, some, ap length empty); utf8 = utf8.0; inside = tests.1 }, utf8.1)

some_length : (text : List ℕ) → text ≢ [] → 0 < length text
some_length [] some = absurd (some refl)
some_length (b ∷ bs) some = omega arith

spelled_name : (text : List ℕ) → IsName text → name_in text ≡ Some text
unfolding name_in
spelled_name text h = rw (lt-ltb 0 (length text) (some_length text h.some), h.inside) (is_utf8_text text h.utf8)

-- ---- the code of a line
listing_by : (line first rest number name : List ℕ) (f : CodeFamily) (n : ℕ) (kept : List ℕ) (l : Listing) → cut_first 32 line ≡ Some (first, rest)
    → cut_first 32 rest ≡ Some (number, name) → family_in first ≡ Some f → code_in number ≡ Some n → name_in name ≡ Some kept
    → (let whole : Listing = record { family = f; number = n; name = kept } in Some whole ≡ Some l) → IsListing line l
listing_by line first rest number name f n kept l cut again family code named h =
    let whole : Listing = record { family = f; number = n; name = kept } in
    let same : whole ≡ l = some_same whole l h in
    let is = name_spells name kept named in
    let answer : IsListing line whole = record {
      number = number;
      rest = rest;
      family_first = subst (λ (text : List ℕ). IsCut 32 line text rest) (family_is first f family) (cut_is 32 line first rest cut);
      number_second = subst (λ (text : List ℕ). IsCut 32 rest number text) is.1 (cut_is 32 rest number name again);
      number_is = code_spells number n code;
      name_is = subst (λ (text : List ℕ). IsName text) is.1 is.0;
    } in
    subst (λ (l : Listing). IsListing line l) same answer

listing_spells : (line : List ℕ) (l : Listing) → listing_in line ≡ Some l → IsListing line l
unfolding listing_in
listing_spells line l h =
    let family = given (cut_first 32 line) _ l h in
    let number = given (cut_first 32 family.0.1) _ l family.2 in
    let f = given (family_in family.0.0) _ l number.2 in
    let n = given (code_in number.0.0) _ l f.2 in
    let name = given (name_in number.0.1) _ l n.2 in
    listing_by line family.0.0 family.0.1 number.0.0 number.0.1 f.0 n.0 name.0 l family.1 number.1 f.1 n.1 name.1 name.2

spelled_listing : (line : List ℕ) (l : Listing) → IsListing line l → listing_in line ≡ Some l
unfolding listing_in
spelled_listing line l h =
    rw (
      is_cut 32 line (family_name l.family) h.rest h.family_first,
      is_cut 32 h.rest h.number l.name h.number_second,
      spelled_family l.family,
      spelled_code h.number l.number h.number_is,
      spelled_name l.name h.name_is,
    ) refl

-- ---- lines
one_by : (o : Option Listing) (ls : List Listing) → option_map (λ l. l ∷ []) o ≡ Some ls → (l : Listing) × (o ≡ Some l) × (ls ≡ l ∷ [])
one_by (Some l) ls h = (l, refl, sym (some_same (l ∷ []) ls h))
one_by None ls h = absurd (let k : None ≡ Some ls = h in cc)

some_by : (t : Bool) (b : ℕ) (bs : List ℕ) (ls : List Listing) → (b == 35) ≡ t
    → (if t then Some [] else option_map (λ l. l ∷ []) (listing_in (b ∷ bs))) ≡ Some ls → IsLine (b ∷ bs) ls
some_by true b bs ls is h = inl (eqb-true b 35 is, sym (some_same [] ls h))
some_by false b bs ls is h =
    let one = one_by (listing_in (b ∷ bs)) ls h in
    inr ((λ e. let clash : true ≡ false = sym (eq-eqb b 35 e) ∙ is in cc), one.0, one.2, listing_spells (b ∷ bs) one.0 one.1)

not_empty : (b : ℕ) (bs : List ℕ) → (length (b ∷ bs) == 0) ≡ false
not_empty b bs = ne_eqb (length (b ∷ bs)) 0 (λ e. omega (arith, e))

line_spells : (line : List ℕ) (ls : List Listing) → line_in line ≡ Some ls → IsLine line ls
unfolding line_in
line_spells [] ls h = sym (some_same [] ls h)
line_spells (b ∷ bs) ls h = some_by (b == 35) b bs ls refl (rw (not_empty b bs) at h)

spelled_line : (line : List ℕ) (ls : List Listing) → IsLine line ls → line_in line ≡ Some ls
unfolding line_in
spelled_line [] ls none = ap (λ l. Some l) (sym none)
spelled_line (b ∷ bs) ls (inl (mark, none)) = rw (not_empty b bs, eq-eqb b 35 mark, none) refl
spelled_line (b ∷ bs) ls (inr (other, l, one, listing)) = rw (not_empty b bs, ne_eqb b 35 other, spelled_listing (b ∷ bs) l listing, one) refl

pub lines_are_the_grammar : (line : List ℕ) (ls : List Listing) → (line_in line ≡ Some ls) ↔ IsLine line ls
lines_are_the_grammar line ls = (line_spells line ls, spelled_line line ls)
