-- The text of a debug identifier, by cases.
use Rattle.std.proofs.Common.{◌≡◌, ◌≢◌, ℕ, ◌++◌, List, [], codes, false, refl, append-nil}
use Rattle.std.specs.Fmt.{digits}
use Rattle.std.proofs.lemmas.Bool.{ne_eqb}
use Rattle.uuid.specs.Text.{hyphenated_text, lower}
use Rattle.minidump_modules.specs.declared.debug_id.DebugId.{DebugId}
use Rattle.minidump_modules.specs.declared.debug_id.Kind.TheVariants.{Guid, Stamp}
use Rattle.minidump_modules.specs.DebugId.{appendix_text, debug_id_text, eight_upper}
use Rattle.minidump_format.specs.Guid.{uuid_text}

no_appendix : (n : ℕ) → n ≡ 0 → appendix_text n ≡ []
no_appendix n e = rw e refl

appendix : (n : ℕ) → n ≢ 0 → appendix_text n ≡ codes "-" ++ digits 16 false n
appendix n ne = rw (ne_eqb n 0 ne) refl

pub guid_is : (id : DebugId) (uuid : List ℕ) (n : ℕ) → id.kind ≡ Guid uuid n → n ≡ 0 → hyphenated_text lower uuid ≡ debug_id_text id
unfolding uuid_text
guid_is id uuid n is zero = rw (is, no_appendix n zero, append-nil) refl

pub guid_with_is : (id : DebugId) (uuid : List ℕ) (n : ℕ) → id.kind ≡ Guid uuid n → n ≢ 0
    → hyphenated_text lower uuid ++ (codes "-" ++ digits 16 false n) ≡ debug_id_text id
unfolding uuid_text
guid_with_is id uuid n is some = rw (is, appendix n some) refl

pub stamp_is : (id : DebugId) (stamp n : ℕ) → id.kind ≡ Stamp stamp n → n ≡ 0 → eight_upper stamp ≡ debug_id_text id
stamp_is id stamp n is zero = rw (is, no_appendix n zero, append-nil) refl

pub stamp_with_is : (id : DebugId) (stamp n : ℕ) → id.kind ≡ Stamp stamp n → n ≢ 0 → eight_upper stamp ++ (codes "-" ++ digits 16 false n) ≡ debug_id_text id
stamp_with_is id stamp n is some = rw (is, appendix n some) refl
