-- What is printed of a dump, below its heading.
use Rattle.std.proofs.Common.{◌≡◌, ◌≢◌, ◌⊎◌, ◌++◌, ℕ, Bool, List, [], ap, append-nil, inl, inr, refl, None, Some, Option, Result}
use Rattle.crash.specs.Crash.{CrashValue}
use Rattle.minidump.specs.declared.Error.{Error}
use Rattle.whocrashed_inputs.specs.declared.options.Form.{Form}
use Rattle.whocrashed_inputs.specs.declared.options.Form.TheVariants.{Html, Json, Lines}
use Rattle.whocrashed_inputs.specs.declared.options.Options.{Options}
use Rattle.whocrashed.specs.Output.{Gains}
use Rattle.minidump.specs.Below.Format.Error.{name_of_error}
use Rattle.minidump.specs.declared.Error.TheVariants.{OutOfMemory}
use Rattle.whocrashed.specs.Printed.{IsBegun, IsBelow, IsCut, IsCutShort, IsFailure, IsReport, IsUnreported, heading_of, is_single, path_line}
use Rattle.whocrashed.specs.declared.output.Output.{Output}
use Rattle.whocrashed.proofs.OutputLemmas.{writes_then}

-- nothing is printed of a file without a report but in JSON
pub unreported : (form : Form) (path why : List ℕ) → form ≢ Json → IsUnreported form path why []
unreported Json path why other = absurd (other refl)
unreported Lines path why other = refl
unreported Html path why other = refl

-- nor is it in words of which the text may be known
pub failure : (known : Option (List ℕ)) (form : Form) (path : List ℕ) → form ≢ Json → IsFailure known form path []
failure None form path other = ([], tt, unreported form path [] other)
failure (Some words) form path other = (words, refl, unreported form path words other)

-- what was begun, and then that memory ran out
cut_by : (form : Form) (single : Bool) (path begun rest : List ℕ) → (begun ≡ []) ⊎ (begun ≡ path_line form single path)
    → IsUnreported form path (name_of_error OutOfMemory) rest → IsCut form single path (begun ++ rest)
cut_by Json single path begun rest (inl none) line = rw none line
cut_by Json single path begun rest (inr heading) line = rw heading line
cut_by Lines single path begun rest (inl none) nothing = inl (rw (none, nothing) refl)
cut_by Lines single path begun rest (inr heading) nothing = inr (rw (heading, nothing) (append-nil (path_line Lines single path)))
cut_by Html single path begun rest (inl none) nothing = inl (rw (none, nothing) refl)
cut_by Html single path begun rest (inr heading) nothing = inr (rw (heading, nothing) refl)

pub cut : (options : Options) (path begun rest : List ℕ) → IsBegun options path begun
    → IsUnreported options.form path (name_of_error OutOfMemory) rest → IsCutShort options path (begun ++ rest)
unfolding heading_of
cut options path begun rest before line = cut_by options.form (is_single options) path begun rest before line

-- a heading, what is below it, and a status of both
pub report : {O : Type 0} (contents : O → Option (List ℕ)) (a b c : Output O) (options : Options) (path : List ℕ) (crash : Result CrashValue Error)
    (same : Type 0) → same → Gains contents a b (λ text. text ≡ heading_of options path) → Gains contents b c (IsBelow options path crash)
    → Gains contents a c (λ text. same × IsReport options path crash text)
unfolding IsReport
report contents a b c options path crash same status heading below = (
  heading.0 ++ below.0,
  (status, (below.0, below.1, ap (λ t. t ++ below.0) heading.1)),
  writes_then contents a b c heading.0 below.0 heading.2 below.2,
)
