-- `==` of states of processes decides whether they are the same; of reports, whether they hold the same.
use Rattle.std.proofs.Common.{◌≡◌, ℤ, Bool, refl, ap, rules}
use Rattle.std.specs.Prelude.{Decides, Option, Some, None, ◌&&◌}
use Rattle.std.specs.Cmp.Lexicographic.{pointwise}
use Rattle.std.specs.Option.{option_eq}
use Rattle.std.proofs.lemmas.Bool.Decides.{Decides-and, Decides-int_eq, Decides-like}
use Rattle.std.proofs.lemmas.Slice.Eq.{slice_eq-Decides}
use Rattle.minidump_stability.specs.contracts.process_state.FileSystemStatePartialEq.TheImpl as files
use Rattle.minidump_stability.specs.contracts.process_state.MemoryStatePartialEq.TheImpl as memory
use Rattle.minidump_stability.specs.contracts.report.ProcessStatePartialEq.TheImpl as state
use Rattle.minidump_stability.specs.contracts.report.SystemMemoryStatePartialEq.TheImpl as system
use Rattle.minidump_stability.specs.declared.process_state.FileSystemState.{FileSystemState}
use Rattle.minidump_stability.specs.declared.process_state.MemoryState.{MemoryState}
use Rattle.minidump_stability.specs.declared.report.ProcessState.{ProcessState}
use Rattle.minidump_stability.specs.declared.report.StabilityReport.{StabilityReport}
use Rattle.minidump_stability.specs.declared.report.SystemMemoryState.{SystemMemoryState}
use Rattle.minidump_stability.specs.StabilityReport.{stability_report_of}

option_eq-Decides : {A : Type 0} {eq : A → A → Bool} → ((x y : A) → Decides (eq x y) (x ≡ y)) → (x y : Option A) → Decides (option_eq eq x y) (x ≡ y)
option_eq-Decides same None None = ((λ h. refl), (λ h. refl))
option_eq-Decides same None (Some y) = ((λ h. cc), (λ h. cc))
option_eq-Decides same (Some x) None = ((λ h. cc), (λ h. cc))
option_eq-Decides same (Some x) (Some y) = ((λ h. ap Some ((same x y).0 h)), (λ h. (same x y).1 cc))

memory_eq-Decides : (x y : MemoryState) → Decides ((memory.eq-value).it x y) (x ≡ y)
memory_eq-Decides x y = ((λ h. Prim.search rules), (λ h. Prim.search rules))

files_eq-Decides : (x y : FileSystemState) → Decides ((files.eq-value).it x y) (x ≡ y)
files_eq-Decides x y = ((λ h. Prim.search rules), (λ h. Prim.search rules))

system_eq-Decides : (x y : SystemMemoryState) → Decides ((system.eq-value).it x y) (x ≡ y)
system_eq-Decides x y = ((λ h. Prim.search rules), (λ h. Prim.search rules))

abbrev state_of : Option ℤ → Option MemoryState → Option FileSystemState → ProcessState
state_of id memory files = record { process_id = id; memory_state = memory; file_system_state = files }

same_state : (i j : Option ℤ) (m n : Option MemoryState) (f g : Option FileSystemState) → i ≡ j → m ≡ n → f ≡ g → state_of i m f ≡ state_of j n g
same_state i j m n f g p q r = rw (p, q, r) refl

pub state_eq-Decides : (x y : ProcessState) → Decides ((state.eq-value).it x y) (x ≡ y)
state_eq-Decides x y =
    let id = option_eq-Decides Decides-int_eq x.process_id y.process_id in
    let memory = option_eq-Decides memory_eq-Decides x.memory_state y.memory_state in
    let files = option_eq-Decides files_eq-Decides x.file_system_state y.file_system_state in
    Decides-like _ (λ h. same_state _ _ _ _ _ _ h.0 h.1.0 h.1.1)
    (λ h. (ap (λ s. s.process_id) h, (ap (λ s. s.memory_state) h, ap (λ s. s.file_system_state) h)))
    (Decides-and _ _ id (Decides-and _ _ memory files))

pub report_eq-Decides : (x y : StabilityReport)
    → Decides (pointwise (state.eq-value).it x.process_states.items y.process_states.items && option_eq
    (system.eq-value).it x.system_memory_state y.system_memory_state)
    (stability_report_of x ≡ stability_report_of y)
report_eq-Decides x y =
    let states = slice_eq-Decides state_eq-Decides x.process_states.items y.process_states.items _ refl in
    let system = option_eq-Decides system_eq-Decides x.system_memory_state y.system_memory_state in
    Decides-like _ (λ h. let p = h.0 in let q = h.1 in cc)
    (λ h. (ap (λ r. r.process_states) h, ap (λ r. r.system_memory_state) h))
    (Decides-and _ _ states system)
