-- The tables of a stability report make its messages.
use Rattle.std.proofs.Common.{◌≡◌, ℕ, List, refl, ap}
use Rattle.std.specs.Prelude.{Option, Some, None}
use Rattle.std.specs.Option.{ok_or, option_and_then}
use Rattle.minidump_bytes.specs.Wire.{Field}
use Rattle.minidump_format.specs.declared.error.Error.TheVariants.{DataError}
use Rattle.minidump_stability.specs.Fields.{fields_in, int64_in, uint32_in}
use Rattle.minidump_stability.specs.ReportRows.{no_file_system_state, no_memory_state, no_posix_file_system_state, no_process_state}
use Rattle.minidump_stability.specs.ReportRows.{no_system_memory_state, no_system_windows_memory, no_windows_file_system_state, no_windows_memory}
use Rattle.minidump_stability.specs.ReportRows.{put_file_system_state, put_memory_state, put_posix_file_system_state, put_process_state, put_report}
use Rattle.minidump_stability.specs.ReportRows.{put_system_memory_state, put_system_windows_memory, put_windows_file_system_state, put_windows_memory}
use Rattle.minidump_stability.specs.Rows.{put_bytes, put_fields}
use Rattle.minidump_stability.specs.StabilityReport.{file_system_state, memory_state, no_report, posix_file_system_state, process_state, report}
use Rattle.minidump_stability.specs.StabilityReport.{stability_report_in, system_memory_state, system_windows_memory, windows_file_system_state}
use Rattle.minidump_stability.specs.StabilityReport.{windows_memory}
use Rattle.minidump_stability.proofs.RowLemmas.{Means, beside, only_nested, only_repeated, only_scalar, through_means}

windows_memory_means : Means put_windows_memory no_windows_memory windows_memory
unfolding put_windows_memory
windows_memory_means =
    through_means _ _ _ (λ v. refl) (λ w. refl) _ _
    (beside 1 _ _ _ _ _ _ (only_scalar uint32_in 1)
    (beside 2 _ _ _ _ _ _ (only_scalar uint32_in 2) (beside 3 _ _ _ _ _ _ (only_scalar uint32_in 3) (only_scalar uint32_in 4))))

memory_state_means : Means put_memory_state no_memory_state memory_state
unfolding put_memory_state
memory_state_means = through_means _ _ _ (λ v. refl) (λ w. refl) _ _ (only_nested put_windows_memory no_windows_memory windows_memory windows_memory_means 1)

posix_means : Means put_posix_file_system_state no_posix_file_system_state posix_file_system_state
unfolding put_posix_file_system_state
posix_means = through_means _ _ _ (λ v. refl) (λ w. refl) _ _ (only_scalar uint32_in 1)

windows_means : Means put_windows_file_system_state no_windows_file_system_state windows_file_system_state
unfolding put_windows_file_system_state
windows_means = through_means _ _ _ (λ v. refl) (λ w. refl) _ _ (only_scalar uint32_in 1)

file_system_state_means : Means put_file_system_state no_file_system_state file_system_state
unfolding put_file_system_state
file_system_state_means =
    through_means _ _ _ (λ v. refl) (λ w. refl) _ _
    (beside 1 _ _ _ _ _ _ (only_nested put_posix_file_system_state no_posix_file_system_state posix_file_system_state posix_means 1)
    (only_nested put_windows_file_system_state no_windows_file_system_state windows_file_system_state windows_means 2))

process_state_means : Means put_process_state no_process_state process_state
unfolding put_process_state
process_state_means =
    through_means _ _ _ (λ v. refl) (λ w. refl) _ _
    (beside 3 _ _ _ _ _ _ (only_scalar int64_in 3)
    (beside 4 _ _ _ _ _ _ (only_nested put_memory_state no_memory_state memory_state memory_state_means 4)
    (only_nested put_file_system_state no_file_system_state file_system_state file_system_state_means 7)))

system_windows_memory_means : Means put_system_windows_memory no_system_windows_memory system_windows_memory
unfolding put_system_windows_memory
system_windows_memory_means =
    through_means _ _ _ (λ v. refl) (λ w. refl) _ _
    (beside 1 _ _ _ _ _ _ (only_scalar uint32_in 1) (beside 2 _ _ _ _ _ _ (only_scalar uint32_in 2) (only_scalar uint32_in 3)))

system_memory_state_means : Means put_system_memory_state no_system_memory_state system_memory_state
unfolding put_system_memory_state
system_memory_state_means =
    through_means _ _ _ (λ v. refl) (λ w. refl) _ _
    (only_nested put_system_windows_memory no_system_windows_memory system_windows_memory system_windows_memory_means 1)

report_means : Means put_report no_report report
unfolding put_report
report_means =
    through_means _ _ _ (λ v. refl) (λ w. refl) _ _
    (beside 2 _ _ _ _ _ _ (only_repeated put_process_state no_process_state process_state process_state_means 2)
    (only_nested put_system_memory_state no_system_memory_state system_memory_state system_memory_state_means 7))

report_by : (fields : Option (List Field)) → put_fields put_report fields no_report ≡ option_and_then report fields
report_by None = refl
report_by (Some fs) = report_means fs

-- a report that is read field by field is the one that its stream holds
pub report_is : (bytes : List ℕ) → ok_or (put_bytes put_report bytes no_report) DataError ≡ stability_report_in bytes
report_is bytes = ap (λ o. ok_or o DataError) (report_by (fields_in bytes))
