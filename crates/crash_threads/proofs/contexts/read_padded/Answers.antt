-- The bytes, and the zeros after them.
use Rattle.std.proofs.Common.{◌≡◌, ◌∙◌, ℕ, ◌+◌, ◌-◌, ◌<◌, ◌≤◌, ◌++◌, List, Some, ap, arith, drop, length, replicate, take}
use Rattle.std.proofs.Math.Seq.{take-append-add}
use Rattle.std.proofs.lemmas.List.{drop-replicate, take-replicate}
use Rattle.minidump.specs.Promise.{system_info_stream}
use Rattle.minidump.specs.Thread.{accepted_context}
use Rattle.crash_threads.specs.Contexts.{padded}
use Rattle.crash_threads.proofs.contexts.read_padded.Goals as goal

-- the first so many of bytes over a number of zeros
padded_is : (bytes : List ℕ) (zeros whole : ℕ) → length bytes < whole → whole ≤ zeros
    → take whole (bytes ++ drop (length bytes) (replicate {A = ℕ} zeros 0)) ≡ padded bytes whole
padded_is bytes zeros whole fits most =
    let rest : whole ≡ length bytes + (whole - length bytes) = omega (arith, fits) in
    ap (λ n. take n (bytes ++ drop (length bytes) (replicate {A = ℕ} zeros 0))) rest
    ∙ ap (λ zs. take (length bytes + (whole - length bytes)) (bytes ++ zs)) (drop-replicate {X = ℕ} (length bytes) zeros 0)
    ∙ take-append-add bytes (replicate (zeros - length bytes) 0) (whole - length bytes)
    ∙ ap (λ zs. bytes ++ zs) (take-replicate {X = ℕ} (whole - length bytes) (zeros - length bytes) 0 (omega (arith, fits, most)))

pub returns : goal.returns
returns c =
    let bytes = c.args.bytes.now in
    let over : List ℕ → List ℕ = λ front. take c.args.whole (front ++ drop (length bytes) (replicate {A = ℕ} 1232 0)) in
    let all : over c.copy_from_slice.new.self ≡ padded bytes c.args.whole =
    ap over c.copy_from_slice.ensures.after ∙ padded_is bytes 1232 c.args.whole c.requires.fits c.requires.most
    in
    c.read_raw.ensures
    ∙ ap (λ b. accepted_context (system_info_stream.value c.args.system.now).raw.processor_architecture c.args.endian (Some b)) all
