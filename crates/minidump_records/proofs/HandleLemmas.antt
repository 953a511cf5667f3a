-- The handles of a list, and how many reads they take.
pub mod Offsets
pub mod OneObjectChain
pub mod Chain
use Rattle.std.proofs.Common.{◌≡◌, ℕ, ◌+◌, ◌-◌, ◌*◌, ◌≤◌, List, Result, Ok, Err, ap, arith, length, map, refl, sym, ◌∙◌}
use Rattle.std.specs.Prelude.{IfErr, IfOk}
use Rattle.std.specs.List.{sum_by}
use Rattle.std.proofs.lemmas.List.{length-map}
use Rattle.minidump_bytes.specs.Steps.{after}
use Rattle.std.proofs.Math.Nat.{mul-le-mul_left}
use Rattle.minidump_format.specs.Answer.{Gives, GivesError}
use Rattle.minidump_format.specs.declared.error.Error.{Error}
use Rattle.minidump_format.specs.declared.error.Error.TheVariants.{OutOfMemory}

-- the read of the header, and those of so many descriptors, each with two names and a chain
pub handles_steps : (old one new k bytes file n : ℕ) → bytes ≤ n → file ≤ n → 32 * k ≤ bytes → one ≤ old + 1 → new ≤ one + k * (1 + (file + 3))
    → new ≤ old + ((n + 8) * (n + 8) - 1)
handles_steps old one new k bytes file n within all some first last =
    let few : k ≤ n = omega (arith, some, within) in
    let p : (file + 4) * k ≤ (file + 4) * n = mul-le-mul_left (file + 4) few in
    let q : n * file ≤ n * n = mul-le-mul_left n all in
    omega (arith, p, q, first, last)

-- a call to which a value is assigned, by what it returns
pub given : {X V : Type 0} (view : X → V) (M : Type 0) (r : Result X Error) (assigned : Result V Error) (v : V) → assigned ≡ Ok v → Gives view M r assigned
    → IfOk r (λ x. view x ≡ v)
given view M (Ok x) assigned v is h = (let k : Ok (view x) ≡ Ok v = sym h ∙ is in cc)
given view M (Err e) assigned v is h = tt

only_memory : {V : Type 0} (M : Type 0) (e : Error) (assigned : Result V Error) (v : V) → assigned ≡ Ok v → GivesError M e assigned → (e ≡ OutOfMemory) × M
only_memory M OutOfMemory assigned v is h = (refl, h)
only_memory M e assigned v is h = (let k : Ok v ≡ Err e = sym is ∙ h in cc)

pub not_given : {X V : Type 0} (view : X → V) (M : Type 0) (r : Result X Error) (assigned : Result V Error) (v : V) → assigned ≡ Ok v → Gives view M r assigned
    → IfErr r (λ e. (e ≡ OutOfMemory) × M)
not_given view M (Ok x) assigned v is h = tt
not_given view M (Err e) assigned v is h = only_memory M e assigned v is h

-- as many items as entries
pub least_of_items : {C A R V : Type 0} (r : Result C Error) (items : C → List A) (v : A → V) (f : R → V) (raws : List R) (reads : V → ℕ) (k old new : ℕ)
    → IfOk r (λ c. map v (items c) ≡ map f raws) → IfOk r (λ c. after old (length raws + (k + sum_by reads (map v (items c)))) ≤ new)
    → IfOk r (λ c. after old (length (items c) + sum_by reads (map v (items c))) ≤ new)
least_of_items (Err e) items v f raws reads k old new same h = tt
least_of_items (Ok c) items v f raws reads k old new same h =
    let n : length (items c) ≡ length raws = sym (length-map (items c) v) ∙ ap length same ∙ length-map raws f in
    rw n (omega (arith, h))
