-- An output that takes a text, and then another.
use Rattle.std.proofs.Common.{◌≡◌, ◌∙◌, ◌++◌, ℕ, List, [], refl, IsErrAnd, OnErr, Option, Result, Ok, Err}
use Rattle.std.specs.declared.io.Error.{Error as IoError}
use Rattle.std.proofs.KnownBytes.{Appends-nil, Appends-trans}
use Rattle.whocrashed.specs.Output.{Gains, GainsBy, Writes}
use Rattle.whocrashed.specs.declared.output.Output.{Output}
use Rattle.whocrashed.specs.declared.output.Stopped.{Stopped}
use Rattle.whocrashed.specs.declared.output.Stopped.TheVariants.{NoMemory, NoOutput}

module _ {O : Type 0} (contents : O → Option (List ℕ)) where
  -- nothing
  writes_nothing : (out : Output O) → Writes contents out out []
  writes_nothing out = record { grown = Appends-nil (contents out.to); same_failure = refl }

  pub gains_nothing : (out : Output O) (is : List ℕ → Type 0) → is [] → Gains contents out out is
  gains_nothing out is h = ([], h, writes_nothing out)

  -- a call that fails before it writes
  pub fails_first : {X E : Type 0} (out : Output O) (r : Result X E) → OnErr r (Writes contents out out [])
  fails_first out (Ok x) = tt
  fails_first out (Err e) = writes_nothing out

  -- one text
  pub gains_one : (a b : Output O) (text : List ℕ) (is : List ℕ → Type 0) → Writes contents a b text → is text → Gains contents a b is
  gains_one a b text is writes h = (text, h, writes)

  -- one text, and then another
  pub writes_then : (a b c : Output O) (xs ys : List ℕ) → Writes contents a b xs → Writes contents b c ys → Writes contents a c (xs ++ ys)
  writes_then a b c xs ys first then = record {
    grown = Appends-trans (contents a.to) (contents b.to) (contents c.to) xs ys first.grown then.grown;
    same_failure = then.same_failure ∙ first.same_failure;
  }

  -- one of a kind, which is another kind too
  pub gains_as : (a b : Output O) (is wider : List ℕ → Type 0) → Gains contents a b is → ((text : List ℕ) → is text → wider text) → Gains contents a b wider
  gains_as a b is wider gains more = (gains.0, more gains.0 gains.1, gains.2)

  -- what a call did is as another says
  pub gains_by_as : {X : Type 0} (a b : Output O) (is wider : X → List ℕ → Type 0) (begun started : List ℕ → Type 0) (r : Result X Stopped)
      → GainsBy contents a b is begun r → ((x : X) (text : List ℕ) → is x text → wider x text) → ((text : List ℕ) → begun text → started text)
      → GainsBy contents a b wider started r
  gains_by_as a b is wider begun started (Ok x) reports more less = gains_as a b (is x) (wider x) reports (more x)
  gains_by_as a b is wider begun started (Err (NoMemory error)) reports more less = gains_as a b begun started reports less
  gains_by_as a b is wider begun started (Err NoOutput) reports more less = reports

  -- memory ran out before anything was printed
  pub out_of_memory : {X : Type 0} (out : Output O) (is : X → List ℕ → Type 0) (begun : List ℕ → Type 0) (r : Result X Stopped) → begun []
      → IsErrAnd r (λ why. (error : IoError) × (why ≡ NoMemory error)) → GainsBy contents out out is begun r
  out_of_memory out is begun (Ok x) nothing given = absurd given
  out_of_memory out is begun (Err (NoMemory error)) nothing given = gains_nothing out begun nothing
  out_of_memory out is begun (Err NoOutput) nothing (error, same) = absurd (let clash : NoOutput ≡ NoMemory error = same in cc)
