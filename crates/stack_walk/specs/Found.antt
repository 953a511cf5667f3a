-- What a scan has found so far.
use Rattle.std.specs.Prelude.{◌≡◌, ℕ, ◌==◌, nat_le, Bool, List, [], ◌∷◌, ◌++◌, length, take, if◌then◌else◌}
use Rattle.std.specs.BTreeSet.{contains}
use Rattle.std.specs.List.{list_any}
use Rattle.std.specs.Ordering.{nat_cmp}
use Rattle.stack_walk.specs.declared.frame.StackFrame.{StackFrame}
use Rattle.stack_walk.specs.declared.scan.Found.{Found}
use Rattle.stack_walk.specs.Frames.{firsts}

-- whether a frame of a list has this return address
abbrev pub has_word : List StackFrame → ℕ → Bool
has_word frames word = list_any (λ f. f.instruction == word) frames

-- the return addresses that are known are those of the frames
abbrev pub IsSeen : Found → Type 0
IsSeen found = (word : ℕ) → contains nat_cmp found.seen word ≡ has_word found.frames.items word

-- frames and another one, if they are fewer than a limit, and none of them has its return address
abbrev pub up_to : ℕ → List StackFrame → StackFrame → List StackFrame
up_to limit frames f = if nat_le limit (length frames) then frames
    else (if has_word frames f.instruction then frames else frames ++ f ∷ [])

-- what is found are the first ones of candidates, at most so many
pub record IsFound (limit : ℕ) (candidates : List StackFrame) (found : Found) : Type 0 where
  pub seen : IsSeen found
  pub frames : found.frames.items ≡ take limit (firsts candidates)
