-- The words of rules, and the values of an expression.
use Rattle.std.proofs.Common.{◌≡◌, ℕ, true, false, List, [], ◌∷◌, Option, Some, None, refl}
use Rattle.std.specs.Option.{option_or}
use Rattle.minidump_bytes.specs.LinuxOsStr.{words_of}
use Rattle.breakpad_symbols.specs.Cfi.{expression_of, is_label, labels, rule_among}
use Rattle.breakpad_symbols.specs.Expression.{StateValue, only, step, value_from}
use Rattle.breakpad_symbols.specs.Records.{until}

-- ---- the expression of a register
-- that of the words from a place on, or else this
abbrev pub Rule : List ℕ → List ℕ → Option (List (List ℕ)) → Option (List (List ℕ))
Rule name rest best = option_or (rule_among name (words_of rest)) best

or_or : {A : Type 0} (a b c : Option A) → option_or (option_or a b) c ≡ option_or a (option_or b c)
or_or None b c = refl
or_or (Some x) b c = refl

pub or_none : {A : Type 0} (a : Option A) → option_or a None ≡ a
or_none None = refl
or_none (Some x) = refl

pub rule_end : (name rest : List ℕ) (best : Option (List (List ℕ))) → words_of rest ≡ [] → Rule name rest best ≡ best
unfolding rule_among
rule_end name rest best e = rw e refl

pub rule_here : (name rest word after : List ℕ) (best : Option (List (List ℕ))) → words_of rest ≡ word ∷ words_of after
    → labels name word ≡ true → Rule name rest best ≡ Rule name after (Some (expression_of after))
unfolding rule_among
rule_here name rest word after best e is =
    rw (e, is) (or_or (rule_among name (words_of after)) (Some (until is_label (words_of after))) best)

pub rule_later : (name rest word after : List ℕ) (best : Option (List (List ℕ))) → words_of rest ≡ word ∷ words_of after
    → labels name word ≡ false → Rule name rest best ≡ Rule name after best
unfolding rule_among
rule_later name rest word after best e is = rw (e, is) (or_or (rule_among name (words_of after)) None best)

-- ---- the value of an expression
module _ (state : StateValue) (frame_address : Option ℕ) where
  -- that of the words from a place on, after these values
  abbrev pub Value : List ℕ → List ℕ → Option ℕ
  Value rest values = value_from state frame_address (expression_of rest) values

  pub value_end : (rest values : List ℕ) → words_of rest ≡ [] → Value rest values ≡ only values
  unfolding value_from until
  value_end rest values e = rw e refl

  pub value_ends : (rest word after values : List ℕ) → words_of rest ≡ word ∷ words_of after → is_label word ≡ true → Value rest values ≡ only values
  unfolding value_from until
  value_ends rest word after values e is = rw (e, is) refl

  pub value_none : (rest word after values : List ℕ) → words_of rest ≡ word ∷ words_of after → is_label word ≡ false
      → step state frame_address word values ≡ None → Value rest values ≡ None
  unfolding value_from until
  value_none rest word after values e goes none = rw (e, goes, none) refl

  pub value_next : (rest word after values next : List ℕ) → words_of rest ≡ word ∷ words_of after → is_label word ≡ false
      → step state frame_address word values ≡ Some next → Value rest values ≡ Value after next
  unfolding value_from until
  value_next rest word after values next e goes some = rw (e, goes, some) refl
