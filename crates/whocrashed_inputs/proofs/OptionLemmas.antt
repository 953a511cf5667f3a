-- What clap is told of the options, what the getters of its matches read, and why options are refused.
use Rattle.std.proofs.Common.{◌≡◌, ◌∙◌, ap, ap₂, List, [], Some, false, inl, inr, map, refl, subst, true}
use Rattle.std.specs.Global.{Global}
use Rattle.std.specs.Prelude.{Result, String, string_bytes}
use Rattle.clap.specs.Words.{AddsArg, App, FailsBy, HasMatchesOf, Row, app_of, fault_of, found_of, is_simple, is_simple_and_free, matches_of, rows_of, rule_of, with_rule}
use Rattle.clap.specs.declared.builder.arg.Arg.{Arg}
use Rattle.clap.specs.declared.builder.command.Command.{Command}
use Rattle.clap.specs.declared.error.Error.{Error}
use Rattle.clap.specs.declared.error.kind.ErrorKind.{ErrorKind}
use Rattle.clap.specs.declared.parser.matches.ArgMatches.{ArgMatches}
use Rattle.clap.specs.declared.error.kind.ErrorKind.TheVariants as kind
use Rattle.clap.proofs.WalkLemmas.{one_text-rows, raw_values-rows}
use Rattle.clap.proofs.OnLiterals.{clap_on_literals}
use Rattle.whocrashed_inputs.specs.declared.options.Options.{Options}
use Rattle.whocrashed_inputs.specs.Options.{AreOptions, HasTwoForms, IsErrorOf, bare_app, dumps_rule, faults_in, option_rules, refusal_in, rows_in, whocrashed_app, with_rules}

pub ruleset reads_rows = (one_text-rows, raw_values-rows)

-- the words below are those that clap's contract has a meaning for
simple : is_simple whocrashed_app ≡ true
unfolding whocrashed_app clap_on_literals
simple = refl

simple_and_free : is_simple_and_free whocrashed_app ≡ true
unfolding whocrashed_app clap_on_literals
simple_and_free = refl

-- a command that was told of the options, and then of DUMP
pub told_all : (old new : Command) (dumps : Arg) (bare : App) → bare ≡ bare_app → app_of old ≡ with_rules bare option_rules
    → rule_of dumps ≡ dumps_rule → dumps.global ≡ false → AddsArg old dumps new → app_of new ≡ whocrashed_app
unfolding whocrashed_app
told_all old new dumps bare is told rule local added = added.shape local ∙ ap₂ with_rule (told ∙ ap (λ (b : App). with_rules b option_rules) is) rule

module _ (app : App) (words : List (String Global)) (is : app ≡ whocrashed_app) where
  -- what a parse found, and how it fails
  pub found_in : (matches : ArgMatches) → HasMatchesOf app (map string_bytes words) matches → rows_of (found_of matches) ≡ rows_in words
  unfolding rows_in
  found_in matches has = (has (ap is_simple is ∙ simple)).0 ∙ ap (λ (a : App). matches_of a (map string_bytes words)) is

  pub fails_by : {T : Type 0} (result : Result T Error) → (is_simple_and_free app ≡ true → FailsBy (fault_of app (map string_bytes words)) result)
      → FailsBy (faults_in words) result
  unfolding faults_in
  fails_by result kinds = subst (λ (a : App). FailsBy (fault_of a (map string_bytes words)) result) is (kinds (ap is_simple_and_free is ∙ simple_and_free))

module _ (words : List (String Global)) (why : ErrorKind) (rows : List Row) (formed : faults_in words ≡ []) (same : rows ≡ rows_in words) where
  -- two forms are refused
  pub two_refused : HasTwoForms rows → why ≡ kind.ArgumentConflict → IsErrorOf words why
  two_refused both is = inr (inr (formed, inl (subst HasTwoForms same both, is)))

  -- so are options that are refused
  pub options_refused : (options : Options) → AreOptions rows options → refusal_in options ≡ Some why → IsErrorOf words why
  options_refused options are refused = inr (inr (formed, inr (options, subst (λ r. AreOptions r options) same are, refused)))
