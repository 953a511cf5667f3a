-- The rules of the options that are left stand behind those so far.
use Rattle.std.proofs.Common.{◌≡◌, drop, map}
use Rattle.clap.specs.Words.{app_of}
use Rattle.whocrashed_inputs.specs.Options.{row_rule, with_rules}
use Rattle.whocrashed_inputs.proofs.options.with_options.Given as goal

abbrev pub invariant-loop-name : goal.invariant-loop-name
invariant-loop-name l = with_rules (app_of l.told) (map row_rule (drop l.name-index l.fn.options))
    ≡ with_rules (app_of l.fn.command) (map row_rule l.fn.options)
