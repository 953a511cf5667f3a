-- The parse of the command with all its options.
use Rattle.std.proofs.Common.{Err, Ok, rules}
use Rattle.clap.specs.declared.parser.matches.ArgMatches.{ArgMatches}
use Rattle.whocrashed_inputs.proofs.OptionLemmas.{fails_by, found_in}
use Rattle.whocrashed_inputs.proofs.options.parsed.Goals as goal

pub returns-in_err-matches-clause-fails : goal.returns-in_err-matches-clause-fails
returns-in_err-matches-clause-fails c =
    let fails = fails_by _ c.args.words.now c.in_ok-command.ensures {T = ArgMatches} (Err c.in_err-matches.field-0.0) c.in_err-matches.ensures.kinds in
    search (rules, fails)

pub returns-clause-fails : goal.returns-clause-fails
returns-clause-fails c = fails_by _ c.args.words.now c.in_ok-command.ensures {T = ArgMatches} (Ok c.in_ok-matches.matches) c.in_ok-matches.ensures.kinds

pub returns-clause-found : goal.returns-clause-found
returns-clause-found c = found_in _ c.args.words.now c.in_ok-command.ensures c.in_ok-matches.matches c.in_ok-matches.ensures.ok.2
