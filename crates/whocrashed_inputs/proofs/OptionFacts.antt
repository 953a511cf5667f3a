-- What some words ask for, by the rules of the options.
use Rattle.std.proofs.Common.{◌≡◌, [], ◌∷◌, Some, codes, refl}
use Rattle.clap.specs.Words.{all_of, fault_of, matches_of, one_of}
use Rattle.clap.specs.declared.error.kind.ErrorKind.TheVariants.{DisplayHelp, DisplayVersion, UnknownArgument, ValueValidation}
use Rattle.clap.proofs.OnLiterals.{clap_on_literals}
use Rattle.whocrashed_inputs.specs.Options.{whocrashed_app}

-- a page of a dump
page : (fault_of whocrashed_app (codes "--html" ∷ codes "a.dmp" ∷ []) ≡ [])
    × (one_of (codes "html") (matches_of whocrashed_app (codes "--html" ∷ codes "a.dmp" ∷ [])) ≡ Some (codes "true"))
    × (one_of (codes "json") (matches_of whocrashed_app (codes "--html" ∷ codes "a.dmp" ∷ [])) ≡ Some (codes "false"))
    × (all_of (codes "dumps") (matches_of whocrashed_app (codes "--html" ∷ codes "a.dmp" ∷ [])) ≡ Some (codes "a.dmp" ∷ []))
unfolding whocrashed_app clap_on_literals
page = (refl, refl, refl, refl)

-- two directories, and the default of a number
dirs : (all_of (codes "symbols") (matches_of whocrashed_app (codes "--symbols" ∷ codes "a" ∷ codes "--symbols=b" ∷ [])) ≡ Some (codes "a" ∷ codes "b" ∷ []))
    × (one_of (codes "frames") (matches_of whocrashed_app (codes "--symbols" ∷ codes "a" ∷ codes "--symbols=b" ∷ [])) ≡ Some (codes "64"))
unfolding whocrashed_app clap_on_literals
dirs = (refl, refl)

-- the help, the version, an unknown option and a number that is none
errors : (fault_of whocrashed_app (codes "--help" ∷ []) ≡ DisplayHelp ∷ []) × (fault_of whocrashed_app (codes "-V" ∷ []) ≡ DisplayVersion ∷ [])
    × (fault_of whocrashed_app (codes "--no-such" ∷ []) ≡ UnknownArgument ∷ []) × (fault_of whocrashed_app (codes "--frames" ∷ codes "x" ∷ []) ≡ ValueValidation ∷ [])
unfolding whocrashed_app clap_on_literals
errors = (refl, refl, refl, refl)
