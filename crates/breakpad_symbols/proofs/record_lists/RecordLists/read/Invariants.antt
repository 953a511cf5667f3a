-- The records of the text are those so far, and then those of the rest.
use Rattle.std.proofs.Common.{length, map}
use Rattle.breakpad_symbols.specs.Cfi.{cfi_in, cfi_of}
use Rattle.breakpad_symbols.specs.Function.{function_in, function_of}
use Rattle.breakpad_symbols.specs.NumberedName.{file_in, name_of, origin_in}
use Rattle.breakpad_symbols.specs.Public.{public_in, public_of}
use Rattle.breakpad_symbols.proofs.RecordLemmas.{Rest}
use Rattle.breakpad_symbols.proofs.record_lists.RecordLists.read.Given as goal

abbrev pub invariant-loop-line : goal.invariant-loop-line
invariant-loop-line l = record {
  files : Rest file_in l.text (map name_of l.lists.files.items) l.rest;
  functions : Rest function_in l.text (map function_of l.lists.functions.items) l.rest;
  publics : Rest public_in l.text (map public_of l.lists.publics.items) l.rest;
  cfi : Rest cfi_in l.text (map cfi_of l.lists.cfi.items) l.rest;
  origins : Rest origin_in l.text (map name_of l.lists.origins.items) l.rest;
}

abbrev pub decreases-loop-line : goal.decreases-loop-line
decreases-loop-line l = length l.rest
