-- One line more: each list has its record, if it is one.
use Rattle.std.proofs.Common.{arith, map, sym}
use Rattle.minidump_bytes.specs.LinuxOsStr.{text_of}
use Rattle.breakpad_symbols.specs.Cfi.{cfi_in, cfi_of}
use Rattle.breakpad_symbols.specs.Function.{function_in, function_of}
use Rattle.breakpad_symbols.specs.NumberedName.{file_in, name_of, origin_in}
use Rattle.breakpad_symbols.specs.Public.{public_in, public_of}
use Rattle.breakpad_symbols.proofs.LineLemmas.{a_line}
use Rattle.breakpad_symbols.proofs.RecordLemmas.{rest_end, rest_next}
use Rattle.breakpad_symbols.proofs.record_lists.RecordLists.read.Goals as goal

pub loop-line-smaller : goal.loop-line-smaller
loop-line-smaller c = omega (arith, (a_line c.loop-line.rest.now (text_of c.in-Some.line) c.in-Some.after.now (sym c.in-Some.ensures)).1)

pub loop-line-preserved : goal.loop-line-preserved
loop-line-preserved c =
    let rest = c.loop-line.rest.now in
    let line = text_of c.in-Some.line in
    let after = c.in-Some.after.now in
    let first = sym c.in-Some.ensures in
    let lists = c.loop-line.lists in
    let i = c.loop-line.invariant in
    let more = c.in_ok-put.ensures in
    record {
      files = rest_next file_in c.args.text.now (map name_of lists.files.items) _ rest line after i.files first more.files;
      functions = rest_next function_in c.args.text.now (map function_of lists.functions.items) _ rest line after i.functions first more.functions;
      publics = rest_next public_in c.args.text.now (map public_of lists.publics.items) _ rest line after i.publics first more.publics;
      cfi = rest_next cfi_in c.args.text.now (map cfi_of lists.cfi.items) _ rest line after i.cfi first more.cfi;
      origins = rest_next origin_in c.args.text.now (map name_of lists.origins.items) _ rest line after i.origins first more.origins;
    }

pub returns : goal.returns
returns c =
    let rest = c.loop-line.rest.now in
    let lists = c.loop-line.lists in
    let i = c.loop-line.invariant in
    let none = c.in_default.ensures in
    record {
      files = rest_end file_in c.args.text.now (map name_of lists.files.items) rest i.files none;
      functions = rest_end function_in c.args.text.now (map function_of lists.functions.items) rest i.functions none;
      publics = rest_end public_in c.args.text.now (map public_of lists.publics.items) rest i.publics none;
      cfi = rest_end cfi_in c.args.text.now (map cfi_of lists.cfi.items) rest i.cfi none;
      origins = rest_end origin_in c.args.text.now (map name_of lists.origins.items) rest i.origins none;
    }
