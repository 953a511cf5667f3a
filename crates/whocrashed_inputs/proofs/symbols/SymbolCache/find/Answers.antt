-- One module more.
use Rattle.std.proofs.Common.{◌≡◌, ◌∙◌, map, refl, rules, subst, sym}
use Rattle.std.proofs.lemmas.List.{map-set}
use Rattle.std.proofs.lemmas.List.Elements.{Contains-get_or}
use Rattle.std.specs.List.{slice_set}
use Rattle.std.specs.Prelude.{Contains, slice_index}
use borrow.Author.Count.{below_more}
use Rattle.crash_process.specs.Modules.{loaded_of}
use Rattle.crash_symbols.specs.Symbols.{known_of}
use Rattle.crash_symbols.specs.declared.symbols.Symbols.{Symbols}
use Rattle.whocrashed_inputs.proofs.SymbolLemmas.{asked_with, kept_with, sound_with, value_read}
use Rattle.whocrashed_inputs.specs.Symbols.{IsAsked, state_read}
use Rattle.whocrashed_inputs.proofs.symbols.SymbolCache.find.Goals as goal

pub loop-index-preserved : goal.loop-index-preserved
loop-index-preserved c =
    let modules = map loaded_of c.args.modules.now in
    let wanted = c.args.wanted.now in
    let index = slice_index wanted c.loop-index.index-index in
    let found = c.file_of-found.result in
    let old = known_of c.loop-index.symbols in
    let symbols : Symbols = record { files = c.set_at.new.items; states = c.set_at-in-loop-index.new.items } in
    let new = known_of symbols in
    let files : new.files ≡ slice_set old.files index (value_read found) = rw (c.set_at.ensures, map-set, c.ok.ensures.value) refl in
    let states : new.states ≡ slice_set old.states index (state_read found) = rw (c.set_at-in-loop-index.ensures, c.state_read.ensures) refl in
    let asked = asked_with modules old new index found files states in
    record {
      sound = λ was. sound_with modules old new index found files states c.file_of-found.ensures.file (c.loop-index.invariant.sound was);
      asked = below_more (λ j. IsAsked new.states (slice_index wanted j)) c.loop-index.index-index
          (λ j before. asked _ (λ apart. c.loop-index.invariant.asked j before)) (asked index (λ apart. absurd (apart refl)));
      others = λ k not_wanted.
          let kept = kept_with modules old new index found files states k
          (λ same. not_wanted (subst (Contains wanted) (sym same) (Contains-get_or wanted c.loop-index.index-index 0 (search rules)))) in
          let before = c.loop-index.invariant.others k not_wanted in
          (kept.0 ∙ before.0, kept.1 ∙ before.1);
      dirs = c.file_of-found.ensures.dirs ∙ c.loop-index.invariant.dirs;
      limit = c.file_of-found.ensures.limit ∙ c.loop-index.invariant.limit;
    }
