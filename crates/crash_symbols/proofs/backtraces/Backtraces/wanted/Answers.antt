-- One module more: it is wanted, or it is not.
use Rattle.std.proofs.Common.{◌≡◌, ◌∙◌, ◌<◌, ◌&&◌, ap, append-nil, arith, false, get_or, length, sym, true}
use Rattle.std.specs.List.{list_any}
use Rattle.crash_symbols.specs.Backtraces.{backtraces_of, is_unwanted, is_wanted, visits}
use Rattle.crash_symbols.specs.Symbols.{known_of, state_at}
use Rattle.crash_symbols.proofs.ListLemmas.{kept_next}
use Rattle.crash_symbols.proofs.backtraces.Backtraces.wanted.Goals as goal
use Rattle.crash_symbols.proofs.backtraces.Backtraces.wanted.Goals.{then-is_wanted+in_ok-push, else-is_wanted}

pub loop-index-preserved : goal.loop-index-preserved
loop-index-preserved c =
    let threads = backtraces_of c.args.self.now in
    let states = (known_of c.args.symbols.now).states in
    let i = c.loop-index.index in
    let within : i < c.len.result = omega (arith, c.in_ok-visited.ensures.len, ap length c.deref-is_visited-items.ensures.value) in
    let seen : get_or c.deref-is_visited-items.result.now i false ≡ list_any (visits i) threads =
    ap (λ l. get_or l i false) c.deref-is_visited-items.ensures.value ∙ (rw c.as_slice.ensures.value at (c.in_ok-visited.ensures.marks i within)) in
    let is : c.is_wanted.result ≡ is_wanted threads states i =
    c.is_wanted.ensures
    ∙ ap (λ s. is_unwanted s && get_or c.deref-is_visited-items.result.now i false) c.state.ensures
    ∙ ap (λ b. is_unwanted (state_at states i) && b) seen in
    elim c.if-is_wanted.branch [
      | then-is_wanted+in_ok-push w ↦ rw w.wanted-is
          (kept_next (is_wanted threads states) i true c.loop-index.wanted.items _ (sym is ∙ w.if-is_wanted.true) w.in_ok-push.ensures.items c.loop-index.invariant)
      | else-is_wanted w ↦ rw w.wanted-is
          (kept_next (is_wanted threads states) i false c.loop-index.wanted.items _ (sym is ∙ w.if-is_wanted.false) (sym (append-nil c.loop-index.wanted.items)) c.loop-index.invariant)
    ]
