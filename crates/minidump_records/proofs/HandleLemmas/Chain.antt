-- The pieces of information on an object, as they are read one after another.
use Rattle.std.proofs.Common.{◌≡◌, ℕ, ◌<◌, ◌≤◌, List, [], ◌∷◌, ◌++◌, length, arith, refl, ap, sym, ◌∙◌, length-append, Bool, true, false, nat_eq, cond}
use Rattle.std.specs.Prelude.{Option, Some, None, if◌then◌else◌, ◌==◌}
use Rattle.std.specs.List.{filter_map, list_any}
use Rattle.std.proofs.lemmas.List.Elements.{filter_map-append}
use Rattle.std.proofs.lemmas.Bool.Decides.{nat_tests}
use Rattle.std.specs.Option.{option_and_then}
use Rattle.std.specs.BTreeMap.{is_at}
use Rattle.std.specs.Cmp.{unsigned_tied}
use Rattle.std.specs.Ordering.{nat_cmp}
use Rattle.minidump_bytes.specs.declared.endian.Endian.{Endian}
use Rattle.minidump_bytes.specs.Span.{record_at}
use Rattle.minidump_format.specs.Handle.{object_information}
use Rattle.minidump_records.specs.declared.handles.information.MinidumpHandleObjectInformation.{MinidumpHandleObjectInformation}
use Rattle.minidump_records.specs.Handles.{object_chain}
use Rattle.minidump_records.specs.Handles.ObjectChain.{information_at, last_link, next_of, with_type}
use Rattle.minidump_records.proofs.HandleLemmas.OneObjectChain.{object_chain_is_one, readable}
use Rattle.minidump_system.proofs.OneChain.{Leading, leading_end, leading_more, leading_none, leading_short}
use Rattle.minidump_records.proofs.HandleLemmas.Offsets.{same_push}

-- whether a set of offsets has an offset
abbrev pub has : List ℕ → ℕ → Bool
has offsets q = list_any (is_at (nat_cmp q)) offsets

-- a list of one piece more ends at the link of that piece
pub last_link-push : (link : ℕ) (infos : List MinidumpHandleObjectInformation) (i : MinidumpHandleObjectInformation)
    → last_link link (infos ++ i ∷ []) ≡ i.raw.next_info_rva
last_link-push link [] i = refl
last_link-push link (j ∷ js) i = last_link-push j.raw.next_info_rva js i

-- there is no piece at 0
pub nonzero : (order : Endian) (file : List ℕ) (offset : ℕ) (i : MinidumpHandleObjectInformation) → information_at order file offset ≡ Some i → 0 < offset
unfolding information_at
nonzero order file offset i h = by_zero (offset == 0) refl h
  where
    by_zero : (b : Bool) → (offset == 0) ≡ b → option_and_then with_type (if b then None else record_at object_information order offset file) ≡ Some i → 0 < offset
    by_zero true e k = cc
    by_zero false e k = grind (arith, nat_tests, e)

module _ (order : Endian) (file : List ℕ) where
  abbrev at : ℕ → Option MinidumpHandleObjectInformation
  at = information_at order file

  -- the pieces so far, the set of their offsets, and the offset that they lead to
  pub record Chaining (link offset : ℕ) (infos : List MinidumpHandleObjectInformation) (offsets : List ℕ) : Type 0 where
    pub done : List ℕ
    pub leading : Leading at next_of (length file) link offset done
    pub found : infos ≡ filter_map at done
    pub as_many : length infos ≡ length done
    pub same : 0 < offset → (q : ℕ) → has offsets q ≡ list_any (nat_eq q) done

  pub chaining_none : (link : ℕ) (infos : List MinidumpHandleObjectInformation) (offsets : List ℕ) → infos ≡ [] → offsets ≡ [] → Chaining link link infos offsets
  chaining_none link infos offsets e h = record {
    done = [];
    leading = leading_none at next_of (length file) link;
    found = e;
    as_many = rw e refl;
    same = λ some q. rw h refl;
  }

  pub chaining_short : (link offset : ℕ) (infos : List MinidumpHandleObjectInformation) (offsets : List ℕ) → Chaining link offset infos offsets
      → length infos ≤ length file
  chaining_short link offset infos offsets c = omega (arith, c.as_many, leading_short at next_of (length file) link offset c.done c.leading)

  pub chaining_more : (link offset : ℕ) (infos : List MinidumpHandleObjectInformation) (old new : List ℕ) (i : MinidumpHandleObjectInformation)
      → at offset ≡ Some i
      → has old offset ≡ false → (0 < i.raw.next_info_rva → (q : ℕ) → has new q ≡ cond (is_at (nat_cmp offset) q) true (has old q))
      → Chaining link offset infos old → Chaining link i.raw.next_info_rva (infos ++ i ∷ []) new
  chaining_more link offset infos old new i is absent updates c = record {
    done = c.done ++ offset ∷ [];
    leading =
        leading_more at next_of (length file) link offset c.done i (readable order file offset i is) is
        (sym (c.same (nonzero order file offset i is) offset) ∙ absent) c.leading;
    found =
        let one : filter_map at (offset ∷ []) ≡ i ∷ [] = rw is refl in
        rw (filter_map-append at c.done (offset ∷ []), one) (ap (λ l. l ++ i ∷ []) c.found);
    as_many = omega (arith, c.as_many, length-append infos (i ∷ []), length-append c.done (offset ∷ []));
    same = λ some q. same_push c.done offset q (has new q) (has old q) (updates some q ∙ ap (λ b. cond b true (has old q)) (unsigned_tied offset q))
        (c.same (nonzero order file offset i is) q);
  }

  -- where no new piece is, these are all
  ended : (link offset : ℕ) (infos : List MinidumpHandleObjectInformation) (offsets : List ℕ) (c : Chaining link offset infos offsets)
      → ((i : MinidumpHandleObjectInformation) → at offset ≡ Some i → list_any (nat_eq offset) c.done ≡ false → ⊥) → infos ≡ object_chain order file link
  unfolding object_chain
  ended link offset infos offsets c none =
      c.found
      ∙ ap (λ l. filter_map at l)
      (object_chain_is_one order file link c.done (leading_end at next_of (length file) link offset c.done none c.leading))

  pub chaining_end : (link offset : ℕ) (infos : List MinidumpHandleObjectInformation) (offsets : List ℕ) → at offset ≡ None → Chaining link offset infos offsets
      → infos ≡ object_chain order file link
  chaining_end link offset infos offsets h c = ended link offset infos offsets c (λ i is new. (let k : None ≡ Some i = sym h ∙ is in cc))

  pub chaining_met : (link offset : ℕ) (infos : List MinidumpHandleObjectInformation) (offsets : List ℕ) → 0 < offset → has offsets offset ≡ true
      → Chaining link offset infos offsets → infos ≡ object_chain order file link
  chaining_met link offset infos offsets some h c = ended link offset infos offsets c (λ i is new. (let k : true ≡ false = sym h ∙ c.same some offset ∙ new in cc))
