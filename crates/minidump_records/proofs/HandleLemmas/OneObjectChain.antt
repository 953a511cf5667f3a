-- The object chain from a link is a chain, and the only one.
use Rattle.std.specs.Prelude.{◌≡◌, ℕ, ◌<◌, ◌+◌, List, length, refl, Bool, true, false, nat_le, ◌==◌, if◌then◌else◌, Some, None}
use Rattle.std.specs.Option.{option_and_then}
use Rattle.std.proofs.Common.{arith}
use Rattle.std.proofs.lemmas.Bool.Decides.{nat_tests}
use Rattle.minidump_bytes.specs.declared.endian.Endian.{Endian}
use Rattle.minidump_bytes.specs.Span.{record_at}
use Rattle.minidump_format.specs.Handle.{object_information}
use Rattle.minidump_system.specs.Chain.{IsChain}
use Rattle.minidump_system.proofs.OneChain.{chain_is_one, chain_within_is_chain}
use Rattle.minidump_records.specs.declared.handles.information.MinidumpHandleObjectInformation.{MinidumpHandleObjectInformation}
use Rattle.minidump_records.specs.Handles.{chain_offsets}
use Rattle.minidump_records.specs.Handles.ObjectChain.{information_at, next_of, with_type}

-- a piece of information stands within the file
pub readable : (order : Endian) (file : List ℕ) (offset : ℕ) (i : MinidumpHandleObjectInformation) → information_at order file offset ≡ Some i
    → offset < length file
unfolding information_at
readable order file offset i h = by_zero (offset == 0) h
  where
    by_room : (b : Bool) → nat_le (offset + 12) (length file) ≡ b → option_and_then with_type (record_at object_information order offset file) ≡ Some i
        → offset < length file
    by_room true e k = grind (arith, nat_tests, e)
    by_room false e k = (let j = rw e at k in cc)

    by_zero : (b : Bool) → option_and_then with_type (if b then None else record_at object_information order offset file) ≡ Some i → offset < length file
    by_zero true k = cc
    by_zero false k = by_room (nat_le (offset + 12) (length file)) refl k

-- the offsets of the chain of information on an object
pub is_object_chain : (order : Endian) (file : List ℕ) (link : ℕ) → IsChain (information_at order file) next_of link (chain_offsets order file link)
unfolding chain_offsets
is_object_chain order file link = chain_within_is_chain (information_at order file) next_of (length file) (readable order file) link

-- no other list is one
pub object_chain_is_one : (order : Endian) (file : List ℕ) (link : ℕ) (other : List ℕ) → IsChain (information_at order file) next_of link other
    → other ≡ chain_offsets order file link
object_chain_is_one order file link other c =
    chain_is_one (information_at order file) next_of link (chain_offsets order file link) other (is_object_chain order file link) c
