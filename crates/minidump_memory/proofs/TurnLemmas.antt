-- The fields of a line are the same, whether they are cut first or read one after the other.
use Rattle.std.proofs.Common.{◌≡◌, ◌≢◌, ℕ, List, ◌∷◌, ◌++◌, Option, Some, None, append_assoc, arith, refl, sym, ◌∙◌}
use Rattle.std.specs.Str.{trim}
use Rattle.std.specs.Option.{option_map}
use Rattle.minidump_bytes.specs.Digits.{IsNumber}
use Rattle.minidump_bytes.specs.LinuxOsStr.{cut_first}
use Rattle.minidump_memory.proofs.BeforeLemmas.{before_is, digits_lack, lacks_back, lacks_between, number_is_before}
use Rattle.minidump_memory.proofs.GrammarLemmas.{fields_spell, spelled_fields}
use Rattle.minidump_bytes.proofs.CutLemmas.{cut_is, given, is_cut, some_same}
use Rattle.minidump_memory.proofs.PathLemmas.{letters_spell, path_spells, spelled_letters, spelled_path}
use Rattle.minidump_bytes.specs.Cut.{IsCut, Lacks}
use Rattle.minidump_memory.specs.MapLine.{AreFields, AreTwo, MapRegion, fields_in, path_in, permissions}
use Rattle.minidump_memory.specs.MapParts.{fields_in_turn, number_before, permissions_before, two_before}

-- ---- two numbers, and the space after them
module _ (sep bits : ℕ) (text after : List ℕ) where
  first_cut : (field : List ℕ) (pair : ℕ × ℕ) → IsCut 32 text field after → (two : AreTwo sep bits field pair) → IsCut sep text two.first (two.last ++ 32 ∷ after)
  first_cut field pair cut two = record {
    joined = cut.joined ∙ rw (two.cut.joined, append_assoc) refl;
    lacks = two.cut.lacks;
  }

  last_cut : (field : List ℕ) (pair : ℕ × ℕ) → IsCut 32 text field after → (two : AreTwo sep bits field pair)
      → IsCut 32 (two.last ++ 32 ∷ after) two.last after
  last_cut field pair cut two = record { joined = refl; lacks = lacks_back 32 sep two.first two.last (rw two.cut.joined at cut.lacks) }

  both_cut : (first rest last : List ℕ) → IsCut sep text first rest → IsCut 32 rest last after → Lacks 32 first → sep ≢ 32 → IsCut 32 text (first ++ sep ∷ last) after
  both_cut first rest last one two lacks other = record {
    joined = one.joined ∙ rw (two.joined, append_assoc) refl;
    lacks = lacks_between 32 sep first last lacks other two.lacks;
  }

  are_two : (first rest last : List ℕ) (m n : ℕ) → IsCut sep text first rest → IsNumber 16 bits first m → IsNumber 16 bits last n
      → AreTwo sep bits (first ++ sep ∷ last) (m, n)
  are_two first rest last m n cut one two = record { first = first; last = last; cut = record { joined = refl; lacks = cut.lacks }; first_is = one; last_is = two }

  -- the two numbers, if the field before the space is them
  two_is_before : (field : List ℕ) (pair : ℕ × ℕ) → IsCut 32 text field after → AreTwo sep bits field pair → two_before bits sep text ≡ Some (pair, after)
  two_is_before field pair cut two =
      rw (
        number_is_before 16 bits sep text two.first (two.last ++ 32 ∷ after) pair.0 (first_cut field pair cut two) two.first_is,
        number_is_before 16 bits 32 (two.last ++ 32 ∷ after) two.last after pair.1 (last_cut field pair cut two) two.last_is,
      ) refl

-- the field of two numbers that are there
record Two (sep bits : ℕ) (text : List ℕ) (pair : ℕ × ℕ) (rest : List ℕ) : Type 0 where
  field : List ℕ
  cut : IsCut 32 text field rest
  two : AreTwo sep bits field pair

two_is : (sep bits : ℕ) (text : List ℕ) (p : (ℕ × ℕ) × List ℕ) → sep ≢ 32 → two_before bits sep text ≡ Some p → Two sep bits text p.0 p.1
two_is sep bits text p other h =
    let first = given (number_before 16 bits sep text) _ p h in
    let last = given (number_before 16 bits 32 first.0.1) _ p first.2 in
    let a = before_is 16 bits sep text first.0 first.1 in
    let b = before_is 16 bits 32 first.0.1 last.0 last.1 in
    rw (← some_same {A = (ℕ × ℕ) × List ℕ} ((first.0.0, last.0.0), last.0.1) p last.2) (record {
      field = a.front ++ sep ∷ b.front;
      cut = both_cut sep bits text last.0.1 a.front first.0.1 b.front a.cut b.cut (digits_lack 16 32 a.front (omega arith) a.number.numeral.1) other;
      two = are_two sep bits text last.0.1 a.front first.0.1 b.front first.0.0 last.0.0 a.cut a.number b.number;
    })

-- ---- permissions
permissions_by : (text : List ℕ) (p : ℕ × List ℕ) (o : Option (List ℕ × List ℕ)) → cut_first 32 text ≡ o → option_map (λ q. (permissions q.0, q.1)) o ≡ Some p
    → (front : List ℕ) × IsCut 32 text front p.1 × (permissions front ≡ p.0)
permissions_by text p None e h = absurd (let k : None ≡ Some p = h in cc)
permissions_by text p (Some (front, back)) e h =
    let same : (permissions front, back) ≡ p = some_same {A = ℕ × List ℕ} (permissions front, back) p h in
    rw (← same) (front, cut_is 32 text front back e, refl)

permissions_is : (text : List ℕ) (p : ℕ × List ℕ) → permissions_before text ≡ Some p
    → (front : List ℕ) × IsCut 32 text front p.1 × (permissions front ≡ p.0)
permissions_is text p h = permissions_by text p (cut_first 32 text) refl h

-- ---- fields
spelled_in_turn : (line : List ℕ) (m : MapRegion) → AreFields line m → fields_in_turn line ≡ Some m
unfolding fields_in_turn
spelled_in_turn line m h =
    rw (
      two_is_before 45 64 line h.after_range h.range m.address h.cut_range h.range_is,
      is_cut 32 h.after_range h.perms h.after_perms h.cut_perms,
      number_is_before 16 64 32 h.after_perms h.offset h.after_offset m.offset h.cut_offset h.offset_is,
      two_is_before 58 32 h.after_offset h.after_dev h.dev m.dev h.cut_dev h.dev_is,
      number_is_before 10 64 32 h.after_dev h.inode h.path m.inode h.cut_inode h.inode_is,
      spelled_path (trim h.path) m.pathname h.path_is,
      spelled_letters h.perms m.perms h.perms_are,
    ) refl

turn_spells : (line : List ℕ) (m : MapRegion) → fields_in_turn line ≡ Some m → AreFields line m
unfolding fields_in_turn
turn_spells line m h =
    let address = given (two_before 64 45 line) _ m h in
    let perms = given (permissions_before address.0.1) _ m address.2 in
    let offset = given (number_before 16 64 32 perms.0.1) _ m perms.2 in
    let dev = given (two_before 32 58 offset.0.1) _ m offset.2 in
    let inode = given (number_before 10 64 32 dev.0.1) _ m dev.2 in
    let path = given (path_in (trim inode.0.1)) _ m inode.2 in
    let a = two_is 45 64 line address.0 (omega arith) address.1 in
    let p = permissions_is address.0.1 perms.0 perms.1 in
    let o = before_is 16 64 32 perms.0.1 offset.0 offset.1 in
    let d = two_is 58 32 offset.0.1 dev.0 (omega arith) dev.1 in
    let i = before_is 10 64 32 dev.0.1 inode.0 inode.1 in
    rw (← some_same _ m path.2) (record {
      range = a.field;
      after_range = address.0.1;
      cut_range = a.cut;
      perms = p.0;
      after_perms = perms.0.1;
      cut_perms = p.1;
      offset = o.front;
      after_offset = offset.0.1;
      cut_offset = o.cut;
      dev = d.field;
      after_dev = dev.0.1;
      cut_dev = d.cut;
      inode = i.front;
      path = inode.0.1;
      cut_inode = i.cut;
      range_is = a.two;
      perms_are = letters_spell p.0 perms.0.0 p.2;
      offset_is = o.number;
      dev_is = d.two;
      inode_is = i.number;
      path_is = path_spells (trim inode.0.1) path.0 path.1;
    })

-- ---- both
same_by : {A : Type 0} (o p : Option A) → ((x : A) → o ≡ Some x → p ≡ Some x) → ((x : A) → p ≡ Some x → o ≡ Some x) → o ≡ p
same_by None None f g = refl
same_by None (Some y) f g = g y refl
same_by (Some x) p f g = sym (f x refl)

pub fields_are_in_turn : (line : List ℕ) → fields_in line ≡ fields_in_turn line
fields_are_in_turn line =
    same_by (fields_in line) (fields_in_turn line)
    (λ m h. spelled_in_turn line m (fields_spell line m h)) (λ m h. spelled_fields line m (turn_spells line m h))
