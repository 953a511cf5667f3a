-- Words have a value exactly where they are the words of an expression tree of that value.
use Rattle.std.proofs.Common.{◌≡◌, ◌∙◌, ◌↔◌, ℕ, Bool, true, false, List, [], ◌∷◌, ◌++◌, Option, Some, None, refl, ap, sym, append_assoc, append-nil}
use Rattle.std.specs.Prelude.{codes, if◌then◌else◌, ⊤}
use Rattle.std.specs.Option.{option_map}
use Rattle.std.specs.Str.{bytes_eq}
use Rattle.std.proofs.lemmas.Slice.Eq.{bytes_eq-Decides}
use Rattle.breakpad_symbols.specs.declared.expression.Operator.{Operator}
use Rattle.breakpad_symbols.specs.Expression.{StateValue, apply, apply_on, by_operator, only, operand, operator, read_on, step, value_from, value_of, word_at}
use Rattle.breakpad_symbols.specs.Tree.{HasValue, Tree, Leaf, Memory, Both, tree_value, tree_words, unless_operator}
use Rattle.minidump_bytes.proofs.CutLemmas.{given, some_same}

module _ (state : StateValue) (frame_address : Option ℕ) where
  abbrev Tree_value : Tree → Option ℕ
  Tree_value tree = tree_value state frame_address tree

  -- ---- from a tree to its words
  operand_steps : (o : Option Operator) (is_read : Bool) (word values : List ℕ) (said : Option ℕ) (v : ℕ)
      → operator word ≡ o → bytes_eq word (codes "^") ≡ is_read → operand state frame_address word ≡ said
      → unless_operator o (if is_read then None else said) ≡ Some v
      → step state frame_address word values ≡ Some (v ∷ values)
  operand_steps (Some op) is_read word values said v o r s h = absurd (let k : None ≡ Some v = h in cc)
  operand_steps None true word values said v o r s h = absurd (let k : None ≡ Some v = h in cc)
  operand_steps None false word values said v o r s h = rw (o, r, s, h) refl

  read_steps : (x v : ℕ) (values : List ℕ) → word_at state x ≡ Some v
      → step state frame_address (codes "^") (x ∷ values) ≡ Some (v ∷ values)
  unfolding operator
  read_steps x v values h = rw h refl

  apply_steps : (op : Operator) (word : List ℕ) (x y v : ℕ) (values : List ℕ) → operator word ≡ Some op → apply state.bits op x y ≡ Some v
      → step state frame_address word (y ∷ x ∷ values) ≡ Some (v ∷ values)
  apply_steps op word x y v values o h = rw (o, h) refl

  -- after the words of a tree its value is the last
  runs : (tree : Tree) (rest : List (List ℕ)) (values : List ℕ) (v : ℕ) → Tree_value tree ≡ Some v
      → value_from state frame_address (tree_words tree ++ rest) values ≡ value_from state frame_address rest (v ∷ values)
  unfolding tree_value tree_words value_from
  runs (Leaf word) rest values v h =
      rw (operand_steps (operator word) (bytes_eq word (codes "^")) word values (operand state frame_address word) v refl refl refl h) refl
  runs (Memory address) rest values v h =
      let a = given (Tree_value address) _ v h in
      ap (λ ws. value_from state frame_address ws values) (append_assoc (tree_words address) (codes "^" ∷ []) rest)
      ∙ runs address (codes "^" ∷ rest) values a.0 a.1
      ∙ rw (read_steps a.0 v values a.2) refl
  runs (Both word a b) rest values v h =
      let op = given (operator word) _ v h in
      let x = given (Tree_value a) _ v op.2 in
      let y = given (Tree_value b) _ v x.2 in
      ap (λ ws. value_from state frame_address ws values)
      (append_assoc (tree_words a ++ tree_words b) (word ∷ []) rest ∙ append_assoc (tree_words a) (tree_words b) (word ∷ rest))
      ∙ runs a (tree_words b ++ word ∷ rest) values x.0 x.1
      ∙ runs b (word ∷ rest) (x.0 ∷ values) y.0 y.1
      ∙ rw (apply_steps op.0 word x.0 y.0 v values op.1 y.2) refl

  tree_is : (words : List (List ℕ)) (v : ℕ) → HasValue state frame_address words v → value_of state frame_address words ≡ Some v
  unfolding value_from
  tree_is words v h =
      ap (λ ws. value_from state frame_address ws []) (h.1 ∙ sym (append-nil (tree_words h.0)))
      ∙ runs h.0 [] [] v h.2

  -- ---- from words to a tree
  -- the words of trees, the last tree first
  abbrev Words : List Tree → List (List ℕ)
  Words [] = []
  Words (tree ∷ trees) = Words trees ++ tree_words tree

  -- these are the values of trees
  abbrev Values : List Tree → List ℕ → Type 0
  Values [] [] = ⊤
  Values (tree ∷ trees) (v ∷ values) = (Tree_value tree ≡ Some v) × Values trees values
  Values [] (v ∷ values) = ⊥
  Values (tree ∷ trees) [] = ⊥

  -- what a word makes of trees: others, whose words have it at their end
  abbrev Made : List Tree → List ℕ → List ℕ → Type 0
  Made trees word next = (made : List Tree) × (Words made ≡ Words trees ++ word ∷ []) × Values made next

  mapped : (o : Option ℕ) (values next : List ℕ) → option_map (λ v. v ∷ values) o ≡ Some next → (v : ℕ) × (o ≡ Some v) × (v ∷ values ≡ next)
  mapped None values next h = absurd (let k : None ≡ Some next = h in cc)
  mapped (Some v) values next h = (v, refl, some_same (v ∷ values) next h)

  both_value : (op : Operator) (word : List ℕ) (a b : Tree) (x y v : ℕ) → operator word ≡ Some op → Tree_value a ≡ Some x → Tree_value b ≡ Some y
      → apply state.bits op x y ≡ Some v → Tree_value (Both word a b) ≡ Some v
  unfolding tree_value
  both_value op word a b x y v o p q h = rw (o, p, q, h) refl

  both_words : (trees : List Tree) (word : List ℕ) (a b : Tree) → Words (Both word a b ∷ trees) ≡ Words (b ∷ a ∷ trees) ++ word ∷ []
  unfolding tree_words
  both_words trees word a b =
      sym (append_assoc (Words trees) (tree_words a ++ tree_words b) (word ∷ []))
      ∙ ap (λ ws. ws ++ word ∷ []) (sym (append_assoc (Words trees) (tree_words a) (tree_words b)))

  memory_value : (a : Tree) (x v : ℕ) → Tree_value a ≡ Some x → word_at state x ≡ Some v → Tree_value (Memory a) ≡ Some v
  unfolding tree_value
  memory_value a x v p h = rw (p, h) refl

  memory_words : (trees : List Tree) (word : List ℕ) (a : Tree) → word ≡ codes "^" → Words (Memory a ∷ trees) ≡ Words (a ∷ trees) ++ word ∷ []
  unfolding tree_words
  memory_words trees word a is = rw is (sym (append_assoc (Words trees) (tree_words a) (codes "^" ∷ [])))

  applied : (op : Operator) (word : List ℕ) (trees : List Tree) (values next : List ℕ) → operator word ≡ Some op → Values trees values
      → apply_on state.bits op values ≡ Some next → Made trees word next
  unfolding tree_value tree_words
  applied op word [] [] next o has h = absurd (let k : None ≡ Some next = h in cc)
  applied op word [] (v ∷ values) next o has h = absurd has
  applied op word (tree ∷ trees) [] next o has h = absurd has
  applied op word (b ∷ []) (y ∷ []) next o has h = absurd (let k : None ≡ Some next = h in cc)
  applied op word (b ∷ []) (y ∷ x ∷ values) next o has h = absurd has.1
  applied op word (b ∷ a ∷ trees) (y ∷ []) next o has h = absurd has.1
  applied op word (b ∷ a ∷ trees) (y ∷ x ∷ values) next o has h =
      let m = mapped (apply state.bits op x y) values next h in
      rw (← m.2) (
        Both word a b ∷ trees,
        both_words trees word a b,
        (both_value op word a b x y m.0 o has.1.0 has.0 m.1, has.1.1),
      )

  read_made : (word : List ℕ) (trees : List Tree) (values next : List ℕ) → word ≡ codes "^" → Values trees values
      → read_on state values ≡ Some next → Made trees word next
  unfolding tree_value tree_words
  read_made word [] [] next is has h = absurd (let k : None ≡ Some next = h in cc)
  read_made word [] (v ∷ values) next is has h = absurd has
  read_made word (tree ∷ trees) [] next is has h = absurd has
  read_made word (a ∷ trees) (x ∷ values) next is has h =
      let m = mapped (word_at state x) values next h in
      rw (← m.2) (
        Memory a ∷ trees,
        memory_words trees word a is,
        (memory_value a x m.0 has.0 m.1, has.1),
      )

  made : (o : Option Operator) (is_read : Bool) (said : Option ℕ) (word : List ℕ) (trees : List Tree) (values next : List ℕ)
      → operator word ≡ o → bytes_eq word (codes "^") ≡ is_read → operand state frame_address word ≡ said → Values trees values
      → by_operator state frame_address word values o ≡ Some next → Made trees word next
  unfolding tree_value tree_words
  made (Some op) is_read said word trees values next o r s has h = applied op word trees values next o has h
  made None true said word trees values next o r s has h =
      let is : word ≡ codes "^" = (bytes_eq-Decides word (codes "^")).0 r in
      let g : read_on state values ≡ Some next = (rw r at h) in
      read_made word trees values next is has g
  made None false None word trees values next o r s has h =
      let g : None ≡ Some next = (rw (r, s) at h) in
      absurd cc
  made None false (Some v) word trees values next o r s has h =
      let g : Some (v ∷ values) ≡ Some next = (rw (r, s) at h) in
      let same : v ∷ values ≡ next = some_same (v ∷ values) next g in
      rw (← same) (Leaf word ∷ trees, refl, (rw (o, r, s) refl, has))

  ended : (trees : List Tree) (values : List ℕ) (v : ℕ) → Values trees values → only values ≡ Some v
      → HasValue state frame_address (Words trees ++ []) v
  ended [] [] v has h = absurd (let k : None ≡ Some v = h in cc)
  ended [] (w ∷ values) v has h = absurd has
  ended (tree ∷ trees) [] v has h = absurd has
  ended (tree ∷ []) (w ∷ []) v has h = (tree, append-nil (tree_words tree), has.0 ∙ h)
  ended (tree ∷ []) (w ∷ other ∷ values) v has h = absurd has.1
  ended (tree ∷ next ∷ trees) (w ∷ []) v has h = absurd has.1
  ended (tree ∷ next ∷ trees) (w ∷ other ∷ values) v has h = absurd (let k : None ≡ Some v = h in cc)

  parsed : (words : List (List ℕ)) (trees : List Tree) (values : List ℕ) (v : ℕ) → Values trees values
      → value_from state frame_address words values ≡ Some v → HasValue state frame_address (Words trees ++ words) v
  unfolding value_from
  parsed [] trees values v has h = ended trees values v has h
  parsed (word ∷ words) trees values v has h =
      let next = given (step state frame_address word values) _ v h in
      let m = made (operator word) (bytes_eq word (codes "^")) (operand state frame_address word) word trees values next.0 refl refl refl has next.1 in
      let rest = parsed words m.0 next.0 v m.2 next.2 in
      (rest.0, sym (append_assoc (Words trees) (word ∷ []) words) ∙ ap (λ ws. ws ++ words) (sym m.1) ∙ rest.1, rest.2)

  pub values_are : (words : List (List ℕ)) (v : ℕ) → (value_of state frame_address words ≡ Some v) ↔ HasValue state frame_address words v
  values_are words v = (parsed words [] [] v tt, tree_is words v)
