-- The tokens of objects and arrays, from those of their members and items.
use Rattle.std.specs.List.{enumerate_from, flat_map}
use Rattle.std.specs.Option.{option_map}
use Rattle.std.specs.Result.{result_ok}
use Rattle.std.proofs.lemmas.Grind.{flat_map-append}
use Rattle.std.proofs.lemmas.List.{drop_all, length-map}
use Rattle.std.proofs.lemmas.Simd.{map-map}
use Rattle.std.proofs.Common.{◌<◌, ◌+◌, suc, length, get_or, drop, add-one, drop-cons, ◌≡◌, ◌∙◌, ◌≤◌, ℕ, List, [], ◌∷◌, ◌++◌, Option, Some, None, Result, Ok}
use Rattle.std.proofs.Common.{Err, Bool, arith, filter, map, option_and_then, refl, ap, sym, append_assoc, append-nil}
use Rattle.json.specs.Token.{Token, begin_object, end_object, begin_array, end_array}
use Rattle.json.specs.Json.{Json, array, document, if_last, max_depth, value}
use Rattle.json.specs.Lex.{tokens}
use Rattle.json.proofs.Printed.Trees.{value-json_tokens}
use Rattle.json.specs.Tree.{json_tokens, members_tokens, items_tokens, depth}
use Rattle.minidump.specs.declared.Error.{Error}
use Rattle.minidump.specs.Below.Contexts.Context.{map_ok}
use Rattle.crash_json.specs.Tree.{array_of, items_of, member_list_tokens, member_tokens, members_of, numbered_array_of, object_of, or_null}

members_of_list : (ms : List (List ℕ × Json)) → members_tokens (members_of ms) ≡ member_list_tokens ms ++ (end_object ∷ [])
unfolding member_list_tokens
members_of_list [] = refl
members_of_list (m ∷ ms) = simp (members_of_list ms, append_assoc)

-- brackets round the tokens of members are an object
pub object_of_members : (old : List Token) (ms : List (List ℕ × Json))
    → ((old ++ (begin_object ∷ [])) ++ member_list_tokens ms) ++ (end_object ∷ []) ≡ old ++ json_tokens (object_of ms)
object_of_members old ms = simp (members_of_list, append_assoc)

-- members in brackets are an object
pub in_object : (t u v : List Token) (ms : List (List ℕ × Json))
    → u ≡ t ++ (begin_object ∷ []) → v ≡ u ++ member_list_tokens ms → v ++ (end_object ∷ []) ≡ t ++ json_tokens (object_of ms)
in_object t u v ms begin members =
    ap (λ ts. ts ++ (end_object ∷ [])) (members ∙ ap (λ ts. ts ++ member_list_tokens ms) begin) ∙ object_of_members t ms

-- a name and its value are a member
pub named : (t u v : List Token) (name : List ℕ) (j : Json) → u ≡ t ++ (Token.key name ∷ []) → v ≡ u ++ json_tokens j → v ≡ t ++ member_list_tokens ((name, j) ∷ [])
unfolding member_list_tokens
named t u v name j key value =
    value ∙ ap (λ ts. ts ++ json_tokens j) key ∙ append_assoc t (Token.key name ∷ []) (json_tokens j)
    ∙ ap (λ ts. t ++ (Token.key name ∷ ts)) (sym (append-nil (json_tokens j)))

-- members after members
pub more : (t u v : List Token) (a b : List (List ℕ × Json)) → u ≡ t ++ member_list_tokens a → v ≡ u ++ member_list_tokens b → v ≡ t ++ member_list_tokens (a ++ b)
unfolding member_list_tokens
more t u v a b first second =
    second ∙ ap (λ ts. ts ++ member_list_tokens b) first ∙ append_assoc t (member_list_tokens a) (member_list_tokens b)
    ∙ ap (λ ts. t ++ ts) (sym (flat_map-append member_tokens a b))

-- the tokens of the values of items, one after another, without brackets
abbrev pub item_tokens : {X : Type 0} → (X → Json) → List X → List Token
item_tokens json xs = flat_map (λ x. json_tokens (json x)) xs

items_of_list : {X : Type 0} (f : X → Json) (xs : List X) → items_tokens (items_of (map f xs)) ≡ item_tokens f xs ++ (end_array ∷ [])
items_of_list f [] = refl
items_of_list f (x ∷ xs) = simp (items_of_list f xs, append_assoc)

array_of_items : {X : Type 0} (f : X → Json) (xs : List X) (t : List Token)
    → ((t ++ (begin_array ∷ [])) ++ item_tokens f xs) ++ (end_array ∷ []) ≡ t ++ json_tokens (array_of f xs)
array_of_items f xs t = simp (items_of_list, append_assoc)

-- items in brackets are an array
pub in_array : {X : Type 0} (f : X → Json) (xs : List X) (t u v : List Token)
    → u ≡ t ++ (begin_array ∷ []) → v ≡ u ++ item_tokens f xs → v ++ (end_array ∷ []) ≡ t ++ json_tokens (array_of f xs)
in_array f xs t u v begin items =
    ap (λ ts. ts ++ (end_array ∷ [])) (items ∙ ap (λ ts. ts ++ item_tokens f xs) begin) ∙ array_of_items f xs t

-- after what was put, the tokens of an item and of those after it are those from the item's number
-- on
pub next_numbered : {X : Type 0} (f : ℕ → X → Json) (xs : List X) (i : ℕ) (old new : List Token) (x : X) {all : List Token}
    → i < length xs → x ≡ get_or xs i x → new ≡ old ++ json_tokens (f i x)
    → old ++ item_tokens (λ p. f p.0 p.1) (enumerate_from i (drop i xs)) ≡ all
    → new ++ item_tokens (λ p. f p.0 p.1) (enumerate_from (i + 1) (drop (i + 1) xs)) ≡ all
next_numbered f xs i old new x within at put whole =
    let next : drop i xs ≡ x ∷ drop (i + 1) xs = drop-cons xs i x within ∙ ap (λ y. y ∷ drop (suc i) xs) (sym at) ∙ ap (λ k. x ∷ drop k xs) (sym (add-one i)) in
    let rest = item_tokens (λ p. f p.0 p.1) (enumerate_from (i + 1) (drop (i + 1) xs)) in
    ap (λ ts. ts ++ rest) put ∙ append_assoc old (json_tokens (f i x)) rest
    ∙ sym (ap (λ ys. old ++ item_tokens (λ p. f p.0 p.1) (enumerate_from i ys)) next) ∙ whole

-- after the last item comes none
pub last_numbered : {X : Type 0} (f : ℕ → X → Json) (xs : List X) (i : ℕ) (now : List Token) {all : List Token}
    → length xs ≤ i → now ++ item_tokens (λ p. f p.0 p.1) (enumerate_from i (drop i xs)) ≡ all → now ≡ all
last_numbered f xs i now past whole =
    sym (append-nil now) ∙ ap (λ ys. now ++ item_tokens (λ p. f p.0 p.1) (enumerate_from i ys)) (sym (drop_all i xs past)) ∙ whole

-- a text that was printed from the tokens of a value, put after none, is that value
pub document_of_put : (text printed : List ℕ) (before after : List Token) (j : Json) → text ≡ printed → tokens printed ≡ after
    → after ≡ before ++ json_tokens j → before ≡ [] → depth j ≤ max_depth → document text ≡ Some j
document_of_put text printed before after j is read put begin shallow =
    let same : tokens text ≡ json_tokens j = ap tokens is ∙ read ∙ put ∙ ap (λ ts. ts ++ json_tokens j) begin in
    ap (option_and_then (λ p. if_last p.0 p.1))
    (ap (value max_depth) (same ∙ sym (append-nil (json_tokens j))) ∙ value-json_tokens j max_depth [] shallow)

-- ---- the values that items stand for

numbered_from : {X V : Type 0} (json : ℕ → V → Json) (value : X → V) (n : ℕ) (xs : List X)
    → map (λ p. json p.0 p.1) (enumerate_from n (map value xs)) ≡ map (λ p. json p.0 (value p.1)) (enumerate_from n xs)
numbered_from json value n [] = refl
numbered_from json value n (x ∷ xs) = ap (λ js. json n (value x) ∷ js) (numbered_from json value (n + 1) xs)

pub numbered_values : {X V : Type 0} (json : ℕ → V → Json) (value : X → V) (xs : List X)
    → numbered_array_of json (map value xs) ≡ numbered_array_of (λ n x. json n (value x)) xs
numbered_values json value xs = ap (λ js. array (items_of js)) (numbered_from json value 0 xs)

-- a member whose value is the array of the values of items, by their numbers
pub named_array : {X V : Type 0} (json wanted : ℕ → V → Json) (value : X → V) (xs : List X) (vs : List V) (name : List ℕ) (t u v : List Token)
    → json ≡ wanted → map value xs ≡ vs → u ≡ t ++ (Token.key name ∷ []) → v ≡ u ++ json_tokens (numbered_array_of (λ n x. json n (value x)) xs)
    → v ≡ t ++ member_list_tokens ((name, numbered_array_of wanted vs) ∷ [])
named_array json wanted value xs vs name t u v is values key put =
    let same : numbered_array_of (λ n x. json n (value x)) xs ≡ numbered_array_of wanted vs =
    sym (numbered_values json value xs) ∙ ap (numbered_array_of json) values ∙ ap (λ f. numbered_array_of f vs) is in
    named t u v name (numbered_array_of wanted vs) key (put ∙ ap (λ j. u ++ json_tokens j) same)

-- a value that an item stands for, and that of a stream, each of which may be absent
pub or_null_of_views : {X Y : Type 0} (json : Y → Json) (view : X → Y) (o : Option X) → or_null json (option_map view o) ≡ or_null (λ x. json (view x)) o
or_null_of_views json view None = refl
or_null_of_views json view (Some x) = refl

pub or_null_of_found : {X Y : Type 0} (json : Y → Json) (view : X → Y) (found : Result X Error) → or_null json (result_ok (map_ok view found)) ≡ or_null (λ x. json (view x)) (result_ok found)
or_null_of_found json view (Ok x) = refl
or_null_of_found json view (Err e) = refl

pub filter_of_map : {X V : Type 0} (keeps : V → Bool) (view : X → V) (xs : List X) → filter keeps (map view xs) ≡ map view (filter (λ x. keeps (view x)) xs)
filter_of_map keeps view [] = refl
filter_of_map keeps view (x ∷ xs) = grind (arith, filter_of_map keeps view xs)

-- lists, numbered ones, kept items and absent values are those of what the items stand for
pub ruleset views = (map-map, or_null_of_views, or_null_of_found, numbered_values, filter_of_map, length-map)
