-- Which lines and words count: the definitions that search for them meet the relations.
use Rattle.std.proofs.Common.{◌≡◌, ◌≢◌, ◌↔◌, ◌∙◌, ◌⊎◌, ◌+◌, ◌-◌, ℕ, Bool, true, false, List, [], ◌∷◌, ◌++◌, length, drop, take, Option, Some, None}
use Rattle.std.proofs.Common.{refl, ap, sym, inl, inr, subst, arith}
use Rattle.std.specs.Prelude.{◌==◌, codes, if◌then◌else◌, nat_le, nat_lt}
use Rattle.std.specs.List.{AllByRecursion}
use Rattle.std.specs.Option.{option_map_or, option_or}
use Rattle.std.specs.Str.{bytes_eq}
use Rattle.std.proofs.lemmas.Bool.{eq-eqb, eqb-true, false_from_ne_true, le-leb, leb-true, lt-ltb, ltb-true}
use Rattle.std.proofs.lemmas.List.{length-append, take-append-drop}
use Rattle.std.proofs.lemmas.Slice.Eq.{bytes_eq-Decides}
use Rattle.std.proofs.Math.Seq.{drop-append_seam, take-append_seam}
use Rattle.minidump_bytes.specs.LinuxOsStr.{before_suffix, words_of}
use Rattle.breakpad_symbols.specs.declared.inline.InlineCall.{InlineCall}
use Rattle.breakpad_symbols.specs.declared.line_record.LineRecord.{LineRecord}
use Rattle.breakpad_symbols.specs.Cfi.{CfiValue, change_at, change_line, changed_rule, if_reached, is_label, labels, rule_among, rule_at, rule_in}
use Rattle.breakpad_symbols.specs.Choice.{AreBefore, BeginsWithEnd, ChangesRule, FirstSays, HaveRule, IsCallOf, IsInlineIn, IsLineIn, IsLineOf, IsRuleAt}
use Rattle.breakpad_symbols.specs.Choice.{LastSays, NoneSays}
use Rattle.breakpad_symbols.specs.Function.{FunctionValue, line_in}
use Rattle.breakpad_symbols.specs.Grammar.{IsInlineLine}
use Rattle.breakpad_symbols.specs.Inline.{any_covers, call_at, if_covering, if_depth, inline_in, inline_line, inline_with}
use Rattle.breakpad_symbols.specs.LineRecord.{covers, if_covers, line_record, line_with}
use Rattle.breakpad_symbols.specs.Records.{first_of, last_of, until}
use Rattle.minidump_bytes.proofs.CutLemmas.{given, passed, some_same}
use Rattle.breakpad_symbols.proofs.GrammarLemmas.{record_spells, spelled_record}
use Rattle.breakpad_symbols.proofs.InlineGrammarLemmas.{change_spells, inline_spells, spelled_change, spelled_inline}
use Rattle.breakpad_symbols.proofs.MemberLemmas.{any_member, both, member_any}

-- ---- texts before the first that ends them
module _ (ends : List ℕ → Bool) where
  are_before : (texts : List (List ℕ)) → AreBefore ends texts (until ends texts)
  unfolding until
  are_before [] = record { rest = []; joined = refl; go_on = tt; ends_there = tt }
  are_before (text ∷ texts) = by (ends text) refl (are_before texts)
    where
      by : (t : Bool) → ends text ≡ t → AreBefore ends texts (until ends texts) → AreBefore ends (text ∷ texts) (if t then [] else text ∷ until ends texts)
      by true is more = record { rest = text ∷ texts; joined = refl; go_on = tt; ends_there = is }
      by false is more =
          record { rest = more.rest; joined = ap (λ l. text ∷ l) more.joined; go_on = (is, more.go_on); ends_there = more.ends_there }

  until_is : (front rest : List (List ℕ)) → AllByRecursion (λ t. ends t ≡ false) front → BeginsWithEnd ends rest → until ends (front ++ rest) ≡ front
  unfolding until
  until_is [] [] go ends_there = refl
  until_is [] (text ∷ rest) go ends_there = rw ends_there refl
  until_is (text ∷ front) rest go ends_there = rw (go.0, until_is front rest go.1 ends_there) refl

  pub before_end : (texts front : List (List ℕ)) → (until ends texts ≡ front) ↔ AreBefore ends texts front
  before_end texts front = (
    (λ e. subst (AreBefore ends texts) e (are_before texts)),
    (λ h. ap (until ends) h.joined ∙ until_is front h.rest h.go_on h.ends_there),
  )

-- ---- the first and the last line that says something
module _ {A : Type 0} (found : List ℕ → Option A) (Says : List ℕ → A → Type 0)
    (same : (line : List ℕ) (x : A) → (found line ≡ Some x) ↔ Says line x) where
  silent : (line : List ℕ) → found line ≡ None → (x : A) → Says line x → ⊥
  silent line none x says = let clash : None ≡ Some x = sym none ∙ (same line x).1 says in cc

  is_silent : (line : List ℕ) → ((x : A) → Says line x → ⊥) → found line ≡ None
  is_silent line h = by (found line) refl
    where
      by : (o : Option A) → found line ≡ o → o ≡ None
      by None e = refl
      by (Some x) e = absurd (h x ((same line x).0 e))

  none_says : (lines : List (List ℕ)) → last_of found lines ≡ None → NoneSays Says lines
  unfolding last_of
  none_says [] h = tt
  none_says (line ∷ lines) h = by (last_of found lines) refl (λ e. none_says lines e) h
    where
      by : (o : Option A) → last_of found lines ≡ o → (last_of found lines ≡ None → NoneSays Says lines) → option_or o (found line) ≡ None → NoneSays Says (line ∷ lines)
      by None e more k = (silent line k, more e)
      by (Some x) e more k = absurd (let clash : Some x ≡ None = k in cc)

  pub says_none : (lines : List (List ℕ)) → NoneSays Says lines → last_of found lines ≡ None
  unfolding last_of
  says_none [] h = refl
  says_none (line ∷ lines) h = rw (says_none lines h.1, is_silent line h.0) refl

  last_says : (lines : List (List ℕ)) (x : A) → last_of found lines ≡ Some x → LastSays Says lines x
  unfolding last_of
  last_says [] x h = absurd (let k : None ≡ Some x = h in cc)
  last_says (line ∷ lines) x h = by (last_of found lines) refl (λ e. last_says lines x e) h
    where
      by : (o : Option A) → last_of found lines ≡ o → (last_of found lines ≡ Some x → LastSays Says lines x)
          → option_or o (found line) ≡ Some x → LastSays Says (line ∷ lines) x
      by None e rest k = record {
        before = [];
        line = line;
        after = lines;
        joined = refl;
        says = (same line x).0 k;
        none_after = none_says lines e;
      }
      by (Some y) e rest k =
          let more = rest (e ∙ k) in
          record {
            before = line ∷ more.before;
            line = more.line;
            after = more.after;
            joined = ap (λ l. line ∷ l) more.joined;
            says = more.says;
            none_after = more.none_after;
          }

  is_last : (before : List (List ℕ)) (line : List ℕ) (after : List (List ℕ)) (x : A) → Says line x → NoneSays Says after
      → last_of found (before ++ line ∷ after) ≡ Some x
  unfolding last_of
  is_last [] line after x says none = rw (says_none after none) ((same line x).1 says)
  is_last (b ∷ before) line after x says none = rw (is_last before line after x says none) refl

  says_last : (lines : List (List ℕ)) (x : A) → LastSays Says lines x → last_of found lines ≡ Some x
  says_last lines x h = ap (last_of found) h.joined ∙ is_last h.before h.line h.after x h.says h.none_after

  first_says : (lines : List (List ℕ)) (x : A) → first_of found lines ≡ Some x → FirstSays Says lines x
  unfolding first_of
  first_says [] x h = absurd (let k : None ≡ Some x = h in cc)
  first_says (line ∷ lines) x h = by (found line) refl (λ e. first_says lines x e) h
    where
      by : (o : Option A) → found line ≡ o → (first_of found lines ≡ Some x → FirstSays Says lines x)
          → option_or o (first_of found lines) ≡ Some x → FirstSays Says (line ∷ lines) x
      by None e rest k =
          let more = rest k in
          record {
            before = line ∷ more.before;
            line = more.line;
            after = more.after;
            joined = ap (λ l. line ∷ l) more.joined;
            none_before = (silent line e, more.none_before);
            says = more.says;
          }
      by (Some y) e rest k = record {
        before = [];
        line = line;
        after = lines;
        joined = refl;
        none_before = tt;
        says = (same line x).0 (e ∙ k);
      }

  is_first : (before : List (List ℕ)) (line : List ℕ) (after : List (List ℕ)) (x : A) → Says line x → NoneSays Says before
      → first_of found (before ++ line ∷ after) ≡ Some x
  unfolding first_of
  is_first [] line after x says none = rw ((same line x).1 says) refl
  is_first (b ∷ before) line after x says none = rw (is_silent b none.0) (is_first before line after x says none.1)

  pub first_is : (lines : List (List ℕ)) (x : A) → (first_of found lines ≡ Some x) ↔ FirstSays Says lines x
  first_is lines x = (first_says lines x, λ h. ap (first_of found) h.joined ∙ is_first h.before h.line h.after x h.says h.none_before)

  -- the last that says something, or where none does, what else is said
  pub last_or : (lines : List (List ℕ)) (other : Option A) (Other : A → Type 0) → ((x : A) → (other ≡ Some x) ↔ Other x) → (x : A)
      → (option_or (last_of found lines) other ≡ Some x) ↔ (LastSays Says lines x ⊎ (NoneSays Says lines × Other x))
  last_or lines other Other is x = (to (last_of found lines) refl, from)
    where
      to : (o : Option A) → last_of found lines ≡ o → option_or o other ≡ Some x → LastSays Says lines x ⊎ (NoneSays Says lines × Other x)
      to None e h = inr (none_says lines e, (is x).0 h)
      to (Some y) e h = inl (last_says lines x (e ∙ h))

      from : LastSays Says lines x ⊎ (NoneSays Says lines × Other x) → option_or (last_of found lines) other ≡ Some x
      from (inl last) = rw (says_last lines x last) refl
      from (inr p) = rw (says_none lines p.0) ((is x).1 p.1)

-- ---- line records
line_is : (address : ℕ) (text : List ℕ) (r : LineRecord) → (line_with address text ≡ Some r) ↔ IsLineOf address text r
line_is address text r = (to, from)
  where
    to : line_with address text ≡ Some r → IsLineOf address text r
    to h =
        let l = given (line_record text) (if_covers address) r h in
        let t = passed (covers l.0.address l.0.size address) (Some l.0) r l.2 in
        let same = some_same l.0 r t.1 in
        let test : covers r.address r.size address ≡ true = subst (λ (x : LineRecord). covers x.address x.size address ≡ true) same t.0 in
        let limits = both (nat_le r.address address) (nat_lt address (r.address + r.size)) test in
        record {
          is_record = record_spells text r (l.1 ∙ t.1);
          starts = leb-true _ _ limits.0;
          goes_on = ltb-true _ _ limits.1;
        }

    from : IsLineOf address text r → line_with address text ≡ Some r
    from h = rw (spelled_record text r h.is_record, le-leb _ _ h.starts, lt-ltb _ _ h.goes_on) refl

pub lines_in : (f : FunctionValue) (address : ℕ) (r : LineRecord) → (line_in f address ≡ Some r) ↔ IsLineIn f address r
lines_in f address r = first_is (line_with address) (IsLineOf address) (line_is address) f.records r

-- ---- calls
call_is : (depth address : ℕ) (text : List ℕ) (call : InlineCall) → (inline_with depth address text ≡ Some call) ↔ IsCallOf depth address text call
unfolding call_at
call_is depth address text call = (to, from)
  where
    to : inline_with depth address text ≡ Some call → IsCallOf depth address text call
    to h =
        let at = given (call_at address text) (if_depth depth) call h in
        let deep = passed (at.0.depth == depth) (Some at.0) call at.2 in
        let same = some_same at.0 call deep.1 in
        let i = given (inline_line text) (if_covering address) at.0 at.1 in
        let covered = passed (any_covers address i.0.ranges) (Some i.0.call) at.0 i.2 in
        let is = some_same i.0.call call (covered.1 ∙ deep.1) in
        let member = any_member (λ (r : ℕ × ℕ). covers r.0 r.1 address) i.0.ranges covered.0 in
        let test = both (nat_le member.0.0 address) (nat_lt address (member.0.0 + member.0.1)) member.2 in
        record {
          ranges = i.0.ranges;
          is_line =
              subst (λ (c : InlineCall). IsInlineLine text (record { call = c; ranges = i.0.ranges })) is (inline_spells text i.0 i.1);
          has_depth = eqb-true _ _ (subst (λ (c : InlineCall). (c.depth == depth) ≡ true) same deep.0);
          range = member.0;
          among = member.1;
          starts = leb-true _ _ test.0;
          goes_on = ltb-true _ _ test.1;
        }

    from : IsCallOf depth address text call → inline_with depth address text ≡ Some call
    from h =
        let test : covers h.range.0 h.range.1 address ≡ true = rw (le-leb _ _ h.starts, lt-ltb _ _ h.goes_on) refl in
        rw (
          spelled_inline text _ h.is_line,
          member_any (λ (r : ℕ × ℕ). covers r.0 r.1 address) h.ranges h.range h.among test,
          eq-eqb _ _ h.has_depth,
        ) refl

pub calls_in : (f : FunctionValue) (depth address : ℕ) (call : InlineCall) → (inline_in f depth address ≡ Some call) ↔ IsInlineIn f depth address call
calls_in f depth address call = first_is (inline_with depth address) (IsCallOf depth address) (call_is depth address) f.records call

-- ---- rules
abbrev label : List ℕ → List ℕ
label name = name ++ codes ":"

seam : (back front : List ℕ) → before_suffix back (front ++ back) ≡ Some front
seam back front =
    let rest : length (front ++ back) - length back ≡ length front = omega (arith, length-append front back) in
    rw (rest, drop-append_seam front back, (bytes_eq-Decides back back).1 refl, take-append_seam front back) refl

suffixed : (back text front : List ℕ) → before_suffix back text ≡ Some front → text ≡ front ++ back
suffixed back text front h =
    let rest = length text - length back in
    let test = passed (bytes_eq (drop rest text) back) (Some (take rest text)) front h in
    let end = (bytes_eq-Decides (drop rest text) back).0 test.0 in
    let start = some_same (take rest text) front test.1 in
    sym (take-append-drop rest text) ∙ rw (end, start) refl

labels_is : (name word : List ℕ) → labels name word ≡ true → word ≡ label name
unfolding labels
labels_is name word h = by (before_suffix (codes ":") word) refl h
  where
    by : (o : Option (List ℕ)) → before_suffix (codes ":") word ≡ o → option_map_or (λ front. bytes_eq front name) o false ≡ true → word ≡ label name
    by None e k = absurd (let clash : false ≡ true = k in cc)
    by (Some front) e k = suffixed (codes ":") word front e ∙ ap (λ l. l ++ codes ":") ((bytes_eq-Decides front name).0 k)

is_labels : (name : List ℕ) → labels name (label name) ≡ true
unfolding labels
is_labels name = rw (seam (codes ":") name) ((bytes_eq-Decides name name).1 refl)

not_label : (name word : List ℕ) → word ≢ label name → labels name word ≡ false
not_label name word h = false_from_ne_true (labels name word) (λ t. h (labels_is name word t))

no_label : (name : List ℕ) (words : List (List ℕ)) → rule_among name words ≡ None → AllByRecursion (λ w. w ≢ label name) words
unfolding rule_among
no_label name [] h = tt
no_label name (word ∷ words) h = by (rule_among name words) (labels name word) refl refl (λ e. no_label name words e) h
  where
    by : (o : Option (List (List ℕ))) (t : Bool) → rule_among name words ≡ o → labels name word ≡ t
        → (rule_among name words ≡ None → AllByRecursion (λ w. w ≢ label name) words)
        → option_or o (if t then Some (until is_label words) else None) ≡ None → AllByRecursion (λ w. w ≢ label name) (word ∷ words)
    by (Some e) t is l more k = absurd (let clash : Some e ≡ None = k in cc)
    by None true is l more k = absurd (let clash : Some (until is_label words) ≡ None = k in cc)
    by None false is l more k =
        ((λ e. let clash : true ≡ false = sym (is_labels name) ∙ ap (labels name) (sym e) ∙ l in cc), more is)

label_none : (name : List ℕ) (words : List (List ℕ)) → AllByRecursion (λ w. w ≢ label name) words → rule_among name words ≡ None
unfolding rule_among
label_none name [] h = refl
label_none name (word ∷ words) h = rw (label_none name words h.1, not_label name word h.0) refl

rule_spells : (name : List ℕ) (words expression : List (List ℕ)) → rule_among name words ≡ Some expression → HaveRule name words expression
unfolding rule_among
rule_spells name [] expression h = absurd (let k : None ≡ Some expression = h in cc)
rule_spells name (word ∷ words) expression h =
    by (rule_among name words) (labels name word) refl refl (λ e. rule_spells name words expression e) h
  where
    by : (o : Option (List (List ℕ))) (t : Bool) → rule_among name words ≡ o → labels name word ≡ t
        → (rule_among name words ≡ Some expression → HaveRule name words expression)
        → option_or o (if t then Some (until is_label words) else None) ≡ Some expression → HaveRule name (word ∷ words) expression
    by (Some e) t is l rest k =
        let more = rest (is ∙ k) in
        record {
          before = word ∷ more.before;
          after = more.after;
          joined = ap (λ l. word ∷ l) more.joined;
          expression_is = more.expression_is;
          last = more.last;
        }
    by None true is l rest k = record {
      before = [];
      after = words;
      joined = ap (λ w. w ∷ words) (labels_is name word l);
      expression_is = (before_end is_label words expression).0 (some_same (until is_label words) expression k);
      last = no_label name words is;
    }
    by None false is l rest k = absurd (let clash : None ≡ Some expression = k in cc)

spelled_rule_by : (name : List ℕ) (before after expression : List (List ℕ)) → AreBefore is_label after expression
    → AllByRecursion (λ w. w ≢ label name) after → rule_among name (before ++ label name ∷ after) ≡ Some expression
unfolding rule_among
spelled_rule_by name [] after expression is last =
    rw (label_none name after last, is_labels name, (before_end is_label after expression).1 is) refl
spelled_rule_by name (b ∷ before) after expression is last = rw (spelled_rule_by name before after expression is last) refl

have_rule : (name : List ℕ) (words expression : List (List ℕ)) → (rule_among name words ≡ Some expression) ↔ HaveRule name words expression
have_rule name words expression = (
  rule_spells name words expression,
  λ h. ap (rule_among name) h.joined ∙ spelled_rule_by name h.before h.after expression h.expression_is h.last,
)

change_is : (name : List ℕ) (address : ℕ) (line : List ℕ) (expression : List (List ℕ))
    → (changed_rule name address line ≡ Some expression) ↔ ChangesRule name address line expression
change_is name address line expression = (to, from)
  where
    to : changed_rule name address line ≡ Some expression → ChangesRule name address line expression
    to h =
        let rules = given (change_at address line) (rule_in name) expression h in
        let change = given (change_line line) (if_reached address) rules.0 rules.1 in
        let t = passed (nat_le change.0.address address) (Some change.0.rules) rules.0 change.2 in
        let same = some_same change.0.rules rules.0 t.1 in
        record {
          change = change.0;
          is_change = change_spells line change.0 change.1;
          reached = leb-true _ _ t.0;
          rule = (have_rule name (words_of change.0.rules) expression).0 (ap (rule_in name) same ∙ rules.2);
        }

    from : ChangesRule name address line expression → changed_rule name address line ≡ Some expression
    from h =
        rw (spelled_change line h.change h.is_change, le-leb _ _ h.reached)
        ((have_rule name (words_of h.change.rules) expression).1 h.rule)

pub rules_at : (c : CfiValue) (name : List ℕ) (address : ℕ) (expression : List (List ℕ))
    → (rule_at c name address ≡ Some expression) ↔ IsRuleAt c name address expression
rules_at c name address expression =
    last_or (changed_rule name address) (ChangesRule name address) (change_is name address) c.changes (rule_in name c.rules)
    (HaveRule name (words_of c.rules)) (have_rule name (words_of c.rules)) expression
