-- A line at every word.
use Rattle.std.proofs.Common.{rules, ◌≡◌, ℕ, ◌-◌, ◌*◌, ◌/◌, List, arith, inl, inr, length, map, refl}
use Rattle.std.specs.List.{range_with_len}
use Rattle.std.proofs.lemmas.Iterator.{YieldsList-from_map_by, YieldsList-from_range}
use Rattle.std.proofs.lemmas.Iterator.Consumers.{YieldsList-at}
use Rattle.minidump_bytes.specs.Number.{number_at}
use Rattle.minidump.specs.ThreadText.{stack_words_text, word_bytes, word_line}
use Rattle.minidump.proofs.PrintLemmas.{prints_texts}
use Rattle.minidump.proofs.thread.stack.print_words.Goals as goal

pub returns-in-Bits32 : goal.returns-in-Bits32
unfolding stack_words_text
returns-in-Bits32 g c =
    let n : ℕ = length c.args.bytes.now / 4 in
    let last : n - 0 ≡ n = omega arith in
    let line : ℕ → List ℕ = λ i. word_line 4 (4 * i) (number_at c.args.endian 4 (4 * i) c.args.bytes.now) in
    rw c.in-Bits32.is (prints_texts _ _ _ _ line (range_with_len 0 n) (c.print_all.ensures.prints (map line (range_with_len 0 n))
    (YieldsList-from_map_by _ _ line (YieldsList-at c.map-words.ensures.source (YieldsList-from_range 0 n n refl last))
    c.map-words.ensures.closure (λ x r q k. search rules))))

pub returns-in-Bits64 : goal.returns-in-Bits64
unfolding stack_words_text
returns-in-Bits64 g c =
    let n : ℕ = length c.args.bytes.now / 8 in
    let last : n - 0 ≡ n = omega arith in
    let line : ℕ → List ℕ = λ i. word_line 8 (8 * i) (number_at c.args.endian 8 (8 * i) c.args.bytes.now) in
    let eight : word_bytes c.args.width ≡ 8 = elim c.in-Bits64.is [ inl is ↦ rw is refl | inr is ↦ rw is refl ] in
    rw eight (prints_texts _ _ _ _ line (range_with_len 0 n) (c.print_all-in-Bits64.ensures.prints (map line (range_with_len 0 n))
    (YieldsList-from_map_by _ _ line (YieldsList-at c.map-words-in-Bits64.ensures.source (YieldsList-from_range 0 n n refl last))
    c.map-words-in-Bits64.ensures.closure (λ x r q k. search rules))))
