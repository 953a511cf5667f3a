-- A whole line is the one of sixteen bytes.
use Rattle.std.proofs.Common.{rules, ◌≡◌, ◌≤◌, length, arith, take, drop}
use Rattle.std.proofs.lemmas.List.{length-take-le}
use Rattle.minidump_memory.proofs.ContentsLemmas.{whole_is}
use Rattle.minidump_memory.proofs.contents.LinePushed.push.Goals as goal

pub returns-in-Some : goal.returns-in-Some
returns-in-Some c =
    let self = c.args.self.now in
    let rest = drop self.offset self.bytes.now in
    let line = take 16 rest in
    let first = c.in-Some.ensures.cases in
    let enough : 16 ≤ length rest = rw (← c.bytes_from-rest.ensures) first.enough in
    let same : c.in-Some.whole.now ≡ line = rw (← c.bytes_from-rest.ensures) first.same in
    let sixteen : length line ≡ 16 = length-take-le 16 rest enough in
    rw (whole_is self.offset line sixteen (omega (arith, c.if-self-lt4294967296.true)), ← same, ← c.whole_line.ensures) (search rules)
