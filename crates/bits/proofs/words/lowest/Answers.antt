use Rattle.std.proofs.Common.{◌/◌, ◌^◌, ◌<◌, arith}
use lib.Count.{count_trailing_zeros}
use Rattle.std.proofs.lemmas.Nat.{shr_le}
use Rattle.bits.proofs.Laws.{bit_above, lowest_none, lowest_shifted, trailing_lowest}
use Rattle.bits.proofs.words.lowest.Goals as goal

pub returns-then-bound-ge64 : goal.returns-then-bound-ge64
returns-then-bound-ge64 c i l =
    let short : c.args.word < 2 ^ 64 = omega (arith, c.ranges.word) in
    bit_above c.args.word 64 i short (omega arith)

pub returns-then-rest-eq0 : goal.returns-then-rest-eq0
returns-then-rest-eq0 c = lowest_none c.args.word c.args.bound c.if-rest-eq0.true

pub returns : goal.returns
returns c =
    let w = c.args.word in
    let b = c.args.bound in
    let some : 0 < w / 2 ^ b = omega arith in
    let short : w / 2 ^ b < 2 ^ 64 = omega (arith, shr_le w b, c.ranges.word) in
    lowest_shifted w b (count_trailing_zeros 64 (w / 2 ^ b)) (trailing_lowest 64 (w / 2 ^ b) some short)
