use Rattle.std.proofs.Common.{◌≡◌, ℕ, ◌+◌, ◌-◌, ◌<◌, length, get_or, take, drop, arith, rules, ◌∙◌}
use lib.Bits.{bit_or}
use Rattle.bits.proofs.RowLaws.{changed_back, length_back, widened_from}
use Rattle.bits.proofs.rows.widen.Goals as goal

pub returns : goal.returns
returns c =
    let ws = c.args.words.now in
    let row = c.args.row in
    let mask = c.args.mask in
    let count = c.args.count in
    let new = c.update.new.to in
    let whole : row + count - row ≡ count = omega arith in
    let front = c.split_at_mut-low.ensures.front in
    let back = c.split_at_mut-low.ensures.back in
    let long : length (take count c.split_at_mut-low.result.1.now) ≡ count = rw back (length_back ws mask count c.requires.room) in
    let each : (k : ℕ) → k < count → get_or new k 0 ≡ bit_or (get_or (take count c.split_at_mut-low.result.1.now) k 0) (get_or (take (row + count - row) (drop row c.split_at_mut-low.result.0.now)) k 0) =
    λ k l. let e = c.update.ensures k (omega (arith, long, l)) in search rules in
    rw (front, back)
    (widened_from ws _ row mask count
    (changed_back bit_or ws new row mask count c.requires.apart c.requires.room (c.update.auto.to ∙ long) (rw (whole, front, back) at each)))
