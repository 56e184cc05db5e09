use Rattle.std.proofs.Common.{ℕ, ◌/◌, ◌%◌, ◌^◌, eqb, ap}
use Rattle.std.proofs.lemmas.Nat.{and_mask}
use Rattle.bits.specs.Bits.{bit}
use Rattle.bits.proofs.words.has.Goals as goal

pub returns : goal.returns
unfolding bit
returns c = ap (λ (z : ℕ). eqb z 1) (and_mask (c.args.word / 2 ^ (c.args.i % 64)) 1)
