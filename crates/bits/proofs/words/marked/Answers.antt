use Rattle.std.proofs.Common.{ℕ, ◌%◌, ap, ◌∙◌, arith}
use lib.Bits.{bit_or}
use Rattle.std.proofs.lemmas.Nat.{one_shl, mod_below}
use Rattle.bits.specs.Bits.{bit}
use Rattle.bits.proofs.Laws.{bit_marked}
use Rattle.bits.proofs.words.marked.Goals as goal

pub returns : goal.returns
returns c j =
    let k = c.args.i % 64 in
    ap (λ (z : ℕ). bit (bit_or c.args.word z) j) (one_shl k 64 (mod_below c.args.i 64 (omega arith))) ∙ bit_marked c.args.word k j
