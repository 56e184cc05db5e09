use Rattle.std.proofs.Common.{◌≡◌, ℕ, ◌-◌, ◌<◌, false, cond, eqb, ap, ◌∙◌, subst, arith}
use lib.Bits.{bit_and, and_zero_l}
use Rattle.std.proofs.lemmas.Nat.{and_le_r}
use Rattle.bits.specs.Bits.{bit}
use Rattle.bits.proofs.Sets.{bit_dropped}
use Rattle.bits.proofs.words.without_lowest.Goals as goal

pub returns : goal.returns
returns c =
    let w = c.args.word in
    let r = c.saturating_sub.result in
    let e : w - 1 ≡ r = omega arith in
    record {
      bits = λ i j h. subst (λ (z : ℕ). bit (bit_and w z) j ≡ cond (eqb i j) false (bit w j)) e (bit_dropped i w j h);
      less = λ h. let less : bit_and w r < w = omega (arith, and_le_r w r) in less;
      none = λ z. ap (λ (y : ℕ). bit_and y r) z ∙ and_zero_l r;
    }
