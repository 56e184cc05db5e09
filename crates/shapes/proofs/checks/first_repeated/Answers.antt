use Rattle.std.proofs.Common.{arith, rules}
use borrow.Author.Tests.{tests}
use Rattle.std.proofs.lemmas.Iterator.{first_from_Range}
use Rattle.meaning.proofs.Firsts.{first_from_range}
use Rattle.shapes.specs.Checks.{Repeated}
use Rattle.shapes.proofs.checks.first_repeated.Goals as goal

pub returns : goal.returns
returns c =
    let P = Repeated c.args.head.now in
    first_from_range P P (λ i. P i → ⊥) 0 _ _ (λ j lt. absurd (omega arith)) (λ i _ _ p. p) (λ i _ _ n. n)
    (first_from_Range _ _ _ _ P (λ i. P i → ⊥) c.find.ensures.ran (λ x q k. search (rules, tests)) (λ x q k. search (rules, tests)))
