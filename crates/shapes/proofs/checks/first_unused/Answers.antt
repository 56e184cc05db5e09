use Rattle.std.proofs.Common.{rules}
use borrow.Author.Tests.{tests}
use Rattle.std.proofs.lemmas.Iterator.{IsFirst-from_position, YieldsList-from_slice}
use Rattle.meaning.proofs.Firsts.{first_from_position}
use Rattle.shapes.specs.Checks.{Absent, Unused}
use Rattle.shapes.proofs.checks.first_unused.Goals as goal

pub returns : goal.returns
returns c =
    let xs = c.args.atoms.now in
    first_from_position (Unused xs c.args.head.now) (Absent xs) (λ x. Absent xs x → ⊥) c.args.head.now 0 _ (λ i _ y. y) (λ i _ n. n)
    (IsFirst-from_position _ _ _ (Absent xs) (λ x. Absent xs x → ⊥) c.position.ensures.ran (YieldsList-from_slice c.args.head.now c.iter.ensures.rest) (λ x q k. search (rules, tests)) (λ x q k. search (rules, tests)))
