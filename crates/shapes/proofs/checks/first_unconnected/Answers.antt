use Rattle.std.proofs.Common.{◌≡◌, length, slice_index, rules}
use borrow.Author.Tests.{tests}
use Rattle.std.proofs.lemmas.Iterator.{IsFirst-from_position, YieldsList-from_slice}
use Rattle.meaning.proofs.Firsts.{first_from_position}
use Rattle.shapes.specs.Checks.{of, Unconnected, blank}
use Rattle.shapes.specs.declared.checks.Ends.{Ends}
use Rattle.shapes.proofs.Merging.{reached_from_class, class_from_reached}
use Rattle.shapes.proofs.checks.first_unconnected.Goals as goal

pub returns : goal.returns
returns c =
    let q = of c.args.atoms.now in
    let class = c.args.class.now in
    let Same : Ends → Type 0 = λ a. slice_index class a.first ≡ slice_index class (q.first 0) in
    first_from_position (Unconnected c.args.atoms.now) (λ a. Same a → ⊥) Same c.args.atoms.now blank _
    (λ i lt n r. n (class_from_reached q (length c.args.atoms.now) class c.requires i r))
    (λ i lt s n. n (reached_from_class q (length c.args.atoms.now) class c.requires i lt s))
    (IsFirst-from_position _ _ _ (λ a. Same a → ⊥) Same c.position.ensures.ran (YieldsList-from_slice c.args.atoms.now c.iter.ensures.rest) (λ x q k. search (rules, tests)) (λ x q k. search (rules, tests)))
