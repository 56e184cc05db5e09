use Rattle.std.proofs.Common.{◌≡◌, take, rules}
use borrow.Author.Tests.{tests}
use Rattle.std.proofs.lemmas.Iterator.{IsFirst-from_position, YieldsList-from_slice}
use Rattle.graph.specs.declared.edges.Edge.{Edge}
use Rattle.graph.proofs.Among.{placed_from_first}
use Rattle.graph.proofs.list.EdgeList.place.Goals as goal

pub returns : goal.returns
returns c =
    let s = c.args.self.now in
    let e = c.args.e in
    placed_from_first s.slots.now s.len e c.position.result s.within
    (IsFirst-from_position _ _ _ (λ (x : Edge). x ≡ e) (λ (x : Edge). x ≡ e → ⊥) c.position.ensures.ran (YieldsList-from_slice (take s.len s.slots.now) c.iter.ensures.rest) (λ x q k. search (rules, tests)) (λ x q k. search (rules, tests)))
