use Rattle.std.proofs.Common.{◌≡◌, ℕ, ◌+◌, List, None, Some, [], ◌∷◌, vec_items, sym, refl, ◌∙◌, subst, arith}
use Rattle.std.proofs.lemmas.Slice.{pushed}
use Rattle.graph.specs.declared.edges.Edge.{Edge}
use Rattle.graph.specs.Edges.{edge, Lowest}
use Rattle.wiring.specs.Listing.{Lists, WireBelow}
use Rattle.wiring.proofs.Rising.{row_more, row_all}
use Rattle.wiring.proofs.listing.push_row.Goals as goal

pub loop-to-preserved : goal.loop-to-preserved
loop-to-preserved g c =
    let m = g.G.Graph.graph c.args.graph.now in
    let u = c.args.node in
    let a = c.args.label in
    let v = c.in-Some.to in
    let i = c.loop-to.to-iterator in
    let inv = c.loop-to.invariant in
    let steps = c.in-Some.ensures.steps in
    let low : Lowest m.has u a i.bound (Some v) = rw (sym inv.0, sym inv.1, sym inv.2) steps.0.0 in
    let next : c.next.new.self.bound ≡ v + 1 = steps.0.1 in
    let fit = m.legal u a v low.1 in
    let after = pushed (edge u a v ∷ []) refl c.in_ok-push.was c.push.ensures.items in (
      steps.1 ∙ inv.0,
      steps.2 ∙ inv.1,
      steps.3 ∙ inv.2,
      omega (arith, next, fit.2, m.sized.1),
      λ before. subst (λ (b : ℕ). Lists (WireBelow m (edge u a b)) (vec_items c.push.new.self)) (sym next)
          (subst (λ (xs : List Edge). Lists (WireBelow m (edge u a (v + 1))) xs) (sym after)
          (row_more m u a i.bound (vec_items c.loop-to.list) (inv.4 before) v low)),
    )

pub returns : goal.returns
returns g c =
    let m = g.G.Graph.graph c.args.graph.now in
    let i = c.loop-to.to-iterator in
    let inv = c.loop-to.invariant in
    let none : Lowest m.has c.args.node c.args.label i.bound None = rw (sym inv.0, sym inv.1, sym inv.2) c.in-None.ensures.steps.0 in
    λ before. row_all m c.args.node c.args.label i.bound (vec_items c.loop-to.list) (inv.4 before) none
