use Rattle.std.proofs.Common.{◌≡◌, ℕ, suc, ◌+◌, get_or, refl, subst, add-one, arith}
use Rattle.graph.specs.Edges.{among, blank, Lowest}
use Rattle.graph.proofs.Among.{below_taken, length_taken, taken_is}
use Rattle.graph.proofs.Lowest.{lowest_more}
use Rattle.graph.proofs.list_graph.EdgeListGraph.follow.Goals as goal

pub loop-e-preserved : goal.loop-e-preserved
loop-e-preserved c =
    let s = c.args.self.now in
    let xs = s.slots.now in
    let i = c.loop-e.e-index in
    let low = below_taken xs s.len i s.within c.loop-e-test.true in
    let more = lowest_more (among xs i) (among xs (suc i)) (get_or xs i blank) (λ u a v. refl)
    c.args.node c.args.label c.args.bound c.loop-e.best c.loop-e.invariant in
    let goal : Lowest (among xs (i + 1)) c.args.node c.args.label c.args.bound c.lower-best.result
    = rw (add-one, c.lower-best.ensures, taken_is xs s.len i s.within low) more in
    goal

pub returns : goal.returns
returns c =
    let s = c.args.self.now in
    let all : c.loop-e.e-index ≡ s.len = omega (arith, c.loop-e-test.false, c.loop-e.auto.e-index-end, length_taken s.slots.now s.len s.within) in
    subst (λ (k : ℕ). Lowest (among s.slots.now k) c.args.node c.args.label c.args.bound c.loop-e.best) all c.loop-e.invariant
