use Rattle.std.proofs.Common.{◌≡◌, ap, arith, rules}
use Rattle.bits.specs.declared.members.Members.{Members}
use Rattle.bits.proofs.Sets.{has_below}
use Rattle.walk.proofs.Unions.{following_none, following_more}
use Rattle.walk.proofs.masks.successors.Goals as goal

pub loop-s-init : goal.loop-s-init
loop-s-init c =
    let is : c.into_iter-s-iterator.result.0 ≡ c.args.states = ap (λ (m : Members). m.0) c.into_iter-s-iterator.ensures.into_iter_gives in
    rw is (omega arith, following_none c.args.automaton.now c.args.states)

-- a state is below 64
pub bounds-automaton-s : goal.bounds-automaton-s
bounds-automaton-s c = has_below c.loop-s.s-iterator.0 c.in-Some.s c.loop-s.invariant.0 c.in-Some.ensures.steps.0.1

pub offset_bounds-automaton-s : goal.offset_bounds-automaton-s
offset_bounds-automaton-s c = let l = has_below c.loop-s.s-iterator.0 c.in-Some.s c.loop-s.invariant.0 c.in-Some.ensures.steps.0.1 in search rules

pub loop-s-preserved : goal.loop-s-preserved
loop-s-preserved c =
    let takes = c.in-Some.ensures.steps in (
      (let less = c.next.ensures.goes in search rules),
      following_more c.args.automaton.now c.args.states c.loop-s.s-iterator.0 c.next.new.self.0 c.loop-s.next c.in-Some.s takes.0 takes.1 c.loop-s.invariant.1,
    )
