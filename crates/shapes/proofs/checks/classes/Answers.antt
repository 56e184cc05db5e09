use Rattle.std.proofs.Common.{◌≡◌, ℕ, ◌<◌, length, slice_index, arith, rules}
use Rattle.shapes.specs.Checks.{of}
use Rattle.shapes.proofs.Merging.{classes_none, cycle_none, classes_more, cycle_not, cycle_first, cycle_all, classes_at}
use Rattle.shapes.proofs.checks.classes.Goals as goal

pub loop-i-init : goal.loop-i-init
loop-i-init c =
    let made = c.from_fn-class.ensures.items in
    let own : (v : ℕ) → v < 256 → slice_index c.from_fn-class.result v ≡ v = λ v l. let m = (made.at v 0 l).2 in search rules in
    (made.long, cycle_none (of c.args.atoms.now), classes_none (of c.args.atoms.now) _ own)

pub returns-then-x-y : goal.returns-then-x-y
returns-then-x-y c =
    let low : ((of c.args.atoms.now).first c.loop-i.i < 256) × ((of c.args.atoms.now).second c.loop-i.i < 256) = (omega arith, omega arith) in
    let r = cycle_first (of c.args.atoms.now) c.loop-i.i c.loop-i.class c.loop-i.invariant.2 c.loop-i.invariant.1 low.0 low.1 c.if-x-y.true in
    (c.loop-i-test.true, r.0, r.1)

pub loop-i-preserved : goal.loop-i-preserved
loop-i-preserved c =
    let low : ((of c.args.atoms.now).first c.loop-i.i < 256) × ((of c.args.atoms.now).second c.loop-i.i < 256) = (omega arith, omega arith) in (
      c.merge.array_long,
      cycle_not (of c.args.atoms.now) c.loop-i.i c.loop-i.class c.loop-i.invariant.2 c.loop-i.invariant.1 c.if-x-y.false,
      classes_more (of c.args.atoms.now) c.loop-i.i c.loop-i.class _ c.loop-i.invariant.2 low.0 low.1 c.merge.ensures,
    )

pub returns : goal.returns
returns c = (
  cycle_all (of c.args.atoms.now) c.loop-i.i (length c.args.atoms.now) (omega arith) c.loop-i.invariant.1,
  classes_at (of c.args.atoms.now) c.loop-i.i (length c.args.atoms.now) c.loop-i.class (omega arith) c.loop-i.invariant.2,
)
