use Rattle.std.proofs.Common.{◌+◌, List, get_or, take, sym, subst, arith}
use Rattle.std.proofs.lemmas.List.{take_more}
use Rattle.graph.specs.declared.changes.Change.{Change}
use Rattle.graph.specs.declared.changes.Change.TheVariants.{Put as put}
use Rattle.graph.specs.Edges.{blank}
use Rattle.graph.specs.Runs.{Replays}
use Rattle.graph.proofs.Growth.{replays_push, news_le, gones_le}
use Rattle.graph.proofs.replays.replay.Goals as goal

pub loop-change-preserved : goal.loop-change-preserved
loop-change-preserved g c =
    let m = g.G.Graph.graph in
    let cs = c.args.changes.now in
    let i = c.loop-change.change-index in
    let t = c.loop-change.tally in
    let r = c.apply.result in
    let e = c.effect_of-effect in
    let start = m c.args.graph.now in
    let end = m c.apply.new.graph in
    let more = replays_push start (take i cs) t.new t.gone (m c.loop-change.graph) end (get_or cs i (put blank)) r e.result.new e.result.gone
    c.loop-change.invariant.2 c.apply.ensures e.ensures.new e.ensures.gone in (
      omega (arith, news_le r, e.ensures.new),
      omega (arith, gones_le r, e.ensures.gone),
      subst (λ (z : List Change). Replays start z (t.new + e.result.new) (t.gone + e.result.gone) end)
          (sym (take_more cs i (put blank) c.loop-change-test.true))
          more,
    )
