use Rattle.std.proofs.Common.{refl, sym, ◌∙◌, arith}
use Rattle.meaning.specs.Tuples.{last_of, noted_of}
use Rattle.parse.proofs.Facts.{count_few, head_few, head_some, names_long}
use Rattle.record.proofs.Fitness.{head_long, inside_last, lowest_here, pairs_long}
use Rattle.record.proofs.calls.lowest_fitting.Goals as goal

pub slice_bounds-names-end : goal.slice_bounds-names-end
slice_bounds-names-end c = let q = c.args.query.now in omega (arith, head_few q.parsed q.held, names_long q.parsed q.held)

pub slice_bounds-find_places-end : goal.slice_bounds-find_places-end
slice_bounds-find_places-end c = sym (head_long c.args.query.now)

pub find_places-places-requires : goal.find_places-places-requires
find_places-places-requires c =
    let q = c.args.query.now in
    let e = c.ends-pairs.ensures in
    record {
      some = omega (arith, head_long q, head_some q.parsed q.held);
      few = omega (arith, pairs_long q c.ends-pairs.result e.long e.each, count_few q.parsed q.held);
    }

pub lowest-requires-clause-head : goal.lowest-requires-clause-head
lowest-requires-clause-head c =
    let q = c.args.query.now in
    let free = c.find_places-places.ensures.free in
    (omega (arith, free, head_long q, head_some q.parsed q.held), omega (arith, free, head_long q, head_few q.parsed q.held))

pub lowest-requires-clause-inside : goal.lowest-requires-clause-inside
lowest-requires-clause-inside c =
    let q = c.args.query.now in
    inside_last q _ _ c.of.ensures.count (c.find_places-places.ensures.free ∙ head_long q) q.last refl

pub returns : goal.returns
returns c =
    let q = c.args.query.now in
    let e = c.ends-pairs.ensures in
    lowest_here q c.ends-pairs.result e.long e.each c.find_places-places.result c.find_places-places.ensures c.args.words.now _ _ c.of.ensures.count c.of.ensures.width
    (noted_of q.last) (last_of q.last) c.lowest.result c.lowest.ensures
