use Rattle.parse.proofs.Arranging.{pairs_some, pairs_few, start_used, accepted, ill_shaped}
use Rattle.parse.proofs.arrange.Goals as goal

pub reach-order-requires : goal.reach-order-requires
reach-order-requires c =
    let v = c.in-Ok.ensures in
    record {
      some = pairs_some c.ends-pairs.result c.requires.holds c.ends-pairs.ensures.long c.ends-pairs.ensures.each;
      few = pairs_few c.ends-pairs.result c.requires.holds c.ends-pairs.ensures.long c.ends-pairs.ensures.each;
      used = start_used c.ends-pairs.result c.requires.holds c.ends-pairs.ensures.long c.ends-pairs.ensures.each v;
      acyclic = v.2;
      connected = v.3;
    }

pub returns-in-Ok : goal.returns-in-Ok
returns-in-Ok c = (c.requires.short, accepted c.ends-pairs.result c.requires.holds c.ends-pairs.ensures.long c.ends-pairs.ensures.each c.reach-order.result c.in-Ok.ensures c.reach-order.ensures.ordered c.reach-order.ensures.chosen)

pub returns-in-Err : goal.returns-in-Err
returns-in-Err c = (c.requires.short, ill_shaped c.ends-pairs.result c.requires.holds c.ends-pairs.ensures.long c.ends-pairs.ensures.each c.in-Err.fault c.place-place.result c.in-Err.ensures c.place-place.ensures)
