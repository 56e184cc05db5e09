use Rattle.std.proofs.Common.{refl, arith}
use Rattle.std.proofs.lemmas.Bool.{false≢true}
use Rattle.meaning.proofs.Counts.{count_none}
use Rattle.graph.specs.Edges.{among}
use Rattle.graph.proofs.list.EdgeList.new.Goals as goal

pub invariant_of-result : goal.invariant_of-result
invariant_of-result c =
    record {
      within = omega arith;
      legal = λ e t. absurd (false≢true t);
      distinct = λ i l. absurd (omega arith);
      counted = count_none _ _ (among c.args.slots.now 0) (λ u a v. refl);
    }
