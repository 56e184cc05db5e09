use Rattle.std.proofs.Common.{ℕ, replicate, refl}
use lib.ListN.{length-replicate}
use Rattle.meaning.proofs.Counts.{count_none}
use Rattle.graph.specs.Rows.{in_table}
use Rattle.graph.proofs.InTable.{table_none}
use Rattle.graph.proofs.table.SmallTable.new.Goals as goal

pub invariant_of-result : goal.invariant_of-result
invariant_of-result c =
    let s = c.args.sizes in record {
      wide = length-replicate {A = ℕ} 1664 0;
      counted = count_none s.nodes s.labels (in_table s.nodes s.labels (replicate 1664 0)) (table_none s.nodes s.labels);
    }

pub returns : goal.returns
returns c =
    let s = c.args.sizes in
    record { nodes = refl; labels = refl; capacity = refl; none = table_none s.nodes s.labels }
