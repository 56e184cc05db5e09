-- The tables of a query in the workspace.
--     Arrangement p        the atoms of the parsed query p are in the order in which they are reached
--     Raw g atoms m old new i   the tables of the first i of m atoms tell the pairs that their expressions join; the scratch words are 0
--     Filled g q old new   each table of new keeps exactly the pairs that satisfying assignments use, and has no other bit; the scratch words are 0, and the words behind are as in old
-- With m atoms, n nodes and rows of W words, row u of the table of atom c begins at word c × n × W + u × W; the scratch begins at word m × n × W and has 2 × n words.
use Rattle.std.specs.Prelude.{◌≡◌, ℕ, ◌+◌, ◌*◌, ◌<◌, ◌≤◌, true, false, ◌↔◌, List, length, get_or, take, slice_index, slice_index_or}
use Rattle.bits.specs.Rows.{row_bit, width}
use Rattle.meaning.specs.Answers.{Query, Kept}
use Rattle.meaning.specs.Graphs.{Graph}
use Rattle.meaning.specs.Paths.{Joins}
use Rattle.meaning.specs.Words.{Regex}
use Rattle.automata.specs.Machines.{Recognizes}
use Rattle.automata.specs.Positions.{size}
use Rattle.shapes.specs.declared.checks.Ends.{Ends}
use Rattle.shapes.specs.Checks.{of}
use Rattle.order.specs.Orders.{Ordered}
use Rattle.order.specs.Ranks.{ranks}
use Rattle.query.specs.declared.drafts.Atom.{Atom}
use Rattle.parse.specs.declared.Parsed.{Parsed}
use Rattle.parse.specs.Shaping.{no_atom, pair}

abbrev pub Arrangement : Parsed → Type 0
Arrangement p = (e : List Ends) → length e ≡ 8 → ((d : Ends) (i : ℕ) → i < 8 → slice_index_or e i d ≡ pair (slice_index_or p.query.atoms i no_atom))
    → (x : ℕ) × Ordered (of (take p.query.count e)) (length (take p.query.count e)) x (ranks p.order)

pub record Raw (g : Graph) (atoms : List Atom) (m : ℕ) (old new : List ℕ) (i : ℕ) : Type 0 where
  pub pairs : (z : Atom) (c : ℕ) (r : Regex) → c < i → Recognizes (get_or atoms c z).automaton r → size r ≤ 63 → (u v : ℕ) → u < g.nodes → v < width g.nodes * 64
      → (row_bit new (c * (g.nodes * width g.nodes) + u * width g.nodes) v ≡ true) ↔ Joins g.has g.labels r u v
  pub clean : (c u v : ℕ) → c < i → u < g.nodes → g.nodes ≤ v → v < width g.nodes * 64 → row_bit new (c * (g.nodes * width g.nodes) + u * width g.nodes) v ≡ false
  pub idle : 0 < i → (k : ℕ) → m * (g.nodes * width g.nodes) ≤ k → k < m * (g.nodes * width g.nodes) + (g.nodes + g.nodes) → slice_index new k ≡ 0
  pub rest : (k : ℕ) → m * (g.nodes * width g.nodes) + (g.nodes + g.nodes) ≤ k → slice_index new k ≡ slice_index old k

pub record Filled (g : Graph) (q : Query) (old new : List ℕ) : Type 0 where
  pub tables : (c u v : ℕ) → c < q.count → u < g.nodes → v < width g.nodes * 64
      → (row_bit new (c * (g.nodes * width g.nodes) + u * width g.nodes) v ≡ true) ↔ Kept g q c u v
  pub idle : (k : ℕ) → q.count * (g.nodes * width g.nodes) ≤ k → k < q.count * (g.nodes * width g.nodes) + (g.nodes + g.nodes) → slice_index new k ≡ 0
  pub rest : (k : ℕ) → q.count * (g.nodes * width g.nodes) + (g.nodes + g.nodes) ≤ k → slice_index new k ≡ slice_index old k
