-- Labelled directed graphs.
--     Edges              a set of edges, as a test of (from, label, to)
--     Within m n q       n nodes and q labels are in range where a graph may have m nodes at most
--     Legal n q u a v    an edge from u under a to v joins nodes below n under a label below q
--     count n q E        how many legal edges are in E
--     Graph              nodes, labels, capacity and edges; each edge legal, and no more of them than the capacity
--     size g             how many edges g has
--     New g n q k        g has those sizes and no edge
use Rattle.std.specs.Prelude.{◌≡◌, ℕ, zero, suc, ◌+◌, ◌<◌, ◌≤◌, Bool, true, false, cond}

abbrev pub Edges : Type 0
Edges = ℕ → ℕ → ℕ → Bool

abbrev pub Within : ℕ → ℕ → ℕ → Type 0
Within m n q = (1 ≤ n) × (n ≤ m) × (1 ≤ q) × (q ≤ 26)

abbrev pub Legal : ℕ → ℕ → ℕ → ℕ → ℕ → Type 0
Legal n q u a v = (u < n) × (a < q) × (v < n)

-- f 0 + .. + f (n - 1)
abbrev pub sum_below : ℕ → (ℕ → ℕ) → ℕ
sum_below zero f = 0
sum_below (suc n) f = f n + sum_below n f

unfoldable pub count : ℕ → ℕ → Edges → ℕ
count n q E = sum_below n (λ u. sum_below q (λ a. sum_below n (λ v. cond (E u a v) 1 0)))

pub record Graph : Type 0 where
  pub nodes : ℕ
  pub labels : ℕ
  pub capacity : ℕ
  pub has : Edges
  pub sized : Within 1024 nodes labels
  pub legal : (u a v : ℕ) → has u a v ≡ true → Legal nodes labels u a v
  pub fits : count nodes labels has ≤ capacity

abbrev pub size : Graph → ℕ
size g = count g.nodes g.labels g.has

pub record New (g : Graph) (n q k : ℕ) : Type 0 where
  pub nodes : g.nodes ≡ n
  pub labels : g.labels ≡ q
  pub capacity : g.capacity ≡ k
  pub none : (u a v : ℕ) → g.has u a v ≡ false
