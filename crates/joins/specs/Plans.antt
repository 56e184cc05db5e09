-- Semijoins over the tables of a query, in the order in which its atoms are reached.
--     Plan                the atoms by rank, with the rank of each one's parent, the variable shared with it, and the other one
--     Hangs q             each atom after the first has one variable that its parent has, and one that no earlier atom has
--     at_variable q i x u v   the node that the pair (u, v) of atom i has at the variable x
--     Occurs q t i x w    some pair of atom i has the node w at the variable x
--     Semijoin q t s p c x    s is t, where atom p keeps the pairs whose node at x occurs in atom c
--     Exact q m r t       t keeps exactly the pairs that assignments satisfying r use
--     Upper q r t k       what the pass to the first atom keeps true: the ranks k and above are done
--     Lower q r t k       what the pass from the first atom keeps true: the ranks below k are done
use Rattle.std.specs.Prelude.{◌≡◌, ℕ, ◌<◌, ◌≤◌, true, cond, ◌↔◌, ◌==◌, ◌≢◌}
use Rattle.meaning.specs.Assignments.{Relations, Satisfies, Uses}
use Rattle.meaning.specs.Shapes.{Atoms, Has, Joins}

pub record Plan : Type 0 where
  pub count : ℕ
  pub atoms : Atoms
  pub parent : ℕ → ℕ
  pub shared : ℕ → ℕ
  pub fresh : ℕ → ℕ

pub record Hangs (q : Plan) : Type 0 where
  pub before : (i : ℕ) → 0 < i → i < q.count → q.parent i < i
  pub ends : (i : ℕ) → i < q.count → Joins q.atoms i (q.shared i) (q.fresh i)
  pub apart : (i : ℕ) → i < q.count → q.shared i ≢ q.fresh i
  pub joined : (i : ℕ) → 0 < i → i < q.count → Has q.atoms (q.parent i) (q.shared i)
  pub new : (i j : ℕ) → i < q.count → j < i → Has q.atoms j (q.fresh i) → ⊥

abbrev pub at_variable : Atoms → ℕ → ℕ → ℕ → ℕ → ℕ
at_variable q i x u v = cond (x == q.first i) u v

abbrev pub Occurs : Atoms → Relations → ℕ → ℕ → ℕ → Type 0
Occurs q t i x w = (u : ℕ) × (v : ℕ) × (t i u v ≡ true) × (at_variable q i x u v ≡ w)

pub record Semijoin (q : Atoms) (t s : Relations) (p c x : ℕ) : Type 0 where
  pub kept : (j u v : ℕ) → s j u v ≡ true → t j u v ≡ true
  pub support : (u v : ℕ) → s p u v ≡ true → Occurs q t c x (at_variable q p x u v)
  pub stays : (j u v : ℕ) → t j u v ≡ true → (j ≡ p → Occurs q t c x (at_variable q j x u v)) → s j u v ≡ true

abbrev pub Exact : Atoms → ℕ → Relations → Relations → Type 0
Exact q m r t = (c u v : ℕ) → c < m → (t c u v ≡ true) ↔ Uses q m r c u v

pub record Upper (q : Plan) (r t : Relations) (k : ℕ) : Type 0 where
  pub within : (j u v : ℕ) → t j u v ≡ true → r j u v ≡ true
  pub sound : (f : ℕ → ℕ) → Satisfies q.atoms q.count r f → Satisfies q.atoms q.count t f
  pub upper : (j : ℕ) → 0 < j → k ≤ j → j < q.count → (u v : ℕ) → t (q.parent j) u v ≡ true
      → Occurs q.atoms t j (q.shared j) (at_variable q.atoms (q.parent j) (q.shared j) u v)

pub record Lower (q : Plan) (r t : Relations) (k : ℕ) : Type 0 where
  pub ups : Upper q r t 1
  pub lower : (j : ℕ) → 0 < j → j < k → j < q.count → (u v : ℕ) → t j u v ≡ true
      → Occurs q.atoms t (q.parent j) (q.shared j) (at_variable q.atoms j (q.shared j) u v)
