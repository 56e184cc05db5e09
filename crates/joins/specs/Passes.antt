-- The two passes over the tables of a workspace.
--     plan q m a              the m atoms of q by the ranks of a
--     by m a t                the relations t by rank
--     Climbed q m a s t n w k    from s to t the ranks k and above were passed, towards the first
--     Descended q m a s t n w k  from s to t the ranks below k were passed, away from the first, whatever relations were passed before
--     Passed q m s t n w      from s to t both passes were made: the tables of t keep exactly the pairs that satisfying assignments of those of s use
use Rattle.std.specs.Prelude.{◌≡◌, ℕ, ◌+◌, ◌*◌, ◌≤◌, ◌&&◌, List, nat_lt, slice_index}
use Rattle.meaning.specs.Assignments.{Relations}
use Rattle.meaning.specs.Shapes.{Atoms}
use Rattle.order.specs.Ranks.{Ranks}
use Rattle.joins.specs.Plans.{Plan, Exact, Upper, Lower}
use Rattle.joins.specs.Layouts.{tables, Ready}

abbrev pub plan : Atoms → ℕ → Ranks → Plan
plan q m a = record {
  count = m;
  atoms = record { first = λ i. q.first (a.at i); second = λ i. q.second (a.at i) };
  parent = a.parent;
  shared = a.shared;
  fresh = a.fresh;
}

abbrev pub by : ℕ → Ranks → Relations → Relations
by m a t i u v = nat_lt i m && t (a.at i) u v

pub record Climbed (q : Atoms) (m : ℕ) (a : Ranks) (s t : List ℕ) (n w k : ℕ) : Type 0 where
  pub upper : Upper (plan q m a) (by m a (tables s m n w)) (by m a (tables t m n w)) k
  pub ready : Ready t m n w
  pub rest : (i : ℕ) → m * (n * w) + w ≤ i → slice_index t i ≡ slice_index s i

pub record Descended (q : Atoms) (m : ℕ) (a : Ranks) (s t : List ℕ) (n w k : ℕ) : Type 0 where
  pub lower : (r : Relations) → Upper (plan q m a) r (by m a (tables s m n w)) 1 → Lower (plan q m a) r (by m a (tables t m n w)) k
  pub ready : Ready t m n w
  pub rest : (i : ℕ) → m * (n * w) + w ≤ i → slice_index t i ≡ slice_index s i

pub record Passed (q : Atoms) (m : ℕ) (s t : List ℕ) (n w : ℕ) : Type 0 where
  pub exact : Exact q m (tables s m n w) (tables t m n w)
  pub ready : Ready t m n w
  pub rest : (i : ℕ) → m * (n * w) + w ≤ i → slice_index t i ≡ slice_index s i
