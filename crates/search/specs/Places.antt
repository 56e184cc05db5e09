-- Where the variables of a query's atoms stand in its head, and which tuples fit tables.
--     Places                the atoms; the head's places of each one's two variables, the head's length or more for a bound one; the first atom that has the first
--                           free variable, and whether as its first
--     Stands t c side x     the node x stands on a side of some pair of atom c
--     Fits p t n h xs       a tuple of h nodes below n fits the tables t: each atom with two free variables has its pair, and the first node stands where it should
--     Goes p t k xs         the part of it that is known at place k: the atoms with both variables among the places 0 to k have their pairs
--     Fit p t n h xs        the same as Fits, place by place
use Rattle.std.specs.Prelude.{◌≡◌, ℕ, ◌<◌, ◌≤◌, Bool, true, cond, List}
use Rattle.meaning.specs.Assignments.{Relations}
use Rattle.meaning.specs.Tuples.{node, Within}

pub record Places : Type 0 where
  pub atoms : ℕ
  pub first : ℕ → ℕ
  pub second : ℕ → ℕ
  pub root : ℕ
  pub side : Bool

abbrev pub Stands : Relations → ℕ → Bool → ℕ → Type 0
Stands t c side x = (u : ℕ) × (v : ℕ) × (t c u v ≡ true) × (cond side u v ≡ x)

pub record Fits (p : Places) (t : Relations) (n h : ℕ) (xs : List ℕ) : Type 0 where
  pub within : Within n h xs
  pub pairs : (c : ℕ) → c < p.atoms → p.first c < h → p.second c < h → t c (node xs (p.first c)) (node xs (p.second c)) ≡ true
  pub stands : Stands t p.root p.side (node xs 0)

pub record Goes (p : Places) (t : Relations) (k : ℕ) (xs : List ℕ) : Type 0 where
  pub pairs : (c : ℕ) → c < p.atoms → p.first c ≤ k → p.second c ≤ k → t c (node xs (p.first c)) (node xs (p.second c)) ≡ true
  pub stands : k ≡ 0 → Stands t p.root p.side (node xs 0)

pub record Fit (p : Places) (t : Relations) (n h : ℕ) (xs : List ℕ) : Type 0 where
  pub within : Within n h xs
  pub goes : (k : ℕ) → k < h → Goes p t k xs
