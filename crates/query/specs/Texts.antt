-- What a query text is read as, or why it is refused and where.
use Rattle.std.specs.Prelude.{◌≡◌, ℕ, ◌+◌, ◌≤◌, List, length, Result, MatchResult}
use Rattle.query.specs.declared.drafts.Atom.{Atom}
use Rattle.query.specs.declared.drafts.Query.{Query}
use Rattle.query.specs.declared.drafts.Fault.{Fault}
use Rattle.query.specs.declared.drafts.Fault.TheVariants.{NoQuery, TooLarge}
use Rattle.query.specs.Queries.{HeadTree, AtomsTree, names, QueryTree, query_tree, query_text, IsQuery, Longest}
use Rattle.query.specs.Limits.{Keeps, Rightly, Large, number}

-- The record q holds the query of the tree: its head, and its atoms in the order of the text.
pub record HoldsQuery (q : Query) (h : HeadTree) (s : AtomsTree) : Type 0 where
  pub head : Keeps q.head (names h)
  pub count : q.count ≡ number s
  pub few : number s ≤ 8
  pub rows : (z : Atom) → Rightly z q.atoms (length (names h) + 1) s

-- The record holds the query of the text xs, which is within the limits and has no other tree.
pub record HoldsText (q : Query) (xs : List ℕ) : Type 0 where
  pub head : HeadTree
  pub atoms : AtomsTree
  pub text : query_text (query_tree head atoms) ≡ xs
  pub only : (t : QueryTree) → query_text t ≡ xs → t ≡ query_tree head atoms
  pub holds : HoldsQuery q head atoms
  pub limits : (t : QueryTree) → query_text t ≡ xs → (p : ℕ) → Large t p → ⊥

-- The text xs is no query, and the longest beginning that begins one has the length e.
pub record IsNoQuery (xs : List ℕ) (e : ℕ) : Type 0 where
  pub none : IsQuery xs → ⊥
  pub place : Longest xs e

-- The text xs is a query, and p is the first place where it is over a limit, whatever its tree.
pub record IsTooLarge (xs : List ℕ) (p : ℕ) : Type 0 where
  pub query : IsQuery xs
  pub large : (t : QueryTree) → query_text t ≡ xs → Large t p
  pub first : (t : QueryTree) → query_text t ≡ xs → (q : ℕ) → Large t q → p ≤ q

-- Why reading a text is refused, and where.
abbrev pub Refused : List ℕ → Fault → Type 0
Refused xs (NoQuery e) = IsNoQuery xs e
Refused xs (TooLarge p) = IsTooLarge xs p

abbrev pub Judged : List ℕ → Result Query Fault → Type 0
Judged xs r = MatchResult r (λ q. HoldsText q xs) (Refused xs)
