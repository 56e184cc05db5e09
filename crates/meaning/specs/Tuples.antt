-- Tuples of nodes, in the order of the head, and their order: they compare at the first place where they differ.
--     node xs i           the node at place i
--     Within n h xs       the first h nodes are below n
--     Lower h xs ys       xs comes before ys: at the first of h places where they differ it has the lower node
--     Above h noted last xs   xs is above the last tuple, if one is noted
--     Least F h noted last xs   xs is the lowest of the tuples of F that are above the last one, if one is noted
--     Lowest F h noted last r   r is that tuple, or none
--     noted_of l, last_of l     whether l notes a last tuple, and which
use Rattle.std.specs.Prelude.{◌≡◌, ℕ, ◌<◌, Bool, true, false, List, [], Some, None, Option, slice_index}

abbrev pub node : List ℕ → ℕ → ℕ
node xs i = slice_index xs i

abbrev pub Within : ℕ → ℕ → List ℕ → Type 0
Within n h xs = (i : ℕ) → i < h → node xs i < n

pub record Lower (h : ℕ) (xs ys : List ℕ) : Type 0 where
  pub place : ℕ
  pub below : place < h
  pub same : (i : ℕ) → i < place → node xs i ≡ node ys i
  pub less : node xs place < node ys place

abbrev pub Above : ℕ → Bool → List ℕ → List ℕ → Type 0
Above h noted last xs = noted ≡ true → Lower h last xs

pub record Least (F : List ℕ → Type 0) (h : ℕ) (noted : Bool) (last xs : List ℕ) : Type 0 where
  pub fits : F xs
  pub above : Above h noted last xs
  pub least : (ys : List ℕ) → F ys → Above h noted last ys → Lower h ys xs → ⊥

abbrev pub Lowest : (List ℕ → Type 0) → ℕ → Bool → List ℕ → Option (List ℕ) → Type 0
Lowest F h noted last (Some xs) = Least F h noted last xs
Lowest F h noted last None = (ys : List ℕ) → F ys → Above h noted last ys → ⊥

abbrev pub noted_of : Option (List ℕ) → Bool
noted_of (Some t) = true
noted_of None = false

abbrev pub last_of : Option (List ℕ) → List ℕ
last_of (Some t) = t
last_of None = []
