-- Atoms as the record keeps them, and the limits: at most eight atoms, and 63 letters and dots in an expression.
use Rattle.std.specs.Prelude.{◌≡◌, ℕ, ◌+◌, ◌<◌, ◌≤◌, Bool, true, cond, ◌&&◌, ◌||◌, ◌⊎◌, List, [], ◌∷◌, ◌++◌, length, Option, MatchOption, ◌==◌, nat_le, slice_index, slice_index_or}
use Rattle.query.specs.declared.drafts.Atom.{Atom}
use Rattle.query.specs.declared.drafts.Head.{Head}
use Rattle.automata.specs.Machines.{Recognizes}
use Rattle.query.specs.Queries.{Inside, inside_text, inside_regex, AtomTree, atom_tree, AtomsTree, one_atom, more_atoms, atoms_text, QueryTree, query_tree, names}

abbrev pub first_of : AtomTree → ℕ
first_of (atom_tree u h i v k) = u

abbrev pub second_of : AtomTree → ℕ
second_of (atom_tree u h i v k) = v

abbrev pub inside_of : AtomTree → Inside
inside_of (atom_tree u h i v k) = i

-- The atom a of the code is that of the tree t, which stands at b: its automaton accepts the words of its expression and no others.
pub record Stored (a : Atom) (b : ℕ) (t : AtomTree) : Type 0 where
  pub place : a.place ≡ b
  pub first : a.first ≡ first_of t
  pub second : a.second ≡ second_of t
  pub recognizes : Recognizes a.automaton (inside_regex (inside_of t))

-- The names of a head: all are counted, and the first 26 are kept.
pub record Keeps (h : Head) (ns : List ℕ) : Type 0 where
  pub count : h.count ≡ length ns
  pub kept : (i : ℕ) → i < 26 → i < length ns → slice_index h.names i ≡ slice_index ns i
  pub long : length h.names ≡ 26

-- How many atoms there are.
abbrev pub number : AtomsTree → ℕ
number (one_atom t) = 1
number (more_atoms s t) = number s + 1

-- The list l holds the atoms of the trees, the first of which stands at b, as far as its eight places go.
abbrev pub Rows : Atom → List Atom → ℕ → AtomsTree → Type 0
Rows z l b (one_atom t) = Stored (slice_index_or l 0 z) b t
Rows z l b (more_atoms s t) = Rows z l b s × (number s < 8 → Stored (slice_index_or l (number s) z) (b + length (atoms_text s) + 1) t)

-- The same, and the automaton has no more positions than it has room for.
pub record Right (a : Atom) (b : ℕ) (t : AtomTree) : Type 0 where
  pub stored : Stored a b t
  pub few : a.automaton.size ≤ 63

-- The list l holds the atoms of the trees, each within the limit of letters.
abbrev pub Rightly : Atom → List Atom → ℕ → AtomsTree → Type 0
Rightly z l b (one_atom t) = Right (slice_index_or l 0 z) b t
Rightly z l b (more_atoms s t) = Rightly z l b s × Right (slice_index_or l (number s) z) (b + length (atoms_text s) + 1) t

-- A letter or a dot.
abbrev pub symbol : ℕ → Bool
symbol b = (nat_le 97 b && nat_le b 122) || b == 46

-- How many letters and dots a text has.
abbrev pub weigh : ℕ → ℕ
weigh b = cond (symbol b) 1 0

abbrev pub symbols : List ℕ → ℕ
symbols [] = 0
symbols (b ∷ bs) = weigh b + symbols bs

-- The 64th letter or dot of xs stands at j.
pub record SixtyFourth (xs : List ℕ) (j : ℕ) : Type 0 where
  pub before : List ℕ
  pub byte : ℕ
  pub behind : List ℕ
  pub splits : xs ≡ before ++ byte ∷ behind
  pub letter : symbol byte ≡ true
  pub many : symbols before ≡ 63
  pub place : j ≡ length before

-- The atom t, which stands at b behind n others, is over a limit at p.
abbrev pub Over : ℕ → ℕ → AtomTree → ℕ → Type 0
Over b n t p = ((n ≡ 8) × (p ≡ b)) ⊎ ((j : ℕ) × (p ≡ b + 2 + j) × SixtyFourth (inside_text (inside_of t)) j)

-- Atoms, the first of which stands at b, are over a limit at p.
abbrev pub Overs : ℕ → AtomsTree → ℕ → Type 0
Overs b (one_atom t) p = Over b 0 t p
Overs b (more_atoms s t) p = Overs b s p ⊎ Over (b + length (atoms_text s) + 1) (number s) t p

-- A query is over a limit at p.
abbrev pub Large : QueryTree → ℕ → Type 0
Large (query_tree h s) p = Overs (length (names h) + 1) s p

-- r is the first place at which P holds.
abbrev pub Lowest : (ℕ → Type 0) → Option ℕ → Type 0
Lowest P r = MatchOption r ((p : ℕ) → P p → ⊥) (λ p. P p × ((q : ℕ) → P q → p ≤ q))
