-- Whole query texts: a head of variables, a colon, and atoms with commas between; which bytes are the text of one.
use Rattle.std.specs.Prelude.{◌≡◌, ℕ, ◌≤◌, List, [], ◌∷◌, ◌++◌, length, take}
use Rattle.query.specs.Grammar.{Tree, alternative, text}
use Rattle.meaning.specs.Words.{Regex, one, any}
use Rattle.query.specs.Trees.{regex}

-- A variable is a capital letter.
abbrev pub Capital : ℕ → Type 0
Capital b = (65 ≤ b) × (b ≤ 90)

-- A head: one or more variables.
pub data HeadTree : Type 0 where
  one_name : (b : ℕ) → Capital b → HeadTree
  more_names : HeadTree → (b : ℕ) → Capital b → HeadTree

abbrev pub names : HeadTree → List ℕ
names (one_name b h) = b ∷ []
names (more_names t b h) = names t ++ b ∷ []

-- What stands in square brackets: an alternative or nothing.
pub data Inside : Type 0 where
  nothing : Inside
  filled : Tree alternative → Inside

abbrev pub inside_text : Inside → List ℕ
inside_text nothing = []
inside_text (filled t) = text t

-- Nothing means a dot.
abbrev pub inside_regex : Inside → Regex
inside_regex nothing = one any
inside_regex (filled t) = regex t

-- An atom: a variable, what stands in square brackets, and a variable.
pub data AtomTree : Type 0 where
  atom_tree : (u : ℕ) → Capital u → Inside → (v : ℕ) → Capital v → AtomTree

abbrev pub atom_text : AtomTree → List ℕ
atom_text (atom_tree u h i v k) = u ∷ 91 ∷ (inside_text i ++ 93 ∷ v ∷ [])

-- One or more atoms with commas between.
pub data AtomsTree : Type 0 where
  one_atom : AtomTree → AtomsTree
  more_atoms : AtomsTree → AtomTree → AtomsTree

abbrev pub atoms_text : AtomsTree → List ℕ
atoms_text (one_atom a) = atom_text a
atoms_text (more_atoms s a) = atoms_text s ++ 44 ∷ atom_text a

-- A head, a colon, and atoms.
pub data QueryTree : Type 0 where
  query_tree : HeadTree → AtomsTree → QueryTree

abbrev pub query_text : QueryTree → List ℕ
query_text (query_tree h s) = names h ++ 58 ∷ atoms_text s

-- xs is the text of a query.
abbrev pub IsQuery : List ℕ → Type 0
IsQuery xs = (t : QueryTree) × (query_text t ≡ xs)

-- xs begins the text of some query.
abbrev pub Begins : List ℕ → Type 0
Begins xs = (more : List ℕ) × IsQuery (xs ++ more)

-- e is the length of the longest beginning of xs that begins some query.
pub record Longest (xs : List ℕ) (e : ℕ) : Type 0 where
  pub within : e ≤ length xs
  pub begins : Begins (take e xs)
  pub longest : (k : ℕ) → k ≤ length xs → Begins (take k xs) → k ≤ e
