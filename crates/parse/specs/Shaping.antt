-- What the checks of a query's shape see of a text: the head's variables, each atom's two variables, and where each stands.
use Rattle.std.specs.Prelude.{ℕ, ◌+◌, ◌<◌, List, [], ◌∷◌, ◌++◌, length, slice_index, slice_index_or}
use Rattle.shapes.specs.declared.checks.Ends.{Ends}
use Rattle.shapes.specs.declared.verdicts.Fault.{Fault}
use Rattle.shapes.specs.declared.verdicts.Fault.TheVariants.{RepeatedVariable, UnusedVariable, CyclicAtom, UnconnectedAtom, LoneVariable}
use Rattle.query.specs.declared.drafts.Atom.{Atom}
use Rattle.query.specs.Queries.{HeadTree, names, AtomTree, AtomsTree, one_atom, more_atoms, atoms_text}
use Rattle.query.specs.Limits.{first_of, second_of}

-- The two variables of an atom.
abbrev pub end : AtomTree → Ends
end t = record { first = first_of t; second = second_of t }

-- Those of all atoms, in the order of the text.
abbrev pub ends : AtomsTree → List Ends
ends (one_atom t) = end t ∷ []
ends (more_atoms s t) = ends s ++ end t ∷ []

-- Where each atom stands in the text, if the first stands at b.
abbrev pub starts : ℕ → AtomsTree → List ℕ
starts b (one_atom t) = b ∷ []
starts b (more_atoms s t) = starts b s ++ (b + length (atoms_text s) + 1) ∷ []

-- The place in the text of what a check found: a variable of the head stands at its number in it, an atom at its first byte.
abbrev pub place : HeadTree → AtomsTree → Fault → ℕ
place h s (RepeatedVariable i) = i
place h s (UnusedVariable i) = i
place h s (CyclicAtom i) = slice_index (starts (length (names h) + 1) s) i
place h s (UnconnectedAtom i) = slice_index (starts (length (names h) + 1) s) i
place h s (LoneVariable i) = i

-- An atom of the code that stands for none, and the two variables of one.
abbrev pub no_atom : Atom
no_atom = record { first = 0; second = 0; place = 0; automaton = record { symbols = []; follow = []; accept = 0; size = 0 } }

abbrev pub pair : Atom → Ends
pair a = record { first = a.first; second = a.second }

-- The place of what a check found, by the places that the atoms l keep.
abbrev pub kept_place : List Atom → Fault → ℕ
kept_place l (RepeatedVariable i) = i
kept_place l (UnusedVariable i) = i
kept_place l (CyclicAtom i) = (slice_index_or l i no_atom).place
kept_place l (UnconnectedAtom i) = (slice_index_or l i no_atom).place
kept_place l (LoneVariable i) = i

-- The number of the atom that a fault names is below n.
abbrev pub Numbered : ℕ → Fault → Type 0
Numbered n (RepeatedVariable i) = Unit {0}
Numbered n (UnusedVariable i) = Unit {0}
Numbered n (CyclicAtom i) = i < n
Numbered n (UnconnectedAtom i) = i < n
Numbered n (LoneVariable i) = Unit {0}
