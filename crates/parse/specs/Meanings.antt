-- What a query text means.
--     expressions s   the expressions of the atoms, in the order of the text
--     meaning h s     the query of a head and atoms
use Rattle.std.specs.Prelude.{List, [], ◌∷◌, ◌++◌, slice_index_or}
use Rattle.meaning.specs.Answers.{Query}
use Rattle.meaning.specs.Words.{Regex, one, any}
use Rattle.query.specs.Limits.{inside_of, number}
use Rattle.query.specs.Queries.{HeadTree, AtomsTree, one_atom, more_atoms, inside_regex, names}
use Rattle.shapes.specs.Checks.{of}
use Rattle.parse.specs.Shaping.{ends}

abbrev pub expressions : AtomsTree → List Regex
expressions (one_atom t) = inside_regex (inside_of t) ∷ []
expressions (more_atoms s t) = expressions s ++ inside_regex (inside_of t) ∷ []

abbrev pub meaning : HeadTree → AtomsTree → Query
meaning h s = record { head = names h; count = number s; atoms = of (ends s); expression = λ c. slice_index_or (expressions s) c (one any) }
