-- An edge as it is printed, in bytes: FROM LETTER TO.
use Rattle.std.specs.Prelude.{ℕ, ◌+◌, cond, List, ◌∷◌, ◌++◌, codes, decimal, nat_lt}
use Rattle.graph.specs.declared.edges.Edge.{Edge}

-- label 0 is a, 25 is z; a label past z, which no graph has, is ?
abbrev pub letter : ℕ → ℕ
letter a = cond (nat_lt a 26) (97 + a) 63

abbrev pub wire_text : Edge → List ℕ
wire_text e = decimal e.from ++ (codes " " ++ (letter e.label ∷ (codes " " ++ decimal e.to)))
