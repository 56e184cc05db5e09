-- The lines that are printed of a survey, as bytes.
--     refused_text r    refused R at O: the number and the offset of a refused record
--     count_text n      N wires
--     printed o         the text o, if there is one
--     text ls           the lines ls, each ended by a line feed
--     report rs ws      all lines of a survey: its refusals, then its edges and their number if there is a graph
use Rattle.std.specs.Prelude.{ℕ, List, [], ◌∷◌, ◌++◌, map, length, Some, None, codes, decimal, Option, unwrap_or}
use Rattle.graph.specs.declared.edges.Edge.{Edge}
use Rattle.graph.specs.Lines.{wire_text}
use Rattle.wiring.specs.declared.faults.Refusal.{Refusal}
use Rattle.wiring.specs.Numbers.{number}

abbrev pub refused_text : Refusal → List ℕ
refused_text r = codes "refused " ++ (decimal (number r.fault) ++ (codes " at " ++ decimal r.at))

abbrev pub count_text : ℕ → List ℕ
count_text n = decimal n ++ codes " wires"

-- what an item prints as, where that is known
abbrev pub printed : Option (List ℕ) → List ℕ
printed o = unwrap_or o []

abbrev pub text : List (List ℕ) → List ℕ
text [] = []
text (l ∷ ls) = l ++ (10 ∷ text ls)

abbrev pub report : List Refusal → Option (List Edge) → List ℕ
report rs None = text (map refused_text rs)
report rs (Some ws) = text (map refused_text rs) ++ (text (map wire_text ws) ++ text (count_text (length ws) ∷ []))
