-- A listing under way: the record and the workspace after a calibrate and the outcomes of the accepted nexts since, the newest first.
--     Notes o g               the record notes the newest of the tuples given, or none
--     after r o os            the outcomes after a next that answered r, where the record then notes o
--     Lists g xs os q s       the record q and the workspace s stand in a listing of the text xs over the graph g, as it was at the calibrate, after the outcomes os
--                             each table keeps exactly the pairs that satisfying assignments use, and the outcomes list the answers whole
--     GoesOn q s r q'        a next goes on with whatever listing the record and the workspace stand in
--     Begins g q s            a calibrate begins a listing of each text that the record's query stands for
use Rattle.std.specs.Prelude.{◌≡◌, ℕ, ◌<◌, Bool, true, false, ◌↔◌, List, [], ◌∷◌, length, Some, None, Ok, Err, Option, Result}
use Rattle.bits.specs.Rows.{width}
use Rattle.meaning.specs.Answers.{Answer, Kept}
use Rattle.meaning.specs.Graphs.{Graph}
use Rattle.meaning.specs.Listings.{Outcome, gave, ended, given, Nexts, Whole}
use Rattle.joins.specs.Layouts.{tables}
use Rattle.parse.specs.Meanings.{meaning}
use Rattle.parse.specs.Parsing.{Accepted}
use Rattle.query.specs.Limits.{number}
use Rattle.query.specs.Queries.{names}
use Rattle.record.specs.declared.calls.Fault.{Fault}
use Rattle.record.specs.declared.records.Query.{Query}
use Rattle.meaning.specs.Tuples.{last_of}
use Rattle.record.specs.Calls.{Fitting, head}

abbrev pub Notes : Option (List ℕ) → List (List ℕ) → Type 0
Notes o [] = o ≡ None
Notes o (x ∷ g) = o ≡ Some x

abbrev pub after : Result Bool Fault → Option (List ℕ) → List Outcome → List Outcome
after (Ok true) o os = gave (last_of o) ∷ os
after (Ok false) o os = ended ∷ os
after (Err f) o os = os

pub record Lists (g : Graph) (xs : List ℕ) (os : List Outcome) (q : Query) (s : List ℕ) : Type 0 where
  pub accepted : Accepted xs q.parsed
  pub nodes : q.nodes ≡ g.nodes
  pub kept : (c u v : ℕ) → c < number accepted.atoms → (tables s q.parsed.query.count q.nodes (width q.nodes) c u v ≡ true) ↔ Kept g (meaning accepted.head accepted.atoms) c u v
  pub notes : Notes q.last (given os)
  pub nexts : Nexts (Fitting q s) (length (head q)) os
  pub whole : Whole (Answer g (meaning accepted.head accepted.atoms)) (length (names accepted.head)) os

abbrev pub GoesOn : Query → List ℕ → Result Bool Fault → Query → Type 0
GoesOn q s r q' = (g : Graph) (xs : List ℕ) (os : List Outcome) → Lists g xs os q s → Lists g xs (after r q'.last os) q' s

abbrev pub Begins : Graph → Query → List ℕ → Type 0
Begins g q s = (xs : List ℕ) → Accepted xs q.parsed → Lists g xs [] q s
