-- The record of a query that a caller lends: what it holds when it is new, and what open leaves in it.
use Rattle.std.specs.Prelude.{◌≡◌, ℕ, ◌≤◌, List, [], ◌∷◌, length, None, Result, MatchResult}
use Rattle.parse.specs.declared.Refusal.{Refusal}
use Rattle.parse.specs.Parsing.{Accepted, Denied}
use Rattle.record.specs.declared.records.Query.{Query}
use Rattle.record.specs.declared.records.Blank.{Blank}
use Rattle.record.specs.declared.records.Opened.{Opened}

-- A:A[.]B
abbrev pub new_text : List ℕ
new_text = 65 ∷ 58 ∷ 65 ∷ 91 ∷ 46 ∷ 93 ∷ 66 ∷ []

-- The record holds the query of the text xs, notes no number of nodes, and has no last tuple.
pub record Newly (xs : List ℕ) (q : Query) : Type 0 where
  pub short : length xs ≤ 512
  pub holds : Accepted xs q.parsed
  pub nodes : q.nodes ≡ 0
  pub last : q.last ≡ None

-- Open takes a text: accepted, the record holds its query; refused, the record has not changed.
abbrev pub Opens : List ℕ → Query → Query → Result Opened (Blank × Refusal) → Type 0
Opens xs old new r = MatchResult r (λ _. Newly xs new) (λ e. (new ≡ old) × Denied xs e.1)
