-- What a file says, record by record. The graph may have m nodes at most, and has room for k edges.
--     Fine bs o s          the record at offset o of bs is read, s being whether the sizes record was read before
--     behind bs o          the offset behind that record
--     Obeys g r o rs h rs' the record r at offset o makes its change to g, which leaves h, or the graph turns it away;
--                          the refusals before are rs, and after rs'; a query makes no change, and is refused where its text is
--     Reached .. o s rs    the reading comes to offset o; by then the graph is s, or there is none yet, and rs are the refusals
--     Read .. s rs         the reading ends with the graph s, or with none, and the refusals rs
-- A change that the graph turns away and a query whose text is refused are noted and passed; any other record that is refused ends the reading.
use Rattle.std.specs.Prelude.{◌≡◌, ℕ, ◌+◌, ◌<◌, Bool, true, false, ◌⊎◌, List, [], ◌∷◌, ◌++◌, length, drop, is_some, Some, None, Ok, Err, Option}
use Rattle.meaning.specs.Graphs.{Graph, Within, New}
use Rattle.meaning.specs.Refusals.{first}
use Rattle.graph.specs.declared.changes.Changed.{Changed}
use Rattle.graph.specs.declared.outcomes.Fault.{Fault as GraphFault}
use Rattle.graph.specs.declared.outcomes.SizeFault.{SizeFault}
use Rattle.graph.specs.Calls.{BadSizes}
use Rattle.graph.specs.Changes.{Applies}
use Rattle.parse.specs.declared.Parsed.{Parsed}
use Rattle.parse.specs.declared.Refusal.{Refusal as QueryRefusal}
use Rattle.parse.specs.Parsing.{Parses}
use Rattle.wiring.specs.declared.faults.Fault.{Fault}
use Rattle.wiring.specs.declared.faults.Fault.TheVariants.{TurnedAway, BadQuery, BadSizes as bad_sizes}
use Rattle.wiring.specs.declared.faults.Refusal.{Refusal}
use Rattle.wiring.specs.declared.records.Record.{Record}
use Rattle.wiring.specs.declared.records.Record.TheVariants.{Sizes, Change, Query}
use Rattle.wiring.specs.Numbers.{number}
use Rattle.wiring.specs.Order.{record_refusals}
use Rattle.wiring.specs.Records.{kind, payload, span, Says}

abbrev pub Fine : List ℕ → ℕ → Bool → Type 0
Fine bs o s = (o < length bs) × (first (record_refusals s (drop o bs)) ≡ None)

abbrev pub behind : List ℕ → ℕ → ℕ
behind bs o = o + span (drop o bs)

abbrev pub SaysAt : List ℕ → ℕ → Record → Type 0
SaysAt bs o r = Says (kind (drop o bs)) (payload (drop o bs)) r

abbrev pub refusal : Fault → ℕ → Refusal
refusal f o = record { fault = f; at = o }

abbrev pub Obeys : Graph → Record → ℕ → List Refusal → Graph → List Refusal → Type 0
Obeys g (Sizes n q) o rs h rs' = ⊥
Obeys g (Change c) o rs h rs' =
    ((a : Changed) × Applies g c (Ok a) h × (rs' ≡ rs))
    ⊎ ((f : GraphFault) × Applies g c (Err f) h × (rs' ≡ rs ++ refusal (TurnedAway f) o ∷ []))
Obeys g (Query t) o rs h rs' =
    (h ≡ g)
    × (((p : Parsed) × Parses t.now (Ok p) × (rs' ≡ rs))
    ⊎ ((f : QueryRefusal) × Parses t.now (Err f) × (rs' ≡ rs ++ refusal (BadQuery f) o ∷ [])))

pub data Reached (m k : ℕ) (bs : List ℕ) : ℕ → Option Graph → List Refusal → Type 0 where
  begun : Reached m k bs 0 None []
  made : {o : ℕ} {rs : List Refusal} (n q : ℕ) (g : Graph) → Reached m k bs o None rs
      → Fine bs o false → SaysAt bs o (Sizes n q) → Within m n q → New g n q k → Reached m k bs (behind bs o) (Some g) rs
  obeyed : {o : ℕ} {rs rs' : List Refusal} (g h : Graph) (r : Record) → Reached m k bs o (Some g) rs
      → Fine bs o true → SaysAt bs o r → Obeys g r o rs h rs' → Reached m k bs (behind bs o) (Some h) rs'

pub data Read (m k : ℕ) (bs : List ℕ) : Option Graph → List Refusal → Type 0 where
  ended : {s : Option Graph} {rs : List Refusal} → Reached m k bs (length bs) s rs → Read m k bs s rs
  stopped : {o : ℕ} {s : Option Graph} {rs : List Refusal} (f : Fault) → Reached m k bs o s rs
      → o < length bs → first (record_refusals (is_some s) (drop o bs)) ≡ Some (number f)
      → Read m k bs s (rs ++ refusal f o ∷ [])
  unsized : {o : ℕ} {rs : List Refusal} (n q : ℕ) (f : SizeFault) → Reached m k bs o None rs
      → Fine bs o false → SaysAt bs o (Sizes n q) → BadSizes m n q f → Read m k bs None (rs ++ refusal (bad_sizes f) o ∷ [])
