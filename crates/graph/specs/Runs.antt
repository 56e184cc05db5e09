-- Changes made one after the other.
--     Runs g cs rs h        the changes cs to g, answered by rs, leave h
--     news r, gones r       1 if the answer r is new, or gone, and 0 otherwise
--     Replays g cs n m h    the changes cs to g leave h; n puts answered new and m strikes gone, and the sizes differ by that
use Rattle.std.specs.Prelude.{◌≡◌, ℕ, ◌+◌, List, [], ◌∷◌, Ok, Err, Result}
use Rattle.meaning.specs.Graphs.{Graph, size}
use Rattle.graph.specs.declared.changes.Change.{Change}
use Rattle.graph.specs.declared.changes.Changed.{Changed}
use Rattle.graph.specs.declared.changes.Changed.TheVariants.{Put as did_put, Strike as did_strike}
use Rattle.graph.specs.declared.outcomes.Fault.{Fault}
use Rattle.graph.specs.declared.outcomes.Put.TheVariants.{New, There}
use Rattle.graph.specs.declared.outcomes.Strike.TheVariants.{Gone, NotThere}
use Rattle.graph.specs.Changes.{Applies}

abbrev pub Answer : Type 0
Answer = Result Changed Fault

abbrev pub Runs : Graph → List Change → List Answer → Graph → Type 0
Runs g [] [] h = h ≡ g
Runs g [] (r ∷ rs) h = ⊥
Runs g (c ∷ cs) [] h = ⊥
Runs g (c ∷ cs) (r ∷ rs) h = (k : Graph) × Applies g c r k × Runs k cs rs h

abbrev pub news : Answer → ℕ
news (Ok (did_put New)) = 1
news (Ok (did_put There)) = 0
news (Ok (did_strike a)) = 0
news (Err f) = 0

abbrev pub gones : Answer → ℕ
gones (Ok (did_put a)) = 0
gones (Ok (did_strike Gone)) = 1
gones (Ok (did_strike NotThere)) = 0
gones (Err f) = 0

abbrev pub total : (Answer → ℕ) → List Answer → ℕ
total f [] = 0
total f (r ∷ rs) = f r + total f rs

pub record Replays (g : Graph) (cs : List Change) (n m : ℕ) (h : Graph) : Type 0 where
  pub answers : List Answer
  pub runs : Runs g cs answers h
  pub new : n ≡ total news answers
  pub gone : m ≡ total gones answers
  pub sizes : size h + m ≡ size g + n
