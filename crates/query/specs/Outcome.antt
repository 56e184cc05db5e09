-- What the readers of the layers do. A reader stands at a place of a text; the positions that it reads go to a builder of an automaton.
--     rest r       what is left to read
--     Outcome l    a reader of layer l took a text and added its part, or stopped where no expression goes on
--     Ahead        a loop's reader went on: what stood before it as a text still is one
--     Eats c       a reader went over the character c, if it came next
use Rattle.std.specs.Prelude.{◌≡◌, ℕ, ◌+◌, ◌≤◌, Bool, List, ◌∷◌, ◌++◌, length, drop, MatchBool, Result, MatchResult, ◌≢◌}
use Rattle.automata.specs.declared.builder.Builder.{Builder}
use Rattle.automata.specs.declared.builder.Part.{Part}
use Rattle.automata.specs.Parts.{Holds, Kept}
use Rattle.query.specs.declared.cursor.Reader.{Reader}
use Rattle.query.specs.Grammar as G
use Rattle.query.specs.Grammar.{Layer, Tree, Took, Halted, Stops}
use Rattle.query.specs.Trees.{regex}

abbrev pub rest : Reader → List ℕ
rest r = drop r.at r.text.now

-- A text of layer l, which stood before the place old, is one still, and so is its part of the automaton.
pub record Grown (l : Layer) (old new : Reader) (m m' : Builder) (f' : Part) (b : ℕ) (t : Tree l) : Type 0 where
  pub tree : Tree l
  pub splits : G.text t ++ rest old ≡ G.text tree ++ rest new
  pub holds : Holds m' f' b (regex tree)
  pub kept : Kept b m m'

-- A reader went on: what stood before it as a text of layer l is one of layer l still, and what is left does not go on
-- with a text of the layer inner.
pub record Ahead (l inner : Layer) (old new : Reader) (m m' : Builder) (f f' : Part) : Type 0 where
  pub within : new.at ≤ length new.text.now
  pub grows : old.at ≤ new.at
  pub text : new.text.now ≡ old.text.now
  pub few : m'.count ≤ new.at + 1
  pub stops : Stops inner (rest new)
  pub took : (t : Tree l) (b : ℕ) → Holds m f b (regex t) → Grown l old new m m' f' b t

-- A reader took a text, and added its part to the automaton.
pub record Made (l : Layer) (before rest : List ℕ) (m m' : Builder) (f : Part) : Type 0 where
  pub took : Took l before rest
  pub holds : Holds m' f m.count (regex took.tree)
  pub kept : Kept m.count m m'

-- What a reader of a layer did.
pub record Outcome (l : Layer) (old new : Reader) (m m' : Builder) (r : Result Part ℕ) : Type 0 where
  pub within : new.at ≤ length new.text.now
  pub grows : old.at ≤ new.at
  pub text : new.text.now ≡ old.text.now
  pub few : m'.count ≤ new.at + 1
  pub reads : MatchResult r (λ f. Made l (rest old) (rest new) m m' f) (λ e. (e ≡ new.at) × Halted l (rest old) (rest new))

-- What it is to go over a character that comes next.
pub record Eats (c : ℕ) (old new : Reader) (r : Bool) : Type 0 where
  pub within : new.at ≤ length new.text.now
  pub text : new.text.now ≡ old.text.now
  pub takes : MatchBool r ((new.at ≡ old.at + 1) × (rest old ≡ c ∷ rest new)) ((new.at ≡ old.at) × (rest new ≡ rest old) × ((bs : List ℕ) → rest old ≢ c ∷ bs))
