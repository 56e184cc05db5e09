-- What each reader of a part of a query text does.
use Rattle.std.specs.Prelude.{◌≡◌, ℕ, ◌+◌, ◌<◌, ◌≤◌, List, [], ◌∷◌, ◌++◌, length, IfSome, Result, MatchOption, MatchResult, slice_index_or}
use Rattle.query.specs.declared.cursor.Reader.{Reader}
use Rattle.query.specs.declared.drafts.Atom.{Atom}
use Rattle.query.specs.declared.drafts.Head.{Head}
use Rattle.query.specs.declared.drafts.Draft.{Draft}
use Rattle.automata.specs.declared.builder.Part.{Part}
use Rattle.automata.specs.declared.builder.Builder.{Builder}
use Rattle.automata.specs.Parts.{Holds}
use Rattle.query.specs.Outcome.{rest}
use Rattle.query.specs.Queries.{Capital, Inside, inside_text, inside_regex, AtomTree, atom_text, AtomsTree, HeadTree, names, QueryTree, query_tree, query_text, IsQuery, Longest}
use Rattle.query.specs.Viable.{Halts, start, at_atom, opened}
use Rattle.query.specs.Limits.{Stored, Keeps, Rows, Over, Overs, Lowest, number}

pub record Went (old new : Reader) : Type 0 where
  pub within : new.at ≤ length new.text.now
  pub grows : old.at ≤ new.at
  pub text : new.text.now ≡ old.text.now

pub record Named (old new : Reader) (r : Result ℕ ℕ) : Type 0 where
  pub went : Went old new
  pub reads : MatchResult r (λ u. Capital u × (rest old ≡ u ∷ rest new) × (new.at ≡ old.at + 1)) (λ e. (e ≡ new.at) × (rest new ≡ rest old) × ((b : ℕ) (bs : List ℕ) → rest old ≡ b ∷ bs → Capital b → ⊥))

pub record Enclosed (old new : Reader) (m m' : Builder) (r : Result Part ℕ) : Type 0 where
  pub went : Went old new
  pub reads : MatchResult r (λ f. (i : Inside) × (rest old ≡ inside_text i ++ 93 ∷ rest new) × Holds m' f m.count (inside_regex i)) (λ e. (e ≡ new.at) × Halts Inside (λ i. inside_text i ++ 93 ∷ []) opened (rest old) (rest new))

pub record Atomed (old new : Reader) (r : Result Atom ℕ) : Type 0 where
  pub went : Went old new
  pub reads : MatchResult r (λ a. (t : AtomTree) × (rest old ≡ atom_text t ++ rest new) × Stored a old.at t) (λ e. (e ≡ new.at) × Halts AtomTree atom_text at_atom (rest old) (rest new))

pub record Headed (old new : Reader) (r : Result Head ℕ) : Type 0 where
  pub went : Went old new
  pub reads : MatchResult r (λ h. (t : HeadTree) × (rest old ≡ names t ++ 58 ∷ rest new) × Keeps h (names t)) (λ e. (e ≡ new.at) × Halts QueryTree query_text start (rest old) (rest new))

-- An atom, which stands at b, is put behind the others.
pub record Adds (old new : Draft) (b : ℕ) (t : AtomTree) : Type 0 where
  pub head : new.head ≡ old.head
  pub count : new.count ≡ old.count + 1
  pub kept : (z : Atom) (i : ℕ) → i < old.count → slice_index_or new.atoms i z ≡ slice_index_or old.atoms i z
  pub stored : (z : Atom) → old.count < 8 → Stored (slice_index_or new.atoms old.count z) b t
  pub over : MatchOption old.over (Lowest (Over b old.count t) new.over) (λ p. new.over ≡ old.over)

pub record Claused (old new : Reader) (d d' : Draft) (r : Result Unit ℕ) : Type 0 where
  pub went : Went old new
  pub reads : MatchResult r (λ _. (t : AtomTree) × (rest old ≡ atom_text t ++ rest new) × Adds d d' old.at t) (λ e. (e ≡ new.at) × Halts AtomTree atom_text at_atom (rest old) (rest new))

-- The draft, of a text read up to the place e, is that of the head h and the atoms s, the first of which stands at b.
pub record Drafted (d : Draft) (h : HeadTree) (s : AtomsTree) (b e : ℕ) : Type 0 where
  pub head : Keeps d.head (names h)
  pub count : d.count ≡ number s
  pub rows : (z : Atom) → Rows z d.atoms b s
  pub over : Lowest (Overs b s) d.over
  pub before : IfSome d.over (λ p. p < e)

-- The whole text was read.
abbrev pub Wholly : List ℕ → Result Draft ℕ → Type 0
Wholly xs r = MatchResult r (λ d. (h : HeadTree) × (s : AtomsTree) × (query_text (query_tree h s) ≡ xs) × Drafted d h s (length (names h) + 1) (length xs)) (λ e. (IsQuery xs → ⊥) × Longest xs e)
