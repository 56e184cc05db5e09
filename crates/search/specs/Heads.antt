-- The places of variables in a head, as the code keeps them.
--     placed p                the places that the code's p stands for
--     relations t             the relations that the code's tables t tell
--     PlaceOf head x i        i is the first place of x in the head, or the head's length
--     RootOf atoms x c        c is the first atom that has x, or their number
--     pair_at head atoms c r  r has the first places of the variables of atom c in the head, if there is an atom of that number
--     root_at atoms x r       r has the first atom that has x, if one has, and the side on which it has it
--     Placed head atoms p     p has the places of the atoms' variables in the head
--     PairAt p t k xs c       atom c has its pair, if both its variables stand at the places 0 to k
use Rattle.std.specs.Prelude.{◌≡◌, ℕ, ◌<◌, ◌≤◌, true, List, length, Some, None, Option, ◌==◌, ◌≢◌, slice_index, slice_index_or, unwrap_or}
use Rattle.meaning.specs.Assignments.{Relations}
use Rattle.meaning.specs.Firsts.{FirstAt}
use Rattle.meaning.specs.Shapes.{Has}
use Rattle.meaning.specs.Tuples.{node}
use Rattle.shapes.specs.declared.checks.Ends.{Ends}
use Rattle.shapes.specs.Checks.{of}
use Rattle.joins.specs.Layouts.{tables}
use Rattle.joins.specs.Sides.{is_first}
use Rattle.search.specs.declared.places.Pair.{Pair}
use Rattle.search.specs.declared.places.Places.{Places as Kept}
use Rattle.search.specs.declared.places.Root.{Root}
use Rattle.search.specs.declared.tables.Tables.{Tables}
use Rattle.search.specs.Places.{Places}

abbrev pub unplaced : Pair
unplaced = record { first = None; second = None }

abbrev pub placed : Kept → Places
placed p = record {
  atoms = p.atoms;
  first = λ c. unwrap_or (slice_index_or p.pairs c unplaced).first p.free;
  second = λ c. unwrap_or (slice_index_or p.pairs c unplaced).second p.free;
  root = elim p.root [ None ↦ p.atoms | Some r ↦ r.atom ];
  side = elim p.root [ None ↦ true | Some r ↦ is_first r.side ];
}

abbrev pub relations : Tables → Relations
relations t = tables t.words.now t.places.now.atoms t.rows.count t.rows.width

pub record PlaceOf (head : List ℕ) (x i : ℕ) : Type 0 where
  pub within : i ≤ length head
  pub found : i < length head → slice_index head i ≡ x
  pub first : (j : ℕ) → j < i → slice_index head j ≢ x

pub record RootOf (atoms : List Ends) (x c : ℕ) : Type 0 where
  pub within : c ≤ length atoms
  pub found : c < length atoms → Has (of atoms) c x
  pub first : (d : ℕ) → d < c → Has (of atoms) d x → ⊥

abbrev pub pair_at : List ℕ → List Ends → ℕ → Pair → Type 0
pair_at head atoms c r = c < length atoms
    → FirstAt (λ i. slice_index head i ≡ (of atoms).first c) (length head) r.first × FirstAt (λ i. slice_index head i ≡ (of atoms).second c) (length head) r.second

abbrev pub root_at : List Ends → ℕ → Option Root → Type 0
root_at atoms x None = FirstAt (λ c. Has (of atoms) c x) (length atoms) None
root_at atoms x (Some r) = FirstAt (λ c. Has (of atoms) c x) (length atoms) (Some r.atom) × (is_first r.side ≡ (x == (of atoms).first r.atom))

pub record Placed (head : List ℕ) (atoms : List Ends) (p : Kept) : Type 0 where
  pub free : p.free ≡ length head
  pub count : p.atoms ≡ length atoms
  pub first : (c : ℕ) → c < length atoms → PlaceOf head ((of atoms).first c) ((placed p).first c)
  pub second : (c : ℕ) → c < length atoms → PlaceOf head ((of atoms).second c) ((placed p).second c)
  pub root : RootOf atoms (slice_index head 0) (placed p).root
  pub side : (placed p).root < length atoms → (placed p).side ≡ (slice_index head 0 == (of atoms).first (placed p).root)

abbrev pub PairAt : Places → Relations → ℕ → List ℕ → ℕ → Type 0
PairAt p t k xs c = p.first c ≤ k → p.second c ≤ k → t c (node xs (p.first c)) (node xs (p.second c)) ≡ true
