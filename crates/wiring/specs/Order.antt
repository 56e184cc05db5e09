-- The order of records: the sizes record comes first and once.
--     started p                   whether the sizes record has been read
--     misplaced s k               whether a record of kind k is out of its place, s being whether the sizes record has been read
--     admits p r                  whether the record r is in its place
--     record_refusals s bs        the table of refusals for the record at the front of bs
--     Reads p bs d                d is the record at the front of bs and the bytes behind it, or the refusal, in phase p
--     Nexts bs at p r at' p'      a reader of bs at the offset at, in phase p, gives r and stands then at at' in phase p'
use Rattle.std.specs.Prelude.{◌≡◌, ℕ, ◌+◌, ◌<◌, Bool, true, false, not, ◌||◌, List, [], ◌∷◌, length, drop, Some, None, Ok, Err, Option, Result, ◌==◌, nat_lt}
use Rattle.std.specs.Borrow.{Bor}
use Rattle.meaning.specs.Refusals.{first}
use Rattle.wiring.specs.declared.faults.Fault.{Fault}
use Rattle.wiring.specs.declared.records.Record.{Record}
use Rattle.wiring.specs.declared.records.Record.TheVariants.{Sizes, Change, Query}
use Rattle.wiring.specs.declared.phases.Phase.{Phase}
use Rattle.wiring.specs.declared.phases.Phase.TheVariants.{Start, Loading}
use Rattle.wiring.specs.Numbers.{number}
use Rattle.wiring.specs.Records.{word, kind, payload, span, well_formed, Says}

abbrev pub started : Phase → Bool
started Start = false
started Loading = true

abbrev pub misplaced : Bool → ℕ → Bool
misplaced true k = k == 1
misplaced false k = not (k == 1)

abbrev pub admits : Phase → Record → Bool
admits Start (Sizes n q) = true
admits Start (Change c) = false
admits Start (Query t) = false
admits Loading (Sizes n q) = false
admits Loading (Change c) = true
admits Loading (Query t) = true

abbrev pub record_refusals : Bool → List ℕ → List (ℕ × Bool)
record_refusals s bs =
    (15, nat_lt (length bs) 4 || nat_lt (length bs) (span bs))
    ∷ ((16, not (well_formed (kind bs) (word bs 0)))
    ∷ ((17, misplaced s (kind bs))
    ∷ []))

abbrev pub Reads : Phase → List ℕ → Result (Record × Bor (List ℕ)) Fault → Type 0
Reads p bs (Ok d) =
    (first (record_refusals (started p) bs) ≡ None)
    × Says (kind bs) (payload bs) d.0 × (admits p d.0 ≡ true) × (d.1.now ≡ drop (span bs) bs)
Reads p bs (Err f) = first (record_refusals (started p) bs) ≡ Some (number f)

-- at the end of the bytes
pub record Ends (bs : List ℕ) (at : ℕ) (p : Phase) (at' : ℕ) (p' : Phase) : Type 0 where
  pub ended : at ≡ length bs
  pub same_at : at' ≡ at
  pub same_phase : p' ≡ p

-- at a record that is refused
pub record Stops (bs : List ℕ) (at : ℕ) (p : Phase) (f : Fault) (at' : ℕ) (p' : Phase) : Type 0 where
  pub more : at < length bs
  pub refused : first (record_refusals (started p) (drop at bs)) ≡ Some (number f)
  pub same_at : at' ≡ at
  pub same_phase : p' ≡ p

-- at a record that is read
pub record Gives (bs : List ℕ) (at : ℕ) (p : Phase) (r : Record) (at' : ℕ) (p' : Phase) : Type 0 where
  pub more : at < length bs
  pub taken : first (record_refusals (started p) (drop at bs)) ≡ None
  pub says : Says (kind (drop at bs)) (payload (drop at bs)) r
  pub placed : admits p r ≡ true
  pub moved : at' ≡ at + span (drop at bs)
  pub loading : p' ≡ Loading

abbrev pub Nexts : List ℕ → ℕ → Phase → Result (Option Record) Fault → ℕ → Phase → Type 0
Nexts bs at p (Ok None) at' p' = Ends bs at p at' p'
Nexts bs at p (Ok (Some r)) at' p' = Gives bs at p r at' p'
Nexts bs at p (Err f) at' p' = Stops bs at p f at' p'
