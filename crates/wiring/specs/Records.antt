-- The record at the front of some bytes: a two-byte length of its payload, a two-byte kind, and the payload, little-endian.
--     word bs i                   the two-byte number at place i
--     kind bs, payload bs         the record's kind and its payload
--     span bs                     how many bytes the record takes
--     well_formed k l             k is a kind whose payload may have the length l
--     Says k p r                  a record of kind k and payload p says r
--     form_refusals bs            the table of refusals for the record's form
--     Decodes k p d, Parses bs d  d is what the record says, or its refusal; then also the bytes behind it
use Rattle.std.specs.Prelude.{◌≡◌, ℕ, ◌+◌, ◌*◌, Bool, true, false, not, ◌&&◌, ◌||◌, List, [], ◌∷◌, length, take, drop, Some, None, Ok, Err, Result, ◌==◌, nat_lt, slice_index}
use Rattle.std.specs.Borrow.{Bor}
use Rattle.meaning.specs.Refusals.{first}
use Rattle.graph.specs.declared.edges.Edge.{Edge}
use Rattle.graph.specs.declared.changes.Change.TheVariants.{Put, Strike}
use Rattle.graph.specs.Edges.{edge}
use Rattle.wiring.specs.declared.faults.Fault.{Fault}
use Rattle.wiring.specs.declared.records.Record.{Record}
use Rattle.wiring.specs.declared.records.Record.TheVariants.{Sizes, Change, Query}
use Rattle.wiring.specs.Numbers.{number}

abbrev pub word : List ℕ → ℕ → ℕ
word bs i = slice_index bs i + slice_index bs (i + 1) * 256

abbrev pub kind : List ℕ → ℕ
kind bs = word bs 2

abbrev pub payload : List ℕ → List ℕ
payload bs = take (word bs 0) (drop 4 bs)

abbrev pub span : List ℕ → ℕ
span bs = 4 + word bs 0

abbrev pub well_formed : ℕ → ℕ → Bool
well_formed k l = (k == 1 && l == 4) || (((k == 2 || k == 3) && l == 5) || k == 4)

-- the edge in a payload: from in two bytes, label in one, to in two
abbrev pub wire : List ℕ → Edge
wire p = edge (word p 0) (slice_index p 2) (word p 3)

abbrev pub Says : ℕ → List ℕ → Record → Type 0
Says k p (Sizes n q) = (k ≡ 1) × (n ≡ word p 0) × (q ≡ word p 2)
Says k p (Change (Put e)) = (k ≡ 2) × (e ≡ wire p)
Says k p (Change (Strike e)) = (k ≡ 3) × (e ≡ wire p)
Says k p (Query t) = (k ≡ 4) × (t.now ≡ p)

abbrev pub Decodes : ℕ → List ℕ → Result Record Fault → Type 0
Decodes k p (Ok r) = (well_formed k (length p) ≡ true) × Says k p r
Decodes k p (Err f) = (well_formed k (length p) ≡ false) × (number f ≡ 16)

abbrev pub form_refusals : List ℕ → List (ℕ × Bool)
form_refusals bs =
    (15, nat_lt (length bs) 4 || nat_lt (length bs) (span bs))
    ∷ ((16, not (well_formed (kind bs) (word bs 0)))
    ∷ [])

abbrev pub Parses : List ℕ → Result (Record × Bor (List ℕ)) Fault → Type 0
Parses bs (Ok d) = (first (form_refusals bs) ≡ None) × Says (kind bs) (payload bs) d.0 × (d.1.now ≡ drop (span bs) bs)
Parses bs (Err f) = first (form_refusals bs) ≡ Some (number f)
