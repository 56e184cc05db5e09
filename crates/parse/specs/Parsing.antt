-- What a text is parsed as, or why it is refused and where: all checks of a query text in their order.
use Rattle.std.specs.Prelude.{◌≡◌, ℕ, ◌<◌, ◌≤◌, List, length, Ok, Err, Result, MatchResult, slice_index}
use Rattle.shapes.specs.declared.verdicts.Fault.{Fault}
use Rattle.shapes.specs.Checks.{of}
use Rattle.shapes.specs.Verdicts as V
use Rattle.shapes.specs.Verdicts.{Verdict}
use Rattle.order.specs.Ranks.{ranks}
use Rattle.order.specs.Orders.{Ordered, Chosen}
use Rattle.order.specs.declared.Order.{Order}
use Rattle.query.specs.Queries.{HeadTree, AtomsTree, names, QueryTree, query_tree, query_text}
use Rattle.query.specs.Limits.{Large, number}
use Rattle.query.specs.Texts.{HoldsQuery, Refused}
use Rattle.query.specs.Faults.{fault_number, fault_place}
use Rattle.parse.specs.declared.Parsed.{Parsed}
use Rattle.parse.specs.declared.Refusal.{Refusal}
use Rattle.parse.specs.declared.Refusal.TheVariants.{TooLong, Unread, Misshapen}
use Rattle.parse.specs.Shaping.{ends, place}

-- The text xs is the query of the head h and the atoms s, has no other tree, and is within the limits.
pub record Reads (xs : List ℕ) (h : HeadTree) (s : AtomsTree) : Type 0 where
  pub text : query_text (query_tree h s) ≡ xs
  pub only : (t : QueryTree) → query_text t ≡ xs → t ≡ query_tree h s
  pub limits : (t : QueryTree) → query_text t ≡ xs → (p : ℕ) → Large t p → ⊥

-- The atoms s are put in the order in which they are reached from the first variable of the head h.
pub record Arranged (o : Order) (h : HeadTree) (s : AtomsTree) : Type 0 where
  pub ordered : Ordered (of (ends s)) (number s) (slice_index (names h) 0) (ranks o)
  pub chosen : Chosen (of (ends s)) (number s) (slice_index (names h) 0) (ranks o)

-- The text is a query that passes every check, and p holds it.
pub record Accepted (xs : List ℕ) (p : Parsed) : Type 0 where
  pub head : HeadTree
  pub atoms : AtomsTree
  pub reads : Reads xs head atoms
  pub holds : HoldsQuery p.query head atoms
  pub shape : Verdict (names head) (ends atoms) (Ok tt)
  pub arranged : Arranged p.order head atoms

-- The text is a query within the limits, and f, at the place p, is what the first check of the shape that finds something finds.
pub record IllShaped (xs : List ℕ) (f : Fault) (p : ℕ) : Type 0 where
  pub head : HeadTree
  pub atoms : AtomsTree
  pub reads : Reads xs head atoms
  pub shape : Verdict (names head) (ends atoms) (Err f)
  pub at : p ≡ place head atoms f

-- Why a text is refused.
abbrev pub Denied : List ℕ → Refusal → Type 0
Denied xs TooLong = 512 < length xs
Denied xs (Unread f) = (length xs ≤ 512) × Refused xs f
Denied xs (Misshapen f p) = (length xs ≤ 512) × IllShaped xs f p

abbrev pub Parses : List ℕ → Result Parsed Refusal → Type 0
Parses xs r = MatchResult r (λ p. (length xs ≤ 512) × Accepted xs p) (Denied xs)

-- The number of a refusal, and its place in the text.
abbrev pub refusal_number : Refusal → ℕ
refusal_number TooLong = 4
refusal_number (Unread f) = fault_number f
refusal_number (Misshapen f p) = V.number f

abbrev pub refusal_place : Refusal → ℕ
refusal_place TooLong = 512
refusal_place (Unread f) = fault_place f
refusal_place (Misshapen f p) = p
