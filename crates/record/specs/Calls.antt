-- What calibrate, next and close do.
--     needed m n          the words of the workspace that m atoms over n nodes need: a table of n rows for each atom, and two words for each node
--     number f            the refusal number
--     head q, atoms q     the free variables of a record's query, in order, and the variables of its atoms
--     Fits h q m t n xs   a tuple of nodes below n fits the tables t: each atom with two free variables has its pair, and the first node stands at the first free variable
--                         in some pair of the first atom that has it
--     Fitting q s xs      xs fits the workspace s, for the query and the number of nodes that the record q notes
--     Calibrates g q s r q' t    calibrate with the graph g
--     Nexts q s out r q' out'    next
use Rattle.std.specs.Prelude.{◌≡◌, ℕ, ◌+◌, ◌*◌, ◌<◌, ◌≤◌, Bool, true, false, List, length, take, Some, None, Ok, Err, Result, slice_index, slice_index_or}
use Rattle.bits.specs.Rows.{width}
use Rattle.meaning.specs.Assignments.{Relations}
use Rattle.meaning.specs.Graphs.{Graph}
use Rattle.meaning.specs.Shapes.{Atoms, Has}
use Rattle.meaning.specs.Tuples.{node, Within, Above, Least, noted_of, last_of}
use Rattle.joins.specs.Layouts.{tables}
use Rattle.joins.specs.Plans.{Occurs}
use Rattle.parse.specs.Meanings.{meaning}
use Rattle.parse.specs.Parsing.{Accepted}
use Rattle.parse.specs.Shaping.{no_atom}
use Rattle.engine.specs.Filled.{Filled}
use Rattle.record.specs.declared.calls.Fault.{Fault}
use Rattle.record.specs.declared.calls.Fault.TheVariants.{ShortWorkspace, ShortAnswer}
use Rattle.record.specs.declared.records.Query.{Query}
use Rattle.record.specs.declared.records.Opened.{Opened}
use Rattle.record.specs.declared.records.Listing.{Listing}

abbrev pub needed : ℕ → ℕ → ℕ
needed m n = m * (n * width n) + (n + n)

abbrev pub number : Fault → ℕ
number ShortWorkspace = 12
number ShortAnswer = 13

abbrev pub head : Query → List ℕ
head q = take q.parsed.query.head.count q.parsed.query.head.names

abbrev pub atoms : Query → Atoms
atoms q = record { first = λ c. (slice_index_or q.parsed.query.atoms c no_atom).first; second = λ c. (slice_index_or q.parsed.query.atoms c no_atom).second }

pub record Fits (h : List ℕ) (q : Atoms) (m : ℕ) (t : Relations) (n : ℕ) (xs : List ℕ) : Type 0 where
  pub within : Within n (length h) xs
  pub pairs : (c i j : ℕ) → c < m → i < length h → j < length h → q.first c ≡ slice_index h i → q.second c ≡ slice_index h j → t c (node xs i) (node xs j) ≡ true
  pub stands : (c : ℕ) → c < m → Has q c (slice_index h 0) → ((d : ℕ) → d < c → Has q d (slice_index h 0) → ⊥) → Occurs q t c (slice_index h 0) (node xs 0)

abbrev pub Fitting : Query → List ℕ → List ℕ → Type 0
Fitting q s = Fits (head q) (atoms q) q.parsed.query.count (tables s q.parsed.query.count q.nodes (width q.nodes)) q.nodes

pub record Calibrated (g : Graph) (q : Query) (s : List ℕ) (q' : Query) (t : List ℕ) : Type 0 where
  pub room : needed q.parsed.query.count g.nodes ≤ length s
  pub parsed : q'.parsed ≡ q.parsed
  pub nodes : q'.nodes ≡ g.nodes
  pub last : q'.last ≡ None
  pub filled : (xs : List ℕ) → (a : Accepted xs q.parsed) → Filled g (meaning a.head a.atoms) s t

-- refused, the state comes back and neither the record nor the workspace has changed
abbrev pub Calibrates : Graph → Query → List ℕ → Result Listing (Opened × Fault) → Query → List ℕ → Type 0
Calibrates g q s (Ok _) q' t = Calibrated g q s q' t
Calibrates g q s (Err (_, ShortWorkspace)) q' t = (length s < needed q.parsed.query.count g.nodes) × (q' ≡ q) × (t ≡ s)
Calibrates g q s (Err (_, ShortAnswer)) q' t = ⊥

-- the lowest fitting tuple above the last one is written and noted; nothing else of the answer list and of the record changes
pub record Gave (q : Query) (s out : List ℕ) (q' : Query) (out' : List ℕ) : Type 0 where
  pub room : needed q.parsed.query.count q.nodes ≤ length s
  pub long : length (head q) ≤ length out
  pub tuple : List ℕ
  pub lowest : Least (Fitting q s) (length (head q)) (noted_of q.last) (last_of q.last) tuple
  pub last : q'.last ≡ Some tuple
  pub parsed : q'.parsed ≡ q.parsed
  pub nodes : q'.nodes ≡ q.nodes
  pub size : length out' ≡ length out
  pub written : (i : ℕ) → i < length (head q) → slice_index out' i ≡ node tuple i
  pub rest : (i : ℕ) → length (head q) ≤ i → slice_index out' i ≡ slice_index out i

-- nothing changes
pub record Unchanged (q : Query) (out : List ℕ) (q' : Query) (out' : List ℕ) : Type 0 where
  pub parsed : q'.parsed ≡ q.parsed
  pub nodes : q'.nodes ≡ q.nodes
  pub last : q'.last ≡ q.last
  pub answer : out' ≡ out

abbrev pub Nexts : Query → List ℕ → List ℕ → Result Bool Fault → Query → List ℕ → Type 0
Nexts q s out (Ok true) q' out' = Gave q s out q' out'
Nexts q s out (Ok false) q' out' =
    Unchanged q out q' out' × (needed q.parsed.query.count q.nodes ≤ length s) × (length (head q) ≤ length out)
    × ((ys : List ℕ) → Fitting q s ys → Above (length (head q)) (noted_of q.last) (last_of q.last) ys → ⊥)
Nexts q s out (Err ShortWorkspace) q' out' = Unchanged q out q' out' × (length s < needed q.parsed.query.count q.nodes)
Nexts q s out (Err ShortAnswer) q' out' = Unchanged q out q' out' × (needed q.parsed.query.count q.nodes ≤ length s) × (length out < length (head q))
