-- A text has one tree: a machine that carries the trees read so far, whatever the tree that gave the text.
use Rattle.std.proofs.Common.{◌≡◌, ℕ, ◌<◌, ◌≤◌, cond, eqb, ◌⊎◌, List, [], ◌∷◌, ◌++◌, Some, None, Option, sym as back, refl, ap, ◌∙◌, inl, inr, append_assoc, append-nil, arith}
use native.Mathlib.Bridge.{le_prop}
use Rattle.std.proofs.lemmas.Bool.{cases_lt}
use Rattle.query.specs.Grammar as G
use Rattle.query.specs.Grammar.{Layer, alternative, sequence, step, unit, Kind, atom, opening, closing, sign, slash, bar, other, kind, Tree, text, letter, dot, group, plain, one_step, joined, one_sequence, either}
use Rattle.query.specs.Trees.{Unambiguous}
use Rattle.query.proofs.Bytes.{kind_letter}

-- What a bracket has so far: the sequences before the last |, and the steps before the last /.
record Level : Type 0 where
  alts : Option (Tree alternative)
  steps : Option (Tree sequence)

data State : Type 0 where
  expects : Level → List Level → State
  after : Level → Tree step → List Level → State
  dead : State

abbrev put_step : Option (Tree sequence) → Tree step → Tree sequence
put_step None r = one_step r
put_step (Some q) r = joined q r

abbrev put_alt : Option (Tree alternative) → Tree sequence → Tree alternative
put_alt None r = one_sequence r
put_alt (Some q) r = either q r

abbrev whole : Level → Tree step → Tree alternative
whole v r = put_alt v.alts (put_step v.steps r)

abbrev signed : ℕ → Tree step → Tree step
signed b r = cond (eqb b 42) (G.star r) (cond (eqb b 43) (G.plus r) (G.opt r))

-- The unit of a letter or a dot.
abbrev leaf_by : (b : ℕ) → (b < 97) ⊎ (97 ≤ b) → (122 < b) ⊎ (b ≤ 122) → Tree unit
leaf_by b (inl h) k = dot
leaf_by b (inr h) (inl k) = dot
leaf_by b (inr h) (inr k) = letter b h k

leaf : ℕ → Tree unit
leaf b = leaf_by b (cases_lt b 97) (cases_lt 122 b)

leaf_by_letter : (b : ℕ) (h : 97 ≤ b) (k : b ≤ 122) (p : (b < 97) ⊎ (97 ≤ b)) (q : (122 < b) ⊎ (b ≤ 122)) → leaf_by b p q ≡ letter b h k
leaf_by_letter b h k (inl p) q = absurd (omega arith)
leaf_by_letter b h k (inr p) (inl q) = absurd (omega arith)
leaf_by_letter b h k (inr p) (inr q) = ap (λ y. letter b y q) (le_prop p h) ∙ ap (λ y. letter b h y) (le_prop q k)

leaf_letter : (b : ℕ) (h : 97 ≤ b) (k : b ≤ 122) → leaf b ≡ letter b h k
unfolding leaf
leaf_letter b h k = leaf_by_letter b h k (cases_lt b 97) (cases_lt 122 b)

leaf_by_dot : (p : (46 < 97) ⊎ (97 ≤ 46)) (q : (122 < 46) ⊎ (46 ≤ 122)) → leaf_by 46 p q ≡ dot
leaf_by_dot (inl p) q = refl
leaf_by_dot (inr p) q = absurd (omega arith)

leaf_dot : leaf 46 ≡ dot
unfolding leaf
leaf_dot = leaf_by_dot (cases_lt 46 97) (cases_lt 122 46)

abbrev move : State → ℕ → Kind → State
move (expects v o) b atom = after v (plain (leaf b)) o
move (expects v o) b opening = expects (record { alts = None; steps = None }) (v ∷ o)
move (expects v o) b closing = dead
move (expects v o) b sign = dead
move (expects v o) b slash = dead
move (expects v o) b bar = dead
move (expects v o) b other = dead
move (after v r o) b atom = dead
move (after v r o) b opening = dead
move (after v r []) b closing = dead
move (after v r (u ∷ o)) b closing = after u (plain (group (whole v r))) o
move (after v r o) b sign = after v (signed b r) o
move (after v r o) b slash = expects (record { alts = v.alts; steps = Some (put_step v.steps r) }) o
move (after v r o) b bar = expects (record { alts = Some (whole v r); steps = None }) o
move (after v r o) b other = dead
move dead b k = dead

abbrev run : State → List ℕ → State
run s [] = s
run s (b ∷ bs) = run (move s b (kind b)) bs

-- The place after a sequence and after an alternative.
abbrev seq_steps : Tree sequence → Option (Tree sequence)
seq_steps (one_step s) = None
seq_steps (joined u s) = Some u

abbrev seq_last : Tree sequence → Tree step
seq_last (one_step s) = s
seq_last (joined u s) = s

seq_whole : (t : Tree sequence) → put_step (seq_steps t) (seq_last t) ≡ t
seq_whole (one_step s) = refl
seq_whole (joined u s) = refl

abbrev alt_alts : Tree alternative → Option (Tree alternative)
alt_alts (one_sequence u) = None
alt_alts (either v u) = Some v

abbrev alt_seq : Tree alternative → Tree sequence
alt_seq (one_sequence u) = u
alt_seq (either v u) = u

abbrev alt_level : Tree alternative → Level
alt_level t = record { alts = alt_alts t; steps = seq_steps (alt_seq t) }

alt_whole : (t : Tree alternative) → whole (alt_level t) (seq_last (alt_seq t)) ≡ t
alt_whole (one_sequence u) = ap one_sequence (seq_whole u)
alt_whole (either v u) = ap (λ r. either v r) (seq_whole u)

abbrev Claim : (l : Layer) → Tree l → Type 0
Claim unit t = (v : Level) (o : List Level) (x : List ℕ) → run (expects v o) (text t ++ x) ≡ run (after v (plain t) o) x
Claim step t = (v : Level) (o : List Level) (x : List ℕ) → run (expects v o) (text t ++ x) ≡ run (after v t o) x
Claim sequence t = (a : Option (Tree alternative)) (o : List Level) (x : List ℕ) → run (expects (record { alts = a; steps = None }) o) (text t ++ x) ≡ run (after (record { alts = a; steps = seq_steps t }) (seq_last t) o) x
Claim alternative t = (o : List Level) (x : List ℕ) → run (expects (record { alts = None; steps = None }) o) (text t ++ x) ≡ run (after (alt_level t) (seq_last (alt_seq t)) o) x

claim : {l : Layer} (t : Tree l) → Claim l t
claim (letter b h k) = λ v o x. ap (λ y. run (move (expects v o) b y) x) (kind_letter b h k) ∙ ap (λ z. run (after v (plain z) o) x) (leaf_letter b h k)
claim dot = λ v o x. ap (λ z. run (after v (plain z) o) x) leaf_dot
claim (group t) = λ v o x. rw append_assoc (claim t (v ∷ o) (41 ∷ x) ∙ ap (λ r. run (after v (plain (group r)) o) x) (alt_whole t))
claim (plain t) = claim t
claim (G.star t) = λ v o x. rw append_assoc (claim t v o (42 ∷ x))
claim (G.plus t) = λ v o x. rw append_assoc (claim t v o (43 ∷ x))
claim (G.opt t) = λ v o x. rw append_assoc (claim t v o (63 ∷ x))
claim (one_step t) = λ a o x. claim t (record { alts = a; steps = None }) o x
claim (joined u s) = λ a o x. rw append_assoc (claim u a o (47 ∷ (text s ++ x)) ∙ ap (λ r. run (expects (record { alts = a; steps = Some r }) o) (text s ++ x)) (seq_whole u) ∙ claim s (record { alts = a; steps = Some u }) o x)
claim (one_sequence t) = λ o x. claim t None o x
claim (either u s) = λ o x. rw append_assoc (claim u o (124 ∷ (text s ++ x)) ∙ ap (λ r. run (expects (record { alts = Some r; steps = None }) o) (text s ++ x)) (alt_whole u) ∙ claim s (Some u) o x)

abbrev result : State → Tree alternative
result (expects v o) = one_sequence (one_step (plain dot))
result (after v r o) = whole v r
result dead = one_sequence (one_step (plain dot))

read : (t : Tree alternative) → result (run (expects (record { alts = None; steps = None }) []) (text t)) ≡ t
read t = ap (λ y. result (run (expects (record { alts = None; steps = None }) []) y)) (back (append-nil (text t))) ∙ ap result (claim t [] []) ∙ alt_whole t

pub unambiguous : Unambiguous
unambiguous t u e = back (read t) ∙ ap (λ y. result (run (expects (record { alts = None; steps = None }) []) y)) e ∙ read u
