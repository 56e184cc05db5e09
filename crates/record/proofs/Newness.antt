-- The text of a new record passes every check.
use Rattle.std.proofs.Common.{◌≡◌, ℕ, ◌<◌, ◌≤◌, Bool, true, false, cond, List, [], ◌∷◌, length, Err, sym, refl, ap, subst, inl, inr, arith, length-append}
use Rattle.meaning.specs.Shapes.{Atoms, Has, Step, Chain, Connected, Before}
use Rattle.meaning.proofs.Chains.{connected_same, connected_step, connected_trans, connected_turn, cycle_opens}
use Rattle.shapes.specs.declared.checks.Ends.{Ends}
use Rattle.shapes.specs.declared.verdicts.Fault.{Fault}
use Rattle.shapes.specs.declared.verdicts.Fault.TheVariants.{RepeatedVariable, UnusedVariable, CyclicAtom, UnconnectedAtom, LoneVariable}
use Rattle.shapes.specs.Checks.{of, Repeated, Unused, Cyclic, Unconnected}
use Rattle.shapes.specs.Verdicts.{Verdict}
use Rattle.shapes.proofs.Merging.{cycle_none}
use Rattle.query.specs.Grammar.{dot, plain, one_step, one_sequence}
use Rattle.query.specs.Queries.{HeadTree, one_name, names, filled, AtomTree, atom_tree, one_atom, QueryTree, query_tree, query_text}
use Rattle.query.specs.Limits.{symbols, symbol, Large}
use Rattle.query.specs.declared.drafts.Fault.TheVariants.{NoQuery, TooLarge}
use Rattle.parse.specs.declared.Refusal.{Refusal}
use Rattle.parse.specs.declared.Refusal.TheVariants.{TooLong, Unread, Misshapen}
use Rattle.parse.specs.Shaping.{ends}
use Rattle.parse.specs.Parsing.{Denied, IllShaped}
use Rattle.record.specs.Records.{new_text}

abbrev new_head : HeadTree
new_head = one_name 65 (omega arith, omega arith)

abbrev new_atom : AtomTree
new_atom = atom_tree 65 (omega arith, omega arith) (filled (one_sequence (one_step (plain dot)))) 66 (omega arith, omega arith)

abbrev heads : List ℕ
heads = 65 ∷ []

abbrev pairs : List Ends
pairs = record { first = 65; second = 66 } ∷ []

is_text : query_text (query_tree new_head (one_atom new_atom)) ≡ new_text
is_text = refl

-- The limits.
tally_le : (b : Bool) → cond b 1 0 ≤ 1
tally_le true = omega arith
tally_le false = omega arith

symbols_le : (xs : List ℕ) → symbols xs ≤ length xs
symbols_le [] = omega arith
symbols_le (x ∷ xs) = omega (arith, symbols_le xs, tally_le (symbol x))

not_large : (p : ℕ) → Large (query_tree new_head (one_atom new_atom)) p → ⊥
not_large p (inl h) = omega (arith, h.0)
not_large p (inr h) =
    let s = h.2 in
    omega (arith, s.many, symbols_le s.before, ap length s.splits, length-append s.before (s.byte ∷ s.behind))

-- What the checks see of a tree.
abbrev seen_head : QueryTree → List ℕ
seen_head (query_tree h s) = names h

abbrev seen_atoms : QueryTree → List Ends
seen_atoms (query_tree h s) = ends s

-- The checks of the shape.
below_one : (P : ℕ → Type 0) → P 0 → (j : ℕ) → j < 1 → P j
below_one P h j l = let e : 0 ≡ j = omega arith in subst P e h

once : (j : ℕ) → j < 1 → Repeated heads j → ⊥
once = below_one (λ j. (Repeated heads j → ⊥)) (λ h. omega (arith, h.1))

used : (j : ℕ) → j < 1 → Unused pairs heads j → ⊥
used = below_one (λ j. (Unused pairs heads j → ⊥)) (λ h. h 0 (omega arith) (inl refl))

no_chain : (ss : List Step) → Chain (of pairs) (Before 0) 65 ss 66 → ⊥
no_chain [] e = omega arith
no_chain (s ∷ ss) c = omega (arith, c.0)

acyclic : (j : ℕ) → j < 1 → Cyclic pairs j → ⊥
acyclic = below_one (λ j. (Cyclic pairs j → ⊥)) (λ c. let w = cycle_opens (of pairs) 0 (cycle_none (of pairs)) c in no_chain w.0 w.1)

own : (q : Atoms) (m i x : ℕ) → i < m → Has q i x → Connected q (Before m) (q.first i) x
own q m i x l h = elim h [
  | inl e ↦ (let F : ℕ → Type 0 = λ v. Connected q (Before m) (q.first i) v in subst F e (connected_same q (Before m) (q.first i)))
  | inr e ↦ connected_step q (Before m) i (q.first i) x x l (inl (refl, e)) (connected_same q (Before m) x)
]

connected : (j : ℕ) → j < 1 → Unconnected pairs j → ⊥
connected = below_one (λ j. (Unconnected pairs j → ⊥)) (λ n. n (λ x y hx hy.
    let q = of pairs in
    connected_trans q (Before 1) x 65 y (connected_turn q (Before 1) 65 x (own q 1 0 x (omega arith) hx)) (own q 1 0 y (omega arith) hy)))

in_shape : (f : Fault) → Verdict heads pairs (Err f) → ⊥
in_shape (RepeatedVariable i) v = once i v.0 v.1
in_shape (UnusedVariable i) v = used i v.1.0 v.1.1
in_shape (CyclicAtom i) v = acyclic i v.2.0 v.2.1
in_shape (UnconnectedAtom i) v = connected i v.3.0 v.3.1
in_shape (LoneVariable i) v = omega (arith, v.4.0, v.4.1.0)

well_shaped : (f : Fault) (p : ℕ) → IllShaped new_text f p → ⊥
well_shaped f p i =
    let o = i.reads.only (query_tree new_head (one_atom new_atom)) is_text in
    in_shape f (subst (λ (y : List ℕ). Verdict y pairs (Err f)) (sym (ap seen_head o)) (subst (λ (y : List Ends). Verdict (names i.head) y (Err f)) (sym (ap seen_atoms o)) i.shape))

pub not_denied : (r : Refusal) → Denied new_text r → ⊥
not_denied TooLong d = omega (arith, d)
not_denied (Unread (NoQuery e)) d = d.1.none (query_tree new_head (one_atom new_atom), is_text)
not_denied (Unread (TooLarge p)) d = not_large p (d.1.large (query_tree new_head (one_atom new_atom)) is_text)
not_denied (Misshapen f p) d = well_shaped f p d.1
