-- The pairs and places that the code keeps are those of the text.
use Rattle.std.proofs.Common.{◌≡◌, ℕ, zero, suc, ◌+◌, ◌<◌, List, [], ◌∷◌, ◌++◌, length, get_or, take, Err, sym, refl, ap, ◌∙◌, inl, inr, arith, length-append, length-take, get_or-take}
use Rattle.std.proofs.lemmas.List.{get_or_append_left, get_or_push, same_lists}
use Rattle.std.proofs.lemmas.Bool.{cases_lt}
use Rattle.shapes.specs.declared.checks.Ends.{Ends}
use Rattle.shapes.specs.declared.verdicts.Fault.{Fault}
use Rattle.shapes.specs.declared.verdicts.Fault.TheVariants.{RepeatedVariable, UnusedVariable, CyclicAtom, UnconnectedAtom, LoneVariable}
use Rattle.shapes.specs.Verdicts.{Verdict}
use Rattle.query.specs.declared.drafts.Atom.{Atom}
use Rattle.query.specs.declared.drafts.Query.{Query}
use Rattle.query.specs.Queries.{HeadTree, one_name, more_names, names, AtomTree, AtomsTree, one_atom, more_atoms, atoms_text, query_tree, query_text}
use Rattle.query.specs.Limits.{Rightly, Right, number}
use Rattle.query.specs.Texts.{HoldsQuery}
use Rattle.parse.specs.Shaping.{end, ends, starts, place, kept_place, no_atom, pair, Numbered}

pub ends_long : (s : AtomsTree) → length (ends s) ≡ number s
ends_long (one_atom t) = refl
ends_long (more_atoms s t) = length-append (ends s) (end t ∷ []) ∙ ap (λ y. y + 1) (ends_long s)

starts_long : (b : ℕ) (s : AtomsTree) → length (starts b s) ≡ number s
starts_long b (one_atom t) = refl
starts_long b (more_atoms s t) = length-append (starts b s) ((b + length (atoms_text s) + 1) ∷ []) ∙ ap (λ y. y + 1) (starts_long b s)

pub number_some : (s : AtomsTree) → 0 < number s
number_some (one_atom t) = omega arith
number_some (more_atoms s t) = omega arith

end_of : (a : Atom) (b : ℕ) (t : AtomTree) → Right a b t → end t ≡ pair a
end_of a b t r = rw (r.stored.first, r.stored.second) refl

pub ends_at : (z : Atom) (l : List Atom) (b : ℕ) (s : AtomsTree) → Rightly z l b s → (d : Ends) (k : ℕ) → k < number s → get_or (ends s) k d ≡ pair (get_or l k z)
ends_at z l b (one_atom t) r d zero h = end_of (get_or l 0 z) b t r
ends_at z l b (one_atom t) r d (suc k) h = absurd (omega arith)
ends_at z l b (more_atoms s t) r d k h = elim (cases_lt k (number s)) [
  | inl m ↦ get_or_append_left (ends s) (end t ∷ []) d k (omega (arith, ends_long s)) ∙ ends_at z l b s r.0 d k m
  | inr g ↦ (let e : number s ≡ k = omega arith in get_or_push (ends s) (end t) d k (ends_long s ∙ e) ∙ end_of (get_or l (number s) z) _ t r.1 ∙ ap (λ y. pair (get_or l y z)) e)
]

starts_at : (z : Atom) (l : List Atom) (b : ℕ) (s : AtomsTree) → Rightly z l b s → (k : ℕ) → k < number s → get_or (starts b s) k 0 ≡ (get_or l k z).place
starts_at z l b (one_atom t) r zero h = sym r.stored.place
starts_at z l b (one_atom t) r (suc k) h = absurd (omega arith)
starts_at z l b (more_atoms s t) r k h = elim (cases_lt k (number s)) [
  | inl m ↦ get_or_append_left (starts b s) ((b + length (atoms_text s) + 1) ∷ []) 0 k (omega (arith, starts_long b s)) ∙ starts_at z l b s r.0 k m
  | inr g ↦ (let e : number s ≡ k = omega arith in get_or_push (starts b s) (b + length (atoms_text s) + 1) 0 k (starts_long b s ∙ e) ∙ sym r.1.stored.place ∙ ap (λ y. (get_or l y z).place) e)
]

-- The pairs of the kept atoms are those of the text.
pub ends_are : {q : Query} {h : HeadTree} {s : AtomsTree} (e : List Ends) → HoldsQuery q h s → length e ≡ 8 → ((d : Ends) (i : ℕ) → i < 8 → get_or e i d ≡ pair (get_or q.atoms i no_atom)) → take q.count e ≡ ends s
ends_are {q} {h} {s} e k long each =
    let n : length (take q.count e) ≡ number s = omega (arith, length-take q.count e, k.count, k.few) in
    same_lists (take q.count e) (ends s) (n ∙ sym (ends_long s))
    (λ i d l. get_or-take q.count e i d (omega (arith, n, k.count)) ∙ each d i (omega (arith, n, k.few)) ∙ sym (ends_at no_atom q.atoms (length (names h) + 1) s (k.rows no_atom) d i (omega (arith, n))))

take_front : (u v : List ℕ) → take (length u) (u ++ v) ≡ u
take_front [] v = refl
take_front (x ∷ u) v = ap (λ y. x ∷ y) (take_front u v)

pub names_are : {q : Query} {xs : List ℕ} {h : HeadTree} {s : AtomsTree} → query_text (query_tree h s) ≡ xs → HoldsQuery q h s → take q.head.count xs ≡ names h
names_are {q} {xs} {h} {s} e k = ap (λ y. take y xs) k.head.count ∙ ap (take (length (names h))) (sym e) ∙ take_front (names h) (58 ∷ atoms_text s)

pub names_fit : {q : Query} {xs : List ℕ} {h : HeadTree} {s : AtomsTree} → query_text (query_tree h s) ≡ xs → HoldsQuery q h s → q.head.count < length xs
names_fit {q} {xs} {h} {s} e k = omega (arith, k.head.count, ap length e, length-append (names h) (58 ∷ atoms_text s))

pub names_some : (h : HeadTree) → 0 < length (names h)
names_some (one_name b c) = omega arith
names_some (more_names t b c) = omega (arith, length-append (names t) (b ∷ []))

-- The first variable that the record keeps is the text's.
pub first_name : {q : Query} {h : HeadTree} {s : AtomsTree} → HoldsQuery q h s → get_or q.head.names 0 0 ≡ get_or (names h) 0 0
first_name {q} {h} k = k.head.kept 0 (omega arith) (names_some h)

pub places_are : {q : Query} {h : HeadTree} {s : AtomsTree} (f : Fault) → HoldsQuery q h s → Numbered (number s) f → kept_place q.atoms f ≡ place h s f
places_are (RepeatedVariable i) k n = refl
places_are (UnusedVariable i) k n = refl
places_are {q} {h} {s} (CyclicAtom i) k n = sym (starts_at no_atom q.atoms (length (names h) + 1) s (k.rows no_atom) i n)
places_are {q} {h} {s} (UnconnectedAtom i) k n = sym (starts_at no_atom q.atoms (length (names h) + 1) s (k.rows no_atom) i n)
places_are (LoneVariable i) k n = refl

pub numbered : (head : List ℕ) (xs : List Ends) (f : Fault) → Verdict head xs (Err f) → Numbered (length xs) f
numbered head xs (RepeatedVariable i) v = tt
numbered head xs (UnusedVariable i) v = tt
numbered head xs (CyclicAtom i) v = v.2.0
numbered head xs (UnconnectedAtom i) v = v.3.0
numbered head xs (LoneVariable i) v = tt
