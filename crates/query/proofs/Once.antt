-- A query text has one tree.
use Rattle.std.proofs.Common.{◌≡◌, ℕ, ◌<◌, ◌≤◌, List, [], ◌∷◌, ◌++◌, length, sym, refl, ap, ◌∙◌, subst, append_assoc, append-nil, arith, length-append}
use native.Mathlib.Bridge.{le_prop}
use Rattle.query.specs.Grammar as G
use Rattle.query.specs.Grammar.{Layer, Tree, text, letter, dot, group, plain, one_step, joined, one_sequence, either}
use Rattle.query.specs.Queries.{Capital, HeadTree, one_name, more_names, names, Inside, nothing, filled, inside_text, AtomTree, atom_tree, atom_text, AtomsTree, one_atom, more_atoms, atoms_text, QueryTree, query_tree, query_text}
use Rattle.query.proofs.Unique.{unambiguous}
use Rattle.query.proofs.Stages.{tree_some}

-- c is not among the bytes.
abbrev Lacks : ℕ → List ℕ → Type 0
Lacks c [] = Unit {0}
Lacks c (x ∷ xs) = (x ≡ c → ⊥) × Lacks c xs

lacks_append : (c : ℕ) (u v : List ℕ) → Lacks c u → Lacks c v → Lacks c (u ++ v)
lacks_append c [] v h k = k
lacks_append c (x ∷ u) v h k = (h.0, lacks_append c u v h.1 k)

-- Two texts part at the first c alike.
parts_at : (c : ℕ) (u w v z : List ℕ) → Lacks c u → Lacks c w → u ++ c ∷ v ≡ w ++ c ∷ z → (u ≡ w) × (v ≡ z)
parts_at c [] [] v z h k e = (refl, (cc))
parts_at c [] (y ∷ w) v z h k e = let o : y ≡ c = cc in absurd (k.0 o)
parts_at c (x ∷ u) [] v z h k e = let o : x ≡ c = cc in absurd (h.0 o)
parts_at c (x ∷ u) (y ∷ w) v z h k e =
    let o : x ≡ y = cc in
    let t : u ++ c ∷ v ≡ w ++ c ∷ z = cc in
    let r = parts_at c u w v z h.1 k.1 t in
    (ap (λ m. m ∷ u) o ∙ ap (λ m. y ∷ m) r.0, r.1)

tree_lacks : {l : Layer} (t : Tree l) → Lacks 93 (text t)
tree_lacks (letter b h k) = ((λ e. omega arith), tt)
tree_lacks dot = ((λ e. omega arith), tt)
tree_lacks (group t) = ((λ e. omega arith), lacks_append 93 (text t) (41 ∷ []) (tree_lacks t) ((λ e. omega arith), tt))
tree_lacks (plain t) = tree_lacks t
tree_lacks (G.star t) = lacks_append 93 (text t) (42 ∷ []) (tree_lacks t) ((λ e. omega arith), tt)
tree_lacks (G.plus t) = lacks_append 93 (text t) (43 ∷ []) (tree_lacks t) ((λ e. omega arith), tt)
tree_lacks (G.opt t) = lacks_append 93 (text t) (63 ∷ []) (tree_lacks t) ((λ e. omega arith), tt)
tree_lacks (one_step t) = tree_lacks t
tree_lacks (joined s t) = lacks_append 93 (text s) (47 ∷ text t) (tree_lacks s) ((λ e. omega arith), tree_lacks t)
tree_lacks (one_sequence t) = tree_lacks t
tree_lacks (either s t) = lacks_append 93 (text s) (124 ∷ text t) (tree_lacks s) ((λ e. omega arith), tree_lacks t)

inside_lacks : (i : Inside) → Lacks 93 (inside_text i)
inside_lacks nothing = tt
inside_lacks (filled t) = tree_lacks t

head_lacks : (h : HeadTree) → Lacks 58 (names h)
head_lacks (one_name b h) = ((λ e. omega (arith, h.1, h.0)), tt)
head_lacks (more_names t b h) = lacks_append 58 (names t) (b ∷ []) (head_lacks t) ((λ e. omega (arith, h.1, h.0)), tt)

inside_once : (i j : Inside) → inside_text i ≡ inside_text j → i ≡ j
inside_once nothing nothing e = refl
inside_once nothing (filled t) e = absurd (tree_some t (sym e))
inside_once (filled t) nothing e = absurd (tree_some t e)
inside_once (filled t) (filled u) e = ap filled (unambiguous t u e)

-- Two proofs that a byte is a capital letter do not differ.
capital_prop : (b : ℕ) (h k : Capital b) → h ≡ k
capital_prop b h k = ap (λ (y : 65 ≤ b). (y, h.1)) (le_prop h.0 k.0) ∙ ap (λ (y : b ≤ 90). (k.0, y)) (le_prop h.1 k.1)

same_atom : (u x v y : ℕ) (h : Capital u) (p : Capital x) (i j : Inside) (k : Capital v) (q : Capital y) → u ≡ x → i ≡ j → v ≡ y → atom_tree u h i v k ≡ atom_tree x p j y q
same_atom u x v y h p i j k q e f g =
    subst (λ (z : ℕ). (w : Capital z) → atom_tree u h i v k ≡ atom_tree z w j y q) e
    (λ w. subst (λ (z : ℕ). (o : Capital z) → atom_tree u h i v k ≡ atom_tree u w j z o) g
    (λ o. ap (λ m. atom_tree u m i v k) (capital_prop u h w) ∙ ap (λ m. atom_tree u w m v k) f ∙ ap (λ m. atom_tree u w j v m) (capital_prop v k o)) q) p

same_one : (b c : ℕ) (h : Capital b) (k : Capital c) → b ≡ c → one_name b h ≡ one_name c k
same_one b c h k e = subst (λ (z : ℕ). (w : Capital z) → one_name b h ≡ one_name z w) e (λ w. ap (λ m. one_name b m) (capital_prop b h w)) k

same_more : (t u : HeadTree) (b c : ℕ) (h : Capital b) (k : Capital c) → t ≡ u → b ≡ c → more_names t b h ≡ more_names u c k
same_more t u b c h k f e =
    subst (λ (z : ℕ). (w : Capital z) → more_names t b h ≡ more_names u z w) e (λ w. ap (λ m. more_names m b h) f ∙ ap (λ m. more_names u b m) (capital_prop b h w)) k

-- The last of a list, and those before it.
last_of : {A : Type 0} (l r : List A) (a b : A) → l ++ a ∷ [] ≡ r ++ b ∷ [] → (l ≡ r) × (a ≡ b)
last_of [] [] a b e = (refl, (cc))
last_of [] (y ∷ r) a b e = absurd (omega (arith, ap length e, length-append r (b ∷ [])))
last_of (x ∷ l) [] a b e = absurd (omega (arith, ap length e, length-append l (a ∷ [])))
last_of (x ∷ l) (y ∷ r) a b e =
    let o : x ≡ y = cc in
    let t : l ++ a ∷ [] ≡ r ++ b ∷ [] = cc in
    let w = last_of l r a b t in
    (ap (λ m. m ∷ l) o ∙ ap (λ m. y ∷ m) w.0, w.1)

head_some : (h : HeadTree) → 0 < length (names h)
head_some (one_name b k) = omega arith
head_some (more_names t b k) = omega (arith, length-append (names t) (b ∷ []))

head_once : (h k : HeadTree) → names h ≡ names k → h ≡ k
head_once (one_name b h) (one_name c k) e = let o : b ≡ c = cc in same_one b c h k o
head_once (one_name b h) (more_names u c k) e = absurd (omega (arith, ap length e, length-append (names u) (c ∷ []), head_some u))
head_once (more_names t b h) (one_name c k) e = absurd (omega (arith, ap length e, length-append (names t) (b ∷ []), head_some t))
head_once (more_names t b h) (more_names u c k) e = let w = last_of (names t) (names u) b c e in same_more t u b c h k (head_once t u w.0) w.1

-- The atoms in the order of the text.
abbrev atoms_of : AtomsTree → List AtomTree
atoms_of (one_atom t) = t ∷ []
atoms_of (more_atoms s t) = atoms_of s ++ t ∷ []

atoms_some : (s : AtomsTree) → 0 < length (atoms_of s)
atoms_some (one_atom t) = omega arith
atoms_some (more_atoms s t) = omega (arith, length-append (atoms_of s) (t ∷ []))

atoms_once : (s r : AtomsTree) → atoms_of s ≡ atoms_of r → s ≡ r
atoms_once (one_atom t) (one_atom u) e = let o : t ≡ u = cc in ap one_atom o
atoms_once (one_atom t) (more_atoms r u) e = absurd (omega (arith, ap length e, length-append (atoms_of r) (u ∷ []), atoms_some r))
atoms_once (more_atoms s t) (one_atom u) e = absurd (omega (arith, ap length e, length-append (atoms_of s) (t ∷ []), atoms_some s))
atoms_once (more_atoms s t) (more_atoms r u) e =
    let w = last_of (atoms_of s) (atoms_of r) t u e in
    ap (λ m. more_atoms m t) (atoms_once s r w.0) ∙ ap (λ m. more_atoms r m) w.1

-- Atoms with a comma before each.
abbrev commas : List AtomTree → List ℕ
commas [] = []
commas (t ∷ ts) = 44 ∷ (atom_text t ++ commas ts)

commas_append : (l r : List AtomTree) → commas (l ++ r) ≡ commas l ++ commas r
commas_append [] r = refl
commas_append (t ∷ l) r = ap (λ y. 44 ∷ y) (ap (λ y. atom_text t ++ y) (commas_append l r) ∙ sym (append_assoc (atom_text t) (commas l) (commas r)))

atoms_commas : (s : AtomsTree) → commas (atoms_of s) ≡ 44 ∷ atoms_text s
atoms_commas (one_atom t) = ap (λ y. 44 ∷ y) (append-nil (atom_text t))
atoms_commas (more_atoms s t) = commas_append (atoms_of s) (t ∷ []) ∙ ap (λ y. y ++ commas (t ∷ [])) (atoms_commas s) ∙ ap (λ y. 44 ∷ (atoms_text s ++ 44 ∷ y)) (append-nil (atom_text t))

commas_once : (l r : List AtomTree) → commas l ≡ commas r → l ≡ r
commas_once [] [] e = refl
commas_once [] (t ∷ r) e = let o : ◌≡◌ {A = ℕ} 0 1 = cc in absurd (omega arith)
commas_once (t ∷ l) [] e = let o : ◌≡◌ {A = ℕ} 0 1 = cc in absurd (omega arith)
commas_once (atom_tree u h i v k ∷ l) (atom_tree x p j y q ∷ r) e =
    let a : u ≡ x = cc in
    let b : (inside_text i ++ 93 ∷ v ∷ []) ++ commas l ≡ (inside_text j ++ 93 ∷ y ∷ []) ++ commas r = cc in
    let c = parts_at 93 (inside_text i) (inside_text j) (v ∷ commas l) (y ∷ commas r) (inside_lacks i) (inside_lacks j) (sym (append_assoc (inside_text i) (93 ∷ v ∷ []) (commas l)) ∙ b ∙ append_assoc (inside_text j) (93 ∷ y ∷ []) (commas r)) in
    let d : v ≡ y = cc c.1 in
    let f : commas l ≡ commas r = cc c.1 in
    ap (λ z. z ∷ l) (same_atom u x v y h p i j k q a (inside_once i j c.0) d) ∙ ap (λ z. atom_tree x p j y q ∷ z) (commas_once l r f)

pub one_query : (t u : QueryTree) → query_text t ≡ query_text u → t ≡ u
one_query (query_tree h s) (query_tree k r) e =
    let c = parts_at 58 (names h) (names k) (atoms_text s) (atoms_text r) (head_lacks h) (head_lacks k) e in
    let w = commas_once (atoms_of s) (atoms_of r) (atoms_commas s ∙ ap (λ y. 44 ∷ y) c.1 ∙ sym (atoms_commas r)) in
    ap (λ m. query_tree m s) (head_once h k c.0) ∙ ap (λ m. query_tree k m) (atoms_once s r w)
