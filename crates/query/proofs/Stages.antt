-- The machine over the bytes of a query reads the texts of the trees.
use Rattle.std.proofs.Common.{◌≡◌, ℕ, zero, suc, true, false, cond, eqb, List, [], ◌∷◌, ◌++◌, sym, refl, ap, ◌∙◌, subst, inl, inr, append_assoc, append-nil, arith}
use Rattle.std.proofs.lemmas.Bool.Decides.{nat_tests}
use Rattle.std.proofs.lemmas.Bool.{cases_eq, le-leb}
use Rattle.query.specs.Grammar as G
use Rattle.query.specs.Grammar.{Layer, Kind, atom, opening, closing, sign, slash, bar, other, Tree, alternative, text, State, kind, Took, Halted, Stops, goes_on}
use Rattle.query.specs.Queries.{Capital, HeadTree, one_name, more_names, names, Inside, nothing, filled, inside_text, AtomTree, atom_tree, atom_text, AtomsTree, one_atom, more_atoms, atoms_text, QueryTree, query_tree, query_text}
use Rattle.query.specs.Viable.{capital, Stage, start, in_head, at_atom, at_bracket, opened, at_second, done, dead, expects, after, lift, go, goes, Halts}
use Rattle.query.proofs.Bytes.{run_all}

pub goes_append : (s : Stage) (u v : List ℕ) → goes s (u ++ v) ≡ goes (goes s u) v
goes_append s [] v = refl
goes_append s (x ∷ u) v = goes_append (go s x) u v

pub dead_goes : (xs : List ℕ) → goes dead xs ≡ dead
dead_goes [] = refl
dead_goes (x ∷ xs) = dead_goes xs

run_dead : (xs : List ℕ) → G.run G.dead xs ≡ G.dead
run_dead [] = refl
run_dead (x ∷ xs) = run_dead xs

run_append : (s : State) (u v : List ℕ) → G.run s (u ++ v) ≡ G.run (G.run s u) v
run_append s [] v = refl
run_append s (x ∷ u) v = run_append (G.move s (kind x)) u v

-- A step of the machine of expressions that it survives is one of the machine of queries.
step_lives : (s : State) (b : ℕ) → (G.move s (kind b) ≡ G.dead → ⊥) → go (lift s) b ≡ lift (G.move s (kind b))
step_lives (G.expects d) b h = refl
step_lives (G.after zero) b h = elim (cases_eq b 93) [
  | inl e ↦ absurd (h (ap (λ x. G.move (G.after 0) (kind x)) e))
  | inr n ↦ simp (not_93 b n)
]
  where
    not_93 : (b : ℕ) → (b ≡ 93 → ⊥) → eqb b 93 ≡ false
    not_93 b n = grind (arith, nat_tests)
step_lives (G.after (suc d)) b h = refl
step_lives G.dead b h = refl

pub lives : (s : State) (xs : List ℕ) → (G.run s xs ≡ G.dead → ⊥) → goes (lift s) xs ≡ lift (G.run s xs)
lives s [] h = refl
lives s (b ∷ bs) h =
    let k : G.move s (kind b) ≡ G.dead → ⊥ = λ e. h (ap (λ x. G.run x bs) e ∙ run_dead bs) in
    ap (λ x. goes x bs) (step_lives s b k) ∙ lives (G.move s (kind b)) bs h

after_lives : {d : ℕ} → G.after d ≡ G.dead → ⊥
after_lives e = let o : ◌≡◌ {A = ℕ} 0 1 = cc in omega arith

pub capital_true : (b : ℕ) → Capital b → capital b ≡ true
capital_true b h = simp (le-leb 65 b h.0, le-leb b 90 h.1)

-- From the opened bracket on.
opened_as : (x : ℕ) (xs : List ℕ) → (x ≡ 93 → ⊥) → goes opened (x ∷ xs) ≡ goes (expects 0) (x ∷ xs)
opened_as x xs n = ap (λ s. goes s xs) (same x n)
  where
    same : (x : ℕ) → (x ≡ 93 → ⊥) → go opened x ≡ go (expects 0) x
    same x n = let e : eqb x 93 ≡ false = grind (arith, nat_tests) in simp e

tree_lives : (t : Tree alternative) (x : List ℕ) → goes (expects 0) (text t ++ x) ≡ goes (after 0) x
tree_lives t x =
    let l : G.run (G.expects 0) (text t) ≡ G.dead → ⊥ = λ e. after_lives (sym (run_all t 0) ∙ e) in
    goes_append (expects 0) (text t) x ∙ ap (λ s. goes s x) (lives (G.expects 0) (text t) l ∙ ap lift (run_all t 0))

-- A tree's text does not begin with a closing square bracket.
tree_begins : (t : Tree alternative) (u v : List ℕ) → text t ≡ u ++ v → (bs : List ℕ) → u ≡ 93 ∷ bs → ⊥
tree_begins t u v e bs f = after_lives (sym (run_all t 0) ∙ ap (G.run (G.expects 0)) (e ∙ ap (λ y. y ++ v) f) ∙ run_dead (bs ++ v))

opened_front : (front : List ℕ) (t : Tree alternative) (more : List ℕ) → text t ≡ front ++ more → (x : ℕ) (xs : List ℕ) → front ≡ x ∷ xs → (y : List ℕ) → goes opened (front ++ y) ≡ goes (expects 0) (front ++ y)
opened_front front t more e x xs f y = rw f (opened_as x (xs ++ y) (λ h. tree_begins t front more e xs (f ∙ ap (λ z. z ∷ xs) h)))

pub tree_some : (t : Tree alternative) → text t ≡ [] → ⊥
tree_some t e = let o : G.expects 0 ≡ G.after 0 = ap (G.run (G.expects 0)) (sym e) ∙ run_all t 0 in let z : ◌≡◌ {A = ℕ} 0 1 = cc in omega arith

opened_tree : (t : Tree alternative) (y : List ℕ) → goes opened (text t ++ y) ≡ goes (expects 0) (text t ++ y)
opened_tree t y = at (text t) refl
  where
    at : (front : List ℕ) → text t ≡ front → goes opened (text t ++ y) ≡ goes (expects 0) (text t ++ y)
    at [] e = absurd (tree_some t e)
    at (x ∷ xs) e = opened_front (text t) t [] (sym (append-nil (text t))) x xs e y

pub runs_head : (t : HeadTree) (x : List ℕ) → goes start (names t ++ x) ≡ goes in_head x
runs_head (one_name b h) x = ap (λ y. goes (cond y in_head dead) x) (capital_true b h)
runs_head (more_names t b h) x = rw append_assoc (runs_head t (b ∷ x) ∙ ap (λ y. goes (cond y in_head (cond (eqb b 58) at_atom dead)) x) (capital_true b h))

pub runs_inside : (i : Inside) (x : List ℕ) → goes opened (inside_text i ++ 93 ∷ x) ≡ goes at_second x
runs_inside nothing x = refl
runs_inside (filled t) x = opened_tree t (93 ∷ x) ∙ tree_lives t (93 ∷ x)

pub runs_atom : (a : AtomTree) (x : List ℕ) → goes at_atom (atom_text a ++ x) ≡ goes done x
runs_atom (atom_tree u h i v k) x =
    ap (λ y. goes (cond y at_bracket dead) (91 ∷ ((inside_text i ++ 93 ∷ v ∷ []) ++ x))) (capital_true u h)
    ∙ ap (goes opened) (append_assoc (inside_text i) (93 ∷ v ∷ []) x)
    ∙ runs_inside i (v ∷ x)
    ∙ ap (λ y. goes (cond y done dead) x) (capital_true v k)

pub runs_atoms : (s : AtomsTree) (x : List ℕ) → goes at_atom (atoms_text s ++ x) ≡ goes done x
runs_atoms (one_atom a) x = runs_atom a x
runs_atoms (more_atoms s a) x = rw append_assoc (runs_atoms s (44 ∷ (atom_text a ++ x)) ∙ runs_atom a x)

pub runs_query : (q : QueryTree) (x : List ℕ) → goes start (query_text q ++ x) ≡ goes done x
runs_query (query_tree h s) x = rw append_assoc (runs_head h (58 ∷ (atoms_text s ++ x)) ∙ runs_atoms s x)

pub query_done : (q : QueryTree) → goes start (query_text q) ≡ done
query_done q = ap (goes start) (sym (append-nil (query_text q))) ∙ runs_query q []

-- It stops right here, where the stage is st.
pub halts_at : {T : Type 0} {txt : T → List ℕ} {s : Stage} {before rest : List ℕ} (st : Stage) (tree : T) (front more : List ℕ) → before ≡ front ++ rest → txt tree ≡ front ++ more → goes s front ≡ st → ((b : ℕ) (bs : List ℕ) → rest ≡ b ∷ bs → go st b ≡ dead) → (st ≡ done → ⊥) → Halts T txt s before rest
halts_at {s = s} st tree front more e v g h n = record {
  front = front;
  splits = e;
  tree = tree;
  more = more;
  viable = v;
  dies = λ b bs q. goes_append s front (b ∷ []) ∙ ap (λ y. go y b) g ∙ h b bs q;
  short = λ q. n (sym g ∙ q);
}

-- A part that stops short stands in a greater one.
pub halts_under : {T U : Type 0} {txt : T → List ℕ} {whole : U → List ℕ} {s z : Stage} {before mid rest : List ℕ} (pre tail : List ℕ) (wrap : T → U) → ((t : T) → whole (wrap t) ≡ pre ++ (txt t ++ tail)) → ((x : List ℕ) → goes z (pre ++ x) ≡ goes s x) → before ≡ pre ++ mid → Halts T txt s mid rest → Halts U whole z before rest
halts_under {z = z} {rest = rest} pre tail wrap w g e h = record {
  front = pre ++ h.front;
  splits = e ∙ ap (λ y. pre ++ y) h.splits ∙ sym (append_assoc pre h.front rest);
  tree = wrap h.tree;
  more = h.more ++ tail;
  viable = w h.tree ∙ ap (λ y. pre ++ (y ++ tail)) h.viable ∙ ap (λ y. pre ++ y) (append_assoc h.front h.more tail) ∙ sym (append_assoc pre h.front (h.more ++ tail));
  dies = λ b bs q. ap (goes z) (append_assoc pre h.front (b ∷ [])) ∙ g (h.front ++ b ∷ []) ∙ h.dies b bs q;
  short = λ q. h.short (sym (g h.front) ∙ q);
}

stuck : (k : Kind) → goes_on alternative k ≡ false → G.move (G.after 0) k ≡ G.dead
stuck atom h = refl
stuck opening h = refl
stuck closing h = refl
stuck sign h = let o : ◌≡◌ {A = ℕ} 0 1 = cc in absurd (omega arith)
stuck slash h = let o : ◌≡◌ {A = ℕ} 0 1 = cc in absurd (omega arith)
stuck bar h = let o : ◌≡◌ {A = ℕ} 0 1 = cc in absurd (omega arith)
stuck other h = refl

abbrev pub HaltsInside : List ℕ → List ℕ → Type 0
HaltsInside = Halts Inside (λ i. inside_text i ++ 93 ∷ []) opened

-- An expression is complete, and its bracket is not closed.
pub inside_open : {before rest : List ℕ} (t : Took alternative before rest) → ((bs : List ℕ) → rest ≡ 93 ∷ bs → ⊥) → HaltsInside before rest
inside_open t n = halts_at (after 0) (filled t.tree) (text t.tree) (93 ∷ []) t.splits refl
    (ap (goes opened) (sym (append-nil (text t.tree))) ∙ opened_tree t.tree [] ∙ tree_lives t.tree [])
    (λ b bs q. let e : (b ≡ 93 → ⊥) = λ h. n bs (q ∙ ap (λ y. y ∷ bs) h) in
    let f : eqb b 93 ≡ false = grind (arith, nat_tests) in
    rw f (ap lift (stuck (kind b) (subst (Stops alternative) q t.stops))))
    (λ e. let o : ◌≡◌ {A = ℕ} 0 1 = cc in omega arith)

lift_not_done : (s : State) → lift s ≡ done → ⊥
lift_not_done (G.expects d) e = let o : ◌≡◌ {A = ℕ} 0 1 = cc in omega arith
lift_not_done (G.after d) e = let o : ◌≡◌ {A = ℕ} 0 1 = cc in omega arith
lift_not_done G.dead e = let o : ◌≡◌ {A = ℕ} 0 1 = cc in omega arith

dies_lifted : (s : State) (b : ℕ) → G.move s (kind b) ≡ G.dead → (s ≡ G.after 0 → ⊥) → go (lift s) b ≡ dead
dies_lifted (G.expects d) b e n = ap lift e
dies_lifted (G.after zero) b e n = absurd (n refl)
dies_lifted (G.after (suc d)) b e n = ap lift e
dies_lifted G.dead b e n = refl

-- An expression stops short inside its brackets.
pub inside_halts : {before rest : List ℕ} → Halted alternative before rest → ((bs : List ℕ) → before ≡ 93 ∷ bs → ⊥) → HaltsInside before rest
inside_halts {before} {rest} h n = record {
  front = h.front;
  splits = h.splits;
  tree = filled h.tree;
  more = h.more ++ 93 ∷ [];
  viable = ap (λ y. y ++ 93 ∷ []) h.viable ∙ append_assoc h.front h.more (93 ∷ []);
  dies = λ b bs q. same h.front b bs (h.splits ∙ ap (λ y. h.front ++ y) q) ∙ goes_append (expects 0) h.front (b ∷ []) ∙ ap (λ s. go s b) there ∙ dies_lifted s b (sym (run_append (G.expects 0) h.front (b ∷ [])) ∙ h.dies 0 b bs q) (h.short 0 0 (omega arith));
  short = λ e. ends h.front h.splits e there;
}
  where
    s : State
    s = G.run (G.expects 0) h.front

    live : G.run (G.expects 0) h.front ≡ G.dead → ⊥
    live e = after_lives (sym (run_all h.tree 0) ∙ ap (G.run (G.expects 0)) h.viable ∙ run_append (G.expects 0) h.front h.more ∙ ap (λ x. G.run x h.more) e ∙ run_dead h.more)

    there : goes (expects 0) h.front ≡ lift (G.run (G.expects 0) h.front)
    there = lives (G.expects 0) h.front live

    same : (front : List ℕ) (b : ℕ) (bs : List ℕ) → before ≡ front ++ b ∷ bs → goes opened (front ++ b ∷ []) ≡ goes (expects 0) (front ++ b ∷ [])
    same [] b bs e = opened_as b [] (λ k. n bs (e ∙ ap (λ z. z ∷ bs) k))
    same (x ∷ front) b bs e = opened_as x (front ++ b ∷ []) (λ k. n (front ++ b ∷ bs) (e ∙ ap (λ z. z ∷ (front ++ b ∷ bs)) k))

    ends : (front : List ℕ) → before ≡ front ++ rest → goes opened front ≡ done → goes (expects 0) front ≡ lift (G.run (G.expects 0) front) → ⊥
    ends [] e f g = let o : ◌≡◌ {A = ℕ} 0 1 = cc in omega arith
    ends (x ∷ front) e f g = lift_not_done (G.run (G.expects 0) (x ∷ front)) (sym g ∙ sym (opened_as x front (λ k. n (front ++ rest) (e ∙ ap (λ z. z ∷ (front ++ rest)) k))) ∙ f)
