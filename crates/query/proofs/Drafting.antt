-- Whole texts, atom by atom, and where they stop.
use Rattle.std.proofs.Common.{◌≡◌, ℕ, zero, suc, ◌+◌, ◌<◌, ◌≤◌, true, false, ◌⊎◌, List, [], ◌∷◌, ◌++◌, length, get_or, take, drop, IfSome, Some, None, Ok, Err, Option, sym, refl, ap, ◌∙◌, subst, inl, inr, append_assoc, append-nil, arith, length-append, length-drop, MatchOption}
use Rattle.std.proofs.lemmas.Bool.Decides.{nat_tests}
use Rattle.std.proofs.lemmas.Bool.{cases_lt}
use Rattle.query.specs.declared.cursor.Reader.{Reader}
use Rattle.query.specs.declared.drafts.Atom.{Atom}
use Rattle.query.specs.declared.drafts.Head.{Head}
use Rattle.query.specs.declared.drafts.Draft.{Draft}
use Rattle.automata.specs.Positions.{size}
use Rattle.query.specs.Outcome.{rest, Eats}
use Rattle.query.specs.Queries.{HeadTree, names, inside_text, inside_regex, AtomTree, atom_tree, atom_text, AtomsTree, one_atom, more_atoms, atoms_text, QueryTree, query_tree, query_text, IsQuery, Begins, Longest}
use Rattle.query.specs.Viable.{start, at_atom, done, dead, go, goes, Halts}
use Rattle.query.specs.Limits.{Stored, Right, Rightly, Keeps, Rows, Over, Overs, Large, Lowest, number, inside_of}
use Rattle.query.specs.declared.drafts.Query.{Query}
use Rattle.query.specs.Texts.{IsTooLarge, HoldsText}
use Rattle.query.specs.Readings.{Atomed, Headed, Claused, Drafted, Wholly}
use Rattle.query.proofs.Once.{one_query}
use Rattle.query.proofs.Letters.{over_not}
use Rattle.query.proofs.Stages.{goes_append, runs_head, runs_atoms, runs_query, query_done, halts_under, dead_goes}

atom_long : (t : AtomTree) → 2 ≤ length (atom_text t)
atom_long (atom_tree u h i v k) = omega arith

pub clause_long : {z a : Reader} {r : Atom} → Atomed z a (Ok r) → z.at + 2 ≤ length a.text.now
clause_long {z} {a} o = omega (arith, ap length o.went.text, ap length o.reads.1, length-append (atom_text o.reads.0) (rest a), atom_long o.reads.0, length-drop z.at z.text.now)

over_cases : (P : ℕ → Type 0) (x y o : Option ℕ) → MatchOption x (y ≡ o) (λ p. y ≡ x) → Lowest P o → MatchOption x (Lowest P y) (λ p. y ≡ x)
over_cases P None y o e h = subst (Lowest P) (sym e) h
over_cases P (Some p) y o e h = e

pub clause_read : {z a : Reader} {d d' : Draft} {r : Atom} (x : Option ℕ) → (o : Atomed z a (Ok r)) → ((t : AtomTree) (ys : List ℕ) → drop z.at a.text.now ≡ atom_text t ++ ys → r.automaton.size ≡ size (inside_regex (inside_of t)) → Lowest (Over z.at d.count t) x) → d'.head ≡ d.head → d'.count ≡ d.count + 1 → ((z : Atom) (i : ℕ) → i < d.count → get_or d'.atoms i z ≡ get_or d.atoms i z) → ((z : Atom) → d.count < 8 → get_or d'.atoms d.count z ≡ r) → MatchOption d.over (d'.over ≡ x) (λ p. d'.over ≡ d.over) → Claused z a d d' (Ok tt)
clause_read {z} {a} {d} {d'} {r} x o f h c k p v = record {
  went = o.went;
  reads = (
    t,
    o.reads.1,
    record {
      head = h;
      count = c;
      kept = k;
      stored = λ w lt. subst (λ (y : Atom). Stored y z.at t) (sym (p w lt)) o.reads.2;
      over = over_cases (Over z.at d.count t) d.over d'.over x v (f t (rest a) (ap (drop z.at) o.went.text ∙ o.reads.1) o.reads.2.recognizes.positions);
    },
  );
}
  where
    t : AtomTree
    t = o.reads.0

-- The first limit that some parts pass.
combine : (P Q : ℕ → Type 0) (e f : ℕ) (x y : Option ℕ) → Lowest P x → IfSome x (λ p. p < e) → MatchOption x (Lowest Q y) (λ p. y ≡ x) → ((q : ℕ) → Q q → (e ≤ q) × (q < f)) → e ≤ f → Lowest (λ p. P p ⊎ Q p) y × IfSome y (λ p. p < f)
combine P Q e f None None h b n r le = ((λ p. elim [ inl k ↦ h p k | inr k ↦ n p k ]), tt)
combine P Q e f None (Some y) h b n r le = ((inr n.0, λ q. elim [ inl k ↦ absurd (h q k) | inr k ↦ n.1 q k ]), (r y n.0).1)
combine P Q e f (Some p) y h b n r le = rw n ((inl h.0, λ q. elim [ inl k ↦ h.1 q k | inr k ↦ (let j = (r q k).0 in omega arith) ]), omega arith)

over_within : (b n : ℕ) (t : AtomTree) (p : ℕ) → Over b n t p → (b ≤ p) × (p < b + length (atom_text t))
over_within b n (atom_tree u h i v k) p (inl (e, f)) = (omega arith, omega arith)
over_within b n (atom_tree u h i v k) p (inr (j, e, s)) =
    let l : length (inside_text i) ≡ length s.before + suc (length s.behind) = ap length s.splits ∙ length-append s.before (s.byte ∷ s.behind) in
    let m = length-append (inside_text i) (93 ∷ v ∷ []) in
    (omega arith, omega (arith, s.place))

rows_kept : (z : Atom) (l l' : List Atom) (b : ℕ) (s : AtomsTree) → ((i : ℕ) → i < number s → get_or l' i z ≡ get_or l i z) → Rows z l b s → Rows z l' b s
rows_kept z l l' b (one_atom t) k h = subst (λ (y : Atom). Stored y b t) (sym (k 0 (omega arith))) h
rows_kept z l l' b (more_atoms s t) k h = (rows_kept z l l' b s (λ i j. k i (omega arith)) h.0, λ j. subst (λ (y : Atom). Stored y (b + length (atoms_text s) + 1) t) (sym (k (number s) (omega arith))) (h.1 j))

-- The text so far.
pub record SoFar (xs : List ℕ) (s : Reader) (d : Draft) : Type 0 where
  pub within : s.at ≤ length s.text.now
  pub text : s.text.now ≡ xs
  pub few : d.count ≤ s.at
  pub head : HeadTree
  pub atoms : AtomsTree
  pub splits : xs ≡ names head ++ 58 ∷ (atoms_text atoms ++ rest s)
  pub drafted : Drafted d head atoms (length (names head) + 1) s.at

place : (xs front : List ℕ) (n : Reader) → n.at ≤ length n.text.now → n.text.now ≡ xs → xs ≡ front ++ rest n → n.at ≡ length front
place xs front n w t s = omega (arith, length-append front (rest n), length-drop n.at n.text.now, ap length s, ap length t)

head_place : (xs : List ℕ) (n : Reader) (h : HeadTree) → n.at ≤ length n.text.now → n.text.now ≡ xs → xs ≡ names h ++ 58 ∷ rest n → n.at ≡ length (names h) + 1
head_place xs n h w t s = place xs (names h ++ 58 ∷ []) n w t (s ∙ sym (append_assoc (names h) (58 ∷ []) (rest n))) ∙ length-append (names h) (58 ∷ [])

atoms_place : (xs : List ℕ) (n : Reader) (h : HeadTree) (s : AtomsTree) → n.at ≤ length n.text.now → n.text.now ≡ xs → xs ≡ names h ++ 58 ∷ (atoms_text s ++ rest n) → n.at ≡ length (names h) + 1 + length (atoms_text s)
atoms_place xs n h s w t e =
    let k = place xs (names h ++ 58 ∷ atoms_text s) n w t (e ∙ sym (append_assoc (names h) (58 ∷ atoms_text s) (rest n))) in
    omega (arith, length-append (names h) (58 ∷ atoms_text s))

rest_length : (z n : Reader) (t : AtomTree) → z.at ≤ length z.text.now → n.at ≤ length n.text.now → n.text.now ≡ z.text.now → rest z ≡ atom_text t ++ rest n → n.at ≡ z.at + length (atom_text t)
rest_length z n t w v e s = omega (arith, ap length e, ap length s, length-append (atom_text t) (rest n), length-drop z.at z.text.now, length-drop n.at n.text.now, w, v)

pub whole_begins : {xs : List ℕ} {z a b : Reader} {hd : Head} {d₀ d : Draft} → z.text.now ≡ xs → z.at ≡ 0 → (o : Headed z a (Ok hd)) → (k : Claused a b d₀ d (Ok tt)) → d₀.head ≡ hd → d₀.count ≡ 0 → d₀.over ≡ None → SoFar xs b d
whole_begins {xs} {z} {a} {b} {hd} {d₀} {d} q q0 o k e f g = record {
  within = k.went.within;
  text = k.went.text ∙ o.went.text ∙ q;
  few = omega (arith, k.reads.2.count, l, atom_long t);
  head = h;
  atoms = one_atom t;
  splits = s ∙ ap (λ y. names h ++ 58 ∷ y) k.reads.1;
  drafted = record {
    head = subst (λ (y : Head). Keeps y (names h)) (sym (k.reads.2.head ∙ e)) o.reads.2;
    count = k.reads.2.count ∙ ap (λ y. y + 1) f;
    rows = λ w. subst (λ (y : ℕ). Stored (get_or d.atoms y w) (length (names h) + 1) t) f (subst (λ (y : ℕ). Stored (get_or d.atoms d₀.count w) y t) p (k.reads.2.stored w (omega arith)));
    over = m;
    before = bound d.over m;
  };
}
  where
    h : HeadTree
    h = o.reads.0

    t : AtomTree
    t = k.reads.0

    s : xs ≡ names o.reads.0 ++ 58 ∷ rest a
    s = sym q ∙ ap (λ y. drop y z.text.now) (sym q0) ∙ o.reads.1

    l : b.at ≡ a.at + length (atom_text k.reads.0)
    l = rest_length a b k.reads.0 o.went.within k.went.within k.went.text k.reads.1

    p : a.at ≡ length (names o.reads.0) + 1
    p = head_place xs a o.reads.0 o.went.within (o.went.text ∙ q) s

    first : (x : Option ℕ) → x ≡ None → MatchOption x (Lowest (Over a.at d₀.count k.reads.0) d.over) (λ p. d.over ≡ x) → Lowest (Over a.at d₀.count k.reads.0) d.over
    first None e h = h
    first (Some x) e h = let o : ◌≡◌ {A = ℕ} 0 1 = cc in absurd (omega arith)

    m : Lowest (Over (length (names o.reads.0) + 1) 0 k.reads.0) d.over
    m = subst (λ (y : ℕ). Lowest (Over y 0 k.reads.0) d.over) p (subst (λ (y : ℕ). Lowest (Over a.at y k.reads.0) d.over) f (first d₀.over g k.reads.2.over))

    bound : (x : Option ℕ) → Lowest (Over (length (names o.reads.0) + 1) 0 k.reads.0) x → IfSome x (λ p. p < b.at)
    bound None h = tt
    bound (Some x) h = let j = (over_within _ _ k.reads.0 x h.0).1 in omega (arith, l, p)

pub whole_more : {xs : List ℕ} {s m n : Reader} {d d' : Draft} → (i : SoFar xs s d) → Eats 44 s m true → (k : Claused m n d d' (Ok tt)) → SoFar xs n d'
whole_more {xs} {s} {m} {n} {d} {d'} i e k = record {
  within = k.went.within;
  text = k.went.text ∙ e.text ∙ i.text;
  few = omega (arith, k.reads.2.count, i.few, e.takes.0, k.went.grows);
  head = i.head;
  atoms = more_atoms i.atoms t;
  splits = i.splits ∙ ap (λ y. names i.head ++ 58 ∷ y) (ap (λ y. atoms_text i.atoms ++ y) (e.takes.1 ∙ ap (λ y. 44 ∷ y) k.reads.1) ∙ sym (append_assoc (atoms_text i.atoms) (44 ∷ atom_text t) (rest n)));
  drafted = record {
    head = subst (λ (y : Head). Keeps y (names i.head)) (sym k.reads.2.head) i.drafted.head;
    count = k.reads.2.count ∙ ap (λ y. y + 1) i.drafted.count;
    rows = λ z. (
      rows_kept z d.atoms d'.atoms (length (names i.head) + 1) i.atoms (λ j lt. k.reads.2.kept z j (omega (arith, i.drafted.count))) (i.drafted.rows z),
      λ lt. subst (λ (y : ℕ). Stored (get_or d'.atoms y z) (length (names i.head) + 1 + length (atoms_text i.atoms) + 1) t) i.drafted.count (subst (λ (y : ℕ). Stored (get_or d'.atoms d.count z) y t) p (k.reads.2.stored z (omega (arith, i.drafted.count)))),
    );
    over = c.0;
    before = c.1;
  };
}
  where
    t : AtomTree
    t = k.reads.0

    B : ℕ
    B = length (names i.head) + 1 + length (atoms_text i.atoms) + 1

    p : m.at ≡ length (names i.head) + 1 + length (atoms_text i.atoms) + 1
    p = e.takes.0 ∙ ap (λ y. y + 1) (atoms_place xs s i.head i.atoms i.within i.text i.splits)

    l : n.at ≡ m.at + length (atom_text k.reads.0)
    l = rest_length m n k.reads.0 e.within k.went.within k.went.text k.reads.1

    v : MatchOption d.over (Lowest (Over (length (names i.head) + 1 + length (atoms_text i.atoms) + 1) (number i.atoms) k.reads.0) d'.over) (λ p. d'.over ≡ d.over)
    v = subst (λ (y : ℕ). MatchOption d.over (Lowest (Over y (number i.atoms) k.reads.0) d'.over) (λ p. d'.over ≡ d.over)) p
        (subst (λ (y : ℕ). MatchOption d.over (Lowest (Over m.at y k.reads.0) d'.over) (λ p. d'.over ≡ d.over)) i.drafted.count k.reads.2.over)

    c : Lowest (Overs (length (names i.head) + 1) (more_atoms i.atoms k.reads.0)) d'.over × IfSome d'.over (λ p. p < n.at)
    c = combine (Overs (length (names i.head) + 1) i.atoms) (Over (length (names i.head) + 1 + length (atoms_text i.atoms) + 1) (number i.atoms) k.reads.0) s.at n.at d.over d'.over i.drafted.over i.drafted.before v
        (λ q h. let j = over_within _ _ k.reads.0 q h in (omega (arith, p, e.takes.0), omega (arith, p, l)))
        (omega (arith, e.takes.0, k.went.grows))

-- What the machine dies at begins no query.
not_dead : done ≡ dead → ⊥
not_dead e = let o : ◌≡◌ {A = ℕ} 0 1 = cc in omega arith

none_beyond : (front : List ℕ) (b : ℕ) (more : List ℕ) → goes start (front ++ b ∷ []) ≡ dead → IsQuery ((front ++ b ∷ []) ++ more) → ⊥
none_beyond front b more h e =
    not_dead (sym (query_done e.0) ∙ ap (goes start) e.1 ∙ goes_append start (front ++ b ∷ []) more ∙ ap (λ s. goes s more) h ∙ dead_goes more)

-- A longer beginning holds the byte at which it died.
beyond : (front rest : List ℕ) (k : ℕ) → length front < k → k ≤ length (front ++ rest) → (b : ℕ) × (bs : List ℕ) × (rest ≡ b ∷ bs) × (v : List ℕ) × (take k (front ++ rest) ≡ (front ++ b ∷ []) ++ v)
beyond [] [] k h g = absurd (omega arith)
beyond [] (b ∷ bs) zero h g = absurd (omega arith)
beyond [] (b ∷ bs) (suc k) h g = (b, bs, refl, take k bs, refl)
beyond (x ∷ front) rest zero h g = absurd (omega arith)
beyond (x ∷ front) rest (suc k) h g =
    let r = beyond front rest k (omega arith) (omega arith) in
    (r.0, r.1, r.2, r.3, ap (λ y. x ∷ y) r.4)

take_front : (front rest : List ℕ) → take (length front) (front ++ rest) ≡ front
take_front [] rest = refl
take_front (x ∷ front) rest = ap (λ y. x ∷ y) (take_front front rest)

longest_of : (xs front rest : List ℕ) (e : ℕ) → xs ≡ front ++ rest → e ≡ length front → Begins front → ((b : ℕ) (bs : List ℕ) → rest ≡ b ∷ bs → goes start (front ++ b ∷ []) ≡ dead) → Longest xs e
longest_of xs front rest e s l g h = record {
  within = rw s (omega (arith, length-append front rest));
  begins = subst Begins (sym (ap (λ y. take y xs) l ∙ ap (take (length front)) s ∙ take_front front rest)) g;
  longest = λ k w q. elim (cases_lt e k) [
    | inl lt ↦ (let r = beyond front rest k (omega arith) (subst (λ (y : List ℕ). k ≤ length y) s w) in
        absurd (none_beyond front r.0 (r.3 ++ q.0) (h r.0 r.1 r.2) (q.1.0, q.1.1 ∙ ap (λ y. y ++ q.0) (ap (take k) s ∙ r.4) ∙ append_assoc (front ++ r.0 ∷ []) r.3 q.0)))
    | inr ge ↦ ge
  ];
}

none_left : (front rest : List ℕ) → ((b : ℕ) (bs : List ℕ) → rest ≡ b ∷ bs → goes start (front ++ b ∷ []) ≡ dead) → (goes start front ≡ done → ⊥) ⊎ (0 < length rest) → IsQuery (front ++ rest) → ⊥
none_left front [] h (inl g) e = g (ap (goes start) (sym (e.1 ∙ append-nil front)) ∙ query_done e.0)
none_left front [] h (inr g) e = omega arith
none_left front (b ∷ bs) h g e = none_beyond front b bs (h b bs refl) (e.0, e.1 ∙ sym (append_assoc front (b ∷ []) bs))

judge : (xs : List ℕ) (n : Reader) (y : ℕ) → n.at ≤ length n.text.now → n.text.now ≡ xs → y ≡ n.at → Halts QueryTree query_text start xs (rest n) → (IsQuery xs → ⊥) × Longest xs y
judge xs n y w t e h = (
  (λ q. none_left h.front (rest n) h.dies (inl h.short) (subst IsQuery h.splits q)),
  longest_of xs h.front (rest n) y h.splits (e ∙ place xs h.front n w t h.splits) (h.more, (h.tree, h.viable)) h.dies,
)

pub whole_headless : {xs : List ℕ} {z a : Reader} {y : ℕ} → z.text.now ≡ xs → z.at ≡ 0 → Headed z a (Err y) → Wholly xs (Err y)
whole_headless {xs} {z} {a} {y} q q0 o = judge xs a y o.went.within (o.went.text ∙ q) o.reads.0 (subst (λ (w : List ℕ). Halts QueryTree query_text start w (rest a)) (ap (λ y. drop y z.text.now) q0 ∙ q) o.reads.1)

pub whole_first_fails : {xs : List ℕ} {z a b : Reader} {hd : Head} {d₀ d : Draft} {y : ℕ} → z.text.now ≡ xs → z.at ≡ 0 → (o : Headed z a (Ok hd)) → (k : Claused a b d₀ d (Err y)) → Wholly xs (Err y)
whole_first_fails {xs} {z} {a} {b} {y = y} q q0 o k = judge xs b y k.went.within (k.went.text ∙ o.went.text ∙ q) k.reads.0
    (halts_under (names h ++ 58 ∷ []) [] (λ t. query_tree h (one_atom t))
    (λ t. ap (λ y. names h ++ 58 ∷ y) (sym (append-nil (atom_text t))) ∙ sym (append_assoc (names h) (58 ∷ []) (atom_text t ++ [])))
    (λ x. ap (goes start) (append_assoc (names h) (58 ∷ []) x) ∙ runs_head h (58 ∷ x))
    (sym q ∙ ap (λ y. drop y z.text.now) (sym q0) ∙ o.reads.1 ∙ sym (append_assoc (names h) (58 ∷ []) (rest a)))
    k.reads.1)
  where
    h : HeadTree
    h = o.reads.0

pub whole_fails : {xs : List ℕ} {s m n : Reader} {d d' : Draft} {y : ℕ} → (i : SoFar xs s d) → Eats 44 s m true → (k : Claused m n d d' (Err y)) → Wholly xs (Err y)
whole_fails {xs} {s} {m} {n} {y = y} i e k = judge xs n y k.went.within (k.went.text ∙ e.text ∙ i.text) k.reads.0
    (halts_under (names h ++ 58 ∷ (atoms_text a ++ 44 ∷ [])) [] (λ t. query_tree h (more_atoms a t))
    (λ t. ap (λ y. names h ++ 58 ∷ y) (split (atom_text t)) ∙ sym (append_assoc (names h) (58 ∷ (atoms_text a ++ 44 ∷ [])) (atom_text t ++ [])))
    (λ x. ap (goes start) (append_assoc (names h) (58 ∷ (atoms_text a ++ 44 ∷ [])) x) ∙ runs_head h (58 ∷ ((atoms_text a ++ 44 ∷ []) ++ x)) ∙ ap (goes at_atom) (append_assoc (atoms_text a) (44 ∷ []) x) ∙ runs_atoms a (44 ∷ x))
    (i.splits ∙ ap (λ y. names h ++ 58 ∷ y) (ap (λ y. atoms_text a ++ y) e.takes.1 ∙ sym (append_assoc (atoms_text a) (44 ∷ []) (rest m))) ∙ sym (append_assoc (names h) (58 ∷ (atoms_text a ++ 44 ∷ [])) (rest m)))
    k.reads.1)
  where
    h : HeadTree
    h = i.head

    a : AtomsTree
    a = i.atoms

    split : (x : List ℕ) → atoms_text i.atoms ++ 44 ∷ x ≡ (atoms_text i.atoms ++ 44 ∷ []) ++ (x ++ [])
    split x = ap (λ y. atoms_text i.atoms ++ 44 ∷ y) (sym (append-nil x)) ∙ sym (append_assoc (atoms_text i.atoms) (44 ∷ []) (x ++ []))

no_comma : (b : ℕ) → (b ≡ 44 → ⊥) → go done b ≡ dead
no_comma b n = grind (arith, nat_tests)

pub whole_rest : {xs : List ℕ} {s m : Reader} {d : Draft} → (i : SoFar xs s d) → Eats 44 s m false → m.at < length xs → Wholly xs (Err m.at)
whole_rest {xs} {s} {m} i e lt = (
  (λ q. none_left front (rest s) dies (inr (omega (arith, length-drop s.at s.text.now, ap length i.text, e.takes.0))) (subst IsQuery f q)),
  longest_of xs front (rest s) m.at f (e.takes.0 ∙ place xs front s i.within i.text f) ([], (query_tree i.head i.atoms, sym (append-nil front))) dies,
)
  where
    front : List ℕ
    front = query_text (query_tree i.head i.atoms)

    f : xs ≡ query_text (query_tree i.head i.atoms) ++ rest s
    f = i.splits ∙ sym (append_assoc (names i.head) (58 ∷ atoms_text i.atoms) (rest s))

    dies : (b : ℕ) (bs : List ℕ) → rest s ≡ b ∷ bs → goes start (query_text (query_tree i.head i.atoms) ++ b ∷ []) ≡ dead
    dies b bs q = runs_query (query_tree i.head i.atoms) (b ∷ []) ∙ no_comma b (λ h. e.takes.2 bs (q ∙ ap (λ y. y ∷ bs) h))

later : (x : Option ℕ) (e f : ℕ) → e ≤ f → IfSome x (λ p. p < e) → IfSome x (λ p. p < f)
later None e f l h = tt
later (Some p) e f l h = omega arith

pub too_large : {xs : List ℕ} {d : Draft} {p : ℕ} → Wholly xs (Ok d) → d.over ≡ Some p → IsTooLarge xs p
too_large {xs} {d} {p} w e =
    let k : Lowest (Overs (length (names w.0) + 1) w.1) (Some p) = subst (Lowest (Overs (length (names w.0) + 1) w.1)) e w.3.over in
    record {
      query = (query_tree w.0 w.1, w.2);
      large = λ t g. subst (λ (y : QueryTree). Large y p) (one_query (query_tree w.0 w.1) t (w.2 ∙ sym g)) k.0;
      first = λ t g q l. k.1 q (subst (λ (y : QueryTree). Large y q) (one_query t (query_tree w.0 w.1) (g ∙ sym w.2)) l);
    }

right : {a : Atom} {b : ℕ} {t : AtomTree} → size (inside_regex (inside_of t)) ≤ 63 → Stored a b t → Right a b t
right h s = record { stored = s; few = omega (arith, s.recognizes.positions) }

rightly : (b : ℕ) (z : Atom) (l : List Atom) (s : AtomsTree) → ((p : ℕ) → Overs b s p → ⊥) → Rows z l b s → (number s ≤ 8) × Rightly z l b s
rightly b z l (one_atom t) n h = (omega arith, right (over_not b 0 t n) h)
rightly b z l (more_atoms s t) n h =
    let r = rightly b z l s (λ p k. n p (inl k)) h.0 in
    let e : number s ≡ 8 → ⊥ = λ e. n _ (inr (inl (e, refl))) in
    let lt : number s < 8 = omega (arith, r.0, e) in
    (omega arith, (r.1, right (over_not _ (number s) t (λ p k. n p (inr k))) (h.1 lt)))

pub in_limits : {xs : List ℕ} {d : Draft} (q : Query) → Wholly xs (Ok d) → d.over ≡ None → q.head ≡ d.head → q.atoms ≡ d.atoms → q.count ≡ d.count → HoldsText q xs
in_limits {xs} {d} q w e f g c =
    let k : Lowest (Overs (length (names w.0) + 1) w.1) None = subst (Lowest (Overs (length (names w.0) + 1) w.1)) e w.3.over in
    let z : Atom = record { first = 0; second = 0; place = 0; automaton = record { symbols = []; follow = []; accept = 0; size = 0 } } in
    record {
      head = w.0;
      atoms = w.1;
      text = w.2;
      only = λ t g. one_query t (query_tree w.0 w.1) (g ∙ sym w.2);
      limits = λ t g p l. k p (subst (λ (y : QueryTree). Large y p) (one_query t (query_tree w.0 w.1) (g ∙ sym w.2)) l);
      holds = record {
        head = subst (λ (y : Head). Keeps y (names w.0)) (sym f) w.3.head;
        count = c ∙ w.3.count;
        few = (rightly _ z d.atoms w.1 k (w.3.rows z)).0;
        rows = λ z. subst (λ (y : List Atom). Rightly z y (length (names w.0) + 1) w.1) (sym g) (rightly _ z d.atoms w.1 k (w.3.rows z)).1;
      };
    }
