-- Heads and atoms, read or stopped.
use Rattle.std.proofs.Common.{◌≡◌, ℕ, ◌≤◌, true, false, cond, List, [], ◌∷◌, ◌++◌, length, drop, Ok, Err, sym, refl, ap, ◌∙◌, subst, append_assoc, append-nil, arith, length-append}
use Rattle.std.proofs.lemmas.Bool.Decides.{nat_tests}
use Rattle.query.specs.declared.cursor.Reader.{Reader}
use Rattle.query.specs.declared.drafts.Atom.{Atom}
use Rattle.query.specs.declared.drafts.Head.{Head}
use Rattle.automata.specs.declared.builder.Part.{Part}
use Rattle.automata.specs.declared.builder.Builder.{Builder}
use Rattle.query.specs.Grammar.{alternative, text}
use Rattle.automata.specs.Parts.{Holds}
use Rattle.query.specs.Outcome.{rest, Outcome, Eats}
use Rattle.query.specs.Queries.{Capital, HeadTree, one_name, more_names, names, Inside, nothing, filled, inside_text, inside_regex, AtomTree, atom_tree, one_atom, query_tree}
use Rattle.query.specs.Viable.{capital, start, in_head, at_atom, at_bracket, opened, at_second, dead, go, goes, Halts}
use Rattle.query.specs.Limits.{Stored, Keeps, first_of, second_of, inside_of}
use Rattle.query.specs.Readings.{Named, Enclosed, Atomed, Headed}
use Rattle.query.proofs.Stages.{capital_true, runs_head, runs_inside, halts_at, halts_under, inside_open, inside_halts}

-- What stands in brackets.
pub inside_fails : {z a n : Reader} {m m' : Builder} {y : ℕ} → Eats 93 z a false → Outcome alternative a n m m' (Err y) → Enclosed z n m m' (Err y)
inside_fails {z} {a} {n} e o = record {
  went = record { within = o.within; grows = omega (arith, e.takes.0, o.grows); text = o.text ∙ e.text };
  reads = (o.reads.0, subst (λ (w : List ℕ). Halts Inside (λ i. inside_text i ++ 93 ∷ []) opened w (rest n)) e.takes.1 (inside_halts o.reads.1 (λ bs q. e.takes.2 bs (sym e.takes.1 ∙ q))));
}

pub inside_closes : {z a n p : Reader} {m m' : Builder} {f : Part} → Eats 93 z a false → Outcome alternative a n m m' (Ok f) → Eats 93 n p true → Enclosed z p m m' (Ok f)
inside_closes {z} {a} {n} {p} e o c = record {
  went = record { within = c.within; grows = omega (arith, e.takes.0, o.grows, c.takes.0); text = c.text ∙ o.text ∙ e.text };
  reads = (filled o.reads.took.tree, sym e.takes.1 ∙ o.reads.took.splits ∙ ap (λ y. text o.reads.took.tree ++ y) c.takes.1, o.reads.holds);
}

pub inside_unclosed : {z a n p : Reader} {m m' : Builder} {f : Part} → Eats 93 z a false → Outcome alternative a n m m' (Ok f) → Eats 93 n p false → Enclosed z p m m' (Err p.at)
inside_unclosed {z} {a} {n} {p} e o c = record {
  went = record { within = c.within; grows = omega (arith, e.takes.0, o.grows, c.takes.0); text = c.text ∙ o.text ∙ e.text };
  reads = (refl, subst (λ (w : List ℕ). Halts Inside (λ i. inside_text i ++ 93 ∷ []) opened w (rest p)) e.takes.1 (subst (λ (w : List ℕ). Halts Inside (λ i. inside_text i ++ 93 ∷ []) opened (rest a) w) (sym c.takes.1) (inside_open o.reads.took c.takes.2)));
}

letter_a : Capital 65
letter_a = (omega arith, omega arith)

not_capital : (b : ℕ) → (Capital b → ⊥) → capital b ≡ false
not_capital b h = grind (arith, nat_tests)

-- An atom.
pub atom_unnamed : {z a : Reader} {y : ℕ} → Named z a (Err y) → Atomed z a (Err y)
atom_unnamed {z} {a} o = record {
  went = o.went;
  reads = (
    o.reads.0,
    halts_at at_atom (atom_tree 65 letter_a nothing 65 letter_a) [] (65 ∷ 91 ∷ 93 ∷ 65 ∷ []) (sym o.reads.1) refl refl
        (λ b bs q. simp (not_capital b (o.reads.2 b bs (sym o.reads.1 ∙ q)))) (λ e. let k : ◌≡◌ {A = ℕ} 0 1 = cc in omega arith),
  );
}

pub atom_unopened : {z a b : Reader} {u : ℕ} → Named z a (Ok u) → Eats 91 a b false → Atomed z b (Err b.at)
atom_unopened {z} {a} {b} {u} o e = record {
  went = record { within = e.within; grows = omega (arith, o.went.grows, e.takes.0); text = e.text ∙ o.went.text };
  reads = (
    refl,
    halts_at at_bracket (atom_tree u o.reads.0 nothing 65 letter_a) (u ∷ []) (91 ∷ 93 ∷ 65 ∷ []) (o.reads.1 ∙ ap (λ y. u ∷ y) (sym e.takes.1)) refl
        (ap (λ y. cond y at_bracket dead) (capital_true u o.reads.0))
        (λ x bs q. let n : (x ≡ 91 → ⊥) = λ h. e.takes.2 bs (sym e.takes.1 ∙ q ∙ ap (λ y. y ∷ bs) h) in grind (arith, nat_tests)) (λ e. let k : ◌≡◌ {A = ℕ} 0 1 = cc in omega arith),
  );
}

named_then : (u : ℕ) → Capital u → (x : List ℕ) → goes at_atom (u ∷ 91 ∷ x) ≡ goes opened x
named_then u h x = ap (λ y. goes (cond y at_bracket dead) (91 ∷ x)) (capital_true u h)

pub atom_inside : {z a b n : Reader} {u y : ℕ} {m m' : Builder} → Named z a (Ok u) → Eats 91 a b true → Enclosed b n m m' (Err y) → Atomed z n (Err y)
atom_inside {z} {a} {b} {n} {u} o e i = record {
  went = record { within = i.went.within; grows = omega (arith, o.went.grows, e.takes.0, i.went.grows); text = i.went.text ∙ e.text ∙ o.went.text };
  reads = (
    i.reads.0,
    halts_under (u ∷ 91 ∷ []) (65 ∷ []) (λ t. atom_tree u o.reads.0 t 65 letter_a)
        (λ t. ap (λ y. u ∷ 91 ∷ y) (sym (append_assoc (inside_text t) (93 ∷ []) (65 ∷ []))))
        (named_then u o.reads.0) (o.reads.1 ∙ ap (λ y. u ∷ y) e.takes.1) i.reads.1,
  );
}

pub atom_unended : {z a b n p : Reader} {u y : ℕ} {m m' : Builder} {f : Part} → Named z a (Ok u) → Eats 91 a b true → Enclosed b n m m' (Ok f) → Named n p (Err y) → Atomed z p (Err y)
atom_unended {z} {a} {b} {n} {p} {u} o e i s = record {
  went = record { within = s.went.within; grows = omega (arith, o.went.grows, e.takes.0, i.went.grows, s.went.grows); text = s.went.text ∙ i.went.text ∙ e.text ∙ o.went.text };
  reads = (
    s.reads.0,
    halts_at at_second (atom_tree u o.reads.0 i.reads.0 65 letter_a) (u ∷ 91 ∷ (inside_text i.reads.0 ++ 93 ∷ [])) (65 ∷ [])
        (o.reads.1 ∙ ap (λ y. u ∷ y) e.takes.1 ∙ ap (λ y. u ∷ 91 ∷ y) (i.reads.1 ∙ ap (λ y. inside_text i.reads.0 ++ 93 ∷ y) (sym s.reads.1) ∙ sym (append_assoc (inside_text i.reads.0) (93 ∷ []) (rest p))))
        (ap (λ y. u ∷ 91 ∷ y) (sym (append_assoc (inside_text i.reads.0) (93 ∷ []) (65 ∷ []))))
        (named_then u o.reads.0 (inside_text i.reads.0 ++ 93 ∷ []) ∙ runs_inside i.reads.0 [])
        (λ x bs q. simp (not_capital x (s.reads.2 x bs (sym s.reads.1 ∙ q)))) (λ e. let k : ◌≡◌ {A = ℕ} 0 1 = cc in omega arith),
  );
}

pub atom_read : {z a b n p : Reader} {u v : ℕ} {m m' : Builder} {f : Part} {r : Atom} → Named z a (Ok u) → Eats 91 a b true → (i : Enclosed b n m m' (Ok f)) → (s : Named n p (Ok v)) → ((t : AtomTree) → u ≡ first_of t → v ≡ second_of t → Holds m' f 1 (inside_regex (inside_of t)) → Stored r z.at t) → m.count ≡ 1 → Atomed z p (Ok r)
atom_read {z} {a} {b} {n} {p} {u} {v} {m} {m'} {f} o e i s k one = record {
  went = record { within = s.went.within; grows = omega (arith, o.went.grows, e.takes.0, i.went.grows, s.went.grows); text = s.went.text ∙ i.went.text ∙ e.text ∙ o.went.text };
  reads = (
    t,
    o.reads.1 ∙ ap (λ y. u ∷ y) e.takes.1 ∙ ap (λ y. u ∷ 91 ∷ y) (i.reads.1 ∙ ap (λ y. inside_text i.reads.0 ++ 93 ∷ y) s.reads.1 ∙ sym (append_assoc (inside_text i.reads.0) (93 ∷ v ∷ []) (rest p))),
    k t refl refl (subst (λ (y : ℕ). Holds m' f y (inside_regex i.reads.0)) one i.reads.2),
  );
}
  where
    t : AtomTree
    t = atom_tree u o.reads.0 i.reads.0 v s.reads.0

-- The head so far.
pub record HeadSoFar (old new : Reader) (o : Head) : Type 0 where
  pub within : new.at ≤ length new.text.now
  pub grows : old.at ≤ new.at
  pub text : new.text.now ≡ old.text.now
  pub few : o.count ≤ new.at
  pub tree : HeadTree
  pub splits : new.text.now ≡ names tree ++ rest new
  pub keeps : Keeps o (names tree)

rest_all : (z : Reader) → z.at ≡ 0 → rest z ≡ z.text.now
rest_all z e = ap (λ y. drop y z.text.now) e

pub head_unnamed : {z a : Reader} {y : ℕ} → Named z a (Err y) → Headed z a (Err y)
head_unnamed {z} {a} o = record {
  went = o.went;
  reads = (
    o.reads.0,
    halts_at start (query_tree (one_name 65 letter_a) (one_atom (atom_tree 65 letter_a nothing 65 letter_a))) [] (65 ∷ 58 ∷ 65 ∷ 91 ∷ 93 ∷ 65 ∷ []) (sym o.reads.1) refl refl
        (λ b bs q. simp (not_capital b (o.reads.2 b bs (sym o.reads.1 ∙ q)))) (λ e. let k : ◌≡◌ {A = ℕ} 0 1 = cc in omega arith),
  );
}

pub head_begins : {z a : Reader} {u : ℕ} {o : Head} → z.at ≡ 0 → (n : Named z a (Ok u)) → Keeps o (u ∷ []) → HeadSoFar a a o
head_begins {z} {a} {u} e n k = record {
  within = n.went.within;
  grows = omega arith;
  text = refl;
  few = omega (arith, k.count, n.reads.2);
  tree = one_name u n.reads.0;
  splits = n.went.text ∙ sym (rest_all z e) ∙ n.reads.1;
  keeps = k;
}

pub head_more : {z b m n : Reader} {u : ℕ} {o p : Head} (i : HeadSoFar z b o) → Eats 58 b m false → (k : Named m n (Ok u)) → Keeps p (names i.tree ++ u ∷ []) → HeadSoFar z n p
head_more {z} {b} {m} {n} {u} i e k g = record {
  within = k.went.within;
  grows = omega (arith, i.grows, e.takes.0, k.went.grows);
  text = k.went.text ∙ e.text ∙ i.text;
  few = omega (arith, g.count, i.keeps.count, i.few, e.takes.0, k.reads.2, length-append (names i.tree) (u ∷ []));
  tree = more_names i.tree u k.reads.0;
  splits = k.went.text ∙ e.text ∙ i.splits ∙ ap (λ y. names i.tree ++ y) (sym e.takes.1 ∙ k.reads.1) ∙ sym (append_assoc (names i.tree) (u ∷ []) (rest n));
  keeps = g;
}

no_head : (b : ℕ) → (Capital b → ⊥) → (b ≡ 58 → ⊥) → go in_head b ≡ dead
no_head b h n = grind (arith, nat_tests)

pub head_fails : {y0 z b m n : Reader} {u y : ℕ} {o : Head} → y0.at ≡ 0 → Named y0 z (Ok u) → (i : HeadSoFar z b o) → Eats 58 b m false → (k : Named m n (Err y)) → Headed y0 n (Err y)
head_fails {y0} {z} {b} {m} {n} {u} q0 f i e k = record {
  went = record { within = k.went.within; grows = omega (arith, f.went.grows, i.grows, e.takes.0, k.went.grows); text = k.went.text ∙ e.text ∙ i.text ∙ f.went.text };
  reads = (
    k.reads.0,
    halts_at in_head (query_tree i.tree (one_atom (atom_tree 65 letter_a nothing 65 letter_a))) (names i.tree) (58 ∷ 65 ∷ 91 ∷ 93 ∷ 65 ∷ [])
        (rest_all y0 q0 ∙ sym (i.text ∙ f.went.text) ∙ i.splits ∙ ap (λ y. names i.tree ++ y) (sym (k.reads.1 ∙ e.takes.1))) refl
        (ap (goes start) (sym (append-nil (names i.tree))) ∙ runs_head i.tree [])
        (λ x bs q. no_head x (k.reads.2 x bs (sym k.reads.1 ∙ q)) (λ h. e.takes.2 bs (sym (k.reads.1 ∙ e.takes.1) ∙ q ∙ ap (λ y. y ∷ bs) h)))
        (λ e. let k : ◌≡◌ {A = ℕ} 0 1 = cc in omega arith),
  );
}

pub no_names : {h : Head} → h.count ≡ 0 → length h.names ≡ 26 → Keeps h []
no_names e l = record { count = e; kept = λ i j k. absurd (omega arith); long = l }
