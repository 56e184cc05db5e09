-- The machine over bytes reads the texts of the trees, and where a reader stops.
use Rattle.std.proofs.Common.{◌≡◌, ℕ, suc, ◌≤◌, false, List, [], ◌∷◌, ◌++◌, sym, refl, ap, ◌∙◌, append_assoc, append-nil, arith}
use Rattle.std.proofs.lemmas.Bool.Decides.{nat_tests}
use Rattle.std.proofs.lemmas.Bool.{le-leb}
use Rattle.query.specs.Grammar.{Layer, alternative, step, unit, atom, kind, Tree, letter, dot, group, plain, star, plus, opt, one_step, joined, one_sequence, either, text, goes_on, expects, after, dead, move, run, Took, Halted}

pub kind_letter : (b : ℕ) → 97 ≤ b → b ≤ 122 → kind b ≡ atom
kind_letter b h k = simp (le-leb 97 b h, le-leb b 122 k)

-- The machine reads a tree's text.
pub runs : {l : Layer} (t : Tree l) (d : ℕ) (rest : List ℕ) → run (expects d) (text t ++ rest) ≡ run (after d) rest
runs (letter b h k) d rest = ap (λ x. run (move (expects d) x) rest) (kind_letter b h k)
runs dot d rest = refl
runs (group t) d rest = rw append_assoc (runs t (suc d) (41 ∷ rest))
runs (plain t) d rest = runs t d rest
runs (star t) d rest = rw append_assoc (runs t d (42 ∷ rest))
runs (plus t) d rest = rw append_assoc (runs t d (43 ∷ rest))
runs (opt t) d rest = rw append_assoc (runs t d (63 ∷ rest))
runs (one_step t) d rest = runs t d rest
runs (joined s t) d rest = rw append_assoc (runs s d (47 ∷ (text t ++ rest)) ∙ runs t d rest)
runs (one_sequence t) d rest = runs t d rest
runs (either s t) d rest = rw append_assoc (runs s d (124 ∷ (text t ++ rest)) ∙ runs t d rest)

pub run_all : {l : Layer} (t : Tree l) (d : ℕ) → run (expects d) (text t) ≡ after d
run_all t d = ap (run (expects d)) (sym (append-nil (text t))) ∙ runs t d []

pub expects_not_after : {d k : ℕ} → expects d ≡ after k → ⊥
expects_not_after e = let o : ◌≡◌ {A = ℕ} 0 1 = cc in omega arith

pub after_same : {d k : ℕ} → after d ≡ after k → d ≡ k
after_same e = cc

-- Nothing begins a unit here.
pub halt_here : (before : List ℕ) → ((d b : ℕ) (bs : List ℕ) → before ≡ b ∷ bs → move (expects d) (kind b) ≡ dead) → Halted unit before before
halt_here before h = record { front = []; splits = refl; tree = dot; more = 46 ∷ []; viable = refl; dies = h; short = λ d k g e. expects_not_after e }

pub halt_plain : {b r : List ℕ} → Halted unit b r → Halted step b r
halt_plain h = record { front = h.front; splits = h.splits; tree = plain h.tree; more = h.more; viable = h.viable; dies = h.dies; short = h.short }

-- It stops inside brackets.
pub halt_group : (b mid r : List ℕ) → b ≡ 40 ∷ mid → Halted alternative mid r → Halted unit b r
halt_group b mid r e h = record {
  front = 40 ∷ h.front;
  splits = e ∙ ap (λ x. 40 ∷ x) h.splits;
  tree = group h.tree;
  more = h.more ++ 41 ∷ [];
  viable = ap (λ x. 40 ∷ x) (ap (λ x. x ++ 41 ∷ []) h.viable ∙ append_assoc h.front h.more (41 ∷ []));
  dies = λ d x bs q. h.dies (suc d) x bs q;
  short = λ d k g q. h.short (suc d) k (omega arith) q;
}

-- It stops where the bracket should close.
pub halt_open : (b mid r : List ℕ) → b ≡ 40 ∷ mid → (t : Took alternative mid r) → ((d x : ℕ) (bs : List ℕ) → r ≡ x ∷ bs → move (after (suc d)) (kind x) ≡ dead) → Halted unit b r
halt_open b mid r e t h = record {
  front = 40 ∷ text t.tree;
  splits = e ∙ ap (λ x. 40 ∷ x) t.splits;
  tree = group t.tree;
  more = 41 ∷ [];
  viable = refl;
  dies = λ d x bs q. runs t.tree (suc d) (x ∷ []) ∙ h d x bs q;
  short = λ d k g q. let o : suc d ≡ k = after_same (sym (run_all t.tree (suc d)) ∙ q) in omega arith;
}

-- What a byte is not.
pub not_closing : (x d : ℕ) → goes_on alternative (kind x) ≡ false → (x ≡ 41 → ⊥) → move (after (suc d)) (kind x) ≡ dead
not_closing x d h n = grind (arith, nat_tests)
