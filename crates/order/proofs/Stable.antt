-- An order that cannot fail to be one is one: each of its facts is a comparison of numbers.
use Rattle.std.proofs.Common.{◌≡◌, ℕ, ◌<◌, ◌≤◌, inl, inr, ⊎_elim, arith}
use Rattle.std.proofs.lemmas.Bool.{cases_eq, cases_lt}
use Rattle.meaning.specs.Shapes.{Atoms, Joins, Has}
use Rattle.order.specs.Ranks.{Ranks}
use Rattle.order.specs.Orders.{Ordered}

pub stable_lt : (a b : ℕ) → ((a < b → ⊥) → ⊥) → a < b
stable_lt a b h = ⊎_elim (λ (l : a < b). l) (λ (l : b ≤ a). absurd (h (λ k. omega arith))) (cases_lt a b)

pub stable_le : (a b : ℕ) → ((a ≤ b → ⊥) → ⊥) → a ≤ b
stable_le a b h = ⊎_elim (λ (l : b < a). absurd (h (λ k. omega arith))) (λ (l : a ≤ b). l) (cases_lt b a)

pub stable_eq : (a b : ℕ) → ((a ≡ b → ⊥) → ⊥) → a ≡ b
stable_eq a b h = ⊎_elim (λ (e : a ≡ b). e) (λ (d : a ≡ b → ⊥). absurd (h d)) (cases_eq a b)

stable_has : (q : Atoms) (i x : ℕ) → ((Has q i x → ⊥) → ⊥) → Has q i x
stable_has q i x h =
    ⊎_elim (λ e. inl e) (λ d. inr (stable_eq (q.second i) x (λ k. h (λ o. ⊎_elim d k o)))) (cases_eq (q.first i) x)

stable_joins : (q : Atoms) (i x y : ℕ) → ((Joins q i x y → ⊥) → ⊥) → Joins q i x y
stable_joins q i x y h = elim (cases_eq (q.first i) x) [
  | inl e ↦ elim (cases_eq (q.second i) y) [
    | inl f ↦ inl (e, f)
    | inr d ↦ inr (stable_eq (q.first i) y (λ k. h (λ o. ⊎_elim (λ a. d a.1) (λ a. k a.0) o)), stable_eq (q.second i) x (λ k. h (λ o. ⊎_elim (λ a. d a.1) (λ a. k a.1) o)))
  ]
  | inr d ↦ inr (stable_eq (q.first i) y (λ k. h (λ o. ⊎_elim (λ a. d a.0) (λ a. k a.0) o)), stable_eq (q.second i) x (λ k. h (λ o. ⊎_elim (λ a. d a.0) (λ a. k a.1) o)))
]

pub stable_ordered : (q : Atoms) (m x : ℕ) (a : Ranks) → ((Ordered q m x a → ⊥) → ⊥) → Ordered q m x a
stable_ordered q m x a h = record {
  tree = record {
    before = λ i pos l. stable_lt (a.parent i) i (λ k. h (λ o. k (o.tree.before i pos l)));
    ends = λ i l. stable_joins q (a.at i) (a.shared i) (a.fresh i) (λ k. h (λ o. k (o.tree.ends i l)));
    apart = λ i l e. h (λ o. o.tree.apart i l e);
    joined = λ i pos l. stable_has q (a.at (a.parent i)) (a.shared i) (λ k. h (λ o. k (o.tree.joined i pos l)));
    new = λ i j l b e. h (λ o. o.tree.new i j l b e);
  };
  start = stable_eq (a.shared 0) x (λ k. h (λ o. k o.start));
  into = λ i l. stable_lt (a.at i) m (λ k. h (λ o. k (o.into i l)));
  onto = λ c l. stable_lt (a.rank c) m (λ k. h (λ o. k (o.onto c l)));
  there = λ i l. stable_eq (a.rank (a.at i)) i (λ k. h (λ o. k (o.there i l)));
  back = λ c l. stable_eq (a.at (a.rank c)) c (λ k. h (λ o. k (o.back c l)));
}
