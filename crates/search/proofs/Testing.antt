-- What the tests of the workspace answer, way by way.
use Rattle.std.proofs.Common.{◌≡◌, ℕ, ◌+◌, ◌*◌, ◌<◌, ◌≤◌, Bool, true, false, cond, ltb, List, length, sym, refl, ap, ◌∙◌, subst, arith}
use Rattle.std.proofs.lemmas.Bool.{lt-ltb, le-ltb, and_left, and_right, both_ways}
use Rattle.std.proofs.lemmas.List.FromFn.{length-range_with_len, get_or-range_with_len}
use Rattle.std.specs.List.{HoldsAt, AllWithin, range_with_len}
use Rattle.std.specs.Bool.{MatchBool, Decides}
use Rattle.bits.specs.Rows.{row_bit}
use Rattle.meaning.specs.Assignments.{Relations}
use Rattle.meaning.specs.Tuples.{node}
use Rattle.joins.specs.Layouts.{tables}
use Rattle.joins.proofs.Placing.{parts}
use Rattle.search.specs.Places.{Places, Stands, Goes}

module _ (s : List ℕ) (m n w c u v : ℕ) where
  pub tables_row : n ≤ u → tables s m n w c u v ≡ false
  unfolding tables
  tables_row h = and_right (ltb c m) _ (and_left (ltb u n) _ (le-ltb u n h))

  pub tables_column : n ≤ v → tables s m n w c u v ≡ false
  unfolding tables
  tables_column h = and_right (ltb c m) _ (and_right (ltb u n) _ (and_left (ltb v n) _ (le-ltb v n h)))

  pub tables_read : c < m → u < n → v < n → tables s m n w c u v ≡ row_bit s (c * (n * w) + u * w) v
  unfolding tables
  tables_read a b d = rw (lt-ltb c m a, lt-ltb u n b, lt-ltb v n d) refl

-- no pair has x on the side
pub stands_none : (s : List ℕ) (m n w c : ℕ) (first : Bool) (x : ℕ) → ((y : ℕ) → y < n → tables s m n w c (cond first x y) (cond first y x) ≡ false)
    → Stands (tables s m n w) c first x → ⊥
stands_none s m n w c true x all o =
    let i = parts s m n w c o.0 o.1 o.2 in
    both_ways (tables s m n w c x o.1) (all o.1 i.column) (ap (λ z. tables s m n w c z o.1) (sym o.3) ∙ o.2)
stands_none s m n w c false x all o =
    let i = parts s m n w c o.0 o.1 o.2 in
    both_ways (tables s m n w c o.0 x) (all o.0 i.row) (ap (λ z. tables s m n w c o.0 z) (sym o.3) ∙ o.2)

pub stands_some : (t : Relations) (c : ℕ) (first : Bool) (x y : ℕ) → t c (cond first x y) (cond first y x) ≡ true → Stands t c first x
stands_some t c true x y h = (x, y, h, refl)
stands_some t c false x y h = (y, x, h, refl)

-- the nodes at the places 0 .. k decide whether place k goes
pub goes_prefix : (p : Places) (t : Relations) (k : ℕ) (xs ys : List ℕ) → ((i : ℕ) → i ≤ k → node xs i ≡ node ys i) → Goes p t k ys → Goes p t k xs
goes_prefix p t k xs ys same g = record {
  pairs = λ c ca a b. ap (λ z. t c z (node xs (p.second c))) (same (p.first c) a) ∙ ap (λ z. t c (node ys (p.first c)) z) (same (p.second c) b) ∙ g.pairs c ca a b;
  stands = λ e. (let F : ℕ → Type 0 = λ z. Stands t p.root p.side z in subst F (sym (same 0 (omega arith))) (g.stands e));
}

-- what `any` over the numbers below n says of them
pub any_below : (P Q : ℕ → Type 0) (n : ℕ) (r : Bool)
    → MatchBool r ((k : ℕ) × (k < length (range_with_len 0 n)) × HoldsAt P (range_with_len 0 n) k) (AllWithin Q (range_with_len 0 n) 0 (length (range_with_len 0 n)))
    → MatchBool r ((y : ℕ) × (y < n) × P y) ((y : ℕ) → y < n → Q y)
any_below P Q n true h =
    let low = subst (λ z. h.0 < z) (length-range_with_len 0 n) h.1 in
    (h.0, low, subst P (get_or-range_with_len 0 n h.0 0 low ∙ omega arith) (h.2 0))
any_below P Q n false h = λ y low. subst Q (get_or-range_with_len 0 n y 0 low ∙ omega arith) (h y 0 (omega arith) (subst (λ z. y < z) (sym (length-range_with_len 0 n)) low))

-- the test of all pairs of x decides whether x stands on the side
pub stands_tested : (s : List ℕ) (m n w c : ℕ) (first : Bool) (x : ℕ) (r : Bool)
    → MatchBool r ((y : ℕ) × (y < n) × (tables s m n w c (cond first x y) (cond first y x) ≡ true)) ((y : ℕ) → y < n → tables s m n w c (cond first x y) (cond first y x) ≡ false)
    → Decides r (Stands (tables s m n w) c first x)
stands_tested s m n w c first x true h = ((λ _. stands_some (tables s m n w) c first x h.0 h.2), λ _. refl)
stands_tested s m n w c first x false h = ((λ e. absurd (both_ways false refl e)), λ o. absurd (stands_none s m n w c first x h o))
