-- Fitting by the places of variables is fitting by the variables.
use Rattle.std.proofs.Common.{◌≡◌, ℕ, ◌<◌, Bool, true, cond, eqb, List, length, get_or, take, Some, None, Option, IfSome, sym, ap, ◌∙◌, subst, inl, inr, arith, length-take, get_or-take}
use Rattle.std.proofs.lemmas.Bool.{cases_eq, cases_lt}
use Rattle.meaning.specs.Assignments.{Relations}
use Rattle.meaning.specs.Shapes.{Atoms, Has}
use Rattle.meaning.specs.Tuples.{node, Lowest, Within}
use Rattle.shapes.specs.declared.checks.Ends.{Ends}
use Rattle.shapes.specs.Checks.{of, blank, Absent}
use Rattle.search.specs.declared.places.Places.{Places as Kept}
use Rattle.search.specs.Places as by_place
use Rattle.search.specs.Heads.{placed, PlaceOf, RootOf, Placed}
use Rattle.bits.specs.Rows.{width}
use Rattle.joins.specs.Layouts.{tables}
use Rattle.parse.specs.Shaping.{no_atom, pair}
use Rattle.parse.proofs.Facts.{count_few, head_few, head_some, head_distinct, names_long, start_used}
use Rattle.record.specs.declared.records.Query.{Query}
use Rattle.record.specs.Calls.{Fits, Fitting, atoms, head}

module _ (h : List ℕ) (e : List Ends) (p : Kept) (q : Atoms) (m : ℕ) (t : Relations) (n : ℕ)
    (pl : Placed h e p) (count : length e ≡ m) (first : (c : ℕ) → c < m → (of e).first c ≡ q.first c) (second : (c : ℕ) → c < m → (of e).second c ≡ q.second c)
    (distinct : (i j : ℕ) → i < j → j < length h → get_or h i 0 ≡ get_or h j 0 → ⊥) (root : (placed p).root < m) where
  -- the first place of a variable is its only one
  only : (x i k : ℕ) → PlaceOf h x k → i < length h → get_or h i 0 ≡ x → k ≡ i
  only x i k o il hx = elim (cases_lt k i) [
    | inl l ↦ absurd (distinct k i l il (o.found (omega arith) ∙ sym hx))
    | inr g ↦ elim (cases_eq k i) [ inl z ↦ z | inr z ↦ absurd (o.first i (omega arith) hx) ]
  ]

  has_to : (c x : ℕ) → c < m → Has q c x → Has (of e) c x
  has_to c x l a = elim a [ inl z ↦ inl (first c l ∙ z) | inr z ↦ inr (second c l ∙ z) ]

  has_from : (c x : ℕ) → c < m → Has (of e) c x → Has q c x
  has_from c x l a = elim a [ inl z ↦ inl (sym (first c l) ∙ z) | inr z ↦ inr (sym (second c l) ∙ z) ]

  side : (placed p).side ≡ eqb (get_or h 0 0) (q.first (placed p).root)
  side = pl.side (omega arith) ∙ ap (eqb (get_or h 0 0)) (first (placed p).root root)

  pub fits_from : (xs : List ℕ) → by_place.Fits (placed p) t n (length h) xs → Fits h q m t n xs
  fits_from xs f = record {
    within = f.within;
    pairs = λ c i j l il jl a b.
        let ei = only ((of e).first c) i ((placed p).first c) (pl.first c (omega arith)) il (sym a ∙ sym (first c l)) in
        let ej = only ((of e).second c) j ((placed p).second c) (pl.second c (omega arith)) jl (sym b ∙ sym (second c l)) in
        ap (λ (z : ℕ). t c (node xs z) (node xs j)) (sym ei) ∙ ap (λ (z : ℕ). t c (node xs ((placed p).first c)) (node xs z)) (sym ej)
        ∙ f.pairs c (omega (arith, pl.count)) (omega arith) (omega arith);
    stands = λ c l has none.
        let same : (placed p).root ≡ c = elim (cases_lt (placed p).root c) [
          | inl lt ↦ absurd (none (placed p).root lt (has_from (placed p).root (get_or h 0 0) root (pl.root.found (omega arith))))
          | inr ge ↦ elim (cases_eq (placed p).root c) [ inl z ↦ z | inr z ↦ absurd (pl.root.first c (omega arith) (has_to c (get_or h 0 0) l has)) ]
        ] in
        let o = f.stands in
        let F : ℕ → Type 0 = λ y. (u : ℕ) × (v : ℕ) × (t y u v ≡ true) × (cond (eqb (get_or h 0 0) (q.first y)) u v ≡ node xs 0) in
        subst F same (o.0, o.1, o.2, ap (λ (b : Bool). cond b o.0 o.1) (sym side) ∙ o.3);
  }

  pub fits_to : (xs : List ℕ) → Fits h q m t n xs → by_place.Fits (placed p) t n (length h) xs
  fits_to xs f = record {
    within = f.within;
    pairs = λ c l il jl.
        let cm : c < m = omega (arith, pl.count) in
        f.pairs c ((placed p).first c) ((placed p).second c) cm il jl
        (sym (first c cm) ∙ sym ((pl.first c (omega arith)).found il)) (sym (second c cm) ∙ sym ((pl.second c (omega arith)).found jl));
    stands =
        let o = f.stands (placed p).root root (has_from (placed p).root (get_or h 0 0) root (pl.root.found (omega arith))) (λ d l has. pl.root.first d l (has_to d (get_or h 0 0) (omega arith) has)) in
        (o.0, o.1, o.2, ap (λ (b : Bool). cond b o.0 o.1) side ∙ o.3);
  }

  pub lowest_from : (noted : Bool) (last : List ℕ) (r : Option (List ℕ)) → Lowest (by_place.Fits (placed p) t n (length h)) (length h) noted last r → Lowest (Fits h q m t n) (length h) noted last r
  lowest_from noted last (Some xs) l = record { fits = fits_from xs l.fits; above = l.above; least = λ ys f ab. l.least ys (fits_to ys f) ab }
  lowest_from noted last None l = λ ys f ab. l ys (fits_to ys f) ab

-- an atom has the first free variable, so there is a first one that has it
pub root_below : (e : List Ends) (x c m : ℕ) → length e ≡ m → RootOf e x c → (Absent e x → ⊥) → c < m
root_below e x c m long r used = elim (cases_lt c m) [ inl l ↦ l | inr g ↦ absurd (used (λ d l has. r.first d (omega arith) has)) ]

pub head_long : (q : Query) → length (head q) ≡ q.parsed.query.head.count
head_long q = omega (arith, length-take q.parsed.query.head.count q.parsed.query.head.names, head_few q.parsed q.held, names_long q.parsed q.held)

-- the last tuple that a record notes is of nodes
pub inside_last : (q : Query) (n h : ℕ) → n ≡ q.nodes → h ≡ q.parsed.query.head.count → (o : Option (List ℕ)) → q.last ≡ o → IfSome o (Within n h)
inside_last q n h en eh None e = tt
inside_last q n h en eh (Some t) e = λ i l. omega (arith, en, q.inside t i (e, omega (arith, l, eh)))

-- what the code finds in a record's query
module _ (q : Query) (e : List Ends) (long : length e ≡ 8) (each : (d : Ends) (i : ℕ) → i < 8 → get_or e i d ≡ pair (get_or q.parsed.query.atoms i no_atom)) where
  abbrev m : ℕ
  m = q.parsed.query.count

  abbrev h : ℕ
  h = q.parsed.query.head.count

  abbrev k : List Ends
  k = take q.parsed.query.count e

  pub pairs_long : length k ≡ m
  pairs_long = omega (arith, length-take m e, count_few q.parsed q.held)

  head_at : (i : ℕ) → i < h → get_or (head q) i 0 ≡ get_or q.parsed.query.head.names i 0
  head_at i l = get_or-take h q.parsed.query.head.names i 0 l

  pair_at : (c : ℕ) → c < m → get_or k c blank ≡ pair (get_or q.parsed.query.atoms c no_atom)
  pair_at c l = get_or-take m e c blank l ∙ each blank c (omega (arith, count_few q.parsed q.held))

  pub root_here : (p : Kept) → Placed (head q) k p → (placed p).root < m
  root_here p pl =
      root_below k (get_or (head q) 0 0) (placed p).root m pairs_long pl.root
      (λ absent. start_used q.parsed q.held e long each (subst (Absent k) (head_at 0 (head_some q.parsed q.held)) absent))

  -- the places and the rows are those of the record
  pub lowest_here : (p : Kept) → Placed (head q) k p → (s : List ℕ) (n w : ℕ) → n ≡ q.nodes → w ≡ width q.nodes → (noted : Bool) (last : List ℕ) (r : Option (List ℕ))
      → Lowest (by_place.Fits (placed p) (tables s p.atoms n w) n p.free) p.free noted last r → Lowest (Fitting q s) (length (head q)) noted last r
  lowest_here p pl s n w nodes wide noted last r l =
      let P = λ (a x y z : ℕ). Lowest (by_place.Fits (placed p) (tables s a x y) x z) z noted last r in
      let l₁ = subst (λ (y : ℕ). P y n w p.free) (pl.count ∙ pairs_long) l in
      let l₂ = subst (λ (y : ℕ). P m y w p.free) nodes l₁ in
      let l₃ = subst (λ (y : ℕ). P m q.nodes y p.free) wide l₂ in
      let l₄ = subst (λ (y : ℕ). P m q.nodes (width q.nodes) y) pl.free l₃ in
      lowest_from (head q) k p (atoms q) m (tables s m q.nodes (width q.nodes)) q.nodes pl pairs_long
      (λ c b. ap (λ (y : Ends). y.first) (pair_at c b)) (λ c b. ap (λ (y : Ends). y.second) (pair_at c b))
      (λ i j ij jl same. let hl = head_long q in head_distinct q.parsed q.held i j ij (omega arith) (sym (head_at i (omega arith)) ∙ same ∙ head_at j (omega arith)))
      (root_here p pl) noted last r l₄
