-- Classes of connected variables.
use Rattle.std.proofs.Common.{◌≡◌, ℕ, suc, ◌+◌, ◌<◌, ◌≤◌, eqb, List, [], ◌∷◌, length, get_or, sym, refl, ap, ◌∙◌, subst, inl, inr, add-one, arith}
use Rattle.std.proofs.lemmas.Bool.{cases_eq, cond-true, cond-false, eq-eqb, ne_eqb}
use Rattle.meaning.specs.Shapes.{Atoms, Has, Step, Chain, Connected, Cycle, Before}
use Rattle.shapes.specs.Classes.{Classes, Merged}
use Rattle.meaning.proofs.Chains.{connected_same, connected_step, connected_trans, connected_turn, connected_more, cycle_more, cycle_closes, cycle_opens}

module _ (q : Atoms) (k : ℕ) (class : List ℕ) (h : Classes q k class) where
  complete : (x y : ℕ) (ss : List Step) → Chain q (Before k) x ss y → get_or class x 0 ≡ get_or class y 0
  complete x y [] c = ap (λ v. get_or class v 0) c
  complete x y (s ∷ ss) c =
      let r = h.respects s.by c.0 in
      elim c.1 [
        | inl e ↦ ap (λ v. get_or class v 0) (sym e.0) ∙ r ∙ ap (λ v. get_or class v 0) e.1
        | inr e ↦ ap (λ v. get_or class v 0) (sym e.1) ∙ sym r ∙ ap (λ v. get_or class v 0) e.0
      ] ∙ complete s.to y ss c.2

  pub classes_complete : (x y : ℕ) → Connected q (Before k) x y → get_or class x 0 ≡ get_or class y 0
  classes_complete x y c = complete x y c.0 c.1

pub classes_none : (q : Atoms) (class : List ℕ) → ((v : ℕ) → v < 256 → get_or class v 0 ≡ v) → Classes q 0 class
classes_none q class h = record {
  bytes = λ i lt. absurd (omega arith);
  respects = λ i lt. absurd (omega arith);
  sound = λ x y xl yl e. ([], sym (h x xl) ∙ e ∙ h y yl);
}

pub cycle_none : (q : Atoms) → Cycle q (Before 0) → ⊥
cycle_none q c = none c.steps c.some c.joins
  where
    none : (ss : List Step) → 0 < length ss → Chain q (Before 0) c.start ss c.start → ⊥
    none [] p j = omega arith
    none (s ∷ ss) p j = omega (arith, j.0)

module _ (q : Atoms) (k : ℕ) (old new : List ℕ) (h : Classes q k old) (ol : q.first k < 256) (tl : q.second k < 256)
    (m : Merged old new (get_or old (q.first k) 0) (get_or old (q.second k) 0)) where
  moved : (v : ℕ) → v < 256 → get_or old v 0 ≡ get_or old (q.first k) 0 → get_or new v 0 ≡ get_or old (q.second k) 0
  moved v l e = m v l ∙ cond-true (eqb (get_or old v 0) (get_or old (q.first k) 0)) _ _ (eq-eqb (get_or old v 0) (get_or old (q.first k) 0) e)

  stays : (v : ℕ) → v < 256 → (get_or old v 0 ≡ get_or old (q.first k) 0 → ⊥) → get_or new v 0 ≡ get_or old v 0
  stays v l n = m v l ∙ cond-false (eqb (get_or old v 0) (get_or old (q.first k) 0)) _ _ (ne_eqb (get_or old v 0) (get_or old (q.first k) 0) n)

  -- variables of one class are of one class still
  carried : (x y : ℕ) → x < 256 → y < 256 → get_or old x 0 ≡ get_or old y 0 → get_or new x 0 ≡ get_or new y 0
  carried x y xl yl e = elim (cases_eq (get_or old x 0) (get_or old (q.first k) 0)) [
    | inl f ↦ moved x xl f ∙ sym (moved y yl (sym e ∙ f))
    | inr n ↦ stays x xl n ∙ e ∙ sym (stays y yl (λ f. n (e ∙ f)))
  ]

  two_stays : get_or new (q.second k) 0 ≡ get_or old (q.second k) 0
  two_stays = elim (cases_eq (get_or old (q.second k) 0) (get_or old (q.first k) 0)) [ inl f ↦ moved (q.second k) tl f | inr n ↦ stays (q.second k) tl n ]

  before_more : (x y : ℕ) → Connected q (Before k) x y → Connected q (Before (suc k)) x y
  before_more = connected_more q (Before k) (Before (suc k)) (λ i l. omega arith)

  link : Connected q (Before (suc k)) (q.first k) (q.second k)
  link = connected_step q (Before (suc k)) k (q.first k) (q.second k) (q.second k) (omega arith) (inl (refl, refl)) (connected_same q (Before (suc k)) (q.second k))

  -- x of the first variable's class, y of the second's
  across : (x y : ℕ) → x < 256 → y < 256 → get_or old x 0 ≡ get_or old (q.first k) 0 → get_or old y 0 ≡ get_or old (q.second k) 0 → Connected q (Before (suc k)) x y
  across x y xl yl e f =
      let S = Before (suc k) in
      connected_trans q S x (q.first k) y (before_more x (q.first k) (h.sound x (q.first k) xl ol e))
      (connected_trans q S (q.first k) (q.second k) y link (before_more (q.second k) y (h.sound (q.second k) y tl yl (sym f))))

  merged_sound : (x y : ℕ) → x < 256 → y < 256 → get_or new x 0 ≡ get_or new y 0 → Connected q (Before (suc k)) x y
  merged_sound x y xl yl e = elim (cases_eq (get_or old x 0) (get_or old (q.first k) 0)) [
    | inl f ↦ elim (cases_eq (get_or old y 0) (get_or old (q.first k) 0)) [
      | inl g ↦ before_more x y (h.sound x y xl yl (f ∙ sym g))
      | inr n ↦ across x y xl yl f (sym (stays y yl n) ∙ sym e ∙ moved x xl f)
    ]
    | inr d ↦ elim (cases_eq (get_or old y 0) (get_or old (q.first k) 0)) [
      | inl g ↦ connected_turn q (Before (suc k)) y x (across y x yl xl g (sym (stays x xl d) ∙ e ∙ moved y yl g))
      | inr n ↦ before_more x y (h.sound x y xl yl (sym (stays x xl d) ∙ e ∙ stays y yl n))
    ]
  ]

  merged : Classes q (suc k) new
  merged = record {
    bytes = λ i lt. elim (cases_eq i k) [
      | inl e ↦ (let F : ℕ → Type 0 = λ j. (q.first j < 256) × (q.second j < 256) in subst F (sym e) (ol, tl))
      | inr n ↦ h.bytes i (omega arith)
    ];
    respects = λ i lt. elim (cases_eq i k) [
      | inl e ↦ (let F : ℕ → Type 0 = λ j. get_or new (q.first j) 0 ≡ get_or new (q.second j) 0 in subst F (sym e) (moved (q.first k) ol refl ∙ sym two_stays))
      | inr n ↦ (let il : i < k = omega arith in carried (q.first i) (q.second i) (h.bytes i il).0 (h.bytes i il).1 (h.respects i il))
    ];
    sound = merged_sound;
  }

  pub classes_more : Classes q (k + 1) new
  classes_more = rw add-one merged

module _ (q : Atoms) (k : ℕ) (class : List ℕ) (h : Classes q k class) (none : Cycle q (Before k) → ⊥) where
  -- where the classes of its variables differ, atom k makes no cycle
  pub cycle_not : (get_or class (q.first k) 0 ≡ get_or class (q.second k) 0 → ⊥) → Cycle q (Before (k + 1)) → ⊥
  cycle_not n c = n (classes_complete q k class h (q.first k) (q.second k) (cycle_opens q k none (let F : ℕ → Type 0 = λ j. Cycle q (Before j) in subst F (add-one k) c)))

  -- where they are equal, it does, and is the first
  pub cycle_first : q.first k < 256 → q.second k < 256 → get_or class (q.first k) 0 ≡ get_or class (q.second k) 0
      → Cycle q (Before (suc k)) × ((j : ℕ) → j < k → Cycle q (Before (suc j)) → ⊥)
  cycle_first ol tl e = (
    cycle_closes q (Before k) (Before (suc k)) k (λ j l. omega arith) (omega arith) (λ l. omega arith) (h.sound (q.first k) (q.second k) ol tl e),
    λ j l c. none (cycle_more q (Before (suc j)) (Before k) (λ i g. omega arith) c),
  )

pub cycle_all : (q : Atoms) (k n : ℕ) → n ≤ k → (Cycle q (Before k) → ⊥) → (j : ℕ) → j < n → Cycle q (Before (suc j)) → ⊥
cycle_all q k n le none j l c = none (cycle_more q (Before (suc j)) (Before k) (λ i g. omega arith) c)

module _ (q : Atoms) (k : ℕ) (class : List ℕ) (h : Classes q k class) where
  has_class : (i x : ℕ) → i < k → Has q i x → get_or class x 0 ≡ get_or class (q.first i) 0
  has_class i x l e = elim e [
    | inl f ↦ ap (λ v. get_or class v 0) (sym f)
    | inr f ↦ ap (λ v. get_or class v 0) (sym f) ∙ sym (h.respects i l)
  ]

  has_low : (i x : ℕ) → i < k → Has q i x → x < 256
  has_low i x l e = elim e [
    | inl f ↦ (let F : ℕ → Type 0 = λ v. v < 256 in subst F f (h.bytes i l).0)
    | inr f ↦ (let F : ℕ → Type 0 = λ v. v < 256 in subst F f (h.bytes i l).1)
  ]

  pub reached_from_class : (i : ℕ) → i < k → get_or class (q.first i) 0 ≡ get_or class (q.first 0) 0 → (x y : ℕ) → Has q 0 x → Has q i y → Connected q (Before k) x y
  reached_from_class i l e x y hx hy =
      let l0 : 0 < k = omega arith in
      h.sound x y (has_low 0 x l0 hx) (has_low i y l hy) (has_class 0 x l0 hx ∙ sym e ∙ sym (has_class i y l hy))

  pub class_from_reached : (i : ℕ) → ((x y : ℕ) → Has q 0 x → Has q i y → Connected q (Before k) x y) → get_or class (q.first i) 0 ≡ get_or class (q.first 0) 0
  class_from_reached i r = sym (classes_complete q k class h (q.first 0) (q.first i) (r (q.first 0) (q.first i) (inl refl) (inl refl)))

pub classes_at : (q : Atoms) (j k : ℕ) (class : List ℕ) → j ≡ k → Classes q j class → Classes q k class
classes_at q j k class e h = let F : ℕ → Type 0 = λ i. Classes q i class in subst F e h
