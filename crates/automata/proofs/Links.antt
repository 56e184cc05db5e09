-- Sets of positions, and rows that gain a set.
use Rattle.std.proofs.Common.{◌≡◌, ℕ, ◌+◌, ◌%◌, ◌<◌, Bool, true, false, cond, eqb, ◌⊎◌, ◌↔◌, List, length, get_or, set, sym, refl, ap, ◌∙◌, subst, inl, inr, mod-eq_of_lt, arith, get_or-set_other, get_or-set_same}
use lib.Bits.{bit_or}
use Rattle.std.proofs.lemmas.Bool.{cases_eq}
use Rattle.bits.specs.Bits.{bit, Has}
use Rattle.bits.proofs.Laws.{bit_zero}
use Rattle.bits.proofs.Sets.{has_only, has_or}
use Rattle.automata.specs.Sets.{Linked}

pub linked_skip : (old now : List ℕ) (p last first : ℕ) → (Has last p → ⊥) → Linked old now p last first → Linked old now (p + 1) last first
linked_skip old now p last first n l x q = (
  (λ h. elim ((l x q).0 h) [ inl k ↦ inl k | inr k ↦ inr (let j = k.0 in omega arith, k.1, k.2) ]),
  elim [ inl k ↦ (l x q).1 (inl k) | inr k ↦ at k (cases_eq x p) ],
)
  where
    at : (x < p + 1) × Has last x × Has first q → (x ≡ p) ⊎ (x ≡ p → ⊥) → Has (get_or now x 0) q
    at k (inl e) = absurd (n (subst (Has last) e k.1))
    at k (inr e) = (l x q).1 (inr (let j = k.0 in omega arith, k.1, k.2))

pub linked_more : (old now : List ℕ) (p last first : ℕ) → p < length now → Has last p → Linked old now p last first → Linked old (set now p (bit_or (get_or now p 0) first)) (p + 1) last first
linked_more old now p last first lt h l x q = at (cases_eq x p)
  where
    same : x ≡ p → get_or (set now p (bit_or (get_or now p 0) first)) x 0 ≡ bit_or (get_or now x 0) first
    same e = rw e (get_or-set_same now p (bit_or (get_or now p 0) first) 0 lt)

    to : (x ≡ p) → Has (bit_or (get_or now x 0) first) q → Has (get_or old x 0) q ⊎ ((x < p + 1) × Has last x × Has first q)
    to e g = elim ((has_or (get_or now x 0) first q).0 g) [
      | inl k ↦ elim ((l x q).0 k) [ inl j ↦ inl j | inr j ↦ inr (let i = j.0 in omega arith, j.1, j.2) ]
      | inr k ↦ inr (omega arith, subst (Has last) (sym e) h, k)
    ]

    from : (x ≡ p) → Has (get_or old x 0) q ⊎ ((x < p + 1) × Has last x × Has first q) → Has (bit_or (get_or now x 0) first) q
    from e (inl k) = (has_or (get_or now x 0) first q).1 (inl ((l x q).1 (inl k)))
    from e (inr k) = (has_or (get_or now x 0) first q).1 (inr k.2)

    at : (x ≡ p) ⊎ (x ≡ p → ⊥) → Has (get_or (set now p (bit_or (get_or now p 0) first)) x 0) q ↔ (Has (get_or old x 0) q ⊎ ((x < p + 1) × Has last x × Has first q))
    at (inl e) = ((λ g. to e (subst (λ (y : ℕ). Has y q) (same e) g)), λ g. subst (λ (y : ℕ). Has y q) (sym (same e)) (from e g))
    at (inr n) =
        let o : get_or (set now p (bit_or (get_or now p 0) first)) x 0 ≡ get_or now x 0 = get_or-set_other now p x (bit_or (get_or now p 0) first) 0 n in (
          (λ g. elim ((l x q).0 (subst (λ (y : ℕ). Has y q) o g)) [ inl k ↦ inl k | inr k ↦ inr (let i = k.0 in omega arith, k.1, k.2) ]),
          λ g. subst (λ (y : ℕ). Has y q) (sym o) ((l x q).1 (elim g [ inl k ↦ inl k | inr k ↦ inr (let i = k.0 in omega arith, k.1, k.2) ])),
        )

pub has_marked : (w b : ℕ) → b < 64 → ((j : ℕ) → bit w j ≡ cond (eqb (b % 64) j) true (bit 0 j)) → (p : ℕ) → p < 64 → Has w p ↔ (p ≡ b)
has_marked w b l marks p h =
    has_only w b p
    (marks p ∙ ap (λ (z : ℕ). cond (eqb z p) true (bit 0 p)) (mod-eq_of_lt l) ∙ ap (λ (z : Bool). cond (eqb b p) true z) (bit_zero p) ∙ cond_test (eqb b p))
  where
    cond_test : (t : Bool) → cond t true false ≡ t
    cond_test true = refl
    cond_test false = refl
