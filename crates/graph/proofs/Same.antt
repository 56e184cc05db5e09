-- The test whether an edge is the one from u under a to v.
use Rattle.std.proofs.Common.{◌≡◌, ℕ, true, false, Decides, refl, ap, ⊎_elim}
use Rattle.std.proofs.lemmas.Bool.{cases_Bool}
use Rattle.std.proofs.lemmas.Bool.Decides.{Decides-like, Decides-and, Decides-eqb}
use Rattle.graph.specs.declared.edges.Edge.{Edge}
use Rattle.graph.specs.Edges.{edge, is}

abbrev pub At : Edge → ℕ → ℕ → ℕ → Type 0
At e u a v = (e.from ≡ u) × (e.label ≡ a) × (e.to ≡ v)

pub decides_at : (e : Edge) (u a v : ℕ) → Decides (is e u a v) (At e u a v)
decides_at e u a v =
    Decides-like (is e u a v) (λ p. (p.0, p.1.0, p.1.1)) (λ p. (p.0, (p.1, p.2)))
    (Decides-and _ _ (Decides-eqb e.from u) (Decides-and _ _ (Decides-eqb e.label a) (Decides-eqb e.to v)))

pub edge_from_at : (e : Edge) (u a v : ℕ) → At e u a v → e ≡ edge u a v
edge_from_at e u a v p =
    let f = p.0 in let l = p.1 in let t = p.2 in
    let same : edge e.from e.label e.to ≡ edge u a v = cc in same

pub at_from_edge : (e : Edge) (u a v : ℕ) → e ≡ edge u a v → At e u a v
at_from_edge e u a v p = (ap (λ (x : Edge). x.from) p, ap (λ (x : Edge). x.label) p, ap (λ (x : Edge). x.to) p)

pub decides_is : (e : Edge) (u a v : ℕ) → Decides (is e u a v) (e ≡ edge u a v)
decides_is e u a v = Decides-like (is e u a v) (edge_from_at e u a v) (at_from_edge e u a v) (decides_at e u a v)

pub is_self : (e : Edge) → is e e.from e.label e.to ≡ true
is_self e = (decides_is e e.from e.label e.to).1 refl

pub is_other : (e : Edge) (u a v : ℕ) → (e ≡ edge u a v → ⊥) → is e u a v ≡ false
is_other e u a v ne =
    ⊎_elim (λ (t : is e u a v ≡ true). absurd (ne ((decides_is e u a v).0 t))) (λ f. f) (cases_Bool (is e u a v))
