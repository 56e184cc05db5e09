-- A set of edges before and after one edge comes or goes; every kind of graph uses these.
use Rattle.std.proofs.Common.{◌≡◌, ℕ, ◌+◌, ◌<◌, ◌≤◌, Bool, true, false, cond, not, Some, None, sym, ap, ◌∙◌, subst, ⊎_elim}
use Rattle.std.proofs.lemmas.Bool.{cases_Bool, lt-leb, le-leb, and_right}
use Rattle.meaning.specs.Graphs.{Edges, Legal, Graph, count, size}
use Rattle.meaning.specs.Refusals.{first}
use Rattle.meaning.proofs.Counts.{count_more}
use Rattle.meaning.proofs.Tables.{first_behind}
use Rattle.graph.specs.declared.edges.Edge.{Edge}
use Rattle.graph.specs.Edges.{edge, is, holds}
use Rattle.graph.specs.Calls.{put_refusals, edge_refusals, room_refusals}
use Rattle.graph.proofs.Same.{decides_is, is_self, is_other}

-- E' is E but for e, which it has exactly if b
abbrev pub Changed : Edge → Bool → Edges → Edges → Type 0
Changed e b E E' = (u a v : ℕ) → E' u a v ≡ cond (is e u a v) b (E u a v)

abbrev pub LegalEdge : ℕ → ℕ → Edge → Type 0
LegalEdge n q e = Legal n q e.from e.label e.to

module _ (e : Edge) (b : Bool) (E E' : Edges) (change : Changed e b E E') where
  pub changed_here : holds E' e ≡ b
  changed_here = let k = change e.from e.label e.to in let s = is_self e in cc

  pub changed_other : (u a v : ℕ) → (e ≡ edge u a v → ⊥) → E' u a v ≡ E u a v
  changed_other u a v ne = let k = change u a v in let s = is_other e u a v ne in cc

apart : (e : Edge) (u a v : ℕ) → ((u ≡ e.from) × (a ≡ e.label) × (v ≡ e.to) → ⊥) → e ≡ edge u a v → ⊥
apart e u a v ne p =
    ne (sym (ap (λ (x : Edge). x.from) p), sym (ap (λ (x : Edge). x.label) p), sym (ap (λ (x : Edge). x.to) p))

module _ (n q : ℕ) (e : Edge) (E E' : Edges) (fit : LegalEdge n q e) where
  pub count_put : holds E e ≡ false → Changed e true E E' → count n q E' ≡ count n q E + 1
  count_put lacks change =
      count_more n q e.from e.label e.to E E' fit lacks (changed_here e true E E' change)
      (λ u a v ne. changed_other e true E E' change u a v (apart e u a v ne))

  pub count_strike : holds E e ≡ true → Changed e false E E' → count n q E ≡ count n q E' + 1
  count_strike has change =
      count_more n q e.from e.label e.to E' E fit (changed_here e false E E' change) has
      (λ u a v ne. sym (changed_other e false E E' change u a v (apart e u a v ne)))

-- every edge stays legal
pub legal_changed : (n q : ℕ) (e : Edge) (b : Bool) (E E' : Edges) → LegalEdge n q e → Changed e b E E'
    → ((x : Edge) → holds E x ≡ true → LegalEdge n q x) → (x : Edge) → holds E' x ≡ true → LegalEdge n q x
legal_changed n q e b E E' fit change old x t =
    ⊎_elim
    (λ (s : is e x.from x.label x.to ≡ true).
    subst (LegalEdge n q) ((decides_is e x.from x.label x.to).0 s) fit)
    (λ (s : is e x.from x.label x.to ≡ false).
    old x (let k = change x.from x.label x.to in cc))
    (cases_Bool (is e x.from x.label x.to))

-- the table of refusals of put, from that of an edge
module _ (g : Graph) (e : Edge) where
  module _ (fine : first (edge_refusals g.nodes g.labels e) ≡ None) where
    pub put_taken_there : holds g.has e ≡ true → first (put_refusals g e) ≡ None
    put_taken_there t = first_behind (edge_refusals g.nodes g.labels e) (room_refusals g e) fine ∙ (cc)

    pub put_taken_new : size g < g.capacity → first (put_refusals g e) ≡ None
    put_taken_new l =
        let room = lt-leb g.capacity (size g) l in
        first_behind (edge_refusals g.nodes g.labels e) (room_refusals g e) fine
        ∙ ap (λ (b : Bool). cond b (Some 3) None) (and_right (not (holds g.has e)) _ room)

    pub put_full : holds g.has e ≡ false → g.capacity ≤ size g → first (put_refusals g e) ≡ Some 3
    put_full t l =
        let full = le-leb g.capacity (size g) l in
        first_behind (edge_refusals g.nodes g.labels e) (room_refusals g e) fine ∙ (cc)
