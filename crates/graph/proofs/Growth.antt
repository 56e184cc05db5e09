-- What a change does to the number of edges, and one change more after others.
use Rattle.std.proofs.Common.{◌≡◌, ℕ, ◌+◌, ◌≤◌, true, false, List, [], ◌∷◌, ◌++◌, Ok, Err, sym, refl, ap, ◌∙◌, subst, arith}
use Rattle.meaning.specs.Graphs.{Graph, count, size}
use Rattle.graph.specs.declared.changes.Change.{Change}
use Rattle.graph.specs.declared.changes.Change.TheVariants.{Put as put, Strike as strike}
use Rattle.graph.specs.declared.changes.Changed.TheVariants.{Put as did_put, Strike as did_strike}
use Rattle.graph.specs.declared.edges.Edge.{Edge}
use Rattle.graph.specs.declared.outcomes.Put.TheVariants.{New, There}
use Rattle.graph.specs.declared.outcomes.Strike.TheVariants.{Gone, NotThere}
use Rattle.graph.specs.Calls.{Only}
use Rattle.graph.specs.Changes.{Applies}
use Rattle.graph.specs.Edges.{holds}
use Rattle.graph.specs.Runs.{Answer, Runs, news, gones, total, Replays}
use Rattle.graph.proofs.OneEdge.{LegalEdge, count_put, count_strike, changed_here}

-- the sizes of two graphs that differ in edges alone are counted over the same triples
size_at : (g h : Graph) → h.nodes ≡ g.nodes → h.labels ≡ g.labels → size h ≡ count g.nodes g.labels h.has
size_at g h n q = ap (λ (k : ℕ). count k h.labels h.has) n ∙ ap (λ (k : ℕ). count g.nodes k h.has) q

same_size : (g h : Graph) → h ≡ g → size h ≡ size g
same_size g h e = ap size e

put_size : (g h : Graph) (e : Edge) → holds g.has e ≡ false → Only e true g h → size h ≡ size g + 1
put_size g h e lacks only =
    let gains : holds h.has e ≡ true = changed_here e true g.has h.has only.edges in
    let in-h : LegalEdge h.nodes h.labels e = h.legal e.from e.label e.to gains in
    let in_g : LegalEdge g.nodes g.labels e
    = subst (λ (k : ℕ). LegalEdge g.nodes k e) only.labels (subst (λ (k : ℕ). LegalEdge k h.labels e) only.nodes in-h) in
    size_at g h only.nodes only.labels
    ∙ count_put g.nodes g.labels e g.has h.has in_g lacks only.edges

strike_size : (g h : Graph) (e : Edge) → holds g.has e ≡ true → Only e false g h → size h + 1 ≡ size g
strike_size g h e has only =
    ap (λ (k : ℕ). k + 1) (size_at g h only.nodes only.labels)
    ∙ sym (count_strike g.nodes g.labels e g.has h.has (g.legal e.from e.label e.to has) has only.edges)

pub change_size : (g h : Graph) (c : Change) (r : Answer) → Applies g c r h → size h + gones r ≡ size g + news r
change_size g h (put e) (Ok (did_put New)) a = let s = put_size g h e a.1 a.2 in omega arith
change_size g h (put e) (Ok (did_put There)) a = let s = same_size g h a.2 in omega arith
change_size g h (put e) (Ok (did_strike d)) a = absurd a
change_size g h (put e) (Err f) a = let s = same_size g h a.1 in omega arith
change_size g h (strike e) (Ok (did_put d)) a = absurd a
change_size g h (strike e) (Ok (did_strike Gone)) a = let s = strike_size g h e a.1 a.2 in omega arith
change_size g h (strike e) (Ok (did_strike NotThere)) a = let s = same_size g h a.2 in omega arith
change_size g h (strike e) (Err f) a = let s = same_size g h a.1 in omega arith

pub news_le : (r : Answer) → news r ≤ 1
news_le (Ok (did_put New)) = omega arith
news_le (Ok (did_put There)) = omega arith
news_le (Ok (did_strike a)) = omega arith
news_le (Err f) = omega arith

pub gones_le : (r : Answer) → gones r ≤ 1
gones_le (Ok (did_put a)) = omega arith
gones_le (Ok (did_strike Gone)) = omega arith
gones_le (Ok (did_strike NotThere)) = omega arith
gones_le (Err f) = omega arith

runs_push : (g : Graph) (cs : List Change) (rs : List Answer) (h k : Graph) (c : Change) (r : Answer)
    → Runs g cs rs h → Applies h c r k → Runs g (cs ++ c ∷ []) (rs ++ r ∷ []) k
runs_push g [] [] h k c r a b = (k, subst (λ (z : Graph). Applies z c r k) a b, refl)
runs_push g [] (x ∷ rs) h k c r a b = absurd a
runs_push g (x ∷ cs) [] h k c r a b = absurd a
runs_push g (x ∷ cs) (y ∷ rs) h k c r a b = (a.0, a.1, runs_push a.0 cs rs h k c r a.2 b)

total_push : (f : Answer → ℕ) (rs : List Answer) (r : Answer) → total f (rs ++ r ∷ []) ≡ total f rs + f r
total_push f [] r = omega arith
total_push f (x ∷ rs) r = let t = total_push f rs r in omega arith

pub replays_push : (g : Graph) (cs : List Change) (n m : ℕ) (h k : Graph) (c : Change) (r : Answer) (x y : ℕ)
    → Replays g cs n m h → Applies h c r k → x ≡ news r → y ≡ gones r → Replays g (cs ++ c ∷ []) (n + x) (m + y) k
replays_push g cs n m h k c r x y p a is_new is_gone =
    record {
      answers = p.answers ++ r ∷ [];
      runs = runs_push g cs p.answers h k c r p.runs a;
      new = (let t = total_push news p.answers r in let q = p.new in omega arith);
      gone = (let t = total_push gones p.answers r in let q = p.gone in omega arith);
      sizes = (let s = change_size h k c r a in let t = p.sizes in omega arith);
    }
