-- A listing begins, goes on, and is whole.
use Rattle.std.proofs.Common.{◌≡◌, ℕ, ◌+◌, ◌<◌, Bool, true, false, cond, eqb, ◌↔◌, List, [], ◌∷◌, length, get_or, take, IfOk, Some, Ok, Err, Option, Result, sym, refl, ap, ◌∙◌, subst, inl, inr, ⊎_elim, arith, get_or-take}
use Rattle.std.proofs.lemmas.List.{get_or_default, same_lists}
use Rattle.std.proofs.lemmas.Bool.{both_ways}
use Rattle.bits.specs.Rows.{width}
use Rattle.meaning.specs.Answers as meant
use Rattle.meaning.specs.Answers.{Answer, Kept}
use Rattle.meaning.specs.Assignments.{Relations}
use Rattle.meaning.specs.Graphs.{Graph}
use Rattle.meaning.specs.Listings.{Outcome, gave, ended, given, AboveNewest, Gives, Nexts, Whole}
use Rattle.meaning.specs.Shapes.{Atoms, Has, Joins}
use Rattle.meaning.specs.Tuples.{Lower, Above, last_of, noted_of}
use Rattle.meaning.proofs.Listing.{whole_from}
use Rattle.shapes.specs.declared.checks.Ends.{Ends}
use Rattle.shapes.specs.Checks.{of, blank}
use Rattle.order.specs.Ranks.{ranks}
use Rattle.query.specs.Limits.{number}
use Rattle.query.specs.Queries.{names}
use Rattle.parse.specs.declared.Parsed.{Parsed}
use Rattle.parse.specs.Meanings.{meaning}
use Rattle.parse.specs.Parsing.{Accepted}
use Rattle.parse.specs.Shaping.{ends, no_atom}
use Rattle.parse.proofs.Facts.{head_few}
use Rattle.parse.proofs.Shaped.{ends_at, ends_long, names_some}
use Rattle.joins.specs.Layouts.{tables}
use Rattle.joins.proofs.Placing.{parts, whole}
use Rattle.engine.specs.Filled.{Filled}
use Rattle.record.specs.declared.calls.Fault.{Fault}
use Rattle.record.specs.declared.calls.Fault.TheVariants.{ShortWorkspace, ShortAnswer}
use Rattle.record.specs.declared.records.Query.{Query}
use Rattle.record.specs.Calls as calls
use Rattle.record.specs.declared.records.Listing.{Listing}
use Rattle.record.specs.declared.records.Opened.{Opened}
use Rattle.record.specs.Calls.{Calibrated, Calibrates, Fits, Fitting, Gave, Unchanged, atoms, head}
use Rattle.record.specs.Listing.{Notes, Lists, GoesOn, Begins}
use Rattle.record.proofs.Answering.{answers_from, answers_to}
use Rattle.record.proofs.Fitness.{head_long}

-- fitting sees the atoms only
fits_as : (h : List ℕ) (p q : Atoms) (m : ℕ) (t : Relations) (n : ℕ) → ((c : ℕ) → c < m → p.first c ≡ q.first c) → ((c : ℕ) → c < m → p.second c ≡ q.second c)
    → (xs : List ℕ) → Fits h p m t n xs → Fits h q m t n xs
fits_as h p q m t n first second xs f = record {
  within = f.within;
  pairs = λ c i j l il jl a b. f.pairs c i j l il jl (first c l ∙ a) (second c l ∙ b);
  stands = λ c l has none.
      let o = f.stands c l (⊎_elim (λ e. inl (first c l ∙ e)) (λ e. inr (second c l ∙ e)) has) (λ d b k. none d b (⊎_elim (λ e. inl (sym (first d (omega arith)) ∙ e)) (λ e. inr (sym (second d (omega arith)) ∙ e)) k)) in
      (o.0, o.1, o.2, ap (λ (y : ℕ). cond (eqb (get_or h 0 0) y) o.0 o.1) (sym (first c l)) ∙ o.3);
}

module _ (q : Query) (xs : List ℕ) (a : Accepted xs q.parsed) where
  head_same : head q ≡ names a.head
  head_same =
      let l = head_long q in
      let c = a.holds.head.count in
      same_lists (head q) (names a.head) (l ∙ c)
      (λ i d il. sameD i d il (omega arith))
    where
      sameD : (i d : ℕ) → i < length (head q) → i < length (names a.head) → get_or (head q) i d ≡ get_or (names a.head) i d
      sameD i d il jl =
          let few = head_few q.parsed q.held in
          let l = head_long q in
          get_or_default (head q) i d 0 il
          ∙ get_or-take q.parsed.query.head.count q.parsed.query.head.names i 0 (omega arith)
          ∙ a.holds.head.kept i (omega arith) jl
          ∙ get_or_default (names a.head) i 0 d jl

  first_same : (c : ℕ) → c < number a.atoms → (atoms q).first c ≡ (of (ends a.atoms)).first c
  first_same c l = ap (λ (y : Ends). y.first) (sym (ends_at no_atom q.parsed.query.atoms (length (names a.head) + 1) a.atoms (a.holds.rows no_atom) blank c l))

  second_same : (c : ℕ) → c < number a.atoms → (atoms q).second c ≡ (of (ends a.atoms)).second c
  second_same c l = ap (λ (y : Ends). y.second) (sym (ends_at no_atom q.parsed.query.atoms (length (names a.head) + 1) a.atoms (a.holds.rows no_atom) blank c l))

  module _ (g : Graph) (s : List ℕ) (nodes : q.nodes ≡ g.nodes)
      (kept : (c u v : ℕ) → c < number a.atoms → (tables s q.parsed.query.count q.nodes (width q.nodes) c u v ≡ true) ↔ Kept g (meaning a.head a.atoms) c u v) where
    abbrev t : Relations
    t = tables s q.parsed.query.count q.nodes (width q.nodes)

    fits_names : (ys : List ℕ) → Fitting q s ys ↔ Fits (names a.head) (of (ends a.atoms)) (number a.atoms) t q.nodes ys
    fits_names ys =
        let F : List ℕ → Type 0 = λ h. Fits h (atoms q) q.parsed.query.count t q.nodes ys in
        let G : ℕ → Type 0 = λ m. Fits (names a.head) (atoms q) m t q.nodes ys in (
          (λ f. fits_as (names a.head) (atoms q) (of (ends a.atoms)) (number a.atoms) t q.nodes first_same second_same ys (subst G a.holds.count (subst F head_same f))),
          λ f. subst F (sym head_same) (subst G (sym a.holds.count) (fits_as (names a.head) (of (ends a.atoms)) (atoms q) (number a.atoms) t q.nodes (λ c l. sym (first_same c l)) (λ c l. sym (second_same c l)) ys f)),
        )

    pub fitting_answers : (ys : List ℕ) → Fitting q s ys ↔ Answer g (meaning a.head a.atoms) ys
    fitting_answers ys =
        let Q = meaning a.head a.atoms in
        let R = ranks q.parsed.order in
        let x = get_or (names a.head) 0 0 in
        let long = ends_long a.atoms in
        let distinct = λ (i j : ℕ) (ij : i < j) (jl : j < length (names a.head)) (e : get_or (names a.head) i 0 ≡ get_or (names a.head) j 0). a.shape.0 j jl (i, ij, e) in
        let used = λ (i : ℕ) (il : i < length (names a.head)) (none : (c : ℕ) → c < number a.atoms → Has (of (ends a.atoms)) c (get_or (names a.head) i 0) → ⊥). a.shape.1 i il (λ c l. none c (omega arith)) in
        let connex = λ (i : ℕ) (il : i < length (names a.head)) (pos : 0 < i) (none : (j c : ℕ) → (j < i) × (c < number a.atoms) × Joins (of (ends a.atoms)) c (get_or (names a.head) j 0) (get_or (names a.head) i 0) → ⊥).
        a.shape.4 i il (pos, λ j c e. none j c (e.0, omega (arith, e.1), e.2)) in
        let F : ℕ → Type 0 = λ n. Fits (names a.head) (of (ends a.atoms)) (number a.atoms) t n ys in (
          (λ f. answers_from g Q t kept x R a.arranged.ordered distinct used connex (names_some a.head) q.nodes ys ((fits_names ys).0 f)),
          λ w. (fits_names ys).1 (subst F (sym nodes) (answers_to g Q t kept x R a.arranged.ordered distinct used connex (names_some a.head) ys w)),
        )

    pub law_from : (os : List Outcome) → Nexts (Fitting q s) (length (head q)) os → Whole (Answer g (meaning a.head a.atoms)) (length (names a.head)) os
    law_from os nexts =
        let H : ℕ → Type 0 = λ h. Nexts (Fitting q s) h os in
        whole_from (Answer g (meaning a.head a.atoms)) (Fitting q s) (length (names a.head)) (λ ys. (fitting_answers ys).0) (λ ys. (fitting_answers ys).1) os (subst H (ap length head_same) nexts)

-- the newest tuple given is the one that the record notes
above_newest : (h : ℕ) (o : Option (List ℕ)) (g : List (List ℕ)) (ys : List ℕ) → Notes o g → AboveNewest h g ys → Above h (noted_of o) (last_of o) ys
above_newest h o [] ys n a e = absurd (both_ways false refl (sym (ap noted_of n) ∙ e))
above_newest h o (x ∷ g) ys n a e = let F : List ℕ → Type 0 = λ z. Lower h z ys in subst F (sym (ap last_of n)) a

newest_above : (h : ℕ) (o : Option (List ℕ)) (g : List (List ℕ)) (ys : List ℕ) → Notes o g → Above h (noted_of o) (last_of o) ys → AboveNewest h g ys
newest_above h o [] ys n a = tt
newest_above h o (x ∷ g) ys n a = let F : List ℕ → Type 0 = λ z. Lower h z ys in subst F (ap last_of n) (a (ap noted_of n))

notes_kept : (o o' : Option (List ℕ)) (g : List (List ℕ)) → o' ≡ o → Notes o g → Notes o' g
notes_kept o o' [] e n = e ∙ n
notes_kept o o' (x ∷ g) e n = e ∙ n

-- the same listing, with another record that has the same query and nodes
moved : (g : Graph) (xs : List ℕ) (os os' : List Outcome) (q q' : Query) (s : List ℕ) → q'.parsed ≡ q.parsed → q'.nodes ≡ q.nodes → Lists g xs os q s
    → Notes q'.last (given os') → Nexts (Fitting q s) (length (head q)) os' → Lists g xs os' q' s
moved g xs os os' q q' s ep en l notes nexts =
    let B : Parsed → ℕ → Type 0 = λ p n. (b : Accepted xs p)
    × ((c u v : ℕ) → c < number b.atoms → (tables s p.query.count n (width n) c u v ≡ true) ↔ Kept g (meaning b.head b.atoms) c u v)
    × Nexts (Fits (take p.query.head.count p.query.head.names) (record { first = λ c. (get_or p.query.atoms c no_atom).first; second = λ c. (get_or p.query.atoms c no_atom).second }) p.query.count (tables s p.query.count n (width n)) n) (length (take p.query.head.count p.query.head.names)) os' in
    let w = subst (λ (p : Parsed). B p q'.nodes) (sym ep) (subst (λ (n : ℕ). B q.parsed n) (sym en) (l.accepted, l.kept, nexts)) in
    record {
      accepted = w.0;
      nodes = en ∙ l.nodes;
      kept = w.1;
      notes = notes;
      nexts = w.2;
      whole = law_from q' xs w.0 g s (en ∙ l.nodes) w.1 os' w.2;
    }

pub goes_on : (q : Query) (s out : List ℕ) (r : Result Bool Fault) (q' : Query) (out' : List ℕ) → calls.Nexts q s out r q' out' → GoesOn q s r q'
goes_on q s out (Ok true) q' out' n g xs os l =
    let h = length (head q) in
    let tuple : last_of q'.last ≡ n.tuple = ap last_of n.last in
    let F : List ℕ → Type 0 = λ z. Gives (Fitting q s) h (given os) (gave z) in
    let gives : F n.tuple = (n.lowest.fits, newest_above h q.last (given os) n.tuple l.notes n.lowest.above, λ ys f a lo. n.lowest.least ys f (above_newest h q.last (given os) ys l.notes a) lo) in
    moved g xs os (gave (last_of q'.last) ∷ os) q q' s n.parsed n.nodes l (n.last ∙ ap Some (sym tuple)) (subst F (sym tuple) gives, l.nexts)
goes_on q s out (Ok false) q' out' n g xs os l =
    moved g xs os (ended ∷ os) q q' s n.0.parsed n.0.nodes l (notes_kept q.last q'.last (given os) n.0.last l.notes)
    ((λ ys f a. n.3 ys f (above_newest (length (head q)) q.last (given os) ys l.notes a)), l.nexts)
goes_on q s out (Err ShortWorkspace) q' out' n g xs os l =
    moved g xs os os q q' s n.0.parsed n.0.nodes l (notes_kept q.last q'.last (given os) n.0.last l.notes) l.nexts
goes_on q s out (Err ShortAnswer) q' out' n g xs os l =
    moved g xs os os q q' s n.0.parsed n.0.nodes l (notes_kept q.last q'.last (given os) n.0.last l.notes) l.nexts

-- the tables of a filled workspace, as relations
kept_from : (g : Graph) (Q : meant.Query) (s t : List ℕ) → Filled g Q s t → (c u v : ℕ) → c < Q.count → (tables t Q.count g.nodes (width g.nodes) c u v ≡ true) ↔ Kept g Q c u v
kept_from g Q s t f c u v l = (
  (λ h. let i = parts t Q.count g.nodes (width g.nodes) c u v h in (f.tables c u v l i.row (omega (arith, i.column))).0 i.bit),
  λ k. let p = k.1 c l in
      let F : ℕ → Type 0 = λ y. y < g.nodes in
      let un = subst F k.2 p.0 in
      let vn = subst F k.3 p.1 in
      whole t Q.count g.nodes (width g.nodes) c u v (record { atom = l; row = un; column = vn; bit = (f.tables c u v l un (omega arith)).1 k }),
)

pub begins : (g : Graph) (q q' : Query) (s t : List ℕ) → Calibrated g q s q' t → Begins g q' t
begins g q q' s t c xs a =
    let filled = (let F : Parsed → Type 0 = λ p. (b : Accepted xs p) → Filled g (meaning b.head b.atoms) s t in subst F (sym c.parsed) (c.filled xs)) a in
    let K : ℕ → ℕ → Type 0 = λ m n. (d u v : ℕ) → d < number a.atoms → (tables t m n (width n) d u v ≡ true) ↔ Kept g (meaning a.head a.atoms) d u v in
    let kept : K q'.parsed.query.count q'.nodes = subst (λ (n : ℕ). K q'.parsed.query.count n) (sym c.nodes) (subst (λ (m : ℕ). K m g.nodes) (sym a.holds.count) (kept_from g (meaning a.head a.atoms) s t filled)) in
    record {
      accepted = a;
      nodes = c.nodes;
      kept = kept;
      notes = c.last;
      nexts = tt;
      whole = law_from q' xs a g t c.nodes kept [] tt;
    }

pub begins_from : (g : Graph) (q q' : Query) (s t : List ℕ) (r : Result Listing (Opened × Fault)) → Calibrates g q s r q' t → IfOk r (λ _. Begins g q' t)
begins_from g q q' s t (Ok _) c = begins g q q' s t c
begins_from g q q' s t (Err _) c = tt
