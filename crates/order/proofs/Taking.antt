-- One atom after another is taken: what holds when k are.
use Rattle.std.proofs.Common.{◌≡◌, ℕ, zero, suc, ◌+◌, ◌-◌, ◌<◌, ◌≤◌, ltb, ◌⊎◌, Option, Some, None, IsSome, unwrap_or, List, [], ◌∷◌, length, get_or, set, replicate, sym, refl, ap, ◌∙◌, subst, inl, inr, arith, get_or-set_other, get_or-set_same}
use Rattle.std.proofs.lemmas.Bool.{cases_eq, cases_lt, lt-ltb, le-ltb}
use Rattle.std.proofs.lemmas.Option.{none-some}
use Rattle.meaning.specs.Shapes.{Atoms, Joins, Has, Step, Chain, Connected, Cycle, Before}
use Rattle.meaning.proofs.Chains.{connected_same, connected_step, connected_trans, connected_turn, connected_more, cycle_more, cycle_closes}
use Rattle.order.specs.Ranks.{Ranks}
use Rattle.order.specs.Orders.{Ordered, Chosen, Late, Touches}
use Rattle.order.specs.Steps.{Open}
use Rattle.order.proofs.Counts.{count, count_none, count_all, count_room, count_more}

-- the atoms that are taken
abbrev pub Taken : ℕ → Ranks → ℕ → Type 0
Taken m a c = (c < m) × (a.rank c < 8)

-- seen: of each variable the first rank whose atom has it (8: none yet)
pub record Taking (q : Atoms) (m x k : ℕ) (a : Ranks) (seen : ℕ → ℕ) : Type 0 where
  pub counted : count m (λ c. ltb (a.rank c) 8) ≡ k
  pub into : (i : ℕ) → i < k → a.at i < m
  pub there : (i : ℕ) → i < k → a.rank (a.at i) ≡ i
  pub back : (c : ℕ) → c < m → a.rank c < 8 → (a.rank c < k) × (a.at (a.rank c) ≡ c)
  pub start : seen x ≡ 0
  pub root : 0 < k → a.shared 0 ≡ x
  pub known : (v : ℕ) → v < 256 → seen v < 8 → (v ≡ x → ⊥) → (seen v < k) × Has q (a.at (seen v)) v
  pub marked : (i v : ℕ) → i < k → Has q (a.at i) v → seen v < 8
  pub ends : (i : ℕ) → i < k → Joins q (a.at i) (a.shared i) (a.fresh i)
  pub apart : (i : ℕ) → i < k → a.shared i ≡ a.fresh i → ⊥
  pub before : (i : ℕ) → 0 < i → i < k → a.parent i < i
  pub joined : (i : ℕ) → 0 < i → i < k → Has q (a.at (a.parent i)) (a.shared i)
  pub new : (i j : ℕ) → i < k → j < i → Has q (a.at j) (a.fresh i) → ⊥
  pub linked : (v : ℕ) → v < 256 → seen v < 8 → Connected q (Taken m a) x v
  pub least : (v j : ℕ) → v < 256 → seen v < 8 → j < seen v → Has q (a.at j) v → ⊥
  pub parents : (i j : ℕ) → 0 < i → i < k → j < a.parent i → Has q (a.at j) (a.shared i) → ⊥
  pub earliest : (i d : ℕ) → i < k → d < a.at i → Late a i d → Touches q x a i d → ⊥

-- g is f but for the value v at i
abbrev pub Changed : (ℕ → ℕ) → (ℕ → ℕ) → ℕ → ℕ → Type 0
Changed f g i v = (g i ≡ v) × ((j : ℕ) → (j ≡ i → ⊥) → g j ≡ f j)

pub changed_at : {X : Type 0} (f : X → ℕ) (xs : List X) (i : ℕ) (x d : X) → i < length xs → Changed (λ j. f (get_or xs j d)) (λ j. f (get_or (set xs i x) j d)) i (f x)
changed_at f xs i x d l = (ap f (get_or-set_same xs i x d l), λ j n. ap f (get_or-set_other xs i j x d n))

-- what the code notes of atoms and variables: none, or a rank below 8
abbrev pub Small : List (Option ℕ) → Type 0
Small rs = (i r : ℕ) → get_or rs i None ≡ Some r → r < 8

pub small_set : (rs : List (Option ℕ)) (i r : ℕ) → i < length rs → r < 8 → Small rs → Small (set rs i (Some r))
small_set rs i r l low small j z e = elim (cases_eq j i) [
  | inl p ↦ (let same : Some r ≡ Some z = sym (get_or-set_same rs i (Some r) None l) ∙ ap (λ (y : ℕ). get_or (set rs i (Some r)) y None) (sym p) ∙ e in
      let is : r ≡ z = some_same r z same in omega arith)
  | inr n ↦ small j z (sym (get_or-set_other rs i j (Some r) None n) ∙ e)
]
  where
    some_same : (a b : ℕ) → ◌≡◌ {A = Option ℕ} (Some a) (Some b) → a ≡ b
    some_same a b p = ap (λ (o : Option ℕ). unwrap_or o 8) p

pub small_none : (n : ℕ) → Small (replicate n None)
small_none n i r e = absurd (by_eight (get_or (replicate n None) i None) r (nothing n i) e)
  where
    nothing : (n i : ℕ) → ◌≡◌ {A = Option ℕ} (get_or (replicate n None) i None) None
    nothing zero i = refl
    nothing (suc n) zero = refl
    nothing (suc n) (suc i) = nothing n i

    by_eight : (o : Option ℕ) (r : ℕ) → o ≡ None → o ≡ Some r → ⊥
    by_eight o r e f = none-some r (sym e ∙ f)

-- a rank that is noted is below 8, and only such a one
noted : (o : Option ℕ) → ((r : ℕ) → o ≡ Some r → r < 8) → (o ≡ None) ⊎ (unwrap_or o 8 < 8)
noted None small = inl refl
noted (Some r) small = inr (small r refl)

unnoted : (rs : List (Option ℕ)) (i : ℕ) → Small rs → 8 ≤ unwrap_or (get_or rs i None) 8 → get_or rs i None ≡ None
unnoted rs i small l = elim (noted (get_or rs i None) (small i)) [ inl e ↦ e | inr k ↦ absurd (omega arith) ]

seen_is : (o : Option ℕ) → unwrap_or o 8 < 8 → IsSome o
seen_is None l = absurd (omega arith)
seen_is (Some r) l = refl

-- an atom without a rank below 8 that has a variable seen below 8 is open
pub opened : (q : Atoms) (rank seen : List (Option ℕ)) (c : ℕ) → Small rank
    → (8 ≤ unwrap_or (get_or rank c None) 8) × ((unwrap_or (get_or seen (q.first c) None) 8 < 8) ⊎ (unwrap_or (get_or seen (q.second c) None) 8 < 8)) → Open q rank seen c
opened q rank seen c small h = (
  unnoted rank c small h.0,
  elim h.1 [ inl l ↦ inl (seen_is (get_or seen (q.first c) None) l) | inr l ↦ inr (seen_is (get_or seen (q.second c) None) l) ],
)

has_at : (q : Atoms) (d e v : ℕ) → d ≡ e → Has q e v → Has q d v
has_at q d e v p h = let F : ℕ → Type 0 = λ c. Has q c v in subst F (sym p) h

connected_at : (q : Atoms) (S : ℕ → Type 0) (u v y z : ℕ) → u ≡ y → v ≡ z → Connected q S y z → Connected q S u v
connected_at q S u v y z e f c =
    let F : ℕ → Type 0 = λ w. Connected q S w v in
    let G : ℕ → Type 0 = λ w. Connected q S y w in
    subst F (sym e) (subst G (sym f) c)

-- the variables of an atom that joins s and f
joins_has : (q : Atoms) (c s f v : ℕ) → Joins q c s f → Has q c v → (v ≡ s) ⊎ (v ≡ f)
joins_has q c s f v j h = elim j [
  | inl e ↦ elim h [ inl g ↦ inl (sym g ∙ e.0) | inr g ↦ inr (sym g ∙ e.1) ]
  | inr e ↦ elim h [ inl g ↦ inr (sym g ∙ e.0) | inr g ↦ inl (sym g ∙ e.1) ]
]

joins_first : (q : Atoms) (c s f : ℕ) → Joins q c s f → Has q c s
joins_first q c s f j = elim j [ inl e ↦ inl e.0 | inr e ↦ inr e.1 ]

joins_second : (q : Atoms) (c s f : ℕ) → Joins q c s f → Has q c f
joins_second q c s f j = elim j [ inl e ↦ inr e.1 | inr e ↦ inl e.0 ]

pub open_room : (q : Atoms) (m x k : ℕ) (a : Ranks) (sa : ℕ → ℕ) (c : ℕ) → Taking q m x k a sa → c < m → 8 ≤ a.rank c → k < m
open_room q m x k a sa c t cm cr = let e = t.counted in let r = count_room m (λ d. ltb (a.rank d) 8) c cm (le-ltb (a.rank c) 8 cr) in omega arith

-- atom c, not taken yet, is taken at rank k: its variable s is seen
module _ (q : Atoms) (m x k : ℕ) (a b : Ranks) (sa sb : ℕ → ℕ) (t : Taking q m x k a sa) (acyclic : Cycle q (Before m) → ⊥) (m8 : m ≤ 8)
    (c s f : ℕ) (cm : c < m) (cr : 8 ≤ a.rank c) (j : Joins q c s f) (s256 : s < 256) (f256 : f < 256) (sk : sa s < 8)
    (first : (d : ℕ) → d < c → (8 ≤ a.rank d) × ((sa (q.first d) < 8) ⊎ (sa (q.second d) < 8)) → ⊥) where
  room : k < m
  room = open_room q m x k a sa c t cm cr

  unseen : sa f < 8 → ⊥
  unseen fk =
      let S = Taken m a in
      let r : Connected q S s f = connected_trans q S s x f (connected_turn q S x s (t.linked s s256 sk)) (t.linked f f256 fk) in
      let w : Connected q S (q.first c) (q.second c) = elim j [
        | inl e ↦ connected_at q S (q.first c) (q.second c) s f e.0 e.1 r
        | inr e ↦ connected_at q S (q.first c) (q.second c) f s e.0 e.1 (connected_turn q S s f r)
      ] in
      acyclic (cycle_closes q S (Before m) c (λ i h. h.0) cm (λ h. omega (arith, h.1)) w)

  s_not_f : s ≡ f → ⊥
  s_not_f e = unseen (let F : ℕ → Type 0 = λ v. sa v < 8 in subst F e sk)

  x_not_f : x ≡ f → ⊥
  x_not_f e = unseen (let F : ℕ → Type 0 = λ v. sa v < 8 in let z = t.start in subst F e (omega arith))

  seen_not_f : (v : ℕ) → sa v < 8 → v ≡ f → ⊥
  seen_not_f v h e = unseen (let F : ℕ → Type 0 = λ w. sa w < 8 in subst F e h)

  seen_has : (d v : ℕ) → Has q d v → sa v < 8 → (sa (q.first d) < 8) ⊎ (sa (q.second d) < 8)
  seen_has d v h l =
      let F : ℕ → Type 0 = λ w. sa w < 8 in
      elim h [ inl e ↦ inl (subst F (sym e) l) | inr e ↦ inr (subst F (sym e) l) ]

  -- what touches those taken and is not among them is open
  earliest_here : (d : ℕ) → d < c → Late a k d → Touches q x a k d → ⊥
  earliest_here d l late touch = first d l (
    (elim (cases_lt (a.rank d) 8) [
      | inl r ↦ (let o = t.back d (omega arith) r in absurd (late (a.rank d) o.0 o.1))
      | inr g ↦ g
    ]),
    elim touch [
      | inl h ↦ seen_has d x h (let z = t.start in omega arith)
      | inr h ↦ seen_has d h.1 h.4 (t.marked h.0 h.1 h.2 h.3)
    ],
  )

  -- where the shared variable was seen first
  first_rank : 0 < k → (sa s < k) × Has q (a.at (sa s)) s
  first_rank pos = elim (cases_eq s x) [
    | inl e ↦ (let z : sa s ≡ 0 = ap (sa) e ∙ t.start in
        let h : Has q (a.at 0) (a.shared 0) = joins_first q (a.at 0) (a.shared 0) (a.fresh 0) (t.ends 0 pos) in (
          omega arith,
          has_at q (a.at (sa s)) (a.at 0) s (ap a.at z)
              (let F : ℕ → Type 0 = λ v. Has q (a.at 0) v in subst F (t.root pos ∙ sym e) h),
        ))
    | inr n ↦ t.known s s256 sk n
  ]

  module _ (at' : Changed a.at b.at k c) (rank' : Changed a.rank b.rank c k) (parent' : Changed a.parent b.parent k (sa s))
      (shared' : Changed a.shared b.shared k s) (fresh' : Changed a.fresh b.fresh k f) (seen' : Changed (sa) (sb) f k) where
    at_old : (i : ℕ) → i < k → b.at i ≡ a.at i
    at_old i l = at'.1 i (λ e. omega arith)

    still : (d : ℕ) → Taken m a d → Taken m b d
    still d h = (h.0, (let e : b.rank d ≡ a.rank d = rank'.1 d (λ z. let w : a.rank d ≡ a.rank c = ap a.rank z in omega (arith, h.1)) in omega (arith, h.1)))

    at_c : Taken m b c
    at_c = (cm, (let e = rank'.0 in let r = room in omega arith))

    -- below k + 1: below k, or k itself
    last_or : (P : ℕ → Type 0) → ((i : ℕ) → i < k → P i) → P k → (i : ℕ) → i < k + 1 → P i
    last_or P old here i l = elim (cases_eq i k) [ inl e ↦ subst P (sym e) here | inr n ↦ old i (omega arith) ]

    counted' : count m (λ d. ltb (b.rank d) 8) ≡ k + 1
    counted' =
        let r = room in let e = rank'.0 in let z = t.counted in
        let u = count_more m (λ d. ltb (a.rank d) 8) (λ d. ltb (b.rank d) 8) c cm (le-ltb (a.rank c) 8 cr) (lt-ltb (b.rank c) 8 (omega arith)) (λ d n. ap (λ w. ltb w 8) (rank'.1 d n)) in
        omega arith

    there' : (i : ℕ) → i < k + 1 → b.rank (b.at i) ≡ i
    there' = last_or (λ i. b.rank (b.at i) ≡ i)
        (λ i l. let r = room in let h = t.there i l in
        ap b.rank (at_old i l) ∙ rank'.1 (a.at i) (λ e. let w : a.rank (a.at i) ≡ a.rank c = ap a.rank e in omega arith) ∙ h)
        (ap b.rank at'.0 ∙ rank'.0)

    back' : (d : ℕ) → d < m → b.rank d < 8 → (b.rank d < k + 1) × (b.at (b.rank d) ≡ d)
    back' d dm h = elim (cases_eq d c) [
      | inl e ↦ (let r : b.rank d ≡ k = ap b.rank e ∙ rank'.0 in (omega arith, ap b.at r ∙ at'.0 ∙ sym e))
      | inr n ↦ (let r : b.rank d ≡ a.rank d = rank'.1 d n in
          let o = t.back d dm (omega arith) in
          let l : a.rank d < k = o.0 in
          (omega arith, ap b.at r ∙ at_old (a.rank d) l ∙ o.1))
    ]

    known' : (v : ℕ) → v < 256 → sb v < 8 → (v ≡ x → ⊥) → (sb v < k + 1) × Has q (b.at (sb v)) v
    known' v l h n = elim (cases_eq v f) [
      | inl e ↦ (let r : sb v ≡ k = ap (sb) e ∙ seen'.0 in
          (omega arith, has_at q (b.at (sb v)) c v (ap b.at r ∙ at'.0) (let F : ℕ → Type 0 = λ w. Has q c w in subst F (sym e) (joins_second q c s f j))))
      | inr d ↦ (let r : sb v ≡ sa v = seen'.1 v d in
          let o = t.known v l (omega arith) n in
          let lt : sa v < k = o.0 in
          (omega arith, has_at q (b.at (sb v)) (a.at (sa v)) v (ap b.at r ∙ at_old (sa v) lt) o.1))
    ]

    kept_seen : (v : ℕ) → sa v < 8 → sb v < 8
    kept_seen v h = let e = seen'.1 v (seen_not_f v h) in omega arith

    marked' : (i v : ℕ) → i < k + 1 → Has q (b.at i) v → sb v < 8
    marked' i v l = last_or (λ i. (Has q (b.at i) v → sb v < 8))
        (λ i l h. kept_seen v (t.marked i v l (has_at q (a.at i) (b.at i) v (sym (at_old i l)) h)))
        (λ h. elim (joins_has q c s f v j (has_at q c (b.at k) v (sym at'.0) h)) [
          | inl e ↦ (let F : ℕ → Type 0 = λ w. sb w < 8 in subst F (sym e) (kept_seen s sk))
          | inr e ↦ (let F : ℕ → Type 0 = λ w. sb w < 8 in let r = room in let z = seen'.0 in subst F (sym e) (omega arith))
        ]) i l

    ends' : (i : ℕ) → i < k + 1 → Joins q (b.at i) (b.shared i) (b.fresh i)
    ends' = last_or (λ i. Joins q (b.at i) (b.shared i) (b.fresh i))
        (λ i l. let n : i ≡ k → ⊥ = λ e. omega arith in joins_at (b.at i) (a.at i) (b.shared i) (a.shared i) (b.fresh i) (a.fresh i) (at_old i l) (shared'.1 i n) (fresh'.1 i n) (t.ends i l))
        (joins_at (b.at k) c (b.shared k) s (b.fresh k) f at'.0 shared'.0 fresh'.0 j)
      where
        joins_at : (d e u v y z : ℕ) → d ≡ e → u ≡ v → y ≡ z → Joins q e v z → Joins q d u y
        joins_at d e u v y z p r w h =
            let F : ℕ → Type 0 = λ i. Joins q i u y in
            let G : ℕ → Type 0 = λ i. Joins q e i y in
            let H : ℕ → Type 0 = λ i. Joins q e v i in
            subst F (sym p) (subst G (sym r) (subst H (sym w) h))

    apart' : (i : ℕ) → i < k + 1 → b.shared i ≡ b.fresh i → ⊥
    apart' = last_or (λ i. (b.shared i ≡ b.fresh i → ⊥))
        (λ i l h. let n : i ≡ k → ⊥ = λ e. omega arith in t.apart i l (sym (shared'.1 i n) ∙ h ∙ fresh'.1 i n))
        (λ h. s_not_f (sym shared'.0 ∙ h ∙ fresh'.0))

    before' : (i : ℕ) → i < k + 1 → 0 < i → b.parent i < i
    before' = last_or (λ i. (0 < i → b.parent i < i))
        (λ i l pos. let n : i ≡ k → ⊥ = λ e. omega arith in let e = parent'.1 i n in let h = t.before i pos l in omega arith)
        (λ pos. let e = parent'.0 in let h = (first_rank pos).0 in omega arith)

    joined' : (i : ℕ) → i < k + 1 → 0 < i → Has q (b.at (b.parent i)) (b.shared i)
    joined' = last_or (λ i. (0 < i → Has q (b.at (b.parent i)) (b.shared i)))
        (λ i l pos. let n : i ≡ k → ⊥ = λ e. omega arith in
        let p : a.parent i < i = t.before i pos l in
        let F : ℕ → Type 0 = λ v. Has q (b.at (b.parent i)) v in
        subst F (sym (shared'.1 i n)) (has_at q (b.at (b.parent i)) (a.at (a.parent i)) (a.shared i) (ap b.at (parent'.1 i n) ∙ at_old (a.parent i) (omega arith)) (t.joined i pos l)))
        (λ pos. let r = first_rank pos in
        let F : ℕ → Type 0 = λ v. Has q (b.at (b.parent k)) v in
        subst F (sym shared'.0) (has_at q (b.at (b.parent k)) (a.at (sa s)) s (ap b.at parent'.0 ∙ at_old (sa s) r.0) r.1))

    new' : (i : ℕ) → i < k + 1 → (h : ℕ) → h < i → Has q (b.at h) (b.fresh i) → ⊥
    new' = last_or (λ i. ((h : ℕ) → h < i → Has q (b.at h) (b.fresh i) → ⊥))
        (λ i l h hl g. let n : i ≡ k → ⊥ = λ e. omega arith in
        let F : ℕ → Type 0 = λ v. Has q (a.at h) v in
        t.new i h l hl (subst F (fresh'.1 i n) (has_at q (a.at h) (b.at h) (b.fresh i) (sym (at_old h (omega arith))) g)))
        (λ h hl g. let F : ℕ → Type 0 = λ v. Has q (a.at h) v in
        unseen (t.marked h f hl (subst F fresh'.0 (has_at q (a.at h) (b.at h) (b.fresh k) (sym (at_old h hl)) g))))

    linked' : (v : ℕ) → v < 256 → sb v < 8 → Connected q (Taken m b) x v
    linked' v l h =
        let more = connected_more q (Taken m a) (Taken m b) still in
        elim (cases_eq v f) [
          | inl e ↦ connected_at q (Taken m b) x v x f refl e (connected_trans q (Taken m b) x s f (more x s (t.linked s s256 sk))
              (connected_step q (Taken m b) c s f f at_c j (connected_same q (Taken m b) f)))
          | inr n ↦ (let r = seen'.1 v n in more x v (t.linked v l (omega arith)))
        ]

    least' : (v h : ℕ) → v < 256 → sb v < 8 → h < sb v → Has q (b.at h) v → ⊥
    least' v h l g hl has = elim (cases_eq v f) [
      | inl e ↦ (let r : sb v ≡ k = ap sb e ∙ seen'.0 in
          let hk : h < k = omega arith in
          seen_not_f v (t.marked h v hk (has_at q (a.at h) (b.at h) v (sym (at_old h hk)) has)) e)
      | inr n ↦ (let r : sb v ≡ sa v = seen'.1 v n in
          elim (cases_eq v x) [
            | inl e ↦ (let z : sa v ≡ 0 = ap sa e ∙ t.start in omega arith)
            | inr ne ↦ (let o = (t.known v l (omega arith) ne).0 in
                let hk : h < k = omega arith in
                t.least v h l (omega arith) (omega arith) (has_at q (a.at h) (b.at h) v (sym (at_old h hk)) has))
          ])
    ]

    parents' : (i : ℕ) → i < k + 1 → 0 < i → (h : ℕ) → h < b.parent i → Has q (b.at h) (b.shared i) → ⊥
    parents' = last_or (λ i. (0 < i → (h : ℕ) → h < b.parent i → Has q (b.at h) (b.shared i) → ⊥))
        (λ i l pos h hl has. let n : i ≡ k → ⊥ = λ e. omega arith in
        let e = parent'.1 i n in
        let p = t.before i pos l in
        let hk : h < k = omega arith in
        let F : ℕ → Type 0 = λ v. Has q (a.at h) v in
        t.parents i h pos l (omega arith) (subst F (shared'.1 i n) (has_at q (a.at h) (b.at h) (b.shared i) (sym (at_old h hk)) has)))
        (λ pos h hl has. let e = parent'.0 in
        let r = (first_rank pos).0 in
        let hk : h < k = omega arith in
        let F : ℕ → Type 0 = λ v. Has q (a.at h) v in
        t.least s h s256 sk (omega arith) (subst F shared'.0 (has_at q (a.at h) (b.at h) (b.shared k) (sym (at_old h hk)) has)))

    late_old : (i d : ℕ) → i ≤ k → Late b i d → Late a i d
    late_old i d l late h hl e = late h hl (at_old h (omega arith) ∙ e)

    touches_old : (i d : ℕ) → i ≤ k → Touches q x b i d → Touches q x a i d
    touches_old i d l touch = elim touch [
      | inl h ↦ inl h
      | inr h ↦ inr (h.0, h.1, h.2, has_at q (a.at h.0) (b.at h.0) h.1 (sym (at_old h.0 (omega (arith, h.2)))) h.3, h.4)
    ]

    earliest' : (i : ℕ) → i < k + 1 → (d : ℕ) → d < b.at i → Late b i d → Touches q x b i d → ⊥
    earliest' = last_or (λ i. ((d : ℕ) → d < b.at i → Late b i d → Touches q x b i d → ⊥))
        (λ i l d dl late touch. let e = at_old i l in t.earliest i d l (omega arith) (late_old i d (omega arith) late) (touches_old i d (omega arith) touch))
        (λ d dl late touch. let e = at'.0 in earliest_here d (omega arith) (late_old k d (omega arith) late) (touches_old k d (omega arith) touch))

    root' : b.shared 0 ≡ x
    root' = elim (cases_eq k 0) [
      | inl e ↦ (let F : ℕ → Type 0 = λ i. b.shared i ≡ s in
          let sx : s ≡ x = elim (cases_eq s x) [ inl d ↦ d | inr n ↦ absurd (let o = (t.known s s256 sk n).0 in omega arith) ] in
          subst F e shared'.0 ∙ sx)
      | inr n ↦ shared'.1 0 (λ e. n (sym e)) ∙ t.root (omega arith)
    ]

    pub taking_more : Taking q m x (k + 1) b sb
    taking_more = record {
      counted = counted';
      into = last_or (λ i. b.at i < m) (λ i l. let e = at_old i l in let h = t.into i l in omega arith) (let e = at'.0 in omega arith);
      there = there';
      back = back';
      start = seen'.1 x x_not_f ∙ t.start;
      root = λ _. root';
      known = known';
      marked = marked';
      ends = ends';
      apart = apart';
      before = λ i pos l. before' i l pos;
      joined = λ i pos l. joined' i l pos;
      new = λ i h l. new' i l h;
      linked = linked';
      least = least';
      parents = λ i h pos l. parents' i l pos h;
      earliest = λ i d l. earliest' i l d;
    }

-- before the first is taken, the start alone is seen
pub taking_none : (q : Atoms) (m x : ℕ) (a : Ranks) (sa : ℕ → ℕ) → ((c : ℕ) → c < m → a.rank c ≡ 8) → sa x ≡ 0 → ((v : ℕ) → v < 256 → (v ≡ x → ⊥) → sa v ≡ 8) → Taking q m x 0 a sa
taking_none q m x a sa ranks start seen = record {
  counted = count_none m (λ c. ltb (a.rank c) 8) (λ c l. let e = ranks c l in le-ltb (a.rank c) 8 (omega arith));
  into = λ i l. absurd (omega arith);
  there = λ i l. absurd (omega arith);
  back = λ c l h. absurd (let e = ranks c l in omega arith);
  start = start;
  root = λ l. absurd (omega arith);
  known = λ v l h n. absurd (let e = seen v l n in omega arith);
  marked = λ i v l. absurd (omega arith);
  ends = λ i l. absurd (omega arith);
  apart = λ i l. absurd (omega arith);
  before = λ i p l. absurd (omega arith);
  joined = λ i p l. absurd (omega arith);
  new = λ i j l. absurd (omega arith);
  linked = λ v l h. elim (cases_eq v x) [
    | inl e ↦ connected_at q (Taken m a) x v x x refl e (connected_same q (Taken m a) x)
    | inr n ↦ absurd (let e = seen v l n in omega arith)
  ];
  least = λ v j l h jl. absurd (elim (cases_eq v x) [
    | inl e ↦ (let z : sa v ≡ 0 = ap sa e ∙ start in omega arith)
    | inr n ↦ (let e = seen v l n in omega arith)
  ]);
  parents = λ i j p l. absurd (omega arith);
  earliest = λ i d l. absurd (omega arith);
}

-- where no atom is open, what is seen spreads along every chain, so all atoms are taken
module _ (q : Atoms) (m x k : ℕ) (a : Ranks) (sa : ℕ → ℕ) (t : Taking q m x k a sa)
    (none : (c : ℕ) → c < m → (8 ≤ a.rank c) × ((sa (q.first c) < 8) ⊎ (sa (q.second c) < 8)) → ⊥) where
  seen_at : (u v : ℕ) → u ≡ v → sa v < 8 → sa u < 8
  seen_at u v e h = let F : ℕ → Type 0 = λ w. sa w < 8 in subst F (sym e) h

  spread : (y z : ℕ) (ss : List Step) → Chain q (Before m) y ss z → sa y < 8 → sa z < 8
  spread y z [] c h = seen_at z y (sym c) h
  spread y z (s ∷ ss) c h = spread s.to z ss c.2 (elim (cases_lt (a.rank s.by) 8) [
    | inl l ↦ (let o = t.back s.by c.0 l in
        t.marked (a.rank s.by) s.to o.0 (has_at q (a.at (a.rank s.by)) s.by s.to o.1 (joins_second q s.by y s.to c.1)))
    | inr g ↦ absurd (none s.by c.0 (g, elim c.1 [ inl e ↦ inl (seen_at (q.first s.by) y e.0 h) | inr e ↦ inr (seen_at (q.second s.by) y e.1 h) ]))
  ])

  module _ (used : ((c : ℕ) → c < m → Has q c x → ⊥) → ⊥)
      (reached : (i : ℕ) → i < m → (((u v : ℕ) → Has q 0 u → Has q i v → Connected q (Before m) u v) → ⊥) → ⊥) where
    all_taken : (d : ℕ) → d < m → a.rank d < 8
    all_taken d dm = elim (cases_lt (a.rank d) 8) [
      | inl l ↦ l
      | inr g ↦ absurd (used (λ e em hx. reached e em (λ re. reached d dm (λ rd.
          let S = Before m in
          let w = connected_trans q S x (q.first 0) (q.first d) (connected_turn q S (q.first 0) x (re (q.first 0) x (inl refl) hx)) (rd (q.first 0) (q.first d) (inl refl) (inl refl)) in
          none d dm (g, inl (spread x (q.first d) w.0 w.1 (let z = t.start in omega arith)))))))
    ]

    pub taking_all : 0 < m → Ordered q m x a
    taking_all pos =
        let n = count_all m (λ c. ltb (a.rank c) 8) (λ c l. lt-ltb (a.rank c) 8 (all_taken c l)) in
        let z = t.counted in
        let e : k ≡ m = omega arith in
        record {
          tree = record {
            before = λ i p l. t.before i p (omega arith);
            ends = λ i l. t.ends i (omega arith);
            apart = λ i l. t.apart i (omega arith);
            joined = λ i p l. t.joined i p (omega arith);
            new = λ i j l. t.new i j (omega arith);
          };
          start = t.root (omega arith);
          into = λ i l. t.into i (omega arith);
          onto = λ c l. (let o = (t.back c l (all_taken c l)).0 in omega arith);
          there = λ i l. t.there i (omega arith);
          back = λ c l. (t.back c l (all_taken c l)).1;
        }

    pub chosen_all : Chosen q m x a
    chosen_all =
        let n = count_all m (λ c. ltb (a.rank c) 8) (λ c l. lt-ltb (a.rank c) 8 (all_taken c l)) in
        let z = t.counted in
        record { earliest = λ i d l. t.earliest i d (omega arith); parents = λ i j p l. t.parents i j p (omega arith) }

-- the ranks and the seen variables at the start
pub none_at : (n v : ℕ) → ◌≡◌ {A = ℕ} (unwrap_or (get_or (replicate n None) v None) 8) 8
none_at zero v = refl
none_at (suc n) zero = refl
none_at (suc n) (suc v) = none_at n v

abbrev pub seen_from : ℕ → List (Option ℕ)
seen_from x = set (replicate 256 None) x (Some 0)

pub start_seen : (x : ℕ) → x < 256 → ◌≡◌ {A = ℕ} (unwrap_or (get_or (seen_from x) x None) 8) 0 × ((v : ℕ) → v < 256 → (v ≡ x → ⊥) → ◌≡◌ {A = ℕ} (unwrap_or (get_or (seen_from x) v None) 8) 8)
start_seen x l = (
  ap (λ (o : Option ℕ). unwrap_or o 8) (get_or-set_same (replicate 256 None) x (Some 0) None l),
  λ v vl n. ap (λ (o : Option ℕ). unwrap_or o 8) (get_or-set_other (replicate 256 None) x v (Some 0) None n) ∙ none_at 256 v,
)

pub acyclic_from : (q : Atoms) (m : ℕ) → 0 < m → ((i : ℕ) → i < m → Cycle q (Before (suc i)) → ⊥) → Cycle q (Before m) → ⊥
acyclic_from q m pos h c = h (m - 1) (omega arith) (cycle_more q (Before m) (Before (suc (m - 1))) (λ i l. omega arith) c)
