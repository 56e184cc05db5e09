-- The invariant of the search, its three moves, and the number that falls.
use Rattle.std.proofs.Common.{◌≡◌, ℕ, zero, suc, ◌+◌, ◌-◌, ◌*◌, ◌<◌, ◌≤◌, Bool, true, false, cond, leb, ◌⊎◌, List, length, set, replicate, sym, refl, ap, ◌∙◌, subst, inl, inr, mul-le-mul_right, suc-mul, arith, length-set, get_or-set_other, get_or-set_same}
use Rattle.std.proofs.lemmas.Bool.{cases_eq, cases_lt, both_ways, le-leb, lt-leb, cond-true, cond-false}
use Rattle.meaning.specs.Assignments.{Relations}
use Rattle.meaning.specs.Tuples.{node, Within, Lower, Above, Least}
use Rattle.search.specs.Places.{Places, Fits, Goes}

-- each place below h goes
pub record All (go : ℕ → List ℕ → Type 0) (n h : ℕ) (xs : List ℕ) : Type 0 where
  pub within : Within n h xs
  pub goes : (k : ℕ) → k < h → go k xs

pub record State (go : ℕ → List ℕ → Type 0) (n h : ℕ) (noted : Bool) (last xs : List ℕ) (a : ℕ) : Type 0 where
  pub depth : a < h
  pub few : h ≤ 26
  pub size : length xs ≡ 26
  pub before : (i : ℕ) → i < a → node xs i < n
  pub here : node xs a ≤ n
  pub goes : (k : ℕ) → k < a → go k xs
  pub above : noted ≡ true → Lower (a + 1) last xs
  pub least : (ys : List ℕ) → All go n h ys → Above h noted last ys → Lower (a + 1) ys xs → ⊥

-- ys is xs with the node v at place b
pub record Put (xs : List ℕ) (b v : ℕ) (ys : List ℕ) : Type 0 where
  pub other : (i : ℕ) → i < b → node ys i ≡ node xs i
  pub new : node ys b ≡ v
  pub size : length ys ≡ 26

pub put_set : (xs : List ℕ) (b v : ℕ) → length xs ≡ 26 → b < 26 → Put xs b v (set xs b v)
put_set xs b v len lt = record {
  other = λ i ib. get_or-set_other xs b i v 0 (omega arith);
  new = get_or-set_same xs b v 0 (omega arith);
  size = length-set xs b v ∙ len;
}

-- the only fact of the fit test: place k depends on the places 0 .. k
abbrev pub Prefix : (ℕ → List ℕ → Type 0) → Type 0
Prefix go = (k : ℕ) (xs ys : List ℕ) → ((i : ℕ) → i ≤ k → node xs i ≡ node ys i) → go k ys → go k xs

module _ (go : ℕ → List ℕ → Type 0) (pre : Prefix go) (n h : ℕ) (noted : Bool) (last : List ℕ) where
  -- the node at a does not go: the next one
  pub rise : (xs ys : List ℕ) (a : ℕ) → State go n h noted last xs a → Put xs a (node xs a + 1) ys → node xs a < n → (go a xs → ⊥)
      → State go n h noted last ys a
  rise xs ys a s p lt not' = record {
    depth = s.depth;
    few = s.few;
    size = p.size;
    before = λ i ia. omega (arith, p.other i ia, s.before i ia);
    here = omega (arith, p.new);
    goes = λ k ka. pre k ys xs (λ i ik. p.other i (omega arith)) (s.goes k ka);
    above = λ e. let w = s.above e in
        elim (cases_eq w.place a) [
          | inl d ↦ record {
            place = w.place;
            below = w.below;
            same = λ i il. w.same i il ∙ sym (p.other i (omega arith));
            less = (let F : ℕ → Type 0 = λ j. node last j < node ys j in
                let l : node last a < node xs a = (let G : ℕ → Type 0 = λ j. node last j < node xs j in subst G d w.less) in
                subst F (sym d) (omega (arith, p.new)));
          }
          | inr d ↦ (let wb : w.place < a + 1 = w.below in let wl : w.place < a = omega arith in
              record {
                place = w.place;
                below = w.below;
                same = λ i il. w.same i il ∙ sym (p.other i (omega arith));
                less = omega (arith, w.less, p.other w.place wl);
              })
        ];
    least = λ zs fit ab w.
        let wb : w.place < a + 1 = w.below in
        elim (cases_eq w.place a) [
          | inl d ↦ (let same : (i : ℕ) → i < a → node zs i ≡ node xs i = λ i ia. w.same i (omega arith) ∙ p.other i ia in
              let l : node zs a < node xs a + 1 = (let G : ℕ → Type 0 = λ j. node zs j < node ys j in omega (arith, subst G d w.less, p.new)) in
              elim (cases_lt (node zs a) (node xs a)) [
                | inl m ↦ s.least zs fit ab (record { place = a; below = omega arith; same = same; less = m })
                | inr m ↦ (let e : node zs a ≡ node xs a = omega arith in
                    not' (pre a xs zs (λ i ia. elim (cases_eq i a) [ inl z ↦ ap (node xs) z ∙ sym e ∙ sym (ap (node zs) z) | inr z ↦ sym (same i (omega arith)) ]) (fit.goes a s.depth)))
              ])
          | inr d ↦ (let wl : w.place < a = omega arith in
              s.least zs fit ab (record { place = w.place; below = wb; same = λ i il. w.same i il ∙ p.other i (omega arith); less = omega (arith, w.less, p.other w.place wl) }))
        ];
  }

  -- the node at a goes: the next place, from node 0
  pub descend : (xs ys : List ℕ) (a : ℕ) → State go n h noted last xs a → Put xs (a + 1) 0 ys → node xs a < n → go a xs → a + 1 < h
      → State go n h noted last ys (a + 1)
  descend xs ys a s p lt yes' more = record {
    depth = more;
    few = s.few;
    size = p.size;
    before = λ i ia. elim (cases_eq i a) [
      | inl e ↦ (let F : ℕ → Type 0 = λ j. node ys j < n in subst F (sym e) (omega (arith, p.other a (omega arith))))
      | inr d ↦ omega (arith, p.other i ia, s.before i (omega arith))
    ];
    here = omega (arith, p.new);
    goes = λ k ka. pre k ys xs (λ i ik. p.other i (omega arith)) (elim (cases_eq k a) [
      | inl e ↦ (let F : ℕ → Type 0 = λ j. go j xs in subst F (sym e) yes')
      | inr d ↦ s.goes k (omega arith)
    ]);
    above = λ e. let w = s.above e in let wb : w.place < a + 1 = w.below in
        record { place = w.place; below = omega arith; same = λ i il. w.same i il ∙ sym (p.other i (omega arith)); less = omega (arith, w.less, p.other w.place wb) };
    least = λ zs fit ab w. let wb : w.place < a + 1 + 1 = w.below in
        elim (cases_eq w.place (a + 1)) [
          | inl d ↦ (let F : ℕ → Type 0 = λ j. node zs j < node ys j in omega (arith, subst F d w.less, p.new))
          | inr d ↦ (let wl : w.place < a + 1 = omega arith in
              s.least zs fit ab (record { place = w.place; below = wl; same = λ i il. w.same i il ∙ p.other i (omega arith); less = omega (arith, w.less, p.other w.place wl) }))
        ];
  }

  -- no node is left at b + 1: the next node at b
  pub ascend : (xs ys : List ℕ) (b : ℕ) → State go n h noted last xs (b + 1) → Put xs b (node xs b + 1) ys → n ≤ node xs (b + 1)
      → State go n h noted last ys b
  ascend xs ys b s p full =
      let dep : b + 1 < h = s.depth in
      let lt : node xs b < n = s.before b (omega arith) in
      record {
        depth = omega arith;
        few = s.few;
        size = p.size;
        before = λ i ib. omega (arith, p.other i ib, s.before i (omega arith));
        here = omega (arith, p.new);
        goes = λ k kb. pre k ys xs (λ i ik. p.other i (omega arith)) (s.goes k (omega arith));
        above = λ e. let w = s.above e in let wb : w.place < b + 1 + 1 = w.below in
            elim (cases_lt w.place b) [
              | inl l ↦ record { place = w.place; below = omega arith; same = λ i il. w.same i il ∙ sym (p.other i (omega arith)); less = omega (arith, w.less, p.other w.place l) }
              | inr g ↦ record {
                place = b;
                below = omega arith;
                same = λ i il. w.same i (omega arith) ∙ sym (p.other i il);
                less = elim (cases_eq w.place b) [
                  | inl d ↦ (let G : ℕ → Type 0 = λ j. node last j < node xs j in omega (arith, subst G d w.less, p.new))
                  | inr d ↦ omega (arith, w.same b (omega arith), p.new)
                ];
              }
            ];
        least = λ zs fit ab w. let wb : w.place < b + 1 = w.below in
            elim (cases_eq w.place b) [
              | inl d ↦ (let same : (i : ℕ) → i < b → node zs i ≡ node xs i = λ i ib. w.same i (omega arith) ∙ p.other i ib in
                  let l : node zs b < node xs b + 1 = (let G : ℕ → Type 0 = λ j. node zs j < node ys j in omega (arith, subst G d w.less, p.new)) in
                  elim (cases_lt (node zs b) (node xs b)) [
                    | inl m ↦ s.least zs fit ab (record { place = b; below = omega arith; same = same; less = m })
                    | inr m ↦ (let e : node zs b ≡ node xs b = omega arith in
                        s.least zs fit ab (record {
                          place = b + 1;
                          below = omega arith;
                          same = λ i ib. elim (cases_eq i b) [ inl z ↦ ap (node zs) z ∙ e ∙ sym (ap (node xs) z) | inr z ↦ same i (omega arith) ];
                          less = omega (arith, fit.within (b + 1) dep);
                        }))
                  ])
              | inr d ↦ (let wl : w.place < b = omega arith in
                  s.least zs fit ab (record { place = w.place; below = omega arith; same = λ i il. w.same i il ∙ p.other i (omega arith); less = omega (arith, w.less, p.other w.place wl) }))
            ];
      }

  -- with no last tuple: from zeros
  pub start_low : noted ≡ false → 0 < h → h ≤ 26 → State go n h noted last (replicate 26 0) 0
  start_low e pos few = record {
    depth = pos;
    few = few;
    size = refl;
    before = λ i ia. absurd (omega arith);
    here = omega arith;
    goes = λ k ka. absurd (omega arith);
    above = λ t. absurd (both_ways noted e t);
    least = λ zs fit ab w. (let wb : w.place < 0 + 1 = w.below in let z : w.place ≡ 0 = omega arith in
        let F : ℕ → Type 0 = λ j. node zs j < node (replicate 26 0) j in omega (arith, subst F z w.less));
  }

  -- after the last tuple: raised where it first does not go, else at its last place
  pub start_last : (ys : List ℕ) (a : ℕ) → noted ≡ true → a < h → h ≤ 26 → Within n h last → ((k : ℕ) → k < a → go k last)
      → (a + 1 ≡ h) ⊎ (go a last → ⊥) → Put last a (node last a + 1) ys → State go n h noted last ys a
  start_last ys a e ah few within goes ends p = record {
    depth = ah;
    few = few;
    size = p.size;
    before = λ i ia. omega (arith, p.other i ia, within i (omega arith));
    here = omega (arith, p.new, within a ah);
    goes = λ k ka. pre k ys last (λ i ik. p.other i (omega arith)) (goes k ka);
    above = λ t. record { place = a; below = omega arith; same = λ i ia. sym (p.other i ia); less = omega (arith, p.new) };
    least = λ zs fit ab w. let v = ab e in
        let wb : w.place < a + 1 = w.below in let vb : v.place < h = v.below in
        elim (cases_lt a v.place) [
          | inl far ↦ elim ends [
            | inl z ↦ omega arith
            | inr z ↦ z (pre a last zs (λ i ia. v.same i (omega arith)) (fit.goes a ah))
          ]
          | inr near ↦ elim (cases_lt w.place v.place) [
            | inl l ↦ (let wa : w.place < a = omega arith in omega (arith, w.less, p.other w.place wa, v.same w.place l))
            | inr g ↦ elim (cases_eq v.place w.place) [
              | inl d ↦ (let F : ℕ → Type 0 = λ j. node zs j < node ys j in let wl : node zs v.place < node ys v.place = subst F (sym d) w.less in
                  elim (cases_eq v.place a) [
                    | inl z ↦ (let va : node last a < node zs a = (let G : ℕ → Type 0 = λ j. node last j < node zs j in subst G z v.less) in
                        let wa : node zs a < node ys a = subst F z wl in omega (arith, p.new))
                    | inr z ↦ (let lt : v.place < a = omega arith in omega (arith, v.less, p.other v.place lt))
                  ])
              | inr d ↦ (let l : v.place < w.place = omega arith in let lt : v.place < a = omega arith in
                  omega (arith, v.less, w.same v.place l, p.other v.place lt))
            ]
          ]
        ];
  }

  -- all places stand: the answer
  pub finish : (xs : List ℕ) (a : ℕ) → State go n h noted last xs a → node xs a < n → go a xs → a + 1 ≡ h → Least (All go n h) h noted last xs
  finish xs a s lt yes' e = record {
    fits = record {
      within = λ i ih. elim (cases_eq i a) [ inl z ↦ (let F : ℕ → Type 0 = λ j. node xs j < n in subst F (sym z) lt) | inr z ↦ s.before i (omega arith) ];
      goes = λ k kh. elim (cases_eq k a) [ inl z ↦ (let F : ℕ → Type 0 = λ j. go j xs in subst F (sym z) yes') | inr z ↦ s.goes k (omega arith) ];
    };
    above = (let F : ℕ → Type 0 = λ j. Above j noted last xs in subst F e s.above);
    least = λ ys fit ab w. (let F : ℕ → Type 0 = λ j. Lower j ys xs in s.least ys fit ab (subst F (sym e) w));
  }

  -- no place can rise: no answer
  pub none : (xs : List ℕ) → State go n h noted last xs 0 → n ≤ node xs 0 → (ys : List ℕ) → All go n h ys → Above h noted last ys → ⊥
  none xs s full ys fit ab = s.least ys fit ab (record { place = 0; below = omega arith; same = λ i ib. absurd (omega arith); less = omega (arith, fit.within 0 s.depth) })

-- digits d 0 .. d (k - 1) as a number in base b
pub value : ℕ → (ℕ → ℕ) → ℕ → ℕ
value b d zero = 0
value b d (suc k) = value b d k * b + d k

-- what is left of place i: candidates at the places up to a, and one more where the place is not yet begun
pub rest : ℕ → ℕ → List ℕ → ℕ → ℕ
rest n a xs i = cond (leb i a) (n - node xs i) (n + 1)

rest_near : (n a : ℕ) (xs : List ℕ) (i : ℕ) → i ≤ a → rest n a xs i ≡ n - node xs i
unfolding rest
rest_near n a xs i h = cond-true (leb i a) (n - node xs i) (n + 1) (le-leb i a h)

rest_far : (n a : ℕ) (xs : List ℕ) (i : ℕ) → a < i → rest n a xs i ≡ n + 1
unfolding rest
rest_far n a xs i h = cond-false (leb i a) (n - node xs i) (n + 1) (lt-leb i a h)

rest_below : (n a : ℕ) (xs : List ℕ) (i : ℕ) → rest n a xs i < n + 2
rest_below n a xs i = elim (cases_lt a i) [ inl l ↦ omega (arith, rest_far n a xs i l) | inr l ↦ omega (arith, rest_near n a xs i l) ]

value_same : (b : ℕ) (d e : ℕ → ℕ) (k : ℕ) → ((i : ℕ) → i < k → e i ≡ d i) → value b e k ≡ value b d k
unfolding value
value_same b d e zero same = refl
value_same b d e (suc k) same = ap (λ z. z * b + e k) (value_same b d e k (λ i ik. same i (omega arith))) ∙ ap (λ z. value b d k * b + z) (same k (omega arith))

value_falls : (b : ℕ) (d e : ℕ → ℕ) (j k : ℕ) → j < k → ((i : ℕ) → i < j → e i ≡ d i) → e j < d j → ((i : ℕ) → e i < b) → value b e k < value b d k
unfolding value
value_falls b d e j zero jk same less below = absurd (omega arith)
value_falls b d e j (suc k) jk same less below = elim (cases_eq j k) [
  | inl z ↦ (let F : ℕ → Type 0 = λ i. e i < d i in let G : ℕ → Type 0 = λ i. i < j in
      let lk : e k < d k = subst F z less in
      omega (arith, ap (λ x. x * b) (value_same b d e k (λ i ik. same i (omega arith)))))
  | inr z ↦ (let ih : value b e k < value b d k = value_falls b d e j k (omega arith) same less below in
      let up : suc (value b e k) * b ≤ value b d k * b = mul-le-mul_right b ih in
      let more : suc (value b e k) * b ≡ value b e k * b + b = suc-mul (value b e k) b in
      omega (arith, below k))
]

pub falls_down : (n h a : ℕ) (xs ys : List ℕ) → a + 1 < h → ((i : ℕ) → i < a → node ys i ≡ node xs i) → node xs a ≤ node ys a → node ys a < n → node ys (a + 1) ≡ 0
    → value (n + 2) (rest n (a + 1) ys) h < value (n + 2) (rest n a xs) h
falls_down n h a xs ys lt same le low new =
    let near : (i : ℕ) → i < a → rest n (a + 1) ys i ≡ rest n a xs i =
    λ i ia. rest_near n (a + 1) ys i (omega arith) ∙ ap (λ z. n - z) (same i ia) ∙ sym (rest_near n a xs i (omega arith)) in
    elim (cases_eq (node xs a) (node ys a)) [
      | inl e ↦ value_falls (n + 2) (rest n a xs) (rest n (a + 1) ys) (a + 1) h lt
          (λ i ia. elim (cases_eq i a) [
            | inl z ↦ (let F : ℕ → Type 0 = λ i. rest n (a + 1) ys i ≡ rest n a xs i in
                subst F (sym z) (rest_near n (a + 1) ys a (omega arith) ∙ ap (λ z. n - z) (sym e) ∙ sym (rest_near n a xs a (omega arith))))
            | inr z ↦ near i (omega arith)
          ])
          (omega (arith, rest_near n (a + 1) ys (a + 1) (omega arith), rest_far n a xs (a + 1) (omega arith)))
          (rest_below n (a + 1) ys)
      | inr d ↦ value_falls (n + 2) (rest n a xs) (rest n (a + 1) ys) a h (omega arith) near
          (omega (arith, rest_near n (a + 1) ys a (omega arith), rest_near n a xs a (omega arith)))
          (rest_below n (a + 1) ys)
    ]

pub falls_up : (n h b : ℕ) (xs ys : List ℕ) → b < h → ((i : ℕ) → i < b → node ys i ≡ node xs i) → node xs b < n → node ys b ≡ node xs b + 1
    → value (n + 2) (rest n b ys) h < value (n + 2) (rest n (b + 1) xs) h
falls_up n h b xs ys lt same low new =
    value_falls (n + 2) (rest n (b + 1) xs) (rest n b ys) b h lt
    (λ i ib. rest_near n b ys i (omega arith) ∙ ap (λ z. n - z) (same i ib) ∙ sym (rest_near n (b + 1) xs i (omega arith)))
    (omega (arith, rest_near n b ys b (omega arith), rest_near n (b + 1) xs b (omega arith)))
    (rest_below n b ys)

-- the same moves as the code writes them: zs is the candidate after the turn's rises, and the place a is the turn's b
pub ascend_at : (go : ℕ → List ℕ → Type 0) → Prefix go → (n h : ℕ) (noted : Bool) (last xs ys : List ℕ) (a : ℕ) → 0 < a → State go n h noted last xs a → Put xs (a - 1) (node xs (a - 1) + 1) ys → n ≤ node xs a
    → State go n h noted last ys (a - 1)
ascend_at go pre n h noted last xs ys a pos s p full =
    let e : a ≡ (a - 1) + 1 = omega arith in
    let F : ℕ → Type 0 = λ j. State go n h noted last xs j in
    let G : ℕ → Type 0 = λ j. n ≤ node xs j in
    ascend go pre n h noted last xs ys (a - 1) (subst F e s) p (subst G e full)

pub step_down : (n h a b : ℕ) (xs zs ys : List ℕ) → a ≡ b → a + 1 < h → ((i : ℕ) → i < a → node zs i ≡ node xs i) → node xs a ≤ node zs a → node zs a < n → Put zs (a + 1) 0 ys
    → value (n + 2) (rest n (a + 1) ys) h < value (n + 2) (rest n b xs) h
step_down n h a b xs zs ys e lt same le low p =
    let F : ℕ → Type 0 = λ j. value (n + 2) (rest n (a + 1) ys) h < value (n + 2) (rest n j xs) h in
    subst F e (falls_down n h a xs ys lt (λ i ia. p.other i (omega arith) ∙ same i ia) (omega (arith, p.other a (omega arith))) (omega (arith, p.other a (omega arith))) p.new)

pub step_up : (n h a b : ℕ) (xs zs ys : List ℕ) → a ≡ b → 0 < a → a < h → ((i : ℕ) → i < a → node zs i ≡ node xs i) → node zs (a - 1) < n → Put zs (a - 1) (node zs (a - 1) + 1) ys
    → value (n + 2) (rest n (a - 1) ys) h < value (n + 2) (rest n b xs) h
step_up n h a b xs zs ys e pos lt same low p =
    let F : ℕ → Type 0 = λ j. value (n + 2) (rest n (a - 1) ys) h < value (n + 2) (rest n j xs) h in
    let d : (a - 1) + 1 ≡ a = omega arith in
    subst F (d ∙ e) (falls_up n h (a - 1) xs ys (omega arith) (λ i ia. p.other i ia ∙ same i (omega arith)) (omega (arith, same (a - 1) (omega arith))) (p.new ∙ ap (λ z. z + 1) (same (a - 1) (omega arith))))

pub state_at : (go : ℕ → List ℕ → Type 0) (n h : ℕ) (noted : Bool) (last xs ys : List ℕ) (a b : ℕ) → xs ≡ ys → a ≡ b → State go n h noted last ys b → State go n h noted last xs a
state_at go n h noted last xs ys a b e d s =
    let F : List ℕ → Type 0 = λ z. State go n h noted last z a in
    let G : ℕ → Type 0 = λ z. State go n h noted last ys z in
    subst F (sym e) (subst G (sym d) s)

-- fitting, place by place and at once
pub fits_from_all : (p : Places) (t : Relations) (n h : ℕ) (xs : List ℕ) → 0 < h → All (Goes p t) n h xs → Fits p t n h xs
fits_from_all p t n h xs pos a = record {
  within = a.within;
  pairs = λ c ca i j. elim (cases_lt (p.first c) (p.second c)) [
    | inl l ↦ (a.goes (p.second c) j).pairs c ca (omega arith) (omega arith)
    | inr l ↦ (a.goes (p.first c) i).pairs c ca (omega arith) l
  ];
  stands = (a.goes 0 pos).stands refl;
}

pub all_from_fits : (p : Places) (t : Relations) (n h : ℕ) (xs : List ℕ) → Fits p t n h xs → All (Goes p t) n h xs
all_from_fits p t n h xs f = record {
  within = f.within;
  goes = λ k kh. record { pairs = λ c ca i j. f.pairs c ca (omega arith) (omega arith); stands = λ e. f.stands };
}

pub least_from : (p : Places) (t : Relations) (n h : ℕ) (noted : Bool) (last xs : List ℕ) → 0 < h → Least (All (Goes p t) n h) h noted last xs → Least (Fits p t n h) h noted last xs
least_from p t n h noted last xs pos l = record {
  fits = fits_from_all p t n h xs pos l.fits;
  above = l.above;
  least = λ ys f ab. l.least ys (all_from_fits p t n h ys f) ab;
}
