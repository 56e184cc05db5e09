-- The 64th letter or dot of an expression.
use Rattle.std.proofs.Common.{◌≡◌, ℕ, zero, suc, ◌+◌, ◌-◌, ◌<◌, ◌≤◌, Bool, true, false, cond, List, [], ◌∷◌, ◌++◌, length, get_or, drop, take, Some, None, sym as back, refl, ap, ◌∙◌, inl, inr, append_assoc, arith, length-append}
use Rattle.std.proofs.lemmas.Grind.{common_steps}
use Rattle.std.proofs.lemmas.Bool.{le-leb, cases_lt}
use Rattle.std.proofs.lemmas.List.{drop_more}
use Rattle.query.specs.Grammar as G
use Rattle.query.specs.Grammar.{Layer, Tree, text, letter, dot, group, plain, one_step, joined, one_sequence, either}
use Rattle.automata.specs.Positions.{size}
use Rattle.query.specs.Trees.{regex}
use Rattle.query.specs.Queries.{Inside, nothing, filled, inside_text, inside_regex, AtomTree, atom_tree, atom_text}
use Rattle.query.specs.Limits.{symbol, weigh, symbols, SixtyFourth, Over, Lowest, inside_of}

pub symbols_append : (xs ys : List ℕ) → symbols (xs ++ ys) ≡ symbols xs + symbols ys
symbols_append [] ys = omega arith
symbols_append (x ∷ xs) ys = omega (arith, symbols_append xs ys)

symbol_letter : (b : ℕ) → 97 ≤ b → b ≤ 122 → symbol b ≡ true
symbol_letter b h k = simp (le-leb 97 b h, le-leb b 122 k)

-- The letters and dots of a text are the positions of its expression.
pub symbols_text : {l : Layer} (t : Tree l) → symbols (text t) ≡ size (regex t)
symbols_text (letter b h k) = simp (symbol_letter b h k)
symbols_text dot = refl
symbols_text (group t) = omega (arith, symbols_append (text t) (41 ∷ []), symbols_text t)
symbols_text (plain t) = symbols_text t
symbols_text (G.star t) = omega (arith, symbols_append (text t) (42 ∷ []), symbols_text t)
symbols_text (G.plus t) = omega (arith, symbols_append (text t) (43 ∷ []), symbols_text t)
symbols_text (G.opt t) = omega (arith, symbols_append (text t) (63 ∷ []), symbols_text t)
symbols_text (one_step t) = symbols_text t
symbols_text (joined s t) = omega (arith, symbols_append (text s) (47 ∷ text t), symbols_text s, symbols_text t)
symbols_text (one_sequence t) = symbols_text t
symbols_text (either s t) = omega (arith, symbols_append (text s) (124 ∷ text t), symbols_text s, symbols_text t)

pub weighs : (b : ℕ) → symbol b ≡ true → weigh b ≡ 1
weighs b h = ap {B = ℕ} (λ (z : Bool). cond z 1 0) h

pub weighs_not : (b : ℕ) → symbol b ≡ false → weigh b ≡ 0
weighs_not b h = ap {B = ℕ} (λ (z : Bool). cond z 1 0) h

-- The search so far.
pub record Sought (xs : List ℕ) (from at seen : ℕ) : Type 0 where
  pub passed : List ℕ
  pub splits : drop from xs ≡ passed ++ drop at xs
  pub many : symbols passed ≡ seen
  pub place : at ≡ from + length passed
  pub few : seen ≤ 63

pub sought_more : {xs : List ℕ} {from at seen : ℕ} (n : ℕ) → at < length xs → Sought xs from at seen → seen + weigh (get_or xs at 0) ≡ n → n ≤ 63 → Sought xs from (at + 1) n
sought_more {xs} {from} {at} {seen} n lt i e le = record {
  passed = i.passed ++ get_or xs at 0 ∷ [];
  splits = i.splits ∙ ap (λ y. i.passed ++ y) (drop_more xs at 0 lt) ∙ back (append_assoc i.passed (get_or xs at 0 ∷ []) (drop (at + 1) xs));
  many = omega (arith, symbols_append i.passed (get_or xs at 0 ∷ []), i.many);
  place = omega (arith, i.place, length-append i.passed (get_or xs at 0 ∷ []));
  few = le;
}

-- A 64th letter or dot of a longer text stands in its beginning if that has as many.
in_front : (u e rest : List ℕ) (b : ℕ) (v : List ℕ) → u ++ b ∷ v ≡ e ++ rest → symbols u < symbols e → (w : List ℕ) × (e ≡ u ++ b ∷ w)
in_front [] [] rest b v q h = absurd (omega arith)
in_front [] (x ∷ e) rest b v q h = let k : b ≡ x = cc in (e, ap (λ y. y ∷ e) (back k))
in_front (y ∷ u) [] rest b v q h = absurd (omega arith)
in_front (y ∷ u) (x ∷ e) rest b v q h =
    let k : y ≡ x = cc in
    let t : u ++ b ∷ v ≡ e ++ rest = cc in
    let s : weigh y ≡ weigh x = ap weigh k in
    let r = in_front u e rest b v t (omega arith) in
    (r.0, ap (λ z. z ∷ e) (back k) ∙ ap (λ z. y ∷ z) r.1)

in_beginning : (xs e rest : List ℕ) (j : ℕ) → xs ≡ e ++ rest → 64 ≤ symbols e → SixtyFourth xs j → SixtyFourth e j
in_beginning xs e rest j q h s =
    let r = in_front s.before e rest s.byte s.behind (back s.splits ∙ q) (omega (arith, s.many)) in
    record { before = s.before; byte = s.byte; behind = r.0; splits = r.1; letter = s.letter; many = s.many; place = s.place }

-- There is one 64th.
same_length : (u w : List ℕ) (a b : ℕ) (v z : List ℕ) → u ++ a ∷ v ≡ w ++ b ∷ z → symbol a ≡ true → symbol b ≡ true → symbols u ≡ symbols w → length u ≡ length w
same_length [] [] a b v z q h k e = refl
same_length [] (y ∷ w) a b v z q h k e =
    let o : a ≡ y = cc in
    let s : weigh y ≡ 1 = ap weigh (back o) ∙ weighs a h in absurd (omega arith)
same_length (x ∷ u) [] a b v z q h k e =
    let o : b ≡ x = cc in
    let s : weigh x ≡ 1 = ap weigh (back o) ∙ weighs b k in absurd (omega arith)
same_length (x ∷ u) (y ∷ w) a b v z q h k e =
    let o : x ≡ y = cc in
    let t : u ++ a ∷ v ≡ w ++ b ∷ z = cc in
    let s : weigh x ≡ weigh y = ap weigh o in
    omega (arith, same_length u w a b v z t h k (omega arith))

only_one : {xs : List ℕ} {i j : ℕ} → SixtyFourth xs i → SixtyFourth xs j → i ≡ j
only_one s t = s.place ∙ same_length s.before t.before s.byte t.byte s.behind t.behind (back s.splits ∙ t.splits) s.letter t.letter (s.many ∙ back t.many) ∙ back t.place

has_many : {xs : List ℕ} {j : ℕ} → SixtyFourth xs j → 64 ≤ symbols xs
has_many {xs} s =
    let e : symbols xs ≡ symbols s.before + symbols (s.byte ∷ s.behind) = ap symbols s.splits ∙ symbols_append s.before (s.byte ∷ s.behind) in
    let o : weigh s.byte ≡ 1 = weighs s.byte s.letter in
    omega (arith, s.many)

inside_many : (i : Inside) → 64 ≤ size (inside_regex i) → 64 ≤ symbols (inside_text i)
inside_many nothing h = absurd (omega arith)
inside_many (filled t) h = omega (arith, symbols_text t)

inside_few : (i : Inside) → size (inside_regex i) ≤ 63 → symbols (inside_text i) ≤ 63
inside_few nothing h = omega arith
inside_few (filled t) h = omega (arith, symbols_text t)

pub over_letters : (xs : List ℕ) (b n p : ℕ) (t : AtomTree) (ys : List ℕ) → (n ≡ 8 → ⊥) → 63 < size (inside_regex (inside_of t)) → drop b xs ≡ atom_text t ++ ys → (64 ≤ symbols (drop (b + 2) xs) → (j : ℕ) × (p ≡ b + 2 + j) × SixtyFourth (drop (b + 2) xs) j) → Lowest (Over b n t) (Some p)
over_letters xs b n p (atom_tree u h i v k) ys ne lt e f =
    let d : drop (b + 2) xs ≡ inside_text i ++ ((93 ∷ v ∷ []) ++ ys) = drop_two xs b u 91 _ e ∙ append_assoc (inside_text i) (93 ∷ v ∷ []) ys in
    let m : 64 ≤ symbols (inside_text i) = inside_many i lt in
    let w : 64 ≤ symbols (drop (b + 2) xs) = omega (arith, ap symbols d, symbols_append (inside_text i) ((93 ∷ v ∷ []) ++ ys)) in
    let g = f w in
    let s : SixtyFourth (inside_text i) g.0 = in_beginning (drop (b + 2) xs) (inside_text i) ((93 ∷ v ∷ []) ++ ys) g.0 d m g.2 in
    (inr (g.0, g.1, s), λ q. elim [ inl o ↦ absurd (ne o.0) | inr o ↦ (let z = only_one s o.2 in let y = o.1 in omega (arith, g.1)) ])
  where
    drop_two : (xs : List ℕ) (b x y : ℕ) (zs : List ℕ) → drop b xs ≡ x ∷ y ∷ zs → drop (b + 2) xs ≡ zs
    drop_two xs zero x y zs e = ap (drop 2) e
    drop_two [] (suc b) x y zs e = let o : ◌≡◌ {A = ℕ} 0 1 = cc in absurd (omega arith)
    drop_two (w ∷ xs) (suc b) x y zs e = let q : suc b + 2 ≡ suc (b + 2) = omega arith in ap (λ m. drop m (w ∷ xs)) q ∙ drop_two xs b x y zs e

pub over_none : (b n : ℕ) (t : AtomTree) → (n ≡ 8 → ⊥) → size (inside_regex (inside_of t)) ≤ 63 → Lowest (Over b n t) None
over_none b n t ne le = λ p. elim [ inl o ↦ ne o.0 | inr o ↦ (let k = has_many o.2 in let m = inside_few (inside_of t) le in omega arith) ]

-- The symbol of xs behind n others.
record Nth (n : ℕ) (xs : List ℕ) : Type 0 where
  before : List ℕ
  byte : ℕ
  behind : List ℕ
  splits : xs ≡ before ++ byte ∷ behind
  letter : symbol byte ≡ true
  many : symbols before ≡ n

nth_more : (x : ℕ) {n m : ℕ} {xs : List ℕ} → Nth n xs → weigh x + n ≡ m → Nth m (x ∷ xs)
nth_more x r e = record { before = x ∷ r.before; byte = r.byte; behind = r.behind; splits = ap (λ y. x ∷ y) r.splits; letter = r.letter; many = omega (arith, r.many) }

nth_step : (x : ℕ) (xs : List ℕ) → ((n : ℕ) → n < symbols xs → Nth n xs) → (y : Bool) → symbol x ≡ y → (n : ℕ) → n < weigh x + symbols xs → Nth n (x ∷ xs)
nth_step x xs ih true e zero h = record { before = []; byte = x; behind = xs; splits = refl; letter = e; many = refl }
nth_step x xs ih true e (suc n) h = let w : weigh x ≡ 1 = weighs x e in nth_more x (ih n (omega arith)) (omega arith)
nth_step x xs ih false e n h = let w : weigh x ≡ 0 = weighs_not x e in nth_more x (ih n (omega arith)) (omega arith)

nth : (xs : List ℕ) (n : ℕ) → n < symbols xs → Nth n xs
nth [] n h = absurd (omega arith)
nth (x ∷ xs) n h = nth_step x xs (nth xs) (symbol x) refl n h

-- There is a 64th if there are as many.
is_there : (xs : List ℕ) → 64 ≤ symbols xs → (j : ℕ) × SixtyFourth xs j
is_there xs h =
    let r = nth xs 63 (omega arith) in
    (length r.before, record { before = r.before; byte = r.byte; behind = r.behind; splits = r.splits; letter = r.letter; many = r.many; place = refl })

pub over_not : (b n : ℕ) (t : AtomTree) → ((p : ℕ) → Over b n t p → ⊥) → size (inside_regex (inside_of t)) ≤ 63
over_not b n t h = elim (cases_lt 63 (size (inside_regex (inside_of t)))) [
  | inl lt ↦ (let s = is_there (inside_text (inside_of t)) (inside_many (inside_of t) lt) in absurd (h (b + 2 + s.0) (inr (s.0, refl, s.1))))
  | inr ge ↦ ge
]

-- reads of what stands from a place on
pub read_from : (xs : List ℕ) (from i : ℕ) → from ≤ length xs → i < length xs - from → get_or (take (length xs - from) (drop from xs)) i 0 ≡ get_or xs (from + i) 0
read_from xs from i l h = grind (arith, common_steps)

pub length_from : (xs : List ℕ) (from : ℕ) → length (take (length xs - from) (drop from xs)) ≡ length xs - from
length_from xs from = grind (arith, common_steps)
