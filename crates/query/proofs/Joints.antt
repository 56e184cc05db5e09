-- The steps of the readers: loops over joined texts, units, signs.
use Rattle.std.proofs.Common.{◌≡◌, ℕ, ◌+◌, ◌≤◌, true, false, List, [], ◌∷◌, ◌++◌, length, Ok, Err, sym, refl, ap, ◌∙◌, subst, append_assoc, arith}
use Rattle.std.proofs.lemmas.Bool.Decides.{nat_tests}
use Rattle.query.specs.declared.cursor.Reader.{Reader}
use Rattle.automata.specs.declared.builder.Part.{Part}
use Rattle.automata.specs.declared.builder.Builder.{Builder}
use Rattle.meaning.specs.Words.{Regex, cat, alt}
use Rattle.meaning.specs.Words as W
use Rattle.automata.specs.Positions.{size}
use Rattle.query.specs.Grammar as G
use Rattle.automata.specs.Sets.{Linked}
use Rattle.query.specs.Trees.{regex}
use Rattle.automata.specs.Parts.{Built, Holds, Kept, beside, repeated, followed}
use Rattle.automata.proofs.Joining.{joins, repeats, repeats_once, options, eithers, kept_same, kept_then, kept_linked, built_kept}
use Rattle.query.specs.Outcome.{rest, Ahead, Outcome, Eats, Grown}
use Rattle.query.specs.Grammar.{Layer, alternative, sequence, step, unit, Kind, atom, opening, closing, sign, slash, bar, other, kind, Tree, letter, dot, group, plain, one_step, joined, one_sequence, either, text, goes_on, Stops, State, expects, after, dead, move, run, Took, Halted}
use Rattle.query.proofs.Bytes.{runs, halt_here, halt_group, halt_open, halt_plain, not_closing}

-- A layer whose texts are those of the layer inner, joined by the byte x.
pub record Joint (l inner : Layer) (x : ℕ) : Type 0 where
  pub one : Tree inner → Tree l
  pub one_text : (t : Tree inner) → text (one t) ≡ text t
  pub more : Tree l → Tree inner → Tree l
  pub more_text : (u : Tree l) (t : Tree inner) → text (more u t) ≡ text u ++ x ∷ text t
  pub one_regex : (t : Tree inner) → regex (one t) ≡ regex t
  pub op : Regex → Regex → Regex
  pub op_size : (r s : Regex) → size (op r s) ≡ size r + size s
  pub more_regex : (u : Tree l) (t : Tree inner) → regex (more u t) ≡ op (regex u) (regex t)
  pub over : (d : ℕ) → move (after d) (kind x) ≡ expects d
  pub stops : (b : ℕ) → goes_on inner (kind b) ≡ false → (b ≡ x → ⊥) → goes_on l (kind b) ≡ false

abbrev pub by_slash : Joint sequence step 47
by_slash = record { one = one_step; one_text = λ t. refl; more = joined; more_text = λ u t. refl; one_regex = λ t. refl; op = cat; op_size = λ r s. refl; more_regex = λ u t. refl; over = λ d. refl; stops = λ b h n. grind (arith, nat_tests) }

abbrev pub by_bar : Joint alternative sequence 124
by_bar = record { one = one_sequence; one_text = λ t. refl; more = either; more_text = λ u t. refl; one_regex = λ t. refl; op = alt; op_size = λ r s. refl; more_regex = λ u t. refl; over = λ d. refl; stops = λ b h n. grind (arith, nat_tests) }

stops_more : {l inner : Layer} {x : ℕ} (j : Joint l inner x) (rs : List ℕ) → Stops inner rs → ((bs : List ℕ) → rs ≡ x ∷ bs → ⊥) → Stops l rs
stops_more j [] h n = tt
stops_more j (b ∷ bs) h n = j.stops b h (λ e. n bs (ap (λ y. y ∷ bs) e))

-- An inner text that stops short is one of the layer.
halt_one : {l inner : Layer} {x : ℕ} (j : Joint l inner x) {b r : List ℕ} → Halted inner b r → Halted l b r
halt_one j h = record { front = h.front; splits = h.splits; tree = j.one h.tree; more = h.more; viable = j.one_text h.tree ∙ h.viable; dies = h.dies; short = h.short }

-- It stops after some inner texts.
halt_more : {l inner : Layer} {x : ℕ} (j : Joint l inner x) (b now mid r : List ℕ) (u : Tree l) → b ≡ text u ++ now → now ≡ x ∷ mid → Halted inner mid r → Halted l b r
halt_more {x = x} j b now mid r u e f h = record {
  front = text u ++ x ∷ h.front;
  splits = e ∙ ap (λ y. text u ++ y) (f ∙ ap (λ y. x ∷ y) h.splits) ∙ sym (append_assoc (text u) (x ∷ h.front) r);
  tree = j.more u h.tree;
  more = h.more;
  viable = j.more_text u h.tree ∙ ap (λ y. text u ++ x ∷ y) h.viable ∙ sym (append_assoc (text u) (x ∷ h.front) h.more);
  dies = λ d y bs q. ap (run (expects d)) (append_assoc (text u) (x ∷ h.front) (y ∷ [])) ∙ runs u d (x ∷ (h.front ++ y ∷ [])) ∙ ap (λ s. run s (h.front ++ y ∷ [])) (j.over d) ∙ h.dies d y bs q;
  short = λ d k g q. h.short d k g (sym (runs u d (x ∷ h.front) ∙ ap (λ s. run s h.front) (j.over d)) ∙ q);
}

more_of : {l inner : Layer} {x : ℕ} (j : Joint l inner x) (b now mid r : List ℕ) (u : Tree l) (s : Tree inner) → b ≡ text u ++ now → now ≡ x ∷ mid → mid ≡ text s ++ r → b ≡ text (j.more u s) ++ r
more_of {x = x} j b now mid r u s e f g = e ∙ ap (λ y. text u ++ y) (f ∙ ap (λ y. x ∷ y) g) ∙ sym (append_assoc (text u) (x ∷ text s) r) ∙ ap (λ y. y ++ r) (sym (j.more_text u s))

-- The first inner text failed.
pub fails_first : {l inner : Layer} {x : ℕ} (j : Joint l inner x) {z a : Reader} {m m' : Builder} {y : ℕ} → Outcome inner z a m m' (Err y) → Outcome l z a m m' (Err y)
fails_first j o = record { within = o.within; grows = o.grows; text = o.text; few = o.few; reads = (o.reads.0, halt_one j o.reads.1) }

-- The loop begins.
pub begins : {l inner : Layer} {x : ℕ} (j : Joint l inner x) {z a : Reader} {m m' : Builder} {v : Part} → Outcome inner z a m m' (Ok v) → Ahead l inner a a m' m' v v
begins j {m' = m'} o = record { within = o.within; grows = omega arith; text = refl; few = o.few; stops = o.reads.took.stops; took = λ t b h. record { tree = t; splits = refl; holds = h; kept = kept_same b m' } }

-- Two parts that stand one behind the other become one part.
pub record Combines (op : Regex → Regex → Regex) (m m' : Builder) (f g h : Part) : Type 0 where
  pub same : m'.count ≡ m.count
  pub part : (b : ℕ) (r s : Regex) → Built m f b r → Built m g (b + size r) s → Built m' h b (op r s)
  pub kept : (b : ℕ) (r : Regex) → Built m f b r → Kept b m m'

pub by_join : {m m' : Builder} {f g h : Part} → m'.count ≡ m.count → m'.symbols ≡ m.symbols → Linked m.follow m'.follow 64 f.last g.first → h ≡ followed f g → Combines cat m m' f g h
by_join {m} {m'} {f} {g} c l k e = record {
  same = c;
  part = λ b r s x y. subst (λ (w : Part). Built m' w b (cat r s)) (sym e) (joins b r s m m' f g x y k l);
  kept = λ b r x. kept_linked g.first x k l;
}

pub by_either : {m : Builder} {f g h : Part} → h ≡ beside f g → Combines alt m m f g h
by_either {m} {f} {g} e = record {
  same = refl;
  part = λ b r s x y. subst (λ (w : Part). Built m w b (alt r s)) (sym e) (eithers b r s m f g x y);
  kept = λ b r x. kept_same b m;
}

-- A turn of the loop.
pub goes_round : {l inner : Layer} {x : ℕ} (j : Joint l inner x) {a b m n : Reader} {m0 m1 m2 m3 : Builder} {f0 f1 g h : Part} → Ahead l inner a b m0 m1 f0 f1 → Eats x b m true → Outcome inner m n m1 m2 (Ok g) → Combines j.op m2 m3 f1 g h → Ahead l inner a n m0 m3 f0 h
goes_round {l} {inner} {x} j {a} {b} {m} {n} {m0} {m1} {m2} {m3} {f0} {f1} {g} {h} i e o k = record {
  within = o.within;
  grows = omega (arith, i.grows, e.takes.0, o.grows);
  text = o.text ∙ e.text ∙ i.text;
  few = rw k.same o.few;
  stops = o.reads.took.stops;
  took = λ t c y. turn t c (i.took t c y);
}
  where
    turn : (t : Tree l) (c : ℕ) → Grown l a b m0 m1 f1 c t → Grown l a n m0 m3 h c t
    turn t c u =
        let s = o.reads.took.tree in
        let x1 : Built m2 f1 c (regex u.tree) = built_kept (omega (arith, u.holds.counts)) u.holds.built o.reads.kept in
        let x2 : Built m2 g (c + size (regex u.tree)) (regex s) = subst (λ (z : ℕ). Built m2 g z (regex s)) u.holds.counts o.reads.holds.built in
        record {
          tree = j.more u.tree s;
          splits = more_of j _ _ _ _ u.tree s u.splits e.takes.1 o.reads.took.splits;
          holds = record {
            built = subst (Built m3 h c) (sym (j.more_regex u.tree s)) (k.part c (regex u.tree) (regex s) x1 x2);
            counts = rw (j.more_regex u.tree s) (omega (arith, k.same, o.reads.holds.counts, u.holds.counts, j.op_size (regex u.tree) (regex s)));
          };
          kept = kept_then (omega arith) (kept_then (omega (arith, u.holds.counts)) u.kept o.reads.kept) (k.kept c (regex u.tree) x1);
        }

first_grown : {l inner : Layer} {x : ℕ} (j : Joint l inner x) {z a b : Reader} {m m0 m1 : Builder} {f0 f1 : Part} (p : Outcome inner z a m m0 (Ok f0)) → Ahead l inner a b m0 m1 f0 f1 → Grown l a b m0 m1 f1 m.count (j.one p.reads.took.tree)
first_grown j {m = m} {m0} {m1} {f0} p h = h.took (j.one p.reads.took.tree) m.count (subst (Holds m0 f0 m.count) (sym (j.one_regex p.reads.took.tree)) p.reads.holds)

-- A later inner text failed.
pub fails_later : {l inner : Layer} {x : ℕ} (j : Joint l inner x) {z a b m n : Reader} {k0 m0 m1 m2 : Builder} {f0 f1 : Part} {y : ℕ} → Outcome inner z a k0 m0 (Ok f0) → Ahead l inner a b m0 m1 f0 f1 → Eats x b m true → Outcome inner m n m1 m2 (Err y) → Outcome l z n k0 m2 (Err y)
fails_later j {z} {a} p h e o =
    let u = first_grown j p h in
    record {
      within = o.within;
      grows = omega (arith, p.grows, h.grows, e.takes.0, o.grows);
      text = o.text ∙ e.text ∙ h.text ∙ p.text;
      few = o.few;
      reads = (o.reads.0, halt_more j _ _ _ _ u.tree (p.reads.took.splits ∙ ap (λ y. y ++ rest a) (sym (j.one_text p.reads.took.tree)) ∙ u.splits) e.takes.1 o.reads.1);
    }

-- The loop ends.
pub ends : {l inner : Layer} {x : ℕ} (j : Joint l inner x) {z a b m : Reader} {k0 m0 m1 : Builder} {f0 f1 : Part} → Outcome inner z a k0 m0 (Ok f0) → Ahead l inner a b m0 m1 f0 f1 → Eats x b m false → Outcome l z m k0 m1 (Ok f1)
ends j {z} {a} p h e =
    let u = first_grown j p h in
    record {
      within = e.within;
      grows = omega (arith, p.grows, h.grows, e.takes.0);
      text = e.text ∙ h.text ∙ p.text;
      few = rw e.takes.0 h.few;
      reads = record {
        took = record {
          tree = u.tree;
          splits = p.reads.took.splits ∙ ap (λ y. y ++ rest a) (sym (j.one_text p.reads.took.tree)) ∙ u.splits ∙ ap (λ y. text u.tree ++ y) (sym e.takes.1);
          stops = subst (Stops _) (sym e.takes.1) (stops_more j _ h.stops e.takes.2);
        };
        holds = u.holds;
        kept = kept_then (omega arith) p.reads.kept u.kept;
      };
    }

-- A unit that stops at its first byte.
pub not_here : (z : Reader) (m : Builder) → m.count ≤ z.at + 1 → (b : List ℕ) → rest z ≡ b → z.at ≤ length z.text.now → ((d c : ℕ) (bs : List ℕ) → b ≡ c ∷ bs → move (expects d) (kind c) ≡ dead) → Outcome unit z z m m (Err z.at)
not_here z m k b e w h = record { within = w; few = k; grows = omega arith; text = refl; reads = (refl, halt_here (rest z) (λ d c bs q. h d c bs (sym e ∙ q))) }

stops_unit : (rs : List ℕ) → Stops unit rs
stops_unit [] = tt
stops_unit (b ∷ bs) = refl

-- A unit of one byte.
pub one_byte : (z n : Reader) (t : Tree unit) {m m' : Builder} {v : Part} (c : ℕ) → m'.count ≤ n.at + 1 → Holds m' v m.count (regex t) → Kept m.count m m' → n.at ≤ length n.text.now → z.at ≤ n.at → n.text.now ≡ z.text.now → rest z ≡ c ∷ rest n → c ∷ [] ≡ text t → Outcome unit z n m m' (Ok v)
one_byte z n t c k y x w g e s f = record { within = w; few = k; grows = g; text = e; reads = record { took = record { tree = t; splits = s ∙ ap (λ y. y ++ rest n) f; stops = stops_unit (rest n) }; holds = y; kept = x } }

-- What stands in brackets failed.
pub fails_inside : {z m n : Reader} {k k' : Builder} {y : ℕ} → (x : ℕ) → rest z ≡ x ∷ rest m → x ≡ 40 → m.at ≡ z.at + 1 → m.text.now ≡ z.text.now → Outcome alternative m n k k' (Err y) → Outcome unit z n k k' (Err y)
fails_inside {m = m} x s f a e o = record { within = o.within; grows = omega (arith, o.grows); text = o.text ∙ e; few = o.few; reads = (o.reads.0, halt_group _ (rest m) _ (s ∙ ap (λ y. y ∷ rest m) f) o.reads.1) }

-- The brackets are closed.
pub closes : {z m n p : Reader} {k k' : Builder} {v : Part} → (x : ℕ) → rest z ≡ x ∷ rest m → x ≡ 40 → m.at ≡ z.at + 1 → m.text.now ≡ z.text.now → Outcome alternative m n k k' (Ok v) → Eats 41 n p true → Outcome unit z p k k' (Ok v)
closes {m = m} {p = p} x s f a e o c = record {
  within = c.within;
  grows = omega (arith, o.grows, c.takes.0);
  text = c.text ∙ o.text ∙ e;
  few = omega (arith, o.few, c.takes.0);
  reads = record {
    holds = o.reads.holds;
    kept = o.reads.kept;
    took = record {
      tree = group o.reads.took.tree;
      splits = s ∙ ap (λ y. y ∷ rest m) f ∙ ap (λ y. 40 ∷ y) (o.reads.took.splits ∙ ap (λ y. text o.reads.took.tree ++ y) c.takes.1 ∙ sym (append_assoc (text o.reads.took.tree) (41 ∷ []) (rest p)));
      stops = stops_unit (rest p);
    };
  };
}

-- Something else stands where they should be closed.
pub unclosed : {z m n p : Reader} {k k' : Builder} {v : Part} → (x : ℕ) → rest z ≡ x ∷ rest m → x ≡ 40 → m.at ≡ z.at + 1 → m.text.now ≡ z.text.now → Outcome alternative m n k k' (Ok v) → Eats 41 n p false → Outcome unit z p k k' (Err p.at)
unclosed {z} {m} {n} {p} x₀ s f a e o c = record {
  within = c.within;
  grows = omega (arith, o.grows, c.takes.0);
  text = c.text ∙ o.text ∙ e;
  few = omega (arith, o.few, c.takes.0);
  reads = (refl, subst (Halted unit (rest z)) (sym c.takes.1) (halt_open (rest z) (rest m) (rest n) (s ∙ ap (λ y. y ∷ rest m) f) o.reads.took (λ d x bs q. not_closing x d (rw q at o.reads.took.stops) (λ h. c.takes.2 bs (q ∙ ap (λ y. y ∷ bs) h)))));
}

-- A unit with its signs.
pub fails_unit : {z a : Reader} {k k' : Builder} {y : ℕ} → Outcome unit z a k k' (Err y) → Outcome step z a k k' (Err y)
fails_unit o = record { within = o.within; grows = o.grows; text = o.text; few = o.few; reads = (o.reads.0, halt_plain o.reads.1) }

pub with_signs : {z a b : Reader} {k m m' : Builder} {v w : Part} → Outcome unit z a k m (Ok v) → Ahead step step a b m m' v w → Outcome step z b k m' (Ok w)
with_signs {k = k} o h =
    let u = h.took (plain o.reads.took.tree) k.count o.reads.holds in
    record {
      within = h.within;
      grows = omega (arith, o.grows, h.grows);
      text = h.text ∙ o.text;
      few = h.few;
      reads = record { took = record { tree = u.tree; splits = o.reads.took.splits ∙ u.splits; stops = h.stops }; holds = u.holds; kept = kept_then (omega arith) o.reads.kept u.kept };
    }

-- A byte that begins no unit.
pub no_unit : (c d : ℕ) → ((97 ≤ c) × (c ≤ 122) → ⊥) → (c ≡ 46 → ⊥) → (c ≡ 40 → ⊥) → move (expects d) (kind c) ≡ dead
no_unit c d a b e = grind (arith, nat_tests)

-- Nothing is left.
pub at_end : (z : Reader) (m : Builder) → m.count ≤ z.at + 1 → rest z ≡ [] → z.at ≤ length z.text.now → Outcome unit z z m m (Err z.at)
at_end z m k e w = not_here z m k [] e w (λ d c bs q. let o : ◌≡◌ {A = ℕ} 0 1 = cc in absurd (omega arith))

-- Another byte comes.
pub bad_here : (z : Reader) (m : Builder) → m.count ≤ z.at + 1 → (c : ℕ) (r : List ℕ) → rest z ≡ c ∷ r → z.at ≤ length z.text.now → (97 ≤ c → c ≤ 122 → ⊥) → (c ≡ 46 → ⊥) → (c ≡ 40 → ⊥) → Outcome unit z z m m (Err z.at)
bad_here z m k c r e w f g h = not_here z m k (c ∷ r) e w (λ d x bs q. let k : c ≡ x = cc in ap (λ y. move (expects d) (kind y)) (sym k) ∙ no_unit c d (λ p. f p.0 p.1) g h)

-- The signs of a unit so far.
pub record Moved (l : Layer) (old new : Reader) (m m' : Builder) (f f' : Part) : Type 0 where
  pub within : new.at ≤ length new.text.now
  pub grows : old.at ≤ new.at
  pub text : new.text.now ≡ old.text.now
  pub few : m'.count ≤ new.at + 1
  pub took : (t : Tree l) (b : ℕ) → Holds m f b (regex t) → Grown l old new m m' f' b t

-- What a sign does to a part.
pub record Signs (x : ℕ) (m m' : Builder) (f g : Part) : Type 0 where
  pub same : m'.count ≡ m.count
  pub tree : Tree step → Tree step
  pub tree_text : (t : Tree step) → text (tree t) ≡ text t ++ x ∷ []
  pub tree_size : (t : Tree step) → size (regex (tree t)) ≡ size (regex t)
  pub part : (b : ℕ) (t : Tree step) → Built m f b (regex t) → Built m' g b (regex (tree t))
  pub kept : (b : ℕ) (t : Tree step) → Built m f b (regex t) → Kept b m m'

pub by_star : {m m' : Builder} {f g : Part} → m'.count ≡ m.count → m'.symbols ≡ m.symbols → Linked m.follow m'.follow 64 f.last f.first → g ≡ repeated f → Signs 42 m m' f g
by_star {m} {m'} {f} c l k e = record {
  same = c;
  tree = G.star;
  tree_text = λ t. refl;
  tree_size = λ t. refl;
  part = λ b t x. subst (λ (w : Part). Built m' w b (W.star (regex t))) (sym e) (repeats b (regex t) m m' f x k l);
  kept = λ b t x. kept_linked f.first x k l;
}

pub by_plus : {m m' : Builder} {f g : Part} → m'.count ≡ m.count → m'.symbols ≡ m.symbols → Linked m.follow m'.follow 64 f.last f.first → g ≡ f → Signs 43 m m' f g
by_plus {m} {m'} {f} c l k e = record {
  same = c;
  tree = G.plus;
  tree_text = λ t. refl;
  tree_size = λ t. refl;
  part = λ b t x. subst (λ (w : Part). Built m' w b (W.plus (regex t))) (sym e) (repeats_once b (regex t) m m' f x k l);
  kept = λ b t x. kept_linked f.first x k l;
}

pub by_opt : {m : Builder} {f g : Part} → g ≡ repeated f → Signs 63 m m f g
by_opt {m} {f} e = record {
  same = refl;
  tree = G.opt;
  tree_text = λ t. refl;
  tree_size = λ t. refl;
  part = λ b t x. subst (λ (w : Part). Built m w b (W.opt (regex t))) (sym e) (options b (regex t) m f x);
  kept = λ b t x. kept_same b m;
}

pub sign_more : (x y : ℕ) {a b n : Reader} {m0 m1 m2 : Builder} {f0 f1 g : Part} → Moved step a b m0 m1 f0 f1 → rest b ≡ y ∷ rest n → y ≡ x → n.at ≡ b.at + 1 → n.text.now ≡ b.text.now → n.at ≤ length n.text.now → Signs x m1 m2 f1 g → Moved step a n m0 m2 f0 g
sign_more x y {a} {b} {n} {m0} {m1} {m2} {f0} {f1} {g} i s q p e w k = record {
  within = w;
  grows = omega (arith, i.grows);
  text = e ∙ i.text;
  few = omega (arith, i.few, k.same);
  took = λ t c h. turn t c (i.took t c h);
}
  where
    turn : (t : Tree step) (c : ℕ) → Grown step a b m0 m1 f1 c t → Grown step a n m0 m2 g c t
    turn t c u = record {
      tree = k.tree u.tree;
      splits = u.splits ∙ ap (λ z. text u.tree ++ z) (s ∙ ap (λ z. z ∷ rest n) q) ∙ sym (append_assoc (text u.tree) (x ∷ []) (rest n)) ∙ ap (λ z. z ++ rest n) (sym (k.tree_text u.tree));
      holds = record { built = k.part c u.tree u.holds.built; counts = omega (arith, k.same, u.holds.counts, k.tree_size u.tree) };
      kept = kept_then (omega arith) u.kept (k.kept c u.tree u.holds.built);
    }
