-- Parts of an expression joined to greater ones.
use Rattle.std.proofs.Common.{◌≡◌, ℕ, ◌+◌, ◌<◌, ◌≤◌, Bool, true, false, cond, ◌&&◌, ◌||◌, ◌≢◌, ◌⊎◌, ◌↔◌, List, length, get_or, set, sym as back, refl, ap, ◌∙◌, subst, inl, inr, arith, get_or-set_other, get_or-set_same}
use lib.Bits.{bit_or}
use Rattle.std.proofs.lemmas.Bool.{and_parts, and_from, or_cases, or_left, or_right, cases_lt, false≢true}
use Rattle.meaning.specs.Words.{Regex, one, cat, alt, star, plus, opt, Matches}
use Rattle.automata.specs.declared.builder.Builder.{Builder}
use Rattle.automata.specs.declared.builder.Part.{Part}
use Rattle.automata.specs.declared.symbols.Symbol.{Symbol}
use Rattle.automata.specs.declared.symbols.Symbol.TheVariants.{Any}
use Rattle.automata.specs.Parts.{meant, followed, beside, repeated, Built, Holds, Kept}
use Rattle.automata.specs.Positions.{size, In, Follow, Reads}
use Rattle.bits.specs.Bits.{Has}
use Rattle.bits.proofs.Sets.{has_or, has_zero}
use Rattle.automata.specs.Sets.{Linked}
use Rattle.automata.proofs.Positions.{last_in, follow_in, reads_in}

-- A union that is taken only where a test says so.
pick : {F G N : Type 0} (n : Bool) (x y p : ℕ) → (n ≡ true) ↔ N → Has x p ↔ F → Has y p ↔ G → Has (cond n (bit_or x y) x) p ↔ (F ⊎ (N × G))
pick true x y p n f g = (
  (λ h. elim ((has_or x y p).0 h) [ inl k ↦ inl (f.0 k) | inr k ↦ inr (n.0 refl, g.0 k) ]),
  elim [ inl h ↦ (has_or x y p).1 (inl (f.1 h)) | inr h ↦ (has_or x y p).1 (inr (g.1 h.1)) ],
)
pick false x y p n f g = ((λ h. inl (f.0 h)), elim [ inl h ↦ f.1 h | inr h ↦ absurd (false≢true (n.1 h.0)) ])

union : {F G : Type 0} (x y p : ℕ) → Has x p ↔ F → Has y p ↔ G → Has (bit_or x y) p ↔ (F ⊎ G)
union x y p f g = (
  (λ h. elim ((has_or x y p).0 h) [ inl k ↦ inl (f.0 k) | inr k ↦ inr (g.0 k) ]),
  elim [ inl h ↦ (has_or x y p).1 (inl (f.1 h)) | inr h ↦ (has_or x y p).1 (inr (g.1 h)) ],
)

both : (m n : Bool) {N M : Type 0} → (m ≡ true) ↔ N → (n ≡ true) ↔ M → ((m && n) ≡ true) ↔ (N × M)
both m n f g = ((λ h. let k = and_parts m n h in (f.0 k.0, g.0 k.1)), λ h. and_from m n (f.1 h.0) (g.1 h.1))

one_of : (m n : Bool) {N M : Type 0} → (m ≡ true) ↔ N → (n ≡ true) ↔ M → ((m || n) ≡ true) ↔ (N ⊎ M)
one_of m n f g = ((λ h. elim (or_cases m n h) [ inl k ↦ inl (f.0 k) | inr k ↦ inr (g.0 k) ]), elim [ inl h ↦ or_left m n (f.1 h) | inr h ↦ or_right m n (g.1 h) ])

pub joins : (b : ℕ) (r s : Regex) (old new : Builder) (f g : Part) → Built old f b r → Built old g (b + size r) s → Linked old.follow new.follow 64 f.last g.first → new.symbols ≡ old.symbols → Built new (followed f g) b (cat r s)
joins b r s old new f g x y l e = record {
  null = both f.nullable g.nullable x.null y.null;
  first = λ p h. pick f.nullable f.first g.first p x.null (x.first p h) (y.first p h);
  last = λ p h. pick g.nullable g.last f.last p y.null (y.last p h) (x.last p h);
  follow = λ p q h k i. elim (cases_lt p (b + size r)) [ inl lt ↦ here p q h k (i.0, lt) | inr ge ↦ there p q h k (ge, omega arith) ];
  reads = λ n p a h i. elim (cases_lt p (b + size r)) [ inl lt ↦ label_here n p a h (i.0, lt) | inr ge ↦ label_there n p a h (ge, omega arith) ];
}
  where
    here : (p q : ℕ) → p < 64 → q < 64 → In b r p → Has (get_or new.follow p 0) q ↔ Follow b (cat r s) p q
    here p q h k i = (
      (λ z. elim ((l p q).0 z) [ inl o ↦ inl ((x.follow p q h k i).0 o) | inr o ↦ inr (inr ((x.last p h).0 o.1, (y.first q k).0 o.2)) ]),
      elim [
        | inl z ↦ (l p q).1 (inl ((x.follow p q h k i).1 z))
        | inr (inl z) ↦ (let w = follow_in (b + size r) s p q z in absurd (omega arith))
        | inr (inr z) ↦ (l p q).1 (inr (h, (x.last p h).1 z.0, (y.first q k).1 z.1))
      ],
    )

    there : (p q : ℕ) → p < 64 → q < 64 → In (b + size r) s p → Has (get_or new.follow p 0) q ↔ Follow b (cat r s) p q
    there p q h k i = (
      (λ z. elim ((l p q).0 z) [ inl o ↦ inr (inl ((y.follow p q h k i).0 o)) | inr o ↦ (let w = last_in b r p ((x.last p h).0 o.1) in absurd (omega arith)) ]),
      elim [
        | inl z ↦ (let w = follow_in b r p q z in absurd (omega arith))
        | inr (inl z) ↦ (l p q).1 (inl ((y.follow p q h k i).1 z))
        | inr (inr z) ↦ (let w = last_in b r p z.0 in absurd (omega arith))
      ],
    )

    label_here : (n p a : ℕ) → p < 64 → In b r p → Matches n (meant (get_or new.symbols p Any)) a ↔ Reads n b (cat r s) p a
    label_here n p a h i = rw e ((λ z. inl ((x.reads n p a h i).0 z)), elim [ inl z ↦ (x.reads n p a h i).1 z | inr z ↦ (let w = reads_in n (b + size r) s p a z in absurd (omega arith)) ])

    label_there : (n p a : ℕ) → p < 64 → In (b + size r) s p → Matches n (meant (get_or new.symbols p Any)) a ↔ Reads n b (cat r s) p a
    label_there n p a h i = rw e ((λ z. inr ((y.reads n p a h i).0 z)), elim [ inl z ↦ (let w = reads_in n b r p a z in absurd (omega arith)) | inr z ↦ (y.reads n p a h i).1 z ])

pub repeats : (b : ℕ) (r : Regex) (old new : Builder) (f : Part) → Built old f b r → Linked old.follow new.follow 64 f.last f.first → new.symbols ≡ old.symbols → Built new (repeated f) b (star r)
repeats b r old new f x l e = record {
  null = ((λ h. tt), λ h. refl);
  first = x.first;
  last = x.last;
  follow = λ p q h k i. (
    (λ z. elim ((l p q).0 z) [ inl o ↦ inl ((x.follow p q h k i).0 o) | inr o ↦ inr ((x.last p h).0 o.1, (x.first q k).0 o.2) ]),
    elim [ inl z ↦ (l p q).1 (inl ((x.follow p q h k i).1 z)) | inr z ↦ (l p q).1 (inr (h, (x.last p h).1 z.0, (x.first q k).1 z.1)) ],
  );
  reads = λ n p a h i. rw e (x.reads n p a h i);
}

pub eithers : (b : ℕ) (r s : Regex) (m : Builder) (f g : Part) → Built m f b r → Built m g (b + size r) s → Built m (beside f g) b (alt r s)
eithers b r s m f g x y = record {
  null = one_of f.nullable g.nullable x.null y.null;
  first = λ p h. union f.first g.first p (x.first p h) (y.first p h);
  last = λ p h. union f.last g.last p (x.last p h) (y.last p h);
  follow = λ p q h k i. elim (cases_lt p (b + size r)) [ inl lt ↦ here p q h k (i.0, lt) | inr ge ↦ there p q h k (ge, omega arith) ];
  reads = λ n p a h i. elim (cases_lt p (b + size r)) [ inl lt ↦ label_here n p a h (i.0, lt) | inr ge ↦ label_there n p a h (ge, omega arith) ];
}
  where
    here : (p q : ℕ) → p < 64 → q < 64 → In b r p → Has (get_or m.follow p 0) q ↔ Follow b (alt r s) p q
    here p q h k i = ((λ z. inl ((x.follow p q h k i).0 z)), elim [ inl z ↦ (x.follow p q h k i).1 z | inr z ↦ (let w = follow_in (b + size r) s p q z in absurd (omega arith)) ])

    there : (p q : ℕ) → p < 64 → q < 64 → In (b + size r) s p → Has (get_or m.follow p 0) q ↔ Follow b (alt r s) p q
    there p q h k i = ((λ z. inr ((y.follow p q h k i).0 z)), elim [ inl z ↦ (let w = follow_in b r p q z in absurd (omega arith)) | inr z ↦ (y.follow p q h k i).1 z ])

    label_here : (n p a : ℕ) → p < 64 → In b r p → Matches n (meant (get_or m.symbols p Any)) a ↔ Reads n b (alt r s) p a
    label_here n p a h i = ((λ z. inl ((x.reads n p a h i).0 z)), elim [ inl z ↦ (x.reads n p a h i).1 z | inr z ↦ (let w = reads_in n (b + size r) s p a z in absurd (omega arith)) ])

    label_there : (n p a : ℕ) → p < 64 → In (b + size r) s p → Matches n (meant (get_or m.symbols p Any)) a ↔ Reads n b (alt r s) p a
    label_there n p a h i = ((λ z. inr ((y.reads n p a h i).0 z)), elim [ inl z ↦ (let w = reads_in n b r p a z in absurd (omega arith)) | inr z ↦ (y.reads n p a h i).1 z ])

pub repeats_once : (b : ℕ) (r : Regex) (old new : Builder) (f : Part) → Built old f b r → Linked old.follow new.follow 64 f.last f.first → new.symbols ≡ old.symbols → Built new f b (plus r)
repeats_once b r old new f x l e = record {
  null = x.null;
  first = x.first;
  last = x.last;
  follow = λ p q h k i. (repeats b r old new f x l e).follow p q h k i;
  reads = λ n p a h i. rw e (x.reads n p a h i);
}

pub options : (b : ℕ) (r : Regex) (m : Builder) (f : Part) → Built m f b r → Built m (repeated f) b (opt r)
options b r m f x = record { null = ((λ h. tt), λ h. refl); first = x.first; last = x.last; follow = x.follow; reads = x.reads }

pub kept_same : (n : ℕ) (m : Builder) → Kept n m m
kept_same n m = record { follow = λ x q h. ((λ z. z), λ z. z); symbols = λ x h. refl }

pub kept_then : {n k : ℕ} {a b c : Builder} → n ≤ k → Kept n a b → Kept k b c → Kept n a c
kept_then le x y = record {
  follow = λ z q h. ((λ g. (x.follow z q h).0 ((y.follow z q (omega arith)).0 g)), λ g. (y.follow z q (omega arith)).1 ((x.follow z q h).1 g));
  symbols = λ z h. y.symbols z (omega arith) ∙ x.symbols z h;
}

pub kept_linked : {old new : Builder} {f : Part} {b : ℕ} {r : Regex} (first : ℕ) → Built old f b r → Linked old.follow new.follow 64 f.last first → new.symbols ≡ old.symbols → Kept b old new
kept_linked {f = f} {b = b} {r = r} first x l e = record {
  follow = λ z q h. ((λ g. elim ((l z q).0 g) [ inl k ↦ k | inr k ↦ (let w = last_in b r z ((x.last z k.0).0 k.1) in absurd (omega arith)) ]), λ g. (l z q).1 (inl g));
  symbols = λ z h. rw e;
}

pub built_kept : {old new : Builder} {f : Part} {b n : ℕ} {r : Regex} → b + size r ≤ n → Built old f b r → Kept n old new → Built new f b r
built_kept le x k = record {
  null = x.null;
  first = x.first;
  last = x.last;
  follow = λ p q h g i. let o = k.follow p q (omega arith) in ((λ z. (x.follow p q h g i).0 (o.0 z)), λ z. o.1 ((x.follow p q h g i).1 z));
  reads = λ n p a h i. rw (k.symbols p (omega arith)) (x.reads n p a h i);
}

-- one position more, of which there is room for
module _ (old new : Builder) (f : Part) (s : Symbol) (w : ℕ) (room : old.count < 64)
    (wide_symbols : length old.symbols ≡ 64) (wide_follow : length old.follow ≡ 64)
    (symbols : new.symbols ≡ set old.symbols old.count s) (follow : new.follow ≡ set old.follow old.count 0)
    (count : new.count ≡ old.count + 1)
    (part : f ≡ record { nullable = false; first = w; last = w }) (only : (p : ℕ) → p < 64 → Has w p ↔ (p ≡ old.count)) where
  row_new : get_or new.follow old.count 0 ≡ 0
  row_new = ap (λ y. get_or y old.count 0) follow ∙ get_or-set_same old.follow old.count 0 0 (omega arith)

  symbol_new : get_or new.symbols old.count Any ≡ s
  symbol_new = ap (λ (y : List Symbol). get_or y old.count Any) symbols ∙ get_or-set_same old.symbols old.count s Any (omega arith)

  built_new : Built new (record { nullable = false; first = w; last = w }) old.count (one (meant s))
  built_new = record {
    null = ((λ h. absurd (false≢true h)), λ h. absurd h);
    first = only;
    last = only;
    follow = λ p q h k i.
        let e : p ≡ old.count = omega arith in
        ((λ z. absurd (has_zero q (subst (λ (y : ℕ). Has y q) (ap (λ (x : ℕ). get_or new.follow x 0) e ∙ row_new) z))), λ z. absurd z);
    reads = λ n p a h i.
        let e : p ≡ old.count = omega arith in
        let g : get_or new.symbols p Any ≡ s = ap (λ (x : ℕ). get_or new.symbols x Any) e ∙ symbol_new in
        rw g ((λ z. (e, z)), λ z. z.1);
  }

  pub added_holds : Holds new f old.count (one (meant s))
  added_holds = record { built = subst (λ (x : Part). Built new x old.count (one (meant s))) (back part) built_new; counts = count }

  pub added_kept : Kept old.count old new
  added_kept = record {
    follow = λ x q h.
        let n : x ≢ old.count = omega arith in
        let g : get_or new.follow x 0 ≡ get_or old.follow x 0 = ap (λ y. get_or y x 0) follow ∙ get_or-set_other old.follow old.count x 0 0 n in
        rw g ((λ z. z), λ z. z);
    symbols = λ x h.
        let n : x ≢ old.count = omega arith in
        ap (λ (y : List Symbol). get_or y x Any) symbols ∙ get_or-set_other old.symbols old.count x s Any n;
  }

-- one position more, past the 63 that there is room for
module _ (old new : Builder) (s : Symbol) (past : 64 ≤ old.count)
    (symbols : new.symbols ≡ old.symbols) (follow : new.follow ≡ old.follow) (count : new.count ≡ old.count + 1) where
  pub counted_holds : Holds new (record { nullable = false; first = 0; last = 0 }) old.count (one (meant s))
  counted_holds = record {
    built = record {
      null = ((λ h. absurd (false≢true h)), λ h. absurd h);
      first = λ p h. ((λ z. absurd (has_zero p z)), λ z. absurd (omega arith));
      last = λ p h. ((λ z. absurd (has_zero p z)), λ z. absurd (omega arith));
      follow = λ p q h k i. absurd (omega arith);
      reads = λ n p a h i. absurd (omega arith);
    };
    counts = count;
  }

  pub counted_kept : Kept old.count old new
  counted_kept = record {
    follow = λ x q h. rw follow ((λ z. z), λ z. z);
    symbols = λ x h. ap (λ (y : List Symbol). get_or y x Any) symbols;
  }
