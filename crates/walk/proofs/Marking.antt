-- What one mark does to the words of states seen and waiting.
use Rattle.std.proofs.Common.{◌≡◌, ℕ, ◌-◌, ◌^◌, ◌<◌, ◌⊎◌, List, length, get_or, set, inl, inr, ⊎_elim, arith}
use lib.Bits.{bit_and, bit_or, or_add_and, or_disjoint, and_le_l, and_le_r, or_lt}
use Rattle.std.proofs.lemmas.List.{get_or-set_same, get_or-set_other}
use Rattle.std.proofs.lemmas.List.Sums.{sum_by-set}
use Rattle.std.proofs.lemmas.Bool.{cases_eq}
use Rattle.bits.specs.Bits.{Has}
use Rattle.bits.proofs.Sets.{has_or, has_and, has_without, without_has, empty}
use Rattle.walk.specs.Moves.{In}
use Rattle.walk.specs.Marked.{Grown}

-- the sets of a list after one word of it is written
module _ (S : List ℕ) (v y : ℕ) (h : v < length S) where
  pub in_set : (w s : ℕ) → (w ≡ v → Has y s) → ((w ≡ v → ⊥) → In S w s) → In (set S v y) w s
  in_set w s a b =
      ⊎_elim (λ e. let g : get_or (set S v y) w 0 ≡ y = rw e (get_or-set_same S v y 0 h) in rw g (a e))
      (λ n. rw (get_or-set_other S v w y 0 n) (b n)) (cases_eq w v)

  pub set_in : (w s : ℕ) → In (set S v y) w s → ((w ≡ v) × Has y s) ⊎ ((w ≡ v → ⊥) × In S w s)
  set_in w s i =
      ⊎_elim (λ e. let g : get_or (set S v y) w 0 ≡ y = rw e (get_or-set_same S v y 0 h) in inl (e, rw g at i))
      (λ n. inr (n, rw (get_or-set_other S v w y 0 n) at i)) (cases_eq w v)

-- the states of m that a lacks
module _ (a m : ℕ) (f : a < 2 ^ 64) where
  abbrev new : ℕ
  new = bit_and m (18446744073709551615 - a)

  new_below : new < 2 ^ 64
  new_below = omega (arith, and_le_r m (18446744073709551615 - a))

  apart : bit_and a new ≡ 0
  apart =
      empty (bit_and a new) (omega (arith, and_le_l a new))
      (λ s h. let p = (has_and a new s).0 h in (has_without a m s f p.1).1 p.0)

pub marked : (S P : List ℕ) (v m : ℕ) → v < length S → v < length P → get_or S v 0 < 2 ^ 64 → m < 2 ^ 64
    → Grown S P (set S v (bit_or (get_or S v 0) (bit_and m (18446744073709551615 - get_or S v 0)))) (set P v (bit_or (get_or P v 0) (bit_and m (18446744073709551615 - get_or S v 0)))) (λ w s. (w ≡ v) × Has m s)
marked S P v m h k f b =
    let a = get_or S v 0 in
    let p = get_or P v 0 in
    let x = new a m f in
    record {
      stays = λ w s i. in_set S v (bit_or a x) h w s (λ e. (has_or a x s).1 (inl (rw e at i))) (λ n. i);
      adds = λ w s i. in_set S v (bit_or a x) h w s (λ e. (has_or a x s).1 (without_has a m s f b i.1)) (λ n. absurd (n i.0));
      only = λ w s i. ⊎_elim (λ t. ⊎_elim (λ o. inl (rw t.0 o)) (λ o. inr (t.0, (has_without a m s f o).0)) ((has_or a x s).0 t.1)) (λ t. inl t.1) (set_in S v (bit_or a x) h w s i);
      waits = λ w s i. in_set P v (bit_or p x) k w s (λ e. (has_or p x s).1 (inl (rw e at i))) (λ n. i);
      fresh = λ w s i. ⊎_elim (λ t. ⊎_elim (λ o. inl (rw t.0 o)) (λ o. inr (in_set P v (bit_or p x) k w s (λ e. (has_or p x s).1 (inr o)) (λ n. absurd (n t.0)))) ((has_or a x s).0 t.1)) (λ t. inl t.1) (set_in S v (bit_or a x) h w s i);
      within = λ w s i. ⊎_elim (λ t. ⊎_elim (λ o. inl (rw t.0 o)) (λ o. inr (in_set S v (bit_or a x) h w s (λ e. (has_or a x s).1 (inr o)) (λ n. absurd (n t.0)))) ((has_or p x s).0 t.1)) (λ t. inl t.1) (set_in P v (bit_or p x) k w s i);
      less = omega (arith, sum_by-set (λ x. x) S v (bit_or a x) 0 h, sum_by-set (λ x. x) P v (bit_or p x) 0 k, or_disjoint a x (apart a m f), or_add_and p x);
      small = λ l w. ⊎_elim (λ e. let g : get_or (set S v (bit_or a x)) w 0 ≡ bit_or a x = rw e (get_or-set_same S v (bit_or a x) 0 h) in rw g (or_lt 64 a x f (new_below a m f)))
          (λ n. rw (get_or-set_other S v w (bit_or a x) 0 n) (l w)) (cases_eq w v);
    }

-- nothing is marked
pub grown_none : (S P : List ℕ) (A : ℕ → ℕ → Type 0) → ((w s : ℕ) → A w s → ⊥) → Grown S P S P A
grown_none S P A never =
    record {
      stays = λ w s i. i;
      adds = λ w s i. absurd (never w s i);
      only = λ w s i. inl i;
      waits = λ w s i. i;
      fresh = λ w s i. inl i;
      within = λ w s i. inl i;
      less = omega arith;
      small = λ l. l;
    }

-- one marking after another
pub grown_then : {S P T Q U R : List ℕ} {A B : ℕ → ℕ → Type 0} (C : ℕ → ℕ → Type 0) → Grown S P T Q A → Grown T Q U R B
    → ((w s : ℕ) → C w s → A w s ⊎ B w s) → ((w s : ℕ) → A w s → C w s) → ((w s : ℕ) → B w s → C w s) → Grown S P U R C
grown_then C g k out left right =
    record {
      stays = λ w s i. k.stays w s (g.stays w s i);
      adds = λ w s i. ⊎_elim (λ a. k.stays w s (g.adds w s a)) (λ b. k.adds w s b) (out w s i);
      only = λ w s i. ⊎_elim (λ t. ⊎_elim inl (λ a. inr (left w s a)) (g.only w s t)) (λ b. inr (right w s b)) (k.only w s i);
      waits = λ w s i. k.waits w s (g.waits w s i);
      fresh = λ w s i. ⊎_elim (λ t. ⊎_elim inl (λ q. inr (k.waits w s q)) (g.fresh w s t)) inr (k.fresh w s i);
      within = λ w s i. ⊎_elim (λ q. ⊎_elim inl (λ t. inr (k.stays w s t)) (g.within w s q)) inr (k.within w s i);
      less = omega (arith, g.less, k.less);
      small = λ l. k.small (g.small l);
    }

-- the same marking, said in another way
pub grown_as : {S P T Q : List ℕ} {A : ℕ → ℕ → Type 0} (C : ℕ → ℕ → Type 0) → Grown S P T Q A
    → ((w s : ℕ) → C w s → A w s) → ((w s : ℕ) → A w s → C w s) → Grown S P T Q C
grown_as C g out into =
    record {
      stays = g.stays;
      adds = λ w s i. g.adds w s (out w s i);
      only = λ w s i. ⊎_elim inl (λ a. inr (into w s a)) (g.only w s i);
      waits = g.waits;
      fresh = g.fresh;
      within = g.within;
      less = g.less;
      small = g.small;
    }
