-- The automaton with a start state before the positions.
use Rattle.std.proofs.Common.{◌≡◌, ℕ, ◌<◌, ◌≤◌, Bool, true, false, cond, ◌≢◌, ◌⊎◌, ◌↔◌, List, [], ◌∷◌, length, get_or, set, sym, refl, ap, ◌∙◌, subst, inl, inr, arith, get_or-set_other, get_or-set_same}
use lib.Bits.{bit_or}
use Rattle.std.proofs.lemmas.Bool.{false≢true}
use Rattle.bits.proofs.Laws.{bit-pow}
use Rattle.meaning.specs.Words.{Regex, Lang, Matches}
use Rattle.automata.specs.declared.builder.Builder.{Builder}
use Rattle.automata.specs.declared.builder.Part.{Part}
use Rattle.automata.specs.declared.machine.Automaton.{Automaton}
use Rattle.automata.specs.declared.symbols.Symbol.{Symbol}
use Rattle.automata.specs.declared.symbols.Symbol.TheVariants.{Any}
use Rattle.automata.specs.Machines.{Goes, Accepts}
use Rattle.automata.specs.Parts.{meant, Built}
use Rattle.automata.specs.Positions.{size, In, Reads, Run, Accept}
use Rattle.bits.specs.Bits.{Has}
use Rattle.bits.proofs.Sets.{has_or, has_only}
use Rattle.automata.proofs.Positions.{first_in, last_in, follow_in, accepts_words}

-- a has the positions of m, a start state that leads to the first ones, and accepts as the part f says
pub record Started (m : Builder) (f : Part) (a : Automaton) : Type 0 where
  pub symbols : a.symbols ≡ m.symbols
  pub row_start : get_or a.follow 0 0 ≡ f.first
  pub row : (p : ℕ) → 1 ≤ p → get_or a.follow p 0 ≡ get_or m.follow p 0
  pub end_start : (Has f.last 0 → ⊥) → Has a.accept 0 ↔ (f.nullable ≡ true)
  pub end : (p : ℕ) → 1 ≤ p → Has a.accept p ↔ Has f.last p

has_start : (p : ℕ) → Has 1 p ↔ (p ≡ 0)
has_start p = has_only 1 0 p (bit-pow 0 p)

accepts_bits : (n : Bool) (last p : ℕ) → Has (cond n (bit_or last 1) last) p ↔ (Has last p ⊎ ((n ≡ true) × (p ≡ 0)))
accepts_bits true last p = (
  (λ h. elim ((has_or last 1 p).0 h) [ inl k ↦ inl k | inr k ↦ inr (refl, (has_start p).0 k) ]),
  elim [ inl k ↦ (has_or last 1 p).1 (inl k) | inr k ↦ (has_or last 1 p).1 (inr ((has_start p).1 k.1)) ],
)
accepts_bits false last p = ((λ h. inl h), elim [ inl k ↦ k | inr k ↦ absurd (false≢true k.0) ])

pub started : (m : Builder) (f : Part) (a : Automaton) → 0 < length m.follow → a.symbols ≡ m.symbols
    → a.follow ≡ set m.follow 0 f.first → a.accept ≡ cond f.nullable (bit_or f.last 1) f.last → Started m f a
started m f a lt symbols follow accept = record {
  symbols = symbols;
  row_start = ap (λ y. get_or y 0 0) follow ∙ get_or-set_same m.follow 0 f.first 0 lt;
  row = λ p h. let n : p ≢ 0 = omega arith in ap (λ y. get_or y p 0) follow ∙ get_or-set_other m.follow 0 p f.first 0 n;
  end_start = λ n. (
    (λ h. elim ((accepts_bits f.nullable f.last 0).0 (subst (λ (z : ℕ). Has z 0) accept h)) [ inl k ↦ absurd (n k) | inr k ↦ k.0 ]),
    λ h. subst (λ (z : ℕ). Has z 0) (sym accept) ((accepts_bits f.nullable f.last 0).1 (inr (h, refl))),
  );
  end = λ p h. (
    (λ k. elim ((accepts_bits f.nullable f.last p).0 (subst (λ (z : ℕ). Has z p) accept k)) [ inl j ↦ j | inr j ↦ absurd (let i = j.1 in omega arith) ]),
    λ k. subst (λ (z : ℕ). Has z p) (sym accept) ((accepts_bits f.nullable f.last p).1 (inl k)),
  );
}

module _ (m : Builder) (f : Part) (a : Automaton) (r : Regex) (x : Built m f 1 r) (y : Started m f a) (few : size r ≤ 63) (n : ℕ) where
  reads_from : (q c : ℕ) → q < 64 → In 1 r q → Matches n (meant (get_or a.symbols q Any)) c → Reads n 1 r q c
  reads_from q c lt j s = (x.reads n q c lt j).0 (subst (λ (z : List Symbol). Matches n (meant (get_or z q Any)) c) y.symbols s)

  reads_to : (q c : ℕ) → q < 64 → In 1 r q → Reads n 1 r q c → Matches n (meant (get_or a.symbols q Any)) c
  reads_to q c lt j l = subst (λ (z : List Symbol). Matches n (meant (get_or z q Any)) c) (sym y.symbols) ((x.reads n q c lt j).1 l)

  run_from : (p : ℕ) (w : List ℕ) → In 1 r p → Goes n a p w → Run n 1 r p w
  run_from p [] i h = (x.last p (omega arith)).0 ((y.end p i.0).0 h)
  run_from p (c ∷ w) i (q, (lt, h, s), t) =
      let o = (x.follow p q (omega arith) lt i).0 (subst (λ (z : ℕ). Has z q) (y.row p i.0) h) in
      let j = (follow_in 1 r p q o).1 in
      (q, o, reads_from q c lt j s, run_from q w j t)

  run_to : (p : ℕ) (w : List ℕ) → In 1 r p → Run n 1 r p w → Goes n a p w
  run_to p [] i h = (y.end p i.0).1 ((x.last p (omega arith)).1 h)
  run_to p (c ∷ w) i (q, o, l, t) =
      let j = (follow_in 1 r p q o).1 in
      let lt : q < 64 = omega arith in
      (q, (lt, subst (λ (z : ℕ). Has z q) (sym (y.row p i.0)) ((x.follow p q (omega arith) lt i).1 o), reads_to q c lt j l), run_to q w j t)

  not_last : Has f.last 0 → ⊥
  not_last h = let k = last_in 1 r 0 ((x.last 0 (omega arith)).0 h) in omega arith

  accept_from : (w : List ℕ) → Accepts n a w → Accept n 1 r w
  accept_from [] h = x.null.0 ((y.end_start not_last).0 h)
  accept_from (c ∷ w) (q, (lt, h, s), t) =
      let o = (x.first q lt).0 (subst (λ (z : ℕ). Has z q) y.row_start h) in
      let j = first_in 1 r q o in
      (q, o, reads_from q c lt j s, run_from q w j t)

  accept_to : (w : List ℕ) → Accept n 1 r w → Accepts n a w
  accept_to [] h = (y.end_start not_last).1 (x.null.1 h)
  accept_to (c ∷ w) (q, o, l, t) =
      let j = first_in 1 r q o in
      let lt : q < 64 = omega arith in
      (q, (lt, subst (λ (z : ℕ). Has z q) (sym y.row_start) ((x.first q lt).1 o), reads_to q c lt j l), run_to q w j t)

  pub started_words : (w : List ℕ) → Accepts n a w ↔ Lang n r w
  started_words w = ((λ z. (accepts_words n 1 r w).0 (accept_from w z)), λ z. accept_to w ((accepts_words n 1 r w).1 z))
