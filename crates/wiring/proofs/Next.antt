-- One step of a reader.
use Rattle.std.proofs.Common.{◌≡◌, ℕ, ◌-◌, ◌≤◌, Bool, true, false, ◌||◌, ltb, List, length, take, drop, Some, None, Ok, Err, Option, Result, sym, refl, ap, ◌∙◌, subst, ⊎_elim, arith, length-drop, take_all, Bor}
use Rattle.std.proofs.lemmas.Bool.{cases_Bool, or_parts, ltb-false}
use Rattle.meaning.specs.Refusals.{first}
use Rattle.wiring.specs.declared.faults.Fault.{Fault}
use Rattle.wiring.specs.declared.phases.Phase.{Phase}
use Rattle.wiring.specs.declared.phases.Phase.TheVariants.{Loading}
use Rattle.wiring.specs.declared.records.Record.{Record}
use Rattle.wiring.specs.Records.{span}
use Rattle.wiring.specs.Order.{started, record_refusals, Reads, Nexts, Gives}

-- a record that is not refused ends with the bytes or before
pub span_within : (s : Bool) (bs : List ℕ) → first (record_refusals s bs) ≡ None → span bs ≤ length bs
span_within s bs e =
    ⊎_elim
    (λ (t : (ltb (length bs) 4 || ltb (length bs) (span bs)) ≡ true).
    let z : ◌≡◌ {A = Option ℕ} (Some 15) None = cc in
    let no' : ◌≡◌ {A = ℕ} 0 1 = cc in absurd (omega arith))
    (λ (f : (ltb (length bs) 4 || ltb (length bs) (span bs)) ≡ false). ltb-false _ _ (or_parts _ _ f).1)
    (cases_Bool (ltb (length bs) 4 || ltb (length bs) (span bs)))

module _ (bs : List ℕ) (at : ℕ) (p : Phase) (within : at ≤ length bs) where
  part : take (length bs - at) (drop at bs) ≡ drop at bs
  part = take_all (length bs - at) (drop at bs) (simp length-drop (omega arith))

  pub next_stops : (f x : Fault) (r : Result (Option Record) Fault) → (at ≡ length bs → ⊥) → r ≡ Err x → x ≡ f
      → Reads p (take (length bs - at) (drop at bs)) (Err f) → Nexts bs at p r at p
  next_stops f x r ne e same h =
      subst (λ (q : Result (Option Record) Fault). Nexts bs at p q at p) (sym (e ∙ ap (λ (y : Fault). Err y) same))
      (record {
        more = omega arith;
        refused = subst (λ (q : List ℕ). Reads p q (Err f)) part h;
        same_at = refl;
        same_phase = refl;
      })

  module _ (r : Record) (rest : Bor (List ℕ)) (ne : at ≡ length bs → ⊥) (h : Reads p (take (length bs - at) (drop at bs)) (Ok (r, rest))) where
    read : Reads p (drop at bs) (Ok (r, rest))
    read = subst (λ (q : List ℕ). Reads p q (Ok (r, rest))) part h

    whole : span (drop at bs) ≤ length bs - at
    whole = omega (arith, simp length-drop at (span_within (started p) (drop at bs) read.0))

    length_rest : length rest.now ≡ length bs - at - span (drop at bs)
    length_rest = ap length read.3 ∙ simp length-drop

    pub rest_within : length rest.now ≤ length bs
    rest_within = let l = length_rest in omega arith

    pub next_gives : Gives bs at p r (length bs - length rest.now) Loading
    next_gives = record {
      more = omega arith;
      taken = read.0;
      says = read.1;
      placed = read.2;
      moved = (let l = length_rest in let w = whole in omega arith);
      loading = refl;
    }
