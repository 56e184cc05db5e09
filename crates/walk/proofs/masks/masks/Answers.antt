use Rattle.std.proofs.Common.{◌≡◌, ℕ, ◌<◌, ◌≢◌, ◌↔◌, length, get_or, set, sym, subst, ⊎_elim, arith, length-set, get_or-set_other, get_or-set_same}
use Rattle.std.proofs.lemmas.Bool.{cases_eq}
use Rattle.std.proofs.lemmas.List.{get_or_append_left}
use Rattle.bits.specs.Bits.{Has}
use Rattle.walk.specs.Moves.{Enters}
use Rattle.walk.proofs.masks.masks.Goals as goal

pub loop-label-preserved : goal.loop-label-preserved
loop-label-preserved c =
    let M = c.loop-label.states-items in
    let i = c.loop-label.label in
    let r = c.entered_by.result in
    let m = c.args.automaton.now in
    let here : i < length M = omega (arith, c.loop-label.invariant.0) in (
      simp length-set c.loop-label.invariant.0,
      λ q a t h l. ⊎_elim
          (λ (e : a ≡ i). subst (λ (y : ℕ). Has (get_or (set M i r) y 0) t ↔ Enters q m t y) (sym e)
          (subst (λ (y : ℕ). Has y t ↔ Enters q m t i) (sym (get_or-set_same M i r 0 here)) (c.entered_by.ensures q t (omega (arith, l, e)))))
          (λ (n : a ≢ i). subst (λ (y : ℕ). Has y t ↔ Enters q m t a) (sym (get_or-set_other M i a r 0 n)) (c.loop-label.invariant.1 q a t (omega arith) l))
          (cases_eq a i),
    )

pub returns-clause-each : goal.returns-clause-each
returns-clause-each c q few a t l =
    let M = c.loop-label.states-items in
    let here : a < length M = omega (arith, few, l, c.loop-label.invariant.0) in
    subst (λ (y : ℕ). Has y t ↔ Enters q c.args.automaton.now t a) (sym (get_or_append_left M _ 0 a here))
    (c.loop-label.invariant.1 q a t (omega (arith, here, c.loop-label-test.false)) l)
