use Rattle.std.proofs.Common.{◌≡◌, false, sym, ap, ◌∙◌, mod-eq_of_lt, arith, length-set}
use Rattle.std.proofs.lemmas.Bool.{both_ways}
use Rattle.std.proofs.lemmas.List.{set-get_or}
use Rattle.bits.specs.Bits.{bit, Has}
use Rattle.automata.proofs.Links.{linked_skip, linked_more}
use Rattle.automata.proofs.builder.Builder.link.Goals.{then-has, else-has}
use Rattle.automata.proofs.builder.Builder.link.Goals as goal

pub loop-p-preserved : goal.loop-p-preserved
loop-p-preserved c =
    let p = c.loop-p.p in
    let inv = c.loop-p.invariant in
    let is : c.has.result ≡ bit c.args.last p = c.has.ensures ∙ ap (bit c.args.last) (mod-eq_of_lt c.loop-p-test.true) in
    elim c.if-has.branch [
      | then-has w ↦ let there : Has c.args.last p = sym is ∙ w.if-has.true in
          rw w.row-items-is (simp length-set inv.0, linked_more _ _ _ _ _ (omega (arith, inv.0)) there inv.1)
      | else-has w ↦ let gone : bit c.args.last p ≡ false = sym is ∙ w.if-has.false in
          rw (w.row-items-is, set-get_or c.loop-p.row-items p 0) (inv.0, linked_skip _ _ _ _ _ (both_ways (bit c.args.last p) gone) inv.1)
    ]
