use Rattle.std.proofs.Common.{◌≡◌, ℕ, ◌+◌, length, get_or, Decides, sym, ap, ◌∙◌, subst, arith, rules}
use Rattle.bits.specs.Bits.{bit}
use Rattle.std.proofs.lemmas.List.{get_or_default}
use Rattle.std.proofs.lemmas.Bool.{both_ways}
use Rattle.automata.specs.declared.symbols.Symbol.{Symbol}
use Rattle.meaning.specs.Words.{Matches}
use Rattle.automata.specs.declared.symbols.Symbol.TheVariants.{Any, Label}
use Rattle.automata.specs.Parts.{meant}
use Rattle.walk.proofs.Unions.{Those, those_none, those_more, those_skip}
use Rattle.walk.proofs.masks.entered_by.Goals as goal
use Rattle.walk.proofs.masks.entered_by.Goals.{then-reads, else-reads}

pub loop-t-init : goal.loop-t-init
loop-t-init c q l = those_none _

pub loop-t-preserved : goal.loop-t-preserved
loop-t-preserved c q l =
    let P = λ (t : ℕ). Matches q (meant (get_or c.args.automaton.now.symbols t Any)) c.args.label in
    let t = c.loop-t.t in
    let symbols = c.args.automaton.now.symbols in
    let long : length symbols ≡ 64 = search rules in
    let same = get_or_default symbols t (Label 0) Any (omega arith) in
    let reads = subst (λ (y : Symbol). Decides c.reads.result (Matches q (meant y) c.args.label)) same (c.reads.ensures q l) in
    elim c.if-reads.branch [
      | then-reads w ↦ those_more P t c.loop-t.states c.if-reads.states c.loop-t-test.true (c.loop-t.invariant q l)
          (λ j. ap (λ (y : ℕ). bit y j) w.states-is ∙ w.marked-states.ensures j) (reads.0 w.if-reads.true)
      | else-reads w ↦ subst (λ (y : ℕ). Those P (t + 1) y) (sym w.states-is) (those_skip P t c.loop-t.states (c.loop-t.invariant q l) (λ p. both_ways c.reads.result w.if-reads.false (reads.1 p)))
    ]

pub returns : goal.returns
returns c q t l =
    let i : c.loop-t.t ≡ 64 = omega arith in
    let P = λ (t : ℕ). Matches q (meant (get_or c.args.automaton.now.symbols t Any)) c.args.label in
    subst (λ (y : ℕ). Those P y c.loop-t.states) i (c.loop-t.invariant q l) t
