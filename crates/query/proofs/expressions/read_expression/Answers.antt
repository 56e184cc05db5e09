use Rattle.std.proofs.Common.{ℕ, ◌≤◌, List, length, drop, Err, Result, sym, ap, ◌∙◌, subst}
use Rattle.std.proofs.lemmas.Result.{err_from_is_err_and}
use Rattle.automata.specs.declared.machine.Automaton.{Automaton}
use Rattle.automata.specs.Parts.{Holds}
use Rattle.query.specs.Expressions.{Expresses, NoExpression}
use Rattle.query.specs.Trees.{regex}
use Rattle.query.proofs.Longest.{stopped_none, early_none, whole_text}
use Rattle.query.proofs.Unique.{unambiguous}
use Rattle.query.proofs.expressions.read_expression.Goals as goal

pub returns-in_err-whole : goal.returns-in_err-whole
returns-in_err-whole c =
    let o = c.in_err-whole.ensures in
    let r = c.alternative.new.self in
    let xs = c.args.text.now in
    let e = err_from_is_err_and c.from_residual.result c.from_residual.ensures.1 in
    let within : r.at ≤ length xs = subst (λ (z : List ℕ). r.at ≤ length z) o.text o.within in
    let none : NoExpression xs r.at = stopped_none xs (drop r.at r.text.now) r.at (ap (drop r.at) o.text) within o.reads.1 in
    subst (Expresses xs) (sym (e.1 ∙ ap {B = Result Automaton ℕ} (λ (z : ℕ). Err z) (e.2 ∙ o.reads.0))) none

pub returns-then-reader-text : goal.returns-then-reader-text
returns-then-reader-text c =
    let o = c.in_ok-whole.ensures in
    let r = c.alternative.new.self in
    let xs = c.args.text.now in
    let within : r.at ≤ length xs = subst (λ (z : List ℕ). r.at ≤ length z) o.text o.within in
    early_none xs (drop r.at r.text.now) r.at (ap (drop r.at) o.text) within c.if-reader-text.true o.reads.took

pub returns : goal.returns
returns c =
    let o = c.in_ok-whole.ensures in
    let r = c.alternative.new.self in
    let xs = c.args.text.now in
    let within : r.at ≤ length xs = subst (λ (z : List ℕ). r.at ≤ length z) o.text o.within in
    let t = o.reads.took.tree in
    let is = whole_text xs (drop r.at r.text.now) r.at (ap (drop r.at) o.text) within c.if-reader-text.false o.reads.took in
    record {
      tree = t;
      is = is;
      words = c.finish.ensures (regex t) (subst (λ (k : ℕ). Holds c.alternative.new.out c.in_ok-whole.whole k (regex t)) c.new-out.ensures o.reads.holds);
      only = λ u e. unambiguous u t (e ∙ sym is);
    }
