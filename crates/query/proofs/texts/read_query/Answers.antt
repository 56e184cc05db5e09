use Rattle.std.proofs.Common.{refl, subst}
use Rattle.meaning.proofs.Results.{ok_before}
use Rattle.query.specs.Readings.{Wholly}
use Rattle.query.proofs.Drafting.{too_large, in_limits}
use Rattle.query.proofs.texts.read_query.Goals as goal

pub returns-in-Some : goal.returns-in-Some
returns-in-Some c =
    let ok = ok_before _ c.whole.result c.map_err.result c.in_ok-draft.draft c.map_err.ensures.cases c.map_err.ensures.variant c.in_ok-draft.was in
    too_large (subst (Wholly c.args.text.now) ok c.whole.ensures) c.in-Some.is

pub returns-in-None : goal.returns-in-None
returns-in-None c =
    let ok = ok_before _ c.whole.result c.map_err.result c.in_ok-draft.draft c.map_err.ensures.cases c.map_err.ensures.variant c.in_ok-draft.was in
    in_limits _ (subst (Wholly c.args.text.now) ok c.whole.ensures) c.in-None.is refl refl refl
