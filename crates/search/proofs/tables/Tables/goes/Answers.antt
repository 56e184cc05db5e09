use Rattle.std.proofs.Common.{◌≡◌, ℕ, false, Option, None, Some, refl, ap, arith}
use Rattle.std.proofs.lemmas.Bool.{both_ways}
use Rattle.joins.proofs.Placing.{parts}
use Rattle.search.specs.declared.places.Root.{Root}
use Rattle.search.specs.Heads.{placed}
use Rattle.search.proofs.tables.Tables.goes.Goals as goal

-- no atom has the first free variable, so its node stands nowhere
pub returns-in-None : goal.returns-in-None
returns-in-None c =
    let s = c.args.self.now in
    let p = s.places.now in
    let none : (placed p).root ≡ p.atoms = ap (λ (r : Option Root). elim r as (λ x. ℕ) [ None ↦ p.atoms | Some t ↦ t.atom ]) c.in-None.is in (
      (λ e. absurd (both_ways false refl e)),
      λ g.
          let o = g.stands (omega (arith, c.if-k-gt0.false)) in
          let i = parts s.words.now p.atoms s.rows.count s.rows.width (placed p).root o.0 o.1 o.2 in
          absurd (omega (arith, i.atom, none)),
    )
