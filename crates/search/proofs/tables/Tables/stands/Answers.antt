use Rattle.std.proofs.Common.{◌≡◌, ℕ, Bool, cond, true, false, refl, rules, arith}
use borrow.Author.Tests.{tests}
use Rattle.std.proofs.lemmas.Iterator.{cases_from_any, YieldsList-from_range}
use Rattle.joins.specs.Layouts.{tables}
use Rattle.joins.specs.Sides.{is_first}
use Rattle.search.proofs.Testing.{any_below, stands_tested}
use Rattle.search.proofs.tables.Tables.stands.Goals as goal

pub returns : goal.returns
returns c =
    let s = c.args.self.now in
    let first = is_first c.args.side in
    let has : ℕ → Bool → Type 0 = λ y b. tables s.words.now s.places.now.atoms s.rows.count s.rows.width c.args.c (cond first c.args.x y) (cond first y c.args.x) ≡ b in
    stands_tested s.words.now s.places.now.atoms s.rows.count s.rows.width c.args.c first c.args.x c.any.result
    (any_below (λ y. has y true) (λ y. has y false) s.rows.count c.any.result
    (cases_from_any _ _ _ (λ y. has y true) (λ y. has y false) c.any.ensures.ran (YieldsList-from_range 0 s.rows.count s.rows.count refl (omega arith)) (λ x q k. search (rules, tests)) (λ x q k. search (rules, tests))))
