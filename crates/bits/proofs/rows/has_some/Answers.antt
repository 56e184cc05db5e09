use Rattle.std.proofs.Common.{◌≡◌, ◌+◌, ◌-◌, ◌≢◌, take, drop, rules}
use borrow.Author.Tests.{tests}
use Rattle.std.proofs.lemmas.Iterator.{cases_from_any, YieldsList-from_slice}
use Rattle.bits.proofs.RowLaws.{decides_some}
use Rattle.bits.proofs.rows.has_some.Goals as goal

pub returns : goal.returns
returns c =
    decides_some c.args.words.now c.args.start c.args.count c.any.result c.requires (λ k. (c.type_inv.words k).fits)
    (cases_from_any _ _ _ (λ x. x ≢ 0) (λ x. x ≡ 0) c.any.ensures.ran (YieldsList-from_slice (take (c.args.start + c.args.count - c.args.start) (drop c.args.start c.args.words.now)) c.iter.ensures.rest) (λ x q k. search (rules, tests)) (λ x q k. search (rules, tests)))
