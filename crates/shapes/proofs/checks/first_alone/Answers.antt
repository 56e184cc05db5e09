use Rattle.std.proofs.Common.{ℕ, ◌<◌, length, slice_index, arith, rules}
use borrow.Author.Tests.{tests}
use Rattle.std.proofs.lemmas.Iterator.{first_from_Range}
use Rattle.meaning.specs.Shapes.{Joins}
use Rattle.meaning.proofs.Firsts.{first_from_range}
use Rattle.shapes.specs.Checks.{of, Alone}
use Rattle.shapes.proofs.checks.first_alone.Goals as goal

pub returns : goal.returns
returns c =
    let xs = c.args.atoms.now in
    let head = c.args.head.now in
    let Linked : ℕ → Type 0 = λ i. (j : ℕ) × (a : ℕ) × (j < i) × (a < length xs) × Joins (of xs) a (slice_index head j) (slice_index head i) in
    first_from_range (Alone xs head) (λ i. Linked i → ⊥) Linked 1 _ _ (λ j lt p. absurd (omega (arith, p.0)))
    (λ i l _ n. (l, λ j a h. n (j, a, h.0, h.1, h.2))) (λ i _ _ e p. p.1 e.0 e.1 (e.2, e.3, e.4))
    (first_from_Range _ _ _ _ (λ i. Linked i → ⊥) Linked c.find.ensures.ran (λ x q k. search (rules, tests)) (λ x q k. search (rules, tests)))
