use Rattle.std.proofs.Common.{◌≡◌, ℕ, List, [], Some, Ok, vec_items, Option, sym, ◌∙◌, subst}
use Rattle.graph.specs.declared.sizes.Sizes.{Sizes}
use Rattle.wiring.specs.declared.faults.Refusal.{Refusal}
use Rattle.wiring.specs.Reading.{Reached, Read}
use Rattle.wiring.specs.Surveys.{Opens}
use Rattle.wiring.proofs.surveys.survey_file.Goals as goal

pub returns-in_ok-standing-in-Some : goal.returns-in_ok-standing-in-Some
returns-in_ok-standing-in-Some c =
    let t = c.sizes.new.reader in
    let bs = c.args.bytes.now in
    let h = c.in-Ok.ensures in
    let same : t.bytes.now ≡ bs = h.bytes ∙ c.new-reader.ensures.bytes in
    let opened = subst (λ (z : Option (Sizes 1024)). Opens 200 c.new-reader.result.bytes.now (Ok z) t.at t.phase) c.in-Some.is h.opens in
    let read = c.in_ok-standing-in-Some.ensures 200
    (λ g new.
    subst (λ (z : List Refusal). Reached 200 4096 t.bytes.now t.at (Some g) z) (sym c.new-refusals.ensures.items)
    (subst (λ (z : List ℕ). Reached 200 4096 z t.at (Some g) []) (sym h.bytes) (opened.1 4096 g new))) in (
      Some read.0,
      subst (λ (z : List ℕ). Read 200 4096 z (Some read.0) (vec_items c.load_list.new.refusals)) same read.1,
      read.2,
    )
