use Rattle.std.proofs.Common.{◌≡◌, [], ◌∷◌, ◌++◌, map, length, vec_items, string_bytes, sym, ap, ◌∙◌, append_assoc}
use Rattle.std.specs.Option.{option_map}
use Rattle.graph.specs.Lines.{wire_text}
use Rattle.wiring.specs.Lines.{refused_text, count_text, report, text}
use Rattle.wiring.proofs.reports.report_text.Goals.{in-Some+in_ok-push_lines-2+in_ok-push_lines-3, in_default}
use Rattle.wiring.proofs.reports.report_text.Goals as goal

pub returns : goal.returns
returns c =
    let rs = c.args.survey.now.refusals.items in
    let refused = text (map refused_text rs) in
    let first : string_bytes c.push_lines.new.out ≡ refused =
    c.in_ok-push_lines.ensures
    ∙ ap (λ b. b ++ text (map refused_text c.as_slice.result.now)) c.new-out.ensures.bytes
    ∙ ap (λ l. text (map refused_text l)) c.as_slice.ensures.value in
    elim c.match-survey.branch [
      | in-Some+in_ok-push_lines-2+in_ok-push_lines-3 w ↦
          let ws = vec_items w.in-Some.wires in
          let last = text (count_text (length ws) ∷ []) in
          ap string_bytes w.out-is
          ∙ w.in_ok-push_lines-3.ensures
          ∙ ap (λ n. string_bytes w.push_lines-in-Some.new.out ++ text (count_text n ∷ [])) (w.len.ensures ∙ sym w.as_slice-in-Some.ensures.len ∙ ap length w.as_slice-in-Some.ensures.value)
          ∙ ap (λ b. b ++ last) (w.in_ok-push_lines-2.ensures ∙ ap (λ l. string_bytes c.push_lines.new.out ++ text (map wire_text l)) w.as_slice-in-Some.ensures.value ∙ ap (λ b. b ++ text (map wire_text ws)) first)
          ∙ append_assoc refused (text (map wire_text ws)) last
          ∙ ap (λ o. report rs (option_map vec_items o)) (sym w.in-Some.is)
      | in_default w ↦ ap string_bytes w.out-is ∙ first ∙ ap (λ o. report rs (option_map vec_items o)) (sym w.in_default.is)
    ]
