use Rattle.std.proofs.Common.{ℕ, List, [], ◌∷◌, ◌++◌, vec_items, refl, sym, ap, ◌∙◌, subst}
use Rattle.std.proofs.lemmas.Slice.{pushed}
use Rattle.std.proofs.lemmas.Bool.{false≢true}
use Rattle.wiring.specs.declared.faults.Refusal.{Refusal}
use Rattle.wiring.specs.Reading.{Obeys, refusal}
use Rattle.wiring.proofs.Steps.{step_obeyed, step_stopped, step_ended, ended_loading}
use Rattle.wiring.proofs.loading.step.Goals as goal

pub returns-in-Err : goal.returns-in-Err
returns-in-Err g c =
    let s = c.args.reader.now in
    let t = c.next.new.self in
    let h = c.in-Err.ensures in
    let rs = vec_items c.args.refusals.now in
    let f = c.in-Err.fault in
    let more = pushed (refusal f c.offset-at.result ∷ []) refl c.in_ok-push-in-Err.was c.push.ensures.items in
    record {
      reads = λ n k come. step_stopped s.bytes.now s.at t.at s.phase t.phase c.requires n k
          (g.G.Graph.graph c.args.graph.now) rs come (vec_items c.push.new.self) f h.reads
          (more ∙ ap (λ (o : ℕ). rs ++ refusal f o ∷ []) c.offset-at.ensures);
      bytes = h.bytes;
      phase = h.reads.same_phase ∙ c.requires;
      moves = λ e. absurd (false≢true e);
    }

pub returns-in_ok-push-in-Some-clause-reads : goal.returns-in_ok-push-in-Some-clause-reads
returns-in_ok-push-in-Some-clause-reads g c =
    let s = c.args.reader.now in
    let t = c.next.new.self in
    let m = g.G.Graph.graph in
    let r = c.in-Some.«record» in
    let rs = vec_items c.args.refusals.now in
    let f = c.in-Err-obey.fault in
    let more = c.in_ok-push-in-Some.ensures.items ∙ ap (λ (o : ℕ). rs ++ refusal f o ∷ []) c.offset-at.ensures in
    λ l k come. step_obeyed s.bytes.now s.at t.at s.phase t.phase c.requires l k
    (m c.args.graph.now) rs come (m c.obey.new.graph) (vec_items c.push-in-Err-obey.new.self) r c.in-Ok.next c.in-Some.is c.in-Ok.ensures.reads
    (subst (λ rs'. Obeys (m c.args.graph.now) r s.at rs (m c.obey.new.graph) rs') (sym {A = List Refusal} more) (c.in-Err-obey.ensures s.at rs))

pub returns-in_default-clause-reads : goal.returns-in_default-clause-reads
returns-in_default-clause-reads g c =
    let s = c.args.reader.now in
    let t = c.next.new.self in
    let m = g.G.Graph.graph in
    let rs = vec_items c.args.refusals.now in
    λ l k come. step_obeyed s.bytes.now s.at t.at s.phase t.phase c.requires l k
    (m c.args.graph.now) rs come (m c.obey.new.graph) rs c.in-Some.«record» c.in-Ok.next c.in-Some.is c.in-Ok.ensures.reads
    (c.in_default.ensures s.at rs)

pub returns-in-None : goal.returns-in-None
returns-in-None g c =
    let s = c.args.reader.now in
    let t = c.next.new.self in
    let h = c.in-Ok.ensures in
    let n = c.in-Ok.next in
    let is = c.in-None.is in
    record {
      reads = λ l k come. step_ended s.bytes.now s.at t.at s.phase t.phase c.requires l k
          (g.G.Graph.graph c.args.graph.now) (vec_items c.args.refusals.now) come n is h.reads;
      bytes = h.bytes;
      phase = ended_loading s.bytes.now s.at t.at s.phase t.phase c.requires n is h.reads;
      moves = λ e. absurd (false≢true e);
    }
