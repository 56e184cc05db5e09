-- The first record of a file.
use Rattle.std.proofs.Common.{◌≡◌, ℕ, true, false, List, [], Some, None, Ok, Err, Option, Result, sym, ap, ◌∙◌, subst}
use Rattle.meaning.specs.Graphs.{Within, New}
use Rattle.graph.specs.declared.sizes.Sizes.{Sizes as SizesOf}
use Rattle.graph.specs.declared.outcomes.SizeFault.{SizeFault}
use Rattle.graph.specs.Calls.{BadSizes}
use Rattle.wiring.specs.declared.faults.Fault.{Fault}
use Rattle.wiring.specs.declared.faults.Fault.TheVariants.{BadSizes as bad_sizes}
use Rattle.wiring.specs.declared.phases.Phase.{Phase}
use Rattle.wiring.specs.declared.phases.Phase.TheVariants.{Start}
use Rattle.wiring.specs.declared.records.Record.{Record}
use Rattle.wiring.specs.declared.records.Record.TheVariants.{Sizes}
use Rattle.wiring.specs.Order.{admits, Nexts, Gives, Stops, Ends}
use Rattle.wiring.specs.Reading.{Reached, Read, Fine}
use Rattle.wiring.specs.Reading.Reached.{begun, made}
use Rattle.wiring.specs.Reading.Read.{ended, stopped, unsized}
use Rattle.wiring.specs.Surveys.{Opens}

module _ (m : ℕ) (bs : List ℕ) (o : ℕ) (p : Phase) (o' : ℕ) (p' : Phase) (start : o ≡ 0) (fresh : p ≡ Start) where
  -- the reader's step, from the start
  from_start : (r : Result (Option Record) Fault) → Nexts bs o p r o' p' → Nexts bs 0 Start r o' p'
  from_start r h =
      subst (λ (q : Phase). Nexts bs 0 q r o' p') fresh (subst (λ (z : ℕ). Nexts bs z p r o' p') start h)

  pub begin_ended : (n : Option Record) → n ≡ None → Nexts bs o p (Ok n) o' p' → (k : ℕ) → Read m k bs None []
  begin_ended n e h k =
      let end : Ends bs 0 Start o' p' = subst (λ (z : Option Record). Nexts bs 0 Start (Ok z) o' p') e (from_start (Ok n) h) in
      ended (subst (λ (z : ℕ). Reached m k bs z None []) end.ended begun)

  pub begin_stopped : (f x : Fault) (r : Result (Option (SizesOf 1024)) Fault) → r ≡ Err x → x ≡ f → Nexts bs o p (Err f) o' p' → Opens m bs r o' p'
  begin_stopped f x r e same h =
      let stop : Stops bs 0 Start f o' p' = from_start (Err f) h in
      subst (λ (q : Result (Option (SizesOf 1024)) Fault). Opens m bs q o' p') (sym (e ∙ ap (λ (y : Fault). Err y) same))
      (λ k. stopped f begun stop.more stop.refused)

  module _ (r : Record) (n : Option Record) (is : n ≡ Some r) (h : Nexts bs o p (Ok n) o' p') where
    gave : Gives bs 0 Start r o' p'
    gave = subst (λ (z : Option Record). Nexts bs 0 Start (Ok z) o' p') is (from_start (Ok n) h)

    pub begin_admits : admits Start r ≡ true
    begin_admits = gave.placed

    module _ (u q : ℕ) (sizes : r ≡ Sizes u q) where
      said : Gives bs 0 Start (Sizes u q) o' p'
      said = subst (λ (z : Record). Gives bs 0 Start z o' p') sizes gave

      fine : Fine bs 0 false
      fine = (said.more, said.taken)

      pub begin_unsized : (f : SizeFault) (x : Fault) (a : Result (Option (SizesOf 1024)) Fault) → a ≡ Err x → x ≡ bad_sizes f → BadSizes m u q f → Opens m bs a o' p'
      begin_unsized f x a e same bad =
          subst (λ (z : Result (Option (SizesOf 1024)) Fault). Opens m bs z o' p') (sym (e ∙ ap (λ (y : Fault). Err y) same))
          (λ k. unsized u q f begun fine said.says bad)

      pub begin_made : (s : (SizesOf 1024)) → (s.nodes ≡ u) × (s.labels ≡ q) × Within m u q → Opens m bs (Ok (Some s)) o' p'
      begin_made s w = (
        said.loading,
        λ k g new.
            let new' : New g u q k = record {
              nodes = new.nodes ∙ w.0;
              labels = new.labels ∙ w.1;
              capacity = new.capacity;
              none = new.none;
            } in
            subst (λ (z : ℕ). Reached m k bs z (Some g) []) (sym said.moved) (made u q g begun fine said.says w.2 new'),
      )
