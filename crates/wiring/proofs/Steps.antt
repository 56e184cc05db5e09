-- One record more of a file, after the sizes record.
use Rattle.std.proofs.Common.{◌≡◌, ℕ, ◌<◌, true, List, [], ◌∷◌, ◌++◌, drop, Some, None, Ok, Option, sym, ◌∙◌, subst, arith}
use Rattle.meaning.specs.Graphs.{Graph}
use Rattle.meaning.specs.Refusals.{first}
use Rattle.wiring.specs.declared.faults.Fault.{Fault}
use Rattle.wiring.specs.declared.faults.Refusal.{Refusal}
use Rattle.wiring.specs.declared.phases.Phase.{Phase}
use Rattle.wiring.specs.declared.phases.Phase.TheVariants.{Loading}
use Rattle.wiring.specs.declared.records.Record.{Record}
use Rattle.wiring.specs.Numbers.{number}
use Rattle.wiring.specs.Order.{started, admits, record_refusals, Nexts, Gives, Stops, Ends}
use Rattle.wiring.specs.Reading.{Reached, Read, Fine, Obeys, refusal}
use Rattle.wiring.specs.Reading.Reached.{obeyed}
use Rattle.wiring.specs.Reading.Read.{ended, stopped}

module _ (bs : List ℕ) (o o' : ℕ) (p p' : Phase) (loading : p ≡ Loading) where
  -- what the reader gave, where it gave a record
  given : (r : Record) (n : Option Record) → n ≡ Some r → Nexts bs o p (Ok n) o' p' → Gives bs o p r o' p'
  given r n e = subst (λ (z : Option Record). Nexts bs o p (Ok z) o' p') e

  pub step_moves : (r : Record) (n : Option Record) → n ≡ Some r → Nexts bs o p (Ok n) o' p' → o < o'
  step_moves r n e h = let m = (given r n e h).moved in omega arith

  pub step_loading : (r : Record) (n : Option Record) → n ≡ Some r → Nexts bs o p (Ok n) o' p' → p' ≡ Loading
  step_loading r n e h = (given r n e h).loading

  pub step_admits : (r : Record) (n : Option Record) → n ≡ Some r → Nexts bs o p (Ok n) o' p' → admits Loading r ≡ true
  step_admits r n e h = subst (λ (q : Phase). admits q r ≡ true) loading (given r n e h).placed

  module _ (m k : ℕ) (g : Graph) (rs : List Refusal) (come : Reached m k bs o (Some g) rs) where
    pub step_obeyed : (h : Graph) (rs' : List Refusal) (r : Record) (n : Option Record) → n ≡ Some r → Nexts bs o p (Ok n) o' p'
        → Obeys g r o rs h rs' → Reached m k bs o' (Some h) rs'
    step_obeyed h rs' r n e d made' =
        let gave = given r n e d in
        let fine : Fine bs o true
        = (gave.more, subst (λ (q : Phase). first (record_refusals (started q) (drop o bs)) ≡ None) loading gave.taken) in
        subst (λ (z : ℕ). Reached m k bs z (Some h) rs') (sym gave.moved) (obeyed g h r come fine gave.says made')

    pub step_stopped : (rs' : List Refusal) (f : Fault) → Stops bs o p f o' p' → rs' ≡ rs ++ refusal f o ∷ [] → Read m k bs (Some g) rs'
    step_stopped rs' f e more =
        subst (λ (z : List Refusal). Read m k bs (Some g) z) (sym more)
        (stopped f come e.more
        (subst (λ (q : Phase). first (record_refusals (started q) (drop o bs)) ≡ Some (number f)) loading e.refused))

    pub step_ended : (n : Option Record) → n ≡ None → Nexts bs o p (Ok n) o' p' → Read m k bs (Some g) rs
    step_ended n e h =
        let end : Ends bs o p o' p' = subst (λ (z : Option Record). Nexts bs o p (Ok z) o' p') e h in
        ended (subst (λ (z : ℕ). Reached m k bs z (Some g) rs) end.ended come)

  pub ended_loading : (n : Option Record) → n ≡ None → Nexts bs o p (Ok n) o' p' → p' ≡ Loading
  ended_loading n e h =
      let end : Ends bs o p o' p' = subst (λ (z : Option Record). Nexts bs o p (Ok z) o' p') e h in
      end.same_phase ∙ loading
