-- One change to a graph, whichever it is.
--     Applies g c r h   the change c to g, answered by r, leaves h
use Rattle.std.specs.Prelude.{Ok, Err, Result}
use Rattle.meaning.specs.Graphs.{Graph}
use Rattle.graph.specs.declared.changes.Change.{Change}
use Rattle.graph.specs.declared.changes.Change.TheVariants.{Put as put, Strike as strike}
use Rattle.graph.specs.declared.changes.Changed.{Changed}
use Rattle.graph.specs.declared.changes.Changed.TheVariants.{Put as did_put, Strike as did_strike}
use Rattle.graph.specs.declared.outcomes.Fault.{Fault}
use Rattle.graph.specs.Calls.{Puts, Strikes}

abbrev pub Applies : Graph → Change → Result Changed Fault → Graph → Type 0
Applies g (put e) (Ok (did_put a)) h = Puts g e (Ok a) h
Applies g (put e) (Ok (did_strike a)) h = ⊥
Applies g (put e) (Err f) h = Puts g e (Err f) h
Applies g (strike e) (Ok (did_put a)) h = ⊥
Applies g (strike e) (Ok (did_strike a)) h = Strikes g e (Ok a) h
Applies g (strike e) (Err f) h = Strikes g e (Err f) h
