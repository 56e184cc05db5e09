-- What a file leaves standing, as it is told.
--     Opens m bs r at p   a reader at the start of bs gives r for the sizes record, and stands then at the offset at in phase p:
--                         nothing in an empty file, a fault that ends the reading, or sizes for a graph
--     Stand g ws          ws lists the edges of g, or there is neither
--     Surveys m k bs s    s has the refusals of the file bs, and the edges that stand at its end
use Rattle.std.specs.Prelude.{◌≡◌, ℕ, List, [], ◌∷◌, Some, None, Ok, Err, vec_items, Option, Result, Vec}
use Rattle.std.specs.declared.alloc.Global.{Global}
use Rattle.meaning.specs.Graphs.{Graph, New}
use Rattle.graph.specs.declared.edges.Edge.{Edge}
use Rattle.graph.specs.declared.sizes.Sizes.{Sizes}
use Rattle.wiring.specs.declared.faults.Fault.{Fault}
use Rattle.wiring.specs.declared.faults.Refusal.{Refusal}
use Rattle.wiring.specs.declared.phases.Phase.{Phase}
use Rattle.wiring.specs.declared.phases.Phase.TheVariants.{Loading}
use Rattle.wiring.specs.Listing.{Lists, Wire}
use Rattle.wiring.specs.Reading.{Reached, Read, refusal}

abbrev pub Opens : ℕ → List ℕ → Result (Option (Sizes 1024)) Fault → ℕ → Phase → Type 0
Opens m bs (Ok None) at p = (k : ℕ) → Read m k bs None []
Opens m bs (Ok (Some s)) at p =
    (p ≡ Loading) × ((k : ℕ) (g : Graph) → New g s.nodes s.labels k → Reached m k bs at (Some g) [])
Opens m bs (Err f) at p = (k : ℕ) → Read m k bs None (refusal f 0 ∷ [])

abbrev pub Stand : Option Graph → Option (Vec Edge Global) → Type 0
Stand None None = Unit {0}
Stand None (Some ws) = ⊥
Stand (Some g) None = ⊥
Stand (Some g) (Some ws) = Lists (Wire g) (vec_items ws)

abbrev pub Surveys : ℕ → ℕ → List ℕ → Vec Refusal Global → Option (Vec Edge Global) → Type 0
Surveys m k bs rs ws = (g : Option Graph) × Read m k bs g (vec_items rs) × Stand g ws
