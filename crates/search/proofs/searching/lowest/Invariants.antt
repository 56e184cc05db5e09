use Rattle.std.proofs.Common.{◌≡◌, ℕ, ◌+◌, ◌-◌, ◌<◌, ◌≤◌}
use Rattle.meaning.specs.Tuples.{node, noted_of, last_of}
use Rattle.search.specs.Heads.{placed, relations}
use Rattle.search.specs.Places.{Goes}
use Rattle.search.proofs.Moves.{State, value, rest}
use Rattle.search.proofs.searching.lowest.Given as goal

abbrev pub invariant-loop-at : goal.invariant-loop-at
invariant-loop-at l = (l.at < l.tables.places.now.free) × ((k : ℕ) → k < l.at → Goes (placed l.tables.places.now) (relations l.tables) k l.tuple)

abbrev pub decreases-loop-at : goal.decreases-loop-at
decreases-loop-at l = l.tables.places.now.free - l.at

abbrev pub invariant-search : goal.invariant-search
invariant-search l = State (Goes (placed l.tables.places.now) (relations l.tables)) l.tables.rows.count l.tables.places.now.free (noted_of l.fn.last) (last_of l.fn.last) l.cur l.at

abbrev pub invariant-loop-cur : goal.invariant-loop-cur
invariant-loop-cur l = State (Goes (placed l.tables.places.now) (relations l.tables)) l.tables.rows.count l.tables.places.now.free (noted_of l.fn.last) (last_of l.fn.last) l.cur l.at
    × (l.at ≡ l.initial.at)
    × ((i : ℕ) → i < l.at → node l.cur i ≡ node l.initial.cur i) × (node l.initial.cur l.at ≤ node l.cur l.at)

abbrev pub decreases-loop-cur : goal.decreases-loop-cur
decreases-loop-cur l = l.tables.rows.count - node l.cur l.at

abbrev pub decreases-search : goal.decreases-search
decreases-search l = value (l.tables.rows.count + 2) (rest l.tables.rows.count l.at l.cur) l.tables.places.now.free
