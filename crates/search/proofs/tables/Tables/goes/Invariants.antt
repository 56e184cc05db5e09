use Rattle.std.proofs.Common.{ℕ, ◌<◌}
use Rattle.joins.specs.Layouts.{tables}
use Rattle.search.specs.Heads.{PairAt, placed}
use Rattle.search.proofs.tables.Tables.goes.Given as goal

abbrev pub invariant-loop-c : goal.invariant-loop-c
invariant-loop-c l = (c : ℕ) → c < l.c → PairAt (placed l.self.places.now) (tables l.self.words.now l.self.places.now.atoms l.self.rows.count l.self.rows.width) l.k l.cur c
