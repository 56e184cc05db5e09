use Rattle.std.proofs.Common.{sym, ◌∙◌, inl, inr, arith}
use Rattle.search.proofs.Testing.{tables_row, tables_column, tables_read}
use Rattle.search.proofs.tables.Tables.has.Goals as goal

pub returns-then-u-rows : goal.returns-then-u-rows
returns-then-u-rows c = elim c.then-u-rows.either [
  | inl h ↦ sym (tables_row c.args.self.now.words.now c.args.self.now.places.now.atoms c.args.self.now.rows.count c.args.self.now.rows.width c.args.c c.args.u c.args.v h)
  | inr h ↦ sym (tables_column c.args.self.now.words.now c.args.self.now.places.now.atoms c.args.self.now.rows.count c.args.self.now.rows.width c.args.c c.args.u c.args.v h.1)
]

pub returns : goal.returns
returns c = c.test.ensures ∙ sym (tables_read c.args.self.now.words.now c.args.self.now.places.now.atoms c.args.self.now.rows.count c.args.self.now.rows.width c.args.c c.args.u c.args.v (omega arith) (omega arith) (omega arith))
