use Rattle.std.proofs.Common.{◌≡◌, ◌+◌, ◌<◌, false, length, set, refl, arith, rules}
use Rattle.automata.specs.declared.builder.Builder.{Builder}
use Rattle.automata.specs.declared.builder.Part.{Part}
use Rattle.automata.proofs.Joining.{added_holds, added_kept, counted_holds, counted_kept}
use Rattle.automata.proofs.Links.{has_marked}
use Rattle.automata.proofs.builder.Builder.add.Goals as goal

pub returns-then-p-ge64 : goal.returns-then-p-ge64
returns-then-p-ge64 c =
    let s = c.args.self.now in
    let new : Builder = record { symbols = s.symbols; follow = s.follow; count = s.count + 1 } in
    record {
      holds = counted_holds s new c.args.symbol c.if-p-ge64.true refl refl refl;
      kept = counted_kept s new c.args.symbol c.if-p-ge64.true refl refl refl;
    }

pub returns : goal.returns
returns c =
    let s = c.args.self.now in
    let p = s.count in
    let w = c.marked-only.result in
    let new : Builder = record { symbols = set s.symbols p c.args.symbol; follow = set s.follow p 0; count = p + 1 } in
    let part : Part = record { nullable = false; first = w; last = w } in
    let room : p < 64 = omega arith in
    let l1 : length s.symbols ≡ 64 = search rules in
    let l2 : length s.follow ≡ 64 = search rules in
    record {
      holds = added_holds s new part c.args.symbol w room l1 l2 refl refl refl refl (has_marked w p room c.marked-only.ensures);
      kept = added_kept s new part c.args.symbol w room l1 l2 refl refl refl refl (has_marked w p room c.marked-only.ensures);
    }
