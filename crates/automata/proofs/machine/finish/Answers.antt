use Rattle.std.proofs.Common.{◌≡◌, ◌<◌, cond, length, set, refl, arith, rules}
use lib.Bits.{bit_or}
use Rattle.automata.specs.declared.machine.Automaton.{Automaton}
use Rattle.automata.proofs.Starting.{started, started_words}
use Rattle.automata.proofs.machine.finish.Goals as goal

pub returns : goal.returns
returns c x h =
    let m = c.args.builder in
    let f = c.args.whole in
    let l : 0 < length m.follow = search rules in
    let accept : c.if-whole.result ≡ cond f.nullable (bit_or f.last 1) f.last = search rules in
    let a : Automaton = record { symbols = m.symbols; follow = set m.follow 0 f.first; accept = c.if-whole.result; size = c.saturating_sub.result } in
    record {
      positions = omega (arith, h.counts, c.saturating_sub.ensures);
      words = started_words m f a x h.built (started m f a l refl refl accept);
    }
