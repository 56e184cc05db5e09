use Rattle.std.proofs.Common.{◌≡◌, ℕ, ◌<◌, ◌≤◌, List, length, get_or, refl, sym, ap, ◌∙◌, arith, rules}
use Rattle.parse.proofs.Facts.{head_few}
use Rattle.record.proofs.Copies.{copied_in, copied_length, copied_past, front_is, length_front}
use Rattle.record.proofs.Fitness.{head_long}
use Rattle.record.proofs.calls.advance.Goals as goal

pub returns-then-answer-h : goal.returns-then-answer-h
returns-then-answer-h c =
    (record { parsed = refl; nodes = refl; last = refl; answer = refl }, omega arith, omega (arith, head_long c.args.query.now))

pub slice_bounds-tuple-end : goal.slice_bounds-tuple-end
slice_bounds-tuple-end c =
    let q = c.args.query.now in
    let long : length c.in-Some.tuple ≡ 26 = search rules in
    omega (arith, long, head_few q.parsed q.held)

pub slice_bounds-copy_from_slice-end-in-Some-2 : goal.slice_bounds-copy_from_slice-end-in-Some-2
slice_bounds-copy_from_slice-end-in-Some-2 c =
    let q = c.args.query.now in
    let long : length c.in-Some.tuple ≡ 26 = search rules in
    sym (length_front q.parsed.query.head.count c.in-Some.tuple (omega (arith, long, head_few q.parsed q.held)))

pub copy_from_slice-requires : goal.copy_from_slice-requires
copy_from_slice-requires c =
    let q = c.args.query.now in
    let long : length c.in-Some.tuple ≡ 26 = search rules in
    length_front q.parsed.query.head.count c.args.answer.now (omega arith)
    ∙ sym (length_front q.parsed.query.head.count c.in-Some.tuple (omega (arith, long, head_few q.parsed q.held)))

pub returns-in-Some : goal.returns-in-Some
returns-in-Some c =
    let q = c.args.query.now in
    let h = q.parsed.query.head.count in
    let out = c.args.answer.now in
    let hl = head_long q in
    let fits : h ≤ length out = omega arith in
    let front = length_front h out fits in
    let long : length c.copy_from_slice.new.self ≡ h = c.copy_from_slice.ensures.len ∙ front in
    record {
      room = omega arith;
      long = omega arith;
      tuple = c.in-Some.tuple;
      lowest = c.in-Some.ensures;
      last = refl;
      parsed = refl;
      nodes = refl;
      size = copied_length h c.copy_from_slice.new.self out long fits;
      written = λ i l. let low : i < h = omega (arith, l, hl) in
          copied_in h c.copy_from_slice.new.self out i long low ∙ ap (λ (z : List ℕ). get_or z i 0) c.copy_from_slice.ensures.after ∙ front_is h c.in-Some.tuple i low;
      rest = λ i l. copied_past h c.copy_from_slice.new.self out i long fits (omega (arith, l, hl));
    }
