use Rattle.std.proofs.Common.{◌≡◌, ℕ, ◌+◌, ◌-◌, ◌<◌, ◌≤◌, true, false, List, [], length, Option, IfSome, set, replicate, sym, refl, ◌∙◌, subst, inl, inr, arith, rules}
use Rattle.std.proofs.lemmas.Bool.{both_ways}
use Rattle.meaning.specs.Tuples.{node, Within, noted_of, last_of}
use Rattle.search.specs.Heads.{placed, relations}
use Rattle.search.specs.Places.{Goes}
use Rattle.search.proofs.Testing.{goes_prefix}
use Rattle.search.proofs.Moves.{least_from, State, put_set, rise, descend, ascend_at, start_low, start_last, finish, state_at, step_down, step_up}
use Rattle.search.proofs.searching.lowest.Goals as goal
use Rattle.search.proofs.searching.lowest.Goals.{in-Some, then-loop-at-test+else-goes, else-loop-at-test, in_default}

pub search-init : goal.search-init
search-init c =
    let t = c.args.tables.now in
    let go = Goes (placed t.places.now) (relations t) in
    let pre = goes_prefix (placed t.places.now) (relations t) in
    let n = t.rows.count in
    let h = t.places.now.free in
    let few : h ≤ 26 = c.requires.head.1 in
    let P : Option (List ℕ) → Type 0 = λ o. State go n h (noted_of o) (last_of o) c.match-last.cur c.match-last.at in
    elim c.match-last.branch [
      | in-Some w ↦
          (let l = w.in-Some.tuple in
          let a = w.loop-at.at in
          let d : a < h = w.loop-at.invariant.0 in
          let long : length l ≡ 26 = search rules in
          let p = put_set l a (node l a + 1) long (omega arith) in
          let within : Within n h l = subst (λ (o : Option (List ℕ)). IfSome o (Within n h)) w.in-Some.is c.requires.inside in
          let start = start_last go pre n h true l (set l a (node l a + 1)) a refl d few within w.loop-at.invariant.1 in
          subst P (sym w.in-Some.is)
          (state_at go n h true l c.match-last.cur (set l a (node l a + 1)) c.match-last.at a w.cur-is w.at-is
          (start (elim w.loop-at-test.branch [
            | then-loop-at-test+else-goes v ↦ inr (λ g. both_ways false refl (v.if-goes.ensures.1 g))
            | else-loop-at-test v ↦ inl (omega (arith, v.loop-at-test.false))
          ]) p)))
      | in_default w ↦
          subst P (sym w.in_default.is)
          (state_at go n h false [] c.match-last.cur (replicate 26 0) c.match-last.at 0 w.cur-is w.at-is
          (start_low go pre n h false [] refl c.requires.head.0 few))
    ]

pub search-smaller-then-goes-2 : goal.search-smaller-then-goes-2
search-smaller-then-goes-2 c =
    let i = c.loop-cur.invariant in
    let s = i.0 in
    let n = c.args.tables.now.rows.count in
    let h = c.args.tables.now.places.now.free in
    let d : c.loop-cur.at < h = s.depth in
    let f : h ≤ 26 = s.few in
    step_down n h c.loop-cur.at c.search.at c.search.cur c.loop-cur.cur _ i.1 (omega arith) i.2 i.3 c.loop-cur-test.true
    (put_set c.loop-cur.cur (c.loop-cur.at + 1) 0 s.size (omega arith))

pub search-preserved-then-goes-2 : goal.search-preserved-then-goes-2
search-preserved-then-goes-2 c =
    let t = c.args.tables.now in
    let h = t.places.now.free in
    let s = c.loop-cur.invariant.0 in
    let d : c.loop-cur.at < h = s.depth in
    let f : h ≤ 26 = s.few in
    descend (Goes (placed t.places.now) (relations t)) (goes_prefix (placed t.places.now) (relations t)) t.rows.count h (noted_of c.args.last) (last_of c.args.last) c.loop-cur.cur _ c.loop-cur.at s
    (put_set c.loop-cur.cur (c.loop-cur.at + 1) 0 s.size (omega arith)) c.loop-cur-test.true (c.if-goes-2.ensures.0 refl) (omega arith)

pub loop-cur-preserved : goal.loop-cur-preserved
loop-cur-preserved c =
    let t = c.args.tables.now in
    let h = t.places.now.free in
    let i = c.loop-cur.invariant in
    let s = i.0 in
    let d : c.loop-cur.at < h = s.depth in
    let f : h ≤ 26 = s.few in
    let p = put_set c.loop-cur.cur c.loop-cur.at (node c.loop-cur.cur c.loop-cur.at + 1) s.size (omega arith) in (
      rise (Goes (placed t.places.now) (relations t)) (goes_prefix (placed t.places.now) (relations t)) t.rows.count h (noted_of c.args.last) (last_of c.args.last) c.loop-cur.cur _ c.loop-cur.at s p c.loop-cur-test.true (λ g. both_ways false refl (c.if-goes-2.ensures.1 g)),
      i.1,
      (λ k ka. p.other k ka ∙ i.2 k ka),
      omega (arith, p.new, i.3),
    )

pub search-smaller : goal.search-smaller
search-smaller c =
    let n = c.args.tables.now.rows.count in
    let h = c.args.tables.now.places.now.free in
    let i = c.loop-cur.invariant in
    let s = i.0 in
    let d : c.loop-cur.at < h = s.depth in
    let f : h ≤ 26 = s.few in
    let pos : 0 < c.loop-cur.at = omega arith in
    step_up n h c.loop-cur.at c.search.at c.search.cur c.loop-cur.cur _ i.1 pos d i.2 (s.before (c.loop-cur.at - 1) (omega arith))
    (put_set c.loop-cur.cur (c.loop-cur.at - 1) (node c.loop-cur.cur (c.loop-cur.at - 1) + 1) s.size (omega arith))

pub search-preserved : goal.search-preserved
search-preserved c =
    let t = c.args.tables.now in
    let h = t.places.now.free in
    let s = c.loop-cur.invariant.0 in
    let d : c.loop-cur.at < h = s.depth in
    let f : h ≤ 26 = s.few in
    ascend_at (Goes (placed t.places.now) (relations t)) (goes_prefix (placed t.places.now) (relations t)) t.rows.count h (noted_of c.args.last) (last_of c.args.last) c.loop-cur.cur _ c.loop-cur.at (omega arith) s
    (put_set c.loop-cur.cur (c.loop-cur.at - 1) (node c.loop-cur.cur (c.loop-cur.at - 1) + 1) s.size (omega arith)) c.loop-cur-test.false

pub returns-then-at-free : goal.returns-then-at-free
returns-then-at-free c =
    let t = c.args.tables.now in
    let n = t.rows.count in
    let h = t.places.now.free in
    least_from (placed t.places.now) (relations t) n h (noted_of c.args.last) (last_of c.args.last) c.loop-cur.cur c.requires.head.0
    (finish (Goes (placed t.places.now) (relations t)) (goes_prefix (placed t.places.now) (relations t)) n h (noted_of c.args.last) (last_of c.args.last) c.loop-cur.cur c.loop-cur.at c.loop-cur.invariant.0 c.loop-cur-test.true (c.if-goes-2.ensures.0 refl) c.if-at-free.true)
