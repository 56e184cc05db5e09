use Rattle.std.proofs.Common.{◌≡◌, ℕ, ◌<◌, ◌≤◌, ◌⊎◌, Option, None, Some, length, get_or, replicate, unwrap_or, refl, sym, ◌∙◌, arith, length-set}
use Rattle.std.proofs.lemmas.List.{set-get_or}
use Rattle.shapes.specs.Checks.{of}
use Rattle.order.specs.declared.Step.{Step}
use Rattle.order.specs.Ranks.{arranged, blank}
use Rattle.order.proofs.Taking.{open_room, taking_none, taking_more, taking_all, chosen_all, changed_at, start_seen, small_none, small_set, none_at, opened, acyclic_from}
use Rattle.order.proofs.reach.Goals as goal

pub loop-k-init : goal.loop-k-init
loop-k-init c =
    let few : length c.args.atoms.now ≤ 8 = c.requires.few in
    let s = start_seen c.args.start (omega arith) in (
      refl,
      simp length-set refl,
      refl,
      small_none 8,
      small_set (replicate 256 None) c.args.start 0 (omega arith) (omega arith) (small_none 256),
      taking_none (of c.args.atoms.now) (length c.args.atoms.now) c.args.start _ _ (λ d l. none_at 8 d) s.0 s.1,
    )

pub loop-k-preserved : goal.loop-k-preserved
loop-k-preserved c =
    let q = of c.args.atoms.now in
    let m = length c.args.atoms.now in
    let v = c.loop-k.invariant in
    let k = c.loop-k.k in
    let s = c.in-Some.step in
    let o = c.in-Some.ensures.some in
    let h = o.2 in
    let a = arranged c.loop-k.place-items c.loop-k.rank in
    let seen : ℕ → ℕ = λ v. unwrap_or (get_or c.loop-k.seen v None) 8 in
    let unranked : 8 ≤ a.rank s.atom = rw (o.1) (omega arith) in
    let parent : seen s.shared ≡ s.parent = rw h.known refl in
    let room = open_room q m c.args.start k a seen s.atom v.5 o.0 unranked in
    let few : m ≤ 8 = c.requires.few in
    let to = changed_at (λ (x : Step). x.parent) c.loop-k.place-items k s blank (omega (arith, v.2)) in
    let low : k < 8 = omega arith in (
      simp length-set v.0,
      simp length-set v.1,
      simp length-set v.2,
      small_set c.loop-k.rank s.atom k (omega (arith, v.0, o.0)) low v.3,
      small_set c.loop-k.seen s.fresh k (omega (arith, v.1, h.second_low)) low v.4,
      taking_more q m c.args.start k a _ seen _ v.5 (acyclic_from q m c.requires.some c.requires.acyclic) few
          s.atom s.shared s.fresh o.0 unranked h.joins h.low h.second_low (omega (arith, parent, v.4 s.shared s.parent h.known))
          (λ d l e. o.3 d l (opened q c.loop-k.rank c.loop-k.seen d v.3 e))
          (changed_at (λ (x : Step). x.atom) c.loop-k.place-items k s blank (omega (arith, v.2)))
          (changed_at (λ (x : Option ℕ). unwrap_or x 8) c.loop-k.rank s.atom (Some k) None (omega (arith, v.0, o.0)))
          (to.0 ∙ sym parent, to.1)
          (changed_at (λ (x : Step). x.shared) c.loop-k.place-items k s blank (omega (arith, v.2)))
          (changed_at (λ (x : Step). x.fresh) c.loop-k.place-items k s blank (omega (arith, v.2)))
          (changed_at (λ (x : Option ℕ). unwrap_or x 8) c.loop-k.seen s.fresh (Some k) None (omega (arith, v.1, h.second_low))),
    )

pub returns-after-loop-k : goal.returns-after-loop-k
returns-after-loop-k c =
    let q = of c.args.atoms.now in
    let m = length c.args.atoms.now in
    let v = c.loop-k.invariant in
    let a = arranged c.loop-k.place-items c.loop-k.rank in
    let seen : ℕ → ℕ = λ v. unwrap_or (get_or c.loop-k.seen v None) 8 in
    let full = c.loop-k-test.false in
    let few : m ≤ 8 = c.requires.few in
    let none : (d : ℕ) → d < m → (8 ≤ a.rank d) × ((seen (q.first d) < 8) ⊎ (seen (q.second d) < 8)) → ⊥ =
    λ d l h. let room = open_room q m c.args.start c.loop-k.k a seen d v.5 l h.0 in omega (arith, room, full, few) in
    record {
      ordered = taking_all q m c.args.start c.loop-k.k a seen v.5 none c.requires.used c.requires.connected c.requires.some;
      chosen = chosen_all q m c.args.start c.loop-k.k a seen v.5 none c.requires.used c.requires.connected;
    }

pub returns-in_default : goal.returns-in_default
returns-in_default c =
    let q = of c.args.atoms.now in
    let m = length c.args.atoms.now in
    let v = c.loop-k.invariant in
    let a = arranged c.loop-k.place-items c.loop-k.rank in
    let seen : ℕ → ℕ = λ v. unwrap_or (get_or c.loop-k.seen v None) 8 in
    let none : (d : ℕ) → d < m → (8 ≤ a.rank d) × ((seen (q.first d) < 8) ⊎ (seen (q.second d) < 8)) → ⊥ =
    λ d l h. c.in_default.ensures.none d l (opened q c.loop-k.rank c.loop-k.seen d v.3 h) in
    rw (set-get_or c.loop-k.place-items c.loop-k.k blank)
    (record {
      ordered = taking_all q m c.args.start c.loop-k.k a seen v.5 none c.requires.used c.requires.connected c.requires.some;
      chosen = chosen_all q m c.args.start c.loop-k.k a seen v.5 none c.requires.used c.requires.connected;
    })
