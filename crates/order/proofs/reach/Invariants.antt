use Rattle.std.proofs.Common.{◌≡◌, length, get_or, None, unwrap_or}
use Rattle.shapes.specs.Checks.{of}
use Rattle.order.specs.Ranks.{arranged}
use Rattle.order.proofs.Taking.{Small, Taking}
use Rattle.order.proofs.reach.Given as goal

abbrev pub invariant-loop-k : goal.invariant-loop-k
invariant-loop-k l = (length l.rank ≡ 8) × (length l.seen ≡ 256) × (length l.place-items ≡ 8) × Small l.rank × Small l.seen
    × Taking (of l.atoms) (length l.atoms) l.start l.k (arranged l.place-items l.rank) (λ v. unwrap_or (get_or l.seen v None) 8)
