-- A machine that tells, byte by byte, whether a text can still become a query: it is dead when it cannot.
use Rattle.std.specs.Prelude.{◌≡◌, ℕ, zero, suc, Bool, cond, ◌&&◌, List, [], ◌∷◌, ◌++◌, ◌==◌, nat_le}
use Rattle.query.specs.Grammar as G
use Rattle.query.specs.Grammar.{State, kind}

-- Where a text stands. Inside square brackets the machine is that of expressions.
pub data Stage : Type 0 where
  start in_head at_atom at_bracket opened at_second done dead : Stage
  expects after : ℕ → Stage

abbrev pub lift : State → Stage
lift (G.expects d) = expects d
lift (G.after d) = after d
lift G.dead = dead

abbrev pub capital : ℕ → Bool
capital b = nat_le 65 b && nat_le b 90

abbrev pub go : Stage → ℕ → Stage
go start b = cond (capital b) in_head dead
go in_head b = cond (capital b) in_head (cond (b == 58) at_atom dead)
go at_atom b = cond (capital b) at_bracket dead
go at_bracket b = cond (b == 91) opened dead
go opened b = cond (b == 93) at_second (lift (G.move (G.expects 0) (kind b)))
go at_second b = cond (capital b) done dead
go done b = cond (b == 44) at_atom dead
go dead b = dead
go (expects d) b = lift (G.move (G.expects d) (kind b))
go (after zero) b = cond (b == 93) at_second (lift (G.move (G.after 0) (kind b)))
go (after (suc d)) b = lift (G.move (G.after (suc d)) (kind b))

abbrev pub goes : Stage → List ℕ → Stage
goes s [] = s
goes s (b ∷ bs) = goes (go s b) bs

-- A reader took a beginning of a tree's text, as long as there is one, from the stage s on.
pub record Halts (T : Type 0) (txt : T → List ℕ) (s : Stage) (before rest : List ℕ) : Type 0 where
  pub front : List ℕ
  pub splits : before ≡ front ++ rest
  pub tree : T
  pub more : List ℕ
  pub viable : txt tree ≡ front ++ more
  pub dies : (b : ℕ) (bs : List ℕ) → rest ≡ b ∷ bs → goes s (front ++ b ∷ []) ≡ dead
  pub short : goes s front ≡ done → ⊥
