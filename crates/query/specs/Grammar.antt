-- Path expressions: which bytes are the text of one.
--     Tree l               the syntax trees of a layer: alternative, sequence, step, unit
--     text t               the bytes of a tree
--     kind b               what a byte is to an expression
--     run s bs             a machine over bytes that knows the depth of the brackets; dead where no expression goes on so
--     Stops l bs           bs does not go on with a text of layer l
--     Took, Halted         what a reader took of some bytes: a whole text, or a beginning of one, as long as there is
use Rattle.std.specs.Prelude.{◌≡◌, ℕ, zero, suc, ◌≤◌, Bool, true, false, cond, List, [], ◌∷◌, ◌++◌, ◌==◌, ◌≢◌, nat_le}

pub data Layer : Type 0 where
  alternative sequence step unit : Layer

pub data Kind : Type 0 where
  atom opening closing sign slash bar other : Kind

abbrev pub kind : ℕ → Kind
kind b =
    cond (nat_le 97 b) (cond (nat_le b 122) atom (cond (b == 124) bar other))
    (cond (b == 46) atom
    (cond (b == 40) opening
    (cond (b == 41) closing
    (cond (b == 42) sign
    (cond (b == 43) sign
    (cond (b == 63) sign
    (cond (b == 47) slash other)))))))

-- left-nested, as the text is read; an alternative is sequences joined by |, a sequence steps joined by /
pub data Tree : Layer → Type 0 where
  letter : (b : ℕ) → 97 ≤ b → b ≤ 122 → Tree unit
  dot : Tree unit
  group : Tree alternative → Tree unit
  plain : Tree unit → Tree step
  star plus opt : Tree step → Tree step
  one_step : Tree step → Tree sequence
  joined : Tree sequence → Tree step → Tree sequence
  one_sequence : Tree sequence → Tree alternative
  either : Tree alternative → Tree sequence → Tree alternative

abbrev pub text : {l : Layer} → Tree l → List ℕ
text (letter b h k) = b ∷ []
text dot = 46 ∷ []
text (group t) = 40 ∷ (text t ++ 41 ∷ [])
text (plain t) = text t
text (star t) = text t ++ 42 ∷ []
text (plus t) = text t ++ 43 ∷ []
text (opt t) = text t ++ 63 ∷ []
text (one_step t) = text t
text (joined s t) = text s ++ 47 ∷ text t
text (one_sequence t) = text t
text (either s t) = text s ++ 124 ∷ text t

-- whether a layer's text can go on with such a byte after it was complete
abbrev pub goes_on : Layer → Kind → Bool
goes_on unit k = false
goes_on step atom = false
goes_on step opening = false
goes_on step closing = false
goes_on step sign = true
goes_on step slash = false
goes_on step bar = false
goes_on step other = false
goes_on sequence atom = false
goes_on sequence opening = false
goes_on sequence closing = false
goes_on sequence sign = true
goes_on sequence slash = true
goes_on sequence bar = false
goes_on sequence other = false
goes_on alternative atom = false
goes_on alternative opening = false
goes_on alternative closing = false
goes_on alternative sign = true
goes_on alternative slash = true
goes_on alternative bar = true
goes_on alternative other = false

abbrev pub Stops : Layer → List ℕ → Type 0
Stops l [] = Unit {0}
Stops l (b ∷ bs) = goes_on l (kind b) ≡ false

-- it expects a unit, or comes after one, inside so many brackets
pub data State : Type 0 where
  expects after : ℕ → State
  dead : State

abbrev pub move : State → Kind → State
move (expects d) atom = after d
move (expects d) opening = expects (suc d)
move (expects d) closing = dead
move (expects d) sign = dead
move (expects d) slash = dead
move (expects d) bar = dead
move (expects d) other = dead
move (after d) atom = dead
move (after d) opening = dead
move (after zero) closing = dead
move (after (suc d)) closing = after d
move (after d) sign = after d
move (after d) slash = expects d
move (after d) bar = expects d
move (after d) other = dead
move dead k = dead

abbrev pub run : State → List ℕ → State
run s [] = s
run s (b ∷ bs) = run (move s (kind b)) bs

pub record Took (l : Layer) (before rest : List ℕ) : Type 0 where
  pub tree : Tree l
  pub splits : before ≡ text tree ++ rest
  pub stops : Stops l rest

-- more would complete it; the next byte makes it dead at any depth, and it is no whole text
pub record Halted (l : Layer) (before rest : List ℕ) : Type 0 where
  pub front : List ℕ
  pub splits : before ≡ front ++ rest
  pub tree : Tree l
  pub more : List ℕ
  pub viable : text tree ≡ front ++ more
  pub dies : (d b : ℕ) (bs : List ℕ) → rest ≡ b ∷ bs → run (expects d) (front ++ b ∷ []) ≡ dead
  pub short : (d k : ℕ) → k ≤ d → run (expects d) front ≢ after k
