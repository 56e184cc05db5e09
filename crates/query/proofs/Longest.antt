-- The longest beginning of a text that begins some expression.
use Rattle.std.proofs.Common.{◌≡◌, ℕ, suc, ◌+◌, ◌-◌, ◌<◌, ◌≤◌, false, List, [], ◌∷◌, ◌++◌, length, take, drop, sym, refl, ap, ◌∙◌, subst, append_assoc, append-nil, arith, length-append, length-drop, take_at}
use Rattle.std.proofs.lemmas.List.{drop_all}
use lib.Seq.{take-append-add}
use Rattle.std.proofs.lemmas.Bool.Decides.{nat_tests}
use Rattle.query.specs.Grammar.{Tree, alternative, text, kind, goes_on, expects, after, dead, move, run, Took, Halted}
use Rattle.query.specs.Expressions.{Begins, NoExpression}
use Rattle.query.proofs.Bytes.{run_all, runs}

run_append : (s : _) (xs ys : List ℕ) → run s (xs ++ ys) ≡ run (run s xs) ys
run_append s [] ys = refl
run_append s (x ∷ xs) ys = run_append (move s (kind x)) xs ys

run_dead : (xs : List ℕ) → run dead xs ≡ dead
run_dead [] = refl
run_dead (x ∷ xs) = run_dead xs

after_not_dead : after 0 ≡ dead → ⊥
after_not_dead e = let z : ◌≡◌ {A = ℕ} 0 1 = cc in omega arith

-- nothing that goes on from a dead beginning is the text of an expression
no_text : (front : List ℕ) (b : ℕ) (more : List ℕ) → run (expects 0) (front ++ b ∷ []) ≡ dead → (t : Tree alternative) → text t ≡ front ++ b ∷ more → ⊥
no_text front b more dies t e =
    after_not_dead
    (sym (run_all t 0) ∙ ap (run (expects 0)) (e ∙ sym (append_assoc front (b ∷ []) more))
    ∙ run_append (expects 0) (front ++ b ∷ []) more ∙ ap (λ s. run s more) dies ∙ run_dead more)

take_past : (front : List ℕ) (b : ℕ) (bs : List ℕ) (j : ℕ) → length front < j
    → (k : ℕ) × (take j (front ++ b ∷ bs) ≡ front ++ b ∷ take k bs)
take_past front b bs j l =
    let k : ℕ = j - length front - 1 in
    let is : j ≡ length front + suc k = omega arith in
    (k, ap (λ (z : ℕ). take z (front ++ b ∷ bs)) is ∙ take-append-add front (b ∷ bs) (suc k))

module _ (xs front more : List ℕ) (t : Tree alternative) (viable : text t ≡ front ++ more) where
  begins : (rest : List ℕ) → xs ≡ front ++ rest → Begins xs (length front)
  begins rest is = (t, more, viable ∙ ap (λ (z : List ℕ). z ++ more) (sym (ap (take (length front)) is ∙ take_at front rest (length front) refl)))

  -- it ends where a beginning ends that is no expression itself
  at_end : xs ≡ front ++ [] → (run (expects 0) front ≡ after 0 → ⊥) → NoExpression xs (length front)
  at_end is short =
      let whole : xs ≡ front = is ∙ append-nil front in
      let long : length xs ≡ length front = ap length whole in
      record {
        none = λ u e. short (sym (ap (run (expects 0)) (e ∙ whole)) ∙ run_all u 0);
        longest = record { within = omega arith; begins = begins [] is; none = λ j l h b. absurd (omega arith) };
      }

  -- it ends before a byte with which no expression goes on
  at_byte : (b : ℕ) (bs : List ℕ) → xs ≡ front ++ b ∷ bs → run (expects 0) (front ++ b ∷ []) ≡ dead → NoExpression xs (length front)
  at_byte b bs is dies =
      let long : length xs ≡ length front + length (b ∷ bs) = ap length is ∙ length-append front (b ∷ bs) in
      record {
        none = λ u e. no_text front b bs dies u (e ∙ is);
        longest = record {
          within = omega arith;
          begins = begins (b ∷ bs) is;
          none = λ j l h g.
              let cut = take_past front b bs j l in
              no_text front b (take cut.0 bs ++ g.1) dies g.0
              (g.2 ∙ ap (λ (z : List ℕ). z ++ g.1) (ap (take j) is ∙ cut.1) ∙ append_assoc front (b ∷ take cut.0 bs) g.1);
        };
      }

  pub no_expression : (rest : List ℕ) → xs ≡ front ++ rest → ((b : ℕ) (bs : List ℕ) → rest ≡ b ∷ bs → run (expects 0) (front ++ b ∷ []) ≡ dead)
      → (rest ≡ [] → run (expects 0) front ≡ after 0 → ⊥) → NoExpression xs (length front)
  no_expression [] is dies short = at_end is (short refl)
  no_expression (b ∷ bs) is dies short = at_byte b bs is (dies b bs refl)

pub halted_none : (xs rest : List ℕ) → (h : Halted alternative xs rest) → NoExpression xs (length h.front)
halted_none xs rest h =
    no_expression xs h.front h.more h.tree h.viable rest h.splits (h.dies 0) (λ _ e. h.short 0 0 (omega arith) e)

-- a byte behind a whole expression that does not go on with it, outside all brackets
stops_dead : (b : ℕ) → goes_on alternative (kind b) ≡ false → move (after 0) (kind b) ≡ dead
stops_dead b h = grind (arith, nat_tests)

pub took_none : (xs rest : List ℕ) → (h : Took alternative xs rest) → (rest ≡ [] → ⊥) → NoExpression xs (length (text h.tree))
took_none xs rest h some =
    no_expression xs (text h.tree) [] h.tree (sym (append-nil (text h.tree))) rest h.splits
    (λ b bs e. runs h.tree 0 (b ∷ []) ∙ stops_dead b (rw e at h.stops))
    (λ e _. some e)

-- the place of a reader is the length of what it took
place : (xs front rest : List ℕ) (k : ℕ) → xs ≡ front ++ rest → rest ≡ drop k xs → k ≤ length xs → length front ≡ k
place xs front rest k splits is within =
    let a : length xs ≡ length front + length rest = ap length splits ∙ length-append front rest in
    let b : length rest ≡ length xs - k = ap length is ∙ length-drop k xs in
    omega arith

module _ (xs rest : List ℕ) (k : ℕ) (is : rest ≡ drop k xs) (within : k ≤ length xs) where
  pub stopped_none : Halted alternative xs rest → NoExpression xs k
  stopped_none h = subst (NoExpression xs) (place xs h.front rest k h.splits is within) (halted_none xs rest h)

  pub early_none : k < length xs → Took alternative xs rest → NoExpression xs k
  early_none l h =
      let long : length rest ≡ length xs - k = ap length is ∙ length-drop k xs in
      subst (NoExpression xs) (place xs (text h.tree) rest k h.splits is within)
      (took_none xs rest h (λ e. let z : length rest ≡ 0 = ap length e in omega arith))

  pub whole_text : length xs ≤ k → (h : Took alternative xs rest) → text h.tree ≡ xs
  whole_text l h =
      sym (append-nil (text h.tree)) ∙ ap (λ (z : List ℕ). text h.tree ++ z) (sym (is ∙ drop_all k xs l)) ∙ sym h.splits
