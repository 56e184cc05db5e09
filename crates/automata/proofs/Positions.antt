-- The automaton of an expression's positions, and the words of the expression.
use Rattle.std.proofs.Common.{◌≡◌, ℕ, ◌+◌, ◌⊎◌, ◌↔◌, List, [], ◌∷◌, ◌++◌, refl, ap, inl, inr, arith}
use Rattle.meaning.specs.Words.{Regex, one, cat, alt, star, plus, opt, Star, none, more, Lang}
use Rattle.automata.specs.Positions.{size, In, First, Last, Follow, Reads, Run, Accept}

-- the positions that a relation speaks of are positions of the expression
pub first_in : (b : ℕ) (r : Regex) (p : ℕ) → First b r p → In b r p
first_in b (one c) p h = omega arith
first_in b (cat r s) p (inl h) = let k = first_in b r p h in omega arith
first_in b (cat r s) p (inr h) = let k = first_in (b + size r) s p h.1 in omega arith
first_in b (alt r s) p (inl h) = let k = first_in b r p h in omega arith
first_in b (alt r s) p (inr h) = let k = first_in (b + size r) s p h in omega arith
first_in b (star r) p h = first_in b r p h
first_in b (plus r) p h = first_in b r p h
first_in b (opt r) p h = first_in b r p h

pub last_in : (b : ℕ) (r : Regex) (p : ℕ) → Last b r p → In b r p
last_in b (one c) p h = omega arith
last_in b (cat r s) p (inl h) = let k = last_in (b + size r) s p h in omega arith
last_in b (cat r s) p (inr h) = let k = last_in b r p h.1 in omega arith
last_in b (alt r s) p (inl h) = let k = last_in b r p h in omega arith
last_in b (alt r s) p (inr h) = let k = last_in (b + size r) s p h in omega arith
last_in b (star r) p h = last_in b r p h
last_in b (plus r) p h = last_in b r p h
last_in b (opt r) p h = last_in b r p h

pub follow_in : (b : ℕ) (r : Regex) (p q : ℕ) → Follow b r p q → In b r p × In b r q
follow_in b (one c) p q h = absurd h
follow_in b (cat r s) p q (inl h) = let k = follow_in b r p q h in omega arith
follow_in b (cat r s) p q (inr (inl h)) = let k = follow_in (b + size r) s p q h in omega arith
follow_in b (cat r s) p q (inr (inr h)) = let k = last_in b r p h.0 in let l = first_in (b + size r) s q h.1 in omega arith
follow_in b (alt r s) p q (inl h) = let k = follow_in b r p q h in omega arith
follow_in b (alt r s) p q (inr h) = let k = follow_in (b + size r) s p q h in omega arith
follow_in b (star r) p q (inl h) = follow_in b r p q h
follow_in b (star r) p q (inr h) = (last_in b r p h.0, first_in b r q h.1)
follow_in b (plus r) p q (inl h) = follow_in b r p q h
follow_in b (plus r) p q (inr h) = (last_in b r p h.0, first_in b r q h.1)
follow_in b (opt r) p q h = follow_in b r p q h

-- a word in two parts
abbrev Split : (List ℕ → Type 0) → (List ℕ → Type 0) → List ℕ → Type 0
Split L M w = (u : List ℕ) × (v : List ℕ) × (w ≡ u ++ v) × L u × M v

module _ (n : ℕ) where
  pub reads_in : (b : ℕ) (r : Regex) (p a : ℕ) → Reads n b r p a → In b r p
  reads_in b (one c) p a h = let k = h.0 in omega arith
  reads_in b (cat r s) p a (inl h) = let k = reads_in b r p a h in omega arith
  reads_in b (cat r s) p a (inr h) = let k = reads_in (b + size r) s p a h in omega arith
  reads_in b (alt r s) p a (inl h) = let k = reads_in b r p a h in omega arith
  reads_in b (alt r s) p a (inr h) = let k = reads_in (b + size r) s p a h in omega arith
  reads_in b (star r) p a h = reads_in b r p a h
  reads_in b (plus r) p a h = reads_in b r p a h
  reads_in b (opt r) p a h = reads_in b r p a h

  -- cat: from the words to the automaton
  right_run : (b : ℕ) (r s : Regex) (p : ℕ) (w : List ℕ) → Run n (b + size r) s p w → Run n b (cat r s) p w
  right_run b r s p [] h = inl h
  right_run b r s p (a ∷ w) h = (h.0, inr (inl h.1), inr h.2, right_run b r s h.0 w h.3)

  left_run : (b : ℕ) (r s : Regex) (p : ℕ) (u v : List ℕ) → Run n b r p u → Accept n (b + size r) s v → Run n b (cat r s) p (u ++ v)
  left_run b r s p [] [] h k = inr (k, h)
  left_run b r s p [] (a ∷ v) h k = (k.0, inr (inr (h, k.1)), inr k.2, right_run b r s k.0 v k.3)
  left_run b r s p (a ∷ u) v h k = (h.0, inl h.1, inl h.2, left_run b r s h.0 u v h.3 k)

  cat_accept : (b : ℕ) (r s : Regex) (u v : List ℕ) → Accept n b r u → Accept n (b + size r) s v → Accept n b (cat r s) (u ++ v)
  cat_accept b r s [] [] h k = (h, k)
  cat_accept b r s [] (a ∷ v) h k = (k.0, inr (h, k.1), inr k.2, right_run b r s k.0 v k.3)
  cat_accept b r s (a ∷ u) v h k = (h.0, inl h.1, inl h.2, left_run b r s h.0 u v h.3 k)

  -- cat: from the automaton to the words
  in_right : (b : ℕ) (r s : Regex) (p : ℕ) (w : List ℕ) → In (b + size r) s p → Run n b (cat r s) p w → Run n (b + size r) s p w
  in_right b r s p [] i (inl h) = h
  in_right b r s p [] i (inr h) = let k = last_in b r p h.1 in absurd (omega arith)
  in_right b r s p (a ∷ w) i (q, inl h, l, t) = let k = follow_in b r p q h in absurd (omega arith)
  in_right b r s p (a ∷ w) i (q, inr (inl h), inl l, t) = let k = follow_in (b + size r) s p q h in let m = reads_in b r q a l in absurd (omega arith)
  in_right b r s p (a ∷ w) i (q, inr (inl h), inr l, t) = (q, h, l, in_right b r s q w (follow_in (b + size r) s p q h).1 t)
  in_right b r s p (a ∷ w) i (q, inr (inr h), l, t) = let k = last_in b r p h.0 in absurd (omega arith)

  in_left : (b : ℕ) (r s : Regex) (p : ℕ) (w : List ℕ) → In b r p → Run n b (cat r s) p w → Split (Run n b r p) (Accept n (b + size r) s) w
  in_left b r s p [] i (inl h) = let k = last_in (b + size r) s p h in absurd (omega arith)
  in_left b r s p [] i (inr h) = ([], [], refl, h.1, h.0)
  in_left b r s p (a ∷ w) i (q, inl h, inl l, t) =
      let k = in_left b r s q w (follow_in b r p q h).1 t in
      (a ∷ k.0, k.1, ap (λ x. a ∷ x) k.2, (q, h, l, k.3), k.4)
  in_left b r s p (a ∷ w) i (q, inl h, inr l, t) = let k = follow_in b r p q h in let m = reads_in (b + size r) s q a l in absurd (omega arith)
  in_left b r s p (a ∷ w) i (q, inr (inl h), l, t) = let k = follow_in (b + size r) s p q h in absurd (omega arith)
  in_left b r s p (a ∷ w) i (q, inr (inr h), inl l, t) = let k = first_in (b + size r) s q h.1 in let m = reads_in b r q a l in absurd (omega arith)
  in_left b r s p (a ∷ w) i (q, inr (inr h), inr l, t) = ([], a ∷ w, refl, h.0, (q, h.1, l, in_right b r s q w (first_in (b + size r) s q h.1) t))

  cat_split : (b : ℕ) (r s : Regex) (w : List ℕ) → Accept n b (cat r s) w → Split (Accept n b r) (Accept n (b + size r) s) w
  cat_split b r s [] h = ([], [], refl, h.0, h.1)
  cat_split b r s (a ∷ w) (q, inl h, inl l, t) =
      let k = in_left b r s q w (first_in b r q h) t in
      (a ∷ k.0, k.1, ap (λ x. a ∷ x) k.2, (q, h, l, k.3), k.4)
  cat_split b r s (a ∷ w) (q, inl h, inr l, t) = let k = first_in b r q h in let m = reads_in (b + size r) s q a l in absurd (omega arith)
  cat_split b r s (a ∷ w) (q, inr h, inl l, t) = let k = first_in (b + size r) s q h.1 in let m = reads_in b r q a l in absurd (omega arith)
  cat_split b r s (a ∷ w) (q, inr h, inr l, t) = ([], a ∷ w, refl, h.0, (q, h.1, l, in_right b r s q w (first_in (b + size r) s q h.1) t))

  -- alt
  alt_left : (b : ℕ) (r s : Regex) (p : ℕ) (w : List ℕ) → Run n b r p w → Run n b (alt r s) p w
  alt_left b r s p [] h = inl h
  alt_left b r s p (a ∷ w) h = (h.0, inl h.1, inl h.2, alt_left b r s h.0 w h.3)

  alt_right : (b : ℕ) (r s : Regex) (p : ℕ) (w : List ℕ) → Run n (b + size r) s p w → Run n b (alt r s) p w
  alt_right b r s p [] h = inr h
  alt_right b r s p (a ∷ w) h = (h.0, inr h.1, inr h.2, alt_right b r s h.0 w h.3)

  alt_accept : (b : ℕ) (r s : Regex) (w : List ℕ) → Accept n b r w ⊎ Accept n (b + size r) s w → Accept n b (alt r s) w
  alt_accept b r s [] h = h
  alt_accept b r s (a ∷ w) (inl h) = (h.0, inl h.1, inl h.2, alt_left b r s h.0 w h.3)
  alt_accept b r s (a ∷ w) (inr h) = (h.0, inr h.1, inr h.2, alt_right b r s h.0 w h.3)

  from_left : (b : ℕ) (r s : Regex) (p : ℕ) (w : List ℕ) → In b r p → Run n b (alt r s) p w → Run n b r p w
  from_left b r s p [] i (inl h) = h
  from_left b r s p [] i (inr h) = let k = last_in (b + size r) s p h in absurd (omega arith)
  from_left b r s p (a ∷ w) i (q, inl h, inl l, t) = (q, h, l, from_left b r s q w (follow_in b r p q h).1 t)
  from_left b r s p (a ∷ w) i (q, inl h, inr l, t) = let k = follow_in b r p q h in let m = reads_in (b + size r) s q a l in absurd (omega arith)
  from_left b r s p (a ∷ w) i (q, inr h, l, t) = let k = follow_in (b + size r) s p q h in absurd (omega arith)

  from_right : (b : ℕ) (r s : Regex) (p : ℕ) (w : List ℕ) → In (b + size r) s p → Run n b (alt r s) p w → Run n (b + size r) s p w
  from_right b r s p [] i (inr h) = h
  from_right b r s p [] i (inl h) = let k = last_in b r p h in absurd (omega arith)
  from_right b r s p (a ∷ w) i (q, inr h, inr l, t) = (q, h, l, from_right b r s q w (follow_in (b + size r) s p q h).1 t)
  from_right b r s p (a ∷ w) i (q, inr h, inl l, t) = let k = follow_in (b + size r) s p q h in let m = reads_in b r q a l in absurd (omega arith)
  from_right b r s p (a ∷ w) i (q, inl h, l, t) = let k = follow_in b r p q h in absurd (omega arith)

  alt_split : (b : ℕ) (r s : Regex) (w : List ℕ) → Accept n b (alt r s) w → Accept n b r w ⊎ Accept n (b + size r) s w
  alt_split b r s [] h = h
  alt_split b r s (a ∷ w) (q, inl h, inl l, t) = inl (q, h, l, from_left b r s q w (first_in b r q h) t)
  alt_split b r s (a ∷ w) (q, inl h, inr l, t) = let k = first_in b r q h in let m = reads_in (b + size r) s q a l in absurd (omega arith)
  alt_split b r s (a ∷ w) (q, inr h, inl l, t) = let k = first_in (b + size r) s q h in let m = reads_in b r q a l in absurd (omega arith)
  alt_split b r s (a ∷ w) (q, inr h, inr l, t) = inr (q, h, l, from_right b r s q w (first_in (b + size r) s q h) t)

  -- star
  run_star : (b : ℕ) (r : Regex) (p : ℕ) (u v : List ℕ) → Run n b r p u → Accept n b (star r) v → Run n b (star r) p (u ++ v)
  run_star b r p [] [] h k = h
  run_star b r p [] (a ∷ v) h k = (k.0, inr (h, k.1), k.2, k.3)
  run_star b r p (a ∷ u) v h k = (h.0, inl h.1, h.2, run_star b r h.0 u v h.3 k)

  star_more : (b : ℕ) (r : Regex) (u v : List ℕ) → Accept n b r u → Accept n b (star r) v → Accept n b (star r) (u ++ v)
  star_more b r [] v h k = k
  star_more b r (a ∷ u) v h k = (h.0, h.1, h.2, run_star b r h.0 u v h.3 k)

  star_accept : (b : ℕ) (r : Regex) → ((w : List ℕ) → Lang n r w → Accept n b r w) → {w : List ℕ} → Star (Lang n r) w → Accept n b (star r) w
  star_accept b r f (none e) = rw e tt
  star_accept b r f (more u v e h k) = rw e (star_more b r u v (f u h) (star_accept b r f k))

  star_split : (b : ℕ) (r : Regex) (p : ℕ) (w : List ℕ) → ((u : List ℕ) → Accept n b r u → Lang n r u) → Run n b (star r) p w → Split (Run n b r p) (Star (Lang n r)) w
  star_split b r p [] f h = ([], [], refl, h, none refl)
  star_split b r p (a ∷ w) f (q, inl h, l, t) =
      let k = star_split b r q w f t in
      (a ∷ k.0, k.1, ap (λ x. a ∷ x) k.2, (q, h, l, k.3), k.4)
  star_split b r p (a ∷ w) f (q, inr h, l, t) =
      let k = star_split b r q w f t in
      ([], a ∷ w, refl, h.0, more (a ∷ k.0) k.1 (ap (λ x. a ∷ x) k.2) (f (a ∷ k.0) (q, h.1, l, k.3)) k.4)

  -- plus and opt read as star and the expression itself
  plus_to : (b : ℕ) (r : Regex) (p : ℕ) (w : List ℕ) → Run n b (plus r) p w → Run n b (star r) p w
  plus_to b r p [] h = h
  plus_to b r p (a ∷ w) h = (h.0, h.1, h.2, plus_to b r h.0 w h.3)

  to_plus : (b : ℕ) (r : Regex) (p : ℕ) (w : List ℕ) → Run n b (star r) p w → Run n b (plus r) p w
  to_plus b r p [] h = h
  to_plus b r p (a ∷ w) h = (h.0, h.1, h.2, to_plus b r h.0 w h.3)

  opt_to : (b : ℕ) (r : Regex) (p : ℕ) (w : List ℕ) → Run n b (opt r) p w → Run n b r p w
  opt_to b r p [] h = h
  opt_to b r p (a ∷ w) h = (h.0, h.1, h.2, opt_to b r h.0 w h.3)

  to_opt : (b : ℕ) (r : Regex) (p : ℕ) (w : List ℕ) → Run n b r p w → Run n b (opt r) p w
  to_opt b r p [] h = h
  to_opt b r p (a ∷ w) h = (h.0, h.1, h.2, to_opt b r h.0 w h.3)

  plus_more : (b : ℕ) (r : Regex) (u v : List ℕ) → Accept n b r u → Accept n b (star r) v → Accept n b (plus r) (u ++ v)
  plus_more b r [] [] h k = h
  plus_more b r [] (a ∷ v) h k = (k.0, k.1, k.2, to_plus b r k.0 v k.3)
  plus_more b r (a ∷ u) v h k = (h.0, h.1, h.2, to_plus b r h.0 (u ++ v) (run_star b r h.0 u v h.3 k))

  opt_accept : (b : ℕ) (r : Regex) (w : List ℕ) → Accept n b r w → Accept n b (opt r) w
  opt_accept b r [] h = tt
  opt_accept b r (a ∷ w) h = (h.0, h.1, h.2, to_opt b r h.0 w h.3)

  -- The two halves.
  words : (b : ℕ) (r : Regex) (w : List ℕ) → Accept n b r w → Lang n r w
  words b (one c) [] h = absurd h
  words b (one c) (a ∷ []) h = (a, refl, h.2.1)
  words b (one c) (a ∷ (x ∷ w)) h = absurd h.3.1
  words b (cat r s) w h =
      let k = cat_split b r s w h in
      (k.0, k.1, k.2, words b r k.0 k.3, words (b + size r) s k.1 k.4)
  words b (alt r s) w h = elim (alt_split b r s w h) [ inl k ↦ inl (words b r w k) | inr k ↦ inr (words (b + size r) s w k) ]
  words b (star r) [] h = none refl
  words b (star r) (a ∷ w) (q, h, l, t) =
      let k = star_split b r q w (words b r) t in
      more (a ∷ k.0) k.1 (ap (λ x. a ∷ x) k.2) (words b r (a ∷ k.0) (q, h, l, k.3)) k.4
  words b (plus r) [] h = ([], [], refl, words b r [] h, none refl)
  words b (plus r) (a ∷ w) (q, h, l, t) =
      let k = star_split b r q w (words b r) (plus_to b r q w t) in
      (a ∷ k.0, k.1, ap (λ x. a ∷ x) k.2, words b r (a ∷ k.0) (q, h, l, k.3), k.4)
  words b (opt r) [] h = inl refl
  words b (opt r) (a ∷ w) (q, h, l, t) = inr (words b r (a ∷ w) (q, h, l, opt_to b r q w t))

  accepted : (b : ℕ) (r : Regex) (w : List ℕ) → Lang n r w → Accept n b r w
  accepted b (one c) w h = rw h.1 (b, refl, (refl, h.2), refl)
  accepted b (cat r s) w h = rw h.2 (cat_accept b r s h.0 h.1 (accepted b r h.0 h.3) (accepted (b + size r) s h.1 h.4))
  accepted b (alt r s) w (inl h) = alt_accept b r s w (inl (accepted b r w h))
  accepted b (alt r s) w (inr h) = alt_accept b r s w (inr (accepted (b + size r) s w h))
  accepted b (star r) w h = star_accept b r (accepted b r) h
  accepted b (plus r) w h = rw h.2 (plus_more b r h.0 h.1 (accepted b r h.0 h.3) (star_accept b r (accepted b r) h.4))
  accepted b (opt r) w (inl e) = rw e tt
  accepted b (opt r) w (inr h) = opt_accept b r w (accepted b r w h)

  -- the automaton of the positions accepts the words of the expression, and no others
  pub accepts_words : (b : ℕ) (r : Regex) (w : List ℕ) → Accept n b r w ↔ Lang n r w
  accepts_words b r w = (words b r w, accepted b r w)
