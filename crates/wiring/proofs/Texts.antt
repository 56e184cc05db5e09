-- Texts made line by line.
use Rattle.std.proofs.Common.{◌≡◌, ℕ, ◌+◌, ◌<◌, ◌≤◌, List, [], ◌∷◌, ◌++◌, map, length, get_or, take, Option, Some, None, IsSome, sym, refl, ap, ◌∙◌, append_assoc, append-nil, take_all}
use Rattle.std.proofs.lemmas.List.{take_more, map_push}
use Rattle.std.specs.Fmt.{AppendsText, ◌++?◌}
use Rattle.std.proofs.lemmas.Bool.{false≢true}
use Rattle.wiring.specs.Lines.{printed, text}

pub text_push : (ls : List (List ℕ)) (l : List ℕ) → text (ls ++ l ∷ []) ≡ text ls ++ text (l ∷ [])
text_push [] l = refl
text_push (x ∷ ls) l = ap (λ (t : List ℕ). x ++ (10 ∷ t)) (text_push ls l) ∙ sym (append_assoc x (10 ∷ text ls) (text (l ∷ [])))

module _ {X : Type 0} (f : X → List ℕ) (xs : List X) (start : List ℕ) where
  pub text_none : (b : List ℕ) → b ≡ start → b ≡ start ++ text (map f (take 0 xs))
  text_none b e = e ∙ sym (append-nil start)

  pub text_more : (i : ℕ) (d : X) (b b' line : List ℕ) → i < length xs → b ≡ start ++ text (map f (take i xs))
      → line ≡ f (get_or xs i d) → b' ≡ b ++ text (line ∷ []) → b' ≡ start ++ text (map f (take (i + 1) xs))
  text_more i d b b' line l come is e =
      e ∙ ap (λ (t : List ℕ). t ++ text (line ∷ [])) come
      ∙ append_assoc start (text (map f (take i xs))) (text (line ∷ []))
      ∙ ap (λ (t : List ℕ). start ++ (text (map f (take i xs)) ++ text (t ∷ []))) is
      ∙ ap (λ (t : List ℕ). start ++ t) (sym (text_push (map f (take i xs)) (f (get_or xs i d))) ∙ ap text (sym (map_push f (take i xs) (get_or xs i d))) ∙ ap (λ (t : List X). text (map f t)) (sym (take_more xs i d l)))

  pub text_all : (i : ℕ) (b : List ℕ) → length xs ≤ i → b ≡ start ++ text (map f (take i xs)) → b ≡ start ++ text (map f xs)
  text_all i b l come = come ∙ ap (λ (t : List X). start ++ text (map f t)) (take_all i xs l)

-- one line more, of an item whose text is known
pub line_more : (o : Option (List ℕ)) (b b' : List ℕ) → IsSome o → AppendsText b b' (o ++? Some (10 ∷ [])) → b' ≡ b ++ text (printed o ∷ [])
line_more None b b' known a = absurd (false≢true known)
line_more (Some t) b b' known a = a
