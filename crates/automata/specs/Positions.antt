-- The positions of an expression: its symbols, numbered from b on in the order in which they stand.
--     size r                   how many there are
--     In b r p                 p is one of them
--     Null r                   the empty word is a word of r
--     First b r p, Last b r p  a word may begin, may end with p
--     Follow b r p q           in a word q may come right after p
--     Reads n b r p a          p reads the label a of n
--     Run n b r p w            w leads on from p, which was read, to an end
--     Accept n b r w           w leads from the start to an end
use Rattle.std.specs.Prelude.{◌≡◌, ℕ, ◌+◌, ◌<◌, ◌≤◌, ◌⊎◌, List, [], ◌∷◌}
use Rattle.meaning.specs.Words.{Regex, one, cat, alt, star, plus, opt, Matches}

abbrev pub size : Regex → ℕ
size (one s) = 1
size (cat r s) = size r + size s
size (alt r s) = size r + size s
size (star r) = size r
size (plus r) = size r
size (opt r) = size r

abbrev pub In : ℕ → Regex → ℕ → Type 0
In b r p = (b ≤ p) × (p < b + size r)

abbrev pub Null : Regex → Type 0
Null (one s) = ⊥
Null (cat r s) = Null r × Null s
Null (alt r s) = Null r ⊎ Null s
Null (star r) = Unit {0}
Null (plus r) = Null r
Null (opt r) = Unit {0}

abbrev pub First : ℕ → Regex → ℕ → Type 0
First b (one s) p = p ≡ b
First b (cat r s) p = First b r p ⊎ (Null r × First (b + size r) s p)
First b (alt r s) p = First b r p ⊎ First (b + size r) s p
First b (star r) p = First b r p
First b (plus r) p = First b r p
First b (opt r) p = First b r p

abbrev pub Last : ℕ → Regex → ℕ → Type 0
Last b (one s) p = p ≡ b
Last b (cat r s) p = Last (b + size r) s p ⊎ (Null s × Last b r p)
Last b (alt r s) p = Last b r p ⊎ Last (b + size r) s p
Last b (star r) p = Last b r p
Last b (plus r) p = Last b r p
Last b (opt r) p = Last b r p

abbrev pub Follow : ℕ → Regex → ℕ → ℕ → Type 0
Follow b (one s) p q = ⊥
Follow b (cat r s) p q = Follow b r p q ⊎ (Follow (b + size r) s p q ⊎ (Last b r p × First (b + size r) s q))
Follow b (alt r s) p q = Follow b r p q ⊎ Follow (b + size r) s p q
Follow b (star r) p q = Follow b r p q ⊎ (Last b r p × First b r q)
Follow b (plus r) p q = Follow b r p q ⊎ (Last b r p × First b r q)
Follow b (opt r) p q = Follow b r p q

abbrev pub Reads : ℕ → ℕ → Regex → ℕ → ℕ → Type 0
Reads n b (one s) p a = (p ≡ b) × Matches n s a
Reads n b (cat r s) p a = Reads n b r p a ⊎ Reads n (b + size r) s p a
Reads n b (alt r s) p a = Reads n b r p a ⊎ Reads n (b + size r) s p a
Reads n b (star r) p a = Reads n b r p a
Reads n b (plus r) p a = Reads n b r p a
Reads n b (opt r) p a = Reads n b r p a

abbrev pub Run : ℕ → ℕ → Regex → ℕ → List ℕ → Type 0
Run n b r p [] = Last b r p
Run n b r p (a ∷ w) = (q : ℕ) × Follow b r p q × Reads n b r q a × Run n b r q w

abbrev pub Accept : ℕ → ℕ → Regex → List ℕ → Type 0
Accept n b r [] = Null r
Accept n b r (a ∷ w) = (q : ℕ) × First b r q × Reads n b r q a × Run n b r q w
