-- Parts of an expression, while its automaton is built.
--     meant s               the symbol that the code's s stands for
--     followed f g, beside f g, repeated f   the part for f and then g, for f or g, for f any number of times
--     Built m f b r         the rows of m and the part f are those of r, its positions from b on, at the 64 places there are
--     Holds m f b r         and these positions are the last that m has
--     Kept k old new        the rows below k are as they were
use Rattle.std.specs.Prelude.{◌≡◌, ℕ, ◌+◌, ◌<◌, true, cond, ◌&&◌, ◌||◌, ◌↔◌, bit_or, slice_index, slice_index_or}
use Rattle.bits.specs.Bits.{Has}
use Rattle.meaning.specs.Words as words
use Rattle.meaning.specs.Words.{Regex, Matches}
use Rattle.automata.specs.declared.builder.Builder.{Builder}
use Rattle.automata.specs.declared.builder.Part.{Part}
use Rattle.automata.specs.declared.symbols.Symbol.{Symbol}
use Rattle.automata.specs.declared.symbols.Symbol.TheVariants.{Label, Any}
use Rattle.automata.specs.Positions.{size, In, Null, First, Last, Follow, Reads}

abbrev pub meant : Symbol → words.Symbol
meant (Label a) = words.label a
meant Any = words.any

abbrev pub followed : Part → Part → Part
followed f g = record {
  nullable = f.nullable && g.nullable;
  first = cond f.nullable (bit_or f.first g.first) f.first;
  last = cond g.nullable (bit_or g.last f.last) g.last;
}

abbrev pub beside : Part → Part → Part
beside f g = record { nullable = f.nullable || g.nullable; first = bit_or f.first g.first; last = bit_or f.last g.last }

abbrev pub repeated : Part → Part
repeated f = record { nullable = true; first = f.first; last = f.last }

pub record Built (m : Builder) (f : Part) (b : ℕ) (r : Regex) : Type 0 where
  pub null : (f.nullable ≡ true) ↔ Null r
  pub first : (p : ℕ) → p < 64 → Has f.first p ↔ First b r p
  pub last : (p : ℕ) → p < 64 → Has f.last p ↔ Last b r p
  pub follow : (p q : ℕ) → p < 64 → q < 64 → In b r p → Has (slice_index m.follow p) q ↔ Follow b r p q
  pub reads : (n p a : ℕ) → p < 64 → In b r p → Matches n (meant (slice_index_or m.symbols p Any)) a ↔ Reads n b r p a

pub record Holds (m : Builder) (f : Part) (b : ℕ) (r : Regex) : Type 0 where
  pub built : Built m f b r
  pub counts : m.count ≡ b + size r

pub record Kept (k : ℕ) (old new : Builder) : Type 0 where
  pub follow : (x q : ℕ) → x < k → Has (slice_index new.follow x) q ↔ Has (slice_index old.follow x) q
  pub symbols : (x : ℕ) → x < k → slice_index_or new.symbols x Any ≡ slice_index_or old.symbols x Any
