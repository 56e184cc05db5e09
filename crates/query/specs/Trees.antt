-- The regular expression of a syntax tree.
--     regex t        a letter is its label, a dot any label
--     Unambiguous    a text has one tree
use Rattle.std.specs.Prelude.{◌≡◌, ◌-◌}
use Rattle.meaning.specs.Words as W
use Rattle.meaning.specs.Words.{Regex, one, label, any, cat, alt}
use Rattle.query.specs.Grammar as G
use Rattle.query.specs.Grammar.{Layer, Tree, alternative, text, letter, dot, group, plain, one_step, joined, one_sequence, either}

abbrev pub regex : {l : Layer} → Tree l → Regex
regex (letter b h k) = one (label (b - 97))
regex dot = one any
regex (group t) = regex t
regex (plain t) = regex t
regex (G.star t) = W.star (regex t)
regex (G.plus t) = W.plus (regex t)
regex (G.opt t) = W.opt (regex t)
regex (one_step t) = regex t
regex (joined s t) = cat (regex s) (regex t)
regex (one_sequence t) = regex t
regex (either s t) = alt (regex s) (regex t)

abbrev pub Unambiguous : Type 0
Unambiguous = (t u : Tree alternative) → text t ≡ text u → t ≡ u
