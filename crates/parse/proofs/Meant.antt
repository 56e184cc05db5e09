-- The automata that the code keeps are those of the text's expressions.
use Rattle.std.proofs.Common.{◌≡◌, ℕ, zero, suc, ◌+◌, ◌<◌, ◌≤◌, List, [], ◌∷◌, length, get_or, sym, refl, ap, ◌∙◌, subst, inl, inr, arith, length-append}
use Rattle.std.proofs.lemmas.List.{get_or_append_left, get_or_push}
use Rattle.std.proofs.lemmas.Bool.{cases_lt}
use Rattle.meaning.specs.Words.{Regex}
use Rattle.automata.specs.Machines.{Recognizes}
use Rattle.automata.specs.Positions.{size}
use Rattle.query.specs.declared.drafts.Atom.{Atom}
use Rattle.query.specs.Queries.{AtomsTree, one_atom, more_atoms, inside_regex}
use Rattle.query.specs.Limits.{Rightly, inside_of, number}
use Rattle.parse.specs.Meanings.{expressions}

pub expressions_long : (s : AtomsTree) → length (expressions s) ≡ number s
expressions_long (one_atom t) = refl
expressions_long (more_atoms s t) = length-append (expressions s) (inside_regex (inside_of t) ∷ []) ∙ ap (λ y. y + 1) (expressions_long s)

-- an atom's automaton is its expression's, and within the limit
pub recognized : (z : Atom) (l : List Atom) (b : ℕ) (s : AtomsTree) → Rightly z l b s → (d : Regex) (c : ℕ) → c < number s
    → Recognizes (get_or l c z).automaton (get_or (expressions s) c d) × (size (get_or (expressions s) c d) ≤ 63)
recognized z l b (one_atom t) r d zero h = (r.stored.recognizes, let few = r.few in let e = r.stored.recognizes.positions in omega arith)
recognized z l b (one_atom t) r d (suc c) h = absurd (omega arith)
recognized z l b (more_atoms s t) r d c h = elim (cases_lt c (number s)) [
  | inl m ↦ (let F : Regex → Type 0 = λ x. Recognizes (get_or l c z).automaton x × (size x ≤ 63) in
      subst F (sym (get_or_append_left (expressions s) (inside_regex (inside_of t) ∷ []) d c (omega (arith, expressions_long s)))) (recognized z l b s r.0 d c m))
  | inr g ↦ (let e : number s ≡ c = omega arith in
      let F : Regex → Type 0 = λ x. Recognizes (get_or l c z).automaton x × (size x ≤ 63) in
      let G : ℕ → Type 0 = λ y. Recognizes (get_or l y z).automaton (inside_regex (inside_of t)) × (size (inside_regex (inside_of t)) ≤ 63) in
      let here : G (number s) = (r.1.stored.recognizes, let few = r.1.few in let k = r.1.stored.recognizes.positions in omega arith) in
      subst F (sym (get_or_push (expressions s) (inside_regex (inside_of t)) d c (expressions_long s ∙ e))) (subst G e here))
]
