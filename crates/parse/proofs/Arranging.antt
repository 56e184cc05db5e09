-- The checks of the shape, made on what the code keeps, are those of the text.
use Rattle.std.proofs.Common.{◌≡◌, ℕ, ◌<◌, ◌≤◌, List, length, get_or, take, Ok, Err, Result, sym, ap, ◌∙◌, subst, arith, length-take}
use Rattle.shapes.specs.declared.checks.Ends.{Ends}
use Rattle.shapes.specs.declared.verdicts.Fault.{Fault}
use Rattle.shapes.specs.Checks.{of, Absent}
use Rattle.shapes.specs.Verdicts.{Verdict}
use Rattle.order.specs.declared.Order.{Order}
use Rattle.order.specs.Ranks.{ranks}
use Rattle.order.specs.Orders.{Ordered, Chosen}
use Rattle.query.specs.declared.drafts.Query.{Query}
use Rattle.query.specs.Queries.{names}
use Rattle.query.specs.Limits.{number}
use Rattle.query.specs.Texts.{HoldsText}
use Rattle.parse.specs.Shaping.{ends, kept_place, Numbered, no_atom, pair}
use Rattle.parse.specs.Parsing.{Reads, Accepted, IllShaped}
use Rattle.parse.proofs.Shaped.{ends_long, ends_are, number_some, names_are, names_fit, names_some, first_name, places_are, numbered}

module _ {q : Query} {xs : List ℕ} (e : List Ends) (t : HoldsText q xs) (long : length e ≡ 8) (each : (d : Ends) (i : ℕ) → i < 8 → get_or e i d ≡ pair (get_or q.atoms i no_atom)) where
  pairs : take q.count e ≡ ends t.atoms
  pairs = ends_are e t.holds long each

  head : take q.head.count xs ≡ names t.head
  head = names_are t.text t.holds

  pub pairs_long : length (take q.count e) ≡ number t.atoms
  pairs_long = ap length pairs ∙ ends_long t.atoms

  pub pairs_some : 0 < length (take q.count e)
  pairs_some = omega (arith, pairs_long, number_some t.atoms)

  pub pairs_few : length (take q.count e) ≤ 8
  pairs_few = omega (arith, pairs_long, t.holds.few)

  pub head_fits : q.head.count ≡ length (take q.head.count xs)
  head_fits = omega (arith, length-take q.head.count xs, names_fit t.text t.holds)

  same_first : get_or (take q.head.count xs) 0 0 ≡ get_or q.head.names 0 0
  same_first = ap (λ y. get_or y 0 0) head ∙ sym (first_name t.holds)

  pub start_used : Verdict (take q.head.count xs) (take q.count e) (Ok tt) → Absent (take q.count e) (get_or q.head.names 0 0) → ⊥
  start_used v a = v.1 0 (omega (arith, ap length head, names_some t.head)) (subst (Absent (take q.count e)) (sym same_first) a)

  reads : Reads xs t.head t.atoms
  reads = record { text = t.text; only = t.only; limits = t.limits }

  verdict : (r : Result (Unit {0}) Fault) → Verdict (take q.head.count xs) (take q.count e) r → Verdict (names t.head) (ends t.atoms) r
  verdict r v = subst (λ (y : List ℕ). Verdict y (ends t.atoms) r) head (subst (λ (y : List Ends). Verdict (take q.head.count xs) y r) pairs v)

  pub accepted : (o : Order) → Verdict (take q.head.count xs) (take q.count e) (Ok tt)
      → Ordered (of (take q.count e)) (length (take q.count e)) (get_or q.head.names 0 0) (ranks o)
      → Chosen (of (take q.count e)) (length (take q.count e)) (get_or q.head.names 0 0) (ranks o)
      → Accepted xs (record { query = q; order = o })
  accepted o v a b =
      let R = ranks o in
      let s = t.atoms in
      let n = ends_long t.atoms in
      let f = first_name t.holds in
      record {
        head = t.head;
        atoms = t.atoms;
        reads = reads;
        holds = t.holds;
        shape = verdict (Ok tt) v;
        arranged = record {
          ordered = subst (λ (y : ℕ). Ordered (of (ends s)) (number s) y R) f (subst (λ (y : ℕ). Ordered (of (ends s)) y (get_or q.head.names 0 0) R) n (subst (λ (y : List Ends). Ordered (of y) (length y) (get_or q.head.names 0 0) R) pairs a));
          chosen = subst (λ (y : ℕ). Chosen (of (ends s)) (number s) y R) f (subst (λ (y : ℕ). Chosen (of (ends s)) y (get_or q.head.names 0 0) R) n (subst (λ (y : List Ends). Chosen (of y) (length y) (get_or q.head.names 0 0) R) pairs b));
        };
      }

  pub ill_shaped : (f : Fault) (p : ℕ) → Verdict (take q.head.count xs) (take q.count e) (Err f) → p ≡ kept_place q.atoms f → IllShaped xs f p
  ill_shaped f p v k =
      let w = verdict (Err f) v in
      record {
        head = t.head;
        atoms = t.atoms;
        reads = reads;
        shape = w;
        at = k ∙ places_are f t.holds (subst (λ (y : ℕ). Numbered y f) (ends_long t.atoms) (numbered (names t.head) (ends t.atoms) f w));
      }
