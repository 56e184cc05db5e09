-- A record from its header and payload.
use Rattle.std.proofs.Common.{◌≡◌, ℕ, ◌+◌, ◌-◌, ◌≤◌, true, false, ltb, List, length, take, drop, None, Ok, sym, ap, ◌∙◌, subst, arith, length-drop, length-take, take_all, drop-drop}
use Rattle.std.proofs.lemmas.Bool.{le-ltb}
use Rattle.meaning.specs.Refusals.{first}
use Rattle.wiring.specs.declared.records.Record.{Record}
use Rattle.wiring.specs.Records.{word, kind, payload, span, well_formed, Says, Decodes, form_refusals}

module _ (bs : List ℕ) (len k : ℕ) (header : 4 ≤ length bs) (is_len : len ≡ word bs 0) (is_kind : k ≡ kind bs)
    (whole : len ≤ length (take (length bs - 4) (drop 4 bs))) where
  tail : take (length bs - 4) (drop 4 bs) ≡ drop 4 bs
  tail = take_all (length bs - 4) (drop 4 bs) (simp length-drop (omega arith))

  room : len ≤ length bs - 4
  room = omega (arith, simp (tail, length-drop) at whole)

  length_payload : length (take len (drop 4 bs)) ≡ len
  length_payload = simp (length-take, length-drop) (let r = room in omega arith)

  is_payload : take len (take (length bs - 4) (drop 4 bs)) ≡ payload bs
  is_payload = ap (take len) tail ∙ ap (λ (n : ℕ). take n (drop 4 bs)) is_len

  pub rest_is : drop len (take (length bs - 4) (drop 4 bs)) ≡ drop (span bs) bs
  rest_is = ap (drop len) tail ∙ drop-drop len 4 bs ∙ ap (λ (n : ℕ). drop (4 + n) bs) is_len

  pub parse_taken : (p : List ℕ) (r : Record) → p ≡ take len (take (length bs - 4) (drop 4 bs)) → Decodes k p (Ok r)
      → (first (form_refusals bs) ≡ None) × Says (kind bs) (payload bs) r
  parse_taken p r is d =
      let short : ltb (length bs) 4 ≡ false = le-ltb (length bs) 4 header in
      let past : ltb (length bs) (span bs) ≡ false = le-ltb (length bs) (span bs) (let q = room in omega arith) in
      let l : length p ≡ word bs 0 = ap length is ∙ ap length (ap (take len) tail) ∙ length_payload ∙ is_len in
      let form : well_formed (kind bs) (word bs 0) ≡ true
      = ap (λ (n : ℕ). well_formed n (word bs 0)) (sym is_kind) ∙ ap (well_formed k) (sym l) ∙ d.0 in
      (cc, subst (λ (q : List ℕ). Says (kind bs) q r) (is ∙ is_payload) (subst (λ (n : ℕ). Says n p r) is_kind d.1))
