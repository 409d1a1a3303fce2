-- An accepted file is determined by the netlist that it draws.
use Rattle.std.proofs.Common.{◌≡◌, ℕ, zero, suc, ◌+◌, ◌-◌, ◌*◌, ◌/◌, ◌%◌, ◌<◌, ◌≤◌, ltb, ◌⊎◌, List, get_or, sym, ap, ◌∙◌, subst, inl, inr, ⊎_elim, arith}
use Rattle.std.proofs.lemmas.List.{ext_get_or}
use Rattle.std.proofs.lemmas.Bool.{both_ways, cases_eq, cases_lt, cases_order, lt-ltb, le-ltb, cond-true}
use Rattle.drawing.specs.File.{word, pins_in, wires_in, wire_in, wire_or_none, drawn, Accepts}
use Rattle.wiring.specs.Wires.{no_wire}

-- what stands at a place of the file
pub data Place (wires j : ℕ) : Type 0 where
  at_size : j < 3 → Place wires j
  at_driver : (k : ℕ) → k < wires → j ≡ 3 + 2 * k → Place wires j
  at_driven : (k : ℕ) → k < wires → j ≡ 4 + 2 * k → Place wires j
  at_count : (k : ℕ) → k < wires → j ≡ 3 + 2 * wires + k → Place wires j

end_place : (wires j : ℕ) → 3 ≤ j → j < 3 + 2 * wires → Place wires j
end_place wires j low high = ⊎_elim
    (λ e. at_driver ((j - 3) / 2) (omega arith) (omega arith))
    (λ e. at_driven ((j - 3) / 2) (omega arith) (omega arith))
    (cases_eq ((j - 3) % 2) 0)

pub place_of : (wires j : ℕ) → j < 3 + 3 * wires → Place wires j
place_of wires j l = ⊎_elim at_size
    (λ low. ⊎_elim (end_place wires j low) (λ past. at_count (j - (3 + 2 * wires)) (omega arith) (omega arith)) (cases_lt j (3 + 2 * wires)))
    (cases_lt j 3)

same_bound : (p q : ℕ) → ((g : ℕ) → ltb g p ≡ ltb g q) → p ≡ q
same_bound p q same = elim (cases_order p q) [
  | inl e ↦ e
  | inr (inl l) ↦ absurd (both_ways (ltb p q) (sym (same p) ∙ le-ltb p p (omega arith)) (lt-ltb p q l))
  | inr (inr l) ↦ absurd (both_ways (ltb q p) (same q ∙ le-ltb q q (omega arith)) (lt-ltb q p l))
]

halved : (i : ℕ) → (i ≡ 2 * (i / 2)) ⊎ (i ≡ 2 * (i / 2) + 1)
halved i = ⊎_elim (λ e. inl (omega arith)) (λ e. inr (omega arith)) (cases_eq (i % 2) 0)

wire_at : (b : List ℕ) (k : ℕ) → k < wires_in b → wire_or_none b k ≡ wire_in b k
wire_at b k l = cond-true (ltb k (wires_in b)) (wire_in b k) no_wire (lt-ltb k (wires_in b) l)

-- two files that draw one netlist have the same numbers
module _ (a b : List ℕ) (same : drawn a ≡ drawn b) where
  wires_same : wires_in a ≡ wires_in b
  wires_same = ap (λ n. n.wires) same

  wire_same : (k : ℕ) → k < wires_in a → wire_in a k ≡ wire_in b k
  wire_same k l =
      let shown : wire_or_none a k ≡ wire_or_none b k = λ i. record { driver = (same i).driver k; driven = (same i).driven k; count = (same i).count k } in
      sym (wire_at a k l) ∙ shown ∙ wire_at b k (omega (arith, wires_same))

  size_same : (j : ℕ) → j < 3 → word a (2 * j) ≡ word b (2 * j)
  size_same zero l = ap (λ n. n.gates) same
  size_same (suc zero) l = same_bound (pins_in a) (pins_in b) (λ g. ap (λ n. n.pinned g) same)
  size_same (suc (suc zero)) l = wires_same
  size_same (suc (suc (suc j))) l = absurd (omega arith)

  number_same : (j : ℕ) → Place (wires_in a) j → word a (2 * j) ≡ word b (2 * j)
  number_same j (at_size l) = size_same j l
  number_same j (at_driver k l e) = ap (word a) (omega arith) ∙ ap (λ w. w.driver) (wire_same k l) ∙ ap (word b) (omega arith)
  number_same j (at_driven k l e) = ap (word a) (omega arith) ∙ ap (λ w. w.driven) (wire_same k l) ∙ ap (word b) (omega arith)
  number_same j (at_count k l e) = ap (word a) (omega arith) ∙ ap (λ w. w.count) (wire_same k l) ∙ ap (word b) (omega (arith, wires_same))

module _ (a b : List ℕ) (bytes_a : (i : ℕ) → get_or a i 0 < 256) (bytes_b : (i : ℕ) → get_or b i 0 < 256) where
  low_same : (i : ℕ) → word a i ≡ word b i → get_or a i 0 ≡ get_or b i 0
  low_same i e = omega (arith, bytes_a i, bytes_b i)

  high_same : (i : ℕ) → word a i ≡ word b i → get_or a (i + 1) 0 ≡ get_or b (i + 1) 0
  high_same i e = omega (arith, bytes_a i, bytes_b i)

  byte_same : (m : ℕ) → ((j : ℕ) → j < m → word a (2 * j) ≡ word b (2 * j)) → (i : ℕ) → i < 2 * m → get_or a i 0 ≡ get_or b i 0
  byte_same m words i l =
      let j = i / 2 in
      let here = words j (omega arith) in
      let P : ℕ → Type 0 = λ p. get_or a p 0 ≡ get_or b p 0 in
      ⊎_elim (λ e. subst P (sym e) (low_same (2 * j) here)) (λ e. subst P (sym e) (high_same (2 * j) here)) (halved i)

  pub determined : Accepts a → Accepts b → drawn a ≡ drawn b → a ≡ b
  determined ok_a ok_b same =
      ext_get_or 0 a b (omega (arith, ok_a.sized.exact, ok_b.sized.exact, wires_same a b same))
      (λ i l. byte_same (3 + 3 * wires_in a) (λ j m. number_same a b same j (place_of (wires_in a) j m)) i (omega (arith, ok_a.sized.exact)))
