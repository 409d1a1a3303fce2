-- One unit of surplus moved: the certificate stays in force, and gain and cost change at the two ends of the move alone.
use Rattle.std.proofs.Common.{◌≡◌, ℕ, ◌+◌, ◌<◌, ◌≤◌, Bool, true, false, cond, eqb, sym, refl, ap, ◌∙◌, subst, inl, inr, arith}
use Rattle.std.proofs.lemmas.Bool.{cases_eq, cond-true, cond-false, eq-eqb, ne_eqb, eqb-true, and_parts, and_from}
use Rattle.graph.specs.Sums.{total}
use Rattle.graph.proofs.Totals.{total_change}
use Rattle.netlist.specs.Net.{Net}
use Rattle.netlist.specs.Tally.{Marking}
use Rattle.netlist.proofs.Tallies.{mark_of}
use Rattle.retiming.specs.Witness.{gain, cost, bundled, Certificate}
use Rattle.retiming.proofs.Sums.{total_parts}

-- 1 at gate v, 0 at the others
abbrev pub unit_at : ℕ → ℕ → ℕ
unit_at v g = cond (eqb v g) 1 0

-- f and h differ at k and j alone
pub total_moved : (f h : ℕ → ℕ) (n k j : ℕ) → k < n → j < n → (k ≡ j → ⊥) → ((i : ℕ) → i < n → (i ≡ k → ⊥) → (i ≡ j → ⊥) → f i ≡ h i) → total f n + h k + h j ≡ total h n + f k + f j
total_moved f h n k j hk hj apart same =
    let half = λ (i : ℕ). cond (eqb i k) (h i) (f i) in
    let at_k : half k ≡ h k = cond-true (eqb k k) (h k) (f k) (eq-eqb k k refl) in
    let at_j : half j ≡ f j = cond-false (eqb j k) (h j) (f j) (ne_eqb j k (λ e. apart (sym e))) in
    let first = total_change f half n k hk (λ i _ other. sym (cond-false (eqb i k) (h i) (f i) (ne_eqb i k other))) in
    let rest = λ (i : ℕ) (l : i < n) (other : i ≡ j → ⊥). middle i l other in
    omega (arith, first, total_change half h n j hj rest, at_k, at_j)
  where
    middle : (i : ℕ) → i < n → (i ≡ j → ⊥) → cond (eqb i k) (h i) (f i) ≡ h i
    middle i l other = elim (cases_eq i k) [ inl here ↦ cond-true (eqb i k) (h i) (f i) (eq-eqb i k here) | inr else ↦ cond-false (eqb i k) (h i) (f i) (ne_eqb i k else) ∙ same i l else other ]

-- a flow with one unit more on wire k
module _ (m : Net) (mark : Marking) (share flow flow' : ℕ → ℕ) (k : ℕ) (h : k < m.wires) (more : flow' k ≡ flow k + 1) (same : (i : ℕ) → i < m.wires → (i ≡ k → ⊥) → flow' i ≡ flow i) where
  more_at : (place : ℕ → ℕ) (g : ℕ) → total (λ i. cond (eqb (place i) g) (flow' i) 0) m.wires ≡ total (λ i. cond (eqb (place i) g) (flow i) 0) m.wires + unit_at (place k) g
  more_at place g =
      let change = total_change (λ i. cond (eqb (place i) g) (flow' i) 0) (λ i. cond (eqb (place i) g) (flow i) 0) m.wires k h (λ i l other. ap (λ x. cond (eqb (place i) g) x 0) (same i l other)) in
      omega (arith, change, here (eqb (place k) g))
    where
      here : (b : Bool) → cond b (flow' k) 0 ≡ cond b (flow k) 0 + cond b 1 0
      here true = more
      here false = refl

  pub gain_more : (g : ℕ) → gain m share flow' g ≡ gain m share flow g + unit_at (m.driver k) g
  gain_more g = omega (arith, more_at m.driver g)

  pub cost_more : (g : ℕ) → cost m share flow' g ≡ cost m share flow g + unit_at (m.driven k) g
  cost_more g = omega (arith, more_at m.driven g)

-- the flow on wire k changed, where the wire carries no register
pub flow_changed : (m : Net) (mark : Marking) (share flow flow' : ℕ → ℕ) (k : ℕ) → m.count k ≡ 0 → ((i : ℕ) → i < m.wires → (i ≡ k → ⊥) → flow' i ≡ flow i) → Certificate m mark share flow → Certificate m mark share flow'
flow_changed m mark share flow flow' k empty same cert = record {
  bits = cert.bits;
  single = cert.single;
  deepest = cert.deepest;
  dry = λ i l full. elim (cases_eq i k) [ inl here ↦ absurd (omega (arith, ap m.count here)) | inr other ↦ same i l other ∙ cert.dry i l full ];
}

-- the share of a bundle moved from wire k to wire j
module _ (m : Net) (mark : Marking) (share share' flow : ℕ → ℕ) (cert : Certificate m mark share flow) (k j : ℕ) (hk : k < m.wires) (hj : j < m.wires) (apart : k ≡ j → ⊥) (fellow : bundled m mark k j ≡ true)
    (had : share k ≡ 1) (gave : share' k ≡ 0) (has : share' j ≡ 1) (same : (i : ℕ) → i < m.wires → (i ≡ k → ⊥) → (i ≡ j → ⊥) → share' i ≡ share i) where
  ends : (m.driver j ≡ m.driver k) × (mark_of m mark j ≡ mark_of m mark k)
  ends = let parts = and_parts (eqb (m.driver j) (m.driver k)) (eqb (mark_of m mark j) (mark_of m mark k)) fellow in (eqb-true _ _ parts.0, eqb-true _ _ parts.1)

  had_not : share j ≡ 0
  had_not =
      let self : bundled m mark k k ≡ true = and_from _ _ (eq-eqb (m.driver k) (m.driver k) refl) (eq-eqb (mark_of m mark k) (mark_of m mark k) refl) in
      omega (arith, cert.single k hk, total_parts (λ i. cond (bundled m mark k i) (share i) 0) m.wires j k hj hk (λ e. apart (sym e)), cond-true (bundled m mark k j) (share j) 0 fellow, cond-true (bundled m mark k k) (share k) 0 self)

  moved_at : (p : ℕ → Bool) → total (λ i. cond (p i) (share' i) 0) m.wires + cond (p k) 1 0 ≡ total (λ i. cond (p i) (share i) 0) m.wires + cond (p j) 1 0
  moved_at p =
      let change = total_moved (λ i. cond (p i) (share' i) 0) (λ i. cond (p i) (share i) 0) m.wires k j hk hj apart (λ i l a b. ap (λ x. cond (p i) x 0) (same i l a b)) in
      omega (arith, change, ap (λ x. cond (p k) x 0) had, none (p k) (share' k) gave, ap (λ x. cond (p j) x 0) has, none (p j) (share j) had_not)
    where
      none : (b : Bool) (x : ℕ) → x ≡ 0 → cond b x 0 ≡ 0
      none true x e = e
      none false x e = refl

  pub gain_moved : (g : ℕ) → gain m share' flow g + unit_at (m.driven k) g ≡ gain m share flow g + unit_at (m.driven j) g
  gain_moved g = omega (arith, moved_at (λ i. eqb (m.driven i) g))

  pub cost_moved : (g : ℕ) → cost m share' flow g ≡ cost m share flow g
  cost_moved g = omega (arith, moved_at (λ i. eqb (m.driver i) g), ap (λ x. unit_at x g) ends.0)

  pub share_moved : m.count k ≤ m.count j → Certificate m mark share' flow
  share_moved deep = record {
    bits = λ i l. elim (cases_eq i k) [
      | inl at_k ↦ omega (arith, ap share' at_k, gave)
      | inr off_k ↦ elim (cases_eq i j) [ inl at_j ↦ omega (arith, ap share' at_j, has) | inr off_j ↦ omega (arith, same i l off_k off_j, cert.bits i l) ]
    ];
    single = λ i l. omega (arith, moved_at (bundled m mark i), cert.single i l, ap {B = ℕ} (λ b. cond b 1 0) (both_in i));
    deepest = λ i l hi hl picked beside. elim (cases_eq i k) [
      | inl at_k ↦ absurd (omega (arith, ap share' at_k, gave, picked))
      | inr off_k ↦ elim (cases_eq i j) [
        | inl at_j ↦ omega (arith, ap m.count at_j, deep, cert.deepest k l hk hl had (sym (same_bundle l) ∙ subst (λ (x : ℕ). bundled m mark x l ≡ true) at_j beside))
        | inr off_j ↦ cert.deepest i l hi hl (sym (same i hi off_k off_j) ∙ picked) beside
      ]
    ];
    dry = cert.dry;
  }
    where
      both_in : (i : ℕ) → bundled m mark i k ≡ bundled m mark i j
      both_in i = rw (ends.1, ends.0)

      same_bundle : (l : ℕ) → bundled m mark j l ≡ bundled m mark k l
      same_bundle l = rw (ends.1, ends.0)
