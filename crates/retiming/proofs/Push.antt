-- A push along a way within the slack of a certificate: the lags stay permitted, the certificate in force, and what is needed falls by the surplus.
use Rattle.std.proofs.Common.{◌≡◌, ℕ, ◌+◌, ◌-◌, ◌<◌, ◌≤◌, Bool, true, false, eqb, ℤ, pos, ◌+ℤ◌, ◌-ℤ◌, ◌≤ℤ◌, refl, ap, ◌∙◌, inl, inr, arith}
use borrow.Author.Differences.{up, down, ints}
use Rattle.std.proofs.lemmas.Bool.{cases_eq, and_parts, eqb-true, both_ways}
use Rattle.netlist.specs.Net.{Net}
use Rattle.netlist.specs.Tally.{Marking}
use Rattle.netlist.specs.Lags.{Lags, Permitted, under}
use Rattle.netlist.proofs.Tallies.{mark_of}
use Rattle.retiming.specs.declared.way.Way.{Way}
use Rattle.retiming.specs.declared.way.Way.TheVariants.{Forward, Back}
use Rattle.retiming.specs.Witness.{Certificate, gain, cost, bundled}
use Rattle.retiming.specs.Nearest.{Sound, Along}
use Rattle.retiming.specs.Push.{push, pushed_by}
use Rattle.retiming.specs.Tied.{Spent, Passes, more_flow, less_flow, other_share, Follows, Tied, opposite}
use Rattle.retiming.proofs.Cut.{Seeds, Pushed}
use Rattle.retiming.proofs.Heights.{count_under}
use Rattle.retiming.proofs.Identity.{Shifted}

-- a push as heights before and after it
abbrev pub before : Way → (ℕ → ℕ) → ℕ → ℕ
before Forward amount g = amount g
before Back amount g = 0

abbrev pub after : Way → (ℕ → ℕ) → ℕ → ℕ
after Forward amount g = 0
after Back amount g = amount g

pub push_none : (way : Way) (x : ℤ) → push way 0 x ≡ x
push_none Forward x = omega (arith, ints)
push_none Back x = omega (arith, ints)

push_along : (way : Way) (k : ℕ) (x : ℤ) → Along way (push way k x) x
push_along Forward k x = omega (arith, ints)
push_along Back k x = omega (arith, ints)

push_count : (way : Way) (amount : ℕ → ℕ) (w c v u : ℕ) (x y : ℤ) → c + down x + up y ≡ w + up x + down y → before way amount v + after way amount u ≤ c + before way amount u + after way amount v → pos 0 ≤ℤ ((pos w +ℤ push way (amount v) x) -ℤ push way (amount u) y)
push_count Forward amount w c v u x y e room = omega (arith, ints)
push_count Back amount w c v u x y e room = omega (arith, ints)

push_shift : (way : Way) (amount : ℕ → ℕ) (w c d v u : ℕ) (x y : ℤ) → c + down x + up y ≡ w + up x + down y → d + down (push way (amount v) x) + up (push way (amount u) y) ≡ w + up (push way (amount v) x) + down (push way (amount u) y) → d + after way amount u + before way amount v ≡ c + before way amount u + after way amount v
push_shift Forward amount w c d v u x y e f = omega (arith, ints)
push_shift Back amount w c d v u x y e f = omega (arith, ints)

-- a push within the slack: no amount exceeds that of a gate that surplus can move to by more than the slack between them
module _ (way : Way) (n : Net) (mark : Marking) (sound : Sound n mark) (fixed : ℕ → Bool) (present : Lags) (share flow : ℕ → ℕ) (r : Lags) (hr : Permitted n fixed present r) (cert : Certificate (under n r) mark share flow) (amount : ℕ → ℕ)
    (free : (g : ℕ) → g < n.gates → 0 < amount g → fixed g ≡ false)
    (closed : (x y slack : ℕ) → Follows way (under n r) mark share flow x y slack → amount x ≤ slack + amount y) where
  passes_room : {x y slack : ℕ} → Passes (under n r) mark share flow x y slack → before way amount x + after way amount y ≤ slack + before way amount y + after way amount x
  passes_room p = go way closed p
    where
      go : (w : Way) → ((x y slack : ℕ) → Follows w (under n r) mark share flow x y slack → amount x ≤ slack + amount y) → {x y slack : ℕ} → Passes (under n r) mark share flow x y slack → before w amount x + after w amount y ≤ slack + before w amount y + after w amount x
      go Forward c {x} {y} {slack} p = omega (arith, c x y slack p)
      go Back c {x} {y} {slack} p = omega (arith, c y x slack p)

  pub push_permitted : Permitted n fixed present (pushed_by way amount r)
  push_permitted = record {
    stays = λ g h e. elim (cases_eq (amount g) 0) [ inl none ↦ rw none (push_none way (r g) ∙ hr.stays g h e) | inr some ↦ absurd (both_ways (fixed g) (free g h (omega arith)) e) ];
    counts = λ k h. push_count way amount (n.count k) ((under n r).count k) (n.driven k) (n.driver k) (r (n.driven k)) (r (n.driver k)) (count_under n r k (hr.counts k h)) (omega (arith, passes_room (more_flow k h refl refl refl)));
  }

  pub push_shifted : Shifted n (under n r).count (before way amount) (under n (pushed_by way amount r)).count (after way amount)
  push_shifted k h = push_shift way amount (n.count k) ((under n r).count k) ((under n (pushed_by way amount r)).count k) (n.driven k) (n.driver k) (r (n.driven k)) (r (n.driver k)) (count_under n r k (hr.counts k h)) (count_under n (pushed_by way amount r) k (push_permitted.counts k h))

  flow_empty : (k : ℕ) → k < n.wires → 0 < flow k → (under n r).count k ≡ 0
  flow_empty k h some = elim (cases_eq ((under n r).count k) 0) [ inl none ↦ none | inr full ↦ absurd (omega (arith, cert.dry k h (omega arith))) ]

  beside : (k j : ℕ) → bundled n mark k j ≡ true → n.driver j ≡ n.driver k
  beside k j fellow = eqb-true (n.driver j) (n.driver k) (and_parts _ (eqb (mark_of n mark j) (mark_of n mark k)) fellow).0

  pub push_certificate : Certificate (under n (pushed_by way amount r)) mark share flow
  push_certificate = record {
    bits = cert.bits;
    single = cert.single;
    deepest = λ k j hk hj picked fellow.
        let e : (under n r).count k ≡ (under n r).count j + ((under n r).count k - (under n r).count j) = omega (arith, cert.deepest k j hk hj picked fellow) in
        omega (arith, push_shifted k hk, push_shifted j hj, passes_room (other_share k j hk hj refl refl picked fellow e), ap (before way amount) (beside k j fellow), ap (after way amount) (beside k j fellow));
    dry = λ k h full. elim (cases_eq (flow k) 0) [
      | inl none ↦ none
      | inr some ↦ let runs : 0 < flow k = omega arith in absurd (omega (arith, flow_empty k h runs, push_shifted k h, passes_room (less_flow k h refl refl runs)))
    ];
  }

  -- a slack that the push uses up is gone
  passes_tight : {x y slack : ℕ} → Passes (under n r) mark share flow x y slack → before way amount x + after way amount y ≡ slack + before way amount y + after way amount x → Passes (under n (pushed_by way amount r)) mark share flow x y 0
  passes_tight (more_flow k h driven driver used) tight =
      more_flow k h driven driver (omega (arith, push_shifted k h, used, tight, ap (before way amount) driven, ap (after way amount) driven, ap (before way amount) driver, ap (after way amount) driver))
  passes_tight (less_flow k h driver driven some) tight = less_flow k h driver driven some
  passes_tight (other_share k j hk hj from to picked fellow used) tight =
      other_share k j hk hj from to picked fellow (omega (
        arith,
        push_shifted k hk,
        push_shifted j hj,
        used,
        tight,
        ap (before way amount) (beside k j fellow),
        ap (after way amount) (beside k j fellow),
        ap (before way amount) from,
        ap (after way amount) from,
        ap (before way amount) to,
        ap (after way amount) to,
      ))

  pub follows_tight : (x y slack : ℕ) → Follows way (under n r) mark share flow x y slack → amount x ≡ slack + amount y → Follows way (under n (pushed_by way amount r)) mark share flow x y 0
  follows_tight x y slack = go way (λ i j p. passes_tight p)
    where
      go : (w : Way) → ((i j : ℕ) → Passes (under n r) mark share flow i j slack → before w amount i + after w amount j ≡ slack + before w amount j + after w amount i → Passes (under n (pushed_by way amount r)) mark share flow i j 0) → Follows w (under n r) mark share flow x y slack → amount x ≡ slack + amount y → Follows w (under n (pushed_by way amount r)) mark share flow x y 0
      go Forward t p e = t x y p (omega arith)
      go Back t p e = t y x p (omega arith)

  -- with every gate that moves tied to a surplus and none against it, nothing between is as good
  pub push_pushed : ((g : ℕ) → g < n.gates → 0 < amount g → Spent (opposite way) (gain n share flow g) (cost n share flow g) × Tied way (under n (pushed_by way amount r)) mark share flow (Seeds way n share flow) g) → Pushed way n mark fixed present share flow r (pushed_by way amount r)
  push_pushed tied = record {
    permitted = push_permitted;
    certificate = push_certificate;
    moved = λ g _. push_along way (amount g) (r g);
    tied = λ g h. elim (cases_eq (amount g) 0) [ inl none ↦ inl (rw none (push_none way (r g))) | inr some ↦ inr (tied g h (omega arith)) ];
  }
