-- What the shares come to under two choices of counts: the difference, gate by gate and along the flow.
use Rattle.std.proofs.Common.{◌≡◌, ℕ, ◌+◌, ◌*◌, ◌<◌, ◌≤◌, ap, mul-add, arith}
use Rattle.graph.specs.Sums.{total}
use Rattle.graph.proofs.Totals.{total_same, total_le}
use Rattle.netlist.specs.Net.{Net}
use Rattle.retiming.specs.Witness.{into, out_of, gain, cost}
use Rattle.retiming.proofs.Sums.{total_add, total_add_three, total_swap, total_tight}
use Rattle.retiming.proofs.Bundles.{shared}

-- the counts d at heights b are the counts c at heights a, shifted: each wire's count grows as its driven gate rises and falls as its driver does
abbrev pub Shifted : Net → (ℕ → ℕ) → (ℕ → ℕ) → (ℕ → ℕ) → (ℕ → ℕ) → Type 0
Shifted n c a d b = (k : ℕ) → k < n.wires → d k + b (n.driver k) + a (n.driven k) ≡ c k + a (n.driver k) + b (n.driven k)

-- heights y times the costs of gate v, and heights z times its gains
abbrev pub priced : Net → (ℕ → ℕ) → (ℕ → ℕ) → (ℕ → ℕ) → (ℕ → ℕ) → ℕ → ℕ
priced n share flow y z v = y v * cost n share flow v + z v * gain n share flow v

module _ (n : Net) (drivers : (k : ℕ) → k < n.wires → n.driver k < n.gates) (drivens : (k : ℕ) → k < n.wires → n.driven k < n.gates) where
  weighed : (c a d b : ℕ → ℕ) → Shifted n c a d b → (x : ℕ → ℕ) →
      shared n x d + total (λ v. b v * out_of n x v) n.gates + total (λ v. a v * into n x v) n.gates ≡ shared n x c + total (λ v. a v * out_of n x v) n.gates + total (λ v. b v * into n x v) n.gates
  weighed c a d b shifted x =
      let line = λ (k : ℕ) (h : k < n.wires). times (x k) (d k) (b (n.driver k)) (a (n.driven k)) (c k) (a (n.driver k)) (b (n.driven k)) (shifted k h) in
      let all = total_same (λ k. x k * d k + x k * b (n.driver k) + x k * a (n.driven k)) (λ k. x k * c k + x k * a (n.driver k) + x k * b (n.driven k)) n.wires line in
      omega (
        arith,
        all,
        total_add_three (λ k. x k * d k) (λ k. x k * b (n.driver k)) (λ k. x k * a (n.driven k)) n.wires,
        total_add_three (λ k. x k * c k) (λ k. x k * a (n.driver k)) (λ k. x k * b (n.driven k)) n.wires,
        total_swap n.gates n.driver x b n.wires drivers,
        total_swap n.gates n.driven x a n.wires drivens,
        total_swap n.gates n.driver x a n.wires drivers,
        total_swap n.gates n.driven x b n.wires drivens,
      )
    where
      times : (y p q r s t u : ℕ) → p + q + r ≡ s + t + u → y * p + y * q + y * r ≡ y * s + y * t + y * u
      times y p q r s t u e = omega (arith, ap (λ z. y * z) e, mul-add y (p + q) r, mul-add y p q, mul-add y (s + t) u, mul-add y s t)

  module _ (share flow : ℕ → ℕ) where
    spread : (y z : ℕ → ℕ) → total (priced n share flow y z) n.gates ≡ (total (λ v. y v * out_of n share v) n.gates + total (λ v. y v * into n flow v) n.gates) + (total (λ v. z v * into n share v) n.gates + total (λ v. z v * out_of n flow v) n.gates)
    spread y z =
        let line = total_same (priced n share flow y z) (λ v. (y v * out_of n share v + y v * into n flow v) + (z v * into n share v + z v * out_of n flow v)) n.gates (λ v _. omega (arith, mul-add (y v) (out_of n share v) (into n flow v), mul-add (z v) (into n share v) (out_of n flow v))) in
        omega (
          arith,
          line,
          total_add (λ v. y v * out_of n share v + y v * into n flow v) (λ v. z v * into n share v + z v * out_of n flow v) n.gates,
          total_add (λ v. y v * out_of n share v) (λ v. y v * into n flow v) n.gates,
          total_add (λ v. z v * into n share v) (λ v. z v * out_of n flow v) n.gates,
        )

    pub identity : (c a d b : ℕ → ℕ) → Shifted n c a d b → shared n flow c ≡ 0 → shared n share d + total (priced n share flow b a) n.gates ≡ shared n share c + total (priced n share flow a b) n.gates + shared n flow d
    identity c a d b shifted dry = omega (arith, weighed c a d b shifted share, weighed c a d b shifted flow, spread b a, spread a b)

    module _ (c a d b : ℕ → ℕ) (shifted : Shifted n c a d b) (dry : shared n flow c ≡ 0) (lower : (v : ℕ) → v < n.gates → priced n share flow b a v ≤ priced n share flow a b v) where
      pub shared_grows : shared n share c ≤ shared n share d
      shared_grows = omega (arith, identity c a d b shifted dry, total_le (priced n share flow b a) (priced n share flow a b) n.gates lower)

      -- nothing gained, so nothing lost on the way
      pub gates_even : shared n share d ≤ shared n share c → (v : ℕ) → v < n.gates → priced n share flow b a v ≡ priced n share flow a b v
      gates_even tight = total_tight (priced n share flow b a) (priced n share flow a b) n.gates lower (omega (arith, identity c a d b shifted dry))

      pub flow_stays_dry : shared n share d ≤ shared n share c → shared n flow d ≡ 0
      flow_stays_dry tight = omega (arith, identity c a d b shifted dry, total_le (priced n share flow b a) (priced n share flow a b) n.gates lower)
