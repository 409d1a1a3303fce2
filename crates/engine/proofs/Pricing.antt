-- Shares and flows added at the ends of wires, one wire at a time.
use Rattle.std.proofs.Common.{◌≡◌, ℕ, ◌+◌, ◌*◌, ◌<◌, ◌≤◌, cond, eqb, List, length, get_or, subst, add-one, arith}
use Rattle.std.proofs.lemmas.Bool.{cond_both}
use Rattle.graph.specs.Sums.{total}
use Rattle.engine.specs.declared.link.Link.{Link}
use Rattle.engine.specs.Rows.{shares, flows, Priced}
use Rattle.engine.specs.Table.{no_link}

-- the row holds for each gate the shares of the first k wires that have it as their share's end, and the flows of those that have it as their flow's end
pub record Summed (share_end flow_end share flow : ℕ → ℕ) (gates k : ℕ) (row : List ℕ) : Type 0 where
  pub long : gates ≤ length row
  pub are : (g : ℕ) → g < gates → get_or row g 0 ≡ total (λ j. cond (eqb (share_end j) g) (share j) 0) k + total (λ j. cond (eqb (flow_end j) g) (flow j) 0) k
  pub few : (g : ℕ) → g < gates → get_or row g 0 ≤ 65536 * k

module _ (share_end flow_end share flow : ℕ → ℕ) (gates : ℕ) where
  pub summed_none : (row : List ℕ) → gates ≤ length row → ((g : ℕ) → g < gates → get_or row g 0 ≡ 0) → Summed share_end flow_end share flow gates 0 row
  summed_none row long clear = record { long = long; are = clear; few = λ g h. omega (arith, clear g h) }

  pub summed_more : (k : ℕ) (row new : List ℕ) → length new ≡ length row → share k ≤ 1 → flow k ≤ 65535
      → ((g : ℕ) → get_or new g 0 ≡ get_or row g 0 + cond (eqb (share_end k) g) (share k) 0 + cond (eqb (flow_end k) g) (flow k) 0)
      → Summed share_end flow_end share flow gates k row → Summed share_end flow_end share flow gates (k + 1) new
  summed_more k row new same bit small added old = record {
    long = omega (arith, old.long);
    are = λ g h. rw add-one (omega (arith, old.are g h, added g));
    few = λ g h.
        let one = cond_both {A = ℕ} (eqb (share_end k) g) (share k) 0 (λ x. x ≤ 1) (λ _. bit) (λ _. omega arith) in
        let other = cond_both {A = ℕ} (eqb (flow_end k) g) (flow k) 0 (λ x. x ≤ 65535) (λ _. small) (λ _. omega arith) in
        omega (arith, old.few g h, added g);
  }

abbrev pub driver_of : List Link → ℕ → ℕ
driver_of links k = (get_or links k no_link).driver

abbrev pub driven_of : List Link → ℕ → ℕ
driven_of links k = (get_or links k no_link).driven

-- the rows hold the gains and costs of the first k wires
pub record Added (gates : ℕ) (links : List Link) (holders row : List ℕ) (k : ℕ) (gains costs : List ℕ) : Type 0 where
  pub gained : Summed (driven_of links) (driver_of links) (shares links holders) (flows row) gates k gains
  pub spent : Summed (driver_of links) (driven_of links) (shares links holders) (flows row) gates k costs

module _ (gates : ℕ) (links : List Link) (holders row : List ℕ) where
  pub added_none : (gains costs : List ℕ) → gates ≤ length gains → gates ≤ length costs → ((g : ℕ) → g < gates → get_or gains g 0 ≡ 0) → ((g : ℕ) → g < gates → get_or costs g 0 ≡ 0) → Added gates links holders row 0 gains costs
  added_none gains costs long_gains long_costs no_gains no_costs = record {
    gained = summed_none _ _ _ _ gates gains long_gains no_gains;
    spent = summed_none _ _ _ _ gates costs long_costs no_costs;
  }

  -- wire k, whose share is the bit
  pub added_more : (k bit : ℕ) (gains costs gains' costs' : List ℕ) → bit ≡ shares links holders k → bit ≤ 1 → flows row k ≤ 65535 → length gains' ≡ length gains → length costs' ≡ length costs
      → ((g : ℕ) → get_or gains' g 0 ≡ get_or gains g 0 + cond (eqb (driven_of links k) g) bit 0 + cond (eqb (driver_of links k) g) (flows row k) 0)
      → ((g : ℕ) → get_or costs' g 0 ≡ get_or costs g 0 + cond (eqb (driver_of links k) g) bit 0 + cond (eqb (driven_of links k) g) (flows row k) 0)
      → Added gates links holders row k gains costs → Added gates links holders row (k + 1) gains' costs'
  added_more k bit gains costs gains' costs' is few small long_gains long_costs more_gains more_costs old = record {
    gained = summed_more _ _ _ _ gates k gains gains' long_gains (rw is at few) small (rw is at more_gains) old.gained;
    spent = summed_more _ _ _ _ gates k costs costs' long_costs (rw is at few) small (rw is at more_costs) old.spent;
  }

  -- after the last wire
  pub added_all : (k : ℕ) (gains costs : List ℕ) → k ≡ length links → Added gates links holders row k gains costs → Priced gates links holders row gains costs
  added_all k gains costs is added =
      let all = subst (λ (n : ℕ). Added gates links holders row n gains costs) is added in
      record { gains_long = all.gained.long; costs_long = all.spent.long; gains_are = all.gained.are; costs_are = all.spent.are }
