-- A stuck set moved as far as its slack: the lags are kept nearest, fewer registers are needed, and the rows go on.
use Rattle.std.proofs.Common.{◌≡◌, ℕ, ◌+◌, ◌<◌, ◌≤◌, Bool, true, false, cond, List, length, get_or, ℤ, nat_abs, sym, refl, ap, ◌∙◌, subst, subst₂, arith}
use Rattle.std.proofs.lemmas.Bool.{and_parts, and_left, eqb-true, le-ltb}
use Rattle.netlist.specs.Lags.{under, needs}
use Rattle.retiming.specs.declared.way.Way.{Way}
use Rattle.retiming.specs.declared.way.Way.TheVariants.{Forward, Back}
use Rattle.retiming.specs.Nearest.{Nearest}
use Rattle.retiming.specs.Push.{push, pushed_by, only_on}
use Rattle.retiming.specs.Tied.{Passes, more_flow, less_flow, other_share, Follows, Tied, seed, step}
use Rattle.retiming.specs.Witness.{Certificate}
use Rattle.retiming.proofs.Cut.{Pushed}
use Rattle.retiming.proofs.Push.{push_none}
use Rattle.retiming.proofs.Kept.{kept_start, kept_pushed, kept_nearest}
use Rattle.retiming.proofs.Sets.{ReachedSet, ClosedWires, side, closed_from, set_pushed, set_falls, set_within}
use Rattle.engine.specs.declared.link.Link.{Link}
use Rattle.engine.specs.Round.{Stuck, AllDone}
use Rattle.engine.specs.Rows.{holder, shares, flows, deep, Depths, Holding}
use Rattle.engine.specs.State.{needs_of, Within, State, Better}
use Rattle.engine.specs.Step.{inside, to_beyond, from_beyond, Slack}
use Rattle.engine.specs.Table.{Tabled, table, bundles, lags_of, fixed_of, Standing}
use Rattle.engine.proofs.Certified.{table_sound, depth_is, holding_certificate}
use Rattle.engine.proofs.Closing.{side_is, flows_stay}
use Rattle.engine.proofs.Holders.{shares_holder, holder_shares, fellows}

-- moves look only at the counts of wires
module _ {gates : ℕ} {links : List Link} {lags : List ℤ} {depths : List ℕ} (deeps : Depths gates links lags depths) (share flow : ℕ → ℕ) where
  passes_under : {x y slack : ℕ} → Passes (deep gates links depths) (bundles links) share flow x y slack → Passes (under (table gates links) (lags_of lags)) (bundles links) share flow x y slack
  passes_under (more_flow k h to from used) = more_flow k h to from (depth_is deeps k h ∙ used)
  passes_under (less_flow k h from to some) = less_flow k h from to some
  passes_under (other_share k j hk hj from to picked fellow used) = other_share k j hk hj from to picked fellow (omega (arith, depth_is deeps k hk, depth_is deeps j hj, used))

  follows_under : (way : Way) (x y slack : ℕ) → Follows way (deep gates links depths) (bundles links) share flow x y slack → Follows way (under (table gates links) (lags_of lags)) (bundles links) share flow x y slack
  follows_under Forward x y slack f = passes_under f
  follows_under Back x y slack f = passes_under f

  tied_under : {way : Way} {Seed : ℕ → Type 0} {g : ℕ} → Tied way (deep gates links depths) (bundles links) share flow Seed g → Tied way (under (table gates links) (lags_of lags)) (bundles links) share flow Seed g
  tied_under (seed s) = seed s
  tied_under {way} (step {x} {y} t f) = step (tied_under t) (follows_under way x y 0 f)

module _ (way : Way) (gates : ℕ) (links : List Link) (fixed : List Bool) (first lags : List ℤ) (depths holders row marks : List ℕ) (by : ℕ) (tabled : Tabled gates links) (state : State way gates links fixed first lags depths holders row)
    (stuck : Stuck way gates links fixed depths holders row marks) (some : 0 < by) (slack : Slack way links depths holders marks by) where
  cert : Certificate (under (table gates links) (lags_of lags)) (bundles links) (shares links holders) (flows row)
  cert = holding_certificate gates links lags depths holders row tabled state.depths_are state.holding

  seen : (g : ℕ) (b : Bool) → g < gates → side way (inside gates marks) g ≡ b → ◌≡◌ {A = Bool} (Rattle.engine.specs.Step.beyond way (get_or marks g 0)) b
  seen g b l e = sym (side_is way gates marks g l) ∙ e

  closed : ClosedWires (under (table gates links) (lags_of lags)) (bundles links) (shares links holders) (flows row) (side way (inside gates marks)) by
  closed = record {
    counts = λ i h to from. rw (depth_is state.depths_are i h) ((slack i h).counts (seen _ true (tabled.drivens i h) to) (seen _ false (tabled.drivers i h) from));
    flows = flows_stay way gates links fixed depths holders row marks tabled state.holding stuck;
    shares = λ i j hi hj picked fellow from to.
        let held : holder links holders j ≡ i = ap (λ b. get_or holders b 0) (eqb-true _ _ (and_parts _ _ fellow).1) ∙ shares_holder links holders i picked in
        let ahead = (slack j hj).shares (subst (λ (k : ℕ). to_beyond way links marks k ≡ true) (sym held) (seen _ true (tabled.drivens i hi) from)) (seen _ false (tabled.drivens j hj) to) in
        rw (depth_is state.depths_are i hi, depth_is state.depths_are j hj) (subst (λ (k : ℕ). get_or depths j 0 + by ≤ get_or depths k 0) held ahead);
  }

  reached : ReachedSet way (table gates links) (bundles links) (fixed_of fixed) (shares links holders) (flows row) (lags_of lags) (inside gates marks) by
  reached = record {
    some = some;
    free = stuck.free;
    willing = stuck.willing;
    closed = closed_from way (under (table gates links) (lags_of lags)) (bundles links) (shares links holders) (flows row) (inside gates marks) by closed;
    tied = λ g h i. tied_under state.depths_are (shares links holders) (flows row) (stuck.tied g h i);
  }

  -- some permitted lags need fewer
  pub better : Better gates links fixed first lags
  better = record {
    lags_are = pushed_by way (only_on (inside gates marks) by) (lags_of lags);
    permitted = (set_pushed way (table gates links) (bundles links) (table_sound gates links tabled) (fixed_of fixed) (lags_of first) (shares links holders) (flows row) (lags_of lags) state.kept.permitted cert (inside gates marks) by reached).permitted;
    fewer = omega (arith, some, set_falls way (table gates links) (bundles links) (table_sound gates links tabled) (fixed_of fixed) (lags_of first) (shares links holders) (flows row) (lags_of lags) state.kept.permitted cert (inside gates marks) by reached stuck.start.0 stuck.start.1.0 stuck.start.1.1);
  }

  -- the rows of the lags after
  module _ (lags' : List ℤ) (moved : (g : ℕ) → lags_of lags' g ≡ pushed_by way (only_on (inside gates marks) by) (lags_of lags) g) where
    same : pushed_by way (only_on (inside gates marks) by) (lags_of lags) ≡ lags_of lags'
    same = λ i g. sym (moved g) i

    pushed : Pushed way (table gates links) (bundles links) (fixed_of fixed) (lags_of first) (shares links holders) (flows row) (lags_of lags) (lags_of lags')
    pushed = subst (Pushed way (table gates links) (bundles links) (fixed_of fixed) (lags_of first) (shares links holders) (flows row) (lags_of lags)) same
        (set_pushed way (table gates links) (bundles links) (table_sound gates links tabled) (fixed_of fixed) (lags_of first) (shares links holders) (flows row) (lags_of lags) state.kept.permitted cert (inside gates marks) by reached)

    pub fewer : needs_of gates links lags' + by ≤ needs_of gates links lags
    fewer = subst (λ r. needs (table gates links) (bundles links) r + by ≤ needs_of gates links lags) same
        (set_falls way (table gates links) (bundles links) (table_sound gates links tabled) (fixed_of fixed) (lags_of first) (shares links holders) (flows row) (lags_of lags) state.kept.permitted cert (inside gates marks) by reached stuck.start.0 stuck.start.1.0 stuck.start.1.1)

    pub still_within : (bound : ℕ) → Within gates links bound first → Within gates links bound lags'
    still_within bound near = subst (λ r. (g : ℕ) → g < gates → nat_abs (r g) + needs (table gates links) (bundles links) r ≤ bound) same
        (set_within way (table gates links) (bundles links) (table_sound gates links tabled) (fixed_of fixed) (lags_of first) (shares links holders) (flows row) (lags_of lags) state.kept.permitted cert (inside gates marks) by reached stuck.start.0 stuck.start.1.0 stuck.start.1.1 bound (state.within bound near))

    pub still_standing : gates ≤ length lags' → Within gates links 1048575 first → Standing gates links lags'
    still_standing long near = record { long = long; near = λ g h. omega (arith, still_within 1048575 near g h); counts = pushed.permitted.counts }

    pub state_after : (depths' : List ℕ) → Standing gates links lags' → Depths gates links lags' depths' → State way gates links fixed first lags' depths' holders row
    state_after depths' standing deeps = record {
      standing = standing;
      depths_are = deeps;
      holding = record {
        holders_long = state.holding.holders_long;
        flows_long = state.holding.flows_long;
        is_wire = state.holding.is_wire;
        same_bundle = state.holding.same_bundle;
        deepest = λ k h. let i = holder links holders k in let hi = state.holding.is_wire k h in
            rw (← depth_is deeps k h, ← depth_is deeps i hi) (pushed.certificate.deepest i k hi h (holder_shares links depths holders row state.holding k h) (fellows gates links depths tabled k i h hi (sym (state.holding.same_bundle k h))));
        dry = λ k h wet. pushed.certificate.dry k h (rw (depth_is deeps k h) wet);
        small = state.holding.small;
      };
      kept = kept_pushed way (table gates links) (bundles links) (fixed_of fixed) (lags_of first) (lags_of lags) (table_sound gates links tabled) state.kept (shares links holders) (flows row) (lags_of lags') pushed;
      within = still_within;
      past = λ g h. moved g ∙ ap (λ b. push way (cond b by 0) (lags_of lags g)) (and_left _ _ (le-ltb g gates h)) ∙ push_none way (lags_of lags g) ∙ state.past g h;
    }

    -- with the counts read anew
    pub state_on : gates ≤ length lags' → Within gates links 1048575 first → (depths' : List ℕ) → Depths gates links lags' depths' → State way gates links fixed first lags' depths' holders row
    state_on long near depths' deeps = state_after depths' (still_standing long near) deeps

-- a round that was stuck left the rows as they were
module _ (way : Way) (gates : ℕ) (links : List Link) (fixed : List Bool) (first lags : List ℤ) (depths holders row holders' row' marks : List ℕ) (came : (holders' ≡ holders) × (row' ≡ row) × Stuck way gates links fixed depths holders row marks) where
  pub state_now : State way gates links fixed first lags depths holders row → State way gates links fixed first lags depths holders' row'
  state_now s = subst₂ (λ (h f : List ℕ). State way gates links fixed first lags depths h f) (sym came.0) (sym came.1) s

-- the state before the first round
pub state_first : (way : Way) (gates : ℕ) (links : List Link) (fixed : List Bool) (lags : List ℤ) (depths holders row : List ℕ) → Tabled gates links → Standing gates links lags → Depths gates links lags depths → Holding links depths holders row → State way gates links fixed lags lags depths holders row
state_first way gates links fixed lags depths holders row tabled standing deeps holding = record {
  standing = standing;
  depths_are = deeps;
  holding = holding;
  kept = kept_start way (table gates links) (bundles links) (fixed_of fixed) (lags_of lags) (table_sound gates links tabled) (record { stays = λ g _ _. refl; counts = standing.counts });
  within = λ bound h. h;
  past = λ g h. refl;
}

-- the end: nothing is left to move
pub state_last : (way : Way) (gates : ℕ) (links : List Link) (fixed : List Bool) (first lags : List ℤ) (depths holders row : List ℕ) → Tabled gates links → State way gates links fixed first lags depths holders row → AllDone way gates links fixed holders row → Nearest way (table gates links) (bundles links) (fixed_of fixed) (lags_of first) (lags_of lags) (needs_of gates links first) (needs_of gates links lags)
state_last way gates links fixed first lags depths holders row tabled state done =
    kept_nearest way (table gates links) (bundles links) (fixed_of fixed) (lags_of first) (lags_of lags) (table_sound gates links tabled) state.kept (shares links holders) (flows row) (holding_certificate gates links lags depths holders row tabled state.depths_are state.holding) done
