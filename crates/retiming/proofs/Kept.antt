-- What the rounds of a search keep, from the first lags to those reached, and what it comes to at the end.
use Rattle.std.proofs.Common.{◌≡◌, ℕ, ◌+◌, ◌<◌, ◌≤◌, Bool, false, ℤ, sym, refl, ◌∙◌, subst, arith}
use Rattle.netlist.specs.Net.{Net}
use Rattle.netlist.specs.Tally.{Marking}
use Rattle.netlist.specs.Lags.{Lags, Permitted, under, needs}
use Rattle.retiming.specs.declared.way.Way.{Way}
use Rattle.retiming.specs.Witness.{Certificate, gain, cost}
use Rattle.retiming.specs.Nearest.{Sound, Along, Moved, Nearest}
use Rattle.retiming.specs.Laws.{SameMove}
use Rattle.retiming.specs.Tied.{Spent, opposite}
use Rattle.retiming.proofs.Cut.{Pushed, pushed_fewest, pushed_only}
use Rattle.retiming.proofs.Duality.{fewest_along}
use Rattle.retiming.proofs.Lattice.{farther, nearer, farther_permitted, nearer_permitted, lattice_along}
use Rattle.retiming.proofs.Needs.{needs_agree}
use Rattle.retiming.proofs.Orders.{far, near, along_self, along_trans, along_both, along_opposite, far_left, far_right, far_bound, near_left, near_right, near_bound}

-- z stays behind r, so the farther of the two is z
alike : (way : Way) (z r r' : ℤ) → far way z r ≡ r' → near way z r ≡ r → z ≡ r'
alike way z r r' f e = along_both way z (far way z r) (far_bound way z r z (along_self way z) (subst (Along way z) e (near_left way z r))) (far_left way z r) ∙ f

-- of the permitted lags between the first ones and r, these need the fewest, and no others do
pub record Kept (way : Way) (n : Net) (mark : Marking) (fixed : ℕ → Bool) (first r : Lags) : Type 0 where
  pub permitted : Permitted n fixed first r
  pub moved : Moved way n r first
  pub fewest : (z : Lags) → Permitted n fixed first z → Moved way n r z → Moved way n z first → needs n mark r ≤ needs n mark z
  pub only : (z : Lags) → Permitted n fixed first z → Moved way n r z → Moved way n z first → needs n mark z ≤ needs n mark r → (g : ℕ) → g < n.gates → z g ≡ r g

-- at the start there is nothing between
pub kept_start : (way : Way) (n : Net) (mark : Marking) (fixed : ℕ → Bool) (first : Lags) → Sound n mark → Permitted n fixed first first → Kept way n mark fixed first first
kept_start way n mark fixed first sound here =
    let same = λ (z : Lags) (behind : Moved way n first z) (ahead : Moved way n z first) (g : ℕ) (h : g < n.gates). along_both way (z g) (first g) (ahead g h) (behind g h) in
    record {
      permitted = here;
      moved = λ g _. along_self way (first g);
      fewest = λ z _ behind ahead. omega (arith, needs_agree n mark sound z first (same z behind ahead));
      only = λ z _ behind ahead _. same z behind ahead;
    }

module _ (way : Way) (n : Net) (mark : Marking) (fixed : ℕ → Bool) (first r : Lags) (sound : Sound n mark) (kept : Kept way n mark fixed first r) where
  -- one push farther: what lies between splits at r into lags nearer and lags farther
  pub kept_pushed : (share flow : ℕ → ℕ) (r' : Lags) → Pushed way n mark fixed first share flow r r' → Kept way n mark fixed first r'
  kept_pushed share flow r' pushed = record {
    permitted = pushed.permitted;
    moved = λ g h. along_trans way (r' g) (r g) (first g) (pushed.moved g h) (kept.moved g h);
    fewest = λ z hz behind ahead. omega (arith, far_fewest z hz behind, near_fewest z hz ahead, law z hz);
    only = λ z hz behind ahead same g h. alike way (z g) (r g) (r' g)
        (pushed_only way n mark sound fixed first share flow r r' pushed (farther way z r) (farther_permitted way n fixed first z r hz kept.permitted) (far_behind z behind) (far_ahead z) (omega (arith, near_fewest z hz ahead, law z hz)) g h)
        (kept.only (nearer way z r) (nearer_permitted way n fixed first z r hz kept.permitted) (λ i _. near_right way (z i) (r i)) (near_ahead z ahead) (omega (arith, far_fewest z hz behind, law z hz)) g h);
  }
    where
      law : (z : Lags) → Permitted n fixed first z → needs n mark (farther way z r) + needs n mark (nearer way z r) ≤ needs n mark z + needs n mark r
      law z hz = lattice_along way n mark fixed first z r hz kept.permitted

      far_behind : (z : Lags) → Moved way n r' z → Moved way n r' (farther way z r)
      far_behind z behind g h = far_bound way (z g) (r g) (r' g) (behind g h) (pushed.moved g h)

      far_ahead : (z : Lags) → Moved way n (farther way z r) r
      far_ahead z g _ = far_right way (z g) (r g)

      near_ahead : (z : Lags) → Moved way n z first → Moved way n (nearer way z r) first
      near_ahead z ahead g h = near_bound way (z g) (r g) (first g) (ahead g h) (kept.moved g h)

      far_fewest : (z : Lags) → Permitted n fixed first z → Moved way n r' z → needs n mark r' ≤ needs n mark (farther way z r)
      far_fewest z hz behind = pushed_fewest way n mark sound fixed first share flow r r' pushed (farther way z r) (farther_permitted way n fixed first z r hz kept.permitted) (far_behind z behind) (far_ahead z)

      near_fewest : (z : Lags) → Permitted n fixed first z → Moved way n z first → needs n mark r ≤ needs n mark (nearer way z r)
      near_fewest z hz ahead = kept.fewest (nearer way z r) (nearer_permitted way n fixed first z r hz kept.permitted) (λ g _. near_right way (z g) (r g)) (near_ahead z ahead)

  -- no surplus is left that the way moves
  pub kept_nearest : (share flow : ℕ → ℕ) → Certificate (under n r) mark share flow → ((g : ℕ) → g < n.gates → fixed g ≡ false → Spent way (gain n share flow g) (cost n share flow g)) → Nearest way n mark fixed first r (needs n mark first) (needs n mark r)
  kept_nearest share flow cert spent = record {
    permitted = kept.permitted;
    moved = kept.moved;
    before_is = refl;
    after_is = refl;
    fewest = λ q hq moved. omega (arith, far_fewest q hq, near_fewest q hq moved, law q hq);
    nearest = λ q hq moved same g h. subst (Along way (q g))
        (kept.only (nearer way q r) (nearer_permitted way n fixed first q r hq kept.permitted) (λ i _. near_right way (q i) (r i)) (near_ahead q moved) (omega (arith, far_fewest q hq, law q hq)) g h)
        (near_left way (q g) (r g));
  }
    where
      law : (q : Lags) → Permitted n fixed first q → needs n mark (farther way q r) + needs n mark (nearer way q r) ≤ needs n mark q + needs n mark r
      law q hq = lattice_along way n mark fixed first q r hq kept.permitted

      near_ahead : (q : Lags) → Moved way n q first → Moved way n (nearer way q r) first
      near_ahead q moved g h = near_bound way (q g) (r g) (first g) (moved g h) (kept.moved g h)

      far_fewest : (q : Lags) → Permitted n fixed first q → needs n mark r ≤ needs n mark (farther way q r)
      far_fewest q hq = fewest_along way n mark fixed first r share flow sound kept.permitted cert spent (farther way q r) (farther_permitted way n fixed first q r hq kept.permitted) (λ g _. far_right way (q g) (r g))

      near_fewest : (q : Lags) → Permitted n fixed first q → Moved way n q first → needs n mark r ≤ needs n mark (nearer way q r)
      near_fewest q hq moved = kept.fewest (nearer way q r) (nearer_permitted way n fixed first q r hq kept.permitted) (λ g _. near_right way (q g) (r g)) (near_ahead q moved)

-- fixed gates keep their lags, so what is permitted does not depend on which permitted lags are the present ones
pub permitted_from : (n : Net) (fixed : ℕ → Bool) (present p q : Lags) → Permitted n fixed present p → Permitted n fixed present q → Permitted n fixed p q
permitted_from n fixed present p q hp hq = record { stays = λ g h e. hq.stays g h e ∙ sym (hp.stays g h e); counts = hq.counts }

pub permitted_back : (n : Net) (fixed : ℕ → Bool) (present p q : Lags) → Permitted n fixed present p → Permitted n fixed p q → Permitted n fixed present q
permitted_back n fixed present p q hp hq = record { stays = λ g h e. hq.stays g h e ∙ hp.stays g h e; counts = hq.counts }

-- one way and then the other, no permitted lags need fewer
pub fewest_both_ways : (way : Way) (n : Net) (mark : Marking) (fixed : ℕ → Bool) (first middle last : Lags) (a b c d : ℕ) → Nearest way n mark fixed first middle a b → Nearest (opposite way) n mark fixed middle last c d → (q : Lags) → Permitted n fixed first q → needs n mark last ≤ needs n mark q
fewest_both_ways way n mark fixed first middle last a b c d there back q hq =
    let hm = there.permitted in
    let there_fewest = there.fewest (farther way q middle) (farther_permitted way n fixed first q middle hq hm) (λ g h. along_trans way (far way (q g) (middle g)) (middle g) (first g) (far_right way (q g) (middle g)) (there.moved g h)) in
    let back_fewest = back.fewest (nearer way q middle) (permitted_from n fixed first middle (nearer way q middle) hm (nearer_permitted way n fixed first q middle hq hm)) (λ g _. along_opposite way (middle g) (near way (q g) (middle g)) (near_right way (q g) (middle g))) in
    omega (arith, lattice_along way n mark fixed first q middle hq hm, there_fewest, back_fewest, there.after_is, back.after_is)

-- two nearest choices need equally many, so neither lies farther than the other
pub determined : (way : Way) (n : Net) (mark : Marking) (fixed : ℕ → Bool) (present left left' : Lags) (a b c d : ℕ) → Nearest way n mark fixed present left a b → Nearest way n mark fixed present left' c d → SameMove n.gates left left' a b c d
determined way n mark fixed present left left' a b c d one two =
    let even : b ≡ d = omega (arith, one.fewest left' two.permitted two.moved, two.fewest left one.permitted one.moved, one.after_is, two.after_is) in
    record {
      lags = λ g h. along_both way (left g) (left' g) (two.nearest left one.permitted one.moved (sym one.after_is ∙ even) g h) (one.nearest left' two.permitted two.moved (sym two.after_is ∙ sym even) g h);
      before_same = one.before_is ∙ sym two.before_is;
      after_same = even;
    }
