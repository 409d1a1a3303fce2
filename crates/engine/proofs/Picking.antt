-- The gates are marked from the first on.
use Rattle.std.proofs.Common.{◌≡◌, ℕ, ◌+◌, ◌<◌, Bool, true, false, ◌⊎◌, List, MatchBool, length, get_or, set, sym, subst, arith, below_more}
use Rattle.std.proofs.lemmas.List.{get_or-set_same, get_or-set_other, length-set}
use Rattle.retiming.specs.declared.way.Way.{Way}
use Rattle.engine.specs.Pick.{Seed, Idle, NoSeed, SomeSeeds}

module _ (way : Way) (fixed : List Bool) (gains costs : List ℕ) where
  abbrev Right : ℕ → ℕ → Type 0
  Right mark g = ((mark ≡ 1) × Seed way fixed gains costs g) ⊎ ((mark ≡ 0) × Idle way fixed gains costs g)

  -- the marks of the first n gates are right
  pub record MarkedSoFar (marks : List ℕ) (n : ℕ) : Type 0 where
    pub long : length marks ≡ 1024
    pub each : (g : ℕ) → g < n → Right (get_or marks g 0) g

  pub marks_more : (marks : List ℕ) (n mark : ℕ) → n < 1024 → Right mark n → MarkedSoFar marks n → MarkedSoFar (set marks n mark) (n + 1)
  marks_more marks n mark room here old = record {
    long = omega (arith, length-set marks n mark, old.long);
    each = below_more (λ g. Right (get_or (set marks n mark) g 0) g) n (λ g h. subst (λ x. Right x g) (sym (get_or-set_other marks n g mark 0 (omega arith))) (old.each g h)) (subst (λ x. Right x n) (sym (get_or-set_same marks n mark 0 (omega (arith, old.long)))) here);
  }

  -- whether one of the first n gates has a surplus to move
  abbrev pub SeenSoFar : Bool → ℕ → Type 0
  SeenSoFar true n = (s : ℕ) × (s < n) × Seed way fixed gains costs s
  SeenSoFar false n = (g : ℕ) → g < n → Idle way fixed gains costs g

  pub seen_none : SeenSoFar false 0
  seen_none g h = absurd (omega arith)

  pub seen_idle : (some : Bool) (n : ℕ) → SeenSoFar some n → Idle way fixed gains costs n → SeenSoFar some (n + 1)
  seen_idle true n seen idle = (seen.0, omega (arith, seen.1), seen.2)
  seen_idle false n seen idle = below_more (Idle way fixed gains costs) n seen idle

  -- after the last gate the marks are right, and it is known whether one of them is 1
  pub picked : (marks : List ℕ) (gates : ℕ) (some : Bool) → MarkedSoFar marks gates → SeenSoFar some gates → MatchBool some (SomeSeeds way gates fixed gains costs marks) (NoSeed way gates fixed gains costs)
  picked marks gates true done seen = (record { each = done.each }, seen)
  picked marks gates false done seen = seen
