-- Lists that passed the check, kept in memory of their own.
use Rattle.std.proofs.Common.{◌≡◌, ℕ, ◌<◌, ◌≤◌, Bool, false, ltb, List, length, get_or, sym, ◌∙◌, subst, ⊎_elim, arith}
use Rattle.std.proofs.lemmas.List.{get_or_past}
use Rattle.std.proofs.lemmas.Bool.{cases_lt, le-ltb}
use Rattle.wiring.specs.declared.wire.Wire.{Wire}
use Rattle.wiring.specs.Check.{WiresPass}
use Rattle.wiring.specs.Wires.{wired, EndsWithin, CountsWithin, NoFreeRound}
use Rattle.wiring.proofs.Pinning.{repinned, ends_of}

-- what a netlist in memory holds of its wires
abbrev Kept : ℕ → List Wire → Type 0
Kept gates ws = EndsWithin gates ws × (CountsWithin 1048575 ws × (NoFreeRound gates ws × Unit {0}))

pub kept_wires : (gates : ℕ) (pinned : ℕ → Bool) (ws vs : List Wire) → WiresPass 1048575 (wired gates pinned ws) → vs ≡ ws → EndsWithin gates vs × (CountsWithin 1048575 vs × (NoFreeRound gates vs × Unit {0}))
kept_wires gates pinned ws vs pass copied =
    let net = wired gates pinned ws in
    let held : Kept gates ws = (
      λ k l. ends_of net k (pass.ends k l),
      (
        λ k l. ⊎_elim (λ over. absurd (pass.counts k l over)) (λ h. h) (cases_lt 1048575 (net.count k)),
        (λ k r. pass.rounds k r.is_wire (repinned gates (λ _. false) pinned ws k r), tt),
      ),
    ) in
    subst (Kept gates) (sym copied) held

-- pins have no say in the check
pub pass_repinned : (limit gates : ℕ) (p q : ℕ → Bool) (ws : List Wire) → WiresPass limit (wired gates p ws) → WiresPass limit (wired gates q ws)
pass_repinned limit gates p q ws pass =
    record { ends = pass.ends; counts = pass.counts; rounds = λ k l r. pass.rounds k l (repinned gates q p ws k r) }

pub wired_same : {m n : ℕ} {p q : ℕ → Bool} {vs ws : List Wire} → m ≡ n → ((g : ℕ) → p g ≡ q g) → vs ≡ ws → wired m p vs ≡ wired n q ws
wired_same sizes pins lists = λ i. wired (sizes i) (λ g. pins g i) (lists i)

-- a row of pins, read at any gate
pub pins_at : (row : List Bool) (gates pins : ℕ) → length row ≡ gates → pins ≤ gates → ((g : ℕ) → g < gates → get_or row g false ≡ ltb g pins) → (g : ℕ) → get_or row g false ≡ ltb g pins
pins_at row gates pins long few read g = ⊎_elim (read g) (λ l. get_or_past row g false (omega arith) ∙ sym (le-ltb g pins (omega arith))) (cases_lt g gates)
