-- Pins have no say in which wires lie on a round, and a lowest wire is lowest for any equal property.
use Rattle.std.proofs.Common.{ℕ, ◌<◌, Bool, List, inl, inr, ⊎_elim}
use Rattle.std.proofs.lemmas.Bool.{cases_lt}
use Rattle.netlist.specs.Net.{Net, OnFreeRound}
use Rattle.wiring.specs.declared.wire.Wire.{Wire}
use Rattle.wiring.specs.Check.{Lowest, Stray}
use Rattle.wiring.specs.Wires.{wired}

pub repinned : (gates : ℕ) (p q : ℕ → Bool) (ws : List Wire) (k : ℕ) → OnFreeRound (wired gates p ws) k → OnFreeRound (wired gates q ws) k
repinned gates p q ws k r = record { is_wire = r.is_wire; empty = r.empty; back = r.back }

pub lowest_same : {bound : ℕ} {P Q : ℕ → Type 0} {k : ℕ} → ((j : ℕ) → P j → Q j) → ((j : ℕ) → Q j → P j) → Lowest bound P k → Lowest bound Q k
lowest_same there back low = record { within = low.within; here = there _ low.here; before = λ j l h. low.before j l (back j h) }

-- a wire that is not stray has gates for ends
pub ends_of : (n : Net) (k : ℕ) → (Stray n k → ⊥) → (n.driver k < n.gates) × (n.driven k < n.gates)
ends_of n k not = (⊎_elim (λ l. l) (λ l. absurd (not (inl l))) (cases_lt (n.driver k) n.gates), ⊎_elim (λ l. l) (λ l. absurd (not (inr l))) (cases_lt (n.driven k) n.gates))
