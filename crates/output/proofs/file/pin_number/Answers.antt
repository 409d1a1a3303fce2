use Rattle.std.proofs.Common.{ℕ, ◌≡◌, ◌<◌, ◌≤◌, MatchOption, true, false, arith, rules, tests}
use Rattle.std.proofs.lemmas.Iterator.{first_from_Range}
use Rattle.output.proofs.Pinning.{pins_first, late_pin}
use Rattle.output.proofs.file.pin_number.Given.{Over}
use Rattle.output.proofs.file.pin_number.Goals.{After-find}
use Rattle.output.proofs.file.pin_number.Goals as goal

-- the first pinned gate behind those that come first, as it was looked for
first : (g : Over) (c : After-find g) → let pinned = (g.N.Netlist.meaning c.args.net.now).pinned in MatchOption c.find.result ((k : ℕ) → c.leading_pins-pins.result ≤ k → k < c.gate_count.result → pinned k ≡ false) (λ i. (c.leading_pins-pins.result ≤ i) × (i < c.gate_count.result) × (pinned i ≡ true) × ((k : ℕ) → c.leading_pins-pins.result ≤ k → k < i → pinned k ≡ false))
first g c =
    let n = g.N.Netlist.meaning c.args.net.now in
    first_from_Range _ _ _ c.find.result (λ k. n.pinned k ≡ true) (λ k. n.pinned k ≡ false) c.find.ensures.ran (λ k q called. search (rules, tests)) (λ k q called. search (rules, tests))

pub returns-in-Some : goal.returns-in-Some
returns-in-Some g c =
    let n = g.N.Netlist.meaning c.args.net.now in
    let found = rw c.in-Some.is at (first g c.before) in
    late_pin n c.leading_pins-pins.result c.leading_pins-pins.ensures c.in-Some.gate found.0 (omega (arith, found.1, c.gate_count.ensures)) found.2 found.3

pub returns-in-None : goal.returns-in-None
returns-in-None g c =
    let n = g.N.Netlist.meaning c.args.net.now in
    let none = rw c.in-None.is at (first g c.before) in
    pins_first n c.leading_pins-pins.result c.leading_pins-pins.ensures (λ k high l. none k high (omega (arith, c.gate_count.ensures)))
