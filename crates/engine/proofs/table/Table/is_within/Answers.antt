-- The front of the lags is looked at, which is as long as there are gates.
use Rattle.std.proofs.Common.{◌≡◌, ℕ, ◌<◌, get_or, nat_abs, pos, take, replicate, ap, arith}
use Rattle.std.proofs.lemmas.List.{get_or-replicate, get_or-take, length-replicate, length-take-le}
use Rattle.engine.specs.State.{needs_of}
use Rattle.engine.proofs.table.Table.is_within.Goals as goal

pub returns : goal.returns
returns c =
    let gates = c.args.self.now.gates in
    let lags = c.args.lags.now in
    let few = c.args.self.now.tabled.few_links in
    let holding = c.holders-holders.ensures (replicate 4096 0) (omega (arith, few, length-replicate {A = ℕ} 4096 0)) (λ k h. get_or-replicate {A = ℕ} 4096 k 0 0 (omega (arith, few))) in
    let need : c.needed.result ≡ needs_of gates c.args.self.now.links.now lags = c.needed.ensures lags (replicate 4096 0) c.read_depths.ensures holding in
    let long = length-take-le gates lags c.requires.long in
    let same : (g : ℕ) → g < gates → nat_abs (get_or (take gates lags) g (pos 0)) ≡ nat_abs (get_or lags g (pos 0)) = λ g h. ap nat_abs (get_or-take gates lags g (pos 0) h) in
    (λ yes g h. omega (arith, need, same g h, c.are_within.ensures.0 yes g (omega (arith, long))), λ all. c.are_within.ensures.1 (λ g h. omega (arith, need, same g (omega (arith, long)), all g (omega (arith, long)))))
