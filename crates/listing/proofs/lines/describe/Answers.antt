use Rattle.std.proofs.Common.{◌≡◌, ℕ, List, ◌++◌, IfOk, string_bytes, sym, ◌∙◌, codes, decimal, append_assoc, rules}
use Rattle.std.proofs.lemmas.Result.{IfOk-weaker}
use Rattle.netlist.specs.Net.{pins}
use Rattle.netlist.specs.Tally.{shared_sum}
use Rattle.listing.specs.Lines.{net_line, regs_line}
use Rattle.listing.proofs.lines.describe.Goals as goal

-- the two lines, written in one go
abbrev text : ℕ → ℕ → ℕ → ℕ → List ℕ
text gates pins wires needed = codes "net " ++ (decimal gates ++ (codes " " ++ (decimal pins ++ (codes " " ++ (decimal wires ++ (codes "\nregs " ++ (decimal needed ++ (codes " " ++ (decimal needed ++ codes "\n")))))))))

text_is : (gates pins wires needed : ℕ) → text gates pins wires needed ≡ net_line gates pins wires ++ regs_line needed needed
text_is gates pins wires needed = sym (simp append_assoc)

pub returns : goal.returns
returns g c =
    let net = g.N.Netlist.meaning c.args.net.now in
    let written : IfOk c.format.result (λ s. string_bytes s ≡ text net.gates (pins net) net.wires (shared_sum net)) = search rules in
    IfOk-weaker c.format.result _ _ (λ s e. e ∙ text_is net.gates (pins net) net.wires (shared_sum net)) written
