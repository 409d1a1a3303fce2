-- A row of bytes that begins with the numbers of a netlist's file: its front is accepted and draws the netlist.
use Rattle.std.proofs.Common.{◌≡◌, ℕ, ◌+◌, ◌*◌, ◌<◌, ◌≤◌, ltb, List, length, take, sym, refl, ap, ◌∙◌, subst, ⊎_elim, arith}
use Rattle.std.proofs.lemmas.List.{get_or-take, length-take-le}
use Rattle.std.proofs.lemmas.Bool.{cases_lt, lt-ltb, le-ltb, cond-true, cond-false}
use Rattle.drawing.specs.File.{word, gates_in, pins_in, wires_in, wire_in, wire_or_none, drawn, Accepts}
use Rattle.netlist.specs.Net.{Net}
use Rattle.wiring.specs.Check.{WiresPass}
use Rattle.wiring.specs.Held.{wire_of}
use Rattle.wiring.specs.Wires.{no_wire}
use Rattle.wiring.proofs.Holding.{Sound, sound_pass, none_past}
use Rattle.output.specs.Numbers.{Small, KeptFrom, HoldsSizes, PutsWires}
use Rattle.output.specs.Written.{PinsFirst, Written}
use Rattle.output.proofs.Settling.{pinned_is}

word_take : (b : List ℕ) (r i : ℕ) → i + 1 < r → word (take r b) i ≡ word b i
word_take b r i l = omega (arith, get_or-take r b i 0 (omega arith), get_or-take r b (i + 1) 0 l)

module _ (n : Net) (sound : Sound n) (pins : ℕ) (ordered : PinsFirst n pins) (sized b : List ℕ) (room : 6 + 6 * n.wires ≤ length b) (sizes : HoldsSizes n pins sized) (put : PutsWires n n.wires sized b) where
  abbrev front : List ℕ
  front = take (6 + 6 * n.wires) b

  -- a number of the front
  number : (i : ℕ) → i + 1 < 6 + 6 * n.wires → word front i ≡ word b i
  number i l = word_take b (6 + 6 * n.wires) i l

  size : (i : ℕ) → i + 1 < 6 → word front i ≡ word sized i
  size i l = omega (arith, number i (omega arith), put.sizes i (omega arith), put.sizes (i + 1) l)

  gates_are : gates_in front ≡ n.gates
  gates_are = size 0 (omega arith) ∙ sizes.gates

  pins_are : pins_in front ≡ pins
  pins_are = size 2 (omega arith) ∙ sizes.pins

  wires_are : wires_in front ≡ n.wires
  wires_are = size 4 (omega arith) ∙ sizes.wires

  wire_is : (k : ℕ) → k < n.wires → wire_in front k ≡ wire_of n k
  wire_is k l = let held = put.held k l in λ i. record {
    driver = (number (6 + 4 * k) (omega arith) ∙ held.driver) i;
    driven = (number (8 + 4 * k) (omega arith) ∙ held.driven) i;
    count = (ap (λ w. word front (6 + 4 * w + 2 * k)) wires_are ∙ number (6 + 4 * n.wires + 2 * k) (omega arith) ∙ held.count) i;
  }

  at : (k : ℕ) → wire_or_none front k ≡ wire_of n k
  at k = ⊎_elim
      (λ l. cond-true (ltb k (wires_in front)) (wire_in front k) no_wire (lt-ltb k (wires_in front) (omega (arith, wires_are))) ∙ wire_is k l)
      (λ l. cond-false (ltb k (wires_in front)) (wire_in front k) no_wire (le-ltb k (wires_in front) (omega (arith, wires_are))) ∙ none_past n sound k l)
      (cases_lt k n.wires)

  front_drawn : drawn front ≡ n
  front_drawn = λ i. record {
    gates = gates_are i;
    pinned = λ g. (ap (ltb g) pins_are ∙ pinned_is n sound pins ordered.first g) i;
    wires = wires_are i;
    driver = λ k. (at k i).driver;
    driven = λ k. (at k i).driven;
    count = λ k. (at k i).count;
  }

  long : length front ≡ 6 + 6 * n.wires
  long = length-take-le (6 + 6 * n.wires) b room

  front_accepted : Small n → Accepts front
  front_accepted small = record {
    sized = record {
      long = omega (arith, long);
      fits = record { gates_fit = omega (arith, gates_are, sound.few_gates); wires_fit = omega (arith, wires_are, sound.few_wires); pins_fit = omega (arith, pins_are, gates_are, ordered.first.0) };
      exact = omega (arith, long, wires_are);
    };
    pass = subst (WiresPass 255) (sym front_drawn) (sound_pass n sound 255 small);
  }

  pub front_written : Small n → (before : List ℕ) → 6 + 6 * n.wires ≤ length before → KeptFrom 6 before sized → Written n before b (6 + 6 * n.wires)
  front_written small before room_before kept = record {
    size_is = refl;
    room = room_before;
    small = small;
    pins = subst (PinsFirst n) (sym pins_are) ordered;
    kept = λ i l. put.kept i l ∙ kept i (omega arith);
    accepted = front_accepted small;
    same = front_drawn;
  }
