-- The wires read off a file are those of the netlist that its bytes draw.
use Rattle.std.proofs.Common.{◌≡◌, ℕ, ◌*◌, ◌<◌, ◌/◌, min, ltb, List, [], length, length-drop, get_or, take, drop, sym, ap, ◌∙◌, subst, ⊎_elim, arith}
use Rattle.std.proofs.lemmas.List.{get_or_past, length-take-le}
use Rattle.std.proofs.lemmas.Bool.{cases_lt, lt-ltb, le-ltb, cond-true, cond-false}
use Rattle.std.specs.Simd.{first_chunks}
use Rattle.wiring.specs.declared.fault.CheckFault.{CheckFault}
use Rattle.wiring.specs.declared.fault.CheckFault.TheVariants.{ShortFile, TooLarge, WrongLength, NoGate, CountTooLarge, FreeRound}
use Rattle.drawing.specs.declared.parsed.Sizes.{Sizes}
use Rattle.wiring.specs.declared.wire.Wire.{Wire}
use Rattle.wiring.specs.Check.{Fits, WiresPass, WiresFail}
use Rattle.drawing.specs.File.{pins_in, wires_in, wire_in, wire_or_none, drawn, Sized, Accepts, Refuses}
use Rattle.drawing.specs.Parsed.{SizesOf, wire_from}
use Rattle.drawing.proofs.Chunks.{chunks_are}
use Rattle.wiring.specs.List.{Passes, Fails}
use Rattle.wiring.specs.Wires.{no_wire, wired}

module _ (b : List ℕ) (ws : List Wire) (long : length ws ≡ wires_in b) (read : (k : ℕ) → k < wires_in b → get_or ws k no_wire ≡ wire_in b k) where
  at : (k : ℕ) → get_or ws k no_wire ≡ wire_or_none b k
  at k = ⊎_elim
      (λ l. read k l ∙ sym (cond-true (ltb k (wires_in b)) (wire_in b k) no_wire (lt-ltb k (wires_in b) l)))
      (λ l. get_or_past ws k no_wire (omega arith) ∙ sym (cond-false (ltb k (wires_in b)) (wire_in b k) no_wire (le-ltb k (wires_in b) l)))
      (cases_lt k (wires_in b))

  pub drawn_is : {s : Sizes} → SizesOf b s → wired s.gates (λ g. ltb g s.pins) ws ≡ drawn b
  drawn_is {s = s} of = λ i. record {
    gates = of.gates_are i;
    pinned = λ g. ltb g (of.pins_are i);
    wires = long i;
    driver = λ k. (at k i).driver;
    driven = λ k. (at k i).driven;
    count = λ k. (at k i).count;
  }

-- the wires that are read off two rows of chunks, which follow each other behind the sizes
pub read_is : (b rest front back : List ℕ) (ends counts : List (List ℕ)) (s : Sizes) (ws : List Wire) → SizesOf b s × (rest ≡ drop 6 b) → front ≡ take (4 * s.wires) rest → back ≡ drop (4 * s.wires) rest → ends ≡ first_chunks 4 (length front / 4) front → counts ≡ first_chunks 2 (length back / 2) back → length ends ≡ length front / 4 → length counts ≡ length back / 2 → length ws ≡ min (length ends) (length counts) → ((k : ℕ) → k < length ws → get_or ws k no_wire ≡ wire_from (get_or ends k []) (get_or counts k [])) → wired s.gates (λ g. ltb g s.pins) ws ≡ drawn b
read_is b rest front back ends counts s ws of first second ends_are counts_are ends_long counts_long long each =
    let w = s.wires in
    let wires_are : w ≡ wires_in b = of.0.wires_are in
    let total : length rest ≡ 6 * w = omega (arith, ap length of.1, length-drop 6 b, of.0.sized.exact, wires_are) in
    let in_front : length front ≡ 4 * w = ap length first ∙ length-take-le (4 * w) rest (omega (arith, total)) in
    let in_back : length back ≡ 2 * w = omega (arith, ap length second, length-drop (4 * w) rest, total) in
    let many : length ws ≡ wires_in b = omega (arith, long, ends_long, counts_long, in_front, in_back, wires_are) in
    let read : (k : ℕ) → k < wires_in b → get_or ws k no_wire ≡ wire_in b k =
    λ k l. each k (omega (arith, l, many))
    ∙ chunks_are b rest front back ends counts w _ _ wires_are of.1 first second ends_are counts_are k (omega (arith, l, wires_are)) (omega (arith, l, in_front, wires_are)) (omega (arith, l, in_back, wires_are)) in
    drawn_is b ws many read of.0

-- sizes and wires with which the well-sized file b is drawn, and a slice of those wires
module _ (b : List ℕ) (gates pins : ℕ) (ws : List Wire) (sized : Sized b) (pins_are : pins ≡ pins_in b) (drawn_so : wired gates (λ g. ltb g pins) ws ≡ drawn b) (seen : List Wire) (seen_is : seen ≡ ws) where
  pub seen_so : wired gates (λ g. ltb g pins) seen ≡ drawn b
  seen_so = ap (wired gates (λ g. ltb g pins)) seen_is ∙ drawn_so

  fitting : Fits gates pins (length seen)
  fitting =
      let fits = sized.fits in
      let gates_are = ap (λ n. n.gates) seen_so in
      let wires_are = ap (λ n. n.wires) seen_so in
      record {
        gates_fit = omega (arith, gates_are, fits.gates_fit);
        wires_fit = omega (arith, wires_are, fits.wires_fit);
        pins_fit = omega (arith, pins_are, gates_are, fits.pins_fit);
      }

  pub accepts : Passes 255 gates pins seen → Accepts b
  accepts told = record { sized = sized; pass = subst (WiresPass 255) seen_so told.wires }

  pub refuses : (f : CheckFault) → Fails 255 gates pins seen f → Refuses b f
  refuses ShortFile told = absurd told
  refuses TooLarge told = absurd (told fitting)
  refuses WrongLength told = absurd told
  refuses (NoGate k) told = (sized, subst (λ n. WiresFail 255 n (NoGate k)) seen_so told.1)
  refuses (CountTooLarge k) told = (sized, subst (λ n. WiresFail 255 n (CountTooLarge k)) seen_so told.1)
  refuses (FreeRound k) told = (sized, subst (λ n. WiresFail 255 n (FreeRound k)) seen_so told.1)

  -- the file's limit on counts is below that of a list
  pub passes_as_list : Accepts b → Passes 1048575 gates pins seen
  passes_as_list ok =
      let pass = subst (WiresPass 255) (sym seen_so) ok.pass in
      record { sizes = fitting; wires = record { ends = pass.ends; counts = λ k l deep. pass.counts k l (omega arith); rounds = pass.rounds } }

-- no file is both accepted and refused
pub not_both : (b : List ℕ) (f : CheckFault) → Accepts b → Refuses b f → ⊥
not_both b ShortFile ok r = omega (arith, ok.sized.long, r)
not_both b TooLarge ok r = r.1 ok.sized.fits
not_both b WrongLength ok r = r.2 ok.sized.exact
not_both b (NoGate k) ok r = ok.pass.ends k r.1.within r.1.here
not_both b (CountTooLarge k) ok r = ok.pass.counts k r.1.1.within r.1.1.here
not_both b (FreeRound k) ok r = ok.pass.rounds k r.1.2.within r.1.2.here
