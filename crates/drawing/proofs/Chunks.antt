-- Bytes read by chunks of one size.
use Rattle.std.proofs.Common.{◌≡◌, ℕ, zero, suc, ◌+◌, ◌*◌, ◌<◌, List, [], get_or, take, drop, sym, ap, ◌∙◌, ap₂, mul-suc, arith}
use Rattle.std.proofs.lemmas.List.{get_or-take, get_or-drop}
use Rattle.std.specs.Simd.{first_chunks}
use Rattle.drawing.specs.File.{wires_in, wire_in}
use Rattle.drawing.specs.Parsed.{wire_from}

-- byte i of chunk k is byte n * k + i of all
chunk_byte : (n m : ℕ) (xs d : List ℕ) (k i j : ℕ) → k < m → i < n → j ≡ n * k + i → get_or (get_or (first_chunks n m xs) k d) i 0 ≡ get_or xs j 0
chunk_byte n zero xs d k i j l h e = absurd (omega arith)
chunk_byte n (suc m) xs d zero i j l h e = get_or-take n xs i 0 h ∙ ap (λ p. get_or xs p 0) (omega arith)
chunk_byte n (suc m) xs d (suc k) i j l h e =
    chunk_byte n m (drop n xs) d k i (n * k + i) (omega arith) h (omega arith) ∙ get_or-drop n xs (n * k + i) 0 ∙ ap (λ p. get_or xs p 0) (omega (arith, mul-suc n k))

-- the two rows of chunks behind the six bytes of the sizes, whose ends are those of so many wires
module _ (b rest front back : List ℕ) (ends counts : List (List ℕ)) (wires m n : ℕ) (wires_are : wires ≡ wires_in b) (behind : rest ≡ drop 6 b) (first : front ≡ take (4 * wires) rest) (second : back ≡ drop (4 * wires) rest) (ends_are : ends ≡ first_chunks 4 m front) (counts_are : counts ≡ first_chunks 2 n back) where
  behind_byte : (i j : ℕ) → j ≡ 6 + i → get_or rest i 0 ≡ get_or b j 0
  behind_byte i j e = ap (λ xs. get_or xs i 0) behind ∙ get_or-drop 6 b i 0 ∙ ap (λ p. get_or b p 0) (sym e)

  module _ (k : ℕ) (within : k < wires) (in_ends : k < m) (in_counts : k < n) where
    end_byte : (i j : ℕ) → i < 4 → j ≡ 6 + (4 * k + i) → get_or (get_or ends k []) i 0 ≡ get_or b j 0
    end_byte i j h e =
        ap (λ xs. get_or (get_or xs k []) i 0) ends_are
        ∙ chunk_byte 4 m front [] k i (4 * k + i) in_ends h (omega arith)
        ∙ ap (λ xs. get_or xs (4 * k + i) 0) first
        ∙ get_or-take (4 * wires) rest (4 * k + i) 0 (omega arith)
        ∙ behind_byte (4 * k + i) j e

    count_byte : (i j : ℕ) → i < 2 → j ≡ 6 + (4 * wires + (2 * k + i)) → get_or (get_or counts k []) i 0 ≡ get_or b j 0
    count_byte i j h e =
        ap (λ xs. get_or (get_or xs k []) i 0) counts_are
        ∙ chunk_byte 2 n back [] k i (2 * k + i) in_counts h (omega arith)
        ∙ ap (λ xs. get_or xs (2 * k + i) 0) second
        ∙ get_or-drop (4 * wires) rest (2 * k + i) 0
        ∙ behind_byte (4 * wires + (2 * k + i)) j e

    -- a wire from chunk k of the ends and chunk k of the counts
    pub chunks_are : wire_from (get_or ends k []) (get_or counts k []) ≡ wire_in b k
    chunks_are = λ i. record {
      driver = ap₂ (λ low high. low + 256 * high) (end_byte 0 (6 + 4 * k) (omega arith) (omega arith)) (end_byte 1 (6 + 4 * k + 1) (omega arith) (omega arith)) i;
      driven = ap₂ (λ low high. low + 256 * high) (end_byte 2 (8 + 4 * k) (omega arith) (omega arith)) (end_byte 3 (8 + 4 * k + 1) (omega arith) (omega arith)) i;
      count = ap₂ (λ low high. low + 256 * high) (count_byte 0 (6 + 4 * wires_in b + 2 * k) (omega arith) (omega arith)) (count_byte 1 (6 + 4 * wires_in b + 2 * k + 1) (omega arith) (omega arith)) i;
    }
