-- Products of two numbers with two others, crosswise.
use Rattle.std.proofs.Common.{◌≡◌, ℕ, ◌+◌, ◌-◌, ◌*◌, ◌<◌, ◌≤◌, subst₂, add-mul, mul-add, le-mul_of_pos_right, arith}

expand : (b x g y : ℕ) → (b + x) * (g + y) + b * g ≡ b * (g + y) + (b + x) * g + x * y
expand b x g y = omega (arith, add-mul b x (g + y), mul-add b g y, mul-add x g y, add-mul b x g)

cross_is : (b a g c : ℕ) → b ≤ a → g ≤ c → a * c + b * g ≡ b * c + a * g + (a - b) * (c - g)
cross_is b a g c p q =
    let e : b + (a - b) ≡ a = omega arith in
    let f : g + (c - g) ≡ c = omega arith in
    subst₂ (λ x y. x * y + b * g ≡ b * y + x * g + (a - b) * (c - g)) e f (expand b (a - b) g (c - g))

pub cross_le : (b a g c : ℕ) → b ≤ a → g ≤ c → b * c + a * g ≤ a * c + b * g
cross_le b a g c p q = omega (arith, cross_is b a g c p q)

pub cross_same : (b a g c : ℕ) → b ≤ a → g < c → a * c + b * g ≤ b * c + a * g → a ≡ b
cross_same b a g c p q tight =
    let some : 0 < c - g = omega arith in
    omega (arith, cross_is b a g c p (omega arith), le-mul_of_pos_right (a - b) some)
