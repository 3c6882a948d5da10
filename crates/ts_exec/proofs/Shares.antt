-- Shares of the board that passes have.
use Rattle.std.proofs.Common.{◌≡◌, ℕ, ◌+◌, ◌*◌, ◌^◌, sym, ap, ◌∙◌, arith, mul_assoc, add-mul, pow-add}

-- a pass that was cut off by one, and put together with what became of the other half
pub fork_share : (a c b d : ℕ) → b * 2 ^ (c + 1) ≡ a * 2 ^ d → (b * 2 ^ (c + 1) + a * 2 ^ d) * 2 ^ c ≡ a * 2 ^ (d + (c + 1))
fork_share a c b d e =
    let x : ℕ = a * 2 ^ d in
    let left : (b * 2 ^ (c + 1) + x) * 2 ^ c ≡ (x + x) * 2 ^ c = ap (λ (z : ℕ). (z + x) * 2 ^ c) e in
    let right : a * 2 ^ (d + (c + 1)) ≡ x * (2 ^ c * 2 ^ 1) = ap (λ (z : ℕ). a * z) (pow-add 2 d (c + 1)) ∙ sym (mul_assoc a (2 ^ d) (2 ^ (c + 1))) ∙ ap (λ (z : ℕ). x * z) (pow-add 2 c 1) in
    let twice : x * (2 ^ c * 2) ≡ (x * 2 ^ c) * 2 = sym (mul_assoc x (2 ^ c) 2) in
    left ∙ add-mul x x (2 ^ c) ∙ (let s : x * 2 ^ c + x * 2 ^ c ≡ (x * 2 ^ c) * 2 = omega arith in s) ∙ sym twice ∙ sym right

-- the same by what is known of the passes: both halves, what became of them, and the two put together
pub halves_share : (a c o oc t tc w wc b d r rc : ℕ) → o ≡ a → oc ≡ c + 1 → t ≡ a → tc ≡ c + 1 → w ≡ t → wc ≡ tc → b * 2 ^ oc ≡ o * 2 ^ d → r ≡ b * 2 ^ wc + w * 2 ^ d → rc ≡ d + wc → r * 2 ^ c ≡ a * 2 ^ rc
halves_share a c o oc t tc w wc b d r rc o_is oc_is t_is tc_is w_is wc_is same r_is rc_is =
    let deep : wc ≡ c + 1 = wc_is ∙ tc_is in
    let half : b * 2 ^ (c + 1) ≡ a * 2 ^ d = ap (λ (z : ℕ). b * 2 ^ z) (sym oc_is) ∙ same ∙ ap (λ (z : ℕ). z * 2 ^ d) o_is in
    let whole : r ≡ b * 2 ^ (c + 1) + a * 2 ^ d = r_is ∙ ap (λ (z : ℕ). b * 2 ^ z + w * 2 ^ d) deep ∙ ap (λ (z : ℕ). b * 2 ^ (c + 1) + z * 2 ^ d) (w_is ∙ t_is) in
    ap (λ (z : ℕ). z * 2 ^ c) whole ∙ fork_share a c b d half ∙ ap (λ (z : ℕ). a * 2 ^ (d + z)) (sym deep) ∙ ap (λ (z : ℕ). a * 2 ^ z) (sym rc_is)
