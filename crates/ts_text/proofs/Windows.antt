-- Parts of a buffer.
use Rattle.std.proofs.Common.{◌≡◌, ℕ, ◌+◌, ◌-◌, ◌≤◌, List, ◌++◌, take, drop, slice_range, sym, ap, ◌∙◌, arith}
use Rattle.std.proofs.lemmas.List.{drop-take, drop-drop}
use Rattle.std.proofs.Math.Seq.{take-add}

-- a part without its first bytes
pub slice_later : (xs : List ℕ) (start end count : ℕ) → start + count ≤ end → slice_range xs (start + count) end ≡ drop count (slice_range xs start end)
slice_later xs start end count h =
    let rest = end - (start + count) in
    let size : end - start ≡ count + rest = omega arith in
    ap (λ l. take rest l) (sym (drop-drop count start xs)) ∙ sym (drop-take count rest (drop start xs)) ∙ ap (λ n. drop count (take n (drop start xs))) (sym size)

-- what a read puts behind what is held
pub slice_grown : (before moved after : List ℕ) (start end n : ℕ) → take (end - start) moved ≡ slice_range before start end → take (end - start) after ≡ take (end - start) moved
    → slice_range after 0 (end - start + n) ≡ slice_range before start end ++ take n (drop (end - start) after)
slice_grown before moved after start end n same kept =
    let size : (end - start) + n - 0 ≡ (end - start) + n = omega arith in
    ap (λ m. take m after) size ∙ take-add (end - start) n after ∙ ap (λ l. l ++ take n (drop (end - start) after)) (kept ∙ same)
