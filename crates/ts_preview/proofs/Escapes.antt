-- A path's text as people may see it, byte after byte.
use Rattle.std.proofs.Common.{◌≡◌, ◌∙◌, ℕ, ◌+◌, ◌-◌, ◌<◌, List, ◌++◌, length, get_or, take, drop, ap, sym, subst, append_assoc, add-one, arith, drop-cons, refl}
use Rattle.std.proofs.lemmas.List.{take_all, length-drop}
use Rattle.ts_preview.specs.Names.{hidden_left, shown, shown_byte}

shown_step : (text : List ℕ) (i left : ℕ) → i < length text
    → let now = hidden_left left (drop i text) in shown left (drop i text) ≡ shown_byte now (get_or text i 0) ++ shown (now - 1) (drop (i + 1) text)
shown_step text i left within = rw (add-one, drop-cons text i 0 within) refl

pub shown_more : (text : List ℕ) (i left now : ℕ) (line new start : List ℕ) → i < length text → now ≡ hidden_left left (take (length text - i) (drop i text))
    → new ≡ line ++ shown_byte now (get_or text i 0) → line ++ shown left (drop i text) ≡ start → new ++ shown (now - 1) (drop (i + 1) text) ≡ start
shown_more text i left now line new start within now_is' new_is before =
    let whole : take (length text - i) (drop i text) ≡ drop i text = take_all (length text - i) (drop i text) (omega (arith, length-drop i text)) in
    let now_is : now ≡ hidden_left left (drop i text) = now_is' ∙ ap (hidden_left left) whole in
    let b = get_or text i 0 in
    let step : shown left (drop i text) ≡ shown_byte now b ++ shown (now - 1) (drop (i + 1) text) =
    subst (λ n. shown left (drop i text) ≡ shown_byte n b ++ shown (n - 1) (drop (i + 1) text)) (sym now_is) (shown_step text i left within) in
    ap (λ z. z ++ shown (now - 1) (drop (i + 1) text)) new_is
    ∙ append_assoc line (shown_byte now b) (shown (now - 1) (drop (i + 1) text))
    ∙ ap (λ z. line ++ z) (sym step)
    ∙ before
