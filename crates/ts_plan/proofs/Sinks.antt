-- What goes out to a sink, one write after another.
use Rattle.std.proofs.Common.{◌≡◌, ℕ, List, [], ◌∷◌, ◌++◌, Option, Result, Ok, Err, refl, sym, ap, ◌∙◌, subst, append_assoc, append-nil, arith, zero, suc, ◌+◌, ◌<◌, ◌≤◌, get_or, take, drop, flat_map, map, length, codes, decimal, take-append-drop}
use Rattle.std.specs.Io.KnownBytes.{Appends}
use Rattle.std.proofs.KnownBytes.{Appends-trans, Appends-nil}
use Rattle.std.proofs.lemmas.List.{take_all, take_more}
use Rattle.std.proofs.lemmas.List.Concat.{flat_map-append}
use Rattle.ts_model.specs.Texts.{text, entry_line, kind_line, pred_line, action_lines, plan_lines}
use Rattle.ts_model.specs.declared.plan.Entry.{Entry}
use Rattle.ts_model.specs.declared.plan.Action.{Action}
use Rattle.ts_model.specs.declared.plan.Plan.{Plan}
use Rattle.ts_text.proofs.Sinks.{front_longer, front_after}
use Rattle.ts_plan.specs.Sends.{Sends, entry_chunk, pred_chunk, action_chunk}
use Rattle.ts_model.proofs.Lines.{text_append}
use Rattle.ts_plan.specs.declared.fault.PlanFault.{PlanFault}
use Rattle.ts_plan.specs.declared.fault.PlanFault.TheVariants.{OutOfMemory, Failed, NotCanonical, PastLimit}

-- nothing went out
pub nothing_sent : (old : Option (List ℕ)) (failed : ℕ) (bytes : List ℕ) → Sends {A = Unit {0}} old old failed failed bytes (Err OutOfMemory)
nothing_sent old failed bytes = (record { front = []; rest = bytes; split = refl; added = Appends-nil old }, refl)

-- some bytes, and then more
pub sent_after : (old mid new : Option (List ℕ)) (a b c : ℕ) (bytes more : List ℕ) (r : Result (Unit {0}) PlanFault)
    → Appends old mid bytes → b ≡ a → Sends mid new b c more r → Sends old new a c (bytes ++ more) r
sent_after old mid new a b c bytes more (Ok x) added same h = (Appends-trans old mid new bytes more added h.0, h.1 ∙ same)
sent_after old mid new a b c bytes more (Err OutOfMemory) added same h = (front_after old mid new bytes more added h.0, h.1 ∙ same)
sent_after old mid new a b c bytes more (Err Failed) added same h = (front_after old mid new bytes more added h.0, λ e. h.1 (e ∙ sym same))
sent_after old mid new a b c bytes more (Err NotCanonical) added same h = absurd h
sent_after old mid new a b c bytes more (Err PastLimit) added same h = absurd h

-- what failed had more to come
pub sent_short : (old new : Option (List ℕ)) (a c : ℕ) (bytes more : List ℕ) (f : PlanFault) → Sends {A = Unit {0}} old new a c bytes (Err f) → Sends {A = Unit {0}} old new a c (bytes ++ more) (Err f)
sent_short old new a c bytes more OutOfMemory h = (front_longer old new bytes more h.0, h.1)
sent_short old new a c bytes more Failed h = (front_longer old new bytes more h.0, h.1)
sent_short old new a c bytes more NotCanonical h = absurd h
sent_short old new a c bytes more PastLimit h = absurd h

-- ---- over a list

chunk_more : {A : Type 0} (g : A → List ℕ) (xs : List A) (i : ℕ) (x : A) → i < length xs → x ≡ get_or xs i x → flat_map g (take (i + 1) xs) ≡ flat_map g (take i xs) ++ g x
chunk_more g xs i x small is =
    ap (flat_map g) (take_more xs i x small) ∙ flat_map-append g (take i xs) (get_or xs i x ∷ []) ∙ ap (λ z. flat_map g (take i xs) ++ z) (append-nil (g (get_or xs i x)) ∙ ap g (sym is))

-- one item more went out
pub loop_more : {A : Type 0} (g : A → List ℕ) (xs : List A) (i : ℕ) (x : A) (old mid new : Option (List ℕ)) (a b c : ℕ) → i < length xs → x ≡ get_or xs i x
    → Appends old mid (flat_map g (take i xs)) × (b ≡ a) → Appends mid new (g x) × (c ≡ b) → Appends old new (flat_map g (take (i + 1) xs)) × (c ≡ a)
loop_more g xs i x old mid new a b c small is before here = (
  subst (λ z. Appends old new z) (sym (chunk_more g xs i x small is)) (Appends-trans old mid new (flat_map g (take i xs)) (g x) before.0 here.0),
  here.1 ∙ before.1,
)

-- all of them did
pub loop_sent : {A : Type 0} (g : A → List ℕ) (xs : List A) (i : ℕ) (old new : Option (List ℕ)) (a c : ℕ) → length xs ≤ i
    → Appends old new (flat_map g (take i xs)) × (c ≡ a) → Appends old new (flat_map g xs) × (c ≡ a)
loop_sent g xs i old new a c all before = (subst (λ z. Appends old new (flat_map g z)) (take_all i xs all) before.0, before.1)

-- one item failed
pub loop_failed : {A : Type 0} (g : A → List ℕ) (xs : List A) (i : ℕ) (x : A) (old mid new : Option (List ℕ)) (a b c : ℕ) (f : PlanFault) → i < length xs → x ≡ get_or xs i x
    → Appends old mid (flat_map g (take i xs)) → b ≡ a → Sends {A = Unit {0}} mid new b c (g x) (Err f) → Sends {A = Unit {0}} old new a c (flat_map g xs) (Err f)
loop_failed g xs i x old mid new a b c f small is added same h =
    let here = sent_after old mid new a b c (flat_map g (take i xs)) (g x) (Err f) added same h in
    let all = sent_short old new a c (flat_map g (take i xs) ++ g x) (flat_map g (drop (i + 1) xs)) f here in
    let whole : (flat_map g (take i xs) ++ g x) ++ flat_map g (drop (i + 1) xs) ≡ flat_map g xs =
    ap (λ z. z ++ flat_map g (drop (i + 1) xs)) (sym (chunk_more g xs i x small is)) ∙ sym (flat_map-append g (take (i + 1) xs) (drop (i + 1) xs)) ∙ ap (flat_map g) (take-append-drop (i + 1) xs) in
    subst (λ z. Sends {A = Unit {0}} old new a c z (Err f)) whole all

-- ---- the text of a plan in the order in which it goes out

preds_sent : (js : List ℕ) → text (map pred_line js) ≡ flat_map pred_chunk js
preds_sent [] = refl
preds_sent (j ∷ js) = ap (λ z. pred_chunk j ++ z) (preds_sent js)

-- an action's lines
pub action_sent : (a : Action) → action_chunk a ≡ (kind_line a.kind ++ 10 ∷ []) ++ flat_map pred_chunk a.preds
action_sent a = ap (λ z. (kind_line a.kind ++ 10 ∷ []) ++ z) (preds_sent a.preds)

entries_sent : (es : List Entry) → text (map entry_line es) ≡ flat_map entry_chunk es
entries_sent [] = refl
entries_sent (e ∷ es) = ap (λ z. entry_chunk e ++ z) (entries_sent es)

actions_sent : (acts : List Action) → text (flat_map action_lines acts) ≡ flat_map action_chunk acts
actions_sent [] = refl
actions_sent (a ∷ acts) = text_append (action_lines a) (flat_map action_lines acts) ∙ ap (λ z. action_chunk a ++ z) (actions_sent acts)

-- the whole text
pub plan_sent : (q : Plan) → text (plan_lines q)
    ≡ (codes "twosync-plan 1" ++ 10 ∷ []) ++ (flat_map entry_chunk q.entries ++ (flat_map action_chunk q.actions ++ ((codes "end " ++ (decimal (length q.entries) ++ 32 ∷ decimal (length q.actions))) ++ 10 ∷ [])))
plan_sent q =
    let end = codes "end " ++ (decimal (length q.entries) ++ 32 ∷ decimal (length q.actions)) in
    text_append ((codes "twosync-plan 1" ∷ map entry_line q.entries) ++ flat_map action_lines q.actions) (end ∷ [])
    ∙ ap (λ z. z ++ text (end ∷ [])) (text_append (codes "twosync-plan 1" ∷ map entry_line q.entries) (flat_map action_lines q.actions))
    ∙ ap₃ (entries_sent q.entries) (actions_sent q.actions) (append-nil (end ++ 10 ∷ []))
  where
    ap₃ : {e f a b c d : List ℕ} → e ≡ f → a ≡ b → c ≡ d → (((codes "twosync-plan 1" ++ 10 ∷ []) ++ e) ++ a) ++ c ≡ (codes "twosync-plan 1" ++ 10 ∷ []) ++ (f ++ (b ++ d))
    ap₃ {f = f} {b = b} {d = d} p q r =
        (λ i. (((codes "twosync-plan 1" ++ 10 ∷ []) ++ p i) ++ q i) ++ r i)
        ∙ append_assoc ((codes "twosync-plan 1" ++ 10 ∷ []) ++ f) b d
        ∙ append_assoc (codes "twosync-plan 1" ++ 10 ∷ []) f (b ++ d)

-- the first line
abbrev pub title : List ℕ
title = codes "twosync-plan 1" ++ 10 ∷ []

-- what follows the entries: the actions, and the last line
abbrev pub last_parts : List Entry → List Action → List ℕ
last_parts es acts = flat_map action_chunk acts ++ ((codes "end " ++ (decimal (length es) ++ 32 ∷ decimal (length acts))) ++ 10 ∷ [])

-- what went out of these parts went out of the plan's text
pub parts_sent : (q : Plan) (es : List Entry) (acts : List Action) → es ≡ q.entries → acts ≡ q.actions → (old new : Option (List ℕ)) (a c : ℕ) (r : Result (Unit {0}) PlanFault)
    → Sends old new a c (title ++ (flat_map entry_chunk es ++ last_parts es acts)) r → Sends old new a c (text (plan_lines q)) r
parts_sent q es acts same_e same_a old new a c r sends =
    subst (λ z. Sends old new a c z r) ((λ i. title ++ (flat_map entry_chunk (same_e i) ++ last_parts (same_e i) (same_a i))) ∙ sym (plan_sent q)) sends

-- the first line and the entries went out, and then what follows
pub sent_behind : (es : List Entry) (acts : List Action) (h₀ h₁ h₂ h₃ : Option (List ℕ)) (f₀ f₁ f₂ f₃ : ℕ) (r : Result (Unit {0}) PlanFault)
    → Appends h₀ h₁ title × (f₁ ≡ f₀) → Appends h₁ h₂ (flat_map entry_chunk es) × (f₂ ≡ f₁) → Sends h₂ h₃ f₂ f₃ (last_parts es acts) r
    → Sends h₀ h₃ f₀ f₃ (title ++ (flat_map entry_chunk es ++ last_parts es acts)) r
sent_behind es acts h₀ h₁ h₂ h₃ f₀ f₁ f₂ f₃ r first entries sends =
    sent_after h₀ h₁ h₃ f₀ f₁ f₃ title (flat_map entry_chunk es ++ last_parts es acts) r first.0 first.1
    (sent_after h₁ h₂ h₃ f₁ f₂ f₃ (flat_map entry_chunk es) (last_parts es acts) r entries.0 entries.1 sends)

-- an element is the same whatever stands past the end
pub same_element : (xs : List ℕ) (i d e : ℕ) → i < length xs → get_or xs i d ≡ get_or xs i e
same_element [] i d e small = absurd (omega (arith, small))
same_element (x ∷ xs) zero d e small = refl
same_element (x ∷ xs) (suc i) d e small = same_element xs i d e (omega (arith, small))
