-- Rules that are added, one for each path.
use Rattle.std.proofs.Common.{◌≡◌, ◌⊎◌, ◌<◌, ◌≤◌, ◌+◌, ℕ, suc, inl, inr, refl, take, List, [], ◌∷◌, ◌++◌, Bor, add-one, ap, append_assoc, append-nil, arith, drop, flat_map, get_or, length, map, subst, sym, ◌∙◌}
use Rattle.std.proofs.lemmas.List.{append_cancel_right, drop_all, map-append, take-append-drop}
use Rattle.std.proofs.Math.Seq.{drop-cons}
use Rattle.ts_hold.specs.Lines.{IsRuleLine}
use Rattle.ts_hold.specs.Rules.{AddsRule, RefusesLine}
use Rattle.ts_hold.specs.declared.faults.HoldFault.TheVariants.{BadRule}
use Rattle.ts_model.specs.Texts.{Line, rule_line, symbol_text}
use Rattle.ts_model.specs.declared.hold.Rule.{Rule}
use Rattle.ts_model.specs.declared.hold.Rule.TheVariants.{LastName, OnePath}
use Rattle.ts_name.specs.Paths.{Path, IsPath, path_text}
use Rattle.ts_name.proofs.Spelling.{one_path}
use Rattle.ts_cause.specs.declared.cause.Cause.TheVariants.{Unknown}
use Rattle.ts_scan.specs.declared.fault.Refusal.TheVariants.{Unreadable}
use Rattle.ts_scan.specs.declared.fault.ScanFault.TheVariants.{At}
use Rattle.ts_perform.specs.Specials.{IsCrowdedOut, IsWithoutRule, holder_of}
use Rattle.ts_explain.specs.declared.fault.PerformFault.{PerformFault}
use Rattle.ts_explain.specs.declared.fault.PerformFault.TheVariants as fault
use Rattle.ts_explain.specs.declared.subject.Subject.{Subject}

-- the bytes after the five of a rule's word and its space
after_word : (a b c d e f g h i j : ℕ) (u v : List ℕ) → a ∷ b ∷ c ∷ d ∷ e ∷ u ≡ f ∷ g ∷ h ∷ i ∷ j ∷ v → (a ≡ f) × (u ≡ v)
after_word a b c d e f g h i j u v is = (cc, cc)

-- the line of a path's rule is that of no other
one_rule : (line : Line) (path : Path) (rule : Rule) → IsPath path → line ≡ rule_line (OnePath path) → IsRuleLine line rule → rule ≡ OnePath path
one_rule line path (OnePath q) lawful is spelled =
    ap OnePath (one_path q path spelled.fits.0 lawful (after_word 112 97 116 104 32 112 97 116 104 32 (path_text q) (path_text path) (sym spelled.spelled ∙ is)).1)
one_rule line path (LastName pattern) lawful is spelled =
    absurd (let same = (after_word 110 97 109 101 32 112 97 116 104 32 (flat_map symbol_text pattern) (path_text path) (sym spelled.spelled ∙ is)).0 in omega arith)

-- so the rule that a reader took is that of the path
pub adds_path : (before after : List Rule) (line : Line) (path : Path) → IsPath path → line ≡ rule_line (OnePath path) → AddsRule before line after
    → after ≡ before ++ OnePath path ∷ []
adds_path before after line path lawful is adds = adds.added ∙ ap (λ r. before ++ r ∷ []) (one_rule line path adds.rule lawful is adds.spelled)

-- a rule that isn't taken finds no room, or its path is the root
no_room : (rules : List Rule) (line : Line) (path : Path) (number : ℕ) → IsPath path → line ≡ rule_line (OnePath path) → RefusesLine rules line (BadRule number)
    → (length rules ≡ 4096) ⊎ (path ≡ [])
no_room rules line [] number lawful is refuses = inr refl
no_room rules line (name ∷ path) number lawful is (same, inl full) = inl full
no_room rules line (name ∷ path) number lawful is (same, inr none) = absurd (none (OnePath (name ∷ path)) (record { fits = (lawful, λ e. cc); spelled = is }))

pub without_rule : (what : Subject) (rules : List Rule) (line : Line) (path : Path) (number : ℕ) (e : PerformFault) → IsPath path → line ≡ rule_line (OnePath path) → RefusesLine rules line (BadRule number)
    → (e ≡ fault.OutOfMemory) ⊎ (e ≡ fault.Scan what (At path Unreadable) Unknown) → IsWithoutRule what rules path e
without_rule what rules line path number e lawful is refuses (inl memory) = inl memory
without_rule what rules line path number e lawful is refuses (inr told) = inr (no_room rules line path number lawful is refuses, told)

-- ---- one after another

abbrev pub rules_for : List (Bor Path) → List Rule
rules_for paths = map OnePath (map (λ path. path.now) paths)

from_here : (paths : List (Bor Path)) (i : ℕ) (path : Bor Path) → i < length paths → path ≡ get_or paths i path → drop i paths ≡ path ∷ drop (i + 1) paths
from_here paths i path within is =
    subst (λ n. drop i paths ≡ path ∷ drop n paths) (sym (add-one i)) (drop-cons paths i path within ∙ ap (λ (q : Bor Path). q ∷ drop (suc i) paths) (sym is))

-- one rule more
pub rule_added : (before after all : List Rule) (paths : List (Bor Path)) (i : ℕ) (path : Bor Path) → i < length paths → path ≡ get_or paths i path
    → after ≡ before ++ OnePath path.now ∷ [] → before ++ rules_for (drop i paths) ≡ all → after ++ rules_for (drop (i + 1) paths) ≡ all
rule_added before after all paths i path within is added so_far =
    ap (λ z. z ++ rules_for (drop (i + 1) paths)) added ∙ append_assoc before (OnePath path.now ∷ []) (rules_for (drop (i + 1) paths))
    ∙ ap (λ l. before ++ rules_for l) (sym (from_here paths i path within is)) ∙ so_far

-- none is left
pub all_added : (rules all : List Rule) (paths : List (Bor Path)) (i : ℕ) → length paths ≤ i → rules ++ rules_for (drop i paths) ≡ all → rules ≡ all
all_added rules all paths i past so_far = sym (append-nil rules) ∙ ap (λ l. rules ++ rules_for l) (sym (drop_all i paths past)) ∙ so_far

-- the rules so far are those of the paths before
so_far : (before rules : List Rule) (paths : List (Bor Path)) (i : ℕ) → rules ++ rules_for (drop i paths) ≡ before ++ rules_for paths
    → rules ≡ before ++ rules_for (take i paths)
so_far before rules paths i has =
    append_cancel_right rules (before ++ rules_for (take i paths)) (rules_for (drop i paths))
    (has ∙ ap (λ l. before ++ rules_for l) (sym (take-append-drop i paths)) ∙ ap (λ l. before ++ l) (rules_joined (take i paths) (drop i paths))
    ∙ sym (append_assoc before (rules_for (take i paths)) (rules_for (drop i paths))))
  where
    rules_joined : (xs ys : List (Bor Path)) → rules_for (xs ++ ys) ≡ rules_for xs ++ rules_for ys
    rules_joined xs ys =
        ap (map OnePath) (map-append (λ (b : Bor Path). b.now) xs ys) ∙ map-append OnePath (map (λ (b : Bor Path). b.now) xs) (map (λ (b : Bor Path). b.now) ys)

-- so a path that gets no rule is crowded out by those before it
pub crowded_out : (first : List Path) (before rules : List Rule) (paths : List (Bor Path)) (all : List Path) (i : ℕ) (path : Bor Path) (e : PerformFault) → map (λ path. path.now) paths ≡ all
    → i < length paths → path ≡ get_or paths i path → rules ++ rules_for (drop i paths) ≡ before ++ rules_for paths → IsWithoutRule (holder_of first path.now) rules path.now e → IsCrowdedOut first before all e
crowded_out first before rules paths all i path e told within is has without =
    inr (
      map (λ (b : Bor Path). b.now) (take i paths),
      path.now,
      map (λ (b : Bor Path). b.now) (drop (i + 1) paths),
      sym told ∙ ap (map (λ (b : Bor Path). b.now)) (sym (take-append-drop i paths) ∙ ap (λ l. take i paths ++ l) (from_here paths i path within is))
          ∙ map-append (λ (b : Bor Path). b.now) (take i paths) (path ∷ drop (i + 1) paths),
      subst (λ r. IsWithoutRule (holder_of first path.now) r path.now e) (so_far before rules paths i has) without,
    )
