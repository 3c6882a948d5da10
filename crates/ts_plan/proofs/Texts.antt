-- The lines of plans are lawful, and of bounded number.
use Rattle.std.proofs.Common.{◌≡◌, ◌≢◌, ℕ, ◌+◌, ◌^◌, ◌<◌, ◌≤◌, List, [], ◌∷◌, ◌++◌, length, map, flat_map, codes, decimal, sum_by, refl, sym, ap, subst, arith, length-append}
use Rattle.std.specs.List.{AllByRecursion}
use Rattle.std.proofs.lemmas.List.{length-map}
use Rattle.std.proofs.lemmas.List.Sums.{sum_by-cons}
use Rattle.ts_name.specs.Paths.{Path, IsPath, path_text}
use Rattle.ts_name.specs.Buffers.{HasNo}
use Rattle.ts_name.proofs.Spelling.{clean_decimal, clean_from_test, clean_path, length_number, no_feed}
use Rattle.ts_name.proofs.Texts.{path_text_short}
use Rattle.ts_name.proofs.Utf8.{all_append}
use Rattle.ts_model.specs.Texts.{Line, reason_text, entry_line, pred_line, action_lines, plan_lines}
use Rattle.ts_model.proofs.Spelling.{clean_reason}
use Rattle.ts_model.specs.declared.plan.Reason.{Reason}
use Rattle.ts_model.specs.declared.plan.Reason.TheVariants as reason
use Rattle.ts_model.specs.declared.plan.Kind.TheVariants.{Piece, Commit, Mark}
use Rattle.ts_model.specs.declared.plan.Action.{Action}
use Rattle.ts_model.specs.declared.plan.Plan.{Plan}
use Rattle.ts_text.specs.Lines.{IsLine}
use Rattle.ts_plan.specs.PlanLines.{line_text, LineFits}
use Rattle.ts_plan.specs.Progress.{Progress, all_actions, fed_in, fed}
use Rattle.ts_plan.specs.Reading.{IsLarge, IsProgress}
use Rattle.ts_plan.specs.declared.progress.Part.{Part}
use Rattle.ts_plan.specs.declared.progress.Part.TheVariants.{Start, Body, Ended}
use Rattle.ts_plan.specs.declared.line.PlanLine.{PlanLine}
use Rattle.ts_plan.specs.declared.line.PlanLine.TheVariants as line
use Rattle.ts_plan.proofs.Words.{clean_front, front, line_split, tail, wide}
use Rattle.ts_plan.proofs.Grammar.{Lines, AllFit, plan_steps, plan_spelled, plan_fits}

abbrev pub AreTextLines : List Line → Type 0
AreTextLines lines = AllByRecursion IsLine lines

-- ---- lengths

length_reason : (r : Reason) → length (reason_text r) ≤ 8
length_reason reason.Same = omega arith
length_reason reason.First = omega arith
length_reason reason.Second = omega arith
length_reason reason.Conflict = omega arith
length_reason reason.Held = omega arith
length_reason reason.Dir = omega arith

length_tail : (l : PlanLine) → LineFits l → length (tail l) ≤ 16000
length_tail line.Header fits = omega arith
length_tail (line.Entry e) fits = omega (arith, length-append (reason_text e.reason) (32 ∷ path_text e.path), length_reason e.reason, path_text_short e.path fits.0)
length_tail (line.Action (Piece e offset size p)) fits =
    omega (
      arith,
      length-append (decimal e) (32 ∷ (decimal offset ++ 32 ∷ (decimal size ++ 32 ∷ path_text p))),
      length-append (decimal offset) (32 ∷ (decimal size ++ 32 ∷ path_text p)),
      length-append (decimal size) (32 ∷ path_text p),
      length_number e (wide e fits.0),
      length_number offset fits.1,
      length_number size fits.2,
      path_text_short p fits.3.0,
    )
length_tail (line.Action (Commit e)) fits = omega (arith, length_number e (wide e fits))
length_tail (line.Action (Mark e)) fits = omega (arith, length_number e (wide e fits))
length_tail (line.Pred j) fits = omega (arith, length_number j (wide j fits))
length_tail (line.End m n) fits = omega (arith, length-append (decimal m) (32 ∷ decimal n), length_number m fits.0, length_number n fits.1)

length_front : (l : PlanLine) → length (front l) ≤ 12
length_front line.Header = omega arith
length_front (line.Entry e) = omega arith
length_front (line.Action (Piece e offset size p)) = omega arith
length_front (line.Action (Commit e)) = omega arith
length_front (line.Action (Mark e)) = omega arith
length_front (line.Pred j) = omega arith
length_front (line.End m n) = omega arith

-- ---- no line feed in a line

joined : (x y : List ℕ) → HasNo 10 x → HasNo 10 y → HasNo 10 (x ++ 32 ∷ y)
joined x y no_x no_y = all_append (λ b. b ≢ 10) x (32 ∷ y) no_x (λ e. omega arith, no_y)

no_feed_number : (n : ℕ) → n < 2 ^ 64 → HasNo 10 (decimal n)
no_feed_number n small = no_feed (decimal n) (clean_decimal n small)

no_feed_path : (p : Path) → IsPath p → HasNo 10 (path_text p)
no_feed_path p is = no_feed (path_text p) (clean_path p is)

no_feed_tail : (l : PlanLine) → LineFits l → HasNo 10 (tail l)
no_feed_tail line.Header fits = no_feed (codes "1") (clean_from_test (codes "1") refl)
no_feed_tail (line.Entry e) fits = joined (reason_text e.reason) (path_text e.path) (no_feed (reason_text e.reason) (clean_reason e.reason)) (no_feed_path e.path fits.0)
no_feed_tail (line.Action (Piece e offset size p)) fits =
    joined (decimal e) (decimal offset ++ 32 ∷ (decimal size ++ 32 ∷ path_text p)) (no_feed_number e (wide e fits.0))
    (joined (decimal offset) (decimal size ++ 32 ∷ path_text p) (no_feed_number offset fits.1) (joined (decimal size) (path_text p) (no_feed_number size fits.2) (no_feed_path p fits.3.0)))
no_feed_tail (line.Action (Commit e)) fits = no_feed_number e (wide e fits)
no_feed_tail (line.Action (Mark e)) fits = no_feed_number e (wide e fits)
no_feed_tail (line.Pred j) fits = no_feed_number j (wide j fits)
no_feed_tail (line.End m n) fits = joined (decimal m) (decimal n) (no_feed_number m fits.0) (no_feed_number n fits.1)

-- a lawful line is one
pub is_line : (l : PlanLine) → LineFits l → IsLine (line_text l)
is_line l fits = record {
  short = omega (arith, ap length (line_split l), length-append (front l) (32 ∷ tail l), length_front l, length_tail l fits);
  one = subst (λ z. HasNo 10 z) (sym (line_split l)) (joined (front l) (tail l) (no_feed (front l) (clean_front l)) (no_feed_tail l fits));
}

are_lines : (ls : Lines) → AllFit ls → AreTextLines (map line_text ls)
are_lines [] fits = tt
are_lines (l ∷ ls) fits = (is_line l fits.0, are_lines ls fits.1)

-- the lines of a plan
pub plan_are_lines : (q : Plan) → IsLarge q → AreTextLines (plan_lines q)
plan_are_lines q is = subst (λ z. AreTextLines z) (plan_spelled q) (are_lines (plan_steps q) (plan_fits q is))

-- ---- how many lines may be read

length_actions : (acts : List Action) → length (flat_map action_lines acts) ≡ length acts + sum_by (λ a. length a.preds) acts
length_actions [] = refl
length_actions (a ∷ acts) =
    let lines = action_lines a in
    omega (arith, length-append lines (flat_map action_lines acts), length-map a.preds pred_line, length_actions acts, sum_by-cons (λ (x : Action). length x.preds) a acts)

body_short : (p : Progress) → IsProgress p → length (fed_in Body p.entries (all_actions p)) ≤ 6291457
body_short p is =
    omega (arith, length-append (map entry_line p.entries) (flat_map action_lines (all_actions p)), length-map p.entries entry_line, length_actions (all_actions p), is.plan.limits.entries, is.plan.limits.actions, is.plan.limits.preds)

fed_in_short : (part : Part) (p : Progress) → IsProgress p → length (fed_in part p.entries (all_actions p)) ≤ 6291458
fed_in_short Start p is = omega arith
fed_in_short Body p is = omega (arith, body_short p is)
fed_in_short Ended p is =
    omega (arith, body_short p is, length-append (fed_in Body p.entries (all_actions p)) ((codes "end" ++ 32 ∷ (decimal (length p.entries) ++ 32 ∷ decimal (length (all_actions p)))) ∷ []))

-- no more than a plan has
pub fed_short : (p : Progress) → IsProgress p → length (fed p) ≤ 6291458
fed_short p is = fed_in_short p.part p is
