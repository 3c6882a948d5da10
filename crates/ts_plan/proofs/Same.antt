-- A line is one line's.
use Rattle.std.proofs.Common.{◌≡◌, ℕ, ◌∷◌, ◌++◌, decimal, refl, sym, ap, ap₂, ◌∙◌, arith}
use Rattle.std.proofs.lemmas.Fmt.{decimal_injective}
use Rattle.ts_name.specs.Paths.{path_text}
use Rattle.ts_name.proofs.Spelling.{cut_at, one_path}
use Rattle.ts_model.specs.Texts.{reason_text}
use Rattle.ts_model.proofs.Spelling.{one_reason_text}
use Rattle.ts_model.specs.declared.plan.Kind.TheVariants.{Piece, Commit, Mark}
use Rattle.ts_plan.proofs.Words.{front, front_word, key, line_split, number_parts, reason_word, tail, wide}
use Rattle.ts_plan.specs.PlanLines.{line_text, LineFits}
use Rattle.ts_plan.specs.declared.line.PlanLine.{PlanLine}
use Rattle.ts_plan.specs.declared.line.PlanLine.TheVariants as line

same_tail : (l m : PlanLine) → LineFits l → LineFits m → front l ≡ front m → tail l ≡ tail m → l ≡ m
unfolding key
same_tail line.Header line.Header fits_l fits_m h t = refl
same_tail line.Header (line.Entry f) fits_l fits_m h t = absurd (let k : ◌≡◌ {A = ℕ} 12116 5101 = ap key h in omega arith)
same_tail line.Header (line.Action (Piece f offset_m size_m p_m)) fits_l fits_m h t = absurd (let k : ◌≡◌ {A = ℕ} 12116 5112 = ap key h in omega arith)
same_tail line.Header (line.Action (Commit f)) fits_l fits_m h t = absurd (let k : ◌≡◌ {A = ℕ} 12116 6099 = ap key h in omega arith)
same_tail line.Header (line.Action (Mark f)) fits_l fits_m h t = absurd (let k : ◌≡◌ {A = ℕ} 12116 4109 = ap key h in omega arith)
same_tail line.Header (line.Pred f) fits_l fits_m h t = absurd (let k : ◌≡◌ {A = ℕ} 12116 1112 = ap key h in omega arith)
same_tail line.Header (line.End f n_m) fits_l fits_m h t = absurd (let k : ◌≡◌ {A = ℕ} 12116 3101 = ap key h in omega arith)
same_tail (line.Entry e) line.Header fits_l fits_m h t = absurd (let k : ◌≡◌ {A = ℕ} 5101 12116 = ap key h in omega arith)
same_tail (line.Entry e) (line.Entry f) fits_l fits_m h t =
    let parts = cut_at 32 (reason_text e.reason) (reason_text f.reason) (path_text e.path) (path_text f.path) (reason_word e.reason) (reason_word f.reason) t in
    let reasons = one_reason_text e.reason f.reason parts.0 in
    let paths = one_path e.path f.path fits_l.0 fits_m.0 parts.1 in
    λ i. line.Entry (record { path = paths i; reason = reasons i })
same_tail (line.Entry e) (line.Action (Piece f offset_m size_m p_m)) fits_l fits_m h t = absurd (let k : ◌≡◌ {A = ℕ} 5101 5112 = ap key h in omega arith)
same_tail (line.Entry e) (line.Action (Commit f)) fits_l fits_m h t = absurd (let k : ◌≡◌ {A = ℕ} 5101 6099 = ap key h in omega arith)
same_tail (line.Entry e) (line.Action (Mark f)) fits_l fits_m h t = absurd (let k : ◌≡◌ {A = ℕ} 5101 4109 = ap key h in omega arith)
same_tail (line.Entry e) (line.Pred f) fits_l fits_m h t = absurd (let k : ◌≡◌ {A = ℕ} 5101 1112 = ap key h in omega arith)
same_tail (line.Entry e) (line.End f n_m) fits_l fits_m h t = absurd (let k : ◌≡◌ {A = ℕ} 5101 3101 = ap key h in omega arith)
same_tail (line.Action (Piece e offset_l size_l p_l)) line.Header fits_l fits_m h t = absurd (let k : ◌≡◌ {A = ℕ} 5112 12116 = ap key h in omega arith)
same_tail (line.Action (Piece e offset_l size_l p_l)) (line.Entry f) fits_l fits_m h t = absurd (let k : ◌≡◌ {A = ℕ} 5112 5101 = ap key h in omega arith)
same_tail (line.Action (Piece e offset_l size_l p_l)) (line.Action (Piece f offset_m size_m p_m)) fits_l fits_m h t =
    let first = number_parts e f (decimal offset_l ++ 32 ∷ (decimal size_l ++ 32 ∷ path_text p_l)) (decimal offset_m ++ 32 ∷ (decimal size_m ++ 32 ∷ path_text p_m)) (wide e fits_l.0) (wide f fits_m.0) t in
    let second = number_parts offset_l offset_m (decimal size_l ++ 32 ∷ path_text p_l) (decimal size_m ++ 32 ∷ path_text p_m) fits_l.1 fits_m.1 first.1 in
    let third = number_parts size_l size_m (path_text p_l) (path_text p_m) fits_l.2 fits_m.2 second.1 in
    let paths = one_path p_l p_m fits_l.3.0 fits_m.3.0 third.1 in
    λ i. line.Action (Piece (first.0 i) (second.0 i) (third.0 i) (paths i))
same_tail (line.Action (Piece e offset_l size_l p_l)) (line.Action (Commit f)) fits_l fits_m h t = absurd (let k : ◌≡◌ {A = ℕ} 5112 6099 = ap key h in omega arith)
same_tail (line.Action (Piece e offset_l size_l p_l)) (line.Action (Mark f)) fits_l fits_m h t = absurd (let k : ◌≡◌ {A = ℕ} 5112 4109 = ap key h in omega arith)
same_tail (line.Action (Piece e offset_l size_l p_l)) (line.Pred f) fits_l fits_m h t = absurd (let k : ◌≡◌ {A = ℕ} 5112 1112 = ap key h in omega arith)
same_tail (line.Action (Piece e offset_l size_l p_l)) (line.End f n_m) fits_l fits_m h t = absurd (let k : ◌≡◌ {A = ℕ} 5112 3101 = ap key h in omega arith)
same_tail (line.Action (Commit e)) line.Header fits_l fits_m h t = absurd (let k : ◌≡◌ {A = ℕ} 6099 12116 = ap key h in omega arith)
same_tail (line.Action (Commit e)) (line.Entry f) fits_l fits_m h t = absurd (let k : ◌≡◌ {A = ℕ} 6099 5101 = ap key h in omega arith)
same_tail (line.Action (Commit e)) (line.Action (Piece f offset_m size_m p_m)) fits_l fits_m h t = absurd (let k : ◌≡◌ {A = ℕ} 6099 5112 = ap key h in omega arith)
same_tail (line.Action (Commit e)) (line.Action (Commit f)) fits_l fits_m h t = ap (λ n. line.Action (Commit n)) (decimal_injective e f (wide e fits_l) (wide f fits_m) t)
same_tail (line.Action (Commit e)) (line.Action (Mark f)) fits_l fits_m h t = absurd (let k : ◌≡◌ {A = ℕ} 6099 4109 = ap key h in omega arith)
same_tail (line.Action (Commit e)) (line.Pred f) fits_l fits_m h t = absurd (let k : ◌≡◌ {A = ℕ} 6099 1112 = ap key h in omega arith)
same_tail (line.Action (Commit e)) (line.End f n_m) fits_l fits_m h t = absurd (let k : ◌≡◌ {A = ℕ} 6099 3101 = ap key h in omega arith)
same_tail (line.Action (Mark e)) line.Header fits_l fits_m h t = absurd (let k : ◌≡◌ {A = ℕ} 4109 12116 = ap key h in omega arith)
same_tail (line.Action (Mark e)) (line.Entry f) fits_l fits_m h t = absurd (let k : ◌≡◌ {A = ℕ} 4109 5101 = ap key h in omega arith)
same_tail (line.Action (Mark e)) (line.Action (Piece f offset_m size_m p_m)) fits_l fits_m h t = absurd (let k : ◌≡◌ {A = ℕ} 4109 5112 = ap key h in omega arith)
same_tail (line.Action (Mark e)) (line.Action (Commit f)) fits_l fits_m h t = absurd (let k : ◌≡◌ {A = ℕ} 4109 6099 = ap key h in omega arith)
same_tail (line.Action (Mark e)) (line.Action (Mark f)) fits_l fits_m h t = ap (λ n. line.Action (Mark n)) (decimal_injective e f (wide e fits_l) (wide f fits_m) t)
same_tail (line.Action (Mark e)) (line.Pred f) fits_l fits_m h t = absurd (let k : ◌≡◌ {A = ℕ} 4109 1112 = ap key h in omega arith)
same_tail (line.Action (Mark e)) (line.End f n_m) fits_l fits_m h t = absurd (let k : ◌≡◌ {A = ℕ} 4109 3101 = ap key h in omega arith)
same_tail (line.Pred e) line.Header fits_l fits_m h t = absurd (let k : ◌≡◌ {A = ℕ} 1112 12116 = ap key h in omega arith)
same_tail (line.Pred e) (line.Entry f) fits_l fits_m h t = absurd (let k : ◌≡◌ {A = ℕ} 1112 5101 = ap key h in omega arith)
same_tail (line.Pred e) (line.Action (Piece f offset_m size_m p_m)) fits_l fits_m h t = absurd (let k : ◌≡◌ {A = ℕ} 1112 5112 = ap key h in omega arith)
same_tail (line.Pred e) (line.Action (Commit f)) fits_l fits_m h t = absurd (let k : ◌≡◌ {A = ℕ} 1112 6099 = ap key h in omega arith)
same_tail (line.Pred e) (line.Action (Mark f)) fits_l fits_m h t = absurd (let k : ◌≡◌ {A = ℕ} 1112 4109 = ap key h in omega arith)
same_tail (line.Pred e) (line.Pred f) fits_l fits_m h t = ap line.Pred (decimal_injective e f (wide e fits_l) (wide f fits_m) t)
same_tail (line.Pred e) (line.End f n_m) fits_l fits_m h t = absurd (let k : ◌≡◌ {A = ℕ} 1112 3101 = ap key h in omega arith)
same_tail (line.End e n_l) line.Header fits_l fits_m h t = absurd (let k : ◌≡◌ {A = ℕ} 3101 12116 = ap key h in omega arith)
same_tail (line.End e n_l) (line.Entry f) fits_l fits_m h t = absurd (let k : ◌≡◌ {A = ℕ} 3101 5101 = ap key h in omega arith)
same_tail (line.End e n_l) (line.Action (Piece f offset_m size_m p_m)) fits_l fits_m h t = absurd (let k : ◌≡◌ {A = ℕ} 3101 5112 = ap key h in omega arith)
same_tail (line.End e n_l) (line.Action (Commit f)) fits_l fits_m h t = absurd (let k : ◌≡◌ {A = ℕ} 3101 6099 = ap key h in omega arith)
same_tail (line.End e n_l) (line.Action (Mark f)) fits_l fits_m h t = absurd (let k : ◌≡◌ {A = ℕ} 3101 4109 = ap key h in omega arith)
same_tail (line.End e n_l) (line.Pred f) fits_l fits_m h t = absurd (let k : ◌≡◌ {A = ℕ} 3101 1112 = ap key h in omega arith)
same_tail (line.End e n_l) (line.End f n_m) fits_l fits_m h t =
    let parts = number_parts e f (decimal n_l) (decimal n_m) fits_l.0 fits_m.0 t in
    ap₂ line.End parts.0 (decimal_injective n_l n_m fits_l.1 fits_m.1 parts.1)

-- no two lines are spelled alike
pub one_line : (l m : PlanLine) → LineFits l → LineFits m → line_text l ≡ line_text m → l ≡ m
one_line l m fits_l fits_m e =
    let parts = cut_at 32 (front l) (front m) (tail l) (tail m) (front_word l) (front_word m) (sym (line_split l) ∙ e ∙ line_split m) in
    same_tail l m fits_l fits_m parts.0 parts.1
