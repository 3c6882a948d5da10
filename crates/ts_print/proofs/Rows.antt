-- Rows that ascend, one after another.
use Rattle.std.proofs.Common.{◌≡◌, ◌≢◌, ◌⊎◌, false, [], ◌∷◌, ◌∙◌, refl, sym, ap, subst, inl, inr}
use Rattle.std.proofs.Common.{◌≤◌, ◌-◌, length, take, drop, get_or, ◌<◌, arith, Ordering, Equal, Greater, Option, Some, None, Less, Bor, MatchOption, IfSome}
use Rattle.std.specs.Option.{option_copied}
use Rattle.std.specs.Ordering.{is_lt, is_eq}
use Rattle.ts_model.specs.declared.row.Stamp.{Stamp}
use Rattle.std.proofs.lemmas.Grind.{common_steps}
use Rattle.std.proofs.lemmas.Cmp.{tied_itself}
use Rattle.ts_name.specs.Paths.{Path, IsBefore, path_cmp}
use Rattle.ts_model.specs.Trees.{Listing, listed, at, Ascend, IsListing}
use Rattle.ts_model.specs.declared.row.Content.{Content}
use Rattle.ts_model.specs.declared.row.Content.TheVariants.{Absent}
use Rattle.ts_model.specs.declared.row.Row.{Row}
use Rattle.ts_print.specs.Walks.{ArePlain, IsRest, IsStep, HasNoneBefore, IsEarlier, IsLeastPath}
use Rattle.ts_name.specs.Laws.{path_total, tied_paths}
use Rattle.ts_name.proofs.Order.{before_itself, before_trans, before_cases, before_turned, decide_before}
use Rattle.ts_print.proofs.Order.{before_upto, upto_before}
use Rattle.ts_model.proofs.Rows.{listed_here, listed_there}
use Rattle.ts_model.proofs.Listings.{root_not_listed}

-- what is left after the first row is plain
pub plain_rest : {F : Type 0} (row : Row F) (rows : Listing F) → ArePlain (row ∷ rows) → ArePlain rows
plain_rest {F} row rows h = record { ascending = rest rows h.ascending; there = h.there.1 }
  where
    rest : (rows : Listing F) → Ascend (row ∷ rows) → Ascend rows
    rest [] h = tt
    rest (next ∷ rows) h = h.1

-- nothing stands at or before the path of the first row, in what follows it
pub absent_upto : {F : Type 0} (row : Row F) (rows : Listing F) → Ascend (row ∷ rows) → (q : Path) → ¬ IsBefore row.path q → listed rows q ≡ Absent
absent_upto row [] h q n = refl
absent_upto row (next ∷ rows) h q n =
    listed_there next rows q (λ e. n (subst (λ z. IsBefore row.path z) e h.0))
    ∙ absent_upto next rows h.1 q (λ less. n (before_trans row.path next.path q h.0 less))

-- nothing stands before the first row
pub absent_before : {F : Type 0} (row : Row F) (rows : Listing F) → Ascend (row ∷ rows) → (q : Path) → IsBefore q row.path → listed (row ∷ rows) q ≡ Absent
absent_before row rows h q less =
    listed_there row rows q (λ e. before_itself q (subst (λ z. IsBefore q z) e less))
    ∙ absent_upto row rows h q (before_turned q row.path less)

-- taking the first row off is a step to its path
pub step_taken : {F : Type 0} (row : Row F) (rows : Listing F) → ArePlain (row ∷ rows) → IsStep row.path row.content (row ∷ rows) rows
step_taken row rows h = record {
  here = listed_here row rows;
  before = absent_before row rows h.ascending;
  later = λ q less. sym (listed_there row rows q (λ e. before_itself q (subst (λ z. IsBefore z q) e less)));
  gone = absent_upto row rows h.ascending;
  no_more = omega arith;
  less = λ _. omega arith;
}

-- leaving rows as they are is a step to whatever comes before them
pub step_left : {F : Type 0} (row : Row F) (rows : Listing F) (p : Path) → ArePlain (row ∷ rows) → IsBefore p row.path → IsStep p Absent (row ∷ rows) (row ∷ rows)
step_left {F} row rows p h less = record {
  here = absent_before row rows h.ascending p less;
  before = λ q earlier. absent_before row rows h.ascending q (before_trans q p row.path earlier less);
  later = λ q later. refl;
  gone = λ q n. gone q n (before_cases p q);
  no_more = omega arith;
  less = λ there. absurd (there refl);
}
  where
    gone : (q : Path) → ¬ IsBefore p q → IsBefore p q ⊎ ((p ≡ q) ⊎ IsBefore q p) → listed (row ∷ rows) q ≡ Absent
    gone q n (inl later) = absurd (n later)
    gone q n (inr (inl e)) = absent_before row rows h.ascending q (subst (λ z. IsBefore z row.path) e less)
    gone q n (inr (inr earlier)) = absent_before row rows h.ascending q (before_trans q p row.path earlier less)

-- without rows each path is a step
pub step_none : {F : Type 0} (p : Path) → IsStep {F = F} p Absent [] []
step_none p = record { here = refl; before = λ q h. refl; later = λ q h. refl; gone = λ q h. refl; no_more = omega arith; less = λ there. absurd (there refl) }

-- ---- from a whole listing to what is left of it

-- at first everything is left
pub rest_all : {F : Type 0} (whole : Listing F) → IsListing whole → IsRest [] whole whole
rest_all {F} whole lists = record { later = later; gone = gone }
  where
    later : (q : Path) → IsBefore [] q → listed whole q ≡ at whole q
    later [] h = absurd (before_itself [] h)
    later (x ∷ q) h = refl

    gone : (q : Path) → ¬ IsBefore [] q → listed whole q ≡ Absent
    gone [] n = root_not_listed whole lists
    gone (x ∷ q) n = absurd (n refl)

-- a step goes on from there, and tells the content of its path
pub rest_step : {F : Type 0} (b p : Path) (content : Content F) (whole old new : Listing F) → IsRest b whole old → IsStep p content old new → IsBefore b p → IsRest p whole new
rest_step b p content whole old new rest step less = record {
  later = λ q h. step.later q h ∙ rest.later q (before_trans b p q less h);
  gone = step.gone;
}

-- between two steps there is nothing
pub rest_between : {F : Type 0} (b p q : Path) (content : Content F) (whole old new : Listing F) → IsRest b whole old → IsStep p content old new → IsBefore b q → IsBefore q p → at whole q ≡ Absent
rest_between b p q content whole old new rest step after before = sym (rest.later q after) ∙ step.before q before

-- the content at a step is that of the whole
pub rest_here : {F : Type 0} (b p : Path) (content : Content F) (whole old new : Listing F) → IsRest b whole old → IsStep p content old new → IsBefore b p → at whole p ≡ content
rest_here b p content whole old new rest step less = sym (rest.later p less) ∙ step.here

-- a step to something goes forward
pub rest_forward : {F : Type 0} (b p : Path) (content : Content F) (whole old new : Listing F) → IsRest b whole old → IsStep p content old new → content ≢ Absent → IsBefore b p
rest_forward b p content whole old new rest step there = elim (decide_before b p) [
  | yes less ↦ less
  | no n ↦ absurd (there (sym step.here ∙ rest.gone p n))
]

-- ---- the least path of three lists of rows

-- the list without its first row, as a pattern reads it
rest_is : {F : Type 0} (row : Row F) (rows : Listing F) → take (length (row ∷ rows) - 1) (drop 1 (row ∷ rows)) ≡ rows
rest_is row rows = grind (arith, common_steps)

-- the first row off
pub step_first : {F : Type 0} (rows : Listing F) (row : Row F) (p : Path) → ArePlain rows → 1 ≤ length rows → row ≡ get_or rows 0 row → path_cmp row.path p ≡ Equal
    → IsStep p row.content rows (take (length rows - 1) (drop 1 rows)) × ArePlain (take (length rows - 1) (drop 1 rows))
step_first [] row p plain l is e = absurd (omega arith)
step_first {F} (first ∷ rows) row p plain l is e =
    rw (rest_is first rows) (
      subst (λ (x : Row F). path_cmp x.path p ≡ Equal → IsStep p x.content (first ∷ rows) rows) (sym is)
          (λ (same : path_cmp first.path p ≡ Equal). subst (λ q. IsStep q first.content (first ∷ rows) rows) (tied_paths first.path p same) (step_taken first rows plain)) e,
      plain_rest first rows plain,
    )

-- a list has one first element
pub same_first : {F : Type 0} (rows : Listing F) (x y : Row F) → 1 ≤ length rows → x ≡ get_or rows 0 x → y ≡ get_or rows 0 y → x ≡ y
same_first [] x y l e f = absurd (omega arith)
same_first (row ∷ rows) x y l e f = e ∙ sym f

-- no row off
pub step_nothing : {F : Type 0} (rows : Listing F) (p : Path) → ArePlain rows → HasNoneBefore rows p → ((row : Row F) → 1 ≤ length rows → row ≡ get_or rows 0 row → path_cmp row.path p ≢ Equal) → IsStep p Absent rows rows
step_nothing [] p plain none differ = step_none p
step_nothing (row ∷ rows) p plain none differ = elim (before_cases p row.path) [
  | inl less ↦ step_left row rows p plain less
  | inr more ↦ elim more [
    | inl e ↦ absurd (differ row (omega arith) refl (subst (λ z. path_cmp row.path z ≡ Equal) (sym e) (tied_itself path_total row.path)))
    | inr less ↦ absurd (plain.there.0 (sym (listed_here row rows) ∙ none row.path less))
  ]
]

pub not_Equal : (o : Ordering) → is_eq o ≡ false → o ≢ Equal
not_Equal Less h e = cc
not_Equal Equal h e = cc
not_Equal Greater h e = cc

pub not_Less : (o : Ordering) → is_lt o ≡ false → o ≢ Less
not_Less Less h e = cc
not_Less Equal h e = cc
not_Less Greater h e = cc

-- the path of the first row, where the best so far doesn't come before it
pub earlier_first : (best : Option Path) (rows : Listing Stamp) (row : Row Stamp) → ArePlain rows → 1 ≤ length rows → row ≡ get_or rows 0 row → IfSome best (λ b. ¬ IsBefore b row.path) → IsEarlier row.path best rows
earlier_first best [] row plain l is h = absurd (omega arith)
earlier_first best (first ∷ rows) row plain l is h = record {
  none_before = subst (λ (x : Row Stamp). HasNoneBefore (first ∷ rows) x.path) (sym is) (absent_before first rows plain.ascending);
  best_not_before = h;
  from = inr (subst (λ (x : Row Stamp). listed (first ∷ rows) x.path ≢ Absent) (sym is) (λ none. plain.there.0 (sym (listed_here first rows) ∙ none)));
}

-- the best so far, where it comes before the first row
pub earlier_best : (b : Path) (rows : Listing Stamp) (row : Row Stamp) → ArePlain rows → 1 ≤ length rows → row ≡ get_or rows 0 row → IsBefore b row.path → IsEarlier b (Some b) rows
earlier_best b [] row plain l is h = absurd (omega arith)
earlier_best b (first ∷ rows) row plain l is h = record {
  none_before = λ q less. absent_before first rows plain.ascending q (subst (λ (x : Row Stamp). IsBefore q x.path) is (before_trans q b row.path less h));
  best_not_before = before_itself b;
  from = inl refl;
}

-- the best so far, where there are no rows
pub earlier_none : (best : Option (Bor Path)) (rows : Listing Stamp) → length rows < 1 → MatchOption best ((best ≡ None) × (rows ≡ [])) (λ path. IsEarlier path.now (option_copied best) rows)
earlier_none None [] l = (refl, refl)
earlier_none (Some path) [] l = record { none_before = λ q h. refl; best_not_before = before_itself path.now; from = inl refl }
earlier_none best (row ∷ rows) l = absurd (omega arith)

abbrev IsEarlierOf : Option (Bor Path) → Option (Bor Path) → Listing Stamp → Type 0
IsEarlierOf result best rows = MatchOption result ((best ≡ None) × (rows ≡ [])) (λ path. IsEarlier path.now (option_copied best) rows)

-- none before one path is none before another that it doesn't come before
none_before_upto : {F : Type 0} (rows : Listing F) (b p : Path) → HasNoneBefore rows b → ¬ IsBefore b p → HasNoneBefore rows p
none_before_upto rows b p none n q less = none q (before_upto q p b less n)

-- one after another they give the least path
pub least_path : (x y z : Option (Bor Path)) (archive first second : Listing Stamp) → IsEarlierOf x None archive → IsEarlierOf y x first → IsEarlierOf z y second
    → MatchOption z ((archive ≡ []) × (first ≡ []) × (second ≡ [])) (λ path. IsLeastPath path.now archive first second)
least_path x y None archive first second in_x in_y in_z = (
  x_rows.1,
  y_none.1,
  in_z.1,
)
  where
    y_none : (x ≡ None) × (first ≡ [])
    y_none = subst (λ (o : Option (Bor Path)). IsEarlierOf o x first) in_z.0 in_y

    x_rows : IsEarlierOf None None archive
    x_rows = subst (λ (o : Option (Bor Path)). IsEarlierOf o None archive) y_none.0 in_x
least_path x y (Some path) archive first second in_x in_y in_z = go y x in_y in_x in_z
  where
    none_all : (rows : Listing Stamp) → rows ≡ [] → HasNoneBefore rows path.now
    none_all rows e q h = ap (λ (r : Listing Stamp). listed r q) e

    by_x : (x : Option (Bor Path)) → IsEarlierOf x None archive → IfSome (option_copied x) (λ b. ¬ IsBefore b path.now) → HasNoneBefore archive path.now
    by_x None in_x n = none_all archive in_x.1
    by_x (Some b) in_x n = none_before_upto archive b.now path.now in_x.none_before n

    some_x : (x : Option (Bor Path)) → IsEarlierOf x None archive → option_copied x ≡ Some path.now → listed archive path.now ≢ Absent
    some_x None in_x e = absurd cc
    some_x (Some b) in_x e = elim in_x.from [
      | inl f ↦ absurd cc
      | inr there ↦ subst (λ (p : Path). listed archive p ≢ Absent) (let f : b.now ≡ path.now = cc in f) there
    ]

    upto : (x y : Path) → ¬ IsBefore x y → ¬ IsBefore y path.now → ¬ IsBefore x path.now
    upto x y n m less = m (upto_before y x path.now n less)

    go : (y x : Option (Bor Path)) → IsEarlierOf y x first → IsEarlierOf x None archive → IsEarlier path.now (option_copied y) second → IsLeastPath path.now archive first second
    go None x in_y in_x in_z = record {
      in_archive = by_x x in_x (subst (λ (o : Option (Bor Path)). IfSome (option_copied o) (λ b. ¬ IsBefore b path.now)) (sym in_y.0) tt);
      in_first = none_all first in_y.1;
      in_second = in_z.none_before;
      some = elim in_z.from [ inl f ↦ absurd cc | inr there ↦ inr (inr there) ];
    }
    go (Some c) x in_y in_x in_z = record {
      in_archive = by_x x in_x (weaker x in_y.best_not_before);
      in_first = none_before_upto first c.now path.now in_y.none_before in_z.best_not_before;
      in_second = in_z.none_before;
      some = elim in_z.from [
        | inl f ↦ from_y (let g : c.now ≡ path.now = cc in g)
        | inr there ↦ inr (inr there)
      ];
    }
      where
        weaker : (x : Option (Bor Path)) → IfSome (option_copied x) (λ b. ¬ IsBefore b c.now) → IfSome (option_copied x) (λ b. ¬ IsBefore b path.now)
        weaker None n = tt
        weaker (Some b) n = upto b.now c.now n in_z.best_not_before

        from_y : c.now ≡ path.now → (listed archive path.now ≢ Absent) ⊎ ((listed first path.now ≢ Absent) ⊎ (listed second path.now ≢ Absent))
        from_y g = elim in_y.from [
          | inl f ↦ inl (some_x x in_x (f ∙ ap (λ (p : Path). Some p) g))
          | inr there ↦ inr (inl (subst (λ (p : Path). listed first p ≢ Absent) g there))
        ]
