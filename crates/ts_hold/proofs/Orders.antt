-- The order of rules of one path: a search by halves, and a rule more.
use Rattle.std.proofs.Common.{◌≡◌, ◌≢◌, ◌⊎◌, ℕ, ◌+◌, ◌-◌, ◌<◌, ◌≤◌, List, [], ◌∷◌, ◌++◌, Ordering, Less, Equal, Greater, length, get_or, refl, sym, ap, ◌∙◌, inl, inr, arith}
use Rattle.std.specs.List.{insert}
use Rattle.std.proofs.lemmas.Bool.{cases_lt, cases_eq}
use Rattle.std.proofs.lemmas.List.{length_push, get_or_push, get_or_append_left, get_or_default}
use Rattle.std.proofs.lemmas.List.Edits.{length-insert, get_or-insert_below, get_or-insert_at, get_or-insert_above}
use Rattle.std.specs.Ordering.{ordering_reverse}
use Rattle.ts_name.specs.Paths.{Path, path_cmp}
use Rattle.ts_name.specs.Laws.{path_itself, path_total, path_turned, tied_paths}
use Rattle.ts_model.specs.declared.hold.Rule.{Rule}
use Rattle.ts_model.specs.declared.hold.Rule.TheVariants.{OnePath, LastName}
use Rattle.ts_hold.specs.Orders.{rule_order, rule_at, IsOrder, IsThere, IsPlace}

-- the rule that was read at a place
pub rule_read : (rules : List Rule) (order : List ℕ) (k n : ℕ) (rule : Rule) → n ≡ get_or order k 0 → n < length rules → rule ≡ get_or rules n rule → rule_at rules order k ≡ rule
rule_read rules order k n rule is_number inside is =
    ap (λ z. get_or rules z (LastName [])) (sym is_number) ∙ get_or_default rules n (LastName []) rule inside ∙ sym is

-- ---- a search by halves

pub less_below : (rules : List Rule) (order : List ℕ) (path : Path) (middle : ℕ) (rule : Rule) → IsOrder rules order → middle < length order → rule_at rules order middle ≡ rule
    → Less ≡ rule_order rule path → (k : ℕ) → k < middle + 1 → rule_order (rule_at rules order k) path ≡ Less
less_below rules order path middle rule ordered inside is less k low = elim (cases_lt k middle) [
  | inl before ↦ ordered.less k middle path before inside (ap (λ z. rule_order z path) is ∙ sym less)
  | inr after ↦ let same : k ≡ middle = omega arith in ap (λ z. rule_order (rule_at rules order z) path) same ∙ ap (λ z. rule_order z path) is ∙ sym less
]

pub greater_above : (rules : List Rule) (order : List ℕ) (path : Path) (middle : ℕ) (rule : Rule) → IsOrder rules order → middle < length order → rule_at rules order middle ≡ rule
    → Greater ≡ rule_order rule path → (k : ℕ) → middle ≤ k → k < length order → rule_order (rule_at rules order k) path ≡ Greater
greater_above rules order path middle rule ordered inside is greater k high within = elim (cases_eq middle k) [
  | inl same ↦ ap (λ z. rule_order (rule_at rules order z) path) (sym same) ∙ ap (λ z. rule_order z path) is ∙ sym greater
  | inr differ ↦ ordered.greater middle k path (omega arith) within (ap (λ z. rule_order z path) is ∙ sym greater)
]

-- ---- a rule more

-- the places are as before where only a rule comes last
stays : (rules : List Rule) (order : List ℕ) (rule : Rule) (k : ℕ) → IsOrder rules order → k < length order → rule_at (rules ++ rule ∷ []) order k ≡ rule_at rules order k
stays rules order rule k ordered inside = get_or_append_left rules (rule ∷ []) (LastName []) (get_or order k 0) (ordered.within k inside)

-- a rule that is there already, or one of names
pub order_kept : (rules : List Rule) (order : List ℕ) (rule : Rule) → IsOrder rules order
    → ((path : Path) → rule ≡ OnePath path → (k : ℕ) × (k < length order) × (rule_at rules order k ≡ OnePath path)) → IsOrder (rules ++ rule ∷ []) order
order_kept rules order rule ordered there = record {
  within = λ k inside. let lt : get_or order k 0 < length rules = ordered.within k inside in omega (arith, length_push rules rule);
  less = λ j k path before inside is. stay j (omega arith) path ∙ ordered.less j k path before inside (sym (stay k inside path) ∙ is);
  greater = λ j k path before inside is. stay k inside path ∙ ordered.greater j k path before inside (sym (stay j (omega arith) path) ∙ is);
  whole = λ i path d inside is. go i path d inside is (cases_lt i (length rules));
}
  where
    stay : (k : ℕ) → k < length order → (path : Path) → rule_order (rule_at (rules ++ rule ∷ []) order k) path ≡ rule_order (rule_at rules order k) path
    stay k inside path = ap (λ z. rule_order z path) (stays rules order rule k ordered inside)

    now : (path : Path) → (k : ℕ) × (k < length order) × (rule_at rules order k ≡ OnePath path) → (k : ℕ) × (k < length order) × (rule_at (rules ++ rule ∷ []) order k ≡ OnePath path)
    now path (k, inside, is) = (k, inside, stays rules order rule k ordered inside ∙ is)

    go : (i : ℕ) (path : Path) (d : Rule) → i < length (rules ++ rule ∷ []) → get_or (rules ++ rule ∷ []) i d ≡ OnePath path → (i < length rules) ⊎ (length rules ≤ i)
        → (k : ℕ) × (k < length order) × (rule_at (rules ++ rule ∷ []) order k ≡ OnePath path)
    go i path d inside is (inl before) = now path (ordered.whole i path d before (sym (get_or_append_left rules (rule ∷ []) d i before) ∙ is))
    go i path d inside is (inr after) = now path (there path (sym (get_or_push rules rule d i (omega (arith, length_push rules rule))) ∙ is))

-- how a rule stands to one path tells how it stands to another
greater_from_less : (p q : Path) → path_cmp p q ≡ Less → path_cmp q p ≡ Greater
greater_from_less p q less = path_turned q p ∙ ap ordering_reverse less

less_from_greater : (p q : Path) → path_cmp p q ≡ Greater → path_cmp q p ≡ Less
less_from_greater p q greater = path_turned q p ∙ ap ordering_reverse greater

less_less : (rule : Rule) (p q : Path) → rule_order rule p ≡ Less → path_cmp p q ≡ Less → rule_order rule q ≡ Less
less_less (OnePath named) p q first second = path_total.trans named p q first second
less_less (LastName pattern) p q first second = absurd (cc first)

greater_less : (rule : Rule) (p q : Path) → rule_order rule p ≡ Greater → rule_order rule q ≡ Less → path_cmp p q ≡ Less
greater_less (OnePath named) p q first second = path_total.trans p named q (less_from_greater named p first) second
greater_less (LastName pattern) p q first second = absurd (cc second)

less_greater : (rule : Rule) (p q : Path) → rule_order rule p ≡ Less → rule_order rule q ≡ Greater → path_cmp p q ≡ Greater
less_greater (OnePath named) p q first second = greater_from_less q p (path_total.trans q named p (less_from_greater named q second) first)
less_greater (LastName pattern) p q first second = absurd (cc first)

greater_greater : (rule : Rule) (p q : Path) → rule_order rule p ≡ Greater → path_cmp p q ≡ Greater → rule_order rule q ≡ Greater
greater_greater (OnePath named) p q first second = greater_from_less q named (path_total.trans q p named (less_from_greater p q second) (less_from_greater named p first))
greater_greater (LastName pattern) p q first second = refl

-- what stands at a place of the order after a rule was put into it: what stood there, the rule, or what stood one before
data Shifted (rules : List Rule) (order : List ℕ) (rule : Rule) (place k : ℕ) (now : Rule) : Type 0 where
  lower : k < place → now ≡ rule_at rules order k → Shifted rules order rule place k now
  put : k ≡ place → now ≡ rule → Shifted rules order rule place k now
  higher : (m : ℕ) → k ≡ m + 1 → place ≤ m → m < length order → now ≡ rule_at rules order m → Shifted rules order rule place k now

-- a rule at its place
pub order_more : (rules : List Rule) (order : List ℕ) (rule : Rule) (new : Path) (place : ℕ) → IsOrder rules order → rule ≡ OnePath new → IsPlace rules order new place
    → IsOrder (rules ++ rule ∷ []) (insert order place (length rules))
order_more rules order rule new place ordered is_new at = record {
  within = λ k inside. within k inside (cases_lt k place) (cases_eq k place);
  less = λ j k path before inside is. less j k path before (rule_now j) (rule_now k) (shifted j (omega arith)) (shifted k inside) is;
  greater = λ j k path before inside is. greater j k path before (rule_now j) (rule_now k) (shifted j (omega arith)) (shifted k inside) is;
  whole = λ i path d inside is. whole i path d inside is (cases_lt i (length rules));
}
  where
    count : length (insert order place (length rules)) ≡ length order + 1
    count = length-insert order place (length rules) at.within

    rule_now : ℕ → Rule
    rule_now k = rule_at (rules ++ rule ∷ []) (insert order place (length rules)) k

    at_new : (k : ℕ) → k ≡ place → rule_at (rules ++ rule ∷ []) (insert order place (length rules)) k ≡ rule
    at_new k same =
        ap (λ z. get_or (rules ++ rule ∷ []) (get_or (insert order place (length rules)) z 0) (LastName [])) same
        ∙ ap (λ z. get_or (rules ++ rule ∷ []) z (LastName [])) (get_or-insert_at order place (length rules) 0 at.within)
        ∙ get_or_push rules rule (LastName []) (length rules) refl

    at_lower : (k : ℕ) → k < place → rule_at (rules ++ rule ∷ []) (insert order place (length rules)) k ≡ rule_at rules order k
    at_lower k low =
        ap (λ z. get_or (rules ++ rule ∷ []) z (LastName [])) (get_or-insert_below order place (length rules) 0 k low at.within) ∙ stays rules order rule k ordered (omega (arith, at.within))

    at_higher : (m : ℕ) → place ≤ m → m < length order → rule_at (rules ++ rule ∷ []) (insert order place (length rules)) (m + 1) ≡ rule_at rules order m
    at_higher m high inside = ap (λ z. get_or (rules ++ rule ∷ []) z (LastName [])) (get_or-insert_above order place (length rules) 0 m high at.within) ∙ stays rules order rule m ordered inside

    shifted : (k : ℕ) → k < length (insert order place (length rules)) → Shifted rules order rule place k (rule_at (rules ++ rule ∷ []) (insert order place (length rules)) k)
    shifted k inside = elim (cases_lt k place) [
      | inl low ↦ lower low (at_lower k low)
      | inr high ↦ elim (cases_eq k place) [
        | inl same ↦ put same (at_new k same)
        | inr differ ↦
            let up : k ≡ (k - 1) + 1 = omega arith in
            higher (k - 1) up (omega arith) (omega (arith, count))
            (ap (λ z. rule_at (rules ++ rule ∷ []) (insert order place (length rules)) z) up ∙ at_higher (k - 1) (omega arith) (omega (arith, count)))
      ]
    ]

    within : (k : ℕ) → k < length (insert order place (length rules)) → (k < place) ⊎ (place ≤ k) → (k ≡ place) ⊎ (k ≢ place)
        → get_or (insert order place (length rules)) k 0 < length (rules ++ rule ∷ [])
    within k inside (inl low) same =
        let old : get_or order k 0 < length rules = ordered.within k (omega (arith, at.within)) in
        omega (arith, old, get_or-insert_below order place (length rules) 0 k low at.within, length_push rules rule)
    within k inside (inr high) (inl same) =
        omega (arith, ap (λ z. get_or (insert order place (length rules)) z 0) same, get_or-insert_at order place (length rules) 0 at.within, length_push rules rule)
    within k inside (inr high) (inr differ) =
        let up : (k - 1) + 1 ≡ k = omega arith in
        let old : get_or order (k - 1) 0 < length rules = ordered.within (k - 1) (omega (arith, count)) in
        let moved : get_or (insert order place (length rules)) ((k - 1) + 1) 0 ≡ get_or order (k - 1) 0 = get_or-insert_above order place (length rules) 0 (k - 1) (omega arith) at.within in
        omega (arith, old, moved, ap (λ z. get_or (insert order place (length rules)) z 0) up, length_push rules rule)

    of : (path : Path) (x y : Rule) → x ≡ y → rule_order x path ≡ rule_order y path
    of path x y e = ap (λ z. rule_order z path) e

    new_at : (path : Path) (now : Rule) → now ≡ rule → rule_order now path ≡ path_cmp new path
    new_at path now e = ap (λ z. rule_order z path) (e ∙ is_new)

    less : (j k : ℕ) (path : Path) → j < k → (x y : Rule) → Shifted rules order rule place j x → Shifted rules order rule place k y → rule_order y path ≡ Less → rule_order x path ≡ Less
    less j k path before x y (lower low is_x) (lower high is_y) is =
        of path x (rule_at rules order j) is_x ∙ ordered.less j k path before (omega (arith, at.within)) (sym (of path y (rule_at rules order k) is_y) ∙ is)
    less j k path before x y (lower low is_x) (put same is_y) is = of path x (rule_at rules order j) is_x ∙ less_less (rule_at rules order j) new path (at.less j low) (sym (new_at path y is_y) ∙ is)
    less j k path before x y (lower low is_x) (higher m up high inside is_y) is =
        of path x (rule_at rules order j) is_x ∙ ordered.less j m path (omega arith) inside (sym (of path y (rule_at rules order m) is_y) ∙ is)
    less j k path before x y (put same is_x) (lower high is_y) is = absurd (omega arith)
    less j k path before x y (put same is_x) (put same_k is_y) is = absurd (omega arith)
    less j k path before x y (put same is_x) (higher m up high inside is_y) is =
        new_at path x is_x ∙ greater_less (rule_at rules order m) new path (at.greater m high inside) (sym (of path y (rule_at rules order m) is_y) ∙ is)
    less j k path before x y (higher n up_j high_j inside_j is_x) (lower high is_y) is = absurd (omega arith)
    less j k path before x y (higher n up_j high_j inside_j is_x) (put same_k is_y) is = absurd (omega arith)
    less j k path before x y (higher n up_j high_j inside_j is_x) (higher m up high inside is_y) is =
        of path x (rule_at rules order n) is_x ∙ ordered.less n m path (omega arith) inside (sym (of path y (rule_at rules order m) is_y) ∙ is)

    greater : (j k : ℕ) (path : Path) → j < k → (x y : Rule) → Shifted rules order rule place j x → Shifted rules order rule place k y → rule_order x path ≡ Greater → rule_order y path ≡ Greater
    greater j k path before x y (lower low is_x) (lower high is_y) is =
        of path y (rule_at rules order k) is_y ∙ ordered.greater j k path before (omega (arith, at.within)) (sym (of path x (rule_at rules order j) is_x) ∙ is)
    greater j k path before x y (lower low is_x) (put same is_y) is =
        new_at path y is_y ∙ less_greater (rule_at rules order j) new path (at.less j low) (sym (of path x (rule_at rules order j) is_x) ∙ is)
    greater j k path before x y (lower low is_x) (higher m up high inside is_y) is =
        of path y (rule_at rules order m) is_y ∙ ordered.greater j m path (omega arith) inside (sym (of path x (rule_at rules order j) is_x) ∙ is)
    greater j k path before x y (put same is_x) (lower high is_y) is = absurd (omega arith)
    greater j k path before x y (put same is_x) (put same_k is_y) is = absurd (omega arith)
    greater j k path before x y (put same is_x) (higher m up high inside is_y) is =
        of path y (rule_at rules order m) is_y ∙ greater_greater (rule_at rules order m) new path (at.greater m high inside) (sym (new_at path x is_x) ∙ is)
    greater j k path before x y (higher n up_j high_j inside_j is_x) (lower high is_y) is = absurd (omega arith)
    greater j k path before x y (higher n up_j high_j inside_j is_x) (put same_k is_y) is = absurd (omega arith)
    greater j k path before x y (higher n up_j high_j inside_j is_x) (higher m up high inside is_y) is =
        of path y (rule_at rules order m) is_y ∙ ordered.greater n m path (omega arith) inside (sym (of path x (rule_at rules order n) is_x) ∙ is)

    moved_to : (k : ℕ) (path : Path) → k < length order → rule_at rules order k ≡ OnePath path
        → (i : ℕ) × (i < length (insert order place (length rules))) × (rule_at (rules ++ rule ∷ []) (insert order place (length rules)) i ≡ OnePath path)
    moved_to k path inside is = elim (cases_lt k place) [
      | inl low ↦ (k, omega (arith, count), at_lower k low ∙ is)
      | inr high ↦ (k + 1, omega (arith, count), at_higher k high inside ∙ is)
    ]

    whole : (i : ℕ) (path : Path) (d : Rule) → i < length (rules ++ rule ∷ []) → get_or (rules ++ rule ∷ []) i d ≡ OnePath path → (i < length rules) ⊎ (length rules ≤ i)
        → (k : ℕ) × (k < length (insert order place (length rules))) × (rule_at (rules ++ rule ∷ []) (insert order place (length rules)) k ≡ OnePath path)
    whole i path d inside is (inl before) =
        let found = ordered.whole i path d before (sym (get_or_append_left rules (rule ∷ []) d i before) ∙ is) in moved_to found.0 path found.1 found.2
    whole i path d inside is (inr last) =
        (place, omega (arith, count, at.within), at_new place refl ∙ sym (get_or_push rules rule d i (omega (arith, length_push rules rule))) ∙ is)

-- ---- what a search tells

pub there_names : (rules : List Rule) (order : List ℕ) (path : Path) (place : ℕ) → IsThere rules order path place → rule_at rules order place ≡ OnePath path
there_names rules order path place there = go (rule_at rules order place) there.same
  where
    go : (rule : Rule) → rule_order rule path ≡ Equal → rule ≡ OnePath path
    go (OnePath named) e = ap OnePath (tied_paths named path e)
    go (LastName pattern) e = absurd (cc e)

-- where the path would go, no rule of it stands
pub none_there : (rules : List Rule) (order : List ℕ) (path : Path) (place : ℕ) → IsOrder rules order → IsPlace rules order path place
    → (i : ℕ) (d : Rule) → i < length rules → get_or rules i d ≢ OnePath path
none_there rules order path place ordered at i d inside is = go (ordered.whole i path d inside is)
  where
    differs : (k : ℕ) (o : Ordering) → o ≢ Equal → rule_order (rule_at rules order k) path ≡ o → rule_at rules order k ≡ OnePath path → ⊥
    differs k o other e same = other (sym e ∙ ap (λ z. rule_order z path) same ∙ path_itself path)

    go : (k : ℕ) × (k < length order) × (rule_at rules order k ≡ OnePath path) → ⊥
    go (k, within, same) = elim (cases_lt k place) [
      | inl low ↦ differs k Less (λ e. cc) (at.less k low) same
      | inr high ↦ differs k Greater (λ e. cc) (at.greater k high within) same
    ]
