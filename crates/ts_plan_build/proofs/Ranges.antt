-- The pieces of the files at and below a path: each is lawful, each lawful one is there, and once.
use Rattle.std.proofs.Common.{◌≡◌, ◌≢◌, ◌⊎◌, ℕ, zero, suc, ◌+◌, ◌-◌, ◌*◌, ◌/◌, ◌%◌, ◌<◌, min, Bool, true, false, cond, List, [], ◌∷◌, length, Option, Some, slice_get, refl, sym, ap, ◌∙◌, subst, inl, inr, arith}
use Rattle.std.proofs.Math.Nat.{mul-mod_left}
use Rattle.std.proofs.lemmas.Option.{none-some}
use Rattle.std.specs.Prelude.{filter}
use Rattle.ts_name.specs.Paths.{Path, IsAbove, IsBefore, below, same_path}
use Rattle.ts_model.specs.Trees.{Listing, listed, at, Ascend, IsListing}
use Rattle.ts_model.specs.Plans.{IsRange}
use Rattle.ts_model.specs.declared.row.Content.{Content}
use Rattle.ts_model.specs.declared.row.Content.TheVariants.{Absent, Dir, File}
use Rattle.ts_model.specs.declared.row.Row.{Row}
use Rattle.ts_model.specs.declared.row.Stamp.{Stamp}
use Rattle.ts_model.specs.declared.plan.Action.{Action}
use Rattle.ts_model.specs.declared.plan.Kind.TheVariants.{Piece}
use Rattle.ts_name.proofs.Order.{before_itself, before_trans}
use Rattle.ts_name.specs.Laws.{same_path_equal}
use Rattle.ts_table.specs.Tables.{is_above, rows_below}
use Rattle.ts_plan_build.specs.Blocks.{each_below, piece_count, piece_of, row_pieces, pieces_of}
use Rattle.ts_plan_build.proofs.Places.{get_right, get_cases, each_below_at, at_each_below}
use Rattle.ts_plan_build.proofs.Counting.{count_some, piece_within}
use Rattle.ts_plan_build.proofs.Inside.{IsPieceAt, pieces_at}
use Rattle.ts_model.proofs.Rows.{listed_here, listed_there}
use Rattle.ts_table.proofs.Listings.{is_above_gives, is_above_yes, at_row}
use Rattle.ts_name.proofs.Basics.{got_front}

-- ---- rows

-- each row comes before those after it
abbrev pub InOrder : List (Row Stamp) → Type 0
InOrder [] = Unit {0}
InOrder (row ∷ rows) = ((k : ℕ) (later : Row Stamp) → slice_get rows k ≡ Some later → IsBefore row.path later.path) × InOrder rows

in_order_from : (rows : List (Row Stamp)) → Ascend rows → InOrder rows
in_order_from [] h = tt
in_order_from (row ∷ []) h = (λ k later f. absurd (none-some later f), tt)
in_order_from (row ∷ next ∷ rows) h = let more = in_order_from (next ∷ rows) h.1 in (λ k later f. first k later f more, more)
  where
    first : (k : ℕ) (later : Row Stamp) → slice_get (next ∷ rows) k ≡ Some later → InOrder (next ∷ rows) → IsBefore row.path later.path
    first zero later f more = subst (λ (z : Row Stamp). IsBefore row.path z.path) (let g : Some next ≡ Some later = f in let g' : next ≡ later = cc in g') h.0
    first (suc k) later f more = before_trans row.path next.path later.path h.0 (more.0 k later f)

-- what is in a filtered list is in the list, and passes
pub record IsKept (test : Row Stamp → Bool) (rows : List (Row Stamp)) (row : Row Stamp) : Type 0 where
  pub place : ℕ
  pub there : slice_get rows place ≡ Some row
  pub passes : test row ≡ true

pub in_filter : (test : Row Stamp → Bool) (rows : List (Row Stamp)) (k : ℕ) (row : Row Stamp) → slice_get (filter test rows) k ≡ Some row → IsKept test rows row
in_filter test [] k row h = absurd (none-some row h)
in_filter test (x ∷ rows) k row h = go (test x) refl k h (λ i f. in_filter test rows i row f)
  where
    go : (b : Bool) → test x ≡ b → (k : ℕ) → slice_get (cond b (x ∷ filter test rows) (filter test rows)) k ≡ Some row → ((i : ℕ) → slice_get (filter test rows) i ≡ Some row → IsKept test rows row) → IsKept test (x ∷ rows) row
    go true is zero f more = record { place = 0; there = f; passes = subst (λ (z : Row Stamp). test z ≡ true) (let g : Some x ≡ Some row = f in let g' : x ≡ row = cc in g') is }
    go true is (suc k) f more = let found = more k f in record { place = suc found.place; there = found.there; passes = found.passes }
    go false is k f more = let found = more k f in record { place = suc found.place; there = found.there; passes = found.passes }

-- and the other way round
filter_has : (test : Row Stamp → Bool) (rows : List (Row Stamp)) (k : ℕ) (row : Row Stamp) → slice_get rows k ≡ Some row → test row ≡ true → (i : ℕ) × (slice_get (filter test rows) i ≡ Some row)
filter_has test [] k row h passes = absurd (none-some row h)
filter_has test (x ∷ rows) zero row h passes = (0, subst (λ (b : Bool). slice_get (cond b (x ∷ filter test rows) (filter test rows)) 0 ≡ Some row) (sym (ap test (let g : Some x ≡ Some row = h in let g' : x ≡ row = cc in g') ∙ passes)) h)
filter_has test (x ∷ rows) (suc k) row h passes = go (test x) refl (filter_has test rows k row h passes)
  where
    go : (b : Bool) → test x ≡ b → (i : ℕ) × (slice_get (filter test rows) i ≡ Some row) → (i : ℕ) × (slice_get (cond (test x) (x ∷ filter test rows) (filter test rows)) i ≡ Some row)
    go true is found = (suc found.0, subst (λ (b : Bool). slice_get (cond b (x ∷ filter test rows) (filter test rows)) (suc found.0) ≡ Some row) (sym is) found.1)
    go false is found = (found.0, subst (λ (b : Bool). slice_get (cond b (x ∷ filter test rows) (filter test rows)) found.0 ≡ Some row) (sym is) found.1)

-- a filter keeps the order
filter_order : (test : Row Stamp → Bool) (rows : List (Row Stamp)) → InOrder rows → InOrder (filter test rows)
filter_order test [] h = tt
filter_order test (x ∷ rows) h = go (test x) (filter_order test rows h.1)
  where
    go : (b : Bool) → InOrder (filter test rows) → InOrder (cond b (x ∷ filter test rows) (filter test rows))
    go true more = (λ k later f. let found = in_filter test rows k later f in h.0 found.place later found.there, more)
    go false more = more

-- what a row says is listed
listed_row : (rows : List (Row Stamp)) (k : ℕ) (row : Row Stamp) → InOrder rows → slice_get rows k ≡ Some row → listed rows row.path ≡ row.content
listed_row [] k row h f = absurd (none-some row f)
listed_row (x ∷ rows) zero row h f = let g : Some x ≡ Some row = f in subst (λ (z : Row Stamp). listed (x ∷ rows) z.path ≡ z.content) (let g' : x ≡ row = cc in g') (listed_here x rows)
listed_row (x ∷ rows) (suc k) row h f =
    listed_there x rows row.path (λ e. before_itself row.path (subst (λ (z : Path). IsBefore z row.path) e (h.0 k row f))) ∙ listed_row rows k row h.1 f

-- and what is listed is of a row
row_listed : (rows : List (Row Stamp)) (p : Path) (stamp : Stamp) → listed rows p ≡ File stamp → (k : ℕ) × (row : Row Stamp) × (slice_get rows k ≡ Some row) × (row.path ≡ p) × (row.content ≡ File stamp)
row_listed [] p stamp h = cc
row_listed (x ∷ rows) p stamp h = go (same_path x.path p) refl h (row_listed rows p stamp)
  where
    go : (b : Bool) → same_path x.path p ≡ b → cond b x.content (listed rows p) ≡ File stamp → (listed rows p ≡ File stamp → (k : ℕ) × (row : Row Stamp) × (slice_get rows k ≡ Some row) × (row.path ≡ p) × (row.content ≡ File stamp))
        → (k : ℕ) × (row : Row Stamp) × (slice_get (x ∷ rows) k ≡ Some row) × (row.path ≡ p) × (row.content ≡ File stamp)
    go true is f more = (0, x, refl, same_path_equal x.path p is, f)
    go false is f more = let found = more f in (suc found.0, found.1, found.2, found.3, found.4)

-- ---- lawful pieces

range_of : (size j : ℕ) → j < piece_count size → IsRange size (j * 1048576) (min 1048576 (size - j * 1048576))
range_of size j l = record { aligned = mul-mod_left j 1048576; within = piece_within size j l; full = refl }

-- each piece is of a file at or below the path, and a lawful range of it
pub record IsLawful (rows : Listing Stamp) (top : Path) (e offset len : ℕ) (p : Path) : Type 0 where
  pub stamp : Stamp
  pub above : IsAbove top p
  pub file : at rows p ≡ File stamp
  pub range : IsRange stamp.size offset len

piece_parts : (e offset len e' offset' len' : ℕ) (p p' : Path) → Piece e offset len p ≡ Piece e' offset' len' p' → (offset ≡ offset') × (len ≡ len') × (p ≡ p')
piece_parts e offset len e' offset' len' p p' f = (cc, cc, cc)

pub lawful_from : (rows : Listing Stamp) → IsListing rows → (top : Path) (x e offset len : ℕ) (p : Path) (a : Action) → IsPieceAt x (rows_below top rows) a → a.kind ≡ Piece e offset len p → IsLawful rows top e offset len p
lawful_from rows lists top x e offset len p a one k =
    let same = piece_parts _ _ _ _ _ _ _ _ (sym k ∙ ap (λ (z : Action). z.kind) one.is) in
    let kept = in_filter (λ row. is_above top row.path) rows one.place one.row one.among in
    record {
      stamp = one.stamp;
      above = subst (λ (z : Path). IsAbove top z) (sym same.2) (is_above_gives top one.row.path kept.passes);
      file = ap (at rows) same.2 ∙ at_row rows lists kept.place one.row kept.there ∙ one.file;
      range = subst (λ (o : ℕ). IsRange one.stamp.size o len) (sym same.0) (subst (λ (n : ℕ). IsRange one.stamp.size (one.number * 1048576) n) (sym same.1) (range_of one.stamp.size one.number one.within));
    }

-- ---- each lawful piece is there

-- the pieces of a row are among those of the rows
flat_has : (e : ℕ) (rows : List (Row Stamp)) (k t : ℕ) (row : Row Stamp) (a : Action) → slice_get rows k ≡ Some row → slice_get (row_pieces e row) t ≡ Some a → (j : ℕ) × (slice_get (pieces_of e rows) j ≡ Some a)
flat_has e [] k t row a h f = absurd (none-some row h)
flat_has e (x ∷ rows) zero t row a h f = (t, got_front (row_pieces e x) (pieces_of e rows) t a (subst (λ (z : Row Stamp). slice_get (row_pieces e z) t ≡ Some a) (let g : Some x ≡ Some row = h in let g' : row ≡ x = cc in g') f))
flat_has e (x ∷ rows) (suc k) t row a h f = let found = flat_has e rows k t row a h f in (length (row_pieces e x) + found.0, get_right (row_pieces e x) (pieces_of e rows) (length (row_pieces e x) + found.0) found.0 a refl found.1)

row_has : (e : ℕ) (row : Row Stamp) (stamp : Stamp) (t : ℕ) → row.content ≡ File stamp → t < piece_count stamp.size → slice_get (row_pieces e row) t ≡ Some (piece_of e row.path stamp.size t)
row_has e row stamp t f l =
    subst (λ (c : Content Stamp). slice_get (elim c [ Absent ↦ [] | Dir ↦ [] | File stamp ↦ each_below (piece_of e row.path stamp.size) (piece_count stamp.size) ]) t ≡ Some (piece_of e row.path stamp.size t)) (sym f)
    (each_below_at (piece_of e row.path stamp.size) (piece_count stamp.size) t l)

pub piece_there : (rows : Listing Stamp) (lists : IsListing rows) (top : Path) (e offset len : ℕ) (p : Path) (stamp : Stamp) → IsAbove top p → at rows p ≡ File stamp → IsRange stamp.size offset len
    → (j : ℕ) × (a : Action) × (other : ℕ) × (slice_get (pieces_of e (rows_below top rows)) j ≡ Some a) × (a.kind ≡ Piece e offset other p)
piece_there rows lists top e offset len p stamp above file range = go p refl
  where
    size_some : stamp.size ≢ 0
    size_some z = let l : offset < stamp.size = range.within in absurd (omega arith)

    number_within : offset / 1048576 < piece_count stamp.size
    number_within = let z : (stamp.size - 1) / 1048576 + 1 ≡ piece_count stamp.size = count_some stamp.size size_some in let l : offset < stamp.size = range.within in omega arith

    number_is : (offset / 1048576) * 1048576 ≡ offset
    number_is = let z : offset % 1048576 ≡ 0 = range.aligned in omega arith

    go : (q : Path) → p ≡ q → (j : ℕ) × (a : Action) × (other : ℕ) × (slice_get (pieces_of e (rows_below top rows)) j ≡ Some a) × (a.kind ≡ Piece e offset other p)
    go [] f = absurd (no_file (sym (ap (at rows) f) ∙ file))
      where
        no_file : Dir ≡ File stamp → ⊥
        no_file g = cc
    go (n ∷ q) f =
        let row = row_listed rows p stamp (subst (λ (z : Path). at rows z ≡ File stamp → listed rows z ≡ File stamp) (sym f) (λ h. h) file) in
        let kept = filter_has (λ r. is_above top r.path) rows row.0 row.1 row.2 (is_above_yes top row.1.path (subst (λ (z : Path). IsAbove top z) (sym row.3) above)) in
        let found = flat_has e (rows_below top rows) kept.0 (offset / 1048576) row.1 (piece_of e row.1.path stamp.size (offset / 1048576)) kept.1 (row_has e row.1 stamp (offset / 1048576) row.4 number_within) in (
          found.0,
          piece_of e row.1.path stamp.size (offset / 1048576),
          min 1048576 (stamp.size - (offset / 1048576) * 1048576),
          found.1,
          (λ i. Piece e (number_is i) (min 1048576 (stamp.size - (offset / 1048576) * 1048576)) (row.3 i)),
        )

-- ---- and once

row_once : (e : ℕ) (row : Row Stamp) (c : Content Stamp) → row.content ≡ c → (i j : ℕ) (a b : Action) → slice_get (row_pieces e row) i ≡ Some a → slice_get (row_pieces e row) j ≡ Some b
    → (offset len other : ℕ) (p : Path) → a.kind ≡ Piece e offset len p → b.kind ≡ Piece e offset other p → i ≡ j
row_once e row Absent f i j a b h g offset len other p k m = absurd (none-some a (subst (λ (c : Content Stamp). slice_get (elim c [ Absent ↦ [] | Dir ↦ [] | File stamp ↦ each_below (piece_of e row.path stamp.size) (piece_count stamp.size) ]) i ≡ Some a) f h))
row_once e row Dir f i j a b h g offset len other p k m = absurd (none-some a (subst (λ (c : Content Stamp). slice_get (elim c [ Absent ↦ [] | Dir ↦ [] | File stamp ↦ each_below (piece_of e row.path stamp.size) (piece_count stamp.size) ]) i ≡ Some a) f h))
row_once e row (File stamp) f i j a b h g offset len other p k m =
    let one = at_each_below (piece_of e row.path stamp.size) (piece_count stamp.size) i a (subst (λ (c : Content Stamp). slice_get (elim c [ Absent ↦ [] | Dir ↦ [] | File stamp ↦ each_below (piece_of e row.path stamp.size) (piece_count stamp.size) ]) i ≡ Some a) f h) in
    let two = at_each_below (piece_of e row.path stamp.size) (piece_count stamp.size) j b (subst (λ (c : Content Stamp). slice_get (elim c [ Absent ↦ [] | Dir ↦ [] | File stamp ↦ each_below (piece_of e row.path stamp.size) (piece_count stamp.size) ]) j ≡ Some b) f g) in
    let x : offset ≡ i * 1048576 = (piece_parts _ _ _ _ _ _ _ _ (sym k ∙ ap (λ (z : Action). z.kind) one.1)).0 in
    let y : offset ≡ j * 1048576 = (piece_parts _ _ _ _ _ _ _ _ (sym m ∙ ap (λ (z : Action). z.kind) two.1)).0 in
    omega arith

pub pieces_once : (e : ℕ) (rows : List (Row Stamp)) → InOrder rows → (i j : ℕ) (a b : Action) → slice_get (pieces_of e rows) i ≡ Some a → slice_get (pieces_of e rows) j ≡ Some b
    → (offset len other : ℕ) (p : Path) → a.kind ≡ Piece e offset len p → b.kind ≡ Piece e offset other p → i ≡ j
pieces_once e [] order i j a b h g offset len other p k m = absurd (none-some a h)
pieces_once e (row ∷ rows) order i j a b h g offset len other p k m =
    go (get_cases (row_pieces e row) (pieces_of e rows) i a h) (get_cases (row_pieces e row) (pieces_of e rows) j b g) (λ x y f f'. pieces_once e rows order.1 x y a b f f' offset len other p k m)
  where
    path_of : (xs : List (Row Stamp)) (c : Action) (n : ℕ) → c.kind ≡ Piece e offset n p → (one : IsPieceAt e xs c) → p ≡ one.row.path
    path_of xs c n is one = (piece_parts _ _ _ _ _ _ _ _ (sym is ∙ ap (λ (z : Action). z.kind) one.is)).2

    apart : (c d : Action) (n n' : ℕ) (x y : ℕ) → slice_get (row_pieces e row) x ≡ Some c → slice_get (pieces_of e rows) y ≡ Some d → c.kind ≡ Piece e offset n p → d.kind ≡ Piece e offset n' p → ⊥
    apart c d n n' x y f f' is is' =
        let one = pieces_at e (row ∷ []) x c (got_front (row_pieces e row) [] x c f) in
        let later = pieces_at e rows y d f' in
        let here : one.row ≡ row = only one.place one.row one.among in
        let before = order.0 later.place later.row later.among in
        before_itself later.row.path (subst (λ (z : Path). IsBefore z later.row.path) (sym (ap (λ (z : Row Stamp). z.path) here) ∙ sym (path_of (row ∷ []) c n is one) ∙ path_of rows d n' is' later) before)
      where
        only : (k : ℕ) (r : Row Stamp) → slice_get (row ∷ []) k ≡ Some r → r ≡ row
        only zero r f = let g : Some row ≡ Some r = f in cc
        only (suc k) r f = absurd (none-some r f)

    go : (slice_get (row_pieces e row) i ≡ Some a) ⊎ ((x : ℕ) × (i ≡ length (row_pieces e row) + x) × (slice_get (pieces_of e rows) x ≡ Some a))
        → (slice_get (row_pieces e row) j ≡ Some b) ⊎ ((x : ℕ) × (j ≡ length (row_pieces e row) + x) × (slice_get (pieces_of e rows) x ≡ Some b))
        → ((x y : ℕ) → slice_get (pieces_of e rows) x ≡ Some a → slice_get (pieces_of e rows) y ≡ Some b → x ≡ y) → i ≡ j
    go (inl f) (inl f') more = row_once e row row.content refl i j a b f f' offset len other p k m
    go (inl f) (inr f') more = absurd (apart a b len other i f'.0 f f'.2 k m)
    go (inr f) (inl f') more = absurd (apart b a other len j f.0 f' f.2 m k)
    go (inr f) (inr f') more = f.1 ∙ ap (λ (n : ℕ). length (row_pieces e row) + n) (more f.0 f'.0 f.2 f'.2) ∙ sym f'.1

-- the rows at and below a path stand in order
pub below_order : (rows : Listing Stamp) → IsListing rows → (top : Path) → InOrder (rows_below top rows)
below_order rows lists top = filter_order (λ row. is_above top row.path) rows (in_order_from rows lists.ascending)
