-- Assemblies that are filled by the pieces of a commit, over a tree that its folder tells.
use Rattle.std.proofs.Common.{◌≡◌, ◌≢◌, ◌⊎◌, ℕ, zero, suc, ◌+◌, ◌%◌, ◌<◌, ◌≤◌, Bool, true, false, cond, List, [], ◌∷◌, ◌++◌, length, map, take, drop, get_or, sym, refl, ap, ap₂, ◌∙◌, subst, inl, inr, ⊎_elim, arith}
use Rattle.std.specs.List.{AllByRecursion}
use Rattle.std.specs.Prelude.{Contains, AllPairs, slice_index_or}
use Rattle.std.proofs.lemmas.Bool.{cases_lt}
use Rattle.std.proofs.lemmas.List.{take_all, length-take}
use Rattle.ts_name.specs.Paths.{Path, IsAbove, IsPath, same_path}
use Rattle.ts_model.specs.Trees.{Tree, Listing, Ascend, IsSubListing, listed, print_of, stamp_of, stamped}
use Rattle.ts_model.specs.Sync.{Snapshot, replica}
use Rattle.ts_model.specs.Plans.{KindIs, Copies, IsRange, Valid, piece_size}
use Rattle.ts_model.specs.declared.plan.Entry.{Entry}
use Rattle.ts_model.specs.declared.plan.Side.{Side}
use Rattle.ts_model.specs.declared.plan.Kind.{Kind}
use Rattle.ts_model.specs.declared.plan.Kind.TheVariants.{Piece}
use Rattle.ts_model.specs.declared.plan.Plan.{Plan}
use Rattle.ts_model.specs.declared.row.Content.{Content}
use Rattle.ts_model.specs.declared.row.Content.TheVariants.{Absent, Dir, File}
use Rattle.ts_model.specs.declared.row.Stamp.{Stamp}
use Rattle.ts_laws.proofs.Lists.{Among, Among-left, Among-last, Among-push_cases}
use Rattle.ts_laws.proofs.Steps.{same_kind}
use Rattle.ts_stage.specs.Assemblies.{begun, begun_rows, more, with_more}
use Rattle.ts_print.specs.Prints.{stamped_rows}
use Rattle.ts_stage.proofs.Assembling.{KeepsKinds, listed-changed}
use Rattle.ts_print.proofs.Stamping.{ascend-stamped, listed-stamped}
use Rattle.ts_check.specs.Pieces.{IsEarlierPiece}
use Rattle.ts_exec.proofs.Rows.{among_take}
use Rattle.ts_exec.proofs.Ranges.{aligned_end, earlier_offset, end_before, lawful, no_gap, offset_in, path_in, range_within, same_bytes, size_in, some_bytes}
use Rattle.ts_model.proofs.Rows.{stamped_absent}
use Rattle.ts_name.proofs.Basics.{take_part}
use Rattle.ts_model.proofs.Listings.{one_listed}

-- ---- rows whose files have these bytes

abbrev pub filled : List ℕ → Content Stamp → Content (List ℕ)
filled bytes Absent = Absent
filled bytes Dir = Dir
filled bytes (File stamp) = File bytes

abbrev pub filled_rows : (Path → List ℕ) → Listing Stamp → Listing (List ℕ)
filled_rows had rows = map (λ row. record { path = row.path; content = filled (had row.path) row.content }) rows

filled_there : (had : List ℕ) (x : Content Stamp) → filled had x ≡ Absent → x ≡ Absent
filled_there had Absent e = refl
filled_there had Dir e = cc
filled_there had (File stamp) e = cc

keeps-filled : (had : Path → List ℕ) → KeepsKinds (λ p (x : Content Stamp). filled (had p) x)
keeps-filled had = record { absent = λ p. refl; dir = λ p. refl; there = λ p x e. filled_there (had p) x e }

pub listed-filled : (had : Path → List ℕ) (rows : Listing Stamp) (p : Path) → listed (filled_rows had rows) p ≡ filled (had p) (listed rows p)
listed-filled had rows p = listed-changed (λ p (x : Content Stamp). filled (had p) x) (keeps-filled had) rows p

pub begun_filled : (rows : Listing Stamp) → begun_rows rows ≡ filled_rows (λ p. []) rows
begun_filled [] = refl
begun_filled (row ∷ rows) = ap₂ (λ x xs. record { path = row.path; content = x } ∷ xs) (each row.content) (begun_filled rows)
  where
    each : (x : Content Stamp) → begun x ≡ filled [] x
    each Absent = refl
    each Dir = refl
    each (File stamp) = refl

abbrev pub with_bytes : Path → Path → List ℕ → (Path → List ℕ) → Path → List ℕ
with_bytes top path bytes had rest = cond (same_path (top ++ rest) path) (had rest ++ bytes) (had rest)

pub more_filled : (top path : Path) (bytes : List ℕ) (had : Path → List ℕ) (rows : Listing Stamp) → with_more top path bytes (filled_rows had rows) ≡ filled_rows (with_bytes top path bytes had) rows
more_filled top path bytes had [] = refl
more_filled top path bytes had (row ∷ rows) =
    ap₂ (λ x xs. record { path = row.path; content = x } ∷ xs) (each (same_path (top ++ row.path) path) (had row.path) row.content) (more_filled top path bytes had rows)
  where
    each : (b : Bool) (had : List ℕ) (x : Content Stamp) → cond b (more bytes (filled had x)) (filled had x) ≡ filled (cond b (had ++ bytes) had) x
    each true had Absent = refl
    each true had Dir = refl
    each true had (File stamp) = refl
    each false had Absent = refl
    each false had Dir = refl
    each false had (File stamp) = refl

-- ---- rows stand as those that were filled

ascend_of_filled : (had : Path → List ℕ) (rows : Listing Stamp) → Ascend (filled_rows had rows) → Ascend rows
ascend_of_filled had [] h = tt
ascend_of_filled had (row ∷ []) h = tt
ascend_of_filled had (row ∷ next ∷ rows) h = (h.0, ascend_of_filled had (next ∷ rows) h.1)

there_of_filled : (had : Path → List ℕ) (rows : Listing Stamp) → AllByRecursion (λ row. IsPath row.path × (row.content ≢ Absent)) (filled_rows had rows) → AllByRecursion (λ row. row.content ≢ Absent) rows
there_of_filled had [] h = tt
there_of_filled had (row ∷ rows) h = ((λ e. h.0.1 (ap (filled (had row.path)) e)), there_of_filled had rows h.1)

there_stamped : (rows : Listing (List ℕ)) → AllByRecursion (λ row. IsPath row.path × (row.content ≢ Absent)) rows → AllByRecursion (λ row. row.content ≢ Absent) (stamped_rows rows)
there_stamped [] h = tt
there_stamped (row ∷ rows) h = ((λ e. h.0.1 (stamped_absent row.content e)), there_stamped rows h.1)

-- a filled row has its stamp where its bytes are the file's
filled_stamp : (had : List ℕ) (x : Content (List ℕ)) → ((bytes : List ℕ) → x ≡ File bytes → had ≡ bytes) → stamped (filled had (stamped x)) ≡ stamped x
filled_stamp had Absent same = refl
filled_stamp had Dir same = refl
filled_stamp had (File bytes) same = ap (λ z. File (stamp_of z)) (same bytes refl)

-- and is then the tree's content
pub filled_content : (had : List ℕ) (x : Content (List ℕ)) → ((bytes : List ℕ) → x ≡ File bytes → had ≡ bytes) → filled had (stamped x) ≡ x
filled_content had Absent same = refl
filled_content had Dir same = refl
filled_content had (File bytes) same = ap File (same bytes refl)

-- rows that are filled with a tree's bytes have its stamps
pub whole_rows : (had : Path → List ℕ) (rows : Listing Stamp) (tree : Tree) → IsSubListing (filled_rows had rows) → ((p : Path) → listed rows p ≡ stamped (tree p)) → ((p : Path) (bytes : List ℕ) → tree p ≡ File bytes → had p ≡ bytes)
    → stamped_rows (filled_rows had rows) ≡ rows
whole_rows had rows tree stand print same = one_listed (stamped_rows (filled_rows had rows)) rows
    (ascend-stamped (filled_rows had rows) stand.ascending) (ascend_of_filled had rows stand.ascending) (there_stamped (filled_rows had rows) stand.rows_are) (there_of_filled had rows stand.rows_are)
    (λ p. listed-stamped (filled_rows had rows) p ∙ ap stamped (listed-filled had rows p) ∙ ap (λ z. stamped (filled (had p) z)) (print p) ∙ filled_stamp (had p) (tree p) (same p) ∙ sym (print p))

-- ---- members of a list that grows

among_front : (n i k : ℕ) (xs : List ℕ) → i < n → i < length xs → slice_index_or xs i k ≡ k → Among k (take n xs)
among_front zero i k xs l h e = absurd (omega arith)
among_front (suc n) i k [] l h e = absurd (omega arith)
among_front (suc n) zero k (x ∷ xs) l h e = inl e
among_front (suc n) (suc i) k (x ∷ xs) l h e = inr (among_front n i k xs (omega arith) (omega arith) e)

same_place : (i k d : ℕ) (xs : List ℕ) → i < length xs → get_or xs i k ≡ k → get_or xs i d ≡ k
same_place i k d [] l e = absurd (omega arith)
same_place zero k d (x ∷ xs) l e = e
same_place (suc i) k d (x ∷ xs) l e = same_place i k d xs (omega arith) e

-- ---- lists of bytes

-- ---- what pieces of one entry have put of a file

pub record HasPieces (plan : Plan) (e : ℕ) (tree : Tree) (ks : List ℕ) (p : Path) (had : List ℕ) : Type 0 where
  -- a beginning of the file
  pub begins : (bytes : List ℕ) → tree p ≡ File bytes → had ≡ take (length had) bytes
  -- that ends where the last of these pieces does
  pub reaches : (k offset size : ℕ) → Among k ks → KindIs plan k (Piece e offset size p) → offset + size ≤ length had
  pub ends : (length had ≡ 0) ⊎ ((k offset size : ℕ) × Among k ks × KindIs plan k (Piece e offset size p) × (length had ≡ offset + size))

pub put_nothing : (plan : Plan) (e : ℕ) (tree : Tree) (p : Path) → HasPieces plan e tree [] p []
put_nothing plan e tree p = record { begins = λ bytes there. refl; reaches = λ k offset size h kind. absurd h; ends = inl refl }

module _ (s : Snapshot) (plan : Plan) (valid : Valid s plan) (e : ℕ) (entry : Entry) (from : Side) (copied : Copies plan e entry from)
    (tree : Tree) (print : print_of tree ≡ replica s from) where
  -- what was put ends with its file, or where a range begins
  put_aligned : (ks : List ℕ) (p : Path) (had bytes : List ℕ) → HasPieces plan e tree ks p had → tree p ≡ File bytes → length had < length bytes → length had % piece_size ≡ 0
  put_aligned ks p had bytes put there less = ⊎_elim
      (λ (z : length had ≡ 0). omega arith)
      (λ (h : (k offset size : ℕ) × Among k ks × KindIs plan k (Piece e offset size p) × (length had ≡ offset + size)).
      let c = lawful s plan valid e entry from copied tree print h.0 h.1 h.2 p h.4 in
      let range : IsRange (length bytes) h.1 h.2 = subst (λ (z : List ℕ). IsRange (length z) h.1 h.2) (same_bytes (tree p) c.0 bytes c.1 there) c.2.0 in
      let is = h.5 in
      let end = aligned_end (length bytes) h.1 h.2 range (omega arith) in omega arith)
      put.ends

  -- where all pieces of the entry are put, each file is whole
  pub put_all : (ks : List ℕ) → ((k offset size : ℕ) (p : Path) → KindIs plan k (Piece e offset size p) → Among k ks) → (p : Path) (had bytes : List ℕ) → HasPieces plan e tree ks p had
      → tree p ≡ File bytes → IsAbove entry.path p → had ≡ bytes
  put_all ks all p had bytes put there above = ⊎_elim
      (λ (less : length had < length bytes). absurd (no_gap s plan valid e entry from copied tree print p bytes (length had) there above (put_aligned ks p had bytes put there less) less (λ k size kind.
      let c = lawful s plan valid e entry from copied tree print k (length had) size p kind in
      let some = some_bytes (length c.0) (length had) size c.2.0 in
      let end = put.reaches k (length had) size (all k (length had) size p kind) kind in omega arith)))
      (λ (h : length bytes ≤ length had). put.begins bytes there ∙ take_all (length had) bytes h)
      (cases_lt (length had) (length bytes))

  module _ (xs : List ℕ) (order : AllPairs (IsEarlierPiece plan) xs) (all : (k offset size : ℕ) (p : Path) → KindIs plan k (Piece e offset size p) → Contains xs k)
      (n : ℕ) (within : n < length xs) (k : ℕ) (here : get_or xs n k ≡ k) (offset size : ℕ) (path : Path) (kind : KindIs plan k (Piece e offset size path)) where
    -- what was put before doesn't reach past the next piece
    not_past : (had bytes : List ℕ) → HasPieces plan e tree (take n xs) path had → tree path ≡ File bytes → IsRange (length bytes) offset size → length had ≤ offset
    not_past had bytes put there range = ⊎_elim
        (λ (z : length had ≡ 0). omega arith)
        (λ (h : (l o z : ℕ) × Among l (take n xs) × KindIs plan l (Piece e o z path) × (length had ≡ o + z)).
        let at = among_take n xs h.0 h.3 in
        let before : IsEarlierPiece plan h.0 k = subst (λ (z : ℕ). IsEarlierPiece plan z k) (at.3 k) (subst (λ (z : ℕ). IsEarlierPiece plan (get_or xs at.0 k) z) here (order at.0 n k at.1 within)) in
        let c = lawful s plan valid e entry from copied tree print h.0 h.1 h.2 path h.4 in
        let one : IsRange (length bytes) h.1 h.2 = subst (λ (z : List ℕ). IsRange (length z) h.1 h.2) (same_bytes (tree path) c.0 bytes c.1 there) c.2.0 in
        let less = earlier_offset plan h.0 k e h.1 h.2 e offset size path before h.4 kind in
        let end = end_before (length bytes) h.1 h.2 offset size one range less in
        let is = h.5 in omega arith)
        put.ends

    -- nor does it end before it
    not_short : (had bytes : List ℕ) → HasPieces plan e tree (take n xs) path had → tree path ≡ File bytes → IsRange (length bytes) offset size → IsAbove entry.path path → ¬ (length had < offset)
    not_short had bytes put there range above less =
        let w = range.within in
        no_gap s plan valid e entry from copied tree print path bytes (length had) there above (put_aligned (take n xs) path had bytes put there (omega arith)) (omega arith) (λ l z other.
        let at = all l (length had) z path other in
        let c = lawful s plan valid e entry from copied tree print l (length had) z path other in
        let some = some_bytes (length c.0) (length had) z c.2.0 in
        ⊎_elim
        (λ (b : at.0 < n). let end = put.reaches l (length had) z (among_front n at.0 l xs b at.1 at.2) other in absurd (omega arith))
        (λ (b : n ≤ at.0). ⊎_elim
        (λ (later : n < at.0).
        let at_l : get_or xs at.0 k ≡ l = same_place at.0 l k xs at.1 at.2 in
        let after : IsEarlierPiece plan k l = subst (λ (z : ℕ). IsEarlierPiece plan z l) here (subst (λ (z : ℕ). IsEarlierPiece plan (get_or xs n k) z) at_l (order n at.0 k later at.1)) in
        let up = earlier_offset plan k l e offset size e (length had) z path after kind other in absurd (omega arith))
        (λ (not_later : at.0 ≤ n).
        let same : at.0 ≡ n = omega arith in
        let one : l ≡ k = sym at.2 ∙ ap (λ (z : ℕ). get_or xs z l) same ∙ same_place n k l xs within here in
        let offsets : ◌≡◌ {A = Kind} (Piece e (length had) z path) (Piece e offset size path) = same_kind plan k (Piece e (length had) z path) (Piece e offset size path) (subst (λ (m : ℕ). KindIs plan m (Piece e (length had) z path)) one other) kind in
        let equal : length had ≡ offset = ap offset_in offsets in absurd (omega arith))
        (cases_lt n at.0))
        (cases_lt at.0 n))

    -- so it ends where the next piece begins
    pub put_so_far : (had : List ℕ) → HasPieces plan e tree (take n xs) path had → length had ≡ offset
    put_so_far had put =
        let c = lawful s plan valid e entry from copied tree print k offset size path kind in
        let past = not_past had c.0 put c.1 c.2.0 in
        ⊎_elim (λ (less : length had < offset). absurd (not_short had c.0 put c.1 c.2.0 c.2.1 less)) (λ (l : offset ≤ length had). omega arith) (cases_lt (length had) offset)

  -- the next piece puts its range
  pub put_next : (ks : List ℕ) (k offset size : ℕ) (path : Path) (had bytes file : List ℕ) → KindIs plan k (Piece e offset size path) → HasPieces plan e tree ks path had → length had ≡ offset
      → tree path ≡ File file → bytes ≡ take size (drop offset file) → HasPieces plan e tree (ks ++ k ∷ []) path (had ++ bytes)
  put_next ks k offset size path had bytes file kind put long there is = record {
    begins = λ other at. (let same = same_bytes (tree path) file other there at in whole ∙ ap (λ (z : ℕ). take z file) (sym reach) ∙ ap (take (length (had ++ bytes))) same);
    reaches = λ l o z h other. ⊎_elim
        (λ (a : Among l ks). let r = put.reaches l o z a other in let full : length (had ++ bytes) ≡ offset + size = reach in omega arith)
        (λ (same : k ≡ l).
        let kinds : ◌≡◌ {A = Kind} (Piece e o z path) (Piece e offset size path) = same_kind plan k (Piece e o z path) (Piece e offset size path) (subst (λ (m : ℕ). KindIs plan m (Piece e o z path)) (sym same) other) kind in
        let a : o ≡ offset = ap offset_in kinds in let b : z ≡ size = ap size_in kinds in let full : length (had ++ bytes) ≡ offset + size = reach in omega arith)
        (Among-push_cases l ks k h);
    ends = inr (k, offset, size, Among-last k ks, kind, reach);
  }
    where
      whole : had ++ bytes ≡ take (offset + size) file
      whole = ap₂ ◌++◌ (put.begins file there ∙ ap (λ (z : ℕ). take z file) long) is ∙ take_part offset size file

      reach : length (had ++ bytes) ≡ offset + size
      reach =
          let c = lawful s plan valid e entry from copied tree print k offset size path kind in
          let fits = range_within (length c.0) offset size c.2.0 in
          let same = ap length (same_bytes (tree path) c.0 file c.1 there) in
          let t = length-take (offset + size) file in ap length whole ∙ t ∙ omega arith

  -- other files stay as they are
  pub put_other : (ks : List ℕ) (k offset size : ℕ) (path p : Path) (had : List ℕ) → KindIs plan k (Piece e offset size path) → p ≢ path → HasPieces plan e tree ks p had → HasPieces plan e tree (ks ++ k ∷ []) p had
  put_other ks k offset size path p had kind differ put = record {
    begins = put.begins;
    reaches = λ l o z h other. ⊎_elim
        (λ (a : Among l ks). put.reaches l o z a other)
        (λ (same : k ≡ l). absurd (differ (ap path_in (same_kind plan k (Piece e o z p) (Piece e offset size path) (subst (λ (m : ℕ). KindIs plan m (Piece e o z p)) (sym same) other) kind))))
        (Among-push_cases l ks k h);
    ends = ⊎_elim (λ (z : length had ≡ 0). inl z) (λ (h : (l o z : ℕ) × Among l ks × KindIs plan l (Piece e o z p) × (length had ≡ o + z)). inr (h.0, h.1, h.2, Among-left h.0 ks (k ∷ []) h.3, h.4, h.5)) put.ends;
  }
