-- A file's bytes, read piece by piece.
use Rattle.std.proofs.Common.{◌≡◌, ℕ, ◌+◌, ◌<◌, ◌≤◌, ◌^◌, min, List, [], ◌++◌, length, take, drop, Option, Some, None, IfSome, refl, sym, ap, ap₂, ◌∙◌, subst, arith}
use Rattle.std.proofs.lemmas.List.{length-drop, length-take, drop-drop, take_min, take_all}
use Rattle.std.proofs.Math.Seq.{take-add}
use Rattle.ts_model.specs.declared.row.Content.{Content}
use Rattle.ts_model.specs.declared.row.Content.TheVariants.{Absent, Dir, File}
use Rattle.ts_model.specs.Texts.{FileFits, IsTreeBody}
use Rattle.ts_model.specs.Trees.{Listing, at}
use Rattle.ts_name.specs.Paths.{Path}
use Rattle.ts_tree.proofs.Parts.{fits_at}
use Rattle.ts_folder.specs.Folders.{Reads}

-- what follows for a value, if there is one, from two facts about it
pub some_both : {X : Type 0} (o : Option X) {P Q R : X → Type 0} → ((x : X) → P x → Q x → R x) → IfSome o P → IfSome o Q → IfSome o R
some_both None f p q = p
some_both (Some x) f p q = f x p q

bytes_of : Content (List ℕ) → List ℕ
bytes_of Absent = []
bytes_of Dir = []
bytes_of (File bytes) = bytes

-- a file has one list of bytes
same_file : {x : Content (List ℕ)} {a b : List ℕ} → x ≡ File a → x ≡ File b → a ≡ b
unfolding bytes_of
same_file e f = ap bytes_of (sym e ∙ f)

-- a part of which the length is known is the part of that length
part_by_length : (room n : ℕ) (ys : List ℕ) → length (take room ys) ≡ n → take room ys ≡ take n ys
part_by_length room n ys e = sym (take_min room ys) ∙ ap (λ m. take m ys) (sym (length-take room ys) ∙ e)

-- the bytes behind those that were read
pub reads_more : (x : Content (List ℕ)) (offset start room n : ℕ) (old new : List ℕ) → Reads x offset start old → Reads x (offset + start) room (take n (drop start new)) → take start new ≡ old → length (take n (drop start new)) ≡ n → Reads x offset (start + n) (take (start + n) new)
reads_more x offset start room n old new r s kept count = record { bytes = f; file = r.file; answered = answered }
  where
    f : List ℕ
    f = r.bytes

    behind : take n (drop start new) ≡ take n (drop start (drop offset f))
    behind =
        let piece : take n (drop start new) ≡ take room (drop (offset + start) f) = s.answered ∙ ap (λ b. take room (drop (offset + start) b)) (same_file s.file r.file) in
        piece ∙ part_by_length room n (drop (offset + start) f) (ap length (sym piece) ∙ count) ∙ ap (take n) (sym (drop-drop start offset f))

    answered : take (start + n) new ≡ take (start + n) (drop offset f)
    answered = take-add start n new ∙ ap₂ ◌++◌ (kept ∙ r.answered) behind ∙ sym (take-add start n (drop offset f))

-- bytes that came short are all that is left
pub reads_short : (x : Content (List ℕ)) (offset start room n wanted : ℕ) (old new : List ℕ) → Reads x offset start old → Reads x (offset + start) room (take n (drop start new)) → take start new ≡ old → length (take n (drop start new)) ≡ n → n < room → start + room ≤ wanted → length old ≡ start → Reads x offset wanted (take (start + n) new)
unfolding reads_more
reads_short x offset start room n wanted old new r s kept count short within full =
    let more = reads_more x offset start room n old new r s kept count in
    record { bytes = more.bytes; file = more.file; answered = more.answered ∙ take_all (start + n) left (omega (arith, size)) ∙ sym (take_all wanted left (omega (arith, size))) }
  where
    left : List ℕ
    left = drop offset r.bytes

    piece : take n (drop start new) ≡ take room (drop (offset + start) r.bytes)
    piece = s.answered ∙ ap (λ b. take room (drop (offset + start) b)) (same_file s.file r.file)

    -- the file ends where the piece does
    behind : length (drop (offset + start) r.bytes) ≡ n
    behind = omega (arith, length-take room (drop (offset + start) r.bytes), sym (ap length piece) ∙ count)

    front : min start (length left) ≡ start
    front = sym (length-take start left) ∙ sym (ap length r.answered) ∙ full

    size : length left ≡ start + n
    size = omega (arith, front, length-drop offset r.bytes, length-drop (offset + start) r.bytes, behind)

-- no file goes on past all numbers
pub reads_end : (x : Content (List ℕ)) (offset start wanted : ℕ) (old : List ℕ) → FileFits x → Reads x offset start old → length old ≡ start → 2 ^ 64 ≤ offset + start → offset < 2 ^ 64 → Reads x offset wanted old
reads_end x offset start wanted old fits r full past small =
    let file : FileFits (File r.bytes) = subst FileFits r.file fits in
    let front : min start (length (drop offset r.bytes)) ≡ start = sym (length-take start (drop offset r.bytes)) ∙ sym (ap length r.answered) ∙ full in
    absurd (omega (arith, file.1, front, length-drop offset r.bytes))

-- room was made behind the old bytes, n bytes were read into it, and what is behind these was cut off
pub record IsStep (offset place start room n : ℕ) (old made new cut : List ℕ) : Type 0 where
  pub full : length old ≡ start
  pub place_is : place ≡ offset + start
  pub begins : take start made ≡ old
  pub kept : take start new ≡ take start made
  pub size : length new ≡ start + room
  pub within : start + n ≤ start + room
  pub cut_is : cut ≡ take (start + n) new

step_kept : (offset place start room n : ℕ) (old made new cut : List ℕ) → IsStep offset place start room n old made new cut → take start new ≡ old
step_kept offset place start room n old made new cut step = step.kept ∙ step.begins

step_count : (offset place start room n : ℕ) (old made new cut : List ℕ) → IsStep offset place start room n old made new cut → length (take n (drop start new)) ≡ n
step_count offset place start room n old made new cut step =
    omega (arith, length-take n (drop start new), length-drop start new, step.size, step.within)

-- more of the file was read
pub step_reads : (told : Option (Listing (List ℕ))) (p : Path) (offset place start room n : ℕ) (old made new cut : List ℕ) → IsStep offset place start room n old made new cut → IfSome told (λ rows. Reads (at rows p) offset (length old) old) → IfSome told (λ rows. Reads (at rows p) place room (take n (drop start new))) → IfSome told (λ rows. Reads (at rows p) offset (length cut) cut)
step_reads told p offset place start room n old made new cut step before piece = some_both told go before piece
  where
    size : length (take (start + n) new) ≡ start + n
    size = omega (arith, length-take (start + n) new, step.size, step.within)

    go : (rows : Listing (List ℕ)) → Reads (at rows p) offset (length old) old → Reads (at rows p) place room (take n (drop start new)) → Reads (at rows p) offset (length cut) cut
    go rows r s =
        let r' : Reads (at rows p) offset start old = subst (λ m. Reads (at rows p) offset m old) step.full r in
        let s' : Reads (at rows p) (offset + start) room (take n (drop start new)) = subst (λ m. Reads (at rows p) m room (take n (drop start new))) step.place_is s in
        let both = reads_more (at rows p) offset start room n old new r' s' (step_kept offset place start room n old made new cut step) (step_count offset place start room n old made new cut step) in
        subst (λ l. Reads (at rows p) offset (length l) l) (sym step.cut_is) (subst (λ m. Reads (at rows p) offset m (take (start + n) new)) (sym size) both)

-- all of the file that is wanted was read
pub step_ends : (told : Option (Listing (List ℕ))) (p : Path) (offset place start room n wanted : ℕ) (old made new cut : List ℕ) → IsStep offset place start room n old made new cut → n < room → start + room ≤ wanted → IfSome told (λ rows. Reads (at rows p) offset (length old) old) → IfSome told (λ rows. Reads (at rows p) place room (take n (drop start new))) → IfSome told (λ rows. Reads (at rows p) offset wanted cut)
step_ends told p offset place start room n wanted old made new cut step short within before piece = some_both told go before piece
  where
    go : (rows : Listing (List ℕ)) → Reads (at rows p) offset (length old) old → Reads (at rows p) place room (take n (drop start new)) → Reads (at rows p) offset wanted cut
    go rows r s =
        let r' : Reads (at rows p) offset start old = subst (λ m. Reads (at rows p) offset m old) step.full r in
        let s' : Reads (at rows p) (offset + start) room (take n (drop start new)) = subst (λ m. Reads (at rows p) m room (take n (drop start new))) step.place_is s in
        subst (λ l. Reads (at rows p) offset wanted l) (sym step.cut_is)
        (reads_short (at rows p) offset start room n wanted old new r' s' (step_kept offset place start room n old made new cut step) (step_count offset place start room n old made new cut step) short within step.full)

-- no file goes on past all numbers, so all of it was read
pub ends_there : (told : Option (Listing (List ℕ))) (p : Path) (offset wanted : ℕ) (old : List ℕ) → 2 ^ 64 ≤ offset + length old → offset < 2 ^ 64 → IfSome told IsTreeBody → IfSome told (λ rows. Reads (at rows p) offset (length old) old) → IfSome told (λ rows. Reads (at rows p) offset wanted old)
ends_there told p offset wanted old past small lawful before = some_both told go lawful before
  where
    go : (rows : Listing (List ℕ)) → IsTreeBody rows → Reads (at rows p) offset (length old) old → Reads (at rows p) offset wanted old
    go rows body r = reads_end (at rows p) offset (length old) wanted old (fits_at rows body.files p) r refl past small
