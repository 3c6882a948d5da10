-- What was stored stays so while the run goes on, and a checkpoint adds to it.
use Rattle.std.proofs.Common.{◌≡◌, ℕ, Bool, List, [], ◌∷◌, ◌++◌, Some, None, sym, refl, ap, ◌∙◌, subst, append_assoc, append-nil, ⊎_elim}
use Rattle.std.proofs.lemmas.Bool.{true≢false}
use Rattle.ts_model.specs.Trees.{Listing}
use Rattle.ts_model.specs.Runs.{Run, finishes}
use Rattle.ts_model.specs.declared.row.Stamp.{Stamp}
use Rattle.ts_check.specs.Checkup.{Checkup}
use Rattle.ts_board.specs.Runs.{StartsWith}
use Rattle.ts_board.specs.Checkpoints.{IsCheckpoint}
use Rattle.ts_board.proofs.Checkpoints.{closed_later, still_has}
use Rattle.ts_exec.specs.Stores.{AreDone, AreOfParts, IsKept, IsOfPart, IsWithin, Keeps, StaysKept, Store, nothing}

module _ (k : Checkup) (run more : Run) (later : StartsWith more run) where
  of_part_later : (part : ℕ → Bool) (rows : Listing Stamp) → IsOfPart k run part rows → IsOfPart k more part rows
  of_part_later part rows of = record { closed = closed_later k.plan run more part later of.closed; archive = of.archive }

  parts_later : (below : ℕ → Bool) (list : List (Listing Stamp)) (last : ℕ → Bool) → AreOfParts k run below list last → AreOfParts k more below list last
  parts_later below [] last are = are
  parts_later below (rows ∷ list) last are = (are.0, are.1, of_part_later are.0 rows are.2, parts_later are.0 list last are.3)

  done_later : (part : ℕ → Bool) → AreDone k.plan run part → AreDone k.plan more part
  done_later part done i taken = let d = done i taken in (d.0, d.1, still_has run more (finishes i) later d.2)

  kept_later : (before after : Store) → IsKept k before run after → IsKept k before more after
  kept_later None after kept = kept
  kept_later (Some had) after kept = (kept.0, kept.1, kept.2, parts_later nothing kept.0 kept.1 kept.3, done_later kept.1 kept.4)

  -- nothing was stored meanwhile
  pub stays_same : (store : Store) → StaysKept k run store more store
  stays_same store before kept = kept_later before store kept

  -- what was done before is seen first
  pub stays_from : (last : Run) (old new : Store) → StaysKept k more old last new → StaysKept k run old last new
  stays_from last old new stays before kept = stays before (kept_later before old kept)

-- neither was changed
pub stays_still : (k : Checkup) (run more : Run) (old new : Store) → more ≡ run → new ≡ old → StaysKept k run old more new
stays_still k run more old new same stores =
    subst (λ (z : Run). StaysKept k run old z new) (sym same) (subst (λ (z : Store). StaysKept k run old run z) (sym stores) (λ before kept. kept))

-- what stays so until some moment, and from there on
pub stays_through : (k : Checkup) (run then last : Run) (old mid new : Store) → StaysKept k run old then mid → StaysKept k then mid last new → StaysKept k run old last new
stays_through k run then last old mid new first second before kept = second before (first before kept)

-- at the start nothing has been stored
pub nothing_kept : (k : Checkup) (store : Store) → IsKept k store [] store
nothing_kept k None = refl
nothing_kept k (Some had) = ([], nothing, ap Some (sym (append-nil had)), (λ i taken. taken), λ i taken. absurd (true≢false (sym taken)))

-- ---- one more

parts_more : (k : Checkup) (run : Run) (below : ℕ → Bool) (list : List (Listing Stamp)) (last part : ℕ → Bool) (rows : Listing Stamp) → AreOfParts k run below list last → IsWithin last part → IsOfPart k run part rows
    → AreOfParts k run below (list ++ rows ∷ []) part
parts_more k run below [] last part rows are within of = (part, (λ i taken. within i (are i taken)), of, λ i taken. taken)
parts_more k run below (first ∷ list) last part rows are within of = (are.0, are.1, are.2, parts_more k run are.0 list last part rows are.3 within of)

-- a checkpoint has each mark of those before it
pub checkpoint_kept : (k : Checkup) (run more : Run) → StartsWith more run → (rows : Listing Stamp) → IsCheckpoint k run more rows → (old new : Store) → Keeps old new rows → StaysKept k run old more new
checkpoint_kept k run more later rows of old new keeps None kept = go old kept keeps
  where
    go : (store : Store) → store ≡ None → Keeps store new rows → new ≡ None
    go None is keeps = keeps
    go (Some had) is keeps = cc
checkpoint_kept k run more later rows of old new keeps (Some had) kept = by_store old kept.2 keeps
  where
    some_same : (xs ys : List (Listing Stamp)) → ◌≡◌ {A = Store} (Some xs) (Some ys) → xs ≡ ys
    some_same xs ys is = cc

    so_far : AreOfParts k more nothing kept.0 kept.1
    so_far = parts_later k run more later nothing kept.0 kept.1 kept.3

    within : IsWithin kept.1 of.part
    within i taken = let d = kept.4 i taken in of.done i d.0 d.1 d.2

    by_store : (store : Store) → store ≡ Some (had ++ kept.0) → Keeps store new rows → IsKept k (Some had) more new
    by_store None is keeps = cc
    by_store (Some list) is keeps = ⊎_elim
        (λ (one : new ≡ Some (list ++ rows ∷ [])). (
          kept.0 ++ rows ∷ [],
          of.part,
          one ∙ ap (λ z. Some (z ++ rows ∷ [])) (some_same list (had ++ kept.0) is) ∙ ap Some (append_assoc had kept.0 (rows ∷ [])),
          parts_more k more nothing kept.0 kept.1 of.part rows so_far within (record { closed = of.closed; archive = of.archive }),
          λ i taken. (let mark = of.closed.marks i taken in (mark.0, mark.1, of.finished i taken)),
        ))
        (λ (same : new ≡ Some list). (kept.0, kept.1, same ∙ is, so_far, done_later k run more later kept.1 kept.4))
        keeps

-- ---- passes of workers

-- what a worker with a half of a pass has kept stays so when the halves are joined
pub joined_kept : (k : Checkup) (whole half worked joined : Run) (old new : Store) → half ≡ whole → StartsWith joined worked → StaysKept k half old worked new → StaysKept k whole old joined new
joined_kept k whole half worked joined old new same later kept =
    stays_through k whole worked joined old new new (subst (λ z. StaysKept k z old worked new) same kept) (stays_same k worked joined later new)
