use Rattle.std.proofs.Common.{◌≡◌, ◌↔◌, ◌+◌, ◌++◌, ◌∷◌, [], List, ◌<◌, ℕ, take, length, get_or, refl, sym, ap, ◌∙◌, subst, append_assoc, append-nil}
use Rattle.std.proofs.lemmas.List.{take_all}
use Rattle.ts_model.specs.Runs.{Run, Has, HasNot, IsPending, IsPieceOf, takes}
use Rattle.ts_model.specs.declared.plan.Plan.{Plan}
use Rattle.ts_model.specs.declared.step.Step.TheVariants.{Take}
use Rattle.ts_laws.proofs.Lists.{Contains-from_Among}
use Rattle.std.specs.Prelude.{Contains}
use Rattle.ts_model.specs.Trees.{at}
use Rattle.ts_board.specs.Calls.{mine, seen}
use Rattle.ts_board.specs.Runs.{StartsWith}
use Rattle.ts_exec.specs.Sharing.{setting_of}
use Rattle.ts_exec.proofs.Reading.{read_front, starts_after, starts_through}
use Rattle.ts_exec.proofs.Steps.{has_right}
use Rattle.ts_exec.proofs.Rows.{among_of_take, are_takes, contains_at, not_taken_yet, piece_within, taken_among, takes_for, takes_more, taking_pending}
use Rattle.ts_exec.proofs.Wholes.{IsFilled, filled_exact, filled_next, filled_start, filled_whole}
use Rattle.ts_exec.proofs.shared.Shared.take_all.Goals as goal
use Rattle.ts_laws.proofs.Cuts.{none_in_both}

-- the piece at hand, by what the checked plan says and by what the board was opened for
pub take-piece-requires-clause-piece : goal.take-piece-requires-clause-piece
take-piece-requires-clause-piece g c κs within =
    let j = c.args.self.now in let xs = c.pieces-pieces.result.now in let n = c.loop-k.k-index in
    let k = get_or xs n 0 in
    let h : n < length xs = c.loop-k-test.true in
    let here : IsPieceOf j.checked.now.plan c.action.result k = (c.pieces-pieces.ensures.pieces k).0 (contains_at xs n 0 h) in
    let same : c.action.result ≡ c.loop-k.held.action = c.action.ensures ∙ sym (ap (λ z. z.action) c.loop-k.invariant.held) in
    subst (λ (z : Plan). IsPieceOf z c.loop-k.held.action k) (sym j.plan) (subst (λ (z : ℕ). IsPieceOf j.checked.now.plan z k) same here)

pub take-piece-requires-clause-action : goal.take-piece-requires-clause-action
take-piece-requires-clause-action g c κs within =
    piece_within c.args.self.now.board.now.table.shared.key.plan.value c.loop-k.held.action (get_or c.pieces-pieces.result.now c.loop-k.k-index 0) (take-piece-requires-clause-piece g c κs within)

pub take-piece-requires-clause-held : goal.take-piece-requires-clause-held
take-piece-requires-clause-held g c κs within =
    let a = c.args.held.now.action in let inv = c.loop-k.invariant in let ks = take c.loop-k.k-index c.pieces-pieces.result.now in
    subst (λ (z : ℕ). IsPending (mine c.loop-k.pass) z) (sym (ap (λ z. z.action) inv.held))
    (subst (λ (z : Run). IsPending z a) (sym inv.steps) (taking_pending (mine c.args.pass.now) a ks c.requires.held))

pub take-piece-requires-clause-untaken : goal.take-piece-requires-clause-untaken
take-piece-requires-clause-untaken g c κs within =
    let j = c.args.self.now in let a = c.args.held.now.action in let inv = c.loop-k.invariant in let xs = c.pieces-pieces.result.now in let n = c.loop-k.k-index in
    let k = get_or xs n 0 in
    let h : n < length xs = c.loop-k-test.true in
    let here : IsPieceOf j.checked.now.plan a k = subst (λ (z : ℕ). IsPieceOf j.checked.now.plan z k) c.action.ensures ((c.pieces-pieces.ensures.pieces k).0 (contains_at xs n 0 h)) in
    subst (λ (z : Run). HasNot z (takes k)) (sym inv.steps)
    (none_in_both (takes k) (mine c.args.pass.now) (takes_for a (take n xs)) (c.requires.untaken k here) (not_taken_yet j.checked.now.plan a n 0 xs c.pieces-pieces.ensures.order h))

pub add-requires-after_bounds : goal.add-requires-after_bounds
add-requires-after_bounds g c κs within =
    let xs = c.pieces-pieces.result.now in let n = c.loop-k.k-index in
    piece_within c.args.self.now.checked.now.plan c.action.result (get_or xs n 0) ((c.pieces-pieces.ensures.pieces (get_or xs n 0)).0 (contains_at xs n 0 c.loop-k-test.true))

pub returns-in_err-add-clause-steps : goal.returns-in_err-add-clause-steps
returns-in_err-add-clause-steps g c =
    let j = c.args.self.now in let a = c.args.held.now.action in let inv = c.loop-k.invariant in let xs = c.pieces-pieces.result.now in let n = c.loop-k.k-index in
    let k = get_or xs n 0 in let own = mine c.args.pass.now in
    let h : n < length xs = c.loop-k-test.true in
    let taken = c.take-piece.ensures.taken in
    let same : c.loop-k.held.action ≡ a = ap (λ z. z.action) inv.held in
    let all : mine c.take-piece.new.pass ≡ own ++ takes_for a (take (n + 1) xs) =
    taken.2 ∙ ap (λ (z : Run). z ++ Take c.loop-k.held.action k ∷ []) inv.steps ∙ ap (λ (z : ℕ). (own ++ takes_for a (take n xs)) ++ Take z k ∷ []) same
    ∙ append_assoc own (takes_for a (take n xs)) (Take a k ∷ []) ∙ ap (λ (z : Run). own ++ z) (sym (takes_more a n 0 xs h)) in (
      takes_for a (take (n + 1) xs),
      all,
      are_takes j.checked.now.plan a (take (n + 1) xs) (λ m at. subst (λ (z : ℕ). IsPieceOf j.checked.now.plan z m) c.action.ensures ((c.pieces-pieces.ensures.pieces m).0 (Contains-from_Among xs m (among_of_take (n + 1) xs m at)))),
    )

pub returns-clause-steps : goal.returns-clause-steps
returns-clause-steps g c =
    let j = c.args.self.now in let a = c.args.held.now.action in let xs = c.pieces-pieces.result.now in let n = c.loop-k.k-index in (
      takes_for a (take n xs),
      c.loop-k.invariant.steps,
      are_takes j.checked.now.plan a (take n xs) (λ m at. subst (λ (z : ℕ). IsPieceOf j.checked.now.plan z m) c.action.ensures ((c.pieces-pieces.ensures.pieces m).0 (Contains-from_Among xs m (among_of_take n xs m at)))),
    )

pub returns-clause-all : goal.returns-clause-all
returns-clause-all g c = λ k piece.
    let j = c.args.self.now in let a = c.args.held.now.action in let xs = c.pieces-pieces.result.now in let n = c.loop-k.k-index in
    let whole : take n xs ≡ xs = take_all n xs c.loop-k-test.false in
    let here = (c.pieces-pieces.ensures.pieces k).1 (subst (λ (z : ℕ). IsPieceOf j.checked.now.plan z k) (sym c.action.ensures) piece) in
    subst (λ (z : Run). Has z (takes k)) (sym c.loop-k.invariant.steps)
    (has_right (takes k) (mine c.args.pass.now) (takes_for a (take n xs)) (subst (λ (z : List ℕ). Has (takes_for a z) (takes k)) (sym whole) (taken_among a k xs here)))

pub loop-k-preserved : goal.loop-k-preserved
loop-k-preserved g c =
    let j = c.args.self.now in let a = c.args.held.now.action in let inv = c.loop-k.invariant in let xs = c.pieces-pieces.result.now in let n = c.loop-k.k-index in
    let k = get_or xs n 0 in let own = mine c.args.pass.now in let plan = j.checked.now.plan in
    let h : n < length xs = c.loop-k-test.true in
    let taken = c.take-piece.ensures.taken in let part_of = c.take-piece.ensures.pass.1 in
    let same : c.loop-k.held.action ≡ a = ap (λ z. z.action) inv.held in
    let later : StartsWith (seen c.take-piece.new.pass) (seen c.loop-k.pass) = starts_after (seen c.loop-k.pass) taken.0 (Take c.loop-k.held.action k ∷ []) (seen c.take-piece.new.pass) taken.1 in
    let x = setting_of g.S.Site g.F.Folder g.G.Stop g.P.Stage j in
    let pieces : (l : ℕ) → Contains xs l ↔ IsPieceOf plan a l = subst (λ (z : ℕ). (l : ℕ) → Contains xs l ↔ IsPieceOf plan z l) c.action.ensures c.pieces-pieces.ensures.pieces in record {
      pass = c.take-piece.ensures.pass.0;
      part = (part_of.0 ∙ inv.part.0, part_of.1 ∙ inv.part.1);
      later = starts_through (seen c.args.pass.now) (seen c.loop-k.pass) (seen c.take-piece.new.pass) inv.later later;
      steps =
          taken.2 ∙ ap (λ (z : Run). z ++ Take c.loop-k.held.action k ∷ []) inv.steps ∙ ap (λ (z : ℕ). (own ++ takes_for a (take n xs)) ++ Take z k ∷ []) same
          ∙ append_assoc own (takes_for a (take n xs)) (Take a k ∷ []) ∙ ap (λ (z : Run). own ++ z) (sym (takes_more a n 0 xs h));
      held = c.take-piece.ensures.held ∙ inv.held;
      wanted = c.add.ensures.wanted ∙ inv.wanted;
      filled = λ part of begun told read.
          filled_next x j.valid a part of told xs pieces c.pieces-pieces.ensures.order n h (seen c.take-piece.new.pass) c.take-piece.result.value read c.take-piece.ensures.bytes c.loop-k.staged c.add.new.staged
          (inv.filled part of begun told (read_front x (seen c.loop-k.pass) (seen c.take-piece.new.pass) later read)) c.in_ok-add.ensures.put (contains_at xs n 0 h);
    }

pub returns-clause-whole : goal.returns-clause-whole
returns-clause-whole g c = λ part of begun told read.
    let j = c.args.self.now in let a = c.args.held.now.action in let xs = c.pieces-pieces.result.now in let n = c.loop-k.k-index in let plan = j.checked.now.plan in
    let x = setting_of g.S.Site g.F.Folder g.G.Stop g.P.Stage j in
    let pieces : (l : ℕ) → Contains xs l ↔ IsPieceOf plan a l = subst (λ (z : ℕ). (l : ℕ) → Contains xs l ↔ IsPieceOf plan z l) c.action.ensures c.pieces-pieces.ensures.pieces in
    let whole : take n xs ≡ xs = take_all n xs c.loop-k-test.false in
    let filled : IsFilled plan of.of_commit.0 (at told.0) xs part c.loop-k.staged =
    subst (λ (z : List ℕ). IsFilled plan of.of_commit.0 (at told.0) z part c.loop-k.staged) whole (c.loop-k.invariant.filled part of begun told read) in
    let order = c.pieces-pieces.ensures.order in
    (filled_whole x j.valid a part of told xs pieces order c.loop-k.staged filled c.rows-rows.ensures.listing, filled_exact x j.valid a part of told xs pieces order c.loop-k.staged filled)

pub loop-k-init : goal.loop-k-init
loop-k-init g c = record {
  pass = c.requires.pass;
  part = (refl, refl);
  later = ([], sym (append-nil (seen c.args.pass.now)));
  steps = sym (append-nil (mine c.args.pass.now));
  held = refl;
  wanted = refl;
  filled = λ part of begun told read. filled_start c.args.self.now.checked.now.plan of.of_commit.0 (at told.0) part c.args.staged.now begun;
}
