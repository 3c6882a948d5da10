-- What the calls of a board say of it and of their passes.
--     terms_of content board           what the board was opened for
--     plan_of board                    its plan
--     IsPassOf content board p         the pass is one of this board
--     IsPassAt id t p                  the pass is one of the board with this table, which was opened for these terms
--     seen p, mine p                   the beginning of the history that the pass has seen, and its own steps in it
--     Sees, Makes                      what a call adds to them
--     words_of closed, slots_of closed what a closed board has
use Rattle.std.specs.Prelude.{◌≡◌, ℕ, ◌+◌, ◌*◌, ◌^◌, ◌≤◌, List, ◌++◌, true, false, Option}
use Rattle.std.specs.Mem.Slots.{slots_items, slots_len}
use Rattle.atomic_table.specs.Seated.{TableId}
use Rattle.ts_model.specs.Trees.{Listing}
use Rattle.ts_model.specs.Runs.{Run, WordsAllow}
use Rattle.ts_model.specs.declared.plan.Plan.{Plan}
use Rattle.ts_model.specs.declared.step.Step.TheVariants.{Act}
use Rattle.ts_model.specs.declared.step.Work.{Work}
use Rattle.ts_model.specs.declared.step.Work.TheVariants.{Marked}
use Rattle.ts_board.specs.declared.law.Slot.{Slot}
use Rattle.ts_board.specs.declared.law.Terms.{Terms}
use Rattle.ts_board.specs.declared.board.Board.{Board}
use Rattle.ts_board.specs.declared.board.Closed.{Closed}
use Rattle.ts_board.specs.declared.board.Held.{Held}
use Rattle.ts_board.specs.declared.board.Pass.{Pass}
use Rattle.ts_board.specs.Terms.{work_in, IsTold, IsLegalRun, Suits}
use Rattle.ts_board.specs.Runs.{StartsWith}
use Rattle.ts_board.specs.Keys.{terms_of_key}
use Rattle.ts_board.specs.Kept as kept
use Rattle.ts_board.specs.Kept.{SitedEnds}
use Rattle.ts_site.specs.declared.site.Site.{Ghosts}

module _ {S : Type 0} where
  abbrev pub IsPassAt : TableId → Terms → Pass S → Type 0
  IsPassAt id t p = (p.seat.table_id ≡ id) × (p.seat.me.0.terms ≡ t)

  -- the beginning of the history that the pass has seen
  abbrev pub seen : Pass S → Run
  seen p = p.seat.me.0.sight.seen

  -- the pass's own steps, in the order of the history
  abbrev pub mine : Pass S → Run
  mine p = kept.mine p.seat.me.0

  -- the pass has `part` of 2 ^ cut equal parts of the board
  abbrev pub HasPart : Pass S → ℕ → ℕ → Type 0
  HasPart p part cut = (p.seat.me.0.part ≡ part) × (p.seat.me.0.cut ≡ cut)

  abbrev pub IsSamePart : Pass S → Pass S → Type 0
  IsSamePart p q = HasPart q p.seat.me.0.part p.seat.me.0.cut

  -- the last two have half each of what the first has
  abbrev pub AreHalves : Pass S → Pass S → Pass S → Type 0
  AreHalves p q r = HasPart q p.seat.me.0.part (p.seat.me.0.cut + 1) × HasPart r p.seat.me.0.part (p.seat.me.0.cut + 1)

  -- the last has what the first two have together
  abbrev pub HasBothParts : Pass S → Pass S → Pass S → Type 0
  HasBothParts p q r =
      HasPart r (p.seat.me.0.part * 2 ^ q.seat.me.0.cut + q.seat.me.0.part * 2 ^ p.seat.me.0.cut) (p.seat.me.0.cut + q.seat.me.0.cut)

  -- no other pass of the board counts
  abbrev pub IsWhole : Pass S → Type 0
  IsWhole p = kept.IsWhole p.seat.me.0

  -- a call that makes no step of its own: more of the history was seen
  abbrev pub Sees : Terms → Pass S → Pass S → Type 0
  Sees t p q = StartsWith (seen q) (seen p) × (mine q ≡ mine p) × IsLegalRun t (seen q)

  -- a call whose steps are the last of what was seen, and of the pass's own
  abbrev pub Makes : Terms → Pass S → Run → Pass S → Type 0
  Makes t p own q = (between : Run) × (seen q ≡ (seen p ++ between) ++ own) × (mine q ≡ mine p ++ own) × IsLegalRun t (seen q)

  -- the work of a held action
  abbrev pub work_of : Held S → Work
  work_of h = work_in h.slot

  -- nothing was done yet with what was claimed
  abbrev pub IsFresh : (S → Option (Listing (List ℕ))) → Terms → Held S → Type 0
  IsFresh content t h = (h.acted ≡ false) × (work_of h ≡ Marked) × IsTold content t h.action h.slot

  -- the act was made, and may stand after these steps of the pass
  abbrev pub HasActed : (S → Option (Listing (List ℕ))) → Terms → Run → Held S → Type 0
  HasActed content t own h =
      (h.acted ≡ true) × WordsAllow t.plan own (Act h.action (work_of h)) × Suits t (Act h.action (work_of h)) × IsTold content t h.action h.slot

  -- the words and slots of a closed board: those after a legal run that begins with what the pass has seen, and for a whole pass just that run
  abbrev pub Ends : (S → Option (Listing (List ℕ))) → Terms → Pass S → List ℕ → List (Slot S) → Type 0
  Ends content t p words slots = SitedEnds work_in (IsTold content) t p.seat.me.0 words slots

  -- in words over the board itself
  abbrev pub table_of : Board S → TableId
  table_of board = board.table.shared.table_id

  abbrev pub plan_of : Board S → Plan
  plan_of board = board.table.shared.key.plan.value

  abbrev pub terms_of : (S → Option (Listing (List ℕ))) → Board S → Terms
  terms_of content board = terms_of_key content board.table.shared.key

  abbrev pub IsPassOf : (S → Option (Listing (List ℕ))) → Board S → Pass S → Type 0
  IsPassOf content board p = IsPassAt (table_of board) (terms_of content board) p

module _ {S : Type 0} {site : Ghosts S} where
  -- the words and the slots of a closed board
  abbrev pub words_of : Closed S site → List ℕ
  words_of closed = slots_items closed.row.words

  abbrev pub slots_of : Closed S site → List (Slot S)
  slots_of closed = slots_items closed.row.slots

  -- it has a word and a slot for each of so many actions
  abbrev pub HasPlaces : Closed S site → ℕ → Type 0
  HasPlaces closed n = (n ≤ slots_len closed.row.words) × (n ≤ slots_len closed.row.slots)

  -- the second has as many of both as the first
  abbrev pub IsAsWide : Closed S site → Closed S site → Type 0
  IsAsWide old new = (slots_len new.row.words ≡ slots_len old.row.words) × (slots_len new.row.slots ≡ slots_len old.row.slots)
