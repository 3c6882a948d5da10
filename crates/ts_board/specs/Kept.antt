-- The rule of the board, and what each of its steps tells.
use Rattle.std.specs.Prelude.{◌≡◌, ◌≢◌, ◌⊎◌, ℕ, suc, ◌+◌, ◌-◌, ◌*◌, ◌^◌, ◌<◌, ◌≤◌, ◌==◌, cond, nat_le}
use Rattle.std.specs.Prelude.{List, [], ◌∷◌, ◌++◌, length, slice_index, slice_index_or, Contains}
use mathlib.Core.Option.{some}
use mathlib.Core.Option as maybe
use lib.ListN.{get_elem?}
use Rattle.atomic_table.specs.Table.{State, Me, Step, rest}
use Rattle.ts_model.specs.Runs.{Run, word_after, open_count, IsPending, Has, HasNot, acts, finishes, takes}
use Rattle.ts_model.specs.Runs as model
use Rattle.ts_model.specs.declared.step.Step.TheVariants.{Claim, Take, Act, Done, Fail, Release}
use Rattle.ts_model.specs.declared.step.Work.{Work}
use Rattle.ts_model.specs.declared.step.Work.TheVariants.{Staged, Marked}
use Rattle.ts_board.specs.declared.law.Terms.{Terms}
use Rattle.ts_board.specs.declared.law.Slot.{Slot}
use Rattle.ts_board.specs.declared.law.Slot.TheVariants.{Empty}
use Rattle.ts_board.specs.declared.law.Sight.{Sight}
use Rattle.ts_board.specs.declared.law.View.{View}
use Rattle.ts_board.specs.Terms.{IsLegalRun, IsOrderly, opening_work}
use Rattle.ts_board.specs.Runs.{times, taken, count, size, word_of, IsLegal, StartsWith, steps_by, bit, work_after}

abbrev pub sight : Run → List ℕ → Sight
sight run claims = record { seen = run; claims = claims }

abbrev pub nothing : Sight
nothing = sight [] []

-- a pass that has seen this run, and of which all steps of these actions are
abbrev pub pass_at : Terms → Run → List ℕ → ℕ → ℕ → View
pass_at t run claims part cut = record { terms = t; sight = sight run claims; left = nothing; right = nothing; part = part; cut = cut; carry = 0 }

abbrev pub newcomer : Terms → View
newcomer t = pass_at t [] [] 1 0

abbrev pub total : (View → ℕ) → List View → ℕ
total f [] = 0
total f (v ∷ vs) = f v + total f vs

abbrev pub claimed : ℕ → View → ℕ
claimed i v = count i v.sight.claims

-- the parts of a pass, of 2 ^ depth in all
abbrev pub share : ℕ → View → ℕ
share depth v = v.part * 2 ^ (depth - v.cut)

-- the history begins with what was seen, and has no later step of these actions
abbrev pub Behind : Run → Sight → Type 0
Behind log s = (rest : Run) × (log ≡ s.seen ++ rest) × (steps_by s.claims rest ≡ [])

pub record Fits (depth : ℕ) (log : Run) (v : View) : Type 0 where
  pub behind : Behind log v.sight
  pub left : Behind log v.left
  pub right : Behind log v.right
  pub within : (i : ℕ) → count i v.left.claims + count i v.right.claims ≤ count i v.sight.claims
  pub idle : v.part ≡ 0 → (i : ℕ) → count i v.sight.claims ≡ 0
  pub deep : v.cut ≤ depth

-- The table at the end of this run: the words are those after it, each claim in it is of one pass, and the passes share 2 ^ depth parts
pub record Keeps (t : Terms) (log : Run) (depth : ℕ) (s : State (Unit {0}) View) : Type 0 where
  pub orderly : IsOrderly t.plan
  pub legal : IsLegal t log
  pub words : (i : ℕ) → i < length s.words → slice_index s.words i ≡ word_of t log i
  pub wide : size t ≤ length s.words
  pub each_pass : (id : ℕ) (v : View) → get_elem? s.views id ≡ some v → Fits depth log v
  pub each_claim : (i : ℕ) → total (claimed i) s.views ≡ times (Claim i) log
  pub whole : total (share depth) s.views ≡ 2 ^ depth

abbrev pub carries : ℕ → View → ℕ
carries i v = bit (v.carry == suc i)

-- the slot of an action, which `carried` passes have out: at rest it has what the action left, until that is taken
pub record SlotOk {S : Type 0} (content : Slot S → Work) (fine : Slot S → Type 0) (first : Work) (log : Run) (carried i : ℕ) (home : maybe.Option (maybe.Option (Slot S))) : Type 0 where
  pub rests : times (Claim i) log ≡ times (Done i) log + times (Fail i) log → taken i log ≡ 0 → (y : Slot S) × (home ≡ some (some y)) × (content y ≡ work_after first log i) × fine y
  pub away : times (Claim i) log ≡ (times (Done i) log + times (Fail i) log) + 1 → carried ≡ 0 → home ≡ some (some Empty)

-- the slots of actions that are with no pass have what they should, and those of claimed actions nothing
pub record Shelf {S : Type 0} (content : Slot S → Work) (good : Terms → ℕ → Slot S → Type 0) (t : Terms) (log : Run) (s : State (Slot S) View) : Type 0 where
  pub each_slot : (i : ℕ) → i < length s.homes → SlotOk content (good t i) (opening_work t i) log (total (carries i) s.views) i (get_elem? s.homes i)
  pub each_carry : (id : ℕ) (v : View) → get_elem? s.views id ≡ some v → (i : ℕ) → v.carry ≡ suc i → 0 < count i v.sight.claims + taken i log
  pub deep : size t ≤ length s.homes

-- the table without its slots
abbrev pub bare : {S : Type 0} → State (Slot S) View → State (Unit {0}) View
bare s = record { words = s.words; homes = []; views = s.views }

-- there is one history
pub record Kept {S : Type 0} (content : Slot S → Work) (good : Terms → ℕ → Slot S → Type 0) (t : Terms) (s : State (Slot S) View) : Type 0 where
  pub log : Run
  pub depth : ℕ
  pub keeps : Keeps t log depth (bare s)
  pub shelf : Shelf content good t log s
  -- an action acts and is done in one step
  pub settled : (i : ℕ) → times (Act i Marked) log ≡ times (Done i) log

-- the pass has seen this run, and has these actions
abbrev pub moved : View → Run → List ℕ → View
moved v run claims = record { terms = v.terms; sight = sight run claims; left = nothing; right = nothing; part = v.part; cut = v.cut; carry = v.carry }

-- the pass has the slot of this number less 1, or none where it is 0
abbrev pub carrying : ℕ → View → View
carrying k v = record { terms = v.terms; sight = v.sight; left = v.left; right = v.right; part = v.part; cut = v.cut; carry = k }

abbrev pub mine : View → Run
mine v = steps_by v.sight.claims v.sight.seen

abbrev pub Seat : Type 0 → Type 0
Seat S = Me (Slot S) View

-- the history so far was seen, and its word found
abbrev pub Looks : View → ℕ → ℕ → View → Type 0
Looks v i found w =
    (w ≡ moved v w.sight.seen v.sight.claims) × StartsWith w.sight.seen v.sight.seen × (mine w ≡ mine v)
    × IsLegalRun v.terms w.sight.seen × (found ≡ word_after v.terms.plan w.sight.seen i)

abbrev pub looks : {S : Type 0} → Step (Slot S) → Seat S → ℕ → Seat S → Type 0
looks st m found m' = (m'.1 ≡ m.1) × Looks m.0 st.word found m'.0

-- after what was seen came other steps and then these, which are the pass's own
abbrev pub Makes : View → Run → List ℕ → View → Type 0
Makes v own claims w =
    (between : Run) × (w ≡ moved v ((v.sight.seen ++ between) ++ own) claims) × (mine w ≡ mine v ++ own) × IsLegalRun v.terms w.sight.seen

-- where the word was 0 the slot of the action is taken
abbrev pub claims : {S : Type 0} → (Slot S → Work) → (Terms → ℕ → Slot S → Type 0) → Step (Slot S) → Seat S → ℕ → Seat S → Type 0
claims {S} content good st m found m' =
    (found ≡ 0 → (w : View) × (m'.0 ≡ carrying (suc st.word) w) × Makes m.0 (Claim st.word ∷ []) (st.word ∷ m.0.sight.claims) w × IsPending (mine w) st.word
    × ((y : Slot S) × (m'.1 ≡ (st.word, y) ∷ m.1) × (content y ≡ opening_work m.0.terms st.word) × good m.0.terms st.word y))
    × (found ≢ 0 → (m'.1 ≡ m.1) × Looks m.0 st.word found m'.0)

abbrev pub gives_back : {S : Type 0} → Step (Slot S) → Seat S → ℕ → Seat S → Type 0
gives_back st m found m' = (m'.1 ≡ rest m.1) × (m'.0 ≡ carrying 0 m.0)

abbrev pub fetches : {S : Type 0} → Step (Slot S) → Seat S → ℕ → Seat S → Type 0
fetches st m found m' = (m'.1 ≡ (st.word, Empty) ∷ m.1) × (m'.0 ≡ carrying (suc st.word) m.0)

abbrev pub front : {S : Type 0} → (Slot S → Work) → List (ℕ × Slot S) → Work
front content [] = Marked
front content (x ∷ xs) = content x.1

abbrev pub does : {S : Type 0} → (Slot S → Work) → Step (Slot S) → Seat S → ℕ → Seat S → Type 0
does content st m found m' = (m'.1 ≡ rest m.1) × ((w : View) × (m'.0 ≡ carrying 0 w) × Makes m.0 (Act st.word (front content m.1) ∷ Done st.word ∷ []) m.0.sight.claims w)

abbrev pub fails : {S : Type 0} → Step (Slot S) → Seat S → ℕ → Seat S → Type 0
fails st m found m' = (m'.1 ≡ rest m.1) × ((w : View) × (m'.0 ≡ carrying 0 w) × Makes m.0 (Fail st.word ∷ []) m.0.sight.claims w)

-- the action i releases that of the word
abbrev pub releases : {S : Type 0} → ℕ → Step (Slot S) → Seat S → ℕ → Seat S → Type 0
releases i st m found m' =
    (m'.1 ≡ m.1) × Makes m.0 (Release i st.word ∷ []) m.0.sight.claims m'.0
    × (found ≡ open_count m.0.terms.plan m'.0.sight.seen st.word + 1)

-- the commit c takes out what the piece of the word staged
abbrev pub takes_out : {S : Type 0} → (Slot S → Work) → ℕ → Step (Slot S) → Seat S → ℕ → Seat S → Type 0
takes_out {S} content c st m found m' =
    (w : View) × (m'.0 ≡ carrying (suc st.word) w) × Makes m.0 (Take c st.word ∷ []) m.0.sight.claims w
    × ((y : Slot S) × (bytes : List ℕ) × (m'.1 ≡ (st.word, y) ∷ m.1) × (content y ≡ Staged bytes) × Contains w.sight.seen (Act st.word (Staged bytes)))

-- ---- passes are cut and joined

abbrev pub longer : Run → Run → Run
longer xs ys = cond (nat_le (length xs) (length ys)) ys xs

abbrev pub no_terms : Terms
no_terms = record { plan = record { entries = []; actions = [] }; first = []; second = []; told = [] }

abbrev pub nobody : View
nobody = pass_at no_terms [] [] 0 0

-- each half has seen what was seen, and the steps stay with the first
abbrev pub first_half : View → View
first_half v = pass_at v.terms v.sight.seen v.sight.claims v.part (v.cut + 1)

abbrev pub second_half : View → View
second_half v = pass_at v.terms v.sight.seen [] v.part (v.cut + 1)

-- the longer of the two runs was seen, and the steps of both are its own
abbrev pub joined : View → View → View
joined v w = record {
  terms = v.terms;
  carry = 0;
  sight = sight (longer v.sight.seen w.sight.seen) (v.sight.claims ++ w.sight.claims);
  left = v.sight;
  right = w.sight;
  part = v.part * 2 ^ w.cut + w.part * 2 ^ v.cut;
  cut = v.cut + w.cut;
}

-- what was seen begins with what each of the two had seen, and has no later steps of theirs. No action was claimed twice
abbrev pub Met : View → Type 0
Met v = Behind v.sight.seen v.left × Behind v.sight.seen v.right × ((i : ℕ) → count i v.sight.claims ≤ 1)

abbrev pub meets : {S : Type 0} → Step (Slot S) → Seat S → ℕ → Seat S → Type 0
meets st m found m' = (m' ≡ m) × Met m.0

-- each step of the list is the next of one of the two
abbrev pub IsMerged : Run → Run → Run → Type 0
IsMerged xs ys [] = (xs ≡ []) × (ys ≡ [])
IsMerged xs ys (z ∷ zs) = ((rest : Run) × (xs ≡ z ∷ rest) × IsMerged rest ys zs) ⊎ ((rest : Run) × (ys ≡ z ∷ rest) × IsMerged xs rest zs)

-- ---- the end

abbrev pub IsWhole : View → Type 0
IsWhole v = v.part ≡ 2 ^ v.cut

-- the words are those after this run, which is legal, and in which all that acted is done
pub record HasLeft (t : Terms) (words : List ℕ) (run : Run) : Type 0 where
  pub legal : IsLegalRun t run
  pub settled : (i : ℕ) → Has run (acts i) → Has run (finishes i)
  pub words_are : (i : ℕ) → i < size t → slice_index words i ≡ word_after t.plan run i

-- the run that left the words begins with what the pass has seen. A whole pass has seen it all, and all its steps are the pass's own
abbrev pub EndsAt : Terms → View → List ℕ → Run → Type 0
EndsAt t v words run = HasLeft t words run × StartsWith run v.sight.seen × (IsWhole v → (run ≡ v.sight.seen) × (mine v ≡ v.sight.seen))

-- what the slot of an action has then: what lay there at the start, where it is unclaimed or failed; else what its act left, once it is done and as long as it isn't taken
pub record Rests {S : Type 0} (content : Slot S → Work) (fine : Slot S → Type 0) (t : Terms) (run : Run) (i : ℕ) (slot : Slot S) : Type 0 where
  pub unclaimed : HasNot run (model.claims i) → (content slot ≡ opening_work t i) × fine slot
  pub failed : Has run (model.fails i) → (content slot ≡ opening_work t i) × fine slot
  pub done : (work : Work) → Contains run (Act i work) → Has run (model.finishes i) → HasNot run (takes i) → (content slot ≡ work) × fine slot

abbrev pub SitedEnds : {S : Type 0} → (Slot S → Work) → (Terms → ℕ → Slot S → Type 0) → Terms → View → List ℕ → List (Slot S) → Type 0
SitedEnds {S} content good t v words slots =
    (run : Run) × EndsAt t v words run × ((i : ℕ) → i < size t → Rests content (good t i) t run i (slice_index_or slots i Empty))
