-- What a board is opened for, and which runs are legal there.
--     IsLegalRun t r       the run is legal for the plan and the prints of both replicas
--     Suits t step         the work of an act is that of its action
--     IsOrderly plan       what a valid plan says of predecessors and pieces
--     work_in slot         what lies in a slot, as the work of an act
--     IsTold t i slot      the site in the slot of action i tells what it should
use Rattle.std.specs.Prelude.{Bool, true, false, ◌≡◌, ℕ, ◌+◌, List, [], ◌∷◌, length, map, Option, Some, None, slice_get, slice_index_or, option_to_list, ◌++◌}
use Rattle.ts_model.specs.Trees.{Listing, at}
use Rattle.ts_model.specs.Sync.{Snapshot}
use Rattle.ts_name.specs.Paths.{Path}
use Rattle.ts_model.specs.Plans.{ActionIs, KindIs, Waits, AscendBelow}
use Rattle.ts_model.specs.Runs.{Run, Fits, Legal, IsPieceOf}
use Rattle.ts_model.specs.declared.plan.Plan.{Plan}
use Rattle.ts_model.specs.declared.plan.Action.{Action}
use Rattle.ts_model.specs.declared.plan.Kind.TheVariants.{Piece, Commit, Mark}
use Rattle.ts_model.specs.declared.row.Stamp.{Stamp}
use Rattle.ts_model.specs.declared.step.Step.{Step}
use Rattle.ts_model.specs.declared.step.Work.{Work}
use Rattle.ts_model.specs.declared.step.Work.TheVariants.{Staged, Put, Marked}
use Rattle.ts_board.specs.declared.law.Terms.{Terms}
use Rattle.ts_board.specs.declared.law.Slot.{Slot}
use Rattle.ts_board.specs.declared.law.Slot.TheVariants.{Empty, Place, Committed, Bytes}

-- a snapshot with the replicas' prints of these terms
abbrev pub IsFor : Terms → Snapshot → Type 0
IsFor t s = (s.first ≡ at t.first) × (s.second ≡ at t.second)

abbrev pub IsLegalRun : Terms → Run → Type 0
IsLegalRun t r = (s : Snapshot) → IsFor t s → Legal s t.plan r

abbrev pub Suits : Terms → Step → Type 0
Suits t step = (s : Snapshot) → IsFor t s → Fits s t.plan step

-- the actions that action i waits for
abbrev pub preds : Plan → ℕ → List ℕ
preds plan i = elim (slice_get plan.actions i) [ None ↦ [] | Some action ↦ action.preds ]

-- predecessors ascend, and a commit has its pieces for itself and waits for them
pub record IsOrderly (plan : Plan) : Type 0 where
  pub ascending : (i : ℕ) (action : Action) → ActionIs plan i action → AscendBelow i action.preds
  pub one_commit : (c d k : ℕ) → IsPieceOf plan c k → IsPieceOf plan d k → c ≡ d
  pub waits : (c k : ℕ) → IsPieceOf plan c k → Waits plan c k

-- ---- slots

-- what the site in a slot tells of its content, where there is one: nothing, or the rows
abbrev pub told_in : {S : Type 0} → (S → Option (Listing (List ℕ))) → Slot S → Option (Option (Listing (List ℕ)))
told_in content Empty = None
told_in content (Place site) = Some (content site)
told_in content (Committed site staged) = Some (content site)
told_in content (Bytes piece) = None

-- the work that was done with what lies in a slot
abbrev pub work_in : {S : Type 0} → Slot S → Work
work_in Empty = Marked
work_in (Place site) = Marked
work_in (Committed site staged) = Put staged.value.made
work_in (Bytes piece) = Staged piece.value.bytes

-- what a site tells after its commit: a site that told nothing still doesn't
abbrev pub told_after : Option (Listing (List ℕ)) → Listing (List ℕ) → Option (Listing (List ℕ))
told_after None made = None
told_after (Some rows) made = Some made

-- by what the site in a slot told at the start: a site is there where one was, and tells the same, or what its commit put in place
abbrev pub IsToldIn : {S : Type 0} → (S → Option (Listing (List ℕ))) → Option (Option (Listing (List ℕ))) → Slot S → Type 0
IsToldIn content opening Empty = opening ≡ None
IsToldIn content opening (Place site) = opening ≡ Some (content site)
IsToldIn content opening (Committed site staged) = (before : Option (Listing (List ℕ))) × (opening ≡ Some before) × (content site ≡ told_after before staged.value.made)
IsToldIn content opening (Bytes piece) = opening ≡ None

-- the slot of this action
abbrev pub IsTold : {S : Type 0} → (S → Option (Listing (List ℕ))) → Terms → ℕ → Slot S → Type 0
IsTold content t i slot = IsToldIn content (slice_index_or t.told i None) slot

-- nothing was done with any slot at the start
abbrev pub opening_work : Terms → ℕ → Work
opening_work t i = Marked

-- a slot for each action: the sites are those of the commits, in order
abbrev pub placed : {S : Type 0} → List Action → List S → List (Slot S)
placed [] sites = []
placed (action ∷ actions) sites = elim action.kind [
  | Piece e offset size p ↦ Empty ∷ placed actions sites
  | Commit e ↦ elim sites [ [] ↦ Empty ∷ placed actions [] | site ∷ more ↦ Place site ∷ placed actions more ]
  | Mark e ↦ Empty ∷ placed actions sites
]

-- how many commits the plan has
abbrev pub commit_count : List Action → ℕ
commit_count [] = 0
commit_count (action ∷ actions) = elim action.kind [
  | Piece e offset size p ↦ commit_count actions
  | Commit e ↦ commit_count actions + 1
  | Mark e ↦ commit_count actions
]

-- how many predecessors each action has
abbrev pub opening_words : List Action → List ℕ
opening_words actions = map (λ (action : Action). length action.preds) actions

-- the words of a board at its start; where the plan has no action, there is one word, which belongs to none
abbrev pub first_words : List Action → List ℕ
first_words [] = 0 ∷ []
first_words (action ∷ actions) = opening_words (action ∷ actions)

-- as slots are at the start
abbrev pub IsUntouched : {S : Type 0} → Slot S → Type 0
IsUntouched Empty = Unit {0}
IsUntouched (Place site) = Unit {0}
IsUntouched (Committed site staged) = ⊥
IsUntouched (Bytes piece) = ⊥

-- what a board with these slots is opened for
abbrev pub terms_with : {S : Type 0} → (S → Option (Listing (List ℕ))) → Plan → Listing Stamp → Listing Stamp → List (Slot S) → Terms
terms_with content plan first second slots = record { plan = plan; first = first; second = second; told = map (told_in content) slots }

-- the same by the sites of the plan's commits, in order
abbrev pub opening_terms : {S : Type 0} → (S → Option (Listing (List ℕ))) → Plan → Listing Stamp → Listing Stamp → List S → Terms
opening_terms content plan first second sites = terms_with content plan first second (placed plan.actions sites)

-- the site in a slot
abbrev pub site_in : {S : Type 0} → Slot S → Option S
site_in Empty = None
site_in (Place site) = Some site
site_in (Committed site staged) = Some site
site_in (Bytes piece) = None

-- the sites in these slots, in order
abbrev pub sites_in : {S : Type 0} → List (Slot S) → List S
sites_in [] = []
sites_in (slot ∷ slots) = option_to_list (site_in slot) ++ sites_in slots

-- a site that has not committed lies there
abbrev pub is_place : {S : Type 0} → Slot S → Bool
is_place Empty = false
is_place (Place site) = true
is_place (Committed site staged) = false
is_place (Bytes piece) = false

abbrev pub has_site : {S : Type 0} → Slot S → Bool
has_site Empty = false
has_site (Place site) = true
has_site (Committed site staged) = true
has_site (Bytes piece) = false

-- the content that the site in a slot tells
abbrev pub content_of : {S : Type 0} → (S → Option (Listing (List ℕ))) → Slot S → Option (Listing (List ℕ))
content_of content Empty = None
content_of content (Place site) = content site
content_of content (Committed site staged) = content site
content_of content (Bytes piece) = None

-- how often the device of the site in a slot failed
abbrev pub failures_of : {S : Type 0} → (S → ℕ) → Slot S → ℕ
failures_of failures Empty = 0
failures_of failures (Place site) = failures site
failures_of failures (Committed site staged) = failures site
failures_of failures (Bytes piece) = 0

-- the slot of a commit has a site, that of a piece has none
abbrev pub IsSited : {S : Type 0} → Plan → ℕ → Slot S → Type 0
IsSited plan i slot =
    ((e : ℕ) → KindIs plan i (Commit e) → is_place slot ≡ true)
    × ((e offset size : ℕ) (p : Path) → KindIs plan i (Piece e offset size p) → has_site slot ≡ false)

abbrev pub AreSited : {S : Type 0} → Plan → List (Slot S) → Type 0
AreSited plan slots = (i : ℕ) → IsSited plan i (slice_index_or slots i Empty)
