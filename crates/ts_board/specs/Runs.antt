-- How often steps stand in a run, and when one is allowed by these counts. What `Legal` asks follows.
--     times x r           how often the step stands in the run, whatever work an act did
--     word_of t r i       the word of an action, by counts
--     Allowed t past x    the step may follow
--     steps_by claims r   the steps of these actions
--     work_after w r i    what the slot of an action has after a run, where its bytes weren't taken
use Rattle.std.specs.Prelude.{◌≡◌, ℕ, zero, suc, ◌+◌, ◌-◌, ◌*◌, ◌<◌, Bool, true, false, ◌==◌, ◌&&◌, List, [], ◌∷◌, ◌++◌, length}
use Rattle.ts_model.specs.Runs.{takes, IsPieceOf}
use Rattle.ts_model.specs.declared.step.Step.{Step}
use Rattle.ts_model.specs.declared.step.Step.TheVariants.{Claim, Take, Act, Done, Fail, Release}
use Rattle.ts_model.specs.declared.step.Work.{Work}
use Rattle.ts_model.specs.declared.step.Work.TheVariants.{Marked}
use Rattle.ts_board.specs.declared.law.Terms.{Terms}
use Rattle.ts_board.specs.Terms.{preds, Suits}

abbrev pub kind : Step → ℕ
kind (Claim i) = 0
kind (Act i w) = 1
kind (Done i) = 2
kind (Fail i) = 3
kind (Release i j) = 4
kind (Take c k) = 5

-- the action that makes the step
abbrev pub actor : Step → ℕ
actor (Claim i) = i
actor (Act i w) = i
actor (Done i) = i
actor (Fail i) = i
actor (Release i j) = i
actor (Take c k) = c

-- the action that the step is made on, where that is another
abbrev pub target : Step → ℕ
target (Claim i) = 0
target (Act i w) = 0
target (Done i) = 0
target (Fail i) = 0
target (Release i j) = j
target (Take c k) = k

-- whatever work an act does
abbrev pub same : Step → Step → Bool
same x y = (kind x == kind y) && ((target x == target y) && (actor x == actor y))

abbrev pub bit : Bool → ℕ
bit true = 1
bit false = 0

abbrev pub times : Step → List Step → ℕ
times x [] = 0
times x (y ∷ ys) = bit (same x y) + times x ys

-- how often the bytes of a piece were taken
abbrev pub taken : ℕ → List Step → ℕ
taken k [] = 0
taken k (y ∷ ys) = bit (takes k y) + taken k ys

abbrev pub count : ℕ → List ℕ → ℕ
count i [] = 0
count i (j ∷ js) = bit (i == j) + count i js

abbrev pub size : Terms → ℕ
size t = length t.plan.actions

-- how many of these predecessors of i are not released
abbrev pub open_of : List ℕ → List Step → ℕ → ℕ
open_of [] past i = 0
open_of (p ∷ ps) past i = (1 - times (Release p i) past) + open_of ps past i

-- the open predecessors, and the bits claimed, done, failed and taken
abbrev pub word_of : Terms → List Step → ℕ → ℕ
word_of t past i = open_of (preds t.plan i) past i + (4294967296 * times (Claim i) past + (8589934592 * times (Done i) past + (17179869184 * times (Fail i) past + 34359738368 * taken i past)))

abbrev pub Allowed : Terms → List Step → Step → Type 0
Allowed t past (Claim i) = (i < size t) × (word_of t past i ≡ 0)
Allowed t past (Take c k) = (0 < times (Claim c) past) × IsPieceOf t.plan c k × (0 < times (Done k) past) × (taken k past ≡ 0)
Allowed t past (Act i w) =
    (times (Claim i) past ≡ 1) × (times (Act i Marked) past ≡ 0) × (times (Fail i) past ≡ 0)
    × ((k : ℕ) → IsPieceOf t.plan i k → 0 < taken k past) × Suits t (Act i w)
Allowed t past (Done i) = (times (Act i Marked) past ≡ 1) × (times (Done i) past ≡ 0)
Allowed t past (Fail i) = (times (Claim i) past ≡ 1) × (times (Act i Marked) past ≡ 0) × (times (Fail i) past ≡ 0)
Allowed t past (Release i j) = (times (Done i) past ≡ 1) × (count i (preds t.plan j) ≡ 1) × (times (Release i j) past ≡ 0)

abbrev pub IsLegalFrom : Terms → List Step → List Step → Type 0
IsLegalFrom t past [] = Unit {0}
IsLegalFrom t past (x ∷ xs) = Allowed t past x × IsLegalFrom t (past ++ x ∷ []) xs

-- each step is allowed where it stands
abbrev pub IsLegal : Terms → List Step → Type 0
IsLegal t run = IsLegalFrom t [] run

abbrev pub StartsWith : List Step → List Step → Type 0
StartsWith run seen = (rest : List Step) × (run ≡ seen ++ rest)

abbrev pub keep : ℕ → Step → List Step → List Step
keep zero x xs = xs
keep (suc n) x xs = x ∷ xs

abbrev pub steps_by : List ℕ → List Step → List Step
steps_by claims [] = []
steps_by claims (x ∷ xs) = keep (count (actor x) claims) x (steps_by claims xs)

abbrev pub pick : Bool → Work → Work → Work
pick true w c = w
pick false w c = c

abbrev pub change : Step → ℕ → Work → Work
change (Claim k) i c = c
change (Take k l) i c = c
change (Act k w) i c = pick (k == i) w c
change (Done k) i c = c
change (Fail k) i c = c
change (Release k j) i c = c

abbrev pub work_after : Work → List Step → ℕ → Work
work_after c [] i = c
work_after c (x ∷ xs) i = work_after (change x i c) xs i
