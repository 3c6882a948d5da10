-- What is said of faults, in sentences for people.
--     about job what end      a file or a folder that a command names, and what is said of it
--     because job what text hint cause   what is said of it, and why; where that is unknown, the hint in its place
--     pending_text job what   what is said of a replica in which a stopped run isn't brought to its end yet
--     unread_text job what path refusal cause   what is said of a path that can't be read, and why
--     unscanned_text job what path refusal      what is said of a path that can't be scanned, where the system doesn't say why
--     sentence_of job fault   what is said of a fault of a command
use Rattle.std.specs.Prelude.{ℕ, Bool, true, false, if◌then◌else◌, List, [], ◌∷◌, codes, decimal, nat_lt}
use Rattle.ts_name.specs.Paths.{Path, path_text}
use Rattle.ts_cause.specs.Causes.{is_known}
use Rattle.ts_cause.specs.declared.cause.Cause.{Cause}
use Rattle.ts_cause.specs.declared.cause.Cause.TheVariants.{Denied}
use Rattle.ts_command.specs.declared.job.Job.{Job}
use Rattle.ts_model.specs.declared.plan.PlanRule.{PlanRule}
use Rattle.ts_model.specs.declared.plan.PlanRule.TheVariants as rule
use Rattle.ts_preview.specs.Names.{shown}
use Rattle.ts_scan.specs.declared.fault.Refusal.{Refusal}
use Rattle.ts_scan.specs.declared.fault.Refusal.TheVariants as refusal
use Rattle.ts_scan.specs.declared.fault.ScanFault.{ScanFault}
use Rattle.ts_scan.specs.declared.fault.ScanFault.TheVariants as scan
use Rattle.ts_explain.specs.Pieces.{reason_text, said}
use Rattle.ts_explain.specs.Subjects.{name_in, noun, why_cause, why_hint, why_text}
use Rattle.ts_explain.specs.declared.fault.PerformFault.{PerformFault}
use Rattle.ts_explain.specs.declared.fault.PerformFault.TheVariants as fault
use Rattle.ts_explain.specs.declared.subject.Subject.{Subject}
use Rattle.ts_explain.specs.declared.subject.Subject.TheVariants as subject

abbrev pub about : Job → Subject → List ℕ → List ℕ
about job what end = said (noun what ∷ shown 0 (name_in job what) ∷ end ∷ [])

abbrev pub because : Job → Subject → (text hint : List ℕ) → Cause → List ℕ
because job what text hint cause = said (noun what ∷ shown 0 (name_in job what) ∷ text ∷ reason_text hint cause ∷ [])

abbrev pub memory_text : List ℕ
memory_text = codes "Memory ran out."

abbrev pub missing_text : Subject → List ℕ
missing_text subject.Archive = codes " isn't there: `show` needs one that exists."
missing_text subject.Holds = codes " isn't there."
missing_text subject.Plan = codes " isn't there."
missing_text other = codes " isn't there any more: is its disk still mounted?"

-- of a replica in which a stopped run isn't brought to its end yet
abbrev pub pending_text : Job → Subject → List ℕ
pending_text job what = about job what (codes ": a run was stopped there, or still works. The next `run` or `sync` brings it to an end first.")

-- what to do where a folder took no part in the last run with the archive
abbrev pub unknown_hint : List ℕ
unknown_hint = codes " See `preview`. If what it shows is right, use `plan` and `run`. If not, remove the archive: then nothing is deleted."

-- of a replica that took no part in the last run with the archive, which names so many paths
abbrev pub new_text : Job → Subject → ℕ → List ℕ
new_text job what paths = said (noun what ∷ shown 0 (name_in job what) ∷ codes " took no part in the last run with the archive "
    ∷ shown 0 (name_in job subject.Archive) ∷ codes ", which names " ∷ decimal paths
    ∷ codes " paths: is its disk mounted, and is this the right archive?" ∷ unknown_hint ∷ [])

abbrev pub both_new_text : Job → ℕ → List ℕ
both_new_text job paths = said (codes "Neither " ∷ shown 0 (name_in job subject.First) ∷ codes " nor " ∷ shown 0 (name_in job subject.Second)
    ∷ codes " took part in the last run with the archive " ∷ shown 0 (name_in job subject.Archive) ∷ codes ", which names " ∷ decimal paths
    ∷ codes " paths: are their disks mounted, and is this the right archive?" ∷ unknown_hint ∷ [])

-- the other replica of a pair
abbrev pub other_than : Subject → Subject
other_than subject.First = subject.Second
other_than what = subject.First

-- of a replica that would lose all its files, while the other one has so many
abbrev pub emptied_text : Job → Subject → (files others : ℕ) → List ℕ
emptied_text job what files others = said (codes "All " ∷ decimal files ∷ codes " files in " ∷ shown 0 (name_in job what) ∷ codes " would be deleted; "
    ∷ shown 0 (name_in job (other_than what)) ∷ codes " has " ∷ decimal others
    ∷ codes ". Is its disk mounted? If this is right, add --allow-empty, or use `plan` and `run`." ∷ [])

abbrev pub bad_line_text : Job → ℕ → List ℕ
bad_line_text job line = said (codes "Line " ∷ decimal line ∷ codes " of " ∷ shown 0 (name_in job subject.Holds)
    ∷ codes " is malformed: write `path /A/PATH` or `name PATTERN`, and a line feed." ∷ [])

abbrev pub bad_rule_text : Job → ℕ → List ℕ
bad_rule_text job line =
    if nat_lt 4096 line then about job subject.Holds (codes " has more than 4,096 lines.") else bad_line_text job line

-- the number of the place comes after it
abbrev pub rule_text : PlanRule → List ℕ
rule_text rule.Limits = codes "it has more entries, actions or predecessors than a plan may have (place "
rule_text rule.EntriesAscend = codes "its entries aren't in the order of their paths (entry "
rule_text rule.ReasonsHold = codes "nothing is to be done at a path, or something else (entry "
rule_text rule.EntriesComplete = codes "a path that differs is left out (before entry "
rule_text rule.PredsAscend = codes "what an action waits for is out of order, or comes after it (action "
rule_text rule.OneCommit = codes "each copied entry needs one commit, and no other has one (place "
rule_text rule.PiecesLawful = codes "a piece isn't part of a file that its entry copies (action "
rule_text rule.PiecesComplete = codes "each piece of a copied file is needed once (place "
rule_text rule.OneMark = codes "each entry that isn't skipped needs one mark, and no other has one (place "
rule_text rule.PiecesFirst = codes "a commit doesn't wait for the pieces of its entry (action "
rule_text rule.CommitFirst = codes "a mark doesn't wait for the commit of its entry (action "
rule_text rule.DirFirst = codes "a mark doesn't wait for that of the new folder above it (action "

abbrev pub broken_text : Job → PlanRule → ℕ → List ℕ
broken_text job rule place = said (noun subject.Plan ∷ shown 0 (name_in job subject.Plan) ∷ codes " isn't valid for what is there: "
    ∷ rule_text rule ∷ decimal place ∷ codes ")." ∷ [])

-- commands on a pair can leave it alone
abbrev pub unreadable_text : Subject → List ℕ
unreadable_text subject.Folder = codes ": something in it is neither a file nor a folder or has a name that isn't UTF-8, or it can't be read."
unreadable_text other =
    codes ": something in it is neither a file nor a folder or has a name that isn't UTF-8, or it can't be read. It can be left alone with --hold-special."

-- likewise
abbrev pub too_deep_text : Subject → List ℕ
too_deep_text subject.Folder = codes " is too long or too deep, or something in it."
too_deep_text other = codes " is too long or too deep, or something in it. What is too deep can be left alone with --hold-special."

-- of something in a folder, or of the folder itself
abbrev pub refusal_text : Subject → Refusal → Bool → List ℕ
refusal_text what refusal.TooLong is_root = too_deep_text what
refusal_text what refusal.Device is_root = codes ": the device failed."
refusal_text what refusal.NotThere true = codes " isn't there."
refusal_text what refusal.NotThere false = codes " isn't there any more: it went away while it was read."
refusal_text what refusal.Unreadable is_root = unreadable_text what

abbrev pub is_root : Path → Bool
is_root [] = true
is_root (name ∷ path) = false

-- what can't be synchronized, and what the system doesn't let be read
abbrev pub can_be_held : Refusal → Cause → Bool
can_be_held refusal.Unreadable cause = true
can_be_held refusal.Device Denied = true
can_be_held refusal other = false

-- commands on a pair can leave it alone
abbrev pub offer_text : Subject → Bool → List ℕ
offer_text subject.Folder can_be_held = []
offer_text other true = codes " It can be left alone with --hold-special."
offer_text other false = []

-- of a path that can't be read, and why
abbrev pub unread_text : Job → Subject → Path → Refusal → Cause → List ℕ
unread_text job what path refusal cause = said (noun what ∷ shown 0 (name_in job what) ∷ shown 0 (path_text path)
    ∷ codes " can't be read" ∷ reason_text [] cause ∷ offer_text what (can_be_held refusal cause) ∷ [])

-- of a path that can't be scanned, where the system doesn't say why
abbrev pub unscanned_text : Job → Subject → Path → Refusal → List ℕ
unscanned_text job what path refusal = said (noun what ∷ shown 0 (name_in job what) ∷ shown 0 (path_text path)
    ∷ refusal_text what refusal (is_root path) ∷ [])

-- where the system says why, that is said
abbrev pub scan_text : Job → Subject → ScanFault → Cause → List ℕ
scan_text job what scan.OutOfMemory cause = memory_text
scan_text job what (scan.At path refusal) cause =
    if is_known cause then unread_text job what path refusal cause else unscanned_text job what path refusal

abbrev pub sentence_of : Job → PerformFault → List ℕ
sentence_of job fault.OutOfMemory = memory_text
sentence_of job (fault.Failed what why) = because job what (why_text why) (why_hint why) (why_cause why)
sentence_of job (fault.Own what cause) = because job what (codes "/.twosync can't be made or used") (codes ": who owns it?") cause
sentence_of job (fault.Archives what) =
    about job what (codes "/.twosync/archives is malformed. Remove it, look at `preview`, and use `plan` and `run`.")
sentence_of job (fault.NotCanonical what) = about job what (codes " is malformed: was it cut short, or changed by hand?")
sentence_of job fault.WrongEnd = about job subject.Archive (codes " was cut short, or changed by hand: its last line doesn't fit those before it.")
sentence_of job (fault.Device what cause) = because job what (codes ": its device failed, or what a stopped run left can't be finished") (codes ".") cause
sentence_of job (fault.Locked what) = about job what (codes " is in use by another run.")
sentence_of job (fault.NotThere what) = about job what (missing_text what)
sentence_of job (fault.New what paths) = new_text job what paths
sentence_of job (fault.BothNew paths) = both_new_text job paths
sentence_of job (fault.Emptied what files others) = emptied_text job what files others
sentence_of job (fault.BadRule line) = bad_rule_text job line
sentence_of job fault.PastLimit = about job subject.Plan (codes " has more entries, actions or predecessors than a plan may have.")
sentence_of job fault.TooMuch = said (codes "Too much differs for one plan, which has at most 1,048,576 entries." ∷ [])
sentence_of job (fault.Broken rule place) = broken_text job rule place
sentence_of job (fault.Scan what scan cause) = scan_text job what scan cause
