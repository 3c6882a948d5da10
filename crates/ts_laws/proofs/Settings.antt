-- What the proofs of runs are given, in one record each.
--     Setting      a lawful snapshot, a valid plan for it, and two trees
--     Begun        the same, where the trees are the replicas before a run
--     Ran          a legal run from there, of contents that are apart
use Rattle.ts_model.specs.Trees.{Tree, AreApart}
use Rattle.ts_model.specs.Sync.{Snapshot, IsSnapshot}
use Rattle.ts_model.specs.Plans.{Valid}
use Rattle.ts_model.specs.Runs.{Run, Legal}
use Rattle.ts_model.specs.Headline.{Meets, Premises}
use Rattle.ts_model.specs.declared.plan.Plan.{Plan}
use Rattle.ts_laws.proofs.Basics.{Start, Start-from}

-- a lawful snapshot, a valid plan for it, and two trees
pub record Setting : Type 0 where
  pub s : Snapshot
  pub plan : Plan
  pub valid : Valid s plan
  pub lawful : IsSnapshot s
  pub a : Tree
  pub b : Tree

-- where the trees are the replicas before a run
pub record Begun : Type 0 where
  pub setting : Setting
  pub begin : Start setting.s setting.a setting.b

-- a legal run from there, of contents that are apart
pub record Ran : Type 0 where
  pub begun : Begun
  pub r : Run
  pub legal : Legal begun.setting.s begun.setting.plan r
  pub contents : AreApart (Meets begun.setting.a begun.setting.b r)

-- the replicas before a run of a valid plan
abbrev pub begun_at : (s : Snapshot) (plan : Plan) → Valid s plan → (a b : Tree) → Start s a b → Begun
begun_at s plan valid a b begin = record { setting = record { s = s; plan = plan; valid = valid; lawful = begin.lawful; a = a; b = b }; begin = begin }

-- a legal run from there
abbrev pub ran_at : (begun : Begun) (r : Run) → Legal begun.setting.s begun.setting.plan r → AreApart (Meets begun.setting.a begun.setting.b r) → Ran
ran_at begun r legal contents = record { begun = begun; r = r; legal = legal; contents = contents }

-- such a run, by its premises
abbrev pub ran_from : (s : Snapshot) (plan : Plan) → Valid s plan → (a b : Tree) (r : Run) → Premises s a b r → Legal s plan r → Ran
ran_from s plan valid a b r met legal = ran_at (begun_at s plan valid a b (Start-from s a b met.snapshot met.replicas)) r legal met.apart
