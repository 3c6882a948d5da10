use Rattle.std.proofs.Common.{◌≡◌, ◌-◌, List, length, Some, slice_get, sym, subst, ◌∙◌, true, false}
use Rattle.ts_plan_build.specs.declared.builder.NewDir.{NewDir}
use Rattle.ts_plan_build.proofs.Dirs.{off_more}
use Rattle.ts_plan_build.proofs.builder.leave.Goals as goal

pub loop-dir-preserved : goal.loop-dir-preserved
loop-dir-preserved c = off_more c.args.path.now c.args.dirs.now.items c.loop-dir.dirs.items c.pop.new.self.items c.pop.result c.in-Some.dir.now c.loop-dir.invariant c.pop.ensures.items
    (subst (λ (z : List NewDir). slice_get z (length z - 1) ≡ Some c.in-Some.dir.now) c.as_slice.ensures.value (sym c.in-Some.ensures.value))
    (λ above. false_true (sym c.if-is_prefix.false ∙ c.is_prefix.ensures.1 above))
  where
    false_true : false ≡ true → ⊥
    false_true e = cc
