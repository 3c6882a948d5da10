use Rattle.std.proofs.Common.{◌≤◌, length, refl, sym, ap, ◌∙◌, arith}
use Rattle.ts_plan.proofs.Steps.{none_open, past_entry}
use Rattle.ts_plan.proofs.text.PlanReader.take_entry.Goals as goal

pub returns-then-len-ge-ENTRY_LIMIT : goal.returns-then-len-ge-ENTRY_LIMIT
returns-then-len-ge-ENTRY_LIMIT c =
    let none = none_open c.self.inside.last (sym c.is_some.ensures ∙ c.if-is_some.false) in
    let full : 1048576 ≤ length c.args.self.now.entries = omega (arith, c.if-len-ge-ENTRY_LIMIT.true, c.len.ensures, c.self.inside.entries.ok.0, ap (λ v. length v.entries) c.self.view_is) in
    (refl, past_entry c.args.self.now c.args.entry c.requires.body (sym (ap (λ v. v.last) c.self.view_is) ∙ none) full)
