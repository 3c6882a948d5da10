use Rattle.std.proofs.Common.{sym, ◌∙◌, inr}
use Rattle.std.proofs.lemmas.Bool.{false≢true}
use Rattle.std.proofs.lemmas.Option.{slice_get_past}
use Rattle.ts_name.specs.Laws.{tied_paths}
use Rattle.ts_need.proofs.Meetings.{item_at, missed_all, missed_later}
use Rattle.ts_need.proofs.rules.meet.Goals as goal

pub returns-in-Equal : goal.returns-in-Equal
returns-in-Equal c = (c.in-Some.entry.now, item_at c.args.entries.now c.args.next c.in-Some.entry.now c.in-Some.ensures.lookup.3.0 (c.in-Some.ensures.lookup.3.1 c.in-Some.entry.now), tied_paths _ _ (sym c.cmp.ensures ∙ c.in-Equal.is), c.is_reason.ensures.0 c.if-is_reason.true)

pub returns-in-Equal-2 : goal.returns-in-Equal-2
returns-in-Equal-2 c = (c.in-Some.entry.now, item_at c.args.entries.now c.args.next c.in-Some.entry.now c.in-Some.ensures.lookup.3.0 (c.in-Some.ensures.lookup.3.1 c.in-Some.entry.now), inr (tied_paths _ _ (sym c.cmp.ensures ∙ c.in-Equal-2.is), λ same. false≢true (sym c.if-is_reason.false ∙ c.is_reason.ensures.1 same)))

pub returns-in-Greater : goal.returns-in-Greater
returns-in-Greater c = missed_later c.args.entries.now c.args.next c.args.path.now c.args.found c.miss.result c.in-Some.entry.now (item_at c.args.entries.now c.args.next c.in-Some.entry.now c.in-Some.ensures.lookup.3.0 (c.in-Some.ensures.lookup.3.1 c.in-Some.entry.now)) (sym c.cmp.ensures ∙ c.in-Greater.is) c.miss.ensures

pub returns-in-None : goal.returns-in-None
returns-in-None c = missed_all c.args.entries.now c.args.next c.args.path.now c.args.found c.miss-in-None.result (slice_get_past c.args.entries.now c.args.next c.in-None.ensures.lookup.3) c.miss-in-None.ensures
