use Rattle.std.proofs.Common.{◌≡◌, ◌+◌, ◌++◌, [], ◌∷◌, length, map, sym, ap, ◌∙◌, subst, append_assoc, append-nil, arith}
use Rattle.std.proofs.lemmas.List.{nil_from_length}
use Rattle.ts_table.specs.Splices.{ArePaths, put_of}
use Rattle.ts_table.proofs.Exits.{exit_itself}
use Rattle.ts_table.proofs.Splicing.{AreParts, edit_paths_at, edit_paths_push, parts_push, puts_push, rows_push}
use Rattle.ts_table.proofs.splice.puts_for.Given.{Over}
use Rattle.ts_table.proofs.splice.puts_for.Goals as goal
use Rattle.ts_table.proofs.splice.puts_for.Goals.{After-drop-edit-iterator-2}

pub returns-in_err-rows-clause-too_long : goal.returns-in_err-rows-clause-too_long
returns-in_err-rows-clause-too_long g c too all =
    c.in_err-rows.ensures.too_long (exit_itself c.from_residual-in_err-rows.result c.in_err-rows.field-0.0 c.from_residual-in_err-rows.ensures.1 too)
    (edit_paths_at c.args.edits.items c.loop-edit.yielded c.next.new.self.rest.items c.in-Some.edit (c.loop-edit.invariant.left ∙ ap (λ z. c.loop-edit.yielded ++ z) c.in-Some.ensures.steps.0) all)

pub loop-edit-preserved : goal.loop-edit-preserved
loop-edit-preserved g c =
    let done = c.loop-edit.yielded in
    let edit = c.in-Some.edit in
    let rows = c.new.result in
    record {
      puts_are = puts_push done edit c.loop-edit.puts.items c.push.new.self.items rows c.loop-edit.invariant.puts_are (c.new.ensures ∙ c.in_ok-rows.ensures.ok) c.in_ok-push.ensures.items;
      room_is =
          (let added = rw c.in_ok-room.ensures.ok_part at c.checked_add.ensures in
          let few = c.len-in-loop-edit.ensures in
          let many = c.in_ok-rows.rows.ok.0 in
          let long = ap length c.new.ensures in
          let sum : c.in_ok-room.room ≡ c.loop-edit.room + length rows = omega (arith, added.1) in
          rows_push 0 c.loop-edit.room c.in_ok-room.room c.loop-edit.puts.items c.push.new.self.items (record { path = edit.path; rows = rows }) c.loop-edit.invariant.room_is sum c.in_ok-push.ensures.items);
      parts = parts_push done edit c.loop-edit.invariant.parts c.in_ok-rows.ensures.listing;
      paths = edit_paths_push done edit c.loop-edit.invariant.paths c.in_ok-rows.ensures.paths;
      left = c.loop-edit.invariant.left ∙ ap (λ z. done ++ z) c.in-Some.ensures.steps.0 ∙ sym (append_assoc done (edit ∷ []) c.next.new.self.rest.items);
    }

-- behind the last edit all have their puts
all_yielded : (g : Over) (c : After-drop-edit-iterator-2 g) → c.args.edits.items ≡ c.loop-edit.yielded
all_yielded g c =
    let ended = nil_from_length c.loop-edit.edit-iterator.rest.items (sym c.loop-edit.edit-iterator.rest.ok.0 ∙ c.in-None.ensures.steps.0) in
    c.loop-edit.invariant.left ∙ ap (λ z. c.loop-edit.yielded ++ z) ended ∙ append-nil c.loop-edit.yielded

pub returns-clause-puts : goal.returns-clause-puts
returns-clause-puts g c = c.loop-edit.invariant.puts_are ∙ ap (map put_of) (sym (all_yielded g c))

pub returns-clause-listings : goal.returns-clause-listings
returns-clause-listings g c = subst (λ z. AreParts z) (sym (all_yielded g c)) c.loop-edit.invariant.parts

pub returns-clause-paths : goal.returns-clause-paths
returns-clause-paths g c = subst (λ z. ArePaths z) (sym (all_yielded g c)) c.loop-edit.invariant.paths
