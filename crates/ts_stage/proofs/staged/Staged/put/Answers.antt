use Rattle.std.proofs.Common.{◌≡◌, Bool, ℕ, List, sym, ap, ap₂, subst, ◌∙◌}
use Rattle.std.proofs.lemmas.Result.{on_ok_weaker}
use Rattle.ts_model.specs.Trees.{Listing, listed}
use Rattle.ts_model.specs.declared.row.Content.{Content}
use Rattle.ts_model.specs.declared.row.Content.TheVariants.{Absent, File}
use Rattle.ts_stage.specs.Assemblies.{Assembly, HasSoFar, with_more}
use Rattle.ts_stage.specs.Stagings.{Staging, all_held, told, told_rows}
use Rattle.ts_stage.proofs.Assembling.{either, far_below, far_path, row_says}
use Rattle.ts_stage.proofs.Telling.{held_set, listed-told, still_told, told_file, told_put}
use Rattle.ts_name.proofs.Prefixes.{below_gives}
use Rattle.ts_stage.proofs.staged.Staged.put.Goals as goal
use Rattle.std.proofs.Math.ListN.{set}

pub unreachable-requires : goal.unreachable-requires
unreachable-requires c =
    let rows = c.self.inside.made.items in
    let a : Assembly = record { top = c.self.inside.top; wanted = c.self.inside.wanted; made = told_rows rows; held = all_held rows } in
    far_below a c.args.path.now c.args.offset (subst (λ (z : Assembly). HasSoFar z c.args.path.now c.args.offset) (sym c.self.view_is) c.requires.so_far) (sym c.in-Ok.ensures.value ∙ c.in_default-rest.is)

pub unreachable-requires-in_default-find : goal.unreachable-requires-in_default-find
unreachable-requires-in_default-find c =
    let rows = c.self.inside.made.items in
    let a : Assembly = record { top = c.self.inside.top; wanted = c.self.inside.wanted; made = told_rows rows; held = all_held rows } in
    let found = far_path a c.args.path.now c.in-Some.rest c.args.offset (subst (λ (z : Assembly). HasSoFar z c.args.path.now c.args.offset) (sym c.self.view_is) c.requires.so_far) (sym c.in-Ok.ensures.value ∙ c.in-Some.is) in
    let gone = rw c.deref.ensures.value at c.in_default-find.ensures.none in
    let both : ◌≡◌ {A = Content (List ℕ)} Absent (File found.0) = sym (listed-told rows c.in-Some.rest ∙ ap told gone) ∙ found.1 in
    cc

pub add_piece-requires : goal.add_piece-requires
add_piece-requires c =
    let rows = c.self.inside.made.items in
    let a : Assembly = record { top = c.self.inside.top; wanted = c.self.inside.wanted; made = told_rows rows; held = all_held rows } in
    let found = far_path a c.args.path.now c.in-Some.rest c.args.offset (subst (λ (z : Assembly). HasSoFar z c.args.path.now c.args.offset) (sym c.self.view_is) c.requires.so_far) (sym c.in-Ok.ensures.value ∙ c.in-Some.is) in
    let row = c.index_mut-row.result.now in
    let place = rw c.deref.ensures.value at c.in-Some-find.ensures.place in
    let path = rw c.deref.ensures.value at c.in-Some-find.ensures.path in
    let says = row_says rows c.in-Some-find.index row c.in-Some.rest c.self.invariant.ascending place c.index_mut-row.ensures.value (path row) in
    let file = told_file (listed rows c.in-Some.rest) found.0 (sym (listed-told rows c.in-Some.rest) ∙ found.1) in
    record { file = (file.0, says ∙ file.1) }

pub invariant_of-self : goal.invariant_of-self
invariant_of-self c =
    let row = c.index_mut-row.result.now in
    let rows = c.self.inside.made.items in
    let place = rw c.deref.ensures.value at c.in-Some-find.ensures.place in
    let path = rw c.deref.ensures.value at c.in-Some-find.ensures.path in
    still_told c.in-Some.rest c.args.piece.value rows c.in-Some-find.index row c.add_piece.new.content c.self.invariant place c.index_mut-row.ensures.value (path row)
    (either c.add_piece.result c.add_piece.ensures.ok c.add_piece.ensures.err)

pub returns-clause-ok : goal.returns-clause-ok
returns-clause-ok c =
    let row = c.index_mut-row.result.now in
    let rows = c.self.inside.made.items in
    let top = c.self.inside.top in
    let place = rw c.deref.ensures.value at c.in-Some-find.ensures.place in
    let path = rw c.deref.ensures.value at c.in-Some-find.ensures.path in
    let whole = below_gives top c.args.path.now c.in-Some.rest (sym c.in-Ok.ensures.value ∙ c.in-Some.is) in
    let put = told_put top c.in-Some.rest c.args.piece.value rows c.in-Some-find.index row c.self.invariant.ascending place c.index_mut-row.ensures.value (path row) in
    let a : Assembly = record { top = top; wanted = c.self.inside.wanted; made = told_rows rows; held = all_held rows } in
    let found = far_path a c.args.path.now c.in-Some.rest c.args.offset (subst (λ (z : Assembly). HasSoFar z c.args.path.now c.args.offset) (sym c.self.view_is) c.requires.so_far) (sym c.in-Ok.ensures.value ∙ c.in-Some.is) in
    let says = row_says rows c.in-Some-find.index row c.in-Some.rest c.self.invariant.ascending place c.index_mut-row.ensures.value (path row) in
    let file = told_file (listed rows c.in-Some.rest) found.0 (sym (listed-told rows c.in-Some.rest) ∙ found.1) in
    let held = held_set c.args.piece.value file.0 rows c.in-Some-find.index row row place c.index_mut-row.ensures.value (says ∙ file.1) in
    rw (← c.self.view_is)
    (on_ok_weaker c.add_piece.result
    (λ e. ap₂ (λ (made : Listing (List ℕ)) (held : Bool). let a : Assembly = record { top = top; wanted = c.self.inside.wanted; made = made; held = held } in a)
    (ap (λ (x : Content Staging). told_rows (set rows c.in-Some-find.index (record { path = row.path; content = x }))) e ∙ put ∙ ap (λ p. with_more top p c.args.piece.value.bytes (told_rows rows)) (sym whole))
    (ap (λ (x : Content Staging). all_held (set rows c.in-Some-find.index (record { path = row.path; content = x }))) e ∙ held))
    c.add_piece.ensures.ok)
