use Rattle.std.proofs.Common.{◌≡◌, ◌≢◌, List, ℕ, length, ◌∙◌, sym, subst, ap}
use Rattle.std.proofs.lemmas.Bool.{false≢true}
use Rattle.std.proofs.lemmas.Bool.Decides.{Decides-eqb}
use Rattle.ts_model.specs.Trees.{listed}
use Rattle.ts_model.specs.declared.row.Content.TheVariants.{File}
use Rattle.ts_stage.specs.Assemblies.{Assembly, HasSoFar}
use Rattle.ts_stage.specs.Stagings.{all_held, told, told_rows}
use Rattle.ts_stage.proofs.Assembling.{far_below, far_none, far_size}
use Rattle.ts_stage.proofs.Telling.{listed-told, told_file}
use Rattle.ts_stage.proofs.staged.Staged.has_so_far.Goals as goal

pub returns-in_default : goal.returns-in_default
returns-in_default c = record {
  answer =
      let a : Assembly = record { top = c.self.inside.top; wanted = c.self.inside.wanted; made = told_rows c.self.inside.made.items; held = all_held c.self.inside.made.items } in (
        (λ e. absurd (false≢true e)),
        (λ far. absurd (far_below a c.args.path.now c.args.offset (subst (λ (z : Assembly). HasSoFar z c.args.path.now c.args.offset) (sym c.self.view_is) far) (sym c.in_ok-rest.ensures.value ∙ c.in_default.is))),
      );
}

pub returns-in-Some-size_at : goal.returns-in-Some-size_at
returns-in-Some-size_at c = record {
  answer =
      let rows = c.self.inside.made.items in
      let a : Assembly = record { top = c.self.inside.top; wanted = c.self.inside.wanted; made = told_rows rows; held = all_held rows } in
      let test = Decides-eqb c.in-Some-size_at.size c.args.offset in
      let found = rw c.deref.ensures.value at c.in-Some-size_at.ensures.file in
      let file : (had : List ℕ) × (listed a.made c.in-Some.rest ≡ File had) × (length had ≡ c.in-Some-size_at.size) = (found.0.bytes, listed-told rows c.in-Some.rest ∙ ap told found.1, found.2) in
      let size = far_size a c.args.path.now c.in-Some.rest c.args.offset c.in-Some-size_at.size (sym c.in_ok-rest.ensures.value ∙ c.in-Some.is) file in (
        (λ e. subst (λ (z : Assembly). HasSoFar z c.args.path.now c.args.offset) c.self.view_is (size.0 (test.0 e))),
        (λ far. test.1 (size.1 (subst (λ (z : Assembly). HasSoFar z c.args.path.now c.args.offset) (sym c.self.view_is) far))),
      );
}

pub returns : goal.returns
returns c = record {
  answer =
      let rows = c.self.inside.made.items in
      let a : Assembly = record { top = c.self.inside.top; wanted = c.self.inside.wanted; made = told_rows rows; held = all_held rows } in
      let none = rw c.deref.ensures.value at c.in-None.ensures.none in
      let gone : (had : List ℕ) → listed a.made c.in-Some.rest ≢ File had = λ had e. let file = told_file (listed rows c.in-Some.rest) had (sym (listed-told rows c.in-Some.rest) ∙ e) in none file.0 file.1 in (
        (λ e. absurd (false≢true e)),
        (λ far. absurd (far_none a c.args.path.now c.in-Some.rest c.args.offset (sym c.in_ok-rest.ensures.value ∙ c.in-Some.is) gone
            (subst (λ (z : Assembly). HasSoFar z c.args.path.now c.args.offset) (sym c.self.view_is) far))),
      );
}
