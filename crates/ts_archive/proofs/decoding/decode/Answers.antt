use Rattle.std.proofs.Common.{◌∷◌, [], ◌++◌, refl, sym, ◌∙◌, subst, inl, inr, arith}
use Rattle.std.proofs.lemmas.Bool.{false≢true}
use Rattle.std.proofs.lemmas.Result.{err_from_is_err_and}
use Rattle.sha2.specs.Hashers.{Holds256}
use Rattle.ts_model.specs.Texts.{text}
use Rattle.ts_print.specs.Faults.{Refuses}
use Rattle.ts_print.specs.Readers.{BeginsNoPrint}
use Rattle.ts_tree.proofs.Taken.{Taken, taken_more, taken_none}
use Rattle.ts_archive.specs.Endings.{header}
use Rattle.ts_archive.proofs.Archives.{counted_more, hashed_more, right_end}
use Rattle.ts_archive.proofs.NoArchive.{at_end, at_header_fault, at_header_other, at_line_fault, at_line_refused, at_more, at_more_fault, ends_wrong, only_refused}
use Rattle.ts_archive.proofs.decoding.decode.Goals as goal

-- The header's reading failed.
pub returns-in_err-advance-clause-refused : goal.returns-in_err-advance-clause-refused
returns-in_err-advance-clause-refused g c =
    let p = err_from_is_err_and c.from_residual.result c.from_residual.ensures.1 in
    rw (p.1, p.2) (at_header_fault c.args.lines.now c.advance.new.self c.in_err-advance.field-0.0 (taken_none c.args.lines.now) c.in_err-advance.ensures.answers)

-- Another line stands in its place.
pub returns-then-not-is_header-clause-refused : goal.returns-then-not-is_header-clause-refused
returns-then-not-is_header-clause-refused g c =
    let gives = rw c.if-not-branch.false at c.in_ok-advance.ensures.answers in
    at_header_other c.args.lines.now c.advance.new.self gives (λ e. false≢true (sym c.if-not-is_header.true ∙ c.is_header.ensures.1 (c.line.ensures ∙ e)))

-- A later line's reading failed.
pub returns-in_err-advance-2-clause-refused : goal.returns-in_err-advance-2-clause-refused
returns-in_err-advance-2-clause-refused g c =
    let p = err_from_is_err_and c.from_residual-in_err-advance-2.result c.from_residual-in_err-advance-2.ensures.1 in
    rw (p.1, p.2)
    (at_line_fault c.args.lines.now c.loop-count.lines c.advance-in-loop-count.new.self c.loop-count.reader c.loop-count.count c.in_err-advance-2.field-0.0
    (record { taken = c.loop-count.invariant.taken; rows = c.reader.inside.print; print = c.reader.invariant; lines = c.reader.view_is; number = c.loop-count.invariant.counted; small = omega arith })
    c.in_err-advance-2.ensures.answers)

-- There is no end line.
pub returns-then-not-branch-2-clause-refused : goal.returns-then-not-branch-2-clause-refused
returns-then-not-branch-2-clause-refused g c =
    let ends = rw c.if-not-branch-2.true at c.in_ok-advance-2.ensures.answers in
    at_end c.args.lines.now c.loop-count.lines c.advance-in-loop-count.new.self c.loop-count.reader c.loop-count.count
    (record { taken = c.loop-count.invariant.taken; rows = c.reader.inside.print; print = c.reader.invariant; lines = c.reader.view_is; number = c.loop-count.invariant.counted; small = omega arith })
    ends

-- What stands behind the end line couldn't be read.
pub returns-in_err-advance-3-clause-refused : goal.returns-in_err-advance-3-clause-refused
returns-in_err-advance-3-clause-refused g c =
    let p = err_from_is_err_and c.from_residual-in_err-advance-3.result c.from_residual-in_err-advance-3.ensures.1 in
    let gives = rw c.if-not-branch-2.false at c.in_ok-advance-2.ensures.answers in
    let told = c.in-Some.ensures.found in
    rw (p.1, p.2)
    (at_more_fault c.args.lines.now c.loop-count.lines c.advance-in-loop-count.new.self c.advance-in-Some.new.self c.loop-count.reader c.loop-count.count c.in-Some.told.0 c.in-Some.told.1
    c.in_err-advance-3.field-0.0
    (record { taken = c.loop-count.invariant.taken; rows = c.reader.inside.print; print = c.reader.invariant; lines = c.reader.view_is; number = c.loop-count.invariant.counted; small = omega arith })
    gives (sym c.line-line.ensures ∙ told.1) (taken_more c.args.lines.now c.loop-count.lines c.advance-in-loop-count.new.self (header ∷ c.loop-count.reader) c.loop-count.invariant.taken gives)
    c.in_err-advance-3.ensures.answers)

-- A line stands behind it.
pub returns-then-branch-clause-refused : goal.returns-then-branch-clause-refused
returns-then-branch-clause-refused g c =
    let gives = rw c.if-not-branch-2.false at c.in_ok-advance-2.ensures.answers in
    let more = rw c.if-branch.true at c.in_ok-advance-3.ensures.answers in
    let told = c.in-Some.ensures.found in
    at_more c.args.lines.now c.loop-count.lines c.advance-in-loop-count.new.self c.advance-in-Some.new.self c.loop-count.reader c.loop-count.count c.in-Some.told.0 c.in-Some.told.1
    (record { taken = c.loop-count.invariant.taken; rows = c.reader.inside.print; print = c.reader.invariant; lines = c.reader.view_is; number = c.loop-count.invariant.counted; small = omega arith })
    gives (sym c.line-line.ensures ∙ told.1) more

pub of_reader-requires : goal.of_reader-requires
of_reader-requires g c = only_refused (BeginsNoPrint (c.loop-count.reader ++ c.line-line.result.now ∷ [])) c.in-Err-line.fault c.in-Err-line.ensures.refused

-- The line is neither a row's nor an end line.
pub returns-in-Err-line-clause-refused : goal.returns-in-Err-line-clause-refused
returns-in-Err-line-clause-refused g c =
    let gives = rw c.if-not-branch-2.false at c.in_ok-advance-2.ensures.answers in
    let refused = c.in-Err-line.ensures.refused in
    at_line_refused c.args.lines.now c.loop-count.lines c.advance-in-loop-count.new.self c.loop-count.reader c.loop-count.count c.in-Err-line.fault
    (record { taken = c.loop-count.invariant.taken; rows = c.reader.inside.print; print = c.reader.invariant; lines = c.reader.view_is; number = c.loop-count.invariant.counted; small = omega arith })
    gives (subst (λ z. Refuses (BeginsNoPrint (c.loop-count.reader ++ z ∷ [])) c.in-Err-line.fault) c.line-line.ensures refused)
    (λ count digest fits e. c.in_default.ensures.none count digest fits (c.line-line.ensures ∙ e)) c.of_reader.result c.of_reader.ensures

pub loop-count-init : goal.loop-count-init
loop-count-init g c =
    let gives = rw c.if-not-branch.false at c.in_ok-advance.ensures.answers in
    let first = taken_more c.args.lines.now c.args.lines.now c.advance.new.self [] (taken_none c.args.lines.now) gives in
    let is_line = sym c.line.ensures ∙ c.is_header.ensures.0 c.if-not-is_header.false in
    rw c.new-reader.ensures (record {
      taken = subst (λ z. Taken c.args.lines.now c.advance.new.self (z ∷ [])) is_line first;
      hashed = subst (λ z. Holds256 c.update.new.self z) c.as_slice.ensures (c.update.ensures [] c.new-hasher.ensures);
      counted = refl;
    })

pub loop-count-preserved : goal.loop-count-preserved
loop-count-preserved g c =
    let fed = c.loop-count.reader in
    let gives = rw c.if-not-branch-2.false at c.in_ok-advance-2.ensures.answers in
    let more = taken_more c.args.lines.now c.loop-count.lines c.advance-in-loop-count.new.self (header ∷ fed) c.loop-count.invariant.taken gives in
    let line = c.line-line.result.now in
    rw c.in_default-line.ensures.taken (record {
      taken = subst (λ z. Taken c.args.lines.now c.advance-in-loop-count.new.self (header ∷ (fed ++ z ∷ []))) (sym c.line-line.ensures) more;
      hashed = subst (λ z. Holds256 c.update-in-loop-count-2.new.self z) (hashed_more fed line)
          (subst (λ z. Holds256 c.update-in-loop-count-2.new.self ((text (header ∷ fed) ++ line) ++ z)) c.as_slice-in-loop-count.ensures (c.update-in-loop-count-2.ensures (text (header ∷ fed) ++ line) (c.update-in-loop-count.ensures (text (header ∷ fed)) c.loop-count.invariant.hashed)));
      counted = counted_more fed line c.loop-count.count c.loop-count.invariant.counted;
    })

-- The count is wrong.
pub returns-then-told-count-clause-refused : goal.returns-then-told-count-clause-refused
returns-then-told-count-clause-refused g c =
    let told = c.in-Some.ensures.found in
    let gives = rw c.if-not-branch-2.false at c.in_ok-advance-2.ensures.answers in
    let ends = rw c.if-branch.false at c.in_ok-advance-3.ensures.answers in
    ends_wrong c.args.lines.now c.loop-count.lines c.advance-in-loop-count.new.self c.advance-in-Some.new.self c.loop-count.reader c.loop-count.count c.line-line.result.now c.in-Some.told.0 c.in-Some.told.1
    (record { taken = c.loop-count.invariant.taken; rows = c.reader.inside.print; print = c.reader.invariant; lines = c.reader.view_is; number = c.loop-count.invariant.counted; small = omega arith })
    gives c.line-line.ensures ends told.1 told.0 (inl (λ e. c.if-told-count.true (e ∙ sym c.loop-count.invariant.counted)))

-- The digest is wrong.
pub returns-then-not-is_same-clause-refused : goal.returns-then-not-is_same-clause-refused
returns-then-not-is_same-clause-refused g c =
    let told = c.in-Some.ensures.found in
    let gives = rw c.if-not-branch-2.false at c.in_ok-advance-2.ensures.answers in
    let ends = rw c.if-branch.false at c.in_ok-advance-3.ensures.answers in
    let sum = c.finalize-sum.ensures (text (header ∷ c.loop-count.reader)) c.loop-count.invariant.hashed in
    ends_wrong c.args.lines.now c.loop-count.lines c.advance-in-loop-count.new.self c.advance-in-Some.new.self c.loop-count.reader c.loop-count.count c.line-line.result.now c.in-Some.told.0 c.in-Some.told.1
    (record { taken = c.loop-count.invariant.taken; rows = c.reader.inside.print; print = c.reader.invariant; lines = c.reader.view_is; number = c.loop-count.invariant.counted; small = omega arith })
    gives c.line-line.ensures ends told.1 told.0 (inr (λ e. false≢true (sym c.if-not-is_same.true ∙ c.is_same.ensures.1 (e ∙ sym sum))))

-- Both are right.
pub returns-in-Some-clause-found : goal.returns-in-Some-clause-found
returns-in-Some-clause-found g c =
    let fed = c.loop-count.reader in
    let line = c.line-line.result.now in
    let told = c.in-Some.ensures.found in
    let gives = rw c.if-not-branch-2.false at c.in_ok-advance-2.ensures.answers in
    let more = taken_more c.args.lines.now c.loop-count.lines c.advance-in-loop-count.new.self (header ∷ fed) c.loop-count.invariant.taken gives in
    let taken = subst (λ z. Taken c.args.lines.now c.advance-in-loop-count.new.self (header ∷ (fed ++ z ∷ []))) (sym c.line-line.ensures) more in
    let ends = rw c.if-branch.false at c.in_ok-advance-3.ensures.answers in
    let sum = c.finalize-sum.ensures (text (header ∷ fed)) c.loop-count.invariant.hashed in
    right_end c.args.lines.now c.advance-in-loop-count.new.self c.advance-in-Some.new.self fed line c.in-Ok.print c.in-Some.told.0 c.in-Some.told.1 taken ends told.1
    (c.if-told-count.false ∙ c.loop-count.invariant.counted) (c.is_same.ensures.0 c.if-not-is_same.false ∙ sum) c.in-Ok.ensures.found.0 c.in-Ok.ensures.found.1
