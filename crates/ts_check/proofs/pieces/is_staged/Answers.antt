use Rattle.std.proofs.Common.{◌≡◌, sym, refl, ap, ◌∙◌, subst, inl, inr, slice_get, arith}
use Rattle.std.proofs.lemmas.Bool.{false≢true, cases_eq}
use Rattle.std.proofs.lemmas.Option.{slice_get_within, same_Some}
use Rattle.ts_model.specs.declared.row.Row.{Row}
use Rattle.ts_model.specs.declared.row.Stamp.{Stamp}
use Rattle.ts_check.proofs.Scans.{item_at}
use Rattle.ts_check.proofs.Staging.{one_file}
use Rattle.ts_check.proofs.Complete.{nothing_there, from_start, to_end}
use Rattle.ts_model.specs.declared.row.Content.TheVariants.{File}
use Rattle.ts_check.specs.Pieces.{HasAll, LacksRange}
use Rattle.ts_check.proofs.pieces.is_staged.Goals as goal
use Rattle.ts_check.proofs.pieces.is_staged.Goals.{in-Some-file_size+else-not-has_all, in_default-file_size}

pub returns-in_default-clause-all : goal.returns-in_default-clause-all
returns-in_default-clause-all c = λ e k row stamp is above content. absurd (nothing_there c.args.rows.now c.args.top.now c.requires.listing c.requires.some c.in_default.ensures k row is above)

pub returns-then-not-is_prefix-clause-all : goal.returns-then-not-is_prefix-clause-all
returns-then-not-is_prefix-clause-all c = λ e k row stamp is above content.
    let rows = c.args.rows.now in
    let here = item_at rows rows c.loop-k.k c.index-rows-k.result refl c.loop-k-test.true c.index-rows-k.is in
    c.loop-k.invariant k row stamp (from_start rows c.args.top.now c.in-Some.start k row c.requires.listing c.in-Some.ensures is above)
    (to_end rows c.args.top.now c.in-Some.start c.loop-k.k k c.index-rows-k.result row c.requires.listing c.in-Some.ensures (omega arith) here (λ up. false≢true (sym c.if-not-is_prefix.true ∙ c.is_prefix.ensures.1 up)) is above) is content

pub returns-then-not-has_all-clause-lacking : goal.returns-then-not-has_all-clause-lacking
returns-then-not-has_all-clause-lacking c = λ e.
    let rows = c.args.rows.now in
    let here = item_at rows rows c.loop-k.k c.index-rows-k.result refl c.loop-k-test.true c.index-rows-k.is in
    let size = c.in-Some-file_size.ensures in
    let range = c.if-not-has_all.ensures.lacking refl in
    (c.loop-k.k, c.index-rows-k.result, size.0, here, c.is_prefix.ensures.0 c.if-not-is_prefix.false, size.1, subst (λ z. LacksRange c.args.staged.now c.args.e c.loop-k.k z) size.2 range)

pub loop-k-preserved : goal.loop-k-preserved
loop-k-preserved c = λ k row stamp past less is content.
    let rows = c.args.rows.now in
    let here = item_at rows rows c.loop-k.k c.index-rows-k.result refl c.loop-k-test.true c.index-rows-k.is in
    elim (cases_eq k c.loop-k.k) [
      | inr differ ↦ c.loop-k.invariant k row stamp past (omega arith) is content
      | inl same ↦ (
          let one : row ≡ c.index-rows-k.result = same_Some row c.index-rows-k.result (sym is ∙ ap (slice_get rows) same ∙ here) in
          elim c.match-file_size.branch [
            | in-Some-file_size+else-not-has_all w ↦ (
                let size = w.in-Some-file_size.ensures in
                let content_here : c.index-rows-k.result.content ≡ File size.0 = size.1 in
                let stamps : size.0 ≡ stamp = one_file size.0 stamp (sym content_here ∙ ap (λ (z : Row Stamp). z.content) (sym one) ∙ content) in
                subst (λ z. HasAll c.args.staged.now c.args.e z stamp.size) (sym same) (subst (λ z. HasAll c.args.staged.now c.args.e c.loop-k.k z) (size.2 ∙ ap (λ (z : Stamp). z.size) stamps) (w.has_all.ensures.all w.if-not-has_all.false)))
            | in_default-file_size w ↦ absurd (w.in_default-file_size.ensures stamp (subst (λ (z : Row Stamp). z.content ≡ File stamp) one content))
          ])
    ]

pub returns-clause-all : goal.returns-clause-all
returns-clause-all c = λ e k row stamp is above content.
    c.loop-k.invariant k row stamp (from_start c.args.rows.now c.args.top.now c.in-Some.start k row c.requires.listing c.in-Some.ensures is above)
    (let h = slice_get_within c.args.rows.now k row is in let g = c.loop-k-test.false in omega arith) is content
