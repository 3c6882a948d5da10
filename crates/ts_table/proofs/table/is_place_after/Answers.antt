use Rattle.std.proofs.Common.{◌-◌, length, arith, sym, ◌∙◌, refl}
use Rattle.std.proofs.lemmas.Bool.{false≢true}
use Rattle.ts_table.proofs.Last.{none_last}
use Rattle.ts_table.proofs.Places.{last_from_place, place_from_last, parent_of, no_place}
use Rattle.ts_table.proofs.table.is_place_after.Goals as goal

pub returns-then-has_parent_above : goal.returns-then-has_parent_above
returns-then-has_parent_above g c =
    let rows = c.args.rows.now in
    let n = length rows - 1 in (
      (λ t. place_from_last rows c.args.path.now n c.in-Some.row.now c.requires.listing c.in-Some.ensures.value (c.has_parent_above.ensures.0 c.if-has_parent_above.true) (c.may_be_above.ensures.0 t)),
      (λ place.
          let named = parent_of c.args.path.now place.not_root in
          let h = last_from_place rows c.args.path.now n c.in-Some.row.now c.requires.listing (omega (arith, c.depth.ensures.depth)) (omega (arith, c.in-Some.ensures.item.3.0)) c.in-Some.ensures.value c.requires.after named.0 named.1 named.2 (place.parent named.0 named.1 named.2) in
          c.may_be_above.ensures.1 h.1),
    )

pub returns-else-has_parent_above : goal.returns-else-has_parent_above
returns-else-has_parent_above g c =
    let rows = c.args.rows.now in
    let n = length rows - 1 in (
      (λ t. absurd (false≢true (sym c.if-has_parent_above.false ∙ t))),
      (λ place.
          let named = parent_of c.args.path.now place.not_root in
          let h = last_from_place rows c.args.path.now n c.in-Some.row.now c.requires.listing (omega (arith, c.depth.ensures.depth)) (omega (arith, c.in-Some.ensures.item.3.0)) c.in-Some.ensures.value c.requires.after named.0 named.1 named.2 (place.parent named.0 named.1 named.2) in
          c.has_parent_above.ensures.1 h.0),
    )

pub returns-in-None : goal.returns-in-None
returns-in-None g c = (
  (λ t. absurd (false≢true t)),
  (λ place. absurd (no_place c.args.rows.now c.args.path.now (none_last c.args.rows.now (length c.args.rows.now - 1) refl c.in-None.ensures.value) (omega (arith, c.depth.ensures.depth)) place)),
)
