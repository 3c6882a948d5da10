use Rattle.std.proofs.Common.{◌≡◌, ◌==◌, ◌∷◌, [], ◌≤◌, Ok, length, sum_by, refl, ap, subst, sym, map, ◌∙◌}
use Rattle.std.proofs.lemmas.Bool.{false≢true}
use Rattle.std.specs.List.{AllByRecursion, list_any}
use Rattle.ts_name.specs.Paths.{IsName, IsPath}
use Rattle.ts_name.specs.Buffers.{IsBuffer, pieces}
use Rattle.ts_name.proofs.Buffers.{short_buffer, whole_replaced}
use Rattle.ts_name.proofs.Parsing.{Parsed, Parsed-no_names, Parsed-bad, Parsed-past, Parsed-path, Parsed-zero, Buffered-from, zero_for_slash, no_bytes}
use Rattle.ts_name.proofs.Texts.{no_names_first, no_names_rest, root_text}
use Rattle.ts_name.proofs.paths.Path.parse_text.Goals as goal

pub returns-in_default : goal.returns-in_default
returns-in_default c =
    let text = c.args.text.now in
    let none : text ≡ [] = no_bytes text c.in_default.ensures.cases in
    let h : Parsed text (Ok c.root.result) = subst (λ p. Parsed text (Ok p)) (sym c.root.ensures) (subst (λ t. Parsed t (Ok [])) (sym none) (Parsed-path [] [] root_text)) in
    record { ok = h.ok; reads = h.reads; bad_text = h.bad_text; bad_name = h.bad_name; too_long = h.too_long }

pub returns-then-first-ne47 : goal.returns-then-first-ne47
returns-then-first-ne47 c =
    let h = Parsed-no_names c.args.text.now (no_names_first _ _ _ c.in-Some.ensures.cases.0 c.if-first-ne47.true) in
    record { ok = h.ok; reads = h.reads; bad_text = h.bad_text; bad_name = h.bad_name; too_long = h.too_long }

pub returns-in_default-2 : goal.returns-in_default-2
returns-in_default-2 c =
    let text : c.args.text.now ≡ 47 ∷ c.in-Some.rest.now = c.in-Some.ensures.cases.0 ∙ ap (λ z. z ∷ c.in-Some.rest.now) c.if-first-ne47.false in
    let h = Parsed-no_names c.args.text.now (no_names_rest _ _ text (rw c.in_default-2.is at c.in_ok-bytes.ensures)) in
    record { ok = h.ok; reads = h.reads; bad_text = h.bad_text; bad_name = h.bad_name; too_long = h.too_long }

pub returns-then-contains : goal.returns-then-contains
returns-then-contains c =
    let text : c.args.text.now ≡ 47 ∷ c.in-Some.rest.now = c.in-Some.ensures.cases.0 ∙ ap (λ z. z ∷ c.in-Some.rest.now) c.if-first-ne47.false in
    let h = Parsed-zero c.args.text.now c.in-Some.rest.now c.in-Some-2.bytes.items text (rw c.in-Some-2.is at c.in_ok-bytes.ensures) (ap (list_any (λ b. b == 0)) (sym c.deref.ensures.value) ∙ sym c.contains.ensures.value ∙ c.if-contains.true) in
    record { ok = h.ok; reads = h.reads; bad_text = h.bad_text; bad_name = h.bad_name; too_long = h.too_long }

pub has_good_names-requires : goal.has_good_names-requires
has_good_names-requires c =
    whole_replaced _ _ (c.deref-2.ensures.value ∙ c.end_names.ensures ∙ ap (λ z. map zero_for_slash z) c.in_ok-push.ensures.items)

pub returns-then-not-has_good_names : goal.returns-then-not-has_good_names
returns-then-not-has_good_names c =
    let text : c.args.text.now ≡ 47 ∷ c.in-Some.rest.now = c.in-Some.ensures.cases.0 ∙ ap (λ z. z ∷ c.in-Some.rest.now) c.if-first-ne47.false in
    let bytes = c.end_names.new.bytes.items in
    let b = Buffered-from c.args.text.now c.in-Some.rest.now c.in-Some-2.bytes.items bytes text (rw c.in-Some-2.is at c.in_ok-bytes.ensures) (ap (list_any (λ x. x == 0)) (sym c.deref.ensures.value) ∙ sym c.contains.ensures.value ∙ c.if-contains.false) (c.end_names.ensures ∙ ap (λ z. map zero_for_slash z) c.in_ok-push.ensures.items) in
    let h = Parsed-bad c.args.text.now (pieces 0 bytes) b.spelled (λ g. false≢true (c.if-not-has_good_names.ensures.1 (subst (λ z. AllByRecursion IsName (pieces 0 z)) (sym c.deref-2.ensures.value) g))) in
    record { ok = h.ok; reads = h.reads; bad_text = h.bad_text; bad_name = h.bad_name; too_long = h.too_long }

pub is_within_limits-requires : goal.is_within_limits-requires
is_within_limits-requires c =
    whole_replaced _ _ (c.deref-3.ensures.value ∙ c.end_names.ensures ∙ ap (λ z. map zero_for_slash z) c.in_ok-push.ensures.items)

pub returns-then-not-is_within_limits : goal.returns-then-not-is_within_limits
returns-then-not-is_within_limits c =
    let text : c.args.text.now ≡ 47 ∷ c.in-Some.rest.now = c.in-Some.ensures.cases.0 ∙ ap (λ z. z ∷ c.in-Some.rest.now) c.if-first-ne47.false in
    let bytes = c.end_names.new.bytes.items in
    let b = Buffered-from c.args.text.now c.in-Some.rest.now c.in-Some-2.bytes.items bytes text (rw c.in-Some-2.is at c.in_ok-bytes.ensures) (ap (list_any (λ x. x == 0)) (sym c.deref.ensures.value) ∙ sym c.contains.ensures.value ∙ c.if-contains.false) (c.end_names.ensures ∙ ap (λ z. map zero_for_slash z) c.in_ok-push.ensures.items) in
    let good = subst (λ z. AllByRecursion IsName (pieces 0 z)) c.deref-2.ensures.value (c.if-not-has_good_names.ensures.0 refl) in
    let h = Parsed-past c.args.text.now (pieces 0 bytes) b.spelled good (λ l. false≢true (c.if-not-is_within_limits.ensures.1 (subst (λ z. length (pieces 0 z) ≤ 64) (sym c.deref-3.ensures.value) l.depth, subst (λ z. sum_by length (pieces 0 z) ≤ 4096) (sym c.deref-3.ensures.value) l.size))) in
    record { ok = h.ok; reads = h.reads; bad_text = h.bad_text; bad_name = h.bad_name; too_long = h.too_long }

pub share-requires : goal.share-requires
share-requires c =
    let limits = c.if-not-is_within_limits.ensures.0 refl in
    let names = c.if-not-has_good_names.ensures.0 refl in
    short_buffer c.end_names.new.bytes.items _ refl (record {
      lawful = record {
        names = subst (λ z. AllByRecursion IsName (pieces 0 z)) c.deref-2.ensures.value names;
        depth = subst (λ z. length (pieces 0 z) ≤ 64) c.deref-3.ensures.value limits.0;
        size = subst (λ z. sum_by length (pieces 0 z) ≤ 4096) c.deref-3.ensures.value limits.1;
      };
      whole = whole_replaced _ _ (c.end_names.ensures ∙ ap (λ z. map zero_for_slash z) c.in_ok-push.ensures.items);
    })

pub invariant_of-result : goal.invariant_of-result
invariant_of-result c =
    let limits = c.if-not-is_within_limits.ensures.0 refl in
    let names = c.if-not-has_good_names.ensures.0 refl in
    subst IsBuffer (sym c.in_ok-shared.ensures) (record {
      lawful = record {
        names = subst (λ z. AllByRecursion IsName (pieces 0 z)) c.deref-2.ensures.value names;
        depth = subst (λ z. length (pieces 0 z) ≤ 64) c.deref-3.ensures.value limits.0;
        size = subst (λ z. sum_by length (pieces 0 z) ≤ 4096) c.deref-3.ensures.value limits.1;
      };
      whole = whole_replaced _ _ (c.end_names.ensures ∙ ap (λ z. map zero_for_slash z) c.in_ok-push.ensures.items);
    })

pub returns : goal.returns
returns c =
    let text : c.args.text.now ≡ 47 ∷ c.in-Some.rest.now = c.in-Some.ensures.cases.0 ∙ ap (λ z. z ∷ c.in-Some.rest.now) c.if-first-ne47.false in
    let bytes = c.end_names.new.bytes.items in
    let b = Buffered-from c.args.text.now c.in-Some.rest.now c.in-Some-2.bytes.items bytes text (rw c.in-Some-2.is at c.in_ok-bytes.ensures) (ap (list_any (λ x. x == 0)) (sym c.deref.ensures.value) ∙ sym c.contains.ensures.value ∙ c.if-contains.false) (c.end_names.ensures ∙ ap (λ z. map zero_for_slash z) c.in_ok-push.ensures.items) in
    let limits = c.if-not-is_within_limits.ensures.0 refl in
    let names = c.if-not-has_good_names.ensures.0 refl in
    let lawful : IsPath (pieces 0 bytes) = record {
      names = subst (λ z. AllByRecursion IsName (pieces 0 z)) c.deref-2.ensures.value names;
      depth = subst (λ z. length (pieces 0 z) ≤ 64) c.deref-3.ensures.value limits.0;
      size = subst (λ z. sum_by length (pieces 0 z) ≤ 4096) c.deref-3.ensures.value limits.1;
    } in
    let h = subst (λ z. Parsed c.args.text.now (Ok (pieces 0 z))) (sym c.in_ok-shared.ensures) (Parsed-path c.args.text.now (pieces 0 bytes) (lawful, b.spelled.1)) in
    record { ok = h.ok; reads = h.reads; bad_text = h.bad_text; bad_name = h.bad_name; too_long = h.too_long }
