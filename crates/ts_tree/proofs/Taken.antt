-- What a decoder knows after some lines.
--     Taken old now fed    these lines were taken since
use Rattle.std.proofs.Common.{◌≡◌, ◌≢◌, ℕ, List, [], ◌∷◌, ◌++◌, Option, Some, None, refl, sym, ap, ◌∙◌, subst, inl, inr, append_assoc}
use Rattle.std.specs.Prelude.{IfSome}
use Rattle.std.specs.Io.KnownBytes.{Keeps, Consumes, IsAtEnd}
use Rattle.std.proofs.lemmas.List.{append-nil}
use Rattle.ts_text.specs.Lines.{IsLine, Reading, HasNoLine, GivesLine, HasEnded, HasFailed, HasRefused}
use Rattle.ts_text.specs.declared.state.State.TheVariants.{Going, Refused}
use Rattle.ts_text.specs.declared.fault.TextFault.TheVariants as text_fault
use Rattle.ts_name.proofs.Utf8.{all_append, all_parts}
use Rattle.ts_model.specs.Texts.{Line, text}
use Rattle.ts_model.proofs.Lines.{LinesFollow, text_push_rest}
use Rattle.ts_tree.specs.Decoding.{SourceFailed}
use Rattle.ts_tree.proofs.Lines.{AreTextLines, stands_first, text_front}

pub record Taken (old now : Reading) (fed : List Line) : Type 0 where
  pub bytes : Consumes old.left now.left (text fed)
  pub lines : AreTextLines fed
  pub failures : now.failures ≡ old.failures
  pub failed : now.state ≡ Refused text_fault.Failed → old.state ≡ Refused text_fault.Failed

consumes_none : (known : Option (List ℕ)) → Consumes known known []
consumes_none None = tt
consumes_none (Some bytes) = refl

-- none at first
pub taken_none : (old : Reading) → Taken old old []
taken_none old = record { bytes = consumes_none old.left; lines = tt; failures = refl; failed = λ e. e }

consumes_line : (a b c : Option (List ℕ)) (fed : List Line) (line : Line) → Consumes a b (text fed) → Consumes b c (line ++ 10 ∷ []) → Consumes a c (text (fed ++ line ∷ []))
consumes_line None b c fed line h k = tt
consumes_line (Some x) None c fed line h k = absurd h
consumes_line (Some x) (Some y) None fed line h k = absurd k
consumes_line (Some x) (Some y) (Some z) fed line h k =
    h ∙ ap (λ w. text fed ++ w) (k ∙ append_assoc line (10 ∷ []) z) ∙ sym (text_push_rest fed line z)

-- one more line
pub taken_more : (old now next : Reading) (fed : List Line) → Taken old now fed → GivesLine now next → Taken old next (fed ++ next.line ∷ [])
taken_more old now next fed taken gives = record {
  bytes = consumes_line old.left now.left next.left fed next.line taken.bytes gives.bytes;
  lines = all_append IsLine fed (next.line ∷ []) taken.lines (gives.line, tt);
  failures = gives.failures ∙ taken.failures;
  failed = λ e. absurd (let k : Going ≡ Refused text_fault.Failed = sym gives.going.1 ∙ e in cc);
}

-- the source failed
pub taken_failed : (old now next : Reading) (fed : List Line) → Taken old now fed → HasFailed now next → SourceFailed old next
taken_failed old now next fed taken fails = record {
  state = fails.state;
  failures = elim fails.failures [
    | inl before ↦ inl (taken.failed before)
    | inr grew ↦ inr (λ same. grew (same ∙ sym taken.failures))
  ];
}

ended : (a b c : Option (List ℕ)) (bytes : List ℕ) → Consumes a b bytes → Keeps b c → IsAtEnd c → IfSome a (λ x. x ≡ bytes)
ended None b c bytes h k e = tt
ended (Some x) None c bytes h k e = absurd h
ended (Some x) (Some y) None bytes h k e = absurd k
ended (Some x) (Some y) (Some z) bytes h k e = h ∙ ap (λ w. bytes ++ w) (sym k ∙ e) ∙ append-nil bytes

-- all was read
pub taken_all : (old now next : Reading) (fed : List Line) → Taken old now fed → HasEnded now next → IfSome old.left (λ bytes. bytes ≡ text fed)
taken_all old now next fed taken end = ended old.left now.left next.left (text fed) taken.bytes end.kept end.ended

refused : (a b c : Option (List ℕ)) (fed : List Line) → AreTextLines fed → Consumes a b (text fed) → Keeps b c → IfSome c HasNoLine → IfSome a (λ x. (xs : List Line) → AreTextLines xs → x ≢ text xs)
refused None b c fed are h k none = tt
refused (Some x) None c fed are h k none = absurd h
refused (Some x) (Some y) None fed are h k none = absurd k
refused (Some x) (Some y) (Some z) fed are h k none = λ xs are_x e. go xs are_x (text_front xs fed y are_x are (sym e ∙ h))
  where
    go : (xs : List Line) → AreTextLines xs → LinesFollow xs fed y → ⊥
    go xs are_x found =
        let are_more = (all_parts IsLine fed found.more (subst (λ w. AreTextLines w) found.lines are_x)).1 in
        let first = stands_first found.more are_more (λ e. none.some (k ∙ sym found.spelled ∙ e)) in
        none.none first.line first.rest first.lawful (k ∙ sym found.spelled ∙ first.spelled)

-- what is left has no line, so no lines spell the bytes
pub taken_refused : (old now next : Reading) (fed : List Line) → Taken old now fed → HasRefused now next → IfSome old.left (λ bytes. (xs : List Line) → AreTextLines xs → bytes ≢ text xs)
taken_refused old now next fed taken refuses = refused old.left now.left next.left fed taken.lines taken.bytes refuses.kept refuses.none

fronts : (a b : Option (List ℕ)) (fed : List Line) → AreTextLines fed → Consumes a b (text fed)
    → IfSome a (λ x. (xs : List Line) → AreTextLines xs → x ≡ text xs → (rest : List Line) × (xs ≡ fed ++ rest))
fronts None b fed are h = tt
fronts (Some x) None fed are h = absurd h
fronts (Some x) (Some y) fed are h = λ xs are_x e. let found = text_front xs fed y are_x are (sym e ∙ h) in (found.more, found.lines)

-- lines that spell the bytes begin with those that were taken
pub taken_first : (old now : Reading) (fed : List Line) → Taken old now fed
    → IfSome old.left (λ bytes. (xs : List Line) → AreTextLines xs → bytes ≡ text xs → (rest : List Line) × (xs ≡ fed ++ rest))
taken_first old now fed taken = fronts old.left now.left fed taken.lines taken.bytes
