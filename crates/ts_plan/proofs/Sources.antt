-- What the decoder knows of a source's bytes.
use Rattle.std.proofs.Common.{◌≡◌, ◌≢◌, ◌⊎◌, ℕ, List, [], ◌∷◌, ◌++◌, append_assoc, Option, Some, None, IfSome, Result, Ok, Err, refl, sym, ap, ◌∙◌, subst, inl, inr, append-nil}
use Rattle.std.specs.Io.KnownBytes.{Keeps, Consumes, IsAtEnd}
use Rattle.std.proofs.KnownBytes.{Consumes-trans, Consumes-kept, Consumes-nil}
use Rattle.ts_model.specs.Texts.{Line, text, plan_lines}
use Rattle.ts_name.proofs.Spelling.{cut_at}
use Rattle.ts_name.proofs.Utf8.{all_append, all_parts}
use Rattle.ts_model.proofs.Lines.{Fronts, fronts, longer, no_lines, no_text, shorter, text_cons, text_front, text_push}
use Rattle.ts_model.specs.declared.plan.Plan.{Plan}
use Rattle.ts_text.specs.Lines.{Reading, IsLine, HasNoLine, Answers, GivesLine}
use Rattle.ts_text.specs.declared.fault.TextFault.{TextFault}
use Rattle.ts_text.specs.declared.fault.TextFault.TheVariants as text_fault
use Rattle.ts_text.specs.declared.state.State.TheVariants.{Going, Refused}
use Rattle.ts_plan.specs.Progress.{Progress, fed}
use Rattle.ts_plan.specs.Reading.{IsBegun, IsLarge, Begins, ReadsNext, Finishes}
use Rattle.ts_plan.specs.Decoding.{fault_of_text, Decodes, IsPastLimit}
use Rattle.ts_plan.specs.declared.fault.PlanFault.{PlanFault}
use Rattle.ts_plan.specs.declared.fault.PlanFault.TheVariants.{OutOfMemory, Failed, NotCanonical, PastLimit}
use Rattle.ts_plan.proofs.Grammar.{large}
use Rattle.ts_plan.proofs.Texts.{AreTextLines, plan_are_lines}

-- lines were given, and nothing else happened
pub record Given (old now : Reading) (lines : List Line) : Type 0 where
  pub are : AreTextLines lines
  pub bytes : Consumes old.left now.left (text lines)
  pub failures : now.failures ≡ old.failures
  pub state : (now.state ≡ Going) ⊎ (now.state ≡ old.state)

-- none at first
pub given_none : (old : Reading) → Given old old []
given_none old = record { are = tt; bytes = Consumes-nil old.left; failures = refl; state = inr refl }

-- and then one more
pub given_more : (old now new : Reading) (lines next : List Line) → Given old now lines → GivesLine now new → next ≡ lines ++ new.line ∷ [] → Given old new next
given_more old now new lines next given gives same = subst (λ z. Given old new z) (sym same) (record {
  are = all_append IsLine lines (new.line ∷ []) given.are (gives.line, tt);
  bytes = subst (λ z. Consumes old.left new.left z) (sym (text_push lines new.line)) (Consumes-trans old.left now.left new.left (text lines) (new.line ++ 10 ∷ []) given.bytes gives.bytes);
  failures = gives.failures ∙ given.failures;
  state = inl gives.going.1;
})

-- what a text has behind lines
behind : (left : Option (List ℕ)) (bytes : List ℕ) (lines : List Line) (q : Plan) → AreTextLines lines → IsLarge q → Consumes (Some bytes) left (text lines) → bytes ≡ text (plan_lines q)
    → (more : List Line) × (plan_lines q ≡ lines ++ more) × IfSome left (λ rest. rest ≡ text more)
behind None bytes lines q are is consumed same = absurd consumed
behind (Some rest) bytes lines q are is consumed same =
    let found = text_front IsLine (λ x is. is.one) (plan_lines q) lines rest (plan_are_lines q is) are (sym same ∙ consumed) in
    (found.more, found.lines, sym found.spelled)

-- no line of a text stands where there is none
no_more : (left : Option (List ℕ)) (more : List Line) → AreTextLines more → IfSome left (λ rest. rest ≡ text more) → IfSome left HasNoLine → (bytes : List ℕ) (c : List ℕ) → Consumes (Some bytes) left c → ⊥
no_more None more are same none bytes c consumed = consumed
no_more (Some rest) [] are same none bytes c consumed = none.some same
no_more (Some rest) (x ∷ more) are same none bytes c consumed = none.none x (text more) are.0 (same ∙ text_cons x more)

if_known : {Q : List ℕ → Type 0} (known : Option (List ℕ)) → ((bytes : List ℕ) → known ≡ Some bytes → Q bytes) → IfSome known Q
if_known None f = tt
if_known (Some bytes) f = f bytes refl

-- ---- a line past a limit comes behind the lines that were read

-- that line, and what is left with it
record Behind (lines : List Line) (left : List ℕ) (q : Plan) : Type 0 where
  line : Line
  more : List Line
  rest : List ℕ
  is_line : IsLine line
  begins : Begins q (lines ++ line ∷ [])
  left_is : left ≡ line ++ 10 ∷ rest

past_behind : (p : Progress) (bytes left : List ℕ) (past : IsPastLimit bytes) → AreTextLines (fed p) → IsBegun p → bytes ≡ text (fed p) ++ left → Behind (fed p) left past.begins.0
past_behind p bytes left past are begun e =
    let q = past.begins.0 in
    let front_are = (all_parts IsLine past.front past.begins.2.0 (subst (λ z. AreTextLines z) past.begins.2.1 (plan_are_lines q past.begins.1))).0 in
    go front_are (fronts IsLine (λ x is. is.one) (fed p) past.front left past.rest are front_are (sym e ∙ past.split))
  where
    go : AreTextLines past.front → Fronts (fed p) past.front left past.rest → Behind (fed p) left past.begins.0
    go front_are (longer more same left_is) = absurd (past.none begun.0 begun.1 (more ++ begun.2.0, begun.2.1 ∙ ap (λ z. z ++ begun.2.0) same ∙ append_assoc past.front more begun.2.0))
    go front_are (shorter m more same rest) = record {
      line = m;
      more = more;
      rest = text more ++ past.rest;
      is_line = (all_parts IsLine (fed p) (m ∷ more) (subst (λ z. AreTextLines z) same front_are)).1.0;
      begins = (more ++ past.begins.2.0, past.begins.2.1 ∙ ap (λ z. z ++ past.begins.2.0) (same ∙ sym (append_assoc (fed p) (m ∷ []) more)) ∙ append_assoc (fed p ++ m ∷ []) more past.begins.2.0);
      left_is = rest;
    }

-- a line reader that answers a fault
pub text_refused : (old now new : Reading) (p : Progress) (f : TextFault) → Given old now (fed p) → IsBegun p → Answers now (Err f) new → Decodes old (Err (fault_of_text f)) new
text_refused old now new p text_fault.OutOfMemory given begun h = tt
text_refused old now new p text_fault.Failed given begun h = failed given.state h.failures
  where
    going_refused : Going ≡ Refused text_fault.Failed → ⊥
    going_refused e = cc

    failed : (now.state ≡ Going) ⊎ (now.state ≡ old.state) → (now.state ≡ Refused text_fault.Failed) ⊎ (new.failures ≢ now.failures) → (old.state ≡ Refused text_fault.Failed) ⊎ (new.failures ≢ old.failures)
    failed s (inr changed) = inr (λ e. changed (e ∙ sym given.failures))
    failed (inl going) (inl was) = absurd (going_refused (sym going ∙ was))
    failed (inr same) (inl was) = inl (sym same ∙ was)
text_refused old now new p text_fault.NotCanonical given begun h = if_known old.left (λ bytes known.
    let consumed = Consumes-kept (Some bytes) now.left new.left (text (fed p)) (subst (λ z. Consumes z now.left (text (fed p))) known given.bytes) h.kept in
    record {
      none = λ q is same.
          let found = behind new.left bytes (fed p) q given.are is consumed same in
          no_more new.left found.0 (all_parts IsLine (fed p) found.0 (subst (λ z. AreTextLines z) found.1 (plan_are_lines q is))).1 found.2 h.none bytes (text (fed p)) consumed;
      within = λ past. none_stands new.left bytes past consumed h.none;
    })
  where
    none_stands : (left : Option (List ℕ)) (bytes : List ℕ) → IsPastLimit bytes → Consumes (Some bytes) left (text (fed p)) → IfSome left HasNoLine → ⊥
    none_stands None bytes past consumed none = consumed
    none_stands (Some left) bytes past consumed none = let found = past_behind p bytes left past given.are begun consumed in none.none found.line found.rest found.is_line found.left_is

-- a plan that spells the bytes begins with the lines given
begins : (left : Option (List ℕ)) (bytes : List ℕ) (lines : List Line) (q : Plan) → AreTextLines lines → IsLarge q → Consumes (Some bytes) left (text lines) → bytes ≡ text (plan_lines q) → Begins q lines
begins left bytes lines q are is consumed same = let found = behind left bytes lines q are is consumed same in (found.0, found.1)

rest_of : (left : Option (List ℕ)) (bytes c : List ℕ) → Consumes (Some bytes) left c → (rest : List ℕ) × (bytes ≡ c ++ rest)
rest_of None bytes c consumed = absurd consumed
rest_of (Some rest) bytes c consumed = (rest, consumed)

-- a plan reader that answers a fault
pub line_refused : (old now : Reading) (p next : Progress) (one : Line) (f : PlanFault) → Given old now (fed p ++ one ∷ []) → IsBegun p → ReadsNext p one (Err f) next → Decodes old (Err f) now
line_refused old now p next one OutOfMemory given begun h = tt
line_refused old now p next one Failed given begun h = absurd h
line_refused old now p next one NotCanonical given begun h = if_known old.left (λ bytes known.
    let consumed = subst (λ z. Consumes z now.left (text (fed p ++ one ∷ []))) known given.bytes in
    record {
      none = λ q is same. h.1 q is (begins now.left bytes (fed p ++ one ∷ []) q given.are is consumed same);
      within = λ past. other_line now.left bytes past consumed;
    })
  where
    other_line : (left : Option (List ℕ)) (bytes : List ℕ) → IsPastLimit bytes → Consumes (Some bytes) left (text (fed p ++ one ∷ [])) → ⊥
    other_line None bytes past consumed = consumed
    other_line (Some left) bytes past consumed =
        let split = consumed ∙ ap (λ z. z ++ left) (text_push (fed p) one) ∙ append_assoc (text (fed p)) (one ++ 10 ∷ []) left ∙ ap (λ z. text (fed p) ++ z) (append_assoc one (10 ∷ []) left) in
        let found = past_behind p bytes (one ++ 10 ∷ left) past (all_parts IsLine (fed p) (one ∷ []) given.are).0 begun split in
        let is_one = (all_parts IsLine (fed p) (one ∷ []) given.are).1.0 in
        let same = cut_at 10 one found.line left found.rest is_one.one found.is_line.one found.left_is in
        h.1 past.begins.0 past.begins.1 (subst (λ z. Begins past.begins.0 (fed p ++ z ∷ [])) (sym same.0) found.begins)
line_refused old now p next one PastLimit given begun h = if_known old.left (λ bytes known.
    let consumed = subst (λ z. Consumes z now.left (text (fed p ++ one ∷ []))) known given.bytes in
    let rest = rest_of now.left bytes (text (fed p ++ one ∷ [])) consumed in
    record {
      front = fed p ++ one ∷ [];
      rest = rest.0;
      split = rest.1;
      begins = h.2;
      none = h.1;
      no_plan = λ q is. h.1 q is.plan_fits (begins now.left bytes (fed p ++ one ∷ []) q given.are (large q is.plan_fits) consumed is.spelled);
    })

at_end : (left : Option (List ℕ)) (bytes c : List ℕ) → Consumes (Some bytes) left c → IsAtEnd left → bytes ≡ c
at_end None bytes c consumed end = absurd consumed
at_end (Some rest) bytes c consumed end = consumed ∙ ap (λ z. c ++ z) end ∙ append-nil c

none_behind : (left : Option (List ℕ)) (more : List Line) → IsAtEnd left → IfSome left (λ rest. rest ≡ text more) → (bytes c : List ℕ) → Consumes (Some bytes) left c → text more ≡ []
none_behind None more end same bytes c consumed = absurd consumed
none_behind (Some rest) more end same bytes c consumed = sym same ∙ end

-- the end of the source
pub finished : (old now new : Reading) (p : Progress) (r : Result Plan PlanFault) → Given old now (fed p) → IsBegun p → Keeps now.left new.left → IsAtEnd new.left → Finishes p r → Decodes old r new
finished old now new p (Ok q) given begun kept end h = (
  h.0,
  if_known old.left (λ bytes known.
      let consumed = Consumes-kept (Some bytes) now.left new.left (text (fed p)) (subst (λ z. Consumes z now.left (text (fed p))) known given.bytes) kept in
      record { plan_fits = h.0; spelled = at_end new.left bytes (text (fed p)) consumed end ∙ ap text (sym h.1) }),
)
finished old now new p (Err OutOfMemory) given begun kept end h = tt
finished old now new p (Err Failed) given begun kept end h = absurd h
finished old now new p (Err NotCanonical) given begun kept end h = if_known old.left (λ bytes known.
    let consumed = Consumes-kept (Some bytes) now.left new.left (text (fed p)) (subst (λ z. Consumes z now.left (text (fed p))) known given.bytes) kept in
    record {
      none = λ q is same.
          let found = behind new.left bytes (fed p) q given.are is consumed same in
          let none = no_lines found.0 (none_behind new.left found.0 end found.2 bytes (text (fed p)) consumed) in
          h q is (found.1 ∙ ap (λ z. fed p ++ z) none ∙ append-nil (fed p));
      within = λ past. nothing_left new.left bytes past consumed end;
    })
  where
    nothing_left : (left : Option (List ℕ)) (bytes : List ℕ) → IsPastLimit bytes → Consumes (Some bytes) left (text (fed p)) → IsAtEnd left → ⊥
    nothing_left None bytes past consumed end = consumed
    nothing_left (Some left) bytes past consumed end = let found = past_behind p bytes left past given.are begun consumed in no_text found.line found.rest (sym found.left_is ∙ end)
finished old now new p (Err PastLimit) given begun kept end h = absurd h
