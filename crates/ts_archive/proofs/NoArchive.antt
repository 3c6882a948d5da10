-- Why a decoder answers no print.
use Rattle.std.proofs.Common.{◌≡◌, ◌≢◌, ◌⊎◌, ℕ, ◌^◌, ◌<◌, List, [], ◌∷◌, ◌++◌, length, decimal, Option, Some, None, Err, sym, ap, ◌∙◌, subst, inl, inr, append_assoc, arith}
use Rattle.std.specs.Prelude.{IfSome}
use Rattle.std.specs.List.{AllByRecursion}
use Rattle.std.specs.Io.KnownBytes.{Keeps, Consumes, IsAtEnd}
use Rattle.std.proofs.lemmas.Fmt.{decimal_injective}
use Rattle.std.proofs.lemmas.List.{append-nil}
use Rattle.hex.specs.Hex.{encode_lower}
use Rattle.sha2.specs.Sha256.{sha256}
use Rattle.ts_text.specs.Lines.{Reading, Answers, IsLine, HasNoLine, GivesLine, HasEnded}
use Rattle.ts_text.specs.declared.fault.TextFault.{TextFault}
use Rattle.ts_text.specs.declared.fault.TextFault.TheVariants as text_fault
use Rattle.ts_model.specs.Trees.{Listing}
use Rattle.ts_model.specs.Texts.{Line, text, print_lines, archive_front, IsPrintBody, IsArchiveText, HasWrongEnd}
use Rattle.ts_name.proofs.Spelling.{clean_decimal, cut_at, no_space}
use Rattle.ts_name.proofs.Utf8.{all_parts}
use Rattle.ts_model.proofs.Lines.{no_text, text_cons}
use Rattle.ts_model.proofs.Spelling.{one_hex}
use Rattle.ts_model.specs.declared.row.Stamp.{Stamp}
use Rattle.ts_tree.proofs.Taken.{Taken, taken_failed, taken_more}
use Rattle.ts_print.specs.Faults.{Refuses}
use Rattle.ts_print.specs.Readers.{BeginsNoPrint}
use Rattle.ts_print.specs.declared.fault.PrintFault.{PrintFault}
use Rattle.ts_print.specs.declared.fault.PrintFault.TheVariants as print_fault
use Rattle.ts_archive.specs.Endings.{header, end_line, EndFits, IsNoArchive, EndsWrong, FindsNoArchive}
use Rattle.ts_archive.specs.Faults.{IsOfReader, fault_of_text}
use Rattle.ts_archive.specs.declared.fault.ArchiveFault.{ArchiveFault}
use Rattle.ts_archive.proofs.Archives.{wrong_end}
use Rattle.ts_archive.proofs.Forms.{Formed, IsNoEnd, Stands, end_is_line, formed_right, header_is_line, no_archive, print_no_end, stands}
use Rattle.ts_tree.proofs.NoTree.{known_weaker}
use Rattle.ts_print.proofs.PrintTexts.{print_are_lines}

-- ---- at the end line

some_after : (more : List Line) (x : List ℕ) (rest : List ℕ) → text more ++ (x ++ 10 ∷ rest) ≢ []
some_after [] x rest e = no_text x rest e
some_after (m ∷ more) x rest e = no_text m (text more ++ (x ++ 10 ∷ rest)) (sym (append_assoc m (10 ∷ text more) (x ++ 10 ∷ rest)) ∙ ap (λ z. z ++ (x ++ 10 ∷ rest)) (sym (text_cons m more)) ∙ e)

-- its count is a number, where the lines before it were counted
fits_here : (bytes : List ℕ) (f : Formed bytes) (fed : List Line) (n : ℕ) → n ≡ length fed → n < 2 ^ 64 → print_lines f.rows ≡ fed → EndFits f.count f.digest
fits_here bytes f fed n number small lines = (elim f.count_fits [ inl less ↦ less | inr same ↦ omega (arith, ap length lines) ], f.digest_fits.0, f.digest_fits.1)

-- what the lines that were taken say of the bytes in their form
pub record Read (bytes : List ℕ) (fed : List Line) (left : List ℕ) (n : ℕ) : Type 0 where
  pub split : bytes ≡ text (header ∷ fed) ++ left
  pub rows : Listing Stamp
  pub print : IsPrintBody rows
  pub lines : print_lines rows ≡ fed
  pub number : n ≡ length fed
  pub small : n < 2 ^ 64

standing : (bytes left : List ℕ) (fed : List Line) (n : ℕ) (f : Formed bytes) → Read bytes fed left n → Stands bytes f fed left
standing bytes left fed n f r =
    stands bytes f fed left (subst (λ z. AllByRecursion IsLine z) r.lines (print_are_lines r.rows r.print)) (subst (λ z. AllByRecursion IsNoEnd z) r.lines (print_no_end r.rows r.print)) r.split

-- nothing is left, but no end line was met
ended_early : (bytes left : List ℕ) (fed : List Line) (n : ℕ) → Read bytes fed left n → left ≡ [] → ¬ Formed bytes
ended_early bytes left fed n r none f = let s = standing bytes left fed n f r in some_after s.more (end_line f.count f.digest) [] (sym s.left_is ∙ none)

-- what is left has no line
unlined : (bytes left : List ℕ) (fed : List Line) (n : ℕ) → Read bytes fed left n → HasNoLine left → ¬ Formed bytes
unlined bytes left fed n r none f = let s = standing bytes left fed n f r in go s.more s.lines s.left_is
  where
    go : (more : List Line) → print_lines f.rows ≡ fed ++ more → left ≡ text more ++ (end_line f.count f.digest ++ 10 ∷ []) → ⊥
    go [] lines is = none.none (end_line f.count f.digest) [] (end_is_line f.count f.digest (fits_here bytes f fed n r.number r.small (lines ∙ append-nil fed))) is
    go (m ∷ more) lines is =
        none.none m (text more ++ (end_line f.count f.digest ++ 10 ∷ [])) (all_parts IsLine fed (m ∷ more) (subst (λ z. AllByRecursion IsLine z) lines (print_are_lines f.rows f.print))).1.0
        (is ∙ ap (λ z. z ++ (end_line f.count f.digest ++ 10 ∷ [])) (text_cons m more) ∙ append_assoc m (10 ∷ text more) (end_line f.count f.digest ++ 10 ∷ []))

-- the next line is the end line, with nothing behind it; or that of the next row
pub data Next (bytes : List ℕ) (f : Formed bytes) (fed : List Line) (line : Line) (rest : List ℕ) : Type 0 where
  last : print_lines f.rows ≡ fed → line ≡ end_line f.count f.digest → rest ≡ [] → Next bytes f fed line rest
  row : (more : List Line) → print_lines f.rows ≡ (fed ++ line ∷ []) ++ more → IsNoEnd line → Next bytes f fed line rest

next_line : (bytes left : List ℕ) (fed : List Line) (n : ℕ) (line : Line) (rest : List ℕ) (f : Formed bytes) → Read bytes fed left n → IsLine line → left ≡ line ++ 10 ∷ rest → Next bytes f fed line rest
next_line bytes left fed n line rest f r is begins = let s = standing bytes left fed n f r in go s.more s.lines s.left_is
  where
    go : (more : List Line) → print_lines f.rows ≡ fed ++ more → left ≡ text more ++ (end_line f.count f.digest ++ 10 ∷ []) → Next bytes f fed line rest
    go [] lines ends =
        let fits = fits_here bytes f fed n r.number r.small (lines ∙ append-nil fed) in
        let cut = cut_at 10 line (end_line f.count f.digest) rest [] is.one (end_is_line f.count f.digest fits).one (sym begins ∙ ends) in
        last (lines ∙ append-nil fed) cut.0 cut.1
    go (m ∷ more) lines ends =
        let m_is = (all_parts IsLine fed (m ∷ more) (subst (λ z. AllByRecursion IsLine z) lines (print_are_lines f.rows f.print))).1.0 in
        let m_other = (all_parts IsNoEnd fed (m ∷ more) (subst (λ z. AllByRecursion IsNoEnd z) lines (print_no_end f.rows f.print))).1.0 in
        let cut = cut_at 10 line m rest (text more ++ (end_line f.count f.digest ++ 10 ∷ [])) is.one m_is.one
        (sym begins ∙ ends ∙ ap (λ z. z ++ (end_line f.count f.digest ++ 10 ∷ [])) (text_cons m more) ∙ append_assoc m (10 ∷ text more) (end_line f.count f.digest ++ 10 ∷ [])) in
        row more (lines ∙ ap (λ z. fed ++ z ∷ more) (sym cut.0) ∙ sym (append_assoc fed (line ∷ []) more)) (subst (λ z. IsNoEnd z) (sym cut.0) m_other)

-- the next line is neither a row's nor the end line
no_line_here : (bytes left : List ℕ) (fed : List Line) (n : ℕ) (line : Line) (rest : List ℕ) → Read bytes fed left n → IsLine line → left ≡ line ++ 10 ∷ rest
    → BeginsNoPrint (fed ++ line ∷ []) → ((count : ℕ) (digest : List ℕ) → EndFits count digest → line ≢ end_line count digest) → ¬ Formed bytes
no_line_here bytes left fed n line rest r is begins no_row no_end f = go (next_line bytes left fed n line rest f r is begins)
  where
    go : Next bytes f fed line rest → ⊥
    go (last lines same nothing) = no_end f.count f.digest (fits_here bytes f fed n r.number r.small lines) same
    go (row more lines other) = no_row f.rows more f.print lines

-- the end line, but something stands behind it
not_last : (bytes left : List ℕ) (fed : List Line) (n : ℕ) (line : Line) (rest : List ℕ) (count : ℕ) (digest : List ℕ) → Read bytes fed left n → IsLine line → left ≡ line ++ 10 ∷ rest
    → line ≡ end_line count digest → rest ≢ [] → ¬ Formed bytes
not_last bytes left fed n line rest count digest r is begins told more_left f = go (next_line bytes left fed n line rest f r is begins)
  where
    go : Next bytes f fed line rest → ⊥
    go (last lines same nothing) = more_left nothing
    go (row more lines other) = other [] (110 ∷ 100 ∷ 32 ∷ (decimal count ++ 32 ∷ encode_lower digest)) (append-nil line ∙ told)

-- the end line is wrong
not_right : (bytes left : List ℕ) (fed : List Line) (n : ℕ) (line : Line) (rest : List ℕ) (count : ℕ) (digest : List ℕ) → Read bytes fed left n → IsLine line → left ≡ line ++ 10 ∷ rest
    → line ≡ end_line count digest → EndFits count digest → (count ≢ length fed) ⊎ (digest ≢ sha256 (text (header ∷ fed))) → (rows : Listing Stamp) → ¬ IsArchiveText bytes rows
not_right bytes left fed n line rest count digest r is begins told fits wrong rows is_text = go (next_line bytes left fed n line rest (formed_right bytes rows is_text) r is begins)
  where
    go : Next bytes (formed_right bytes rows is_text) fed line rest → ⊥
    go (row more lines other) = other [] (110 ∷ 100 ∷ 32 ∷ (decimal count ++ 32 ∷ encode_lower digest)) (append-nil line ∙ told)
    go (last lines same nothing) =
        let right = fits_here bytes (formed_right bytes rows is_text) fed n r.number r.small lines in
        let number = length (print_lines rows) in
        let sum = sha256 (archive_front rows) in
        let k : 101 ∷ 110 ∷ 100 ∷ 32 ∷ (decimal count ++ 32 ∷ encode_lower digest) ≡ 101 ∷ 110 ∷ 100 ∷ 32 ∷ (decimal number ++ 32 ∷ encode_lower sum) = sym told ∙ same in
        let tails : decimal count ++ 32 ∷ encode_lower digest ≡ decimal number ++ 32 ∷ encode_lower sum = cc in
        let cut = cut_at 32 (decimal count) (decimal number) (encode_lower digest) (encode_lower sum)
        (no_space (decimal count) (clean_decimal count fits.0)) (no_space (decimal number) (clean_decimal number right.0)) tails in
        let counts : count ≡ number = decimal_injective count number fits.0 right.0 cut.0 in
        let sums : digest ≡ sum = one_hex digest sum fits.1 right.1 cut.1 in
        elim wrong [
          | inl h ↦ h (counts ∙ ap length lines)
          | inr h ↦ h (sums ∙ ap (λ z. sha256 (text (header ∷ z))) lines)
        ]

-- ---- at the header

no_header : (bytes : List ℕ) → ((rest : List ℕ) → bytes ≢ header ++ 10 ∷ rest) → ¬ Formed bytes
no_header bytes none f =
    let ends = end_line f.count f.digest ++ 10 ∷ [] in
    none (text (print_lines f.rows) ++ ends) (f.spelled ∙ ap (λ z. z ++ ends) (text_cons header (print_lines f.rows)) ∙ append_assoc header (10 ∷ text (print_lines f.rows)) ends)

-- ---- of readings

-- what holds of the bytes, where it follows from those that were taken and those left
through : (a b : Option (List ℕ)) (bs : List ℕ) (P Q : List ℕ → Type 0) → Consumes a b bs → IfSome b P → ((x y : List ℕ) → x ≡ bs ++ y → P y → Q x) → IfSome a Q
through None b bs P Q consumes left h = tt
through (Some x) None bs P Q consumes left h = absurd consumes
through (Some x) (Some y) bs P Q consumes left h = h x y consumes left

-- the next line, and what is left behind it
gave : (a b : Option (List ℕ)) (line : List ℕ) (P : List ℕ → Type 0) → Consumes a b (line ++ 10 ∷ []) → IfSome b P → IfSome a (λ x. (rest : List ℕ) × (x ≡ line ++ 10 ∷ rest) × P rest)
gave None b line P consumes left = tt
gave (Some x) None line P consumes left = absurd consumes
gave (Some x) (Some y) line P consumes left = (y, consumes ∙ append_assoc line (10 ∷ []) y, left)

anything : (a : Option (List ℕ)) → IfSome a (λ _. Unit {0})
anything None = tt
anything (Some x) = tt

-- nothing is left
kept_end : (a b : Option (List ℕ)) → Keeps a b → IsAtEnd b → IfSome a (λ x. x ≡ [])
kept_end None b keeps end = tt
kept_end (Some x) None keeps end = absurd keeps
kept_end (Some x) (Some y) keeps end = sym keeps ∙ end

-- no line is left
kept_none : (a b : Option (List ℕ)) → Keeps a b → IfSome b HasNoLine → IfSome a HasNoLine
kept_none None b keeps none = tt
kept_none (Some x) None keeps none = absurd keeps
kept_none (Some x) (Some y) keeps none = subst (λ z. HasNoLine z) keeps none

-- the lines that were taken, with the rows that they say
pub record Rows (old now : Reading) (fed : List Line) (n : ℕ) : Type 0 where
  pub taken : Taken old now (header ∷ fed)
  pub rows : Listing Stamp
  pub print : IsPrintBody rows
  pub lines : print_lines rows ≡ fed
  pub number : n ≡ length fed
  pub small : n < 2 ^ 64

reading : (old now : Reading) (fed : List Line) (n : ℕ) (P Q : List ℕ → Type 0) → Rows old now fed n → IfSome now.left P → ((x y : List ℕ) → Read x fed y n → P y → Q x) → IfSome old.left Q
reading old now fed n P Q r left h =
    through old.left now.left (text (header ∷ fed)) P Q r.taken.bytes left
    (λ x y split p. h x y (record { split = split; rows = r.rows; print = r.print; lines = r.lines; number = r.number; small = r.small }) p)

-- the header's reading failed
pub at_header_fault : (old new : Reading) (e : TextFault) → Taken old old [] → Answers old (Err e) new → FindsNoArchive old new (fault_of_text e)
at_header_fault old new text_fault.OutOfMemory taken answers = absurd answers
at_header_fault old new text_fault.Failed taken answers = taken_failed old old new [] taken answers
at_header_fault old new text_fault.NotCanonical taken answers =
    known_weaker old.left HasNoLine IsNoArchive (λ x none. no_archive x (no_header x (λ rest e. none.none header rest header_is_line e))) (kept_none old.left new.left answers.kept answers.none)

-- another line stands in its place
pub at_header_other : (old new : Reading) → GivesLine old new → new.line ≢ header → IfSome old.left IsNoArchive
at_header_other old new gives other =
    known_weaker old.left (λ x. (rest : List ℕ) × (x ≡ new.line ++ 10 ∷ rest) × Unit {0}) IsNoArchive
    (λ x found. no_archive x (no_header x (λ rest e. other (cut_at 10 new.line header found.0 rest gives.line.one header_is_line.one (sym found.1 ∙ e)).0)))
    (gave old.left new.left new.line (λ _. Unit {0}) gives.bytes (anything new.left))

-- the reading of a later line failed
pub at_line_fault : (old now new : Reading) (fed : List Line) (n : ℕ) (e : TextFault) → Rows old now fed n → Answers now (Err e) new → FindsNoArchive old new (fault_of_text e)
at_line_fault old now new fed n text_fault.OutOfMemory r answers = absurd answers
at_line_fault old now new fed n text_fault.Failed r answers = taken_failed old now new (header ∷ fed) r.taken answers
at_line_fault old now new fed n text_fault.NotCanonical r answers =
    reading old now fed n HasNoLine IsNoArchive r (kept_none now.left new.left answers.kept answers.none) (λ x y read none. no_archive x (unlined x y fed n read none))

-- the lines ended without an end line
pub at_end : (old now new : Reading) (fed : List Line) (n : ℕ) → Rows old now fed n → HasEnded now new → IfSome old.left IsNoArchive
at_end old now new fed n r ends =
    reading old now fed n (λ y. y ≡ []) IsNoArchive r (kept_end now.left new.left ends.kept ends.ended) (λ x y read none. no_archive x (ended_early x y fed n read none))

-- whatever a print's reader refuses lines for
pub only_refused : (reason : Type 0) (e : PrintFault) → Refuses reason e → Refuses (Unit {0}) e
only_refused reason print_fault.OutOfMemory refuses = tt
only_refused reason print_fault.TooLong refuses = refuses
only_refused reason print_fault.Failed refuses = refuses
only_refused reason print_fault.NotCanonical refuses = tt

-- the line is neither a row's nor an end line
pub at_line_refused : (old now next : Reading) (fed : List Line) (n : ℕ) (e : PrintFault) → Rows old now fed n → GivesLine now next
    → Refuses (BeginsNoPrint (fed ++ next.line ∷ [])) e → ((count : ℕ) (digest : List ℕ) → EndFits count digest → next.line ≢ end_line count digest) → (f : ArchiveFault) → IsOfReader e f → FindsNoArchive old next f
at_line_refused old now next fed n print_fault.OutOfMemory r gives refuses other f is = subst (λ z. FindsNoArchive old next z) (sym is) tt
at_line_refused old now next fed n print_fault.TooLong r gives refuses other f is = absurd is
at_line_refused old now next fed n print_fault.Failed r gives refuses other f is = absurd is
at_line_refused old now next fed n print_fault.NotCanonical r gives refuses other f is =
    subst (λ z. FindsNoArchive old next z) (sym is) (reading old now fed n (λ y. (rest : List ℕ) × (y ≡ next.line ++ 10 ∷ rest) × Unit {0}) IsNoArchive r
    (gave now.left next.left next.line (λ _. Unit {0}) gives.bytes (anything next.left))
    (λ x y read found. no_archive x (no_line_here x y fed n next.line found.0 read gives.line found.1 refuses other)))

-- a line stands behind the end line
pub at_more : (old now next new : Reading) (fed : List Line) (n : ℕ) (count : ℕ) (digest : List ℕ) → Rows old now fed n → GivesLine now next → next.line ≡ end_line count digest
    → GivesLine next new → IfSome old.left IsNoArchive
at_more old now next new fed n count digest r gives told more =
    reading old now fed n (λ y. (rest : List ℕ) × (y ≡ next.line ++ 10 ∷ rest) × (rest ≢ [])) IsNoArchive r
    (gave now.left next.left next.line (λ rest. rest ≢ []) gives.bytes
    (known_weaker next.left (λ x. (rest : List ℕ) × (x ≡ new.line ++ 10 ∷ rest) × Unit {0}) (λ rest. rest ≢ []) (λ x found e. no_text new.line found.0 (sym found.1 ∙ e))
    (gave next.left new.left new.line (λ _. Unit {0}) more.bytes (anything new.left))))
    (λ x y read found. no_archive x (not_last x y fed n next.line found.0 count digest read gives.line found.1 told found.2))

-- or bytes that are no line, or the source failed there
pub at_more_fault : (old now next new : Reading) (fed : List Line) (n : ℕ) (count : ℕ) (digest : List ℕ) (e : TextFault) → Rows old now fed n → GivesLine now next → next.line ≡ end_line count digest
    → Taken old next (header ∷ (fed ++ next.line ∷ [])) → Answers next (Err e) new → FindsNoArchive old new (fault_of_text e)
at_more_fault old now next new fed n count digest text_fault.OutOfMemory r gives told taken answers = absurd answers
at_more_fault old now next new fed n count digest text_fault.Failed r gives told taken answers = taken_failed old next new (header ∷ (fed ++ next.line ∷ [])) taken answers
at_more_fault old now next new fed n count digest text_fault.NotCanonical r gives told taken answers =
    reading old now fed n (λ y. (rest : List ℕ) × (y ≡ next.line ++ 10 ∷ rest) × (rest ≢ [])) IsNoArchive r
    (gave now.left next.left next.line (λ rest. rest ≢ []) gives.bytes
    (known_weaker next.left HasNoLine (λ rest. rest ≢ []) (λ x none. none.some) (kept_none next.left new.left answers.kept answers.none)))
    (λ x y read found. no_archive x (not_last x y fed n next.line found.0 count digest read gives.line found.1 told found.2))

-- a wrong end line is that of no archive file
at_wrong_end : (old now next new : Reading) (fed : List Line) (n : ℕ) (count : ℕ) (digest : List ℕ) → Rows old now fed n → GivesLine now next → next.line ≡ end_line count digest → EndFits count digest
    → (count ≢ length fed) ⊎ (digest ≢ sha256 (text (header ∷ fed))) → IfSome old.left (λ bytes. (rows : Listing Stamp) → ¬ IsArchiveText bytes rows)
at_wrong_end old now next new fed n count digest r gives told fits wrong =
    reading old now fed n (λ y. (rest : List ℕ) × (y ≡ next.line ++ 10 ∷ rest) × Unit {0}) (λ bytes. (rows : Listing Stamp) → ¬ IsArchiveText bytes rows) r
    (gave now.left next.left next.line (λ _. Unit {0}) gives.bytes (anything next.left))
    (λ x y read found rows. not_right x y fed n next.line found.0 count digest read gives.line found.1 told fits wrong rows)

-- both said of the bytes
both_wrong : (known : Option (List ℕ)) → IfSome known HasWrongEnd → IfSome known (λ bytes. (rows : Listing Stamp) → ¬ IsArchiveText bytes rows) → IfSome known EndsWrong
both_wrong None wrong none = tt
both_wrong (Some x) wrong none = record { wrong = wrong; none = none }

-- such a line that isn't right, with nothing behind it
pub ends_wrong : (old now next final : Reading) (fed : List Line) (n : ℕ) (line : Line) (count : ℕ) (digest : List ℕ) → Rows old now fed n → GivesLine now next → line ≡ next.line → HasEnded next final
    → line ≡ end_line count digest → EndFits count digest → (count ≢ length fed) ⊎ (digest ≢ sha256 (text (header ∷ fed))) → IfSome old.left EndsWrong
ends_wrong old now next final fed n line count digest r gives is ends told fits wrong =
    let taken = subst (λ z. Taken old next (header ∷ (fed ++ z ∷ []))) (sym is) (taken_more old now next (header ∷ fed) r.taken gives) in
    both_wrong old.left (wrong_end old next final fed line r.rows count digest taken ends told fits wrong r.print r.lines)
    (at_wrong_end old now next final fed n count digest r gives (sym is ∙ told) fits wrong)
