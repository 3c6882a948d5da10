-- The words of a plan's lines.
use Rattle.std.proofs.Common.{◌≡◌, ◌≢◌, ℕ, ◌+◌, ◌*◌, ◌^◌, ◌<◌, List, ◌∷◌, ◌++◌, length, get_or, Bool, false, Err, codes, decimal, refl, sym, ap, ◌∙◌, arith, true}
use Rattle.std.specs.Prelude.{◌↔◌, IsTrue}
use Rattle.std.proofs.lemmas.Bool.{false≢true}
use Rattle.std.proofs.lemmas.Fmt.{decimal_injective}
use Rattle.ts_name.specs.Paths.{Path, path_text}
use Rattle.ts_name.specs.Buffers.{HasNo}
use Rattle.ts_name.proofs.Spelling.{IsClean, clean_decimal, clean_from_test, cut_at, is_clean, no_space}
use Rattle.ts_model.specs.Texts.{reason_text, PathFits, KindFits}
use Rattle.ts_model.proofs.Spelling.{clean_reason}
use Rattle.ts_model.specs.declared.plan.Reason.{Reason}
use Rattle.ts_model.specs.declared.plan.Entry.{Entry}
use Rattle.ts_model.specs.declared.plan.Kind.TheVariants.{Piece, Commit, Mark}
use Rattle.ts_plan.specs.PathFields.{ReadsPath}
use Rattle.ts_plan.specs.PlanLines.{line_text, LineFits, ReadsLine}
use Rattle.ts_plan.specs.declared.fault.PlanFault.{PlanFault}
use Rattle.ts_plan.specs.declared.fault.PlanFault.TheVariants.{OutOfMemory, Failed, NotCanonical, PastLimit}
use Rattle.ts_plan.specs.declared.line.PlanLine.{PlanLine}
use Rattle.ts_plan.specs.declared.line.PlanLine.TheVariants as line

-- a short number is a number
pub wide : (n : ℕ) → n < 2 ^ 32 → n < 2 ^ 64
wide n small = omega (arith, small)

-- numbers have no space
pub decimal_word : (n : ℕ) → n < 2 ^ 64 → HasNo 32 (decimal n)
decimal_word n small = no_space (decimal n) (clean_decimal n small)

-- nor have short ones
pub short_word : (n : ℕ) → n < 2 ^ 32 → HasNo 32 (decimal n)
short_word n small = decimal_word n (wide n small)

-- and reasons
pub reason_word : (r : Reason) → HasNo 32 (reason_text r)
reason_word r = no_space (reason_text r) (clean_reason r)

-- a word of which a test tells that it is clean
tested_word : (word : List ℕ) → is_clean word ≡ true → HasNo 32 word
tested_word word e = no_space word (clean_from_test word e)

-- what tells the first words of lines apart
unfoldable pub key : List ℕ → ℕ
key word = 1000 * length word + get_or word 0 0

-- the first word
abbrev pub front : PlanLine → List ℕ
front line.Header = codes "twosync-plan"
front (line.Entry e) = codes "entry"
front (line.Action (Piece e offset size p)) = codes "piece"
front (line.Action (Commit e)) = codes "commit"
front (line.Action (Mark e)) = codes "mark"
front (line.Pred j) = codes "p"
front (line.End m n) = codes "end"

-- and what stands behind it
abbrev pub tail : PlanLine → List ℕ
tail line.Header = codes "1"
tail (line.Entry e) = reason_text e.reason ++ 32 ∷ path_text e.path
tail (line.Action (Piece e offset size p)) = decimal e ++ 32 ∷ (decimal offset ++ 32 ∷ (decimal size ++ 32 ∷ path_text p))
tail (line.Action (Commit e)) = decimal e
tail (line.Action (Mark e)) = decimal e
tail (line.Pred j) = decimal j
tail (line.End m n) = decimal m ++ 32 ∷ decimal n

-- a line is its first word and the rest
pub line_split : (l : PlanLine) → line_text l ≡ front l ++ 32 ∷ tail l
line_split line.Header = refl
line_split (line.Entry e) = refl
line_split (line.Action (Piece e offset size p)) = refl
line_split (line.Action (Commit e)) = refl
line_split (line.Action (Mark e)) = refl
line_split (line.Pred j) = refl
line_split (line.End m n) = refl

-- which is clean
pub clean_front : (l : PlanLine) → IsClean (front l)
clean_front line.Header = clean_from_test (codes "twosync-plan") refl
clean_front (line.Entry e) = clean_from_test (codes "entry") refl
clean_front (line.Action (Piece e offset size p)) = clean_from_test (codes "piece") refl
clean_front (line.Action (Commit e)) = clean_from_test (codes "commit") refl
clean_front (line.Action (Mark e)) = clean_from_test (codes "mark") refl
clean_front (line.Pred j) = clean_from_test (codes "p") refl
clean_front (line.End m n) = clean_from_test (codes "end") refl

-- and so has no space
pub front_word : (l : PlanLine) → HasNo 32 (front l)
front_word l = no_space (front l) (clean_front l)

-- the parts of a line
pub line_parts : (word rest : List ℕ) (l : PlanLine) → HasNo 32 word → word ++ 32 ∷ rest ≡ line_text l → (word ≡ front l) × (rest ≡ tail l)
line_parts word rest l is e = cut_at 32 word (front l) rest (tail l) is (front_word l) (e ∙ line_split l)

-- no line of an entry
pub refuse_entry : (fields : List ℕ) → ((e : Entry) → PathFits e.path → fields ≢ reason_text e.reason ++ 32 ∷ path_text e.path) → (l : PlanLine) → LineFits l → codes "entry" ++ 32 ∷ fields ≢ line_text l
unfolding key
refuse_entry fields none line.Header fits same = absurd (let k : ◌≡◌ {A = ℕ} 5101 12116 = ap key (line_parts (codes "entry") fields line.Header (tested_word (codes "entry") refl) same).0 in omega arith)
refuse_entry fields none (line.Entry e) fits same = none e fits (line_parts (codes "entry") fields (line.Entry e) (tested_word (codes "entry") refl) same).1
refuse_entry fields none (line.Action (Piece e offset size p)) fits same = absurd (let k : ◌≡◌ {A = ℕ} 5101 5112 = ap key (line_parts (codes "entry") fields (line.Action (Piece e offset size p)) (tested_word (codes "entry") refl) same).0 in omega arith)
refuse_entry fields none (line.Action (Commit e)) fits same = absurd (let k : ◌≡◌ {A = ℕ} 5101 6099 = ap key (line_parts (codes "entry") fields (line.Action (Commit e)) (tested_word (codes "entry") refl) same).0 in omega arith)
refuse_entry fields none (line.Action (Mark e)) fits same = absurd (let k : ◌≡◌ {A = ℕ} 5101 4109 = ap key (line_parts (codes "entry") fields (line.Action (Mark e)) (tested_word (codes "entry") refl) same).0 in omega arith)
refuse_entry fields none (line.Pred j) fits same = absurd (let k : ◌≡◌ {A = ℕ} 5101 1112 = ap key (line_parts (codes "entry") fields (line.Pred j) (tested_word (codes "entry") refl) same).0 in omega arith)
refuse_entry fields none (line.End m n) fits same = absurd (let k : ◌≡◌ {A = ℕ} 5101 3101 = ap key (line_parts (codes "entry") fields (line.End m n) (tested_word (codes "entry") refl) same).0 in omega arith)

-- no line of a piece
pub refuse_piece : (fields : List ℕ) → ((e offset size : ℕ) (p : Path) → KindFits (Piece e offset size p) → fields ≢ decimal e ++ 32 ∷ (decimal offset ++ 32 ∷ (decimal size ++ 32 ∷ path_text p))) → (l : PlanLine) → LineFits l → codes "piece" ++ 32 ∷ fields ≢ line_text l
unfolding key
refuse_piece fields none line.Header fits same = absurd (let k : ◌≡◌ {A = ℕ} 5112 12116 = ap key (line_parts (codes "piece") fields line.Header (tested_word (codes "piece") refl) same).0 in omega arith)
refuse_piece fields none (line.Entry e) fits same = absurd (let k : ◌≡◌ {A = ℕ} 5112 5101 = ap key (line_parts (codes "piece") fields (line.Entry e) (tested_word (codes "piece") refl) same).0 in omega arith)
refuse_piece fields none (line.Action (Piece e offset size p)) fits same = none e offset size p fits (line_parts (codes "piece") fields (line.Action (Piece e offset size p)) (tested_word (codes "piece") refl) same).1
refuse_piece fields none (line.Action (Commit e)) fits same = absurd (let k : ◌≡◌ {A = ℕ} 5112 6099 = ap key (line_parts (codes "piece") fields (line.Action (Commit e)) (tested_word (codes "piece") refl) same).0 in omega arith)
refuse_piece fields none (line.Action (Mark e)) fits same = absurd (let k : ◌≡◌ {A = ℕ} 5112 4109 = ap key (line_parts (codes "piece") fields (line.Action (Mark e)) (tested_word (codes "piece") refl) same).0 in omega arith)
refuse_piece fields none (line.Pred j) fits same = absurd (let k : ◌≡◌ {A = ℕ} 5112 1112 = ap key (line_parts (codes "piece") fields (line.Pred j) (tested_word (codes "piece") refl) same).0 in omega arith)
refuse_piece fields none (line.End m n) fits same = absurd (let k : ◌≡◌ {A = ℕ} 5112 3101 = ap key (line_parts (codes "piece") fields (line.End m n) (tested_word (codes "piece") refl) same).0 in omega arith)

-- no last line
pub refuse_end : (fields : List ℕ) → ((m n : ℕ) → m < 2 ^ 64 → n < 2 ^ 64 → fields ≢ decimal m ++ 32 ∷ decimal n) → (l : PlanLine) → LineFits l → codes "end" ++ 32 ∷ fields ≢ line_text l
unfolding key
refuse_end fields none line.Header fits same = absurd (let k : ◌≡◌ {A = ℕ} 3101 12116 = ap key (line_parts (codes "end") fields line.Header (tested_word (codes "end") refl) same).0 in omega arith)
refuse_end fields none (line.Entry e) fits same = absurd (let k : ◌≡◌ {A = ℕ} 3101 5101 = ap key (line_parts (codes "end") fields (line.Entry e) (tested_word (codes "end") refl) same).0 in omega arith)
refuse_end fields none (line.Action (Piece e offset size p)) fits same = absurd (let k : ◌≡◌ {A = ℕ} 3101 5112 = ap key (line_parts (codes "end") fields (line.Action (Piece e offset size p)) (tested_word (codes "end") refl) same).0 in omega arith)
refuse_end fields none (line.Action (Commit e)) fits same = absurd (let k : ◌≡◌ {A = ℕ} 3101 6099 = ap key (line_parts (codes "end") fields (line.Action (Commit e)) (tested_word (codes "end") refl) same).0 in omega arith)
refuse_end fields none (line.Action (Mark e)) fits same = absurd (let k : ◌≡◌ {A = ℕ} 3101 4109 = ap key (line_parts (codes "end") fields (line.Action (Mark e)) (tested_word (codes "end") refl) same).0 in omega arith)
refuse_end fields none (line.Pred j) fits same = absurd (let k : ◌≡◌ {A = ℕ} 3101 1112 = ap key (line_parts (codes "end") fields (line.Pred j) (tested_word (codes "end") refl) same).0 in omega arith)
refuse_end fields none (line.End m n) fits same = none m n fits.0 fits.1 (line_parts (codes "end") fields (line.End m n) (tested_word (codes "end") refl) same).1

-- a line of another first word
pub record IsOther (word : List ℕ) : Type 0 where
  pub entry : word ≢ codes "entry"
  pub piece : word ≢ codes "piece"
  pub commit : word ≢ codes "commit"
  pub mark : word ≢ codes "mark"
  pub pred : word ≢ codes "p"
  pub end : word ≢ codes "end"
  pub header : word ≢ codes "twosync-plan"

pub refuse_other : (word rest : List ℕ) → HasNo 32 word → IsOther word → (l : PlanLine) → LineFits l → word ++ 32 ∷ rest ≢ line_text l
refuse_other word rest is other line.Header fits same = other.header (line_parts word rest line.Header is same).0
refuse_other word rest is other (line.Entry e) fits same = other.entry (line_parts word rest (line.Entry e) is same).0
refuse_other word rest is other (line.Action (Piece e offset size p)) fits same = other.piece (line_parts word rest (line.Action (Piece e offset size p)) is same).0
refuse_other word rest is other (line.Action (Commit e)) fits same = other.commit (line_parts word rest (line.Action (Commit e)) is same).0
refuse_other word rest is other (line.Action (Mark e)) fits same = other.mark (line_parts word rest (line.Action (Mark e)) is same).0
refuse_other word rest is other (line.Pred j) fits same = other.pred (line_parts word rest (line.Pred j) is same).0
refuse_other word rest is other (line.End m n) fits same = other.end (line_parts word rest (line.End m n) is same).0

-- a line without a space
pub refuse_whole : (bytes : List ℕ) → ((word rest : List ℕ) → bytes ≢ word ++ 32 ∷ rest) → (l : PlanLine) → LineFits l → bytes ≢ line_text l
refuse_whole bytes none l fits same = none (front l) (tail l) (same ∙ line_split l)

-- a number before a space, and what stands behind it
pub number_parts : (m n : ℕ) (u v : List ℕ) → m < 2 ^ 64 → n < 2 ^ 64 → decimal m ++ 32 ∷ u ≡ decimal n ++ 32 ∷ v → (m ≡ n) × (u ≡ v)
number_parts m n u v small_m small_n e =
    let p = cut_at 32 (decimal m) (decimal n) u v (decimal_word m small_m) (decimal_word n small_n) e in
    (decimal_injective m n small_m small_n p.0, p.1)

-- a line whose path can't be read
pub path_refused : (f : PlanFault) (text bytes : List ℕ) → ReadsPath text (Err f) → (((p : Path) → PathFits p → text ≢ path_text p) → (l : PlanLine) → LineFits l → bytes ≢ line_text l) → ReadsLine bytes (Err f)
path_refused OutOfMemory text bytes h refuse = tt
path_refused Failed text bytes h refuse = h
path_refused NotCanonical text bytes h refuse = refuse h
path_refused PastLimit text bytes h refuse = h

-- what a comparison says where it fails
pub differs : (word name : List ℕ) (r : Bool) → (IsTrue r ↔ (word ≡ name)) → r ≡ false → word ≢ name
differs word name r is fails e = false≢true (sym fails ∙ is.1 e)
