-- The row that a print's next line spells.
use Rattle.std.proofs.Common.{◌≡◌, ◌≢◌, ℕ, List, [], ◌∷◌, ◌++◌, decimal, Option, Some, None, MatchOption, refl, sym, ap, ◌∙◌, subst, append_assoc, arith}
use Rattle.hex.specs.Hex.{encode_lower}
use Rattle.ts_name.specs.Paths.{Path, path_text}
use Rattle.ts_name.specs.Buffers.{HasNo}
use Rattle.ts_name.proofs.Spelling.{cut_at, no_cut}
use Rattle.ts_model.specs.Trees.{Listing, IsListing}
use Rattle.ts_model.specs.Texts.{Line, StampFits, print_row_lines, print_lines, IsPrintBody}
use Rattle.ts_model.specs.declared.row.Content.{Content}
use Rattle.ts_model.specs.declared.row.Content.TheVariants.{Absent, Dir, File}
use Rattle.ts_model.specs.declared.row.Stamp.{Stamp}
use Rattle.ts_table.proofs.Cuts.{IsListing-front}
use Rattle.ts_tree.specs.Fields.{SpellsNoPath}
use Rattle.ts_tree.proofs.Fields.{path_text_word}
use Rattle.ts_print.specs.Fields.{RowFits, IsNoRow}
use Rattle.ts_print.specs.Readers.{BeginsNoPrint}
use Rattle.ts_tree.specs.Faults as tree_specs
use Rattle.ts_tree.specs.declared.fault.TreeFault.{TreeFault}
use Rattle.ts_tree.specs.declared.fault.TreeFault.TheVariants as tree
use Rattle.ts_print.specs.Decoding.{fault_of_tree}
use Rattle.ts_print.specs.Faults.{Refuses}
use Rattle.ts_print.specs.declared.fault.PrintFault.{PrintFault}
use Rattle.ts_print.specs.declared.fault.PrintFault.TheVariants as fault
use Rattle.ts_print.proofs.PrintTexts as texts

-- a refusal for one reason is one for what follows from it
pub refuses_weaker : (P Q : Type 0) (e : PrintFault) → (P → Q) → Refuses P e → Refuses Q e
refuses_weaker P Q fault.OutOfMemory h r = tt
refuses_weaker P Q fault.TooLong h r = r
refuses_weaker P Q fault.Failed h r = r
refuses_weaker P Q fault.NotCanonical h r = h r

-- and so is one that a tree's line had
pub refuses_tree : (P Q : Type 0) (e : TreeFault) → (P → Q) → tree_specs.Refuses P e → Refuses Q (fault_of_tree e)
refuses_tree P Q tree.OutOfMemory h r = tt
refuses_tree P Q tree.TooLong h r = r
refuses_tree P Q tree.Failed h r = r
refuses_tree P Q tree.NotCanonical h r = h r

-- the first word of a line that is cut after it
pub first_word : {A : Type 0} (o : Option A) (now : A → List ℕ) (line word x u : List ℕ) → HasNo 32 word → MatchOption o (line ≡ word) (λ rest. line ≡ word ++ 32 ∷ now rest) → HasNo 32 x → line ≡ x ++ 32 ∷ u → word ≡ x
first_word None now line word x u is_word split is_x e = absurd (no_cut 32 word x u is_word (sym split ∙ e))
first_word (Some rest) now line word x u is_word split is_x e = (cut_at 32 word x (now rest) u is_word is_x (sym split ∙ e)).0

-- ---- one line

-- a file's line has a stamp
pub no_file_line : (fields : List ℕ) → ((path : List ℕ) (stamp : Stamp) → HasNo 32 path → StampFits (File stamp) → fields ≢ path ++ 32 ∷ (decimal stamp.size ++ 32 ∷ encode_lower stamp.digest))
    → IsNoRow (102 ∷ 32 ∷ fields)
no_file_line fields none p Absent fits e = fits.1 refl
no_file_line fields none p Dir fits e =
    let k : (100 ∷ 32 ∷ path_text p) ∷ [] ≡ (102 ∷ 32 ∷ fields) ∷ [] = e in
    let first : ◌≡◌ {A = ℕ} 100 102 = cc in omega arith
no_file_line fields none p (File stamp) fits e =
    let k : (102 ∷ 32 ∷ (path_text p ++ 32 ∷ (decimal stamp.size ++ 32 ∷ encode_lower stamp.digest))) ∷ [] ≡ (102 ∷ 32 ∷ fields) ∷ [] = e in
    let rest : fields ≡ path_text p ++ 32 ∷ (decimal stamp.size ++ 32 ∷ encode_lower stamp.digest) = cc in
    none (path_text p) stamp (path_text_word p fits.0.0) fits.2 rest

-- and a path before it
pub no_file_path : (path more : List ℕ) → HasNo 32 path → SpellsNoPath path → IsNoRow (102 ∷ 32 ∷ (path ++ 32 ∷ more))
no_file_path path more word none p Absent fits e = fits.1 refl
no_file_path path more word none p Dir fits e =
    let k : (100 ∷ 32 ∷ path_text p) ∷ [] ≡ (102 ∷ 32 ∷ (path ++ 32 ∷ more)) ∷ [] = e in
    let first : ◌≡◌ {A = ℕ} 100 102 = cc in omega arith
no_file_path path more word none p (File stamp) fits e =
    let k : (102 ∷ 32 ∷ (path_text p ++ 32 ∷ (decimal stamp.size ++ 32 ∷ encode_lower stamp.digest))) ∷ [] ≡ (102 ∷ 32 ∷ (path ++ 32 ∷ more)) ∷ [] = e in
    let rest : path ++ 32 ∷ more ≡ path_text p ++ 32 ∷ (decimal stamp.size ++ 32 ∷ encode_lower stamp.digest) = cc in
    none p fits.0 (cut_at 32 path (path_text p) more _ word (path_text_word p fits.0.0) rest).0

-- ---- the next row

record NextRow (rows : Listing Stamp) (line : Line) : Type 0 where
  path : Path
  content : Content Stamp
  fits : texts.RowFits path content
  told : print_row_lines path content ≡ line ∷ []
  listing : IsListing (rows ++ record { path = path; content = content } ∷ [])

one_line : (p : Path) (x : Content Stamp) (u : List Line) (line : Line) (rest : List Line) → texts.RowFits p x → print_row_lines p x ++ u ≡ line ∷ rest → print_row_lines p x ≡ line ∷ []
one_line p Absent u line rest fits e = absurd (fits.2 refl)
one_line p Dir u line rest fits e =
    let k : (100 ∷ 32 ∷ path_text p) ∷ u ≡ line ∷ rest = e in
    let first : 100 ∷ 32 ∷ path_text p ≡ line = cc in ap (λ z. z ∷ []) first
one_line p (File stamp) u line rest fits e =
    let k : (102 ∷ 32 ∷ (path_text p ++ 32 ∷ (decimal stamp.size ++ 32 ∷ encode_lower stamp.digest))) ∷ u ≡ line ∷ rest = e in
    let first : 102 ∷ 32 ∷ (path_text p ++ 32 ∷ (decimal stamp.size ++ 32 ∷ encode_lower stamp.digest)) ≡ line = cc in ap (λ z. z ∷ []) first

next_row : (rows whole : Listing Stamp) (line : Line) (rest : List Line) → IsPrintBody rows → IsPrintBody whole → print_lines whole ≡ (print_lines rows ++ line ∷ []) ++ rest → NextRow rows line
next_row rows whole line rest is is_whole e =
    let found = texts.rows_front whole rows (line ∷ rest) (texts.rows_fit whole is_whole) (texts.rows_fit rows is) (e ∙ append_assoc (print_lines rows) (line ∷ []) rest) in
    at_more found.more found.rows found.fit found.lines
  where
    at_more : (more : Listing Stamp) → whole ≡ rows ++ more → texts.RowsFit more → print_lines more ≡ line ∷ rest → NextRow rows line
    at_more [] all fits e = absurd cc
    at_more (row ∷ more) all fits e = record {
      path = row.path;
      content = row.content;
      fits = fits.0;
      told = one_line row.path row.content (print_lines more) line rest fits.0 e;
      listing = IsListing-front (rows ++ row ∷ []) more (subst (λ z. IsListing z) (all ∙ sym (append_assoc rows (row ∷ []) more)) is_whole.listing);
    }

-- a line that spells no row
pub no_row_next : (rows : Listing Stamp) (line : Line) → IsPrintBody rows → IsNoRow line → BeginsNoPrint (print_lines rows ++ line ∷ [])
no_row_next rows line is none whole rest is_whole e =
    let next = next_row rows whole line rest is is_whole e in
    none next.path next.content ((next.fits.0, next.fits.1), next.fits.2, next.fits.3) next.told

-- a line whose path may not come next
pub no_room : (rows : Listing Stamp) (line : Line) (p : Path) (x : Content Stamp) → IsPrintBody rows → RowFits p x → print_row_lines p x ≡ line ∷ []
    → ((y : Content Stamp) → ¬ IsListing (rows ++ record { path = p; content = y } ∷ [])) → BeginsNoPrint (print_lines rows ++ line ∷ [])
no_room rows line p x is fits told none whole rest is_whole e =
    let next = next_row rows whole line rest is is_whole e in
    let same = texts.one_row next.path p next.content x [] [] next.fits (fits.0.0, fits.0.1, fits.1, fits.2) (ap (λ z. z ++ []) (next.told ∙ sym told)) in
    none next.content (subst (λ q. IsListing (rows ++ record { path = q; content = next.content } ∷ [])) same.0 next.listing)
