-- Worked examples of the definitions. Each fact is computed, so a check of this file is a check of the definitions.
use Rattle.std.proofs.Common.{◌≡◌, ℕ, List, [], ◌∷◌, ◌++◌, refl}
use Rattle.std.specs.Prelude.{codes, replicate}
use Rattle.std.specs.declared.cmp.Ordering.TheVariants.{Less}
use Rattle.std.specs.Fmt.{digits}
use Rattle.hex.specs.Hex.{encode_with}
use Rattle.ts_name.specs.Paths.{Path, path_cmp, path_text}
use Rattle.ts_model.specs.declared.row.Content.TheVariants.{Dir, File}
use Rattle.ts_model.specs.declared.hold.Rule.TheVariants.{OnePath, LastName}
use Rattle.ts_model.specs.declared.hold.Symbol.TheVariants.{Star, Byte}
use Rattle.ts_model.specs.declared.plan.Reason.TheVariants as reason
use Rattle.ts_model.specs.declared.plan.Kind.TheVariants.{Piece, Commit, Mark}
use Rattle.ts_model.specs.declared.plan.Plan.{Plan}
use Rattle.ts_model.specs.Trees.{Listing}
use Rattle.ts_model.specs.Holds.{Fits}
use Rattle.ts_model.specs.Texts.{Bundle, text, archive_front, bundle_lines, plan_lines, print_lines, rule_line, tree_lines}
use Rattle.ts_model.specs.Trial.{result_lines}

-- ---- paths

-- `/a`
a : Path
a = codes "a" ∷ []

-- a space and a percent sign are escaped, and the root's text is empty
escaped_name : path_text (codes "a b%" ∷ []) ≡ codes "/a%20b%25"
escaped_name = refl

text_of_root : path_text [] ≡ []
text_of_root = refl

-- a name comes before what only its bytes begin
below_before_beside : path_cmp (codes "a" ∷ codes "b" ∷ []) (codes "a.b" ∷ []) ≡ Less
below_before_beside = refl

-- paths are ordered by their bytes, and not by their texts
space_before_mark : path_cmp (codes " " ∷ []) (codes "!" ∷ []) ≡ Less
space_before_mark = refl

above_before_below : path_cmp a (codes "a" ∷ codes "b" ∷ []) ≡ Less
unfolding a
above_before_below = refl

-- ---- bodies

-- a file of 65 bytes has a full line and a line of one byte
long_file : tree_lines (record { path = codes "a" ∷ []; content = File (replicate 65 97) } ∷ [])
    ≡ codes "f /a 65" ∷ (codes "x " ++ codes "61616161616161616161616161616161616161616161616161616161616161616161616161616161616161616161616161616161616161616161616161616161")
    ∷ codes "x 61" ∷ []
unfolding digits encode_with
long_file = refl

empty_file : tree_lines (record { path = codes "a" ∷ []; content = File [] } ∷ []) ≡ codes "f /a 0" ∷ []
unfolding digits encode_with
empty_file = refl

-- a stamp's digest is 64 lower-case hex digits
stamp_line : print_lines (record { path = codes "d" ∷ []; content = Dir } ∷ record { path = codes "d" ∷ codes "x" ∷ []; content = File (record { size = 1; digest = replicate 32 171 }) } ∷ [])
    ≡ codes "d /d" ∷ codes "f /d/x 1 abababababababababababababababababababababababababababababababab" ∷ []
unfolding digits encode_with
stamp_line = refl

empty_archive_front : archive_front [] ≡ codes "twosync-archive 1" ++ 10 ∷ []
empty_archive_front = refl

-- ---- hold rules

path_rule : rule_line (OnePath (codes "d" ∷ codes "x y" ∷ [])) ≡ codes "path /d/x%20y"
path_rule = refl

-- the byte `*` is escaped, and the symbol isn't
star_rule : rule_line (LastName (Star ∷ Byte 46 ∷ Byte 42 ∷ [])) ≡ codes "name *.%2A"
star_rule = refl

-- `*.o` fits `x.o` and `.o`
fits_object : Fits (Star ∷ Byte 46 ∷ Byte 111 ∷ []) (codes "x.o")
fits_object = (codes "x", codes ".o", refl, (refl, (refl, tt)))

fits_bare : Fits (Star ∷ Byte 46 ∷ Byte 111 ∷ []) (codes ".o")
fits_bare = ([], codes ".o", refl, (refl, (refl, tt)))

-- ---- a new file in the first replica is copied: the plan, the bundle and the result

first_of_copy : Listing (List ℕ)
first_of_copy = record { path = codes "a" ∷ []; content = File (97 ∷ []) } ∷ []

copy_plan : Plan
copy_plan = record {
  entries = record { path = codes "a" ∷ []; reason = reason.First } ∷ [];
  actions = record { kind = Piece 0 0 1 (codes "a" ∷ []); preds = [] } ∷ record { kind = Commit 0; preds = 0 ∷ [] } ∷ record { kind = Mark 0; preds = 1 ∷ [] } ∷ [];
}

copy_bundle : Bundle
copy_bundle = record { archive = []; first = first_of_copy; second = []; rules = []; plan = copy_plan }

text_of_copy_plan : plan_lines copy_plan
    ≡ codes "twosync-plan 1" ∷ codes "entry first /a" ∷ codes "piece 0 0 1 /a" ∷ codes "commit 0" ∷ codes "p 0" ∷ codes "mark 0" ∷ codes "p 1" ∷ codes "end 1 3" ∷ []
unfolding first_of_copy copy_plan digits encode_with
text_of_copy_plan = refl

text_of_copy_bundle : text (bundle_lines copy_bundle)
    ≡ text (codes "twosync-bundle 1" ∷ codes "archive" ∷ codes "first" ∷ codes "f /a 1" ∷ codes "x 61" ∷ codes "second" ∷ codes "holds" ∷ codes "plan"
    ∷ codes "twosync-plan 1" ∷ codes "entry first /a" ∷ codes "piece 0 0 1 /a" ∷ codes "commit 0" ∷ codes "p 0" ∷ codes "mark 0" ∷ codes "p 1" ∷ codes "end 1 3" ∷ [])
unfolding first_of_copy copy_plan copy_bundle digits encode_with
text_of_copy_bundle = refl

-- both replicas have the file, and so has the archive
text_of_copy_result : result_lines first_of_copy first_of_copy (record { path = codes "a" ∷ []; content = File (record { size = 1; digest = replicate 32 7 }) } ∷ []) copy_plan.entries
    ≡ codes "first" ∷ codes "f /a 1" ∷ codes "x 61" ∷ codes "second" ∷ codes "f /a 1" ∷ codes "x 61"
    ∷ codes "archive" ∷ codes "f /a 1 0707070707070707070707070707070707070707070707070707070707070707"
    ∷ codes "report" ∷ codes "done first /a" ∷ codes "total 1 done 1 skipped 0 failed 0 blocked 0" ∷ []
unfolding first_of_copy copy_plan digits encode_with
text_of_copy_result = refl
