-- A commit over a folder that tells such a tree: all its pieces together are the source's files.
use Rattle.std.proofs.Common.{◌≡◌, ◌↔◌, ℕ, zero, suc, ◌+◌, ◌<◌, Bool, true, false, cond, List, [], ◌∷◌, ◌++◌, length, take, get_or, Option, Some, IfSome, sym, refl, ap, ◌∙◌, subst, arith}
use Rattle.std.specs.Prelude.{Contains, AllPairs}
use Rattle.std.proofs.lemmas.Bool.{true≢false}
use Rattle.std.proofs.lemmas.List.{take_more}
use Rattle.std.proofs.lemmas.Option.{same_Some}
use Rattle.ts_name.specs.Paths.{Path, IsAbove, same_path}
use Rattle.ts_model.specs.Trees.{Tree, Listing, IsSubListing, at, listed, stamped, sub}
use Rattle.ts_model.specs.Plans.{KindIs, Copies, IsRange, Valid, source}
use Rattle.ts_model.specs.Runs.{Run, IsPieceOf}
use Rattle.ts_model.specs.declared.plan.Entry.{Entry}
use Rattle.ts_model.specs.declared.plan.Side.{Side}
use Rattle.ts_model.specs.declared.plan.Kind.{Kind}
use Rattle.ts_model.specs.declared.plan.Kind.TheVariants.{Piece, Commit}
use Rattle.ts_model.specs.declared.plan.Plan.{Plan}
use Rattle.ts_model.specs.declared.row.Content.TheVariants.{File}
use Rattle.ts_model.specs.declared.step.Step.TheVariants.{Act}
use Rattle.ts_model.specs.declared.step.Work.TheVariants.{Staged, Put}
use Rattle.ts_name.specs.Laws.{same_path_equal, same_path_itself}
use Rattle.ts_name.proofs.Basics.{at_each, by_each}
use Rattle.ts_laws.proofs.Lists.{Among-from_Contains, all_among}
use Rattle.ts_laws.proofs.Steps.{same_entry, same_kind}
use Rattle.ts_check.specs.Checkup.{IsSourcePart, snapshot_of}
use Rattle.ts_check.specs.Pieces.{IsEarlierPiece}
use Rattle.ts_folder.specs.Folders.{Reads}
use Rattle.ts_stage.specs.Assemblies.{Assembly, HasSoFar, IsComplete, assembly_of, put_in, with_more}
use Rattle.ts_stage.specs.Stagings.{Staging, both}
use Rattle.ts_print.specs.Parts.{Part}
use Rattle.ts_print.specs.Prints.{stamped_rows}
use Rattle.ts_exec.specs.Failures.{Setting, AreRead, AreTold, HasPut, HasRead, HasTold, IsRead, IsTold, IsToldStep, TellsTree}
use Rattle.ts_exec.specs.Outcomes.{PutWhatIsTold}
use Rattle.ts_exec.proofs.Filling.{HasPieces, begun_filled, filled, filled_content, filled_rows, listed-filled, more_filled, put_all, put_next, put_nothing, put_other, put_so_far, whole_rows, with_bytes}
use Rattle.ts_exec.proofs.Ranges.{lawful}
use Rattle.ts_exec.proofs.Reading.{read_act, read_told}

-- these pieces of entry e have been put, of what the tree has
pub record IsFilled (plan : Plan) (e : ℕ) (tree : Tree) (ks : List ℕ) (part : Part) (a : Assembly) : Type 0 where
  pub top : a.top ≡ part.top
  pub wanted : a.wanted ≡ part.rows
  pub had : Path → List ℕ
  pub made : a.made ≡ filled_rows had part.rows
  pub put : (rest : Path) → HasPieces plan e tree ks (part.top ++ rest) (had rest)

pub filled_start : (plan : Plan) (e : ℕ) (tree : Tree) (part : Part) (a : Assembly) → a ≡ assembly_of part → IsFilled plan e tree [] part a
filled_start plan e tree part a begun = subst (λ (z : Assembly). IsFilled plan e tree [] part z) (sym begun) start
  where
    start : IsFilled plan e tree [] part (assembly_of part)
    start = record { top = refl; wanted = refl; had = λ p. []; made = begun_filled part.rows; put = λ rest. put_nothing plan e tree (part.top ++ rest) }

same_staged : (x y : List ℕ) → Staged x ≡ Staged y → x ≡ y
same_staged x y e = cc

abbrev commit_in : Kind → ℕ
commit_in (Commit e) = e
commit_in _ = 0

same_put : (x y : Listing (List ℕ)) → Put x ≡ Put y → x ≡ y
same_put x y e = cc

any_default : (i d e : ℕ) (xs : List ℕ) → i < length xs → get_or xs i d ≡ get_or xs i e
any_default i d e [] l = absurd (omega arith)
any_default zero d e (x ∷ xs) l = refl
any_default (suc i) d e (x ∷ xs) l = any_default i d e xs (omega arith)

-- what a piece has read is the range that the tree has there
read_range : (x : Setting) (k e offset size : ℕ) (path : Path) (entry : Entry) (from : Side) (rows : Listing (List ℕ)) (bytes : List ℕ) → Copies x.checkup.plan e entry from → x.tells from ≡ Some rows
    → KindIs x.checkup.plan k (Piece e offset size path) → IsRead x k (Staged bytes) → Reads (at rows path) offset size bytes
read_range x k e offset size path entry from rows bytes copied tells kind read =
    subst (λ (z : List ℕ). Reads (at rows path) offset size z) (sym (same_staged bytes has.0 has.4)) told
  where
    has : HasRead x (Piece e offset size path) (Staged bytes)
    has = subst (λ (z : Kind). HasRead x z (Staged bytes)) (same_kind x.checkup.plan k read.0 (Piece e offset size path) read.1 kind) read.2

    same_from : has.2 ≡ from
    same_from = same_Some has.2 from (sym has.3.1 ∙ ap (λ (z : Entry). source z.reason) (same_entry x.checkup.plan e has.1 entry has.3.0 copied.0) ∙ copied.1)

    told : Reads (at rows path) offset size has.0
    told = subst (λ (o : Option (Listing (List ℕ))). IfSome o (λ rows. Reads (at rows path) offset size has.0)) (ap x.tells same_from ∙ tells) has.5

module _ (x : Setting) (valid : Valid (snapshot_of x.checkup) x.checkup.plan) (c : ℕ) (part : Part) (of : IsSourcePart x.checkup c part) (told : TellsTree x of.from) where
  abbrev plan : Plan
  plan = x.checkup.plan

  abbrev pub e : ℕ
  e = of.of_commit.0

  abbrev pub tree : Tree
  tree = at told.0

  -- the part's print is that of the tree below its path
  print_at : (rest : Path) → listed part.rows rest ≡ stamped (tree (part.top ++ rest))
  print_at rest = at_each of.rows rest ∙ sym (at_each told.2 (of.entry.path ++ rest)) ∙ ap (λ (z : Path). stamped (at told.0 (z ++ rest))) (sym of.top)

  module _ (xs : List ℕ) (pieces : (k : ℕ) → Contains xs k ↔ IsPieceOf x.checkup.plan c k) (order : AllPairs (IsEarlierPiece x.checkup.plan) xs) where
    -- all pieces of the entry are among these
    each_piece : (k offset size : ℕ) (p : Path) → KindIs x.checkup.plan k (Piece of.of_commit.0 offset size p) → Contains xs k
    each_piece k offset size p kind = (pieces k).1 (record { entry = of.of_commit.0; offset = offset; size = size; path = p; commit = of.of_commit.1; piece = kind })

    -- the next piece fills its range
    module _ (n : ℕ) (within : n < length xs) (k : ℕ) (here : get_or xs n k ≡ k) (offset size : ℕ) (path : Path) (kind : KindIs x.checkup.plan k (Piece of.of_commit.0 offset size path))
        (bytes : List ℕ) (read : Reads (at told.0 path) offset size bytes) (a : Assembly) (f : IsFilled x.checkup.plan of.of_commit.0 (at told.0) (take n xs) part a) where
      abbrev Next : Path → List ℕ → Type 0
      Next p had = HasPieces plan e tree (take n xs ++ k ∷ []) p had

      covers : (bytes : List ℕ) × (tree path ≡ File bytes) × (IsRange (length bytes) offset size × IsAbove of.entry.path path)
      covers = lawful (snapshot_of x.checkup) plan valid e of.entry of.from of.of_commit.2 tree told.2 k offset size path kind

      rest : Path
      rest = covers.2.1.0

      stands : path ≡ part.top ++ rest
      unfolding rest
      stands = covers.2.1.1 ∙ ap (λ (z : Path). z ++ rest) (sym of.top)

      long : length (f.had rest) ≡ offset
      long = put_so_far (snapshot_of x.checkup) plan valid e of.entry of.from of.of_commit.2 tree told.2 xs order each_piece n within k here offset size path kind (f.had rest)
          (subst (λ (z : Path). HasPieces plan e tree (take n xs) z (f.had rest)) (sym stands) (f.put rest))

      far : HasSoFar a path offset
      far = (
        rest,
        f.had rest,
        stands ∙ ap (λ (z : Path). z ++ rest) (sym f.top),
        ap (λ (z : Listing (List ℕ)). listed z rest) f.made ∙ listed-filled f.had part.rows rest ∙ ap (filled (f.had rest)) (print_at rest ∙ ap stamped (ap tree (sym stands) ∙ covers.1)),
        long,
      )

      put_at : (p : Path) (b : Bool) → same_path (part.top ++ p) path ≡ b → Next (part.top ++ p) (cond b (f.had p ++ bytes) (f.had p))
      put_at p true same =
          let e_path : part.top ++ p ≡ path = same_path_equal (part.top ++ p) path same in
          let before : HasPieces plan e tree (take n xs) path (f.had p) = subst (λ (z : Path). HasPieces plan e tree (take n xs) z (f.had p)) e_path (f.put p) in
          let so_far = put_so_far (snapshot_of x.checkup) plan valid e of.entry of.from of.of_commit.2 tree told.2 xs order each_piece n within k here offset size path kind (f.had p) before in
          subst (λ (z : Path). Next z (f.had p ++ bytes)) (sym e_path)
          (put_next (snapshot_of x.checkup) plan valid e of.entry of.from of.of_commit.2 tree told.2 (take n xs) k offset size path (f.had p) bytes read.bytes kind before so_far read.file read.answered)
      put_at p false same = put_other (snapshot_of x.checkup) plan valid e of.entry of.from of.of_commit.2 tree told.2 (take n xs) k offset size path (part.top ++ p) (f.had p) kind
          (λ e_path. true≢false (sym (ap (λ (z : Path). same_path z path) e_path ∙ same_path_itself path) ∙ same)) (f.put p)

      next : (held : Bool) → IsFilled plan e tree (take n xs ++ k ∷ []) part (record a { made = with_more a.top path bytes a.made; held = held })
      next held = record {
        top = f.top;
        wanted = f.wanted;
        had = with_bytes part.top path bytes f.had;
        made = ap (with_more a.top path bytes) f.made ∙ ap (λ (z : Path). with_more z path bytes (filled_rows f.had part.rows)) f.top ∙ more_filled part.top path bytes f.had part.rows;
        put = λ p. put_at p (same_path (part.top ++ p) path) refl;
      }

    pub filled_next : (n : ℕ) → n < length xs → (r : Run) (staging : Staging) → AreRead x r → Contains r (Act (get_or xs n 0) (Staged staging.bytes)) → (a b : Assembly) → IsFilled plan e tree (take n xs) part a
        → ((e offset size : ℕ) (path : Path) → KindIs plan (get_or xs n 0) (Piece e offset size path) → HasSoFar a path offset → b ≡ put_in a path staging)
        → Contains xs (get_or xs n 0) → IsFilled plan e tree (take (n + 1) xs) part b
    filled_next n within r staging reads there a b f put among =
        subst (λ (z : List ℕ). IsFilled plan e tree z part b) (sym (take_more xs n 0 within))
        (subst (λ (z : Assembly). IsFilled plan e tree (take n xs ++ get_or xs n 0 ∷ []) part z)
        (sym (put e piece.offset piece.size piece.path kind (far n within (get_or xs n 0) here piece.offset piece.size piece.path kind staging.bytes read a f)))
        (next n within (get_or xs n 0) here piece.offset piece.size piece.path kind staging.bytes read a f (both a.held staging.held)))
      where
        here : get_or xs n (get_or xs n 0) ≡ get_or xs n 0
        here = any_default n (get_or xs n 0) 0 xs within

        piece : IsPieceOf plan c (get_or xs n 0)
        piece = (pieces (get_or xs n 0)).0 among

        kind : KindIs plan (get_or xs n 0) (Piece e piece.offset piece.size piece.path)
        kind = subst (λ (z : ℕ). KindIs plan (get_or xs n 0) (Piece z piece.offset piece.size piece.path)) (ap commit_in (same_kind plan c (Commit piece.entry) (Commit e) piece.commit of.of_commit.1)) piece.piece

        read : Reads (at told.0 piece.path) piece.offset piece.size staging.bytes
        read = read_range x (get_or xs n 0) e piece.offset piece.size piece.path of.entry of.from told.0 staging.bytes of.of_commit.2 told.1 kind (read_act x r (get_or xs n 0) (Staged staging.bytes) reads there)

    whole_file : {a : Assembly} (rest : Path) (bytes : List ℕ) (f : IsFilled plan e tree xs part a) → tree (part.top ++ rest) ≡ File bytes → f.had rest ≡ bytes
    whole_file rest bytes f there = put_all (snapshot_of x.checkup) plan valid e of.entry of.from of.of_commit.2 tree told.2 xs (λ k offset size p kind. Among-from_Contains xs k (each_piece k offset size p kind))
        (part.top ++ rest) (f.had rest) bytes (f.put rest) there (rest, ap (λ (z : Path). z ++ rest) of.top)

    -- once all pieces were put, each file fits its stamp
    pub filled_whole : (a : Assembly) → IsFilled plan e tree xs part a → IsSubListing a.made → IsComplete a
    filled_whole a f stand =
        ap stamped_rows f.made
        ∙ whole_rows f.had part.rows (λ rest. tree (part.top ++ rest)) (subst (λ (z : Listing (List ℕ)). IsSubListing z) f.made stand) print_at
        (λ rest bytes there. whole_file rest bytes f there)
        ∙ sym f.wanted

    -- and what stands at each path is what the tree has there
    pub filled_exact : (a : Assembly) → IsFilled plan e tree xs part a → listed a.made ≡ sub tree part.top
    filled_exact a f = by_each (listed a.made) (sub tree part.top) (λ rest.
        ap (λ (z : Listing (List ℕ)). listed z rest) f.made ∙ listed-filled f.had part.rows rest ∙ ap (filled (f.had rest)) (print_at rest)
        ∙ filled_content (f.had rest) (tree (part.top ++ rest)) (λ bytes there. whole_file rest bytes f there))

-- where all steps of a run did what folders tell, its commits put in place what theirs do
pub put_told : (x : Setting) (r : Run) → AreTold x r r → PutWhatIsTold x r
put_told x r told c e entry from made there kind copied sited = λ tells.
    subst (λ (z : Listing (List ℕ)). listed z ≡ sub (at tells.0) entry.path) (sym (same_put made has.0 has.4))
    (subst (λ (z : Entry). listed has.0 ≡ sub (at tells.0) z.path) one_entry (on_side tells))
  where
    done : IsTold x r c (Put made)
    done = all_among (IsToldStep x r) r told (Act c (Put made)) (Among-from_Contains r (Act c (Put made)) there)

    has : HasPut x r c e (Put made)
    has = subst (λ (z : Kind). HasTold x r c z (Put made)) (same_kind x.checkup.plan c done.0 (Commit e) done.1 kind) done.2

    one_entry : has.1 ≡ entry
    one_entry = same_entry x.checkup.plan e has.1 entry has.3.0 copied.0

    one_side : has.2 ≡ from
    one_side = same_Some has.2 from (sym has.3.1 ∙ ap (λ (z : Entry). source z.reason) one_entry ∙ copied.1)

    on_side : (tells : TellsTree x from) → listed has.0 ≡ sub (at tells.0) has.1.path
    on_side = subst (λ (z : Side). (tells : TellsTree x z) → listed has.0 ≡ sub (at tells.0) has.1.path) one_side (λ tells. has.5 sited tells (read_told x r r told))
