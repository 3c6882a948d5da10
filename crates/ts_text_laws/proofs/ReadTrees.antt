-- Whether lines are those of a tree or of a print, and whether rows are a listing.
use Rattle.std.proofs.Common.{◌≡◌, ◌≢◌, ◌⊎◌, ℕ, zero, suc, ◌+◌, ◌-◌, ◌*◌, ◌/◌, ◌<◌, ◌≤◌, ◌^◌, min, List, [], ◌∷◌, ◌++◌, length, take, drop, codes, decimal, refl, sym, ap, ap₂, ◌∙◌, subst, inl, inr, append_assoc, length-append, length-take, length-drop, take-append-drop, arith}
use Rattle.std.specs.List.{AllByRecursion}
use Rattle.std.proofs.lemmas.Fmt.{decimal_injective}
use Rattle.std.proofs.Math.Decide.{map_dec}
use Rattle.hex.specs.Hex.{encode_lower}
use Rattle.ts_name.specs.Paths.{Name, Path, IsPath, path_text}
use Rattle.ts_model.specs.Trees.{Listing, listed, at, Ascend, IsListing}
use Rattle.ts_model.specs.Texts.{IsBytes, FileFits, StampFits, IsTreeBody, IsPrintBody}
use Rattle.ts_model.specs.declared.row.Content.{Content}
use Rattle.ts_model.specs.declared.row.Content.TheVariants.{Absent, Dir, File}
use Rattle.ts_model.specs.declared.row.Row.{Row}
use Rattle.ts_model.specs.declared.row.Stamp.{Stamp}
use Rattle.ts_laws.proofs.Basics.{Dec-both, Dec-not}
use Rattle.ts_laws.proofs.Search.{decide_less, decide_each, decide_empty}
use Rattle.ts_name.proofs.Prefixes.{last_name, same_parent, snoc_not_empty}
use Rattle.ts_name.proofs.Order.{decide_before}
use Rattle.ts_name.proofs.Basics.{weaker}
use Rattle.ts_laws.proofs.Lists.{Among, all_among, all_from_among}
use Rattle.ts_laws.proofs.Listings.{paths_of, decide_absent, listed_among}
use Rattle.ts_text_laws.proofs.Words.{Words}
use Rattle.ts_name.proofs.Utf8.{all_append}
use Rattle.ts_name.proofs.Spelling.{cons_parts}
use Rattle.ts_model.proofs.Spelling.{bytes_parts}
use Rattle.ts_text_laws.proofs.TreeTexts.{data_words, tree_row_words, tree_words, RowFits, one_tree_row, print_row_words, print_words, MarkFits, one_print_row}
use Rattle.ts_name.proofs.Basics.{weaker}
use Rattle.ts_text_laws.proofs.ReadWords.{BeginsWith, decide_begins, decide_keyed, decide_word, decide_decimal, decide_bytes, decide_path, decide_is_path}
use Rattle.ts_model.proofs.Rows.{listed_here, listed_there}
use Rattle.ts_model.proofs.Deciding.{same_number, same_names}

-- ---- items one after another

-- items whose lines are these up to others
abbrev pub AreItems : {A : Type 0} → (A → Type 0) → (List A → List Words) → (List A → List Words → Type 0) → List Words → Type 0
AreItems {A} Fits joined Q lines = (xs : List A) × (rest : List Words) × AllByRecursion Fits xs × (lines ≡ joined xs ++ rest) × Q xs rest

-- how items are spelled in lines: whether lines begin with one is decided, and with which
pub record IsSpelling {A : Type 0} (Fits : A → Type 0) (spelled : A → List Words) (joined : List A → List Words) : Type 0 where
  pub nothing : joined [] ≡ []
  pub one_more : (x : A) (xs : List A) → joined (x ∷ xs) ≡ spelled x ++ joined xs
  pub first : (lines : List Words) → Dec ((x : A) × (rest : List Words) × Fits x × (lines ≡ spelled x ++ rest))
  pub one : (x y : A) (u v : List Words) → Fits x → Fits y → spelled x ++ u ≡ spelled y ++ v → (x ≡ y) × (u ≡ v)
  pub some : (x : A) → Fits x → 0 < length (spelled x)

module _ {A : Type 0} (Fits : A → Type 0) (spelled : A → List Words) (joined : List A → List Words) (spelling : IsSpelling Fits spelled joined) where
  open spelling use {nothing, one_more, first, one, some}

  -- the lines of items after the first
  after_first : (x : A) (xs : List A) (lines rest : List Words) → lines ≡ joined (x ∷ xs) ++ rest → lines ≡ spelled x ++ (joined xs ++ rest)
  after_first x xs lines rest e = e ∙ ap (λ z. z ++ rest) (one_more x xs) ∙ append_assoc (spelled x) (joined xs) rest

  -- no items, before lines with a fact
  no_items : (lines rest : List Words) → lines ≡ joined [] ++ rest → lines ≡ rest
  no_items lines rest e = e ∙ ap (λ z. z ++ rest) nothing

  -- whether lines are those of some items, and then others with a decided fact
  pub decide_items : (fuel : ℕ) (Q : List A → List Words → Type 0) → ((xs : List A) (rest : List Words) → Dec (Q xs rest)) → (lines : List Words) → length lines < fuel → Dec (AreItems Fits joined Q lines)
  decide_items zero Q d lines enough = absurd (omega (arith, enough))
  decide_items (suc fuel) Q d lines enough = elim (d [] lines) [
    | yes h ↦ yes ([], lines, tt, sym (ap (λ z. z ++ lines) nothing), h)
    | no n ↦ elim (first lines) [
      | no m ↦ no (λ h. without h.0 h.1 h.2 h.3 h.4 n m)
      | yes found ↦ with_first n found (λ less. decide_items fuel (λ xs rest. Q (found.0 ∷ xs) rest) (λ xs rest. d (found.0 ∷ xs) rest) found.1 less)
    ]
  ]
    where
      First : Type 0
      First = (x : A) × (rest : List Words) × Fits x × (lines ≡ spelled x ++ rest)

      without : (xs : List A) (rest : List Words) → AllByRecursion Fits xs → lines ≡ joined xs ++ rest → Q xs rest → ¬ Q [] lines → ¬ First → ⊥
      without [] rest fits e q n m = n (subst (Q []) (sym (no_items lines rest e)) q)
      without (x ∷ xs) rest fits e q n m = m (x, joined xs ++ rest, fits.0, after_first x xs lines rest e)

      same_first : (x : A) (rest : List Words) → Fits x → lines ≡ spelled x ++ rest → (xs : List A) (more : List Words) → AllByRecursion Fits xs → lines ≡ joined xs ++ more → Q xs more → ¬ Q [] lines
          → AreItems Fits joined (λ ys last. Q (x ∷ ys) last) rest
      same_first x rest fit e [] more fits f q n = absurd (n (subst (Q []) (sym (no_items lines more f)) q))
      same_first x rest fit e (y ∷ ys) more fits f q n =
          let parts = one y x (joined ys ++ more) rest fits.0 fit (sym (after_first y ys lines more f) ∙ e) in
          (ys, more, fits.1, sym parts.1, subst (λ z. Q (z ∷ ys) more) parts.0 q)

      with_first : ¬ Q [] lines → (found : First) → (length found.1 < fuel → Dec (AreItems Fits joined (λ ys last. Q (found.0 ∷ ys) last) found.1)) → Dec (AreItems Fits joined Q lines)
      with_first n (x, rest, fit, e) more = elim (more (let long = ap length e ∙ length-append (spelled x) rest in omega (arith, long, some x fit, enough))) [
        | yes h ↦ yes (x ∷ h.0, h.1, (fit, h.2), e ∙ ap (λ z. spelled x ++ z) h.3 ∙ sym (append_assoc (spelled x) (joined h.0) h.1) ∙ ap (λ z. z ++ h.1) (sym (one_more x h.0)), h.4)
        | no m ↦ no (λ h. m (same_first x rest fit e h.0 h.1 h.2 h.3 h.4 n))
      ]

-- ---- a directory's line

-- whether a line is that of a directory
decide_dir_line : (line : Words) → Dec ((p : Path) × IsPath p × (line ≡ codes "d" ∷ path_text p ∷ []))
decide_dir_line = decide_keyed IsPath path_text decide_path (codes "d")

-- ---- rows of prints

-- whether a line is that of a file of a print
decide_mark_line : (line : Words)
    → Dec ((p : Path) × (stamp : Stamp) × IsPath p × StampFits (File stamp) × (line ≡ codes "f" ∷ path_text p ∷ decimal stamp.size ∷ encode_lower stamp.digest ∷ []))
decide_mark_line line = map_dec
    (λ h.
    let second = h.4 in let third = second.4 in let fourth = third.4 in (
      second.3.0,
      record { size = third.3.0; digest = fourth.3.0 },
      second.3.1,
      (third.3.1, fourth.3.1.0, fourth.3.1.1),
      (let a = h.2 in let b = h.3 in let c = second.2 in let d = second.3.2 in let e = third.2 in let f = third.3.2 in let g = fourth.2 in let i = fourth.3.2 in let j = fourth.4 in cc),
    ))
    (λ h. (codes "f", _, h.4, refl, (path_text h.0, _, refl, (h.0, h.2, refl), (decimal h.1.size, _, refl, (h.1.size, h.3.0, refl), (encode_lower h.1.digest, [], refl, (h.1.digest, (h.3.1, h.3.2), refl), refl)))))
    (decide_begins (λ w. w ≡ codes "f") (BeginsWith IsPathWord (BeginsWith IsSizeWord (BeginsWith IsDigestWord (λ more. more ≡ []))))
    (λ w. decide_word w (codes "f"))
    (decide_begins IsPathWord (BeginsWith IsSizeWord (BeginsWith IsDigestWord (λ more. more ≡ []))) decide_path
    (decide_begins IsSizeWord (BeginsWith IsDigestWord (λ more. more ≡ [])) (decide_decimal (2 ^ 64))
    (decide_begins IsDigestWord (λ more. more ≡ []) decide_digest decide_empty))) line)
  where
    IsPathWord : List ℕ → Type 0
    IsPathWord w = (p : Path) × IsPath p × (w ≡ path_text p)

    IsSizeWord : List ℕ → Type 0
    IsSizeWord w = (n : ℕ) × (n < 2 ^ 64) × (w ≡ decimal n)

    IsDigestWord : List ℕ → Type 0
    IsDigestWord w = (bytes : List ℕ) × (IsBytes bytes × (length bytes ≡ 32)) × (w ≡ encode_lower bytes)

    decide_digest : (w : List ℕ) → Dec (IsDigestWord w)
    decide_digest w = decide_bytes (λ bytes. length bytes ≡ 32) (λ bytes. same_number (length bytes) 32) w

-- whether lines begin with a row of a print
first_mark : (lines : List Words) → Dec ((row : Row Stamp) × (rest : List Words) × MarkFits row.path row.content × (lines ≡ print_row_words row.path row.content ++ rest))
unfolding print_row_words
first_mark [] = no (λ h. go h.0.path h.0.content h.1 h.2 h.3)
  where
    go : (p : Path) (x : Content Stamp) (rest : List Words) → MarkFits p x → [] ≢ print_row_words p x ++ rest
    go p Absent rest fits e = fits.1 refl
    go p Dir rest fits e = cc
    go p (File x) rest fits e = cc
first_mark (line ∷ more) = by_line (decide_dir_line line) (decide_mark_line line)
  where
    DirLine : Type 0
    DirLine = (p : Path) × IsPath p × (line ≡ codes "d" ∷ path_text p ∷ [])

    MarkLine : Type 0
    MarkLine = (p : Path) × (stamp : Stamp) × IsPath p × StampFits (File stamp) × (line ≡ codes "f" ∷ path_text p ∷ decimal stamp.size ∷ encode_lower stamp.digest ∷ [])

    neither : ¬ DirLine → ¬ MarkLine → (p : Path) (x : Content Stamp) (rest : List Words) → MarkFits p x → line ∷ more ≢ (print_row_words p x ++ rest)
    neither n m p Absent rest fits e = fits.1 refl
    neither n m p Dir rest fits e = n (p, fits.0, cc)
    neither n m p (File x) rest fits e = m (p, x, fits.0, fits.2, cc)

    by_line : Dec DirLine → Dec MarkLine → Dec ((row : Row Stamp) × (rest : List Words) × MarkFits row.path row.content × (line ∷ more ≡ print_row_words row.path row.content ++ rest))
    by_line (yes h) mark = yes (record { path = h.0; content = Dir }, more, (h.1, (λ e. cc), tt), ap (λ z. z ∷ more) h.2)
    by_line (no n) (yes h) = yes (record { path = h.0; content = File h.1 }, more, (h.2, (λ e. cc), h.3), ap (λ z. z ∷ more) h.4)
    by_line (no n) (no m) = no (λ h. neither n m h.0.path h.0.content h.1 h.2 h.3)

-- ---- data of a tree's files

-- lists in two parts, the first of which are as long
same_parts : {A : Type 0} (x y u v : List A) → length x ≡ length y → x ++ u ≡ y ++ v → (x ≡ y) × (u ≡ v)
same_parts [] [] u v long e = (refl, e)
same_parts [] (b ∷ y) u v long e = absurd (omega (arith, long))
same_parts (a ∷ x) [] u v long e = absurd (omega (arith, long))
same_parts (a ∷ x) (b ∷ y) u v long e =
    let cons = cons_parts a b (x ++ u) (y ++ v) e in
    let more = same_parts x y u v (omega (arith, long)) cons.1 in
    (ap₂ ◌∷◌ cons.0 more.0, more.1)

-- the first 64 bytes and the others
cut_data : (m : ℕ) (front rest : List ℕ) → length front ≡ min 64 m → length rest ≡ m - 64 → (take 64 (front ++ rest) ≡ front) × (drop 64 (front ++ rest) ≡ rest)
cut_data m front rest long_front long_rest =
    same_parts (take 64 (front ++ rest)) front (drop 64 (front ++ rest)) rest
    (let whole = length-append front rest in let part = length-take 64 (front ++ rest) in omega (arith, whole, part, long_front, long_rest))
    (take-append-drop 64 (front ++ rest))

-- whether a line is data of a known length
decide_data_line : (n : ℕ) (line : Words) → Dec ((bytes : List ℕ) × (IsBytes bytes × (length bytes ≡ n)) × (line ≡ codes "x" ∷ encode_lower bytes ∷ []))
decide_data_line n = decide_keyed (λ bytes. IsBytes bytes × (length bytes ≡ n)) encode_lower (decide_bytes (λ bytes. length bytes ≡ n) (λ bytes. same_number (length bytes) n)) (codes "x")

-- lines begin with n lines of m bytes
abbrev BeginWithData : ℕ → ℕ → List Words → Type 0
BeginWithData n m lines = (bytes : List ℕ) × (rest : List Words) × IsBytes bytes × (length bytes ≡ m) × (lines ≡ data_words n bytes ++ rest)

-- whether they do
decide_data : (n m : ℕ) → m ≤ 64 * n → (lines : List Words) → Dec (BeginWithData n m lines)
unfolding data_words
decide_data zero m few lines = yes ([], lines, tt, omega (arith, few), refl)
decide_data (suc n) m few [] = no (λ h. let e = h.4 in cc)
decide_data (suc n) m few (line ∷ lines) = go (decide_data_line (min 64 m) line) (decide_data n (m - 64) (omega (arith, few)) lines)
  where
    FirstLine : Type 0
    FirstLine = (bytes : List ℕ) × (IsBytes bytes × (length bytes ≡ min 64 m)) × (line ≡ codes "x" ∷ encode_lower bytes ∷ [])

    parts : BeginWithData (suc n) m (line ∷ lines) → FirstLine × BeginWithData n (m - 64) lines
    parts (bytes, rest, are, long, e) =
        let cut = bytes_parts 64 bytes are in
        let cons = cons_parts line (codes "x" ∷ encode_lower (take 64 bytes) ∷ []) lines (data_words n (drop 64 bytes) ++ rest) e in (
          (take 64 bytes, (cut.0, length-take 64 bytes ∙ ap (min 64) long), cons.0),
          (drop 64 bytes, rest, cut.1, length-drop 64 bytes ∙ ap (λ z. z - 64) long, cons.1),
        )

    go : Dec FirstLine → Dec (BeginWithData n (m - 64) lines) → Dec (BeginWithData (suc n) m (line ∷ lines))
    go (no k) more = no (λ h. k (parts h).0)
    go (yes h) (no k) = no (λ g. k (parts g).1)
    go (yes (front, (are, long), e)) (yes (bytes, rest, are_more, long_more, f)) =
        let cut = cut_data m front bytes long long_more in
        yes (
          front ++ bytes,
          rest,
          all_append (λ b. b < 256) front bytes are are_more,
          (let whole = length-append front bytes in omega (arith, whole, long, long_more)),
          ap₂ ◌∷◌ (e ∙ ap (λ z. codes "x" ∷ encode_lower z ∷ []) (sym cut.0)) (f ∙ ap (λ z. data_words n z ++ rest) (sym cut.1)),
        )

-- ---- rows of trees

-- whether a line is that of a file of a tree
decide_file_line : (line : Words) → Dec ((p : Path) × (n : ℕ) × IsPath p × (n < 2 ^ 64) × (line ≡ codes "f" ∷ path_text p ∷ decimal n ∷ []))
decide_file_line line = map_dec
    (λ h.
    let second = h.4 in let third = second.4 in (
      second.3.0,
      third.3.0,
      second.3.1,
      third.3.1,
      (let a = h.2 in let b = h.3 in let c = second.2 in let d = second.3.2 in let e = third.2 in let f = third.3.2 in let g = third.4 in cc),
    ))
    (λ h. (codes "f", _, h.4, refl, (path_text h.0, _, refl, (h.0, h.2, refl), (decimal h.1, [], refl, (h.1, h.3, refl), refl))))
    (decide_begins (λ w. w ≡ codes "f") (BeginsWith IsPathWord (BeginsWith IsSizeWord (λ more. more ≡ [])))
    (λ w. decide_word w (codes "f"))
    (decide_begins IsPathWord (BeginsWith IsSizeWord (λ more. more ≡ [])) decide_path
    (decide_begins IsSizeWord (λ more. more ≡ []) (decide_decimal (2 ^ 64)) decide_empty)) line)
  where
    IsPathWord : List ℕ → Type 0
    IsPathWord w = (p : Path) × IsPath p × (w ≡ path_text p)

    IsSizeWord : List ℕ → Type 0
    IsSizeWord w = (n : ℕ) × (n < 2 ^ 64) × (w ≡ decimal n)

-- whether lines begin with a row of a tree
first_row : (lines : List Words) → Dec ((row : Row (List ℕ)) × (rest : List Words) × RowFits row.path row.content × (lines ≡ tree_row_words row.path row.content ++ rest))
unfolding tree_row_words
first_row [] = no (λ h. go h.0.path h.0.content h.1 h.2 h.3)
  where
    go : (p : Path) (x : Content (List ℕ)) (rest : List Words) → RowFits p x → [] ≢ tree_row_words p x ++ rest
    go p Absent rest fits e = fits.1 refl
    go p Dir rest fits e = cc
    go p (File x) rest fits e = cc
first_row (line ∷ more) = by_line (decide_dir_line line) (decide_file_line line)
  where
    DirLine : Type 0
    DirLine = (p : Path) × IsPath p × (line ≡ codes "d" ∷ path_text p ∷ [])

    FileLine : Type 0
    FileLine = (p : Path) × (n : ℕ) × IsPath p × (n < 2 ^ 64) × (line ≡ codes "f" ∷ path_text p ∷ decimal n ∷ [])

    FirstRow : Type 0
    FirstRow = (row : Row (List ℕ)) × (rest : List Words) × RowFits row.path row.content × (line ∷ more ≡ tree_row_words row.path row.content ++ rest)

    file_line : (p : Path) (x : List ℕ) (rest : List Words) → RowFits p (File x) → line ∷ more ≡ tree_row_words p (File x) ++ rest → FileLine
    file_line p x rest fits e = (p, length x, fits.0, fits.2.1, cc)

    neither : ¬ DirLine → ¬ FileLine → (p : Path) (x : Content (List ℕ)) (rest : List Words) → RowFits p x → line ∷ more ≢ (tree_row_words p x ++ rest)
    neither n m p Absent rest fits e = fits.1 refl
    neither n m p Dir rest fits e = n (p, fits.0, cc)
    neither n m p (File x) rest fits e = m (file_line p x rest fits e)

    -- a file's line, but not its data
    no_data : ¬ DirLine → (file : FileLine) → ¬ BeginWithData ((file.1 + 63) / 64) file.1 more → (p : Path) (x : Content (List ℕ)) (rest : List Words) → RowFits p x
        → line ∷ more ≢ (tree_row_words p x ++ rest)
    no_data n file k p Absent rest fits e = fits.1 refl
    no_data n file k p Dir rest fits e = n (p, fits.0, cc)
    no_data n file k p (File x) rest fits e =
        let cons = cons_parts line (codes "f" ∷ path_text p ∷ decimal (length x) ∷ []) more (data_words ((length x + 63) / 64) x ++ rest) e in
        let other = file.4 in
        let here = cons.0 in
        let words : decimal file.1 ≡ decimal (length x) = cc in
        let sizes = decimal_injective file.1 (length x) file.3 fits.2.1 words in
        k (x, rest, fits.2.0, sym sizes, cons.1 ∙ ap (λ z. data_words ((z + 63) / 64) x ++ rest) (sym sizes))

    with_file : ¬ DirLine → (file : FileLine) → Dec (BeginWithData ((file.1 + 63) / 64) file.1 more) → Dec FirstRow
    with_file n file (no k) = no (λ h. no_data n file k h.0.path h.0.content h.1 h.2 h.3)
    with_file n (p, m, is, small, e) (yes (bytes, rest, are, long, f)) = yes (
      record { path = p; content = File bytes },
      rest,
      (is, (λ e. cc), (are, subst (λ z. z < 2 ^ 64) (sym long) small)),
      ap₂ ◌∷◌ (e ∙ ap (λ z. codes "f" ∷ path_text p ∷ decimal z ∷ []) (sym long)) (f ∙ ap (λ z. data_words ((z + 63) / 64) bytes ++ rest) (sym long)),
    )

    by_line : Dec DirLine → Dec FileLine → Dec FirstRow
    by_line (yes h) file = yes (record { path = h.0; content = Dir }, more, (h.1, (λ e. cc), tt), ap (λ z. z ∷ more) h.2)
    by_line (no n) (no m) = no (λ h. neither n m h.0.path h.0.content h.1 h.2 h.3)
    by_line (no n) (yes h) = with_file n h (decide_data ((h.1 + 63) / 64) h.1 (omega arith) more)

-- ---- trees and prints

-- whether lines are rows of a tree, and then others with a decided fact
pub decide_rows : (Q : Listing (List ℕ) → List Words → Type 0) → ((rows : Listing (List ℕ)) (rest : List Words) → Dec (Q rows rest)) → (lines : List Words)
    → Dec (AreItems (λ row. RowFits row.path row.content) tree_words Q lines)
unfolding tree_words tree_row_words
decide_rows Q d lines = decide_items (λ row. RowFits row.path row.content) (λ row. tree_row_words row.path row.content) tree_words
    (record { nothing = refl; one_more = λ row rows. refl; first = first_row; one = one; some = some }) (suc (length lines)) Q d lines (omega arith)
  where
    one : (x y : Row (List ℕ)) (u v : List Words) → RowFits x.path x.content → RowFits y.path y.content → tree_row_words x.path x.content ++ u ≡ tree_row_words y.path y.content ++ v → (x ≡ y) × (u ≡ v)
    one x y u v fits_x fits_y e =
        let parts = one_tree_row x.path y.path x.content y.content u v fits_x fits_y e in
        ((λ i. record { path = parts.0 i; content = parts.1 i }), parts.2)

    some : (x : Row (List ℕ)) → RowFits x.path x.content → 0 < length (tree_row_words x.path x.content)
    some x fits = go x.content fits.1
      where
        go : (c : Content (List ℕ)) → c ≢ Absent → 0 < length (tree_row_words x.path c)
        go Absent there = absurd (there refl)
        go Dir there = omega arith
        go (File bytes) there = omega arith

-- whether lines are rows of a print, and then others with a decided fact
pub decide_marks : (Q : Listing Stamp → List Words → Type 0) → ((rows : Listing Stamp) (rest : List Words) → Dec (Q rows rest)) → (lines : List Words)
    → Dec (AreItems (λ row. MarkFits row.path row.content) print_words Q lines)
unfolding print_words print_row_words
decide_marks Q d lines = decide_items (λ row. MarkFits row.path row.content) (λ row. print_row_words row.path row.content) print_words
    (record { nothing = refl; one_more = λ row rows. refl; first = first_mark; one = one; some = some }) (suc (length lines)) Q d lines (omega arith)
  where
    one : (x y : Row Stamp) (u v : List Words) → MarkFits x.path x.content → MarkFits y.path y.content → print_row_words x.path x.content ++ u ≡ print_row_words y.path y.content ++ v → (x ≡ y) × (u ≡ v)
    one x y u v fits_x fits_y e =
        let parts = one_print_row x.path y.path x.content y.content u v fits_x fits_y e in
        ((λ i. record { path = parts.0 i; content = parts.1 i }), parts.2)

    some : (x : Row Stamp) → MarkFits x.path x.content → 0 < length (print_row_words x.path x.content)
    some x fits = go x.content fits.1
      where
        go : (c : Content Stamp) → c ≢ Absent → 0 < length (print_row_words x.path c)
        go Absent there = absurd (there refl)
        go Dir there = omega arith
        go (File stamp) there = omega arith

-- ---- listings

-- whether rows ascend
decide_ascending : {F : Type 0} (rows : Listing F) → Dec (Ascend rows)
decide_ascending [] = yes tt
decide_ascending (row ∷ []) = yes tt
decide_ascending (row ∷ next ∷ rows) = Dec-both (decide_before row.path next.path) (decide_ascending (next ∷ rows))

-- whether there is a directory
decide_dir : {F : Type 0} (x : Content F) → Dec (x ≡ Dir)
decide_dir Absent = no (λ e. cc)
decide_dir Dir = yes refl
decide_dir (File x) = no (λ e. cc)

-- a listed path is there, where each row has something
listed_is_there : {F : Type 0} (rows : Listing F) → AllByRecursion (λ row. row.content ≢ Absent) rows → (q : Path) → Among q (paths_of rows) → listed rows q ≢ Absent
listed_is_there [] all q among = absurd among
listed_is_there {F} (row ∷ rows) all q among = go (same_names row.path q) among (λ more. listed_is_there rows all.1 q more)
  where
    go : Dec (row.path ≡ q) → (row.path ≡ q) ⊎ Among q (paths_of rows) → (Among q (paths_of rows) → listed rows q ≢ Absent) → listed (row ∷ rows) q ≢ Absent
    go (yes e) h more gone = all.0 (sym (listed_here row rows) ∙ ap (listed (row ∷ rows)) e ∙ gone)
    go (no n) (inl e) more gone = n e
    go (no n) (inr h) more gone = more h (sym (listed_there row rows q n) ∙ gone)

-- the parent of a path is a directory
abbrev HasDirParent : {F : Type 0} → Listing F → Path → Type 0
HasDirParent rows q = (parent : Path) (name : Name) → q ≡ parent ++ name ∷ [] → at rows parent ≡ Dir

-- whether it is
decide_parent : {F : Type 0} (rows : Listing F) (q : Path) → Dec (HasDirParent rows q)
decide_parent rows q = elim (last_name q) [
  | inl root ↦ yes (λ parent name e. absurd (snoc_not_empty parent name (sym e ∙ root)))
  | inr found ↦ map_dec
      (λ dir. λ parent name e. ap (at rows) (same_parent parent found.0 name found.1 (sym e ∙ found.2)) ∙ dir)
      (λ h. h found.0 found.1 found.2)
      (decide_dir (at rows found.0))
]

-- what is at a path with a last name is listed
at_listed : {F : Type 0} (rows : Listing F) (p : Path) (name : Name) → at rows (p ++ name ∷ []) ≡ listed rows (p ++ name ∷ [])
at_listed rows [] name = refl
at_listed rows (n ∷ p) name = refl

-- whether each row's parent is a directory, where each row has something
decide_parents : {F : Type 0} (rows : Listing F) → AllByRecursion (λ row. row.content ≢ Absent) rows
    → Dec ((p : Path) (name : Name) → at rows (p ++ name ∷ []) ≢ Absent → at rows p ≡ Dir)
decide_parents rows there = map_dec
    (λ all. λ p name some. all_among (HasDirParent rows) (paths_of rows) all (p ++ name ∷ []) (listed_among rows (p ++ name ∷ []) (λ gone. some (at_listed rows p name ∙ gone))) p name refl)
    (λ parents. all_from_among (HasDirParent rows) (paths_of rows) (λ q among. λ parent name e. parents parent name (λ gone.
    listed_is_there rows there q among (ap (listed rows) e ∙ sym (at_listed rows parent name) ∙ gone))))
    (decide_each (HasDirParent rows) (decide_parent rows) (paths_of rows))

-- whether rows are a listing
pub decide_listing : {F : Type 0} (rows : Listing F) → Dec (IsListing rows)
decide_listing {F} rows = elim (decide_ascending rows) [
  | no n ↦ no (λ h. n h.ascending)
  | yes ascending ↦ elim (decide_each Row-fits decide_row rows) [
    | no n ↦ no (λ h. n h.rows_are)
    | yes rows_are ↦ elim (decide_parents rows (weaker Row-fits (λ row. row.content ≢ Absent) (λ row h. h.2) rows rows_are)) [
      | no n ↦ no (λ h. n h.parents)
      | yes parents ↦ yes (record { ascending = ascending; rows_are = rows_are; parents = parents })
    ]
  ]
]
  where
    Row-fits : Row F → Type 0
    Row-fits row = IsPath row.path × (row.path ≢ []) × (row.content ≢ Absent)

    decide_row : (row : Row F) → Dec (Row-fits row)
    decide_row row = map_dec (λ h. (h.0, h.1.0, h.1.1)) (λ h. (h.0, (h.1, h.2)))
        (Dec-both (decide_is_path row.path) (Dec-both (Dec-not (same_names row.path [])) (Dec-not (decide_absent row.content))))

-- whether a file fits
decide_file_fits : (x : Content (List ℕ)) → Dec (FileFits x)
decide_file_fits Absent = yes tt
decide_file_fits Dir = yes tt
decide_file_fits (File bytes) = Dec-both (decide_each (λ b. b < 256) (λ b. decide_less b 256) bytes) (decide_less (length bytes) (2 ^ 64))

-- whether a stamp fits
pub decide_stamp_fits : (x : Content Stamp) → Dec (StampFits x)
decide_stamp_fits Absent = yes tt
decide_stamp_fits Dir = yes tt
decide_stamp_fits (File stamp) = map_dec (λ h. (h.0, h.1.0, h.1.1)) (λ h. (h.0, (h.1, h.2)))
    (Dec-both (decide_less stamp.size (2 ^ 64)) (Dec-both (decide_each (λ b. b < 256) (λ b. decide_less b 256) stamp.digest) (same_number (length stamp.digest) 32)))

-- whether rows are a tree's body
pub decide_tree_body : (rows : Listing (List ℕ)) → Dec (IsTreeBody rows)
decide_tree_body rows = map_dec
    (λ h. record { listing = h.0; files = h.1 })
    (λ (h : IsTreeBody rows). (h.listing, h.files))
    (Dec-both (decide_listing rows) (decide_each (λ row. FileFits row.content) (λ row. decide_file_fits row.content) rows))

-- whether they are a print's
pub decide_print_body : (rows : Listing Stamp) → Dec (IsPrintBody rows)
decide_print_body rows = map_dec
    (λ h. record { listing = h.0; stamps = h.1 })
    (λ (h : IsPrintBody rows). (h.listing, h.stamps))
    (Dec-both (decide_listing rows) (decide_each (λ row. StampFits row.content) (λ row. decide_stamp_fits row.content) rows))
