-- The bytes of a file, read in pieces.
use Rattle.std.proofs.Common.{◌≡◌, ℕ, zero, suc, ◌+◌, ◌<◌, ◌≤◌, ◌^◌, List, [], ◌∷◌, ◌++◌, length, take, drop, Some, None, IfSome, refl, sym, ap, ap₂, ◌∙◌, arith, length-append, length-drop}
use Rattle.std.proofs.lemmas.List.{length-take-le}
use Rattle.sha2.specs.Sha256.{sha256}
use Rattle.ts_name.specs.Paths.{Path}
use Rattle.ts_model.specs.Trees.{at, stamp_of}
use Rattle.ts_model.specs.declared.row.Content.{Content}
use Rattle.ts_model.specs.declared.row.Content.TheVariants.{File}
use Rattle.ts_model.specs.declared.row.Stamp.{Stamp}
use Rattle.ts_folder.specs.Folders.{Fills}
use Rattle.ts_scan.specs.Files.{HasStamp, HasRead}
use Rattle.ts_scan.specs.Scans.{Told}
use Rattle.ts_name.proofs.Basics.{take_part}

-- a front is told by its length
take_own : (n : ℕ) (xs : List ℕ) → take (length (take n xs)) xs ≡ take n xs
take_own zero xs = refl
take_own (suc n) [] = refl
take_own (suc n) (x ∷ xs) = ap (λ z. x ∷ z) (take_own n xs)

take_none : (n : ℕ) → take {A = ℕ} n [] ≡ []
take_none zero = refl
take_none (suc n) = refl

-- how long a front is
length_front : (n : ℕ) (xs : List ℕ) → length (take n xs) ≤ length xs
length_front zero xs = omega arith
length_front (suc n) [] = omega arith
length_front (suc n) (x ∷ xs) = let h = length_front n xs in omega arith

-- a short front is the whole
short_front : (n : ℕ) (xs : List ℕ) → length (take n xs) < n → length (take n xs) ≡ length xs
short_front zero xs h = absurd (omega arith)
short_front (suc n) [] h = refl
short_front (suc n) (x ∷ xs) h = let e = short_front n xs (omega arith) in omega arith

take_all : (xs : List ℕ) → take (length xs) xs ≡ xs
take_all [] = refl
take_all (x ∷ xs) = ap (λ z. x ∷ z) (take_all xs)

-- what is read next goes on from what was read
next_front : (bytes front piece : List ℕ) (most : ℕ) → length front ≤ length bytes → front ≡ take (length front) bytes → piece ≡ take most (drop (length front) bytes) → front ++ piece ≡ take (length (front ++ piece)) bytes
next_front bytes front piece most le is next =
    let own : piece ≡ take (length piece) (drop (length front) bytes) = next ∙ sym (take_own most (drop (length front) bytes)) ∙ ap (λ z. take (length z) (drop (length front) bytes)) (sym next) in
    ap₂ ◌++◌ is own ∙ take_part (length front) (length piece) bytes ∙ ap (λ k. take k bytes) (sym (length-append front piece))

next_length : (bytes front piece : List ℕ) (most : ℕ) → length front ≤ length bytes → piece ≡ take most (drop (length front) bytes) → length (front ++ piece) ≤ length bytes
next_length bytes front piece most le next =
    let short = length_front most (drop (length front) bytes) in
    let cut = length-drop (length front) bytes in
    let e = length-append front piece in
    let f = ap length next in omega arith

-- a short piece is the last
last_length : (bytes front piece : List ℕ) (most : ℕ) → length front ≤ length bytes → piece ≡ take most (drop (length front) bytes) → length piece < most → length (front ++ piece) ≡ length bytes
last_length bytes front piece most le next less =
    let f = ap length next in
    let under : length (take most (drop (length front) bytes)) < most = omega arith in
    let all = short_front most (drop (length front) bytes) under in
    let cut = length-drop (length front) bytes in
    let e = length-append front piece in omega arith

same_file : (a b : List ℕ) (x : Content (List ℕ)) → x ≡ File a → x ≡ File b → a ≡ b
same_file a b x e f = let g : ◌≡◌ {A = Content (List ℕ)} (File a) (File b) = sym e ∙ f in cc

-- one more piece was read
pub read_more : (told : Told) (p : Path) (offset n : ℕ) (front buffer : List ℕ) → HasRead told p offset front → n ≤ length buffer → IfSome told (λ tree. Fills (at tree p) offset buffer n) → HasRead told p (offset + n) (front ++ take n buffer)
read_more None p offset n front buffer read short fills = record {
  count = (let e = length-append front (take n buffer) in let f = length-take-le n buffer short in let g = read.count in omega arith);
  told_bytes = tt;
}
read_more (Some tree) p offset n front buffer read short fills = record {
  count = (let e = length-append front (take n buffer) in let f = length-take-le n buffer short in let g = read.count in omega arith);
  told_bytes = (
    bytes,
    read.told_bytes.1,
    read.told_bytes.2,
    next_length bytes front (take n buffer) (length buffer) read.told_bytes.3 piece,
    next_front bytes front (take n buffer) (length buffer) read.told_bytes.3 read.told_bytes.4 piece,
  );
}
  where
    bytes : List ℕ
    bytes = read.told_bytes.0

    piece : take n buffer ≡ take (length buffer) (drop (length front) bytes)
    piece = fills.answered ∙ ap (λ z. take (length buffer) (drop offset z)) (same_file fills.bytes bytes (at tree p) fills.file read.told_bytes.1) ∙ ap (λ k. take (length buffer) (drop k bytes)) (sym read.count)

-- a file that is told has no more bytes than can be counted
pub read_past :
    (told : Told) (p : Path) (offset n : ℕ) (front buffer : List ℕ)
    → HasRead told p offset front → n ≤ length buffer → IfSome told (λ tree. Fills (at tree p) offset buffer n) → 2 ^ 64 ≤ offset + n → told ≡ None
read_past None p offset n front buffer read short fills past = refl
read_past (Some tree) p offset n front buffer read short fills past =
    let more = read_more (Some tree) p offset n front buffer read short fills in
    let count = more.count in
    let few = more.told_bytes.2 in
    let part = more.told_bytes.3 in absurd (omega arith)

-- before the first piece
pub read_none : (told : Told) (p : Path) → IfSome told (λ tree. (bytes : List ℕ) × (at tree p ≡ File bytes) × (length bytes < 2 ^ 64)) → HasRead told p 0 []
read_none None p file = record { count = refl; told_bytes = tt }
read_none (Some tree) p file = record { count = refl; told_bytes = (file.0, file.1, file.2, omega arith, refl) }

-- after a short piece all is read
pub read_all : (told : Told) (p : Path) (offset n : ℕ) (front buffer : List ℕ) (stamp : Stamp) → HasRead told p offset front → n ≤ length buffer → n < length buffer → IfSome told (λ tree. Fills (at tree p) offset buffer n) → stamp.size ≡ offset + n → stamp.digest ≡ sha256 (front ++ take n buffer) → IfSome told (λ tree. HasStamp (at tree p) stamp)
read_all None p offset n front buffer stamp read short less fills size digest = tt
read_all (Some tree) p offset n front buffer stamp read short less fills size digest = (bytes, read.told_bytes.1, same)
  where
    bytes : List ℕ
    bytes = read.told_bytes.0

    piece : take n buffer ≡ take (length buffer) (drop (length front) bytes)
    piece = fills.answered ∙ ap (λ z. take (length buffer) (drop offset z)) (same_file fills.bytes bytes (at tree p) fills.file read.told_bytes.1) ∙ ap (λ k. take (length buffer) (drop k bytes)) (sym read.count)

    under : length (take n buffer) < length buffer
    under = let f = length-take-le n buffer short in omega arith

    long : length (front ++ take n buffer) ≡ length bytes
    long = last_length bytes front (take n buffer) (length buffer) read.told_bytes.3 piece under

    all : front ++ take n buffer ≡ bytes
    all = next_front bytes front (take n buffer) (length buffer) read.told_bytes.3 read.told_bytes.4 piece ∙ ap (λ k. take k bytes) long ∙ take_all bytes

    counted : stamp.size ≡ length bytes
    counted = let more = read_more (Some tree) p offset n front buffer read short fills in size ∙ sym more.count ∙ long

    same : stamp ≡ stamp_of bytes
    same = λ i. record { size = counted i; digest = (digest ∙ ap sha256 all) i }
