-- What a line that names a path says.
use Rattle.std.proofs.Common.{◌≡◌, ◌≢◌, false, ℕ, zero, suc, ◌^◌, ◌<◌, slice_index, length, Result, Ok, Err, List, [], ◌∷◌, ◌++◌, decimal, refl, sym, ap, ◌∙◌, arith}
use Rattle.std.specs.Result.{MatchResult, is_err}
use Rattle.std.proofs.lemmas.Bool.{true≢false}
use Rattle.hex.specs.declared.error.FromHexError.{FromHexError}
use Rattle.hex.specs.Hex.{encode_lower, decode_sized}
use Rattle.hex.proofs.HexLemmas.{decode_of-ok, decode_sized-encode_lower, decode_sized-ok, decode_sized-twice}
use Rattle.ts_name.specs.Paths.{Path, IsPath, path_text}
use Rattle.ts_name.specs.Buffers.{HasNo}
use Rattle.ts_name.proofs.Spelling.{clean_path, cut_at, no_space}
use Rattle.ts_model.specs.Texts.{IsBytes}
use Rattle.ts_tree.specs.Fields.{IsNamed, IsNoHead, SpellsNoPath, head_line}
use Rattle.ts_tree.specs.declared.field.Head.{Head}
use Rattle.ts_tree.specs.declared.field.Head.TheVariants as head

-- a path's text has no space
pub path_text_word : (p : Path) → IsPath p → HasNo 32 (path_text p)
path_text_word p is = no_space (path_text p) (clean_path p is)

-- a file's first line is no other line
pub no_file_line : (fields : List ℕ) → ((path : List ℕ) (n : ℕ) → HasNo 32 path → n < 2 ^ 64 → fields ≢ path ++ 32 ∷ decimal n)
    → IsNoHead (102 ∷ 32 ∷ fields)
no_file_line fields none p head.Dir named fits e =
    let k : 102 ∷ 32 ∷ fields ≡ 100 ∷ 32 ∷ path_text p = e in
    let first : ◌≡◌ {A = ℕ} 102 100 = cc in omega arith
no_file_line fields none p (head.File n) named fits e =
    let k : 102 ∷ 32 ∷ fields ≡ 102 ∷ 32 ∷ (path_text p ++ 32 ∷ decimal n) = e in
    let rest : fields ≡ path_text p ++ 32 ∷ decimal n = cc in
    none (path_text p) n (path_text_word p named.0) fits rest

-- nor is one whose path isn't spelled
pub no_file_path : (path : List ℕ) (m : ℕ) → HasNo 32 path → SpellsNoPath path → IsNoHead (102 ∷ 32 ∷ (path ++ 32 ∷ decimal m))
no_file_path path m word none p h named fits e = go p h named e
  where
    go : (p : Path) (h : Head) → IsNamed p → 102 ∷ 32 ∷ (path ++ 32 ∷ decimal m) ≢ head_line p h
    go p head.Dir named e =
        let k : 102 ∷ 32 ∷ (path ++ 32 ∷ decimal m) ≡ 100 ∷ 32 ∷ path_text p = e in
        let first : ◌≡◌ {A = ℕ} 102 100 = cc in omega arith
    go p (head.File n) named e =
        let k : 102 ∷ 32 ∷ (path ++ 32 ∷ decimal m) ≡ 102 ∷ 32 ∷ (path_text p ++ 32 ∷ decimal n) = e in
        let rest : path ++ 32 ∷ decimal m ≡ path_text p ++ 32 ∷ decimal n = cc in
        none p named (cut_at 32 path (path_text p) (decimal m) (decimal n) word (path_text_word p named.0) rest).0

-- ---- bytes in hex

-- each byte is one
pub bytes_from_each : (x : List ℕ) → ((i : ℕ) → slice_index x i < 256) → IsBytes x
bytes_from_each [] each = tt
bytes_from_each (b ∷ x) each = (each 0, bytes_from_each x (λ i. each (suc i)))

-- and the other way round
each_byte : (x : List ℕ) → IsBytes x → (i : ℕ) → slice_index x i < 256
each_byte [] is i = omega arith
each_byte (b ∷ x) is zero = is.0
each_byte (b ∷ x) is (suc i) = each_byte x is.1 i

-- digits that bytes are spelled by decode to them
pub hex_decoded : (digits bytes : List ℕ) (n : ℕ) → IsBytes bytes → length bytes ≡ n → digits ≡ encode_lower bytes → decode_sized digits n ≡ Ok bytes
hex_decoded digits bytes n is size same = ap (λ z. decode_sized z n) same ∙ decode_sized-encode_lower bytes n size (each_byte bytes is)

-- what digits decode to is bytes
pub decoded_bytes : (digits out : List ℕ) (n : ℕ) (r : Result Unit FromHexError)
    → MatchResult (decode_sized digits n) (λ bytes. (r ≡ Ok tt) × (out ≡ bytes)) (λ e. r ≡ Err e) → is_err r ≡ false → IsBytes out
decoded_bytes digits out n r h ok = go (decode_sized digits n) refl h
  where
    go : (d : Result (List ℕ) FromHexError) → decode_sized digits n ≡ d → MatchResult d (λ bytes. (r ≡ Ok tt) × (out ≡ bytes)) (λ e. r ≡ Err e) → IsBytes out
    go (Ok bytes) e m =
        let whole = decode_sized-ok digits n bytes e in
        let lawful = decode_of-ok digits bytes (sym (decode_sized-twice digits n whole) ∙ e) in
        bytes_from_each out (λ i. omega (arith, ap (λ z. slice_index z i) m.1, lawful.3 i))
    go (Err f) e m = absurd (true≢false (sym (ap is_err m) ∙ ok))
