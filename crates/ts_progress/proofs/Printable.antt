-- That a progress line has printable characters alone.
use Rattle.std.proofs.Common.{◌≡◌, ℕ, zero, suc, ◌-◌, ◌*◌, ◌/◌, ◌%◌, ◌^◌, ◌<◌, Bool, true, false, ◌&&◌, nat_le, nat_lt, if◌then◌else◌, List, [], ◌∷◌, ◌++◌, codes, decimal, take, refl, sym, ap, ◌∙◌, append_assoc, arith}
use Rattle.std.specs.List.{AllByRecursion}
use Rattle.std.specs.Str.Parse.{AllDigits}
use Rattle.std.proofs.Math.Nat.{div-le_self, min-le_right}
use Rattle.std.proofs.lemmas.Bool.{and_parts, leb-true}
use Rattle.std.proofs.lemmas.Fmt.{decimal_is_IsNumeral}
use Rattle.std.proofs.lemmas.Str.Parse.{tells_digits}
use Rattle.ts_name.proofs.Utf8.{all_append}
use Rattle.ts_progress.specs.Lines.{IsPrintable, actions_text, all_actions_text, all_paths_text, bytes_text, files_text, flush_text, left_text, line_text, product, rate_text, run_text, scan_text, text_in}
use Rattle.ts_progress.specs.Numbers.{duration_text, grouped, millions, size_text, tenths_text, thousands, three}
use Rattle.ts_progress.specs.declared.line.Amount.{Amount}
use Rattle.ts_progress.specs.declared.line.Phase.TheVariants as phase
use Rattle.ts_progress.specs.declared.line.Standing.{Standing}

abbrev pub Fine : List ℕ → Type 0
Fine text = AllByRecursion IsPrintable text

-- a test that computes
abbrev is_fine : List ℕ → Bool
is_fine [] = true
is_fine (b ∷ x) = nat_le 32 b && (nat_le b 126 && is_fine x)

fine_from_test : (x : List ℕ) → is_fine x ≡ true → Fine x
fine_from_test [] e = tt
fine_from_test (b ∷ x) e =
    let first = and_parts (nat_le 32 b) (nat_le b 126 && is_fine x) e in
    let second = and_parts (nat_le b 126) (is_fine x) first.1 in
    ((leb-true 32 b first.0, leb-true b 126 second.0), fine_from_test x second.1)

-- in a row, either one, and the beginning
row : (x y : List ℕ) → Fine x → Fine y → Fine (x ++ y)
row x y fine_x fine_y = all_append IsPrintable x y fine_x fine_y

either : (b : Bool) (x y : List ℕ) → Fine x → Fine y → Fine (if b then x else y)
either true x y fine_x fine_y = fine_x
either false x y fine_x fine_y = fine_y

pub beginning : (n : ℕ) (x : List ℕ) → Fine x → Fine (take n x)
beginning zero x fine = tt
beginning (suc n) [] fine = tt
beginning (suc n) (b ∷ x) fine = (fine.0, beginning n x fine.1)

-- ---- numbers

number : (n : ℕ) → n < 2 ^ 64 → Fine (decimal n)
number n small = go (decimal n) (decimal_is_IsNumeral n small).0.1
  where
    go : (ds : List ℕ) → AllDigits 10 ds → Fine ds
    go [] all = tt
    go (d ∷ ds) all = let parts = tells_digits.parts d ds all in ((omega (arith, parts.0.0), omega (arith, parts.0.1)), go ds parts.1)

group : (n : ℕ) → n < 1000 → Fine (three n)
group n small = ((omega arith, omega arith), ((omega arith, omega arith), ((omega arith, omega arith), ((omega arith, omega arith), tt))))

fine_thousands : (n : ℕ) → n < 2 ^ 64 → Fine (thousands n)
fine_thousands n small =
    either (nat_lt n 1000) (decimal n) (decimal (n / 1000) ++ three (n % 1000)) (number n small)
    (row (decimal (n / 1000)) (three (n % 1000)) (number (n / 1000) (omega arith)) (group (n % 1000) (omega arith)))

-- a number and two groups
two_groups : (n k m : ℕ) → n < 2 ^ 64 → k < 1000 → m < 1000 → Fine (decimal n ++ three k ++ three m)
two_groups n k m small first second =
    row (decimal n ++ three k) (three m) (row (decimal n) (three k) (number n small) (group k first)) (group m second)

fine_millions : (n : ℕ) → n < 2 ^ 64 → Fine (millions n)
fine_millions n small =
    either (nat_lt n 1000000) (thousands n) (decimal (n / 1000000) ++ three (n / 1000 % 1000) ++ three (n % 1000)) (fine_thousands n small)
    (two_groups (n / 1000000) (n / 1000 % 1000) (n % 1000) (omega arith) (omega arith) (omega arith))

fine_grouped : (n : ℕ) → n < 2 ^ 64 → Fine (grouped n)
fine_grouped n small =
    let front = decimal (n / 1000000000) ++ three (n / 1000000 % 1000) ++ three (n / 1000 % 1000) in
    either (nat_lt n 1000000000) (millions n) (front ++ three (n % 1000)) (fine_millions n small)
    (row front (three (n % 1000)) (two_groups (n / 1000000000) (n / 1000000 % 1000) (n / 1000 % 1000) (omega arith) (omega arith) (omega arith))
    (group (n % 1000) (omega arith)))

fine_tenths : (n : ℕ) → n < 2 ^ 64 → Fine (tenths_text n)
fine_tenths n small =
    either (nat_lt n 100) (decimal (n / 10) ++ 46 ∷ decimal (n % 10)) (decimal (n / 10))
    (row (decimal (n / 10)) (46 ∷ decimal (n % 10)) (number (n / 10) (omega arith)) ((omega arith, omega arith), number (n % 10) (omega arith)))
    (number (n / 10) (omega arith))

-- a text, and a word behind it
with_word : (text word : List ℕ) → Fine text → is_fine word ≡ true → Fine (text ++ word)
with_word text word fine word_fine = row text word fine (fine_from_test word word_fine)

-- a word, and a text behind it
behind : (word text : List ℕ) → is_fine word ≡ true → Fine text → Fine (word ++ text)
behind word text word_fine fine = row word text (fine_from_test word word_fine) fine

pub fine_size : (n : ℕ) → n < 2 ^ 64 → Fine (size_text n)
fine_size n small =
    let kilo = tenths_text (n / 100) ++ codes " kB" in
    let mega = tenths_text (n / 100000) ++ codes " MB" in
    let giga = tenths_text (n / 100000000) ++ codes " GB" in
    let tera = tenths_text (n / 100000000000) ++ codes " TB" in
    either (nat_lt n 1000) (decimal n ++ codes " B")
    (if nat_lt n 1000000 then kilo else if nat_lt n 1000000000 then mega else if nat_lt n 1000000000000 then giga else tera)
    (with_word (decimal n) (codes " B") (number n small) refl)
    (either (nat_lt n 1000000) kilo (if nat_lt n 1000000000 then mega else if nat_lt n 1000000000000 then giga else tera)
    (with_word (tenths_text (n / 100)) (codes " kB") (fine_tenths (n / 100) (omega arith)) refl)
    (either (nat_lt n 1000000000) mega (if nat_lt n 1000000000000 then giga else tera)
    (with_word (tenths_text (n / 100000)) (codes " MB") (fine_tenths (n / 100000) (omega arith)) refl)
    (either (nat_lt n 1000000000000) giga tera
    (with_word (tenths_text (n / 100000000)) (codes " GB") (fine_tenths (n / 100000000) (omega arith)) refl)
    (with_word (tenths_text (n / 100000000000)) (codes " TB") (fine_tenths (n / 100000000000) (omega arith)) refl))))

fine_duration : (s : ℕ) → s < 2 ^ 64 → Fine (duration_text s)
fine_duration s small =
    let minutes = decimal (s / 60) ++ codes " min" in
    let hours = decimal (s / 3600) ++ codes " h" in
    either (nat_lt s 60) (decimal s ++ codes " s") (if nat_lt s 3600 then minutes else hours)
    (with_word (decimal s) (codes " s") (number s small) refl)
    (either (nat_lt s 3600) minutes hours
    (with_word (decimal (s / 60)) (codes " min") (number (s / 60) (omega arith)) refl)
    (with_word (decimal (s / 3600)) (codes " h") (number (s / 3600) (omega arith)) refl))

-- ---- the line

small_product : (n m : ℕ) → product n m < 2 ^ 64
small_product n m = let most = min-le_right (n * m) (2 ^ 64 - 1) in omega (arith, most)

-- a quotient is no larger than what is divided
small_quotient : (n d : ℕ) → n < 2 ^ 64 → n / d < 2 ^ 64
small_quotient n d small = let most = div-le_self n d in omega (arith, most, small)

fine_rate : (bytes ms : ℕ) → Fine (rate_text bytes ms)
fine_rate bytes ms =
    let rate = product bytes 1000 / ms in
    either (nat_lt 0 ms) (codes ", " ++ size_text rate ++ codes "/s") []
    (with_word (codes ", " ++ size_text rate) (codes "/s")
    (behind (codes ", ") (size_text rate) refl (fine_size rate (small_quotient (product bytes 1000) ms (small_product bytes 1000)))) refl) tt

fine_left : (done all ms : ℕ) → Fine (left_text done all ms)
fine_left done all ms =
    let seconds = product (all - done) ms / done / 1000 in
    let small = small_quotient (product (all - done) ms / done) 1000 (small_quotient (product (all - done) ms) done (small_product (all - done) ms)) in
    let left = codes ", " ++ duration_text seconds ++ codes " left" in
    either (nat_lt 0 done) (if nat_lt done all then left else []) []
    (either (nat_lt done all) left []
    (with_word (codes ", " ++ duration_text seconds) (codes " left")
    (behind (codes ", ") (duration_text seconds) refl (fine_duration seconds small)) refl) tt) tt

fine_files : (n : ℕ) → n < 2 ^ 64 → Fine (files_text n)
fine_files n small =
    let rest = if nat_lt 0 n then codes " file" else codes " files" in
    row (grouped n) (if nat_lt 1 n then codes " files" else rest) (fine_grouped n small)
    (either (nat_lt 1 n) (codes " files") rest (fine_from_test (codes " files") refl)
    (either (nat_lt 0 n) (codes " file") (codes " files") (fine_from_test (codes " file") refl) (fine_from_test (codes " files") refl)))

fine_scan : (done : Amount) (ms : ℕ) → done.steps < 2 ^ 64 → done.bytes < 2 ^ 64 → Fine (scan_text done ms)
fine_scan done ms steps bytes =
    let counted = behind (codes "scanning: ") (files_text done.steps) refl (fine_files done.steps steps) in
    let parted = with_word (codes "scanning: " ++ files_text done.steps) (codes ", ") counted refl in
    let sized = row (codes "scanning: " ++ files_text done.steps ++ codes ", ") (size_text done.bytes) parted (fine_size done.bytes bytes) in
    row (codes "scanning: " ++ files_text done.steps ++ codes ", " ++ size_text done.bytes) (rate_text done.bytes ms) sized (fine_rate done.bytes ms)

fine_actions : (done all : ℕ) → done < 2 ^ 64 → all < 2 ^ 64 → Fine (actions_text done all)
fine_actions done all small large =
    let first = behind (codes "carrying out: ") (grouped done) refl (fine_grouped done small) in
    let second = behind (codes " of ") (grouped all) refl (fine_grouped all large) in
    row (codes "carrying out: " ++ grouped done) (all_actions_text all) first (with_word (codes " of " ++ grouped all) (codes " actions, ") second refl)

fine_flushed : (done all : ℕ) → done < 2 ^ 64 → all < 2 ^ 64 → Fine (flush_text done all)
fine_flushed done all small large =
    let first = behind (codes "flushing: ") (grouped done) refl (fine_grouped done small) in
    let second = behind (codes " of ") (grouped all) refl (fine_grouped all large) in
    row (codes "flushing: " ++ grouped done) (all_paths_text all) first (with_word (codes " of " ++ grouped all) (codes " paths") second refl)

fine_bytes : (done all : ℕ) → done < 2 ^ 64 → all < 2 ^ 64 → Fine (bytes_text done all)
fine_bytes done all small large =
    row (size_text done ++ codes " of ") (size_text all) (with_word (size_text done) (codes " of ") (fine_size done small) refl) (fine_size all large)

fine_run : (done all : Amount) (ms : ℕ) → done.steps < 2 ^ 64 → done.bytes < 2 ^ 64 → all.steps < 2 ^ 64 → all.bytes < 2 ^ 64 → Fine (run_text done all ms)
fine_run done all ms steps bytes all_steps all_bytes =
    let actions = actions_text done.steps all.steps in
    let sizes = bytes_text done.bytes all.bytes in
    let first = row actions sizes (fine_actions done.steps all.steps steps all_steps) (fine_bytes done.bytes all.bytes bytes all_bytes) in
    let second = row (actions ++ sizes) (rate_text done.bytes ms) first (fine_rate done.bytes ms) in
    row (actions ++ sizes ++ rate_text done.bytes ms) (left_text done.bytes all.bytes ms) second (fine_left done.bytes all.bytes ms)

pub fine_line :
    (s : Standing) → s.done.steps < 2 ^ 64 → s.done.bytes < 2 ^ 64 → s.expected.steps < 2 ^ 64 → s.expected.bytes < 2 ^ 64 → Fine (line_text s)
fine_line s steps bytes all_steps all_bytes = elim s.phase as (λ p. Fine (text_in p s)) [
  | phase.Scanning ↦ fine_scan s.done s.elapsed steps bytes
  | phase.Checking ↦ fine_from_test (codes "checking the plan") refl
  | phase.Flushing ↦ fine_flushed s.done.steps s.expected.steps steps all_steps
  | phase.CarryingOut ↦ fine_run s.done s.expected s.elapsed steps bytes all_steps all_bytes
]

-- ---- pushing

-- three texts behind another one, one after the other
pub in_three : (start x y z one two all : List ℕ) → one ≡ start ++ x → two ≡ one ++ y → all ≡ two ++ z → all ≡ start ++ (x ++ y ++ z)
in_three start x y z one two all first second third =
    third ∙ ap (λ t. t ++ z) (second ∙ ap (λ t. t ++ y) first) ∙ append_assoc (start ++ x) y z ∙ append_assoc start x (y ++ z)
    ∙ ap (λ t. start ++ t) (sym (append_assoc x y z))
