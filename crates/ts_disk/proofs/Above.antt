-- Where a place is cut at its last slash.
use Rattle.std.proofs.Common.{◌≡◌, ◌≢◌, refl, ℕ, List, [], ◌∷◌, ◌++◌, take, drop, sym, ap, subst, ◌∙◌, arith}
use Rattle.std.specs.Prelude.{Contains, ◌==◌}
use lib.Utf8.{encode}
use Rattle.std.specs.Str.{NoCharPasses}
use Rattle.std.specs.Str.Pattern.{RFindsChar, SplitsAroundMatch}
use Rattle.ts_disk.specs.Names.{IsCutLast, as_directory}
use Rattle.std.proofs.lemmas.List.{get_or_read, take-append-drop}
use Rattle.std.proofs.lemmas.Str.Pattern.{NoCharPasses-char}

-- bytes in which no slash was found have none
pub no_slash : (bytes : List ℕ) → NoCharPasses (λ d. d == 47) bytes → ¬ Contains bytes 47
no_slash bytes none there = NoCharPasses-char 47 bytes there.0 none (omega arith) there.1 (sym (get_or_read bytes there.0 47 there.1 (sym there.2) 0))

-- what stands around the last slash
pub around_slash : (place front name : List ℕ) → SplitsAroundMatch (RFindsChar 47) place front name → IsCutLast place front name
unfolding encode
around_slash place front name cut =
    let before : front ≡ take cut.0 place = cut.3 in
    let after : name ≡ drop cut.1 place = cut.4 in (
      no_slash name (subst (NoCharPasses (λ d. d == 47)) (sym after) cut.2.0),
      sym (take-append-drop cut.0 place) ∙ ap (λ l. l ++ drop cut.0 place) (sym before) ∙ ap (λ l. front ++ l) (cut.2.1.split ∙ ap (λ l. 47 ∷ l) (sym after)),
    )

-- something that comes before a slash is the directory itself
pub directory_is : (front : List ℕ) → front ≢ [] → front ≡ as_directory front
directory_is [] some = absurd (some refl)
directory_is (b ∷ bs) some = refl
