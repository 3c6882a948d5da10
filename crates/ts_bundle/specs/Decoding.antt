-- What is answered for the bytes of a bundle.
--     DecodesBundle, FindsNoBundle    by a decoder, for what its line reader has left
use Rattle.std.specs.Prelude.{ℕ, List, Option, IfSome}
use Rattle.ts_text.specs.Lines.{Reading}
use Rattle.ts_model.specs.Texts.{IsBundle, IsBundleText}
use Rattle.ts_model.specs.Trial.{IsNoBundle}
use Rattle.ts_tree.specs.Decoding.{SourceFailed}
use Rattle.ts_bundle.specs.Bundles.{values}
use Rattle.ts_bundle.specs.declared.bundle.Bundle.{Bundle as Held}
use Rattle.ts_bundle.specs.declared.fault.BundleFault.{BundleFault}
use Rattle.ts_bundle.specs.declared.fault.BundleFault.TheVariants.{OutOfMemory, Failed, Malformed}

-- the bytes, where they are known, are the bundle's text
pub record IsSpelled (known : Option (List ℕ)) (b : Held) : Type 0 where
  pub bundle : IsBundle (values b)
  pub spelled : IfSome known (λ bytes. IsBundleText bytes (values b))

abbrev pub DecodesBundle : Reading → Held → Type 0
DecodesBundle old b = IsSpelled old.left b

-- why no bundle is answered
abbrev pub FindsNoBundle : Reading → Reading → BundleFault → Type 0
FindsNoBundle old new OutOfMemory = Unit {0}
FindsNoBundle old new Failed = SourceFailed old new
FindsNoBundle old new Malformed = IfSome old.left IsNoBundle
