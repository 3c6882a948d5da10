use Rattle.std.proofs.Common.{◌≡◌, List, [], ◌∷◌, ◌++◌, sym, ap, ◌∙◌, subst, map, take}
use Rattle.ts_model.specs.Trees.{Listing, IsListing, at}
use Rattle.ts_table.specs.Splices.{ArePlaces, ComeFirst, spliced, put_of}
use Rattle.ts_table.proofs.Splicing.{IsSpliced, ComesFirst, all_spliced}
use Rattle.ts_table.specs.declared.splice.Edit.{Edit}
use Rattle.ts_table.proofs.table.Table.splice.Given.{Over}
use Rattle.ts_table.proofs.table.Table.splice.Goals as goal
use Rattle.ts_table.proofs.table.Table.splice.Goals.{After-drop-self-inside}

-- what comes before the first put comes before the first edit
first_edit : {F : Type 0} (edits : List (Edit F)) (front : Listing F) → ComeFirst (map put_of edits) front → ComesFirst front edits
first_edit [] front h = tt
first_edit (edit ∷ edits) front h = h

outcome : (g : Over) (c : After-drop-self-inside g) → IsSpliced (at c.self.inside.rows.items) c.args.edits.items c.merged.result.items
outcome g c =
    let front = c.replace-out.result.items in
    let rest = c.in_ok-rest.rest.items in
    let edits = c.args.edits.items in
    let front_is : front ≡ c.cut_off.new.rows.items = ap (λ v. v.items) c.replace-out.ensures.value in
    let whole : front ++ rest ≡ c.self.inside.rows.items = ap (λ z. z ++ rest) front_is ∙ c.in_ok-rest.ensures.rest ∙ c.reserve.ensures.items in
    let puts_are : c.in_ok-puts.puts.items ≡ map put_of edits = c.in_ok-puts.ensures.puts in
    let front_taken : front ≡ take c.rows_before-start.result c.deref.result.now = front_is ∙ c.in_ok-rest.ensures.front ∙ ap (take c.rows_before-start.result) (sym c.deref.ensures.value) in
    let early : ComeFirst (map put_of edits) front = subst (λ z. ComeFirst z front) (c.as_slice.ensures.value ∙ puts_are) (subst (λ z. ComeFirst c.as_slice.result.now z) (sym front_taken) c.rows_before-start.ensures.before) in
    let is : c.merged.result.items ≡ front ++ spliced rest (map put_of edits) = c.merged.ensures ∙ ap (λ z. front ++ spliced rest z) puts_are in
    let made = all_spliced front rest edits (subst (λ z. IsListing z) (sym whole) c.self.invariant) (first_edit edits front early) (subst (λ z. ArePlaces (at z) edits) (sym whole) (rw (← c.self.view_is) at c.requires.places)) c.requires.order c.in_ok-puts.ensures.listings c.in_ok-puts.ensures.paths in
    subst (λ z. IsSpliced (at c.self.inside.rows.items) edits z) (sym is) (subst (λ z. IsSpliced (at z) edits (front ++ spliced rest (map put_of edits))) whole made)

pub invariant_of-self-2 : goal.invariant_of-self-2
invariant_of-self-2 g c = let h = outcome g c in h.listing

pub returns-clause-ok : goal.returns-clause-ok
returns-clause-ok g c = let h = outcome g c in rw (← c.self.view_is) h.tree
