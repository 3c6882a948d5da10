-- What is decided in a lawful snapshot: changes, held paths, dirt and reasons.
use Rattle.std.proofs.Common.{◌≡◌, ◌≢◌, ◌⊎◌, List, [], ◌∷◌, ◌++◌, Contains, refl, sym, ap, ◌∙◌, subst, inl, inr}
use Rattle.std.proofs.lemmas.List.Elements.{Contains-append_left, Contains-append_right}
use Rattle.std.proofs.Math.Decide.{map_dec}
use Rattle.ts_name.specs.Paths.{Name, Path, IsAbove}
use Rattle.ts_model.specs.Trees.{Tree, Print, sub, stamped, IsTree}
use Rattle.ts_model.specs.Holds.{Fits, RuleNames, Names}
use Rattle.ts_model.specs.declared.hold.Symbol.{Symbol}
use Rattle.ts_model.specs.declared.hold.Symbol.TheVariants.{Star, Byte}
use Rattle.ts_model.specs.declared.hold.Rule.{Rule}
use Rattle.ts_model.specs.declared.hold.Rule.TheVariants.{OnePath, LastName}
use Rattle.ts_model.specs.Sync.{Snapshot, IsSnapshot, replica, IsHeldIn, IsChanged, TouchesHeld, IsDirty, Agree, Because, HasReason}
use Rattle.ts_model.specs.declared.row.Content.{Content}
use Rattle.ts_model.specs.declared.row.Content.TheVariants.{Absent, Dir}
use Rattle.ts_model.specs.declared.row.Stamp.{Stamp}
use Rattle.ts_model.specs.declared.plan.Side.{Side}
use Rattle.ts_model.specs.declared.plan.Side.TheVariants as side
use Rattle.ts_model.specs.declared.plan.Reason.{Reason}
use Rattle.ts_model.specs.declared.plan.Reason.TheVariants as reason
use Rattle.ts_laws.proofs.Basics.{stable, Dec-both, Dec-either, Dec-not}
use Rattle.ts_name.proofs.Prefixes.{last_name, snoc_not_empty, same_last, decide_above}
use Rattle.ts_name.proofs.Basics.{by_each, at_each}
use Rattle.ts_laws.proofs.Lists.{decide_within, decide_Any}
use Rattle.ts_laws.proofs.Reasons.{decide_dirs, decide_below}
use Rattle.ts_laws.proofs.Copies.{same_from_stamped}
use Rattle.ts_laws.specs.Laws.{ArePrinted, DirtIsDifference}
use Rattle.ts_model.proofs.Deciding.{same_number, same_names, same_stamp_at}

-- ---- two prints

-- whether two prints that are trees differ at p or below it
pub decide_differ : (t u : Print) → IsTree t → IsTree u → (p : Path) → Dec ((rest : Path) × (sub t p rest ≢ sub u p rest))
decide_differ t u tree_t tree_u p = map_dec
    (λ h. (h.1.0.0, λ e. h.1.1 (ap t h.1.0.1 ∙ e ∙ sym (ap u h.1.0.1))))
    (λ h. (p ++ h.0, ((h.0, refl), h.1)))
    (decide_within (λ q. IsAbove p q × (t q ≢ u q)) (λ q. Dec-both (decide_above p q) (Dec-not (same_stamp_at (t q) (u q)))) (tree_t.present ++ tree_u.present) (λ q h. within q h.1))
  where
    within : (q : Path) → t q ≢ u q → Contains (tree_t.present ++ tree_u.present) q
    within q differ = elim (same_stamp_at (t q) Absent) [
      | no there ↦ Contains-append_left tree_t.present tree_u.present q (tree_t.finite q there)
      | yes e ↦ Contains-append_right tree_t.present tree_u.present q (tree_u.finite q (λ f. differ (e ∙ sym f)))
    ]

-- ---- hold rules

-- whether a name can be cut so that a decided fact holds of the rest
decide_cut : (P : Name → Type 0) → ((rest : Name) → Dec (P rest)) → (xs : Name) → Dec ((front : Name) × (rest : Name) × (xs ≡ front ++ rest) × P rest)
decide_cut P d [] = go (d [])
  where
    nothing : (front rest : Name) → [] ≡ front ++ rest → rest ≡ []
    nothing [] rest e = sym e
    nothing (x ∷ front) rest e = cc

    go : Dec (P []) → Dec ((front : Name) × (rest : Name) × ([] ≡ front ++ rest) × P rest)
    go (yes h) = yes ([], [], refl, h)
    go (no n) = no (λ h. n (subst P (nothing h.0 h.1 h.2) h.3))
decide_cut P d (x ∷ xs) = go (d (x ∷ xs)) (decide_cut P d xs)
  where
    later : ¬ P (x ∷ xs) → (front rest : Name) → x ∷ xs ≡ front ++ rest → P rest → (front : Name) × (rest : Name) × (xs ≡ front ++ rest) × P rest
    later n [] rest e h = absurd (n (subst P (sym e) h))
    later n (y ∷ front) rest e h = (front, rest, let t : xs ≡ front ++ rest = cc in t, h)

    go : Dec (P (x ∷ xs)) → Dec ((front : Name) × (rest : Name) × (xs ≡ front ++ rest) × P rest) → Dec ((front : Name) × (rest : Name) × (x ∷ xs ≡ front ++ rest) × P rest)
    go (yes h) more = yes ([], x ∷ xs, refl, h)
    go (no n) (yes h) = yes (x ∷ h.0, h.1, ap (λ z. x ∷ z) h.2, h.3)
    go (no n) (no none) = no (λ h. none (later n h.0 h.1 h.2 h.3))

-- whether a name fits a pattern
pub decide_fits : (pattern : List Symbol) (name : Name) → Dec (Fits pattern name)
decide_fits [] [] = yes tt
decide_fits [] (x ∷ xs) = no (λ h. h)
decide_fits (Byte b ∷ symbols) [] = no (λ h. h)
decide_fits (Byte b ∷ symbols) (x ∷ xs) = Dec-both (same_number b x) (decide_fits symbols xs)
decide_fits (Star ∷ symbols) xs = decide_cut (Fits symbols) (decide_fits symbols) xs

-- whether a rule names a path
decide_rule : (p : Path) (rule : Rule) → Dec (RuleNames p rule)
decide_rule p (OnePath path) = same_names p path
decide_rule p (LastName pattern) = elim (last_name p) [
  | inl root ↦ no (λ h. snoc_not_empty h.0 h.1 (sym h.2 ∙ root))
  | inr c ↦ map_dec
      (λ h. (c.0, c.1, c.2, h))
      (λ h. subst (Fits pattern) (sym (same_last c.0 h.0 c.1 h.1 (sym c.2 ∙ h.2))) h.3)
      (decide_fits pattern c.1)
]

-- whether some rule names a path
pub decide_named : (rules : List Rule) (p : Path) → Dec (Names rules p)
decide_named rules p = decide_Any (RuleNames p) (decide_rule p) rules

-- ---- a snapshot

module _ (s : Snapshot) (lawful : IsSnapshot s) where
  -- a side's print is a tree
  pub replica_tree : (on : Side) → IsTree (replica s on)
  replica_tree side.First = lawful.first
  replica_tree side.Second = lawful.second

  -- whether a path is changed on a side
  pub decide_changed : (on : Side) (p : Path) → Dec (IsChanged s on p)
  decide_changed on p = decide_differ (replica s on) s.archive (replica_tree on) lawful.archive p

  -- whether a path is held
  pub decide_held : (p : Path) → Dec (IsHeldIn s p)
  decide_held p = map_dec
      (λ h. record { present = h.0; named = h.1 })
      (λ (h : IsHeldIn s p). (h.present, h.named))
      (Dec-both (Dec-either (there (s.first p)) (Dec-either (there (s.second p)) (there (s.archive p)))) (decide_named s.rules p))
    where
      there : (x : Content Stamp) → Dec (x ≢ Absent)
      there x = Dec-not (same_stamp_at x Absent)

  -- the paths that are there somewhere
  abbrev places : List Path
  places = lawful.first.present ++ (lawful.second.present ++ lawful.archive.present)

  -- held paths are among these
  held_within : (h : Path) → IsHeldIn s h → Contains places h
  held_within h held = elim held.present [
    | inl there ↦ Contains-append_left lawful.first.present _ h (lawful.first.finite h there)
    | inr rest ↦ Contains-append_right lawful.first.present _ h (elim rest [
      | inl there ↦ Contains-append_left lawful.second.present lawful.archive.present h (lawful.second.finite h there)
      | inr there ↦ Contains-append_right lawful.second.present lawful.archive.present h (lawful.archive.finite h there)
    ])
  ]

  -- whether a held path is above it, below it or itself
  pub decide_touches : (p : Path) → Dec (TouchesHeld s p)
  decide_touches p = map_dec
      (λ h. (h.0, h.1.0, h.1.1))
      (λ h. (h.0, (h.1, h.2)))
      (decide_within
      (λ h. IsHeldIn s h × (IsAbove h p ⊎ IsAbove p h))
      (λ h. Dec-both (decide_held h) (Dec-either (decide_above h p) (decide_above p h)))
      places
      (λ h near. held_within h near.0))

  -- whether a path is dirty on a side
  pub decide_dirty : (on : Side) (p : Path) → Dec (IsDirty s on p)
  decide_dirty on p = Dec-either (decide_changed on p) (decide_touches p)

  -- whether the replicas agree there
  pub decide_agree : (p : Path) → Dec (Agree s p)
  decide_agree p = elim (decide_differ s.first s.second lawful.first lawful.second p) [
    | yes h ↦ no (λ e. h.1 (at_each e h.0))
    | no none ↦ yes (by_each (sub s.first p) (sub s.second p) (λ rest. stable (same_stamp_at _ _) (λ n. none (rest, n))))
  ]

  -- whether a path has what a reason says
  decide_because : (p : Path) (r : Reason) → Dec (Because s p r)
  decide_because p reason.Dir = Dec-both (decide_dirs s.first s.second p) (Dec-not (same_stamp_at (s.archive p) Dir))
  decide_because p reason.Same = map_dec (λ h. (h.0, h.1.0, h.1.1)) (λ h. (h.0, (h.1, h.2)))
      (Dec-both (Dec-not (decide_dirs s.first s.second p)) (Dec-both (decide_agree p) (decide_changed side.First p)))
  decide_because p reason.First = map_dec (λ h. (h.0, h.1.0, h.1.1.0, h.1.1.1)) (λ h. (h.0, (h.1, (h.2, h.3))))
      (Dec-both (Dec-not (decide_dirs s.first s.second p)) (Dec-both (Dec-not (decide_agree p)) (Dec-both (decide_dirty side.First p) (Dec-not (decide_dirty side.Second p)))))
  decide_because p reason.Second = map_dec (λ h. (h.0, h.1.0, h.1.1.0, h.1.1.1)) (λ h. (h.0, (h.1, (h.2, h.3))))
      (Dec-both (Dec-not (decide_dirs s.first s.second p)) (Dec-both (Dec-not (decide_agree p)) (Dec-both (decide_dirty side.Second p) (Dec-not (decide_dirty side.First p)))))
  decide_because p reason.Conflict = map_dec (λ h. (h.0, h.1.0, h.1.1.0, h.1.1.1)) (λ h. (h.0, (h.1, (h.2, h.3))))
      (Dec-both (Dec-not (decide_dirs s.first s.second p)) (Dec-both (Dec-not (decide_agree p)) (Dec-both (decide_changed side.First p) (decide_changed side.Second p))))
  decide_because p reason.Held = map_dec (λ h. (h.0, h.1.0, h.1.1.0, h.1.1.1.0, h.1.1.1.1)) (λ h. (h.0, (h.1, (h.2, (h.3, h.4)))))
      (Dec-both (Dec-not (decide_dirs s.first s.second p)) (Dec-both (Dec-not (decide_agree p))
      (Dec-both (decide_dirty side.First p) (Dec-both (decide_dirty side.Second p) (Dec-not (Dec-both (decide_changed side.First p) (decide_changed side.Second p)))))))

  -- whether a path has a reason, and this one
  pub decide_has_reason : (p : Path) (r : Reason) → Dec (HasReason s p r)
  decide_has_reason p r = Dec-both (decide_below s.first s.second p) (decide_because p r)

-- ---- dirty paths away from held ones

-- they are those below which two trees differ
pub dirt_is_difference : (s : Snapshot) (on : Side) (t o : Tree) → IsSnapshot s → ArePrinted s on t o → DirtIsDifference s on t o
dirt_is_difference s on t o lawful printed = λ p away. (λ dirty same. differ p away dirty same, changed p)
  where
    replica_at : (q : Path) → stamped (t q) ≡ replica s on q
    replica_at q = at_each printed.replica_print q

    archive_at : (q : Path) → stamped (o q) ≡ s.archive q
    archive_at q = at_each printed.archive_print q

    differ : (p : Path) → ¬ TouchesHeld s p → IsDirty s on p → ¬ (sub t p ≡ sub o p)
    differ p away (inr touches) same = away touches
    differ p away (inl changed) same = changed.1 (sym (replica_at (p ++ changed.0)) ∙ ap stamped (at_each same changed.0) ∙ archive_at (p ++ changed.0))

    changed : (p : Path) → ¬ (sub t p ≡ sub o p) → IsDirty s on p
    changed p n = elim (decide_changed s lawful on p) [
      | yes is ↦ inl is
      | no not ↦ absurd (n (by_each (sub t p) (sub o p) (λ rest. same_from_stamped (t (p ++ rest)) (o (p ++ rest))
          (λ u v is_u is_v e. printed.apart u v (inl (p ++ rest, is_u)) (inr (p ++ rest, is_v)) e)
          (replica_at (p ++ rest) ∙ stable (same_stamp_at _ _) (λ m. not (rest, m)) ∙ sym (archive_at (p ++ rest))))))
    ]
