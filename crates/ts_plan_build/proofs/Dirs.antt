-- The new directories above the path that the builder is at.
use Rattle.std.proofs.Common.{◌≡◌, ◌≢◌, ◌⊎◌, ℕ, zero, suc, ◌+◌, ◌-◌, ◌<◌, List, [], ◌∷◌, ◌++◌, length, length-append, Option, Some, None, MatchOption, option_to_list, slice_get, get_or, refl, sym, ap, ◌∙◌, subst, inl, inr, arith, append_assoc, append-nil}
use Rattle.std.proofs.lemmas.Bool.{cases_lt, cases_order}
use Rattle.std.proofs.lemmas.Option.{none-some, slice_get_within, get_or_from_slice_get}
use Rattle.ts_name.specs.Paths.{Path, IsAbove, IsBefore}
use Rattle.ts_model.specs.Trees.{Listing}
use Rattle.ts_model.specs.declared.row.Stamp.{Stamp}
use Rattle.ts_model.specs.declared.plan.Entry.{Entry}
use Rattle.ts_model.specs.declared.plan.Action.{Action}
use Rattle.ts_model.specs.declared.plan.Reason.{Reason}
use Rattle.ts_model.specs.declared.plan.Reason.TheVariants as reason
use Rattle.ts_model.specs.declared.plan.Kind.TheVariants.{Mark}
use Rattle.ts_name.proofs.Order.{before_itself, before_turned}
use Rattle.ts_name.proofs.Prefixes.{above_itself, above_trans}
use Rattle.ts_print.proofs.Order.{above_upto, above_between}
use Rattle.ts_plan_build.specs.declared.builder.NewDir.{NewDir}
use Rattle.ts_plan_build.specs.Blocks.{block, mark_of}
use Rattle.ts_plan_build.specs.Built.{IsAboveMark, IsBuilt, AreOff, AreLeft, IsKept, AreOrdered}
use Rattle.ts_plan_build.proofs.Places.{get_right, get_cases, get_one}
use Rattle.ts_plan_build.proofs.Building.{built_more}
use Rattle.ts_name.proofs.Basics.{same_at, element_at, got_front}
use Rattle.ts_laws.proofs.Reasons.{decide_reason}

-- ---- leaving

-- one more is left out
pub off_more : (p : Path) (old now next : List NewDir) (popped : Option NewDir) (d : NewDir) → AreOff p old now → now ≡ next ++ option_to_list popped → slice_get now (length now - 1) ≡ Some d → ¬ IsAbove d.path.now p → AreOff p old next
off_more p old now next None d h e is n = record {
  back = h.back;
  parts = h.parts ∙ ap (λ (z : List NewDir). z ++ h.back) (e ∙ append-nil next);
  off = h.off;
}
off_more p old now next (Some x) d h e is n = record {
  back = x ∷ h.back;
  parts = h.parts ∙ ap (λ (z : List NewDir). z ++ h.back) e ∙ append_assoc next (x ∷ []) h.back;
  off = off;
}
  where
    same : d ≡ x
    same =
        let l : length now ≡ length next + 1 = let f : length now ≡ length (next ++ x ∷ []) = ap length e in omega (arith, f, length-append next (x ∷ [])) in
        let there : slice_get now (length now - 1) ≡ Some x = subst (λ (z : List NewDir). slice_get z (length now - 1) ≡ Some x) (sym e) (get_right next (x ∷ []) (length now - 1) 0 x (omega arith) refl) in
        same_at now (length now - 1) d x is there

    off : (i : ℕ) (y : NewDir) → slice_get (x ∷ h.back) i ≡ Some y → ¬ IsAbove y.path.now p
    off zero y g above = n (subst (λ (z : NewDir). IsAbove z.path.now p) (let f : Some x ≡ Some y = g in let f' : y ≡ x = cc in f' ∙ sym same) above)
    off (suc i) y g above = h.off i y g above

-- ---- the directories after the entries before the k-th

pub record IsDirOf (entries : List Entry) (acts : List Action) (k : ℕ) (d : NewDir) : Type 0 where
  pub number : ℕ
  pub early : number < k
  pub dir : Entry
  pub there : slice_get entries number ≡ Some dir
  pub new_dir : dir.reason ≡ reason.Dir
  pub path : dir.path ≡ d.path.now
  pub action : Action
  pub at_mark : slice_get acts d.mark ≡ Some action
  pub kind : action.kind ≡ Mark number

pub record AreDirs (entries : List Entry) (acts : List Action) (k : ℕ) (dirs : List NewDir) : Type 0 where
  pub each : (i : ℕ) (d : NewDir) → slice_get dirs i ≡ Some d → IsDirOf entries acts k d
  pub nested : (i j : ℕ) (d e : NewDir) → i < j → slice_get dirs i ≡ Some d → slice_get dirs j ≡ Some e → IsAbove d.path.now e.path.now
  -- all above the entry before the k-th
  pub all : (x y : ℕ) (dir entry : Entry) → k ≡ y + 1 → slice_get entries y ≡ Some entry → x < k → slice_get entries x ≡ Some dir → dir.reason ≡ reason.Dir → IsAbove dir.path entry.path
      → (i : ℕ) × (d : NewDir) × (slice_get dirs i ≡ Some d) × (d.path.now ≡ dir.path)

pub dirs_none : (entries : List Entry) (acts : List Action) (dirs : List NewDir) → dirs ≡ [] → AreDirs entries acts 0 dirs
dirs_none entries acts dirs e = record {
  each = λ i d h. absurd (none-some d (subst (λ (z : List NewDir). slice_get z i ≡ Some d) e h));
  nested = λ i j d x l h g. absurd (none-some d (subst (λ (z : List NewDir). slice_get z i ≡ Some d) e h));
  all = λ x y dir entry f. absurd (omega arith);
}

module _ (entries : List Entry) (ordered : AreOrdered entries) where
  -- entries by number stand in order
  pub in_order : (x y : ℕ) (a b : Entry) → x < y → slice_get entries x ≡ Some a → slice_get entries y ≡ Some b → IsBefore a.path b.path
  in_order x y a b less is_a is_b =
      let f : get_or entries x a ≡ a = get_or_from_slice_get entries x a a is_a in
      let g : get_or entries y a ≡ b = get_or_from_slice_get entries y b a is_b in
      let l : y < length entries = slice_get_within entries y b is_b in
      subst (λ (z : Entry). IsBefore z.path b.path) f (subst (λ (z : Entry). IsBefore (get_or entries x a).path z.path) g (ordered x y a less l))

  -- what stands strictly above an entry has a smaller number
  pub earlier_above : (x y : ℕ) (a b : Entry) → slice_get entries x ≡ Some a → slice_get entries y ≡ Some b → IsAbove a.path b.path → a.path ≢ b.path → x < y
  earlier_above x y a b is_a is_b above differ = elim (cases_order x y) [
    | inl e ↦ absurd (differ (ap (λ (z : Entry). z.path) (same_at entries y a b (subst (λ (n : ℕ). slice_get entries n ≡ Some a) e is_a) is_b)))
    | inr more ↦ elim more [
      | inl less ↦ less
      | inr after ↦ absurd (above_upto a.path b.path above (in_order y x b a after is_b is_a))
    ]
  ]

  module _ (acts : List Action) (k : ℕ) (old now : List NewDir) (entry : Entry) (dirs : AreDirs entries acts k old) (left : AreLeft entry.path old now) (is : slice_get entries k ≡ Some entry) where
    -- what stays stood there
    stayed : (i : ℕ) (d : NewDir) → slice_get now i ≡ Some d → slice_get old i ≡ Some d
    stayed i d h = subst (λ (z : List NewDir). slice_get z i ≡ Some d) (sym left.left.parts) (got_front now left.left.back i d h)

    -- all above the k-th entry stay
    stay : (x : ℕ) (dir : Entry) → x < k → slice_get entries x ≡ Some dir → dir.reason ≡ reason.Dir → IsAbove dir.path entry.path → (i : ℕ) × (d : NewDir) × (slice_get now i ≡ Some d) × (d.path.now ≡ dir.path)
    stay x dir less there new above = keep (dirs.all x (k - 1) dir last.0 (omega arith) last.1 less there new above_last)
      where
        last : (e : Entry) × (slice_get entries (k - 1) ≡ Some e)
        last = element_at entries (k - 1) (let l : k < length entries = slice_get_within entries k entry is in omega arith)

        above_last : IsAbove dir.path last.0.path
        above_last = elim (cases_lt x (k - 1)) [
          | inl before ↦ above_between dir.path last.0.path entry.path above
              (before_turned dir.path last.0.path (in_order x (k - 1) dir last.0 before there last.1))
              (before_turned last.0.path entry.path (in_order (k - 1) k last.0 entry (omega arith) last.1 is))
          | inr more ↦
              let same : x ≡ k - 1 = omega arith in
              let e : dir ≡ last.0 = same_at entries (k - 1) dir last.0 (subst (λ (n : ℕ). slice_get entries n ≡ Some dir) same there) last.1 in
              subst (λ (z : Entry). IsAbove dir.path z.path) e (above_itself dir.path)
        ]

        keep : (i : ℕ) × (d : NewDir) × (slice_get old i ≡ Some d) × (d.path.now ≡ dir.path) → (i : ℕ) × (d : NewDir) × (slice_get now i ≡ Some d) × (d.path.now ≡ dir.path)
        keep found = elim (get_cases now left.left.back found.0 found.1 (subst (λ (z : List NewDir). slice_get z found.0 ≡ Some found.1) left.left.parts found.2)) [
          | inl h ↦ (found.0, found.1, h, found.3)
          | inr h ↦ absurd (left.left.off h.0 found.1 h.2 (subst (λ (z : Path). IsAbove z entry.path) (sym found.3) above))
        ]

    -- all that stay are above the last
    above_last_one : (i : ℕ) (d last : NewDir) → slice_get now i ≡ Some d → slice_get now (length now - 1) ≡ Some last → IsAbove d.path.now last.path.now
    above_last_one i d last h g = elim (cases_lt i (length now - 1)) [
      | inl less ↦ dirs.nested i (length now - 1) d last less (stayed i d h) (stayed (length now - 1) last g)
      | inr more ↦
          let within : i < length now = slice_get_within now i d h in
          let same : i ≡ length now - 1 = omega arith in
          let e : d ≡ last = same_at now (length now - 1) d last (subst (λ (n : ℕ). slice_get now n ≡ Some d) same h) g in
          subst (λ (z : NewDir). IsAbove d.path.now z.path.now) e (above_itself d.path.now)
    ]

    -- the mark of the last is that of the nearest
    pub nearest_mark : (found : Option ℕ) → MatchOption found (length now ≡ 0) (λ m. (d : NewDir) × (0 < length now) × (slice_get now (length now - 1) ≡ Some d) × (d.mark ≡ m)) → IsAboveMark entries acts entry found
    nearest_mark None none = λ x other h.
        let found = stay x other (earlier_above x k other entry h.0 is h.2 h.3) h.0 h.1 h.2 in
        let within : found.0 < length now = slice_get_within now found.0 found.1 found.2 in absurd (omega arith)
    nearest_mark (Some m) found =
        let d = found.0 in
        let one = dirs.each (length now - 1) d (stayed (length now - 1) d found.2) in
        let up : IsAbove one.dir.path entry.path = subst (λ (z : Path). IsAbove z entry.path) (sym one.path) (left.last d found.2) in
        record {
          number = one.number;
          dir = one.dir;
          is_above = (one.there, one.new_dir, up, λ e. before_itself one.dir.path (subst (λ (z : Path). IsBefore one.dir.path z) (sym e) (in_order one.number k one.dir entry one.early one.there is)));
          nearest = λ x other h.
              let kept = stay x other (earlier_above x k other entry h.0 is h.2 h.3) h.0 h.1 h.2 in
              subst (λ (z : Path). IsAbove z one.dir.path) kept.3 (subst (λ (z : Path). IsAbove kept.1.path.now z) (sym one.path) (above_last_one kept.0 kept.1 d kept.2 found.2));
          action = one.action;
          there = subst (λ (n : ℕ). slice_get acts n ≡ Some one.action) found.3 one.at_mark;
          kind = one.kind;
        }

    -- after the k-th entry
    pub dirs_more : (more : List Action) (next : List NewDir) (m : ℕ) (added : List Action) → more ≡ acts ++ added → IsKept entry m now next → (entry.reason ≡ reason.Dir → (a : Action) × (slice_get more m ≡ Some a) × (a.kind ≡ Mark k)) → AreDirs entries more (k + 1) next
    dirs_more more next m added e kept marked = go (decide_reason entry.reason reason.Dir)
      where
        grown : (i : ℕ) (a : Action) → slice_get acts i ≡ Some a → slice_get more i ≡ Some a
        grown i a h = subst (λ (z : List Action). slice_get z i ≡ Some a) (sym e) (got_front acts added i a h)

        older : (d : NewDir) → IsDirOf entries acts k d → IsDirOf entries more (k + 1) d
        older d one = record {
          number = one.number;
          early = (let l : one.number < k = one.early in omega arith);
          dir = one.dir;
          there = one.there;
          new_dir = one.new_dir;
          path = one.path;
          action = one.action;
          at_mark = grown d.mark one.action one.at_mark;
          kind = one.kind;
        }

        -- the entry before the (k + 1)-th is the k-th
        at_k : (y : ℕ) (other : Entry) → k + 1 ≡ y + 1 → slice_get entries y ≡ Some other → other ≡ entry
        at_k y other f h = same_at entries k other entry (subst (λ (n : ℕ). slice_get entries n ≡ Some other) (let g : y ≡ k = omega arith in g) h) is

        go : Dec (entry.reason ≡ reason.Dir) → AreDirs entries more (k + 1) next
        go (no n) = subst (λ (z : List NewDir). AreDirs entries more (k + 1) z) (sym (kept.same n)) (record {
          each = λ i d h. older d (dirs.each i d (stayed i d h));
          nested = λ i j d f less h g. dirs.nested i j d f less (stayed i d h) (stayed j f g);
          all = λ x y dir other f at_y less there new above. elim (cases_lt x k) [
            | inl before ↦ stay x dir before there new (subst (λ (z : Entry). IsAbove dir.path z.path) (at_k y other f at_y) above)
            | inr after ↦ absurd (n (ap (λ (z : Entry). z.reason) (sym (same_at entries k dir entry (subst (λ (v : ℕ). slice_get entries v ≡ Some dir) (let g : x ≡ k = omega arith in g) there) is)) ∙ new))
          ];
        })
        go (yes dir_is) =
            let d = (kept.kept dir_is).0 in
            let path_is = (kept.kept dir_is).1 in
            let mark_is = (kept.kept dir_is).2 in
            let mark = marked dir_is in
            let new_one : IsDirOf entries more (k + 1) d = record {
              number = k;
              early = omega arith;
              dir = entry;
              there = is;
              new_dir = dir_is;
              path = sym path_is;
              action = mark.0;
              at_mark = subst (λ (n : ℕ). slice_get more n ≡ Some mark.0) (sym mark_is) mark.1;
              kind = mark.2;
            } in
            subst (λ (z : List NewDir). AreDirs entries more (k + 1) z) (sym ((kept.kept dir_is).3)) (record {
              each = λ i f h. elim (get_cases now (d ∷ []) i f h) [
                | inl before ↦ older f (dirs.each i f (stayed i f before))
                | inr after ↦ subst (λ (z : NewDir). IsDirOf entries more (k + 1) z) (sym ((get_one d after.0 f after.2).1)) new_one
              ];
              nested = λ i j f g less at_i at_j. nested d path_is i j f g less (get_cases now (d ∷ []) i f at_i) (get_cases now (d ∷ []) j g at_j);
              all = λ x y dir other f at_y less there new above. elim (cases_lt x k) [
                | inl before ↦ let found = stay x dir before there new (subst (λ (z : Entry). IsAbove dir.path z.path) (at_k y other f at_y) above) in (found.0, found.1, got_front now (d ∷ []) found.0 found.1 found.2, found.3)
                | inr after ↦ (length now, d, get_right now (d ∷ []) (length now) 0 d (omega arith) refl, path_is ∙ ap (λ (z : Entry). z.path) (sym (same_at entries k dir entry (subst (λ (v : ℕ). slice_get entries v ≡ Some dir) (let g : x ≡ k = omega arith in g) there) is)))
              ];
            })
          where
            nested : (d : NewDir) → d.path.now ≡ entry.path → (i j : ℕ) (f g : NewDir) → i < j → (slice_get now i ≡ Some f) ⊎ ((z : ℕ) × (i ≡ length now + z) × (slice_get (d ∷ []) z ≡ Some f)) → (slice_get now j ≡ Some g) ⊎ ((z : ℕ) × (j ≡ length now + z) × (slice_get (d ∷ []) z ≡ Some g)) → IsAbove f.path.now g.path.now
            nested d path_is i j f g less (inl h) (inl h') = dirs.nested i j f g less (stayed i f h) (stayed j g h')
            nested d path_is i j f g less (inl h) (inr h') =
                let within : i < length now = slice_get_within now i f h in
                let last = element_at now (length now - 1) (omega arith) in
                let e : g ≡ d = (get_one d h'.0 g h'.2).1 in
                subst (λ (z : Path). IsAbove f.path.now z) (sym (ap (λ (z : NewDir). z.path.now) e ∙ path_is))
                (above_trans f.path.now last.0.path.now entry.path (above_last_one i f last.0 h last.1) (left.last last.0 last.1))
            nested d path_is i j f g less (inr h) (inl h') = let within : j < length now = slice_get_within now j g h' in let l : i ≡ length now + h.0 = h.1 in absurd (omega arith)
            nested d path_is i j f g less (inr h) (inr h') =
                let a : h.0 ≡ 0 = (get_one d h.0 f h.2).0 in let b : h'.0 ≡ 0 = (get_one d h'.0 g h'.2).0 in
                let l : i ≡ length now + h.0 = h.1 in let m : j ≡ length now + h'.0 = h'.1 in absurd (omega arith)

-- the mark of a new directory is the first action of its block
pub dir_marked : (F S : Listing Stamp) (old new : List Action) (k : ℕ) (entry : Entry) (above : Option ℕ) (m : ℕ) → new ≡ old ++ block F S k entry.path entry.reason above (length old) → m ≡ length old
    → entry.reason ≡ reason.Dir → (a : Action) × (slice_get new m ≡ Some a) × (a.kind ≡ Mark k)
dir_marked F S old new k entry above m e at is = (
  mark_of k above None,
  subst (λ (z : List Action). slice_get z m ≡ Some (mark_of k above None)) (sym (e ∙ ap (λ (r : Reason). old ++ block F S k entry.path r above (length old)) is)) (get_right old (mark_of k above None ∷ []) m 0 (mark_of k above None) (omega arith) refl),
  refl,
)

-- one turn of the builder
pub built_turn : (F S : Listing Stamp) (entries : List Entry) (ordered : AreOrdered entries) (old new : List Action) (k m : ℕ) (entry : Entry) (above : Option ℕ) (dirs left next : List NewDir)
    → IsBuilt F S entries old k → AreDirs entries old k dirs → slice_get entries k ≡ Some entry → AreLeft entry.path dirs left
    → MatchOption above (length left ≡ 0) (λ m. (d : NewDir) × (0 < length left) × (slice_get left (length left - 1) ≡ Some d) × (d.mark ≡ m))
    → m ≡ length old → new ≡ old ++ block F S k entry.path entry.reason above (length old) → IsKept entry m left next
    → IsBuilt F S entries new (k + 1) × AreDirs entries new (k + 1) next
built_turn F S entries ordered old new k m entry above dirs left next built are is leaving found at e kept = (
  built_more F S entries old new k entry above built is (nearest_mark entries ordered old k dirs left entry are leaving is above found) e,
  dirs_more entries ordered old k dirs left entry are leaving is new next m (block F S k entry.path entry.reason above (length old)) e kept (dir_marked F S old new k entry above m e at),
)
