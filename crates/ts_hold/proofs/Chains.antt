-- Chains: a walk along a chain misses no number, and a new number begins its chain.
use Rattle.std.proofs.Common.{◌≡◌, ◌≢◌, ◌⊎◌, ℕ, zero, suc, ◌+◌, ◌<◌, ◌≤◌, List, [], ◌∷◌, ◌++◌, Option, None, Some, length, get_or, set, refl, sym, ap, ◌∙◌, subst, inl, inr, arith}
use Rattle.std.proofs.lemmas.Bool.{cases_lt, cases_eq}
use Rattle.std.specs.Prelude.{MatchOption, replicate}
use Rattle.std.proofs.lemmas.List.{length-map, length_push, get_or_push, get_or_append_left, get_or-map, get_or-set_same, get_or-set_other, length-set, map_push}
use Rattle.ts_hold.specs.declared.index.Link.{Link}
use Rattle.ts_hold.specs.Chains.{slot_of, keys_of, earlier_of, IsOn, IsEarlier, AreLinked, IsChained, HasRoom, HasNone, IsLast}

-- ---- a walk

-- the number that comes next has another key, so the one before it in the chain is next
pub walk_on : (earlier keys : List ℕ) (key from next number new : ℕ) → AreLinked earlier keys → next ≡ number + 1 → number < length keys → IsOn keys (slot_of key) next → HasNone keys key next from
    → get_or keys number 0 ≢ key → new ≡ get_or earlier number 0 → (new ≤ number) × IsOn keys (slot_of key) new × HasNone keys key new from
walk_on earlier keys key from next number new linked is inside on none differ is_new = (within, on_new, none_new)
  where
    at : IsEarlier keys number (slot_of (get_or keys number 0)) new
    at = subst (λ z. IsEarlier keys number (slot_of (get_or keys number 0)) z) (sym is_new) (linked.each number inside)

    within : new ≤ number
    within = at.within

    same : slot_of (get_or keys number 0) ≡ slot_of key
    same = on number is

    on_new : IsOn keys (slot_of key) new
    on_new i e = at.on i e ∙ same

    none_new : HasNone keys key new from
    none_new i after before has = go (cases_lt i number) (cases_eq i number)
      where
        go : (i < number) ⊎ (number ≤ i) → (i ≡ number) ⊎ (i ≢ number) → ⊥
        go (inl lower) e = at.none i after lower (ap slot_of has ∙ sym same)
        go (inr higher) (inl e) = differ (ap (λ z. get_or keys z 0) (sym e) ∙ has)
        go (inr higher) (inr e) = none i (omega arith) before has

-- what a walk from the start of a chain finds is the last below the limit
pub none_below : (keys : List ℕ) (key limit from : ℕ) → IsEarlier keys limit (slot_of key) from → HasNone keys key 0 from → HasNone keys key 0 limit
none_below keys key limit from begun none i low below has = elim (cases_lt i from) [
  | inl before ↦ none i low before has
  | inr after ↦ begun.none i after below (ap slot_of has)
]

pub last_below : (keys : List ℕ) (key limit from found : ℕ) → IsEarlier keys limit (slot_of key) from → IsLast keys key from found → IsLast keys key limit found
last_below keys key limit from found begun last = record {
  below = omega (arith, begun.within, last.below);
  has = last.has;
  after = λ i low below has. elim (cases_lt i from) [
    | inl before ↦ last.after i low before has
    | inr after ↦ begun.none i after below (ap slot_of has)
  ];
}

-- ---- a new number

-- a number that was in the list before is as it was
earlier_stays : (keys : List ℕ) (key limit chain next : ℕ) → limit ≤ length keys → IsEarlier keys limit chain next → IsEarlier (keys ++ key ∷ []) limit chain next
earlier_stays keys key limit chain next inside was = record {
  within = was.within;
  on = λ i e. let lt : i < length keys = omega (arith, was.within) in ap slot_of (get_or_append_left keys (key ∷ []) 0 i lt) ∙ was.on i e;
  none = λ i low below same. let lt : i < length keys = omega arith in was.none i low below (ap slot_of (sym (get_or_append_left keys (key ∷ []) 0 i lt)) ∙ same);
}

-- the new number's chain begins at it
begins_new : (keys : List ℕ) (key : ℕ) → IsEarlier (keys ++ key ∷ []) (length (keys ++ key ∷ [])) (slot_of key) (length keys + 1)
begins_new keys key = record {
  within = omega (arith, length_push keys key);
  on = λ i e. ap slot_of (get_or_push keys key 0 i (omega arith));
  none = λ i low below. absurd (omega (arith, length_push keys key));
}

-- the other chains begin where they did
begins_other : (keys : List ℕ) (key chain next : ℕ) → chain ≢ slot_of key → IsEarlier keys (length keys) chain next → IsEarlier (keys ++ key ∷ []) (length (keys ++ key ∷ [])) chain next
begins_other keys key chain next differ was = record {
  within = omega (arith, was.within, length_push keys key);
  on = (earlier_stays keys key (length keys) chain next (omega arith) was).on;
  none = λ i low below same. elim (cases_lt i (length keys)) [
    | inl before ↦ (earlier_stays keys key (length keys) chain next (omega arith) was).none i low before same
    | inr after ↦ differ (sym same ∙ ap slot_of (get_or_push keys key 0 i (omega (arith, length_push keys key))))
  ];
}

linked_push : (earlier keys : List ℕ) (key next : ℕ) → AreLinked earlier keys → IsEarlier keys (length keys) (slot_of key) next → AreLinked (earlier ++ next ∷ []) (keys ++ key ∷ [])
linked_push earlier keys key next linked was = record {
  count = omega (arith, linked.count, length_push earlier next, length_push keys key);
  each = λ i inside. go i inside (cases_lt i (length keys));
}
  where
    go : (i : ℕ) → i < length (keys ++ key ∷ []) → (i < length keys) ⊎ (length keys ≤ i)
        → IsEarlier (keys ++ key ∷ []) i (slot_of (get_or (keys ++ key ∷ []) i 0)) (get_or (earlier ++ next ∷ []) i 0)
    go i inside (inl before) =
        let e : get_or (keys ++ key ∷ []) i 0 ≡ get_or keys i 0 = get_or_append_left keys (key ∷ []) 0 i before in
        let there : i < length earlier = omega (arith, linked.count) in
        let f : get_or (earlier ++ next ∷ []) i 0 ≡ get_or earlier i 0 = get_or_append_left earlier (next ∷ []) 0 i there in
        let was_there = earlier_stays keys key i (slot_of (get_or keys i 0)) (get_or earlier i 0) (omega arith) (linked.each i before) in
        subst (λ z. IsEarlier (keys ++ key ∷ []) i (slot_of z) (get_or (earlier ++ next ∷ []) i 0)) (sym e)
        (subst (λ z. IsEarlier (keys ++ key ∷ []) i (slot_of (get_or keys i 0)) z) (sym f) was_there)
    go i inside (inr after) =
        let is : i ≡ length keys = omega (arith, length_push keys key) in
        let e : get_or (keys ++ key ∷ []) i 0 ≡ key = get_or_push keys key 0 i (sym is) in
        let f : get_or (earlier ++ next ∷ []) i 0 ≡ next = get_or_push earlier next 0 i (omega (arith, linked.count)) in
        let was_there = earlier_stays keys key (length keys) (slot_of key) next (omega arith) was in
        subst (λ z. IsEarlier (keys ++ key ∷ []) i (slot_of z) (get_or (earlier ++ next ∷ []) i 0)) (sym e)
        (subst (λ z. IsEarlier (keys ++ key ∷ []) i (slot_of key) z) (sym f) (subst (λ z. IsEarlier (keys ++ key ∷ []) z (slot_of key) next) (sym is) was_there))

pub chained_push : (heads earlier keys : List ℕ) (key next new : ℕ) → IsChained heads earlier keys → length heads ≡ 65536 → length keys < 4096 → slot_of key < 65536
    → next ≡ get_or heads (slot_of key) 0 → new ≡ length keys + 1 → IsChained (set heads (slot_of key) new) (earlier ++ next ∷ []) (keys ++ key ∷ [])
chained_push heads earlier keys key next new was room few low is_next is_new = record {
  room = inl (length-set heads (slot_of key) new ∙ room);
  few = omega (arith, length_push keys key);
  linked = linked_push earlier keys key next was.linked first;
  begun = λ chain inside. go chain (omega (arith, inside, length-set heads (slot_of key) new)) (cases_eq chain (slot_of key));
}
  where
    first : IsEarlier keys (length keys) (slot_of key) next
    first = subst (λ z. IsEarlier keys (length keys) (slot_of key) z) (sym is_next) (was.begun (slot_of key) (omega arith))

    go : (chain : ℕ) → chain < length heads → (chain ≡ slot_of key) ⊎ (chain ≢ slot_of key)
        → IsEarlier (keys ++ key ∷ []) (length (keys ++ key ∷ [])) chain (get_or (set heads (slot_of key) new) chain 0)
    go chain inside (inl same) =
        let lt : slot_of key < length heads = omega arith in
        let e : get_or (set heads (slot_of key) new) (slot_of key) 0 ≡ length keys + 1 = get_or-set_same heads (slot_of key) new 0 lt ∙ is_new in
        subst (λ z. IsEarlier (keys ++ key ∷ []) (length (keys ++ key ∷ [])) z (get_or (set heads (slot_of key) new) z 0)) (sym same)
        (subst (λ z. IsEarlier (keys ++ key ∷ []) (length (keys ++ key ∷ [])) (slot_of key) z) (sym e) (begins_new keys key))
    go chain inside (inr differ) =
        let e : get_or (set heads (slot_of key) new) chain 0 ≡ get_or heads chain 0 = get_or-set_other heads (slot_of key) chain new 0 differ in
        subst (λ z. IsEarlier (keys ++ key ∷ []) (length (keys ++ key ∷ [])) chain z) (sym e) (begins_other keys key chain (get_or heads chain 0) differ (was.begun chain inside))

-- ---- no numbers

-- chains of no numbers begin nowhere
empty_chains : (heads earlier keys : List ℕ) → AreLinked earlier keys → length keys ≡ 0 → length heads ≡ 65536 → ((chain : ℕ) → get_or heads chain 0 ≡ 0) → IsChained heads earlier keys
empty_chains heads earlier keys linked none room blank = record {
  room = inl room;
  few = omega arith;
  linked = linked;
  begun = λ chain inside. subst (λ z. IsEarlier keys (length keys) chain z) (sym (blank chain)) (record {
    within = omega arith;
    on = λ i e. absurd (omega arith);
    none = λ i low below. absurd (omega arith);
  });
}

pub chained_room : (before after earlier keys : List ℕ) → IsChained before earlier keys → HasRoom before after → IsChained after earlier keys
chained_room before after earlier keys was made = elim made.same [
  | inl same ↦ subst (λ z. IsChained z earlier keys) (sym same) was
  | inr (none, blank) ↦ elim was.room [
    | inl room ↦ absurd (omega arith)
    | inr (_, empty) ↦ empty_chains after earlier keys was.linked empty made.room blank
  ]
]

pub some_room : (heads earlier keys : List ℕ) → IsChained heads earlier keys → (length heads ≡ 65536) ⊎ (length heads ≡ 0)
some_room heads earlier keys chained = elim chained.room [ inl room ↦ inl room | inr (none, _) ↦ inr none ]

pub slot_small : (key : ℕ) → slot_of key < 65536
unfolding slot_of
slot_small key = omega arith

-- a chain that isn't begun has no number
pub no_head : (heads earlier keys : List ℕ) (key : ℕ) → IsChained heads earlier keys → length heads ≤ slot_of key → HasNone keys key 0 (length keys)
no_head heads earlier keys key chained past i low inside has = elim chained.room [
  | inl room ↦ absurd (omega (arith, slot_small key))
  | inr (_, empty) ↦ absurd (omega arith)
]

-- ---- links

pub length-keys : (links : List Link) → length (keys_of links) ≡ length links
length-keys links = length-map links (λ (link : Link). link.key)

-- what a link that was read says
pub key_at : (links : List Link) (i : ℕ) (link : Link) → i < length links → link ≡ get_or links i link → get_or (keys_of links) i 0 ≡ link.key
key_at links i link inside is = get_or-map (λ (z : Link). z.key) links i link 0 inside ∙ ap (λ (z : Link). z.key) (sym is)

pub earlier_at : (links : List Link) (i : ℕ) (link : Link) → i < length links → link ≡ get_or links i link → get_or (earlier_of links) i 0 ≡ link.earlier
earlier_at links i link inside is = get_or-map (λ (z : Link). z.earlier) links i link 0 inside ∙ ap (λ (z : Link). z.earlier) (sym is)

-- a head that was read begins its chain
pub begun_at : (heads earlier keys read : List ℕ) (key chain head : ℕ) → IsChained heads earlier keys → read ≡ heads → chain ≡ slot_of key → chain < length read
    → head ≡ get_or read chain 0 → IsEarlier keys (length keys) (slot_of key) head
begun_at heads earlier keys read key chain head chained same is inside is_head =
    let e : get_or heads (slot_of key) 0 ≡ head = ap (λ z. get_or z (slot_of key) 0) (sym same) ∙ ap (λ z. get_or read z 0) (sym is) ∙ sym is_head in
    subst (λ z. IsEarlier keys (length keys) (slot_of key) z) e (chained.begun (slot_of key) (omega (arith, ap length same)))

-- a link that was read goes on with its chain
pub linked_at : (heads : List ℕ) (links : List Link) (number : ℕ) (link : Link) → IsChained heads (earlier_of links) (keys_of links) → number < length (keys_of links)
    → link ≡ get_or links number link → IsEarlier (keys_of links) number (slot_of link.key) link.earlier
linked_at heads links number link chained inside is =
    let inside_links : number < length links = omega (arith, length-keys links) in
    subst (λ z. IsEarlier (keys_of links) number (slot_of z) link.earlier) (key_at links number link inside_links is)
    (subst (λ z. IsEarlier (keys_of links) number (slot_of (get_or (keys_of links) number 0)) z) (earlier_at links number link inside_links is) (chained.linked.each number inside))

-- what a walk from the start of a chain finds
pub found_below : (keys walked : List ℕ) (key limit from : ℕ) (found : Option ℕ) → walked ≡ keys → IsEarlier keys limit (slot_of key) from
    → MatchOption found (HasNone walked key 0 from) (IsLast walked key from) → MatchOption found (HasNone keys key 0 limit) (IsLast keys key limit)
found_below keys walked key limit from found same begun was = go found (subst (λ z. MatchOption found (HasNone z key 0 from) (IsLast z key from)) same was)
  where
    go : (found : Option ℕ) → MatchOption found (HasNone keys key 0 from) (IsLast keys key from) → MatchOption found (HasNone keys key 0 limit) (IsLast keys key limit)
    go None none = none_below keys key limit from begun none
    go (Some n) last = last_below keys key limit from n begun last

-- the link of a new number
pub links_push : (heads : List ℕ) (links new_links : List Link) (link : Link) (key chain new : ℕ) → IsChained heads (earlier_of links) (keys_of links) → length heads ≡ 65536
    → length (keys_of links) < 4096 → chain ≡ slot_of key → link.key ≡ key → link.earlier ≡ get_or heads chain 0 → new_links ≡ links ++ link ∷ [] → new ≡ length new_links
    → IsChained (set heads chain new) (earlier_of new_links) (keys_of new_links)
links_push heads links new_links link key chain new chained room few is is_key is_earlier pushed is_new =
    subst (λ z. IsChained (set heads chain new) (earlier_of z) (keys_of z)) (sym pushed)
    (subst (λ z. IsChained (set heads z new) (earlier_of (links ++ link ∷ [])) (keys_of (links ++ link ∷ []))) (sym is)
    (subst (λ z. IsChained (set heads (slot_of key) new) z (keys_of (links ++ link ∷ []))) (sym (map_push (λ (z : Link). z.earlier) links link))
    (subst (λ z. IsChained (set heads (slot_of key) new) (earlier_of links ++ link.earlier ∷ []) z) (sym (map_push (λ (z : Link). z.key) links link ∙ ap (λ z. keys_of links ++ z ∷ []) is_key))
    (chained_push heads (earlier_of links) (keys_of links) key link.earlier new chained room few (slot_small key) (is_earlier ∙ ap (λ z. get_or heads z 0) is)
    (omega (arith, is_new, ap length pushed, length_push links link, length-keys links))))))

-- ---- new heads

zeros : (n i : ℕ) → get_or {A = ℕ} (replicate {A = ℕ} n 0) i 0 ≡ 0
zeros zero i = refl
zeros (suc n) zero = refl
zeros (suc n) (suc i) = zeros n i

pub new_heads : (before after : List ℕ) (n : ℕ) → length before ≡ 0 → length after ≡ 65536 → after ≡ replicate n 0 → HasRoom before after
new_heads before after n none room made = record { room = room; same = inr (none, λ chain. ap (λ z. get_or z chain 0) made ∙ zeros n chain) }
