-- The words of a plan's actions: how many predecessors they count, and what their bits say.
use Rattle.std.proofs.Common.{◌≡◌, ◌≢◌, ℕ, ◌+◌, ◌*◌, ◌^◌, ◌<◌, ◌≤◌, ◌/◌, ◌%◌, Bool, true, false, List, [], ◌∷◌, length, Option, Some, None, slice_get, refl, ap, ◌∙◌, arith}
use Rattle.std.specs.List.{list_any}
use Rattle.std.specs.Int.{bit_at}
use Rattle.std.proofs.Math.Nat.{add-mul-mod_self_left}
use Rattle.std.proofs.lemmas.Nat.{div-mul-add}
use Rattle.std.proofs.lemmas.Option.{slice_get_within}
use Rattle.ts_model.specs.Sync.{Snapshot}
use Rattle.ts_model.specs.Plans.{AscendBelow, Valid}
use Rattle.ts_model.specs.Runs as model
use Rattle.ts_model.specs.Runs.{Run, claims, finishes, fails, takes, open_count, word_after}
use Rattle.ts_model.specs.declared.plan.Action.{Action}
use Rattle.ts_model.specs.declared.plan.Plan.{Plan}
use Rattle.ts_laws.proofs.Runs.{preds_ascend, pred_count_is}
use Rattle.ts_laws.proofs.Bounds.{few_actions}
use Rattle.ts_board.specs.Runs.{bit}
use Rattle.ts_board.proofs.Runs.{bit_one}

-- ---- few predecessors

room_above : (n x : ℕ) (xs : List ℕ) → AscendBelow n (x ∷ xs) → length xs + x < n
room_above n x [] a = omega arith
room_above n x (y ∷ ys) a = let r = room_above n y ys a.1 in let l = a.0 in omega arith

few_below : (n : ℕ) (xs : List ℕ) → AscendBelow n xs → length xs ≤ n
few_below n [] a = omega arith
few_below n (x ∷ xs) a = let r = room_above n x xs a in omega arith

pub few_open : (s : Snapshot) (plan : Plan) → Valid s plan → (r : Run) (i : ℕ) → open_count plan r i < 4294967296
few_open s plan valid r i = go (slice_get plan.actions i) refl
  where
    go : (o : Option Action) → slice_get plan.actions i ≡ o → open_count plan r i < 4294967296
    go None e =
        let none : model.pred_count plan i ≡ 0 = ap (λ o. elim o [ None ↦ 0 | Some a ↦ length a.preds ]) e in
        omega arith
    go (Some action) e =
        let few = few_actions s plan valid in let within = slice_get_within plan.actions i action e in
        let below = few_below i action.preds (preds_ascend s plan valid i action e) in let count = pred_count_is plan i action e in
        omega arith

-- ---- the bits of a word

-- a bit of the model's words, as a number
bit_number : (k m : ℕ) → 2 ^ k ≡ m → (b : Bool) → model.bit k b ≡ m * bit b
bit_number k m e true = e ∙ (let one : m ≡ m * 1 = omega arith in one)
bit_number k m e false = (let none : 0 ≡ m * 0 = omega arith in none)

-- the bit k of a number in parts: what is above it, itself, and what is below it
bit_part : (n k m high low : ℕ) (b : Bool) → 2 ^ k ≡ m → n ≡ (bit b + 2 * high) * m + low → low < m → bit_at n k ≡ bit b
bit_part n k m high low b is e less =
    ap (λ z. z / 2 ^ k % 2) e ∙ ap (λ z. ((bit b + 2 * high) * m + low) / z % 2) is
    ∙ ap (λ z. z % 2) (div-mul-add (bit b + 2 * high) m low less) ∙ add-mul-mod_self_left (bit b) 2 high ∙ small b
  where
    small : (b : Bool) → bit b % 2 ≡ bit b
    small true = refl
    small false = refl

module _ (n : ℕ) (c d f t : Bool) where
  word_is : n + model.bit 32 c + model.bit 33 d + model.bit 34 f + model.bit 35 t ≡ n + 4294967296 * bit c + 8589934592 * bit d + 17179869184 * bit f + 34359738368 * bit t
  word_is =
      let x = bit_number 32 4294967296 refl c in let y = bit_number 33 8589934592 refl d in let z = bit_number 34 17179869184 refl f in let w = bit_number 35 34359738368 refl t in
      omega arith

  done_bit : n < 4294967296 → bit_at (n + model.bit 32 c + model.bit 33 d + model.bit 34 f + model.bit 35 t) 33 ≡ bit d
  done_bit less =
      let e = word_is in let s = bit_one c in
      bit_part _ 33 8589934592 (bit f + 2 * bit t) (n + 4294967296 * bit c) d refl (omega arith) (omega arith)

  failed_bit : n < 4294967296 → bit_at (n + model.bit 32 c + model.bit 33 d + model.bit 34 f + model.bit 35 t) 34 ≡ bit f
  failed_bit less =
      let e = word_is in let s = bit_one c in let u = bit_one d in
      bit_part _ 34 17179869184 (bit t) (n + 4294967296 * bit c + 8589934592 * bit d) f refl (omega arith) (omega arith)

pub done_word : (plan : Plan) (r : Run) (i : ℕ) → open_count plan r i < 4294967296 → bit_at (word_after plan r i) 33 ≡ bit (list_any (finishes i) r)
done_word plan r i small = done_bit (open_count plan r i) (list_any (claims i) r) (list_any (finishes i) r) (list_any (fails i) r) (list_any (takes i) r) small

pub failed_word : (plan : Plan) (r : Run) (i : ℕ) → open_count plan r i < 4294967296 → bit_at (word_after plan r i) 34 ≡ bit (list_any (fails i) r)
failed_word plan r i small = failed_bit (open_count plan r i) (list_any (claims i) r) (list_any (finishes i) r) (list_any (fails i) r) (list_any (takes i) r) small

pub true_from_bit : (b : Bool) → bit b ≡ 1 → b ≡ true
true_from_bit true e = refl
true_from_bit false e = absurd (omega arith)

pub false_from_bit : (b : Bool) → bit b ≢ 1 → b ≡ false
false_from_bit true n = absurd (n refl)
false_from_bit false n = refl
