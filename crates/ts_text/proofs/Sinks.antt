-- What went out to a sink, in several writes.
use Rattle.std.proofs.Common.{ℕ, List, [], ◌++◌, Option, Result, Ok, Err, refl, sym, ap, ◌∙◌, append_assoc}
use Rattle.std.specs.Io.KnownBytes.{Appends, Keeps}
use Rattle.std.proofs.KnownBytes.{Appends-trans, Appends-nil, Appends-kept}
use Rattle.ts_text.specs.Sources.{AppendsFront, Writes}

-- nothing went out
pub front_none : (old new : Option (List ℕ)) (bytes : List ℕ) → Keeps old new → AppendsFront old new bytes
front_none old new bytes kept = record { front = []; rest = bytes; split = refl; added = Appends-kept old old new [] (Appends-nil old) kept }

-- a beginning of bytes is one of longer bytes
pub front_longer : (old new : Option (List ℕ)) (bytes more : List ℕ) → AppendsFront old new bytes → AppendsFront old new (bytes ++ more)
front_longer old new bytes more went = record {
  front = went.front;
  rest = went.rest ++ more;
  split = ap (λ l. l ++ more) went.split ∙ append_assoc went.front went.rest more;
  added = went.added;
}

-- some bytes, and then a beginning of more
pub front_after : (old mid new : Option (List ℕ)) (bytes more : List ℕ) → Appends old mid bytes → AppendsFront mid new more → AppendsFront old new (bytes ++ more)
front_after old mid new bytes more added went = record {
  front = bytes ++ went.front;
  rest = went.rest;
  split = ap (λ l. bytes ++ l) went.split ∙ sym (append_assoc bytes went.front went.rest);
  added = Appends-trans old mid new bytes went.front added went.added;
}

-- some bytes, and then another write
pub writes_after : {A E : Type 0} (old mid new : Option (List ℕ)) (bytes more : List ℕ) (r : Result A E) → Appends old mid bytes → Writes mid new more r → Writes old new (bytes ++ more) r
writes_after old mid new bytes more (Ok x) added went = Appends-trans old mid new bytes more added went
writes_after old mid new bytes more (Err e) added went = front_after old mid new bytes more added went
