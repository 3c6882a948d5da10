use Rattle.std.proofs.Common.{arith}
use Rattle.ts_scan.proofs.Walks.{map_some}
use Rattle.ts_disk.proofs.Noted.{forgot, known_pushed, others_kept, replaced}
use Rattle.ts_disk.specs.Known.{Becomes}
use Rattle.ts_disk.proofs.known.KnownArchives.note.Goals as goal
use Rattle.ts_disk.proofs.known.KnownArchives.note.Goals.{In_ok-push, in-Some, in-None, in-None-2}

-- what becomes of the lines
becomes : (c : In_ok-push) → Becomes c.args.self.now.pairs.items c.args.pair c.args.before c.args.last c.match-counterpart.noted c.push.new.self.items
becomes c =
    let old = c.args.self.now.pairs.items in
    let kept = c.match-counterpart.self.pairs.items in
    let noted = c.after.ensures.line in
    let pushed = c.in_ok-push.ensures.items in
    elim c.match-counterpart.branch [
      | in-Some w ↦ rw w.noted-is (replaced old kept _ _ _ _ _ w.in-Some.at w.in-Some.ensures.there w.in-Some.ensures.of noted (rw w.self-is w.remove.ensures.by_index.2) pushed)
      | in-None w ↦ rw w.noted-is (forgot old kept _ _ _ _ _ (let e = w.if-len-ge-MOST_PAIRS.true in omega (arith, w.len.ensures)) w.in-None.ensures.none noted (rw w.self-is w.remove-in-None.ensures.by_index.2) pushed)
      | in-None-2 w ↦ rw w.noted-is (w.in-None.ensures.none, (let e = w.if-len-ge-MOST_PAIRS.false in omega (arith, w.len.ensures)), (c.after.result, noted, rw (← w.self-is) pushed))
    ]

pub returns-clause-before : goal.returns-clause-before
returns-clause-before c =
    map_some _ _ c.args.before
    (λ d is. known_pushed (record { pairs = c.push.new.self }) _ c.after.result d c.in_ok-push.ensures.items is)
    c.after.ensures.says.2

pub returns-clause-others : goal.returns-clause-others
returns-clause-others c = others_kept _ _ c.args.before c.args.last _ _ (becomes c)

pub returns-clause-lines : goal.returns-clause-lines
returns-clause-lines c = becomes c
