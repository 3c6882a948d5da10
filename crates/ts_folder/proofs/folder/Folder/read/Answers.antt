use Rattle.std.proofs.Common.{◌≡◌, length, IfSome, ◌-◌, sym, subst, take, drop, arith}
use Rattle.std.proofs.lemmas.List.{length-drop}
use Rattle.ts_folder.specs.Folders.{Reads}
use Rattle.ts_model.specs.Trees.{at}
use Rattle.ts_folder.proofs.Ranges.{IsStep, step_reads, step_ends, ends_there}
use Rattle.ts_folder.proofs.folder.Folder.read.Goals as goal

pub returns-in_default-clause-told : goal.returns-in_default-clause-told
returns-in_default-clause-told g c =
    let size : c.len-start.result ≡ length c.loop-bytes.bytes.items = omega (arith, c.len-start.ensures, c.loop-bytes.bytes.ok.0) in
    ends_there (g.Self.Folder.tells c.args.self.now) c.args.path.now c.args.offset c.args.len c.loop-bytes.bytes.items (omega (arith, c.in_default.ensures, size)) c.ranges.offset.fits c.in_ok-file.ensures.lawful c.loop-bytes.invariant.2

pub loop-bytes-preserved : goal.loop-bytes-preserved
loop-bytes-preserved g c =
    let start = c.len-start.result in
    let n = c.in_ok-count.count in
    let room = c.min-room.result in
    let old = c.loop-bytes.bytes.items in
    let made = c.make_room.new.bytes.items in
    let new = c.fill_behind.new.bytes.items in
    let cut = c.truncate.new.self.items in
    let step : IsStep c.args.offset c.in-Some.at start room n old made new cut = record {
      full = omega (arith, c.len-start.ensures, c.loop-bytes.bytes.ok.0);
      place_is = c.in-Some.ensures.1;
      begins = subst (λ m. take m made ≡ old) (sym c.len-start.ensures) c.in_ok-make_room.ensures.before;
      kept = c.in_ok-count.ensures.before;
      size = omega (arith, c.in_ok-count.ensures.len, c.in_ok-make_room.ensures.len, c.fill_behind.new.bytes.ok.0);
      within = omega (arith, c.in_ok-count.ensures.bound, c.in_ok-make_room.ensures.len);
      cut_is = c.truncate.ensures.items;
    } in
    let piece = subst (λ m. IfSome (g.Self.Folder.tells c.args.self.now) (λ rows. Reads (at rows c.args.path.now) c.in-Some.at m (take n (drop start new)))) (let e : length (drop start new) ≡ room = omega (arith, length-drop start new, step.size) in e) (c.in_ok-count.ensures.told c.args.path.now c.loop-bytes.invariant.0) in
    (c.in_ok-count.ensures.opened c.args.path.now c.loop-bytes.invariant.0, omega (arith, c.truncate.ensures.len, c.truncate.new.self.ok.0, step.within, c.min-room.ensures, c.loop-bytes-test.true, c.len.ensures, c.len-start.ensures), step_reads (g.Self.Folder.tells c.args.self.now) c.args.path.now c.args.offset c.in-Some.at start room n old made new cut step c.loop-bytes.invariant.2 piece)

pub returns-then-count-room-clause-told : goal.returns-then-count-room-clause-told
returns-then-count-room-clause-told g c =
    let start = c.len-start.result in
    let n = c.in_ok-count.count in
    let room = c.min-room.result in
    let old = c.loop-bytes.bytes.items in
    let made = c.make_room.new.bytes.items in
    let new = c.fill_behind.new.bytes.items in
    let cut = c.truncate.new.self.items in
    let step : IsStep c.args.offset c.in-Some.at start room n old made new cut = record {
      full = omega (arith, c.len-start.ensures, c.loop-bytes.bytes.ok.0);
      place_is = c.in-Some.ensures.1;
      begins = subst (λ m. take m made ≡ old) (sym c.len-start.ensures) c.in_ok-make_room.ensures.before;
      kept = c.in_ok-count.ensures.before;
      size = omega (arith, c.in_ok-count.ensures.len, c.in_ok-make_room.ensures.len, c.fill_behind.new.bytes.ok.0);
      within = omega (arith, c.in_ok-count.ensures.bound, c.in_ok-make_room.ensures.len);
      cut_is = c.truncate.ensures.items;
    } in
    let piece = subst (λ m. IfSome (g.Self.Folder.tells c.args.self.now) (λ rows. Reads (at rows c.args.path.now) c.in-Some.at m (take n (drop start new)))) (let e : length (drop start new) ≡ room = omega (arith, length-drop start new, step.size) in e) (c.in_ok-count.ensures.told c.args.path.now c.loop-bytes.invariant.0) in
    step_ends (g.Self.Folder.tells c.args.self.now) c.args.path.now c.args.offset c.in-Some.at start room n c.args.len old made new cut step c.if-count-room.true (omega (arith, c.min-room.ensures, c.loop-bytes-test.true, c.len.ensures, c.len-start.ensures)) c.loop-bytes.invariant.2 piece
