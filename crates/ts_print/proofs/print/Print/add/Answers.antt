use Rattle.ts_table.proofs.Cuts.{IsListing-push}
use Rattle.ts_print.proofs.print.Print.add.Goals as goal

pub push-requires : goal.push-requires
push-requires c = IsListing-push c.args.self.now _ c.rows-rows.ensures.listing c.depth-depth.ensures.lawful c.requires.present c.requires.after c.requires.place
