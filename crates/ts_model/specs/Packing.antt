-- The action that is kept in little room.
use Rattle.std.specs.Prelude.{◌*◌, []}
use Rattle.ts_model.specs.Plans.{piece_size}
use Rattle.ts_model.specs.declared.packed.Form.{Form}
use Rattle.ts_model.specs.declared.packed.Form.TheVariants.{Piece, Commit, Mark, Other}
use Rattle.ts_model.specs.declared.plan.Action.{Action}
use Rattle.ts_model.specs.declared.plan.Kind.TheVariants as kind

abbrev pub action_in : Form → Action
action_in (Piece entry block length path) = record { kind = kind.Piece entry (block * piece_size) length path; preds = [] }
action_in (Commit entry preds) = record { kind = kind.Commit entry; preds = preds }
action_in (Mark entry preds) = record { kind = kind.Mark entry; preds = preds }
action_in (Other action) = action.value
