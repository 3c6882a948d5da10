-- How the command line is described to clap.
use Rattle.std.specs.Prelude.{◌≡◌, List, [], ◌∷◌, Some, true, false, codes, pos, IfOk, Result}
use Rattle.std.specs.declared.alloc.AllocError.{AllocError}
use Rattle.clap.specs.Words.{App, Rule, Shape, Text, app_of, new_rule}
use Rattle.clap.specs.Simple.{new_shape}
use Rattle.clap.specs.declared.builder.command.Command.{Command}
use Rattle.clap.specs.declared.builder.command.Command.TheViews.{out-Command}
use Rattle.clap.specs.declared.builder.action.ArgAction.TheVariants.{SetTrue}
use Rattle.clap.specs.declared.builder.value_parser.ValueParser.TheVariants as parser

-- a file or a folder that has to be named, by some word that isn't empty
abbrev pub place_rule : Text → Rule
place_rule id = record (new_rule id) { required = true; parser = Some parser.NonEmptyString }

-- an option: it takes one value, of which more may be said
abbrev pub option_rule : Text → Rule
option_rule id = record (new_rule id) { long = Some id; value_names = 1 }

abbrev pub workers_rule : Rule
workers_rule = record (option_rule (codes "workers")) {
  parser = Some (parser.Signed (pos 1) (pos 64));
  defaults = codes "4" ∷ [];
}

abbrev pub checkpoint_rule : Rule
checkpoint_rule = record (option_rule (codes "checkpoint")) { parser = Some (parser.Signed (pos 1) (pos 1048576)) }

abbrev pub holds_rule : Rule
holds_rule = record (option_rule (codes "holds")) { parser = Some parser.NonEmptyString }

-- a flag: it takes no value
abbrev pub flag_rule : Text → Rule
flag_rule id = record (new_rule id) { long = Some id; action = Some SetTrue }

abbrev pub json_rule : Rule
json_rule = flag_rule (codes "json")

abbrev pub allow_empty_rule : Rule
allow_empty_rule = flag_rule (codes "allow-empty")

abbrev pub hold_special_rule : Rule
hold_special_rule = flag_rule (codes "hold-special")

abbrev pub explain_rule : Rule
explain_rule = flag_rule (codes "explain")

abbrev pub quiet_rule : Rule
quiet_rule = flag_rule (codes "quiet")

-- the command has no argument that its subcommands share
abbrev pub IsLocal : Command → Type 0
IsLocal c = (out-Command c).has_globals ≡ false

-- what was made is this command line, unless memory ran out
abbrev pub Describes : Result Command AllocError → App → Type 0
Describes made app = IfOk made (λ c. app_of c ≡ app)

-- a command and what it takes
abbrev pub taking : Text → List Rule → Shape
taking name rules = record (new_shape name) { rules = rules }

-- the same, as a command line of its own
abbrev pub alone : Text → List Rule → App
alone name rules = record { top = taking name rules; subs = [] }

abbrev pub pair_rules : List Rule
pair_rules = place_rule (codes "FIRST") ∷ place_rule (codes "SECOND") ∷ place_rule (codes "ARCHIVE") ∷ holds_rule ∷ hold_special_rule ∷ workers_rule
    ∷ explain_rule ∷ quiet_rule ∷ []

abbrev pub planned_pair_rules : List Rule
planned_pair_rules = place_rule (codes "FIRST") ∷ place_rule (codes "SECOND") ∷ place_rule (codes "ARCHIVE") ∷ holds_rule ∷ hold_special_rule ∷ workers_rule
    ∷ explain_rule ∷ quiet_rule ∷ place_rule (codes "PLAN") ∷ []

abbrev pub previewed_pair_rules : List Rule
previewed_pair_rules = place_rule (codes "FIRST") ∷ place_rule (codes "SECOND") ∷ place_rule (codes "ARCHIVE") ∷ holds_rule ∷ hold_special_rule ∷ workers_rule
    ∷ explain_rule ∷ quiet_rule ∷ allow_empty_rule ∷ json_rule ∷ []

-- of the commands that change something
abbrev pub run_rules : List Rule
run_rules = place_rule (codes "FIRST") ∷ place_rule (codes "SECOND") ∷ place_rule (codes "ARCHIVE") ∷ holds_rule ∷ hold_special_rule ∷ workers_rule
    ∷ explain_rule ∷ quiet_rule ∷ place_rule (codes "PLAN") ∷ checkpoint_rule ∷ []

abbrev pub sync_rules : List Rule
sync_rules = place_rule (codes "FIRST") ∷ place_rule (codes "SECOND") ∷ place_rule (codes "ARCHIVE") ∷ holds_rule ∷ hold_special_rule ∷ workers_rule
    ∷ explain_rule ∷ quiet_rule ∷ allow_empty_rule ∷ checkpoint_rule ∷ []

-- the subcommands that work on no pair
abbrev pub trial_shape : Shape
trial_shape = taking (codes "trial") (workers_rule ∷ explain_rule ∷ [])

abbrev pub scan_shape : Shape
scan_shape = taking (codes "scan") (place_rule (codes "DIR") ∷ workers_rule ∷ explain_rule ∷ quiet_rule ∷ [])

abbrev pub show_shape : Shape
show_shape = taking (codes "show") (place_rule (codes "ARCHIVE") ∷ explain_rule ∷ [])

-- the command line before its subcommands, and with those that change nothing
abbrev pub line_head : App
line_head = record {
  top = record (new_shape (codes "twosync")) {
    has_version = true;
    subcommand_required = true;
    disable_help_subcommand = true;
  };
  subs = [];
}

abbrev pub looking_line : App
looking_line = record {
  top = record line_head.top { is_leaf = false };
  subs = trial_shape ∷ scan_shape ∷ show_shape ∷ taking (codes "plan") pair_rules ∷ taking (codes "check") planned_pair_rules
      ∷ taking (codes "preview") previewed_pair_rules ∷ [];
}

abbrev pub command_line : App
command_line = record {
  top = record (new_shape (codes "twosync")) {
    is_leaf = false;
    has_version = true;
    subcommand_required = true;
    disable_help_subcommand = true;
  };
  subs = taking (codes "trial") (workers_rule ∷ explain_rule ∷ [])
      ∷ taking (codes "scan") (place_rule (codes "DIR") ∷ workers_rule ∷ explain_rule ∷ quiet_rule ∷ [])
      ∷ taking (codes "show") (place_rule (codes "ARCHIVE") ∷ explain_rule ∷ [])
      ∷ taking (codes "plan") pair_rules
      ∷ taking (codes "check") planned_pair_rules
      ∷ taking (codes "preview") previewed_pair_rules
      ∷ taking (codes "run") run_rules
      ∷ taking (codes "sync") sync_rules
      ∷ [];
}
