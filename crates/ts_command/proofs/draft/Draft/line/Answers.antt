use Rattle.std.proofs.Common.{◌∙◌, ap, true}
use Rattle.clap.specs.Words.{App}
use Rattle.clap.specs.Simple.{app_of_fields}
use Rattle.ts_command.proofs.draft.Draft.line.Goals as goal

-- the command line with its settings
abbrev with_settings : App → App
with_settings a = record a { top = record a.top { has_version = true; subcommand_required = true; disable_help_subcommand = true } }

pub returns : goal.returns
returns c =
    ap app_of_fields c.disable_help_subcommand-line.ensures
    ∙ ap (λ f. app_of_fields (record f { disable_help_subcommand = true })) c.subcommand_required.ensures
    ∙ ap (λ f. app_of_fields (record f { subcommand_required = true; disable_help_subcommand = true })) c.after_help.ensures
    ∙ ap (λ f. app_of_fields (record f { subcommand_required = true; disable_help_subcommand = true })) c.version.ensures
    ∙ ap (λ f. with_settings (app_of_fields f)) c.about.ensures
    ∙ ap with_settings c.new.ensures.app
