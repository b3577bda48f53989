use Rattle.std.proofs.Common.{◌≡◌, ◌∙◌, ap, ap₂}
use Rattle.std.proofs.lemmas.Result.{IfOk-at_ok, IfOk-weaker}
use Rattle.clap.specs.Words.{AddsSubcommand, App, app_of, with_subcommand}
use Rattle.command_words.specs.Tables.{IsCommandAs}
use Rattle.command_words.proofs.commands.with_command.Goals as goal

pub returns : goal.returns
returns c = λ before app is made.
    let program = IfOk-at_ok (λ given. app_of given ≡ before) c.in_ok-program.was is in
    let command = IfOk-at_ok (IsCommandAs app) c.in_ok-command.was made in
    IfOk-weaker c.subcommand.result (AddsSubcommand c.in_ok-program.field-0 c.in_ok-command.field-0) (λ made. app_of made ≡ with_subcommand before app.top)
    (λ grown adds. adds.shape command.local ∙ ap₂ with_subcommand program (ap (λ (a : App). a.top) command.shape)) c.subcommand.ensures
