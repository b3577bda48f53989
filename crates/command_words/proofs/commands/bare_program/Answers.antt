use Rattle.std.proofs.Common.{◌≡◌, ◌∙◌, ap, codes, true}
use Rattle.std.proofs.lemmas.Result.{IfOk-weaker}
use Rattle.clap.specs.Words.{App, Shape, app_of, new_app}
use Rattle.clap.specs.Simple.{app_of_fields, on_top}
use Rattle.command_words.specs.Commands.{bare_app}
use Rattle.command_words.proofs.commands.bare_program.Goals as goal

-- without the program's name before the words
abbrev nameless : App → App
nameless = on_top (λ (s : Shape). record s { no_binary_name = true })

abbrev versioned : App → App
versioned = on_top (λ (s : Shape). record s { has_version = true })

pub returns : goal.returns
returns c =
    let made : app_of c.after_help.result ≡ new_app (codes "edgematch") =
    ap app_of_fields c.after_help.ensures ∙ ap app_of_fields c.about.ensures ∙ c.new.ensures.app in
    let before : app_of c.no_binary_name.result ≡ nameless (versioned (new_app (codes "edgematch"))) =
    ap app_of_fields c.no_binary_name.ensures ∙ ap nameless (ap app_of_fields c.version.ensures ∙ ap versioned made) in
    IfOk-weaker c.bin_name.result _ (λ p. app_of p ≡ bare_app) (λ p made. ap app_of_fields made.0 ∙ before) c.bin_name.ensures
