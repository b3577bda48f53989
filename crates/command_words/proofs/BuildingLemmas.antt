-- Commands that are built of tables.
use Rattle.std.proofs.Common.{◌≡◌, ◌<◌, ◌+◌, ◌∙◌, ℕ, List, length, drop, map, get_or, sym, ap}
use Rattle.std.proofs.lemmas.List.{at_drop_more}
use Rattle.clap.specs.Words.{App, Rule, with_rule}
use Rattle.command_words.specs.Commands.{with_rules}
use Rattle.command_words.specs.Tables.{rule_by}
use Rattle.command_words.specs.declared.commands.Argument.{Argument}

-- a command that gets the next argument becomes, with those behind it, what it became before with that one too
pub one_more : (arguments : List Argument) (k : ℕ) (d : Argument) (before after whole : App) (rule : Rule) → k < length arguments → after ≡ with_rule before rule → rule ≡ rule_by (get_or arguments k d) → with_rules before (map rule_by (drop k arguments)) ≡ whole → with_rules after (map rule_by (drop (k + 1) arguments)) ≡ whole
one_more arguments k d before after whole rule inside adds same all =
    ap (λ app. with_rules app (map rule_by (drop (k + 1) arguments))) (adds ∙ ap (with_rule before) same)
    ∙ sym (at_drop_more (λ rest. with_rules before (map rule_by rest)) arguments k d inside)
    ∙ all
