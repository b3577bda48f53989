-- The program's commands, as tables have them.
use Rattle.std.specs.Prelude.{◌≡◌, ◌∷◌, [], Option, Some, None, false, map, true}
use Rattle.std.specs.Borrow.{Bor}
use Rattle.clap.specs.Words.{App, Rule, Text, app_of, new_app, new_rule, rule_of}
use Rattle.clap.specs.declared.builder.action.ArgAction.TheVariants.{Append, SetTrue}
use Rattle.clap.specs.declared.builder.arg.Arg.{Arg}
use Rattle.clap.specs.declared.builder.command.Command.{Command}
use Rattle.clap.specs.declared.builder.value_parser.ValueParser.TheVariants as parsers
use Rattle.command_words.specs.Commands.{IsLocal, with_rules}
use Rattle.command_words.specs.declared.commands.Argument.{Argument}
use Rattle.command_words.specs.declared.commands.CommandTable.{CommandTable}
use Rattle.command_words.specs.declared.commands.Kind.{Kind}
use Rattle.command_words.specs.declared.commands.Kind.TheVariants as kinds
use Rattle.command_words.specs.declared.commands.Number.{Number}

-- an argument of this name, given as its kind says
abbrev pub of_kind : Kind → Text → Rule → Rule
of_kind (kinds.Word is_wanted) id rule = record rule { required = is_wanted }
of_kind kinds.Words id rule = record rule { required = true; action = Some Append }
of_kind (kinds.WantedOption value) id rule = record rule { required = true; long = Some id; value_names = 1 }
of_kind (kinds.Option value) id rule = record rule { long = Some id; value_names = 1 }
of_kind (kinds.TextOption value default) id rule =
    record rule { long = Some id; value_names = 1; defaults = default.now ∷ [] }
of_kind kinds.Flag id rule = record rule { long = Some id; action = Some SetTrue }

abbrev pub with_default : Option (Bor Text) → Rule → Rule
with_default None rule = rule
with_default (Some default) rule = record rule { defaults = default.now ∷ [] }

-- an argument whose value is such a number, or a text where it is none
abbrev pub with_number : Option Number → Rule → Rule
with_number None rule = rule
with_number (Some number) rule =
    with_default number.default (record rule { parser = Some (parsers.Unsigned number.least number.most) })

-- what the argument is to `clap`
abbrev pub rule_by : Argument → Rule
rule_by argument = with_number argument.number (of_kind argument.kind argument.id.now (new_rule argument.id.now))

-- what the command of the table is to `clap`
abbrev pub app_by : CommandTable → App
app_by table = with_rules (new_app table.name.now) (map rule_by table.arguments.now)

-- one argument is the other, but given as the kind says
pub record IsOfKind (kind : Kind) (id : Text) (before after : Arg) : Type 0 where
  pub rule : rule_of after ≡ of_kind kind id (rule_of before)
  pub local : after.global ≡ before.global

-- one argument is the other, but its value is such a number
pub record IsNumbered (number : Number) (before after : Arg) : Type 0 where
  pub rule : rule_of after ≡ with_number (Some number) (rule_of before)
  pub local : after.global ≡ before.global

-- the argument as `clap` takes it
pub record IsArgOf (argument : Argument) (arg : Arg) : Type 0 where
  pub rule : rule_of arg ≡ rule_by argument
  pub local : arg.global ≡ false

-- a command that is this to `clap`, of which no argument is one of its subcommands too
pub record IsCommandAs (app : App) (command : Command) : Type 0 where
  pub shape : app_of command ≡ app
  pub local : IsLocal command
