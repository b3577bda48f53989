use Rattle.std.proofs.Common.{◌≡◌, drop, map}
use Rattle.clap.specs.Words.{app_of}
use Rattle.command_words.specs.Commands.{IsLocal, with_rules}
use Rattle.command_words.specs.Tables.{app_by, rule_by}
use Rattle.command_words.proofs.commands.command_of.Given as goal

-- the arguments so far and those that are left are those of the table
abbrev pub invariant-loop-argument : goal.invariant-loop-argument
invariant-loop-argument l = record {
  app : with_rules (app_of l.command) (map rule_by (drop l.argument-index l.table.arguments.now)) ≡ app_by l.table;
  local : IsLocal l.command;
}
