use Rattle.command_words.proofs.commands.program.Goals as goal

pub returns : goal.returns
returns c = c.with_puzzle_commands.ensures _ (c.with_list_commands-program.ensures _ c.bare_program.ensures)
