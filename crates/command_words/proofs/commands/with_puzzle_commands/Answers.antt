use Rattle.command_words.proofs.commands.with_puzzle_commands.Goals as goal

pub returns : goal.returns
returns c = λ before is.
    let with_generate = c.with_command-program.ensures _ _ is c.generate.ensures in
    let with_show = c.with_command-program-2.ensures _ _ with_generate c.show.ensures in
    let with_draw = c.with_command-program-3.ensures _ _ with_show c.draw.ensures in
    let with_symmetries = c.with_command-program-4.ensures _ _ with_draw c.symmetries.ensures in
    c.with_command.ensures _ _ with_symmetries c.tiles.ensures
