use Rattle.command_words.proofs.commands.with_list_commands.Goals as goal

pub returns : goal.returns
returns c = λ before is.
    let with_check = c.with_command-program.ensures _ _ is c.check.ensures in
    let with_explain = c.with_command-program-2.ensures _ _ with_check c.explain.ensures in
    let with_find = c.with_command-program-3.ensures _ _ with_explain c.find.ensures in
    let with_solve = c.with_command-program-4.ensures _ _ with_find c.solve.ensures in
    let with_expand = c.with_command-program-5.ensures _ _ with_solve c.expand.ensures in
    let with_page = c.with_command-program-6.ensures _ _ with_expand c.page.ensures in
    let with_count = c.with_command-program-7.ensures _ _ with_page c.count.ensures in
    c.with_command.ensures _ _ with_count c.total.ensures
