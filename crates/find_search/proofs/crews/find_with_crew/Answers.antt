use Rattle.find_search.proofs.crews.find_with_crew.Goals as goal

pub run_crew-requires-clause-accepts : goal.run_crew-requires-clause-accepts
run_crew-requires-clause-accepts g c =
    let p = c.args.find.xcc.now.puzzle in
    λ κs below n lt. record { puzzle = c.cells-puzzle.ensures.puzzle; made = c.requires.symmetries; symmetries = c.see_symmetries.ensures p c.requires.symmetries }

pub found_alone-requires-clause-symmetries : goal.found_alone-requires-clause-symmetries
found_alone-requires-clause-symmetries g c =
    let p = c.args.find.xcc.now.puzzle in
    record { puzzle = c.cells-puzzle.ensures.puzzle; made = c.requires.symmetries; symmetries = c.see_symmetries.ensures p c.requires.symmetries }
