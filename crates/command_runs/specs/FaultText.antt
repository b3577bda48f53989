-- How a fault of a run is told, and printed.
use Rattle.std.specs.Prelude.{ℕ, List, [], ◌∷◌, ◌++◌, codes, decimal}
use Rattle.cert_tree.specs.declared.faults.AssembleFault.TheVariants as assemblies
use Rattle.match_board.specs.declared.classes.TilesFault.{TilesFault}
use Rattle.match_board.specs.declared.classes.TilesFault.TheVariants as tile_lists
use Rattle.match_text.specs.declared.faults.PuzzleTextFault.{PuzzleTextFault}
use Rattle.match_text.specs.declared.faults.PuzzleTextFault.TheVariants as puzzle_text
use Rattle.match_puzzle.specs.declared.faults.PuzzleFault.TheVariants as puzzles
use Rattle.text_words.specs.declared.faults.ReadFault.{ReadFault}
use Rattle.text_words.specs.declared.faults.ReadFault.TheVariants as list_text
use Rattle.cert_text.specs.declared.faults.CertTextFault.{CertTextFault}
use Rattle.cert_text.specs.declared.faults.CertTextFault.TheVariants as cert_text
use Rattle.symmetry_orbits.specs.declared.expansions.ExpandFault.{ExpandFault}
use Rattle.symmetry_orbits.specs.declared.expansions.ExpandFault.TheVariants as expansions
use Rattle.find_search.specs.declared.faults.FindFault.{FindFault}
use Rattle.find_search.specs.declared.faults.FindFault.TheVariants as finds
use Rattle.show_pictures.specs.declared.plans.NotDrawn.{NotDrawn}
use Rattle.show_pictures.specs.declared.plans.NotDrawn.TheVariants as not_drawn
use Rattle.puzzle_maker.specs.declared.faults.MakeFault.{MakeFault}
use Rattle.puzzle_maker.specs.declared.faults.MakeFault.TheVariants as makes
use Rattle.solver.specs.declared.faults.SolveFault.{SolveFault}
use Rattle.solver.specs.declared.faults.SolveFault.TheVariants as solves
use Rattle.xcc_form.specs.declared.faults.CompileFault.{CompileFault}
use Rattle.xcc_form.specs.declared.faults.CompileFault.TheVariants as compiles
use Rattle.byte_streams.specs.declared.faults.FileFault.{FileFault}
use Rattle.byte_streams.specs.declared.faults.FileFault.TheVariants as files
use Rattle.byte_streams.specs.declared.faults.InputFault.{InputFault}
use Rattle.byte_streams.specs.declared.faults.InputFault.TheVariants as inputs
use Rattle.byte_streams.specs.FaultText.{document_word}
use Rattle.match_board.specs.FaultText.{tiles_fault_text}
use Rattle.match_puzzle.specs.FaultText.{arrangement_fault_text}
use Rattle.text_words.specs.FaultText.{read_fault_text}
use Rattle.match_text.specs.FaultText.{puzzle_text_fault_text}
use Rattle.count_totals.specs.FaultText.{parts_fault_text}
use Rattle.count_totals.specs.declared.faults.PartsFault.{PartsFault}
use Rattle.count_totals.specs.declared.faults.PartsFault.TheVariants as parts_text
use Rattle.cert_text.specs.FaultText.{cert_text_fault_text}
use Rattle.puzzle_maker.specs.FaultText.{make_fault_text}
use Rattle.solver.specs.FaultText.{solve_fault_text}
use Rattle.symmetry_orbits.specs.FaultText.{expand_fault_text}
use Rattle.command_runs.specs.declared.faults.RunFault.{RunFault}
use Rattle.command_runs.specs.declared.faults.RunFault.TheVariants.{Read, TooLong, Puzzle, List as Listing, Certificate, Parts, NoArrangement, Arrangement}
use Rattle.command_runs.specs.declared.faults.RunFault.TheVariants.{Solve, Make, Refused, Expand, Tiles, Write, Replaced, Memory}

-- ---- faults of parts, and want of memory, wherever it was met

abbrev pub run_of_input : InputFault → RunFault
run_of_input (inputs.Read document) = Read document
run_of_input (inputs.TooLong document) = TooLong document
run_of_input inputs.Memory = Memory

abbrev pub run_of_file : FileFault → RunFault
run_of_file (files.Refused why) = Write
run_of_file files.Memory = Memory

abbrev pub run_of_puzzle : PuzzleTextFault → RunFault
run_of_puzzle (puzzle_text.Text fault) = Puzzle (puzzle_text.Text fault)
run_of_puzzle (puzzle_text.Board fault) = Puzzle (puzzle_text.Board fault)
run_of_puzzle (puzzle_text.Puzzle fault) = Puzzle (puzzle_text.Puzzle fault)
run_of_puzzle puzzle_text.Memory = Memory

abbrev pub run_of_list : ReadFault → RunFault
run_of_list (list_text.Text fault) = Listing (list_text.Text fault)
run_of_list list_text.Memory = Memory

abbrev pub run_of_certificate : CertTextFault → RunFault
run_of_certificate (cert_text.Text fault) = Certificate (cert_text.Text fault)
run_of_certificate (cert_text.Assemble fault) = Certificate (cert_text.Assemble fault)
run_of_certificate cert_text.Memory = Memory

abbrev pub run_of_parts : PartsFault → RunFault
run_of_parts parts_text.Memory = Memory
run_of_parts fault = Parts fault

abbrev pub run_of_solve : SolveFault → RunFault
run_of_solve solves.GaveUp = Solve solves.GaveUp
run_of_solve solves.TooMany = Solve solves.TooMany
run_of_solve solves.Full = Solve solves.Full
run_of_solve solves.Memory = Memory

abbrev pub run_of_make : MakeFault → RunFault
run_of_make (makes.Misfit misfit) = Make (makes.Misfit misfit)
run_of_make makes.GaveUp = Make makes.GaveUp
run_of_make makes.TooMany = Make makes.TooMany
run_of_make makes.Memory = Memory

abbrev pub run_of_compile : CompileFault → RunFault
run_of_compile compiles.TooMany = Solve solves.TooMany
run_of_compile compiles.Memory = Memory

abbrev pub run_of_expand : ExpandFault → RunFault
run_of_expand expansions.TooMany = Expand
run_of_expand expansions.Memory = Memory

abbrev pub run_of_find : FindFault → RunFault
run_of_find finds.TooMany = Expand
run_of_find finds.Memory = Memory

abbrev pub run_of_picture : NotDrawn → RunFault
run_of_picture (not_drawn.NoArrangement number) = NoArrangement number
run_of_picture (not_drawn.Arrangement number fault) = Arrangement number fault
run_of_picture not_drawn.Memory = Memory

abbrev pub run_of_tiles : TilesFault → RunFault
run_of_tiles tile_lists.TooMany = Tiles
run_of_tiles tile_lists.Memory = Memory

-- ---- text

-- Want of memory is told by itself, wherever it was met; what else is wrong with a document stands behind its name.
unfoldable pub run_fault_text : RunFault → List ℕ
run_fault_text (Read document) = codes "cannot read " ++ document_word document
run_fault_text (TooLong document) = codes "too long " ++ document_word document
run_fault_text (Puzzle puzzle_text.Memory) = codes "out of memory"
run_fault_text (Puzzle (puzzle_text.Puzzle puzzles.Memory)) = codes "out of memory"
run_fault_text (Puzzle fault) = codes "puzzle: " ++ puzzle_text_fault_text fault
run_fault_text (Listing list_text.Memory) = codes "out of memory"
run_fault_text (Listing fault) = codes "list: " ++ read_fault_text fault
run_fault_text (Certificate cert_text.Memory) = codes "out of memory"
run_fault_text (Certificate (cert_text.Assemble assemblies.Memory)) = codes "out of memory"
run_fault_text (Certificate fault) = codes "certificate: " ++ cert_text_fault_text fault
run_fault_text (Parts parts_text.Memory) = codes "out of memory"
run_fault_text (Parts fault) = codes "parts: " ++ parts_fault_text fault
run_fault_text (NoArrangement number) = codes "list: no arrangement " ++ decimal number
run_fault_text (Arrangement number fault) =
    codes "list: arrangement " ++ decimal number ++ codes ": " ++ arrangement_fault_text fault
run_fault_text (Solve fault) = solve_fault_text fault
run_fault_text (Make fault) = make_fault_text fault
run_fault_text Refused = codes "the check refuses what was found"
run_fault_text Expand = expand_fault_text expansions.TooMany
run_fault_text Tiles = tiles_fault_text tile_lists.TooMany
run_fault_text Write = codes "cannot write"
run_fault_text Replaced = codes "another run wrote there"
run_fault_text Memory = codes "out of memory"

-- the line of a fault
abbrev pub fault_line : RunFault → List ℕ
fault_line fault = run_fault_text fault ++ 10 ∷ []
