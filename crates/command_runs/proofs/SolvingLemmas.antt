-- What a solve says of a puzzle, and texts that are made in parts.
use Rattle.std.proofs.Common.{◌≡◌, ◌++◌, ◌∙◌, ℕ, Bool, List, [], Ok, ap, refl}
use Rattle.std.specs.Prelude.{Vec}
use Rattle.std.specs.declared.alloc.Global.{Global}
use Rattle.match_puzzle.specs.Puzzle.{Task}
use Rattle.match_puzzle.specs.declared.placements.Placement.{Placement}
use Rattle.match_text.specs.Lists.{list_of}
use Rattle.puzzle_symmetry.specs.Complete.{IsCompleteList}
use Rattle.cert_tree.specs.Certificate.{Contents}
use Rattle.cert_text.specs.Writing.{said_by}
use Rattle.cert_check.specs.Setting.{question_of}
use Rattle.text_crew.specs.Texts.{ReadsBack}
use Rattle.byte_streams.specs.Documents.{Texts}
use Rattle.command_runs.specs.Checking.{SpellCompleteList}
use Rattle.command_runs.specs.declared.solve_runs.Found.{Found}
use Rattle.command_runs.specs.declared.faults.RunFault.{RunFault}
use Rattle.command_runs.specs.declared.faults.RunFault.TheVariants as runs
use Rattle.match_text.specs.Puzzles.{PuzzleReads}
use Rattle.xcc_form.specs.Options.{HasTooManyEntries}
use Rattle.solver.specs.declared.faults.SolveFault.{SolveFault}
use Rattle.solver.specs.declared.faults.SolveFault.TheVariants as solves
use Rattle.command_runs.specs.FaultText.{run_of_solve}
use Rattle.command_runs.specs.Runs.{IsOfTexts}
use Rattle.solver.specs.Solving.{IsSolvedBy}
use Rattle.command_runs.specs.Solving.{IsNotChecked, SolveFailsBy}

-- what a fault of a solve says of the text that spells the puzzle
pub solve_fails : (text : List ℕ) (p : Task) → PuzzleReads text (Ok p) → (fault : SolveFault) → (fault ≡ solves.TooMany → HasTooManyEntries p)
    → (workers : ℕ) (check : Bool) → SolveFailsBy workers check text (run_of_solve fault) × IsOfTexts (run_of_solve fault)
solve_fails text p read solves.TooMany many workers check = ((p, read, many refl), tt)
solve_fails text p read solves.GaveUp many workers check = ((p, read), tt)
solve_fails text p read solves.Full many workers check = ((p, read), tt)
solve_fails text p read solves.Memory many workers check = (tt, tt)

-- what a check that refuses what was found says of the text
pub refused_fails : (text : List ℕ) (found : Found) (workers : ℕ) (tally : List (Vec ℕ Global)) → PuzzleReads text (Ok found.puzzle.now) → IsSolvedBy found.puzzle.now workers found.listed.now tally found.certificate.now
    → (check : Bool) (fault : RunFault) → IsNotChecked check found fault → SolveFailsBy workers check text fault × IsOfTexts fault
refused_fails text found workers tally read solved check runs.Refused is =
    ((is.0, (found.puzzle.now, found.listed.now, tally, found.certificate.now, is.1, read, solved, is.2)), tt)
refused_fails text found workers tally read solved check runs.Memory is = (tt, tt)
refused_fails text found workers tally read solved check _ is = absurd is

-- texts that read as what is complete spell a complete list
pub read_back : (texts : Texts) (p : Task) (listed : List (List Placement)) (c : Contents) → PuzzleReads texts.puzzle (Ok p)
    → list_of texts.list ≡ Ok listed → ReadsBack texts.certificate c → IsCompleteList p c.symmetries listed → SpellCompleteList texts
read_back texts p listed c puzzle list certificate complete = (
  question_of p listed c,
  record {
    puzzle_read = puzzle;
    list_read = list;
    said = said_by certificate.0 c;
    certificate_read = certificate.1;
    symmetries = certificate.2.0;
    assembled = certificate.2.1;
  },
  complete,
)

-- five parts, one behind the other
pub five_parts : (text one two three four five a b c d e : List ℕ) → text ≡ [] → one ≡ text ++ a → two ≡ one ++ b → three ≡ two ++ c → four ≡ three ++ d → five ≡ four ++ e
    → five ≡ a ++ b ++ c ++ d ++ e
five_parts text one two three four five a b c d e none f g h i j =
    j ∙ ap (λ t. t ++ e) (i ∙ ap (λ t. t ++ d) (h ∙ ap (λ t. t ++ c) (g ∙ ap (λ t. t ++ b) (f ∙ ap (λ t. t ++ a) none))))
