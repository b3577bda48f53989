-- What a solve of a puzzle makes.
use Rattle.std.specs.Prelude.{◌≡◌, ◌≤◌, ◌++◌, ℕ, Bool, List, [], ◌∷◌, Ok, All, Vec, codes, false, length, map, true}
use Rattle.std.specs.declared.alloc.Global.{Global}
use Rattle.match_limits.specs.declared.TheConstants.{MOST_WORKERS}
use Rattle.match_limits.specs.declared.ranges.TheConstants.{SECOND}
use Rattle.match_puzzle.specs.Arrangement.{AreArrangements}
use Rattle.match_puzzle.specs.Puzzle.{Task}
use Rattle.match_puzzle.specs.declared.placements.Placement.{Placement}
use Rattle.match_text.specs.Puzzles.{PuzzleReads}
use Rattle.puzzle_symmetry.specs.Complete.{IsCompleteList}
use Rattle.cert_tree.specs.Certificate.{Contents}
use Rattle.cert_check.specs.Answer.{IsAnswer}
use Rattle.cert_check.specs.Setting.{Question, question_of}
use Rattle.cert_check.specs.declared.faults.Answer.TheVariants.{Complete, Refused}
use Rattle.cert_check.specs.declared.faults.Fault.{Fault}
use Rattle.match_report.specs.AnswerText.{answer_line}
use Rattle.match_report.specs.BoardText.{board_text}
use Rattle.match_report.specs.TallyText.{tally_text}
use Rattle.xcc_form.specs.Options.{HasTooManyEntries}
use Rattle.match_text.specs.ListSpelling.{IsListText, IsListWithin}
use Rattle.cert_text.specs.CertificateSpelling.{IsCertificateWithin}
use Rattle.cert_text.specs.Writing.{said_by}
use Rattle.text_crew.specs.Texts.{IsCertificateText}
use Rattle.match_symmetry.specs.Suggestions.{IsAskedFor}
use Rattle.match_symmetry.specs.declared.choices.Suggested.{Suggested}
use Rattle.match_symmetry.specs.declared.choices.Suggested.TheVariants as suggested
use Rattle.solver.specs.Solving.{IsSolvedBy}
use Rattle.solver.specs.declared.faults.SolveFault.TheVariants as solves
use Rattle.byte_streams.specs.Documents.{three}
use Rattle.byte_streams.specs.declared.outputs.Products.{Products}
use Rattle.command_runs.specs.Checking.{SpellCompleteList}
use Rattle.command_runs.specs.Describing.{DescribeFails}
use Rattle.show_text.specs.Facts.{number_line}
use Rattle.command_runs.specs.declared.solve_runs.Found.{Found}
use Rattle.command_runs.specs.declared.solve_runs.SolvePlan.{SolvePlan}
use Rattle.command_runs.specs.declared.faults.RunFault.{RunFault}
use Rattle.command_runs.specs.declared.faults.RunFault.TheVariants as runs

-- the first arrangement as it lies on the board, if there is one
abbrev pub first_board : Task → List (List Placement) → List ℕ
first_board p [] = []
first_board p (a ∷ listed) = board_text p a

-- the answer to a complete list of this length, where it was checked
abbrev pub checked_line : (check : Bool) → (listed : ℕ) → List ℕ
checked_line true listed = answer_line Complete listed
checked_line false listed = []

-- how much was found, by how many lemmas; who took them; the first arrangement; and the answer, where it was checked
abbrev pub report_text : Task → (listed : List (List Placement)) → (lemmas : ℕ) → (tally : List (List ℕ)) → (check : Bool)
    → List ℕ
report_text p listed lemmas tally check =
    number_line (codes "found") (length listed) ++ number_line (codes "lemmas") lemmas ++ tally_text tally
    ++ first_board p listed ++ checked_line check (length listed)

-- the numbers that each worker took
abbrev pub shares_of : List (Vec ℕ Global) → List (List ℕ)
shares_of tally = map (λ (taken : Vec ℕ Global). taken.items) tally

-- What was found is of the puzzle, and within the limits of the texts that say it.
pub record IsFound (found : Found) : Type 0 where
  pub arrangements : AreArrangements found.puzzle.now found.listed.now
  pub list : IsListWithin SECOND found.listed.now
  pub certificate : IsCertificateWithin (said_by 2 found.certificate.now)
  pub few : length found.shares.now ≤ MOST_WORKERS

-- whether what was found is a complete list
abbrev pub question_found : Found → Question
question_found found = question_of found.puzzle.now found.listed.now found.certificate.now

abbrev pub IsFoundComplete : Found → Type 0
IsFoundComplete found = IsCompleteList found.puzzle.now found.certificate.now.symmetries found.listed.now

-- It is asked for, and the check refuses it; or memory was refused.
abbrev pub IsNotChecked : (check : Bool) → Found → RunFault → Type 0
IsNotChecked check found runs.Refused = (check ≡ true) × (fault : Fault) × IsAnswer (question_found found) (Refused fault)
IsNotChecked check found runs.Memory = Unit {0}
IsNotChecked check found fault = ⊥

-- The texts that are made of what was found: the spellings of the arrangements and of the certificate, and the report.
pub record AreProducts (puzzle : Task) (listed : List (List Placement)) (contents : Contents) (tally : List (List ℕ))
    (check : Bool) (made : Products) : Type 0 where
  pub list_text : IsListText listed made.list
  pub certificate_text : IsCertificateText contents made.certificate
  pub report : made.report ≡ report_text puzzle listed (length contents.lemmas) tally check

-- The text spells a puzzle, and the products are made of what `workers` workers find of it. Each symmetry that the
-- certificate names is one that is asked for. Where it is checked, the text and the two that are made spell a complete
-- list: the main theorem.
pub record SolveGivesBy (symmetries : Suggested) (workers : ℕ) (check : Bool) (text : List ℕ) (made : Products)
    (ends : Unit {0}) : Type 0 where
  pub puzzle : Task
  pub puzzle_read : PuzzleReads text (Ok puzzle)
  pub listed : List (List Placement)
  pub tally : List (Vec ℕ Global)
  pub contents : Contents
  pub solved : IsSolvedBy puzzle workers listed tally contents
  pub asked_for : All (IsAskedFor symmetries) contents.symmetries
  pub products : AreProducts puzzle listed contents (shares_of tally) check made
  pub complete : check ≡ true → SpellCompleteList (three text made.list made.certificate)

-- what is given by this plan
abbrev pub SolveGivesOf : SolvePlan → (text : List ℕ) (made : Products) (ends : Unit {0}) → Type 0
SolveGivesOf plan = SolveGivesBy plan.search.symmetries plan.search.workers plan.check

-- what is given where all symmetries are asked for that are found, and no check is
abbrev pub SolveGives : (workers : ℕ) (text : List ℕ) (made : Products) (ends : Unit {0}) → Type 0
SolveGives workers = SolveGivesBy suggested.All workers false

-- The text spells a puzzle, of which `workers` workers find what a check refuses.
abbrev pub SpellsRefused : (workers : ℕ) (text : List ℕ) → Type 0
SpellsRefused workers text =
    (p : Task) × (listed : List (List Placement)) × (tally : List (Vec ℕ Global)) × (contents : Contents)
    × (fault : Fault) × PuzzleReads text (Ok p) × IsSolvedBy p workers listed tally contents
    × IsAnswer (question_of p listed contents) (Refused fault)

-- What a fault says of the text: it spells no puzzle, with this fault, or one that is not solved for this reason; or what
-- was found is to be checked, and is refused; or it is want of memory.
abbrev pub SolveFailsBy : (workers : ℕ) (check : Bool) (text : List ℕ) → RunFault → Type 0
SolveFailsBy workers check text (runs.Solve solves.TooMany) = (p : Task) × PuzzleReads text (Ok p) × HasTooManyEntries p
SolveFailsBy workers check text (runs.Solve solves.Memory) = ⊥
SolveFailsBy workers check text (runs.Solve fault) = (p : Task) × PuzzleReads text (Ok p)
SolveFailsBy workers check text runs.Refused = (check ≡ true) × SpellsRefused workers text
SolveFailsBy workers check text fault = DescribeFails text fault

-- what a fault says of the text by this plan
abbrev pub SolveFailsOf : SolvePlan → (text : List ℕ) → RunFault → Type 0
SolveFailsOf plan = SolveFailsBy plan.search.workers plan.check

-- what a fault says of the text where no check is asked for
abbrev pub SolveFails : (workers : ℕ) (text : List ℕ) → RunFault → Type 0
SolveFails workers = SolveFailsBy workers false
