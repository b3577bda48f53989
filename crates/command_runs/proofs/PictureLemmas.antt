-- Pictures that are not drawn.
use Rattle.std.proofs.Common.{◌≡◌, ◌≤◌, ℕ, List, Ok, Contains, drop, length, max, subst, sym, take}
use Rattle.std.proofs.lemmas.List.{take-append-drop}
use Rattle.std.proofs.lemmas.List.Elements.{Contains-append_left, Contains-append_right}
use Rattle.match_limits.proofs.ListLemmas.{contains_at}
use Rattle.match_puzzle.specs.Puzzle.{Task}
use Rattle.match_puzzle.specs.declared.placements.Placement.{Placement}
use Rattle.show_pictures.specs.Plans.{IsNotDrawn}
use Rattle.show_pictures.specs.declared.plans.NotDrawn.{NotDrawn}
use Rattle.show_pictures.specs.declared.plans.NotDrawn.TheVariants as not_drawn
use Rattle.match_text.specs.Lists.{list_of}
use Rattle.match_text.specs.Puzzles.{PuzzleReads}
use Rattle.byte_streams.specs.declared.documents.TwoTexts.{TwoTexts}
use Rattle.command_runs.specs.FaultText.{run_of_picture}
use Rattle.command_runs.specs.Pictures.{PictureFails}
use Rattle.command_runs.specs.Runs.{IsOfTexts}
use Rattle.cert_check.proofs.AnswerLemmas.{arrangement_no_fault}
use Rattle.cert_check.specs.Answer.{IsAnswer}
use Rattle.cert_check.specs.Setting.{Question}
use Rattle.cert_check.specs.declared.faults.Answer.TheVariants.{Complete}
use Rattle.match_report.specs.CompleteLists.{AreAllInOrder}
use Rattle.show_pictures.specs.declared.plans.PicturePlan.{PicturePlan}
use Rattle.command_runs.specs.Printing.{QuestionFails}
use Rattle.command_runs.specs.declared.printing_runs.Printing.TheVariants as printings

-- why nothing is drawn of the list that the texts spell is what a fault says of them
pub picture_fails : (number first : ℕ) (texts : TwoTexts) (p : Task) (listed : List (List Placement)) → PuzzleReads texts.puzzle (Ok p) → list_of texts.list ≡ Ok listed
    → (fault : NotDrawn) → IsNotDrawn number first p listed fault → PictureFails number first texts (run_of_picture fault) × IsOfTexts (run_of_picture fault)
picture_fails number first texts p listed reads lists (not_drawn.NoArrangement at) is = ((p, listed, reads, lists, is), tt)
picture_fails number first texts p listed reads lists (not_drawn.Arrangement at fault) is = ((p, listed, reads, lists, is), tt)
picture_fails number first texts p listed reads lists not_drawn.Memory is = (tt, tt)

-- what is taken of a list stands in it
pub contains_taken : {X : Type 0} (before many : ℕ) (xs : List X) (x : X) → Contains (take many (drop before xs)) x → Contains xs x
contains_taken before many xs x there =
    let rest = Contains-append_left (take many (drop before xs)) (drop many (drop before xs)) x there in
    let dropped = subst (λ ys. Contains ys x) (take-append-drop many (drop before xs)) rest in
    subst (λ ys. Contains ys x) (take-append-drop before xs) (Contains-append_right (take before xs) (drop before xs) x dropped)

-- nothing is drawn of all arrangements only where there are too few, since each of them is one
pub none_of_all : (plan : PicturePlan) (question : Question) (all : List (List Placement)) → IsAnswer question Complete → AreAllInOrder question all
    → (fault : NotDrawn) → IsNotDrawn plan.number plan.first question.puzzle all fault → QuestionFails (printings.Picture plan) question (run_of_picture fault) × IsOfTexts (run_of_picture fault)
none_of_all plan question all complete are (not_drawn.NoArrangement at) is =
    ((complete, (all, are, is.0, subst (λ number. length all ≤ number) (sym is.0) is.1)), tt)
none_of_all plan question all complete are (not_drawn.Arrangement at fault) is =
    let wrong = is.2.wrong in
    let drawn = contains_at (take (max plan.first 1) (drop plan.number all)) is.0 wrong.0 wrong.1 in
    let arrangement = (are.just wrong.0).0 (contains_taken plan.number (max plan.first 1) all wrong.0 drawn) in
    absurd (arrangement_no_fault question.puzzle wrong.0 fault arrangement wrong.2.occurs)
none_of_all plan question all complete are not_drawn.Memory is = (tt, tt)
