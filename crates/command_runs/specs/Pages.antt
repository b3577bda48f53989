-- A page that publishes a complete list.
use Rattle.std.specs.Prelude.{◌≡◌, ℕ, List, length, take}
use Rattle.cert_check.specs.Setting.{Question}
use Rattle.cert_check.specs.Answer.{IsAnswer, IsSound}
use Rattle.cert_check.specs.declared.faults.Answer.{Answer}
use Rattle.cert_check.specs.declared.faults.Answer.TheVariants.{Complete, Refused}
use Rattle.match_report.specs.AnswerText.{answer_line}
use Rattle.match_report.specs.CompleteLists.{IsCountOf}
use Rattle.match_report.specs.Statuses.{status_of}
use Rattle.match_report.specs.declared.statuses.Status.{Status}
use Rattle.symmetry_orbits.specs.declared.numbers.Count.{Count}
use Rattle.show_page.specs.Holes.{holes_of}
use Rattle.show_page.specs.Pages.{page_text}
use Rattle.show_page.specs.Pictures.{IsFirstPicture, IsSheetOf}
use Rattle.show_page.specs.Texts.{ThreeTexts}
use Rattle.show_page.specs.declared.counts.PageCounts.{PageCounts}
use Rattle.byte_streams.specs.Documents.{Texts}
use Rattle.command_runs.specs.Checking.{Answers}
use Rattle.command_runs.specs.declared.page_runs.PagePlan.{PagePlan}

-- the texts that a page holds
abbrev pub held : Texts → ThreeTexts
held texts = record { puzzle = texts.puzzle; list = texts.list; certificate = texts.certificate }

-- what a page tells of a question: how many arrangements, pictures and orbits the puzzle has, how many symmetries are
-- named, and how many arrangements are listed
abbrev pub counts_in : Question → Count → PageCounts
counts_in question count =
    record { count = count; symmetries = length question.symmetries; listed = length question.listed }

-- The page of these texts under the plan's title. It tells how many arrangements their puzzle has, and shows the first
-- listed one, and a sheet of as many as the plan says.
pub record IsPage (plan : PagePlan) (texts : Texts) (question : Question) (text : List ℕ) : Type 0 where
  pub count : Count
  pub counted : IsCountOf question count
  pub first : List ℕ
  pub shows : IsFirstPicture question.puzzle question.listed first
  pub sheet : List ℕ
  pub shows_several : IsSheetOf question.puzzle (take plan.first question.listed) sheet
  pub is : text ≡ page_text (holes_of plan.title.now (held texts) (counts_in question count) first sheet)

-- What is printed of the question that these texts ask: the page where the list is complete, else the answer.
abbrev pub PrintsPage : PagePlan → Texts → Question → Answer → List ℕ → Type 0
PrintsPage plan texts question Complete text = IsPage plan texts question text
PrintsPage plan texts question (Refused fault) text = text ≡ answer_line (Refused fault) (length question.listed)

-- What is printed of three documents, and the status.
abbrev pub PageGives : PagePlan → Texts → (printed : List ℕ) → Status → Type 0
PageGives plan texts printed status =
    Answers texts (λ question answer. PrintsPage plan texts question answer printed) status

-- What is printed of a question that these texts ask, and the status.
pub record IsPagePrinted (texts : Texts) (plan : PagePlan) (question : Question) (printed : List ℕ) (status : Status)
    : Type 0 where
  pub answer : Answer
  pub answered : IsAnswer question answer
  pub sound : IsSound question answer
  pub is : PrintsPage plan texts question answer printed
  pub ends : status ≡ status_of answer
