-- What an order comes to, by the run that it makes and the files that it opens.
use Rattle.std.proofs.Common.{◌≡◌, ◌∙◌, ℕ, List, Result, Ok, Err, length, inr, refl, sym, subst}
use Rattle.match_report.specs.AnswerText.{answer_line}
use Rattle.byte_streams.specs.Documents.{Texts}
use Rattle.byte_streams.specs.Moves.{Writing}
use Rattle.byte_streams.specs.Origins.{Origin, one_source, two_sources}
use Rattle.byte_streams.specs.Targets.{Target, one_sink}
use Rattle.byte_streams.specs.declared.documents.TwoTexts.{TwoTexts}
use Rattle.byte_streams.specs.declared.faults.Document.TheVariants as documents
use Rattle.byte_streams.specs.declared.faults.InputFault.{InputFault}
use Rattle.byte_streams.specs.declared.files.FileSystem.{Ghosts as FileMembers}
use Rattle.byte_streams.specs.declared.sources.Source.{Ghosts as SourceMembers}
use Rattle.cert_check.specs.Setting.{Question}
use Rattle.cert_check.specs.declared.faults.Answer.{Answer}
use Rattle.cert_check.specs.declared.faults.Answer.TheVariants as answers
use Rattle.command_runs.specs.Checking.{Answers, CheckFails, CheckGives, SpellCompleteList}
use Rattle.match_report.specs.Statuses.{status_of}
use Rattle.command_orders.specs.Exits.{status_exit}
use Rattle.command_orders.specs.FileOrigins.{Opened}
use Rattle.command_orders.specs.PlaceOrigins.{BothOpened, OpenedAt, one_place, read_at, read_both, two_places}
use Rattle.command_words.specs.declared.places.Place.{Place}
use Rattle.command_words.specs.declared.places.Places.{Places}
use Rattle.command_words.specs.declared.places.TwoPlaces.{TwoPlaces}
use Rattle.command_runs.specs.Cuts.{PrintsCutListed}
use Rattle.command_runs.specs.Listed.{DrawFails, DrawsListed}
use Rattle.command_runs.specs.Pictures.{DrawsPicture, PictureFails}
use Rattle.command_orders.specs.OrderRuns.{DocumentsOf, DrawingOf, EndsBy, ThenDone}
use Rattle.command_runs.specs.Pages.{PageGives, PrintsPage}
use Rattle.command_runs.specs.Printing.{Prints, PrintingFails, PrintingGives}
use Rattle.command_runs.specs.Runs.{Runs}
use Rattle.command_orders.specs.declared.exits.Exit.{Exit}
use Rattle.command_orders.specs.declared.exits.Exit.TheVariants.{Done}
use Rattle.command_orders.specs.declared.place_runs.DocumentsPlan.{DocumentsPlan}
use Rattle.command_orders.specs.declared.place_runs.DocumentsPlan.TheVariants as plans
use Rattle.command_orders.specs.declared.place_runs.Drawing.{Drawing}
use Rattle.command_orders.specs.declared.place_runs.Drawing.TheVariants.{Arrangement, Picture, CutTiles}
use Rattle.match_report.specs.declared.statuses.Status.{Status}
use Rattle.match_report.specs.declared.statuses.Status.TheVariants as status
use Rattle.command_runs.specs.declared.faults.RunFault.{RunFault}
use Rattle.command_runs.specs.declared.page_runs.PagePlan.{PagePlan}
use Rattle.command_runs.specs.declared.printing_runs.Printing.{Printing}
use Rattle.command_runs.proofs.RunningLemmas.{ended, over}

-- a status that ends with all done is that of a list that is complete
answers_complete : (Is : Question → Answer → Type 0) (texts : Texts) (s : Status) → Answers texts Is s → status_exit s ≡ Done → SpellCompleteList texts
answers_complete Is texts s a done = (a.question, a.spelled, a.sound (complete a.answer (sym a.ends ∙ is_complete s done)))
  where
    is_complete : (s : Status) → status_exit s ≡ Done → s ≡ status.Complete
    is_complete status.Complete e = refl
    is_complete status.Refused e = absurd cc

    complete : (answer : Answer) → status_of answer ≡ status.Complete → answer ≡ answers.Complete
    complete answers.Complete e = refl
    complete (answers.Refused fault) e = absurd cc

pub check_complete : (texts : Texts) (printed : List ℕ) (s : Status) → CheckGives texts printed s → status_exit s ≡ Done → SpellCompleteList texts
check_complete texts printed s given = answers_complete (λ question answer. printed ≡ answer_line answer (length question.listed)) texts s given

pub printing_complete : (printing : Printing) (texts : Texts) (printed : List ℕ) (s : Status) → PrintingGives printing texts printed s → status_exit s ≡ Done → SpellCompleteList texts
printing_complete printing texts printed s given = answers_complete (λ question answer. Prints question answer printing printed) texts s given

pub page_complete : (plan : PagePlan) (texts : Texts) (printed : List ℕ) (s : Status) → PageGives plan texts printed s → status_exit s ≡ Done → SpellCompleteList texts
page_complete plan texts printed s given = answers_complete (λ question answer. PrintsPage plan texts question answer printed) texts s given

-- ---- runs over files

module _ (output : Writing) where
  module _ (gives : Texts → List ℕ → Status → Type 0) (fails : Texts → RunFault → Type 0) (law : (t : Texts) (m : List ℕ) (s : Status) → gives t m s → status_exit s ≡ Done → SpellCompleteList t) where
    ends_by : (texts : Texts) (printed : List ℕ) (s : Status) → gives texts printed s → EndsBy gives texts printed (status_exit s)
    ends_by texts printed s given = record { status = s; given = given; ends = refl; complete = λ done. law texts printed s given done }

    -- of three documents
    pub over_documents : (from : Origin Texts) (result : Result Status RunFault)
        → Runs from gives fails (one_sink output) result → Runs from (EndsBy gives) fails (one_sink output) (ended status_exit result)
    over_documents from result run = over from from gives (EndsBy gives) fails (one_sink output) status_exit (λ t g. g) (λ f s. s) ends_by result run

  -- what ends by nothing
  pub then_done : {T : Type 0} (from from' : Origin T) (gives : T → List ℕ → Unit {0} → Type 0) (fails : T → RunFault → Type 0)
      → ((t : T) → from.Gave t → from'.Gave t) → ((f : InputFault) → from.Stopped f → from'.Stopped f) → (result : Result (Unit {0}) RunFault)
      → Runs from gives fails (one_sink output) result → Runs from' (ThenDone gives) fails (one_sink output) (ended (λ e. Done) result)
  then_done from from' gives fails gave stopped result run =
      over from from' gives (ThenDone gives) fails (one_sink output) (λ e. Done) gave stopped (λ t m e g. (g, refl)) result run

-- what a run comes to by what else is said of where its texts come from
pub over_origin : {T M E : Type 0} (from from' : Origin T) (gives : T → M → E → Type 0) (fails : T → RunFault → Type 0) (to : Target M)
    → ((t : T) → from.Gave t → from'.Gave t) → ((f : InputFault) → from.Stopped f → from'.Stopped f)
    → (result : Result E RunFault) → Runs from gives fails to result → Runs from' gives fails to result
over_origin from from' gives fails to gave stopped (Ok e) run = over from from' gives gives fails to (λ e. e) gave stopped (λ t m e g. g) (Ok e) run
over_origin from from' gives fails to gave stopped (Err fault) run = over from from' gives gives fails to (λ e. e) gave stopped (λ t m e g. g) (Err fault) run

-- what a drawing comes to, so
pub drawing_over : (drawing : Drawing) (from from' : Origin TwoTexts) (output : Writing)
    → ((t : TwoTexts) → from.Gave t → from'.Gave t) → ((f : InputFault) → from.Stopped f → from'.Stopped f)
    → (result : Result Exit RunFault) → DrawingOf drawing from output result → DrawingOf drawing from' output result
drawing_over (Arrangement number) from from' output gave stopped result run = over_origin from from' (ThenDone (DrawsListed number)) (DrawFails number) (one_sink output) gave stopped result run
drawing_over (Picture plan) from from' output gave stopped result run = over_origin from from' (ThenDone (DrawsPicture plan.number plan.first)) (PictureFails plan.number plan.first) (one_sink output) gave stopped result run
drawing_over (CutTiles number plan) from from' output gave stopped result run = over_origin from from' (ThenDone (PrintsCutListed number plan.size)) (PictureFails number 0) (one_sink output) gave stopped result run

-- what a check of three documents comes to, so
pub documents_over : (plan : DocumentsPlan) (from from' : Origin Texts) (output : Writing)
    → ((t : Texts) → from.Gave t → from'.Gave t) → ((f : InputFault) → from.Stopped f → from'.Stopped f)
    → (result : Result Exit RunFault) → DocumentsOf plan from output result → DocumentsOf plan from' output result
documents_over (plans.Answer plan) from from' output gave stopped result run = over_origin from from' (EndsBy CheckGives) CheckFails (one_sink output) gave stopped result run
documents_over (plans.Printing plan) from from' output gave stopped result run = over_origin from from' (EndsBy (PrintingGives plan.printing)) (PrintingFails plan.printing) (one_sink output) gave stopped result run

module _ {S R W I : Type 0} (system : FileMembers S R W) (source : SourceMembers R) (at : S) (input : SourceMembers I) (given later : I) where
  -- of a puzzle that stands there
  pub over_place : {M E : Type 0} (gives : List ℕ → M → E → Type 0) (fails : List ℕ → RunFault → Type 0) (to : Target M) (place : Place) (opened : OpenedAt system source at place) (result : Result E RunFault)
      → Runs (one_source documents.Puzzle (read_at system source at input given later place opened)) gives fails to result
      → Runs (one_place system source at input given later place) gives fails to result
  over_place gives fails to place opened result run =
      over_origin (one_source documents.Puzzle (read_at system source at input given later place opened)) (one_place system source at input given later place) gives fails to (λ t gave. (opened, gave)) (λ f stops. inr (opened, stops)) result run

  -- of a puzzle and a list
  over_two : (drawing : Drawing) (two : TwoPlaces) (both : BothOpened system source at two) (output : Writing) (result : Result Exit RunFault)
      → DrawingOf drawing (read_both system source at input given later two both) output result
      → DrawingOf drawing (two_places system source at input given later two) output result
  over_two drawing two both output result run =
      drawing_over drawing (read_both system source at input given later two both) (two_places system source at input given later two) output (λ t gave. (both, gave)) (λ f stops. inr (both, stops)) result run

  -- where it is known where they stand
  pub over_two_at : (drawing : Drawing) (two : TwoPlaces) (puzzle list : Place) → two.puzzle ≡ puzzle → two.list ≡ list
      → (a : OpenedAt system source at puzzle) (b : OpenedAt system source at list) (output : Writing) (result : Result Exit RunFault)
      → DrawingOf drawing (two_sources (read_at system source at input given later puzzle a) (read_at system source at input given later list b)) output result
      → DrawingOf drawing (two_places system source at input given later two) output result
  over_two_at drawing two puzzle list p l =
      subst (λ (x : Place). (a : OpenedAt system source at x) (b : OpenedAt system source at list) (output : Writing) (result : Result Exit RunFault)
      → DrawingOf drawing (two_sources (read_at system source at input given later x a) (read_at system source at input given later list b)) output result
      → DrawingOf drawing (two_places system source at input given later two) output result) p
      (subst (λ (y : Place). (a : OpenedAt system source at two.puzzle) (b : OpenedAt system source at y) (output : Writing) (result : Result Exit RunFault)
      → DrawingOf drawing (two_sources (read_at system source at input given later two.puzzle a) (read_at system source at input given later y b)) output result
      → DrawingOf drawing (two_places system source at input given later two) output result) l
      (λ a b output result run. over_two drawing two (record { puzzle = a; list = b }) output result run))

-- a reader of the file of a name, as it was opened and as it is later
abbrev pub opened_as : {S R W : Type 0} (system : FileMembers S R W) (source : SourceMembers R) (at : S) (name given : List ℕ) (opened later : R)
    → given ≡ name → system.opens at given opened → Opened system source at name
opened_as system source at name given opened later same is = record { opened = opened; later = later; is_opened = subst (λ (n : List ℕ). system.opens at n opened) same is }
