-- What an order comes to.
use Rattle.std.specs.Prelude.{◌≡◌, ◌≤◌, ◌⊎◌, ℕ, Bool, true, false, List, Option, Result, Err}
use Rattle.std.specs.String.{string_bytes}
use Rattle.command_words.specs.declared.orders.Extent.{Extent}
use Rattle.command_words.specs.declared.orders.WantedRules.{WantedRules}
use Rattle.command_words.specs.declared.orders.WantedRules.TheVariants.{Plain, Like}
use Rattle.command_words.specs.declared.orders.WantedWorkers.{WantedWorkers}
use Rattle.command_words.specs.declared.orders.WantedWorkers.TheVariants as wanted
use Rattle.match_limits.specs.declared.TheConstants.{MOST_WORKERS}
use Rattle.puzzle_drafts.specs.declared.drafts.Draft.{Draft}
use Rattle.puzzle_drafts.specs.declared.drafts.PlainRules.{PlainRules}
use Rattle.command_words.specs.declared.orders.Subject.{Subject}
use Rattle.command_words.specs.declared.orders.Subject.TheVariants.{Board, Listed}
use Rattle.command_words.specs.declared.orders.Order.{Order}
use Rattle.command_words.specs.declared.orders.DrawAllOrder.{DrawAllOrder}
use Rattle.command_words.specs.declared.orders.PageOrder.{PageOrder}
use Rattle.command_words.specs.declared.orders.SolveOrder.{SolveOrder}
use Rattle.command_words.specs.declared.orders.Order.TheVariants.{Joined, Check, Explain, ExplainPuzzle, Find, Solve, Expand, Count, Page, Census, Total, Generate, Show, Draw, DrawAll, Cut, Symmetries, Tiles}
use Rattle.byte_streams.specs.Documents.{Texts}
use Rattle.byte_streams.specs.Moves.{Writing, reading_of}
use Rattle.byte_streams.specs.Origins.{Origin, joined_source, no_source}
use Rattle.byte_streams.specs.Targets.{Target, one_sink}
use Rattle.byte_streams.specs.declared.documents.TwoTexts.{TwoTexts}
use Rattle.byte_streams.specs.declared.files.FileSystem.{Ghosts as FileMembers}
use Rattle.byte_streams.specs.declared.outputs.Products.{Products}
use Rattle.byte_streams.specs.declared.sinks.Sink.{Ghosts as SinkMembers}
use Rattle.byte_streams.specs.declared.sources.Source.{Ghosts as SourceMembers}
use Rattle.command_runs.specs.Census.{CensusFails, CensusGives}
use Rattle.command_runs.specs.Checking.{CheckFails, CheckGives, SpellCompleteList}
use Rattle.command_runs.specs.Cuts.{PrintsCut, PrintsCutListed}
use Rattle.command_runs.specs.Describing.{Describes, DescribeFails}
use Rattle.command_orders.specs.Exits.{status_exit}
use Rattle.command_runs.specs.Finding.{FindFails, FindGives}
use Rattle.command_runs.specs.Generating.{GenerateFails, GenerateGives, LikeFails, LikeGives}
use Rattle.command_runs.specs.Listed.{DrawFails, DrawsListed}
use Rattle.command_runs.specs.Pages.{PageGives}
use Rattle.command_runs.specs.Pictures.{DrawsPicture, PictureFails}
use Rattle.command_runs.specs.Printing.{PrintingFails, PrintingGives}
use Rattle.command_runs.specs.Runs.{Runs}
use Rattle.command_orders.specs.InputUse.{LeavesInput, reads_input}
use Rattle.command_orders.specs.PartFiles.{given_parts}
use Rattle.command_orders.specs.PlaceOrigins.{given_documents, one_place, two_places}
use Rattle.command_orders.specs.SameStreams.{output_of}
use Rattle.command_orders.specs.SolvedFiles.{PutsAll, solved_files}
use Rattle.command_orders.specs.declared.place_runs.DocumentsPlan.{DocumentsPlan}
use Rattle.command_orders.specs.declared.place_runs.DocumentsPlan.TheVariants as plans
use Rattle.command_orders.specs.declared.place_runs.Drawing.{Drawing}
use Rattle.command_orders.specs.declared.place_runs.Drawing.TheVariants.{Arrangement, Picture, CutTiles}
use Rattle.command_orders.specs.declared.streams.Streams.{Streams}
use Rattle.command_runs.specs.Solving.{SolveFailsOf, SolveGivesOf}
use Rattle.command_runs.specs.declared.solve_runs.SolvePlan.{SolvePlan}
use Rattle.command_runs.specs.Totals.{TotalFails, TotalGives}
use Rattle.command_runs.specs.Tiles.{TileLinesGive, TilesFail, TilesGive}
use Rattle.command_runs.specs.declared.description_runs.Description.{Description}
use Rattle.command_runs.specs.declared.description_runs.Description.TheVariants as descriptions
use Rattle.command_runs.specs.declared.page_runs.PagePlan.{PagePlan}
use Rattle.command_runs.specs.declared.printing_runs.Printing.{Printing}
use Rattle.command_runs.specs.declared.printing_runs.Printing.TheVariants as printings
use Rattle.command_orders.specs.declared.exits.Exit.{Exit}
use Rattle.command_orders.specs.declared.exits.Exit.TheVariants as exits
use Rattle.match_report.specs.declared.statuses.Status.{Status}
use Rattle.match_symmetry.specs.declared.choices.Suggested.{Suggested}
use Rattle.command_runs.specs.declared.faults.RunFault.{RunFault}
use Rattle.command_runs.specs.declared.faults.RunFault.TheVariants as runs

-- What is given of three documents, and how the program ends by its status. Where that is done, the documents spell a
-- list that is complete: the main theorem.
pub record EndsBy (gives : Texts → List ℕ → Status → Type 0)
    (texts : Texts) (printed : List ℕ) (exit : Exit) : Type 0 where
  pub status : Status
  pub given : gives texts printed status
  pub ends : exit ≡ status_exit status
  pub complete : exit ≡ exits.Done → SpellCompleteList texts

-- What is given of texts, and all is done then.
abbrev pub ThenDone : {T M : Type 0} → (gives : T → M → Unit {0} → Type 0) → T → (made : M) → Exit → Type 0
ThenDone gives texts made exit = gives texts made tt × (exit ≡ exits.Done)

-- What a check comes to.
abbrev pub CheckOf : Origin Texts → Writing → Result Exit RunFault → Type 0
CheckOf from output result = Runs from (EndsBy CheckGives) CheckFails (one_sink output) result

-- a list of one of each orbit, or of all
abbrev pub list_printed : (orbits : Bool) → Printing
list_printed true = printings.Orbits
list_printed false = printings.All

-- What a check comes to that prints more than its answer.
abbrev pub PrintingOf : Printing → Origin Texts → Writing → Result Exit RunFault → Type 0
PrintingOf printing from output result =
    Runs from (EndsBy (PrintingGives printing)) (PrintingFails printing) (one_sink output) result

-- The plan is that of the page that is ordered.
pub record IsPlanOf (order : PageOrder) (plan : PagePlan) : Type 0 where
  pub title : plan.title.now ≡ string_bytes order.title
  pub first : plan.first ≡ order.first

-- What a check comes to that prints a page by this plan.
abbrev pub PageOf : PagePlan → Origin Texts → Writing → Result Exit RunFault → Type 0
PageOf plan from output result =
    Runs from (EndsBy (PageGives plan)) (PrintingFails printings.Count) (one_sink output) result

-- What a check of three documents comes to, by what it prints.
abbrev pub DocumentsOf : DocumentsPlan → Origin Texts → Writing → Result Exit RunFault → Type 0
DocumentsOf (plans.Answer plan) from output result = CheckOf from output result
DocumentsOf (plans.Printing plan) from output result = PrintingOf plan.printing from output result

-- What the description of a puzzle comes to.
abbrev pub DescriptionOf : Description → Origin (List ℕ) → Writing → Result Exit RunFault → Type 0
DescriptionOf description from output result =
    Runs from (ThenDone (Describes description)) DescribeFails (one_sink output) result

-- What pages come to with the tiles of a puzzle, whose sides are so many millimetres long.
abbrev pub CutTilesOf : (size : ℕ) → Origin (List ℕ) → Writing → Result Exit RunFault → Type 0
CutTilesOf size from output result =
    Runs from (ThenDone (PrintsCut size)) DescribeFails (one_sink output) result

-- What a count of a puzzle by a search comes to.
abbrev pub CensusOf : Extent → Origin (List ℕ) → Writing → Result Exit RunFault → Type 0
CensusOf extent from output result =
    Runs from (ThenDone (CensusGives extent)) (CensusFails extent) (one_sink output) result

-- What a search for some arrangements of a puzzle comes to.
abbrev pub FindOf : (first : ℕ) (orbits : Option Suggested) → Origin (List ℕ) → Writing → Result Exit RunFault → Type 0
FindOf first orbits from output result =
    Runs from (ThenDone (FindGives first orbits)) (FindFails orbits) (one_sink output) result

-- What a sum of counted parts comes to.
abbrev pub TotalOf : Origin (List ℕ) → Writing → Result Exit RunFault → Type 0
TotalOf from output result = Runs from (ThenDone TotalGives) TotalFails (one_sink output) result

-- What a puzzle comes to that is made by these rules.
abbrev pub PlainOf : PlainRules → Draft → Writing → Result Exit RunFault → Type 0
PlainOf rules draft output result =
    Runs no_source (ThenDone (GenerateGives rules draft)) (GenerateFails rules draft) (one_sink output) result

-- What a puzzle comes to that is made by the rules of another.
abbrev pub LikeOf : Draft → Origin (List ℕ) → Writing → Result Exit RunFault → Type 0
LikeOf draft from output result = Runs from (ThenDone (LikeGives draft)) (LikeFails draft) (one_sink output) result

-- What comes of a list of tiles: by lines of a puzzle's text, or by their words.
abbrev pub TilesOf : (sides colours : ℕ) (lines : Bool) → Writing → Result Exit RunFault → Type 0
TilesOf sides colours true output result =
    Runs no_source (ThenDone (TileLinesGive sides colours)) (TilesFail sides colours) (one_sink output) result
TilesOf sides colours false output result =
    Runs no_source (ThenDone (TilesGive sides colours)) (TilesFail sides colours) (one_sink output) result

-- There are as many workers as are asked for: this number of them, or some number where a worker for each processor is
-- asked for.
abbrev pub AreWorkersOf : WantedWorkers → (workers : ℕ) → Type 0
AreWorkersOf wanted.All workers = (1 ≤ workers) × (workers ≤ MOST_WORKERS)
AreWorkersOf (wanted.Number number) workers = workers ≡ number

-- The plan is that of the solve that is ordered.
pub record IsSolvePlanOf (order : SolveOrder) (plan : SolvePlan) : Type 0 where
  pub depth : plan.search.depth ≡ order.depth
  pub fuel : plan.search.fuel ≡ order.fuel
  pub workers : AreWorkersOf order.workers plan.search.workers
  pub symmetries : plan.search.symmetries ≡ order.symmetries
  pub check : plan.check ≡ order.check

-- What a solve by this plan comes to. It is not begun where two of the files are one, or one can't be made. Where it
-- put all, and another file is found under a name then, that is its fault.
abbrev pub SolveOf : SolvePlan → Origin (List ℕ) → Target Products → (PutsAll : Products → Type 0)
    → Result Exit RunFault → Type 0
SolveOf plan from to PutsAll result =
    Runs from (ThenDone (SolveGivesOf plan)) (SolveFailsOf plan) to result
    ⊎ (((result ≡ Err runs.Write) × to.Untouched)
    ⊎ ((result ≡ Err runs.Replaced)
    × (text : List ℕ) × (made : Products) × from.Gave text × SolveGivesOf plan text made tt × PutsAll made))

-- the picture of all arrangements that is ordered
abbrev pub picture_printed : DrawAllOrder → Printing
picture_printed order =
    printings.Picture (record { number = order.number; first = order.first; numbers = order.numbers })

-- What a drawing of what is listed comes to.
abbrev pub DrawingOf : Drawing → Origin TwoTexts → Writing → Result Exit RunFault → Type 0
DrawingOf (Arrangement number) from output result =
    Runs from (ThenDone (DrawsListed number)) (DrawFails number) (one_sink output) result
DrawingOf (Picture plan) from output result =
    Runs from (ThenDone (DrawsPicture plan.number plan.first)) (PictureFails plan.number plan.first) (one_sink output) result
DrawingOf (CutTiles number plan) from output result =
    Runs from (ThenDone (PrintsCutListed number plan.size)) (PictureFails number 0) (one_sink output) result

-- ---- orders

-- over files in a state, and standard input as it was and as it is later
module _ {S R W I : Type 0} (system : FileMembers S R W) (source : SourceMembers R) (input : SourceMembers I) (old : S)
    (given later : I)
  where
    -- What comes of showing the puzzle that stands there: its board, or an arrangement of a list on it.
    abbrev pub ShowOf : Subject → Writing → Result Exit RunFault → Type 0
    ShowOf (Board puzzle) output result =
        DescriptionOf descriptions.Board (one_place system source old input given later puzzle) output result
    ShowOf (Listed places number) output result =
        DrawingOf (Arrangement number) (two_places system source old input given later places) output result

    -- What comes of a picture of the puzzle that stands there: of its empty board and its tiles, or of what is listed.
    abbrev pub PictureOf : Subject → (first : ℕ) → Writing → Result Exit RunFault → Type 0
    PictureOf (Board puzzle) first output result =
        DescriptionOf descriptions.Picture (one_place system source old input given later puzzle) output result
    PictureOf (Listed places number) first output result =
        Runs (two_places system source old input given later places) (ThenDone (DrawsPicture number first))
        (PictureFails number first) (one_sink output) result

    -- What comes of pages with the tiles of the puzzle that stands there: with them alone, or with an arrangement of a list
    -- behind them.
    abbrev pub PagesOf : Subject → (size : ℕ) → Writing → Result Exit RunFault → Type 0
    PagesOf (Board puzzle) size output result =
        CutTilesOf size (one_place system source old input given later puzzle) output result
    PagesOf (Listed places number) size output result =
        Runs (two_places system source old input given later places) (ThenDone (PrintsCutListed number size))
        (PictureFails number 0) (one_sink output) result

    -- What comes of a puzzle that is made by these rules, or by those of the puzzle that stands there.
    abbrev pub GenerateOf : WantedRules → Draft → Writing → Result Exit RunFault → Type 0
    GenerateOf (Plain rules) draft output result = PlainOf rules draft output result
    GenerateOf (Like puzzle) draft output result =
        LikeOf draft (one_place system source old input given later puzzle) output result

    -- by files in a later state, and what was written
    module _ (new : S) (output : Writing) where
      -- What an order comes to. No order does anything to a file but a solve.
      abbrev pub RunOf : Order → Result Exit RunFault → Type 0
      RunOf Joined result = (new ≡ old) × CheckOf (joined_source (reading_of input given later)) output result
      RunOf (Check order) result =
          (new ≡ old) × CheckOf (given_documents system source old input given later order.given) output result
      RunOf (Explain documents) result =
          (new ≡ old)
          × PrintingOf printings.Explanation (given_documents system source old input given later documents) output result
      RunOf (ExplainPuzzle puzzle) result =
          (new ≡ old)
          × DescriptionOf descriptions.NoFault (one_place system source old input given later puzzle) output result
      RunOf (Expand order) result =
          (new ≡ old)
          × PrintingOf (list_printed order.orbits)
          (given_documents system source old input given later order.given) output result
      RunOf (Count documents) result =
          (new ≡ old)
          × PrintingOf printings.Count (given_documents system source old input given later documents) output result
      RunOf (Page order) result =
          (new ≡ old)
          × (plan : PagePlan) × IsPlanOf order plan
          × PageOf plan (given_documents system source old input given later order.given) output result
      RunOf (Census order) result =
          (new ≡ old)
          × CensusOf order.extent (one_place system source old input given later order.puzzle) output result
      RunOf (Find order) result =
          (new ≡ old)
          × FindOf order.first order.orbits (one_place system source old input given later order.puzzle) output result
      RunOf (Total places) result =
          (new ≡ old) × TotalOf (given_parts system source input old given later places) output result
      RunOf (Generate order) result = (new ≡ old) × GenerateOf order.rules order.draft output result
      RunOf (Solve order) result =
          (plan : SolvePlan) × IsSolvePlanOf order plan
          × SolveOf plan (one_place system source old input given later order.files.puzzle)
          (solved_files order.files system.does system.leads old new output)
          (PutsAll order.files system.does old new output) result
      RunOf (Show subject) result = (new ≡ old) × ShowOf subject output result
      RunOf (Draw order) result = (new ≡ old) × PictureOf order.subject order.first output result
      RunOf (DrawAll order) result =
          (new ≡ old)
          × PrintingOf (picture_printed order) (given_documents system source old input given later order.given) output
          result
      RunOf (Cut order) result = (new ≡ old) × PagesOf order.subject order.size output result
      RunOf (Symmetries puzzle) result =
          (new ≡ old)
          × DescriptionOf descriptions.Symmetries (one_place system source old input given later puzzle) output result
      RunOf (Tiles order) result = (new ≡ old) × TilesOf order.sides order.colours order.lines output result

-- What an order comes to, over files and streams in a state, and in a later one. What reads nothing of standard input
-- leaves it as it was.
abbrev pub RunOver : {S R F I W E : Type 0} → FileMembers S R F → SourceMembers R → SourceMembers I → SinkMembers W
    → (old : S) (before : Streams I W E) (new : S) (after : Streams I W E) → Order → Result Exit RunFault → Type 0
RunOver system source input sink old before new after order result =
    LeavesInput (reads_input order) before.input.now after.input.now
    × RunOf system source input old before.input.now after.input.now new (output_of sink before after) order result
