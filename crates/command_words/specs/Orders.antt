-- What words order.
use Rattle.std.specs.Prelude.{◌≡◌, ◌≢◌, ◌≤◌, ◌⊎◌, ◌∷◌, ℕ, Bool, List, Option, Some, None, [], Contains, codes, find, map, option_map, false, true}
use Rattle.std.specs.Option.{option_map_or}
use Rattle.std.specs.Str.{bytes_eq}
use Rattle.std.specs.String.{string_bytes}
use Rattle.std.specs.Str.Parse.{digits_value, without_leading_plus}
use Rattle.clap.specs.Values.{bool_text}
use Rattle.clap.specs.Words.{IsAmong, IsUnsignedIn, Row, Text, fault_of, first_of, kind_of, one_of, subcommand_of, takes}
use Rattle.clap.specs.declared.error.Error.{Error}
use Rattle.clap.specs.declared.error.kind.ErrorKind.TheVariants.{ArgumentConflict, OutOfMemory}
use Rattle.command_words.specs.declared.faults.WordsFault.{WordsFault}
use Rattle.command_words.specs.declared.faults.WordsFault.TheVariants.{Words, Memory}
use Rattle.command_words.specs.declared.orders.Extent.{Extent}
use Rattle.command_words.specs.declared.orders.Extent.TheVariants as extents
use Rattle.command_words.specs.declared.orders.WantedRules.{WantedRules}
use Rattle.command_words.specs.declared.orders.WantedRules.TheVariants as wanted
use Rattle.command_words.specs.declared.orders.WantedWorkers.{WantedWorkers}
use Rattle.command_words.specs.declared.orders.WantedWorkers.TheVariants as workers
use Rattle.command_words.specs.declared.places.Files.{Files}
use Rattle.command_words.specs.declared.orders.Subject.{Subject}
use Rattle.command_words.specs.declared.orders.Subject.TheVariants.{Board, Listed}
use Rattle.command_words.specs.declared.orders.Order.{Order}
use Rattle.command_words.specs.declared.orders.Order.TheVariants.{Joined, Check, Explain, ExplainPuzzle, Find, Solve, Expand, Page, Count, Census, Total, Generate, Show, Draw, DrawAll, Cut, Symmetries, Tiles}
use Rattle.command_words.specs.Commands.{whole_app}
use Rattle.command_words.specs.Parts.{IsPartsText, SpellsNumber}
use Rattle.match_limits.specs.declared.TheConstants.{MOST_DEPTH, MOST_WORKERS}
use Rattle.match_symmetry.specs.declared.choices.Suggested.{Suggested}
use Rattle.match_symmetry.specs.declared.choices.Suggested.TheVariants as suggested
use Rattle.puzzle_drafts.specs.declared.drafts.BorderKind.{BorderKind}
use Rattle.puzzle_drafts.specs.declared.drafts.BorderKind.TheVariants.{Frame, One, Free, Each}
use Rattle.puzzle_drafts.specs.declared.drafts.Choice.{Choice}
use Rattle.puzzle_drafts.specs.declared.drafts.Choice.TheVariants.{First, Hardest, Easiest}
use Rattle.puzzle_drafts.specs.declared.drafts.Draft.{Draft}
use Rattle.puzzle_drafts.specs.declared.drafts.PlainBoard.{PlainBoard}
use Rattle.puzzle_drafts.specs.declared.drafts.PlainBoard.TheVariants.{Rectangle, Triangle, Hexagon}
use Rattle.puzzle_drafts.specs.declared.drafts.PlainRules.{PlainRules}
use Rattle.command_words.specs.Places.{input_name}
use Rattle.command_words.specs.declared.places.Given.{Given}
use Rattle.command_words.specs.declared.places.Given.TheVariants.{Apart}
use Rattle.command_words.specs.declared.places.Given.TheVariants as given
use Rattle.command_words.specs.declared.places.PartPlaces.{PartPlaces}
use Rattle.command_words.specs.declared.places.PartPlaces.TheVariants as parts
use Rattle.command_words.specs.declared.places.Place.{Place}
use Rattle.command_words.specs.declared.places.Place.TheVariants.{File, Input}
use Rattle.command_words.specs.declared.places.Places.{Places}

-- The command of this name was entered by words that `clap` takes, and these are its matches.
pub record AreMatchesOf (name : Text) (rows : List Row) : Type 0 where
  pub words : List Text
  pub faultless : fault_of whole_app words ≡ []
  pub enters : subcommand_of whole_app words ≡ Some (name, rows)

-- the matches of a command have a text under this id
abbrev pub HasText : Text → List Row → Type 0
HasText id rows = (text : Text) × (first_of id rows ≡ Some text)

-- and it is a number from `least` to `most`
abbrev pub HasNumber : Text → (least most : ℕ) → List Row → Type 0
HasNumber id least most rows = (text : Text) × (first_of id rows ≡ Some text) × IsUnsignedIn least most text

-- where the matches of a command have a text under this id, it is a number from `least` to `most`
abbrev pub MayHaveNumber : Text → (least most : ℕ) → List Row → Type 0
MayHaveNumber id least most rows = (text : Text) → first_of id rows ≡ Some text → IsUnsignedIn least most text

-- by the matches of a command the flag of this id is given, or is not
abbrev pub IsFlagged : Text → List Row → Bool → Type 0
IsFlagged id rows given = one_of id rows ≡ Some (bool_text given)

-- the matches say whether the flag of this id is given
abbrev pub HasFlag : Text → List Row → Type 0
HasFlag id rows = (given : Bool) × IsFlagged id rows given

-- the matches name a puzzle and two files
abbrev pub HasFiles : List Row → Type 0
HasFiles rows = HasText (codes "PUZZLE") rows × HasText (codes "LIST") rows × HasText (codes "CERTIFICATE") rows

-- Where the document stands that the matches of a command have under an id: on standard input where its word is `-`, or in
-- the file of this name.
abbrev pub IsPlace : Text → List Row → Place → Type 0
IsPlace id rows Input = first_of id rows ≡ Some input_name
IsPlace id rows (File name) =
    (first_of id rows ≡ Some (string_bytes name)) × (string_bytes name ≢ input_name)

-- where the puzzle stands that the matches of `solve` name, and the files that they name
pub record NameFiles (rows : List Row) (files : Files) : Type 0 where
  pub puzzle : IsPlace (codes "PUZZLE") rows files.puzzle
  pub list : first_of (codes "LIST") rows ≡ Some (string_bytes files.list)
  pub certificate : first_of (codes "CERTIFICATE") rows ≡ Some (string_bytes files.certificate)

-- Neither the list nor the certificate is named as standard input is.
pub record AreWritable (files : Files) : Type 0 where
  pub list : string_bytes files.list ≢ input_name
  pub certificate : string_bytes files.certificate ≢ input_name

-- all values that the matches of a command have under an id, in order
abbrev pub values_of : Text → List Row → List Text
values_of id rows = option_map_or (λ row. row.values) (find (λ row. bytes_eq row.id id) rows) []

-- Where the lines of counted parts stand by these names: on standard input where `-` alone is named, or in the files of
-- these names, of which none is `-`.
abbrev pub AreNamedParts : (names : List Text) → PartPlaces → Type 0
AreNamedParts names parts.Input = names ≡ input_name ∷ []
AreNamedParts names (parts.Files files) = (map string_bytes files.items ≡ names) × (Contains names input_name → ⊥)

-- where a puzzle, a list and a certificate stand
pub record ArePlaces (rows : List Row) (places : Places) : Type 0 where
  pub puzzle : IsPlace (codes "PUZZLE") rows places.puzzle
  pub list : IsPlace (codes "LIST") rows places.list
  pub certificate : IsPlace (codes "CERTIFICATE") rows places.certificate

-- no document is named
pub record NameNothing (rows : List Row) : Type 0 where
  pub no_puzzle : first_of (codes "PUZZLE") rows ≡ None
  pub no_list : first_of (codes "LIST") rows ≡ None
  pub no_certificate : first_of (codes "CERTIFICATE") rows ≡ None

-- a puzzle is named, and nothing else
pub record NamesPuzzle (rows : List Row) (puzzle : Place) : Type 0 where
  pub at : IsPlace (codes "PUZZLE") rows puzzle
  pub no_list : first_of (codes "LIST") rows ≡ None
  pub no_certificate : first_of (codes "CERTIFICATE") rows ≡ None

-- how three documents are given: joined where none is named, or each where it is named
abbrev pub IsGiven : List Row → Given → Type 0
IsGiven rows given.Joined = NameNothing rows
IsGiven rows (Apart places) = ArePlaces rows places

-- the number that the matches of a command have under an id, a sign `+` before it or none; one that isn't given has its
-- default
abbrev pub number_of : Text → List Row → Option ℕ
number_of id rows = option_map (λ text. digits_value 10 (without_leading_plus text)) (first_of id rows)

-- The text under this id spells the number, which is from `least` to `most`.
pub record AsksForNumber (id : Text) (least most : ℕ) (rows : List Row) (number : ℕ) : Type 0 where
  pub text : Text
  pub found : first_of id rows ≡ Some text
  pub spelled : SpellsNumber text number
  pub enough : least ≤ number
  pub few : number ≤ most

-- how many workers the matches of a command ask for: as many as there are processors, or a number of them
abbrev pub AskForWorkers : List Row → WantedWorkers → Type 0
AskForWorkers rows workers.All = first_of (codes "workers") rows ≡ Some (codes "all")
AskForWorkers rows (workers.Number number) = AsksForNumber (codes "workers") 1 MOST_WORKERS rows number

-- the matches of a command ask for workers
abbrev pub HasWorkers : List Row → Type 0
HasWorkers rows = (workers : WantedWorkers) × AskForWorkers rows workers

-- how many levels the matches of `solve` ask for: as many as suit the puzzle, or a number of them
abbrev pub AskForDepth : List Row → Option ℕ → Type 0
AskForDepth rows None = first_of (codes "depth") rows ≡ Some (codes "auto")
AskForDepth rows (Some number) = AsksForNumber (codes "depth") 0 MOST_DEPTH rows number

-- a puzzle without a list, or one with a list and the number of an arrangement
abbrev pub IsSubject : List Row → Subject → Type 0
IsSubject rows (Board puzzle) = IsPlace (codes "PUZZLE") rows puzzle × (first_of (codes "LIST") rows ≡ None)
IsSubject rows (Listed places number) =
    IsPlace (codes "PUZZLE") rows places.puzzle × IsPlace (codes "LIST") rows places.list
    × (number_of (codes "N") rows ≡ Some number)

-- a puzzle with a list, and the certificate that is named behind `--all`
pub record ArePlacesToDraw (rows : List Row) (places : Places) : Type 0 where
  pub puzzle : IsPlace (codes "PUZZLE") rows places.puzzle
  pub list : IsPlace (codes "LIST") rows places.list
  pub certificate : IsPlace (codes "all") rows places.certificate

abbrev pub AreGivenToDraw : List Row → Given → Type 0
AreGivenToDraw rows given.Joined = ⊥
AreGivenToDraw rows (Apart places) = ArePlacesToDraw rows places

-- Neither all arrangements are drawn by the matches of `draw`, nor a sheet of several.
abbrev pub DrawsOne : List Row → Type 0
DrawsOne rows = (first_of (codes "all") rows ≡ None) × (number_of (codes "first") rows ≡ Some 0)

-- how long the side of a tile is by the matches of `draw`, in millimetres: 40 where they don't say it
abbrev pub IsTileSize : List Row → (size : ℕ) → Type 0
IsTileSize rows size =
    (number_of (codes "size") rows ≡ Some size) ⊎ ((first_of (codes "size") rows ≡ None) × (size ≡ 40))

-- Whether the matches of `draw` ask for tiles that are cut out, and of which size. A size is of these tiles alone.
abbrev pub AskForCut : List Row → (size : Option ℕ) → Type 0
AskForCut rows None = IsFlagged (codes "cut") rows false × (first_of (codes "size") rows ≡ None)
AskForCut rows (Some size) = IsFlagged (codes "cut") rows true × IsTileSize rows size × DrawsOne rows

-- how far a search counts by the matches of `count`
abbrev pub IsExtent : List Row → Extent → Type 0
IsExtent rows extents.All = (first_of (codes "most") rows ≡ None) × (first_of (codes "part") rows ≡ None)
IsExtent rows (extents.Most most) = (number_of (codes "most") rows ≡ Some most) × (first_of (codes "part") rows ≡ None)
IsExtent rows (extents.Parts parts) =
    (first_of (codes "most") rows ≡ None)
    × (text : Text) × (first_of (codes "part") rows ≡ Some text) × IsPartsText text parts

-- the word behind `--symmetries` that asks for these
abbrev pub word_for : Suggested → Text
word_for suggested.All = codes "all"
word_for suggested.OfBoard = codes "board"

-- which symmetries the matches of a command name
abbrev pub AskFor : List Row → Suggested → Type 0
AskFor rows symmetries = first_of (codes "symmetries") rows ≡ Some (word_for symmetries)

-- The matches of `solve` don't say how it searches: not by which depth, or how many workers, or which symmetries.
abbrev pub AsksForNoSearch : List Row → Type 0
AsksForNoSearch rows =
    (depth : Option ℕ) (workers : WantedWorkers) (symmetries : Suggested) → AskForDepth rows depth
    → AskForWorkers rows workers → AskFor rows symmetries → ⊥

-- The symmetries by whose orbits the matches of `find` go: without `--orbits` none, and with it those that are named, which
-- are the board's where none are.
abbrev pub AskForOrbits : List Row → Option Suggested → Type 0
AskForOrbits rows None = IsFlagged (codes "orbits") rows false × (first_of (codes "symmetries") rows ≡ None)
AskForOrbits rows (Some symmetries) =
    IsFlagged (codes "orbits") rows true
    × (AskFor rows symmetries ⊎ ((first_of (codes "symmetries") rows ≡ None) × (symmetries ≡ suggested.OfBoard)))

-- which board the matches of `generate` name
abbrev pub IsBoardAsked : List Row → PlainBoard → Type 0
IsBoardAsked rows (Rectangle width height) =
    (first_of (codes "KIND") rows ≡ Some (codes "rect")) × (number_of (codes "SIZE") rows ≡ Some width)
    × (number_of (codes "HEIGHT") rows ≡ Some height)
IsBoardAsked rows (Triangle size) =
    (first_of (codes "KIND") rows ≡ Some (codes "triangle")) × (number_of (codes "SIZE") rows ≡ Some size)
    × (first_of (codes "HEIGHT") rows ≡ None)
IsBoardAsked rows (Hexagon size) =
    (first_of (codes "KIND") rows ≡ Some (codes "hexagon")) × (number_of (codes "SIZE") rows ≡ Some size)
    × (first_of (codes "HEIGHT") rows ≡ None)

-- the word behind `--border` that asks for this
abbrev pub border_word : BorderKind → Text
border_word Frame = codes "frame"
border_word One = codes "one"
border_word Free = codes "free"
border_word Each = codes "each"

-- what the matches ask of the border, a frame where they say nothing
abbrev pub IsBorderAsked : List Row → BorderKind → Type 0
IsBorderAsked rows border =
    (first_of (codes "border") rows ≡ Some (border_word border))
    ⊎ ((first_of (codes "border") rows ≡ None) × (border ≡ Frame))

-- whether tiles may be turned by the matches, which they may where these say nothing
abbrev pub AreTurnsAsked : List Row → Bool → Type 0
AreTurnsAsked rows true = (first_of (codes "turns") rows ≡ Some (codes "yes")) ⊎ (first_of (codes "turns") rows ≡ None)
AreTurnsAsked rows false = first_of (codes "turns") rows ≡ Some (codes "no")

-- the rules that the matches of `generate` ask for
pub record ArePlainRules (rows : List Row) (rules : PlainRules) : Type 0 where
  pub board : IsBoardAsked rows rules.board
  pub border : IsBorderAsked rows rules.border
  pub turns : AreTurnsAsked rows rules.turns
  pub mates : IsFlagged (codes "mates") rows rules.mates

-- the matches of `generate` ask for no rules
pub record AskForNoRules (rows : List Row) : Type 0 where
  pub no_kind : first_of (codes "KIND") rows ≡ None
  pub no_size : first_of (codes "SIZE") rows ≡ None
  pub no_height : first_of (codes "HEIGHT") rows ≡ None
  pub no_border : first_of (codes "border") rows ≡ None
  pub no_turns : first_of (codes "turns") rows ≡ None
  pub no_mates : IsFlagged (codes "mates") rows false

-- the rules of the puzzle that is to be made: those that the matches ask for, or those of another puzzle
abbrev pub AreWantedRules : List Row → WantedRules → Type 0
AreWantedRules rows (wanted.Plain rules) = (first_of (codes "like") rows ≡ None) × ArePlainRules rows rules
AreWantedRules rows (wanted.Like puzzle) = IsPlace (codes "like") rows puzzle × AskForNoRules rows

-- which of the puzzles that will do is taken; one is only chosen of those that are to be unique
abbrev pub IsChoice : List Row → Choice → Type 0
IsChoice rows First = (first_of (codes "hardest") rows ≡ None) × (first_of (codes "easiest") rows ≡ None)
IsChoice rows (Hardest of) =
    (number_of (codes "hardest") rows ≡ Some of) × (first_of (codes "easiest") rows ≡ None)
    × IsFlagged (codes "unique") rows true
IsChoice rows (Easiest of) =
    (first_of (codes "hardest") rows ≡ None) × (number_of (codes "easiest") rows ≡ Some of)
    × IsFlagged (codes "unique") rows true

-- what the matches of `generate` ask of tiles and arrangements
pub record IsDraft (rows : List Row) (draft : Draft) : Type 0 where
  pub colours : number_of (codes "colours") rows ≡ Some draft.colours
  pub spare : number_of (codes "spare") rows ≡ Some draft.spare
  pub clues : number_of (codes "clues") rows ≡ Some draft.clues
  pub different : IsFlagged (codes "different") rows draft.is_different
  pub unique : IsFlagged (codes "unique") rows draft.is_unique
  pub tries : number_of (codes "tries") rows ≡ Some draft.tries
  pub choice : IsChoice rows draft.choice
  pub seed : number_of (codes "seed") rows ≡ Some draft.seed

-- The command and its matches give the order.
abbrev pub IsOrderOf : Option (Text × List Row) → Order → Type 0
IsOrderOf None Joined = Unit {0}
IsOrderOf (Some (name, rows)) (Check order) =
    (name ≡ codes "check") × IsGiven rows order.given × AskForWorkers rows order.workers
    × (number_of (codes "forks") rows ≡ Some order.forks) × IsFlagged (codes "progress") rows order.progress
    × IsFlagged (codes "hints") rows order.hints
IsOrderOf (Some (name, rows)) (Explain given) = (name ≡ codes "explain") × IsGiven rows given
IsOrderOf (Some (name, rows)) (ExplainPuzzle puzzle) = (name ≡ codes "explain") × NamesPuzzle rows puzzle
IsOrderOf (Some (name, rows)) (Find order) =
    (name ≡ codes "find") × IsPlace (codes "PUZZLE") rows order.puzzle × (number_of (codes "first") rows ≡ Some order.first)
    × AskForOrbits rows order.orbits × (number_of (codes "seed") rows ≡ Some order.seed)
    × AskForWorkers rows order.workers × IsFlagged (codes "progress") rows order.progress
IsOrderOf (Some (name, rows)) (Solve order) =
    (name ≡ codes "solve") × NameFiles rows order.files × AreWritable order.files
    × AskForDepth rows order.depth × (number_of (codes "fuel") rows ≡ Some order.fuel)
    × AskForWorkers rows order.workers × AskFor rows order.symmetries
    × IsFlagged (codes "check") rows order.check × IsFlagged (codes "progress") rows order.progress
    × IsFlagged (codes "hints") rows order.hints
IsOrderOf (Some (name, rows)) (Expand order) =
    (name ≡ codes "expand") × IsGiven rows order.given × IsFlagged (codes "orbits") rows order.orbits
    × IsFlagged (codes "hints") rows order.hints
IsOrderOf (Some (name, rows)) (Page order) =
    (name ≡ codes "page") × IsGiven rows order.given × (first_of (codes "title") rows ≡ Some (string_bytes order.title))
    × (number_of (codes "first") rows ≡ Some order.first) × IsFlagged (codes "hints") rows order.hints
IsOrderOf (Some (name, rows)) (Count given) =
    (name ≡ codes "count") × IsGiven rows given × IsExtent rows extents.All
    × HasWorkers rows
IsOrderOf (Some (name, rows)) (Census order) =
    (name ≡ codes "count") × NamesPuzzle rows order.puzzle × IsExtent rows order.extent
    × AskForWorkers rows order.workers × IsFlagged (codes "progress") rows order.progress
IsOrderOf (Some (name, rows)) (Total parts) = (name ≡ codes "total") × AreNamedParts (values_of (codes "FILE") rows) parts
IsOrderOf (Some (name, rows)) (Generate order) =
    (name ≡ codes "generate") × AreWantedRules rows order.rules × IsDraft rows order.draft
    × IsFlagged (codes "progress") rows order.progress
IsOrderOf (Some (name, rows)) (Show subject) = (name ≡ codes "show") × IsSubject rows subject
IsOrderOf (Some (name, rows)) (Draw order) =
    (name ≡ codes "draw") × IsSubject rows order.subject × AskForCut rows None
    × (first_of (codes "all") rows ≡ None) × (number_of (codes "first") rows ≡ Some order.first) × IsFlagged (codes "numbers") rows order.numbers
IsOrderOf (Some (name, rows)) (DrawAll order) =
    (name ≡ codes "draw") × AreGivenToDraw rows order.given × AskForCut rows None
    × (number_of (codes "N") rows ≡ Some order.number) × (number_of (codes "first") rows ≡ Some order.first)
    × IsFlagged (codes "numbers") rows order.numbers
IsOrderOf (Some (name, rows)) (Cut order) =
    (name ≡ codes "draw") × IsSubject rows order.subject × AskForCut rows (Some order.size)
    × IsFlagged (codes "numbers") rows order.numbers
IsOrderOf (Some (name, rows)) (Symmetries puzzle) =
    (name ≡ codes "symmetries") × IsPlace (codes "PUZZLE") rows puzzle
IsOrderOf (Some (name, rows)) (Tiles order) =
    (name ≡ codes "tiles") × (number_of (codes "SIDES") rows ≡ Some order.sides)
    × (number_of (codes "COLOURS") rows ≡ Some order.colours) × IsFlagged (codes "lines") rows order.lines
IsOrderOf matches order = ⊥

-- The words give the order, by what the program's commands make of them.
abbrev pub IsOrder : List Text → Order → Type 0
IsOrder words order = IsOrderOf (subcommand_of whole_app words) order

-- The fault of what `clap` answers: want of memory, or the words.
abbrev pub IsFaultOf : Error → WordsFault → Type 0
IsFaultOf error (Words e) = (e ≡ error) × (kind_of error ≢ OutOfMemory)
IsFaultOf error Memory = kind_of error ≡ OutOfMemory

-- The fault is that words of a command don't go together, or want of memory.
abbrev pub TellsOfMisfit : WordsFault → Type 0
TellsOfMisfit (Words error) = kind_of error ≡ ArgumentConflict
TellsOfMisfit Memory = Unit {0}

-- The matches give no order, of which the fault tells, or it is want of memory.
abbrev pub IsMisfit : Option (Text × List Row) → WordsFault → Type 0
IsMisfit matches (Words error) =
    ((order : Order) → IsOrderOf matches order → ⊥) × (kind_of error ≡ ArgumentConflict)
IsMisfit matches Memory = Unit {0}

-- The words are refused: `clap` doesn't take them, for a reason of one of its kinds, or what it makes of them gives no
-- order; or memory is refused.
abbrev pub IsRefused : (words : List Text) → WordsFault → Type 0
IsRefused words (Words error) =
    ((takes whole_app words ≢ true) × IsAmong (kind_of error) (fault_of whole_app words))
    ⊎ IsMisfit (subcommand_of whole_app words) (Words error)
IsRefused words Memory = Unit {0}
