-- Which orders read standard input, and what the others leave of it.
use Rattle.std.specs.Prelude.{◌≡◌, ◌||◌, Bool, true, false}
use Rattle.command_words.specs.declared.orders.Order.{Order}
use Rattle.command_words.specs.declared.orders.Order.TheVariants.{Joined, Check, Explain, ExplainPuzzle, Find, Solve, Expand, Count, Page, Census, Total, Generate, Show, Draw, DrawAll, Cut, Symmetries, Tiles}
use Rattle.command_words.specs.declared.orders.WantedRules.{WantedRules}
use Rattle.command_words.specs.declared.orders.WantedRules.TheVariants.{Plain, Like}
use Rattle.command_words.specs.declared.orders.Subject.{Subject}
use Rattle.command_words.specs.declared.orders.Subject.TheVariants.{Board, Listed}
use Rattle.command_words.specs.declared.places.Given.{Given}
use Rattle.command_words.specs.declared.places.Given.TheVariants as given
use Rattle.command_words.specs.declared.places.PartPlaces.{PartPlaces}
use Rattle.command_words.specs.declared.places.PartPlaces.TheVariants as parts
use Rattle.command_words.specs.declared.places.Place.{Place}
use Rattle.command_words.specs.declared.places.Place.TheVariants as one
use Rattle.command_words.specs.declared.places.Places.{Places}
use Rattle.command_words.specs.declared.places.TwoPlaces.{TwoPlaces}

abbrev pub is_on_input : Place → Bool
is_on_input one.Input = true
is_on_input (one.File name) = false

abbrev pub is_one_of_two_on_input : TwoPlaces → Bool
is_one_of_two_on_input places = is_on_input places.puzzle || is_on_input places.list

abbrev pub is_one_on_input : Places → Bool
is_one_on_input places =
    is_on_input places.puzzle || (is_on_input places.list || is_on_input places.certificate)

abbrev pub is_given_on_input : Given → Bool
is_given_on_input given.Joined = true
is_given_on_input (given.Apart places) = is_one_on_input places

abbrev pub are_parts_on_input : PartPlaces → Bool
are_parts_on_input parts.Input = true
are_parts_on_input (parts.Files names) = false

abbrev pub is_subject_on_input : Subject → Bool
is_subject_on_input (Board puzzle) = is_on_input puzzle
is_subject_on_input (Listed places number) = is_one_of_two_on_input places

abbrev pub are_rules_on_input : WantedRules → Bool
are_rules_on_input (Plain rules) = false
are_rules_on_input (Like puzzle) = is_on_input puzzle

-- Whether an order reads standard input: where one of its documents stands there, or all three joined. A list of tiles
-- never does.
abbrev pub reads_input : Order → Bool
reads_input Joined = true
reads_input (Check order) = is_given_on_input order.given
reads_input (Explain documents) = is_given_on_input documents
reads_input (ExplainPuzzle puzzle) = is_on_input puzzle
reads_input (Expand order) = is_given_on_input order.given
reads_input (Count documents) = is_given_on_input documents
reads_input (Page order) = is_given_on_input order.given
reads_input (Census order) = is_on_input order.puzzle
reads_input (Find order) = is_on_input order.puzzle
reads_input (Total places) = are_parts_on_input places
reads_input (Generate order) = are_rules_on_input order.rules
reads_input (Solve order) = is_on_input order.files.puzzle
reads_input (Show subject) = is_subject_on_input subject
reads_input (Draw order) = is_subject_on_input order.subject
reads_input (DrawAll order) = is_given_on_input order.given
reads_input (Cut order) = is_subject_on_input order.subject
reads_input (Symmetries puzzle) = is_on_input puzzle
reads_input (Tiles order) = false

-- What isn't read is later as it was.
abbrev pub LeavesInput : {I : Type 0} → (reads : Bool) → (given later : I) → Type 0
LeavesInput true given later = Unit {0}
LeavesInput false given later = later ≡ given
