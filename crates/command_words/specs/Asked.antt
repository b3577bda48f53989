-- What words ask of documents.
use Rattle.std.specs.Prelude.{◌≡◌, List, Option, Some, None, Result, Ok, Err}
use Rattle.clap.specs.Words.{Row, Text, first_of}
use Rattle.command_words.specs.Orders.{IsGiven, IsPlace, NamesPuzzle}
use Rattle.command_words.specs.Places.{AreTwoOnInput}
use Rattle.command_words.specs.declared.places.Given.{Given}
use Rattle.command_words.specs.declared.places.Given.TheVariants.{Joined, Apart}
use Rattle.command_words.specs.declared.places.Place.{Place}
use Rattle.command_words.specs.declared.readings.Asked.{Asked}
use Rattle.command_words.specs.declared.readings.Asked.TheVariants as asked

-- where a document stands that is named, if one is
abbrev pub MayStandAt : Text → List Row → Option Place → Type 0
MayStandAt id rows None = first_of id rows ≡ None
MayStandAt id rows (Some place) = IsPlace id rows place

-- What is asked of three documents by where each stands that is named: of all that are given so, of a puzzle alone, or
-- nothing, where but some of three are named, or two on standard input.
abbrev pub AreAskedFor : (puzzle list certificate : Option Place) → Asked → Type 0
AreAskedFor None None None (asked.Given Joined) = Unit {0}
AreAskedFor (Some puzzle) None None (asked.Puzzle place) = place ≡ puzzle
AreAskedFor (Some puzzle) (Some list) (Some certificate) (asked.Given (Apart places)) =
    (places.puzzle ≡ puzzle) × (places.list ≡ list) × (places.certificate ≡ certificate)
AreAskedFor None None None (asked.Nothing reason) = ⊥
AreAskedFor (Some puzzle) None None (asked.Nothing reason) = ⊥
AreAskedFor (Some puzzle) (Some list) (Some certificate) (asked.Nothing reason) = AreTwoOnInput puzzle list certificate
AreAskedFor puzzle list certificate (asked.Nothing reason) = Unit {0}
AreAskedFor puzzle list certificate what = ⊥

-- What the matches of a command ask of three documents: how they are given, or they give no such three.
abbrev pub IsOfThree : {E : Type 0} → List Row → Result Given E → Type 0
IsOfThree rows (Ok given) = IsGiven rows given
IsOfThree rows (Err reason) = (given : Given) → IsGiven rows given → ⊥

-- What the matches of a command ask of documents.
abbrev pub IsAsked : List Row → Asked → Type 0
IsAsked rows (asked.Given given) = IsGiven rows given
IsAsked rows (asked.Puzzle puzzle) = NamesPuzzle rows puzzle
IsAsked rows (asked.Nothing reason) =
    ((given : Given) → IsGiven rows given → ⊥) × ((puzzle : Place) → NamesPuzzle rows puzzle → ⊥)
