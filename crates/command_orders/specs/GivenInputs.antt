-- What three documents are read from, as they are given.
use Rattle.std.specs.Prelude.{◌≡◌, ◌||◌, Bool, true, false}
use Rattle.std.specs.String.{string_bytes}
use Rattle.byte_streams.specs.Documents.{Texts}
use Rattle.byte_streams.specs.Moves.{Reading, reading_of}
use Rattle.byte_streams.specs.Origins.{Origin, joined_source, three_sources}
use Rattle.byte_streams.specs.declared.faults.InputFault.{InputFault}
use Rattle.byte_streams.specs.declared.files.FileSystem.{Ghosts as FileMembers}
use Rattle.byte_streams.specs.declared.sources.Source.{Ghosts as SourceMembers}
use Rattle.command_words.specs.declared.places.Given.{Given}
use Rattle.command_words.specs.declared.places.Given.TheVariants as given
use Rattle.command_words.specs.declared.places.Place.{Place}
use Rattle.command_words.specs.declared.places.Place.TheVariants as places
use Rattle.command_orders.specs.declared.given_inputs.DocumentReader.{DocumentReader}
use Rattle.command_orders.specs.declared.given_inputs.DocumentReader.TheVariants.{File, Input}
use Rattle.command_orders.specs.declared.given_inputs.GivenReaders.{GivenReaders}
use Rattle.command_orders.specs.declared.given_inputs.GivenReaders.TheVariants.{Apart, Joined}
use Rattle.command_orders.specs.declared.given_inputs.ThreeReaders.{ThreeReaders}

-- ---- what is opened

module _ {S R W : Type 0} (system : FileMembers S R W) (file : SourceMembers R) (at : S) where
  -- The reader is of the document that stands there: it was just opened, or it is standard input.
  abbrev pub IsOpenedAt : Place → DocumentReader R → Type 0
  IsOpenedAt (places.File name) (File reader) = system.opens at (string_bytes name) reader
  IsOpenedAt places.Input Input = Unit {0}
  IsOpenedAt place reader = ⊥

  -- The readers are of the three documents as they are given.
  abbrev pub AreOpenedAs : Given → GivenReaders R → Type 0
  AreOpenedAs given.Joined Joined = Unit {0}
  AreOpenedAs (given.Apart three) (Apart readers) =
      IsOpenedAt three.puzzle readers.puzzle × IsOpenedAt three.list readers.list
      × IsOpenedAt three.certificate readers.certificate
  AreOpenedAs documents readers = ⊥

-- ---- what is read

module _ {R : Type 0} where
  -- whether a reader reads standard input
  abbrev pub reads_input : DocumentReader R → Bool
  reads_input Input = true
  reads_input (File reader) = false

  abbrev pub are_read_from_input : ThreeReaders R → Bool
  are_read_from_input three = reads_input three.puzzle || (reads_input three.list || reads_input three.certificate)

  abbrev pub is_read_from_input : GivenReaders R → Bool
  is_read_from_input Joined = true
  is_read_from_input (Apart three) = are_read_from_input three

-- by standard input as it was and as it is later
module _ {I R : Type 0} where
  -- A reader stays the one that it is, and one of a file leaves standard input as it was.
  abbrev pub Stays : (old new : DocumentReader R) → (given later : I) → Type 0
  Stays (File old) (File new) given later = later ≡ given
  Stays Input Input given later = Unit {0}
  Stays old new given later = ⊥

  -- Three documents were read one after the other: standard input as it was between them.
  pub record InTurn (old new : ThreeReaders R) (given later : I) : Type 0 where
    pub first : I
    pub second : I
    pub puzzle : Stays old.puzzle new.puzzle given first
    pub list : Stays old.list new.list first second
    pub certificate : Stays old.certificate new.certificate second later

module _ {I R : Type 0} (input : SourceMembers I) (file : SourceMembers R) where
  -- what was read of a document
  abbrev pub reading_by : (old new : DocumentReader R) → (given later : I) → Reading
  reading_by (File old) (File new) given later = reading_of file old new
  reading_by old new given later = reading_of input given later

  -- what was read of three, in turn
  abbrev pub read_in_turn : (old new : ThreeReaders R) → (given later : I) → InTurn old new given later → Origin Texts
  read_in_turn old new given later turn =
      three_sources (reading_by old.puzzle new.puzzle given turn.first)
      (reading_by old.list new.list turn.first turn.second)
      (reading_by old.certificate new.certificate turn.second later)

  abbrev pub read_apart : (old new : ThreeReaders R) → (given later : I) → Origin Texts
  read_apart old new given later = record {
    Gave = λ texts. (turn : InTurn old new given later) × (read_in_turn old new given later turn).Gave texts;
    Stopped = λ fault. (turn : InTurn old new given later) × (read_in_turn old new given later turn).Stopped fault;
  }

  -- what was read of three as they are given
  abbrev pub readings : (old new : GivenReaders R) → (given later : I) → Origin Texts
  readings Joined Joined given later = joined_source (reading_of input given later)
  readings (Apart old) (Apart new) given later = read_apart old new given later
  readings old new given later = record { Gave = λ texts. ⊥; Stopped = λ fault. ⊥ }
