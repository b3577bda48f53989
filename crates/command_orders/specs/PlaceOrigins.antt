-- Texts that come from where documents stand: from files, or from standard input.
use Rattle.std.specs.Prelude.{◌≡◌, ◌⊎◌, ℕ, List, [], ◌∷◌}
use Rattle.std.specs.String.{string_bytes}
use Rattle.byte_streams.specs.Documents.{Texts}
use Rattle.byte_streams.specs.Moves.{Reading, reading_of}
use Rattle.byte_streams.specs.Origins.{Origin, joined_source, one_source, three_sources, two_sources}
use Rattle.byte_streams.specs.declared.documents.TwoTexts.{TwoTexts}
use Rattle.byte_streams.specs.declared.faults.Document.{Document}
use Rattle.byte_streams.specs.declared.faults.Document.TheVariants as documents
use Rattle.byte_streams.specs.declared.faults.InputFault.{InputFault}
use Rattle.byte_streams.specs.declared.faults.InputFault.TheVariants as inputs
use Rattle.byte_streams.specs.declared.files.FileSystem.{Ghosts as FileMembers}
use Rattle.byte_streams.specs.declared.sources.Source.{Ghosts as SourceMembers}
use Rattle.command_words.specs.declared.places.Given.{Given}
use Rattle.command_words.specs.declared.places.Given.TheVariants.{Joined, Apart}
use Rattle.command_words.specs.declared.places.Place.{Place}
use Rattle.command_words.specs.declared.places.Place.TheVariants.{File, Input}
use Rattle.command_words.specs.declared.places.Places.{Places}
use Rattle.command_words.specs.declared.places.TwoPlaces.{TwoPlaces}
use Rattle.command_orders.specs.FileOrigins.{Opened, read_from}
use Rattle.command_runs.specs.declared.faults.RunFault.{RunFault}
use Rattle.command_runs.specs.declared.faults.RunFault.TheVariants as runs

-- a document, and where it stands
pub record Placed : Type 0 where
  pub document : Document
  pub place : Place

abbrev pub placed : Document → Place → Placed
placed document place = record { document = document; place = place }

abbrev pub both_placed : TwoPlaces → List Placed
both_placed two = placed documents.Puzzle two.puzzle ∷ placed documents.List two.list ∷ []

abbrev pub all_placed : Places → List Placed
all_placed three =
    placed documents.Puzzle three.puzzle ∷ placed documents.List three.list
    ∷ placed documents.Certificate three.certificate ∷ []

-- those that stand apart; what is joined stands nowhere by itself
abbrev pub all_given : Given → List Placed
all_given Joined = []
all_given (Apart three) = all_placed three

-- by files in a state
module _ {S R W : Type 0} (system : FileMembers S R W) (file : SourceMembers R) (at : S) where
  -- a reader of the document's file; standard input needs none
  abbrev pub OpenedAt : Place → Type 0
  OpenedAt (File name) = Opened system file at (string_bytes name)
  OpenedAt Input = Unit {0}

  -- The document stands in a file that can't be opened.
  abbrev pub Refuses : Place → Type 0
  Refuses (File name) = system.refuses at (string_bytes name)
  Refuses Input = ⊥

  -- The file of the document can't be opened; those before it were.
  abbrev pub CantOpenAt : List Placed → Document → Type 0
  CantOpenAt [] of = ⊥
  CantOpenAt (p ∷ rest) of = ((of ≡ p.document) × Refuses p.place) ⊎ (OpenedAt p.place × CantOpenAt rest of)

  -- What the fault says: one can't be opened.
  abbrev pub IsUnopened : List Placed → RunFault → Type 0
  IsUnopened all fault = (of : Document) × CantOpenAt all of × (fault ≡ runs.Read of)

  -- A file can't be opened, and so can't be read.
  abbrev pub FailsToOpenAt : List Placed → InputFault → Type 0
  FailsToOpenAt all (inputs.Read of) = CantOpenAt all of
  FailsToOpenAt all fault = ⊥

  -- readers of a puzzle and a list
  pub record BothOpened (two : TwoPlaces) : Type 0 where
    pub puzzle : OpenedAt two.puzzle
    pub list : OpenedAt two.list

  -- readers of a puzzle, a list and a certificate
  pub record AllOpenedAt (three : Places) : Type 0 where
    pub puzzle : OpenedAt three.puzzle
    pub list : OpenedAt three.list
    pub certificate : OpenedAt three.certificate

  -- by standard input as it was and as it is later
  module _ {I : Type 0} (input : SourceMembers I) (given later : I) where
    -- what was read of the document
    abbrev pub read_at : (place : Place) → OpenedAt place → Reading
    read_at (File name) opened = read_from system file at (string_bytes name) opened
    read_at Input nothing = reading_of input given later

    -- A puzzle that stands there.
    abbrev pub one_place : Place → Origin (List ℕ)
    one_place place = record {
      Gave = λ text. (opened : OpenedAt place) × (one_source documents.Puzzle (read_at place opened)).Gave text;
      Stopped = λ fault.
          FailsToOpenAt (placed documents.Puzzle place ∷ []) fault
          ⊎ ((opened : OpenedAt place) × (one_source documents.Puzzle (read_at place opened)).Stopped fault);
    }

    abbrev pub read_both : (two : TwoPlaces) → BothOpened two → Origin TwoTexts
    read_both two both = two_sources (read_at _ both.puzzle) (read_at _ both.list)

    -- A puzzle and a list that stand there.
    abbrev pub two_places : TwoPlaces → Origin TwoTexts
    two_places two = record {
      Gave = λ texts. (both : BothOpened two) × (read_both two both).Gave texts;
      Stopped = λ fault.
          FailsToOpenAt (both_placed two) fault ⊎ ((both : BothOpened two) × (read_both two both).Stopped fault);
    }

    abbrev pub read_all_at : (three : Places) → AllOpenedAt three → Origin Texts
    read_all_at three all = three_sources (read_at _ all.puzzle) (read_at _ all.list) (read_at _ all.certificate)

    -- A puzzle, a list and a certificate that stand there.
    abbrev pub three_places : Places → Origin Texts
    three_places three = record {
      Gave = λ texts. (all : AllOpenedAt three) × (read_all_at three all).Gave texts;
      Stopped = λ fault.
          FailsToOpenAt (all_placed three) fault
          ⊎ ((all : AllOpenedAt three) × (read_all_at three all).Stopped fault);
    }

    -- The three joined on standard input, or each where it stands.
    abbrev pub given_documents : Given → Origin Texts
    given_documents Joined = joined_source (reading_of input given later)
    given_documents (Apart three) = three_places three
