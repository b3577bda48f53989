-- Where texts come from.
use Rattle.std.specs.Prelude.{◌≡◌, ◌⊎◌, List, ℕ, [], ◌∷◌}
use Rattle.match_limits.specs.declared.TheConstants.{MOST_BYTES}
use Rattle.byte_streams.specs.Documents.{Texts, texts_in}
use Rattle.byte_streams.specs.Moves.{FailsToRead, Gives, Reading, ReadsAtMost, ReadsPast, ReadsToEnd}
use Rattle.byte_streams.specs.declared.documents.TwoTexts.{TwoTexts}
use Rattle.byte_streams.specs.declared.faults.Document.{Document}
use Rattle.byte_streams.specs.declared.faults.Document.TheVariants as documents
use Rattle.byte_streams.specs.declared.faults.InputFault.{InputFault}
use Rattle.byte_streams.specs.declared.faults.InputFault.TheVariants as inputs

-- Which texts came of what was read, and what a fault says of that. Want of memory says that there was no other.
pub record Origin (T : Type 0) : Type 1 where
  pub Gave : T → Type 0
  pub Stopped : InputFault → Type 0

-- the source of a document
pub record Named : Type 1 where
  pub document : Document
  pub source : Reading

abbrev pub named : Document → Reading → Named
named document source = record { document = document; source = source }

-- None of them was touched.
abbrev pub AreUntouched : List Named → Type 0
AreUntouched [] = Unit {0}
AreUntouched (s ∷ rest) = s.source.Untouched × AreUntouched rest

-- None of them answered an error, or gave more bytes than are read.
abbrev pub AreFaultless : List Named → Type 0
AreFaultless [] = Unit {0}
AreFaultless (s ∷ rest) = ReadsAtMost MOST_BYTES s.source × AreFaultless rest

-- This holds of the source of the document; those before it were read to their ends, and those after it not at all.
abbrev pub StopsAt : List Named → (Reading → Type 0) → Document → Type 0
StopsAt [] Holds of = ⊥
StopsAt (s ∷ rest) Holds of =
    ((of ≡ s.document) × Holds s.source × AreUntouched rest) ⊎ (ReadsToEnd s.source × StopsAt rest Holds of)

-- What a fault of reading them says: the source of the document answered an error, or gave more bytes than are read.
abbrev pub StopsReading : List Named → InputFault → Type 0
StopsReading sources (inputs.Read of) = StopsAt sources (FailsToRead MOST_BYTES) of
StopsReading sources (inputs.TooLong of) = StopsAt sources (ReadsPast MOST_BYTES) of
StopsReading sources inputs.Memory = AreFaultless sources

-- none: nothing is read
abbrev pub no_source : Origin (Unit {0})
no_source = record { Gave = λ nothing. Unit {0}; Stopped = StopsReading [] }

abbrev pub one_source : Document → Reading → Origin (List ℕ)
one_source document source = record {
  Gave = Gives MOST_BYTES source;
  Stopped = StopsReading (named document source ∷ []);
}

abbrev pub two_sources : (puzzle list : Reading) → Origin TwoTexts
two_sources puzzle list = record {
  Gave = λ texts. Gives MOST_BYTES puzzle texts.puzzle × Gives MOST_BYTES list texts.list;
  Stopped = StopsReading (named documents.Puzzle puzzle ∷ named documents.List list ∷ []);
}

abbrev pub three_sources : (puzzle list certificate : Reading) → Origin Texts
three_sources puzzle list certificate = record {
  Gave = λ texts. Gives MOST_BYTES puzzle texts.puzzle × Gives MOST_BYTES list texts.list × Gives MOST_BYTES certificate texts.certificate;
  Stopped = StopsReading (named documents.Puzzle puzzle ∷ named documents.List list ∷ named documents.Certificate certificate ∷ []);
}

-- one that has the three joined
abbrev pub joined_source : Reading → Origin Texts
joined_source input = record {
  Gave = λ texts. (text : List ℕ) × Gives MOST_BYTES input text × (texts ≡ texts_in text);
  Stopped = StopsReading (named documents.Input input ∷ []);
}
