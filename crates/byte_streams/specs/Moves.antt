-- What a source and a sink tell before a call and after it.
use Rattle.std.specs.Prelude.{◌≡◌, ◌⊎◌, ◌≤◌, ℕ, Bool, true, false, List, Option, Result, Ok, Err, length}
use Rattle.std.specs.Io.KnownBytes.{Appends}
use Rattle.byte_streams.specs.Streams.{AppendsFront, GivesPast, GivesUpTo, GivesWhole, IsReadToEnd, one_more}
use Rattle.byte_streams.specs.declared.faults.Document.{Document}
use Rattle.byte_streams.specs.declared.faults.InputFault.{InputFault}
use Rattle.byte_streams.specs.declared.faults.InputFault.TheVariants as inputs
use Rattle.byte_streams.specs.declared.sinks.Sink.{Ghosts as SinkMembers}
use Rattle.byte_streams.specs.declared.sources.Failed.{Failed}
use Rattle.byte_streams.specs.declared.sources.Source.{Ghosts as SourceMembers}

-- ---- sources

-- the bytes that were left before and after, where they are known; whether the last read found the end; errors answered
pub record Reading : Type 1 where
  pub before : Option (List ℕ)
  pub after : Option (List ℕ)
  pub ended : Bool
  pub errors_before : ℕ
  pub errors_after : ℕ
  pub Untouched : Type 0

abbrev pub reading_of : {S : Type 0} → SourceMembers S → (old new : S) → Reading
reading_of source old new = record {
  before = source.left old;
  after = source.left new;
  ended = source.ended new;
  errors_before = source.errors old;
  errors_after = source.errors new;
  Untouched = new ≡ old;
}

-- no read found its end, and no error came
abbrev pub IsUnread : {S : Type 0} → SourceMembers S → S → Type 0
IsUnread source reader = (source.ended reader ≡ false) × (source.errors reader ≡ 0)

-- the text came whole, and then the end: it was all that was left
abbrev pub ReadsWhole : Reading → List ℕ → Type 0
ReadsWhole source text = GivesWhole source.before source.after source.ended text

-- a read found its end, and nothing is left
abbrev pub ReadsToEnd : Reading → Type 0
ReadsToEnd source = IsReadToEnd source.after source.ended

-- it answered an error, and at most `bound` bytes came before
abbrev pub FailsToRead : ℕ → Reading → Type 0
FailsToRead bound source =
    GivesUpTo bound source.before source.after × (source.errors_after ≡ one_more source.errors_before)

-- more than `bound` bytes came, and no error
abbrev pub ReadsPast : ℕ → Reading → Type 0
ReadsPast bound source = GivesPast bound source.before source.after × (source.errors_after ≡ source.errors_before)

-- at most `bound` bytes came, and no error
abbrev pub ReadsAtMost : ℕ → Reading → Type 0
ReadsAtMost bound source = GivesUpTo bound source.before source.after × (source.errors_after ≡ source.errors_before)

-- A text of at most `bound` bytes came whole, and no error.
pub record Gives (bound : ℕ) (source : Reading) (text : List ℕ) : Type 0 where
  pub whole : ReadsWhole source text
  pub short : length text ≤ bound
  pub without_error : source.errors_after ≡ source.errors_before

-- What a fault of reading this document says of its source: that it answered an error, or gave more bytes. Want of
-- memory hides neither.
abbrev pub ReadFails : (bound : ℕ) → Document → Reading → InputFault → Type 0
ReadFails bound document source (inputs.Read of) = (of ≡ document) × FailsToRead bound source
ReadFails bound document source (inputs.TooLong of) = (of ≡ document) × ReadsPast bound source
ReadFails bound document source inputs.Memory = ReadsAtMost bound source

-- ---- sinks

-- the bytes that went before and after, where they are known; whether the last write took nothing; errors answered
pub record Writing : Type 1 where
  pub before : Option (List ℕ)
  pub after : Option (List ℕ)
  pub idle : Bool
  pub errors_before : ℕ
  pub errors_after : ℕ
  pub Untouched : Type 0

abbrev pub writing_of : {S : Type 0} → SinkMembers S → (old new : S) → Writing
writing_of sink old new = record {
  before = sink.written old;
  after = sink.written new;
  idle = sink.idle new;
  errors_before = sink.errors old;
  errors_after = sink.errors new;
  Untouched = new ≡ old;
}

-- no write took nothing, and no error came
abbrev pub IsUnwritten : {S : Type 0} → SinkMembers S → S → Type 0
IsUnwritten sink writer = (sink.idle writer ≡ false) × (sink.errors writer ≡ 0)

-- the text was written whole, and no error came
abbrev pub Takes : Writing → (text : List ℕ) → Type 0
Takes sink text = Appends sink.before sink.after text × (sink.errors_after ≡ sink.errors_before)

-- a front of the text was written, until the sink answered an error or took nothing
abbrev pub FrontOf : Writing → (text : List ℕ) → Type 0
FrontOf sink text =
    AppendsFront sink.before sink.after text × ((sink.errors_after ≡ one_more sink.errors_before) ⊎ (sink.idle ≡ true))

-- What comes of writing a text: all of it went out, or a front.
abbrev pub Writes : Writing → (text : List ℕ) → Result Unit Failed → Type 0
Writes sink text (Ok done) = Takes sink text
Writes sink text (Err failed) = FrontOf sink text
