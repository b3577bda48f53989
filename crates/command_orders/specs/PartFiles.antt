-- Lines of counted parts that come from files, which are read one after the other.
use Rattle.std.specs.Prelude.{◌≡◌, ◌⊎◌, ◌-◌, ◌++◌, ◌∷◌, [], ℕ, List, length, map}
use Rattle.std.specs.String.{string_bytes}
use Rattle.std.specs.List.{flat_map}
use Rattle.match_limits.specs.declared.TheConstants.{MOST_BYTES}
use Rattle.byte_streams.specs.Moves.{FailsToRead, Gives, ReadsAtMost, ReadsPast, reading_of}
use Rattle.byte_streams.specs.Origins.{Origin, one_source}
use Rattle.byte_streams.specs.declared.faults.Document.TheVariants as documents
use Rattle.byte_streams.specs.declared.faults.InputFault.{InputFault}
use Rattle.byte_streams.specs.declared.faults.InputFault.TheVariants as inputs
use Rattle.byte_streams.specs.declared.files.FileSystem.{Ghosts as FileMembers}
use Rattle.byte_streams.specs.declared.sources.Source.{Ghosts as SourceMembers}
use Rattle.command_words.specs.declared.places.PartPlaces.{PartPlaces}
use Rattle.command_words.specs.declared.places.PartPlaces.TheVariants.{Files, Input}
use Rattle.command_orders.specs.FileOrigins.{Opened, read_from}

-- texts, one behind the other
abbrev pub joined : List (List ℕ) → List ℕ
joined = flat_map (λ text. text)

module _ {S R W : Type 0} (system : FileMembers S R W) (source : SourceMembers R) (at : S) where
  -- The file of this name gave the text.
  pub record IsTextOf (name text : List ℕ) : Type 0 where
    pub file : Opened system source at name
    pub gives : Gives MOST_BYTES (read_from system source at name file) text

  -- The files of these names gave the texts, each its own.
  abbrev pub AreTextsOf : (names texts : List (List ℕ)) → Type 0
  AreTextsOf [] [] = Unit {0}
  AreTextsOf (name ∷ names) (text ∷ texts) = IsTextOf name text × AreTextsOf names texts
  AreTextsOf names texts = ⊥

  -- What a fault says of the file of this name, of which at most `bound` bytes are read: it can't be opened, or
  -- answered an error; or it gave more bytes. Want of memory says that it was opened, and did neither.
  abbrev pub StopsAtFile : (bound : ℕ) (name : List ℕ) → InputFault → Type 0
  StopsAtFile bound name (inputs.Read of) =
      (of ≡ documents.Parts)
      × (system.refuses at name
      ⊎ ((file : Opened system source at name) × FailsToRead bound (read_from system source at name file)))
  StopsAtFile bound name (inputs.TooLong of) =
      (of ≡ documents.Parts)
      × (file : Opened system source at name) × ReadsPast bound (read_from system source at name file)
  StopsAtFile bound name inputs.Memory =
      (file : Opened system source at name) × ReadsAtMost bound (read_from system source at name file)

  -- What a fault says of the files of these names: all before one gave their texts, and it is of that one, which may have
  -- as many bytes as they leave.
  pub record StopsAtOne (names : List (List ℕ)) (fault : InputFault) : Type 0 where
    pub before : List (List ℕ)
    pub name : List ℕ
    pub behind : List (List ℕ)
    pub are : names ≡ before ++ name ∷ behind
    pub texts : List (List ℕ)
    pub gave : AreTextsOf before texts
    pub stops : StopsAtFile (MOST_BYTES - length (joined texts)) name fault

  -- What a fault says of the files: it is of one; or memory was refused once all gave their texts.
  abbrev pub StopsInFiles : (names : List (List ℕ)) → InputFault → Type 0
  StopsInFiles names inputs.Memory =
      ((texts : List (List ℕ)) × AreTextsOf names texts) ⊎ StopsAtOne names inputs.Memory
  StopsInFiles names fault = StopsAtOne names fault

  -- The files of these names: their texts, one behind the other.
  abbrev pub part_files : (names : List (List ℕ)) → Origin (List ℕ)
  part_files names = record {
    Gave = λ text. (texts : List (List ℕ)) × AreTextsOf names texts × (text ≡ joined texts);
    Stopped = StopsInFiles names;
  }

-- Lines of counted parts that stand in files, or on standard input, as it was and as it is later.
abbrev pub given_parts : {S R W I : Type 0} → FileMembers S R W → SourceMembers R → SourceMembers I → (at : S) (given later : I)
    → PartPlaces → Origin (List ℕ)
given_parts system source input at given later Input = one_source documents.Parts (reading_of input given later)
given_parts system source input at given later (Files names) = part_files system source at (map string_bytes names.items)
