-- Texts that come from files.
use Rattle.std.specs.Prelude.{ℕ, List}
use Rattle.byte_streams.specs.Moves.{Reading, reading_of}
use Rattle.byte_streams.specs.declared.files.FileSystem.{Ghosts as FileMembers}
use Rattle.byte_streams.specs.declared.sources.Source.{Ghosts as SourceMembers}

module _ {S R W : Type 0} (system : FileMembers S R W) (source : SourceMembers R) (at : S) where
  -- a reader of the file of a name, as it was just opened, and as it is later
  pub record Opened (name : List ℕ) : Type 0 where
    pub opened : R
    pub later : R
    pub is_opened : system.opens at name opened

  abbrev pub read_from : (name : List ℕ) → Opened name → Reading
  read_from name file = reading_of source file.opened file.later
