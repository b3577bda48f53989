-- The files of an order, by their names.
use Rattle.std.specs.Prelude.{◌≢◌, ℕ, List, codes}
use Rattle.std.specs.String.{string_bytes}
use Rattle.command_words.specs.declared.places.Files.{Files}
use Rattle.command_words.specs.declared.places.Place.{Place}
use Rattle.command_words.specs.declared.places.Place.TheVariants.{File, Input}

-- the name of the file at a place; the system has one for standard input too
abbrev pub name_at : Place → List ℕ
name_at (File name) = string_bytes name
name_at Input = codes "/dev/stdin"

-- the name of the file that has the puzzle of a solve
abbrev pub puzzle_name : Files → List ℕ
puzzle_name files = name_at files.puzzle

-- The three files have three names.
pub record HaveDifferentNames (files : Files) : Type 0 where
  pub list : puzzle_name files ≢ string_bytes files.list
  pub certificate : puzzle_name files ≢ string_bytes files.certificate
  pub both : string_bytes files.list ≢ string_bytes files.certificate
