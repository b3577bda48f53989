-- What a solve does to files, and what stands under their names then.
use Rattle.std.specs.Prelude.{◌⊎◌, ◌++◌, ℕ, List}
use Rattle.std.specs.String.{string_bytes}
use Rattle.byte_streams.specs.Deeds.{AllLeave, Deed, Did, Stands}
use Rattle.byte_streams.specs.MadeFiles as streams
use Rattle.byte_streams.specs.MadeFiles.{IsUndone, NamesLead, Undid}
use Rattle.byte_streams.specs.Moves.{FrontOf, Takes, Writing}
use Rattle.byte_streams.specs.Targets.{Target}
use Rattle.byte_streams.specs.declared.outputs.Products.{Products}
use Rattle.command_words.specs.declared.places.Files.{Files}
use Rattle.command_orders.specs.Files.{HaveDifferentNames, puzzle_name}

module _ (files : Files) where
  -- the names of the files of the list and the certificate
  abbrev pub list_name : List ℕ
  list_name = string_bytes files.list

  abbrev pub certificate_name : List ℕ
  certificate_name = string_bytes files.certificate

  -- what a solve does to them
  abbrev pub both_made : List Deed
  both_made = streams.both_made list_name certificate_name

  abbrev pub both_put : Products → List Deed
  both_put = streams.both_put list_name certificate_name

  abbrev pub half_put : Products → List Deed
  half_put = streams.half_put list_name certificate_name

  module _ {S : Type 0} (does : S → Deed → S → Type 0) where
    -- What was made was removed, and nothing else was done to a file.
    abbrev pub Undone : (old new : S) → Type 0
    Undone = Undid list_name certificate_name does

    module _ (old new : S) (output : Writing) where
      -- Nothing of the report went out, or a front, or all of it.
      abbrev pub ReportsSome : Products → Type 0
      ReportsSome made = output.Untouched ⊎ (FrontOf output made.report ⊎ Takes output made.report)

      -- Both files were made beside their names, and put there, and nothing else was done to a file; the report went out.
      abbrev pub PutsAll : Products → Type 0
      PutsAll made = HaveDifferentNames files × Did does old (both_made ++ both_put made) new × Takes output made.report

    module _ (leads : S → List ℕ → List ℕ → Type 0) (old new : S) (output : Writing) where
      -- The files of a list and a certificate, and the output of a report. Both files are made beside their names, and
      -- put there, and the names lead to them at the end. After a fault what was made is removed; but where all was
      -- written, the list may stand in its place, and the certificate not.
      abbrev pub solved_files : Target Products
      solved_files = record {
        Took = λ made. PutsAll old new output made × NamesLead list_name certificate_name leads new made;
        Stopped = λ made.
            (Undone old new × ReportsSome old new output made)
            ⊎ (Did does old (both_made ++ half_put made) new × Takes output made.report);
        Untouched = Undone old new × output.Untouched;
      }

-- ---- what stands under names

-- After the deeds of a solve of these files that is done, the list and the certificate stand under their names, and what
-- stood under the puzzle's stands there: under that of standard input, where the puzzle came from there.
pub record FilesStand (files : Files) (made : Products) : Type 0 where
  pub list : Stands (both_made files ++ both_put files made) (string_bytes files.list) made.list
  pub certificate : Stands (both_made files ++ both_put files made) (string_bytes files.certificate) made.certificate
  pub puzzle : AllLeave (puzzle_name files) (both_made files ++ both_put files made)

-- So it is; and after a fault, before all is written, what stood under any name stands there.
abbrev pub NothingIsLost : Type 0
NothingIsLost =
    (files : Files)
    → (HaveDifferentNames files → (made : Products) → FilesStand files made)
    × ((deeds : List Deed) → IsUndone (list_name files) (certificate_name files) deeds → (name : List ℕ) → AllLeave name deeds)
