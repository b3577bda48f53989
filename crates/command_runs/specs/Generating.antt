-- What is printed of a puzzle that is made, and why none is made.
use Rattle.std.specs.Prelude.{ℕ, List, Ok}
use Rattle.match_puzzle.specs.Puzzle.{Task}
use Rattle.match_text.specs.Puzzles.{PuzzleReads}
use Rattle.xcc_form.specs.Options.{HasTooManyEntries}
use Rattle.puzzle_drafts.specs.Drafts.{IsFirstMisfit}
use Rattle.puzzle_drafts.specs.declared.drafts.Draft.{Draft}
use Rattle.puzzle_drafts.specs.declared.drafts.PlainRules.{PlainRules}
use Rattle.puzzle_drafts.specs.declared.misfits.Misfit.{Misfit}
use Rattle.puzzle_maker.specs.Like.{IsFirstMisfitLike, IsLike, IsMadeLike}
use Rattle.puzzle_maker.specs.Made.{AreSearched, IsAsDrafted, IsMade}
use Rattle.puzzle_maker.specs.declared.faults.MakeFault.TheVariants as makes
use Rattle.command_runs.specs.Describing.{DescribeFails}
use Rattle.command_runs.specs.declared.faults.RunFault.{RunFault}
use Rattle.command_runs.specs.declared.faults.RunFault.TheVariants as runs

-- There is no reason why what is asked can't be had.
abbrev pub HasNoMisfit : PlainRules → Draft → Type 0
HasNoMisfit r d = (misfit : Misfit) → IsFirstMisfit r d misfit → ⊥

-- What is given of no text: what is asked can be had, and the text that is printed spells a puzzle that was made so.
pub record GenerateGives (r : PlainRules) (d : Draft) (nothing : Unit {0}) (printed : List ℕ) (ends : Unit {0}) : Type 0 where
  pub fits : HasNoMisfit r d
  pub puzzle : Task
  pub reads : PuzzleReads printed (Ok puzzle)
  pub made : IsMade r d puzzle

-- What a fault says of what is asked: it can't be had, for this reason first; or it can, but no candidate did; or it can,
-- but candidates are searched, and some puzzle as is asked has too many options; or memory was refused.
abbrev pub GenerateFails : PlainRules → Draft → (nothing : Unit {0}) → RunFault → Type 0
GenerateFails r d nothing (runs.Make (makes.Misfit misfit)) = IsFirstMisfit r d misfit
GenerateFails r d nothing (runs.Make makes.GaveUp) = HasNoMisfit r d
GenerateFails r d nothing (runs.Make makes.TooMany) =
    HasNoMisfit r d × AreSearched d × ((p : Task) × IsAsDrafted r d p × HasTooManyEntries p)
GenerateFails r d nothing runs.Memory = Unit {0}
GenerateFails r d nothing fault = ⊥

-- There is no reason why no puzzle can be like the model.
abbrev pub HasNoMisfitLike : Task → Draft → Type 0
HasNoMisfitLike m d = (misfit : Misfit) → IsFirstMisfitLike m d misfit → ⊥

-- What is printed of a model: what is asked can be had, and the text spells a puzzle that was made like the model.
pub record PrintsLike (m : Task) (d : Draft) (printed : List ℕ) : Type 0 where
  pub fits : HasNoMisfitLike m d
  pub puzzle : Task
  pub reads : PuzzleReads printed (Ok puzzle)
  pub made : IsMadeLike m d puzzle

-- What is given of a text: it spells a puzzle, and this is printed of that.
abbrev pub LikeGives : Draft → (text printed : List ℕ) → (ends : Unit {0}) → Type 0
LikeGives d text printed ends = (m : Task) × PuzzleReads text (Ok m) × PrintsLike m d printed

-- Why no puzzle is made like the model: none can be, for this reason first; or one can be, but no candidate did; or one can
-- be, but candidates are searched, and some puzzle like it has too many options; or memory was refused.
abbrev pub IsNotMadeLike : Task → Draft → RunFault → Type 0
IsNotMadeLike m d (runs.Make (makes.Misfit misfit)) = IsFirstMisfitLike m d misfit
IsNotMadeLike m d (runs.Make makes.GaveUp) = HasNoMisfitLike m d
IsNotMadeLike m d (runs.Make makes.TooMany) =
    HasNoMisfitLike m d × AreSearched d × ((p : Task) × IsLike m d p × HasTooManyEntries p)
IsNotMadeLike m d runs.Memory = Unit {0}
IsNotMadeLike m d fault = ⊥

-- What a fault says of the text: it spells no puzzle, with this fault; or one like which none is made, for this reason; or
-- it is want of memory.
abbrev pub LikeFails : Draft → (text : List ℕ) → RunFault → Type 0
LikeFails d text (runs.Make fault) = (m : Task) × PuzzleReads text (Ok m) × IsNotMadeLike m d (runs.Make fault)
LikeFails d text fault = DescribeFails text fault
