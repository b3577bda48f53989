-- What words come to, by how they were read.
use Rattle.std.proofs.Common.{◌≡◌, ◌∙◌, List, Result, sym, inl, inr, ⊎_elim}
use Rattle.clap.specs.Words.{Text, kind_of}
use Rattle.clap.specs.declared.error.kind.ErrorKind.{ErrorKind}
use Rattle.clap.specs.declared.error.kind.ErrorKind.TheVariants as kinds
use Rattle.command_words.specs.Orders.{IsRefused}
use Rattle.command_words.specs.declared.faults.WordsFault.{WordsFault}
use Rattle.command_words.specs.declared.faults.WordsFault.TheVariants as words_faults
use Rattle.command_words.specs.declared.orders.Order.{Order}
use Rattle.byte_streams.specs.Moves.{Writing}
use Rattle.command_orders.specs.WordRuns.{Explains, Refuses, WordsGive}
use Rattle.command_orders.specs.declared.exits.Exit.{Exit}
use Rattle.command_orders.specs.declared.exits.Exit.TheVariants.{Failed}
use Rattle.command_runs.specs.declared.faults.RunFault.{RunFault}

-- that words give no order isn't told as help or the version is
refused_so : (output errors : Writing) (exit : Exit) (kind : ErrorKind) → kind ≡ kinds.ArgumentConflict → Explains output errors exit kind → (exit ≡ Failed) × output.Untouched
refused_so output errors exit kind is explains = explains.1 (λ asks. ⊎_elim (λ help. let bad : kinds.ArgumentConflict ≡ kinds.DisplayHelp = sym is ∙ help in cc) (λ version. let bad : kinds.ArgumentConflict ≡ kinds.DisplayVersion = sym is ∙ version in cc) asks)

-- of words that were refused
pub refused : (words : List Text) (Run : Order → Result Exit RunFault → Type 0) (Unchanged : Type 0) → Unchanged → (output errors : Writing) (exit : Exit)
    (fault : WordsFault) → IsRefused words fault → Refuses output errors exit fault → WordsGive words Run Unchanged output errors exit
refused words Run Unchanged unchanged output errors exit words_faults.Memory by wants = inr (unchanged, inl wants)
refused words Run Unchanged unchanged output errors exit (words_faults.Words error) by explains =
    inr (
      unchanged,
      ⊎_elim (λ strange. inr (inl (strange.0, kind_of error, strange.1, explains)))
          (λ misfit. inr (inr (let told = refused_so output errors exit (kind_of error) misfit.1 explains in (misfit.0, told.0, told.1)))) by,
    )
