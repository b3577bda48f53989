-- What the words of a command line come to.
use Rattle.std.specs.Prelude.{◌≡◌, ◌≢◌, ◌⊎◌, ℕ, List, Result, Ok, Err, true}
use Rattle.std.specs.Io.KnownBytes.{Appends}
use Rattle.clap.specs.Words.{IsAmong, Text, fault_of, kind_of, takes}
use Rattle.clap.specs.declared.error.kind.ErrorKind.{ErrorKind}
use Rattle.clap.specs.declared.error.kind.ErrorKind.TheVariants.{DisplayHelp, DisplayVersion}
use Rattle.command_words.specs.Commands.{whole_app}
use Rattle.command_words.specs.Orders.{IsOrder}
use Rattle.command_words.specs.declared.faults.WordsFault.{WordsFault}
use Rattle.command_words.specs.declared.faults.WordsFault.TheVariants as words_faults
use Rattle.command_words.specs.declared.orders.Order.{Order}
use Rattle.byte_streams.specs.Moves.{FrontOf, Writing}
use Rattle.command_orders.specs.Exits.{fault_exit}
use Rattle.command_runs.specs.FaultText.{fault_line}
use Rattle.command_orders.specs.declared.exits.Exit.{Exit}
use Rattle.command_orders.specs.declared.exits.Exit.TheVariants.{Done, Failed}
use Rattle.command_runs.specs.declared.faults.RunFault.{RunFault}
use Rattle.command_runs.specs.declared.faults.RunFault.TheVariants as runs

-- The text went out whole, or a front of it where that failed.
abbrev pub Tells : Writing → List ℕ → Type 0
Tells sink text = Appends sink.before sink.after text ⊎ FrontOf sink text

-- The line of the fault was told, or, where memory was refused to it, that of want of memory.
abbrev pub TellsFault : Writing → RunFault → Type 0
TellsFault errors fault = Tells errors (fault_line fault) ⊎ Tells errors (fault_line runs.Memory)

-- Why a text that was asked for wasn't written was told: memory for it was refused, or writing failed.
abbrev pub TellsOfText : Writing → Type 0
TellsOfText errors = TellsFault errors runs.Memory ⊎ TellsFault errors runs.Write

-- Help or the version was asked for.
abbrev pub AsksForText : ErrorKind → Type 0
AsksForText kind = (kind ≡ DisplayHelp) ⊎ (kind ≡ DisplayVersion)

-- What was ordered was done, and nothing told; or it came to a fault, which was told.
abbrev pub CarriesOut : (Run : Result Exit RunFault → Type 0) → (errors : Writing) → Exit → Type 0
CarriesOut Run errors exit =
    (Run (Ok exit) × errors.Untouched)
    ⊎ ((fault : RunFault) × Run (Err fault) × (exit ≡ fault_exit fault) × TellsFault errors fault)

-- Memory was refused to the words, and that was told.
abbrev pub WantsMemory : (output errors : Writing) → Exit → Type 0
WantsMemory output errors exit = (exit ≡ Failed) × TellsFault errors runs.Memory × output.Untouched

-- Words that `clap` refuses for a reason of this kind: where help or the version was asked for, all is done and nothing
-- told, or it was told why that text wasn't written; else nothing was written.
abbrev pub Explains : (output errors : Writing) → Exit → ErrorKind → Type 0
Explains output errors exit kind =
    (AsksForText kind → ((exit ≡ Done) × errors.Untouched) ⊎ ((exit ≡ Failed) × TellsOfText errors))
    × ((AsksForText kind → ⊥) → (exit ≡ Failed) × output.Untouched)

-- What is told of words that give no order: why `clap` refuses them, or want of memory.
abbrev pub Refuses : (output errors : Writing) → Exit → WordsFault → Type 0
Refuses output errors exit (words_faults.Words error) = Explains output errors exit (kind_of error)
Refuses output errors exit words_faults.Memory = WantsMemory output errors exit

-- What words come to: they are those of an order, which was carried out; or nothing was done to a file, and memory was
-- refused while they were read, or `clap` doesn't take them, for a reason of this kind, or they are of a command, and give
-- no order.
abbrev pub WordsGive : List Text → (Run : Order → Result Exit RunFault → Type 0) → (Unchanged : Type 0)
    → (output errors : Writing) → Exit → Type 0
WordsGive words Run Unchanged output errors exit =
    ((order : Order) × IsOrder words order × CarriesOut (Run order) errors exit)
    ⊎ (Unchanged
    × (WantsMemory output errors exit
    ⊎ (((takes whole_app words ≢ true)
    × (kind : ErrorKind) × IsAmong kind (fault_of whole_app words) × Explains output errors exit kind)
    ⊎ (((order : Order) → IsOrder words order → ⊥) × (exit ≡ Failed) × output.Untouched))))
