-- What a run comes to.
use Rattle.std.specs.Prelude.{◌≡◌, ℕ, Result, Ok, Err}
use Rattle.byte_streams.specs.Moves.{ReadFails, Reading}
use Rattle.byte_streams.specs.Origins.{Origin}
use Rattle.byte_streams.specs.Targets.{Target}
use Rattle.byte_streams.specs.declared.faults.Document.{Document}
use Rattle.byte_streams.specs.declared.faults.InputFault.{InputFault}
use Rattle.byte_streams.specs.declared.faults.InputFault.TheVariants as inputs
use Rattle.command_runs.specs.FaultText.{run_of_input}
use Rattle.command_runs.specs.declared.faults.RunFault.{RunFault}
use Rattle.command_runs.specs.declared.faults.RunFault.TheVariants as runs
use Rattle.command_runs.specs.declared.hints.HintedFault.{HintedFault}

-- The fault is one of what texts say or ask, or want of memory: none of reading, and none of writing or of files.
abbrev pub IsOfTexts : RunFault → Type 0
IsOfTexts (runs.Read of) = ⊥
IsOfTexts (runs.TooLong of) = ⊥
IsOfTexts runs.Write = ⊥
IsOfTexts runs.Replaced = ⊥
IsOfTexts fault = Unit {0}

-- What a run comes to, by which texts came, what is given of texts with which end, what a fault says of them, and what
-- went out. All that is given of the texts that came went out; or a text did not come; or memory was refused, while no
-- source failed; or writing failed, and a front of what is given went out; or the texts have the fault. Where writing
-- did not begin, nothing was touched.
abbrev pub Runs : {T M E : Type 0} → Origin T → (gives : T → M → E → Type 0) (fails : T → RunFault → Type 0) → Target M
    → Result E RunFault → Type 0
Runs {T} {M} {E} from gives fails to (Ok ends) =
    (texts : T) × (made : M) × from.Gave texts × gives texts made ends × to.Took made
Runs {T} {M} {E} from gives fails to (Err (runs.Read of)) = from.Stopped (inputs.Read of) × to.Untouched
Runs {T} {M} {E} from gives fails to (Err (runs.TooLong of)) = from.Stopped (inputs.TooLong of) × to.Untouched
Runs {T} {M} {E} from gives fails to (Err runs.Memory) = from.Stopped inputs.Memory × to.Untouched
Runs {T} {M} {E} from gives fails to (Err runs.Write) =
    (texts : T) × (made : M) × (ends : E) × from.Gave texts × gives texts made ends × to.Stopped made
Runs {T} {M} {E} from gives fails to (Err fault) = (texts : T) × from.Gave texts × fails texts fault × to.Untouched

-- what a run came to, whatever is told beside its fault
abbrev pub unhinted : {E : Type 0} → Result E HintedFault → Result E RunFault
unhinted (Ok ends) = Ok ends
unhinted (Err hinted) = Err hinted.fault

-- What is made of texts: what is given of them, or why nothing is.
abbrev pub MadeOf : {T M E : Type 0} → (gives : T → M → E → Type 0) (fails : T → RunFault → Type 0) → T
    → Result (M × E) RunFault → Type 0
MadeOf {T} {M} {E} gives fails texts (Ok made) = gives texts made.0 made.1
MadeOf {T} {M} {E} gives fails texts (Err fault) = fails texts fault × IsOfTexts fault

-- What a fault of reading this document, of which at most `bound` bytes are read, says of its source.
abbrev pub StopsReading : (bound : ℕ) → Document → Reading → RunFault → Type 0
StopsReading bound document source fault =
    (of : InputFault) × (fault ≡ run_of_input of) × ReadFails bound document source of
