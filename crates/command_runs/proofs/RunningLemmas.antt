-- What a run comes to, by its steps, and by what else is said of it.
use Rattle.std.proofs.Common.{Result, Ok, Err}
use Rattle.byte_streams.specs.Origins.{Origin}
use Rattle.byte_streams.specs.Targets.{Target}
use Rattle.byte_streams.specs.declared.faults.InputFault.{InputFault}
use Rattle.byte_streams.specs.declared.faults.InputFault.TheVariants as inputs
use Rattle.command_runs.specs.Runs.{IsOfTexts, Runs}
use Rattle.command_runs.specs.declared.faults.RunFault.{RunFault}
use Rattle.command_runs.specs.declared.faults.RunFault.TheVariants as runs

module _ {T M E : Type 0} (from : Origin T) (gives : T → M → E → Type 0) (fails : T → RunFault → Type 0) (to : Target M) where
  -- nothing could be made of the texts
  pub stopped_making : (texts : T) (fault : RunFault) → from.Gave texts → from.Stopped inputs.Memory → fails texts fault → IsOfTexts fault → to.Untouched
      → Runs from gives fails to (Err fault)
  stopped_making texts (runs.Read of) gave faultless failed kind untouched = absurd kind
  stopped_making texts (runs.TooLong of) gave faultless failed kind untouched = absurd kind
  stopped_making texts runs.Write gave faultless failed kind untouched = absurd kind
  stopped_making texts runs.Replaced gave faultless failed kind untouched = absurd kind
  stopped_making texts runs.Memory gave faultless failed kind untouched = (faultless, untouched)
  stopped_making texts _ gave faultless failed kind untouched = (texts, gave, failed, untouched)

-- a run that stopped did so too by what else is said of where its texts come from, of what is given, and of where that goes
pub stopped_over : {T M E F : Type 0} (from from' : Origin T) (gives : T → M → E → Type 0) (gives' : T → M → F → Type 0) (fails : T → RunFault → Type 0) (to to' : Target M)
    → ((t : T) → from.Gave t → from'.Gave t) → ((f : InputFault) → from.Stopped f → from'.Stopped f)
    → ((t : T) (m : M) (e : E) → gives t m e → (f : F) × gives' t m f)
    → ((m : M) → to.Stopped m → to'.Stopped m) → (to.Untouched → to'.Untouched)
    → (fault : RunFault) → Runs from gives fails to (Err fault) → Runs from' gives' fails to' (Err fault)
stopped_over from from' gives gives' fails to to' gave stopped ends writes untouched (runs.Read of) r = (stopped _ r.0, untouched r.1)
stopped_over from from' gives gives' fails to to' gave stopped ends writes untouched (runs.TooLong of) r = (stopped _ r.0, untouched r.1)
stopped_over from from' gives gives' fails to to' gave stopped ends writes untouched runs.Memory r = (stopped _ r.0, untouched r.1)
stopped_over from from' gives gives' fails to to' gave stopped ends writes untouched runs.Write r =
    let f = ends r.0 r.1 r.2 r.4 in
    (r.0, r.1, f.0, gave r.0 r.3, f.1, writes r.1 r.5)
stopped_over from from' gives gives' fails to to' gave stopped ends writes untouched _ r = (r.0, gave r.0 r.1, r.2, untouched r.3)

-- a run comes to what else is known of what is given, and of what a fault says
pub runs_as : {T M E : Type 0} (from : Origin T) (gives gives' : T → M → E → Type 0) (fails fails' : T → RunFault → Type 0) (to : Target M) (result : Result E RunFault)
    → ((t : T) (fault : RunFault) → fails t fault → IsOfTexts fault) → Runs from gives fails to result
    → ((t : T) (m : M) (e : E) → gives t m e → gives' t m e) → ((t : T) (fault : RunFault) → fails t fault → fails' t fault) → Runs from gives' fails' to result
runs_as from gives gives' fails fails' to (Ok ends) kind r given failed = (r.0, r.1, r.2, given r.0 r.1 ends r.3, r.4)
runs_as from gives gives' fails fails' to (Err (runs.Read of)) kind r given failed = r
runs_as from gives gives' fails fails' to (Err (runs.TooLong of)) kind r given failed = r
runs_as from gives gives' fails fails' to (Err runs.Memory) kind r given failed = r
runs_as from gives gives' fails fails' to (Err runs.Write) kind r given failed = (r.0, r.1, r.2, r.3, given r.0 r.1 r.2 r.4, r.5)
runs_as from gives gives' fails fails' to (Err _) kind r given failed = (r.0, r.1, failed r.0 _ r.2, r.3)

-- a result with another end
abbrev pub ended : {E F : Type 0} → (E → F) → Result E RunFault → Result F RunFault
ended end_of (Ok ends) = Ok (end_of ends)
ended end_of (Err fault) = Err fault

-- what a run comes to by what else is said of where its texts come from, and of how it ends
pub over : {T M E F : Type 0} (from from' : Origin T) (gives : T → M → E → Type 0) (gives' : T → M → F → Type 0) (fails : T → RunFault → Type 0) (to : Target M) (end_of : E → F)
    → ((t : T) → from.Gave t → from'.Gave t) → ((f : InputFault) → from.Stopped f → from'.Stopped f)
    → ((t : T) (m : M) (e : E) → gives t m e → gives' t m (end_of e))
    → (result : Result E RunFault) → Runs from gives fails to result → Runs from' gives' fails to (ended end_of result)
over from from' gives gives' fails to end_of gave stopped ends (Ok e) r = (r.0, r.1, gave r.0 r.2, ends r.0 r.1 e r.3, r.4)
over from from' gives gives' fails to end_of gave stopped ends (Err fault) r =
    stopped_over from from' gives gives' fails to to gave stopped (λ t m e g. (end_of e, ends t m e g)) (λ m s. s) (λ u. u) fault r
