-- A job for each lemma.
use Rattle.std.specs.Prelude.{◌≡◌, ◌<◌, ◌≤◌, ℕ, List, Option, Some, None, Box, length}
use Rattle.std.specs.declared.alloc.Global.{Global}
use Rattle.match_limits.specs.declared.TheConstants.{MOST_FORKS}
use Rattle.cert_check.specs.declared.faults.TreeFault.{TreeFault}
use Rattle.cert_check.specs.Lists.{TellsOfAll}
use Rattle.cert_check.specs.Setting.{Question}
use Rattle.cert_check.specs.Walk.{TellsOfLemma}

-- what a job finds: no fault, or one
abbrev pub Finding : Type 0
Finding = Option (Box TreeFault Global)

abbrev pub fault_of : Finding → Option TreeFault
fault_of None = None
fault_of (Some box) = Some box.value

-- There is a lemma with this number, and its tree can be walked with `forks` forks: no more than `MOST_FORKS`.
pub record IsJob (question : Question) (forks number : ℕ) : Type 0 where
  pub lemma : number < length question.lemmas
  pub few : forks ≤ MOST_FORKS

-- The finding is the first fault of the lemma's tree, or none where it holds.
abbrev pub IsFinding : Question → ℕ → Finding → Type 0
IsFinding question number finding = TellsOfLemma question number (fault_of finding)

-- What is said of the findings: that none is a fault, or the first that is, with its number.
abbrev pub IsFirstFound : List Finding → Option (ℕ × TreeFault) → Type 0
IsFirstFound =
    TellsOfAll (λ n finding. fault_of finding ≡ None) (λ n finding fault. fault_of finding ≡ Some fault)
