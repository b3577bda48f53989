-- What the jobs find together is said of all trees.
use Rattle.std.proofs.Common.{◌≡◌, ◌∙◌, ℕ, List, Option, Some, None, length, slice_get, arith, sym, subst}
use Rattle.std.proofs.lemmas.Option.{slice_get_within, get_or_from_slice_get}
use Rattle.match_puzzle.proofs.Prefixes.{inside}
use Rattle.steal_crew.specs.Results.{Belongs}
use Rattle.cert_tree.specs.Certificate.{Piece}
use Rattle.cert_check.specs.declared.faults.TreeFault.{TreeFault}
use Rattle.cert_check.specs.Setting.{Question, setting_at}
use Rattle.cert_check.specs.NodeRules.{Holds}
use Rattle.cert_check.specs.Derivation.{start_of}
use Rattle.cert_check.specs.Walk.{TellsOfLemma, TellsOfTrees}
use Rattle.match_limits.proofs.ListLemmas.{member_at}
use Rattle.cert_check.specs.Jobs.{Finding, fault_of, IsFinding, IsFirstFound}

module _ (question : Question) (findings : List Finding) (long : length findings ≡ length question.lemmas) (each : Belongs (IsFinding question) findings) where
  -- the finding with this number
  finding_at : (number : ℕ) (finding : Finding) → slice_get findings number ≡ Some finding → IsFinding question number finding
  finding_at number finding at =
      subst (IsFinding question number) (get_or_from_slice_get findings number finding finding at) (each number finding (slice_get_within findings number finding at))

  told_at : (number : ℕ) (finding : Finding) (said : Option TreeFault) → slice_get findings number ≡ Some finding → fault_of finding ≡ said → TellsOfLemma question number said
  told_at number finding said at is = subst (TellsOfLemma question number) is (finding_at number finding at)

  -- the tree of a lemma where no fault was found
  holds_at : (number : ℕ) (lemma : Piece) → slice_get question.lemmas number ≡ Some lemma → ((finding : Finding) → slice_get findings number ≡ Some finding → fault_of finding ≡ None) →
      Holds (setting_at question number) lemma.tree (start_of question.puzzle lemma)
  holds_at number lemma at none =
      let within = slice_get_within question.lemmas number lemma at in
      let found = member_at findings number (omega (arith, within, long)) in
      let told = told_at number found.0 None found.1 (none found.0 found.1) in
      subst (λ (l : Piece). Holds (setting_at question number) l.tree (start_of question.puzzle l)) (inside (sym told.1 ∙ at)) told.2

  pub tells_trees : (said : Option (ℕ × TreeFault)) → IsFirstFound findings said → TellsOfTrees question said
  tells_trees None all = λ number lemma at. holds_at number lemma at (all number)
  tells_trees (Some r) first =
      let here = first.occurs in
      let told = told_at r.0 here.0 (Some r.1) here.1 here.2 in
      record { occurs = (told.0, told.1, told.2); before = λ earlier lemma lt at. holds_at earlier lemma at (λ finding is. first.before earlier finding lt is) }
