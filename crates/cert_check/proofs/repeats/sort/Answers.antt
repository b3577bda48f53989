use Rattle.std.proofs.Common.{rules}
use Rattle.std.proofs.lemmas.Fn.{always_returns_same}
use Rattle.std.proofs.lemmas.List.Sorted.{ranks_by}
use Rattle.cert_check.specs.declared.repeats.KeyedPlace.{KeyedPlace}
use Rattle.cert_check.proofs.RepeatLemmas.{keyed_total, permuted}
use Rattle.cert_check.proofs.repeats.sort.Goals as goal

pub returns-clause-places : goal.returns-clause-places
returns-clause-places c = permuted c.args.listed.now _ _ c.sort_unstable_by.ensures.permutation c.requires

pub returns-clause-sorted : goal.returns-clause-sorted
returns-clause-sorted c =
    c.sort_unstable_by.ensures.sorted _ (ranks_by (keyed_total c.args.listed.now) (λ (x : KeyedPlace). x)) (always_returns_same _ _ _ (λ a r f h. search rules))
