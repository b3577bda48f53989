use Rattle.std.proofs.Common.{◌≡◌, ◌-◌, Some, slice_get, arith, refl, subst}
use Rattle.cert_tree.specs.Certificate.{flat_piece}
use Rattle.cert_check.proofs.PrefixLemmas.{tells_root}
use Rattle.cert_check.proofs.prefixes.ends_at_a_root.Goals as goal

pub returns-then-count-eq0 : goal.returns-then-count-eq0
returns-then-count-eq0 c = λ root. let long = root.2 in omega (arith, c.if-count-eq0.true, c.len-count.ensures, long)

pub returns : goal.returns
returns c =
    let root = flat_piece c.at.result in
    let last = subst (λ n. slice_get c.args.lemmas.now (n - 1) ≡ Some root) c.len-count.ensures c.at.ensures in
    tells_root c.args.lemmas.now root c.at.result.prefix.now c.is_empty.result last refl c.is_empty.ensures
