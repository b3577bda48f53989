use Rattle.std.proofs.Common.{sym, subst}
use Rattle.std.proofs.lemmas.Result.{IfOk-weaker}
use Rattle.match_puzzle.specs.PrefixFaults.{IsPairList}
use Rattle.cert_tree.specs.Certificate.{flat_piece}
use Rattle.cert_check.specs.Setting.{Setting}
use Rattle.cert_check.proofs.CheckLemmas.{tells_lemma}
use Rattle.cert_check.proofs.prepared.Prepared.tree_fault.Goals as goal

pub lemma_fault-requires-clause-prefix : goal.lemma_fault-requires-clause-prefix
lemma_fault-requires-clause-prefix c = subst (λ (s : Setting). IsPairList s.puzzle c.lemma-lemma.result.prefix.now) (sym c.setting-setting.ensures) c.lemma-lemma.ensures.prefix

pub returns-clause-tells : goal.returns-clause-tells
returns-clause-tells c =
    let lemma = flat_piece c.lemma-lemma.result in
    IfOk-weaker c.lemma_fault.result _ _ (λ said told. tells_lemma c.args.self.now c.args.number lemma c.setting-setting.result said c.setting-setting.ensures c.lemma-lemma.ensures.place told) c.lemma_fault.ensures.tells
