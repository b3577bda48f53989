use Rattle.std.proofs.Common.{◌≡◌, ◌∙◌, List, Some, slice_get, ap, subst}
use Rattle.cert_tree.specs.Certificate.{Piece, flat_piece}
use Rattle.cert_check.specs.Setting.{Question}
use Rattle.cert_check.specs.Answer.{IsPrepared}
use Rattle.cert_check.proofs.prepared.Prepared.lemma.Goals as goal

pub returns-clause-prefix : goal.returns-clause-prefix
returns-clause-prefix c =
    let lemma = flat_piece c.at.result in
    let place = subst (λ (ls : List Piece). slice_get ls c.args.number ≡ Some lemma) (c.lemmas.ensures.lemmas ∙ ap (λ (q : Question). q.lemmas) c.self.view_is) c.at.ensures in
    (subst IsPrepared c.self.view_is c.self.invariant.prepared).prefixes c.args.number lemma place
