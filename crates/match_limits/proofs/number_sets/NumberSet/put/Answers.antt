use Rattle.std.proofs.Common.{◌+◌, max, ap, ◌∙◌}
use Rattle.match_limits.proofs.TakenNumberLemmas.{words_with, number_put}
use Rattle.match_limits.proofs.number_sets.NumberSet.put.Goals as goal

pub invariant_of-self : goal.invariant_of-self
invariant_of-self c =
    rw c.from-place.ensures
    (words_with c.self.inside.words c.self.inside.end c.args.number c.self.invariant c.requires c.max-self-inside.result (c.max-self-inside.ensures ∙ ap (λ n. max c.self.inside.end (n + 1)) c.from-place.ensures))

pub returns : goal.returns
returns c =
    rw (c.from-place.ensures, ← c.self.view_is)
    (number_put c.self.inside.words c.self.inside.end c.args.number c.self.invariant c.requires c.max-self-inside.result (c.max-self-inside.ensures ∙ ap (λ n. max c.self.inside.end (n + 1)) c.from-place.ensures))
