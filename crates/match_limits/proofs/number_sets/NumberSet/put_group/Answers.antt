use Rattle.std.proofs.Common.{◌+◌, max, ap, ◌∙◌}
use Rattle.match_limits.proofs.NumberSetLemmas.{words_with_group, group_put}
use Rattle.match_limits.proofs.number_sets.NumberSet.put_group.Goals as goal

pub invariant_of-self : goal.invariant_of-self
invariant_of-self c =
    rw (c.from.ensures, c.from-place.ensures)
    (words_with_group c.self.inside.words c.self.inside.end c.args.group c.args.digits c.self.invariant c.requires.group c.requires.digits c.max-self-inside.result (c.max-self-inside.ensures ∙ ap (λ n. max c.self.inside.end (n + 1)) c.from-place.ensures))

pub returns : goal.returns
returns c =
    rw (c.from.ensures, c.from-place.ensures, ← c.self.view_is)
    (group_put c.self.inside.words c.self.inside.end c.args.group c.args.digits c.self.invariant c.requires.group c.requires.digits c.max-self-inside.result (c.max-self-inside.ensures ∙ ap (λ n. max c.self.inside.end (n + 1)) c.from-place.ensures))
