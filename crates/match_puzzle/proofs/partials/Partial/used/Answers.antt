use Rattle.std.proofs.Common.{◌<◌, eqb, MatchBool, length, sym, subst}
use Rattle.match_puzzle.specs.Prefix.{Layout, IsUsed, IsUnused}
use Rattle.match_puzzle.proofs.Kept.{used_by_group}
use Rattle.match_puzzle.proofs.partials.Partial.used.Goals as goal

pub returns-clause-used : goal.returns-clause-used
returns-clause-used c =
    let i = c.self.inside in
    let kept = c.self.invariant in
    subst (λ (v : Layout). MatchBool (eqb c.group.result 0) (IsUsed v.placed c.args.tile) (IsUnused v.placed c.args.tile)) c.self.view_is
    (used_by_group i.puzzle.now i.placed.items i.free c.args.tile c.group.result kept.free kept.unturned (subst (λ (v : Layout). c.args.tile < length v.puzzle.words) (sym c.self.view_is) c.requires) c.group.ensures.few c.group.ensures.group)
