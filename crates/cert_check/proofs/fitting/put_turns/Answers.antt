use Rattle.std.proofs.Common.{◌≡◌, ◌∙◌, Some, None, ap, rules}
use Rattle.match_puzzle.specs.Prefix.{IsFree}
use Rattle.match_puzzle.specs.Fitting.{Fits, turned_tile}
use Rattle.match_puzzle.proofs.FittingLemmas.{turns_common}
use Rattle.match_puzzle.proofs.PlacementSetLemmas.{one_group_more}
use Rattle.cert_check.proofs.fitting.put_turns.Goals as goal

pub returns : goal.returns
returns c =
    let p = c.args.partial.now.puzzle in
    let q = c.args.partial.now.placed in
    let none : c.at.result ≡ None = search rules in
    let free : IsFree q c.args.cell = c.at.ensures.value ∙ ap Some none in
    one_group_more (λ cell turn. Fits p q cell (turned_tile c.args.tile turn)) c.args.cell c.common_group-turns.result c.args.numbers.now c.put_group.new.self c.requires.before c.put_group.ensures
    (turns_common p q c.args.cell _ _ _ _ _ c.free.ensures c.as_asked.ensures c.as_asked-2.ensures c.as_asked-3.ensures c.as_asked-4.ensures free c.args.tile c.common_group-turns.result c.common_group-turns.ensures.common)
