use Rattle.std.proofs.Common.{◌≡◌, ◌<◌, ◌∙◌, ℕ, length, get_or, slice_index, arith, sym, subst}
use Rattle.std.proofs.lemmas.List.{get_or_default}
use Rattle.match_puzzle.specs.Prefix.{Layout}
use Rattle.match_puzzle.specs.Fitting.{IsAsked}
use Rattle.match_puzzle.specs.PlacementSets.{TellsOf}
use Rattle.match_puzzle.proofs.AskingLemmas.{asked_there}
use Rattle.match_puzzle.proofs.partials.Partial.asked.Goals as goal
use Rattle.match_puzzle.proofs.partials.Partial.asked.Goals.{After-asked_at}

there : (c : After-asked_at) → (c.asked_at.result < length c.self.inside.asks.items)
    × TellsOf (IsAsked c.self.inside.puzzle.now c.self.inside.placed.items c.args.cell c.args.side) (slice_index c.self.inside.asks.items c.asked_at.result)
there c =
    let kept = c.self.invariant in
    asked_there c.self.inside.puzzle.now c.self.inside.placed.items c.self.inside.asks.items kept.puzzle kept.asking c.args.cell c.args.side c.asked_at.result c.asked_at.ensures

pub index-requires : goal.index-requires
index-requires c = let within = (there c).0 in let long = c.self.inside.asks.ok.0 in omega (arith, within, long)

read : (c : After-asked_at) (n : ℕ) → n ≡ get_or c.self.inside.asks.items c.asked_at.result n → n ≡ slice_index c.self.inside.asks.items c.asked_at.result
read c n is = is ∙ sym (get_or_default c.self.inside.asks.items c.asked_at.result 0 n (there c).0)

pub returns-clause-asked : goal.returns-clause-asked
returns-clause-asked c =
    let at = (goal.at.returns-clause-asked c).After-asked_at in
    subst (λ n. TellsOf (IsAsked c.args.self.now.puzzle c.args.self.now.placed c.args.cell c.args.side) n) (sym (read at c.index.result.now c.index.ensures))
    (subst (λ (v : Layout). TellsOf (IsAsked v.puzzle v.placed c.args.cell c.args.side) (slice_index c.self.inside.asks.items c.asked_at.result)) c.self.view_is (there at).1)
