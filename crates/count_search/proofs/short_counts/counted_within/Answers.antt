use Rattle.std.proofs.Common.{◌≡◌, [], ℕ, Option, None, Some, MatchOption, IfSome, subst}
use Rattle.match_puzzle.specs.Arrangement.{HasArrangements}
use Rattle.match_puzzle.specs.Numbers.{AreMoreThan}
use Rattle.xcc_form.specs.Chosen.{Selection}
use Rattle.count_search.specs.Extensions.{IsExtension, HasExtensions}
use Rattle.count_search.specs.OptionExtensions.{HaveOptions}
use Rattle.count_search.proofs.OptionExtensionLemmas.{nothing_chosen}
use Rattle.count_search.proofs.SpreadLemmas.{ok_then}
use Rattle.count_search.proofs.short_counts.counted_within.Goals as goal

-- What has all of no chosen options is every arrangement.
told_of_all : (s : Selection) (most : ℕ) (o : Option ℕ) → s.chosen ≡ [] → MatchOption o (AreMoreThan most (IsExtension s)) (HasExtensions s)
    → IfSome o (HasArrangements s.compiled.puzzle)
told_of_all s most None none more = tt
told_of_all s most (Some count) none has = nothing_chosen s.compiled count (subst (λ cs. HaveOptions s.compiled cs count) none has)

pub returns : goal.returns
returns c =
    let s = c.args.engine.now in
    let most : ℕ = 18446744073709551615 in
    ok_then (λ o. MatchOption o (AreMoreThan most (IsExtension s)) (HasExtensions s)) (λ o. IfSome o (HasArrangements s.compiled.puzzle))
    (λ o said. told_of_all s most o c.requires.empty said) c.count_below-total.result c.count_below-total.ensures.counted
