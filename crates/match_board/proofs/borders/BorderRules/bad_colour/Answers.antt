use Rattle.std.proofs.Common.{◌≡◌, ◌<◌, ◌≤◌, ◌∙◌, ℕ, List, Option, Some, MatchOption, slice_get, subst}
use Rattle.match_limits.specs.declared.TheConstants.{MOST_COLOURS}
use Rattle.match_limits.specs.First.{IsLeast}
use Rattle.match_board.proofs.borders.BorderRules.bad_colour.Goals as goal

pub returns : goal.returns
returns c =
    let P : List (Option ℕ) → Type 0 = λ rules. MatchOption c.first_bad_colour.result
    ((place colour : ℕ) → slice_get rules place ≡ Some (Some colour) → colour < MOST_COLOURS)
    (IsLeast (λ place. (colour : ℕ) × (slice_get rules place ≡ Some (Some colour)) × (MOST_COLOURS ≤ colour))) in
    subst P (c.deref.ensures.value ∙ c.self.view_is) c.first_bad_colour.ensures
