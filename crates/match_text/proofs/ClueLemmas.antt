-- What a clue asks of a side, as it is written.
use Rattle.std.proofs.Common.{◌≡◌, ◌<◌, ◌∷◌, [], ℕ, zero, suc, List, Option, Some, None, get_or, slice_get, refl}
use Rattle.match_limits.specs.declared.TheConstants.{MOST_COLOURS}
use Rattle.match_limits.proofs.OptionLemmas.{none_some, inside}
use Rattle.text_words.specs.Within.{IsRuleWithin}

pub rule_below : (rule : Option ℕ) → ((colour : ℕ) → rule ≡ Some colour → colour < MOST_COLOURS) → IsRuleWithin rule
rule_below None below = tt
rule_below (Some colour) below = below colour refl

pub got_is : (xs : List (Option ℕ)) (i : ℕ) (x d : Option ℕ) → slice_get xs i ≡ Some x → get_or xs i d ≡ x
got_is [] i x d e = absurd (none_some e)
got_is (y ∷ ys) zero x d e = inside e
got_is (y ∷ ys) (suc i) x d e = got_is ys i x d e
