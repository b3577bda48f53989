-- What a search finds with which nothing is chosen at first.
use Rattle.std.proofs.Common.{◌≡◌, ◌≤◌, ℕ, List, [], Result, Ok, Err, IfOk, OnOk, length, map, arith, refl}
use Rattle.match_limits.proofs.ListLemmas.{contains_none}
use Rattle.match_puzzle.specs.Arrangement.{IsArrangement}
use Rattle.match_puzzle.specs.declared.placements.Placement.{Placement}
use Rattle.puzzle_symmetry.specs.Motion.{Motion, line_of}
use Rattle.xcc_form.specs.Options.{Compiled}
use Rattle.xcc_form.specs.Chosen.{Selection}
use Rattle.count_search.specs.Extensions.{IsExtension}
use Rattle.find_search.specs.declared.ends.Ended.{Ended}
use Rattle.find_search.specs.declared.ends.Ended.TheVariants.{Enough, Whole, Spent}
use Rattle.find_search.specs.declared.listed.Listed.{Listed}
use Rattle.find_search.specs.Finding.{AreFirstFound}
use Rattle.find_search.specs.Adding.{Adds}

-- nothing is chosen
abbrev pub root : Compiled → Selection
root x = record { compiled = x; chosen = [] }

-- All arrangements have no option.
pub has_nothing : (x : Compiled) (a : List Placement) → IsArrangement x.puzzle a → IsExtension (root x) a
has_nothing x a arranged = record { arrangement = arranged; stands = λ option c. absurd (contains_none option c) }

-- What a search adds that isn't spent is what is to be found.
pub first_found : (x : Compiled) (motions : List Motion) (most : ℕ) (before after : Listed) (ended : Ended) → Adds x.puzzle motions (IsExtension (root x)) before after ended → length after.arrangements.items ≤ most
    → (ended ≡ Enough → most ≤ length after.arrangements.items) → (ended ≡ Spent → ⊥) → AreFirstFound most x.puzzle (map line_of motions) after.arrangements.items
first_found x motions most before after ended adds few enough unspent = record {
  arrangements = adds.list.arrangements;
  apart = adds.list.apart;
  few = few;
  all = λ fewer a arranged. adds.all (whole ended (λ e. let le = enough e in omega (arith, le, fewer)) unspent) a (has_nothing x a arranged);
}
  where
    whole : (ended : Ended) → (ended ≡ Enough → ⊥) → (ended ≡ Spent → ⊥) → ended ≡ Whole
    whole Enough not not' = absurd (not refl)
    whole Whole not not' = refl
    whole Spent not not' = absurd (not' refl)

pub all_found : {E : Type 0} (x : Compiled) (motions : List Motion) (most : ℕ) (before after : Listed) (r : Result Ended E) → IfOk r (Adds x.puzzle motions (IsExtension (root x)) before after) → OnOk r (length after.arrangements.items ≤ most)
    → IfOk r (λ ended. ended ≡ Enough → most ≤ length after.arrangements.items) → IfOk r (λ ended. (ended ≡ Spent → ⊥) → AreFirstFound most x.puzzle (map line_of motions) after.arrangements.items)
all_found x motions most before after (Ok ended) adds few enough = first_found x motions most before after ended adds few enough
all_found x motions most before after (Err e) adds few enough = tt
