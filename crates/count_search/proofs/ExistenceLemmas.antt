-- There is a number of arrangements that have all chosen options.
use Rattle.std.proofs.Common.{◌≤◌, ◌+◌, ◌++◌, ◌∷◌, [], ℕ, zero, suc, length, length-append, arith, subst, ⊎_elim}
use Rattle.match_puzzle.specs.Numbers.{AreSoMany}
use Rattle.match_puzzle.proofs.NumberLemmas.{same_number}
use Rattle.xcc_form.specs.ExactCover.{HasPrimary}
use Rattle.xcc_form.specs.Options.{cover_of}
use Rattle.xcc_form.specs.Clashes.{IsOpen, IsOpenAt}
use Rattle.xcc_form.specs.Chosen.{Selection, IsSelection, IsUncovered, with_option}
use Rattle.xcc_dance.proofs.PartialLemmas.{one_more}
use Rattle.xcc_dance.proofs.RoomLemmas.{room}
use Rattle.count_search.proofs.SettledLemmas.{equal_or_not}
use Rattle.count_search.proofs.OptionExtensionLemmas.{HasOneBefore, none_before, one_more_before, all_before}
use Rattle.count_search.specs.Extensions.{HasExtensions}
use Rattle.count_search.proofs.ExtensionLemmas.{one_extension, has_open}
use Rattle.count_search.proofs.DecidingLemmas.{goes_on_at, covered_or_one}

-- one option more
pub grown : (s : Selection) (option : ℕ) → IsSelection s.compiled s.chosen → IsOpen (cover_of s.compiled) s.chosen option → IsSelection s.compiled (s.chosen ++ option ∷ [])
grown s option right is_open = record { compiled = right.compiled; partial = one_more (cover_of s.compiled) s.chosen right.partial option is_open }

module _ (s : Selection) (right : IsSelection s.compiled s.chosen) (below : (option : ℕ) → IsOpen (cover_of s.compiled) s.chosen option → (count : ℕ) × HasExtensions (with_option s option) count) where
  module _ (item : ℕ) (uncovered : IsUncovered (cover_of s.compiled) s.chosen item) where
    abbrev Open : ℕ → Type 0
    Open = IsOpenAt (cover_of s.compiled) s.chosen item

    item_of : (option : ℕ) → Open option → HasPrimary (cover_of s.compiled) option item
    item_of option is_open = is_open.at

    number_before : (bound : ℕ) → (count : ℕ) × AreSoMany (HasOneBefore s.compiled s.chosen Open bound) count
    number_before zero = (0, none_before s.compiled right.compiled s.chosen item uncovered.primary Open item_of 0 (λ option is_open lt. omega (arith, lt)))
    number_before (suc bound) =
        let before = number_before bound in
        ⊎_elim
        (λ is_open.
        let here = below bound is_open.open_option in (
          before.0 + here.0,
          one_more_before s.compiled right.compiled s.chosen item uncovered.primary Open item_of bound (suc bound) is_open (omega arith) (λ other other_open lt. omega (arith, lt)) before.0 here.0 before.1 here.1,
        ))
        (λ no. (
          before.0,
          same_number (HasOneBefore s.compiled s.chosen Open bound) (HasOneBefore s.compiled s.chosen Open (suc bound)) before.0
              (λ a. (
                λ w. let lt = w.1 in (w.0, omega (arith, lt), w.2, w.3),
                λ w. ⊎_elim (λ same. absurd (no (subst Open same w.2))) (λ ne. let lt = w.1 in (w.0, omega (arith, lt, ne), w.2, w.3)) (equal_or_not w.0 bound),
              )) before.1,
        ))
        (goes_on_at (cover_of s.compiled) s.chosen item bound)

    number_with : (count : ℕ) × HasExtensions s count
    number_with =
        let most = length (cover_of s.compiled).options in
        let all = number_before most in (
          all.0,
          all_before s.compiled right.compiled s.chosen item uncovered.primary Open item_of most (λ a has. let w = has_open s right item uncovered a has in (w.0, w.1.open_option.real, w.1, w.2)) all.0 all.1,
        )

  number_here : (count : ℕ) × HasExtensions s count
  number_here = ⊎_elim (λ covered. (1, one_extension s right covered)) (λ w. number_with w.0 w.1) (covered_or_one (cover_of s.compiled) s.chosen)

some_within : (left : ℕ) (s : Selection) → IsSelection s.compiled s.chosen → length s.compiled.options ≤ length s.chosen + left → (count : ℕ) × HasExtensions s count
some_within zero s right few = number_here s right (λ option is_open. let lt = room s.compiled s.chosen option right is_open in absurd (omega (arith, few, lt)))
some_within (suc left) s right few =
    number_here s right (λ option is_open.
    let long = length-append s.chosen (option ∷ []) in
    some_within left (with_option s option) (grown s option right is_open) (omega (arith, few, long)))

pub some_number : (s : Selection) → IsSelection s.compiled s.chosen → (count : ℕ) × HasExtensions s count
some_number s right = some_within (length s.compiled.options) s right (omega arith)
