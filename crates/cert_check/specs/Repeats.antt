-- Repeated entries of a list.
use Rattle.std.specs.Prelude.{◌≡◌, ◌<◌, ◌+◌, ◌*◌, ◌%◌, ◌^◌, ◌==◌, ℕ, List, Some, Contains, length, slice_get}
use Rattle.std.specs.Cmp.Lexicographic.{slice_cmp}
use Rattle.std.specs.List.{IsDistinct, fold}
use Rattle.std.specs.Option.{option_cmp}
use Rattle.std.specs.Ordering.{nat_cmp, on, then_cmp}
use Rattle.std.specs.declared.cmp.Ordering.{Ordering}
use Rattle.match_puzzle.specs.declared.placements.Placement.{Placement}
use Rattle.cert_check.specs.declared.repeats.KeyedPlace.{KeyedPlace}
use Rattle.cert_check.specs.declared.repeats.TheConstants.{SPREAD}

-- The entries at the two places are equal.
abbrev pub AreEqualAt : List (List Placement) → KeyedPlace → KeyedPlace → Type 0
AreEqualAt listed x y = (a : List Placement) × (slice_get listed x.place ≡ Some a) × (slice_get listed y.place ≡ Some a)

-- Each place of the list once, with a key that equal entries share.
pub record AreItsPlaces (listed : List (List Placement)) (places : List KeyedPlace) : Type 0 where
  pub all : (number : ℕ) → number < length listed → (x : KeyedPlace) × Contains places x × (x.place ≡ number)
  pub within : (x : KeyedPlace) → Contains places x → x.place < length listed
  pub once : IsDistinct (λ x y. x.place == y.place) places
  pub alike : (x y : KeyedPlace) → Contains places x → Contains places y → AreEqualAt listed x y → x.key ≡ y.key

-- one number more
abbrev pub with_number : (key n : ℕ) → ℕ
with_number key n = (key * SPREAD % 2 ^ 64 + n) % 2 ^ 64

abbrev pub with_placement : ℕ → Placement → ℕ
with_placement key x = with_number (with_number key x.tile) x.turn

-- an entry as one number, which differs for most entries that do (Knuth, TAOCP 3, 6.4)
unfoldable pub key_of : List Placement → ℕ
key_of a = fold with_placement 0 a

-- by tile, then by turn
abbrev pub placement_cmp : Placement → Placement → Ordering
placement_cmp = then_cmp (on (λ x. x.tile) nat_cmp) (on (λ x. x.turn) nat_cmp)

-- by key, then by what stands there
abbrev pub entry_cmp : List (List Placement) → KeyedPlace → KeyedPlace → Ordering
entry_cmp listed =
    then_cmp (on (λ x. x.key) nat_cmp) (on (λ x. slice_get listed x.place) (option_cmp (slice_cmp placement_cmp)))

-- by key, then by what stands there, and then by place
abbrev pub keyed_cmp : List (List Placement) → KeyedPlace → KeyedPlace → Ordering
keyed_cmp listed = then_cmp (entry_cmp listed) (on (λ x. x.place) nat_cmp)
