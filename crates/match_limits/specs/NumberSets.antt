-- Sets of numbers, as the binary digits of words.
use Rattle.std.specs.Prelude.{◌≡◌, ◌<◌, ◌≤◌, ◌+◌, ◌*◌, ◌/◌, ◌%◌, ◌^◌, ℕ, zero, suc, List, [], ◌∷◌, ◌++◌, ◌==◌}
use Rattle.std.specs.Prelude.{if◌then◌else◌, cond, Contains, length, slice_index, replicate, drop}
use Rattle.std.specs.Int.{bit_at}
use Rattle.match_limits.specs.declared.number_sets.TheConstants.{WORDS, WORD_BITS, NUMBERS}

-- the number whose binary digits are those of the words, one after the other, the lowest first
unfoldable pub joined : List ℕ → ℕ
joined [] = 0
joined (word ∷ words) = joined words * 2 ^ WORD_BITS + word

-- the places of the ones among the number's `digits` lowest binary digits, rising, where the lowest has place `first`
unfoldable pub places_of_ones : (digits first number : ℕ) → List ℕ
places_of_ones zero first number = []
places_of_ones (suc digits) first number =
    if number % 2 == 1 then first ∷ places_of_ones digits (first + 1) (number / 2)
    else places_of_ones digits (first + 1) (number / 2)

-- the numbers of a set: where a one stands
unfoldable pub members : List ℕ → List ℕ
members words = places_of_ones NUMBERS 0 (joined words)

-- the words of a set, with no ones from word `end` on
pub record AreWordsOfSet (words : List ℕ) (end : ℕ) : Type 0 where
  pub long : length words ≡ WORDS
  pub small : (i : ℕ) → slice_index words i < 2 ^ WORD_BITS
  pub most : end ≤ WORDS
  pub past : (i : ℕ) → end ≤ i → slice_index words i ≡ 0

-- the words of a set where those before the place have no ones left, and this one is left at it
abbrev pub words_from : List ℕ → (place word : ℕ) → List ℕ
words_from words place word = replicate place 0 ++ word ∷ drop (place + 1) words

-- what holds of the words of a set whose numbers are taken one after the other
pub record AreWordsFrom (words : List ℕ) (end place word : ℕ) : Type 0 where
  pub set : AreWordsOfSet words end
  pub small : word < 2 ^ WORD_BITS
  pub in_range : place < WORDS

-- Numbers come in groups of four, group k from 4 * k on. The digits of a number below 16 say which of a group are in a
-- set.
abbrev pub IsGroup : List ℕ → (group digits : ℕ) → Type 0
IsGroup numbers group digits =
    (n : ℕ) → n < 4 → (bit_at digits n ≡ 1 → Contains numbers (4 * group + n))
    × (Contains numbers (4 * group + n) → bit_at digits n ≡ 1)

-- how many of the numbers are of the group
abbrev pub count_of_group : List ℕ → (group : ℕ) → ℕ
count_of_group [] group = 0
count_of_group (n ∷ numbers) group = count_of_group numbers group + cond (n / 4 == group) 1 0
