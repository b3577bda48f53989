-- Parts of a search.
use Rattle.std.specs.Prelude.{◌≡◌, ◌<◌, ◌≤◌, ◌+◌, ◌==◌, ◌⊎◌, ℕ, length}
use Rattle.std.specs.List.{after_first, before_first, position_or_len}
use Rattle.std.specs.Str.Parse.{IsNumeral, digits_value, without_leading_plus}
use Rattle.clap.specs.Words.{Text}
use Rattle.command_words.specs.declared.orders.Parts.{Parts}

-- the numbers of the first and of the last, from 1
abbrev pub first_in : Parts → ℕ
first_in parts = parts.before + 1

abbrev pub last_in : Parts → ℕ
last_in parts = parts.before + 1 + parts.more

-- how many parts there are, with those before and behind
abbrev pub parts_with : Parts → ℕ
parts_with parts = parts.before + 1 + parts.more + parts.behind

-- The text has this byte.
abbrev pub HasByte : (byte : ℕ) → Text → Type 0
HasByte byte text = position_or_len (λ b. b == byte) text < length text

-- what stands before the first such byte of a text, and behind it
abbrev pub text_before : (byte : ℕ) → Text → Text
text_before byte text = before_first (λ b. b == byte) text

abbrev pub text_behind : (byte : ℕ) → Text → Text
text_behind byte text = after_first (λ b. b == byte) text

-- The text spells the number, a sign `+` before it or none.
abbrev pub SpellsNumber : Text → (number : ℕ) → Type 0
SpellsNumber text number =
    IsNumeral 10 (without_leading_plus text) × (digits_value 10 (without_leading_plus text) ≡ number)

-- The text spells two numbers with a `-` between them, or, without one, a number that is both.
abbrev pub SpellsRange : Text → (first last : ℕ) → Type 0
SpellsRange text first last =
    (HasByte 45 text × SpellsNumber (text_before 45 text) first × SpellsNumber (text_behind 45 text) last)
    ⊎ ((HasByte 45 text → ⊥) × SpellsNumber text first × (first ≡ last))

-- The text names the parts, as `3-5/8` the third to the fifth of eight, or `3/8` the third alone; of 1,000,000 at most.
pub record IsPartsText (text : Text) (parts : Parts) : Type 0 where
  pub slash : HasByte 47 text
  pub numbers : SpellsRange (text_before 47 text) (first_in parts) (last_in parts)
  pub count : SpellsNumber (text_behind 47 text) (parts_with parts)
  pub few : parts_with parts ≤ 1000000
