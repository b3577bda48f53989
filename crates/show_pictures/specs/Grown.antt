-- Texts that have become longer.
use Rattle.std.specs.Prelude.{◌≡◌, ◌++◌, ℕ, List}

-- The text has become longer.
pub record Grows (before after : List ℕ) : Type 0 where
  pub more : List ℕ
  pub grown : after ≡ before ++ more

-- The text has become longer by this piece, with something before it and behind it.
pub record IsWrapped (piece before after : List ℕ) : Type 0 where
  pub front : List ℕ
  pub back : List ℕ
  pub grown : after ≡ before ++ front ++ piece ++ back

-- The text has become longer by some piece of this kind, with something before it and behind it.
abbrev pub Wraps : (List ℕ → Type 0) → (before after : List ℕ) → Type 0
Wraps P before after = (piece : List ℕ) × P piece × IsWrapped piece before after
