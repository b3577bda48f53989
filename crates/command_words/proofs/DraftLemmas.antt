-- What words of `generate` ask for, and that some ask for nothing.
use Rattle.std.proofs.Common.{◌≡◌, ◌≢◌, ◌∙◌, ℕ, Bool, true, false, List, Option, Some, None, inl, inr, refl, sym, codes}
use Rattle.std.specs.Option.{option_map}
use Rattle.std.specs.Str.Parse.{digits_value, without_leading_plus}
use Rattle.clap.specs.Words.{Row, Text, first_of}
use Rattle.command_words.specs.Orders.{AreTurnsAsked, IsBoardAsked, IsBorderAsked, IsChoice, IsFlagged, number_of}
use Rattle.puzzle_drafts.specs.declared.drafts.BorderKind.{BorderKind}
use Rattle.puzzle_drafts.specs.declared.drafts.BorderKind.TheVariants.{Frame, One, Free, Each}
use Rattle.puzzle_drafts.specs.declared.drafts.Choice.{Choice}
use Rattle.puzzle_drafts.specs.declared.drafts.Choice.TheVariants.{First, Hardest, Easiest}
use Rattle.puzzle_drafts.specs.declared.drafts.PlainBoard.{PlainBoard}
use Rattle.puzzle_drafts.specs.declared.drafts.PlainBoard.TheVariants.{Rectangle, Triangle, Hexagon}
use Rattle.command_words.proofs.MisfitLemmas.{differ, flagged_once}
use Rattle.command_words.proofs.ProgramLemmas.{none_is_some, some_is}

module _ (rows : List Row) where
  -- a number isn't both given and left out
  pub numbered_once : (id : Text) (n : ℕ) → first_of id rows ≡ None → number_of id rows ≡ Some n → ⊥
  numbered_once id n none is = go (first_of id rows) none is
    where
      go : (text : Option Text) → text ≡ None → option_map (λ text. digits_value 10 (without_leading_plus text)) text ≡ Some n → ⊥
      go None e has = none_is_some has
      go (Some text) e has = none_is_some (sym e)

  -- no kind of board
  pub no_kind : first_of (codes "KIND") rows ≡ None → (board : PlainBoard) → IsBoardAsked rows board → ⊥
  no_kind none (Rectangle width height) is = none_is_some (sym none ∙ is.0)
  no_kind none (Triangle size) is = none_is_some (sym none ∙ is.0)
  no_kind none (Hexagon size) is = none_is_some (sym none ∙ is.0)

  -- no size
  pub no_size : first_of (codes "SIZE") rows ≡ None → (board : PlainBoard) → IsBoardAsked rows board → ⊥
  no_size none (Rectangle width height) is = numbered_once (codes "SIZE") width none is.1
  no_size none (Triangle size) is = numbered_once (codes "SIZE") size none is.1
  no_size none (Hexagon size) is = numbered_once (codes "SIZE") size none is.1

  -- another word than those of the kinds
  pub other_kind : (word : Text) → first_of (codes "KIND") rows ≡ Some word → word ≢ codes "rect" → word ≢ codes "triangle" → word ≢ codes "hexagon"
      → (board : PlainBoard) → IsBoardAsked rows board → ⊥
  other_kind word found rect triangle hexagon (Rectangle width height) is = rect (some_is (sym found ∙ is.0))
  other_kind word found rect triangle hexagon (Triangle size) is = triangle (some_is (sym found ∙ is.0))
  other_kind word found rect triangle hexagon (Hexagon size) is = hexagon (some_is (sym found ∙ is.0))

  -- a rectangle without a height
  pub no_height : first_of (codes "KIND") rows ≡ Some (codes "rect") → first_of (codes "HEIGHT") rows ≡ None → (board : PlainBoard) → IsBoardAsked rows board → ⊥
  no_height found none (Rectangle width height) is = numbered_once (codes "HEIGHT") height none is.2
  no_height found none (Triangle size) is = differ (codes "rect") (codes "triangle") refl (some_is (sym found ∙ is.0))
  no_height found none (Hexagon size) is = differ (codes "rect") (codes "hexagon") refl (some_is (sym found ∙ is.0))

  -- a triangle or a hexagon with a height
  pub high_triangle : (height : ℕ) → first_of (codes "KIND") rows ≡ Some (codes "triangle") → number_of (codes "HEIGHT") rows ≡ Some height
      → (board : PlainBoard) → IsBoardAsked rows board → ⊥
  high_triangle height found given (Rectangle width other) is = differ (codes "triangle") (codes "rect") refl (some_is (sym found ∙ is.0))
  high_triangle height found given (Triangle size) is = numbered_once (codes "HEIGHT") height is.2 given
  high_triangle height found given (Hexagon size) is = differ (codes "triangle") (codes "hexagon") refl (some_is (sym found ∙ is.0))

  pub high_hexagon : (height : ℕ) → first_of (codes "KIND") rows ≡ Some (codes "hexagon") → number_of (codes "HEIGHT") rows ≡ Some height
      → (board : PlainBoard) → IsBoardAsked rows board → ⊥
  high_hexagon height found given (Rectangle width other) is = differ (codes "hexagon") (codes "rect") refl (some_is (sym found ∙ is.0))
  high_hexagon height found given (Triangle size) is = differ (codes "hexagon") (codes "triangle") refl (some_is (sym found ∙ is.0))
  high_hexagon height found given (Hexagon size) is = numbered_once (codes "HEIGHT") height is.2 given

  -- another word than those of the borders
  pub other_border : (word : Text) → first_of (codes "border") rows ≡ Some word → word ≢ codes "frame" → word ≢ codes "one" → word ≢ codes "free" → word ≢ codes "each"
      → (border : BorderKind) → IsBorderAsked rows border → ⊥
  other_border word found frame one free each Frame (inl is) = frame (some_is (sym found ∙ is))
  other_border word found frame one free each One (inl is) = one (some_is (sym found ∙ is))
  other_border word found frame one free each Free (inl is) = free (some_is (sym found ∙ is))
  other_border word found frame one free each Each (inl is) = each (some_is (sym found ∙ is))
  other_border word found frame one free each border (inr is) = none_is_some (sym is.0 ∙ found)

  -- another word than yes and no
  pub other_turns : (word : Text) → first_of (codes "turns") rows ≡ Some word → word ≢ codes "yes" → word ≢ codes "no" → (turns : Bool) → AreTurnsAsked rows turns → ⊥
  other_turns word found may may_not true (inl is) = may (some_is (sym found ∙ is))
  other_turns word found may may_not true (inr is) = none_is_some (sym is ∙ found)
  other_turns word found may may_not false is = may_not (some_is (sym found ∙ is))

  -- both choices
  pub chosen_twice : (hardest easiest : ℕ) → number_of (codes "hardest") rows ≡ Some hardest → number_of (codes "easiest") rows ≡ Some easiest
      → (choice : Choice) → IsChoice rows choice → ⊥
  chosen_twice hardest easiest hard easy First is = numbered_once (codes "hardest") hardest is.0 hard
  chosen_twice hardest easiest hard easy (Hardest of) is = numbered_once (codes "easiest") easiest is.1 easy
  chosen_twice hardest easiest hard easy (Easiest of) is = numbered_once (codes "hardest") hardest is.0 hard

  -- a choice of puzzles that needn't be unique
  pub hardest_of_any : (hardest : ℕ) → number_of (codes "hardest") rows ≡ Some hardest → IsFlagged (codes "unique") rows false → (choice : Choice) → IsChoice rows choice → ⊥
  hardest_of_any hardest hard any First is = numbered_once (codes "hardest") hardest is.0 hard
  hardest_of_any hardest hard any (Hardest of) is = flagged_once rows (codes "unique") is.2 any
  hardest_of_any hardest hard any (Easiest of) is = flagged_once rows (codes "unique") is.2 any

  pub easiest_of_any : (easiest : ℕ) → number_of (codes "easiest") rows ≡ Some easiest → IsFlagged (codes "unique") rows false → (choice : Choice) → IsChoice rows choice → ⊥
  easiest_of_any easiest easy any First is = numbered_once (codes "easiest") easiest is.1 easy
  easiest_of_any easiest easy any (Hardest of) is = flagged_once rows (codes "unique") is.2 any
  easiest_of_any easiest easy any (Easiest of) is = flagged_once rows (codes "unique") is.2 any
