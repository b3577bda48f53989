-- What words of `count` ask of a search, and that some ask nothing.
use Rattle.std.proofs.Common.{◌≡◌, ◌≢◌, ◌∙◌, List, Option, Some, None, refl, sym, subst, codes}
use Rattle.std.specs.Option.{option_map}
use Rattle.std.specs.Str.Parse.{digits_value, without_leading_plus}
use Rattle.clap.specs.Words.{Row, Text, first_of}
use Rattle.command_words.specs.Orders.{IsExtent, IsOrderOf}
use Rattle.command_words.specs.Parts.{IsPartsText}
use Rattle.command_words.specs.declared.orders.Extent.{Extent}
use Rattle.command_words.specs.declared.orders.Extent.TheVariants as extents
use Rattle.command_words.specs.declared.orders.Order.{Order}
use Rattle.command_words.specs.declared.orders.Parts.{Parts}
use Rattle.command_words.proofs.MisfitLemmas.{no_count}
use Rattle.command_words.proofs.ProgramLemmas.{none_is_some, some_is}

module _ (rows : List Row) where
  -- a text that names no parts
  pub no_parts : (text : Text) → first_of (codes "most") rows ≡ None → first_of (codes "part") rows ≡ Some text → ((parts : Parts) → IsPartsText text parts → ⊥) → (extent : Extent) → IsExtent rows extent → ⊥
  no_parts text most part none extents.All is = none_is_some (sym is.1 ∙ part)
  no_parts text most part none (extents.Most m) is = none_is_some (sym is.1 ∙ part)
  no_parts text most part none (extents.Parts p) is = none p (subst (λ t. IsPartsText t p) (some_is (sym is.2 ∙ part)) is.3)

  -- a bound and parts
  pub both_named : (most part : Text) → first_of (codes "most") rows ≡ Some most → first_of (codes "part") rows ≡ Some part → (extent : Extent) → IsExtent rows extent → ⊥
  both_named most part bound dealt extents.All is = none_is_some (sym is.0 ∙ bound)
  both_named most part bound dealt (extents.Most m) is = none_is_some (sym is.1 ∙ dealt)
  both_named most part bound dealt (extents.Parts p) is = none_is_some (sym is.0 ∙ bound)

  -- words that ask nothing of a search order nothing
  pub no_extent : ((extent : Extent) → IsExtent rows extent → ⊥) → (order : Order) → IsOrderOf (Some (codes "count", rows)) order → ⊥
  no_extent none = no_count rows (λ given is all has. none extents.All all) (λ puzzle extent alone is has. none extent is)

  -- a search of which something is asked is none of all
  pub asks_some : (extent : Extent) → extent ≢ extents.All → IsExtent rows extent → IsExtent rows extents.All → ⊥
  asks_some extents.All differs is all = differs refl
  asks_some (extents.Most most) differs is all = none_of_number (first_of (codes "most") rows) all.0 is.0
    where
      none_of_number : (text : Option Text) → text ≡ None → option_map (λ text. digits_value 10 (without_leading_plus text)) text ≡ Some most → ⊥
      none_of_number None e has = none_is_some has
      none_of_number (Some text) e has = none_is_some (sym e)
  asks_some (extents.Parts part) differs is all = none_is_some (sym all.1 ∙ is.2)
