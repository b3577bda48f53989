-- Items and their numbers.
use Rattle.std.proofs.Common.{◌≡◌, ◌≤◌, ◌-◌, ℕ, arith, refl, ap, sym, ◌∙◌, ⊎_elim}
use Rattle.match_limits.proofs.Listings.{lt_or_le}
use Rattle.match_puzzle.specs.Fitting.{IsNumberOf, IsNotAfter}
use Rattle.match_puzzle.specs.Fitting.{item_place}
use Rattle.match_puzzle.specs.declared.items.Item.{Item}
use Rattle.match_puzzle.specs.declared.items.Item.TheVariants.{Cell, Tile}

-- the item with this number
pub item_of : (cells number : ℕ) → (item : Item) × IsNumberOf cells number item
item_of cells number = ⊎_elim (λ lt. (Cell number, (refl, lt))) (λ le. (Tile (number - cells), omega (arith, le))) (lt_or_le number cells)

-- an item's number is its place in a table
pub place_is : (cells number : ℕ) (item : Item) → IsNumberOf cells number item → item_place cells item ≡ number
place_is cells number (Cell cell) is = sym is.0
place_is cells number (Tile tile) is = sym is

-- a number has one item
pub one_item : (cells number : ℕ) (item other : Item) → IsNumberOf cells number item → IsNumberOf cells number other → item ≡ other
one_item cells number (Cell c) (Cell d) is is' = ap Cell (sym is.0 ∙ is'.0)
one_item cells number (Cell c) (Tile u) is is' = absurd (omega (arith, is.0, is.1, is'))
one_item cells number (Tile t) (Cell d) is is' = absurd (omega (arith, is, is'.0, is'.1))
one_item cells number (Tile t) (Tile u) is is' = ap Tile (let e : t ≡ u = omega (arith, is, is') in e)

-- items stand in the order of their numbers
pub not_after : (cells m n : ℕ) (item other : Item) → IsNumberOf cells m item → IsNumberOf cells n other → m ≤ n → IsNotAfter item other
not_after cells m n (Cell c) (Cell d) is is' le = omega (arith, is.0, is'.0, le)
not_after cells m n (Cell c) (Tile u) is is' le = tt
not_after cells m n (Tile t) (Cell d) is is' le = omega (arith, is, is'.0, is'.1, le)
not_after cells m n (Tile t) (Tile u) is is' le = omega (arith, is, is', le)

pub at_most : (cells m n : ℕ) (item other : Item) → IsNumberOf cells m item → IsNumberOf cells n other → IsNotAfter item other → m ≤ n
at_most cells m n (Cell c) (Cell d) is is' le = omega (arith, is.0, is'.0, le)
at_most cells m n (Cell c) (Tile u) is is' le = omega (arith, is.0, is.1, is')
at_most cells m n (Tile t) (Cell d) is is' le = absurd le
at_most cells m n (Tile t) (Tile u) is is' le = omega (arith, is, is', le)
