-- The heads of trees that are turned.
use Rattle.std.specs.Prelude.{◌+◌, ◌≤◌, ℕ}
use Rattle.cert_tree.specs.declared.heads.Head.{Head}
use Rattle.cert_tree.specs.declared.heads.Head.TheVariants as heads
use Rattle.piece_desk.specs.TurnedAssembly.{turned_number}

-- the head of a node, once its tree is turned
abbrev pub turned_head : (count first : ℕ) → Head → Head
turned_head count first (heads.Cell cell children) = heads.Cell cell children
turned_head count first (heads.Tile tile children) = heads.Tile tile children
turned_head count first (heads.DeadCell cell) = heads.DeadCell cell
turned_head count first (heads.DeadTile tile) = heads.DeadTile tile
turned_head count first (heads.Found number) = heads.Found (first + number)
turned_head count first (heads.Same lemma) = heads.Same (turned_number count lemma)
turned_head count first (heads.Image symmetry lemma) = heads.Image symmetry (turned_number count lemma)

-- A listed arrangement has a number up to this one.
abbrev pub IsFoundUpTo : ℕ → Head → Type 0
IsFoundUpTo most (heads.Cell cell children) = Unit {0}
IsFoundUpTo most (heads.Tile tile children) = Unit {0}
IsFoundUpTo most (heads.DeadCell cell) = Unit {0}
IsFoundUpTo most (heads.DeadTile tile) = Unit {0}
IsFoundUpTo most (heads.Found number) = number ≤ most
IsFoundUpTo most (heads.Same lemma) = Unit {0}
IsFoundUpTo most (heads.Image symmetry lemma) = Unit {0}
