-- Turned assembly: numbers that run upwards from the root are counted from the other end.
use Rattle.std.specs.Prelude.{◌≡◌, ◌+◌, ◌-◌, ℕ, List, Result, Ok, Err, map, reverse, nat_lt, if◌then◌else◌, slice_index}
use Rattle.match_limits.specs.First.{IsFirst}
use Rattle.cert_tree.specs.declared.faults.AssembleFault.{AssembleFault}
use Rattle.cert_tree.specs.declared.faults.AssembleFault.TheVariants.{Memory}
use Rattle.cert_tree.specs.Assembly.{IsAssembly, AssemblyFails, assembly_rank}
use Rattle.cert_tree.specs.Tree.{Tree, Forest, branch, dead, found, same, image, none, more}
use Rattle.cert_tree.specs.Certificate.{Piece, piece_number}

-- a number below the count, counted from the other end; another one stays as it is
abbrev pub turned_number : ℕ → ℕ → ℕ
turned_number count n = if nat_lt n count then count - 1 - n else n

abbrev mutual
  -- a tree whose citations are turned, and whose listed arrangements are counted from the first of them
  pub turned_tree : (count first : ℕ) → Tree → Tree
  turned_tree count first (branch item children) = branch item (turned_forest count first children)
  turned_tree count first (dead item) = dead item
  turned_tree count first (found number) = found (first + number)
  turned_tree count first (same lemma) = same (turned_number count lemma)
  turned_tree count first (image lemma symmetry) = image (turned_number count lemma) symmetry

  pub turned_forest : (count first : ℕ) → Forest → Forest
  turned_forest count first none = none
  turned_forest count first (more tree trees) = more (turned_tree count first tree) (turned_forest count first trees)

-- a piece by its number before it is turned, where each number has its first listed arrangement
abbrev pub turned_piece : ℕ → List ℕ → Piece → Piece
turned_piece count first piece = record {
  number = turned_number count piece.number;
  prefix = piece.prefix;
  tree = turned_tree count (slice_index first piece.number) piece.tree;
}

-- The pieces are assembled, and then each of them is turned.
abbrev pub IsTurnedAssembly : (count : ℕ) (first : List ℕ) (pieces xs : List Piece) → Type 0
IsTurnedAssembly count first pieces xs =
    (ys : List Piece) × IsAssembly piece_number count pieces ys × (xs ≡ reverse (map (turned_piece count first) ys))

-- The turned pieces by number, or the first fault, which names a number before it is turned. Of want of memory nothing
-- is said.
abbrev pub AssemblesTurned : (count : ℕ) (first : List ℕ) (pieces : List Piece) → Result (List Piece) AssembleFault
    → Type 0
AssemblesTurned count first pieces (Ok xs) = IsTurnedAssembly count first pieces xs
AssemblesTurned count first pieces (Err Memory) = Unit {0}
AssemblesTurned count first pieces (Err fault) = IsFirst assembly_rank (AssemblyFails piece_number count pieces) fault
