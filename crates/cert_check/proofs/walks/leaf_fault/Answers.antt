use Rattle.std.proofs.Common.{⊎_elim}
use Rattle.match_puzzle.specs.declared.items.Item.TheVariants as items
use Rattle.cert_check.proofs.walks.leaf_fault.Goals as goal

-- a branch is no leaf
pub unreachable-requires : goal.unreachable-requires
unreachable-requires c = ⊎_elim (λ h. c.requires.leaf (items.Cell h.0) h.1 h.2) (λ h. c.requires.leaf (items.Tile h.0) h.1 h.2) c.in-Cell.is
