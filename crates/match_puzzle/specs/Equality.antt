-- When placements are equal, as tests and hashes see it.
use Rattle.std.specs.Prelude.{◌==◌, ◌&&◌, ◌+◌, ◌*◌, Bool}
use Rattle.std.specs.Cmp.{IsEquivalence, unsigned_Decides, nat_eq_equiv, on_equiv, and_equiv, first_so, second_so}
use Rattle.std.specs.Hash as fed
use Rattle.std.specs.Hash.{HashWrites, Alike}
use Rattle.match_puzzle.specs.declared.placements.Placement.{Placement}

-- the same tile at the same turn
abbrev pub is_same : Placement → Placement → Bool
is_same x y = (x.tile == y.tile) && (x.turn == y.turn)

-- what a hash is fed: both in one number
abbrev pub hash_input : Placement → HashWrites
hash_input x = fed.u32 (x.tile * 256 + x.turn)

pub is_same-equiv : IsEquivalence is_same
is_same-equiv =
    and_equiv (on_equiv (λ (x : Placement). x.tile) nat_eq_equiv) (on_equiv (λ (x : Placement). x.turn) nat_eq_equiv)

pub is_same-alike : Alike is_same hash_input
is_same-alike = record {
  fed = λ x y same i.
      let tile = (unsigned_Decides x.tile y.tile).0 (first_so (x.tile == y.tile) (x.turn == y.turn) same) in
      let turn = (unsigned_Decides x.turn y.turn).0 (second_so (x.tile == y.tile) (x.turn == y.turn) same) in
      fed.u32 (tile i * 256 + turn i);
}
