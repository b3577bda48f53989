-- Tiles of arrangements.
use Rattle.std.proofs.Common.{◌≡◌, ◌≢◌, ◌<◌, ◌+◌, ◌++◌, ◌∷◌, [], ℕ, List, All, arith, length, sym, ◌∙◌}
use Rattle.std.proofs.lemmas.Option.{slice_get-get_or}
use Rattle.match_limits.specs.Listing.{IsListing, ByKey, HoldsBefore}
use Rattle.match_limits.proofs.Listings.{listing_none, listing_skip, listing_push, listing_row, listing_all}
use Rattle.match_limits.proofs.ListLemmas.{contains_at}
use Rattle.match_puzzle.specs.Arrangement.{Stands, IsArrangement}
use Rattle.match_puzzle.specs.Fitting.{tile_turn}
use Rattle.match_puzzle.proofs.FittingLemmas.{same_placement}
use Rattle.match_puzzle.specs.Puzzle.{Task}
use Rattle.match_puzzle.specs.declared.placements.Placement.{Placement}
use Rattle.show_pictures.specs.Pictures.{IsSpare, AreSpare, AreUnturned}

-- each placement of an arrangement names a tile
pub have_tiles : (p : Task) (a : List Placement) → IsArrangement p a → All (λ x. x.tile < length p.words) a
have_tiles p a arranged = λ k d within. (arranged.legal k _ (slice_get-get_or a k d within)).tile

-- unturned tiles are among as many
pub unturned_within : (count : ℕ) (xs : List Placement) → AreUnturned count xs → All (λ x. x.tile < count) xs
unturned_within count xs are = λ k d within.
    let at = are.tiles k _ (slice_get-get_or xs k d within) in omega (arith, at.0, are.many, within)

-- spare tiles are tiles
pub spare_within : (p : Task) (a xs : List Placement) → AreSpare p a xs → All (λ x. x.tile < length p.words) xs
spare_within p a xs are = λ k d within. (are.only _ (contains_at xs k _ (slice_get-get_or xs k d within))).tile

module _ (p : Task) (a : List Placement) where
  -- the spare tiles before this one
  abbrev pub SpareBefore : (tile : ℕ) → List Placement → Type 0
  SpareBefore tile xs = IsListing (ByKey tile_turn) (HoldsBefore tile_turn (IsSpare p a) (tile, 0)) xs

  next_tile : (tile : ℕ) (xs : List Placement) → IsListing (ByKey tile_turn) (HoldsBefore tile_turn (IsSpare p a) (tile, 1)) xs → SpareBefore (tile + 1) xs
  next_tile tile xs before = listing_row tile_turn (IsSpare p a) tile 1 xs (λ x is. let e = is.turn in omega (arith, e)) before

  pub spare_none : SpareBefore 0 []
  spare_none = listing_none tile_turn (IsSpare p a)

  -- a tile that is left over comes behind those before it
  pub spare_more : (tile : ℕ) (xs : List Placement) (y : Placement) → y.tile ≡ tile → y.turn ≡ 0 → tile < length p.words → ((cell : ℕ) (x : Placement) → Stands a cell x → x.tile ≢ tile) → SpareBefore tile xs → SpareBefore (tile + 1) (xs ++ y ∷ [])
  spare_more tile xs y named unturned lt nowhere before =
      next_tile tile (xs ++ y ∷ [])
      (listing_push tile_turn (IsSpare p a) (tile, 0) xs y
      (record { tile = omega (arith, named, lt); turn = unturned; nowhere = λ cell x at same. nowhere cell x at (same ∙ named) })
      (pair_of named unturned)
      (λ x is e f. same_placement (e ∙ sym named) (f ∙ sym unturned)) before)
    where
      pair_of : {m n m' n' : ℕ} → m ≡ m' → n ≡ n' → ◌≡◌ {A = ℕ × ℕ} (m, n) (m', n')
      pair_of e f = cc

  -- a tile that stands is none of them
  pub spare_skipped : (tile : ℕ) (xs : List Placement) → (cell : ℕ) × (x : Placement) × Stands a cell x × (x.tile ≡ tile) → SpareBefore tile xs → SpareBefore (tile + 1) xs
  spare_skipped tile xs stands before =
      next_tile tile xs (listing_skip tile_turn (IsSpare p a) (tile, 0) xs (λ x is e f. is.nowhere stands.0 stands.1 stands.2 (stands.3 ∙ sym e)) before)

  pub all_spare : (xs : List Placement) → SpareBefore (length p.words) xs → AreSpare p a xs
  all_spare xs before = listing_all tile_turn (IsSpare p a) (length p.words) xs (λ x is. is.tile) before
