-- What a fault says of tiles that aren't listed.
use Rattle.std.proofs.Common.{◌≡◌, ℕ, refl}
use Rattle.match_limits.specs.declared.TheConstants.{MOST_CLASSES}
use Rattle.match_board.specs.Turns.{HasMoreLeastWords}
use Rattle.match_board.specs.declared.classes.TilesFault.{TilesFault}
use Rattle.match_board.specs.declared.classes.TilesFault.TheVariants as tile_lists
use Rattle.command_runs.specs.FaultText.{run_of_tiles}
use Rattle.command_runs.specs.Runs.{IsOfTexts}
use Rattle.command_runs.specs.Tiles.{TilesFail}

-- why tiles aren't listed is what a fault says of them
pub tiles_fail : (sides colours : ℕ) (fault : TilesFault) → (fault ≡ tile_lists.TooMany → HasMoreLeastWords sides colours MOST_CLASSES) → TilesFail sides colours tt (run_of_tiles fault) × IsOfTexts (run_of_tiles fault)
tiles_fail sides colours tile_lists.TooMany many = (many refl, tt)
tiles_fail sides colours tile_lists.Memory many = (tt, tt)
