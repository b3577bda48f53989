-- The first side of a board that a test finds.
use Rattle.std.specs.Prelude.{◌<◌, ℕ, Bool, true, false}
use Rattle.match_board.specs.Board.{cell_count, side_count}
use Rattle.match_board.specs.declared.figures.Figure.{Figure}

module _ (s : Figure) (Says : (cell side : ℕ) → Bool → Type 0) where
  -- The test says no of each side of the cells before this one.
  abbrev pub ArePassedBefore : ℕ → Type 0
  ArePassedBefore cell = (before side : ℕ) → before < cell → side < side_count s → Says before side false

  -- The test says no of each side of the board.
  abbrev pub ArePassed : Type 0
  ArePassed = ArePassedBefore (cell_count s)

  -- Of a side of the board the test may be asked, once it said no of each side of the cells before.
  abbrev pub AreAskable : ((cell side : ℕ) → Type 0) → Type 0
  AreAskable MayAsk =
      (cell side : ℕ) → cell < cell_count s → side < side_count s → ArePassedBefore cell → MayAsk cell side

  -- The test says yes of this side of the board, and no of those before it.
  pub record IsFirstSide (found : ℕ × ℕ) : Type 0 where
    pub cell_in : found.0 < cell_count s
    pub side_in : found.1 < side_count s
    pub says_yes : Says found.0 found.1 true
    pub cells : ArePassedBefore found.0
    pub sides : (side : ℕ) → side < found.1 → Says found.0 side false
