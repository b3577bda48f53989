-- The first clue that a puzzle can't have.
use Rattle.std.proofs.Common.{◌≡◌, ◌≢◌, ◌⊎◌, ◌<◌, ◌≤◌, ◌+◌, ◌↔◌, ℕ, List, Option, Some, length, map, slice_get, arith, refl, ap, sym, ◌∙◌, subst, inl, inr, ⊎_elim}
use Rattle.std.proofs.lemmas.Bool.Decides.{eqb_tells}
use Rattle.std.proofs.lemmas.Option.{slice_get_within}
use Rattle.match_limits.specs.First.{IsLeast}
use Rattle.match_limits.specs.Listing.{ComesBefore}
use Rattle.match_limits.proofs.FirstLemmas.{least_at}
use Rattle.match_limits.proofs.ListLemmas.{each_more, mapped_at}
use Rattle.match_limits.proofs.Listings.{lt_or_le, same_listing, comes_before_asymmetric}
use Rattle.match_board.specs.Board.{cell_count, side_count, IsBorderPair}
use Rattle.match_board.specs.Borders.{BorderRule, free, one, each, rule_of, Asks, AsksAt, IsAsLongAsBorder}
use Rattle.match_board.specs.Clues.{Clue, clue_of, AsksByClue}
use Rattle.match_board.specs.declared.clues.Clue.{Clue as BoardClue}
use Rattle.match_board.specs.declared.figures.Figure.{Figure}
use Rattle.match_board.specs.declared.tiles.Tile.{Tile}
use Rattle.match_puzzle.specs.Puzzle.{AreClues, task_by}
use Rattle.match_puzzle.specs.PuzzleFaults.{BreaksCluesAt, DefiesBorder}
use Rattle.match_puzzle.specs.declared.rules.Rules.{Rules}
use Rattle.match_puzzle.proofs.ClueLemmas.{map_at, clue_stands}
use Rattle.match_puzzle.proofs.Prefixes.{inside}
use Rattle.match_puzzle.specs.Tables.{IsNextNumber}
use Rattle.match_puzzle.proofs.TableLemmas.{asks_numbered, one_place_in_order}

-- A border asks a side for one colour.
asks_one : (s : Figure) (border : BorderRule) (cell side colour other : ℕ) → Asks s border cell side colour → Asks s border cell side other → colour ≡ other
asks_one s free cell side colour other a b = absurd a
asks_one s (one c) cell side colour other a b = a ∙ sym b
asks_one s (each rules) cell side colour other a b =
    let P : ℕ × ℕ → Type 0 = λ n. IsBorderPair s n.0 n.1 in
    let same : b.0 ≡ a.0 = same_listing ComesBefore comes_before_asymmetric P b.0 a.0 b.1 a.1 in
    let place : b.2 ≡ a.2 = one_place_in_order P a.0 b.2 a.2 (cell, side) a.1 (subst (λ ps. slice_get ps b.2 ≡ Some (cell, side)) same b.3) a.3 in
    inside (inside (sym a.4 ∙ subst (λ k. slice_get rules k ≡ Some (Some other)) place b.4))

-- The border asks the side for no other colour than the clue.
abbrev pub AgreesAt : Figure → BorderRule → Clue → (side : ℕ) → Type 0
AgreesAt s border c side =
    (colour other : ℕ) → IsBorderPair s c.cell side → Asks s border c.cell side colour → slice_get c.asks side ≡ Some (Some other) → colour ≡ other

-- a border pair, by what its rule and the clue ask
module _ (s : Figure) (border : BorderRule) (c : Clue) (side number : ℕ) (rule asked : Option ℕ) (long : IsAsLongAsBorder s border) (pair : IsBorderPair s c.cell side) (next : IsNextNumber s (c.cell, side) number) (is : (colour : ℕ) → (rule ≡ Some colour) ↔ AsksAt border number colour) (shows : slice_get c.asks side ≡ Some asked) where
  pub agrees_here : ((colour second : ℕ) → rule ≡ Some colour → asked ≡ Some second → colour ≡ second) → AgreesAt s border c side
  agrees_here same colour other at asks clue = same colour other ((is colour).1 ((asks_numbered s border c.cell side number colour long pair next).0 asks)) (inside (sym shows ∙ clue))

  pub defies_here : (colour : ℕ) × (second : ℕ) × (rule ≡ Some colour) × (asked ≡ Some second) × (colour ≢ second) → DefiesBorder s border c
  defies_here w = (side, w.0, w.1, pair, (asks_numbered s border c.cell side number w.0 long pair next).1 ((is w.0).0 w.2), shows ∙ ap Some w.3, w.4)

-- The first clues are of cells of the board, below the least next one, rising, with as many sides, and as the border asks.
pub record AreRight (s : Figure) (border : BorderRule) (clues : List BoardClue) (n least : ℕ) : Type 0 where
  pub cells : (k : ℕ) (c : BoardClue) → k < n → slice_get clues k ≡ Some c → c.cell < least
  pub rising : (k m : ℕ) (c d : BoardClue) → m < n → slice_get clues k ≡ Some c → slice_get clues m ≡ Some d → k < m → c.cell < d.cell
  pub sides : (k : ℕ) (c : BoardClue) → k < n → slice_get clues k ≡ Some c → length (clue_of c).asks ≡ side_count s
  pub agrees : (k : ℕ) (c : BoardClue) → k < n → slice_get clues k ≡ Some c → DefiesBorder s border (clue_of c) → ⊥
  pub within : least ≤ cell_count s
  pub last : (least ≡ 0) ⊎ ((before : ℕ) × (d : BoardClue) × (before < n) × (slice_get clues before ≡ Some d) × (least ≡ d.cell + 1))

pub right_none : (s : Figure) (border : BorderRule) (clues : List BoardClue) → AreRight s border clues 0 0
right_none s border clues = record {
  cells = λ k c lt. absurd (omega (arith, lt));
  rising = λ k m c d lt. absurd (omega (arith, lt));
  sides = λ k c lt. absurd (omega (arith, lt));
  agrees = λ k c lt. absurd (omega (arith, lt));
  within = omega arith;
  last = inl refl;
}

module _ (s : Figure) (border : BorderRule) (clues : List BoardClue) (n least : ℕ) (right : AreRight s border clues n least) where
  module _ (x : BoardClue) (at : slice_get clues n ≡ Some x) where
    pub right_more : least ≤ x.cell → x.cell < cell_count s → length (clue_of x).asks ≡ side_count s → (DefiesBorder s border (clue_of x) → ⊥) → AreRight s border clues (n + 1) (x.cell + 1)
    right_more after cell sides agrees = record {
      cells = λ k c lt there. each_more (λ (e : BoardClue). e.cell < x.cell + 1) clues n x (λ m e below stands. let few = right.cells m e below stands in omega (arith, few, after)) at (omega arith) k c lt there;
      rising = λ k m c d lt there stands order.
          ⊎_elim
          (λ e.
          let same = e.1 in
          let here : x ≡ d = inside (sym at ∙ ap (slice_get clues) (sym e.1) ∙ stands) in
          let few = right.cells k c (omega (arith, order, same)) there in
          subst (λ (b : BoardClue). c.cell < b.cell) here (omega (arith, few, after)))
          (λ ne. let other = ne.1 in right.rising k m c d (omega (arith, lt, other)) there stands order)
          (eqb_tells m n);
      sides = λ k c lt there. each_more (λ (e : BoardClue). length (clue_of e).asks ≡ side_count s) clues n x (λ m e below stands. right.sides m e below stands) at sides k c lt there;
      agrees = λ k c lt there. each_more (λ (e : BoardClue). DefiesBorder s border (clue_of e) → ⊥) clues n x (λ m e below stands. right.agrees m e below stands) at agrees k c lt there;
      within = omega (arith, cell);
      last = inr (n, x, omega arith, at, refl);
    }

module _ (board : Figure) (rules : Rules) (version : ℕ) (tiles : List Tile) (n least : ℕ) (right : AreRight board (rule_of rules.border.now) rules.clues.now n least) where
  -- what the border asks and what a clue does
  border_clue : length rules.clues.now ≤ n → (cell side colour other : ℕ) → IsBorderPair board cell side × Asks board (rule_of rules.border.now) cell side colour → AsksByClue (map clue_of rules.clues.now) cell side other → colour ≡ other
  border_clue all cell side colour other w v =
      let x = clue_stands rules.clues.now v.0 v.1 in
      let lt = x.3 in
      let same : cell ≡ x.1.cell = sym v.2 ∙ ap (λ (e : Clue). e.cell) x.4 in
      ⊎_elim
      (λ e. e.1)
      (λ ne.
      absurd
      (right.agrees x.0 x.1 (omega (arith, lt, all)) x.2
      (side, colour, other, subst (λ k. IsBorderPair board k side) same w.0, subst (λ k. Asks board (rule_of rules.border.now) k side colour) same w.1, subst (λ (e : Clue). slice_get e.asks side ≡ Some (Some other)) x.4 v.3, ne.1)))
      (eqb_tells colour other)

  -- what clues ask of one side
  clue_clue : length rules.clues.now ≤ n → (cell side colour other : ℕ) → AsksByClue (map clue_of rules.clues.now) cell side colour → AsksByClue (map clue_of rules.clues.now) cell side other → colour ≡ other
  clue_clue all cell side colour other w v =
      let x = clue_stands rules.clues.now w.0 w.1 in
      let y = clue_stands rules.clues.now v.0 v.1 in
      let x_in = x.3 in
      let y_in = y.3 in
      let same : x.1.cell ≡ y.1.cell = ap (λ (e : Clue). e.cell) (sym x.4) ∙ w.2 ∙ sym v.2 ∙ ap (λ (e : Clue). e.cell) y.4 in
      let shows = subst (λ (e : Clue). slice_get e.asks side ≡ Some (Some colour)) x.4 w.3 in
      let also = subst (λ (e : Clue). slice_get e.asks side ≡ Some (Some other)) y.4 v.3 in
      ⊎_elim
      (λ lt. let before = right.rising x.0 y.0 x.1 y.1 (omega (arith, y_in, all)) x.2 y.2 lt in absurd (omega (arith, before, same)))
      (λ le.
      ⊎_elim
      (λ lt. let before = right.rising y.0 x.0 y.1 x.1 (omega (arith, x_in, all)) y.2 x.2 lt in absurd (omega (arith, before, same)))
      (λ ge.
      let e : y.0 ≡ x.0 = omega (arith, le, ge) in
      let one : y.1 ≡ x.1 = inside (sym y.2 ∙ ap (slice_get rules.clues.now) e ∙ x.2) in
      inside (inside (sym shows ∙ subst (λ (b : BoardClue). slice_get (clue_of b).asks side ≡ Some (Some other)) one also)))
      (lt_or_le y.0 x.0))
      (lt_or_le x.0 y.0)

  -- Where all clues are right, they are those of a puzzle.
  pub right_all : length rules.clues.now ≤ n → AreClues (task_by board rules version tiles)
  right_all all = record {
    cells = λ k c stands.
        let x = mapped_at clue_of rules.clues.now k c stands in
        let lt = slice_get_within rules.clues.now k x.0 x.1 in
        let cell = right.cells k x.0 (omega (arith, lt, all)) x.1 in
        let within = right.within in
        subst (λ (e : Clue). e.cell < cell_count board) (sym x.2) (omega (arith, cell, within));
    rising = λ k m c d at_k at_m order.
        let x = mapped_at clue_of rules.clues.now k c at_k in
        let y = mapped_at clue_of rules.clues.now m d at_m in
        let lt = slice_get_within rules.clues.now m y.0 y.1 in
        subst (λ (e : Clue). e.cell < d.cell) (sym x.2) (subst (λ (e : Clue). x.0.cell < e.cell) (sym y.2) (right.rising k m x.0 y.0 (omega (arith, lt, all)) x.1 y.1 order));
    sides = λ k c stands.
        let x = mapped_at clue_of rules.clues.now k c stands in
        let lt = slice_get_within rules.clues.now k x.0 x.1 in
        subst (λ (e : Clue). length e.asks ≡ side_count board) (sym x.2) (right.sides k x.0 (omega (arith, lt, all)) x.1);
    colours = λ cell side colour asks.
        let x = clue_stands rules.clues.now asks.0 asks.1 in
        x.1.in_range side colour (subst (λ (e : Clue). slice_get e.asks side ≡ Some (Some colour)) x.4 asks.3);
    agree = λ cell side colour other one two.
        ⊎_elim
        (λ w. ⊎_elim (λ v. asks_one board (rule_of rules.border.now) cell side colour other w.1 v.1) (λ v. border_clue all cell side colour other w v) two.asked)
        (λ w. ⊎_elim (λ v. sym (border_clue all cell side other colour v w)) (λ v. clue_clue all cell side colour other w v) two.asked)
        one.asked;
  }

  -- why a clue is no right one
  abbrev pub IsWrong : BoardClue → Type 0
  IsWrong x = (cell_count board ≤ x.cell) ⊎ (x.cell < least) ⊎ (length (clue_of x).asks ≢ side_count board) ⊎ DefiesBorder board (rule_of rules.border.now) (clue_of x)

  abbrev Why : ℕ → Clue → Type 0
  Why k c =
      (cell_count board ≤ c.cell) ⊎ ((before : ℕ) × (d : Clue) × (before < k) × (slice_get (map clue_of rules.clues.now) before ≡ Some d) × (c.cell ≤ d.cell))
      ⊎ (length c.asks ≢ side_count board) ⊎ DefiesBorder board (rule_of rules.border.now) c

  not_before : (k : ℕ) → k < n → BreaksCluesAt (task_by board rules version tiles) k → ⊥
  not_before k lt breaks =
      let y = mapped_at clue_of rules.clues.now k breaks.0 breaks.1 in
      let why = subst (Why k) y.2 breaks.2 in
      ⊎_elim
      (λ high. let cell = right.cells k y.0 lt y.1 in let within = right.within in omega (arith, high, cell, within))
      (λ other.
      ⊎_elim
      (λ low.
      let z = mapped_at clue_of rules.clues.now low.0 low.1 low.3 in
      let order = right.rising low.0 k z.0 y.0 lt z.1 y.1 low.2 in
      let le = subst (λ (e : Clue). y.0.cell ≤ e.cell) z.2 low.4 in
      omega (arith, order, le))
      (λ last. ⊎_elim (λ odd. odd (right.sides k y.0 lt y.1)) (λ defies. right.agrees k y.0 lt y.1 defies) last)
      other)
      why

  pub first_wrong : (x : BoardClue) → slice_get rules.clues.now n ≡ Some x → IsWrong x → IsLeast (BreaksCluesAt (task_by board rules version tiles)) n
  first_wrong x at wrong = least_at (BreaksCluesAt (task_by board rules version tiles)) n (clue_of x, map_at clue_of rules.clues.now n x at, why wrong) not_before
    where
      why : IsWrong x → Why n (clue_of x)
      why is =
          ⊎_elim
          (λ high. inl high)
          (λ other.
          ⊎_elim
          (λ low.
          ⊎_elim
          (λ none. absurd (omega (arith, low, none)))
          (λ before. let same = before.4 in inr (inl (before.0, clue_of before.1, before.2, map_at clue_of rules.clues.now before.0 before.1 before.3, omega (arith, low, same))))
          right.last)
          (λ last. ⊎_elim (λ odd. inr (inr (inl odd))) (λ defies. inr (inr (inr defies))) last)
          other)
          is
