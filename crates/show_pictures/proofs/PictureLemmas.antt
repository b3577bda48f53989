-- Pictures, put together.
use Rattle.std.proofs.Common.{◌≡◌, ◌++◌, ℕ, List, [], Bool, true, false, if◌then◌else◌, None, Some, refl, ap, sym, length, ◌∙◌, append_assoc, append-nil}
use Rattle.std.specs.List.{flat_map}
use Rattle.match_puzzle.specs.Puzzle.{Task}
use Rattle.match_puzzle.specs.declared.placements.Placement.{Placement}
use Rattle.show_pictures.specs.Arrows.{AreTileLines, arrow_line}
use Rattle.show_pictures.specs.Elements.{AreBandLines}
use Rattle.show_pictures.specs.declared.canvases.Site.{Site}
use Rattle.show_pictures.specs.Grown.{Grows, IsWrapped, Wraps}
use Rattle.show_pictures.specs.Pictures.{AreSpare, AreUnturned, IsArrangementPicture, IsEmptyBoard, IsFullBoard, IsLonePicture, IsPuzzlePicture}
use Rattle.show_pictures.specs.Sites.{AreSites}

-- what two pieces leave, and what is written behind them
two_pieces : {bands parts t0 t1 t2 : List ℕ} (last : List ℕ) (w : IsWrapped bands t0 t1) (v : IsWrapped parts t1 t2) → t2 ++ last ≡ t0 ++ w.front ++ bands ++ (w.back ++ v.front) ++ parts ++ (v.back ++ last)
two_pieces {bands} {parts} {t0} {t1} {t2} last w v =
    let head = t0 ++ w.front ++ bands in
    ap (λ t. t ++ last) v.grown
    ∙ append_assoc (t1 ++ v.front ++ parts) v.back last
    ∙ ap (λ t. t ++ v.front ++ parts ++ (v.back ++ last)) w.grown
    ∙ ap (λ t. t ++ parts ++ (v.back ++ last)) (append_assoc head w.back v.front)

-- bands, and then the parts of tiles
pub full_board : (p : Task) (a : List Placement) (sites : List Site) (t0 t1 t2 : List ℕ) → AreSites p.board sites → Wraps (AreBandLines p 40 40 sites) t0 t1 → Wraps (AreTileLines p 40 40 sites a) t1 t2 → Wraps (IsFullBoard p a) t0 t2
full_board p a sites t0 t1 t2 are w v =
    let board : IsFullBoard p a (w.0 ++ (w.2.back ++ v.2.front) ++ v.0) = record {
      sites = sites;
      are_sites = are;
      bands = w.0;
      are_bands = w.1;
      between = w.2.back ++ v.2.front;
      parts = v.0;
      are_parts = v.1;
      written = refl;
    } in (
      w.0 ++ (w.2.back ++ v.2.front) ++ v.0,
      board,
      record {
        front = w.2.front;
        back = v.2.back;
        grown = v.2.grown ∙ ap (λ t. t ++ v.2.front ++ v.0 ++ v.2.back) w.2.grown ∙ joined t0 w.2.front w.0 w.2.back v.2.front v.0 v.2.back;
      },
    )
  where
    joined : (t wf bands wb vf parts vb : List ℕ) → ((t ++ wf ++ bands ++ wb) ++ vf) ++ parts ++ vb ≡ t ++ wf ++ (bands ++ (wb ++ vf) ++ parts) ++ vb
    joined t wf bands wb vf parts vb = simp append_assoc

pub pictured : (p : Task) (a : List Placement) (t0 t1 last : List ℕ) → Wraps (IsFullBoard p a) t0 t1 → IsArrangementPicture p a (t1 ++ last)
pictured p a t0 t1 last w = record {
  before = t0 ++ w.2.front;
  board = w.0;
  is_board = w.1;
  after = w.2.back ++ last;
  written = ap (λ t. t ++ last) w.2.grown ∙ append_assoc (t0 ++ w.2.front ++ w.0) w.2.back last;
}

-- a board, and the tiles that are left over
pub lone_pictured : (p : Task) (a xs : List Placement) (tray : List Site) (tray_left tray_top : ℕ) (t0 t1 t2 last : List ℕ) → length tray ≡ length xs → AreSpare p a xs → Wraps (IsFullBoard p a) t0 t1 → Wraps (AreTileLines p tray_left tray_top tray xs) t1 t2 → IsLonePicture p a (t2 ++ last)
lone_pictured p a xs tray tray_left tray_top t0 t1 t2 last room spare w v = record {
  before = t0 ++ w.2.front;
  board = w.0;
  is_board = w.1;
  between = w.2.back ++ v.2.front;
  tray_left = tray_left;
  tray_top = tray_top;
  tray = tray;
  tiles = xs;
  room = room;
  are_tiles = spare;
  parts = v.0;
  are_parts = v.1;
  after = v.2.back ++ last;
  written = two_pieces last w.2 v.2;
}

-- where no tile is left over, nothing is written
pub none_below : (p : Task) (left top : ℕ) (text : List ℕ) → Wraps (AreTileLines p left top [] []) text text
none_below p left top text =
    let none : AreTileLines p left top [] [] [] = record {
      parts = [];
      are_parts = record { pieces = []; many = refl; each = λ n piece at. absurd (none_some at); joined = refl };
      between = [];
      written = no_arrows p.turns;
    } in
    ([], none, record { front = []; back = []; grown = sym (append-nil text) ∙ sym (append-nil (text ++ [])) ∙ sym (append-nil ((text ++ []) ++ [])) })
  where
    none_some : {X : Type 0} {x : X} → None ≡ Some x → ⊥
    none_some e = cc

    no_arrows : (turns : Bool) → [] ≡ [] ++ [] ++ (if turns then [] else flat_map (arrow_line left top) [])
    no_arrows true = refl
    no_arrows false = refl

pub puzzle_pictured : (p : Task) (xs : List Placement) (sites tray : List Site) (left tray_left tray_top : ℕ) (t0 t1 t2 last : List ℕ) → AreSites p.board sites → length tray ≡ length xs → AreUnturned (length p.words) xs → Wraps (IsEmptyBoard p left 40 sites) t0 t1 → Wraps (AreTileLines p tray_left tray_top tray xs) t1 t2 → IsPuzzlePicture p (t2 ++ last)
puzzle_pictured p xs sites tray left tray_left tray_top t0 t1 t2 last are room unturned w v = record {
  left = left;
  sites = sites;
  are_sites = are;
  before = t0 ++ w.2.front;
  board = w.0;
  is_board = w.1;
  between = w.2.back ++ v.2.front;
  tray_left = tray_left;
  tray_top = tray_top;
  tray = tray;
  tiles = xs;
  room = room;
  are_tiles = unturned;
  parts = v.0;
  are_parts = v.1;
  after = v.2.back ++ last;
  written = two_pieces last w.2 v.2;
}

-- pictures behind a beginning, and what is written behind them
pub on_a_sheet : (before pictures last : List ℕ) {t1 t2 : List ℕ} → t1 ≡ before ++ pictures → (g : Grows t1 t2) → t2 ++ last ≡ before ++ pictures ++ (g.more ++ last)
on_a_sheet before pictures last {t1} e g =
    ap (λ t. t ++ last) g.grown ∙ append_assoc t1 g.more last ∙ ap (λ t. t ++ (g.more ++ last)) e
