-- Pages to cut out, put together.
use Rattle.std.proofs.Common.{◌≡◌, ◌≤◌, ◌++◌, ◌∷◌, [], ℕ, List, None, Some, drop, length, refl, ap, slice_get, subst, suc, sym, take, zero, ⊎_elim, ◌∙◌, append_assoc, append-nil}
use Rattle.std.proofs.lemmas.List.{flat_map_more}
use Rattle.match_puzzle.proofs.TableLemmas.{pushed_is}
use Rattle.match_puzzle.specs.Puzzle.{Task}
use Rattle.match_puzzle.specs.declared.placements.Placement.{Placement}
use Rattle.show_pictures.specs.Arrows.{AreTileLines}
use Rattle.show_pictures.specs.Cuts.{AreTilePages, IsCutDocument, IsCutDocumentWith, IsTilePage, ShowsTiles, TilePage, page_begin, scale_begin, side_length}
use Rattle.show_pictures.specs.Grown.{Wraps}
use Rattle.show_pictures.specs.Pictures.{IsFullBoard}
use Rattle.show_pictures.specs.declared.canvases.Site.{Site}

-- ---- pages

-- words and two numbers with a space between them, and more words, written one after the other
pub begun : (words x y more : List ℕ) → (((words ++ x) ++ 32 ∷ []) ++ y) ++ more ≡ words ++ (x ++ (32 ∷ y ++ more))
begun words x y more = simp append_assoc

-- a text with these pieces, of which the third has become longer by tiles
page_is : (t title scale f parts k a b c : List ℕ) → (((((((t ++ title) ++ scale) ++ f) ++ parts) ++ k) ++ a) ++ b) ++ c ≡ t ++ title ++ scale ++ f ++ parts ++ (k ++ a ++ b ++ c)
page_is t title scale f parts k a b c = simp append_assoc

pub tile_page : (size : ℕ) (p : Task) (tiles : List Placement) (sites : List Site) (left top : ℕ) {t0 t1 t2 t3 t4 t5 t6 : List ℕ} (title a b c : List ℕ) → 1 ≤ length tiles → length sites ≡ length tiles
    → t0 ≡ page_begin (side_length p.board) → t1 ≡ t0 ++ title → t2 ≡ t1 ++ scale_begin size → Wraps (AreTileLines p left top sites tiles) t2 t3
    → t4 ≡ t3 ++ a → t5 ≡ t4 ++ b → t6 ≡ t5 ++ c → IsTilePage size p (record { tiles = tiles; text = t6 })
tile_page size p tiles sites left top title a b c some room e0 e1 e2 w e4 e5 e6 =
    let begin = page_begin (side_length p.board) in
    let scaled = e2 ∙ ap (λ t. t ++ scale_begin size) (e1 ∙ ap (λ t. t ++ title) e0) in
    let tiled = w.2.grown ∙ ap (λ t. t ++ w.2.front ++ w.0 ++ w.2.back) scaled in
    record {
      some = some;
      title = title;
      front = w.2.front;
      left = left;
      top = top;
      sites = sites;
      room = room;
      parts = w.0;
      are_parts = w.1;
      back = w.2.back ++ a ++ b ++ c;
      written = e6 ∙ ap (λ t. t ++ c) (e5 ∙ ap (λ t. t ++ b) (e4 ∙ ap (λ t. t ++ a) tiled))
          ∙ page_is begin title (scale_begin size) w.2.front w.0 w.2.back a b c;
    }

none_some : {X : Type 0} {x : X} → None ≡ Some x → ⊥
none_some e = cc

pub no_pages : (size : ℕ) (p : Task) → AreTilePages size p [] []
no_pages size p = record { pages = []; each = λ n page at. absurd (none_some at); in_order = refl; written = refl }

-- a page more, with tiles more
pub page_more : (size : ℕ) (p : Task) (tiles here : List Placement) (text page : List ℕ) → AreTilePages size p tiles text → IsTilePage size p (record { tiles = here; text = page }) → AreTilePages size p (tiles ++ here) (text ++ page)
page_more size p tiles here text page are is =
    let new : TilePage = record { tiles = here; text = page } in
    record {
      pages = are.pages ++ new ∷ [];
      each = λ n q at. ⊎_elim (λ w. are.each n q w.1) (λ w. subst (IsTilePage size p) (sym w.1) is) (pushed_is are.pages new n q at);
      in_order = ap (λ t. t ++ here) are.in_order ∙ flat_map_more (λ q. q.tiles) [] are.pages new;
      written = ap (λ t. t ++ page) are.written ∙ flat_map_more (λ q. q.text) [] are.pages new;
    }

-- ---- documents

-- a text that has become longer by just a piece
pub wraps_whole : {P : List ℕ → Type 0} {t0 t1 : List ℕ} (piece : List ℕ) → P piece → t1 ≡ t0 ++ piece → Wraps P t0 t1
wraps_whole {P} {t0} piece is e =
    (piece, is, record { front = []; back = []; grown = e ∙ ap (λ t. t ++ piece) (sym (append-nil t0)) ∙ sym (append-nil ((t0 ++ []) ++ piece)) })

pub cut_document : (size : ℕ) (p : Task) (t0 t1 last : List ℕ) → Wraps (ShowsTiles size p) t0 t1 → IsCutDocument size p (t1 ++ last)
cut_document size p t0 t1 last w = record {
  before = t0 ++ w.2.front;
  pages = w.0;
  are_pages = w.1;
  after = w.2.back ++ last;
  written = ap (λ t. t ++ last) w.2.grown ∙ append_assoc (t0 ++ w.2.front ++ w.0) w.2.back last;
}

both_are : (t0 wf pages wb begin vf board vb a b : List ℕ) → ((((((((t0 ++ wf) ++ pages) ++ wb) ++ begin) ++ vf) ++ board) ++ vb) ++ a) ++ b ≡ (t0 ++ wf) ++ pages ++ (wb ++ begin ++ vf) ++ board ++ (vb ++ a ++ b)
both_are t0 wf pages wb begin vf board vb a b = simp append_assoc

-- pages, and behind them a board
pub cut_document_with : (size : ℕ) (p : Task) (arrangement : List Placement) {t0 t1 t2 t3 t4 t5 : List ℕ} (begin a b : List ℕ) → Wraps (ShowsTiles size p) t0 t1 → t2 ≡ t1 ++ begin → Wraps (IsFullBoard p arrangement) t2 t3
    → t4 ≡ t3 ++ a → t5 ≡ t4 ++ b → IsCutDocumentWith size p arrangement t5
cut_document_with size p arrangement {t0} begin a b w e2 v e4 e5 =
    let begun = e2 ∙ ap (λ t. t ++ begin) w.2.grown in
    let boarded = v.2.grown ∙ ap (λ t. t ++ v.2.front ++ v.0 ++ v.2.back) begun in
    record {
      before = t0 ++ w.2.front;
      pages = w.0;
      are_pages = w.1;
      between = w.2.back ++ begin ++ v.2.front;
      board = v.0;
      is_board = v.1;
      after = v.2.back ++ a ++ b;
      written = e5 ∙ ap (λ t. t ++ b) (e4 ∙ ap (λ t. t ++ a) boarded) ∙ both_are t0 w.2.front w.0 w.2.back begin v.2.front v.0 v.2.back a b;
    }

-- the only one that is drawn is listed at the number
pub drawn_alone : {X : Type 0} (number : ℕ) (listed : List X) (x : X) → slice_get (take 1 (drop number listed)) 0 ≡ Some x → slice_get listed number ≡ Some x
drawn_alone zero [] x at = at
drawn_alone zero (y ∷ ys) x at = at
drawn_alone (suc number) [] x at = at
drawn_alone (suc number) (y ∷ ys) x at = drawn_alone number ys x at
