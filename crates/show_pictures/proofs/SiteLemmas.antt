-- Sites of a row, place by place.
use Rattle.std.proofs.Common.{◌≡◌, ◌<◌, ◌+◌, ◌++◌, ◌∷◌, [], ℕ, List, refl, ap, sym, subst, arith, length, ◌∙◌}
use Rattle.std.proofs.lemmas.List.{length_push}
use Rattle.match_board.specs.Board.{row_count, row_length, cells_above, cells_left, IsFilled}
use Rattle.match_board.specs.declared.figures.Figure.{Figure}
use Rattle.show_text.proofs.ListLemmas.{each_more}
use Rattle.show_text.proofs.RowLemmas.{left_filled, left_unfilled, here_stands}
use Rattle.show_pictures.specs.declared.canvases.Site.{Site}
use Rattle.show_pictures.specs.Sites.{AreSitesTo, IsSite, IsSiteAt}

-- one more, of a place with a cell
pub site_more : (s : Figure) (row place : ℕ) (sites more : List Site) (site : Site) → row < row_count s → place < row_length s row → IsFilled s row place → IsSiteAt s row place site → more ≡ sites ++ site ∷ [] → AreSitesTo s (cells_above s row + cells_left s row place) sites → AreSitesTo s (cells_above s row + cells_left s row (place + 1)) more
site_more s row place sites more site row_in place_in filled at made are =
    let before = cells_above s row + cells_left s row place in
    let here : IsSite s before site = record {
      row = row;
      place = place;
      stands = here_stands s s row place before refl row_in place_in filled refl;
      at = at;
    } in
    record {
      many = omega (arith, ap (λ l. length l) made ∙ length_push sites site, are.many, left_filled s row place filled);
      each = each_more (IsSite s) sites more site before made are.many are.each here;
    }

-- none, of a place without one
pub no_site_more : (s : Figure) (row place : ℕ) (sites more : List Site) → (IsFilled s row place → ⊥) → more ≡ sites → AreSitesTo s (cells_above s row + cells_left s row place) sites → AreSitesTo s (cells_above s row + cells_left s row (place + 1)) more
no_site_more s row place sites more none same are =
    subst (AreSitesTo s (cells_above s row + cells_left s row (place + 1))) (sym same)
    (subst (λ n. AreSitesTo s (cells_above s row + n) sites) (sym (left_unfilled s row place none)) are)
