-- The laws of pictures.
use Rattle.std.proofs.Common.{◌≡◌, ◌⊎◌, ◌<◌, ◌≤◌, ◌+◌, ◌-◌, ◌*◌, ℕ, min, arith, ap, sym, ◌∙◌, subst, inl, inr, ⊎_elim}
use Rattle.match_board.specs.Board.{StandsAt, row_count, PointsUp, PointsDown, LiesBelow, LiesBefore, SquaresLieBefore}
use Rattle.match_board.specs.declared.figures.Figure.{Figure}
use Rattle.match_board.specs.declared.figures.Figure.TheVariants.{Rectangle, Triangle, Hexagon, Shape}
use Rattle.match_limits.specs.declared.TheConstants.{MOST_COLOURS}
use Rattle.match_board.proofs.Places.{one_place}
use Rattle.match_puzzle.specs.Puzzle.{Task, colour_of, mate_of}
use Rattle.match_board.proofs.MateLemmas.{mate_back}
use Rattle.match_puzzle.proofs.TogetherLemmas.{together_turned}
use Rattle.show_text.specs.Triangles.{rows_in}
use Rattle.show_pictures.specs.Edges.{HasEdge}
use Rattle.show_pictures.specs.Forms.{begin_of}
use Rattle.show_pictures.specs.declared.canvases.Site.{Site}
use Rattle.show_pictures.specs.declared.edges.Edge.{Edge}
use Rattle.show_pictures.specs.declared.edges.Edge.TheVariants.{Flat, Knob, Hollow}
use Rattle.show_pictures.specs.declared.forms.Form.{Form}
use Rattle.show_pictures.specs.declared.forms.Form.TheVariants.{Square, Up, Down}
use Rattle.show_pictures.proofs.PaletteLemmas.{fills_differ, one_fill}
use Rattle.show_pictures.specs.Laws.{FillLaw, FittingLaw, FitTogether, SeamLaw, AreOnePoint, IsSeam, end_of}
use Rattle.show_pictures.specs.Sites.{IsSite, IsSiteAt, IsFormAt}

-- ---- fills

min_below : (a b most : ℕ) → a < most → min a b < most
min_below a b most lt = grind (arith, lt)

-- which of two numbers the lesser is
lesser : (a b : ℕ) → (min a b ≡ a) ⊎ (min a b ≡ b)
lesser a b = grind arith

pub fill_law : FillLaw
fill_law p colour other puzzle few few' same =
    let mate = mate_of p colour in
    let mate' = mate_of p other in
    let e = fills_differ (min colour mate) (min other mate') (min_below colour mate MOST_COLOURS few) (min_below other mate' MOST_COLOURS few') same in
    let back = mate_back p.mating.mates puzzle.mating.mates in
    ⊎_elim
    (λ own. ⊎_elim (λ own'. inl (sym own ∙ e ∙ own')) (λ of_mate'. inr (sym own ∙ e ∙ of_mate')) (lesser other mate'))
    (λ of_mate. ⊎_elim
    (λ own'. inr (sym (back colour) ∙ ap (mate_of p) (sym of_mate ∙ e ∙ own')))
    (λ of_mate'. inl (sym (back colour) ∙ ap (mate_of p) (sym of_mate ∙ e ∙ of_mate') ∙ back other))
    (lesser other mate'))
    (lesser colour mate)

-- ---- edges

fit : (p : Task) (colour other : ℕ) (edge edge' : Edge) → colour ≡ mate_of p other → other ≡ mate_of p colour → HasEdge p colour edge → HasEdge p other edge' → FitTogether edge edge'
fit p colour other Flat Flat e e' h h' = tt
fit p colour other Flat Knob e e' h h' = omega (arith, e, e', h, h')
fit p colour other Flat Hollow e e' h h' = omega (arith, e, e', h, h')
fit p colour other Knob Flat e e' h h' = omega (arith, e, e', h, h')
fit p colour other Knob Knob e e' h h' = omega (arith, e, e', h, h')
fit p colour other Knob Hollow e e' h h' = tt
fit p colour other Hollow Flat e e' h h' = omega (arith, e, e', h, h')
fit p colour other Hollow Knob e e' h h' = tt
fit p colour other Hollow Hollow e e' h h' = omega (arith, e, e', h, h')

pub fitting_law : FittingLaw
fitting_law p a cell side cell' side' x y edge edge' puzzle is meets at at' has has' =
    let colour = colour_of p x side in
    let other = colour_of p y side' in
    let e : colour ≡ mate_of p other = is.edges cell side cell' side' x y meets at at' in
    let e' : other ≡ mate_of p colour = together_turned p puzzle colour other e in
    (one_fill p colour other e e', fit p colour other edge edge' e e' has has')

-- ---- seams

module _ (site site' : Site) (side side' : ℕ) where
  seam : (form form' : Form) (k k' : ℕ) → site.form ≡ form → site'.form ≡ form' → side ≡ k → side' ≡ k'
      → AreOnePoint site (begin_of form k) site' (end_of form' k') → AreOnePoint site (end_of form k) site' (begin_of form' k') → IsSeam site side site' side'
  seam form form' k k' f f' e e' begins ends =
      let begin = ap (λ g. begin_of g side) f ∙ ap (begin_of form) e in
      let end = ap (λ g. end_of g side) f ∙ ap (end_of form) e in
      let begin' = ap (λ g. begin_of g side') f' ∙ ap (begin_of form') e' in
      let end' = ap (λ g. end_of g side') f' ∙ ap (end_of form') e' in
      record {
        begins = subst (λ (o : ℕ × ℕ). AreOnePoint site o site' (end_of site'.form side')) (sym begin) (subst (λ (o : ℕ × ℕ). AreOnePoint site (begin_of form k) site' o) (sym end') begins);
        ends = subst (λ (o : ℕ × ℕ). AreOnePoint site o site' (begin_of site'.form side')) (sym end) (subst (λ (o : ℕ × ℕ). AreOnePoint site (end_of form k) site' o) (sym begin') ends);
      }

-- from the other side
turned : {site site' : Site} {side side' : ℕ} → IsSeam site side site' side' → IsSeam site' side' site side
turned w = record {
  begins = let o = w.ends in record { x = sym o.x; y = sym o.y };
  ends = let o = w.begins in record { x = sym o.x; y = sym o.y };
}

-- squares
squares : (row place side row' place' side' : ℕ) (site site' : Site) → SquaresLieBefore row place side row' place' side'
    → site.form ≡ Square → site.x ≡ 80 * place → site.y ≡ 80 * row → site'.form ≡ Square → site'.x ≡ 80 * place' → site'.y ≡ 80 * row' → IsSeam site side site' side'
squares row place side row' place' side' site site' lie f x y f' x' y' =
    ⊎_elim
    (λ east. let r = east.2 in let c = east.3 in
    seam site site' side side' Square Square 1 3 f f' east.0 east.1
    (record { x = omega (arith, x, x', c); y = omega (arith, y, y', r) })
    (record { x = omega (arith, x, x', c); y = omega (arith, y, y', r) }))
    (λ south. let r = south.2 in let c = south.3 in
    seam site site' side side' Square Square 2 0 f f' south.0 south.1
    (record { x = omega (arith, x, x', c); y = omega (arith, y, y', r) })
    (record { x = omega (arith, x, x', c); y = omega (arith, y, y', r) }))
    lie

-- triangles: one that points up with the one at its right, and one that points down with the one at its right
module _ (site site' : Site) (side side' : ℕ) where
  up_right : site.form ≡ Up → site'.form ≡ Down → side ≡ 0 → side' ≡ 0 → site'.x ≡ site.x + 52 → site'.y ≡ site.y → IsSeam site side site' side'
  up_right f f' e e' x y =
      seam site site' side side' Up Down 0 0 f f' e e' (record { x = omega (arith, x); y = omega (arith, y) }) (record { x = omega (arith, x); y = omega (arith, y) })

  down_right : site.form ≡ Down → site'.form ≡ Up → side ≡ 2 → side' ≡ 2 → site'.x ≡ site.x + 52 → site'.y ≡ site.y → IsSeam site side site' side'
  down_right f f' e e' x y =
      seam site site' side side' Down Up 2 2 f f' e e' (record { x = omega (arith, x); y = omega (arith, y) }) (record { x = omega (arith, x); y = omega (arith, y) })

  below : site.form ≡ Up → site'.form ≡ Down → side ≡ 1 → side' ≡ 1 → site'.x ≡ site.x → site'.y ≡ site.y + 90 → IsSeam site side site' side'
  below f f' e e' x y =
      seam site site' side side' Up Down 1 1 f f' e e' (record { x = omega (arith, x); y = omega (arith, y) }) (record { x = omega (arith, x); y = omega (arith, y) })

upper : (size row : ℕ) → row < size → rows_in size row ≡ size - 1 - row
upper size row lt = grind (arith, lt)

lower : (size row : ℕ) → size ≤ row → rows_in size row ≡ row - size
lower size row le = grind (arith, le)

-- the form of a triangle
is_up : (size row place : ℕ) (site : Site) → IsFormAt (Triangle size) row place site.form → PointsUp (Triangle size) row place → site.form ≡ Up
is_up size row place site is up = ⊎_elim (λ w. w.1) (λ w. absurd (omega (arith, w.0, up))) is

is_down : (size row place : ℕ) (site : Site) → IsFormAt (Triangle size) row place site.form → PointsDown (Triangle size) row place → site.form ≡ Down
is_down size row place site is down = ⊎_elim (λ w. absurd (omega (arith, w.0, down))) (λ w. w.1) is

-- the form of a triangle in a hexagon
not_both : (size row place : ℕ) → PointsUp (Hexagon size) row place → PointsDown (Hexagon size) row place → ⊥
not_both size row place up down =
    ⊎_elim
    (λ u. ⊎_elim (λ d. omega (arith, u.1, d.1)) (λ d. omega (arith, u.0, d.0)) down)
    (λ u. ⊎_elim (λ d. omega (arith, u.0, d.0)) (λ d. omega (arith, u.1, d.1)) down)
    up

hexagon_up : (size row place : ℕ) (site : Site) → IsFormAt (Hexagon size) row place site.form → PointsUp (Hexagon size) row place → site.form ≡ Up
hexagon_up size row place site is up = ⊎_elim (λ w. w.1) (λ w. absurd (not_both size row place up w.0)) is

hexagon_down : (size row place : ℕ) (site : Site) → IsFormAt (Hexagon size) row place site.form → PointsDown (Hexagon size) row place → site.form ≡ Down
hexagon_down size row place site is down = ⊎_elim (λ w. absurd (not_both size row place w.0 down)) (λ w. w.1) is

-- beside one that points up stands one that points down, and the other way round
beside_up : (size row place row' place' : ℕ) → PointsUp (Hexagon size) row place → row' ≡ row → place' ≡ place + 1 → PointsDown (Hexagon size) row' place'
beside_up size row place row' place' up r c =
    ⊎_elim (λ u. inl (omega (arith, r, u.0), omega (arith, c, u.1))) (λ u. inr (omega (arith, r, u.0), omega (arith, c, u.1))) up

beside_down : (size row place row' place' : ℕ) → PointsDown (Hexagon size) row place → row' ≡ row → place' ≡ place + 1 → PointsUp (Hexagon size) row' place'
beside_down size row place row' place' down r c =
    ⊎_elim (λ d. inl (omega (arith, r, d.0), omega (arith, c, d.1))) (λ d. inr (omega (arith, r, d.0), omega (arith, c, d.1))) down

-- below one that points up stands one that points down, under it
below_up : (size row place row' place' : ℕ) → PointsUp (Hexagon size) row place → row' ≡ row + 1 → LiesBelow (Hexagon size) row place place'
    → PointsDown (Hexagon size) row' place' × (52 * (rows_in size row' + place') ≡ 52 * (rows_in size row + place))
below_up size row place row' place' up r lies =
    ⊎_elim
    (λ a. let lt = a.0 in let c = a.1 in
    let here = upper size row (omega (arith, lt)) in
    let there = upper size row' (omega (arith, lt, r)) in
    ⊎_elim (λ u. (inl (omega (arith, lt, r), omega (arith, u.1, c)), omega (arith, here, there, lt, r, c))) (λ u. absurd (omega (arith, u.0, lt))) up)
    (λ b. ⊎_elim
    (λ a. let e = a.0 in let c = a.1 in
    let here = upper size row (omega (arith, e)) in
    let there = lower size row' (omega (arith, e, r)) in
    ⊎_elim (λ u. (inr (omega (arith, e, r), omega (arith, u.1, c)), omega (arith, here, there, e, r, c))) (λ u. absurd (omega (arith, u.0, e))) up)
    (λ a. let le = a.0 in let c = a.1 in
    let here = lower size row le in
    let there = lower size row' (omega (arith, le, r)) in
    ⊎_elim (λ u. absurd (omega (arith, u.0, le))) (λ u. (inr (omega (arith, le, r), omega (arith, u.1, c)), omega (arith, here, there, le, r, c))) up)
    b)
    lies

-- a row above is as far in, or not
same_row_x : (size row row' place place' : ℕ) → row' ≡ row → place' ≡ place + 1 → 52 * (rows_in size row' + place') ≡ 52 * (rows_in size row + place) + 52
same_row_x size row row' place place' r c = let e = ap (rows_in size) r in omega (arith, e, c)

before_seam : (s : Figure) (row place side row' place' side' : ℕ) (site site' : Site) → row' < row_count s → LiesBefore s row place side row' place' side'
    → IsSiteAt s row place site → IsSiteAt s row' place' site' → IsSeam site side site' side'
before_seam (Rectangle width height) row place side row' place' side' site site' in_rows lie at at' =
    squares row place side row' place' side' site site' lie at.form at.x at.y at'.form at'.x at'.y
before_seam (Shape width height mask) row place side row' place' side' site site' in_rows lie at at' =
    squares row place side row' place' side' site site' lie at.form at.x at.y at'.form at'.x at'.y
before_seam (Triangle size) row place side row' place' side' site site' in_rows lie at at' =
    let x = at.x in let y = at.y in let x' = at'.x in let y' = at'.y in
    ⊎_elim
    (λ a. let up = a.0 in let r = a.3 in let c = a.4 in let far = same_row_x size row row' place place' r c in
    up_right site site' side side' (is_up size row place site at.form up) (is_down size row' place' site' at'.form (omega (arith, up, c))) a.1 a.2 (omega (arith, x, x', far)) (omega (arith, y, y', r)))
    (λ b. ⊎_elim
    (λ a. let down = a.0 in let r = a.3 in let c = a.4 in let far = same_row_x size row row' place place' r c in
    down_right site site' side side' (is_down size row place site at.form down) (is_up size row' place' site' at'.form (omega (arith, down, c))) a.1 a.2 (omega (arith, x, x', far)) (omega (arith, y, y', r)))
    (λ a. let up = a.0 in let r = a.3 in let c = a.4 in
    let here = upper size row (omega (arith, in_rows, r)) in
    let there = upper size row' (omega (arith, in_rows)) in
    below site site' side side' (is_up size row place site at.form up) (is_down size row' place' site' at'.form (omega (arith, up, c))) a.1 a.2 (omega (arith, x, x', here, there, r, c, in_rows)) (omega (arith, y, y', r)))
    b)
    lie
before_seam (Hexagon size) row place side row' place' side' site site' in_rows lie at at' =
    let x = at.x in let y = at.y in let x' = at'.x in let y' = at'.y in
    ⊎_elim
    (λ a. let up = a.0 in let r = a.3 in let c = a.4 in let far = same_row_x size row row' place place' r c in
    up_right site site' side side' (hexagon_up size row place site at.form up) (hexagon_down size row' place' site' at'.form (beside_up size row place row' place' up r c)) a.1 a.2 (omega (arith, x, x', far)) (omega (arith, y, y', r)))
    (λ b. ⊎_elim
    (λ a. let down = a.0 in let r = a.3 in let c = a.4 in let far = same_row_x size row row' place place' r c in
    down_right site site' side side' (hexagon_down size row place site at.form down) (hexagon_up size row' place' site' at'.form (beside_down size row place row' place' down r c)) a.1 a.2 (omega (arith, x, x', far)) (omega (arith, y, y', r)))
    (λ a. let up = a.0 in let r = a.3 in
    let under = below_up size row place row' place' up r a.4 in
    let same = under.1 in
    below site site' side side' (hexagon_up size row place site at.form up) (hexagon_down size row' place' site' at'.form under.0) a.1 a.2 (omega (arith, x, x', same)) (omega (arith, y, y', r)))
    b)
    lie

-- the site of a cell at the place where it stands
site_at : (s : Figure) (cell row place : ℕ) (site : Site) → StandsAt s cell row place → IsSite s cell site → IsSiteAt s row place site
site_at s cell row place site stands is =
    let same = one_place is.stands stands in
    subst (λ r. IsSiteAt s r place site) same.0 (subst (λ c. IsSiteAt s is.row c site) same.1 is.at)

pub seam_law : SeamLaw
seam_law s cell side cell' side' site site' meets is is' =
    let at = site_at s cell meets.row meets.place site meets.here is in
    let at' = site_at s cell' meets.row' meets.place' site' meets.there is' in
    ⊎_elim
    (λ before. before_seam s meets.row meets.place side meets.row' meets.place' side' site site' meets.there.row_in before at at')
    (λ after. turned (before_seam s meets.row' meets.place' side' meets.row meets.place side site' site meets.here.row_in after at' at))
    meets.against
