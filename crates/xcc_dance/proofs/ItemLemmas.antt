-- Which items options have, and when they clash.
use Rattle.std.proofs.Common.{◌≡◌, ◌⊎◌, ◌+◌, ℕ, zero, suc, List, [], ◌∷◌, Some, Contains, slice_get, map, arith, ap, inl, inr, sym, ◌∙◌, subst, ⊎_elim}
use Rattle.std.proofs.lemmas.Option.{none-some}
use Rattle.match_board.specs.Board.{cell_count}
use Rattle.match_puzzle.specs.declared.placements.Pair.{Pair}
use Rattle.match_puzzle.proofs.Prefixes.{inside}
use Rattle.xcc_form.specs.ExactCover.{HasPrimary, HasColour}
use Rattle.xcc_form.specs.Options.{Choice, Compiled, IsCompiled, items_of, cover_of}
use Rattle.xcc_form.specs.Correspondence.{IsPairOf}
use Rattle.xcc_form.specs.declared.edges.Edge.{Edge}
use Rattle.xcc_form.proofs.OptionLemmas.{option_pair, one_pair, primary_of, has_cell, has_tile}
use Rattle.xcc_form.specs.Clashes.{Clash, ShareAnItem}

pub to_map : {X Y : Type 0} (f : X → Y) (xs : List X) (i : ℕ) (x : X) → slice_get xs i ≡ Some x → slice_get (map f xs) i ≡ Some (f x)
to_map f [] i x at = absurd (none-some x at)
to_map f (y ∷ xs) zero x at = ap (λ z. Some (f z)) (inside at)
to_map f (y ∷ xs) (suc i) x at = to_map f xs i x at

-- The edges are those of the option with this number.
abbrev pub HasEdges : Compiled → (option : ℕ) → List Edge → Type 0
HasEdges x option es = (c : Choice) × (slice_get x.options option ≡ Some c) × (c.edges ≡ es)

module _ (x : Compiled) (is : IsCompiled x) where
  module _ (option item : ℕ) (y : Pair) (w : IsPairOf x option y) where
    pub cell_has : y.cell ≡ item → HasPrimary (cover_of x) option item
    cell_has e = subst (HasPrimary (cover_of x) option) e (has_cell x is option y w)

    pub tile_has : cell_count x.puzzle.board + y.placement.tile ≡ item → HasPrimary (cover_of x) option item
    tile_has e = subst (HasPrimary (cover_of x) option) e (has_tile x is option y w)

    pub is_item : HasPrimary (cover_of x) option item → (item ≡ y.cell) ⊎ (item ≡ cell_count x.puzzle.board + y.placement.tile)
    is_item has =
        let of = primary_of x is option item has in
        subst (λ (q : Pair). (item ≡ q.cell) ⊎ (item ≡ cell_count x.puzzle.board + q.placement.tile)) (one_pair x is option of.0 y of.1 w) of.2

  pub edge_has : (option item colour : ℕ) (es : List Edge) → HasEdges x option es → Contains es (record { item = item; colour = colour }) → HasColour (cover_of x) option item colour
  edge_has option item colour es w among = (
    items_of (cell_count x.puzzle.board) w.0,
    to_map (items_of (cell_count x.puzzle.board)) x.options option w.0 w.1,
    subst (λ (fs : List Edge). Contains fs (record { item = item; colour = colour })) (sym w.2) among,
  )

  module _ (o p : ℕ) (y z : Pair) (w : IsPairOf x o y) (v : IsPairOf x p z) where
    pub share_cell : y.cell ≡ z.cell → Clash (cover_of x) o p
    share_cell e = inl (record { item = y.cell; one = has_cell x is o y w; two = cell_has p y.cell z v (sym e) })

    pub share_tile : y.placement.tile ≡ z.placement.tile → Clash (cover_of x) o p
    share_tile e = inl (record { item = cell_count x.puzzle.board + y.placement.tile; one = has_tile x is o y w; two = tile_has p (cell_count x.puzzle.board + y.placement.tile) z v (omega (arith, e)) })

    pub shares : ShareAnItem (cover_of x) o p → (y.cell ≡ z.cell) ⊎ (y.placement.tile ≡ z.placement.tile)
    shares s =
        let within = (option_pair x is o y w).cell in
        let within' = (option_pair x is p z v).cell in
        ⊎_elim
        (λ a. ⊎_elim (λ b. inl (sym a ∙ b)) (λ b. absurd (omega (arith, a, b, within))) (is_item p s.item z v s.two))
        (λ a. ⊎_elim (λ b. absurd (omega (arith, a, b, within'))) (λ b. inr (omega (arith, a, b))) (is_item p s.item z v s.two))
        (is_item o s.item y w s.one)
