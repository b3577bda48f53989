-- What clues ask.
use Rattle.std.proofs.Common.{◌≡◌, ◌≢◌, ◌<◌, ◌↔◌, ◌∷◌, [], ℕ, zero, suc, List, Option, Some, None, Contains, length, map, slice_get, ap, sym, ◌∙◌, subst}
use Rattle.std.proofs.lemmas.Option.{slice_get_within}
use Rattle.match_board.specs.Clues.{Clue, clue_of, AsksByClue}
use Rattle.match_board.specs.declared.clues.Clue.{Clue as BoardClue}
use Rattle.match_limits.proofs.OptionLemmas.{none_some, inside}
use Rattle.match_limits.proofs.ListLemmas.{contains_at, mapped_at, place_of}

pub map_at : {X Y : Type 0} (f : X → Y) (xs : List X) (i : ℕ) (x : X) → slice_get xs i ≡ Some x → slice_get (map f xs) i ≡ Some (f x)
map_at f [] i x e = absurd (none_some e)
map_at f (y ∷ ys) zero x e = ap (λ z. Some (f z)) (inside e)
map_at f (y ∷ ys) (suc i) x e = map_at f ys i x e

module _ (clues : List BoardClue) where
  -- a clue that stands in the list is one of the clues
  pub is_clue : (i : ℕ) (x : BoardClue) → slice_get clues i ≡ Some x → Contains (map clue_of clues) (clue_of x)
  is_clue i x at = contains_at (map clue_of clues) i (clue_of x) (map_at clue_of clues i x at)

  -- one of the clues stands in the list
  pub clue_stands : (c : Clue) → Contains (map clue_of clues) c → (i : ℕ) × (x : BoardClue) × (slice_get clues i ≡ Some x) × (i < length clues) × (c ≡ clue_of x)
  clue_stands c has =
      let i = place_of (map clue_of clues) c has in
      let x = mapped_at clue_of clues i.0 c i.1 in
      (i.0, x.0, x.1, slice_get_within clues i.0 x.0 x.1, x.2)

  -- what the one clue of the cell asks
  pub asked_is : (i : ℕ) (x : BoardClue) (cell side : ℕ) (asked : Option ℕ) → slice_get clues i ≡ Some x → x.cell ≡ cell → ((c d : Clue) → Contains (map clue_of clues) c → Contains (map clue_of clues) d → c.cell ≡ d.cell → c ≡ d) →
      slice_get (clue_of x).asks side ≡ Some asked → (colour : ℕ) → (asked ≡ Some colour) ↔ AsksByClue (map clue_of clues) cell side colour
  asked_is i x cell side asked at is once shows colour =
      let has = is_clue i x at in (
        λ e. (clue_of x, has, is, shows ∙ ap Some e),
        λ w. inside (sym shows ∙ subst (λ (c : Clue). slice_get c.asks side ≡ Some (Some colour)) (once w.0 (clue_of x) w.1 has (w.2 ∙ sym is)) w.3),
      )

  -- where no clue has the cell, none asks anything there
  pub none_asked : (cell side : ℕ) → ((k : ℕ) (c : BoardClue) → k < length clues → slice_get clues k ≡ Some c → c.cell ≢ cell) → (colour : ℕ) → (None ≡ Some colour) ↔ AsksByClue (map clue_of clues) cell side colour
  none_asked cell side none colour = (
    λ e. absurd (none_some e),
    λ w.
        let x = clue_stands w.0 w.1 in
        absurd (none x.0 x.1 x.3 x.2 (ap (λ (k : Clue). k.cell) (sym x.4) ∙ w.2)),
  )
