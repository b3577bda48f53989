use Rattle.std.proofs.Common.{◌≡◌, ◌<◌, ◌+◌, ◌++◌, ◌∷◌, [], ℕ, zero, suc, Bool, false, List, MatchBool, length, length-append, get_or, ap, sym, subst, ◌∙◌, arith, ⊎_elim}
use Rattle.std.proofs.Math.ListN.{get_or-append}
use Rattle.std.proofs.Math.Seq.{get_or-append_seam}
use Rattle.std.proofs.lemmas.Bool.Decides.{eqb_tells}
use Rattle.match_board.specs.declared.figures.Figure.{Figure}
use Rattle.count_search.specs.Balance.{is_outer}
use Rattle.count_search.proofs.BalanceLemmas.{MeetsNone, MeetsSome}
use Rattle.count_search.proofs.balances.outer_sides.Goals as goal

-- It is told of the sides of the first so many cells.
abbrev TellUpTo : Figure → (cells : ℕ) → List (List Bool) → Type 0
TellUpTo s cells outer = (cell side : ℕ) → cell < cells → side < 4 → MatchBool (is_outer outer cell side) (MeetsNone s cell side) (MeetsSome s cell side)

-- It is told of a side by this value.
abbrev Tells : Figure → (cell side : ℕ) → Bool → Type 0
Tells s cell side told = MatchBool told (MeetsNone s cell side) (MeetsSome s cell side)

tell_more : (s : Figure) (outer : List (List Bool)) (cells : ℕ) → length outer ≡ cells → TellUpTo s cells outer → (a b d e : Bool) → Tells s cells 0 a → Tells s cells 1 b → Tells s cells 2 d → Tells s cells 3 e
    → TellUpTo s (cells + 1) (outer ++ (a ∷ b ∷ d ∷ e ∷ []) ∷ [])
tell_more s outer cells long told a b d e first second third fourth cell side lt side_in =
    ⊎_elim
    (λ same. subst (λ row. MatchBool (get_or row side false) (MeetsNone s cell side) (MeetsSome s cell side)) (sym (ap (λ n. get_or more n []) (same.1 ∙ sym long) ∙ get_or-append_seam outer (a ∷ b ∷ d ∷ e ∷ []) [] []))
    (subst (λ n. Tells s n side (get_or (a ∷ b ∷ d ∷ e ∷ []) side false)) (sym same.1) (by_side side side_in)))
    (λ other.
    let before : cell < cells = omega (arith, lt, other.1) in
    subst (λ row. MatchBool (get_or row side false) (MeetsNone s cell side) (MeetsSome s cell side)) (sym (get_or-append outer ((a ∷ b ∷ d ∷ e ∷ []) ∷ []) [] cell (omega (arith, before, long)))) (told cell side before side_in))
    (eqb_tells cell cells)
  where
    more : List (List Bool)
    more = outer ++ (a ∷ b ∷ d ∷ e ∷ []) ∷ []

    by_side : (k : ℕ) → k < 4 → Tells s cells k (get_or (a ∷ b ∷ d ∷ e ∷ []) k false)
    by_side zero lt' = first
    by_side (suc zero) lt' = second
    by_side (suc (suc zero)) lt' = third
    by_side (suc (suc (suc zero))) lt' = fourth
    by_side (suc (suc (suc (suc k)))) lt' = absurd (omega (arith, lt'))

pub loop-cell-preserved : goal.loop-cell-preserved
loop-cell-preserved c =
    let outer = c.loop-cell.outer.items in
    let row = c.is_outer.result ∷ c.is_outer-in-loop-cell.result ∷ c.is_outer-in-loop-cell-2.result ∷ c.is_outer-in-loop-cell-3.result ∷ [] in
    let pushed = c.in_ok-push.ensures.items in
    let long = c.loop-cell.invariant.long in record {
      long = ap length pushed ∙ (let more = length-append outer (row ∷ []) in omega (arith, more, long));
      each = subst (TellUpTo c.args.puzzle.now.board (c.loop-cell.cell + 1)) (sym pushed)
          (tell_more c.args.puzzle.now.board outer c.loop-cell.cell long c.loop-cell.invariant.each c.is_outer.result c.is_outer-in-loop-cell.result c.is_outer-in-loop-cell-2.result c.is_outer-in-loop-cell-3.result
          c.is_outer.ensures c.is_outer-in-loop-cell.ensures c.is_outer-in-loop-cell-2.ensures c.is_outer-in-loop-cell-3.ensures);
    }
