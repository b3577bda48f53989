-- The colours that two cells give to the edge between them.
use Rattle.std.proofs.Common.{◌≡◌, ◌≢◌, ◌<◌, ◌↔◌, ℕ, arith, ap, sym, ◌∙◌, subst, inl, inr, ⊎_elim, if◌then◌else◌}
use Rattle.std.proofs.lemmas.Bool.Decides.{eqb_tells}
use Rattle.match_board.specs.Board.{Meets}
use Rattle.match_board.specs.declared.figures.Figure.{Figure}
use Rattle.match_board.proofs.Places.{Meets-turned}
use Rattle.match_limits.specs.declared.TheConstants.{MOST_COLOURS}
use Rattle.match_puzzle.specs.Puzzle.{Task, IsPuzzle, mate_of, GoTogether}
use Rattle.match_puzzle.proofs.TogetherLemmas.{together_turned, small_mate}
use Rattle.xcc_form.specs.Options.{IsSideOf, colour_given}
use Rattle.xcc_form.specs.declared.edges.SharedEdge.{SharedEdge}
use Rattle.xcc_form.proofs.EdgeLemmas.{other_cell}

module _ (p : Task) (e : SharedEdge) where
  -- at the lesser cell what is shown
  pub given_least : (cell shown : ℕ) → e.cell ≡ cell → colour_given p e cell shown ≡ shown
  given_least cell shown same =
      ⊎_elim (λ yes. ap (λ b. if b then shown else mate_of p shown) yes.0) (λ no. absurd (no.1 same)) (eqb_tells e.cell cell)

  -- at the other its mate
  pub given_other : (cell shown : ℕ) → e.cell ≢ cell → colour_given p e cell shown ≡ mate_of p shown
  given_other cell shown other =
      ⊎_elim (λ yes. absurd (other yes.1)) (λ no. ap (λ b. if b then shown else mate_of p shown) no.0) (eqb_tells e.cell cell)

  pub given_below : IsPuzzle p → (cell shown : ℕ) → shown < MOST_COLOURS → colour_given p e cell shown < MOST_COLOURS
  given_below puzzle cell shown few =
      ⊎_elim
      (λ yes. let same = given_least cell shown yes.1 in omega (arith, same, few))
      (λ no. let same = given_other cell shown no.1 in let small = small_mate p puzzle shown few in omega (arith, same, small))
      (eqb_tells e.cell cell)

  -- Two cells give the edge between them one colour exactly where what they show goes together.
  pub given_alike : IsPuzzle p → Meets p.board e.cell e.side e.other_cell e.other_side → (cell side cell' side' shown shown' : ℕ) → cell ≢ cell' → IsSideOf e cell side → IsSideOf e cell' side' →
      (colour_given p e cell shown ≡ colour_given p e cell' shown') ↔ GoTogether p shown shown'
  given_alike puzzle meets cell side cell' side' shown shown' apart (inl a) (inl b) = absurd (apart (sym a.0 ∙ b.0))
  given_alike puzzle meets cell side cell' side' shown shown' apart (inr a) (inr b) = absurd (apart (sym a.0 ∙ b.0))
  given_alike puzzle meets cell side cell' side' shown shown' apart (inl a) (inr b) =
      let here = given_least cell shown a.0 in
      let there = given_other cell' shown' (λ same. other_cell meets (same ∙ sym b.0)) in
      (λ h. sym here ∙ h ∙ there, λ h. here ∙ h ∙ sym there)
  given_alike puzzle meets cell side cell' side' shown shown' apart (inr a) (inl b) =
      let here = given_other cell shown (λ same. other_cell meets (same ∙ sym a.0)) in
      let there = given_least cell' shown' b.0 in (
        λ h. together_turned p puzzle shown' shown (sym there ∙ sym h ∙ here),
        λ h. here ∙ sym (together_turned p puzzle shown shown' h) ∙ sym there,
      )

-- two sides of an edge, of two cells, meet
pub met : (s : Figure) (e : SharedEdge) (cell side cell' side' : ℕ) → Meets s e.cell e.side e.other_cell e.other_side → cell ≢ cell' → IsSideOf e cell side → IsSideOf e cell' side' → Meets s cell side cell' side'
met s e cell side cell' side' meets apart (inl a) (inl b) = absurd (apart (sym a.0 ∙ b.0))
met s e cell side cell' side' meets apart (inr a) (inr b) = absurd (apart (sym a.0 ∙ b.0))
met s e cell side cell' side' meets apart (inl a) (inr b) =
    subst (λ k. Meets s k side cell' side') a.0 (subst (λ k. Meets s e.cell k cell' side') a.1 (subst (λ k. Meets s e.cell e.side k side') b.0 (subst (λ k. Meets s e.cell e.side e.other_cell k) b.1 meets)))
met s e cell side cell' side' meets apart (inr a) (inl b) =
    Meets-turned (subst (λ k. Meets s k side' cell side) b.0 (subst (λ k. Meets s e.cell k cell side) b.1 (subst (λ k. Meets s e.cell e.side k side) a.0 (subst (λ k. Meets s e.cell e.side e.other_cell k) a.1 meets))))
