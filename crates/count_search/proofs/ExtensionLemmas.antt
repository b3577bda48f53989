-- Arrangements that have all chosen options.
use Rattle.std.proofs.Common.{◌↔◌, ℕ, List, Option, MatchOption, Contains, arith, sym, ◌∙◌, subst}
use Rattle.match_puzzle.specs.declared.placements.Placement.{Placement}
use Rattle.match_puzzle.proofs.NumberLemmas.{just_one}
use Rattle.xcc_form.specs.ExactCover.{IsSolution}
use Rattle.xcc_form.specs.Options.{Compiled, IsCompiled, cover_of}
use Rattle.xcc_form.specs.Correspondence.{IsFilledBy, HaveSameOptions}
use Rattle.xcc_form.proofs.OptionLemmas.{many_options, option_pair, pair_at, has_cell, cell_is_primary}
use Rattle.xcc_form.proofs.WholeLemmas.{are_one_to_one}
use Rattle.xcc_form.specs.Clashes.{IsOpenAt}
use Rattle.xcc_form.specs.Chosen.{Selection, IsSelection, IsUncovered, AreAllCovered, IsNext, IsLast, with_option, IsFoundFrom}
use Rattle.xcc_dance.proofs.SolutionLemmas.{is_solution}
use Rattle.xcc_dance.proofs.UncoveredLemmas.{goes_open}
use Rattle.count_search.proofs.OptionExtensionLemmas.{solution_of, of_solution, has_some}
use Rattle.count_search.specs.Extensions.{IsExtension, HasExtensions}

-- the same options fill the board in the same way
filled_by_same : (x : Compiled) (chosen other : List ℕ) (a : List Placement) → HaveSameOptions chosen other → IsFilledBy x chosen a → IsFilledBy x other a
filled_by_same x chosen other a same f = record {
  cells = f.cells;
  stands = λ option pair c w. f.stands option pair ((same option).1 c) w;
  put = λ cell y s. let w = f.put cell y s in (w.0, (same w.0).0 w.1, w.2);
}

-- what has the chosen options is found from there, and nothing else
pub extension_is_found : (s : Selection) (a : List Placement) → IsCompiled s.compiled → IsExtension s a ↔ IsFoundFrom s a
extension_is_found s a is = (
  λ has. let f = solution_of s.compiled is s.chosen a has in record { solution = f.0; is_solution = f.1; has_chosen = f.2 },
  λ f. of_solution s.compiled is s.chosen a f.solution f.is_solution f.has_chosen,
)

-- The option comes next after this one, or there is none.
abbrev pub IsNextOrLast : Selection → (item : ℕ) → (after next : Option ℕ) → Type 0
IsNextOrLast s item after next = MatchOption next (IsLast (cover_of s.compiled) s.chosen item after) (IsNext (cover_of s.compiled) s.chosen item after)

module _ (s : Selection) (right : IsSelection s.compiled s.chosen) where
  -- ---- all items are covered

  -- a solution that has them has no others
  no_others : AreAllCovered (cover_of s.compiled) s.chosen → (solution : List ℕ) → IsSolution (cover_of s.compiled) solution → ((option : ℕ) → Contains s.chosen option → Contains solution option) → HaveSameOptions solution s.chosen
  no_others covered solution is has option = (
    λ c.
        let real = is.real option c in
        let many = many_options s.compiled right.compiled in
        let y = pair_at s.compiled right.compiled option (omega (arith, real, many)) in
        let at = has_cell s.compiled right.compiled option y.0 y.1 in
        let good = option_pair s.compiled right.compiled option y.0 y.1 in
        let item = cell_is_primary s.compiled.puzzle y.0.cell good.cell in
        let by = covered y.0.cell item in
        let one = (is.covered y.0.cell item).3 in
        subst (Contains s.chosen) (one by.0 (has by.0 by.1) by.2 ∙ sym (one option c at)) by.1,
    has option,
  )

  pub one_extension : AreAllCovered (cover_of s.compiled) s.chosen → HasExtensions s 1
  one_extension covered =
      let one = are_one_to_one s.compiled right.compiled in
      let solution = is_solution s.compiled s.chosen right covered in
      let a = one.arrangement s.chosen solution in
      just_one (IsExtension s) a.0 (of_solution s.compiled right.compiled s.chosen a.0 s.chosen (record { solution = solution; arrangement = a.1; filled = a.2 }) (λ option c. c))
      (λ b has.
      let f = solution_of s.compiled right.compiled s.chosen b has in
      one.one_arrangement s.chosen a.0 b a.2 (filled_by_same s.compiled f.0 s.chosen b (no_others covered f.0 f.1.solution f.2) f.1.filled))

  -- ---- a branch on an uncovered item

  module _ (item : ℕ) (uncovered : IsUncovered (cover_of s.compiled) s.chosen item) where
    -- an arrangement has one of the item's open options
    pub has_open : (a : List Placement) → IsExtension s a → (option : ℕ) × IsOpenAt (cover_of s.compiled) s.chosen item option × IsExtension (with_option s option) a
    has_open a has =
        let w = has_some s.compiled right.compiled s.chosen item uncovered.primary a has in
        (w.0, goes_open (cover_of s.compiled) s.chosen item uncovered w.0 w.2 w.1 w.4, w.3)
