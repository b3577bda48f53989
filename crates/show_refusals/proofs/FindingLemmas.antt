-- Full boards, and what is reached by the orbits of their arrangements.
use Rattle.std.proofs.Common.{◌≡◌, ◌∙◌, ℕ, zero, suc, List, [], ◌∷◌, Some, None, Contains, ap, arith, map, refl, subst, sym}
use Rattle.std.proofs.lemmas.Option.{slice_get-get_or}
use Rattle.match_limits.proofs.ListLemmas.{none≢some}
use Rattle.match_puzzle.specs.Arrangement.{IsArrangement, AreArrangements}
use Rattle.match_puzzle.specs.Prefix.{Prefix}
use Rattle.match_puzzle.specs.Puzzle.{Task, IsPuzzle}
use Rattle.match_puzzle.specs.declared.placements.Placement.{Placement}
use Rattle.match_puzzle.proofs.Prefixes.{inside}
use Rattle.puzzle_symmetry.specs.Complete.{AreSymmetries}
use Rattle.puzzle_symmetry.specs.Motion.{Motion, line_of}
use Rattle.puzzle_symmetry.proofs.MotionLemmas.{are_of_puzzle, lines_of}
use Rattle.puzzle_symmetry.specs.Reached.{IsReached, LeadsTo}
use Rattle.match_board.specs.declared.symmetry_lines.SymmetryLine.{SymmetryLine}
use Rattle.symmetry_orbits.specs.Expansion.{AreOf, HasWhatIsReached}
use Rattle.symmetry_orbits.specs.Orbits.{IsInOrbit, OrbitLaw}
use Rattle.symmetry_orbits.proofs.OrbitLemmas.{only_one, the_one}
use Rattle.cert_check.specs.Answer.{IsAnswer}
use Rattle.cert_check.specs.Setting.{Question, motions_of}
use Rattle.cert_check.specs.declared.faults.Answer.TheVariants.{Refused}
use Rattle.cert_check.specs.declared.faults.Fault.TheVariants as faults
use Rattle.cert_check.specs.declared.faults.TreeFault.{TreeFault}
use Rattle.show_refusals.specs.Findings.{AreFaultless}

-- ---- what stands on a full board is one list

placed_in : Prefix → List Placement
placed_in [] = []
placed_in (Some x ∷ q) = x ∷ placed_in q
placed_in (None ∷ q) = placed_in q

placed_full : (a : List Placement) → placed_in (map Some a) ≡ a
unfolding placed_in
placed_full [] = refl
placed_full (x ∷ a) = ap (λ xs. x ∷ xs) (placed_full a)

pub one_full : (a b : List Placement) → map Some a ≡ map Some b → a ≡ b
one_full a b e = sym (placed_full a) ∙ ap placed_in e ∙ placed_full b

-- ---- an arrangement is reached just where its orbit has a listed one

alone : (p : Task) (a : List Placement) → IsArrangement p a → AreArrangements p (a ∷ [])
alone p a is zero b at = subst (IsArrangement p) (inside at) is
alone p a is (suc n) b at = absurd (none≢some at)

-- the arrangement and the question's symmetries
pub of_one : (q : Question) (a : List Placement) (one : List (List Placement)) (motions : List Motion) → IsPuzzle q.puzzle → AreSymmetries q.puzzle q.symmetries → IsArrangement q.puzzle a → one ≡ a ∷ [] → motions ≡ motions_of q
    → AreOf q.puzzle one motions
of_one q a one motions puzzle symmetries whole is_one are =
    subst (λ (xs : List (List Placement)). AreOf q.puzzle xs motions) (sym is_one)
    (subst (AreOf q.puzzle (a ∷ [])) (sym are)
    (record {
      puzzle = puzzle;
      arrangements = alone q.puzzle a whole;
      made = are_of_puzzle q.puzzle q.symmetries;
      symmetries = subst (AreSymmetries q.puzzle) (sym (lines_of q.puzzle q.symmetries)) symmetries;
    }))

-- the lines of these symmetries
pub lines_are : (q : Question) (motions : List Motion) → motions ≡ motions_of q → map line_of motions ≡ q.symmetries
lines_are q motions are = ap (map line_of) are ∙ lines_of q.puzzle q.symmetries

-- what the orbit of the arrangement has
pub orbit_has : (q : Question) (a : List Placement) (one : List (List Placement)) (motions : List Motion) (orbit : List (List Placement)) → one ≡ a ∷ [] → motions ≡ motions_of q → HasWhatIsReached q.puzzle (map line_of motions) one orbit
    → HasWhatIsReached q.puzzle q.symmetries (a ∷ []) orbit
orbit_has q a one motions orbit is_one are has =
    subst (λ (xs : List (List Placement)). HasWhatIsReached q.puzzle q.symmetries xs orbit) is_one
    (subst (λ (lines : List SymmetryLine). HasWhatIsReached q.puzzle lines one orbit) (lines_are q motions are) has)

module _ (law : OrbitLaw) (q : Question) (puzzle : IsPuzzle q.puzzle) (symmetries : AreSymmetries q.puzzle q.symmetries) (arrangements : AreArrangements q.puzzle q.listed) (a : List Placement) (whole : IsArrangement q.puzzle a)
    (orbit : List (List Placement)) (has : HasWhatIsReached q.puzzle q.symmetries (a ∷ []) orbit) where
  is_arrangement : (b : List Placement) → Contains q.listed b → IsArrangement q.puzzle b
  is_arrangement b among =
      arrangements among.0 b (slice_get-get_or q.listed among.0 b among.1 ∙ ap Some among.2)

  pub image_is : (b : List Placement) → Contains q.listed b → Contains orbit b → IsReached q.puzzle q.symmetries q.listed a
  image_is b among there =
      let back = (law q.puzzle q.symmetries puzzle symmetries).symmetric a b whole (is_arrangement b among) ((has.just b).0 there) in
      record {
        from = b;
        is_listed = among;
        numbers = back.numbers;
        leads = subst (λ (c : List Placement). LeadsTo q.puzzle q.symmetries back.numbers c a) (sym (only_one b back.from back.is_listed)) back.leads;
      }

  pub missing_is : ((b : List Placement) → Contains q.listed b → Contains orbit b → ⊥) → IsReached q.puzzle q.symmetries q.listed a → ⊥
  missing_is none reached =
      let b = reached.from in
      let there : IsInOrbit q.puzzle q.symmetries b a = record { from = b; is_listed = the_one b; numbers = reached.numbers; leads = reached.leads } in
      none b reached.is_listed ((has.just b).1 ((law q.puzzle q.symmetries puzzle symmetries).symmetric b a (is_arrangement b reached.is_listed) whole there))

-- ---- a list and symmetries without a fault

-- a tree's fault comes after all of the list and the symmetries
pub are_faultless : (q : Question) (number : ℕ) (fault : TreeFault) → IsAnswer q (Refused (faults.Tree number fault)) → AreFaultless q
are_faultless q number fault answer = record {
  listed = λ n f occurs. omega (arith, (answer.first (faults.List n f) occurs).first);
  symmetries = λ n f occurs. omega (arith, (answer.first (faults.Symmetry n f) occurs).first);
}
