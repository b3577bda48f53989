-- What a check finds is the answer.
use Rattle.std.proofs.Common.{◌≡◌, ◌⊎◌, ◌<◌, ◌≤◌, ◌∙◌, ℕ, zero, suc, List, [], ◌∷◌, Option, Some, slice_get, map, take, arith, inl, inr, ap, sym, refl, subst, ⊎_elim}
use Rattle.std.proofs.lemmas.Bool.{cases_lt}
use Rattle.match_limits.specs.First.{Rank, AtMost, IsLeast, IsFirst}
use Rattle.match_puzzle.specs.Puzzle.{Task}
use Rattle.match_puzzle.specs.declared.placements.Pair.{Pair}
use Rattle.puzzle_symmetry.specs.Motion.{Motion, line_of, motion_of, AreOfPuzzle}
use Rattle.match_puzzle.specs.declared.placements.Placement.{Placement}
use Rattle.match_puzzle.specs.declared.faults.ArrangementFault.{ArrangementFault}
use Rattle.match_puzzle.specs.declared.faults.PrefixFault.{PrefixFault}
use Rattle.puzzle_symmetry.specs.Symmetry.{IsSymmetry}
use Rattle.puzzle_symmetry.specs.declared.faults.SymmetryFault.{SymmetryFault}
use Rattle.match_board.specs.declared.symmetry_lines.SymmetryLine.{SymmetryLine}
use Rattle.puzzle_symmetry.proofs.FaultLemmas.{no_fault}
use Rattle.cert_tree.specs.Certificate.{Contents, Piece}
use Rattle.cert_check.specs.declared.faults.TreeFault.{TreeFault}
use Rattle.cert_check.specs.declared.faults.Fault.{Fault}
use Rattle.cert_check.specs.declared.faults.Fault.TheVariants as faults
use Rattle.cert_check.specs.Setting.{Question, Setting, question_of, prefix_of, BeginWithPrefixes, setting_at, setting_of}
use Rattle.cert_check.specs.Derivation.{start_of, HasRoot}
use Rattle.match_puzzle.specs.Arrangement.{AreArrangements, AreDistinct}
use Rattle.puzzle_symmetry.specs.Complete.{AreSymmetries}
use Rattle.cert_check.specs.Answer.{RepeatsEarlier, IsPrepared, Occurs, fault_rank}
use Rattle.cert_check.specs.Lists.{IsFirstBad}
use Rattle.cert_check.specs.declared.symmetries.SymmetriesFault.{SymmetriesFault}
use Rattle.cert_check.specs.declared.symmetries.SymmetriesFault.TheVariants.{Line, Memory}
use Rattle.cert_check.specs.Lines.{LineFails, LinesFail, TellsOfPrefixes}
use Rattle.cert_check.specs.Walk.{Tells, TellsOfLemma, TellsOfTrees, TellsOfArrangements}
use Rattle.puzzle_symmetry.proofs.MotionLemmas.{lines_of}
use Rattle.cert_check.proofs.PrefixLemmas.{start_long}
use Rattle.cert_check.proofs.FaultLemmas.{holds_not_fails}
use Rattle.cert_check.proofs.AnswerLemmas.{arrangement_no_fault, prefix_no_fault, no_list, no_repeated, no_symmetry, no_prefix}

-- a lesser kind comes first, and within a kind a lesser number
abbrev ComesNoLater : (a b : Rank) → Type 0
ComesNoLater a b = (a.first < b.first) ⊎ ((a.first ≡ b.first) × (a.second ≤ b.second))

at_most : (a b : Rank) → a.third ≡ 0 → ComesNoLater a b → AtMost a b
at_most a b none h = record {
  first = ⊎_elim (λ lt. omega (arith, lt)) (λ w. omega (arith, w.0)) h;
  second = λ e. ⊎_elim (λ lt. absurd (omega (arith, lt, e))) (λ w. w.1) h;
  third = λ _ _. omega (arith, none);
}

-- nothing before the first bad one fails
no_earlier : {X F : Type 0} (P : ℕ → X → Type 0) (Fails : ℕ → X → F → Type 0) (xs : List X) (number : ℕ) (fault : F) → IsFirstBad P Fails xs number fault → ((n : ℕ) (x : X) (f : F) → P n x → Fails n x f → ⊥) →
    (m : ℕ) (x : X) (f : F) → slice_get xs m ≡ Some x → Fails m x f → number ≤ m
no_earlier P Fails xs number fault is never m x f at fails = ⊎_elim (λ before. absurd (never m x f (is.before m x before at) fails)) (λ le. le) (cases_lt m number)

module _ (question : Question) where
  abbrev IsFirstFault : Fault → Type 0
  IsFirstFault = IsFirst fault_rank (Occurs question)

  -- a fault that no other comes before
  first_fault : (fault : Fault) → Occurs question fault → (fault_rank fault).third ≡ 0 → ((g : Fault) → Occurs question g → ComesNoLater (fault_rank fault) (fault_rank g)) → IsFirstFault fault
  first_fault fault occurs none least = record { occurs = occurs; first = λ g other. at_most (fault_rank fault) (fault_rank g) none (least g other) }

  module _ (number : ℕ) (fault : ArrangementFault) (is : TellsOfArrangements question.puzzle question.listed (Some (number, fault))) where
    listing_least : (g : Fault) → Occurs question g → ComesNoLater (fault_rank (faults.List number fault)) (fault_rank g)
    listing_least (faults.List m f) other = inr (refl, no_earlier _ _ _ _ _ is (λ n a h arranged fails. arrangement_no_fault question.puzzle a h arranged fails.occurs) m other.0 f other.1 other.2)
    listing_least _ other = inl (omega arith)

    pub first_list : IsFirstFault (faults.List number fault)
    first_list = first_fault (faults.List number fault) is.occurs refl listing_least

  module _ (arranged : AreArrangements question.puzzle question.listed) where
    repeated_least : (number : ℕ) → IsLeast (RepeatsEarlier question.listed) number → (g : Fault) → Occurs question g → ComesNoLater (fault_rank (faults.Repeated number)) (fault_rank g)
    repeated_least number is (faults.List m f) other = absurd (no_list question arranged m f other)
    repeated_least number is (faults.Repeated m) other = inr (refl, is.least m other)
    repeated_least number is _ other = inl (omega arith)

    pub first_repeated : (number : ℕ) → IsLeast (RepeatsEarlier question.listed) number → IsFirstFault (faults.Repeated number)
    first_repeated number is = first_fault (faults.Repeated number) is.holds refl (repeated_least number is)

    module _ (distinct : AreDistinct question.listed) where
      module _ (number : ℕ) (fault : SymmetryFault) (is : LinesFail question.puzzle question.symmetries (Line number fault)) where
        symmetry_least : (g : Fault) → Occurs question g → ComesNoLater (fault_rank (faults.Symmetry number fault)) (fault_rank g)
        symmetry_least (faults.List m f) other = absurd (no_list question arranged m f other)
        symmetry_least (faults.Repeated m) other = absurd (no_repeated question distinct m other)
        symmetry_least (faults.Symmetry m f) other = inr (refl, no_earlier _ _ _ _ _ is (λ n g h moves fails. no_fault question.puzzle g moves h fails.occurs) m other.0 f other.1 other.2)
        symmetry_least _ other = inl (omega arith)

        pub first_symmetry : IsFirstFault (faults.Symmetry number fault)
        first_symmetry = first_fault (faults.Symmetry number fault) is.occurs refl symmetry_least

      module _ (symmetric : AreSymmetries question.puzzle question.symmetries) where
        module _ (number : ℕ) (fault : PrefixFault) (is : TellsOfPrefixes question.puzzle question.lemmas (Some (number, fault))) where
          prefix_least : (g : Fault) → Occurs question g → ComesNoLater (fault_rank (faults.Prefix number fault)) (fault_rank g)
          prefix_least (faults.List m f) other = absurd (no_list question arranged m f other)
          prefix_least (faults.Repeated m) other = absurd (no_repeated question distinct m other)
          prefix_least (faults.Symmetry m f) other = absurd (no_symmetry question symmetric m f other)
          prefix_least (faults.Prefix m f) other = inr (refl, no_earlier _ _ _ _ _ is (λ n lemma h right fails. prefix_no_fault question.puzzle lemma.prefix h right fails.occurs) m other.0 f other.1 other.2)
          prefix_least _ other = inl (omega arith)

          pub first_prefix : IsFirstFault (faults.Prefix number fault)
          first_prefix = first_fault (faults.Prefix number fault) is.occurs refl prefix_least

        module _ (prefixes : BeginWithPrefixes question.puzzle question.lemmas) where
          root_least : (g : Fault) → Occurs question g → ComesNoLater (fault_rank faults.Root) (fault_rank g)
          root_least (faults.List m f) other = absurd (no_list question arranged m f other)
          root_least (faults.Repeated m) other = absurd (no_repeated question distinct m other)
          root_least (faults.Symmetry m f) other = absurd (no_symmetry question symmetric m f other)
          root_least (faults.Prefix m f) other = absurd (no_prefix question prefixes m f other)
          root_least faults.Root other = inr (refl, omega arith)
          root_least (faults.Tree m f) other = inl (omega arith)

          pub first_root : (HasRoot question.lemmas → ⊥) → IsFirstFault faults.Root
          first_root none = first_fault faults.Root none refl root_least

  module _ (right : IsPrepared question) (number : ℕ) (fault : TreeFault) (is : TellsOfTrees question (Some (number, fault))) where
    tree_least : (g : Fault) → Occurs question g → ComesNoLater (fault_rank (faults.Tree number fault)) (fault_rank g)
    tree_least (faults.List m f) other = absurd (no_list question right.arrangements m f other)
    tree_least (faults.Repeated m) other = absurd (no_repeated question right.distinct m other)
    tree_least (faults.Symmetry m f) other = absurd (no_symmetry question right.symmetries m f other)
    tree_least (faults.Prefix m f) other = absurd (no_prefix question right.prefixes m f other)
    tree_least faults.Root other = absurd (other right.root)
    tree_least (faults.Tree m f) other = inr (
      refl,
      no_earlier _ _ _ _ _ is
          (λ n lemma h holds fails. holds_not_fails (setting_at question n) lemma.tree (start_of question.puzzle lemma) h.path h.fault (start_long question.puzzle lemma) holds fails)
          m other.0 f other.1 other.2,
    )

    pub first_tree : IsFirstFault (faults.Tree number fault)
    first_tree = first_fault (faults.Tree number fault) is.occurs refl tree_least

-- ---- the tree of one lemma

earlier_is : (lemmas : List Piece) (number : ℕ) → map prefix_of (take number lemmas) ≡ take number (map prefix_of lemmas)
earlier_is lemmas zero = refl
earlier_is [] (suc number) = refl
earlier_is (lemma ∷ lemmas) (suc number) = ap (λ rest. lemma.prefix ∷ rest) (earlier_is lemmas number)

-- what the tree of the lemma with this number may name
pub setting_is : (p : Task) (listed : List (List Placement)) (certificate : Contents) (motions : List Motion) (number : ℕ) → motions ≡ map (motion_of p) certificate.symmetries →
    setting_of p listed motions (take number certificate.lemmas) ≡ setting_at (question_of p listed certificate) number
setting_is p listed certificate motions number made =
    let of : List SymmetryLine → List (List Pair) → Setting = λ gs earlier. record { puzzle = p; listed = listed; symmetries = gs; earlier = earlier } in
    ap (λ gs. of gs (map prefix_of (take number certificate.lemmas))) (ap (map line_of) made ∙ lines_of p certificate.symmetries) ∙ ap (of certificate.symmetries) (earlier_is certificate.lemmas number)

-- what the walk of a lemma's tree says
pub tells_lemma : (question : Question) (number : ℕ) (lemma : Piece) (setting : Setting) (said : Option TreeFault) → setting ≡ setting_at question number → slice_get question.lemmas number ≡ Some lemma →
    Tells setting lemma.tree (start_of setting.puzzle lemma) said → TellsOfLemma question number said
tells_lemma question number lemma setting said is at told = (lemma, at, subst (λ (s : Setting). Tells s lemma.tree (start_of s.puzzle lemma) said) is told)

-- ---- what the parts of the check say

-- the first line that is none
pub first_line : (p : Task) (lines : List SymmetryLine) (number : ℕ) (g : SymmetryLine) (fault : SymmetriesFault) → slice_get lines number ≡ Some g →
    ((earlier : ℕ) (h : SymmetryLine) → earlier < number → slice_get lines earlier ≡ Some h → IsSymmetry p h) → LineFails p number g fault → LinesFail p lines fault
first_line p lines number g (Line n bad) at before fails =
    subst (λ k. LinesFail p lines (Line k bad)) (sym fails.0) (record { occurs = (g, at, fails.1); before = before })
first_line p lines number g Memory at before fails = record {}
