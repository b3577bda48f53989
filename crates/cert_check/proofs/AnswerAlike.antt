-- Answers to questions on puzzles that differ in their versions and in their boards alone, which are alike.
use Rattle.std.proofs.Common.{◌≡◌, ◌↔◌, ℕ, zero, suc, Bool, List, [], ◌∷◌, None, max, replicate, arith, ap, sym, ◌∙◌, subst, inl, inr, ⊎_elim}
use Rattle.match_board.specs.Board.{AreAlike}
use Rattle.match_limits.specs.First.{Rank, IsFirst}
use Rattle.match_board.specs.declared.figures.Figure.{Figure}
use Rattle.match_board.proofs.AlikeLemmas.{alike_turned, listing_alike, second_alike}
use Rattle.match_board.specs.Clues.{Clue}
use Rattle.match_puzzle.specs.Puzzle.{Task, mate_of}
use Rattle.match_board.specs.Borders.{BorderRule}
use Rattle.match_puzzle.specs.Prefix.{Prefix, with_pairs, with_pair}
use Rattle.match_puzzle.specs.PrefixFaults.{IsPairList, PrefixFails}
use Rattle.match_puzzle.specs.ArrangementFaults.{ArrangementFails}
use Rattle.match_puzzle.specs.Fitting.{FitsItem, AreFitting, IsOpen}
use Rattle.match_puzzle.specs.declared.faults.ArrangementFault.{ArrangementFault}
use Rattle.match_puzzle.specs.declared.faults.ArrangementFault.TheVariants.{Length, TileRange, TileTwice, BorderBroken, EdgeBroken}
use Rattle.match_puzzle.specs.declared.faults.ArrangementFault.TheVariants as arrangements
use Rattle.match_puzzle.specs.declared.faults.PrefixFault.{PrefixFault}
use Rattle.match_puzzle.specs.declared.faults.PrefixFault.TheVariants as prefixes
use Rattle.match_puzzle.specs.declared.items.Item.{Item}
use Rattle.match_puzzle.specs.declared.items.Item.TheVariants as items
use Rattle.match_puzzle.specs.declared.placements.Placement.{Placement}
use Rattle.match_puzzle.specs.declared.placements.Pair.{Pair}
use Rattle.match_puzzle.proofs.PuzzleAlike.{on, rule_alike, legal_alike, same_colour, arrangement_alike, fits_alike}
use Rattle.puzzle_symmetry.specs.Symmetry.{IsPermutation}
use Rattle.puzzle_symmetry.specs.SymmetryFaults.{SymmetryFails}
use Rattle.puzzle_symmetry.specs.Images.{IsImageWithin}
use Rattle.match_board.specs.declared.symmetry_lines.SymmetryLine.{SymmetryLine}
use Rattle.puzzle_symmetry.specs.declared.faults.SymmetryFault.{SymmetryFault}
use Rattle.puzzle_symmetry.specs.declared.faults.SymmetryFault.TheVariants as symmetries
use Rattle.puzzle_symmetry.proofs.SymmetryAlike.{image_alike, meets_alike, asks_image_alike, carried_alike, symmetry_alike}
use Rattle.cert_tree.specs.Certificate.{Piece}
use Rattle.cert_tree.specs.Tree.{Tree, Forest, branch, dead, found, same, image, none, more, count}
use Rattle.cert_check.specs.declared.faults.Answer.{Answer}
use Rattle.cert_check.specs.declared.faults.Answer.TheVariants.{Complete, Refused}
use Rattle.cert_check.specs.declared.faults.Fault.{Fault}
use Rattle.cert_check.specs.declared.faults.Fault.TheVariants as faults
use Rattle.cert_check.specs.declared.faults.NodeFault.{NodeFault}
use Rattle.cert_check.specs.declared.faults.NodeFault.TheVariants.{CellRange, TileSpare, WrongCount, NotDead, NotWithin}
use Rattle.cert_check.specs.Setting.{Question, Setting, setting_at, in_second_form}
use Rattle.cert_check.specs.NodeRules.{IsBranch, IsDead, Holds, EachHolds}
use Rattle.cert_check.specs.TreeFaults.{ItemFails, BranchFails, DeadFails, ImageFails, NodeFails, IsNodeFault, FailsAt, EachFails}
use Rattle.cert_check.specs.Derivation.{start_of}
use Rattle.cert_check.specs.Answer.{Occurs, IsShown, IsAnswer}

-- what comes first of what occurs likewise
first_alike : {F : Type 0} {rank : F → Rank} {P Q : F → Type 0} {f : F} → ((g : F) → P g → Q g) → ((g : F) → Q g → P g) → IsFirst rank P f → IsFirst rank Q f
first_alike {f = f} to from is = record { occurs = to f is.occurs; first = λ g q. is.first g (from g q) }

-- the puzzle of these parts on a board, of a version
module _ (turns : Bool) (border : BorderRule) (mates : List ℕ) (clues : List Clue) (words : List (List ℕ)) where
  abbrev at : Figure → (version : ℕ) → Task
  at board version = on turns border mates clues words board version

  module _ {s t : Figure} (a : AreAlike s t) (v w : ℕ) where
    back : AreAlike t s
    back = alike_turned a

    -- ---- lists, symmetries, prefixes

    arrangement_fails : (xs : List Placement) (fault : ArrangementFault) → ArrangementFails (at s v) xs fault → ArrangementFails (at t w) xs fault
    arrangement_fails xs Length h = λ e. h (e ∙ sym a.cells)
    arrangement_fails xs (TileRange cell) h = h
    arrangement_fails xs (arrangements.Turn cell) h = h
    arrangement_fails xs (TileTwice cell) h = h
    arrangement_fails xs (BorderBroken cell side) h =
        (h.0, h.1, h.2, rule_alike turns border mates clues words a v w h.3, λ e. h.4 (same_colour turns border mates clues words a v w h.0 side ∙ e))
    arrangement_fails xs (EdgeBroken cell side) h = (
      h.0,
      h.1,
      h.2,
      h.3,
      h.4,
      (a.meet cell side h.1 h.2).0 h.5,
      h.6,
      λ e. h.7 (
          same_colour turns border mates clues words a v w h.0 side ∙ e
          ∙ ap (mate_of (at t w)) (same_colour turns border mates clues words back w v h.3 h.2)),
    )

    symmetry_fails : (g : SymmetryLine) (fault : SymmetryFault) → SymmetryFails (at s v) g fault → SymmetryFails (at t w) g fault
    symmetry_fails g symmetries.Cells h = λ is. h (subst (λ n. IsPermutation n g.cells) (sym a.cells) is)
    symmetry_fails g symmetries.Colours h = (h.0, record { above = h.1.above; least = h.1.least }, h.2)
    symmetry_fails g symmetries.Tiles h = h
    symmetry_fails g (symmetries.EdgeBroken cell side) h = (
      omega (arith, a.cells, h.0),
      omega (arith, a.sides, h.1),
      h.2,
      h.3,
      omega (arith, a.cells, h.4),
      omega (arith, a.sides, h.5),
      λ m. h.6 (meets_alike turns border mates clues words g back w v cell side h.2 h.3 m),
    )
    symmetry_fails g (symmetries.BorderBroken cell side) h = (
      omega (arith, a.cells, h.0),
      omega (arith, a.sides, h.1),
      h.2,
      h.3,
      record { above = h.4.above; least = h.4.least },
      h.5,
      λ asks. h.6 (asks_image_alike turns border mates clues words g back w v cell side h.3 asks),
    )
    symmetry_fails g (symmetries.TileBroken tile) h = (h.0, λ is. h.1 (carried_alike turns border mates clues words g back w v tile is))
    symmetry_fails g (symmetries.MatesBroken colour) h = (h.0, record { above = h.1.above; least = h.1.least }, h.2, h.3)
    symmetry_fails g symmetries.Memory h = h

    pairs_alike : (pairs : List Pair) → IsPairList (at s v) pairs → IsPairList (at t w) pairs
    pairs_alike pairs is = record {
      cells = λ place x stands. omega (arith, a.cells, is.cells place x stands);
      rising = is.rising;
      legal = λ place x stands. legal_alike turns border mates clues words a v w x.placement (is.legal place x stands);
      once = is.once;
    }

    prefix_fails : (pairs : List Pair) (fault : PrefixFault) → PrefixFails (at s v) pairs fault → PrefixFails (at t w) pairs fault
    prefix_fails pairs (prefixes.Cell place) h = (h.0, h.1, ⊎_elim (λ le. inl (omega (arith, a.cells, le))) (λ falls. inr falls) h.2)
    prefix_fails pairs (prefixes.Tile place) h = h
    prefix_fails pairs (prefixes.Turn place) h = h

    -- ---- nodes

    start_alike : (lemma : Piece) → start_of (at s v) lemma ≡ start_of (at t w) lemma
    start_alike lemma = ap (λ n. with_pairs lemma.prefix (replicate n None)) a.cells

    open_alike : (q : Prefix) (item : Item) → IsOpen (at s v) q item → IsOpen (at t w) q item
    open_alike q (items.Cell cell) is = is
    open_alike q (items.Tile tile) is = (is.0, is.1, is.2 ∙ a.cells)

    fits_item_alike : (q : Prefix) (item : Item) (x : Pair) → FitsItem (at s v) q item x → FitsItem (at t w) q item x
    fits_item_alike q item x is = (is.0, fits_alike turns border mates clues words a v w q x.cell x.placement is.1)

    image_within_alike : (g : SymmetryLine) (pairs : List Pair) (q : Prefix) → IsImageWithin (at s v) g pairs q → IsImageWithin (at t w) g pairs q
    image_within_alike g pairs q within x among =
        let there = within x among in
        (there.0, record { cell = there.1.cell; placement = image_alike turns border mates clues words g a v w x.placement there.0.placement there.1.placement }, there.2)

    item_fails : (q : Prefix) (item : Item) (fault : NodeFault) → ItemFails (at s v) q item fault → ItemFails (at t w) q item fault
    item_fails q (items.Cell cell) CellRange h = omega (arith, a.cells, h)
    item_fails q (items.Cell cell) _ h = h
    item_fails q (items.Tile tile) TileSpare h = λ all. h (all ∙ sym a.cells)
    item_fails q (items.Tile tile) _ h = h

  module _ {s t : Figure} (a : AreAlike s t) (v w : ℕ) where
    turned : AreAlike t s
    turned = alike_turned a

    fitting_alike : (q : Prefix) (item : Item) (xs : List Pair) → AreFitting (at s v) q item xs → AreFitting (at t w) q item xs
    fitting_alike q item xs is = listing_alike (fits_item_alike a v w q item) (fits_item_alike turned w v q item) is

    branch_alike : (q : Prefix) (item : Item) (children : ℕ) (xs : List Pair) → IsBranch (at s v) q item children xs → IsBranch (at t w) q item children xs
    branch_alike q item children xs is = record {
      unsettled = open_alike a v w q item is.unsettled;
      fitting = fitting_alike q item xs is.fitting;
      many = is.many;
      some = is.some;
    }

    dead_alike : (q : Prefix) (item : Item) → IsDead (at s v) q item → IsDead (at t w) q item
    dead_alike q item is = record {
      unsettled = open_alike a v w q item is.unsettled;
      nothing = λ x fits. is.nothing x (fits_item_alike turned w v q item x fits);
    }

    branch_fails : (q : Prefix) (item : Item) (number : ℕ) (fault : NodeFault) → BranchFails (at s v) q item number fault → BranchFails (at t w) q item number fault
    branch_fails q item number (WrongCount fits children) h = (h.0, fitting_alike q item h.0 h.1, h.2, h.3, h.4)
    branch_fails q item number fault h = item_fails a v w q item fault h

    dead_fails : (q : Prefix) (item : Item) (fault : NodeFault) → DeadFails (at s v) q item fault → DeadFails (at t w) q item fault
    dead_fails q item (NotDead fits) h = (h.0, fitting_alike q item h.0 h.1, h.2, h.3)
    dead_fails q item fault h = item_fails a v w q item fault h

  -- ---- trees, which may name these
  module _ (listed : List (List Placement)) (lines : List SymmetryLine) (earlier : List (List Pair)) where
    abbrev set : Figure → (version : ℕ) → Setting
    set board version = record { puzzle = at board version; listed = listed; symmetries = lines; earlier = earlier }

    module _ {s t : Figure} (a : AreAlike s t) (v w : ℕ) where
      image_fails : (q : Prefix) (lemma symmetry : ℕ) (fault : NodeFault) → ImageFails (set s v) q lemma symmetry fault → ImageFails (set t w) q lemma symmetry fault
      image_fails q lemma symmetry NotWithin h =
          (h.0, h.1, h.2, h.3, λ within. h.4 (image_within_alike (alike_turned a) w v h.1 h.0 q within))
      image_fails q lemma symmetry _ h = h

      node_fails : (tree : Tree) (q : Prefix) (fault : NodeFault) → NodeFails (set s v) tree q fault → NodeFails (set t w) tree q fault
      node_fails (branch item children) q fault h = branch_fails a v w q item (count children) fault h
      node_fails (dead item) q fault h = dead_fails a v w q item fault h
      node_fails (found number) q fault h = h
      node_fails (same lemma) q fault h = h
      node_fails (image lemma symmetry) q fault h = image_fails q lemma symmetry fault h

      mutual
        holds_alike : (tree : Tree) (q : Prefix) → Holds (set s v) tree q → Holds (set t w) tree q
        holds_alike (branch item children) q h =
            (h.0, branch_alike a v w q item (count children) h.0 h.1, each_holds_alike children q h.0 h.2)
        holds_alike (dead item) q h = dead_alike a v w q item h
        holds_alike (found number) q h = h
        holds_alike (same lemma) q h = h
        holds_alike (image lemma symmetry) q h = (h.0, h.1, h.2, h.3, image_within_alike a v w h.1 h.0 q h.4)

        each_holds_alike : (trees : Forest) (q : Prefix) (xs : List Pair) → EachHolds (set s v) trees q xs → EachHolds (set t w) trees q xs
        each_holds_alike none q [] h = h
        each_holds_alike none q (x ∷ xs) h = h
        each_holds_alike (more tree trees) q [] h = h
        each_holds_alike (more tree trees) q (x ∷ xs) h =
            (holds_alike tree (with_pair q x.cell x.placement) h.0, each_holds_alike trees q xs h.1)

    module _ {s t : Figure} (a : AreAlike s t) (v w : ℕ) where
      node_fault_alike : (tree : Tree) (q : Prefix) (fault : NodeFault) → IsNodeFault (set s v) tree q fault → IsNodeFault (set t w) tree q fault
      node_fault_alike tree q fault is = first_alike (node_fails a v w tree q) (node_fails (alike_turned a) w v tree q) is

      mutual
        fails_alike : (tree : Tree) (q : Prefix) (path : List ℕ) (fault : NodeFault) → FailsAt (set s v) tree q path fault → FailsAt (set t w) tree q path fault
        fails_alike tree q [] fault h = node_fault_alike tree q fault h
        fails_alike (branch item children) q (number ∷ path) fault h =
            (h.0, branch_alike a v w q item (count children) h.0 h.1, each_fails_alike children q h.0 number path fault h.2)
        fails_alike (dead item) q (number ∷ path) fault h = h
        fails_alike (found listed) q (number ∷ path) fault h = h
        fails_alike (same lemma) q (number ∷ path) fault h = h
        fails_alike (image lemma symmetry) q (number ∷ path) fault h = h

        each_fails_alike : (trees : Forest) (q : Prefix) (xs : List Pair) (number : ℕ) (path : List ℕ) (fault : NodeFault) → EachFails (set s v) trees q xs number path fault → EachFails (set t w) trees q xs number path fault
        each_fails_alike none q xs number path fault h = h
        each_fails_alike (more tree trees) q [] number path fault h = h
        each_fails_alike (more tree trees) q (x ∷ xs) zero path fault h = fails_alike tree (with_pair q x.cell x.placement) path fault h
        each_fails_alike (more tree trees) q (x ∷ xs) (suc number) path fault h =
            (holds_alike a v w tree (with_pair q x.cell x.placement) h.0, each_fails_alike trees q xs number path fault h.1)

  -- ---- answers, to these

  module _ (listed : List (List Placement)) (lines : List SymmetryLine) (lemmas : List Piece) where
    abbrev asked : Figure → (version : ℕ) → Question
    asked board version = record { puzzle = at board version; listed = listed; symmetries = lines; lemmas = lemmas }

    module _ {s t : Figure} (a : AreAlike s t) (v w : ℕ) where
      occurs_alike : (fault : Fault) → Occurs (asked s v) fault → Occurs (asked t w) fault
      occurs_alike (faults.List number fault) h =
          (h.0, h.1, first_alike (arrangement_fails a v w h.0) (arrangement_fails (alike_turned a) w v h.0) h.2)
      occurs_alike (faults.Repeated number) h = h
      occurs_alike (faults.Symmetry number fault) h =
          (h.0, h.1, first_alike (symmetry_fails a v w h.0) (symmetry_fails (alike_turned a) w v h.0) h.2)
      occurs_alike (faults.Prefix number fault) h =
          (h.0, h.1, first_alike (prefix_fails a v w h.0.prefix) (prefix_fails (alike_turned a) w v h.0.prefix) h.2)
      occurs_alike faults.Root h = h
      occurs_alike (faults.Tree number fault) h =
          let setting = setting_at (asked t w) number in (
            h.0,
            h.1,
            subst (λ q. FailsAt setting h.0.tree q fault.path fault.fault) (start_alike a v w h.0)
                (fails_alike setting.listed setting.symmetries setting.earlier a v w h.0.tree (start_of (at s v) h.0) fault.path fault.fault h.2),
          )

      shown_alike : IsShown (asked s v) → IsShown (asked t w)
      shown_alike is = record {
        prepared = record {
          distinct = is.prepared.distinct;
          arrangements = λ number xs stands. arrangement_alike turns border mates clues words a v w xs (is.prepared.arrangements number xs stands);
          symmetries = λ number g stands. symmetry_alike turns border mates clues words g a v w (is.prepared.symmetries number g stands);
          prefixes = λ number lemma stands. pairs_alike a v w lemma.prefix (is.prepared.prefixes number lemma stands);
          root = is.prepared.root;
        };
        trees = λ number lemma stands.
            let setting = setting_at (asked t w) number in
            subst (λ q. Holds setting lemma.tree q) (start_alike a v w lemma)
            (holds_alike setting.listed setting.symmetries setting.earlier a v w lemma.tree (start_of (at s v) lemma) (is.trees number lemma stands));
      }

    module _ {s t : Figure} (a : AreAlike s t) (v w : ℕ) where
      answer_alike : (answer : Answer) → IsAnswer (asked s v) answer → IsAnswer (asked t w) answer
      answer_alike Complete is = shown_alike a v w is
      answer_alike (Refused fault) is = first_alike (occurs_alike a v w) (occurs_alike (alike_turned a) w v) is

pub same_answers : (question : Question) (answer : Answer) → IsAnswer question answer ↔ IsAnswer (in_second_form question) answer
same_answers question answer =
    let p = question.puzzle in
    let a = second_alike p.board in
    let v = p.mating.version in (
      λ is. answer_alike p.turns p.border p.mating.mates p.clues p.words question.listed question.symmetries question.lemmas a v (max 2 v) answer is,
      λ is. answer_alike p.turns p.border p.mating.mates p.clues p.words question.listed question.symmetries question.lemmas (alike_turned a) (max 2 v) v answer is,
    )
