-- How an answer is printed.
use Rattle.std.specs.Prelude.{◌<◌, ℕ, List, [], ◌∷◌, codes, decimal}
use Rattle.match_limits.specs.declared.TheConstants.{MOST_COLOURS}
use Rattle.match_puzzle.specs.FaultText.{arrangement_fault_text, prefix_fault_text}
use Rattle.puzzle_symmetry.specs.FaultText.{symmetry_fault_text}
use Rattle.puzzle_symmetry.specs.declared.faults.SymmetryFault.{SymmetryFault}
use Rattle.puzzle_symmetry.specs.declared.faults.SymmetryFault.TheVariants as symmetries
use Rattle.cert_check.specs.declared.faults.NodeFault.{NodeFault}
use Rattle.cert_check.specs.declared.faults.NodeFault.TheVariants as nodes
use Rattle.cert_check.specs.declared.faults.Fault.{Fault}
use Rattle.cert_check.specs.declared.faults.Fault.TheVariants as faults
use Rattle.cert_check.specs.declared.faults.Answer.{Answer}
use Rattle.cert_check.specs.declared.faults.Answer.TheVariants.{Complete, Refused}
use Rattle.text_words.specs.Spelling.{colour_word, line_text}
use Rattle.match_report.specs.Line.{path_text}

-- the words of a symmetry's fault, where a colour is its character
unfoldable pub symmetry_fault_words : SymmetryFault → List (List ℕ)
symmetry_fault_words (symmetries.MatesBroken colour) = codes "mates" ∷ colour_word colour ∷ []
symmetry_fault_words fault = symmetry_fault_text fault ∷ []

unfoldable pub node_fault_words : NodeFault → List (List ℕ)
node_fault_words nodes.CellRange = codes "cell-range" ∷ []
node_fault_words nodes.CellTaken = codes "cell-taken" ∷ []
node_fault_words nodes.TileSpare = codes "tile-spare" ∷ []
node_fault_words nodes.TileRange = codes "tile-range" ∷ []
node_fault_words nodes.TileTaken = codes "tile-taken" ∷ []
node_fault_words (nodes.WrongCount fits children) = codes "wrong-count" ∷ decimal fits ∷ decimal children ∷ []
node_fault_words (nodes.NotDead fits) = codes "not-dead" ∷ decimal fits ∷ []
node_fault_words nodes.NotWhole = codes "not-whole" ∷ []
node_fault_words nodes.ListRange = codes "list-range" ∷ []
node_fault_words nodes.NotListed = codes "not-listed" ∷ []
node_fault_words nodes.NotEarlier = codes "not-earlier" ∷ []
node_fault_words nodes.SymmetryRange = codes "symmetry-range" ∷ []
node_fault_words nodes.NotWithin = codes "not-within" ∷ []

unfoldable pub fault_words : Fault → List (List ℕ)
fault_words (faults.List number fault) = codes "list" ∷ decimal number ∷ arrangement_fault_text fault ∷ []
fault_words (faults.Repeated number) = codes "repeated" ∷ decimal number ∷ []
fault_words (faults.Symmetry number fault) = codes "symmetry" ∷ decimal number ∷ symmetry_fault_words fault
fault_words (faults.Prefix lemma fault) = codes "prefix" ∷ decimal lemma ∷ prefix_fault_text fault ∷ []
fault_words faults.Root = codes "root" ∷ []
fault_words (faults.Tree lemma fault) =
    codes "tree" ∷ decimal lemma ∷ codes "at" ∷ path_text fault.path ∷ node_fault_words fault.fault

-- the line of an answer on a list of `listed` arrangements
unfoldable pub answer_line : Answer → ℕ → List ℕ
answer_line Complete listed = line_text (codes "complete" ∷ decimal listed ∷ [])
answer_line (Refused fault) listed = line_text (codes "refused" ∷ fault_words fault)

-- The fault of a symmetry has words: it isn't want of memory, and a colour that it names has a character.
abbrev pub HasWords : SymmetryFault → Type 0
HasWords (symmetries.MatesBroken colour) = colour < MOST_COLOURS
HasWords symmetries.Memory = ⊥
HasWords fault = Unit {0}

-- The answer has a line: the fault of a symmetry in it has words.
abbrev pub HasLine : Answer → Type 0
HasLine (Refused (faults.Symmetry number fault)) = HasWords fault
HasLine answer = Unit {0}
