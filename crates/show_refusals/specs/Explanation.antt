-- Why a certificate is refused at a node of a tree.
use Rattle.std.specs.Prelude.{◌≡◌, ◌++◌, ℕ, List, [], ◌∷◌, Option, Some, None, MatchOption, codes, decimal, map}
use Rattle.std.specs.Prelude.{slice_get}
use Rattle.match_puzzle.specs.Puzzle.{Task}
use Rattle.match_puzzle.specs.Prefix.{Prefix}
use Rattle.match_puzzle.specs.Fitting.{AreFitting}
use Rattle.match_puzzle.specs.declared.items.Item.{Item}
use Rattle.match_puzzle.specs.declared.items.Item.TheVariants as items
use Rattle.match_puzzle.specs.declared.placements.Pair.{Pair}
use Rattle.text_words.specs.Spelling.{spaced}
use Rattle.cert_tree.specs.Certificate.{Piece}
use Rattle.cert_tree.specs.Tree.{Tree, branch, dead, found, same, image}
use Rattle.cert_text.specs.CertificateSpelling.{pair_word}
use Rattle.cert_check.specs.Derivation.{start_of}
use Rattle.cert_check.specs.Setting.{Question, setting_at}
use Rattle.cert_check.specs.TreeFaults.{IsNodeFault}
use Rattle.cert_check.specs.declared.faults.Fault.{Fault}
use Rattle.cert_check.specs.declared.faults.Fault.TheVariants as faults
use Rattle.cert_check.specs.declared.faults.NodeFault.{NodeFault}
use Rattle.cert_check.specs.declared.faults.NodeFault.TheVariants.{WrongCount, NotDead}
use Rattle.cert_check.specs.declared.faults.TreeFault.{TreeFault}
use Rattle.show_text.specs.Drawing.{IsDrawing}
use Rattle.show_refusals.specs.Findings.{IsFinding, closing_of}
use Rattle.cert_check.specs.Scene.{LeadsTo}
use Rattle.show_refusals.specs.declared.findings.Finding.{Finding}

-- The line names the pairs that fit and settle the item, in the item's order, each behind a space.
abbrev pub NamesFitting : Task → Prefix → Item → (line : List ℕ) → Type 0
NamesFitting p q item line =
    (xs : List Pair) × AreFitting p q item xs × (line ≡ codes "fitting:" ++ (spaced (map pair_word xs) ++ 10 ∷ []))

-- the item of which a node with the fault says wrongly how many pairs fit, if that is its fault
abbrev pub miscounted_item : Tree → NodeFault → Option Item
miscounted_item (branch item children) (WrongCount fits said) = Some item
miscounted_item (dead item) (NotDead fits) = Some item
miscounted_item node fault = None

-- Where the node says wrongly how many pairs fit, the line names those that do; else there is none.
abbrev pub NamesWhatFits : Task → Prefix → Tree → NodeFault → (line : List ℕ) → Type 0
NamesWhatFits p q node fault line =
    MatchOption (miscounted_item node fault) (line ≡ []) (λ item. NamesFitting p q item line)

-- The cell that is marked is the one that the node branches on, or says to be dead, if that is a cell.
abbrev pub MarksNode : Tree → (mark : Option ℕ) → Type 0
MarksNode (branch (items.Cell cell) children) mark = mark ≡ Some cell
MarksNode (branch (items.Tile tile) children) mark = mark ≡ None
MarksNode (dead (items.Cell cell)) mark = mark ≡ Some cell
MarksNode (dead (items.Tile tile)) mark = mark ≡ None
MarksNode (found number) mark = Unit {0}
MarksNode (same lemma) mark = mark ≡ None
MarksNode (image lemma symmetry) mark = mark ≡ None

-- The line of words names the lemma by its number. Which place it names, how it calls the node, and its sentence on
-- the fault are not said here.
pub record NamesLemma (number : ℕ) (words : List ℕ) : Type 0 where
  pub line : ℕ
  pub word : ℕ
  pub node : List ℕ
  pub sentence : List ℕ
  pub parts : words ≡ codes "certificate line " ++ (decimal line ++ (codes ", word " ++ (decimal word
      ++ (codes ", lemma " ++ (decimal number ++ (codes ": " ++ (node ++ (codes ": " ++ (sentence ++ 10 ∷ [])))))))))

-- The text tells of the node that the fault's path leads to: in words, by the pairs that fit, and by the board, drawn
-- as it is there. Then it says what the board says of the list, or what stays open, and no more.
pub record TellsOfNode (question : Question) (number : ℕ) (fault : TreeFault) (text : List ℕ) : Type 0 where
  pub lemma : Piece
  pub is : slice_get question.lemmas number ≡ Some lemma
  pub node : Tree
  pub placed : Prefix
  pub leads : LeadsTo question.puzzle lemma.tree (start_of question.puzzle lemma) fault.path node placed
  pub has : IsNodeFault (setting_at question number) node placed fault.fault
  pub words : List ℕ
  pub told : NamesLemma number words
  pub fitting : List ℕ
  pub names : NamesWhatFits question.puzzle placed node fault.fault fitting
  pub mark : Option ℕ
  pub marks : MarksNode node mark
  pub drawing : List ℕ
  pub drawn : IsDrawing (record { puzzle = question.puzzle; placed = placed }) mark drawing
  pub finding : Finding
  pub finds : IsFinding question placed finding
  pub parts : text ≡ words ++ (fitting ++ (drawing ++ closing_of finding))

-- What a text that explains a fault has to tell. Of a fault that is no node's, nothing is said here.
abbrev pub IsExplanation : Question → Fault → (text : List ℕ) → Type 0
IsExplanation question (faults.List number fault) text = Unit {0}
IsExplanation question (faults.Repeated number) text = Unit {0}
IsExplanation question (faults.Symmetry number fault) text = Unit {0}
IsExplanation question (faults.Prefix number fault) text = Unit {0}
IsExplanation question faults.Root text = Unit {0}
IsExplanation question (faults.Tree number fault) text = TellsOfNode question number fault text
