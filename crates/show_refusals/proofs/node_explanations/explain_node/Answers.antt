use Rattle.std.proofs.Common.{◌≡◌, ◌++◌, ◌∙◌, List, Some, arith, refl, rules, slice_get, subst, sym}
use Rattle.match_puzzle.specs.PrefixFaults.{IsPrefixFault}
use Rattle.match_puzzle.specs.Puzzle.{Task}
use Rattle.cert_tree.specs.Certificate.{Piece, flat_piece}
use Rattle.cert_tree.specs.Heads.{first}
use Rattle.cert_tree.specs.Tree.{Forest}
use Rattle.cert_check.specs.Derivation.{start_of}
use Rattle.cert_check.specs.Setting.{setting_at}
use Rattle.cert_check.specs.declared.faults.Fault.TheVariants as faults
use Rattle.show_text.specs.Drawing.{IsDrawing}
use Rattle.show_refusals.specs.Explanation.{MarksNode, NamesWhatFits}
use Rattle.show_refusals.specs.Findings.{closing_of}
use Rattle.cert_check.specs.Scene.{IsPath, LeadsTo}
use Rattle.show_refusals.proofs.FindingLemmas.{are_faultless}
use Rattle.show_refusals.proofs.NodeLemmas.{four_parts, has_fault, leads_to_fault}
use Rattle.show_refusals.proofs.node_explanations.explain_node.Goals as goal

pub unreachable-requires : goal.unreachable-requires
unreachable-requires g c =
    let question = c.args.question.now in
    let lemma = flat_piece c.at-lemma.result in
    let at = subst (λ (ls : List Piece). slice_get ls c.args.at.number ≡ Some lemma) c.lemmas.ensures.lemmas c.at-lemma.ensures in
    let has : IsPrefixFault question.puzzle lemma.prefix c.in_default.field-0 = search rules in
    omega (arith, (c.requires.first (faults.Prefix c.args.at.number c.in_default.field-0) (lemma, at, has)).first)

pub at-requires-clause-path : goal.at-requires-clause-path
at-requires-clause-path g c =
    let question = c.args.question.now in
    let lemma = flat_piece c.at-lemma.result in
    let at = subst (λ (ls : List Piece). slice_get ls c.args.at.number ≡ Some lemma) c.lemmas.ensures.lemmas c.at-lemma.ensures in
    let (node, placed, leads, has) = leads_to_fault question c.args.at.number c.args.fault.now lemma at c.requires.occurs in
    let path : IsPath question.puzzle lemma.tree (start_of question.puzzle lemma) c.args.fault.now.path = (node, placed, leads) in
    rw (c.steps.ensures, c.puzzle-2.ensures) path

pub write_node-requires-clause-fault : goal.write_node-requires-clause-fault
write_node-requires-clause-fault g c =
    let question = c.args.question.now in
    let lemma = flat_piece c.at-lemma.result in
    let scene = c.in_ok-scene.scene in
    let at = subst (λ (ls : List Piece). slice_get ls c.args.at.number ≡ Some lemma) c.lemmas.ensures.lemmas c.at-lemma.ensures in
    let leads : LeadsTo question.puzzle lemma.tree (start_of question.puzzle lemma) c.args.fault.now.path (first scene.trees) scene.partial.placed = rw (← c.steps.ensures, ← c.puzzle-2.ensures) c.in_ok-scene.ensures.leads in
    (setting_at question c.args.at.number, sym (c.in_ok-scene.ensures.puzzle ∙ c.puzzle-2.ensures), has_fault question c.args.at.number c.args.fault.now lemma (first scene.trees) scene.partial.placed at c.requires.occurs leads)

pub finding_of-requires-clause-faultless : goal.finding_of-requires-clause-faultless
finding_of-requires-clause-faultless g c = are_faultless c.args.question.now c.args.at.number c.args.fault.now c.requires

pub returns : goal.returns
returns g c =
    let question = c.args.question.now in
    let lemma = flat_piece c.at-lemma.result in
    let scene = c.in_ok-scene.scene in
    let at = subst (λ (ls : List Piece). slice_get ls c.args.at.number ≡ Some lemma) c.lemmas.ensures.lemmas c.at-lemma.ensures in
    let leads : LeadsTo question.puzzle lemma.tree (start_of question.puzzle lemma) c.args.fault.now.path (first scene.trees) scene.partial.placed = rw (← c.steps.ensures, ← c.puzzle-2.ensures) c.in_ok-scene.ensures.leads in
    let puzzle : scene.partial.puzzle ≡ question.puzzle = c.in_ok-scene.ensures.puzzle ∙ c.puzzle-2.ensures in
    let (words, fitting, drawing, mark, told, names, drawn, marks, is) = c.in_ok-text.ensures in
    let finding = c.in_ok-finding.finding in
    let written : c.extend_from_slice.new.self.items ≡ ((words ++ fitting) ++ drawing) ++ closing_of finding =
    rw (c.in_ok-extend_from_slice.ensures.items, is, c.closing.ensures) refl in
    record {
      lemma = lemma;
      is = at;
      node = first scene.trees;
      placed = scene.partial.placed;
      leads = leads;
      has = has_fault question c.args.at.number c.args.fault.now lemma (first scene.trees) scene.partial.placed at c.requires.occurs leads;
      words = words;
      told = told;
      fitting = fitting;
      names = subst (λ (p : Task). NamesWhatFits p scene.partial.placed (first scene.trees) c.args.fault.now.fault fitting) puzzle names;
      mark = mark;
      marks = subst (λ (trees : Forest). MarksNode (first trees) mark) c.head.ensures.1 (marks c.head.ensures.0);
      drawing = drawing;
      drawn = subst (λ (p : Task). IsDrawing (record { puzzle = p; placed = scene.partial.placed }) mark drawing) puzzle drawn;
      finding = finding;
      finds = c.in_ok-finding.ensures;
      parts = written ∙ four_parts words fitting drawing (closing_of finding);
    }
