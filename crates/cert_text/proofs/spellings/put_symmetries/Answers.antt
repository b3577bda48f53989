use Rattle.std.proofs.Common.{arith, get_or, subst, sym}
use Rattle.std.proofs.lemmas.Option.{slice_get-get_or}
use Rattle.match_limits.proofs.ListLemmas.{at_each_place}
use Rattle.match_board.specs.declared.symmetry_lines.SymmetryLine.{SymmetryLine}
use Rattle.text_words.proofs.WritingLemmas.{no_line, one_line}
use Rattle.cert_text.specs.CertificateSpelling.{AreColourImagesWithin, symmetry_words}
use Rattle.cert_text.proofs.spellings.put_symmetries.Goals as goal

pub loop-line-init : goal.loop-line-init
loop-line-init c = no_line symmetry_words c.args.lines.now c.args.text.now.items

pub loop-line-preserved : goal.loop-line-preserved
loop-line-preserved c =
    one_line symmetry_words c.args.lines.now c.args.text.now.items c.loop-line.text.items c.put_symmetry.new.text.items c.loop-line.line-index c.line-item.result (omega arith) c.line-item.is c.loop-line.invariant c.in_ok-put_symmetry.ensures

pub put_symmetry-requires : goal.put_symmetry-requires
put_symmetry-requires c =
    let lines = c.args.lines.now in
    let i = c.loop-line.line-index in
    let line = c.line-item.result in
    let Fits : SymmetryLine → Type 0 = λ line. AreColourImagesWithin line.colours in
    subst Fits (sym c.line-item.is) (at_each_place Fits lines c.requires i (get_or lines i line) (slice_get-get_or lines i line c.loop-line-test.true))
