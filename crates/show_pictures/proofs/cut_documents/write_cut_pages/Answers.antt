use Rattle.std.proofs.Common.{subst, sym}
use Rattle.show_pictures.specs.Cuts.{IsCutDocument}
use Rattle.show_pictures.proofs.CutLemmas.{cut_document}
use Rattle.show_pictures.proofs.cut_documents.write_cut_pages.Goals as goal

pub returns : goal.returns
returns c =
    let size = c.args.plan.size in
    let p = c.args.puzzle.now in
    subst (IsCutDocument size p) (sym c.in_ok-extend_from_slice.ensures.items) (cut_document size p _ _ _ c.in_ok-put_each_tile.ensures)
