use Rattle.show_pictures.proofs.CutLemmas.{cut_document_with}
use Rattle.show_pictures.proofs.cut_documents.write_with_solution.Goals as goal

pub returns : goal.returns
returns c =
    cut_document_with c.args.plan.size c.args.puzzle.now c.args.arrangement.now _ _ _ c.in_ok-put_each_tile.ensures c.in_ok-extend_from_slice.ensures.items c.in_ok-put_full_board.ensures
    c.in_ok-extend_from_slice-2.ensures.items c.in_ok-extend_from_slice-3.ensures.items
