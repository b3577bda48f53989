use Rattle.std.proofs.Common.{◌≡◌, ◌+◌, ◌++◌, ◌∷◌, [], All, List, map, take, ap, sym, subst, ◌∙◌}
use Rattle.std.proofs.lemmas.List.{take_more, map-append}
use Rattle.std.proofs.lemmas.List.Elements.{All-nil, All-cons, All-append}
use Rattle.match_limits.specs.declared.TheConstants.{MOST_CELLS}
use Rattle.cert_tree.specs.Certificate.{Piece, piece_of}
use Rattle.cert_tree.specs.Limits.{IsLemmaWithin}
use Rattle.piece_desk.specs.Desks.{posted_piece}
use Rattle.piece_desk.specs.declared.desks.Receipt.{Receipt}
use Rattle.piece_desk.proofs.desks.Desk.packed.Goals as goal

pub loop-receipt-preserved : goal.loop-receipt-preserved
loop-receipt-preserved c =
    let so_far = c.loop-receipt.invariant in
    let i = c.loop-receipt.receipt-index in
    let receipts = c.args.receipts.now in
    let receipt = c.receipt-item.result in
    let lemma : Piece = c.in_ok-lemma.lemma in
    let next : take (i + 1) receipts ≡ take i receipts ++ receipt ∷ [] =
    take_more receipts i receipt c.loop-receipt-test.true ∙ ap (λ (r : Receipt). take i receipts ++ r ∷ []) (sym c.receipt-item.is) in
    let same : lemma ≡ posted_piece receipt = c.in_ok-lemma.ensures ∙ ap piece_of c.read.ensures.lemma in
    let pushed : c.push.new.self.items ≡ c.loop-receipt.lemmas.items ++ lemma ∷ [] = c.in_ok-push.ensures.items in
    record {
      pieces = pushed
          ∙ ap (λ (ps : List Piece). ps ++ lemma ∷ []) so_far.pieces
          ∙ ap (λ (p : Piece). map posted_piece (take i receipts) ++ p ∷ []) same
          ∙ sym (ap (map posted_piece) next ∙ map-append posted_piece (take i receipts) (receipt ∷ []));
      within = subst (All (IsLemmaWithin MOST_CELLS)) (sym pushed)
          (All-append (IsLemmaWithin MOST_CELLS) c.loop-receipt.lemmas.items (lemma ∷ []) so_far.within
          (All-cons (IsLemmaWithin MOST_CELLS) lemma [] (subst (IsLemmaWithin MOST_CELLS) (sym c.in_ok-lemma.ensures) c.read.ensures.within) (All-nil (IsLemmaWithin MOST_CELLS))));
    }
