use Rattle.std.proofs.Common.{◌≡◌, ◌+◌, ◌++◌, ◌∷◌, [], All, List, map, take, ap, sym, subst, ◌∙◌}
use Rattle.std.proofs.lemmas.List.{take_more, map-append}
use Rattle.std.proofs.lemmas.List.Elements.{All-nil, All-cons, All-append}
use Rattle.match_limits.specs.declared.TheConstants.{MOST_CELLS}
use Rattle.cert_tree.specs.declared.flat_lemmas.FlatLemma.{FlatLemma}
use Rattle.cert_tree.specs.Certificate.{Piece, flat_piece}
use Rattle.cert_tree.specs.Limits.{IsLemmaWithin}
use Rattle.piece_desk.specs.FlatDesks.{flat_posted}
use Rattle.piece_desk.specs.declared.flat_desks.FlatReceipt.{FlatReceipt}
use Rattle.piece_desk.proofs.flat_desks.FlatDesk.lent.Goals as goal

abbrev Within : FlatLemma → Type 0
Within lemma = IsLemmaWithin MOST_CELLS (flat_piece lemma)

pub loop-receipt-preserved : goal.loop-receipt-preserved
loop-receipt-preserved c =
    let so_far = c.loop-receipt.invariant in
    let i = c.loop-receipt.receipt-index in
    let receipts = c.args.receipts.now in
    let receipt = c.receipt-item.result in
    let lent = c.read.result in
    let next : take (i + 1) receipts ≡ take i receipts ++ receipt ∷ [] =
    take_more receipts i receipt c.loop-receipt-test.true ∙ ap (λ (r : FlatReceipt). take i receipts ++ r ∷ []) (sym c.receipt-item.is) in
    let pushed : c.push.new.self.items ≡ c.loop-receipt.lemmas.items ++ lent ∷ [] = c.in_ok-push.ensures.items in
    record {
      pieces = ap (map flat_piece) pushed ∙ map-append flat_piece c.loop-receipt.lemmas.items (lent ∷ [])
          ∙ ap (λ (ps : List Piece). ps ++ flat_piece lent ∷ []) so_far.pieces
          ∙ ap (λ (p : Piece). map flat_posted (take i receipts) ++ p ∷ []) c.read.ensures.lemma
          ∙ sym (ap (map flat_posted) next ∙ map-append flat_posted (take i receipts) (receipt ∷ []));
      within = subst (λ (ls : List FlatLemma). All Within ls) (sym pushed)
          (All-append Within c.loop-receipt.lemmas.items (lent ∷ []) so_far.within (All-cons Within lent [] c.read.ensures.within (All-nil Within)));
    }
