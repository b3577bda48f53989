use Rattle.std.proofs.Common.{◌≡◌, ◌+◌, ◌++◌, ◌∷◌, [], All, List, map, take, ap, sym, subst, ◌∙◌}
use Rattle.std.proofs.lemmas.List.{take_more, map-append}
use Rattle.std.proofs.lemmas.List.Elements.{All-nil, All-cons, All-append}
use Rattle.match_limits.specs.declared.TheConstants.{MOST_CELLS}
use Rattle.cert_tree.specs.declared.flat_lemmas.FlatLemma.{FlatLemma}
use Rattle.cert_tree.specs.Certificate.{Piece, flat_piece}
use Rattle.cert_tree.specs.Limits.{IsLemmaWithin}
use Rattle.piece_desk.proofs.desks.lend_all.Goals as goal

abbrev Within : FlatLemma → Type 0
Within lemma = IsLemmaWithin MOST_CELLS (flat_piece lemma)

pub loop-lemma-preserved : goal.loop-lemma-preserved
loop-lemma-preserved c =
    let so_far = c.loop-lemma.invariant in
    let i = c.loop-lemma.lemma-index in
    let packed = c.args.packed.now in
    let piece : Piece = c.lemma-item.result in
    let lent = c.lend.result in
    let next : take (i + 1) packed ≡ take i packed ++ piece ∷ [] =
    take_more packed i piece c.loop-lemma-test.true ∙ ap (λ (p : Piece). take i packed ++ p ∷ []) (sym c.lemma-item.is) in
    let pushed : c.push.new.self.items ≡ c.loop-lemma.lemmas.items ++ lent ∷ [] = c.in_ok-push.ensures.items in
    let within : Within lent = subst (IsLemmaWithin MOST_CELLS) (sym c.lend.ensures) (subst (IsLemmaWithin MOST_CELLS) (sym c.lemma-item.is) (c.requires i piece c.loop-lemma-test.true)) in
    record {
      pieces = ap (map flat_piece) pushed ∙ map-append flat_piece c.loop-lemma.lemmas.items (lent ∷ [])
          ∙ ap (λ (ps : List Piece). ps ++ flat_piece lent ∷ []) so_far.pieces
          ∙ ap (λ (p : Piece). take i packed ++ p ∷ []) c.lend.ensures
          ∙ sym next;
      within = subst (λ (ls : List FlatLemma). All Within ls) (sym pushed)
          (All-append Within c.loop-lemma.lemmas.items (lent ∷ []) so_far.within (All-cons Within lent [] within (All-nil Within)));
    }
