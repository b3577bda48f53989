use Rattle.std.proofs.Common.{◌≡◌, List, map, reverse, ap, sym, subst, ◌∙◌}
use Rattle.match_limits.specs.declared.TheConstants.{MOST_CELLS}
use Rattle.cert_tree.proofs.MadeLemmas.{all_made}
use Rattle.cert_tree.specs.declared.flat_lemmas.FlatLemma.{FlatLemma}
use Rattle.cert_tree.specs.Certificate.{Piece, IsNumbered, flat_piece}
use Rattle.cert_tree.specs.Limits.{IsLemmaWithin}
use Rattle.piece_desk.specs.TurnedAssembly.{turned_piece}
use Rattle.piece_desk.proofs.TurnedAssemblyLemmas.{turned_numbered}
use Rattle.piece_desk.proofs.flat_desks.FlatDesk.gather.Goals as goal

pub of-requires : goal.of-requires
of-requires g c =
    let turn = turned_piece c.args.count c.args.first.now in
    let lemmas = c.in_ok-lemmas.lemmas.items in
    let sorted = map flat_piece c.in_ok-ordered.ordered.items in
    let made : c.in_ok-turned.turned ≡ reverse (map turn sorted) = c.in_ok-turned.ensures ∙ ap (λ (ls : List FlatLemma). reverse (map turn (map flat_piece ls))) c.deref.ensures.value in
    subst (λ (turned : List Piece). IsNumbered (record { symmetries = c.args.symmetries.items; lemmas = turned })) (sym made)
    (turned_numbered c.args.count c.args.first.now c.args.symmetries.items (map flat_piece lemmas) sorted c.requires.count c.requires.symmetries (all_made flat_piece (IsLemmaWithin MOST_CELLS) lemmas c.in_ok-lemmas.ensures.within) c.in_ok-ordered.ensures.lemmas)
