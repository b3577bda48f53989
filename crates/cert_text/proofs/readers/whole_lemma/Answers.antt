-- A lemma that is read has no more levels than its text may have.
use Rattle.std.proofs.Common.{◌≡◌, sym, subst}
use Rattle.match_limits.specs.declared.TheConstants.{MOST_CELLS, MOST_LEVELS}
use Rattle.match_limits.specs.declared.ranges.TheConstants.{SECOND}
use Rattle.match_limits.proofs.RangesLemmas.{second_are}
use Rattle.cert_tree.specs.Certificate.{Piece, flat_piece}
use Rattle.cert_tree.specs.Limits.{HasLevels}
use Rattle.cert_tree.specs.Spans.{piece_in}
use Rattle.cert_tree.proofs.TreeLimitLemmas.{levels_within}
use Rattle.cert_text.proofs.LemmaTextLemmas.{takes_lemma}
use Rattle.cert_text.proofs.readers.whole_lemma.Goals as goal

pub to_lemma-requires : goal.to_lemma-requires
to_lemma-requires c =
    let piece = piece_in c.lemma.new.pairs.items c.lemma.new.heads.items c.in_ok-span.span in
    let read = (takes_lemma SECOND second_are).is c.args.scan.now piece c.lemma.new.scan c.in_ok-span.ensures.reads in
    let there : flat_piece c.of.result ≡ piece = cc in
    subst (λ (x : Piece). HasLevels MOST_LEVELS x.tree) (sym there) (levels_within MOST_CELLS MOST_LEVELS piece.tree read.1.tree)
