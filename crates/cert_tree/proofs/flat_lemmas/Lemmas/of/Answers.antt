use Rattle.std.proofs.Common.{◌∙◌, ◌++◌, ◌∷◌, [], List, ap}
use Rattle.cert_tree.specs.declared.flat_lemmas.Block.{Block}
use Rattle.cert_tree.proofs.SpanLemmas.{all_alone, alone_pieces}
use Rattle.cert_tree.proofs.flat_lemmas.Lemmas.of.Goals as goal

pub of_blocks-requires : goal.of_blocks-requires
of_blocks-requires c =
    let one = c.in_ok-push.ensures.items ∙ ap (λ (bs : List Block). bs ++ (record { pairs = c.args.pairs; heads = c.args.heads }) ∷ []) c.new-blocks.ensures.items in
    all_alone (record { pairs = c.args.pairs; heads = c.args.heads }) c.push.new.self.items c.args.spans.items one c.requires

pub returns : goal.returns
returns c =
    let one = c.in_ok-push.ensures.items ∙ ap (λ (bs : List Block). bs ++ (record { pairs = c.args.pairs; heads = c.args.heads }) ∷ []) c.new-blocks.ensures.items in
    c.of_blocks.ensures ∙ alone_pieces (record { pairs = c.args.pairs; heads = c.args.heads }) c.push.new.self.items c.args.spans.items one c.requires
