use Rattle.std.proofs.Common.{◌≡◌, ◌++◌, ◌∷◌, [], map, sym, ap, ◌∙◌, refl, codes}
use Rattle.std.specs.Fmt.{decimal}
use Rattle.text_words.specs.Spelling.{spaced}
use Rattle.cert_tree.specs.Certificate.{flat_piece}
use Rattle.cert_text.specs.TreeSpelling.{tree_words}
use Rattle.cert_text.specs.CertificateSpelling.{pair_word}
use Rattle.cert_text.proofs.HeadSpellingLemmas.{tree_words-heads}
use Rattle.cert_text.proofs.SpacedLemmas.{lemma_parts, six_parts}
use Rattle.cert_text.proofs.spellings.put_lemma.Goals as goal

pub returns : goal.returns
returns c =
    let lemma = c.args.lemma.now in
    let pairs = spaced (map pair_word lemma.prefix.now) in
    let tree = spaced (tree_words lemma.tree) in
    let old = c.args.text.now.items in
    let written : c.push.new.self.items ≡ (((((old ++ (codes "lemma " ++ decimal lemma.number)) ++ codes " prefix") ++ pairs) ++ codes " tree") ++ tree) ++ 10 ∷ [] =
    rw (c.in_ok-push.ensures.items, c.in_ok-put_heads.ensures, c.heads.ensures, ← tree_words-heads lemma.tree, c.in_ok-extend_from_slice-2.ensures.items, c.in_ok-put_pairs.ensures, c.in_ok-extend_from_slice.ensures.items, c.in_ok-put_behind.ensures) refl in
    written ∙ six_parts old (codes "lemma ") (decimal lemma.number) (codes " prefix") pairs (codes " tree") tree ∙ ap (λ t. old ++ t) (sym (lemma_parts (flat_piece lemma)))
