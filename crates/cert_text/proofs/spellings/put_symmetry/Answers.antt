use Rattle.std.proofs.Common.{◌≡◌, ◌++◌, ◌∷◌, [], map, sym, ap, ◌∙◌, refl, codes}
use Rattle.std.specs.Fmt.{decimal}
use Rattle.text_words.specs.Spelling.{spaced, colour_word}
use Rattle.cert_text.specs.CertificateSpelling.{mirrored_word}
use Rattle.cert_text.proofs.SpacedLemmas.{symmetry_parts, ten_parts}
use Rattle.cert_text.proofs.spellings.put_symmetry.Goals as goal

pub returns : goal.returns
returns c =
    let line = c.args.line.now in
    let cells = spaced (map decimal line.cells) in
    let colours = spaced (map colour_word line.colours) in
    let tiles = spaced (map decimal line.tiles) in
    let old = c.args.text.now.items in
    let written : c.push-3.new.self.items ≡ (((((((((old ++ (codes "symmetry " ++ decimal line.shift)) ++ 32 ∷ []) ++ mirrored_word line.mirrored) ++ codes " cells") ++ cells) ++ codes " colours") ++ colours) ++ codes " tiles") ++ tiles) ++ 10 ∷ [] =
    rw (
      c.in_ok-push-3.ensures.items,
      c.in_ok-put_numbers-2.ensures,
      c.as_slice-3.ensures,
      c.in_ok-extend_from_slice-3.ensures.items,
      c.in_ok-put_colours.ensures,
      c.as_slice-2.ensures,
      c.in_ok-extend_from_slice-2.ensures.items,
      c.in_ok-put_numbers.ensures,
      c.as_slice.ensures,
      c.in_ok-extend_from_slice.ensures.items,
      c.in_ok-push-2.ensures.items,
      c.sign.ensures,
      c.in_ok-push.ensures.items,
      c.in_ok-put_behind.ensures,
      c.from.ensures,
    ) refl in
    written ∙ ten_parts old (codes "symmetry ") (decimal line.shift) (mirrored_word line.mirrored) (codes " cells") cells (codes " colours") colours (codes " tiles") tiles ∙ ap (λ t. old ++ t) (sym (symmetry_parts line))
