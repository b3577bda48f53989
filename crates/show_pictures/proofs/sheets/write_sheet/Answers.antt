use Rattle.std.proofs.Common.{◌++◌, ap, ◌∙◌}
use Rattle.show_pictures.proofs.GrownLemmas.{wrapped_grows}
use Rattle.show_pictures.proofs.PictureLemmas.{on_a_sheet}
use Rattle.show_pictures.proofs.sheets.write_sheet.Goals as goal

pub returns : goal.returns
returns c =
    let begun = c.in_ok-text.text.items in
    let grown = wrapped_grows c.in_ok-put_group.ensures in
    let drawn = c.in_ok-extend_from_slice.ensures.items ∙ ap (λ t. begun ++ t) c.deref.ensures.value in
    record {
      before = begun;
      pictures = c.in_ok-pictures.pictures.items;
      drawn = c.in_ok-pictures.ensures;
      after = _;
      written = c.in_ok-extend_from_slice-2.ensures.items ∙ on_a_sheet begun c.in_ok-pictures.pictures.items _ drawn grown;
    }
