use Rattle.std.proofs.Common.{◌++◌, ◌∙◌, append_assoc, codes, decimal, sym}
use Rattle.std.specs.String.{string_bytes}
use Rattle.show_pictures.proofs.edges.curved_path.Goals as goal

pub returns : goal.returns
returns c =
    let before = string_bytes c.in_ok-before.before in
    let after = string_bytes c.in_ok-after.after in
    record { before = before; after = after; arc = c.in_ok-path.ensures.ok ∙ sym (append_assoc before (codes " 0 1 " ++ decimal c.args.sweep) after) }
