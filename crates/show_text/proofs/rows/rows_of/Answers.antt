use Rattle.std.proofs.Common.{◌+◌, length, ap, sym, subst, ◌∙◌}
use Rattle.std.proofs.lemmas.List.{length_push}
use Rattle.show_text.specs.Rows.{IsRow}
use Rattle.show_text.proofs.ListLemmas.{each_more}
use Rattle.show_text.proofs.rows.rows_of.Goals as goal

pub loop-row-preserved : goal.loop-row-preserved
loop-row-preserved c =
    let q = c.args.partial.now in
    record {
      long = ap length c.in_ok-push.ensures.items ∙ length_push _ _ ∙ ap (λ n. n + 1) c.loop-row.invariant.long;
      each = each_more (IsRow q c.args.mark) _ _ _ c.loop-row.row c.in_ok-push.ensures.items c.loop-row.invariant.long c.loop-row.invariant.each (subst (IsRow q c.args.mark c.loop-row.row) (sym c.new.ensures) c.in_ok-places.ensures.places);
      next = c.in_ok-places.ensures.next;
    }
