use Rattle.std.proofs.Common.{◌≡◌, ◌+◌, ◌-◌, ◌++◌, ◌∷◌, [], length, length-append, arith, ap, sym, ◌∙◌, subst}
use Rattle.xcc_links.specs.TableLayout.{IsLaidOutTo, taken_entry}
use Rattle.xcc_links.proofs.LayingLemmas.{root_more}
use Rattle.xcc_links.proofs.links.tables.add_roots.Goals as goal

pub loop-item-preserved : goal.loop-item-preserved
loop-item-preserved c =
    let items = c.args.items in
    let options = c.args.options in
    let roots = c.loop-item.item in
    let entries = c.loop-item.entries.items in
    let starts = c.loop-item.starts.items in
    let more = taken_entry (options + roots) (items - 1) ∷ [] in
    let nodes = c.in_ok-push.ensures.items in
    let long : c.len.result ≡ length c.push.new.self.items = omega (arith, c.len.ensures, c.push.new.self.ok.0) in
    let ends = c.in_ok-push-2.ensures.items ∙ ap (λ n. starts ++ n ∷ []) (long ∙ ap length nodes) in
    record {
      long = omega (arith, ap length nodes, length-append entries more, c.loop-item.invariant.long);
      laid = λ x h.
          subst (λ s. IsLaidOutTo x items options (roots + 1) c.push.new.self.items s) (sym ends)
          (subst (λ e. IsLaidOutTo x items options (roots + 1) e (starts ++ length (entries ++ more) ∷ [])) (sym nodes)
          (root_more x items options roots entries starts (c.loop-item.invariant.laid x h)));
    }
