use Rattle.std.proofs.Common.{◌≡◌, arith, length}
use Rattle.xcc_form.proofs.LayoutLemmas.{laid_out_pushed}
use Rattle.xcc_form.proofs.lists.OptionLists.add.Goals as goal

pub returns-clause-laid_out : goal.returns-clause-laid_out
returns-clause-laid_out c =
    let added = c.in_ok-add_edges.ensures in
    let now = c.args.self.now in
    let end : c.len.result ≡ length c.add_edges.new.edges.items = omega (arith, c.len.ensures, c.add_edges.new.edges.ok.0) in
    laid_out_pushed c.args.puzzle.now c.args.shared.now now.pairs.items c.push.new.self.items now.starts.items c.push-2.new.self.items now.edges.items c.add_edges.new.edges.items c.args.pair added.more c.len.result
    c.requires.laid_out added.shown (omega (arith, added.few, c.requires.few)) added.added c.in_ok-push.ensures.items end c.in_ok-push-2.ensures.items
