use Rattle.std.proofs.Common.{◌≡◌, ◌+◌, ◌++◌, ◌∷◌, [], ℕ, List, get_or, length, length-append, map, arith, ap, sym, ◌∙◌, subst, append_assoc}
use Rattle.std.proofs.lemmas.List.{length-map}
use Rattle.match_board.specs.Board.{cell_count}
use Rattle.match_puzzle.specs.declared.placements.Pair.{Pair}
use Rattle.match_puzzle.proofs.Prefixes.{inside}
use Rattle.xcc_form.specs.Options.{pair_of}
use Rattle.xcc_form.specs.declared.edges.Edge.{Edge}
use Rattle.xcc_links.specs.TableLayout.{IsLaidOutTo, edge_entry, taken_entry}
use Rattle.xcc_links.proofs.LayingLemmas.{option_nodes, option_more, entries_left}
use Rattle.xcc_links.specs.declared.links.tables.Entry.{Entry}
use Rattle.xcc_links.proofs.links.tables.add_option.Goals as goal

two_first : {X : Type 0} (xs : List X) (a b : X) (ys : List X) → ((xs ++ a ∷ []) ++ b ∷ []) ++ ys ≡ xs ++ a ∷ b ∷ ys
two_first xs a b ys = append_assoc (xs ++ a ∷ []) (b ∷ []) ys ∙ append_assoc xs (a ∷ []) (b ∷ ys)

pub overflow_cast-len : goal.overflow_cast-len
overflow_cast-len c =
    let w = c.edges.ensures in
    let e = entries_left c.args.xcc.now c.args.option w.0 w.1 in
    let long = length-append c.push-2.new.self.items (map (edge_entry c.args.option) c.edges.result.now) in
    let edges = length-map c.edges.result.now (edge_entry c.args.option) in
    omega (arith, c.len.ensures, ap length c.in_ok-add_edges.ensures, long, edges, ap length c.in_ok-push-2.ensures.items, ap length c.in_ok-push.ensures.items, length-append c.push.new.self.items (taken_entry 0 0 ∷ []), length-append c.args.entries.now.items (taken_entry 0 0 ∷ []), c.requires.few, e, ap length w.2)

pub returns : goal.returns
returns c = λ items h.
    let x = c.args.xcc.now in
    let o = c.args.option in
    let w = c.edges.ensures in
    let d = w.0 in
    let v = c.pair-pair.ensures in
    let pair : d.pair ≡ c.pair-pair.result = ap pair_of (inside (sym w.1 ∙ v.1)) ∙ v.2 in
    let cells = c.cells.ensures.count in
    let front = c.args.entries.now.items in
    let to : List ℕ → List Edge → List Entry = λ items es. front ++ taken_entry o (get_or items 0 0) ∷ taken_entry o (get_or items 1 0) ∷ map (edge_entry o) es in
    let cell : c.from.result ≡ d.pair.cell = c.from.ensures ∙ ap (λ (p : Pair). p.cell) (sym pair) in
    let tile : c.from-2.result + c.from-3.result ≡ cell_count x.puzzle.board + d.pair.placement.tile = omega (arith, c.from-2.ensures, c.from-3.ensures, cells, ap (λ (p : Pair). p.placement.tile) pair) in
    let nodes : c.add_edges.new.entries.items ≡ c.args.entries.now.items ++ option_nodes (cell_count x.puzzle.board) o d =
    c.in_ok-add_edges.ensures
    ∙ ap (λ l. l ++ map (edge_entry o) c.edges.result.now) (c.in_ok-push-2.ensures.items ∙ ap (λ l. l ++ taken_entry o (c.from-2.result + c.from-3.result) ∷ []) c.in_ok-push.ensures.items)
    ∙ two_first front (taken_entry o c.from.result) (taken_entry o (c.from-2.result + c.from-3.result)) (map (edge_entry o) c.edges.result.now)
    ∙ ap (to (c.from.result ∷ (c.from-2.result + c.from-3.result) ∷ [])) (sym w.2)
    ∙ ap (λ n. to (n ∷ (c.from-2.result + c.from-3.result) ∷ []) d.edges) cell
    ∙ ap (λ n. to (d.pair.cell ∷ n ∷ []) d.edges) tile in
    let long : c.len.result ≡ length c.add_edges.new.entries.items = omega (arith, c.len.ensures, c.add_edges.new.entries.ok.0) in
    let starts : c.push-3.new.self.items ≡ c.args.starts.now.items ++ length (c.args.entries.now.items ++ option_nodes (cell_count x.puzzle.board) o d) ∷ [] =
    c.in_ok-push-3.ensures.items ∙ ap (λ n. c.args.starts.now.items ++ n ∷ []) (long ∙ ap length nodes) in
    subst (λ s. IsLaidOutTo x items (o + 1) 0 c.add_edges.new.entries.items s) (sym starts)
    (subst (λ e. IsLaidOutTo x items (o + 1) 0 e (c.args.starts.now.items ++ length (c.args.entries.now.items ++ option_nodes (cell_count x.puzzle.board) o d) ∷ [])) (sym nodes)
    (option_more x items o c.args.entries.now.items c.args.starts.now.items h d w.1))
