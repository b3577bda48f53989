use Rattle.std.proofs.Common.{◌≡◌, ◌≢◌, Some, IfErr, IfOk, codes, false, subst, sym}
use Rattle.std.specs.Str.{bytes_eq}
use Rattle.clap.specs.Words.{Text, found_of, rows_of}
use Rattle.command_words.specs.Orders.{AreMatchesOf, IsMisfit, IsOrderOf}
use Rattle.command_words.proofs.ProgramLemmas.{differs, none_is_some, program_has}
use Rattle.command_words.proofs.readings.order_of.Goals as goal

pub check-requires : goal.check-requires
check-requires c = subst (λ name. AreMatchesOf name (rows_of (found_of c.args.matches.now))) c.in-check.is c.requires

pub find-requires : goal.find-requires
find-requires c = subst (λ name. AreMatchesOf name (rows_of (found_of c.args.matches.now))) c.in-find.is c.requires

pub solve-requires : goal.solve-requires
solve-requires c = subst (λ name. AreMatchesOf name (rows_of (found_of c.args.matches.now))) c.in-solve.is c.requires

pub expand-requires : goal.expand-requires
expand-requires c = subst (λ name. AreMatchesOf name (rows_of (found_of c.args.matches.now))) c.in-expand.is c.requires

pub page-requires : goal.page-requires
page-requires c = subst (λ name. AreMatchesOf name (rows_of (found_of c.args.matches.now))) c.in-page.is c.requires

pub count-requires : goal.count-requires
count-requires c = subst (λ name. AreMatchesOf name (rows_of (found_of c.args.matches.now))) c.in-count.is c.requires

pub total-requires : goal.total-requires
total-requires c = subst (λ name. AreMatchesOf name (rows_of (found_of c.args.matches.now))) c.in-total.is c.requires

pub generate-requires : goal.generate-requires
generate-requires c = subst (λ name. AreMatchesOf name (rows_of (found_of c.args.matches.now))) c.in-generate.is c.requires

pub show-requires : goal.show-requires
show-requires c = subst (λ name. AreMatchesOf name (rows_of (found_of c.args.matches.now))) c.in-show.is c.requires

pub draw-requires : goal.draw-requires
draw-requires c = subst (λ name. AreMatchesOf name (rows_of (found_of c.args.matches.now))) c.in-draw.is c.requires

pub symmetries-requires : goal.symmetries-requires
symmetries-requires c = subst (λ name. AreMatchesOf name (rows_of (found_of c.args.matches.now))) c.in-symmetries.is c.requires

pub tiles-requires : goal.tiles-requires
tiles-requires c = subst (λ name. AreMatchesOf name (rows_of (found_of c.args.matches.now))) c.in-tiles.is c.requires

pub returns-in-check-clause-order : goal.returns-in-check-clause-order
returns-in-check-clause-order c =
    subst (λ name. IfOk c.check.result (IsOrderOf (Some (name, rows_of (found_of c.args.matches.now))))) (sym c.in-check.is) c.check.ensures.order

pub returns-in-check-clause-refused : goal.returns-in-check-clause-refused
returns-in-check-clause-refused c =
    subst (λ name. IfErr c.check.result (IsMisfit (Some (name, rows_of (found_of c.args.matches.now))))) (sym c.in-check.is) c.check.ensures.refused

pub returns-in-find-clause-order : goal.returns-in-find-clause-order
returns-in-find-clause-order c =
    subst (λ name. IfOk c.find.result (IsOrderOf (Some (name, rows_of (found_of c.args.matches.now))))) (sym c.in-find.is) c.find.ensures.order

pub returns-in-find-clause-refused : goal.returns-in-find-clause-refused
returns-in-find-clause-refused c =
    subst (λ name. IfErr c.find.result (IsMisfit (Some (name, rows_of (found_of c.args.matches.now))))) (sym c.in-find.is) c.find.ensures.refused

pub returns-in-solve-clause-order : goal.returns-in-solve-clause-order
returns-in-solve-clause-order c =
    subst (λ name. IfOk c.solve.result (IsOrderOf (Some (name, rows_of (found_of c.args.matches.now))))) (sym c.in-solve.is) c.solve.ensures.order

pub returns-in-solve-clause-refused : goal.returns-in-solve-clause-refused
returns-in-solve-clause-refused c =
    subst (λ name. IfErr c.solve.result (IsMisfit (Some (name, rows_of (found_of c.args.matches.now))))) (sym c.in-solve.is) c.solve.ensures.refused

pub returns-in-symmetries-clause-order : goal.returns-in-symmetries-clause-order
returns-in-symmetries-clause-order c =
    subst (λ name. IfOk c.symmetries.result (IsOrderOf (Some (name, rows_of (found_of c.args.matches.now))))) (sym c.in-symmetries.is) c.symmetries.ensures.order

pub returns-in-symmetries-clause-refused : goal.returns-in-symmetries-clause-refused
returns-in-symmetries-clause-refused c =
    subst (λ name. IfErr c.symmetries.result (IsMisfit (Some (name, rows_of (found_of c.args.matches.now))))) (sym c.in-symmetries.is) c.symmetries.ensures.refused

pub returns-in-tiles-clause-order : goal.returns-in-tiles-clause-order
returns-in-tiles-clause-order c = subst (λ name. IsOrderOf (Some (name, rows_of (found_of c.args.matches.now))) c.tiles.result) (sym c.in-tiles.is) c.tiles.ensures

pub returns-in-explain-clause-order : goal.returns-in-explain-clause-order
returns-in-explain-clause-order c =
    subst (λ name. IfOk c.explain.result (IsOrderOf (Some (name, rows_of (found_of c.args.matches.now))))) (sym c.in-explain.is) c.explain.ensures.order

pub returns-in-explain-clause-refused : goal.returns-in-explain-clause-refused
returns-in-explain-clause-refused c =
    subst (λ name. IfErr c.explain.result (IsMisfit (Some (name, rows_of (found_of c.args.matches.now))))) (sym c.in-explain.is) c.explain.ensures.refused

pub returns-in-expand-clause-order : goal.returns-in-expand-clause-order
returns-in-expand-clause-order c =
    subst (λ name. IfOk c.expand.result (IsOrderOf (Some (name, rows_of (found_of c.args.matches.now))))) (sym c.in-expand.is) c.expand.ensures.order

pub returns-in-expand-clause-refused : goal.returns-in-expand-clause-refused
returns-in-expand-clause-refused c =
    subst (λ name. IfErr c.expand.result (IsMisfit (Some (name, rows_of (found_of c.args.matches.now))))) (sym c.in-expand.is) c.expand.ensures.refused

pub returns-in-page-clause-order : goal.returns-in-page-clause-order
returns-in-page-clause-order c =
    subst (λ name. IfOk c.page.result (IsOrderOf (Some (name, rows_of (found_of c.args.matches.now))))) (sym c.in-page.is) c.page.ensures.order

pub returns-in-page-clause-refused : goal.returns-in-page-clause-refused
returns-in-page-clause-refused c =
    subst (λ name. IfErr c.page.result (IsMisfit (Some (name, rows_of (found_of c.args.matches.now))))) (sym c.in-page.is) c.page.ensures.refused

pub returns-in-count-clause-order : goal.returns-in-count-clause-order
returns-in-count-clause-order c =
    subst (λ name. IfOk c.count.result (IsOrderOf (Some (name, rows_of (found_of c.args.matches.now))))) (sym c.in-count.is) c.count.ensures.order

pub returns-in-count-clause-refused : goal.returns-in-count-clause-refused
returns-in-count-clause-refused c =
    subst (λ name. IfErr c.count.result (IsMisfit (Some (name, rows_of (found_of c.args.matches.now))))) (sym c.in-count.is) c.count.ensures.refused

pub returns-in-total-clause-order : goal.returns-in-total-clause-order
returns-in-total-clause-order c =
    subst (λ name. IfOk c.total.result (IsOrderOf (Some (name, rows_of (found_of c.args.matches.now))))) (sym c.in-total.is) c.total.ensures.order

pub returns-in-total-clause-refused : goal.returns-in-total-clause-refused
returns-in-total-clause-refused c =
    subst (λ name. IfErr c.total.result (IsMisfit (Some (name, rows_of (found_of c.args.matches.now))))) (sym c.in-total.is) c.total.ensures.refused

pub returns-in-generate-clause-order : goal.returns-in-generate-clause-order
returns-in-generate-clause-order c =
    subst (λ name. IfOk c.generate.result (IsOrderOf (Some (name, rows_of (found_of c.args.matches.now))))) (sym c.in-generate.is) c.generate.ensures.order

pub returns-in-generate-clause-refused : goal.returns-in-generate-clause-refused
returns-in-generate-clause-refused c =
    subst (λ name. IfErr c.generate.result (IsMisfit (Some (name, rows_of (found_of c.args.matches.now))))) (sym c.in-generate.is) c.generate.ensures.refused

pub returns-in-show-clause-order : goal.returns-in-show-clause-order
returns-in-show-clause-order c =
    subst (λ name. IfOk c.show.result (IsOrderOf (Some (name, rows_of (found_of c.args.matches.now))))) (sym c.in-show.is) c.show.ensures.order

pub returns-in-show-clause-refused : goal.returns-in-show-clause-refused
returns-in-show-clause-refused c =
    subst (λ name. IfErr c.show.result (IsMisfit (Some (name, rows_of (found_of c.args.matches.now))))) (sym c.in-show.is) c.show.ensures.refused

pub returns-in-draw-clause-order : goal.returns-in-draw-clause-order
returns-in-draw-clause-order c =
    subst (λ name. IfOk c.draw.result (IsOrderOf (Some (name, rows_of (found_of c.args.matches.now))))) (sym c.in-draw.is) c.draw.ensures.order

pub returns-in-draw-clause-refused : goal.returns-in-draw-clause-refused
returns-in-draw-clause-refused c =
    subst (λ name. IfErr c.draw.result (IsMisfit (Some (name, rows_of (found_of c.args.matches.now))))) (sym c.in-draw.is) c.draw.ensures.refused

pub unreachable-requires : goal.unreachable-requires
unreachable-requires c =
    let own = program_has c.requires.words c.requires.faultless c.args.name.now (rows_of (found_of c.args.matches.now)) c.requires.enters in
    let other : (name : Text) → c.args.name.now ≢ name → bytes_eq name c.args.name.now ≡ false = differs c.args.name.now in
    none_is_some (rw (other (codes "check") c.in_default.not-check, other (codes "explain") c.in_default.not-explain, other (codes "find") c.in_default.not-find, other (codes "solve") c.in_default.not-solve, other (codes "expand") c.in_default.not-expand, other (codes "page") c.in_default.not-page, other (codes "count") c.in_default.not-count, other (codes "total") c.in_default.not-total, other (codes "generate") c.in_default.not-generate, other (codes "show") c.in_default.not-show, other (codes "draw") c.in_default.not-draw, other (codes "symmetries") c.in_default.not-symmetries, other (codes "tiles") c.in_default.not-tiles, other (codes "help") own.no_help) at own.is_named)
