use Rattle.std.proofs.Common.{◌∙◌, List, ap, codes, refl, subst, sym, map}
use Rattle.std.specs.Borrow.{Bor}
use Rattle.std.specs.Option.{option_map}
use Rattle.clap.specs.Words.{Text, found_of, rows_of}
use Rattle.command_words.specs.Orders.{AreNamedParts}
use Rattle.command_words.specs.declared.places.PartPlaces.{PartPlaces}
use Rattle.command_words.proofs.CommandLemmas.{total_file}
use Rattle.command_words.proofs.MisfitLemmas.{misfits}
use Rattle.command_words.proofs.PartPlaceLemmas.{has_values, no_total, values_are}
use Rattle.command_words.proofs.readings.total.Goals as goal

-- the texts behind the names
abbrev texts : List (Bor Text) → List Text
texts = map (λ name. name.now)

pub unreachable-requires : goal.unreachable-requires
unreachable-requires c =
    let text = total_file (rows_of (found_of c.args.matches.now)) c.requires in
    has_values (found_of c.args.matches.now) (codes "FILE") text.0 text.1 (sym c.get_strs.ensures ∙ ap (option_map (λ (s : Bor (List (Bor Text))). texts s.now)) c.in_default.is)

pub returns-in_default-2-clause-refused : goal.returns-in_default-2-clause-refused
returns-in_default-2-clause-refused c =
    let values = values_are (found_of c.args.matches.now) (codes "FILE") (texts c.in-Some.names.now) (sym c.get_strs.ensures ∙ ap (option_map (λ (s : Bor (List (Bor Text))). texts s.now)) c.in-Some.is) in
    let nowhere : (any : PartPlaces) → AreNamedParts (texts c.in-Some.names.now) any → ⊥ = rw c.in_default-2.is at c.in_ok-places.ensures in
    misfits (codes "total") (rows_of (found_of c.args.matches.now)) c.misfit.result c.misfit.ensures
    (no_total (rows_of (found_of c.args.matches.now)) (λ any is. nowhere any (subst (λ (v : List Text). AreNamedParts v any) values is)))

pub returns-clause-order : goal.returns-clause-order
returns-clause-order c =
    let values = values_are (found_of c.args.matches.now) (codes "FILE") (texts c.in-Some.names.now) (sym c.get_strs.ensures ∙ ap (option_map (λ (s : Bor (List (Bor Text))). texts s.now)) c.in-Some.is) in
    let placed : AreNamedParts (texts c.in-Some.names.now) c.in-Some-2.places = rw c.in-Some-2.is at c.in_ok-places.ensures in
    (refl, subst (λ (v : List Text). AreNamedParts v c.in-Some-2.places) (sym values) placed)
