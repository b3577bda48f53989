use Rattle.std.proofs.Common.{◌≡◌, ◌<◌, ◌∷◌, ◌∙◌, [], ℕ, Some, None, get_or, slice_get, slice_index, arith, sym, subst}
use Rattle.std.proofs.lemmas.Option.{slice_get-get_or}
use Rattle.match_puzzle.specs.declared.tables.Side.{Side}
use Rattle.match_puzzle.specs.declared.tables.Side.TheVariants.{Border}
use Rattle.match_puzzle.specs.Tables.{Begins}
use Rattle.match_puzzle.proofs.FittingLemmas.{each_of_four}
use Rattle.match_puzzle.proofs.Prefixes.{inside}
use Rattle.match_puzzle.proofs.asking.beginning_at.Goals as goal

pub beginning_of-requires : goal.beginning_of-requires
beginning_of-requires c = let long = c.told-sides in c.requires 0 (get_or c.args.sides.now 0 (Border None)) (omega arith) (slice_get-get_or c.args.sides.now 0 (Border None) (omega (arith, long)))

pub beginning_of-requires-2 : goal.beginning_of-requires-2
beginning_of-requires-2 c = let long = c.told-sides in c.requires 1 (get_or c.args.sides.now 1 (Border None)) (omega arith) (slice_get-get_or c.args.sides.now 1 (Border None) (omega (arith, long)))

pub beginning_of-requires-3 : goal.beginning_of-requires-3
beginning_of-requires-3 c = let long = c.told-sides in c.requires 2 (get_or c.args.sides.now 2 (Border None)) (omega arith) (slice_get-get_or c.args.sides.now 2 (Border None) (omega (arith, long)))

pub beginning_of-requires-4 : goal.beginning_of-requires-4
beginning_of-requires-4 c = let long = c.told-sides in c.requires 3 (get_or c.args.sides.now 3 (Border None)) (omega arith) (slice_get-get_or c.args.sides.now 3 (Border None) (omega (arith, long)))

pub returns : goal.returns
returns c =
    let table = c.args.table.now in
    let sides = c.args.sides.now in
    let long = c.told-sides in
    let at : (side : ℕ) → side < 4 → slice_get sides side ≡ Some (get_or sides side (Border None)) = λ side lt. slice_get-get_or sides side (Border None) (omega (arith, long, lt)) in
    let values = c.beginning_of.result ∷ c.beginning_of-2.result ∷ c.beginning_of-3.result ∷ c.beginning_of-4.result ∷ [] in
    let all : (side : ℕ) → side < 4 → (x : Side) → slice_get sides side ≡ Some x → Begins table x (slice_index values side) = each_of_four (λ side. (x : Side) → slice_get sides side ≡ Some x → Begins table x (slice_index values side))
    (λ x e. subst (λ y. Begins table y c.beginning_of.result) (inside (sym (at 0 (omega arith)) ∙ e)) c.beginning_of.ensures)
    (λ x e. subst (λ y. Begins table y c.beginning_of-2.result) (inside (sym (at 1 (omega arith)) ∙ e)) c.beginning_of-2.ensures)
    (λ x e. subst (λ y. Begins table y c.beginning_of-3.result) (inside (sym (at 2 (omega arith)) ∙ e)) c.beginning_of-3.ensures)
    (λ x e. subst (λ y. Begins table y c.beginning_of-4.result) (inside (sym (at 3 (omega arith)) ∙ e)) c.beginning_of-4.ensures) in
    λ side x lt e. all side lt x e
