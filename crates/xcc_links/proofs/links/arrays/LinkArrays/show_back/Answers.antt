use Rattle.std.proofs.Common.{◌≡◌, ◌≤◌, ◌∙◌, ◌++◌, [], ◌∷◌, length, take, drop, arith, ap, sym, length-append}
use Rattle.xcc_links.specs.NodeTables.{has}
use Rattle.xcc_links.specs.Trails.{Arrays, put_back, back}
use Rattle.xcc_links.proofs.TrailLemmas.{back_one, take_one}
use Rattle.xcc_links.proofs.HidingLemmas.{has_last, has_left}
use Rattle.xcc_links.proofs.links.arrays.LinkArrays.show_back.Goals as goal

pub show-requires-clause-option : goal.show-requires-clause-option
show-requires-clause-option c =
    let last : c.loop-self.self.trail.items ≡ c.pop.new.self.items ++ c.in-Some.option ∷ [] = c.in-Some.ensures.items in
    c.loop-self.invariant.options c.in-Some.option (ap (λ t. has t c.in-Some.option) last ∙ has_last c.pop.new.self.items c.in-Some.option)

pub loop-self-preserved-in-Some : goal.loop-self-preserved-in-Some
loop-self-preserved-in-Some c =
    let rest = c.pop.new.self.items in
    let option = c.in-Some.option in
    let i = c.loop-self.invariant in
    let f = c.args.table.now in
    let step = put_back f.entries.items f.starts.items in
    let last : c.loop-self.self.trail.items ≡ rest ++ option ∷ [] = c.in-Some.ensures.items in
    let le : c.args.mark ≤ length rest = omega (arith, ap length last, length-append rest (option ∷ [])) in
    let e = c.show.ensures in
    let a : Arrays = (c.loop-self.self.links.items, c.loop-self.self.sizes.items) in
    record {
      within = omega (arith, le, ap length e.trail);
      fits = e.fits;
      options = λ o h. i.options o (ap (λ t. has t o) last ∙ has_left rest (option ∷ []) o (ap (λ t. has t o) (sym e.trail) ∙ h));
      arrays = ap (λ t. back step (drop c.args.mark t) (c.show.new.self.links.items, c.show.new.self.sizes.items)) e.trail
          ∙ ap (back step (drop c.args.mark rest)) e.back ∙ back_one step a _ rest option c.args.mark last le ∙ i.arrays;
      trail = ap (take c.args.mark) e.trail ∙ take_one step a _ rest option c.args.mark last le ∙ i.trail;
    }
