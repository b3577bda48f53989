use Rattle.std.proofs.Common.{◌≡◌, ◌≢◌, ◌∙◌, ◌++◌, ◌∷◌, [], arith, ap, sym, subst, inl, inr, ⊎_elim}
use Rattle.std.proofs.lemmas.List.{get_or_read}
use Rattle.xcc_links.specs.Rings.{no_entry, option_of, colour_of}
use Rattle.xcc_links.specs.NodeTables.{has}
use Rattle.xcc_links.specs.NodeClashes.{HasOtherColour}
use Rattle.xcc_links.proofs.NodeWords.{IsWalking}
use Rattle.xcc_links.specs.declared.links.tables.Entry.{Entry}
use Rattle.xcc_links.proofs.TrailLemmas.{goes_none, goes_on}
use Rattle.xcc_links.proofs.HidingLemmas.{has_cases}
use Rattle.xcc_links.proofs.PurifyingLemmas.{begun, parts, passed, hid, goes_down, only_hid, cleared}
use Rattle.xcc_links.proofs.links.arrays.LinkArrays.purify.Goals as goal

pub loop-node-init : goal.loop-node-init
loop-node-init c =
    let f = c.args.table.now in
    let w = c.args.self.now in
    record {
      right = c.requires.right;
      goes = goes_none _ _ _;
      at = begun f.takable f.items f.options f.entries.items f.starts.items c.requires.table w.links.items w.sizes.items w.trail.items c.requires.right c.args.item c.requires.item (λ n. colour_of f.entries.items n ≡ c.args.colour) c.index.result.now c.index.ensures;
      only = λ p e. inl e;
    }

pub hide-requires-clause-free : goal.hide-requires-clause-free
hide-requires-clause-free c =
    let f = c.args.table.now in
    let w = c.loop-node.self in
    let i = c.loop-node.invariant in
    let entry = get_or_read f.entries.items c.loop-node.node c.index-entry.result.now (parts f.takable f.items f.options f.entries.items f.starts.items c.requires.table w.links.items w.sizes.items w.trail.items i.right c.args.item c.requires.item (λ n. colour_of f.entries.items n ≡ c.args.colour) c.loop-node.node i.at (omega arith)).1 c.index-entry.ensures no_entry in
    let o : c.index-entry.result.now.option ≡ option_of f.entries.items c.loop-node.node = ap (λ (e : Entry). e.option) entry in
    let k : c.index-entry.result.now.colour ≡ colour_of f.entries.items c.loop-node.node = ap (λ (e : Entry). e.colour) entry in
    ap (has w.trail.items) o ∙ (parts f.takable f.items f.options f.entries.items f.starts.items c.requires.table w.links.items w.sizes.items w.trail.items i.right c.args.item c.requires.item (λ n. colour_of f.entries.items n ≡ c.args.colour) c.loop-node.node i.at (omega arith)).2

pub returns-in_err-hide-clause-goes : goal.returns-in_err-hide-clause-goes
returns-in_err-hide-clause-goes c = goes_on _ _ _ _ _ _ _ c.loop-node.invariant.goes c.in_err-hide.ensures.goes

pub loop-node-smaller-in_ok-hide : goal.loop-node-smaller-in_ok-hide
loop-node-smaller-in_ok-hide c =
    let f = c.args.table.now in
    let w = c.loop-node.self in
    let i = c.loop-node.invariant in
    goes_down f.takable f.items f.options f.entries.items f.starts.items c.requires.table w.links.items w.sizes.items w.trail.items i.right c.args.item c.requires.item (λ n. colour_of f.entries.items n ≡ c.args.colour) c.loop-node.node i.at (omega arith) c.index-link.result.now c.index-link.ensures

pub loop-node-preserved-in_ok-hide : goal.loop-node-preserved-in_ok-hide
loop-node-preserved-in_ok-hide c =
    let f = c.args.table.now in
    let w = c.loop-node.self in
    let i = c.loop-node.invariant in
    let entry = get_or_read f.entries.items c.loop-node.node c.index-entry.result.now (parts f.takable f.items f.options f.entries.items f.starts.items c.requires.table w.links.items w.sizes.items w.trail.items i.right c.args.item c.requires.item (λ n. colour_of f.entries.items n ≡ c.args.colour) c.loop-node.node i.at (omega arith)).1 c.index-entry.ensures no_entry in
    let o : c.index-entry.result.now.option ≡ option_of f.entries.items c.loop-node.node = ap (λ (e : Entry). e.option) entry in
    let k : c.index-entry.result.now.colour ≡ colour_of f.entries.items c.loop-node.node = ap (λ (e : Entry). e.colour) entry in
    let t : c.hide.new.self.trail.items ≡ w.trail.items ++ c.index-entry.result.now.option ∷ [] = c.in_ok-hide.ensures.hidden in
    let t2 : c.hide.new.self.trail.items ≡ w.trail.items ++ option_of f.entries.items c.loop-node.node ∷ [] = t ∙ ap (λ x. w.trail.items ++ x ∷ []) o in
    let off : colour_of f.entries.items c.loop-node.node ≢ c.args.colour = λ e. omega (arith, e, k) in
    record {
      right = c.in_ok-hide.ensures.right;
      goes = goes_on _ _ _ _ _ _ _ i.goes c.in_ok-hide.ensures.goes;
      at = subst (λ x. IsWalking f.items f.entries.items x c.args.item (λ n. colour_of f.entries.items n ≡ c.args.colour) c.index-link.result.now.down) (sym t2) (hid f.takable f.items f.options f.entries.items f.starts.items c.requires.table w.links.items w.sizes.items w.trail.items i.right c.args.item c.requires.item (λ n. colour_of f.entries.items n ≡ c.args.colour) c.loop-node.node i.at (omega arith) c.index-link.result.now c.index-link.ensures);
      only = λ p e. ⊎_elim (λ h. i.only p h)
          (λ (same : p ≡ option_of f.entries.items c.loop-node.node). inr (subst (HasOtherColour f.items f.entries.items c.args.item c.args.colour) (sym same) (only_hid f.takable f.items f.options f.entries.items f.starts.items c.requires.table w.links.items w.sizes.items w.trail.items i.right c.args.item c.requires.item c.args.colour c.loop-node.node i.at (omega arith) off)))
          (has_cases w.trail.items (option_of f.entries.items c.loop-node.node) p (ap (λ x. has x p) (sym t2) ∙ e));
    }

pub loop-node-preserved : goal.loop-node-preserved
loop-node-preserved c =
    let f = c.args.table.now in
    let w = c.loop-node.self in
    let i = c.loop-node.invariant in
    let entry = get_or_read f.entries.items c.loop-node.node c.index-entry.result.now (parts f.takable f.items f.options f.entries.items f.starts.items c.requires.table w.links.items w.sizes.items w.trail.items i.right c.args.item c.requires.item (λ n. colour_of f.entries.items n ≡ c.args.colour) c.loop-node.node i.at (omega arith)).1 c.index-entry.ensures no_entry in
    let o : c.index-entry.result.now.option ≡ option_of f.entries.items c.loop-node.node = ap (λ (e : Entry). e.option) entry in
    let k : c.index-entry.result.now.colour ≡ colour_of f.entries.items c.loop-node.node = ap (λ (e : Entry). e.colour) entry in
    record {
      right = i.right;
      goes = i.goes;
      at = passed f.takable f.items f.options f.entries.items f.starts.items c.requires.table w.links.items w.sizes.items w.trail.items i.right c.args.item c.requires.item (λ n. colour_of f.entries.items n ≡ c.args.colour) c.loop-node.node i.at (omega arith) c.index-link.result.now c.index-link.ensures (let s = c.if-entry-colour.false in omega (arith, k, s));
      only = i.only;
    }

pub loop-node-smaller : goal.loop-node-smaller
loop-node-smaller c =
    let f = c.args.table.now in
    let w = c.loop-node.self in
    let i = c.loop-node.invariant in
    goes_down f.takable f.items f.options f.entries.items f.starts.items c.requires.table w.links.items w.sizes.items w.trail.items i.right c.args.item c.requires.item (λ n. colour_of f.entries.items n ≡ c.args.colour) c.loop-node.node i.at (omega arith) c.index-link.result.now c.index-link.ensures

pub returns-clause-all : goal.returns-clause-all
returns-clause-all c =
    let f = c.args.table.now in
    let w = c.loop-node.self in
    let i = c.loop-node.invariant in
    let same : c.loop-node.node ≡ c.args.item = omega arith in
    cleared f.takable f.items f.options f.entries.items f.starts.items c.requires.table w.links.items w.sizes.items w.trail.items i.right c.args.item c.requires.item c.args.colour (subst (IsWalking f.items f.entries.items w.trail.items c.args.item (λ n. colour_of f.entries.items n ≡ c.args.colour)) same i.at)
