use Rattle.std.proofs.Common.{subst}
use Rattle.std.specs.Prelude.{MatchBool}
use Rattle.cert_tree.specs.Slots.{IsPut, IsTaken}
use Rattle.cert_tree.proofs.AssemblyLemmas.{put_entered, taken_entered}
use Rattle.cert_tree.proofs.slots.enter.Goals as goal

pub returns-then-put-clause-entered : goal.returns-then-put-clause-entered
returns-then-put-clause-entered g c = λ before entered.
    let put = subst (λ b. MatchBool b (IsPut g.N.Numbered.numbered c.args.slots.now.items c.put.new.slots.items c.args.piece) (IsTaken g.N.Numbered.numbered c.args.slots.now.items c.put.new.slots.items c.args.piece)) c.if-put.true c.put.ensures in
    put_entered g.N.Numbered.numbered before c.args.piece c.args.slots.now.items c.put.new.slots.items c.args.double put entered

pub returns-clause-entered : goal.returns-clause-entered
returns-clause-entered g c = λ before entered.
    let taken = subst (λ b. MatchBool b (IsPut g.N.Numbered.numbered c.args.slots.now.items c.put.new.slots.items c.args.piece) (IsTaken g.N.Numbered.numbered c.args.slots.now.items c.put.new.slots.items c.args.piece)) c.if-put.false c.put.ensures in
    rw (c.lesser.ensures, c.number-number.ensures) (taken_entered g.N.Numbered.numbered before c.args.piece c.args.slots.now.items c.put.new.slots.items c.args.double taken entered)
