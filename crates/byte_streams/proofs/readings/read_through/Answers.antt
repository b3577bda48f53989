use Rattle.std.proofs.Common.{◌<◌, ◌≤◌, ◌++◌, List, ℕ, length, take, refl, ◌∙◌, ap, arith, length-append, subst, sym}
use Rattle.std.proofs.KnownBytes.{Consumes-trans}
use Rattle.std.proofs.lemmas.List.{length-take}
use Rattle.std.proofs.lemmas.Result.{err_from_is_err_and}
use Rattle.std.specs.Io.KnownBytes.{Consumes}
use Rattle.byte_streams.proofs.readings.read_through.Goals as goal

pub returns-then-count-bound-clause-stopped : goal.returns-then-count-bound-clause-stopped
returns-then-count-bound-clause-stopped g c =
    let more = c.loop-count.text.items ++ take c.in-Ok.count c.read.new.buffer in
    let came = Consumes-trans (g.R.Source.left c.args.reader.now) (g.R.Source.left c.loop-count.reader) (g.R.Source.left c.read.new.self) c.loop-count.text.items (take c.in-Ok.count c.read.new.buffer) c.loop-count.invariant.came c.in-Ok.ensures.bytes in
    let long : c.args.bound < length more = simp (length-append, length-take) (omega (arith, c.if-count-bound.true, c.len.ensures, c.in-Ok.ensures.count, c.loop-count.invariant.room, c.loop-count.text.ok.0)) in
    (refl, ((more, came, long), c.in-Ok.ensures.ok ∙ c.loop-count.invariant.calm))

pub returns-in_err-extend_from_slice-clause-stopped : goal.returns-in_err-extend_from_slice-clause-stopped
returns-in_err-extend_from_slice-clause-stopped g c =
    let w = err_from_is_err_and c.from_residual.result c.from_residual.ensures.1 in
    let more = c.loop-count.text.items ++ take c.in-Ok.count c.read.new.buffer in
    let came = Consumes-trans (g.R.Source.left c.args.reader.now) (g.R.Source.left c.loop-count.reader) (g.R.Source.left c.read.new.self) c.loop-count.text.items (take c.in-Ok.count c.read.new.buffer) c.loop-count.invariant.came c.in-Ok.ensures.bytes in
    let few : length more ≤ c.args.bound = simp (length-append, length-take) (omega (arith, c.if-count-bound.false, c.len.ensures, c.in-Ok.ensures.count, c.loop-count.invariant.room, c.loop-count.text.ok.0)) in
    rw (w.1, w.2) ((more, came, few), c.in-Ok.ensures.ok ∙ c.loop-count.invariant.calm)

pub loop-count-preserved : goal.loop-count-preserved
loop-count-preserved g c =
    let more = c.loop-count.text.items ++ take c.in-Ok.count c.read.new.buffer in
    let came = Consumes-trans (g.R.Source.left c.args.reader.now) (g.R.Source.left c.loop-count.reader) (g.R.Source.left c.read.new.self) c.loop-count.text.items (take c.in-Ok.count c.read.new.buffer) c.loop-count.invariant.came c.in-Ok.ensures.bytes in
    let few : length more ≤ c.args.bound = simp (length-append, length-take) (omega (arith, c.if-count-bound.false, c.len.ensures, c.in-Ok.ensures.count, c.loop-count.invariant.room, c.loop-count.text.ok.0)) in
    let items = c.in_ok-extend_from_slice.ensures.items in
    record {
      came = subst (Consumes (g.R.Source.left c.args.reader.now) (g.R.Source.left c.read.new.self)) (sym {A = List ℕ} items) came;
      room = subst (λ (xs : List ℕ). length xs ≤ c.args.bound) (sym {A = List ℕ} items) few;
      calm = c.in-Ok.ensures.ok ∙ c.loop-count.invariant.calm;
    }
