use Rattle.std.proofs.Common.{ap, subst, ⊎_elim, inl, inr, ◌∙◌}
use Rattle.std.specs.Io.KnownBytes.{Appends}
use Rattle.std.proofs.lemmas.Result.{err_from_is_err_and}
use Rattle.byte_streams.specs.Streams.{AppendsFront, one_more}
use Rattle.byte_streams.proofs.PartLemmas.{behind_part, within_part}
use Rattle.byte_streams.proofs.writings.write_parts.Goals as goal

pub returns-in_err-write_whole : goal.returns-in_err-write_whole
returns-in_err-write_whole g c =
    let start = g.W.Sink.written c.args.writer.now in
    let before = g.W.Sink.written c.loop-part.writer in
    let after = g.W.Sink.written c.write_whole.new.writer in
    let gone = c.loop-part.invariant.gone in
    let stopped = c.in_err-write_whole.ensures in
    let front = subst (AppendsFront before after) c.deref.ensures.value stopped.0 in
    let w = err_from_is_err_and c.from_residual.result c.from_residual.ensures.1 in
    rw w.1 (
      within_part start before after c.args.parts.now c.loop-part.part-index c.part-item.result c.loop-part-test.true c.part-item.is gone.0 gone.1 gone.2 front,
      ⊎_elim (λ failed. inl (failed ∙ ap one_more c.loop-part.invariant.calm)) (λ idle. inr idle) stopped.1,
    )

pub loop-part-preserved : goal.loop-part-preserved
loop-part-preserved g c =
    let start = g.W.Sink.written c.args.writer.now in
    let before = g.W.Sink.written c.loop-part.writer in
    let after = g.W.Sink.written c.write_whole.new.writer in
    let gone = c.loop-part.invariant.gone in
    let took = subst (Appends before after) c.deref.ensures.value c.in_ok-write_whole.ensures.0 in
    record {
      gone = behind_part start before after c.args.parts.now c.loop-part.part-index c.part-item.result c.loop-part-test.true c.part-item.is gone.0 gone.1 gone.2 took;
      calm = c.in_ok-write_whole.ensures.1 ∙ c.loop-part.invariant.calm;
    }
