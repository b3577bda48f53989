use Rattle.show_refusals.proofs.node_explanations.node_line.Goals as goal

pub returns : goal.returns
returns c = record {
  line = c.args.place.line;
  word = c.args.place.word;
  node = c.as_str-name.result.now;
  sentence = c.as_str-sentence.result.now;
  parts = rw c.from.ensures c.in_ok-words.ensures.ok;
}
