use Rattle.std.proofs.Common.{◌≡◌, ◌<◌, ◌≤◌, length, length-set, ◌∙◌, ap, arith}
use Rattle.scan_queue.specs.Payload.{words_of}
use Rattle.payloads.proofs.Laying.{word_laid, written_long, all_words}
use Rattle.payloads.proofs.payload_words.Goals as goal

pub loop-i-preserved : goal.loop-i-preserved
loop-i-preserved c =
    let laid = c.laid_bytes-laid in
    let short : length c.args.scan.bytes.now ≤ 48 = omega arith in
    let long : length laid.result ≡ 56 = ap length laid.ensures ∙ written_long c.args.scan.serial c.args.scan.bytes.now short in
    let below : c.loop-i.i < 14 = omega arith in
    record {
      size = length-set _ _ _ ∙ c.loop-i.invariant.size;
      front = word_laid c.loop-i.word-items laid.result c.loop-i.i _ c.loop-i.invariant.size long below c.loop-i.invariant.front (c.from_le_bytes.ensures ∙ omega arith);
    }

pub returns : goal.returns
returns c =
    let laid = c.laid_bytes-laid in
    let short : length c.args.scan.bytes.now ≤ 48 = omega arith in
    let long : length laid.result ≡ 56 = ap length laid.ensures ∙ written_long c.args.scan.serial c.args.scan.bytes.now short in
    all_words c.loop-i.word-items laid.result c.loop-i.i (omega arith) c.loop-i.invariant.size long c.loop-i.invariant.front ∙ ap words_of laid.ensures
