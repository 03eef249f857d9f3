use Rattle.std.proofs.Common.{get_or, take, ap, ◌∙◌}
use Rattle.little_endian.specs.Bytes.{number}
use Rattle.std.proofs.lemmas.List.{take_rest}
use Rattle.wire.specs.Reading.{message_from}
use Rattle.wire.proofs.message_body.MessageBody.message.Goals as goal

pub returns : goal.returns
unfolding message_from
returns c =
    let bytes = c.args.self.bytes.now in
    let value = c.read_u64.ensures ∙ ap (λ bs. number (take 8 bs)) (take_rest bytes 4) in
    λ i. record {
      round = get_or bytes 0 0;
      sender = get_or bytes 1 0;
      receiver = get_or bytes 2 0;
      count = get_or bytes 3 0;
      value = value i;
      signatures = c.signatures.ensures i;
    }
