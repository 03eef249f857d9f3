use Rattle.std.proofs.Common.{[], ◌∷◌, length, refl, ap, ◌∙◌, arith}
use lib.Seq.{paste}
use Rattle.little_endian.specs.Bytes.{little}
use Rattle.little_endian.proofs.ByteLaws.{little_eight}
use Rattle.wire.proofs.WritingLaws.{wrote_more}
use Rattle.wire.proofs.writing.Writer.put_signature.Goals as goal

pub returns-clause-buffer : goal.returns-clause-buffer
returns-clause-buffer c =
    let s = c.args.signature.now in
    let tag = c.to_le_bytes.ensures ∙ little_eight s.tag in
    wrote_more c.args.self.now.buffer.now _ _ c.args.self.now.written 1 _ 8 (s.signer ∷ []) (little 8 s.tag) c.put.ensures.buffer (c.put-2.ensures.buffer ∙ ap (λ t. paste c.put.new.self.buffer.now c.put.new.self.written t (length t)) tag) c.put.ensures.written refl refl (omega arith)
