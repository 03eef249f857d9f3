use Rattle.std.proofs.Common.{rules, ◌≡◌, ℕ, ◌+◌, ◌*◌, [], ◌∷◌, length, get_or, Ok, Err, sym, ap, ◌∙◌, arith}
use lib.Seq.{paste}
use Rattle.std.proofs.lemmas.Bool.{le-leb, lt-leb, cond-true, cond-false}
use Rattle.std.specs.List.{flat_map}
use Rattle.std.proofs.lemmas.List.{take_all}
use Rattle.std.proofs.lemmas.List.Edits.{length-paste}
use Rattle.wire.specs.Writing.{writing, written}
use Rattle.wire.specs.Format.{message_bytes, signature_bytes}
use Rattle.little_endian.proofs.ByteLaws.{little_eight}
use Rattle.wire.proofs.WholeFileLaws.{law_read_back}
use Rattle.wire.proofs.WritingLaws.{length-message_bytes, message_put, signatures_written}
use Rattle.wire.proofs.writing.write_message.Goals as goal
use Rattle.wire.proofs.writing.write_message.Goals.{After-put-4}

pub returns-then-buffer-length : goal.returns-then-buffer-length
returns-then-buffer-length c =
    let m = c.args.message.now in
    let size = length-message_bytes m c.chain-chain.result.now c.chain-chain.ensures in
    let short = lt-leb (length (message_bytes m)) (length c.args.buffer.now) (omega arith) in
    let told = ap (λ n. Err (record { number = 5; needed = n })) size ∙ sym (cond-false _ _ _ short) in
    let left = sym (cond-false _ _ _ short) in
    record { answer = told; buffer = left; read_back = law_read_back m _ _ _ told left }

-- the buffer before its signatures is as long as it was
room : (c : After-put-4) → length c.put-4.new.self.buffer.now ≡ length c.args.buffer.now
room c = omega (arith, length-paste {A = ℕ}, ap length c.put.ensures.buffer, ap length c.put-2.ensures.buffer, ap length c.put-3.ensures.buffer, ap length c.put-4.ensures.buffer)

pub loop-signature-preserved : goal.loop-signature-preserved
loop-signature-preserved c =
    let w = c.loop-signature.invariant in
    let told = c.put_signature.ensures in
    let size = room (goal.at.loop-signature-preserved c).After-put-4 in
    record {
      written = omega (arith, told.written, w.written);
      buffer = signatures_written c.put-4.new.self.buffer.now c.loop-signature.writer.buffer.now _ c.chain-chain.result.now c.loop-signature.signature-index _ _ c.loop-signature-test.true (omega arith) w.buffer told.buffer w.written;
      size = ap length told.buffer ∙ length-paste c.loop-signature.writer.buffer.now c.loop-signature.writer.written (signature_bytes (get_or c.chain-chain.result.now c.loop-signature.signature-index _)) 9 (omega (arith, w.written)) (omega arith) ∙ w.size;
      same_buffer = told.same_buffer ∙ w.same_buffer;
    }

pub returns : goal.returns
returns c =
    let m = c.args.message.now in
    let d = c.args.buffer.now in
    let cs = c.chain-chain.result.now in
    let w = c.loop-signature.invariant in
    let size = length-message_bytes m cs c.chain-chain.ensures in
    let fits = le-leb (length (message_bytes m)) (length d) (omega arith) in
    let told : Ok (16 + 9 * length cs) ≡ writing m d = ap Ok size ∙ sym (cond-true _ _ _ fits) in
    let all : c.loop-signature.signature-index ≡ length cs = omega arith in
    let signed = w.buffer ∙ (λ k. paste c.put-4.new.self.buffer.now 16 (flat_map signature_bytes (take_all c.loop-signature.signature-index cs c.loop-signature-test.false k)) (9 * all k)) in
    let value = c.to_le_bytes-3.ensures ∙ little_eight m.value in
    let second : c.put.new.self.written ≡ 2 = omega (arith, ap length c.to_le_bytes.ensures) in
    let third : c.put-2.new.self.written ≡ 4 = omega (arith, ap length c.to_le_bytes-2.ensures) in
    let fourth : c.put-3.new.self.written ≡ 8 = omega arith in
    let put = message_put m cs d _ _ _ _ c.loop-signature.writer.buffer.now c.chain-chain.ensures (omega arith)
    (c.put.ensures.buffer ∙ ap (λ bs. paste d 0 bs (length bs)) c.to_le_bytes.ensures)
    (c.put-2.ensures.buffer ∙ (λ k. paste c.put.new.self.buffer.now (second k) (c.to_le_bytes-2.ensures k) (length (c.to_le_bytes-2.ensures k))))
    (c.put-3.ensures.buffer ∙ ap (λ at. paste c.put-2.new.self.buffer.now at (m.round ∷ m.sender ∷ m.receiver ∷ length cs ∷ []) 4) third)
    (c.put-4.ensures.buffer ∙ (λ k. paste c.put-3.new.self.buffer.now (fourth k) (value k) (length (value k))))
    signed in
    let left : c.loop-signature.writer.buffer.now ≡ written m d = put ∙ sym (cond-true _ _ _ fits) in
    record { answer = told; buffer = search rules; read_back = law_read_back m d _ _ told (search rules) }
