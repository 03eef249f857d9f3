use Rattle.std.proofs.Common.{◌≡◌, ◌/◌, length, get_or, drop, map, replicate, sym, ap, ◌∙◌, arith}
use Rattle.std.specs.Simd.{first_chunks}
use Rattle.std.proofs.Math.ListN.{drop_of_length-le}
use Rattle.std.proofs.lemmas.List.{length-drop, take_rest}
use Rattle.std.proofs.lemmas.List.Edits.{sets}
use Rattle.wire.specs.Reading.{blank, signature_from}
use Rattle.wire.proofs.AgainLaws.{formed}
use Rattle.wire.proofs.SignatureLaws.{signatures_on, signatures_over}
use Rattle.wire.proofs.message_body.MessageBody.signatures.Goals as goal

pub loop-place-preserved : goal.loop-place-preserved
loop-place-preserved c =
    signatures_on c.loop-place.signatures c.as_chunks.result.0.now c.loop-place.place c.signature_in.result c.loop-place-test.true c.signature_in.ensures ∙ c.loop-place.invariant

pub returns : goal.returns
returns c =
    let body = c.args.self.bytes.now in
    let bytes = drop 12 body in
    let n = get_or body 3 0 in
    let parts = formed body c.args.self.well_formed in
    let count : length bytes / 9 ≡ n = omega (arith, length-drop 12 body) in
    let chunks : c.as_chunks.result.0.now ≡ first_chunks 9 n bytes = c.as_chunks.ensures.front ∙ ap (λ bs. first_chunks 9 (length bs / 9) bs) (take_rest body 12) ∙ ap (λ k. first_chunks 9 k bytes) count in
    let blanks : c.default-signatures.result ≡ blank = λ i. record { signer = c.default-signatures.ensures.0 i; tag = c.default-signatures.ensures.1 i } in
    ap (λ cs. sets c.loop-place.signatures c.loop-place.place (map signature_from cs)) (sym (drop_of_length-le c.as_chunks.result.0.now c.loop-place-test.false))
    ∙ c.loop-place.invariant
    ∙ ap (λ s. sets (replicate 16 s) 0 (map signature_from c.as_chunks.result.0.now)) blanks
    ∙ ap (λ cs. sets (replicate 16 blank) 0 (map signature_from cs)) chunks
    ∙ signatures_over n bytes parts.few
