use Rattle.std.proofs.Common.{◌≡◌, drop, map}
use Rattle.std.proofs.lemmas.List.Edits.{sets}
use Rattle.wire.specs.Reading.{signature_from}
use Rattle.wire.proofs.message_body.MessageBody.signatures.Given as goal

abbrev pub invariant-loop-place : goal.invariant-loop-place
invariant-loop-place l = sets l.signatures l.place (map signature_from (drop l.place l.chunks)) ≡ sets l.initial.signatures 0 (map signature_from l.chunks)
