-- What is written is read back, record by record.
use Rattle.std.proofs.Common.{◌≡◌, ℕ, ◌+◌, ◌-◌, ◌*◌, ◌<◌, ◌≤◌, true, List, [], ◌∷◌, ◌++◌, length, take, drop, Some, Ok, sym, refl, ap, ◌∙◌, arith}
use Rattle.std.specs.List.{flat_map, AllByRecursion}
use Rattle.std.proofs.lemmas.List.{length-append, length-take, take_at, drop_at}
use Rattle.std.proofs.lemmas.Bool.{and_from, le-leb, eq-eqb, cond-true}
use Rattle.wire.specs.declared.message.Signature.{Signature}
use Rattle.wire.specs.declared.message.Message.{Message}
use Rattle.little_endian.specs.Bytes.{little, number}
use Rattle.wire.specs.Format.{message, comment, meaning, chain, signature_bytes, body_bytes, record_bytes, message_bytes, comment_bytes}
use Rattle.wire.specs.Reading.{record_length, record_kind, record_body, parsed, entry_at, signatures_from, message_from, well_formed}
use Rattle.wire.specs.Laws.{SizedSignature, Sized}
use Rattle.little_endian.proofs.ByteLaws.{number-little}
use Rattle.wire.proofs.RecordLaws.{record_message, record_comment}
use Rattle.wire.proofs.SignatureLaws.{chain_from}
use Rattle.wire.proofs.WritingLaws.{length-signature_bytes}

-- a written record, whatever follows it
module _ (kind : ℕ) (body rest : List ℕ) (fits : 4 + length body < 65536) where
  pub read_length : record_length (record_bytes kind body ++ rest) ≡ 4 + length body
  read_length = number-little 2 (4 + length body) fits

  pub read_kind : kind < 65536 → record_kind (record_bytes kind body ++ rest) ≡ kind
  read_kind h = number-little 2 kind h

  pub read_body : record_body (record_bytes kind body ++ rest) ≡ body
  read_body =
      let size : record_length (record_bytes kind body ++ rest) - 4 ≡ length body = omega (arith, read_length) in
      ap (λ n. take n (body ++ rest)) size ∙ take_at body rest (length body) refl

  pub read_rest : drop (record_length (record_bytes kind body ++ rest)) (record_bytes kind body ++ rest) ≡ rest
  read_rest = ap (λ n. drop n (record_bytes kind body ++ rest)) read_length ∙ drop_at (record_bytes kind body) rest (4 + length body) (omega arith)

  header : 4 ≤ length (record_bytes kind body ++ rest)
  header = omega arith

  long : 4 ≤ record_length (record_bytes kind body ++ rest)
  long = omega (arith, read_length)

  within : record_length (record_bytes kind body ++ rest) ≤ length (record_bytes kind body ++ rest)
  within = omega (arith, read_length, length-append body rest)

pub read_comment : (offset : ℕ) (text rest : List ℕ) → length text < 65532 → entry_at offset (comment_bytes text ++ rest) ≡ Ok (Some (comment text))
read_comment offset text rest h =
    let fits : 4 + length text < 65536 = omega arith in
    let at = sym (record_comment offset (comment_bytes text ++ rest) (header 2 text rest fits) (long 2 text rest fits) (within 2 text rest fits) (read_kind 2 text rest fits (omega arith))) in
    ap (parsed offset) (at ∙ ap (λ b. Ok (Some (comment b))) (read_body 2 text rest fits))

-- the signatures of a chain
pub read_signatures : (ss : List Signature) → AllByRecursion SizedSignature ss → signatures_from (length ss) (flat_map signature_bytes ss) ≡ ss
read_signatures [] h = refl
read_signatures (s ∷ ss) (h, hs) =
    let tag : number (little 8 s.tag) ≡ s.tag = number-little 8 s.tag h.1 in
    (λ i. record { signer = s.signer; tag = tag i } ∷ read_signatures ss hs i)

pub chain_short : (m : Message) → length (chain m) ≤ 16
chain_short m = simp length-take (omega arith)

pub body_well_formed : (m : Message) → well_formed (body_bytes m) ≡ true
body_well_formed m =
    let size : length (body_bytes m) ≡ 12 + 9 * length (chain m) = omega (arith, length-signature_bytes (chain m)) in
    and_from _ _ (le-leb _ _ (omega arith)) (and_from _ _ (le-leb _ _ (chain_short m)) (eq-eqb _ _ (omega arith)))

-- the message as it is read back
abbrev pub read_back : Message → Message
read_back m = message_from (body_bytes m)

pub read_back_means : (m : Message) → Sized m → meaning (read_back m) ≡ meaning m
unfolding message_from
read_back_means m sized =
    let signed : chain (read_back m) ≡ chain m = chain_from (body_bytes m) (chain_short m) ∙ read_signatures (chain m) sized.signed in
    λ i. record { round = m.round; sender = m.sender; receiver = m.receiver; value = number-little 8 m.value sized.value i; chain = signed i }

pub read_message : (offset : ℕ) (m : Message) (rest : List ℕ) → entry_at offset (message_bytes m ++ rest) ≡ Ok (Some (message (read_back m)))
read_message offset m rest =
    let body = body_bytes m in
    let size : 4 + length body < 65536 = omega (arith, length-signature_bytes (chain m), chain_short m) in
    let at = sym (record_message offset (message_bytes m ++ rest) (header 1 body rest size) (long 1 body rest size) (within 1 body rest size) (read_kind 1 body rest size (omega arith))) in
    ap (parsed offset) (at ∙ ap (λ b. Ok (Some (message b))) (read_body 1 body rest size)) ∙ cond-true _ _ _ (body_well_formed m)
