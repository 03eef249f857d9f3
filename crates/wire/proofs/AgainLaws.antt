-- What is read is a message or a comment as it is written, record by record.
use Rattle.std.proofs.Common.{◌≡◌, ℕ, zero, suc, ◌+◌, ◌-◌, ◌*◌, ◌<◌, ◌≤◌, true, List, [], ◌∷◌, ◌++◌, length, get_or, take, drop, Some, None, Ok, sym, ap, ◌∙◌, subst, append_assoc, arith}
use Rattle.std.specs.List.{flat_map, AllByRecursion}
use Rattle.std.proofs.lemmas.List.{length-append, length-take, length-drop, take-append-drop, drop-drop, nil_from_length}
use Rattle.std.proofs.lemmas.Bool.Decides.{nat_tests}
use Rattle.wire.specs.declared.message.Message.{Message}
use Rattle.little_endian.specs.Bytes.{Octets, little}
use Rattle.wire.specs.Format.{Item, message, comment, chain, signature_bytes, body_bytes, record_bytes, message_bytes, comment_bytes, item_bytes}
use Rattle.wire.specs.Reading.{record_at, record_length, record_kind, record_body, signatures_from, message_from, well_formed}
use Rattle.wire.specs.Laws.{SizedSignature, Sized, Writable}
use Rattle.little_endian.proofs.ByteLaws.{little_first, first_below, octet_at, Octets-take, Octets-drop}
use Rattle.wire.proofs.FileLaws.{Lies}
use Rattle.wire.proofs.SignatureLaws.{length-signatures, chain_from}

-- bytes in four parts: two, two, n and the rest
four_parts : (bytes : List ℕ) (n : ℕ) → take 2 bytes ++ (take 2 (drop 2 bytes) ++ take n (drop 4 bytes)) ++ drop (4 + n) bytes ≡ bytes
four_parts bytes n =
    let last : take n (drop 4 bytes) ++ drop (4 + n) bytes ≡ drop 4 bytes = ap (λ t. take n (drop 4 bytes) ++ t) (sym (drop-drop n 4 bytes)) ∙ take-append-drop n (drop 4 bytes) in
    let later : take 2 (drop 2 bytes) ++ drop 4 bytes ≡ drop 2 bytes = ap (λ t. take 2 (drop 2 bytes) ++ t) (sym (drop-drop 2 2 bytes)) ∙ take-append-drop 2 (drop 2 bytes) in
    append_assoc (take 2 bytes) _ _ ∙ ap (λ t. take 2 bytes ++ t) (append_assoc (take 2 (drop 2 bytes)) _ _ ∙ ap (λ t. take 2 (drop 2 bytes) ++ t) last ∙ later) ∙ take-append-drop 2 bytes

-- a record that was read is a record as it is written
record_again : (bytes : List ℕ) → Octets bytes → Lies bytes → record_bytes (record_kind bytes) (record_body bytes) ++ drop (record_length bytes) bytes ≡ bytes
record_again bytes o (least, most) =
    let n = record_length bytes - 4 in
    let size : 4 + length (record_body bytes) ≡ record_length bytes = simp (length-take, length-drop) (omega arith) in
    let whole : record_length bytes ≡ 4 + n = omega arith in
    (λ i. (little 2 (size i) ++ (little_first 2 (drop 2 bytes) (simp length-drop (omega arith)) (Octets-drop 2 bytes o) i ++ record_body bytes)) ++ drop (whole i) bytes)
    ∙ ap (λ t. t ++ (take 2 (drop 2 bytes) ++ record_body bytes) ++ drop (4 + n) bytes) (little_first 2 bytes (omega arith) o) ∙ four_parts bytes n

signatures_again : (k : ℕ) (bytes : List ℕ) → length bytes ≡ 9 * k → Octets bytes → flat_map signature_bytes (signatures_from k bytes) ≡ bytes
signatures_again zero bytes h o = sym (nil_from_length bytes (omega arith))
signatures_again (suc k) [] h o = absurd (omega arith)
signatures_again (suc k) (b ∷ bytes) h (_, o) =
    let rest : length (drop 8 bytes) ≡ 9 * k = simp length-drop (omega arith) in
    ap (λ t. b ∷ t) ((λ i. little_first 8 bytes (omega arith) o i ++ signatures_again k (drop 8 bytes) rest (Octets-drop 8 bytes o) i) ∙ take-append-drop 8 bytes)

-- what is known of the body of a message
pub record Formed (body : List ℕ) : Type 0 where
  pub long : 12 ≤ length body
  pub few : get_or body 3 0 ≤ 16
  pub size : length body ≡ 12 + 9 * get_or body 3 0

pub formed : (body : List ℕ) → well_formed body ≡ true → Formed body
formed body w = record { long = grind (arith, nat_tests); few = grind (arith, nat_tests); size = grind (arith, nat_tests) }

body_again : (body : List ℕ) → Octets body → Formed body → body_bytes (message_from body) ≡ body
unfolding message_from
body_again [] o w = absurd (omega arith)
body_again (_ ∷ []) o w = absurd (omega arith)
body_again (_ ∷ _ ∷ []) o w = absurd (omega arith)
body_again (_ ∷ _ ∷ _ ∷ []) o w = absurd (omega arith)
body_again (r ∷ s ∷ t ∷ c ∷ more) octets w =
    let o = octets.1.1.1.1 in
    let rest : length (drop 8 more) ≡ 9 * c = simp length-drop (omega arith) in
    let signed : chain (message_from (r ∷ s ∷ t ∷ c ∷ more)) ≡ signatures_from c (drop 8 more) = chain_from (r ∷ s ∷ t ∷ c ∷ more) w.few in
    (λ i. r ∷ s ∷ t ∷ length (signed i) ∷ (little_first 8 more (omega arith) o i ++ flat_map signature_bytes (signed i)))
    ∙ (λ i. r ∷ s ∷ t ∷ length-signatures c (drop 8 more) i ∷ (take 8 more ++ signatures_again c (drop 8 more) rest (Octets-drop 8 more o) i)) ∙ ap (λ bs. r ∷ s ∷ t ∷ c ∷ bs) (take-append-drop 8 more)

-- what a record that was read says of the bytes
pub read_message_bytes : (offset : ℕ) (bytes body : List ℕ) → record_at offset bytes ≡ Ok (Some (message body)) → Lies bytes × (record_kind bytes ≡ 1) × (record_body bytes ≡ body)
unfolding record_at
read_message_bytes offset bytes body e = ((grind (arith, nat_tests), grind (arith, nat_tests)), grind (arith, nat_tests), grind (arith, nat_tests))

pub read_comment_bytes : (offset : ℕ) (bytes text : List ℕ) → record_at offset bytes ≡ Ok (Some (comment text)) → Lies bytes × (record_kind bytes ≡ 2) × (record_body bytes ≡ text)
unfolding record_at
read_comment_bytes offset bytes text e = ((grind (arith, nat_tests), grind (arith, nat_tests)), grind (arith, nat_tests), grind (arith, nat_tests))

pub read_none_bytes : (offset : ℕ) (bytes : List ℕ) → record_at offset bytes ≡ Ok None → length bytes ≡ 0
unfolding record_at
read_none_bytes offset bytes e = grind (arith, nat_tests)

sized_signatures : (k : ℕ) (bytes : List ℕ) → length bytes ≡ 9 * k → Octets bytes → AllByRecursion SizedSignature (signatures_from k bytes)
sized_signatures zero bytes h o = tt
sized_signatures (suc k) bytes h o =
    let tag = first_below 8 (drop 1 bytes) (Octets-drop 1 bytes o) in
    let rest : length (drop 9 bytes) ≡ 9 * k = simp length-drop (omega arith) in
    ((octet_at bytes 0 (omega arith) o, tag), sized_signatures k (drop 9 bytes) rest (Octets-drop 9 bytes o))

sized_body : (body : List ℕ) → Octets body → Formed body → Sized (message_from body)
unfolding message_from
sized_body body o w =
    let c = get_or body 3 0 in
    let rest : length (drop 12 body) ≡ 9 * c = simp length-drop (omega arith) in
    record {
      round = octet_at body 0 (omega arith) o;
      sender = octet_at body 1 (omega arith) o;
      receiver = octet_at body 2 (omega arith) o;
      value = first_below 8 (drop 4 body) (Octets-drop 4 body o);
      signed = subst (AllByRecursion SizedSignature) (sym (chain_from body w.few)) (sized_signatures c (drop 12 body) rest (Octets-drop 12 body o));
    }

-- the bytes begin with the item, written, and what is left comes after it
pub record Begins (bytes : List ℕ) (item : Item Message) : Type 0 where
  pub writable : Writable item
  pub split : bytes ≡ item_bytes item ++ drop (record_length bytes) bytes
  pub size : record_length bytes ≡ length (item_bytes item)

size_of : (bytes : List ℕ) (item : Item Message) → Lies bytes → bytes ≡ item_bytes item ++ drop (record_length bytes) bytes → record_length bytes ≡ length (item_bytes item)
size_of bytes item (least, most) split =
    let whole : length bytes ≡ length (item_bytes item) + (length bytes - record_length bytes) = ap length split ∙ simp (length-append, length-drop) in
    omega arith

pub begins_comment : (offset : ℕ) (bytes text : List ℕ) → Octets bytes → record_at offset bytes ≡ Ok (Some (comment text)) → Begins bytes (comment text)
begins_comment offset bytes text o e =
    let (lies, kind, body) = read_comment_bytes offset bytes text e in
    let split : bytes ≡ comment_bytes text ++ drop (record_length bytes) bytes = sym (record_again bytes o lies) ∙ (λ i. record_bytes (kind i) (body i) ++ drop (record_length bytes) bytes) in
    let below : record_length bytes < 65536 = first_below 2 bytes o in
    record { writable = omega (arith, size_of bytes (comment text) lies split); split = split; size = size_of bytes (comment text) lies split }

pub begins_message : (offset : ℕ) (bytes body : List ℕ) → Octets bytes → record_at offset bytes ≡ Ok (Some (message body)) → well_formed body ≡ true → Begins bytes (message (message_from body))
begins_message offset bytes body o e w =
    let (lies, kind, same) = read_message_bytes offset bytes body e in
    let octets = subst Octets same (Octets-take (record_length bytes - 4) (drop 4 bytes) (Octets-drop 4 bytes o)) in
    let parts = formed body w in
    let split : bytes ≡ message_bytes (message_from body) ++ drop (record_length bytes) bytes =
    sym (record_again bytes o lies) ∙ (λ i. record_bytes (kind i) (same i) ++ drop (record_length bytes) bytes) ∙ ap (λ b. record_bytes 1 b ++ drop (record_length bytes) bytes) (sym (body_again body octets parts)) in
    record { writable = sized_body body octets parts; split = split; size = size_of bytes (message (message_from body)) lies split }
