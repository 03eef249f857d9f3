-- How a message file is read: record by record, in three layers. `bytes` is what is left of the file at an offset.
use Rattle.std.specs.Prelude.{ℕ, zero, suc, ◌+◌, ◌-◌, ◌*◌, min, Bool, if◌then◌else◌, ◌&&◌, ◌||◌, List, [], ◌∷◌, ◌++◌, length, take, drop, replicate, Some, None, Ok, Err, Option, Result, ◌==◌, nat_le, nat_lt, slice_index}
use Rattle.std.specs.Borrow.{Bor}
use Rattle.std.specs.Option.{option_map}
use Rattle.std.specs.Result.{result_map_both}
use Rattle.wire.specs.declared.fault.Layer.TheVariants as ALayer
use Rattle.wire.specs.declared.fault.Refusal.{Refusal}
use Rattle.wire.specs.declared.fault.RecordFault.{RecordFault}
use Rattle.wire.specs.declared.fault.MessageFault.{MessageFault}
use Rattle.wire.specs.declared.fault.FileFault.{FileFault}
use Rattle.wire.specs.declared.message.Signature.{Signature}
use Rattle.wire.specs.declared.message.Message.{Message}
use Rattle.wire.specs.declared.item.Item.{Item as Held}
use Rattle.wire.specs.declared.item.Item.TheVariants as AnItem
use Rattle.wire.specs.declared.records.Records.{Records}
use Rattle.little_endian.specs.Bytes.{number}
use Rattle.wire.specs.Faults.{refused, record_refusal, message_refusal, file_refusal}
use Rattle.wire.specs.Format.{Item, message, comment}

-- THE RECORD LAYER

-- the length of the whole record, its kind and its body, as they are written
abbrev pub record_length : List ℕ → ℕ
record_length bytes = number (take 2 bytes)

abbrev pub record_kind : List ℕ → ℕ
record_kind bytes = number (take 2 (drop 2 bytes))

abbrev pub record_body : List ℕ → List ℕ
record_body bytes = take (record_length bytes - 4) (drop 4 bytes)

-- fewer than 4 bytes are left, or the length is below 4 or passes the end
abbrev pub bad_length : List ℕ → Bool
bad_length bytes = nat_lt (length bytes) 4 || (nat_lt (record_length bytes) 4 || nat_lt (length bytes) (record_length bytes))

unfoldable pub record_at : ℕ → List ℕ → Result (Option (Item (List ℕ))) Refusal
record_at offset bytes =
    if length bytes == 0 then Ok None
    else if bad_length bytes then Err (refused 1 offset ALayer.Record)
    else if record_kind bytes == 1 then Ok (Some (message (record_body bytes)))
    else if record_kind bytes == 2 then Ok (Some (comment (record_body bytes)))
    else Err (refused 2 offset ALayer.Record)

-- what an item of the code holds, where f says it of the message
abbrev pub content : {M N : Type 0} → (M → N) → Held M → Item N
content f (AnItem.Message m) = message (f m)
content f (AnItem.Comment text) = comment text.now

-- what the answer of a reader says, where `told` says it of a fault
abbrev pub item_answer : {M N F : Type 0} → (M → N) → (F → Refusal) → Result (Option (Held M)) F → Result (Option (Item N)) Refusal
item_answer f told r = result_map_both (option_map (content f)) told r

abbrev pub record_answer : Result (Option (Held (Bor (List ℕ)))) RecordFault → Result (Option (Item (List ℕ))) Refusal
record_answer = item_answer (λ body. body.now) record_refusal

-- THE MESSAGE LAYER

abbrev pub blank : Signature
blank = record { signer = 0; tag = 0 }

abbrev pub signature_from : List ℕ → Signature
signature_from bytes = record { signer = slice_index bytes 0; tag = number (take 8 (drop 1 bytes)) }

abbrev pub signatures_from : ℕ → List ℕ → List Signature
signatures_from zero bytes = []
signatures_from (suc k) bytes = signature_from bytes ∷ signatures_from k (drop 9 bytes)

-- the message that a body writes; places past its count are blank
unfoldable pub message_from : List ℕ → Message
message_from body = record {
  round = slice_index body 0;
  sender = slice_index body 1;
  receiver = slice_index body 2;
  count = slice_index body 3;
  value = number (take 8 (drop 4 body));
  signatures = signatures_from (slice_index body 3) (drop 12 body) ++ replicate (16 - slice_index body 3) blank;
}

-- the record has 16 bytes and more, at most 16 signatures, and as many bytes as they take
abbrev pub well_formed : List ℕ → Bool
well_formed body = nat_le 16 (4 + length body) && (nat_le (slice_index body 3) 16 && 4 + length body == 16 + 9 * slice_index body 3)

-- what the message layer makes of the record layer's answer
abbrev pub parsed : ℕ → Result (Option (Item (List ℕ))) Refusal → Result (Option (Item Message)) Refusal
parsed offset (Ok None) = Ok None
parsed offset (Ok (Some (message body))) = if well_formed body then Ok (Some (message (message_from body))) else Err (refused 3 offset ALayer.Message)
parsed offset (Ok (Some (comment text))) = Ok (Some (comment text))
parsed offset (Err refusal) = Err refusal

abbrev pub entry_at : ℕ → List ℕ → Result (Option (Item Message)) Refusal
entry_at offset bytes = parsed offset (record_at offset bytes)

abbrev pub entry_answer : Result (Option (Held Message)) MessageFault → Result (Option (Item Message)) Refusal
entry_answer = item_answer (λ m. m) message_refusal

-- what is left for a reader
abbrev pub records_left : Records → List ℕ
records_left s = drop s.offset s.file.now

-- what a reader is to give next
abbrev pub next_record : Records → Result (Option (Item (List ℕ))) Refusal
next_record s = record_at s.offset (records_left s)

abbrev pub next_entry : Records → Result (Option (Item Message)) Refusal
next_entry s = entry_at s.offset (records_left s)

-- where a reader stands after an answer: past the record, if one was read
abbrev pub passed : {X R : Type 0} → Records → Result (Option X) R → ℕ
passed s (Ok None) = s.offset
passed s (Ok (Some x)) = s.offset + record_length (records_left s)
passed s (Err refusal) = s.offset

-- THE FILE LAYER

abbrev pub with_first : Message → Result (List Message) Refusal → Result (List Message) Refusal
with_first m r = result_map_both (λ ms. m ∷ ms) (λ refusal. refusal) r

-- one entry, and then the rest of the file; a message for which no place is left is refused
abbrev pub onward : ℕ → ℕ → Result (Option (Item Message)) Refusal → (ℕ → Result (List Message) Refusal) → Result (List Message) Refusal
onward places offset (Ok None) rest = Ok []
onward places offset (Ok (Some (message m))) rest = if places == 0 then Err (refused 4 offset ALayer.File) else with_first m (rest (places - 1))
onward places offset (Ok (Some (comment text))) rest = rest places
onward places offset (Err refusal) rest = Err refusal

-- what becomes of the messages that are left once the next was taken, with the offset of its record
abbrev pub taken : ℕ → Result (Option (ℕ × Message)) MessageFault → (ℕ → Result (List Message) Refusal) → Result (List Message) Refusal
taken places (Ok None) rest = Ok []
taken places (Ok (Some (offset, m))) rest = onward places offset (Ok (Some (message m))) rest
taken places (Err fault) rest = Err (message_refusal fault)

-- the messages of what is left, of at most `turns` records
unfoldable pub messages_within : ℕ → ℕ → ℕ → List ℕ → Result (List Message) Refusal
messages_within zero places offset bytes = Ok []
messages_within (suc turns) places offset bytes =
    onward places offset (entry_at offset bytes) (λ left. messages_within turns left (offset + record_length bytes) (drop (record_length bytes) bytes))

-- the messages of what is left, with so many places for them: there are no more records than bytes
abbrev pub messages_at : ℕ → ℕ → List ℕ → Result (List Message) Refusal
messages_at places offset bytes = messages_within (length bytes) places offset bytes

-- the messages that are left for a reader
abbrev pub messages_left : ℕ → Records → Result (List Message) Refusal
messages_left places s = messages_at places s.offset (records_left s)

-- how many messages are taken into a table of so many places
abbrev pub room : ℕ → ℕ
room places = min places 128

-- the messages of a file, for a table of so many places
unfoldable pub reading : List ℕ → ℕ → Result (List Message) Refusal
reading file places = if nat_lt 32768 (length file) then Err (refused 4 32768 ALayer.File) else messages_at (room places) 0 file

-- what the file layer's answer says: how many messages were read
abbrev pub file_answer : Result ℕ FileFault → Result ℕ Refusal
file_answer r = result_map_both (λ count. count) file_refusal r

abbrev pub counted : ℕ → Result (List Message) Refusal → Result ℕ Refusal
counted before r = result_map_both (λ ms. before + length ms) (λ refusal. refusal) r

-- the table afterwards: the messages first, the later places as they were; all of it as it was on a refusal
abbrev pub filled : List Message → Result (List Message) Refusal → List Message
filled table (Ok ms) = ms ++ drop (length ms) table
filled table (Err refusal) = table
