-- Reading and writing undo each other, and a refusal names the first record at fault: laws over whole files,
-- which say nothing of layers or of the order in which a record is looked at.
use Rattle.std.specs.Prelude.{◌≡◌, ℕ, ◌^◌, ◌<◌, ◌≤◌, min, ◌⊎◌, List, [], ◌∷◌, ◌++◌, map, length, take, Ok, Err, Result, ◌≢◌}
use Rattle.std.specs.List.{AllByRecursion}
use Rattle.wire.specs.declared.fault.FileFault.{FileFault}
use Rattle.wire.specs.declared.fault.Refusal.{Refusal}
use Rattle.wire.specs.declared.fault.ShortBuffer.{ShortBuffer}
use Rattle.wire.specs.declared.message.Signature.{Signature}
use Rattle.wire.specs.declared.message.Message.{Message}
use Rattle.wire.specs.Format.{Item, message, comment, chain, meaning, message_bytes, item_bytes, file_bytes}
use Rattle.wire.specs.Reading.{file_answer, reading}

-- the signer and the tag fit their bytes
abbrev pub SizedSignature : Signature → Type 0
SizedSignature s = (s.signer < 256) × (s.tag < 2 ^ 64)

-- each field fits its bytes, as it does in every message that the code can hold
pub record Sized (m : Message) : Type 0 where
  pub round : m.round < 256
  pub sender : m.sender < 256
  pub receiver : m.receiver < 256
  pub value : m.value < 2 ^ 64
  pub signed : AllByRecursion SizedSignature (chain m)

-- a record can hold it: its length fits two bytes
abbrev pub Writable : Item Message → Type 0
Writable (message m) = Sized m
Writable (comment text) = length text < 65532

-- the messages among the items, in their order
abbrev pub messages_of : List (Item Message) → List Message
messages_of [] = []
messages_of (message m ∷ items) = m ∷ messages_of items
messages_of (comment text ∷ items) = messages_of items

-- A file that is made of written messages and comments, and is not too large for reader or table,
-- gives those messages in their order, each with the meaning that it had.
abbrev pub WrittenIsRead : List ℕ → ℕ → Result ℕ FileFault → List Message → Type 0
WrittenIsRead file places answer table =
    (items : List (Item Message)) → AllByRecursion Writable items → file ≡ file_bytes items → length file ≤ 32768 → length (messages_of items) ≤ 128 → length (messages_of items) ≤ places →
    (answer ≡ Ok (length (messages_of items))) × (map meaning (take (length (messages_of items)) table) ≡ map meaning (messages_of items))

-- A file that is read is nothing but the messages that it gave, written again, with comments between them.
abbrev pub ReadIsWritten : List ℕ → Result ℕ FileFault → List Message → Type 0
ReadIsWritten file answer table =
    (count : ℕ) → answer ≡ Ok count → (items : List (Item Message)) × AllByRecursion Writable items × (file ≡ file_bytes items) × (messages_of items ≡ take count table)

-- bytes that no message and no comment begins
abbrev pub Unreadable : List ℕ → Type 0
Unreadable bytes = (0 < length bytes) × ((item : Item Message) (later : List ℕ) → Writable item → bytes ≢ item_bytes item ++ later)

-- bytes that a message begins, after items with as many messages as there are places
abbrev pub Overfull : ℕ → List (Item Message) → List ℕ → Type 0
Overfull places items bytes = (m : Message) × (later : List ℕ) × Sized m × (bytes ≡ message_bytes m ++ later) × (length (messages_of items) ≡ places)

-- A file that is refused, and is not too large, begins with messages and comments up to the offset of the refusal.
-- What comes then is unreadable, or, at a refusal of 4, a message for which no place is left.
abbrev pub FirstFault : List ℕ → ℕ → Result ℕ FileFault → Type 0
FirstFault file places answer =
    (refusal : Refusal) → file_answer answer ≡ Err refusal → length file ≤ 32768 →
    (items : List (Item Message)) × (rest : List ℕ) × AllByRecursion Writable items × (file ≡ file_bytes items ++ rest) × (refusal.offset ≡ length (file_bytes items))
    × (((refusal.number < 4) × Unreadable rest) ⊎ ((refusal.number ≡ 4) × Overfull (min places 128) items rest))

-- The bytes that were written, taken for a file, give one message, with the meaning of the one that was written.
abbrev pub ReadBack : Message → Result ℕ ShortBuffer → List ℕ → Type 0
ReadBack m answer buffer = (n : ℕ) → answer ≡ Ok n → Sized m → (again : Message) × (reading (take n buffer) 1 ≡ Ok (again ∷ [])) × (meaning again ≡ meaning m)
