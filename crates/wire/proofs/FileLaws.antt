-- The file layer, one record at a time.
use Rattle.std.proofs.Common.{◌≡◌, ℕ, zero, suc, ◌+◌, ◌-◌, ◌<◌, ◌≤◌, cond, eqb, List, [], length, drop, Some, None, Ok, Err, Option, Result, sym, refl, ap, ◌∙◌, arith}
use Rattle.std.proofs.lemmas.List.{drop-drop, length-drop}
use Rattle.std.proofs.lemmas.Bool.{cond-true, cond-false, ne_eqb, lt-ltb, le-ltb}
use Rattle.std.proofs.lemmas.Bool.Decides.{nat_tests}
use Rattle.wire.specs.declared.fault.Layer.TheVariants as ALayer
use Rattle.wire.specs.declared.fault.MessageFault.{MessageFault}
use Rattle.wire.specs.declared.fault.Refusal.{Refusal}
use Rattle.wire.specs.declared.message.Message.{Message}
use Rattle.wire.specs.Faults.{refused}
use Rattle.wire.specs.Format.{Item, message, comment}
use Rattle.wire.specs.Reading.{record_at, record_length, parsed, entry_at, onward, with_first, messages_within, messages_at, messages_left, records_left, next_entry, counted, filled, passed, entry_answer, content, room, reading}
use Rattle.wire.specs.declared.item.Item.{Item as Held}
use Rattle.wire.specs.declared.records.Records.{Records}
use Rattle.wire.proofs.RecordLaws.{record_none}

-- a record that was read has 4 bytes and more, and does not pass the end
abbrev pub Lies : List ℕ → Type 0
Lies bytes = (4 ≤ record_length bytes) × (record_length bytes ≤ length bytes)

record_lies : (offset : ℕ) (bytes : List ℕ) (x : Item (List ℕ)) → record_at offset bytes ≡ Ok (Some x) → Lies bytes
unfolding record_at
record_lies offset bytes x e = (grind (arith, nat_tests), grind (arith, nat_tests))

parsed_some : (offset : ℕ) (r : Result (Option (Item (List ℕ))) Refusal) (x : Item Message) → parsed offset r ≡ Ok (Some x) → (y : Item (List ℕ)) × (r ≡ Ok (Some y))
parsed_some offset (Ok None) x e = cc
parsed_some offset (Ok (Some y)) x e = (y, refl)
parsed_some offset (Err refusal) x e = cc

pub entry_lies : (offset : ℕ) (bytes : List ℕ) (x : Item Message) → entry_at offset bytes ≡ Ok (Some x) → Lies bytes
entry_lies offset bytes x e = let (y, is) = parsed_some offset (record_at offset bytes) x e in record_lies offset bytes y is

onward_same : (room offset : ℕ) (e : Result (Option (Item Message)) Refusal) (rest rest' : ℕ → Result (List Message) Refusal) → ((x : Item Message) → e ≡ Ok (Some x) → (n : ℕ) → rest n ≡ rest' n) → onward room offset e rest ≡ onward room offset e rest'
onward_same room offset (Ok None) rest rest' same = refl
onward_same room offset (Ok (Some (message m))) rest rest' same = ap (λ r. cond (eqb room 0) (Err (refused 4 offset ALayer.File)) (with_first m r)) (same (message m) refl (room - 1))
onward_same room offset (Ok (Some (comment text))) rest rest' same = same (comment text) refl room
onward_same room offset (Err refusal) rest rest' same = refl

none_left : (turns room offset : ℕ) (bytes : List ℕ) → length bytes ≡ 0 → messages_within turns room offset bytes ≡ Ok []
unfolding messages_within
none_left zero room offset bytes e = refl
none_left (suc turns) room offset bytes e =
    ap (λ r. onward room offset (parsed offset r) (λ left. messages_within turns left (offset + record_length bytes) (drop (record_length bytes) bytes))) (sym (record_none offset bytes e))

-- more turns than there are bytes change nothing
enough : (turns turns' room offset : ℕ) (bytes : List ℕ) → length bytes ≤ turns → length bytes ≤ turns' → messages_within turns room offset bytes ≡ messages_within turns' room offset bytes
unfolding messages_within
enough zero turns' room offset bytes h h' = sym (none_left turns' room offset bytes (omega arith))
enough (suc turns) zero room offset bytes h h' = none_left (suc turns) room offset bytes (omega arith)
enough (suc turns) (suc turns') room offset bytes h h' =
    onward_same room offset (entry_at offset bytes) _ _ (λ x e n.
    let lies = entry_lies offset bytes x e in
    enough turns turns' n (offset + record_length bytes) (drop (record_length bytes) bytes) (simp length-drop (omega arith)) (simp length-drop (omega arith)))

-- one record, and then the messages of what is left after it
module _ (room offset : ℕ) (bytes : List ℕ) where
  abbrev after : ℕ → Result (List Message) Refusal
  after left = messages_at left (offset + record_length bytes) (drop (record_length bytes) bytes)

  step : messages_at room offset bytes ≡ onward room offset (entry_at offset bytes) after
  unfolding messages_within
  step = enough (length bytes) (suc (length bytes)) room offset bytes (omega arith) (omega arith)
      ∙ onward_same room offset (entry_at offset bytes) _ _ (λ x e n.
      let lies = entry_lies offset bytes x e in
      enough (length bytes) (length (drop (record_length bytes) bytes)) n (offset + record_length bytes) (drop (record_length bytes) bytes) (simp length-drop (omega arith)) (omega arith))

  pub at_end : entry_at offset bytes ≡ Ok None → messages_at room offset bytes ≡ Ok []
  at_end e = step ∙ ap (λ r. onward room offset r after) e

  pub at_fault : (refusal : Refusal) → entry_at offset bytes ≡ Err refusal → messages_at room offset bytes ≡ Err refusal
  at_fault refusal e = step ∙ ap (λ r. onward room offset r after) e

  pub at_comment : (text : List ℕ) → entry_at offset bytes ≡ Ok (Some (comment text)) → messages_at room offset bytes ≡ messages_at room (offset + record_length bytes) (drop (record_length bytes) bytes)
  at_comment text e = step ∙ ap (λ r. onward room offset r after) e

  pub at_message : (m : Message) → entry_at offset bytes ≡ Ok (Some (message m)) → 0 < room → messages_at room offset bytes ≡ with_first m (messages_at (room - 1) (offset + record_length bytes) (drop (record_length bytes) bytes))
  at_message m e some = step ∙ ap (λ r. onward room offset r after) e ∙ cond-false _ _ _ (ne_eqb room 0 (λ z. omega arith))

-- what is known of a reader of entries that has given an item
module _ (s s' : Records) (r : Result (Option (Held Message)) MessageFault) (item : Held Message) (was : r ≡ Ok (Some item)) (answer : entry_answer r ≡ next_entry s) (on : s'.offset ≡ passed s r) (same : s'.file.now ≡ s.file.now) where
  read : next_entry s ≡ Ok (Some (content (λ m. m) item))
  read = sym answer ∙ ap entry_answer was

  left_after : drop (record_length (records_left s)) (records_left s) ≡ records_left s'
  left_after = drop-drop (record_length (records_left s)) s.offset s.file.now ∙ (λ i. drop (sym (on ∙ ap (passed s) was) i) (sym same i))

  pub falls : length (records_left s') < length (records_left s)
  falls = let (least, most) = entry_lies s.offset (records_left s) _ read in omega (arith, length-drop (record_length (records_left s)) (records_left s), ap length left_after)

  pub past : (places : ℕ) → messages_left places s ≡ onward places s.offset (Ok (Some (content (λ m. m) item))) (λ left. messages_left left s')
  past places =
      step places s.offset (records_left s) ∙ ap (λ e. onward places s.offset e (after places s.offset (records_left s))) read
      ∙ onward_same places s.offset (Ok (Some (content (λ m. m) item))) _ _ (λ _ _ left i. messages_at left (sym (on ∙ ap (passed s) was) i) (left_after i))

pub reading_large : (file : List ℕ) (places : ℕ) → 32768 < length file → reading file places ≡ Err (refused 4 32768 ALayer.File)
unfolding reading
reading_large file places h = cond-true _ _ _ (lt-ltb 32768 (length file) h)

pub reading_small : (file : List ℕ) (places : ℕ) → length file ≤ 32768 → reading file places ≡ messages_at (room places) 0 file
unfolding reading
reading_small file places h = cond-false _ _ _ (le-ltb 32768 (length file) h)

pub counted_small : (file : List ℕ) (places most : ℕ) → length file ≤ 32768 → most ≡ room places → counted 0 (messages_at most 0 file) ≡ counted 0 (reading file places)
counted_small file places most h is = ap (λ n. counted 0 (messages_at n 0 file)) is ∙ sym (ap (counted 0) (reading_small file places h))

-- a count that is refused is a reading that is refused
pub filled_refused : (table : List Message) (r : Result (List Message) Refusal) (refusal : Refusal) → Err refusal ≡ counted 0 r → filled table r ≡ table
filled_refused table (Ok ms) refusal e = cc
filled_refused table (Err refusal') refusal e = refl
