-- Whole files: what is written is read, what is read was written, and a refusal names the first record at fault.
use Rattle.std.proofs.Common.{◌≡◌, ℕ, zero, suc, ◌+◌, ◌-◌, ◌<◌, ◌≤◌, Bool, true, false, cond, eqb, leb, ◌⊎◌, List, [], ◌∷◌, ◌++◌, map, length, take, drop, Some, None, Ok, Err, Option, Result, sym, refl, ap, ◌∙◌, subst, inl, inr, ⊎_elim, append_assoc, append-nil, zero-add, arith}
use Rattle.std.specs.List.{AllByRecursion}
use Rattle.std.proofs.lemmas.List.{length-append, length-drop, length-map, take_at, nil_from_length}
use Rattle.std.proofs.lemmas.Bool.{cases_lt, eqb-true, eqb-false, cond_both, cond-false}
use Rattle.wire.specs.declared.fault.FileFault.{FileFault}
use Rattle.wire.specs.declared.fault.Layer.TheVariants as ALayer
use Rattle.wire.specs.declared.fault.Refusal.{Refusal}
use Rattle.wire.specs.declared.fault.ShortBuffer.{ShortBuffer}
use Rattle.wire.specs.declared.message.Message.{Message}
use Rattle.little_endian.specs.Bytes.{Octets}
use Rattle.wire.specs.Faults.{refused}
use Rattle.wire.specs.Format.{Item, message, comment, meaning, chain, body_bytes, message_bytes, comment_bytes, item_bytes, file_bytes}
use Rattle.wire.specs.Reading.{bad_length, record_at, record_length, record_kind, parsed, entry_at, message_from, well_formed, with_first, onward, messages_within, messages_at, room, reading, file_answer, counted, filled}
use Rattle.wire.specs.Laws.{Writable, messages_of, WrittenIsRead, ReadIsWritten, Unreadable, Overfull, FirstFault, ReadBack}
use Rattle.wire.specs.Writing.{Shortage, writing, written, write_answer}
use Rattle.little_endian.proofs.ByteLaws.{Octets-drop}
use Rattle.wire.proofs.FileLaws.{Lies, at_end, at_comment, at_message, reading_large, reading_small}
use Rattle.wire.proofs.FormatLaws.{read_rest, read_comment, read_message, read_back, read_back_means, chain_short}
use Rattle.wire.proofs.RecordLaws.{record_none}
use Rattle.wire.proofs.WritingLaws.{length-signature_bytes}
use Rattle.wire.proofs.AgainLaws.{read_message_bytes, read_comment_bytes, read_none_bytes, begins_comment, begins_message}

message_fits : (m : Message) → 4 + length (body_bytes m) < 65536
message_fits m = omega (arith, length-signature_bytes (chain m), chain_short m)

-- the messages of a file that was written
read_all : (items : List (Item Message)) (room offset : ℕ) → AllByRecursion Writable items → length (messages_of items) ≤ room → messages_at room offset (file_bytes items) ≡ Ok (map read_back (messages_of items))
read_all [] room offset w h = at_end room offset [] (ap (parsed offset) (sym (record_none offset [] refl)))
read_all (message m ∷ items) room offset w h =
    let bytes = message_bytes m ++ file_bytes items in
    at_message room offset bytes (read_back m) (read_message offset m (file_bytes items)) (omega arith)
    ∙ ap (with_first (read_back m)) (ap (messages_at (room - 1) (offset + record_length bytes)) (read_rest 1 (body_bytes m) (file_bytes items) (message_fits m)) ∙ read_all items (room - 1) (offset + record_length bytes) w.1 (omega arith))
read_all (comment text ∷ items) room offset w h =
    let bytes = comment_bytes text ++ file_bytes items in
    let fits : 4 + length text < 65536 = omega (arith, w.0) in
    at_comment room offset bytes text (read_comment offset text (file_bytes items) w.0)
    ∙ ap (messages_at room (offset + record_length bytes)) (read_rest 2 text (file_bytes items) fits) ∙ read_all items room (offset + record_length bytes) w.1 h

meanings : (items : List (Item Message)) → AllByRecursion Writable items → map meaning (map read_back (messages_of items)) ≡ map meaning (messages_of items)
meanings [] w = refl
meanings (message m ∷ items) w = λ i. read_back_means m w.0 i ∷ meanings items w.1 i
meanings (comment text ∷ items) w = meanings items w.1

-- how far a file was read: items up to its end, or up to a refusal
abbrev Ends : ℕ → ℕ → List (Item Message) → List ℕ → Result (List Message) Refusal → Type 0
Ends places offset items rest (Ok ms) = (rest ≡ []) × (messages_of items ≡ ms)
Ends places offset items rest (Err refusal) = (refusal.offset ≡ offset + length (file_bytes items)) × (((refusal.number < 4) × Unreadable rest) ⊎ ((refusal.number ≡ 4) × Overfull places items rest))

pub record Cut (places offset : ℕ) (bytes : List ℕ) (r : Result (List Message) Refusal) : Type 0 where
  pub items : List (Item Message)
  pub rest : List ℕ
  pub writable : AllByRecursion Writable items
  pub split : bytes ≡ file_bytes items ++ rest
  pub ends : Ends places offset items rest r

-- nothing more is read
cut_here : (places offset : ℕ) (bytes : List ℕ) (r : Result (List Message) Refusal) → Ends places offset [] bytes r → Cut places offset bytes r
cut_here places offset bytes r ends = record { items = []; rest = bytes; writable = tt; split = refl; ends = ends }

joined_split : (bytes first later more rest : List ℕ) → bytes ≡ first ++ later → later ≡ more ++ rest → bytes ≡ (first ++ more) ++ rest
joined_split bytes first later more rest e f = e ∙ ap (λ t. first ++ t) f ∙ sym (append_assoc first more rest)

comment_ends : (places offset : ℕ) (text : List ℕ) (items : List (Item Message)) (rest : List ℕ) (r : Result (List Message) Refusal) → Ends places (offset + length (comment_bytes text)) items rest r → Ends places offset (comment text ∷ items) rest r
comment_ends places offset text items rest (Ok ms) ends = ends
comment_ends places offset text items rest (Err refusal) (at, cause) = (at ∙ omega (arith, length-append (comment_bytes text) (file_bytes items)), cause)

message_ends : (places offset : ℕ) (m : Message) (items : List (Item Message)) (rest : List ℕ) (r : Result (List Message) Refusal) → Ends places (offset + length (message_bytes m)) items rest r → Ends (places + 1) offset (message m ∷ items) rest (with_first m r)
message_ends places offset m items rest (Ok ms) (none, holds) = (none, ap (λ ms. m ∷ ms) holds)
message_ends places offset m items rest (Err refusal) (at, cause) =
    (at ∙ omega (arith, length-append (message_bytes m) (file_bytes items)), ⊎_elim inl (λ full. let (m', later, sized, begins, all) = full.1 in inr (full.0, (m', later, sized, begins, omega arith))) cause)

-- what is refused is no message and no comment
unreadable : (offset : ℕ) (bytes : List ℕ) (refusal : Refusal) → 0 < length bytes → entry_at offset bytes ≡ Err refusal → Unreadable bytes
unreadable offset bytes refusal some e = (some, no_item)
  where
    no_item : (item : Item Message) (later : List ℕ) → Writable item → bytes ≡ item_bytes item ++ later → ⊥
    no_item (message m) later w is = cc (read_message offset m later)
    no_item (comment text) later w is = cc (read_comment offset text later w)

-- the record layer's refusal is 1 or 2 at the record's offset, and there are bytes left
abbrev Blames : ℕ → List ℕ → Result (Option (Item (List ℕ))) Refusal → Type 0
Blames offset bytes (Ok found) = Unit {0}
Blames offset bytes (Err refusal) = (refusal.offset ≡ offset + 0) × (refusal.number < 4) × (0 < length bytes)

blames : (offset : ℕ) (bytes : List ℕ) → Blames offset bytes (record_at offset bytes)
unfolding record_at
blames offset bytes =
    cond_both (eqb (length bytes) 0) _ _ (Blames offset bytes) (λ e. tt) (λ e.
    let some : 0 < length bytes = omega (arith, eqb-false (length bytes) 0 e) in
    cond_both (bad_length bytes) _ _ (Blames offset bytes) (λ _. (omega arith, omega arith, some)) (λ _.
    cond_both (eqb (record_kind bytes) 1) _ _ (Blames offset bytes) (λ _. tt) (λ _.
    cond_both (eqb (record_kind bytes) 2) _ _ (Blames offset bytes) (λ _. tt) (λ _. (omega arith, omega arith, some)))))

-- one record, if the rest is cut
module _ (offset : ℕ) (bytes : List ℕ) (o : Octets bytes) (rest : ℕ → Result (List Message) Refusal) (later : (n : ℕ) → Lies bytes → Cut n (offset + record_length bytes) (drop (record_length bytes) bytes) (rest n)) where
  cut_comment : (places : ℕ) (text : List ℕ) → record_at offset bytes ≡ Ok (Some (comment text)) → Cut places offset bytes (rest places)
  cut_comment places text e =
      let b = begins_comment offset bytes text o e in
      let c = later places (read_comment_bytes offset bytes text e).0 in
      record {
        items = comment text ∷ c.items;
        rest = c.rest;
        writable = (b.writable, c.writable);
        split = joined_split bytes (comment_bytes text) _ (file_bytes c.items) c.rest b.split c.split;
        ends = comment_ends places offset text c.items c.rest (rest places) (subst (λ n. Ends places (offset + n) c.items c.rest (rest places)) b.size c.ends);
      }

  module _ (body : List ℕ) (e : record_at offset bytes ≡ Ok (Some (message body))) where
    cut_placed : (places : ℕ) (full : Bool) → well_formed body ≡ true → eqb places 0 ≡ full → Cut places offset bytes (cond full (Err (refused 4 offset ALayer.File)) (with_first (message_from body) (rest (places - 1))))
    cut_placed places true w is =
        let b = begins_message offset bytes body o e w in
        cut_here places offset bytes _ (omega arith, inr (refl, (message_from body, drop (record_length bytes) bytes, b.writable, b.split, sym (eqb-true places 0 is))))
    cut_placed places false w is =
        let b = begins_message offset bytes body o e w in
        let c = later (places - 1) (read_message_bytes offset bytes body e).0 in
        let m = message_from body in
        let some : places - 1 + 1 ≡ places = omega (arith, eqb-false places 0 is) in
        record {
          items = message m ∷ c.items;
          rest = c.rest;
          writable = (b.writable, c.writable);
          split = joined_split bytes (message_bytes m) _ (file_bytes c.items) c.rest b.split c.split;
          ends = subst (λ n. Ends n offset (message m ∷ c.items) c.rest (with_first m (rest (places - 1)))) some
              (message_ends (places - 1) offset m c.items c.rest (rest (places - 1)) (subst (λ n. Ends (places - 1) (offset + n) c.items c.rest (rest (places - 1))) b.size c.ends));
        }

    cut_message : (places : ℕ) (formed : Bool) → well_formed body ≡ formed → Cut places offset bytes (onward places offset (cond formed (Ok (Some (message (message_from body)))) (Err (refused 3 offset ALayer.Message))) rest)
    cut_message places true w = cut_placed places (eqb places 0) w refl
    cut_message places false w =
        let lies = (read_message_bytes offset bytes body e).0 in
        let refused-here = ap (parsed offset) e ∙ cond-false (well_formed body) _ _ w in
        cut_here places offset bytes _ (omega arith, inl (omega arith, unreadable offset bytes _ (omega (arith, lies.0, lies.1)) refused-here))

  cut_onward : (places : ℕ) (r : Result (Option (Item (List ℕ))) Refusal) → record_at offset bytes ≡ r → Cut places offset bytes (onward places offset (parsed offset r) rest)
  cut_onward places (Ok None) e = cut_here places offset bytes _ (nil_from_length bytes (read_none_bytes offset bytes e), refl)
  cut_onward places (Ok (Some (comment text))) e = cut_comment places text e
  cut_onward places (Ok (Some (message body))) e = cut_message body e places (well_formed body) refl
  cut_onward places (Err refusal) e =
      let (at, low, some) = subst (Blames offset bytes) e (blames offset bytes) in
      cut_here places offset bytes _ (at, inl (low, unreadable offset bytes refusal some (ap (parsed offset) e)))

cut_within : (turns places offset : ℕ) (bytes : List ℕ) → length bytes ≤ turns → Octets bytes → Cut places offset bytes (messages_within turns places offset bytes)
unfolding messages_within
cut_within zero places offset bytes h o = cut_here places offset bytes _ (nil_from_length bytes (omega arith), refl)
cut_within (suc turns) places offset bytes h o =
    cut_onward offset bytes o _ (λ n lies. cut_within turns n (offset + record_length bytes) (drop (record_length bytes) bytes) (simp length-drop (omega (arith, lies.0))) (Octets-drop (record_length bytes) bytes o)) places (record_at offset bytes) refl

-- a file that is not too large, and what was read of it
cut_file : (file : List ℕ) (places : ℕ) → Octets file → length file ≤ 32768 → Cut (room places) 0 file (reading file places)
cut_file file places o small = subst (Cut (room places) 0 file) (sym (reading_small file places small)) (cut_within (length file) (room places) 0 file (omega arith) o)

-- what was written is read
pub written_is_read : (file : List ℕ) (places : ℕ) (items : List (Item Message)) → AllByRecursion Writable items → file ≡ file_bytes items → length file ≤ 32768 → length (messages_of items) ≤ room places → reading file places ≡ Ok (map read_back (messages_of items))
written_is_read file places items w is small few = reading_small file places small ∙ ap (messages_at (room places) 0) is ∙ read_all items (room places) 0 w few

count_is : (r : Result ℕ FileFault) (n : ℕ) → file_answer r ≡ Ok n → r ≡ Ok n
count_is (Ok m) n e = cc
count_is (Err fault) n e = cc

counted_is : (r : Result (List Message) Refusal) (n : ℕ) → counted 0 r ≡ Ok n → (ms : List Message) × (r ≡ Ok ms) × (n ≡ length ms)
counted_is (Ok ms) n e = (ms, refl, grind arith)
counted_is (Err refusal) n e = cc

counted_refused : (r : Result (List Message) Refusal) (refusal : Refusal) → counted 0 r ≡ Err refusal → r ≡ Err refusal
counted_refused (Ok ms) refusal e = cc
counted_refused (Err refusal') refusal e = cc

-- a file that is read is not too large
small_file : (file : List ℕ) (places : ℕ) (ms : List Message) → reading file places ≡ Ok ms → length file ≤ 32768
small_file file places ms got = ⊎_elim (λ large. let e = sym (reading_large file places large) ∙ got in cc) (λ small. small) (cases_lt 32768 (length file))

-- the laws of a call of the reader, from what it answers and what it leaves in the table
module _ (file : List ℕ) (before after : List Message) (answer : Result ℕ FileFault) (told : file_answer answer ≡ counted 0 (reading file (length before))) (left : after ≡ filled before (reading file (length before))) where
  law_written_is_read : WrittenIsRead file (length before) answer after
  law_written_is_read items w is small few fits =
      let n = length (messages_of items) in
      let got = written_is_read file (length before) items w is small (omega arith) in
      let count : length (map read_back (messages_of items)) ≡ n = length-map (messages_of items) read_back in (
        count_is answer n (told ∙ ap (counted 0) got ∙ ap Ok (omega (arith, count))),
        ap (λ t. map meaning (take n t)) (left ∙ ap (filled before) got) ∙ ap (map meaning) (take_at _ _ n count) ∙ meanings items w,
      )

  law_read_is_written : Octets file → ReadIsWritten file answer after
  law_read_is_written o count is =
      let (ms, got, size) = counted_is (reading file (length before)) count (sym told ∙ ap file_answer is) in
      let c = subst (Cut (room (length before)) 0 file) got (cut_file file (length before) o (small_file file (length before) ms got)) in
      (c.items, c.writable, c.split ∙ ap (λ t. file_bytes c.items ++ t) c.ends.0 ∙ append-nil _, c.ends.1 ∙ sym (ap (take count) (left ∙ ap (filled before) got) ∙ take_at ms _ count (sym size)))

  law_first_fault : Octets file → FirstFault file (length before) answer
  law_first_fault o refusal is small =
      let got = counted_refused (reading file (length before)) refusal (sym told ∙ is) in
      let c = subst (Cut (room (length before)) 0 file) got (cut_file file (length before) o small) in
      (c.items, c.rest, c.writable, c.split, c.ends.0 ∙ zero-add _, c.ends.1)

-- all that the reader promises
pub lawful : (file : List ℕ) (before after : List Message) (r : Result ℕ FileFault) → file_answer r ≡ counted 0 (reading file (length before)) → after ≡ filled before (reading file (length before)) → Octets file → record {
  answer : file_answer r ≡ counted 0 (reading file (length before));
  table : after ≡ filled before (reading file (length before));
  written_is_read : WrittenIsRead file (length before) r after;
  read_is_written : ReadIsWritten file r after;
  first_fault : FirstFault file (length before) r;
}
lawful file before after r told left o = record {
  answer = told;
  table = left;
  written_is_read = law_written_is_read file before after r told left;
  read_is_written = law_read_is_written file before after r told left o;
  first_fault = law_first_fault file before after r told left o;
}

written_whole : (m : Message) (buffer : List ℕ) (n : ℕ) → writing m buffer ≡ Ok n → (n ≡ length (message_bytes m)) × (written m buffer ≡ message_bytes m ++ drop (length (message_bytes m)) buffer)
written_whole m buffer n e = whole (leb (length (message_bytes m)) (length buffer)) e
  where
    whole : (fits : Bool) → cond {A = Result ℕ Shortage} fits (Ok (length (message_bytes m))) (Err (record { number = 5; needed = length (message_bytes m) })) ≡ Ok n → (n ≡ length (message_bytes m)) × (cond fits (message_bytes m ++ drop (length (message_bytes m)) buffer) buffer ≡ message_bytes m ++ drop (length (message_bytes m)) buffer)
    whole true e = (cc, refl)
    whole false e = cc

-- the law of a call of the writer, from what it answers and what it leaves in the buffer
pub law_read_back : (m : Message) (before after : List ℕ) (answer : Result ℕ ShortBuffer) → write_answer answer ≡ writing m before → after ≡ written m before → ReadBack m answer after
law_read_back m before after answer told left n is sized =
    let (size, bytes) = written_whole m before n (sym told ∙ ap write_answer is) in
    let file : take n after ≡ file_bytes (message m ∷ []) = ap (take n) (left ∙ bytes) ∙ take_at (message_bytes m) _ n (sym size) ∙ sym (append-nil (message_bytes m)) in
    let small : length (take n after) ≤ 32768 = omega (arith, ap length file, length-append (message_bytes m) [], length-signature_bytes (chain m), chain_short m) in
    (read_back m, written_is_read (take n after) 1 (message m ∷ []) (sized, tt) file small (omega arith), read_back_means m sized)
