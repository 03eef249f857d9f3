-- What a table holds while messages are put into it.
use Rattle.std.proofs.Common.{◌≡◌, ℕ, zero, suc, ◌-◌, ◌<◌, ◌≤◌, eqb, List, ◌++◌, length, drop, Some, None, Ok, Err, Option, Result, refl, ap, ◌∙◌, zero-add, arith}
use Rattle.std.proofs.lemmas.List.Edits.{sets, sets-eq}
use Rattle.std.proofs.lemmas.List.{nil_from_length}
use Rattle.std.proofs.lemmas.Bool.{cond_both, eqb-false}
use Rattle.wire.specs.declared.fault.Refusal.{Refusal}
use Rattle.wire.specs.declared.message.Message.{Message}
use Rattle.wire.specs.Format.{Item, message, comment}
use Rattle.wire.specs.Reading.{entry_at, onward, messages_within, with_first, filled}

-- the messages put one after the other from place n on
abbrev pub laid : List Message → ℕ → Result (List Message) Refusal → List Message
laid table n (Ok ms) = sets table n ms
laid table n (Err refusal) = table

-- at most so many messages
abbrev pub AtMost : ℕ → Result (List Message) Refusal → Type 0
AtMost n (Ok ms) = length ms ≤ n
AtMost n (Err refusal) = Unit {0}

pub laid_all : (table : List Message) (r : Result (List Message) Refusal) → AtMost (length table) r → laid table 0 r ≡ filled table r
laid_all table (Ok ms) h = sets-eq ms table 0 (omega arith) ∙ ap (λ n. ms ++ drop n table) (zero-add (length ms))
laid_all table (Err refusal) h = refl

-- no message more than there is room for
pub laid_full : (table : List Message) (n : ℕ) (r : Result (List Message) Refusal) → AtMost 0 r → laid table n r ≡ table
laid_full table n (Ok ms) h = ap (sets table n) (nil_from_length ms (omega arith))
laid_full table n (Err refusal) h = refl

within_more : (n : ℕ) (m : Message) (r : Result (List Message) Refusal) → 0 < n → AtMost (n - 1) r → AtMost n (with_first m r)
within_more n m (Ok ms) some h = omega arith
within_more n m (Err refusal) some h = tt

few_onward : (room offset : ℕ) (e : Result (Option (Item Message)) Refusal) (rest : ℕ → Result (List Message) Refusal) → ((n : ℕ) → AtMost n (rest n)) → AtMost room (onward room offset e rest)
few_onward room offset (Ok None) rest h = omega arith
few_onward room offset (Ok (Some (message m))) rest h = cond_both (eqb room 0) _ _ (AtMost room) (λ e. tt) (λ e. within_more room m (rest (room - 1)) (omega (arith, eqb-false room 0 e)) (h (room - 1)))
few_onward room offset (Ok (Some (comment text))) rest h = h room
few_onward room offset (Err refusal) rest h = tt

-- no more messages are read than there is room for
pub few : (turns room offset : ℕ) (bytes : List ℕ) → AtMost room (messages_within turns room offset bytes)
unfolding messages_within
few zero room offset bytes = omega arith
few (suc turns) room offset bytes = few_onward room offset (entry_at offset bytes) _ (λ n. few turns n _ _)

pub at_most_more : (n n' : ℕ) (r : Result (List Message) Refusal) → n ≤ n' → AtMost n r → AtMost n' r
at_most_more n n' (Ok ms) le h = omega arith
at_most_more n n' (Err refusal) le h = tt
