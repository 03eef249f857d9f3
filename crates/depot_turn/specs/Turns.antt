-- One turn from a message file: the file's messages and then the broadcast, or the file's refusal.
use Rattle.std.specs.Prelude.{ℕ, List, Result, MatchResult}
use Rattle.std.specs.Result.{result_map_both}
use Rattle.wire.specs.declared.fault.FileFault.{FileFault}
use Rattle.wire.specs.declared.fault.Refusal.{Refusal}
use Rattle.wire.specs.declared.message.Message.{Message}
use Rattle.wire.specs.Faults.{file_refusal}

-- what an answer says: the outcomes, or the refusal
abbrev pub turn_answer : Result (List ℕ) FileFault → Result (List ℕ) Refusal
turn_answer = result_map_both (λ outcomes. outcomes) file_refusal

-- the outcomes, given what the messages of the file lead to
abbrev pub turn_from : (List Message → List ℕ) → Result (List Message) Refusal → Result (List ℕ) Refusal
turn_from outcomes = result_map_both outcomes (λ refusal. refusal)

-- what the broadcast is left as, given what the messages leave it as; it is unchanged where the file is refused
abbrev pub TurnLeaves : (List Message → Type 0) → Type 0 → Result (List Message) Refusal → Type 0
TurnLeaves leaves unchanged messages = MatchResult messages leaves (λ _. unchanged)
