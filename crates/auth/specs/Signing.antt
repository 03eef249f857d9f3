-- Signing: what the nodes have signed in a turn, what a further request adds, which tags are valid, and which of them are forged.
use Rattle.std.specs.Prelude.{◌≡◌, ℕ, Bool, true, false, not, ◌&&◌, ◌||◌, List, [], ◌∷◌, ◌++◌, length, Ok, Err, Result, nat_lt, slice_index_or, slice_set, if◌then◌else◌}
use Rattle.refusals.specs.Numbers.{InRange}
use Rattle.std.specs.Result.{result_map_both}
use Rattle.std.proofs.Common.{lit≤}
use Rattle.auth.specs.declared.fault.SignFault.{SignFault}
use Rattle.auth.specs.declared.fault.SignFault.TheVariants.{NotAllowed}
use Rattle.auth.specs.declared.roster.Roster.{Roster}
use Rattle.auth.specs.Lists.{has}
use Rattle.auth.specs.Rosters.{honest}
use Rattle.auth.specs.Tables.{table}

-- the values that a node has signed; there is a list for each of sixteen nodes
abbrev pub signed_by : List (List ℕ) → ℕ → List ℕ
signed_by lists node = slice_index_or lists node []

-- at the beginning of a turn nobody has signed
abbrev pub none_signed : List (List ℕ)
none_signed = table (λ _. [])

-- a list takes a value that it has, and any value as long as it has fewer than two
abbrev pub takes : List ℕ → ℕ → Bool
takes values value = has values value || nat_lt (length values) 2

-- a node above 15 signs nothing, and another one what its list takes
abbrev pub may_sign : List (List ℕ) → ℕ → ℕ → Bool
may_sign lists node value = nat_lt node 16 && takes (signed_by lists node) value

-- a value joins a list unless it is there
abbrev pub with_value : List ℕ → ℕ → List ℕ
with_value values value = if has values value then values else values ++ value ∷ []

-- the lists once a node was asked to sign a value: where it may, the value joins its list; the other lists stay
abbrev pub after_signing : List (List ℕ) → ℕ → ℕ → List (List ℕ)
after_signing lists node value = if may_sign lists node value then slice_set lists node (with_value (signed_by lists node) value) else lists

-- the number of the refusal
abbrev pub sign_fault_number : SignFault → ℕ
sign_fault_number NotAllowed = 13

-- it is among 1 to 15
pub signing_number : (fault : SignFault) → InRange (sign_fault_number fault)
signing_number NotAllowed = (lit≤ tt, lit≤ tt)

-- an answer as it is told, but for the tag: the value is signed, or the refusal's number
abbrev pub sign_answer : {T : Type 0} → Result T SignFault → Result (Unit {0}) ℕ
sign_answer = result_map_both (λ _. tt) sign_fault_number

abbrev pub signing : List (List ℕ) → ℕ → ℕ → Result (Unit {0}) ℕ
signing lists node value = if may_sign lists node value then Ok tt else Err 13

-- a rule says which tags are valid: by the turn, the lists, the node, the value and the tag
abbrev pub Rule : Type 0
Rule = ℕ → List (List ℕ) → ℕ → ℕ → ℕ → Bool

-- a valid tag of an honest node, on a value that it has not signed
abbrev pub forged : Roster → Rule → ℕ → List (List ℕ) → ℕ → ℕ → ℕ → Bool
forged roster rule turn lists node value tag = honest roster node && rule turn lists node value tag && not (has (signed_by lists node) value)

-- no tag is ever forged, whatever was signed
abbrev pub Unforgeable : Roster → Rule → Type 0
Unforgeable roster rule = (turn : ℕ) (lists : List (List ℕ)) (node value tag : ℕ) → forged roster rule turn lists node value tag ≡ false

-- a valid tag stays valid, whatever is signed next
abbrev pub Lasting : Rule → Type 0
Lasting rule = (turn : ℕ) (lists : List (List ℕ)) (node value tag : ℕ) → rule turn lists node value tag ≡ true → (signer other : ℕ) → rule turn (after_signing lists signer other) node value tag ≡ true
