-- What a turn's signings come to: a law over whole runs of requests.
use Rattle.std.specs.Prelude.{◌≡◌, ℕ, ◌<◌, List, [], ◌∷◌, ◌++◌, length, take, ◌==◌, if◌then◌else◌}
use Rattle.auth.specs.Lists.{has}
use Rattle.auth.specs.Signing.{signed_by, none_signed, may_sign, after_signing}

-- a node is asked to sign a value
pub record Request : Type 0 where
  pub node : ℕ
  pub value : ℕ

-- the lists after one request and the other
abbrev pub after_all : List (List ℕ) → List Request → List (List ℕ)
after_all lists [] = lists
after_all lists (q ∷ qs) = after_all (after_signing lists q.node q.value) qs

-- what a node is asked to sign, in order
abbrev pub asked_of : ℕ → List Request → List ℕ
asked_of node [] = []
asked_of node (q ∷ qs) = if q.node == node then q.value ∷ asked_of node qs else asked_of node qs

-- the values that are not among those seen, each once, in the order in which they first come
abbrev pub new_values : List ℕ → List ℕ → List ℕ
new_values seen [] = []
new_values seen (v ∷ vs) = if has seen v then new_values seen vs else v ∷ new_values (seen ++ v ∷ []) vs

pub record SigningLaws : Type 0 where
  -- whatever is asked of whom in a turn, a node's list has the first two different values that it was asked to sign
  pub first_two : (qs : List Request) (node : ℕ) → node < 16 → signed_by (after_all none_signed qs) node ≡ take 2 (new_values [] (asked_of node qs))
  -- and a request is granted exactly if the value is in the list afterwards
  pub granted : (lists : List (List ℕ)) (node value : ℕ) → length lists ≡ 16 → may_sign lists node value ≡ has (signed_by (after_signing lists node value) node) value
