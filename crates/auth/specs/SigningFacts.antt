-- What a signing leaves of the lists.
use Rattle.std.specs.Prelude.{◌≡◌, ℕ, ◌<◌, true, cond, List, [], ◌∷◌, length, ◌==◌, ◌≢◌}
use Rattle.std.proofs.Common.{arith}
use Rattle.std.proofs.lemmas.Grind.{common_steps, get_or-set_at}
use Rattle.std.proofs.lemmas.List.{get_or-set_other, set_past}
use Rattle.std.proofs.lemmas.List.Folds.{list_any-append}
use Rattle.std.proofs.lemmas.Bool.{cases_Bool, cases_eq, cases_lt}
use Rattle.std.proofs.lemmas.Bool.Decides.{nat_tests}
use Rattle.auth.specs.Lists.{has}
use Rattle.auth.specs.Signing.{signed_by, takes, may_sign, with_value, after_signing}

-- a list that a value joined has that value, and what it had
pub has_joined : (values : List ℕ) (value : ℕ) → has (with_value values value) value ≡ true
has_joined values value = let e = list_any-append (λ y. y == value) values (value ∷ []) in grind (arith, nat_tests, cases_Bool (has values value))

has_still : (values : List ℕ) (value other : ℕ) → has values value ≡ true → has (with_value values other) value ≡ true
has_still values value other h = let e = list_any-append (λ y. y == value) values (other ∷ []) in grind (arith, nat_tests, cases_Bool (has values other))

module _ (lists : List (List ℕ)) where
  pub length-after_signing : (node value : ℕ) → length (after_signing lists node value) ≡ length lists
  length-after_signing node value = grind (arith, common_steps, cases_Bool (may_sign lists node value))

  pub may_is : (node value : ℕ) → node < 16 → may_sign lists node value ≡ takes (signed_by lists node) value
  may_is node value h = grind (arith, nat_tests)

  -- a signing changes no other list
  pub other_list : (signer other node : ℕ) → (node ≢ signer) → signed_by (after_signing lists signer other) node ≡ signed_by lists node
  other_list signer other node n = grind (arith, common_steps, cases_Bool (may_sign lists signer other))

  -- and the signer's own as the value is taken
  pub own_list : (node value : ℕ) → node < length lists → signed_by (after_signing lists node value) node ≡ cond (may_sign lists node value) (with_value (signed_by lists node) value) (signed_by lists node)
  own_list node value h = grind (arith, common_steps, cases_Bool (may_sign lists node value))

  -- what a node has signed, it has signed whatever is signed next
  pub signed_lasts : (node value : ℕ) → has (signed_by lists node) value ≡ true → (signer other : ℕ) → has (signed_by (after_signing lists signer other) node) value ≡ true
  signed_lasts node value h signer other =
      let still = has_still (signed_by lists node) value other h in
      grind (arith, get_or-set_at, get_or-set_other, set_past, cases_eq node signer, cases_lt node (length lists), cases_Bool (may_sign lists signer other))

  module _ (places : length lists ≡ 16) where
    -- a request is granted exactly if the value is in the list afterwards
    pub granted : (node value : ℕ) → may_sign lists node value ≡ has (signed_by (after_signing lists node value) node) value
    granted node value =
        let joined = has_joined (signed_by lists node) value in
        grind (arith, nat_tests, common_steps, own_list, cases_lt node 16, cases_Bool (may_sign lists node value))
