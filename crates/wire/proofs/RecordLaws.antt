-- The record layer, case by case.
use Rattle.std.proofs.Common.{◌≡◌, ℕ, suc, ◌+◌, ◌*◌, ◌/◌, ◌<◌, ◌≤◌, ◌⊎◌, List, [], ◌∷◌, length, get_or, Some, None, Ok, Err, sym, subst, arith}
use Rattle.std.specs.Simd.{first_chunks}
use Rattle.std.proofs.lemmas.Bool.Decides.{nat_tests}
use Rattle.wire.specs.declared.fault.Layer.TheVariants as ALayer
use Rattle.wire.specs.Faults.{refused}
use Rattle.wire.specs.Format.{message, comment}
use Rattle.wire.specs.Reading.{record_at, record_length, record_kind, record_body}

module _ (offset : ℕ) (bytes : List ℕ) where
  pub record_none : length bytes ≡ 0 → Ok None ≡ record_at offset bytes
  unfolding record_at
  record_none e = grind (arith, nat_tests)

  pub record_bad_length : 0 < length bytes → (length bytes < 4) ⊎ ((record_length bytes < 4) ⊎ (length bytes < record_length bytes)) → Err (refused 1 offset ALayer.Record) ≡ record_at offset bytes
  unfolding record_at
  record_bad_length some e = grind (arith, nat_tests)

  module _ (header : 4 ≤ length bytes) (long : 4 ≤ record_length bytes) (within : record_length bytes ≤ length bytes) where
    pub record_message : record_kind bytes ≡ 1 → Ok (Some (message (record_body bytes))) ≡ record_at offset bytes
    unfolding record_at
    record_message e = grind (arith, nat_tests)

    pub record_comment : record_kind bytes ≡ 2 → Ok (Some (comment (record_body bytes))) ≡ record_at offset bytes
    unfolding record_at
    record_comment e = grind (arith, nat_tests)

    pub record_bad_kind : (record_kind bytes ≡ 1 → ⊥) → (record_kind bytes ≡ 2 → ⊥) → Err (refused 2 offset ALayer.Record) ≡ record_at offset bytes
    unfolding record_at
    record_bad_kind one two = grind (arith, nat_tests)

-- the two numbers that a record begins with, taken as pairs of bytes
pub record HeaderInPairs (pairs : List (List ℕ)) (bytes : List ℕ) : Type 0 where
  pub length : get_or (get_or pairs 0 []) 0 0 + get_or (get_or pairs 0 []) 1 0 * 256 ≡ record_length bytes
  pub kind : get_or (get_or pairs 1 []) 0 0 + get_or (get_or pairs 1 []) 1 0 * 256 ≡ record_kind bytes

header_in_first_pairs : (n : ℕ) (bytes : List ℕ) → 2 ≤ n → 4 ≤ length bytes → HeaderInPairs (first_chunks 2 n bytes) bytes
header_in_first_pairs (suc (suc n)) (a ∷ b ∷ c ∷ d ∷ bytes) h k = record { length = omega arith; kind = omega arith }
header_in_first_pairs _ _ h k = absurd (omega arith)

pub header_in_pairs : (pairs : List (List ℕ)) (bytes : List ℕ) → pairs ≡ first_chunks 2 (length bytes / 2) bytes → 4 ≤ length bytes → HeaderInPairs pairs bytes
header_in_pairs pairs bytes e h = subst (λ ps. HeaderInPairs ps bytes) (sym e) (header_in_first_pairs (length bytes / 2) bytes (omega arith) h)
