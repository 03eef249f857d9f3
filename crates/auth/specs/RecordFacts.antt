-- A turn's record, list by list.
use Rattle.std.specs.Prelude.{◌≡◌, ℕ, ◌≤◌, length, slice_index_or}
use Rattle.std.proofs.Common.{sym, subst, ◌∙◌, arith}
use Rattle.std.proofs.Math.ListN.{get_or-map}
use Rattle.std.proofs.lemmas.List.{length-map}
use Rattle.auth.specs.declared.turn_record.SignedValues.{SignedValues}
use Rattle.auth.specs.declared.turn_record.SignedValues.TheVariants.{Nothing, One, Two}
use Rattle.auth.specs.declared.turn_record.TurnRecord.{TurnRecord}
use Rattle.auth.specs.Recorded.{values, lists}
use Rattle.auth.specs.Signing.{signed_by}

few : (signed : SignedValues) → length (values signed) ≤ 2
few Nothing = omega arith
few (One first) = omega arith
few (Two first second) = omega arith

module _ (r : TurnRecord) where
  pub length-lists : length (lists r) ≡ 16
  length-lists = length-map r.each values ∙ r.placed

  pub few_are_signed : (node : ℕ) → length (signed_by (lists r) node) ≤ 2
  few_are_signed node = subst (λ vs. length vs ≤ 2) (sym (get_or-map values r.each node Nothing)) (few (slice_index_or r.each node Nothing))
