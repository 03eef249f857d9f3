-- A turn's requests, one after the other.
use Rattle.std.proofs.Common.{◌≡◌, ℕ, ◌<◌, ◌≤◌, cond, List, [], ◌∷◌, ◌++◌, length, take, sym, ap, ◌∙◌, ⊎_elim, append_assoc, append-nil, arith}
use Rattle.std.proofs.lemmas.Grind.{common_steps}
use Rattle.std.proofs.lemmas.List.{take_all, take-append-le}
use Rattle.std.proofs.lemmas.Bool.{cases_Bool, cases_eq, cases_lt}
use Rattle.std.proofs.lemmas.Bool.Decides.{nat_tests}
use Rattle.auth.specs.Lists.{has}
use Rattle.auth.specs.SigningLaws.{Request, after_all, asked_of, new_values}
use Rattle.auth.specs.Signing.{signed_by, takes, with_value, after_signing}
use Rattle.auth.specs.SigningFacts.{length-after_signing, may_is, other_list, own_list}

-- a list after a request
abbrev next : List ℕ → ℕ → List ℕ
next l v = cond (takes l v) (with_value l v) l

-- the first two of a list and of the new values after it
abbrev pub first_two_of : List ℕ → List ℕ → List ℕ
first_two_of l vs = take 2 (l ++ new_values l vs)

module _ (l : List ℕ) (v : ℕ) where
  next_few : length l ≤ 2 → length (next l v) ≤ 2
  next_few h = grind (arith, nat_tests, common_steps, cases_Bool (has l v), cases_lt (length l) 2)

  -- a request counts as the value that was asked for first
  next_first : (vs : List ℕ) → first_two_of (next l v) vs ≡ first_two_of l (v ∷ vs)
  next_first vs =
      ⊎_elim
      (λ room. grind (arith, nat_tests, append_assoc, cases_Bool (has l v)))
      (λ full. let kept : next l v ≡ l = grind (arith, nat_tests, cases_Bool (has l v)) in ap (λ k. first_two_of k vs) kept ∙ take-append-le 2 l _ full ∙ sym (take-append-le 2 l _ full))
      (cases_lt (length l) 2)

pub first_two_from : (qs : List Request) (lists : List (List ℕ)) (node : ℕ) → length lists ≡ 16 → node < 16 → length (signed_by lists node) ≤ 2 → signed_by (after_all lists qs) node ≡ first_two_of (signed_by lists node) (asked_of node qs)
first_two_from [] lists node places h few = sym (ap (take 2) (append-nil (signed_by lists node)) ∙ take_all 2 (signed_by lists node) few)
first_two_from (q ∷ qs) lists node places h few =
    let l = signed_by lists node in
    let after : List (List ℕ) = after_signing lists q.node q.value in
    let ih = first_two_from qs after node (length-after_signing lists q.node q.value ∙ places) h in
    let few_after = next_few l q.value few in
    let first = next_first l q.value (asked_of node qs) in
    grind (arith, nat_tests, own_list, other_list, may_is, ih, cases_eq q.node node)
