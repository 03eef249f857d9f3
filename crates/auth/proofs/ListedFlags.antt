-- Flags that are set for one listed node after the other.
use Rattle.std.proofs.Common.{◌≡◌, ℕ, ◌+◌, ◌<◌, true, false, List, length, take, nat_lt, slice_index_or, slice_set, ◌∙◌, ◌==◌, arith}
use Rattle.std.specs.List.{list_all}
use Rattle.std.proofs.lemmas.Grind.{common_steps}
use Rattle.std.proofs.lemmas.List.{length-set}
use Rattle.std.proofs.lemmas.List.Folds.{list_all_more, list_any_more}
use Rattle.std.proofs.lemmas.Bool.{cases_eq}
use Rattle.std.proofs.lemmas.Bool.Decides.{nat_tests}
use Rattle.auth.specs.Lists.{has}
use Rattle.auth.specs.Tables.{table, length-table, at_table, is_table}

-- the flag of the next listed node makes the table of one node more
pub flag_more : (listed : List ℕ) (i d : ℕ) → i < length listed → slice_set (table (has (take i listed))) (slice_index_or listed i d) true ≡ table (has (take (i + 1) listed))
flag_more listed i d lt =
    let flags = table (has (take i listed)) in
    let node = slice_index_or listed i d in
    let long = length-table (has (take i listed)) in
    is_table (has (take (i + 1) listed)) _ false (length-set flags node true ∙ long)
    (λ k h.
    let before = at_table (has (take i listed)) k false h in
    let more = list_any_more (λ y. y == k) listed i d lt in
    grind (arith, nat_tests, common_steps, before, more, long, cases_eq k node))

-- a further node that is below the nodes
pub below_more : (nodes : ℕ) (listed : List ℕ) (i : ℕ) → i < length listed → slice_index_or listed i 0 < nodes → list_all (λ node. nat_lt node nodes) (take i listed) ≡ true → list_all (λ node. nat_lt node nodes) (take (i + 1) listed) ≡ true
below_more nodes listed i lt low before = let more = list_all_more (λ node. nat_lt node nodes) listed i 0 lt in grind (arith, nat_tests, before, more)
