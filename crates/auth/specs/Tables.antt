-- A table with an element for each of the sixteen places that a node can have.
use Rattle.std.specs.Prelude.{◌≡◌, ℕ, ◌<◌, ◌≤◌, List, map, length, slice_index_or}
use Rattle.std.proofs.Common.{⊎_elim, ◌∙◌, arith}
use Rattle.std.specs.List.{range_with_len}
use Rattle.std.proofs.lemmas.List.FromFn.{get_or-map-range_with_len, length-map-range_with_len, fill_by_all}
use Rattle.std.proofs.lemmas.List.{get_or_past}
use Rattle.std.proofs.lemmas.Bool.{cases_lt}

-- the table with f k at each place k
unfoldable pub table : {X : Type 0} → (ℕ → X) → List X
table f = map f (range_with_len 0 16)

pub length-table : {X : Type 0} (f : ℕ → X) → length (table f) ≡ 16
unfolding table
length-table f = length-map-range_with_len f 0 16

pub at_table : {X : Type 0} (f : ℕ → X) (k : ℕ) (d : X) → k < 16 → slice_index_or (table f) k d ≡ f k
unfolding table
at_table f k d h = get_or-map-range_with_len f 0 16 k k d h (omega arith)

pub past_table : {X : Type 0} (f : ℕ → X) (k : ℕ) (d : X) → 16 ≤ k → slice_index_or (table f) k d ≡ d
past_table f k d h = get_or_past (table f) k d (omega (arith, length-table f))

-- where f has the default, so has the table, also past its end
pub default_table : {X : Type 0} (f : ℕ → X) (k : ℕ) (d : X) → f k ≡ d → slice_index_or (table f) k d ≡ d
default_table f k d e = ⊎_elim (λ l. at_table f k d l ∙ e) (past_table f k d) (cases_lt k 16)

-- sixteen elements that are those of f make its table
pub is_table : {X : Type 0} (f : ℕ → X) (xs : List X) (d : X) → length xs ≡ 16 → ((k : ℕ) → k < 16 → slice_index_or xs k d ≡ f k) → xs ≡ table f
unfolding table
is_table f xs d e h = fill_by_all f xs 16 d e h
