-- Text that grows by a line for each number.
use Rattle.std.proofs.Common.{◌≡◌, ℕ, ◌+◌, ◌<◌, ◌≤◌, List, [], ◌∷◌, ◌++◌, length, get_or, sym, ap, ◌∙◌, zero-add, arith}
use Rattle.std.specs.List.{range_with_len, flat_map, zip}
use Rattle.std.proofs.lemmas.List.FromFn.{get_or-range_with_len, length-range_with_len, map-range_with_len_more}
use Rattle.std.proofs.lemmas.List.{flat_map_more, get_or_default, map-id}
use Rattle.std.proofs.lemmas.Slice.Zip.{get_or-zip, length-zip}

counting_more : (n : ℕ) → range_with_len 0 (n + 1) ≡ range_with_len 0 n ++ n ∷ []
counting_more n = sym (map-id (range_with_len 0 (n + 1))) ∙ map-range_with_len_more (λ k. k) 0 n n (omega arith) ∙ ap (λ l. l ++ n ∷ []) (map-id (range_with_len 0 n))

pub lines_more : (line : ℕ → List ℕ) (head : List ℕ) (n : ℕ) → (head ++ flat_map line (range_with_len 0 n)) ++ line n ≡ head ++ flat_map line (range_with_len 0 (n + 1))
lines_more line head n = flat_map_more line head (range_with_len 0 n) n ∙ ap (λ ks. head ++ flat_map line ks) (sym (counting_more n))

-- numbers beside the items of a list that is as long
module _ (n : ℕ) (xs : List ℕ) (room : n ≤ length xs) where
  pub length-numbered : length (zip (range_with_len 0 n) xs) ≡ n
  length-numbered = omega (arith, length-zip (range_with_len 0 n) xs, length-range_with_len 0 n)

  pub numbered_at : (k : ℕ) (p : ℕ × ℕ) → (k < length (zip (range_with_len 0 n) xs)) × (p ≡ get_or (zip (range_with_len 0 n) xs) k p) → (p.0 ≡ k) × (p.1 ≡ get_or xs k 0)
  numbered_at k p (within, is) =
      let inside : k < n = omega (arith, length-numbered) in
      let pair = is ∙ get_or-zip (range_with_len 0 n) xs k p (omega (arith, length-range_with_len 0 n)) (omega arith) in
      (ap (λ q. q.0) pair ∙ get_or-range_with_len 0 n k p.0 inside ∙ zero-add k, ap (λ q. q.1) pair ∙ get_or_default xs k p.1 0 (omega arith))
