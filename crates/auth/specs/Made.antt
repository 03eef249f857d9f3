-- The roster that numbers in bounds make, for statements about a particular one.
use Rattle.std.specs.Prelude.{◌≡◌, ℕ, ◌≤◌, true, false, List, [], ◌∷◌, nat_lt, refl}
use Rattle.std.specs.List.{list_all}
use Rattle.std.proofs.Common.{arith}
use Rattle.std.proofs.lemmas.Bool.{and_parts, leb-true, ltb-true}
use Rattle.std.proofs.lemmas.Bool.Decides.{nat_tests}
use Rattle.auth.specs.declared.roster.Roster.{Roster}
use Rattle.auth.specs.Lists.{has}
use Rattle.auth.specs.Rosters.{in_bounds}
use Rattle.auth.specs.Tables.{table, length-table, default_table}

-- a number that is not below the nodes is not listed
pub not_listed : (nodes : ℕ) (listed : List ℕ) → list_all (λ i. nat_lt i nodes) listed ≡ true → (k : ℕ) → nodes ≤ k → has listed k ≡ false
not_listed nodes [] h k past = refl
not_listed nodes (i ∷ listed) h k past = let rest = not_listed nodes listed in grind (arith, nat_tests, rest)

abbrev pub roster : (nodes bound : ℕ) (faulty : List ℕ) → in_bounds nodes bound faulty ≡ true → Roster
roster nodes bound faulty ok =
    let p = and_parts _ _ ok in
    let q = and_parts _ _ p.0 in
    let r = and_parts _ _ q.0 in
    record {
      nodes = nodes;
      bound = bound;
      faulty = table (has faulty);
      inhabited = leb-true _ _ r.0;
      placed = leb-true _ _ r.1;
      bounded = ltb-true _ _ q.1;
      flagged = length-table (has faulty);
      absent = λ k past. default_table (has faulty) k false (not_listed nodes faulty p.1 k past);
    }
