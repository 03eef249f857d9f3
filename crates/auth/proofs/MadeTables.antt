-- Tables that are made by a call at each place, for the crates that rest on this one.
use Rattle.std.proofs.Common.{◌≡◌, ℕ, List, refl, subst, arith}
use Rattle.std.specs.Array.{IsFromFnResult}
use denote.Param.Members.{Mut, Called}
use Rattle.little_endian.proofs.ArrayLaws.{made_from}
use Rattle.auth.specs.Tables.{table, is_table}

-- where each call leaves the function as it was
pub made_table : {F B : Type 0} (g : Mut F (ℕ × Unit {0}) B) (f : F) (want : ℕ → B) → ((i : ℕ) (y : B) (q : F) → Called g f (i, tt) y q → (y ≡ want i) × (q ≡ f)) → (ys : List B) (d : B) → IsFromFnResult g f ys 16 → ys ≡ table want
made_table g f want each ys d made =
    is_table want ys d made.long (λ k h. made_from g (λ p. p ≡ f) want (λ p i y q same called. each i y q (subst (λ p. Called g p (i, tt) y q) same called)) 16 0 k f ys d refl made.each (omega arith) (omega arith))
