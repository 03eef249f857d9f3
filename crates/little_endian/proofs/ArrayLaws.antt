-- Arrays that are made by a call at each place. They stand in the lowest crate, so that each crate above can use them.
use Rattle.std.proofs.Common.{◌≡◌, ℕ, zero, suc, ◌+◌, ◌<◌, ◌≤◌, List, get_or, ◌∙◌, subst, ⊎_elim, arith}
use Rattle.std.specs.Array.{IsFromFnResultFrom}
use Rattle.std.proofs.lemmas.Bool.{cases_eq}
use denote.Param.Members.{Mut, Called}

-- where each call answers what is wanted, and keeps of the function what the next call needs
module _ {F B : Type 0} (g : Mut F (ℕ × Unit {0}) B) (Keeps : F → Type 0) (want : ℕ → B) (each : (f : F) (i : ℕ) (y : B) (q : F) → Keeps f → Called g f (i, tt) y q → (y ≡ want i) × Keeps q) where
  pub made_from : (n i k : ℕ) (f : F) (ys : List B) (d : B) → Keeps f → IsFromFnResultFrom g f ys i n → i ≤ k → k < i + n → get_or ys k d ≡ want k
  made_from zero i k f ys d kept made low high = absurd (omega arith)
  made_from (suc n) i k f ys d kept (q, y, here, called, later) low high =
      let (is, still) = each f i y q kept called in
      ⊎_elim (λ e. subst (λ j. get_or ys j d ≡ want j) e (here.1 d ∙ is)) (λ ne. made_from n (i + 1) k q ys d still later (omega arith) (omega arith)) (cases_eq i k)
