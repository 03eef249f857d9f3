-- Rosters with the same parts are the same.
use Rattle.std.proofs.Common.{◌≡◌, ℕ, ◌<◌, ◌≤◌, Bool, true, false, List, length, get_or, Ok, ap, ◌∙◌}
use mathlib.Core.HLevel.{is_prop→PathP}
use mathlib.Core.Path.{PathP}
use denote.Struct.Props.{props}
use Rattle.std.proofs.lemmas.Bool.{cond-true}
use Rattle.auth.specs.declared.roster.Roster.{Roster}
use Rattle.auth.specs.Lists.{has}
use Rattle.auth.specs.Made.{roster}
use Rattle.auth.specs.Rosters.{Parts, in_bounds, roster_answer, roster_from}
use Rattle.auth.specs.Tables.{table}

-- a fact that has one proof at most is the same at both ends
along : (P : ℕ → ℕ → List Bool → Type 0) → ((n b : ℕ) (f : List Bool) → IsProp (P n b f)) → {n n' b b' : ℕ} {f f' : List Bool} (en : n ≡ n') (eb : b ≡ b') (ef : f ≡ f') (x : P n b f) (y : P n' b' f') → PathP (λ i. P (en i) (eb i) (ef i)) x y
along P once en eb ef x y = is_prop→PathP (λ i. P (en i) (eb i) (ef i)) (λ i. once (en i) (eb i) (ef i)) x y

pub same_roster : (r s : Roster) → r.nodes ≡ s.nodes → r.bound ≡ s.bound → r.faulty ≡ s.faulty → r ≡ s
same_roster r s n b f = λ i. record {
  nodes = n i;
  bound = b i;
  faulty = f i;
  inhabited = along (λ n b f. 1 ≤ n) (λ n b f. hlevel props) n b f r.inhabited s.inhabited i;
  placed = along (λ n b f. n ≤ 16) (λ n b f. hlevel props) n b f r.placed s.placed i;
  bounded = along (λ n b f. b < n) (λ n b f. hlevel props) n b f r.bounded s.bounded i;
  flagged = along (λ n b f. length f ≡ 16) (λ n b f. hlevel props) n b f r.flagged s.flagged i;
  absent = along (λ n b f. (k : ℕ) → n ≤ k → get_or f k false ≡ false) (λ n b f. hlevel props) n b f r.absent s.absent i;
}

-- what a call that was answered with a roster made
pub made_roster : (nodes bound : ℕ) (faulty : List ℕ) (ok : in_bounds nodes bound faulty ≡ true) (r : Roster) → roster_answer (Ok r) ≡ roster_from nodes bound faulty → r ≡ roster nodes bound faulty ok
made_roster nodes bound faulty ok r e =
    let told = e ∙ cond-true (in_bounds nodes bound faulty) _ _ ok in
    let parts : ◌≡◌ {A = Parts} (record { nodes = r.nodes; bound = r.bound; faulty = r.faulty }) (record { nodes = nodes; bound = bound; faulty = table (has faulty) }) = cc in
    same_roster r (roster nodes bound faulty ok) (ap (λ p. p.nodes) parts) (ap (λ p. p.bound) parts) (ap (λ p. p.faulty) parts)
