-- The numbers of refusals.
use Rattle.std.specs.Prelude.{ℕ, ◌≤◌}

-- they are 1 to 15
abbrev pub InRange : ℕ → Type 0
InRange n = (1 ≤ n) × (n ≤ 15)
