-- The numbers by which a record says what it holds.
use Rattle.std.specs.Prelude.{◌≡◌, ℕ, ◌≢◌, Result, MatchResult}
use Rattle.wire.specs.declared.kind.Kind.{Kind}
use Rattle.wire.specs.declared.kind.Kind.TheVariants.{Message, Comment}
use Rattle.wire.specs.declared.kind.UnknownKind.{UnknownKind}

abbrev pub kind_number : Kind → ℕ
kind_number Message = 1
kind_number Comment = 2

-- the kind with this number, or none, since no kind has it
abbrev pub Names : ℕ → Result Kind UnknownKind → Type 0
Names number r = MatchResult r (λ kind. kind_number kind ≡ number) (λ _. (number ≢ 1) × (number ≢ 2))
