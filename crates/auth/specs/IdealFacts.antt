-- The ideal authenticator's tags last as long as the turn.
use Rattle.std.specs.Prelude.{◌≡◌, Bool, true, List}
use Rattle.std.proofs.Common.{arith}
use Rattle.std.proofs.lemmas.Bool.{cases_Bool}
use Rattle.std.proofs.lemmas.Bool.Decides.{nat_tests}
use Rattle.auth.specs.Ideal.{ideal_rule}
use Rattle.auth.specs.Lists.{has}
use Rattle.auth.specs.Signing.{Lasting, signed_by, after_signing}
use Rattle.auth.specs.SigningFacts.{signed_lasts}

-- a tag that the record makes valid is valid whatever is signed next
pub ideal_lasts : (faulty : List Bool) → Lasting (ideal_rule faulty)
ideal_lasts faulty turn lists node value tag h signer other =
    let still : has (signed_by lists node) value ≡ true → has (signed_by (after_signing lists signer other) node) value ≡ true = λ s. signed_lasts lists node value s signer other in
    grind (arith, nat_tests, cases_Bool (has (signed_by lists node) value))
