use Rattle.std.proofs.Common.{◌≡◌, [], arith}
use Rattle.auth.specs.Signing.{signed_by, none_signed}
use Rattle.auth.specs.Tables.{length-table, at_table}
use Rattle.auth.proofs.RequestFacts.{first_two_from}
use Rattle.auth.specs.SigningFacts.{granted}
use Rattle.auth.proofs.laws.signing_laws_hold.Goals as goal

pub returns : goal.returns
returns c = record {
  first_two = λ qs node h.
      let none : signed_by none_signed node ≡ [] = at_table (λ _. []) node [] h in
      let from = first_two_from qs none_signed node (length-table _) h in
      grind (arith, none, from);
  granted = λ lists node value places. granted lists places node value;
}
