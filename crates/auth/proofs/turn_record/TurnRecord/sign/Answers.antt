use Rattle.std.proofs.Common.{arith}
use Rattle.std.proofs.lemmas.Grind.{common_steps}
use Rattle.std.proofs.lemmas.List.{map-set}
use Rattle.auth.proofs.turn_record.TurnRecord.sign.Goals as goal

pub returns-clause-value_joins_the_list : goal.returns-clause-value_joins_the_list
returns-clause-value_joins_the_list c = grind (arith, common_steps, map-set)
