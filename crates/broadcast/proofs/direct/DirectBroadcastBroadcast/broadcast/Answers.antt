use Rattle.std.proofs.Common.{rules}
use Rattle.auth.proofs.MadeTables.{made_table}
use Rattle.broadcast.specs.Direct.{direct_outcomes}
use Rattle.broadcast.proofs.direct.DirectBroadcastBroadcast.broadcast.Goals as goal

pub returns-clause-answer : goal.returns-clause-answer
unfolding direct_outcomes
returns-clause-answer c = made_table _ _ _ (λ i y q called. search rules) _ 0 c.from_fn.ensures.items
