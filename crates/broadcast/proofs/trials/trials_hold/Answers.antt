-- Each holds by computing.
use Rattle.std.proofs.Common.{refl}
use Rattle.auth.specs.Tables.{table}
use Rattle.broadcast.specs.Direct.{direct_outcomes}
use Rattle.broadcast.proofs.trials.trials_hold.Goals as goal

pub returns : goal.returns
unfolding table direct_outcomes
returns c = record { direct_split = refl }
