-- It holds by computing.
use Rattle.std.proofs.Common.{refl}
use Rattle.siphash.specs.SipHash.{round, initial, absorbed, finished, message_words, siphash_2_4}
use Rattle.siphash.proofs.example.published_example_holds.Goals as goal

pub returns : goal.returns
unfolding round initial absorbed finished message_words siphash_2_4
returns c = refl
