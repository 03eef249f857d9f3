use Rattle.std.proofs.Common.{rules, tests}
use Rattle.std.proofs.lemmas.Iterator.{YieldsList-from_slice}
use Rattle.std.proofs.lemmas.Iterator.Search.{find_from_yields_List}
use Rattle.broadcast.specs.Direct.{from_leader}
use Rattle.broadcast.proofs.turn.Turn.first_value.Goals as goal

pub returns : goal.returns
returns c =
    let t = c.args.self.now in
    let messages = c.args.messages.now in
    let found = find_from_yields_List (from_leader t c.args.node) _ _ c.find.result c.find.ensures.ran (YieldsList-from_slice messages c.iter.ensures.rest) (λ x b q k. search (rules, tests)) in
    search rules
