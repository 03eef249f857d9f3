use Rattle.std.proofs.Common.{◌≡◌, ℕ, List, ◌++◌, get_or, length, codes, string_bytes, sym, ap, ◌∙◌, arith, rules}
use Rattle.std.proofs.lemmas.Iterator.{YieldsList-from_range, YieldsList-from_slice, YieldsList-from_zip}
use Rattle.std.proofs.lemmas.Iterator.Consumers.{YieldsList-turn, YieldsList-end}
use Rattle.std.proofs.lemmas.List.{length_push}
use Rattle.std.specs.List.{range_with_len, flat_map}
use Rattle.depot_turn.specs.Texts.{newline, node_line}
use Rattle.depot_turn.proofs.TextLaws.{lines_more, length-numbered, numbered_at}
use Rattle.depot_turn.proofs.text.outcomes_text.Goals as goal

pub loop-node-preserved : goal.loop-node-preserved
loop-node-preserved c =
    let roster = c.args.roster.now in
    let outcomes = c.args.outcomes.now in
    let count = length c.loop-node.yielded in
    let line : ℕ → List ℕ = λ node. node_line roster node (get_or outcomes node 0) in
    let head : List ℕ = codes "box,state,outcome" ++ newline in
    let pairs = YieldsList-from_zip (YieldsList-from_range 0 roster.nodes roster.nodes (search rules) (omega arith)) (YieldsList-from_slice outcomes (search rules)) in
    let turn = YieldsList-turn pairs c.loop-node.yielded c.loop-node.node-iterator c.loop-node.yielded_by c.next.result c.next.new.self _ c.in-Some.is c.next.ensures.steps in
    let here = numbered_at roster.nodes outcomes (omega arith) count _ turn in
    let wrote : string_bytes c.writeln.new.self ≡ string_bytes c.loop-node.text ++ node_line roster c.in-Some.node c.in-Some.outcome.now = search rules in
    wrote ∙ (λ i. c.loop-node.invariant i ++ node_line roster (here.0 i) (here.1 i)) ∙ lines_more line head count
    ∙ ap (λ n. head ++ flat_map line (range_with_len 0 n)) (sym (length_push c.loop-node.yielded (c.in-Some.node, c.in-Some.outcome)))

pub returns : goal.returns
returns c =
    let roster = c.args.roster.now in
    let outcomes = c.args.outcomes.now in
    let line : ℕ → List ℕ = λ node. node_line roster node (get_or outcomes node 0) in
    let pairs = YieldsList-from_zip (YieldsList-from_range 0 roster.nodes roster.nodes (search rules) (omega arith)) (YieldsList-from_slice outcomes (search rules)) in
    let ended = YieldsList-end pairs c.loop-node.yielded c.loop-node.node-iterator c.loop-node.yielded_by c.next.result c.next.new.self c.in-None.is c.next.ensures.steps in
    let all : length c.loop-node.yielded ≡ roster.nodes = ended.1 ∙ length-numbered roster.nodes outcomes (omega arith) in
    c.loop-node.invariant ∙ ap (λ n. (codes "box,state,outcome" ++ newline) ++ flat_map line (range_with_len 0 n)) all
