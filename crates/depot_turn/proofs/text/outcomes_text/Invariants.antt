use Rattle.std.proofs.Common.{◌≡◌, ◌++◌, length, get_or, string_bytes, codes}
use Rattle.std.specs.List.{range_with_len, flat_map}
use Rattle.depot_turn.specs.Texts.{newline, node_line}
use Rattle.depot_turn.proofs.text.outcomes_text.Given as goal

abbrev pub invariant-loop-node : goal.invariant-loop-node
invariant-loop-node l = string_bytes l.text ≡ (codes "box,state,outcome" ++ newline) ++ flat_map (λ node. node_line l.roster node (get_or l.outcomes node 0)) (range_with_len 0 (length l.yielded))
