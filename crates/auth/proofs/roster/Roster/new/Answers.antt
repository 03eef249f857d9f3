use Rattle.std.proofs.Common.{◌≡◌, true, nat_lt, set, take, subst, ap, ◌∙◌, arith}
use Rattle.std.specs.List.{list_all}
use Rattle.std.proofs.lemmas.List.{take_all}
use Rattle.auth.specs.Lists.{has}
use Rattle.auth.specs.Made.{not_listed}
use Rattle.auth.specs.Tables.{table, default_table}
use Rattle.auth.proofs.ListedFlags.{below_more, flag_more}
use Rattle.auth.proofs.roster.Roster.new.Goals as goal

pub loop-node-preserved : goal.loop-node-preserved
loop-node-preserved c =
    let listed = c.args.faulty.now in
    let i = c.loop-node.node-index in
    let lt = c.loop-node-test.true in (
      below_more c.args.nodes listed i lt (omega (arith, c.if-node-nodes.false)) c.loop-node.invariant.0,
      ap (λ flags. set flags c.from-in-loop-node.result true) c.loop-node.invariant.1 ∙ ap (λ node. set (table (has (take i listed))) node true) c.from-in-loop-node.ensures ∙ flag_more listed i 0 lt,
    )

pub invariant_of-result-clause-absent : goal.invariant_of-result-clause-absent
invariant_of-result-clause-absent c =
    let nodes = c.args.nodes in
    let all = take_all c.loop-node.node-index c.args.faulty.now c.loop-node-test.false in
    let below = subst (λ listed. list_all (λ node. nat_lt node nodes) listed ≡ true) all c.loop-node.invariant.0 in
    λ k past. rw (c.loop-node.invariant.1, all) (default_table (has c.args.faulty.now) k _ (not_listed nodes c.args.faulty.now below k past))
