use Rattle.std.proofs.Common.{◌++◌, arith, sym, ◌∙◌, ap}
use Rattle.std.specs.Option.{option_copied}
use Rattle.qs_text.specs.Output.{nodes_text}
use Rattle.qs_text.proofs.OutputLemmas.{node_more, node_last, no_node}
use Rattle.qs_text.proofs.output.put_nodes.Goals as goal

pub loop-node-preserved : goal.loop-node-preserved
loop-node-preserved c =
    node_more c.loop-node.out c.put_node.new.out (c.args.out.now ++ nodes_text 0 c.args.book.now.nodes) c.loop-node.number c.in-Some-checked_add.next c.in-Some.node.now c.args.book.now.nodes
    c.in-Some-checked_add.ensures.0 (sym c.in-Some-checked_add.ensures.1) (sym (ap option_copied c.in-Some.is) ∙ c.state.ensures) c.in_ok-put_node.ensures c.loop-node.invariant

pub returns-in_default-checked_add : goal.returns-in_default-checked_add
returns-in_default-checked_add c =
    node_last c.loop-node.out c.put_node.new.out (c.args.out.now ++ nodes_text 0 c.args.book.now.nodes) c.loop-node.number c.in-Some.node.now c.args.book.now.nodes
    (omega (arith, c.in_default-checked_add.ensures)) (sym (ap option_copied c.in-Some.is) ∙ c.state.ensures) c.in_ok-put_node.ensures c.loop-node.invariant

pub returns : goal.returns
returns c =
    no_node c.loop-node.out (c.args.out.now ++ nodes_text 0 c.args.book.now.nodes) c.loop-node.number c.args.book.now.nodes
    (sym (ap option_copied c.in_default.is) ∙ c.state.ensures) c.loop-node.invariant
