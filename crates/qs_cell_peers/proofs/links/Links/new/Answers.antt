use Rattle.std.proofs.Common.{◌≡◌, ℕ, ◌+◌, ap, length, subst, sym, true, ◌∙◌}
use Rattle.qs_cell_peers.specs.NoEnds.{no_into, no_out}
use Rattle.qs_cell_peers.specs.Peers.{is_peer}
use Rattle.qs_cell_peers.proofs.Carrying.{found_there}
use Rattle.qs_cell_peers.proofs.links.Links.new.Goals as goal

pub returns-clause-out : goal.returns-clause-out
returns-clause-out c = λ m peer. found_there c.into_vec.result.items c.args.out c.args.me.0 m no_out c.into_vec.ensures (rw c.into_vec.ensures c.requires.me) peer

pub returns-clause-into : goal.returns-clause-into
returns-clause-into c = λ m peer.
    let same : length c.into_vec.result.items ≡ length c.into_vec-2.result.items = ap length c.into_vec.ensures ∙ (c.requires.ends ∙ sym (ap length c.into_vec-2.ensures)) in
    found_there c.into_vec-2.result.items c.args.into c.args.me.0 m no_into c.into_vec-2.ensures
    (rw (c.into_vec-2.ensures, ← c.requires.ends) c.requires.me) (subst (λ (k : ℕ). is_peer (k + 1) c.args.me.0 m ≡ true) same peer)
