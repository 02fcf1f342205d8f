-- What is held of a node is held whichever stamp its next entry has.
use Rattle.qs_world_lawful.proofs.Words.{◌≡◌, ℕ, true, sym, subst, BookValue, Holds, HoldsStill, is_next}
use Rattle.qs_node_step.specs.State.{NodeValue}

pub still_held : (stamp : ℕ) (book : BookValue) (node : NodeValue) → Holds stamp book node → HoldsStill book node
still_held stamp book node h = record { run = h.run; state = h.state; there = h.there; same = h.same; at = h.at; begun = h.begun; clients = h.clients; servers = h.servers; waits = h.waits }

-- at each stamp that stands in order
pub held_at : (n stamp : ℕ) (book : BookValue) (node : NodeValue) → node.setting.node.0 ≡ n → HoldsStill book node → is_next stamp n book ≡ true → Holds stamp book node
held_at n stamp book node here h order = record {
  order = subst (λ (k : ℕ). is_next stamp k book ≡ true) (sym here) order;
  run = h.run;
  state = h.state;
  there = h.there;
  same = h.same;
  at = h.at;
  begun = h.begun;
  clients = h.clients;
  servers = h.servers;
  waits = h.waits;
}
