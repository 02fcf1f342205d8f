-- What an entry does at the servers of a node leaves whether it is up, its incarnation, its count of begun transactions, its format.
use Rattle.qs_world_lawful.proofs.Words.{ℕ, Bool, true, false, Option, Some, None, refl, ◌∙◌, map, ◌==◌, ◌&&◌, if◌then◌else◌, Member, Tid, names_no, windows_no, scratch_no, TableValue, released, served, committed, timers_ended, timer_served, Op, Reply, Vote, Outcome, server_serve, serve_node, crossed_serve, vote_node, learn_node, doubts_after, TransactionValue, is_crossed, standing_request, requests_at, Request, RequestNo, with_table, crossed_node, crossed_names, crossed_table, with_doubts}
use Rattle.qs_world_lawful.proofs.Words.{bound_names}
use Rattle.qs_ops.specs.Servers.{files_no, audit_no, timers_no}
use Rattle.qs_ops.specs.Table.{with_vote}
use Rattle.qs_ops.specs.declared.vote.Vote.TheVariants as votes
use Rattle.qs_base.specs.declared.identifiers.Outcome.TheVariants as outcomes
use Rattle.qs_book_machine.specs.Book.{is_done}
use Rattle.qs_book_machine.specs.Nodes.{NodeValue, without_doubts}
use Rattle.qs_world_lawful.proofs.Frames.{SameState}

pub state_itself : (node : NodeValue) → SameState node node
state_itself node = record { up = refl; inc = refl; begun = refl; format = refl }

pub state_after : (a b c : NodeValue) → SameState a b → SameState b c → SameState a c
state_after a b c p q = record { up = q.up ∙ p.up; inc = q.inc ∙ p.inc; begun = q.begun ∙ p.begun; format = q.format ∙ p.format }

pub table_state : (server : ℕ) (f : TableValue → TableValue) (node : NodeValue) → SameState node (with_table server f node)
table_state server f node = by (server == files_no) (server == audit_no) (server == names_no) (server == windows_no) (server == scratch_no)
  where
    by : (a b c d e : Bool) → SameState node (if a then record node { files = f node.files } else if b then record node { audit = f node.audit } else if c then record node { names = f node.names }
        else if d then record node { windows = f node.windows } else if e then record node { scratch = f node.scratch } else node)
    by true b c d e = record { up = refl; inc = refl; begun = refl; format = refl }
    by false true c d e = record { up = refl; inc = refl; begun = refl; format = refl }
    by false false true d e = record { up = refl; inc = refl; begun = refl; format = refl }
    by false false false true e = record { up = refl; inc = refl; begun = refl; format = refl }
    by false false false false true = record { up = refl; inc = refl; begun = refl; format = refl }
    by false false false false false = state_itself node

pub crossed_state : (tid : Tid) (server : ℕ) (node : NodeValue) → SameState node (crossed_node tid server node)
crossed_state tid server node = by node.up (server == names_no) (server == timers_no)
  where
    by : (a b c : Bool) → SameState node (if a then (if b then crossed_names tid node else if c then record node { timers = timers_ended node.timers tid } else crossed_table tid server node) else node)
    by true true c = record { up = refl; inc = refl; begun = refl; format = refl }
    by true false true = record { up = refl; inc = refl; begun = refl; format = refl }
    by true false false = table_state server (λ table. released table tid) node
    by false b c = state_itself node

pub server_state : (server : ℕ) (tid : Tid) (op : Op) (reply : Reply) (node : NodeValue) → SameState node (server_serve server tid op reply node)
server_state server tid op reply node = by (server == timers_no)
  where
    by : (b : Bool) → SameState node (if b then record node { timers = timer_served node.timers tid op reply } else with_table server (λ table. served table tid op reply) node)
    by true = record { up = refl; inc = refl; begun = refl; format = refl }
    by false = table_state server (λ table. served table tid op reply) node

pub serve_state : (o : Option TransactionValue) (at : RequestNo) (tid : Tid) (member : Member) (reply : Reply) (node : NodeValue) → SameState node (serve_node o at tid member reply node)
serve_state None at tid member reply node = state_itself node
serve_state (Some tx) at tid member reply node = by (is_crossed tx member) (standing_request tx at member)
  where
    crossed : (b : Bool) → SameState node (if b then with_doubts tid (bound_names (map (λ (request : Request). request.op) (requests_at tx at))) node else node)
    crossed true = record { up = refl; inc = refl; begun = refl; format = refl }
    crossed false = state_itself node

    by : (b : Bool) (r : Option Request) → SameState node (if b then crossed_serve member.server.0 tid (requests_at tx at) reply node else elim r [ None ↦ node | Some request ↦ server_serve member.server.0 tid request.op reply node ])
    by true r = crossed ((member.server.0 == names_no) && is_done reply)
    by false None = state_itself node
    by false (Some request) = server_state member.server.0 tid request.op reply node

pub vote_state : (count : ℕ) (crossed : Bool) (tid : Tid) (server : ℕ) (ballot : Vote) (covers : ℕ) (node : NodeValue) → SameState node (vote_node count crossed tid server ballot covers node)
vote_state count crossed tid server votes.ReadOnly covers node = table_state server (λ table. released table tid) node
vote_state count true tid server (votes.Abort reason) covers node = state_itself node
vote_state count false tid server (votes.Abort reason) covers node = table_state server (λ table. with_vote table tid false) node
vote_state count true tid server votes.Volatile covers node = state_itself node
vote_state count false tid server votes.Volatile covers node = table_state server (λ table. with_vote table tid true) node
vote_state count crossed tid server votes.Recoverable covers node = record { up = refl; inc = refl; begun = refl; format = refl }

pub learn_state : (outcome : Outcome) (tid : Tid) (server : ℕ) (node : NodeValue) → SameState node (doubts_after tid server (learn_node outcome tid server node))
learn_state outcome tid server node = state_after node (learn_node outcome tid server node) (doubts_after tid server (learn_node outcome tid server node)) (of outcome) (by (server == names_no) (learn_node outcome tid server node))
  where
    of : (o : Outcome) → SameState node (learn_node o tid server node)
    of outcomes.Commit = state_after node (with_table server (λ table. committed table tid) node) (learn_node outcomes.Commit tid server node) (table_state server (λ table. committed table tid) node) (record { up = refl; inc = refl; begun = refl; format = refl })
    of outcomes.Abort = table_state server (λ table. released table tid) node

    by : (b : Bool) (n : NodeValue) → SameState n (if b then without_doubts tid n else n)
    by true n = record { up = refl; inc = refl; begun = refl; format = refl }
    by false n = state_itself n
