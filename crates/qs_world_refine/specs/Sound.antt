-- What holds of each node between its steps, as tests that can be tried on whole runs.
use Rattle.std.specs.Prelude.{ℕ, ◌+◌, ◌==◌, Bool, true, false, not, ◌&&◌, ◌||◌, List, [], ◌∷◌, ◌++◌, length, Option, Some, None, is_some, nat_le, nat_lt, if◌then◌else◌}
use Rattle.std.specs.List.{list_all, list_any}
use Rattle.std.specs.declared.cmp.Ordering.TheVariants.{Less}
use Rattle.std.specs.declared.cmp.Ordering.{Ordering}
use Rattle.qs_base.specs.Order.{tid_cmp}
use Rattle.qs_base.specs.declared.identifiers.NodeNo.{NodeNo}
use Rattle.qs_base.specs.declared.identifiers.ServerNo.{ServerNo}
use Rattle.qs_base.specs.declared.identifiers.Tid.{Tid}
use Rattle.qs_engage.specs.Nodes.{all_nodes, same_node, has_node, is_no_node}
use Rattle.qs_engage.specs.Engage.{peer_of}
use Rattle.qs_ipc.specs.Ipc as ipc
use Rattle.qs_ipc.specs.Queue.{QueueValue, is_for}
use Rattle.qs_ipc.specs.declared.delivery.Delivery.{Delivery}
use Rattle.qs_book_journal.specs.declared.script_line.Command.{Command}
use Rattle.qs_book_journal.specs.declared.script_line.Command.TheVariants as commands
use Rattle.qs_restart.specs.Recovery.{Recovery, Prepared, Untold, recovery, is_of, is_untold_of}
use Rattle.qs_tm.specs.Manager as tm
use Rattle.qs_tm.specs.Members.{all_servers}
use Rattle.qs_tm.specs.Outcomes.{is_abort}
use Rattle.qs_tm.specs.Participant.{member_of, needs_pass, is_undecided}
use Rattle.qs_tm.specs.declared.members.MemberPart.{MemberPart}
use Rattle.qs_tm.specs.declared.participant.Participant.{Participant}
use Rattle.qs_node_kept.specs.declared.kept.Lent.{Lent}
use Rattle.qs_node_kept.specs.declared.kept.KeptLabel.{KeptLabel}
use Rattle.qs_node_kept.specs.declared.kept.Kept.{Kept}
use Rattle.qs_book_machine.specs.Nodes.{is_recoverable}
use Rattle.qs_node_step.specs.Answering.{kept_outcome, was_committed}
use Rattle.qs_node_step.specs.Settling.{is_lent}
use Rattle.qs_node_kept.specs.Loans.{is_standing_loan}
use Rattle.qs_node_step.specs.State.{NodeValue}
use Rattle.qs_world.specs.Openings.{is_audit}
use Rattle.qs_world.specs.World.{Host}
use Rattle.qs_world_refine.specs.NodeFaces.{began_here}

-- the second test, where the first passes
abbrev pub where_so : Bool → Bool → Bool
where_so so test = not so || test

abbrev pub same_flag : Bool → Bool → Bool
same_flag true b = b
same_flag false b = not b

-- ---- the setting, and what is kept of each transaction

abbrev pub fits_setting : NodeValue → Bool
fits_setting node =
    (nat_lt node.setting.node.0 node.setting.nodes && (nat_le node.setting.nodes 16 && nat_lt 0 node.setting.inc))
    && (same_node node.manager.node node.setting.node
    && ((node.manager.inc == node.setting.inc) && ((node.manager.extra == node.setting.extra) && ((node.manager.keep == node.setting.keep) && is_audit node.setting.nodes node.setting.audit))))

abbrev pub is_less : Ordering → Bool
is_less Less = true
is_less _ = false

-- the transactions stand in order, each once
abbrev pub in_order : List (Tid × Participant) → Bool
in_order [] = true
in_order (entry ∷ []) = true
in_order (entry ∷ (next ∷ rest)) = is_less (tid_cmp entry.0 next.0) && in_order (next ∷ rest)

-- there is a place for each node and each server
abbrev pub is_whole : Participant → Bool
is_whole part =
    ((length part.engage.peers == 16) && (length part.members == 7))
    && ((length part.told.has == 16) && ((length part.tell.has == 16) && (length part.acknowledged.has == 16)))

abbrev pub is_sound_peer : NodeValue → Participant → NodeNo → Bool
is_sound_peer node part peer =
    nat_le (peer_of part.engage peer).covered (peer_of part.engage peer).sent
    && (where_so (nat_lt 0 (peer_of part.engage peer).sent) (part.involved && (nat_lt peer.0 node.setting.nodes && not (same_node peer node.setting.node)))
    && where_so (has_node part.told peer) (nat_lt peer.0 node.setting.nodes))

abbrev pub is_covered_vote : MemberPart → Bool
is_covered_vote member = elim member.vote [ None ↦ true | Some cast ↦ nat_le cast.covers member.served ]

abbrev pub is_sound_member : Participant → ServerNo → Bool
is_sound_member part server = is_covered_vote (member_of part server)

-- elsewhere than at the home: who it answers to is another node, and the last one that it answered to
abbrev pub is_superior : NodeValue → Option NodeNo → NodeNo → Bool
is_superior node last superior =
    (nat_lt superior.0 node.setting.nodes && not (same_node superior node.setting.node)) && elim last [ None ↦ false | Some other ↦ same_node other superior ]

abbrev pub is_sound_superior : NodeValue → Participant → Bool
is_sound_superior node part = elim part.engage.superior [
  | None ↦ true
  | Some superior ↦ not part.engage.home && is_superior node part.engage.last_superior superior
]

-- ---- who answers to nobody is idle

abbrev pub is_engaged : Participant → Bool
is_engaged part = if part.engage.home then is_undecided part else is_some part.engage.superior

-- elsewhere than at the home, undecided, and without a superior: nothing waits, no loan stands, and nothing is due
abbrev pub is_idle : NodeValue → Tid → Participant → Bool
is_idle node tid part = not (ipc.waits tid node.queues) && (not (is_lent tid node) && not (needs_pass part))

-- a home that began the transaction earlier has decided it
abbrev pub is_sound_home : NodeValue → Tid → Participant → Bool
is_sound_home node tid part = where_so (part.engage.home && is_undecided part) ((tid.inc == node.setting.inc) && nat_le tid.seq node.manager.begun)

abbrev pub is_sound_log : Participant → Bool
is_sound_log part =
    where_so (part.log.prepared || part.log.listed) part.log.unended
    && (where_so part.log.prepared part.involved
    && (where_so part.log.listed (part.engage.home && (is_some part.outcome && not (is_abort part.outcome)))
    && where_so (part.log.prepared && part.engage.home) (is_undecided part || is_abort part.outcome)))

-- elsewhere than at the home nobody is told, and nobody acknowledges
abbrev pub tells_nobody : Participant → Bool
tells_nobody part = where_so (not part.engage.home) (is_no_node part.tell && is_no_node part.acknowledged)

abbrev pub is_sound_part : NodeValue → Tid × Participant → Bool
is_sound_part node entry =
    ((is_whole entry.1 && same_flag entry.1.engage.home (same_node entry.0.home node.setting.node))
    && (list_all (is_sound_peer node entry.1) all_nodes && (list_all (is_sound_member entry.1) all_servers && is_sound_superior node entry.1)))
    && ((not (has_node entry.1.told entry.0.home)
    && (where_so (not entry.1.engage.home && (is_undecided entry.1 && not (is_engaged entry.1))) (is_idle node entry.0 entry.1) && is_sound_home node entry.0 entry.1))
    && (is_sound_log entry.1 && tells_nobody entry.1))

-- ---- what waits and what is lent is of a transaction that is known, and not committed

abbrev pub may_be_served : NodeValue → Tid → Bool
may_be_served node tid = tm.told_of tid false (λ part. is_undecided part || is_abort part.outcome) node.manager

abbrev pub is_sound_delivery : NodeValue → ServerNo → Delivery → Bool
is_sound_delivery node server delivery = is_for server delivery.op && (may_be_served node delivery.tid && nat_lt delivery.from.0 node.setting.nodes)

abbrev pub is_sound_queue : NodeValue → ServerNo × QueueValue → Bool
is_sound_queue node queue = list_all (is_sound_delivery node queue.0) queue.1.waiting

abbrev pub is_sound_loan : NodeValue → Lent → Bool
is_sound_loan node loan = where_so (is_standing_loan loan.tid node.setting.inc loan) (may_be_served node loan.tid)

-- a transaction that began here, and that the node does not know any more, is committed
abbrev pub is_past : NodeValue → Tid → Bool
is_past node tid = where_so (began_here node tid && not (tm.knows tid node.manager)) (was_committed tid node)

abbrev pub is_sound_label : NodeValue → KeptLabel → Bool
is_sound_label node begun = elim begun.tid [ None ↦ true | Some tid ↦ is_past node tid ]

-- ---- a node

abbrev pub is_sound : NodeValue → Bool
is_sound node =
    (fits_setting node && (in_order node.manager.known && list_all (is_sound_part node) node.manager.known))
    && (list_all (is_sound_queue node) node.queues && (list_all (is_sound_loan node) node.kept.now.loans && list_all (is_sound_label node) node.kept.now.labels))

-- ---- a node with its log: what it keeps of a transaction's records is what the log says, with the records that wait

abbrev pub has_doubt : Tid → Recovery → Bool
has_doubt tid said = list_any (λ (vote : Prepared). is_of tid vote && not vote.committed) said.prepared

abbrev pub is_logged : Recovery → Tid × Participant → Bool
is_logged said entry =
    same_flag entry.1.log.prepared (has_doubt entry.0 said) && same_flag entry.1.log.listed (list_any (is_untold_of entry.0) said.untold)

-- a vote in doubt, and a Commit that is still to be told, is of a transaction that is known
abbrev pub is_known_vote : NodeValue → Prepared → Bool
is_known_vote node vote = vote.committed || tm.knows vote.tid node.manager

abbrev pub is_known_commit : NodeValue → Untold → Bool
is_known_commit node commit = tm.knows commit.tid node.manager

abbrev pub is_sound_said : NodeValue → Recovery → Bool
is_sound_said node said =
    list_all (is_logged said) node.manager.known && (list_all (is_known_vote node) said.prepared && list_all (is_known_commit node) said.untold)

abbrev pub is_sound_host : Host → Bool
is_sound_host host = is_sound host.node && is_sound_said host.node (recovery (host.log ++ host.waiting))

-- ---- what a home committed in this incarnation is kept as committed for its owner, so that it may be forgotten

abbrev pub is_kept_part : NodeValue → Tid × Participant → Bool
is_kept_part node entry = where_so (began_here node entry.0 && (is_some entry.1.outcome && not (is_abort entry.1.outcome))) (was_committed entry.0 node)

abbrev pub keeps_commits : NodeValue → Bool
keeps_commits node = list_all (is_kept_part node) node.manager.known

-- ---- what clients command

-- a request goes to a node of the run
abbrev pub goes_in_run : ℕ → Command → Bool
goes_in_run nodes command = elim command [
  | commands.Begin ↦ true
  | commands.Commit ↦ true
  | commands.Abort ↦ true
  | commands.Take ↦ true
  | commands.Yield ↦ true
  | commands.Request member op ↦ nat_lt member.node.0 nodes
]

-- what a client here owns is decided, and kept so, or runs at its home here
abbrev pub is_owned : NodeValue → Tid → Bool
is_owned node tid = is_some (kept_outcome tid node) || tm.told_of tid false (λ part. part.engage.home && is_undecided part) node.manager

abbrev pub is_owned_label : NodeValue → KeptLabel → Bool
is_owned_label node begun = not (is_some begun.owner) || elim begun.tid [ None ↦ true | Some tid ↦ is_owned node tid ]

abbrev pub keeps_owned : NodeValue → Bool
keeps_owned node = list_all (is_owned_label node) node.kept.now.labels

-- ---- what a restart finds

-- a vote of a recoverable server, and a Commit with a list at its home: what a node can take up
abbrev pub may_vote : Prepared → Bool
may_vote vote = is_recoverable vote.server.0

abbrev pub is_list_of : NodeNo → Untold → Bool
is_list_of node commit = same_node commit.tid.home node

abbrev pub may_take_up : NodeNo → Recovery → Bool
may_take_up node said = list_all may_vote said.prepared && list_all (is_list_of node) said.untold

-- what a node keeps for its clients is of incarnations before that one
abbrev pub is_loan_before : ℕ → Lent → Bool
is_loan_before inc loan = nat_lt loan.inc inc

abbrev pub is_label_before : NodeNo → ℕ → KeptLabel → Bool
is_label_before node inc begun = elim begun.tid [ None ↦ true | Some tid ↦ not (same_node tid.home node) || nat_lt tid.inc inc ]

abbrev pub kept_before : NodeNo → ℕ → Kept → Bool
kept_before node inc kept = list_all (is_loan_before inc) kept.loans && list_all (is_label_before node inc) kept.labels

-- a host whose node may restart, with or without the records that wait
abbrev pub may_restart : Host → Bool
may_restart host =
    (may_take_up host.node.setting.node (recovery host.log) && may_take_up host.node.setting.node (recovery (host.log ++ host.waiting)))
    && (kept_before host.node.setting.node (host.node.setting.inc + 1) host.node.kept.now && kept_before host.node.setting.node (host.node.setting.inc + 1) host.node.kept.saved)
