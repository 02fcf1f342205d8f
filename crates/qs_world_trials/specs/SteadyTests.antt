-- What the law of each move asks of nodes, logs and channels alone, as tests: nodes are sound over their logs, between incarnations that were born goes what fits, and
-- a restart can take up each log whole.
use Rattle.std.specs.Prelude.{ℕ, ◌+◌, ◌==◌, Bool, false, not, ◌&&◌, ◌||◌, List, ◌++◌, length, Some, None, is_none, is_some, nat_le, nat_lt, map}
use Rattle.std.specs.List.{list_all, list_any}
use Rattle.std.specs.Cmp.Lexicographic.{pointwise}
use Rattle.qs_base.specs.Order.{same_bytes, same_tid}
use Rattle.qs_base.specs.declared.identifiers.Tid.{Tid}
use Rattle.qs_engage.specs.Engage.{peer_of}
use Rattle.qs_engage.specs.Nodes.{all_nodes, has_node, joined, no_nodes, same_node}
use Rattle.qs_engage.specs.declared.engage.Engage.{Engage}
use Rattle.qs_node_kept.specs.declared.kept.KeptLabel.{KeptLabel}
use Rattle.qs_node_kept.specs.declared.kept.Decided.{Decided}
use Rattle.qs_node_kept.specs.declared.kept.Lent.{Lent}
use Rattle.qs_book_machine.specs.Book.{BookValue}
use Rattle.qs_ops.specs.Server.{number_of}
use Rattle.qs_restart.specs.Recovery.{Recovery, recovery}
use Rattle.qs_node_servers.specs.Servers.{server_at}
use Rattle.qs_node_step.specs.Answering.{kept_outcome, was_committed}
use Rattle.qs_node_step.specs.Bringing.{tid_of}
use Rattle.qs_node_step.specs.State.{NodeValue}
use Rattle.qs_tm.specs.Manager as tm
use Rattle.qs_tm.specs.Outcomes.{is_abort}
use Rattle.qs_tm.specs.declared.participant.Participant.{Participant}
use Rattle.qs_world.specs.Driven.{up_to}
use Rattle.qs_world.specs.Moves.{client_count, node_no}
use Rattle.qs_world.specs.Openings.{is_whole_log}
use Rattle.qs_world.specs.World.{Host, Opening, World}
use Rattle.qs_world_refine.specs.Links.{names_node}
use Rattle.qs_world_refine.specs.Listed.{is_past_record}
use Rattle.qs_world_refine.specs.Lists.{last_list, tell_at}
use Rattle.qs_world_refine.specs.NodeFaces.{began_here}
use Rattle.qs_world_refine.specs.SaidLaws.{are_left_open, is_said_host, lists_others}
use Rattle.qs_world_refine.specs.Sights.{list_of, server_no}
use Rattle.qs_world_refine.specs.Sound.{in_order, is_sound, keeps_owned, same_flag, where_so}
use Rattle.qs_world_refine.specs.Steadies.{are_two, is_steady_line, is_steady_parcel, is_steady_record, stage_of}
use Rattle.qs_world_refine.specs.Tidy.{Stage, are_servers_apart, is_begun_queue, is_settled, is_tidy_command, is_tidy_label, is_tidy_loan, is_tidy_outcome, is_tidy_part, is_tidy_record}
use Rattle.qs_world_trials.specs.RecordTests.{said_by}
use Rattle.qs_world_trials.specs.WorldTests.{each_node}

-- ---- seats, and channels between incarnations that were born

abbrev pairs : (ℕ → ℕ → Bool) → World → Bool
pairs test world = each_node (λ (n : ℕ). each_node (test n) world) world

-- those so far, and the next
abbrev incs : World → ℕ → List ℕ
incs world n = up_to (world.channels.inc n + 2)

abbrev is_ordered_way : World → ℕ → ℕ → ℕ → ℕ → Bool
is_ordered_way world n m i j = nat_le (length (world.channels.handed n m i j)) (length (world.channels.posted n m i j))

abbrev is_born_way : World → ℕ → ℕ → ℕ → ℕ → Bool
is_born_way world n m i j =
    where_so ((nat_lt (world.channels.inc n) i || nat_lt (world.channels.inc m) j) || ((i == world.channels.inc n) && nat_lt (world.channels.peer n m) j))
    (length (world.channels.posted n m i j) == 0)

abbrev each_way : (ℕ → ℕ → Bool) → World → ℕ → ℕ → Bool
each_way test world n m = list_all (λ (i : ℕ). list_all (test i) (incs world m)) (incs world n)

abbrev is_seated_pair : World → ℕ → ℕ → Bool
is_seated_pair world n m =
    nat_le (world.channels.peer n m) (world.channels.inc m) && each_way (λ (i j : ℕ). is_ordered_way world n m i j && is_born_way world n m i j) world n m

abbrev is_seated_node : World → ℕ → Bool
is_seated_node world n =
    (same_node (world.hosts n).node.setting.node (node_no n) && ((world.hosts n).node.setting.nodes == world.size))
    && (((world.hosts n).node.setting.inc == world.channels.inc n) && (nat_le 1 (world.channels.inc n) && where_so (not (world.channels.up n)) (length (world.hosts n).waiting == 0)))

abbrev is_seated : World → Bool
is_seated world = nat_le world.size 16 && (each_node (is_seated_node world) world && pairs (is_seated_pair world) world)

-- ---- a node between its steps

abbrev is_sound_over : World → ℕ → Bool
is_sound_over world n = is_sound (world.hosts n).node && where_so (world.channels.up n) (is_said_host (world.hosts n))

abbrev is_kept_home : NodeValue → Tid × Participant → Bool
is_kept_home node entry =
    where_so (began_here node entry.0 && (is_some entry.1.outcome && not (is_abort entry.1.outcome))) (was_committed entry.0 node)
    && (where_so (is_none entry.1.outcome) (is_none (kept_outcome entry.0 node))
    && where_so (same_node entry.0.home node.setting.node && not (began_here node entry.0)) (is_settled entry.1.outcome (list_any (same_tid entry.0) node.committed)))

-- what began here in this incarnation is known, or committed
abbrev is_past_number : NodeValue → ℕ → Bool
is_past_number node k =
    where_so (nat_lt 0 k) (tm.knows (record { home = node.setting.node; inc = node.setting.inc; seq = k }) node.manager
    || was_committed (record { home = node.setting.node; inc = node.setting.inc; seq = k }) node)

abbrev is_crossed : NodeValue → Bool
is_crossed node = keeps_owned node && (list_all (is_kept_home node) node.manager.known && list_all (is_past_number node) (up_to (node.manager.begun + 1)))

abbrev is_of_kind : NodeValue → ℕ → Bool
is_of_kind node s = number_of (server_at node.servers (server_no s)).kind == s

abbrev is_tidy_manager : Stage → NodeValue → Bool
is_tidy_manager c node =
    (same_node node.manager.node c.setting.node && ((node.manager.inc == c.setting.inc) && (node.manager.begun == c.count)))
    && (in_order node.manager.known && list_all (is_tidy_part c) node.manager.known)

abbrev is_tidy_kept : Stage → NodeValue → Bool
is_tidy_kept c node =
    list_all (is_tidy_label c) node.kept.now.labels
    && (list_all (is_tidy_loan c) node.kept.now.loans && (list_all (is_tidy_outcome c) node.kept.now.outcomes && list_all (is_tidy_command c) node.commands))

abbrev is_tidy_node : Stage → NodeValue → Bool
is_tidy_node c node =
    (is_tidy_manager c node && (are_servers_apart node.queues && list_all (is_begun_queue c) node.queues))
    && (is_tidy_kept c node && (list_all (is_of_kind node) (up_to 7) && (list_all c.past node.committed && is_crossed node)))

-- what it keeps for its clients is what a restart finds
abbrev same_label : KeptLabel → KeptLabel → Bool
same_label a b = same_bytes a.label b.label && (elim a.tid [ None ↦ is_none b.tid | Some tid ↦ elim b.tid [ None ↦ false | Some other ↦ same_tid tid other ] ])

abbrev same_loan : Lent → Lent → Bool
same_loan a b = same_tid a.tid b.tid && ((a.client.0 == b.client.0) && ((a.inc == b.inc) && (same_flag a.taken b.taken && same_flag a.yielded b.yielded)))

abbrev same_outcome : Decided → Decided → Bool
same_outcome a b = same_tid a.tid b.tid

abbrev is_saved : NodeValue → Bool
is_saved node =
    pointwise same_label node.kept.saved.labels node.kept.now.labels
    && (pointwise same_loan node.kept.saved.loans node.kept.now.loans && pointwise same_outcome node.kept.saved.outcomes node.kept.now.outcomes)

-- what it took up from its log and has not looked at yet
abbrev is_new_engage : Engage → Bool
is_new_engage engage =
    is_none engage.superior && list_all (λ peer. ((peer_of engage peer).sent == 0) && (((peer_of engage peer).last == 0) && ((peer_of engage peer).covered == 0))) all_nodes

abbrev is_taken : Tid × Participant → Bool
is_taken entry =
    (is_new_engage entry.1.engage && (length entry.1.waiting == 0))
    && ((not entry.1.asked && not entry.1.blocked)
    && (where_so (is_none entry.1.outcome) entry.1.involved && where_so (is_some entry.1.outcome && not (is_abort entry.1.outcome)) entry.1.engage.home))

abbrev is_first : NodeValue → Bool
is_first node = where_so node.is_first (list_all is_taken node.manager.known && (length node.queues == 0))

abbrev is_steady_log : Stage → Host → Bool
is_steady_log c host =
    list_all (is_steady_record c.past c.setting.node) (host.log ++ host.waiting)
    && (list_all (is_tidy_record c) host.waiting && are_left_open (recovery host.log))

abbrev is_steady_host : World → ℕ → Bool
is_steady_host world n =
    is_tidy_node (stage_of world n) (world.hosts n).node
    && ((is_saved (world.hosts n).node && is_first (world.hosts n).node) && is_steady_log (stage_of world n) (world.hosts n))

-- ---- what goes between nodes, and what clients command

abbrev is_steady_way : World → ℕ → ℕ → Bool
is_steady_way world n m =
    where_so (nat_le 1 (world.channels.peer n m)) (are_two world.size n m)
    && (list_all (is_steady_parcel world n m) (world.channels.waits n m)
    && each_way (λ (i j : ℕ). list_all (is_steady_parcel world n m) (world.channels.posted n m i j) && where_so (i == 0) (length (world.channels.posted n m i j) == 0)) world n m)

abbrev is_steady_script : World → ℕ → Bool
is_steady_script world k = list_all (is_steady_line world.size) (world.clients k).lines

abbrev pub is_steady : Opening → BookValue → World → Bool
is_steady o book world =
    (is_seated world && each_node (is_sound_over world) world)
    && ((each_node (is_steady_host world) world && pairs (is_steady_way world) world) && list_all (is_steady_script world) (up_to client_count))

-- ---- whom Commits name

abbrev are_taken_of : Recovery → Tid → ℕ → Bool
are_taken_of said tid m = where_so (names_node (list_of tid said) (node_no m)) (has_node (joined no_nodes (last_list tid said)) (node_no m))

abbrev is_told_to : NodeValue → Recovery → Tid → ℕ → Bool
is_told_to node said tid m = where_so (names_node (list_of tid said) (node_no m)) (has_node (tell_at tid node) (node_no m))

abbrev is_listed_tid : World → Host → Bool → Tid → Bool
is_listed_tid world host up tid =
    list_all (λ (m : ℕ). are_taken_of (said_by host) tid m && (are_taken_of (recovery host.log) tid m && where_so up (is_told_to host.node (said_by host) tid m))) (up_to 16)

abbrev is_listed_host : World → ℕ → Bool
is_listed_host world n =
    list_all (is_listed_tid world (world.hosts n) (world.channels.up n)) (map tid_of ((world.hosts n).log ++ (world.hosts n).waiting))
    && ((is_whole_log (said_by (world.hosts n)) && is_whole_log (recovery (world.hosts n).log))
    && (list_all lists_others ((world.hosts n).log ++ (world.hosts n).waiting) && list_all (is_past_record world) ((world.hosts n).log ++ (world.hosts n).waiting)))

abbrev pub is_listed : Opening → BookValue → World → Bool
is_listed o book world = each_node (is_listed_host world) world
