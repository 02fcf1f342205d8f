-- How a world of the agreement machine shows one transaction of a world of nodes, as a test: its stage, the face of each node that runs, what is on its way, what logs
-- say, and what waits to close.
use Rattle.std.specs.Prelude.{ℕ, ◌+◌, ◌==◌, Bool, true, false, not, ◌&&◌, ◌||◌, List, [], ◌∷◌, None, Some, nat_le, nat_lt}
use Rattle.std.specs.List.{find, list_all, list_any}
use Rattle.qs_base.specs.Order.{same_tid}
use Rattle.qs_base.specs.declared.identifiers.NodeNo.{NodeNo}
use Rattle.qs_base.specs.declared.identifiers.Outcome.TheVariants as outcomes
use Rattle.qs_base.specs.declared.identifiers.Tid.{Tid}
use Rattle.qs_engage.specs.Nodes.{has_node}
use Rattle.qs_node_kept.specs.Keeping.{is_outcome_of}
use Rattle.qs_ops.specs.Members.{class_of}
use Rattle.qs_record.specs.declared.record.Record.{Record}
use Rattle.qs_record.specs.declared.record.Record.TheVariants as records
use Rattle.qs_restart.specs.Recovery.{Recovery, is_untold_of, names_transaction}
use Rattle.qs_node_step.specs.Answering.{is_kept_commit, was_committed}
use Rattle.qs_tm.specs.Manager as tm
use Rattle.qs_world.specs.Driven.{up_to}
use Rattle.qs_world.specs.World.{World}
use Rattle.qs_world_agree.specs.World as machine
use Rattle.qs_world_refine.specs.Faces.{Face}
use Rattle.qs_world_refine.specs.Links.{Closed, Inquired, Link, Outcome_told, Requested, Said, Taken_in, link, names_node, node_no, waiting_link}
use Rattle.qs_world_refine.specs.Places.{class_in, home_place, known_place, place}
use Rattle.qs_world_refine.specs.Shows.{scene_of, sight}
use Rattle.qs_world_refine.specs.Sights.{Sight, is_in_doubt, list_of}
use Rattle.qs_world_refine.specs.Sound.{same_flag, where_so}
use Rattle.qs_world_trials.specs.CountTests.{servers}

-- numbers that a run has: of its nodes, of servers and of clients
abbrev each_node : Sight → (ℕ → Bool) → Bool
each_node x test = list_all test (up_to x.size)

abbrev each_running : Sight → (ℕ → Bool) → Bool
each_running x test = each_node x (λ (n : ℕ). where_so (x.up n) (test n))

abbrev each_server : (ℕ → Bool) → Bool
each_server test = list_all test servers

abbrev same_outcome : machine.Outcome → machine.Outcome → Bool
same_outcome machine.Open machine.Open = true
same_outcome machine.Committed machine.Committed = true
same_outcome machine.Aborted machine.Aborted = true
same_outcome _ _ = false

abbrev same_class : machine.Class → machine.Class → Bool
same_class machine.Recoverable machine.Recoverable = true
same_class machine.Volatile machine.Volatile = true
same_class machine.OnePhase machine.OnePhase = true
same_class machine.Immediate machine.Immediate = true
same_class machine.Activity machine.Activity = true
same_class _ _ = false

abbrev votes : machine.Class → Bool
votes machine.Recoverable = true
votes machine.Volatile = true
votes _ = false

-- ---- the stage

abbrev is_place_shown : Sight → machine.World → ℕ → ℕ → Bool
is_place_shown x w n i = (w.node (place n i) == n) && same_flag (w.up (place n i)) (x.up n && (i == x.inc n))

abbrev is_node_shown : Sight → machine.World → ℕ → Bool
is_node_shown x w n =
    ((w.present n == place n (x.inc n)) && list_all (is_place_shown x w n) (up_to (x.inc n + 3)))
    && (each_server (λ (s : ℕ). same_class (w.class n s) (class_in (class_of s)))
    && where_so (x.up n) (each_node x (λ (m : ℕ). w.peer (place n (x.inc n)) m == known_place m (x.knows n m))))

abbrev is_stage_shown : Tid → Sight → machine.World → Bool
is_stage_shown tid x w = nat_le x.size 16 && (names_transaction tid && ((w.home == home_place tid) && each_node x (is_node_shown x w)))

-- ---- faces

abbrev is_server_shown : Face → ℕ → machine.World → ℕ → Bool
is_server_shown f q w s =
    (w.arrived q s == w.served q s + f.waits s) && where_so (votes (w.class (w.node q) s)) (w.served q s == w.voted q s + f.uncast s)

abbrev is_open_shown : Sight → Face → ℕ → machine.World → Bool
is_open_shown x f q w =
    (each_node x (λ (m : ℕ). (w.covered q m == f.covered m) && same_flag (w.told_set q m) (f.told m)) && each_server (is_server_shown f q w))
    && ((same_flag (w.asked q) f.asked && (same_flag (w.involved q) f.involved && (w.loans q == f.loans)))
    && where_so (not f.blocked) (not (w.refused q) && (not (w.gone q) && not (w.abort_vote q))))

-- nothing came from a place that is not known yet
abbrev is_new_to : machine.World → ℕ → ℕ → Bool
is_new_to w q p = where_so (nat_lt (w.peer q (w.node p)) p) (w.last q p == 0)

abbrev is_member_shown : Face → ℕ → machine.World → ℕ → Bool
is_member_shown f q w m =
    (where_so (not (same_outcome f.outcome machine.Committed)) (w.sent q m == f.sent m) && where_so (f.told m) (w.told_set q m))
    && where_so (same_outcome f.outcome machine.Aborted && f.tell m) (w.to_tell q m || w.tell_abort m)

abbrev is_superior_shown : Face → ℕ → machine.World → Bool
is_superior_shown f q w =
    where_so (f.on && not f.is_home) ((w.superior q == f.superior) && (w.last q (w.peer q f.superior) == f.last f.superior))

abbrev is_face_shown : Sight → Face → ℕ → machine.World → Bool
is_face_shown x f q w =
    (w.up q && (same_outcome (w.outcome q) f.outcome && (same_flag (w.engaged q) f.on && is_superior_shown f q w)))
    && ((each_node x (is_member_shown f q w) && each_node x (λ (m : ℕ). list_all (λ (i : ℕ). is_new_to w q (place m i)) (up_to (x.inc m + 3))))
    && where_so (same_outcome f.outcome machine.Open) (is_open_shown x f q w))

-- ---- what is on its way

abbrev is_empty_link : Link → Bool
is_empty_link l =
    (nat_le l.received l.posted && (nat_le l.taken l.closers && where_so l.to_home (nat_le l.inquiry_taken l.inquiry_put)))
    && where_so l.live ((l.received == l.posted) && ((l.taken == l.closers) && where_so l.to_home (l.inquiry_taken == l.inquiry_put)))

abbrev is_tell : Link → Bool → Bool
is_tell l true = l.tell_commit
is_tell l false = l.tell_abort

abbrev is_told : Link → List NodeNo → Bool
is_told l [] = l.ack_put || l.aborted
is_told l further = l.aborted && list_all (λ (n : ℕ). where_so (names_node further (node_no n)) (l.named n)) (up_to 16)

abbrev is_link : Link → List Said → Bool
is_link l [] = is_empty_link l
is_link l (Requested number server ∷ rest) = ((number == l.received + 1) && (server == l.server number)) && is_link (record l { received = l.received + 1 }) rest
is_link l (Closed number told ∷ rest) =
    ((number == l.closer (l.taken + 1)) && list_all (λ (n : ℕ). same_flag (l.closer_set (l.taken + 1) n) (names_node told (node_no n))) (up_to 16))
    && is_link (record l { taken = l.taken + 1 }) rest
is_link l (Outcome_told commit ∷ rest) = is_tell l commit && is_link l rest
is_link l (Taken_in further ∷ rest) = is_told l further && is_link l rest
is_link l (Inquired ∷ rest) = is_link (record l { inquiry_taken = l.inquiry_taken + 1 }) rest

abbrev are_links_to : Sight → machine.World → ℕ → ℕ → Bool
are_links_to x w n m = list_all (λ (i : ℕ). is_link (link w (place n i) (place m (x.inc m))) (x.said n i m (x.inc m))) (up_to (x.inc n + 2))

abbrev is_unmet_shown : Sight → machine.World → ℕ → ℕ → Bool
is_unmet_shown x w n m = where_so (x.knows n m == 0) (is_link (waiting_link w (place n (x.inc n)) m) (x.unmet n m))

abbrev is_way_shown : Sight → machine.World → ℕ → ℕ → Bool
is_way_shown x w n m = where_so (x.up m) (are_links_to x w n m) && where_so (x.up n) (is_unmet_shown x w n m)

-- ---- logs

abbrev is_home_log : Tid → Sight → Recovery → machine.World → Bool
is_home_log tid x found w =
    (same_flag w.commit_logged (list_any (same_tid tid) found.committed) && same_flag w.unended (list_any (is_untold_of tid) found.untold))
    && where_so w.unended (each_node x (λ (m : ℕ). same_flag (w.commit_list m) (names_node (list_of tid found) (node_no m))))

abbrev is_log_shown : Tid → Sight → machine.World → ℕ → Bool
is_log_shown tid x w n =
    each_server (λ (s : ℕ). same_flag (w.prepared n s) (is_in_doubt tid s (x.found n))) && where_so (n == tid.home.0) (is_home_log tid x (x.found n) w)

-- ---- all that is seen of it

abbrev is_sight_shown : Tid → Sight → machine.World → Bool
is_sight_shown tid x w =
    (is_stage_shown tid x w && each_running x (λ (n : ℕ). is_face_shown x (x.face n) (place n (x.inc n)) w))
    && (each_node x (λ (n : ℕ). each_node x (is_way_shown x w n)) && each_node x (is_log_shown tid x w))

-- ---- places that have not begun know nobody, and 0 is none

abbrev is_at_place : machine.World → ℕ → ℕ → Bool
is_at_place w q m =
    where_so (nat_lt (w.present (w.node q)) q) (w.peer q m == 0)
    && ((w.posted 0 q == 0) && where_so (w.engaged q && not (q == w.home)) (nat_le 1 (w.engager q)))

abbrev are_placed : Sight → machine.World → Bool
are_placed x w = not (w.up 0) && each_node x (λ (n : ℕ). list_all (λ (i : ℕ). each_node x (is_at_place w (place n i))) (up_to (x.inc n + 3)))

-- ---- and what nodes know of its commit, keep for its owner, and have waiting to close it

abbrev is_committed : machine.World → Bool
is_committed w = same_outcome w.cell machine.Committed

abbrev is_learnt : Tid → World → machine.World → ℕ → Bool
is_learnt tid world w n =
    where_so (world.channels.up n && tm.told_of tid false (λ part. elim part.outcome [ None ↦ false | Some outcomes.Commit ↦ true | Some outcomes.Abort ↦ false ]) (world.hosts n).node.manager)
    (is_committed w)

abbrev is_acknowledged : Tid → World → machine.World → Bool
is_acknowledged tid world w =
    where_so (world.channels.up tid.home.0)
    (tm.told_of tid true (λ part. list_all (λ (m : ℕ). where_so (has_node part.acknowledged (node_no m)) (w.acknowledged m)) (up_to 16)) (world.hosts tid.home.0).node.manager)

abbrev is_decided : Tid → World → machine.World → Bool
is_decided tid world w =
    where_so (was_committed tid (world.hosts tid.home.0).node) (is_committed w)
    && where_so (is_kept_commit (find (is_outcome_of tid) (world.hosts tid.home.0).node.kept.saved.outcomes)) (is_committed w)

abbrev may_close : Tid → ℕ → ℕ → machine.World → Record → Bool
may_close tid n q w (records.Prepare other server covers changes) = not (same_tid tid other)
may_close tid n q w (records.Commit other told) = not (same_tid tid other)
may_close tid n q w (records.Aborted other) = where_so (same_tid tid other) (same_outcome (w.outcome q) machine.Aborted)
may_close tid n q w (records.End other) =
    where_so (same_tid tid other)
    ((n == tid.home.0) && (same_outcome (w.outcome q) machine.Committed && list_all (λ (m : ℕ). where_so (w.commit_list m) (w.acknowledged m)) (up_to 16)))

abbrev closes_at : Tid → World → machine.World → ℕ → Bool
closes_at tid world w n = where_so (world.channels.up n) (list_all (may_close tid n (place n (world.channels.inc n)) w) (world.hosts n).waiting)

abbrev pub is_shown : Tid → machine.World → World → Bool
is_shown tid w world =
    (is_sight_shown tid (sight tid (scene_of world)) w && are_placed (sight tid (scene_of world)) w)
    && ((list_all (is_learnt tid world w) (up_to world.size) && is_acknowledged tid world w)
    && (is_decided tid world w && list_all (closes_at tid world w) (up_to world.size)))
