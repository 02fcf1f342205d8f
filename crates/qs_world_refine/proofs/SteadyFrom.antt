-- A world that is steady, with each Commit of its logs listed at its node, has all that the law of each move asks of its nodes, logs and channels.
use Rattle.qs_world_refine.proofs.Words.{◌≡◌, ℕ, ◌+◌, ◌≤◌, ◌<◌, ◌==◌, ◌&&◌, ◌||◌, not, nat_lt, nat_le, Bool, true, false, [], ◌∷◌, ◌++◌, Option, Some, None, refl, ap, subst, ◌∙◌, arith, if◌then◌else◌, list_all, list_any, eqb-true, nat_tests, same_tid, ServerNo, Tid, peer_of, no_peer, same_node, Nodes, IpcValue, queue_at, QueueValue, count_of, is_for, Message, recovery, names_transaction, was_committed, NodeValue, Participant, Parcel, inc_in, count_in, may_be_known, is_drawn, fits, names_node}
use Rattle.qs_world_refine.proofs.Words.{node_no, AreListed, last_list, tell_of_part, began_here, is_past_commit, list_of, server_no, same_flag, IsSteadyWorld, is_steady_line, is_steady_parcel, are_two, stage_of, IsSteady, HasBegun, are_queues_apart, is_fit_message, are_servers_apart, is_settled, not_never}
use Rattle.qs_base.specs.declared.identifiers.Outcome.{Outcome}
use Rattle.qs_base.specs.declared.identifiers.Outcome.TheVariants as outcomes
use Rattle.qs_engage.specs.Nodes.{has_node}
use Rattle.qs_engage.specs.declared.engage.Engage.{Engage}
use Rattle.qs_packet.specs.declared.message.Message.TheVariants as messages
use Rattle.qs_tm.specs.Manager as tm
use Rattle.qs_world.specs.World.{World}
use Rattle.qs_world_refine.specs.Begun.{has_begun}
use Rattle.qs_world_refine.specs.Listed.{IsListedWorld, SteadyGives}
use Rattle.qs_world_refine.specs.Steadies.{IsTaken}
use Rattle.qs_world_refine.specs.Steady.{IsSteadyNode, IsEarly, is_of_run, is_node_of_run, is_fit_parcel, is_line_in_run}
use Rattle.qs_world_refine.specs.Steady as steady_specs
use Rattle.qs_world_refine.specs.SteadyFacts.{NodeFacts}
use Rattle.qs_world_refine.specs.Tidy as tidy_specs
use Rattle.qs_world_refine.proofs.StartWorlds.{alike_at}
use Rattle.qs_world_refine.proofs.NodeLists.{joined_below}
use Rattle.qs_world_refine.proofs.SaidTidy.{log_tidy, takes_up, all_parted}
use Rattle.qs_world_refine.proofs.SoundBegin.{all_implied}
use Rattle.qs_world_refine.proofs.SoundHolds.{known_sound}
use Rattle.qs_world_refine.proofs.SoundParts.{and_both, both_and}
use Rattle.qs_world_refine.proofs.SteadyGives.{node_facts, superior_known}
use Rattle.qs_world_refine.proofs.SteadyMays.{goes_of, open_at, rises_may}

-- ---- queues

servers_apart : (queues : IpcValue) → are_servers_apart queues ≡ true → are_queues_apart queues ≡ true
servers_apart [] is = refl
servers_apart (e ∷ es) is =
    let both : (list_all (tidy_specs.is_other_server e.0) es ≡ true) × (are_servers_apart es ≡ true) = and_both (list_all (tidy_specs.is_other_server e.0) es) (are_servers_apart es) is in
    both_and (list_all (steady_specs.is_other_server e.0) es) (are_queues_apart es) (all_implied (tidy_specs.is_other_server e.0) (steady_specs.is_other_server e.0) turned es both.0) (servers_apart es both.1)
  where
    turned : (x : ServerNo × QueueValue) → tidy_specs.is_other_server e.0 x ≡ true → steady_specs.is_other_server e.0 x ≡ true
    turned x is = grind (arith, nat_tests, is)

-- ---- what a node took up

early_of : (part : Participant) → IsTaken part → IsEarly part
early_of part is = record {
  peers = λ m. ap (λ (e : Engage). peer_of e (node_no m)) is.engage ∙ alike_at 16 m no_peer;
  superior = ap (λ (e : Engage). e.superior) is.engage;
  last_superior = ap (λ (e : Engage). e.last_superior) is.engage;
  waiting = is.waiting;
  blocked = is.blocked;
  undecided = is.undecided;
  committed = is.committed;
}

-- ---- a message

-- a transaction that has begun is of the run
begun_of_run : (world : World) (tid : Tid) → has_begun world tid ≡ true → is_of_run world.size tid ≡ true
begun_of_run world tid is =
    let both : (names_transaction tid ≡ true) × ((nat_lt tid.home.0 world.size && (nat_lt tid.inc (inc_in world tid.home.0) || ((tid.inc == inc_in world tid.home.0) && nat_le tid.seq (count_in world tid.home.0)))) ≡ true) = and_both (names_transaction tid) _ is in
    both_and (names_transaction tid) (nat_lt tid.home.0 world.size) both.0 (and_both (nat_lt tid.home.0 world.size) _ both.1).0

known_names : (world : World) (tid : Tid) → may_be_known world tid ≡ true → names_transaction tid ≡ true
known_names world tid is = (and_both (names_transaction tid) _ is).0

module _ (world : World) (n m : ℕ) (two : are_two world.size n m ≡ true) where
  n_low : nat_lt n world.size ≡ true
  n_low = (and_both (nat_lt n world.size) _ two).0

  m_low : nat_lt m world.size ≡ true
  m_low = (and_both (nat_lt m world.size) _ (and_both (nat_lt n world.size) _ two).1).0

  at_low : (tid : Tid) (k : ℕ) → same_node tid.home (node_no k) ≡ true → nat_lt k world.size ≡ true → nat_lt tid.home.0 world.size ≡ true
  at_low tid k same low = rw (eqb-true tid.home.0 k same) low

  message_fit : (message : Message) → fits (may_be_known world) (has_begun world) world.size (node_no n) (node_no m) message ≡ true → is_fit_message world.size n m message ≡ true
  message_fit messages.Hello is = refl
  message_fit (messages.Request tid label member number issuer op) is =
      let both : (has_begun world tid ≡ true) × ((is_for member.server op && same_node member.node (node_no m)) ≡ true) = and_both (has_begun world tid) _ is in
      both_and (is_of_run world.size tid) (is_for member.server op) (begun_of_run world tid both.0) (and_both (is_for member.server op) _ both.1).0
  message_fit (messages.Answered tid member number reply) is = begun_of_run world tid is
  message_fit (messages.AskVote tid) is = begun_of_run world tid is
  message_fit (messages.Covered tid up_to) is = begun_of_run world tid is
  message_fit (messages.VotedYes tid up_to told) is =
      let both : (has_begun world tid ≡ true) × (list_all (is_drawn world.size tid) told ≡ true) = and_both (has_begun world tid) _ is in
      both_and (is_of_run world.size tid) (list_all (is_node_of_run world.size) told) (begun_of_run world tid both.0)
      (all_implied (is_drawn world.size tid) (is_node_of_run world.size) (λ node its. (and_both (nat_lt node.0 world.size) _ its).0) told both.1)
  message_fit (messages.VotedAbort tid cause) is =
      let both : (may_be_known world tid ≡ true) × (nat_lt tid.home.0 world.size ≡ true) = and_both (may_be_known world tid) _ is in both_and (names_transaction tid) _ (known_names world tid both.0) both.1
  message_fit (messages.Tell tid outcome) is =
      let both : (may_be_known world tid ≡ true) × (same_node tid.home (node_no n) ≡ true) = and_both (may_be_known world tid) _ is in
      both_and (is_of_run world.size tid) (tid.home.0 == n) (both_and (names_transaction tid) _ (known_names world tid both.0) (at_low tid n both.1 n_low)) both.1
  message_fit (messages.Told tid further) is =
      let both : (may_be_known world tid ≡ true) × (same_node tid.home (node_no m) ≡ true) = and_both (may_be_known world tid) _ is in both_and (names_transaction tid) _ (known_names world tid both.0) (at_low tid m both.1 m_low)
  message_fit (messages.Inquire tid) is =
      let both : (may_be_known world tid ≡ true) × (same_node tid.home (node_no m) ≡ true) = and_both (may_be_known world tid) _ is in
      both_and (is_of_run world.size tid) (tid.home.0 == m) (both_and (names_transaction tid) _ (known_names world tid both.0) (at_low tid m both.1 m_low)) both.1

parcel_fit : (world : World) (n m : ℕ) (parcel : Parcel) → is_steady_parcel world n m parcel ≡ true → is_fit_parcel world.size n m parcel ≡ true
parcel_fit world n m parcel is =
    let both : (are_two world.size n m ≡ true) × (fits (may_be_known world) (has_begun world) world.size (node_no n) (node_no m) parcel.message ≡ true) = and_both (are_two world.size n m) _ is in message_fit world n m both.0 parcel.message both.1

-- ---- a transaction that has begun, at its home's node

pub begun_low : (world : World) (t : Tid) → has_begun world t ≡ true → HasBegun world t
begun_low world t is low up same = by (world.channels.up t.home.0) up (and_both (nat_lt t.home.0 world.size) _ (and_both (names_transaction t) _ is).1).1
  where
    by : (b : Bool) → b ≡ true → (nat_lt t.inc (if b then world.channels.inc t.home.0 else world.channels.inc t.home.0 + 1) || ((t.inc == (if b then world.channels.inc t.home.0 else world.channels.inc t.home.0 + 1)) && nat_le t.seq (if b then (world.hosts t.home.0).node.manager.begun else 0))) ≡ true
        → t.seq ≤ (world.hosts t.home.0).node.manager.begun
    by true on its = grind (arith, nat_tests, its, same)
    by false on its = absurd (cc (on))

-- ---- all of it

module _ (world : World) (steady : IsSteadyWorld world) (listed : IsListedWorld world) where
  module _ (n : ℕ) (low : n < world.size) (up : world.channels.up n ≡ true) where
    abbrev node : NodeValue
    node = (world.hosts n).node

    facts : NodeFacts node
    facts = node_facts world n steady low up

    -- a commit that its home knows
    decided : (t : Tid) (part : Participant) → tm.part_of t node.manager ≡ Some part → part.engage.home ≡ true → part.outcome ≡ Some outcomes.Commit → is_past_commit node t ≡ true
    decided t part known home commit = by (began_here node t) refl
      where
        homed : same_node t.home node.setting.node ≡ true
        homed = flag part.engage.home (same_node t.home node.setting.node) home (known_sound t node part known (steady.sound n low).node).homed
          where
            flag : (a b : Bool) → a ≡ true → same_flag a b ≡ true → b ≡ true
            flag true b on is = is
            flag false b on is = absurd (cc (on))

        logged : began_here node t ≡ false → list_any (same_tid t) node.committed ≡ true
        logged later = subst (λ (o : Option Outcome). is_settled o (list_any (same_tid t) node.committed) ≡ true) commit ((steady.nodes n low).tidy.crossed.earlier t part known homed later)

        by : (b : Bool) → began_here node t ≡ b → (if b then was_committed t node else list_any (same_tid t) node.committed) ≡ true
        by true here = (steady.nodes n low).tidy.crossed.commits t part known here commit
        by false later = logged later

    steady_node : IsSteadyNode node
    steady_node = record {
      kinds = facts.kinds;
      owned = facts.owned;
      commits = facts.commits;
      queues = servers_apart node.queues facts.queues;
      unknown = facts.unknown;
      fresh = facts.fresh;
      past = facts.past;
      decided = decided;
      early = λ first t part known. early_of part (((steady.nodes n low).first first).parts t part known);
      idle = λ first t s. ap (λ (queues : IpcValue). count_of t (queue_at queues (server_no s)).waiting) ((steady.nodes n low).first first).queues;
    }

  -- whom a Commit names the home is to tell
  tells : (t : Tid) (part : Participant) (low : t.home.0 < world.size) → world.channels.up t.home.0 ≡ true → tm.part_of t (world.hosts t.home.0).node.manager ≡ Some part → part.outcome ≡ Some outcomes.Commit
      → (m : ℕ) → names_node (list_of t (recovery ((world.hosts t.home.0).log ++ (world.hosts t.home.0).waiting))) (node_no m) ≡ true → has_node part.tell (node_no m) ≡ true
  tells t part low up known commit m names = subst (λ (s : Nodes). has_node s (node_no m) ≡ true) (ap found known ∙ told part commit) (its.named t m (joined_below (last_list t (recovery ((world.hosts t.home.0).log ++ (world.hosts t.home.0).waiting))) m (its.taken t m names)) names)
    where
      its : AreListed (world.hosts t.home.0).node (recovery ((world.hosts t.home.0).log ++ (world.hosts t.home.0).waiting))
      its = listed.nodes t.home.0 low up

      found : Option Participant → Nodes
      found o = elim o [ None ↦ Rattle.qs_engage.specs.Nodes.no_nodes | Some part ↦ tell_of_part part ]

      told : (part : Participant) → part.outcome ≡ Some outcomes.Commit → tell_of_part part ≡ part.tell
      told part is = rw is refl

  steady_from : IsSteady world
  steady_from = record {
    seated = steady.seated;
    sound = steady.sound;
    commands = λ n low. open_at world steady n low;
    nodes = steady_node;
    peers = λ n m knows. let two = and_both (nat_lt n world.size) (nat_lt m world.size && not (n == m)) (steady.peers n m knows) in let rest = and_both (nat_lt m world.size) (not (n == m)) two.1 in (grind (arith, nat_tests, rest.0), λ same. other n m rest.1 same);
    superior = λ n m t part low up known is. superior_known world n m t part steady low known is;
    nobody = steady.nobody;
    scripts = λ k low. all_implied (is_steady_line world.size) (is_line_in_run world.size) (λ line is. goes_of world.size line.command is) (world.clients k).lines (steady.scripts k low);
    posted = λ n m i j. all_implied (is_steady_parcel world n m) (is_fit_parcel world.size n m) (parcel_fit world n m) (world.channels.posted n m i j) (steady.posted n m i j);
    waits = λ n m. all_implied (is_steady_parcel world n m) (is_fit_parcel world.size n m) (parcel_fit world n m) (world.channels.waits n m) (steady.waits n m);
    listed = tells;
    takes_up = λ n low. takes_up (stage_of world n).past (world.hosts n).node.setting.node (recovery (world.hosts n).log)
        (log_tidy (stage_of world n).past (world.hosts n).node.setting.node (world.hosts n).log (all_parted _ (world.hosts n).log (world.hosts n).waiting (steady.nodes n low).records).0);
    unended = λ n low. (steady.nodes n low).unended;
    kept = λ n inc low down later. (rises_may world steady n low down inc later).1.1;
  }
    where
      other : (n m : ℕ) → not (n == m) ≡ true → m ≡ n → ⊥
      other n m is same = not_never (n == m) is (grind (arith, nat_tests, same))

pub steady_gives : SteadyGives
steady_gives world steady listed = steady_from world steady listed
