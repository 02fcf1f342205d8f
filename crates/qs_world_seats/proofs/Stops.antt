-- A crash of a cell goes on in the world: in place of an event, within a step, and right behind one.
use Rattle.std.proofs.Common.{◌≡◌, ◌⊎◌, ◌∙◌, ap, inl, inr, refl, subst, sym, ℕ, ◌≤◌, ◌<◌, ◌==◌, ◌&&◌, Bool, true, false, List, [], ◌∷◌, ◌++◌, Option, Some, None, map, if◌then◌else◌}
use Rattle.std.specs.List.{list_any}
use Rattle.std.specs.Prelude.{is_some}
use Rattle.qs_book_journal.specs.declared.entry.Act.TheVariants as acts
use Rattle.qs_book_journal.specs.declared.entry.CrashCause.{CrashCause}
use Rattle.qs_book_journal.specs.declared.entry.CrashCause.TheVariants as causes
use Rattle.qs_book_machine.specs.Clauses.{is_crash}
use Rattle.qs_cell.specs.Cell.{IsAsPlanned, IsFaulted, IsRefused, IsUnnumbered, is_forestalled, may_make, out_of, planned_after, why_not}
use Rattle.qs_cell.specs.declared.running.Running.{Running}
use Rattle.qs_cell.specs.declared.stopped.Stopped.{Stopped}
use Rattle.qs_cell_chronicle.specs.Carried.{Seen, is_replaced, seen}
use Rattle.qs_cell_chronicle.specs.Chronicle.{Told, counted, crashed, is_last_past, last_stamp}
use Rattle.qs_cell_chronicle.specs.Occasions.{did_of, event_of, stamp_in}
use Rattle.qs_cell_chronicle.specs.Points.{stops_before}
use Rattle.qs_cell_chronicle.specs.declared.occasion.Occasion.{Occasion}
use Rattle.qs_cell_chronicle.specs.declared.occasion.Occasion.TheVariants as occasions
use Rattle.qs_cell_peers.proofs.Places.{peer_is}
use Rattle.qs_cell_peers.specs.Sessions.{SessionsValue}
use Rattle.qs_engage.specs.Engage.{last_number}
use Rattle.qs_node_host.specs.Host.{HostValue}
use Rattle.qs_node_step.specs.State.{NodeValue}
use Rattle.qs_node_step.specs.Step.{effects_of}
use Rattle.qs_node_step.specs.declared.event.Effects.{Effects}
use Rattle.qs_node_step.specs.declared.event.Event.{Event}
use Rattle.qs_node_step.specs.declared.setting.Setting.{Setting}
use Rattle.qs_node_step.specs.declared.trace.Did.{Did}
use Rattle.qs_record.specs.declared.record.Record.{Record}
use Rattle.qs_world.specs.Moves.{cut_log, node_no, stopped_host}
use Rattle.qs_world.specs.Posting.{handed_back}
use Rattle.qs_world.specs.World.{Host, Opening}
use Rattle.qs_world_merge.proofs.MayMoves.{may_cuts, may_stops}
use Rattle.qs_world_merge.proofs.NetworkSame.{at_place}
use Rattle.qs_world_merge.proofs.Reaches.{each_reached_up_to}
use Rattle.qs_world_merge.specs.LocalRuns.{MayLocally, client_at}
use Rattle.qs_world_merge.specs.Observed.{Took}
use Rattle.qs_world_merge.specs.Reaching.{HasReached, HasStampsUpTo}
use Rattle.qs_world_merge.specs.StepMoves.{DoesAs, one_move, seen as bare}
use Rattle.qs_world_one.proofs.AsHost.{stepped as stepped_as_host}
use Rattle.qs_world_one.specs.InWorld.{host_of}
use Rattle.qs_world_packets.specs.PacketMoves.{Cut, Move, Stop, event_of as world_event, cut_with, moved, stopped}
use Rattle.qs_world_packets.specs.PacketWorld.{PacketWorld}
use Rattle.qs_world_traces.proofs.MessagesTaken.{as_brought}
use Rattle.qs_world_traces.specs.Links.{put_to, took_from}
use Rattle.qs_world_seats.proofs.Cells as cells
use Rattle.qs_world_seats.proofs.Making.{makes, none_put}
use Rattle.qs_world_seats.proofs.Sources.{source_of}
use Rattle.qs_world_seats.proofs.Stamps.{IsNext, below_limit, step_at}
use Rattle.qs_world_seats.proofs.Stepping.{source_took}
use Rattle.qs_world_seats.specs.Events.{CutGoesOn, ReplacedGoesOn, StandsAt, left_log, with_sessions}
use Rattle.qs_world_seats.specs.Shown.{IsDown, Reaches, observed_of}

-- ---- a node that is up and stops

-- what is told, and what the node is, in a world in which it is up
pub record Runs (o : Opening) (n : ℕ) (told : Told) (setting : Setting) (node : NodeValue) (world : PacketWorld) : Type 0 where
  pub reached : HasReached o n (observed_of told) told.stamp world
  pub in_run : n < o.size
  pub told_of : told.node ≡ node_no n
  pub within : told.stamp ≤ last_stamp
  pub up : world.network.up n ≡ true
  pub inc : world.network.inc n ≡ setting.inc
  pub nodes : setting.nodes ≡ world.size
  pub is_node : setting.node ≡ node_no n
  pub node_is : (world.hosts n).node ≡ node
  pub setting_is : node.setting ≡ setting

-- with a later stamp, or with the last one again
module _ (o : Opening) (n : ℕ) (told next : Told) (at_next : IsNext told next) (setting : Setting) (node : NodeValue) (left : List Record) (world : PacketWorld) (runs : Runs o n told setting node world) (did : Did) (cause : CrashCause) where
  abbrev after : PacketWorld
  after = stopped world n next.stamp cause left

  low_then : HasStampsUpTo o.size n told.stamp world
  low_then = each_reached_up_to o n (observed_of told) told.stamp world runs.reached

  pub reached_by : (move : Move) (event : Option Event) → MayLocally (client_at o) n told.stamp world (record { stamp = next.stamp; move = move; event = event }) → moved move world ≡ after
      → DoesAs o.size n next.stamp did (Some cause) (one_move next.stamp move event) → Took o.size n (λ m. map bare (took_from m (told.trace ++ step_at n next did [] (Some cause) ∷ []))) move
      → HasReached o n (observed_of (crashed did cause next)) next.stamp after
  reached_by move event may leads does takes = makes o n told next did [] (acts.Crash cause ∷ []) (Some cause) world after move event (record {
    reached = runs.reached;
    at_next = at_next;
    node = runs.told_of;
    may = may;
    leads = leads;
    does = does;
    journal = refl;
    puts = λ m peer. none_put (map bare (put_to m told.trace)) (world.network.packets n m) (runs.reached.puts m (peer_is o.size n m peer).0 (peer_is o.size n m peer).1);
    takes = takes;
  })

  pub may_stop : is_crash cause ≡ true → MayLocally (client_at o) n told.stamp world (record { stamp = next.stamp; move = Stop n next.stamp cause; event = None })
  may_stop crash = record {
    of_node = refl;
    rises = at_next.later;
    made_at = refl;
    may = may_stops o.size n told.stamp world next.stamp cause low_then runs.in_run at_next.later (below_limit next.stamp (at_next.within runs.within)) runs.up crash;
    event_is = refl;
    own = tt;
  }

  pub down : {D : Type 0} (new : Stopped D) → new.carried.chronicle.told ≡ crashed did cause next → new.kept ≡ node.kept.saved → new.carried.setting ≡ setting
      → HasReached o n (observed_of (crashed did cause next)) next.stamp after → Reaches o n new.carried.chronicle.told (IsDown n new left (handed_back n world.clients))
  down new told_is kept same reached = record {
    world = after;
    reached = subst (λ (t : Told). HasReached o n (observed_of t) t.stamp after) (sym told_is) reached;
    shows = record {
      node = record {
        carried = record {
          in_run = subst (λ (k : ℕ). n < k) (sym low_then.size_is) runs.in_run;
          told_of = ap (λ (t : Told). t.node) told_is ∙ (at_next.node ∙ runs.told_of);
          within = subst (λ (t : Told). t.stamp ≤ last_stamp) (sym told_is) (at_next.within runs.within);
          nodes = ap (λ (s : Setting). s.nodes) same ∙ runs.nodes;
          node = ap (λ (s : Setting). s.node) same ∙ runs.is_node;
          inc = runs.inc ∙ sym (ap (λ (s : Setting). s.inc) same);
        };
        down = at_place world.network.up n false;
        setting = ap (λ (h : Host). h.node.setting) host_is ∙ (ap (λ (x : NodeValue). x.setting) runs.node_is ∙ (runs.setting_is ∙ sym same));
        kept = ap (λ (h : Host). h.node.kept.saved) host_is ∙ (ap (λ (x : NodeValue). x.kept.saved) runs.node_is ∙ sym kept);
        log_is = ap (λ (h : Host). h.log) host_is;
        none = ap (λ (h : Host). h.waiting) host_is;
      };
      clients_are = λ k. refl;
    };
  }
    where
      host_is : after.hosts n ≡ stopped_host next.stamp left (world.hosts n)
      host_is = at_place world.hosts n (stopped_host next.stamp left (world.hosts n))

-- a stop in place of an event, or behind a step
pub stop_in_place : {D : Type 0} (o : Opening) (n : ℕ) (told next : Told) (at_next : IsNext told next) (setting : Setting) (node : NodeValue) (world : PacketWorld) (runs : Runs o n told setting node world) (did : Did) (cause : CrashCause) (new : Stopped D)
    → DoesAs o.size n next.stamp did (Some cause) (one_move next.stamp (Stop n next.stamp cause) None) → is_crash cause ≡ true
    → new.carried.chronicle.told ≡ crashed did cause next → new.kept ≡ node.kept.saved → new.carried.setting ≡ setting
    → Reaches o n new.carried.chronicle.told (IsDown n new (world.hosts n).log (handed_back n world.clients))
stop_in_place o n told next at_next setting node world runs did cause new does crash told_is kept same =
    down o n told next at_next setting node (world.hosts n).log world runs did cause new told_is kept same
    (reached_by o n told next at_next setting node (world.hosts n).log world runs did cause (Stop n next.stamp cause) None (may_stop o n told next at_next setting node (world.hosts n).log world runs did cause crash) refl does tt)

pub runs_up : {D F X : Type 0} (o : Opening) (n : ℕ) (old : Running D F X) (world : PacketWorld) → StandsAt o n old world → Runs o n old.carried.chronicle.told old.carried.setting old.host.node world
runs_up o n old world stands = record {
  reached = stands.reached;
  in_run = subst (λ (k : ℕ). n < k) (each_reached_up_to o n (observed_of old.carried.chronicle.told) old.carried.chronicle.told.stamp world stands.reached).size_is stands.shows.carried.in_run;
  told_of = stands.shows.carried.told_of;
  within = stands.shows.carried.within;
  up = stands.shows.up;
  inc = stands.shows.carried.inc;
  nodes = stands.shows.carried.nodes;
  is_node = stands.shows.carried.node;
  node_is = ap (λ (h : Host). h.node) stands.shows.host;
  setting_is = stands.shows.setting;
}

-- a node that is up in the world stops in place of an event
pub stopped_up : {D F X : Type 0} (o : Opening) (n : ℕ) (old : Running D F X) (world : PacketWorld) → StandsAt o n old world → (next : Told) → IsNext old.carried.chronicle.told next → (did : Did) (cause : CrashCause) (new : Stopped D)
    → DoesAs o.size n next.stamp did (Some cause) (one_move next.stamp (Stop n next.stamp cause) None) → is_crash cause ≡ true
    → new.carried.chronicle.told ≡ crashed did cause next → new.kept ≡ old.host.node.kept.saved → new.carried.setting ≡ old.carried.setting
    → Reaches o n new.carried.chronicle.told (IsDown n new old.host.log.forced (handed_back n world.clients))
stopped_up o n old world stands next at_next did cause new does crash told_is kept same =
    subst (λ (l : List Record). Reaches o n new.carried.chronicle.told (IsDown n new l (handed_back n world.clients))) (ap (λ (h : Host). h.log) stands.shows.host)
    (stop_in_place o n old.carried.chronicle.told next at_next old.carried.setting old.host.node world (runs_up o n old world stands) did cause new does crash told_is kept same)

-- ---- in place of an event

does_stop : (size n s : ℕ) (occasion : Occasion) (cause : CrashCause) → DoesAs size n s (did_of occasion) (Some cause) (one_move s (Stop n s cause) None)
does_stop size n s (occasions.Command line) cause = inl refl
does_stop size n s occasions.Queues cause = inl refl
does_stop size n s occasions.Clock cause = inl refl
does_stop size n s (occasions.Message packet) cause = inl refl
does_stop size n s (occasions.Restarted packet known) cause = inl refl

-- what the script or a last value asks for is a cause that histories have
pub why_crash : (at_last replaced : Bool) (cause : CrashCause) → why_not at_last replaced ≡ Some cause → is_crash cause ≡ true
why_crash true replaced cause e = subst (λ (c : CrashCause). is_crash c ≡ true) (one e) refl
  where
    one : Some (causes.Last last_stamp) ≡ Some cause → causes.Last last_stamp ≡ cause
    one same = cc same
why_crash false true cause e = subst (λ (c : CrashCause). is_crash c ≡ true) (one e) refl
  where
    one : Some causes.Plan ≡ Some cause → causes.Plan ≡ cause
    one same = cc same
why_crash false false cause e = absurd (cc e)

held_crash : (may stops : Bool) (cause : CrashCause) → (if may then (if stops then Some causes.Plan else None) else Some (causes.Last last_number)) ≡ Some cause → is_crash cause ≡ true
held_crash false stops cause e = subst (λ (c : CrashCause). is_crash c ≡ true) (one e) refl
  where
    one : Some (causes.Last last_number) ≡ Some cause → causes.Last last_number ≡ cause
    one same = cc same
held_crash true true cause e = subst (λ (c : CrashCause). is_crash c ≡ true) (one e) refl
  where
    one : Some causes.Plan ≡ Some cause → causes.Plan ≡ cause
    one same = cc same
held_crash true false cause e = absurd (cc e)

planned_crash : (may stops : Bool) (why : Option CrashCause) (cause : CrashCause) → ((c : CrashCause) → why ≡ Some c → is_crash c ≡ true) → planned_after may stops why ≡ Some cause → is_crash cause ≡ true
planned_crash may stops None cause ordered e = held_crash may stops cause e
planned_crash may stops (Some why) cause ordered e = ordered cause e

pub each_replaced : {D F X : Type 0} (o : Opening) (n size : ℕ) (occasion : Occasion) (sessions : SessionsValue) (old : Running D F X) (new : Stopped D) (world : PacketWorld) → ReplacedGoesOn o n size occasion sessions old new world
each_replaced o n size occasion sessions old new world stands is =
    stopped_up o n old world stands (cells.next o n size occasion sessions old world stands) (cells.at_next o n size occasion sessions old world stands) (did_of occasion) new.cause new
    (does_stop o.size n (cells.next o n size occasion sessions old world stands).stamp occasion new.cause) (crash is.why) is.told is.kept is.setting
  where
    crash : (new.cause ≡ causes.Memory) ⊎ (IsAsPlanned size occasion (with_sessions sessions old) new ⊎ IsUnnumbered size occasion (with_sessions sessions old) new) → is_crash new.cause ≡ true
    crash (inl memory) = rw memory refl
    crash (inr (inr unnumbered)) = subst (λ (c : CrashCause). is_crash c ≡ true) (sym unnumbered.cause) refl
    crash (inr (inl as_planned)) = planned_crash (may_make old.host.node occasion) (is_forestalled size occasion (with_sessions sessions old))
        (why_not (is_last_past (stamp_in occasion) old.carried.chronicle.told) (is_replaced (counted old.carried.chronicle.told.events) old.carried.crashes)) new.cause
        (why_crash (is_last_past (stamp_in occasion) old.carried.chronicle.told) (is_replaced (counted old.carried.chronicle.told.events) old.carried.crashes)) as_planned.cause

-- ---- within a step

or_plan : (its : CrashCause) (same : Bool) → is_crash (if same && is_crash its then its else causes.Plan) ≡ true
or_plan its same = by (is_crash its) refl same
  where
    by : (b : Bool) → is_crash its ≡ b → (same : Bool) → is_crash (if same && b then its else causes.Plan) ≡ true
    by true is true = is
    by false is true = refl
    by true is false = refl
    by false is false = refl

-- a fault that is told as the disk's own is borne out by its count
cut_crash : {D F X : Type 0} (own : D → ℕ) (size : ℕ) (occasion : Occasion) (old : Running D F X) (new : Stopped D)
    → IsRefused size occasion old new ⊎ IsFaulted own size occasion old new → is_crash new.cause ≡ true
cut_crash own size occasion old new (inl refused) = subst (λ (c : CrashCause). is_crash c ≡ true) (sym refused.cause) refl
cut_crash own size occasion old new (inr faulted) =
    subst (λ (c : CrashCause). is_crash c ≡ true) (sym faulted.cause)
    (or_plan (causes.Disk (own old.host.log.disk.disk) (own new.disk.disk)) (old.host.log.disk.fuse.trips == new.disk.fuse.trips))

does_cut : (size n s free : ℕ) (occasion : Occasion) (is_kept : Bool) (cause : CrashCause) → DoesAs size n s (did_of occasion) (Some cause) (one_move s (Cut n s free (source_of occasion) is_kept cause) (Some (event_of occasion)))
does_cut size n s free (occasions.Command line) is_kept cause = inr (record { free = free; is_kept = is_kept; event = Some (event_of (occasions.Command line)); is = refl })
does_cut size n s free occasions.Queues is_kept cause = inr (record { free = free; is_kept = is_kept; event = Some (event_of occasions.Queues); is = refl })
does_cut size n s free occasions.Clock is_kept cause = inr (record { free = free; is_kept = is_kept; event = Some (event_of occasions.Clock); is = refl })
does_cut size n s free (occasions.Message packet) is_kept cause =
    inr (record { brought = as_brought packet; plain = refl; cut = record { free = free; is_kept = is_kept; event = Some (event_of (occasions.Message packet)); is = refl } })
does_cut size n s free (occasions.Restarted packet known) is_kept cause =
    inr (record { brought = as_brought packet; plain = refl; cut = record { free = free; is_kept = is_kept; event = Some (event_of (occasions.Restarted packet known)); is = refl } })

-- what the cut leaves
cut_leaves : {D : Type 0} (is_kept : Bool) (stamp : ℕ) (host : HostValue D) (out : Effects) → cut_log (host_of stamp host) is_kept out ≡ left_log is_kept out host.log
cut_leaves false stamp host out = refl
cut_leaves true stamp host out = sym (ap (λ (h : Host). h.log) (stepped_as_host stamp stamp host host.node out))

pub each_cut : {D F X : Type 0} (o : Opening) (n : ℕ) (own : D → ℕ) (size : ℕ) (occasion : Occasion) (sessions : SessionsValue) (old : Running D F X) (new : Stopped D) (world : PacketWorld) → CutGoesOn o n own size occasion sessions old new world
each_cut o n own size occasion sessions old new world stands comes is is_kept =
    down o n told_now next_now at_now old.carried.setting old.host.node left world runs (did_of occasion) new.cause new is.told is.kept is.setting
    (reached_by o n told_now next_now at_now old.carried.setting old.host.node left world runs (did_of occasion) new.cause (Cut n next_now.stamp its_free (source_of occasion) is_kept new.cause) (Some (event_of occasion)) may leads
    (does_cut o.size n next_now.stamp its_free occasion is_kept new.cause) (source_took o.size n told_now.trace occasion next_now [] (Some new.cause) (cells.it o n size occasion sessions old world stands comes is.unplanned).of_peer))
  where
    told_now : Told
    told_now = old.carried.chronicle.told

    next_now : Told
    next_now = cells.next o n size occasion sessions old world stands

    at_now : IsNext told_now next_now
    at_now = cells.at_next o n size occasion sessions old world stands

    its_free : ℕ
    its_free = cells.free o n size occasion sessions old world stands

    left : List Record
    left = left_log is_kept (out_of size occasion old) old.host.log

    runs : Runs o n told_now old.carried.setting old.host.node world
    runs = runs_up o n old world stands

    its_event : world_event world n next_now.stamp (source_of occasion) ≡ Some (event_of occasion)
    its_event = cells.event_is o n size occasion sessions old world stands comes is.unplanned

    may : MayLocally (client_at o) n told_now.stamp world (record { stamp = next_now.stamp; move = Cut n next_now.stamp its_free (source_of occasion) is_kept new.cause; event = Some (event_of occasion) })
    may = record {
      of_node = refl;
      rises = at_now.later;
      made_at = refl;
      may = may_cuts o.size n told_now.stamp world next_now.stamp its_free (source_of occasion) is_kept new.cause (cells.low o n size occasion sessions old world stands) (record {
        in_run = cells.in_run o n size occasion sessions old world stands;
        later = (cells.above o n size occasion sessions old world stands comes is.unplanned).later;
        low = (cells.above o n size occasion sessions old world stands comes is.unplanned).low;
        up = stands.shows.up;
        some = ap (λ (e : Option Event). is_some e) its_event;
        serves = cells.serves o n size occasion sessions old world stands comes is.unplanned;
      }) (cut_crash own size occasion (with_sessions sessions old) new is.why);
      event_is = its_event;
      own = tt;
    }

    left_is : cut_log (world.hosts n) is_kept (effects_of (world.hosts n).node (event_of occasion) its_free) ≡ left
    left_is = ap (λ (h : Host). cut_log h is_kept (effects_of h.node (event_of occasion) its_free)) stands.shows.host ∙ cut_leaves is_kept (world.hosts n).stamp old.host (out_of size occasion old)

    leads : moved (Cut n next_now.stamp its_free (source_of occasion) is_kept new.cause) world ≡ stopped world n next_now.stamp new.cause left
    leads = ap (cut_with world n next_now.stamp its_free is_kept new.cause) its_event ∙ ap (stopped world n next_now.stamp new.cause) left_is
