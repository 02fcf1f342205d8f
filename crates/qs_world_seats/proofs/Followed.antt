-- A whole step of a cell, and a crash right behind it, go on in the world: the step, and a stop with the next stamp.
use Rattle.std.proofs.Common.{◌≡◌, ◌∙◌, ap, refl, subst, sym, ℕ, List, None}
use Rattle.qs_book_journal.specs.declared.entry.CrashCause.TheVariants as causes
use Rattle.qs_cell.specs.declared.running.Running.{Running}
use Rattle.qs_cell.specs.declared.stopped.Stopped.{Stopped}
use Rattle.qs_cell_chronicle.specs.Carried.{Seen}
use Rattle.qs_cell_chronicle.specs.Chronicle.{Told, crashed, noted, stamped}
use Rattle.qs_cell_chronicle.specs.Occasions.{did_of, event_of}
use Rattle.qs_cell_chronicle.specs.declared.occasion.Occasion.{Occasion}
use Rattle.qs_cell_peers.specs.Sessions.{SessionsValue}
use Rattle.qs_node_host.specs.Host.{log_after, node_after}
use Rattle.qs_node_step.specs.State.{NodeValue}
use Rattle.qs_node_step.specs.declared.event.ClientAnswer.{ClientAnswer}
use Rattle.qs_node_step.specs.declared.trace.Did.TheVariants as dids
use Rattle.qs_record.specs.declared.record.Record.{Record}
use Rattle.qs_world.specs.Posting.{clients_after, handed_back}
use Rattle.qs_world.specs.World.{Client, Host, Opening}
use Rattle.qs_world_lawful.proofs.SameSetting.{step_same}
use Rattle.qs_world_merge.proofs.Reaches.{each_reached_up_to}
use Rattle.qs_world_merge.specs.LocalRuns.{AnswersOnly, client_at}
use Rattle.qs_world_merge.specs.Reaching.{HasStampsUpTo}
use Rattle.qs_world_packets.specs.PacketWorld.{PacketWorld}
use Rattle.qs_world_seats.proofs.Cells.{CellStepped, at_next, cell_stepped, free, in_run, low, next, out}
use Rattle.qs_world_seats.proofs.Stamps.{IsNext, next_stamped}
use Rattle.qs_world_seats.proofs.Stops.{Runs, stop_in_place}
use Rattle.qs_world_seats.specs.Events.{FollowedGoesOn, handed_over}
use Rattle.qs_world_seats.specs.Shown.{IsDown, Reaches, observed_of}

-- the clients may be told otherwise
other_clients : {D : Type 0} (o : Opening) (n : ℕ) (told : Told) (stopped : Stopped D) (log : List Record) (f g : ℕ → Client) → ((k : ℕ) → f k ≡ g k) → Reaches o n told (IsDown n stopped log f) → Reaches o n told (IsDown n stopped log g)
other_clients o n told stopped log f g same r = record { world = r.world; reached = r.reached; shows = record { node = r.shows.node; clients_are = λ k. r.shows.clients_are k ∙ same k } }

pub each_followed : {D F X : Type 0} (o : Opening) (n size : ℕ) (occasion : Occasion) (sessions : SessionsValue) (old : Running D F X) (new : Stopped D) (said : List ClientAnswer) (world : PacketWorld) → FollowedGoesOn o n size occasion sessions old new said world
each_followed o n size occasion sessions old new said world stands comes is own =
    other_clients o n new.carried.chronicle.told new forced (handed_back n made.new.clients) (handed_back n (clients_after said (handed_over occasion world.clients)))
    (λ k. back made.new.clients (clients_after said (handed_over occasion world.clients)) k (subst (λ (l : List ClientAnswer). made.new.clients k ≡ clients_after l (handed_over occasion world.clients) k) (sym is.answers) (made.clients k)))
    (subst (λ (l : List Record). Reaches o n new.carried.chronicle.told (IsDown n new l (handed_back n made.new.clients))) (ap (λ (h : Host). h.log) made.host)
    (stop_in_place o n mid (stamped mid) (next_stamped mid) old.carried.setting node made.new runs dids.Nothing causes.Plan new refl refl told_is is.kept is.setting))
  where
    made : CellStepped o n size occasion sessions old world stands comes is.unplanned is.put is.left
    made = cell_stepped o n size occasion sessions old world stands comes is.unplanned is.put is.left is.sent (subst (λ (l : List ClientAnswer). AnswersOnly (client_at o) n l) is.answers own)

    node : NodeValue
    node = node_after size old.host (event_of occasion)

    forced : List Record
    forced = (log_after (out o n size occasion sessions old world stands) old.host.log).forced

    mid : Told
    mid = noted (did_of occasion) is.put (out o n size occasion sessions old world stands).entries None (next o n size occasion sessions old world stands)

    at : IsNext old.carried.chronicle.told (next o n size occasion sessions old world stands)
    at = at_next o n size occasion sessions old world stands

    told_is : new.carried.chronicle.told ≡ crashed dids.Nothing causes.Plan (stamped mid)
    told_is = ap (λ (s : Seen). s.told) is.seen

    low_then : HasStampsUpTo o.size n mid.stamp made.new
    low_then = each_reached_up_to o n (observed_of mid) mid.stamp made.new made.reached

    runs : Runs o n mid old.carried.setting node made.new
    runs = record {
      reached = made.reached;
      in_run = in_run o n size occasion sessions old world stands;
      told_of = at.node ∙ stands.shows.carried.told_of;
      within = at.within stands.shows.carried.within;
      up = made.up;
      inc = made.inc ∙ stands.shows.carried.inc;
      nodes = stands.shows.carried.nodes ∙ ((low o n size occasion sessions old world stands).size_is ∙ sym low_then.size_is);
      is_node = stands.shows.carried.node;
      node_is = ap (λ (h : Host). h.node) made.host;
      setting_is = step_same old.host.node (event_of occasion) (free o n size occasion sessions old world stands) ∙ stands.shows.setting;
    }

    back : (f g : ℕ → Client) (k : ℕ) → f k ≡ g k → handed_back n f k ≡ handed_back n g k
    back f g k same = rw same refl
