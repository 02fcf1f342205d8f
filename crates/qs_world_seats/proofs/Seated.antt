-- A cell and its clients through an event, a packet aside, a stop and a restart: the node by its own laws, and each client by its place.
use Rattle.std.proofs.Common.{◌≡◌, ◌≢◌, ◌⊎◌, ◌∙◌, ap, inl, inr, refl, subst, sym, ℕ, ◌==◌, ◌<◌, Bool, true, false, List, [], Option, Some, None, if◌then◌else◌}
use Rattle.std.proofs.lemmas.Bool.{eqb-true}
use Rattle.std.specs.Global.{Global}
use Rattle.qs_base_lemmas.proofs.Tests.{eqb-self}
use Rattle.qs_book_journal.specs.declared.entry.CrashCause.TheVariants as causes
use Rattle.qs_book_laws.proofs.Rising.{IsRising}
use Rattle.qs_cell.specs.Asides.{IsAsideReplaced, IsSetAside}
use Rattle.qs_cell.specs.Cell.{IsAsPlanned, IsCutOff, IsFollowed, IsReplaced, IsUnnumbered, IsWhole, out_of}
use Rattle.qs_cell.specs.Restart as restart
use Rattle.qs_cell.specs.Restart.{IsStillDown, inc_of}
use Rattle.qs_cell.specs.State.{Up}
use Rattle.qs_cell.specs.Visits.{all_delivered}
use Rattle.qs_cell.specs.declared.stopped.Stopped.{Stopped}
use Rattle.qs_cell_chronicle.specs.Carried.{Commands, Seen, answered}
use Rattle.qs_cell_chronicle.specs.Occasions.{event_of, taken}
use Rattle.qs_cell_chronicle.specs.declared.occasion.Occasion.{Occasion}
use Rattle.qs_cell_chronicle.specs.declared.occasion.Occasion.TheVariants as occasions
use Rattle.qs_cell_peers.specs.Sessions.{SessionsValue}
use Rattle.qs_cell_peers.specs.declared.heard.Heard.TheVariants as heards
use Rattle.qs_client.specs.declared.cell.ClientCell.{ClientCell}
use Rattle.qs_disk.specs.Fuse.{FusedValue}
use Rattle.qs_link.specs.declared.ends.NodeEnds.{NodeEnds}
use Rattle.qs_node_host.specs.Host.{HostValue, free_of, log_after, node_after}
use Rattle.qs_node_step.specs.State.{NodeValue, client_cmp}
use Rattle.qs_node_step.specs.declared.event.ClientAnswer.{ClientAnswer}
use Rattle.qs_node_step.specs.declared.event.Effects.{Effects}
use Rattle.qs_node_step.specs.declared.setting.Setting.{Setting}
use Rattle.qs_packet.specs.declared.packet.Packet.{Packet}
use Rattle.qs_record.specs.declared.record.Record.{Record}
use Rattle.qs_world.specs.Posting.{clients_after, handed_back}
use Rattle.qs_world.specs.World.{Client, Opening}
use Rattle.qs_world_merge.specs.LocalRuns.{AnswersOnly, client_at}
use Rattle.qs_world_merge.specs.Reaching.{HasReached}
use Rattle.qs_world_one.specs.Showing.{AnswersRight, IsInHand}
use Rattle.qs_world_packets.specs.PacketWorld.{PacketWorld}
use Rattle.qs_world_seats.proofs.Asides.{each_aside, each_aside_replaced}
use Rattle.qs_world_seats.proofs.Begins.{each_rises, each_stays_down}
use Rattle.qs_world_seats.proofs.Followed.{each_followed}
use Rattle.qs_world_seats.proofs.Homes.{answers_own, own_answered, seated_answered, seated_back, seated_on, seated_risen}
use Rattle.qs_world_seats.proofs.InHands.{answers_right, none_waits, still_held}
use Rattle.qs_world_seats.proofs.Stops.{each_cut, each_replaced}
use Rattle.qs_world_seats.proofs.Taking.{IsTaken, answered_rising, event_taken}
use Rattle.qs_world_seats.proofs.Wholes.{each_whole}
use Rattle.qs_world_seats.specs.Events.{IsHeard, StandsAt, handed_over, left_log, with_sessions}
use Rattle.qs_world_seats.specs.Seats.{AreOfNode, AreSeated, From, IsDueFrom, SeatDown, SeatUp, left}
use Rattle.qs_world_seats.specs.Shown.{IsDown, IsUp, Reaches, ShowsDown, observed_of}

-- ---- seats told otherwise

seats_on : (o : Opening) (n inc : ℕ) (now : Option ℕ) (commands : Commands) (ends : List NodeEnds) (f g : ℕ → Client) (clients : List ClientCell) → ((k : ℕ) → g k ≡ f k)
    → AreSeated o n inc now commands ends f clients → AreSeated o n inc now commands ends g clients
seats_on o n inc now commands ends f g clients same each client there = seated_on o n inc now commands ends f g client (sym (same client.client.0)) (each client there)

-- of what the cell carries in_hand_then
pub up_with : {D : Type 0} (o : Opening) (n : ℕ) (new : Up D) (setting : Setting) (commands : Commands) (ends : List NodeEnds) (f : ℕ → Client) (clients : List ClientCell) (world : PacketWorld) → new.carried.setting ≡ setting → new.carried.commands ≡ commands
    → IsUp n new f world → IsRising client_cmp commands → AreOfNode o n commands → IsInHand new.host.node.commands commands → AreSeated o n setting.inc (Some setting.inc) commands ends f clients → SeatUp o n new ends clients world
up_with o n new setting commands ends f clients world same_setting same up rising own held each = record {
  node = up.node;
  rising = subst (λ (c : Commands). IsRising client_cmp c) (sym same) rising;
  own = subst (λ (c : Commands). AreOfNode o n c) (sym same) own;
  held = subst (λ (c : Commands). IsInHand new.host.node.commands c) (sym same) held;
  each = subst (λ (s : Setting). AreSeated o n s.inc (Some s.inc) new.carried.commands ends world.clients clients) (sym same_setting)
      (subst (λ (c : Commands). AreSeated o n setting.inc (Some setting.inc) c ends world.clients clients) (sym same)
      (seats_on o n setting.inc (Some setting.inc) commands ends f world.clients clients up.clients_are each));
}

down_with : {D : Type 0} (o : Opening) (n : ℕ) (new : Stopped D) (setting : Setting) (commands : Commands) (ends : List NodeEnds) (log : List Record) (f : ℕ → Client) (clients : List ClientCell) (world : PacketWorld) → new.carried.setting ≡ setting → new.carried.commands ≡ commands
    → IsDown n new log f world → IsRising client_cmp commands → AreOfNode o n commands → AreSeated o n setting.inc None commands ends f clients → SeatDown o n new ends clients log world
down_with o n new setting commands ends log f clients world same_setting same down rising own each = record {
  node = down.node;
  rising = subst (λ (c : Commands). IsRising client_cmp c) (sym same) rising;
  own = subst (λ (c : Commands). AreOfNode o n c) (sym same) own;
  each = subst (λ (s : Setting). AreSeated o n s.inc None new.carried.commands ends world.clients clients) (sym same_setting)
      (subst (λ (c : Commands). AreSeated o n setting.inc None c ends world.clients clients) (sym same)
      (seats_on o n setting.inc None commands ends f world.clients clients down.clients_are each));
}

-- a line that was handed over is handed back as the node stops
back_same : (n : ℕ) (occasion : Occasion) (clients : ℕ → Client) (k : ℕ) → (clients k).at ≡ n → handed_back n (handed_over occasion clients) k ≡ handed_back n clients k
back_same n (occasions.Command line) clients k at = by (k == line.client.0) (eqb-true k line.client.0)
  where
    back : (c : Client) → c.at ≡ n → (if c.at == n then record (record c { is_handed = true }) { is_handed = false } else record c { is_handed = true }) ≡ (if c.at == n then record c { is_handed = false } else c)
    back c is = rw (is, eqb-self n) refl

    given : Bool → Client
    given b = if b then record (clients line.client.0) { is_handed = true } else clients k

    by : (b : Bool) → (b ≡ true → k ≡ line.client.0) → (if (given b).at == n then record (given b) { is_handed = false } else given b) ≡ handed_back n clients k
    by true same = ap (λ (j : ℕ). if (clients j).at == n then record (record (clients j) { is_handed = true }) { is_handed = false } else record (clients j) { is_handed = true }) (sym (same refl)) ∙ back (clients k) at
    by false same = refl
back_same n occasions.Queues clients k at = refl
back_same n occasions.Clock clients k at = refl
back_same n (occasions.Message packet) clients k at = refl
back_same n (occasions.Restarted packet known) clients k at = refl

-- ---- each event

module _ {D : Type 0} (o : Opening) (n size : ℕ) (source : From) (occasion : Occasion) (sessions : SessionsValue) (old : Up D) (ends : List NodeEnds) (clients : List ClientCell) (world : PacketWorld)
    (due_is : IsDueFrom source occasion sessions old ends clients) (reached : HasReached o n (observed_of old.carried.chronicle.told) old.carried.chronicle.told.stamp world) (seat : SeatUp o n old ends clients world) where
  abbrev inc : ℕ
  inc = old.carried.setting.inc

  abbrev in_hand_then : Commands
  in_hand_then = taken occasion inc old.carried.commands

  abbrev out : Effects
  out = out_of size occasion old

  abbrev lanes : List NodeEnds
  lanes = left source old ends

  abbrev over : ℕ → Client
  over = handed_over occasion world.clients

  stands : StandsAt o n old world
  stands = record { reached = reached; shows = seat.node }

  it : IsTaken o n source occasion sessions old ends clients world
  it = event_taken o n old ends clients world seat source occasion sessions due_is

  -- each is answered who has a command in hand, and what waits on is in hand
  right : AnswersRight in_hand_then out.answers
  right = answers_right old.host.node occasion (free_of size old.host) inc old.carried.commands seat.held

  still : IsInHand (node_after size old.host (event_of occasion)).commands (answered out.answers in_hand_then)
  still = still_held old.host.node occasion (free_of size old.host) inc old.carried.commands seat.held

  own_said : (said : List ClientAnswer) → said ≡ out.answers → AnswersOnly (client_at o) n said
  own_said said is = subst (λ (l : List ClientAnswer). AnswersOnly (client_at o) n l) (sym is) (answers_own o n in_hand_then out.answers right it.own)

  told_each : (said : List ClientAnswer) → said ≡ out.answers → AreSeated o n inc (Some inc) (answered out.answers in_hand_then) (all_delivered said lanes) (clients_after said over) clients
  told_each said is = subst (λ (l : List ClientAnswer). AreSeated o n inc (Some inc) (answered out.answers in_hand_then) (all_delivered l lanes) (clients_after l over) clients) (sym is)
      (seated_answered o n inc (Some inc) in_hand_then lanes over clients out.answers it.rising right it.each)

  told_rising : IsRising client_cmp (answered out.answers in_hand_then)
  told_rising = answered_rising out.answers in_hand_then it.rising

  told_own : AreOfNode o n (answered out.answers in_hand_then)
  told_own = own_answered o n in_hand_then out.answers right it.own

  -- the node stopped, and nobody was answered
  each_back : AreSeated o n inc None in_hand_then lanes (handed_back n world.clients) clients
  each_back client there = seated_on o n inc None in_hand_then lanes (handed_back n over) (handed_back n world.clients) client (back_same n occasion world.clients client.client.0 (seat.each client there).at)
      (seated_back o n inc (Some inc) in_hand_then lanes over clients it.each client there)

  pub whole : (new : Up D) (said : List ClientAnswer) → IsWhole size occasion (with_sessions sessions old) new said → Reaches o n new.carried.chronicle.told (SeatUp o n new (all_delivered said lanes) clients)
  whole new said is = record {
    world = r.world;
    reached = r.reached;
    shows = up_with o n new old.carried.setting (answered out.answers in_hand_then) (all_delivered said lanes) (clients_after said over) clients r.world is.setting (ap (λ (s : Seen). s.commands) is.seen) r.shows told_rising told_own
        (subst (λ (x : NodeValue). IsInHand x.commands (answered out.answers in_hand_then)) (sym is.node) still) (told_each said is.answers);
  }
    where
      r : Reaches o n new.carried.chronicle.told (IsUp n new (clients_after said over))
      r = each_whole o n size occasion sessions old new said world stands it.comes is (own_said said is.answers)

  pub followed : (new : Stopped D) (said : List ClientAnswer) → IsFollowed size occasion (with_sessions sessions old) new said
      → Reaches o n new.carried.chronicle.told (SeatDown o n new (all_delivered said lanes) clients (log_after out old.host.log).forced)
  followed new said is = record {
    world = r.world;
    reached = r.reached;
    shows = down_with o n new old.carried.setting (answered out.answers in_hand_then) (all_delivered said lanes) (log_after out old.host.log).forced (handed_back n (clients_after said over)) clients r.world is.setting (ap (λ (s : Seen). s.commands) is.seen)
        r.shows told_rising told_own (seated_back o n inc (Some inc) (answered out.answers in_hand_then) (all_delivered said lanes) (clients_after said over) clients (told_each said is.answers));
  }
    where
      r : Reaches o n new.carried.chronicle.told (IsDown n new (log_after out old.host.log).forced (handed_back n (clients_after said over)))
      r = each_followed o n size occasion sessions old new said world stands it.comes is (own_said said is.answers)

  -- for another reason than that memory was refused: where it was, the command may be lost
  pub replaced : (new : Stopped D) → IsReplaced size occasion (with_sessions sessions old) new → new.cause ≢ causes.Memory → Reaches o n new.carried.chronicle.told (SeatDown o n new lanes clients old.host.log.forced)
  replaced new is granted = record {
    world = r.world;
    reached = r.reached;
    shows = down_with o n new old.carried.setting in_hand_then lanes old.host.log.forced (handed_back n world.clients) clients r.world is.setting (commands_are is.why) r.shows it.rising it.own each_back;
  }
    where
      r : Reaches o n new.carried.chronicle.told (IsDown n new old.host.log.forced (handed_back n world.clients))
      r = each_replaced o n size occasion sessions old new world stands is

      commands_are : (new.cause ≡ causes.Memory) ⊎ (IsAsPlanned size occasion (with_sessions sessions old) new ⊎ IsUnnumbered size occasion (with_sessions sessions old) new) → new.carried.commands ≡ in_hand_then
      commands_are (inl memory) = absurd (granted memory)
      commands_are (inr (inl planned)) = planned.commands
      commands_are (inr (inr unnumbered)) = unnumbered.commands

  pub cut : (own : D → ℕ) (new : Stopped D) → IsCutOff own size occasion (with_sessions sessions old) new → (is_kept : Bool) → Reaches o n new.carried.chronicle.told (SeatDown o n new lanes clients (left_log is_kept out old.host.log))
  cut own new is is_kept = record {
    world = r.world;
    reached = r.reached;
    shows = down_with o n new old.carried.setting in_hand_then lanes (left_log is_kept out old.host.log) (handed_back n world.clients) clients r.world is.setting is.commands r.shows it.rising it.own each_back;
  }
    where
      r : Reaches o n new.carried.chronicle.told (IsDown n new (left_log is_kept out old.host.log) (handed_back n world.clients))
      r = each_cut o n own size occasion sessions old new world stands it.comes is is_kept

-- ---- a packet aside

module _ {D : Type 0} (o : Opening) (n : ℕ) (packet : Packet) (sessions : SessionsValue) (old : Up D) (ends : List NodeEnds) (clients : List ClientCell) (world : PacketWorld)
    (reached : HasReached o n (observed_of old.carried.chronicle.told) old.carried.chronicle.told.stamp world) (seat : SeatUp o n old ends clients world) where
  pub aside : (new : Up D) → IsHeard heards.Aside packet old.sessions sessions → IsSetAside packet (with_sessions sessions old) new → Reaches o n new.carried.chronicle.told (SeatUp o n new ends clients)
  aside new heard is = record {
    world = r.world;
    reached = r.reached;
    shows = up_with o n new old.carried.setting old.carried.commands ends world.clients clients r.world is.setting (ap (λ (s : Seen). s.commands) is.seen) r.shows seat.rising seat.own
        (subst (λ (h : HostValue (FusedValue D)). IsInHand h.node.commands old.carried.commands) (sym is.host) seat.held) seat.each;
  }
    where
      r : Reaches o n new.carried.chronicle.told (IsUp n new world.clients)
      r = each_aside o n packet sessions old new world (record { reached = reached; shows = seat.node }) heard is

  pub aside_replaced : (new : Stopped D) → IsAsideReplaced packet (with_sessions sessions old) new → Reaches o n new.carried.chronicle.told (SeatDown o n new ends clients old.host.log.forced)
  aside_replaced new is = record {
    world = r.world;
    reached = r.reached;
    shows = down_with o n new old.carried.setting old.carried.commands ends old.host.log.forced (handed_back n world.clients) clients r.world is.setting is.commands r.shows seat.rising seat.own
        (seated_back o n old.carried.setting.inc (Some old.carried.setting.inc) old.carried.commands ends world.clients clients seat.each);
  }
    where
      r : Reaches o n new.carried.chronicle.told (IsDown n new old.host.log.forced (handed_back n world.clients))
      r = each_aside_replaced o n packet sessions old new world (record { reached = reached; shows = seat.node }) is

-- ---- a restart

module _ {D : Type 0} (o : Opening) (n : ℕ) (old : Stopped D) (ends : List NodeEnds) (clients : List ClientCell) (world : PacketWorld) (log : List Record)
    (reached : HasReached o n (observed_of old.carried.chronicle.told) old.carried.chronicle.told.stamp world) (seat : SeatDown o n old ends clients log world) where
  pub risen : (alloc : Global) (new : Up D) → restart.IsUp alloc old new → new.host.log.waiting ≡ [] → old.carried.setting.inc < inc_of new.host.log → new.host.log.forced ≡ log
      → Reaches o n new.carried.chronicle.told (SeatUp o n new ends clients)
  risen alloc new is none later same = record {
    world = r.world;
    reached = r.reached;
    shows = up_with o n new (record old.carried.setting { inc = inc_of new.host.log }) old.carried.commands ends world.clients clients r.world is.setting (ap (λ (s : Seen). s.commands) is.seen) r.shows seat.rising seat.own
        (none_waits new.host.node.commands old.carried.commands (ap (λ (x : NodeValue). x.commands) is.node)) (seated_risen o n old.carried.setting.inc (inc_of new.host.log) old.carried.commands ends world.clients clients later seat.each);
  }
    where
      r : Reaches o n new.carried.chronicle.told (IsUp n new world.clients)
      r = each_rises o n alloc old new world is none later reached (subst (λ (l : List Record). ShowsDown n old l world) (sym same) seat.node)

  pub stays : (new : Stopped D) → IsStillDown old new → Reaches o n new.carried.chronicle.told (SeatDown o n new ends clients log)
  stays new is = record {
    world = r.world;
    reached = r.reached;
    shows = down_with o n new old.carried.setting old.carried.commands ends log world.clients clients r.world is.setting (ap (λ (s : Seen). s.commands) is.seen) r.shows seat.rising seat.own seat.each;
  }
    where
      r : Reaches o n new.carried.chronicle.told (IsDown n new log world.clients)
      r = each_stays_down o n old new log world is reached seat.node
