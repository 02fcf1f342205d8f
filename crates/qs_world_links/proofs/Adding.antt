-- What an event adds to the trace of its cell: a step that names the packet which it takes, if it takes one, and puts packets of its own node alone, with its stamp.
use Rattle.std.proofs.Common.{◌≡◌, ◌∙◌, ap, refl, subst, sym, ℕ, ◌+◌, Bool, true, false, List, [], ◌∷◌, ◌++◌, append-nil, append_assoc, arith, max, if◌then◌else◌}
use Rattle.std.specs.Prelude.{All, None, Option, Some}
use Rattle.std.specs.List.{flat_map}
use Rattle.std.proofs.lemmas.Bool.Decides.{nat_tests}
use Rattle.std.proofs.lemmas.List.Concat.{flat_map-append}
use Rattle.std.proofs.lemmas.List.Elements.{All-append, All-cons, All-nil, All-same, All-weaker}
use Rattle.qs_base.specs.declared.identifiers.NodeNo.{NodeNo}
use Rattle.qs_book_journal.specs.declared.entry.CrashCause.{CrashCause}
use Rattle.qs_book_journal.specs.declared.entry.CrashCause.TheVariants as causes
use Rattle.qs_cell.specs.Asides.{IsAsideOutcome}
use Rattle.qs_cell.specs.Cell.{IsOutcome, IsSent, begun, begun_past, out_of, ticks}
use Rattle.qs_cell.specs.Hearing.{SetsAside}
use Rattle.qs_cell.specs.Outcomes.{Outcome}
use Rattle.qs_cell.specs.Outcomes as outcomes
use Rattle.qs_cell.specs.State.{IsSeenAs, Up, state_of}
use Rattle.qs_cell.specs.Visits.{Makes}
use Rattle.qs_cell.specs.WholeVisits.{steps_in}
use Rattle.qs_cell.specs.declared.state.CellState.{CellState}
use Rattle.qs_cell.specs.declared.state.CellState.TheVariants as states
use Rattle.qs_cell.specs.declared.stopped.Stopped.{Stopped}
use Rattle.qs_cell_chronicle.specs.Carried.{Seen}
use Rattle.qs_cell_chronicle.specs.Chronicle.{Told, crashed, is_last, is_last_past, noted, numbered, stamped, stamped_past, step_of}
use Rattle.qs_cell_chronicle.specs.Occasions.{did_of, stamp_in}
use Rattle.qs_cell_chronicle.specs.declared.occasion.Occasion.{Occasion}
use Rattle.qs_cell_peers.specs.Peers.{goes_from}
use Rattle.qs_cell_peers.specs.Sessions.{SessionsValue}
use Rattle.qs_disk.specs.Disk.{DiskState}
use Rattle.qs_files.specs.declared.files.Files.{Files}
use Rattle.qs_node_step.specs.declared.event.ClientAnswer.{ClientAnswer}
use Rattle.qs_node_step.specs.declared.setting.Setting.{Setting}
use Rattle.qs_node_step.specs.declared.trace.Did.{Did}
use Rattle.qs_node_step.specs.declared.trace.Did.TheVariants as dids
use Rattle.qs_node_step.specs.declared.trace.Step.{Step}
use Rattle.qs_ops.specs.declared.no_server.NoServer.{NoServer}
use Rattle.qs_packet.specs.declared.packet.Packet.{Packet}
use Rattle.qs_world_links.proofs.Bearing.{sends_bear}
use Rattle.qs_world_links.specs.Between.{BearsStamp, IsFrom}
use Rattle.qs_world_links.specs.Posts.{IsOfNode}
use Rattle.qs_world_traces.specs.Links.{packet_in, puts_of, takes_of}

-- the trace has these steps more, which took those packets, and what they put goes from this node, each with the stamp of its step
pub record Adds {D : Type 0} (nodes n : ℕ) (takes : List Packet) (old new : CellState D) : Type 0 where
  pub steps : List Step
  pub trace : steps_in new ≡ steps_in old ++ steps
  pub takes_are : flat_map takes_of steps ≡ takes
  pub from : All (IsFrom n) (flat_map puts_of steps)
  pub bears : All BearsStamp steps
  pub node : IsOfNode nodes n new

-- no stamp changes a trace
pub trace_past : (other : ℕ) (told : Told) → (stamped_past other told).trace ≡ told.trace
trace_past other told = by (is_last_past other told)
  where
    by : (b : Bool) → (if b then told else record told { stamp = max told.stamp other + 1 }).trace ≡ told.trace
    by true = refl
    by false = refl

pub trace_stamped : (told : Told) → (stamped told).trace ≡ told.trace
trace_stamped told = by (is_last told)
  where
    by : (b : Bool) → (if b then told else record told { stamp = told.stamp + 1 }).trace ≡ told.trace
    by true = refl
    by false = refl

from_node : (size n : ℕ) (p : Packet) → goes_from size n p ≡ true → p.from.0 ≡ n
from_node size n p goes = grind (arith, nat_tests, goes)

all_from : (n : ℕ) (sessions : SessionsValue) (put : List Packet) → sessions.me.0 ≡ n → All (λ p. goes_from sessions.size sessions.me.0 p ≡ true) put → All (IsFrom n) put
all_from n sessions put me goes = All-weaker (λ p. goes_from sessions.size sessions.me.0 p ≡ true) (IsFrom n) (λ p is. from_node sessions.size sessions.me.0 p is ∙ me) put goes

module _ {D : Type 0} (nodes n : ℕ) where
  -- ---- nothing, and one after the other

  pub adds_none : (old new : CellState D) → steps_in new ≡ steps_in old → IsOfNode nodes n new → Adds nodes n [] old new
  adds_none old new same node = record { steps = []; trace = same ∙ sym (append-nil (steps_in old)); takes_are = refl; from = All-nil (IsFrom n); bears = All-nil BearsStamp; node = node }

  pub adds_more : (xs ys : List Packet) (old mid new : CellState D) → Adds nodes n xs old mid → Adds nodes n ys mid new → Adds nodes n (xs ++ ys) old new
  adds_more xs ys old mid new a b = record {
    steps = a.steps ++ b.steps;
    trace = b.trace ∙ (ap (λ (l : List Step). l ++ b.steps) a.trace ∙ append_assoc (steps_in old) a.steps b.steps);
    takes_are = flat_map-append takes_of a.steps b.steps ∙ (ap (λ (l : List Packet). l ++ flat_map takes_of b.steps) a.takes_are ∙ ap (λ (l : List Packet). xs ++ l) b.takes_are);
    from = All-same (IsFrom n) (flat_map puts_of (a.steps ++ b.steps)) (flat_map puts_of a.steps ++ flat_map puts_of b.steps) (flat_map-append puts_of a.steps b.steps)
        (All-append (IsFrom n) (flat_map puts_of a.steps) (flat_map puts_of b.steps) a.from b.from);
    bears = All-append BearsStamp a.steps b.steps a.bears b.bears;
    node = b.node;
  }

  -- what is seen of the cell then has the same trace
  pub adds_seen : (f : Seen → Seen) → ((s : Seen) → (f s).told.trace ≡ s.told.trace) → (old new : CellState D) → IsSeenAs f old new → IsOfNode nodes n old → Adds nodes n [] old new
  adds_seen f same (states.Up old) (states.Up new) ((host, sessions), (seen_is, setting)) of = adds_none (states.Up old) (states.Up new) (ap (λ (s : Seen). s.told.trace) seen_is ∙ same _) (record {
    count = ap (λ (s : Setting). s.nodes) setting ∙ of.count;
    number = ap (λ (s : Setting). s.node.0) setting ∙ of.number;
    sessions = (ap (λ (s : SessionsValue). s.size) sessions ∙ of.sessions.0, ap (λ (s : SessionsValue). s.me.0) sessions ∙ of.sessions.1);
  })
  adds_seen f same (states.Down old) (states.Down new) (disk, (kept, (causes, (seen_is, setting)))) of = adds_none (states.Down old) (states.Down new) (ap (λ (s : Seen). s.told.trace) seen_is ∙ same _) (record {
    count = ap (λ (s : Setting). s.nodes) setting ∙ of.count;
    number = ap (λ (s : Setting). s.node.0) setting ∙ of.number;
    sessions = tt;
  })
  adds_seen f same (states.Up old) (states.Down new) is of = absurd is
  adds_seen f same (states.Down old) (states.Up new) is of = absurd is

  -- ---- a step

  -- one step more, which puts these packets
  one_more : (old new : CellState D) (told : Told) (did : Did) (put : List Packet) (crash : Option CrashCause) → steps_in new ≡ told.trace ++ step_of told did put crash ∷ [] → told.trace ≡ steps_in old
      → All (IsFrom n) put → All (λ p. p.stamp ≡ told.stamp) put → IsOfNode nodes n new → Adds nodes n (packet_in did) old new
  one_more old new told did put crash trace same from bears node = record {
    steps = step_of told did put crash ∷ [];
    trace = trace ∙ ap (λ (l : List Step). l ++ step_of told did put crash ∷ []) same;
    takes_are = append-nil (packet_in did);
    from = All-same (IsFrom n) (put ++ []) put (append-nil put) from;
    bears = All-cons BearsStamp (step_of told did put crash) [] bears (All-nil BearsStamp);
    node = node;
  }

  -- the node stops in a step
  crash_more : (old new : CellState D) (told : Told) (did : Did) (cause : CrashCause) → steps_in new ≡ (crashed did cause told).trace → told.trace ≡ steps_in old → IsOfNode nodes n new → Adds nodes n (packet_in did) old new
  crash_more old new told did cause trace same node = one_more old new told did [] (Some cause) trace same (All-nil (IsFrom n)) (All-nil (λ p. p.stamp ≡ told.stamp)) node

  -- the setting is that of before
  stopped_of_node : (old : Up D) (new : Stopped D) → new.carried.setting ≡ old.carried.setting → IsOfNode nodes n (states.Up old) → IsOfNode nodes n (states.Down new)
  stopped_of_node old new setting of = record { count = ap (λ (s : Setting). s.nodes) setting ∙ of.count; number = ap (λ (s : Setting). s.node.0) setting ∙ of.number; sessions = tt }

  running_of_node : (old new : Up D) → new.carried.setting ≡ old.carried.setting → new.sessions.size ≡ old.sessions.size → new.sessions.me ≡ old.sessions.me → IsOfNode nodes n (states.Up old) → IsOfNode nodes n (states.Up new)
  running_of_node old new setting size me of = record {
    count = ap (λ (s : Setting). s.nodes) setting ∙ of.count;
    number = ap (λ (s : Setting). s.node.0) setting ∙ of.number;
    sessions = (size ∙ of.sessions.0, ap (λ (m : NodeNo). m.0) me ∙ of.sessions.1);
  }

  -- ---- an event

  module _ (own : D → ℕ) (bytes : ℕ) (occasion : Occasion) (old : Up D) (of : IsOfNode nodes n (states.Up old)) where
    abbrev next : Told
    next = begun occasion old.carried.chronicle.told

    next_trace : (begun occasion old.carried.chronicle.told).trace ≡ old.carried.chronicle.told.trace
    next_trace = trace_past (stamp_in occasion) (numbered old.carried.chronicle.told)

    put_bears : (put : List Packet) {new : SessionsValue} → IsSent bytes occasion old put new → All (λ p. p.stamp ≡ next.stamp) put
    put_bears put {new} sent = sends_bear next.stamp (ticks occasion) (out_of bytes occasion old).messages old.sessions put new sent

    outcome_adds : (outcome : Outcome D Files NoServer) → IsOutcome own bytes occasion old outcome → Adds nodes n (packet_in (did_of occasion)) (states.Up old) (state_of outcome)
    outcome_adds (outcomes.Whole new said) is = one_more (states.Up old) (states.Up new) next (did_of occasion) is.put None (ap (λ (s : Seen). s.told.trace) is.seen) next_trace
        (all_from n old.sessions is.put of.sessions.1 is.sent.from) (put_bears is.put is.sent) (running_of_node old new is.setting is.sent.ends.size is.sent.ends.me of)
    outcome_adds (outcomes.Followed new said) is = record {
      steps = step_of next (did_of occasion) is.put None ∷ step_of stopping dids.Nothing [] (Some causes.Plan) ∷ [];
      trace = ap (λ (s : Seen). s.told.trace) is.seen ∙ (ap (λ (l : List Step). l ++ step_of stopping dids.Nothing [] (Some causes.Plan) ∷ []) (trace_stamped _ ∙ ap (λ (l : List Step). l ++ step_of next (did_of occasion) is.put None ∷ []) next_trace)
          ∙ append_assoc old.carried.chronicle.told.trace (step_of next (did_of occasion) is.put None ∷ []) (step_of stopping dids.Nothing [] (Some causes.Plan) ∷ []));
      takes_are = append-nil (packet_in (did_of occasion));
      from = All-same (IsFrom n) (is.put ++ []) is.put (append-nil is.put) (all_from n old.sessions is.put of.sessions.1 is.sent.from);
      bears = All-cons BearsStamp (step_of next (did_of occasion) is.put None) (step_of stopping dids.Nothing [] (Some causes.Plan) ∷ []) (put_bears is.put is.sent)
          (All-cons BearsStamp (step_of stopping dids.Nothing [] (Some causes.Plan)) [] (All-nil (λ p. p.stamp ≡ stopping.stamp)) (All-nil BearsStamp));
      node = stopped_of_node old new is.setting of;
    }
      where
        stopping : Told
        stopping = stamped (noted (did_of occasion) is.put (out_of bytes occasion old).entries None next)
    outcome_adds (outcomes.Replaced new) is = crash_more (states.Up old) (states.Down new) next (did_of occasion) new.cause (ap (λ (t : Told). t.trace) is.told) next_trace (stopped_of_node old new is.setting of)
    outcome_adds (outcomes.CutOff new) is = crash_more (states.Up old) (states.Down new) next (did_of occasion) new.cause (ap (λ (t : Told). t.trace) is.told) next_trace (stopped_of_node old new is.setting of)

  pub makes_adds : (told : Type 0) (state : D → DiskState) (own size : D → ℕ) (occasion : Occasion) (old : Up D) (new : CellState D) (answers : List ClientAnswer) → Makes told state own size occasion old new answers
      → IsOfNode nodes n (states.Up old) → Adds nodes n (packet_in (did_of occasion)) (states.Up old) new
  makes_adds told state own size occasion old new answers makes of = subst (λ (s : CellState D). Adds nodes n (packet_in (did_of occasion)) (states.Up old) s) (sym makes.node)
      (outcome_adds own (size old.host.log.disk.disk) occasion old of makes.outcome makes.is)

  -- ---- a packet aside

  module _ (packet : Packet) (old : Up D) (of : IsOfNode nodes n (states.Up old)) where
    past_trace : (begun_past packet.stamp old.carried.chronicle.told).trace ≡ old.carried.chronicle.told.trace
    past_trace = trace_past packet.stamp (numbered old.carried.chronicle.told)

    aside_adds : (outcome : Outcome D Files NoServer) → IsAsideOutcome packet old outcome → Adds nodes n (packet ∷ []) (states.Up old) (state_of outcome)
    aside_adds (outcomes.Whole new said) is = one_more (states.Up old) (states.Up new) (begun_past packet.stamp old.carried.chronicle.told) (dids.Packet packet) [] None (ap (λ (s : Seen). s.told.trace) is.0.seen) past_trace
        (All-nil (IsFrom n)) (All-nil (λ p. p.stamp ≡ (begun_past packet.stamp old.carried.chronicle.told).stamp)) (running_of_node old new is.0.setting (ap (λ (s : SessionsValue). s.size) is.0.sessions) (ap (λ (s : SessionsValue). s.me) is.0.sessions) of)
    aside_adds (outcomes.Replaced new) is = one_more (states.Up old) (states.Down new) (begun_past packet.stamp old.carried.chronicle.told) (dids.Packet packet) [] (Some new.cause) (ap (λ (t : Told). t.trace) is.told) past_trace
        (All-nil (IsFrom n)) (All-nil (λ p. p.stamp ≡ (begun_past packet.stamp old.carried.chronicle.told).stamp)) (stopped_of_node old new is.setting of)
    aside_adds (outcomes.Followed new said) is = absurd is
    aside_adds (outcomes.CutOff new) is = absurd is

    pub sets_aside_adds : (new : CellState D) (answers : List ClientAnswer) → SetsAside packet (states.Up old) new answers → Adds nodes n (packet ∷ []) (states.Up old) new
    sets_aside_adds new answers (outcome, (is, (same, said))) = subst (λ (s : CellState D). Adds nodes n (packet ∷ []) (states.Up old) s) (sym same) (aside_adds outcome is)
