-- A visit: what it does with the links of its node stands in the trace.
use Rattle.std.proofs.Common.{◌≡◌, ◌∙◌, ap, refl, subst, sym, ℕ, Bool, true, false, List, [], ◌∷◌, ◌++◌, append-nil, drop, length, map}
use Rattle.std.specs.Prelude.{⊤, Option, None, Some, if◌then◌else◌}
use Rattle.std.specs.List.{filter, flat_map}
use Rattle.std.proofs.Math.Seq.{drop-append_seam}
use Rattle.qs_book_journal.specs.declared.script_line.ScriptLine.{ScriptLine}
use Rattle.qs_cell.specs.Hearing.{Post}
use Rattle.qs_cell.specs.Restart.{in_round_as}
use Rattle.qs_cell.specs.State.{Up, is_queued}
use Rattle.qs_cell.specs.Visits.{MakesIn, Seat, TakesTurn, Turns, TurnsAll, client_source, due, due_of, held_by, left_by, sources_of}
use Rattle.qs_cell.specs.WholeVisits.{steps_in}
use Rattle.qs_cell.specs.declared.state.CellState.{CellState}
use Rattle.qs_cell.specs.declared.state.CellState.TheVariants as states
use Rattle.qs_cell.specs.declared.stopped.Stopped.{Stopped}
use Rattle.qs_cell_chronicle.specs.Carried.{is_due_again}
use Rattle.qs_cell_chronicle.specs.Occasions.{did_of}
use Rattle.qs_cell_chronicle.specs.declared.carried.HeldCommand.{HeldCommand}
use Rattle.qs_cell_chronicle.specs.declared.occasion.Occasion.{Occasion}
use Rattle.qs_cell_chronicle.specs.declared.occasion.Occasion.TheVariants as occasions
use Rattle.qs_cell_peers.specs.Links.{LinksValue, into_of, out_of}
use Rattle.qs_cell_peers.specs.Peers.{is_peer, is_to}
use Rattle.qs_disk.specs.Disk.{DiskState}
use Rattle.qs_link.specs.Lane.{DrawValue}
use Rattle.qs_link.specs.Lanes.{next_line}
use Rattle.qs_link.specs.Plan.{OutgoingValue}
use Rattle.qs_link.specs.Planned.{PutAll}
use Rattle.qs_link.specs.declared.ends.NodeEnds.{NodeEnds}
use Rattle.qs_node_step.specs.declared.event.ClientAnswer.{ClientAnswer}
use Rattle.qs_node_step.specs.declared.trace.Step.{Step}
use Rattle.qs_packet.specs.declared.packet.Packet.{Packet}
use Rattle.qs_world_links.proofs.Adding.{Adds, adds_more, adds_none, adds_seen, makes_adds}
use Rattle.qs_world_links.proofs.Ends.{drawn_carried}
use Rattle.qs_world_links.proofs.Hearing.{Took, all_hear, peer_there, post_of_node, post_then}
use Rattle.qs_world_links.specs.Posts.{AreCarriedNamed, IsOfNode, IsPostOf}
use Rattle.qs_world_links.specs.Telling.{VisitTells}
use Rattle.qs_world_traces.specs.Links.{is_from, packet_in, put_to, puts_of, took_from}

-- ---- no packet is due of the node's own sources

abbrev pub BringsNone : Option Occasion → Type 0
BringsNone None = ⊤
BringsNone (Some occasion) = packet_in (did_of occasion) ≡ []

due_command : (inc : ℕ) (held : Option HeldCommand) (next : Option ScriptLine) → BringsNone (due_of inc held next)
due_command inc None None = tt
due_command inc None (Some line) = refl
due_command inc (Some held) next = by (is_due_again inc held)
  where
    by : (b : Bool) → BringsNone (if b then Some (occasions.Command held.line) else None)
    by true = refl
    by false = tt

-- none of these sources, whether the node is up or down
abbrev pub BringNone : {D S : Type 0} → (S → CellState D → List NodeEnds → Option Occasion) → List S → Type 0
BringNone is_due [] = ⊤
BringNone is_due (source ∷ sources) =
    (((running : Up _) (ends : List NodeEnds) → BringsNone (is_due source (states.Up running) ends)) × ((stopped : Stopped _) (ends : List NodeEnds) → BringsNone (is_due source (states.Down stopped) ends)))
    × BringNone is_due sources

queues_none : (b : Bool) → BringsNone (if b then Some occasions.Queues else None)
queues_none true = refl
queues_none false = tt

pub sources_none : (D : Type 0) (ends : List NodeEnds) → BringNone {D = D} due (map client_source ends ++ sources_of [])
sources_none D [] = (((λ running ends. queues_none (is_queued (states.Up running))), (λ stopped ends. tt)), (((λ running ends. refl), (λ stopped ends. tt)), tt))
sources_none D (end ∷ ends) = (((λ running lanes. due_command running.carried.setting.inc (held_by end.client running.carried) (next_line end.client lanes)), (λ stopped lanes. tt)), sources_none D ends)

module _ {D : Type 0} (nodes n : ℕ) where
  -- ---- the turns of a visit

  module _ (told : Type 0) (state : D → DiskState) (own size : D → ℕ) where
    pub made_in : (occasion : Occasion) (ready new : CellState D) (answers : List ClientAnswer) → MakesIn told state own size occasion ready new answers → packet_in (did_of occasion) ≡ [] → IsOfNode nodes n ready → Adds nodes n [] ready new
    made_in occasion (states.Up ready) new answers makes none of = subst (λ (l : List Packet). Adds nodes n l (states.Up ready) new) none (makes_adds nodes n told state own size occasion ready new answers makes of)
    made_in occasion (states.Down stopped) new answers (same, said) none of =
        adds_none nodes n (states.Down stopped) new (ap (λ (s : CellState D). steps_in s) same) (subst (λ (s : CellState D). IsOfNode nodes n s) (sym same) of)

    takes_turn : (occasion : Option Occasion) (left ends : List NodeEnds) (ready : CellState D) (new : Seat D) → TakesTurn told state own size occasion left (record { node = ready; ends = ends }) new → BringsNone occasion
        → IsOfNode nodes n ready → Adds nodes n [] ready new.node
    takes_turn None left ends ready new same none of =
        adds_none nodes n ready new.node (ap (λ (s : Seat D). steps_in s.node) same) (subst (λ (s : Seat D). IsOfNode nodes n s.node) (sym same) of)
    takes_turn (Some occasion) left ends ready new (answers, (makes, sent)) none of = made_in occasion ready new.node answers makes none of

    -- that of a source of which no packet is due
    pub one_turn : (source : _) (old mid : Seat D) → Turns told state own size source old mid → BringNone {D = D} due (source ∷ []) → IsOfNode nodes n old.node → Adds nodes n [] old.node mid.node
    one_turn source old mid turn none of = adds_more nodes n [] [] old.node turn.ready mid.node room (by turn.ready turn.turn room.node)
      where
        by : (ready : CellState D) → TakesTurn told state own size (due source ready old.ends) (left_by source ready old.ends) (record { node = ready; ends = old.ends }) mid → IsOfNode nodes n ready → Adds nodes n [] ready mid.node
        by (states.Up running) taken is = takes_turn (due source (states.Up running) old.ends) (left_by source (states.Up running) old.ends) old.ends (states.Up running) mid taken (none.0.0 running old.ends) is
        by (states.Down stopped) taken is = takes_turn (due source (states.Down stopped) old.ends) (left_by source (states.Down stopped) old.ends) old.ends (states.Down stopped) mid taken (none.0.1 stopped old.ends) is

        room : Adds nodes n [] old.node turn.ready
        room = adds_seen nodes n (λ s. s) (λ s. refl) old.node turn.ready turn.same of

    pub all_turn : (sources : List _) (old new : Seat D) → TurnsAll told state own size sources old new → BringNone {D = D} due sources → IsOfNode nodes n old.node → Adds nodes n [] old.node new.node
    all_turn [] old new same none of = adds_none nodes n old.node new.node (ap (λ (s : Seat D). steps_in s.node) same) (subst (λ (s : Seat D). IsOfNode nodes n s.node) (sym same) of)
    all_turn (source ∷ sources) old new (mid, (turn, rest)) none of =
        adds_more nodes n [] [] old.node mid.node new.node first (all_turn sources mid new rest none.1 first.node)
      where
        first : Adds nodes n [] old.node mid.node
        first = one_turn source old mid turn (none.0, tt) of

pub each_visit : {D : Type 0} (told : Type 0) (state : D → DiskState) (own size : D → ℕ) (nodes n : ℕ) (old new : Post D) → VisitTells told state own size nodes n old new
each_visit {D} told state own size nodes n old new v of = record {
  steps = adds.steps;
  trace = adds.trace;
  from = adds.from;
  put = λ m peer. subst (λ (o : OutgoingValue). PutAll (put_to m adds.steps) o (out_of new.links m)) (heard.out m peer ∙ ap (λ (l : LinksValue). out_of l m) v.begins.links)
      (subst (λ (l : List Packet). PutAll (filter (is_to m) l) (out_of v.heard.links m) (out_of new.links m)) since
      (v.put.put m (peer_there nodes n v.heard of_heard m peer)));
  took = λ named m peer. drawn_carried (took_from m adds.steps) (into_of old.links m) (into_of new.links m) (ring m peer) (inbox named m peer);
  rings = ring;
  post = post_of_node nodes n v.heard new of_heard v.put.same turned.node;
}
  where
    begun : Adds nodes n [] old.seat.node v.begun.seat.node
    begun = adds_seen nodes n in_round_as (λ s. refl) old.seat.node v.begun.seat.node v.begins.round of.node

    of_begun : IsPostOf nodes n v.begun
    of_begun = post_of_node nodes n old v.begun of (record { size = ap (λ (l : LinksValue). l.size) v.begins.links; me = ap (λ (l : LinksValue). l.me) v.begins.links }) begun.node

    heard : Took nodes n v.begun v.heard
    heard = all_hear nodes n told state own size old.links.size v.begun v.heard v.hears of_begun

    of_heard : IsPostOf nodes n v.heard
    of_heard = post_then nodes n v.begun v.heard of_begun heard

    turned : Adds nodes n [] v.heard.seat.node new.seat.node
    turned = all_turn nodes n told state own size (sources_of old.seat.ends) v.heard.seat new.seat v.turns (sources_none D old.seat.ends) of_heard.node

    adds : Adds nodes n (heard.takes ++ []) old.seat.node new.seat.node
    adds = adds_more nodes n ([] ++ heard.takes) [] old.seat.node v.heard.seat.node new.seat.node
        (adds_more nodes n [] heard.takes old.seat.node v.begun.seat.node v.heard.seat.node begun heard.adds) turned

    since : flat_map puts_of (drop (length (steps_in old.seat.node)) (steps_in new.seat.node)) ≡ flat_map puts_of adds.steps
    since = ap (λ (l : List Step). flat_map puts_of (drop (length (steps_in old.seat.node)) l)) adds.trace ∙ ap (flat_map puts_of) (drop-append_seam (steps_in old.seat.node) adds.steps)

    -- what was put to the links left the other ends
    into : (m : ℕ) → is_peer nodes n m ≡ true → into_of new.links m ≡ into_of v.heard.links m
    into m peer = v.put.into m (peer_there nodes n v.heard of_heard m peer) refl

    ring : (m : ℕ) → is_peer nodes n m ≡ true → (into_of new.links m).ring ≡ (into_of old.links m).ring
    ring m peer = ap (λ (d : DrawValue Packet). d.ring) (into m peer) ∙ (heard.rings m peer ∙ ap (λ (l : LinksValue). (into_of l m).ring) v.begins.links)

    took : (m : ℕ) → filter (is_from m) heard.takes ≡ took_from m adds.steps
    took m = ap (filter (is_from m)) (sym (append-nil heard.takes) ∙ sym adds.takes_are)

    inbox : AreCarriedNamed nodes n old.links → (m : ℕ) → is_peer nodes n m ≡ true → (into_of old.links m).inbox ≡ took_from m adds.steps ++ (into_of new.links m).inbox
    inbox named m peer = ap (λ (l : LinksValue). (into_of l m).inbox) (sym v.begins.links)
        ∙ (heard.took (subst (λ (l : LinksValue). AreCarriedNamed nodes n l) (sym v.begins.links) named) m peer
        ∙ (ap (λ (l : List Packet). l ++ (into_of v.heard.links m).inbox) (took m)
        ∙ ap (λ (d : DrawValue Packet). took_from m adds.steps ++ d.inbox) (sym (into m peer))))
