-- Where memory was refused in a visit or a restart: the trace names what was taken of each link, and that stood in front of what was carried.
use Rattle.std.proofs.Common.{◌≡◌, ◌∙◌, ap, inl, inr, refl, subst, sym, ℕ, Bool, true, List, [], ◌∷◌, ◌++◌, append_assoc}
use Rattle.std.specs.Prelude.{Result}
use Rattle.std.specs.Global.{Global}
use Rattle.std.specs.List.{filter}
use Rattle.std.proofs.lemmas.List.Elements.{filter-append}
use Rattle.qs_cell.proofs.HearingTurns.{peer_by, stays_down}
use Rattle.qs_cell.specs.Hearing.{BreaksBelow, BreaksFrom, BreaksHearing, Post, TakesIn}
use Rattle.qs_cell.specs.Restart.{in_round_as}
use Rattle.qs_cell.specs.Visits.{IsBroken, Seat, TurnsSome, due, sources_of}
use Rattle.qs_cell.specs.WholeVisits.{BreaksIn}
use Rattle.qs_cell.specs.declared.state.CellState.{CellState}
use Rattle.qs_cell.specs.declared.state.CellState.TheVariants as states
use Rattle.qs_cell.specs.declared.state.RestartFault.{RestartFault}
use Rattle.qs_cell_peers.specs.Links.{carried_from, into_of}
use Rattle.qs_cell_peers.specs.Peers.{is_peer}
use Rattle.qs_disk.specs.Disk.{DiskState}
use Rattle.qs_packet.specs.declared.packet.Packet.{Packet}
use Rattle.qs_world_links.proofs.Adding.{Adds, adds_more, adds_seen}
use Rattle.qs_world_links.proofs.Coming.{takes_in_adds}
use Rattle.qs_world_links.proofs.Ends.{was_carried}
use Rattle.qs_world_links.proofs.Hearing.{Took, all_hear, hears_one, named_then, post_then, times_hear, took_none}
use Rattle.qs_world_links.proofs.Starting.{starts_again}
use Rattle.qs_world_links.proofs.Visiting.{BringNone, BringsNone, all_turn, each_visit, made_in, one_turn, sources_none}
use Rattle.qs_world_links.specs.Posts.{AreCarriedNamed, AreInFront, IsOfNode, IsPostOf, TellsOfTakes}
use Rattle.qs_world_links.specs.Telling.{BreakTells, RestartTellsTakes, VisitTellsTakes}
use Rattle.qs_world_traces.specs.Links.{is_from, took_from}

-- steps were added, and what they took stood in front of what was carried
pub record TookSome {D : Type 0} (nodes n : ℕ) (old new : Post D) : Type 0 where
  pub takes : List Packet
  pub adds : Adds nodes n takes old.seat.node new.seat.node
  pub took : AreCarriedNamed nodes n old.links → (m : ℕ) → is_peer nodes n m ≡ true → AreInFront (filter (is_from m) takes) (into_of old.links m).inbox

module _ {D : Type 0} (nodes n : ℕ) where
  pub some_none : (old new : Post D) → Adds nodes n [] old.seat.node new.seat.node → TookSome nodes n old new
  some_none old new adds = record { takes = []; adds = adds; took = λ named m peer. record { rest = (into_of old.links m).inbox; is = refl } }

  some_of : (old new : Post D) → Took nodes n old new → TookSome nodes n old new
  some_of old new t = record { takes = t.takes; adds = t.adds; took = λ named m peer. record { rest = (into_of new.links m).inbox; is = t.took named m peer } }

  some_more : (old mid new : Post D) → Took nodes n old mid → TookSome nodes n mid new → TookSome nodes n old new
  some_more old mid new a b = record {
    takes = a.takes ++ b.takes;
    adds = adds_more nodes n a.takes b.takes old.seat.node mid.seat.node new.seat.node a.adds b.adds;
    took = λ named m peer. in_front m (a.took named m peer) (b.took (named_then nodes n old mid a named) m peer);
  }
    where
      in_front : (m : ℕ) → (into_of old.links m).inbox ≡ filter (is_from m) a.takes ++ (into_of mid.links m).inbox → AreInFront (filter (is_from m) b.takes) (into_of mid.links m).inbox
          → AreInFront (filter (is_from m) (a.takes ++ b.takes)) (into_of old.links m).inbox
      in_front m first more = record {
        rest = more.rest;
        is = first
            ∙ (ap (λ (l : List Packet). filter (is_from m) a.takes ++ l) more.is
            ∙ (sym (append_assoc (filter (is_from m) a.takes) (filter (is_from m) b.takes) more.rest)
            ∙ ap (λ (l : List Packet). l ++ more.rest) (sym (filter-append (is_from m) a.takes b.takes))));
      }

  tells_of : (old new : Post D) → TookSome nodes n old new → TellsOfTakes nodes n old new
  tells_of old new t = record {
    steps = t.adds.steps;
    trace = t.adds.trace;
    took = λ named m peer. subst (λ (l : List Packet). AreInFront (filter (is_from m) l) (into_of old.links m).inbox) (sym t.adds.takes_are) (t.took named m peer);
  }

  module _ (told : Type 0) (state : D → DiskState) (own size : D → ℕ) where
    -- ---- within the turn of a node's packets

    pub in_hearing : (k : ℕ) → is_peer nodes n k ≡ true → (old new : Post D) → BreaksHearing told state own size k old new → IsPostOf nodes n old → TookSome nodes n old new
    in_hearing k peer old new (inl same) of = some_none old new (adds_seen nodes n (λ s. s) (λ s. refl) old.seat.node new.seat.node same of.node)
    in_hearing k peer old new (inr (ready, (same, (packet, (has, (answers, takes)))))) of = by ready takes (adds_seen nodes n (λ s. s) (λ s. refl) old.seat.node ready same of.node)
      where
        by : (r : CellState D) → TakesIn told state own size packet r new.seat.node answers → Adds nodes n [] old.seat.node r → TookSome nodes n old new
        by (states.Up running) it adds = some_of old new
            (hears_one nodes n told state own size k peer packet running old new.links new of has refl adds (takes_in_adds told state own size nodes n packet running new.seat.node answers it adds.node))
        by (states.Down stopped) it adds = some_none old new (subst (λ (s : CellState D). Adds nodes n [] old.seat.node s) (sym (stays_down told state own size packet stopped new.seat.node answers it)) adds)

    from_breaks : (k : ℕ) (old new : Post D) → BreaksFrom told state own size k old new → IsPostOf nodes n old → TookSome nodes n old new
    from_breaks k old new b of = some_more old b.mid new first (in_hearing k peer b.mid new b.breaks (post_then nodes n old b.mid of first))
      where
        peer : is_peer nodes n k ≡ true
        peer = subst (λ (m : ℕ). is_peer nodes m k ≡ true) of.me (subst (λ (s : ℕ). is_peer s old.links.me.0 k ≡ true) of.size (peer_by old.links k (carried_from old.links k) b.count refl b.few))

        first : Took nodes n old b.mid
        first = times_hear nodes n told state own size k peer b.count old b.mid b.heard of

    below_breaks : (below : ℕ) (old new : Post D) → BreaksBelow told state own size below old new → IsPostOf nodes n old → TookSome nodes n old new
    below_breaks below old new b of =
        let first : Took nodes n old b.mid = all_hear nodes n told state own size b.at old b.mid b.heard of in
        some_more old b.mid new first (from_breaks b.at b.mid new b.breaks (post_then nodes n old b.mid of first))

    -- ---- within a turn of the node's own sources, of which no packet is due

    in_turn : (source : _) (old new : Seat D) → IsBroken told state own size source old new → BringNone {D = D} due (source ∷ []) → IsOfNode nodes n old.node → Adds nodes n [] old.node new.node
    in_turn source old new (inl same) none of = adds_seen nodes n (λ s. s) (λ s. refl) old.node new.node same.0 of
    in_turn source old new (inr (ready, (same, (occasion, (is, (answers, makes)))))) none of =
        adds_more nodes n [] [] old.node ready new.node room (made_in nodes n told state own size occasion ready new.node answers makes (subst BringsNone is (by ready)) room.node)
      where
        by : (r : CellState D) → BringsNone (due source r old.ends)
        by (states.Up running) = none.0.0 running old.ends
        by (states.Down stopped) = none.0.1 stopped old.ends

        room : Adds nodes n [] old.node ready
        room = adds_seen nodes n (λ s. s) (λ s. refl) old.node ready same of

    pub some_turn : (sources : List _) (old new : Seat D) → TurnsSome told state own size sources old new → BringNone {D = D} due sources → IsOfNode nodes n old.node → Adds nodes n [] old.node new.node
    some_turn [] old new turns none of = absurd turns
    some_turn (source ∷ sources) old new (inl broken) none of = in_turn source old new broken (none.0, tt) of
    some_turn (source ∷ sources) old new (inr (mid, (turn, rest))) none of =
        let first : Adds nodes n [] old.node mid.node = one_turn nodes n told state own size source old mid turn (none.0, tt) of in
        adds_more nodes n [] [] old.node mid.node new.node first (some_turn sources mid new rest none.1 first.node)

    -- ---- within a visit

    in_visit : (old begun new : Post D) → BreaksIn told state own size old begun new → IsPostOf nodes n begun → TookSome nodes n begun new
    in_visit old begun new b of = some_more begun b.heard new heard (some_none b.heard new (elim b.turns [
      | inl some ↦ some_turn (sources_of old.seat.ends) b.heard.seat new.seat some (sources_none D old.seat.ends) of_heard.node
      | inr all ↦ all_turn nodes n told state own size (sources_of old.seat.ends) b.heard.seat new.seat all.0 (sources_none D old.seat.ends) of_heard.node
    ]))
      where
        heard : Took nodes n begun b.heard
        heard = all_hear nodes n told state own size old.links.size begun b.heard b.hears of

        of_heard : IsPostOf nodes n b.heard
        of_heard = post_then nodes n begun b.heard of heard

pub each_break : {D : Type 0} (told : Type 0) (state : D → DiskState) (own size : D → ℕ) (nodes n : ℕ) (old new : Post D) → BreakTells told state own size nodes n old new
each_break {D} told state own size nodes n old new b of = tells_of nodes n old new (some_more nodes n old b.begun new begun (elim b.within [
  | inl below ↦ below_breaks nodes n told state own size old.links.size b.begun new below of_begun
  | inr it ↦ in_visit nodes n told state own size old b.begun new it of_begun
]))
  where
    begun : Took nodes n old b.begun
    begun = took_none nodes n old b.begun (adds_seen nodes n in_round_as (λ s. refl) old.seat.node b.begun.seat.node b.begins.round of.node) b.begins.links

    of_begun : IsPostOf nodes n b.begun
    of_begun = post_then nodes n old b.begun of begun

pub each_visit_takes : {D : Type 0} (told : Type 0) (state : D → DiskState) (own size : D → ℕ) (nodes n : ℕ) (old new : Post D) → VisitTellsTakes told state own size nodes n old new
each_visit_takes told state own size nodes n old new visits of =
    let t = each_visit told state own size nodes n old new visits of in
    record {
      steps = t.steps;
      trace = t.trace;
      took = λ named m peer. record { rest = (into_of new.links m).inbox; is = was_carried (took_from m t.steps) (into_of old.links m) (into_of new.links m) (t.rings m peer) (t.took named m peer) };
    }

pub each_restart_takes : {D : Type 0} (told : Type 0) (state : D → DiskState) (own size : D → ℕ) (alloc : Global) (nodes n : ℕ) (old new : Post D) (answer : Result Bool RestartFault) → RestartTellsTakes told state own size alloc nodes n old new answer
each_restart_takes told state own size alloc nodes n old new answer starts of =
    let r = starts_again nodes n told state own size alloc old.seat.node new.seat.node answer starts of.node in
    record {
      steps = r.steps;
      trace = r.trace;
      took = λ named m peer. record { rest = (into_of old.links m).inbox; is = ap (λ (l : List Packet). filter (is_from m) l ++ (into_of old.links m).inbox) (sym r.no_takes) };
    }
