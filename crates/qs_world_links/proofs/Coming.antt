-- A packet that is taken in is named by a step, unless it is strange; and one that goes from a peer to the node is not.
use Rattle.std.proofs.Common.{◌≡◌, ◌∙◌, ap, refl, subst, sym, ℕ, ◌==◌, Bool, true, false, List, [], ◌∷◌, arith, if◌then◌else◌}
use Rattle.std.proofs.lemmas.Bool.Decides.{nat_tests}
use Rattle.qs_base.specs.declared.identifiers.NodeNo.{NodeNo}
use Rattle.qs_cell.specs.Hearing.{HandsUp, TakesIn}
use Rattle.qs_cell.specs.State.{Up}
use Rattle.qs_cell.specs.WholeVisits.{steps_in}
use Rattle.qs_cell.specs.declared.state.CellState.{CellState}
use Rattle.qs_cell.specs.declared.state.CellState.TheVariants as states
use Rattle.qs_cell_chronicle.specs.declared.occasion.Occasion.TheVariants as occasions
use Rattle.qs_cell_peers.specs.Hears.{comes_in, heard_as, heard_of}
use Rattle.qs_cell_peers.specs.Peers.{comes_to, is_peer}
use Rattle.qs_cell_peers.specs.Sessions.{SessionsValue, ends_of}
use Rattle.qs_cell_peers.specs.declared.heard.Heard.{Heard}
use Rattle.qs_cell_peers.specs.declared.heard.Heard.TheVariants as heards
use Rattle.qs_disk.specs.Disk.{DiskState}
use Rattle.qs_node_step.specs.declared.event.ClientAnswer.{ClientAnswer}
use Rattle.qs_packet.specs.declared.message.Message.{Message}
use Rattle.qs_packet.specs.declared.packet.Packet.{Packet}
use Rattle.qs_session.specs.Seen.{seen}
use Rattle.qs_session_channels.specs.End as end
use Rattle.qs_session_channels.specs.End.{Answer, answer}
use Rattle.qs_world_links.proofs.Adding.{Adds, adds_none, makes_adds, sets_aside_adds}
use Rattle.qs_world_links.specs.Between.{Goes}
use Rattle.qs_world_links.specs.Posts.{IsOfNode}

-- ---- what is strange

never_strange : (a : Answer Message) → heard_as a ≡ heards.Strange → ⊥
never_strange (end.OldPeer known got) e = absurd (cc e)
never_strange (end.OldSelf mine got) e = absurd (cc e)
never_strange end.Hello e = absurd (cc e)
never_strange (end.Repeat number) e = absurd (cc e)
never_strange (end.Early number expected) e = absurd (cc e)
never_strange (end.Message x) e = absurd (cc e)
never_strange (end.NewPeer old new) e = of_peer (old == 0) e
  where
    of_peer : (b : Bool) → (if b then heards.Aside else heards.Restarted old) ≡ heards.Strange → ⊥
    of_peer true same = absurd (cc same)
    of_peer false same = absurd (cc same)

not_strange : (sessions : SessionsValue) (packet : Packet) → comes_in sessions packet ≡ true → heard_of sessions packet ≡ heards.Strange → ⊥
not_strange sessions packet comes strange = never_strange (answer (ends_of sessions packet.from.0) (seen packet))
    (subst (λ (b : Bool). (if b then heard_as (answer (ends_of sessions packet.from.0) (seen packet)) else heards.Strange) ≡ heards.Strange) comes strange)

pub comes_of : (nodes k n : ℕ) (packet : Packet) → is_peer nodes n k ≡ true → Goes k n packet → comes_to nodes n packet ≡ true
comes_of nodes k n packet peer goes = grind (arith, nat_tests, peer, goes.0, goes.1)

-- ---- it is taken in

-- steps were added, and they name the packet where it comes from a peer
pub record AddsPacket {D : Type 0} (nodes n : ℕ) (packet : Packet) (old new : CellState D) : Type 0 where
  pub takes : List Packet
  pub adds : Adds nodes n takes old new
  pub is : comes_to nodes n packet ≡ true → takes ≡ packet ∷ []

module _ {D : Type 0} (told : Type 0) (state : D → DiskState) (own size : D → ℕ) (nodes n : ℕ) (packet : Packet) where
  hands_up_adds : (heard : Heard) (old : Up D) (new : CellState D) (answers : List ClientAnswer) → HandsUp told state own size heard packet (states.Up old) new answers → (comes_to nodes n packet ≡ true → heard ≡ heards.Strange → ⊥)
      → IsOfNode nodes n (states.Up old) → AddsPacket nodes n packet (states.Up old) new
  hands_up_adds heards.Strange old new answers (same, none) not of = record {
    takes = [];
    adds = adds_none nodes n (states.Up old) new (ap (λ (s : CellState D). steps_in s) same) (subst (λ (s : CellState D). IsOfNode nodes n s) (sym same) of);
    is = λ comes. absurd (not comes refl);
  }
  hands_up_adds heards.Aside old new answers sets not of = record { takes = packet ∷ []; adds = sets_aside_adds nodes n packet old of new answers sets; is = λ comes. refl }
  hands_up_adds heards.Message old new answers makes not of = record { takes = packet ∷ []; adds = makes_adds nodes n told state own size (occasions.Message packet) old new answers makes of; is = λ comes. refl }
  hands_up_adds (heards.Restarted known) old new answers makes not of = record { takes = packet ∷ []; adds = makes_adds nodes n told state own size (occasions.Restarted packet known) old new answers makes of; is = λ comes. refl }

  pub takes_in_adds : (old : Up D) (new : CellState D) (answers : List ClientAnswer) → TakesIn told state own size packet (states.Up old) new answers → IsOfNode nodes n (states.Up old) → AddsPacket nodes n packet (states.Up old) new
  takes_in_adds old new answers taken of = record {
    takes = handed.takes;
    adds = record { steps = handed.adds.steps; trace = handed.adds.trace; takes_are = handed.adds.takes_are; from = handed.adds.from; bears = handed.adds.bears; node = handed.adds.node };
    is = handed.is;
  }
    where
      sessions : SessionsValue
      sessions = taken.takes.sessions

      mid : Up D
      mid = record old { sessions = sessions }

      of_mid : IsOfNode nodes n (states.Up mid)
      of_mid = record { count = of.count; number = of.number; sessions = (taken.takes.ends.size ∙ of.sessions.0, ap (λ (m : NodeNo). m.0) taken.takes.ends.me ∙ of.sessions.1) }

      not : comes_to nodes n packet ≡ true → taken.heard ≡ heards.Strange → ⊥
      not comes strange = not_strange old.sessions packet
          (subst (λ (m : ℕ). comes_to old.sessions.size m packet ≡ true) (sym of.sessions.1) (subst (λ (k : ℕ). comes_to k n packet ≡ true) (sym of.sessions.0) comes)) (sym taken.takes.is ∙ strange)

      handed : AddsPacket nodes n packet (states.Up mid) new
      handed = hands_up_adds taken.heard mid new answers (subst (λ (s : CellState D). HandsUp told state own size taken.heard packet s new answers) taken.takes.node taken.hands) not of_mid
