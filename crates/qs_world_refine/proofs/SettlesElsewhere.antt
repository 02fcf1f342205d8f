-- What another node than the home does of itself for one transaction behind its vote pass: readiness, then refusals, then forgetting.
use Rattle.qs_world_refine.proofs.Words.{◌≡◌, ℕ, Bool, true, false, List, [], ◌∷◌, Option, Some, None, fold, refl, sym, subst, ap, ◌∙◌, if◌then◌else◌, is_at, tid_cmp, NodeNo, Tid, release_of, listed, Cause, told_with_own, Participant, may_answer, ready_rule, say_yes, refusal_goes_to, send_refusal, refuse_rule, refuse_elsewhere, forget_rule, try, NodeValue, Work, here, with_manager, IsLawful, leads_on, node_no, IsElsewhere, Scene, ShowsWork, in_order, IsWhole, IsKnown, Goes}
use Rattle.qs_packet.specs.declared.message.Message.TheVariants as messages
use Rattle.qs_tm.specs.Manager as tm
use Rattle.qs_tm.specs.Participant as participant
use Rattle.qs_node_step.specs.Settling.{ready}
use Rattle.qs_world_agree.specs.World.{World}
use Rattle.qs_world_refine.specs.SettleLaws.{SettleElsewhereGoes}
use Rattle.qs_world_refine.proofs.Facts.{lawful_on}
use Rattle.qs_world_refine.proofs.Forgetting.{order_changed}
use Rattle.qs_world_refine.proofs.Known.{undecided_is}
use Rattle.qs_world_refine.proofs.Maps.{lookup_changed}
use Rattle.qs_world_refine.proofs.SendGoes.{goes_on, send_node}
use Rattle.qs_world_refine.proofs.Settles.{ready_elsewhere, refuse_elsewhere_goes, forget_rule_goes}

-- the node stands so after a rule, for the rules behind it
record Stands (tid : Tid) (scene : Scene) (n : ℕ) (work : Work) : Type 0 where
  part : Participant
  away : IsElsewhere tid scene n work part
  ordered : in_order work.node.manager.known ≡ true

-- what is kept of it changes in what the rules behind do not ask, and messages are sent
stands_on : (tid : Tid) (scene : Scene) (n : ℕ) (f : Participant → Participant) (work new : Work) → new.node ≡ (with_manager (tm.with_part tid f) work).node
    → ((part : Participant) → IsWhole part → IsWhole (f part)) → ((part : Participant) → (f part).engage.home ≡ part.engage.home) → ((part : Participant) → (f part).outcome ≡ part.outcome)
    → Stands tid scene n work → Stands tid scene n new
stands_on tid scene n f work new same whole home outcome is = record {
  part = f is.part;
  away = record {
    at = record { in_run = is.away.at.in_run; up = is.away.at.up; node = rw same is.away.at.node; nodes = rw same is.away.at.nodes; inc = rw same is.away.at.inc };
    away = is.away.away;
    home_in = is.away.home_in;
    knows = record { known = ap (λ (node : NodeValue). tm.part_of tid node.manager) same ∙ lookup_changed (is_at (tid_cmp tid)) f work.node.manager.known is.part is.away.knows.known; whole = whole is.part is.away.knows.whole };
    not_home = home is.part ∙ is.away.not_home;
    undecided = outcome is.part ∙ is.away.undecided;
  };
  ordered = ap (λ (node : NodeValue). in_order node.manager.known) same ∙ order_changed tid f work.node.manager is.ordered;
}

sent_all : (tid : Tid) (to : NodeNo) (list : List Cause) (work : Work) → (fold (send_refusal tid to) work list).node ≡ work.node
sent_all tid to [] work = refl
sent_all tid to (cause ∷ list) work = sent_all tid to list (send_refusal tid to work cause) ∙ send_node to (messages.VotedAbort tid cause) work

module _ (tid : Tid) (scene : Scene) (n : ℕ) where
  -- readiness
  ready_stands : (work : Work) (is : Stands tid scene n work) → Stands tid scene n (ready_rule tid is.part work)
  ready_stands work is = by (may_answer tid is.part work)
    where
      answers : (o : Option (NodeNo × ℕ)) → Stands tid scene n (elim o [ None ↦ work | Some superior ↦ say_yes tid is.part superior work ])
      answers None = is
      answers (Some superior) = stands_on tid scene n participant.released work (say_yes tid is.part superior work)
          (send_node superior.0 (messages.VotedYes tid superior.1 (listed (told_with_own (here work) is.part))) (with_manager (tm.released tid) work))
          (λ part whole. record { peers = whole.peers; members = whole.members; told = whole.told; tell = whole.tell; acknowledged = whole.acknowledged }) (λ _. refl) (λ _. refl) is

      by : (b : Bool) → Stands tid scene n (if b then ready tid is.part work else work)
      by true = rw is.away.not_home (answers (release_of is.part.engage))
      by false = is

  -- refusals
  refuse_stands : (work : Work) (is : Stands tid scene n work) → Stands tid scene n (refuse_rule tid is.part work)
  refuse_stands work is = rw is.away.not_home (stands_on tid scene n participant.take_causes work (refuse_elsewhere tid is.part work)
      (sent_all tid (refusal_goes_to tid is.part) is.part.causes (with_manager (tm.take_causes tid) work))
      (λ part whole. record { peers = whole.peers; members = whole.members; told = whole.told; tell = whole.tell; acknowledged = whole.acknowledged }) (λ _. refl) (λ _. refl) is)

  -- one after the other
  settled : (work : Work) (w : World) (is : Stands tid scene n work) → IsLawful w → ShowsWork tid scene n work w → ((m : ℕ) → is.part.engage.superior ≡ Some (node_no m) → IsKnown scene n m (scene.knows n m))
      → Goes tid scene n (try tid forget_rule (try tid refuse_rule (try tid ready_rule work))) w
  settled work w is lawful shown peer = subst (λ (k : Work). Goes tid scene n (try tid forget_rule (try tid refuse_rule k)) w) (sym (undecided_is tid (ready_rule tid) work is.part is.away.knows.known is.away.undecided))
      (subst (λ (k : Work). Goes tid scene n (try tid forget_rule k) w) (sym (undecided_is tid (refuse_rule tid) first second_is.part second_is.away.knows.known second_is.away.undecided))
      (subst (λ (k : Work). Goes tid scene n k w) (sym (undecided_is tid (forget_rule tid) second third_is.part third_is.away.knows.known third_is.away.undecided))
      (goes_on tid scene n (forget_rule tid third_is.part second) w two.next (leads_on w one.next two.next one.leads two.leads) three)))
    where
      first : Work
      first = ready_rule tid is.part work

      one : Goes tid scene n first w
      one = ready_elsewhere tid scene n work is.part w lawful shown is.away peer

      second_is : Stands tid scene n first
      second_is = ready_stands work is

      second : Work
      second = refuse_rule tid second_is.part first

      two : Goes tid scene n second one.next
      two = refuse_elsewhere_goes tid scene n first second_is.part one.next one.shown second_is.away.not_home

      third_is : Stands tid scene n second
      third_is = refuse_stands first second_is

      three : Goes tid scene n (forget_rule tid third_is.part second) two.next
      three = forget_rule_goes tid scene n second third_is.part two.next (lawful_on one.next two.next (lawful_on w one.next lawful one.leads) two.leads) two.shown third_is.away third_is.ordered

pub settle_elsewhere : SettleElsewhereGoes
settle_elsewhere tid scene n work part w lawful shown away ordered peer = settled tid scene n work w (record { part = part; away = away; ordered = ordered }) lawful shown peer
