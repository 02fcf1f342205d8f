-- An AskVote comes from the node that another answers to: it is asked, and asks on. The rule as a whole.
use Rattle.qs_world_lawful.proofs.Words.{◌≡◌, ◌≢◌, ◌⊎◌, inl, inr, ℕ, Bool, true, false, Option, Some, None, refl, sym, ap, subst, ◌∙◌, not, ◌&&◌, is_some, if◌then◌else◌, ClientNo, NodeNo, Tid, is_node, uncovered, listed, BookValue, find_transaction, TransactionValue, ask_came, asked_by, become_asked, Work, with_manager, Participant, HoldsWork, book_at, face_of, HoldsAt, HoldsTid, IsAsking, IsOwner}
use Rattle.qs_packet.specs.declared.message.Message.TheVariants as messages
use Rattle.qs_node_step.specs.State.{NodeValue}
use Rattle.qs_tm.specs.Manager as tm
use Rattle.qs_tm.specs.Participant as participant
use Rattle.qs_world_lawful.specs.Face.{Face}
use Rattle.qs_world_lawful.specs.GivenStep.{MayBeAsked}
use Rattle.qs_world_lawful.proofs.Apart.{Apart, same_or_apart}
use Rattle.qs_world_lawful.proofs.Asking.{by_send_each}
use Rattle.qs_world_lawful.proofs.Clauses.{of_tid}
use Rattle.qs_world_lawful.proofs.Faces.{part_apart, part_changed}
use Rattle.qs_world_lawful.proofs.Frames.{asking_on, at_each, clients_with, held_on}
use Rattle.qs_world_lawful.proofs.Growing.{kept_on}
use Rattle.qs_world_lawful.proofs.LearningAll.{stands}
use Rattle.qs_world_lawful.proofs.Stages.{by_undecided}

asked_elsewhere : (here : NodeNo) (inc : ℕ) (tid : Tid) (tx : TransactionValue) (face : Face) (part : Participant) → is_some tx.asked ≡ true → tid.home ≢ here → HoldsTid here inc tid tx (record face { known = Some part })
    → HoldsTid here inc tid tx (record face { known = Some (participant.ask part) })
asked_elsewhere here inc tid tx face part asked away h = record {
  sized = h.sized;
  members = λ held. h.members refl;
  asked = λ is. asked;
  outcome = h.outcome;
  silent = h.silent;
  local = h.local;
  sent = λ held. h.sent refl;
  pending = h.pending;
  noted = λ held. h.noted refl;
  queued = h.queued;
  made = h.made;
  yielded = h.yielded;
  home = λ at in_inc. absurd (away at);
}

module _ (stamp : ℕ) (before : BookValue) (work : Work) (h : HoldsWork stamp before work) (tid : Tid) (part : Participant) (known : tm.part_of tid work.node.manager ≡ Some part) (given : MayBeAsked stamp before work tid) (away : tid.home ≢ work.node.setting.node) where
  abbrev node : NodeValue
  node = work.node

  abbrev new : NodeValue
  new = record node { manager = tm.ask tid node.manager }

  abbrev book : BookValue
  book = book_at stamp before work

  in_machine : (tx : TransactionValue) × (find_transaction book tid ≡ Some tx)
  in_machine = stands stamp book node tid part h.holds known

  own : HoldsAt node.setting.node node.setting.inc tid (find_transaction book tid) (face_of new tid)
  own = subst (λ (o : Option TransactionValue). HoldsAt node.setting.node node.setting.inc tid o (face_of new tid)) (sym in_machine.1)
      (subst (λ (o : Option Participant). HoldsTid node.setting.node node.setting.inc tid in_machine.0 (record (face_of node tid) { known = o })) (sym (part_changed tid participant.ask node.manager part known))
      (asked_elsewhere node.setting.node node.setting.inc tid in_machine.0 (face_of node tid) part (given.asked in_machine.0 in_machine.1) away
      (subst (λ (o : Option Participant). HoldsTid node.setting.node node.setting.inc tid in_machine.0 (record (face_of node tid) { known = o })) known (of_tid stamp book node h.holds tid in_machine.0 in_machine.1))))

  asking : (t : Tid) (c : ClientNo) (p : Participant) → t.home ≡ node.setting.node → tm.part_of t new.manager ≡ Some p → p.outcome ≡ None → p.asked ≡ true → IsOwner book t c → IsAsking new t c
  asking t c p at is none asked owns = by (same_or_apart tid t)
    where
      by : (tid ≡ t) ⊎ Apart tid t → IsAsking new t c
      by (inl same) = absurd (away (ap (λ (u : Tid). u.home) same ∙ at))
      by (inr far) = asking_on node new (record { commands = refl; labels = refl; outcomes = refl }) t c (h.holds.clients.asking t c p at (sym (part_apart tid t participant.ask node.manager far) ∙ is) none asked owns)

  asked_now : HoldsWork stamp before (with_manager (tm.ask tid) work)
  asked_now = kept_on stamp before work (with_manager (tm.ask tid) work) h refl refl
      (held_on stamp book book node new h.holds (record { setting = refl; at = refl; in_inc = refl }) refl h.holds.state (record { up = refl; inc = refl; begun = refl; format = refl })
      h.holds.order refl h.holds.there (λ t is. is)
      (at_each node.setting.node node.setting.inc book book node new tid h.holds.at (λ t far. refl) (λ t far. record { known = part_apart tid t participant.ask node.manager far; local = refl; changes = refl; loans = refl; waiting = λ s. refl }) own)
      (clients_with book book node new (λ t. refl) (λ k. refl) (record { setting = refl; at = refl; in_inc = refl }) (record { commands = refl; labels = refl; outcomes = refl }) h.holds.clients asking)
      h.holds.servers h.holds.waits)

  by_become_asked : HoldsWork stamp before (become_asked tid part work)
  by_become_asked = by_send_each stamp before (with_manager (tm.ask tid) work) (listed (uncovered part.engage)) (messages.AskVote tid) asked_now

pub by_ask_came : (stamp : ℕ) (before : BookValue) (work : Work) → HoldsWork stamp before work → (peer : NodeNo) (tid : Tid) → MayBeAsked stamp before work tid → HoldsWork stamp before (ask_came peer tid work)
by_ask_came stamp before work h peer tid given = by_undecided stamp before work h tid (asked_by peer tid) (λ part known unknown. by part known (is_node peer part.engage.superior && (not part.engage.home && not part.asked)) refl)
  where
    not_home : (a b c : Bool) → (a && (not b && c)) ≡ true → b ≡ false
    not_home true false c e = refl
    not_home true true c e = absurd (cc e)
    not_home false b c e = absurd (cc e)

    by : (part : Participant) → tm.part_of tid work.node.manager ≡ Some part → (b : Bool) → (is_node peer part.engage.superior && (not part.engage.home && not part.asked)) ≡ b → HoldsWork stamp before (if b then become_asked tid part work else work)
    by part known false is = h
    by part known true is = by_become_asked stamp before work h tid part known given (given.away part known (not_home (is_node peer part.engage.superior) part.engage.home (not part.asked) is))
