-- The owner asks for commit: the rule as a whole.
use Rattle.qs_world_lawful.proofs.Words.{◌≡◌, ◌⊎◌, inl, inr, ℕ, Bool, true, false, List, [], ◌∷◌, ◌++◌, Option, Some, None, refl, sym, ap, subst, ◌∙◌, if◌then◌else◌, ClientNo, Member, NodeNo, Tid, uncovered, listed, TransactionValue, asked_at, BookValue, find_transaction, Message, MemberPart, Participant, become_asked, send, send_each, is_other, enter_ask, ask, Work, with_manager, face_of, Holds, HoldsTid, HoldsHome, HoldsMember, HoldsClients, IsOwner, IsAsking, HoldsWork, book_at, some_same}
use Rattle.qs_book_journal.specs.declared.entry.Act.TheVariants as acts
use Rattle.qs_packet.specs.declared.message.Message.TheVariants as messages
use Rattle.qs_tm.specs.Manager as tm
use Rattle.qs_tm.specs.Participant as participant
use Rattle.qs_node_step.specs.State.{NodeValue}
use Rattle.qs_world_lawful.specs.Face.{Face}
use Rattle.qs_world_lawful.proofs.Apart.{Apart, same_or_apart}
use Rattle.qs_world_lawful.proofs.Faces.{part_apart, part_changed}
use Rattle.qs_world_lawful.proofs.Frames.{SameFace, SameClients, clients_with, asking_on, KeepsSeen}
use Rattle.qs_world_lawful.proofs.Growing.{entered, kept_on, book_with}
use Rattle.qs_world_lawful.proofs.Clauses.{may_ask, of_tid}
use Rattle.qs_world_lawful.proofs.Steps.{one_changed, same_owners, servers_still, tx_seen, waits_of}

-- ---- messages leave the node and its entries

pub sent_node : (to : NodeNo) (message : Message) (work : Work) → (send to message work).node ≡ work.node
sent_node to message work = by (is_other work.node.setting to)
  where
    by : (b : Bool) → (if b then record work { out = record work.out { messages = work.out.messages ++ record { to = to; message = message } ∷ [] } } else work).node ≡ work.node
    by true = refl
    by false = refl

pub sent_entries : (to : NodeNo) (message : Message) (work : Work) → (send to message work).out.entries ≡ work.out.entries
sent_entries to message work = by (is_other work.node.setting to)
  where
    by : (b : Bool) → (if b then record work { out = record work.out { messages = work.out.messages ++ record { to = to; message = message } ∷ [] } } else work).out.entries ≡ work.out.entries
    by true = refl
    by false = refl

pub sent_each_node : (message : Message) (nodes : List NodeNo) (work : Work) → (send_each nodes message work).node ≡ work.node
sent_each_node message [] work = refl
sent_each_node message (to ∷ nodes) work = sent_each_node message nodes (send to message work) ∙ sent_node to message work

pub sent_each_entries : (message : Message) (nodes : List NodeNo) (work : Work) → (send_each nodes message work).out.entries ≡ work.out.entries
sent_each_entries message [] work = refl
sent_each_entries message (to ∷ nodes) work = sent_each_entries message nodes (send to message work) ∙ sent_entries to message work

-- what is held with the same node and the same entries
pub same_work : (stamp : ℕ) (before : BookValue) (work new : Work) → new.node ≡ work.node → new.out.entries ≡ work.out.entries → HoldsWork stamp before work → HoldsWork stamp before new
same_work stamp before work new is entries h = kept_on stamp before work new h (ap (λ n. n.setting) is) entries (subst (λ (n : NodeValue). Holds stamp (book_at stamp before work) n) (sym is) h.holds)

pub by_send : (stamp : ℕ) (before : BookValue) (work : Work) (to : NodeNo) (message : Message) → HoldsWork stamp before work → HoldsWork stamp before (send to message work)
by_send stamp before work to message h = same_work stamp before work (send to message work) (sent_node to message work) (sent_entries to message work) h

pub by_send_each : (stamp : ℕ) (before : BookValue) (work : Work) (nodes : List NodeNo) (message : Message) → HoldsWork stamp before work → HoldsWork stamp before (send_each nodes message work)
by_send_each stamp before work nodes message h = same_work stamp before work (send_each nodes message work) (sent_each_node message nodes work) (sent_each_entries message nodes work) h

-- ---- the owner asks

asked_member : (place : ℕ) (tx : TransactionValue) (member : Member) (inc : ℕ) (m : MemberPart) → HoldsMember tx member inc m → HoldsMember (asked_at place tx) member inc m
asked_member place tx member inc m h = record { covers = h.covers; voted = h.voted; votes = h.votes; learns = h.learns; ends = h.ends }

asked_tid : (place : ℕ) (here : NodeNo) (inc : ℕ) (tid : Tid) (tx : TransactionValue) (face : Face) (part : Participant) → HoldsTid here inc tid tx (record face { known = Some part })
    → HoldsTid here inc tid (asked_at place tx) (record face { known = Some (participant.ask part) })
asked_tid place here inc tid tx face part h = record {
  sized = h.sized;
  members = λ held server kept. asked_member place tx _ inc _ (h.members refl server kept);
  asked = λ is. refl;
  outcome = h.outcome;
  silent = h.silent;
  local = h.local;
  sent = λ held. h.sent refl;
  pending = h.pending;
  noted = λ held. h.noted refl;
  queued = h.queued;
  made = h.made;
  yielded = h.yielded;
  home = λ at in_inc. asked_home (h.home at in_inc);
}
  where
    asked_home : HoldsHome tx (Some part) → HoldsHome (asked_at place tx) (Some (participant.ask part))
    asked_home k = record {
      runs = λ still. refl;
      undecided = λ p same unknown. k.undecided part refl (ap (λ q. q.outcome) (some_same same) ∙ unknown);
      asked = λ p same still. ap (λ q. q.asked) (some_same same);
    }

module _ (stamp : ℕ) (before : BookValue) (work : Work) (tid : Tid) (part : Participant) (tx : TransactionValue) (h : HoldsWork stamp before work)
    (known : tm.part_of tid work.node.manager ≡ Some part) (found : find_transaction (book_at stamp before work) tid ≡ Some tx) where
  abbrev asked_node : NodeValue
  asked_node = record work.node { manager = tm.ask tid work.node.manager }

  abbrev book : BookValue
  book = book_at stamp before work

  abbrev new_book : BookValue
  new_book = book_with stamp before work (acts.Ask tid)

  faces : (t : Tid) → Apart tid t → SameFace (face_of work.node t) (face_of asked_node t)
  faces t far = record { known = part_apart tid t participant.ask work.node.manager far; local = refl; changes = refl; loans = refl; waiting = λ server. refl }

  seen_on : KeepsSeen book new_book
  seen_on = tx_seen tid (asked_at book.place) (λ x. refl) book new_book refl

  own : HoldsTid work.node.setting.node work.node.setting.inc tid (asked_at book.place tx) (face_of asked_node tid)
  own =
      subst (λ (o : Option Participant). HoldsTid work.node.setting.node work.node.setting.inc tid (asked_at book.place tx) (record (face_of work.node tid) { known = o })) (sym (part_changed tid participant.ask work.node.manager part known))
      (asked_tid book.place work.node.setting.node work.node.setting.inc tid tx (face_of work.node tid) part
      (subst (λ (o : Option Participant). HoldsTid work.node.setting.node work.node.setting.inc tid tx (record (face_of work.node tid) { known = o })) known (of_tid stamp book work.node h.holds tid tx found)))

  -- the client that owns it waits for its outcome
  module _ (waits : (client : ClientNo) → tx.owner ≡ Some client → IsAsking work.node tid client) where
    clients : HoldsClients new_book asked_node
    clients = clients_with book new_book work.node asked_node seen_on (same_owners book new_book refl) (record { setting = refl; at = refl; in_inc = refl }) kept h.holds.clients
        (λ t client p at is unknown asked owns. asking_at t client p at is unknown asked owns (same_or_apart tid t))
      where
        kept : SameClients work.node asked_node
        kept = record { commands = refl; labels = refl; outcomes = refl }

        asking_at : (t : Tid) (client : ClientNo) (p : Participant) → t.home ≡ work.node.setting.node → tm.part_of t asked_node.manager ≡ Some p → p.outcome ≡ None → p.asked ≡ true → IsOwner book t client → (tid ≡ t) ⊎ Apart tid t → IsAsking asked_node t client
        asking_at t client p at is unknown asked owns (inl same) =
            subst (λ (u : Tid). IsAsking asked_node u client) same
            (asking_on work.node asked_node kept tid client (waits client (ap (λ (x : TransactionValue). x.owner) (some_same (sym found ∙ subst (λ (u : Tid). find_transaction book u ≡ Some owns.tx) (sym same) owns.found)) ∙ owns.owns)))
        asking_at t client p at is unknown asked owns (inr far) = asking_on work.node asked_node kept t client (h.holds.clients.asking t client p at (sym (part_apart tid t participant.ask work.node.manager far) ∙ is) unknown asked owns)

    -- from what holds before the rule its entry is lawful, and what holds before holds after it
    pub by_ask : tid.home ≡ work.node.setting.node → tid.inc ≡ work.node.setting.inc → part.asked ≡ false → part.outcome ≡ None → HoldsWork stamp before (ask tid part work)
    by_ask home inc unasked unknown = by part.asked unasked
      where
        mid : Work
        mid = with_manager (tm.ask tid) (enter_ask tid work)

        held : HoldsWork stamp before mid
        held = entered stamp before work mid (acts.Ask tid) h refl refl (may_ask stamp book work.node h.holds tid tx found part known home inc unasked unknown)
            (one_changed stamp book new_book work.node asked_node h.holds tid (asked_at book.place) tx found refl
            h.holds.state (record { up = refl; inc = refl; begun = refl; format = refl }) h.holds.there refl refl refl
            (record { setting = refl; at = refl; in_inc = refl }) refl faces own clients
            (servers_still tid (asked_at book.place) (λ x. refl) book new_book refl work.node.setting.node h.holds.state work.node.servers h.holds.servers) (λ t far. refl)
            (let k = waits_of stamp book work.node h.holds tid tx found in record { whole = k.whole; due = k.due; within = k.within; once = k.once; fits = k.fits }))

        by : (b : Bool) → b ≡ false → HoldsWork stamp before (if b then work else become_asked tid part (enter_ask tid work))
        by true is = absurd (cc is)
        by false is = by_send_each stamp before mid (listed (uncovered part.engage)) (messages.AskVote tid) held
