-- Whom a node answers to, and the last request from each node: nothing is held of that, but of what went to each.
use Rattle.qs_world_lawful.proofs.Words.{◌≡◌, ℕ, Bool, true, false, Option, Some, None, refl, sym, ap, subst, ◌∙◌, if◌then◌else◌, set_value, is_at, tid_cmp, NodeNo, Tid, no_peer, peer_of, with_last, Engage, PeerPart, changed_alike, BookValue, find_transaction, TransactionValue, Work, with_manager, Participant, HoldsWork, book_at, face_of, HoldsAt, HoldsHome, HoldsTid, some_same}
use Rattle.qs_engage.specs.Engage as engage
use Rattle.qs_engage.specs.Engage.{with_superior}
use Rattle.qs_node_step.specs.State.{NodeValue}
use Rattle.qs_tm.specs.Manager as tm
use Rattle.qs_world_lawful.specs.Face.{Face}
use Rattle.qs_world_lawful.proofs.Clauses.{of_tid}
use Rattle.qs_world_lawful.proofs.Counting.{index_alike}
use Rattle.qs_world_lawful.proofs.Faces.{part_apart, part_changed}
use Rattle.qs_world_lawful.proofs.Frames.{at_each, clients_on, held_on, told_of}
use Rattle.qs_world_lawful.proofs.Growing.{kept_on}
use Rattle.qs_world_lawful.proofs.ServingNext.{found_of}

-- as much went to each node
abbrev pub KeepsSent : (Engage → Engage) → Type 0
KeepsSent g = (e : Engage) (other : NodeNo) → (peer_of (g e) other).sent ≡ (peer_of e other).sent

pub last_sent : (peer : NodeNo) (number : ℕ) → KeepsSent (with_last peer number)
last_sent peer number e other = index_alike (λ (p : PeerPart). p.sent) e.peers peer.0 other.0 (record (peer_of e peer) { last = number }) no_peer refl

superior_sent : (from : NodeNo) → KeepsSent (with_superior from)
superior_sent from e other = by e.home e.superior
  where
    by : (b : Bool) (o : Option NodeNo) → (peer_of (if b then e else elim o [ None ↦ record e { superior = Some from; last_superior = Some from } | Some superior ↦ e ]) other).sent ≡ (peer_of e other).sent
    by true o = refl
    by false None = refl
    by false (Some superior) = refl

pub requested_sent : (from : NodeNo) (number : ℕ) → KeepsSent (engage.requested from number)
requested_sent from number e other = superior_sent from (with_last from number e) other ∙ last_sent from number e other

abbrev with_engage : (Engage → Engage) → Participant → Participant
with_engage g p = record p { engage = g p.engage }

engaged_tid : (here : NodeNo) (inc : ℕ) (tid : Tid) (tx : TransactionValue) (face : Face) (part : Participant) (g : Engage → Engage) → KeepsSent g → HoldsTid here inc tid tx (record face { known = Some part }) → HoldsTid here inc tid tx (record face { known = Some (with_engage g part) })
engaged_tid here inc tid tx face part g keeps h = record {
  sized = h.sized;
  members = λ held. h.members refl;
  asked = h.asked;
  outcome = h.outcome;
  silent = h.silent;
  local = h.local;
  sent = λ held other far. h.sent refl other far ∙ sym (keeps part.engage other);
  pending = h.pending;
  noted = λ held. h.noted refl;
  queued = h.queued;
  made = h.made;
  yielded = h.yielded;
  home = λ at in_inc. engaged_home (h.home at in_inc);
}
  where
    engaged_home : HoldsHome tx (Some part) → HoldsHome tx (Some (with_engage g part))
    engaged_home k = record {
      runs = λ is. refl;
      undecided = λ p same unknown. k.undecided part refl (ap (λ q. q.outcome) (some_same same) ∙ unknown);
      asked = λ p same still. k.asked part refl still ∙ ap (λ q. q.asked) (some_same same);
    }

-- it is changed where the transaction is known
pub by_engaged : (stamp : ℕ) (before : BookValue) (work : Work) → HoldsWork stamp before work → (tid : Tid) (g : Engage → Engage) → KeepsSent g → HoldsWork stamp before (with_manager (tm.with_part tid (λ p. record p { engage = g p.engage })) work)
by_engaged stamp before work h tid g keeps = by (tm.part_of tid work.node.manager) refl
  where
    after : NodeValue
    after = record work.node { manager = tm.with_part tid (λ p. record p { engage = g p.engage }) work.node.manager }

    own : (part : Participant) → tm.part_of tid work.node.manager ≡ Some part → (tx : TransactionValue) → find_transaction (book_at stamp before work) tid ≡ Some tx
        → HoldsAt work.node.setting.node work.node.setting.inc tid (find_transaction (book_at stamp before work) tid) (face_of after tid)
    own part known tx found = subst (λ (o : Option TransactionValue). HoldsAt work.node.setting.node work.node.setting.inc tid o (face_of after tid)) (sym found)
        (subst (λ (o : Option Participant). HoldsTid work.node.setting.node work.node.setting.inc tid tx (record (face_of work.node tid) { known = o })) (sym (part_changed tid (λ p. record p { engage = g p.engage }) work.node.manager part known))
        (engaged_tid work.node.setting.node work.node.setting.inc tid tx (face_of work.node tid) part g keeps
        (subst (λ (o : Option Participant). HoldsTid work.node.setting.node work.node.setting.inc tid tx (record (face_of work.node tid) { known = o })) known (of_tid stamp (book_at stamp before work) work.node h.holds tid tx found))))

    changed : (part : Participant) → tm.part_of tid work.node.manager ≡ Some part → HoldsWork stamp before (with_manager (tm.with_part tid (λ p. record p { engage = g p.engage })) work)
    changed part known =
        let tx = found_of stamp before work h tid part known in
        kept_on stamp before work (with_manager (tm.with_part tid (λ p. record p { engage = g p.engage })) work) h refl refl
        (held_on stamp (book_at stamp before work) (book_at stamp before work) work.node after h.holds (record { setting = refl; at = refl; in_inc = refl }) refl h.holds.state (record { up = refl; inc = refl; begun = refl; format = refl })
        h.holds.order refl h.holds.there (λ t is. is)
        (at_each work.node.setting.node work.node.setting.inc (book_at stamp before work) (book_at stamp before work) work.node after tid h.holds.at (λ t far. refl)
        (λ t far. record { known = part_apart tid t (λ p. record p { engage = g p.engage }) work.node.manager far; local = refl; changes = refl; loans = refl; waiting = λ s. refl }) (own part known tx.0 tx.1))
        (clients_on (book_at stamp before work) (book_at stamp before work) work.node after (λ t. refl) (λ k. refl) (record { setting = refl; at = refl; in_inc = refl }) (record { commands = refl; labels = refl; outcomes = refl }) h.holds.clients
        (λ t. changed_alike (is_at (tid_cmp tid)) told_of (λ p. record p { engage = g p.engage }) (λ p. refl) (is_at (tid_cmp t)) work.node.manager.known)) h.holds.servers h.holds.waits)

    by : (o : Option Participant) → tm.part_of tid work.node.manager ≡ o → HoldsWork stamp before (with_manager (tm.with_part tid (λ p. record p { engage = g p.engage })) work)
    by (Some part) is = changed part is
    by None is = subst (λ (o : Option Participant). HoldsWork stamp before (record work {
      node = record work.node {
        manager = record work.node.manager {
          known = elim o [ None ↦ work.node.manager.known | Some v ↦ set_value (is_at (tid_cmp tid)) work.node.manager.known (record v { engage = g v.engage }) ];
        };
      };
    })) (sym is) h
