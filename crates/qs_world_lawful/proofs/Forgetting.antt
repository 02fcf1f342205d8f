-- A home that committed a transaction and told all forgets it: of what is committed and unknown nothing more is held.
use Rattle.qs_world_lawful.proofs.Words.{◌≡◌, ◌⊎◌, inl, inr, ℕ, Bool, true, false, List, [], ◌∷◌, Option, Some, None, refl, sym, ap, subst, ◌∙◌, true≢false, not, ◌||◌, map, nat_lt, unwrap_or, if◌then◌else◌, filter, lookup, is_at, tid_cmp, ClientNo, NodeNo, ServerNo, Tid, IpcValue, queue_at, server_cmp, QueueValue, no_queue, Delivery, at_exact, IsRising, removed, BookValue, find_transaction, TransactionValue, is_commit, is_open, is_outcome, Cell, Work, forget, Participant, HoldsWork, book_at}
use Rattle.qs_world_lawful.proofs.Words.{face_of, HoldsAt, HoldsTid, IsAsking, IsOwner, some_same}
use Rattle.qs_base.specs.declared.identifiers.Outcome.TheVariants as outcomes
use Rattle.qs_ipc.specs.Ipc as ipc
use Rattle.qs_ipc.specs.Ipc.{forgotten_below, servers}
use Rattle.qs_ipc.specs.Queue.{forgotten, is_of}
use Rattle.qs_book_machine.specs.declared.transaction.Cell.TheVariants as cells
use Rattle.qs_node_step.specs.State.{NodeValue}
use Rattle.qs_node_step.specs.Telling.{drop_counts}
use Rattle.qs_tm.specs.Manager as tm
use Rattle.qs_world_lawful.specs.Face.{Face}
use Rattle.qs_world_lawful.proofs.OtherShares.{removed_apart}
use Rattle.qs_world_lawful.proofs.Apart.{Apart, same_or_apart}
use Rattle.qs_world_lawful.proofs.Clauses.{of_tid}
use Rattle.qs_world_lawful.proofs.Frames.{asking_on, at_each, clients_with, held_on, tid_alike}
use Rattle.qs_world_lawful.proofs.Growing.{kept_on}
use Rattle.qs_world_lawful.proofs.SameWaits.{waits_alike}

-- ---- queues keep what waits

forgotten_at : (tid : Tid) (n : ℕ) (p : ServerNo → Bool) (queues : IpcValue) → (unwrap_or (lookup p (map (forgotten_below n tid) queues)) no_queue).waiting ≡ (unwrap_or (lookup p queues) no_queue).waiting
forgotten_at tid n p [] = refl
forgotten_at tid n p (q ∷ qs) = by (nat_lt q.0.0 n) (forgotten_at tid n p qs)
  where
    of : (b : Bool) → p q.0 ≡ b → (c : QueueValue) → c.waiting ≡ q.1.waiting → (unwrap_or (lookup p (map (forgotten_below n tid) qs)) no_queue).waiting ≡ (unwrap_or (lookup p qs) no_queue).waiting
        → (unwrap_or (lookup p ((q.0, c) ∷ map (forgotten_below n tid) qs)) no_queue).waiting ≡ (unwrap_or (lookup p (q ∷ qs)) no_queue).waiting
    of true is c same more = rw is same
    of false is c same more = rw is more

    by : (b : Bool) → (unwrap_or (lookup p (map (forgotten_below n tid) qs)) no_queue).waiting ≡ (unwrap_or (lookup p qs) no_queue).waiting
        → (unwrap_or (lookup p ((if b then (q.0, forgotten tid q.1) else q) ∷ map (forgotten_below n tid) qs)) no_queue).waiting ≡ (unwrap_or (lookup p (q ∷ qs)) no_queue).waiting
    by true more = of (p q.0) refl (forgotten tid q.1) refl more
    by false more = of (p q.0) refl q.1 refl more

pub dropped_waiting : (tid : Tid) (queues : IpcValue) (server : ServerNo) → (queue_at (drop_counts tid queues) server).waiting ≡ (queue_at queues server).waiting
dropped_waiting tid queues server = by (ipc.waits tid queues)
  where
    by : (b : Bool) → (queue_at (if b then queues else ipc.forget tid queues) server).waiting ≡ (queue_at queues server).waiting
    by true = refl
    by false = forgotten_at tid servers (is_at (server_cmp server)) queues

-- ---- what is committed, and unknown

forgotten_tid : (here : NodeNo) (inc : ℕ) (tid : Tid) (tx : TransactionValue) (face : Face) (part : Participant) → part.outcome ≡ Some outcomes.Commit → HoldsTid here inc tid tx (record face { known = Some part }) → HoldsTid here inc tid tx (record face { known = None })
forgotten_tid here inc tid tx face part committed h = record {
  sized = refl;
  members = λ held. absurd (not_held held);
  asked = λ is. absurd (cc is);
  outcome = λ o is. absurd (cc is);
  silent = λ is. absurd (other (some_same (sym committed ∙ h.silent is)));
  local = h.local;
  sent = λ held. absurd (not_held held);
  pending = h.pending;
  noted = λ held. absurd (not_held held);
  queued = h.queued;
  made = h.made;
  yielded = h.yielded;
  home = λ at in_inc. record { runs = λ is. absurd (no_open tx.cell cell is); undecided = λ p is. absurd (cc is); asked = λ p is. absurd (cc is) };
}
  where
    cell : is_commit tx.cell ≡ true
    cell = as_commit tx.cell (h.outcome outcomes.Commit committed)
      where
        as_commit : (c : Cell) → is_outcome outcomes.Commit c ≡ true → is_commit c ≡ true
        as_commit cells.Commit e = refl
        as_commit cells.Abort e = absurd (cc e)
        as_commit cells.Open e = absurd (cc e)

    no_open : (c : Cell) → is_commit c ≡ true → is_open c ≡ true → ⊥
    no_open cells.Commit e is = cc is
    no_open cells.Abort e is = cc e
    no_open cells.Open e is = cc e

    not_held : (false || not (is_commit tx.cell)) ≡ true → ⊥
    not_held held = true≢false (sym held ∙ ap not cell)

    other : outcomes.Commit ≡ outcomes.Abort → ⊥
    other e = cc e

-- ---- the rule

-- where what is held of it is held of a node that knows nothing of it
module _ (stamp : ℕ) (before : BookValue) (work : Work) (h : HoldsWork stamp before work) (tid : Tid) (rising : IsRising tid_cmp work.node.manager.known) (tx : TransactionValue) (found : find_transaction (book_at stamp before work) tid ≡ Some tx)
    (unheard : HoldsTid work.node.setting.node work.node.setting.inc tid tx (record (face_of work.node tid) { known = None })) where
  abbrev node : NodeValue
  node = work.node

  abbrev new : NodeValue
  new = (forget tid work).node

  abbrev book : BookValue
  book = book_at stamp before work

  nothing : tm.part_of tid new.manager ≡ None
  nothing = removed tid_cmp at_exact tid node.manager.known rising

  apart_known : (t : Tid) → Apart tid t → tm.part_of t new.manager ≡ tm.part_of t node.manager
  apart_known t far = removed_apart (is_at (tid_cmp tid)) (is_at (tid_cmp t)) far.keys node.manager.known

  waits_same : (t : Tid) (server : ServerNo) → (face_of new t).waiting server ≡ (face_of node t).waiting server
  waits_same t server = ap (filter (is_of t)) (dropped_waiting tid node.queues server)

  with_waiting : (face : Face) (waiting : ServerNo → List Delivery) → ((server : ServerNo) → waiting server ≡ face.waiting server) → HoldsTid node.setting.node node.setting.inc tid tx face → HoldsTid node.setting.node node.setting.inc tid tx (record face { waiting = waiting })
  with_waiting face waiting same k = tid_alike node.setting.node node.setting.inc tid tx face (record face { waiting = waiting }) (record { known = refl; local = refl; changes = refl; loans = refl; waiting = same }) k

  own : HoldsAt node.setting.node node.setting.inc tid (find_transaction book tid) (face_of new tid)
  own = subst (λ (o : Option TransactionValue). HoldsAt node.setting.node node.setting.inc tid o (face_of new tid)) (sym found)
      (subst (λ (o : Option Participant). HoldsTid node.setting.node node.setting.inc tid tx (record (face_of new tid) { known = o })) (sym nothing)
      (with_waiting (record (face_of node tid) { known = None }) (face_of new tid).waiting (waits_same tid)
      unheard))

  asking : (t : Tid) (c : ClientNo) (p : Participant) → t.home ≡ node.setting.node → tm.part_of t new.manager ≡ Some p → p.outcome ≡ None → p.asked ≡ true → IsOwner book t c → IsAsking new t c
  asking t c p at is none asked owns = by (same_or_apart tid t)
    where
      clash : None ≡ Some p → ⊥
      clash e = cc e

      by : (tid ≡ t) ⊎ Apart tid t → IsAsking new t c
      by (inl same) = absurd (clash (sym nothing ∙ subst (λ (u : Tid). tm.part_of u new.manager ≡ Some p) (sym same) is))
      by (inr far) = asking_on node new (record { commands = refl; labels = refl; outcomes = refl }) t c (h.holds.clients.asking t c p at (sym (apart_known t far) ∙ is) none asked owns)

  pub by_unheard : HoldsWork stamp before (forget tid work)
  by_unheard = kept_on stamp before work (forget tid work) h refl refl
      (held_on stamp book book node new h.holds (record { setting = refl; at = refl; in_inc = refl }) refl h.holds.state (record { up = refl; inc = refl; begun = refl; format = refl })
      h.holds.order refl h.holds.there (λ t is. is)
      (at_each node.setting.node node.setting.inc book book node new tid h.holds.at (λ t far. refl) (λ t far. record { known = apart_known t far; local = refl; changes = refl; loans = refl; waiting = waits_same t }) own)
      (clients_with book book node new (λ t. refl) (λ k. refl) (record { setting = refl; at = refl; in_inc = refl }) (record { commands = refl; labels = refl; outcomes = refl }) h.holds.clients asking)
      h.holds.servers (λ t. waits_alike node.setting.node node.setting.inc t (find_transaction book t) (face_of node t).waiting (face_of new t).waiting node.servers node.servers (waits_same t) refl (h.holds.waits t)))

-- what is committed is forgotten
pub by_forget : (stamp : ℕ) (before : BookValue) (work : Work) → HoldsWork stamp before work → (tid : Tid) (part : Participant) → tm.part_of tid work.node.manager ≡ Some part → part.outcome ≡ Some outcomes.Commit → IsRising tid_cmp work.node.manager.known
    → (tx : TransactionValue) → find_transaction (book_at stamp before work) tid ≡ Some tx → HoldsWork stamp before (forget tid work)
by_forget stamp before work h tid part known committed rising tx found =
    by_unheard stamp before work h tid rising tx found
    (forgotten_tid work.node.setting.node work.node.setting.inc tid tx (face_of work.node tid) part committed
    (subst (λ (o : Option Participant). HoldsTid work.node.setting.node work.node.setting.inc tid tx (record (face_of work.node tid) { known = o })) known (of_tid stamp (book_at stamp before work) work.node h.holds tid tx found)))
