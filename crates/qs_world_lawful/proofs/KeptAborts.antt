-- A node keeps that a transaction is aborted of which it knows nothing: the machine has it aborted, and nothing else is held of it.
use Rattle.qs_world_lawful.proofs.Words.{◌≡◌, ◌⊎◌, inl, inr, ℕ, Bool, true, false, Option, Some, None, refl, sym, ap, subst, ◌∙◌, not, ◌||◌, is_some, if◌then◌else◌, tid_cmp, ClientNo, NodeNo, Outcome, Tid, tid_itself, lookup_put, BookValue, find_transaction, TransactionValue, is_commit, is_open, is_outcome, Cell, Work, with_manager, Participant, HoldsWork, IsAborted, book_at, face_of, HoldsAt, HoldsTid, IsAsking, IsOwner, some_same}
use Rattle.qs_base.specs.declared.identifiers.Outcome.TheVariants as outcomes
use Rattle.qs_book_machine.specs.Transaction.{is_abort}
use Rattle.qs_book_machine.specs.declared.transaction.Cell.TheVariants as cells
use Rattle.qs_node_step.specs.State.{NodeValue}
use Rattle.qs_tm.specs.Manager as tm
use Rattle.qs_tm.specs.Outcomes.{aborted_participant}
use Rattle.qs_world_lawful.specs.Face.{Face}
use Rattle.qs_world_lawful.proofs.Apart.{Apart, same_or_apart}
use Rattle.qs_world_lawful.proofs.Clauses.{of_tid}
use Rattle.qs_world_lawful.proofs.Faces.{put_apart}
use Rattle.qs_world_lawful.proofs.Frames.{asking_on, at_each, clients_with, held_on}
use Rattle.qs_world_lawful.proofs.Growing.{kept_on}

no_commit : (c : Cell) → is_abort c ≡ true → is_commit c ≡ false
no_commit cells.Abort e = refl
no_commit cells.Commit e = absurd (cc e)
no_commit cells.Open e = absurd (cc e)

no_open : (c : Cell) → is_abort c ≡ true → is_open c ≡ true → ⊥
no_open cells.Abort e is = cc is
no_open cells.Commit e is = cc e
no_open cells.Open e is = cc e

as_cell : (c : Cell) → is_abort c ≡ true → is_outcome outcomes.Abort c ≡ true
as_cell cells.Abort e = refl
as_cell cells.Commit e = absurd (cc e)
as_cell cells.Open e = absurd (cc e)

aborted_tid : (home : Bool) (here : NodeNo) (inc : ℕ) (tid : Tid) (tx : TransactionValue) (face : Face) → is_abort tx.cell ≡ true → HoldsTid here inc tid tx (record face { known = None }) → HoldsTid here inc tid tx (record face { known = Some (aborted_participant home) })
aborted_tid home here inc tid tx face aborted h = record {
  sized = refl;
  members = λ held server kept. h.members is_held_then server kept;
  asked = h.asked;
  outcome = λ o is. subst (λ (x : Outcome). is_outcome x tx.cell ≡ true) (some_same is) (as_cell tx.cell aborted);
  silent = λ is. refl;
  local = h.local;
  sent = λ held peer far. h.sent is_held_then peer far;
  pending = h.pending;
  noted = λ held count some is. h.noted is_held_then count some is;
  queued = h.queued;
  made = h.made;
  yielded = h.yielded;
  home = λ at in_inc. record { runs = λ is. refl; undecided = λ p same none. absurd (clash (ap (λ (q : Participant). q.outcome) (some_same same) ∙ none)); asked = λ p same still. absurd (no_open tx.cell aborted still) };
}
  where
    is_held_then : (false || not (is_commit tx.cell)) ≡ true
    is_held_then = ap not (no_commit tx.cell aborted)

    clash : Some outcomes.Abort ≡ None → ⊥
    clash e = cc e

module _ (stamp : ℕ) (before : BookValue) (work : Work) (h : HoldsWork stamp before work) (tid : Tid) where
  module _ (unknown : tm.part_of tid work.node.manager ≡ None) (k : IsAborted stamp before work tid) where
    abbrev node : NodeValue
    node = work.node

    abbrev part : Participant
    part = aborted_participant (tm.is_home tid node.manager)

    abbrev new : NodeValue
    new = record node { manager = tm.put_part tid part node.manager }

    abbrev book : BookValue
    book = book_at stamp before work

    known_now : tm.part_of tid new.manager ≡ Some part
    known_now = lookup_put tid_cmp tid part (tid_itself tid) node.manager.known

    own : HoldsAt node.setting.node node.setting.inc tid (find_transaction book tid) (face_of new tid)
    own = subst (λ (o : Option TransactionValue). HoldsAt node.setting.node node.setting.inc tid o (face_of new tid)) (sym k.found)
        (subst (λ (o : Option Participant). HoldsTid node.setting.node node.setting.inc tid k.tx (record (face_of node tid) { known = o })) (sym known_now)
        (aborted_tid (tm.is_home tid node.manager) node.setting.node node.setting.inc tid k.tx (face_of node tid) k.aborted
        (subst (λ (o : Option Participant). HoldsTid node.setting.node node.setting.inc tid k.tx (record (face_of node tid) { known = o })) unknown (of_tid stamp book node h.holds tid k.tx k.found))))

    asking : (t : Tid) (c : ClientNo) (p : Participant) → t.home ≡ node.setting.node → tm.part_of t new.manager ≡ Some p → p.outcome ≡ None → p.asked ≡ true → IsOwner book t c → IsAsking new t c
    asking t c p at is none asked owns = by (same_or_apart tid t)
      where
        clash : Some outcomes.Abort ≡ None → ⊥
        clash e = cc e

        by : (tid ≡ t) ⊎ Apart tid t → IsAsking new t c
        by (inl same) =
            let it : Some part ≡ Some p = sym known_now ∙ subst (λ (u : Tid). tm.part_of u new.manager ≡ Some p) (sym same) is in
            absurd (clash (ap (λ (q : Participant). q.outcome) (some_same it) ∙ none))
        by (inr far) = asking_on node new (record { commands = refl; labels = refl; outcomes = refl }) t c (h.holds.clients.asking t c p at (sym (put_apart tid t part node.manager far) ∙ is) none asked owns)

    by_put_abort : HoldsWork stamp before (with_manager (λ manager. tm.put_part tid part manager) work)
    by_put_abort = kept_on stamp before work (with_manager (λ manager. tm.put_part tid part manager) work) h refl refl
        (held_on stamp book book node new h.holds (record { setting = refl; at = refl; in_inc = refl }) refl h.holds.state (record { up = refl; inc = refl; begun = refl; format = refl })
        h.holds.order refl h.holds.there (λ t is. is)
        (at_each node.setting.node node.setting.inc book book node new tid h.holds.at (λ t far. refl) (λ t far. record { known = put_apart tid t part node.manager far; local = refl; changes = refl; loans = refl; waiting = λ s. refl }) own)
        (clients_with book book node new (λ t. refl) (λ k. refl) (record { setting = refl; at = refl; in_inc = refl }) (record { commands = refl; labels = refl; outcomes = refl }) h.holds.clients asking)
        h.holds.servers h.holds.waits)

  -- where it is unknown here
  pub by_keep_abort : (tm.part_of tid work.node.manager ≡ None → IsAborted stamp before work tid) → HoldsWork stamp before (with_manager (tm.keep_abort tid) work)
  by_keep_abort aborted = by (tm.part_of tid work.node.manager) refl
    where
      by : (o : Option Participant) → tm.part_of tid work.node.manager ≡ o
          → HoldsWork stamp before (record work { node = record work.node { manager = if is_some o then work.node.manager else tm.put_part tid (aborted_participant (tm.is_home tid work.node.manager)) work.node.manager } })
      by (Some p) is = h
      by None is = by_put_abort is (aborted is)
