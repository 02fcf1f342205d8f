-- A node takes in the outcome that the machine's cell has.
use Rattle.qs_world_lawful.proofs.Words.{◌≡◌, ◌⊎◌, inl, inr, ℕ, true, Option, Some, None, refl, sym, ap, subst, ◌∙◌, ClientNo, NodeNo, Outcome, Tid, TransactionValue, is_open, is_outcome, Cell, BookValue, find_transaction, Participant, Work, with_manager, face_of, HoldsTid, HoldsAt, IsOwner, IsAsking, HoldsWork, book_at, some_same}
use Rattle.qs_base.specs.declared.identifiers.Outcome.TheVariants as outcomes
use Rattle.qs_book_machine.specs.declared.transaction.Cell.TheVariants as cells
use Rattle.qs_tm.specs.Manager as tm
use Rattle.qs_tm.specs.Outcomes as outcome_rules
use Rattle.qs_node_step.specs.State.{NodeValue}
use Rattle.qs_world_lawful.specs.Face.{Face}
use Rattle.qs_world_lawful.proofs.Apart.{Apart, same_or_apart}
use Rattle.qs_world_lawful.proofs.Clauses.{of_tid}
use Rattle.qs_world_lawful.proofs.Faces.{part_apart, part_changed}
use Rattle.qs_world_lawful.proofs.Frames.{held_on, at_each, clients_with, asking_on}
use Rattle.qs_world_lawful.proofs.Growing.{kept_on}

pub none_open : (outcome : Outcome) (c : Cell) → is_outcome outcome c ≡ true → is_open c ≡ true → ⊥
none_open outcomes.Commit cells.Open is e = cc is
none_open outcomes.Abort cells.Open is e = cc is
none_open outcome cells.Commit is e = cc e
none_open outcome cells.Abort is e = cc e

took_tid : (outcome : Outcome) (here : NodeNo) (inc : ℕ) (tid : Tid) (tx : TransactionValue) (face : Face) (part : Participant) → part.outcome ≡ None → is_outcome outcome tx.cell ≡ true → HoldsTid here inc tid tx (record face { known = Some part })
    → HoldsTid here inc tid tx (record face { known = Some (outcome_rules.took_outcome outcome part) })
took_tid outcome here inc tid tx face part unknown cell h = record {
  sized = h.sized;
  members = λ held server kept. h.members refl server kept;
  asked = h.asked;
  outcome = λ o is. subst (λ (x : Outcome). is_outcome x tx.cell ≡ true) (some_same is) cell;
  silent = λ is. absurd (nothing (sym unknown ∙ h.silent is));
  local = h.local;
  sent = λ held. h.sent refl;
  pending = h.pending;
  noted = λ held. h.noted refl;
  queued = h.queued;
  made = h.made;
  yielded = h.yielded;
  home = λ near in_inc. record {
    runs = λ is. refl;
    undecided = λ p same none. absurd (clash (ap (λ (q : Participant). q.outcome) (some_same same) ∙ none));
    asked = λ p same is. absurd (none_open outcome tx.cell cell is);
  };
}
  where
    nothing : None ≡ Some outcomes.Abort → ⊥
    nothing e = cc e

    clash : Some outcome ≡ None → ⊥
    clash e = cc e

pub by_took : (stamp : ℕ) (before : BookValue) (work : Work) (tid : Tid) (outcome : Outcome) (part : Participant) (tx : TransactionValue) → HoldsWork stamp before work → tm.part_of tid work.node.manager ≡ Some part
    → find_transaction (book_at stamp before work) tid ≡ Some tx → part.outcome ≡ None → is_outcome outcome tx.cell ≡ true → HoldsWork stamp before (with_manager (tm.took_outcome tid outcome) work)
by_took stamp before work tid outcome part tx h known found unknown cell = kept_on stamp before work (with_manager (tm.took_outcome tid outcome) work) h refl refl
    (held_on stamp book book node new h.holds (record { setting = refl; at = refl; in_inc = refl }) refl h.holds.state (record { up = refl; inc = refl; begun = refl; format = refl })
    h.holds.order refl h.holds.there (λ t is. is)
    (at_each node.setting.node node.setting.inc book book node new tid h.holds.at (λ t far. refl) (λ t far. record { known = part_apart tid t (outcome_rules.took_outcome outcome) node.manager far; local = refl; changes = refl; loans = refl; waiting = λ s. refl }) own)
    (clients_with book book node new (λ t. refl) (λ k. refl) (record { setting = refl; at = refl; in_inc = refl }) (record { commands = refl; labels = refl; outcomes = refl }) h.holds.clients asking) h.holds.servers h.holds.waits)
  where
    node : NodeValue
    node = work.node

    new : NodeValue
    new = record node { manager = tm.took_outcome tid outcome node.manager }

    book : BookValue
    book = book_at stamp before work

    own : HoldsAt node.setting.node node.setting.inc tid (find_transaction book tid) (face_of new tid)
    own = subst (λ (o : Option TransactionValue). HoldsAt node.setting.node node.setting.inc tid o (face_of new tid)) (sym found)
        (subst (λ (o : Option Participant). HoldsTid node.setting.node node.setting.inc tid tx (record (face_of node tid) { known = o })) (sym (part_changed tid (outcome_rules.took_outcome outcome) node.manager part known))
        (took_tid outcome node.setting.node node.setting.inc tid tx (face_of node tid) part unknown cell
        (subst (λ (o : Option Participant). HoldsTid node.setting.node node.setting.inc tid tx (record (face_of node tid) { known = o })) known (of_tid stamp book node h.holds tid tx found))))

    asking : (t : Tid) (c : ClientNo) (p : Participant) → t.home ≡ node.setting.node → tm.part_of t new.manager ≡ Some p → p.outcome ≡ None → p.asked ≡ true → IsOwner book t c → IsAsking new t c
    asking t c p at is none asked owns = by (same_or_apart tid t)
      where
        clash : Some outcome ≡ None → ⊥
        clash e = cc e

        by : (tid ≡ t) ⊎ Apart tid t → IsAsking new t c
        by (inl same) =
            let it : Some (outcome_rules.took_outcome outcome part) ≡ Some p =
            sym (part_changed tid (outcome_rules.took_outcome outcome) node.manager part known) ∙ subst (λ (u : Tid). tm.part_of u new.manager ≡ Some p) (sym same) is in
            absurd (clash (ap (λ (q : Participant). q.outcome) (some_same it) ∙ none))
        by (inr far) = asking_on node new (record { commands = refl; labels = refl; outcomes = refl }) t c (h.holds.clients.asking t c p at (sym (part_apart tid t (outcome_rules.took_outcome outcome) node.manager far) ∙ is) none asked owns)
