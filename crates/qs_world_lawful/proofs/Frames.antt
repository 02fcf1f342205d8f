-- What is held of each transaction is held on where the machine and the node change what they have of one alone.
use Rattle.qs_world_lawful.proofs.Words.{◌≡◌, ◌⊎◌, inl, inr, ℕ, Bool, true, List, [], Option, Some, None, refl, sym, ap, subst, ◌∙◌, nat_lt, length, is_some, slice_get, option_map, find, lookup, is_at, ClientNo, NodeNo, Outcome, ServerNo, Tid, Answer, Delivery, TransactionValue, is_outcome, Cell, BookValue, find_transaction, is_known, Owner, Participant, KeptLabel, Decided, Lent, OpenCommand, is_outcome_of, outcome_answer, label_at, has_label, client_cmp, IsRising, face_of, HoldsServers, is_seen}
use Rattle.qs_world_lawful.proofs.Words.{HoldsWaitsAt, Holds, HoldsTid, HoldsAt, HoldsClients, IsBehind, IsOwner, MayBeTold, HasEnded, IsAsking, is_next, same_Some}
use Rattle.qs_ops.specs.declared.answer.Answer.TheVariants as answers
use Rattle.qs_book_machine.specs.Nodes as machine
use Rattle.qs_tm.specs.Manager as tm
use Rattle.qs_node_step.specs.State.{NodeValue}
use Rattle.qs_world_lawful.specs.Face.{Face}
use Rattle.qs_world_lawful.specs.Holds.{HasBegun}
use Rattle.qs_world_lawful.proofs.Apart.{Apart, same_or_apart}

-- ---- a face that stays

pub record SameFace (a b : Face) : Type 0 where
  pub known : b.known ≡ a.known
  pub local : b.local ≡ a.local
  pub changes : b.changes ≡ a.changes
  pub loans : b.loans ≡ a.loans
  pub waiting : (server : ServerNo) → b.waiting server ≡ a.waiting server

pub same_face : (a : Face) → SameFace a a
same_face a = record { known = refl; local = refl; changes = refl; loans = refl; waiting = λ server. refl }

abbrev made_of : Option Participant → ℕ → ℕ → List Lent → (ServerNo → List Delivery) → Face
made_of known local changes loans waiting = record { known = known; local = local; changes = changes; loans = loans; waiting = waiting }

with_waiting : (here : NodeNo) (inc : ℕ) (tid : Tid) (tx : TransactionValue) (face : Face) (waiting : ServerNo → List Delivery) → ((server : ServerNo) → waiting server ≡ face.waiting server)
    → HoldsTid here inc tid tx face → HoldsTid here inc tid tx (record face { waiting = waiting })
with_waiting here inc tid tx face waiting same h = record {
  sized = h.sized;
  members = h.members;
  asked = h.asked;
  outcome = h.outcome;
  silent = h.silent;
  local = h.local;
  sent = h.sent;
  pending = h.pending;
  noted = h.noted;
  queued = λ server at near. rw (same server) (h.queued server at near);
  made = h.made;
  yielded = h.yielded;
  home = h.home;
}

pub tid_alike : (here : NodeNo) (inc : ℕ) (tid : Tid) (tx : TransactionValue) (a b : Face) → SameFace a b → HoldsTid here inc tid tx a → HoldsTid here inc tid tx b
tid_alike here inc tid tx a b same h =
    subst (λ (o : Option Participant). HoldsTid here inc tid tx (made_of o b.local b.changes b.loans b.waiting)) (sym same.known)
    (subst (λ (n : ℕ). HoldsTid here inc tid tx (made_of a.known n b.changes b.loans b.waiting)) (sym same.local)
    (subst (λ (n : ℕ). HoldsTid here inc tid tx (made_of a.known a.local n b.loans b.waiting)) (sym same.changes)
    (subst (λ (ls : List Lent). HoldsTid here inc tid tx (made_of a.known a.local a.changes ls b.waiting)) (sym same.loans)
    (with_waiting here inc tid tx a b.waiting same.waiting h))))

pub at_alike : (here : NodeNo) (inc : ℕ) (tid : Tid) (o : Option TransactionValue) (a b : Face) → SameFace a b → HoldsAt here inc tid o a → HoldsAt here inc tid o b
at_alike here inc tid (Some tx) a b same h = tid_alike here inc tid tx a b same h
at_alike here inc tid None a b same h = record {
  known = same.known ∙ h.known;
  local = same.local ∙ h.local;
  changes = same.changes ∙ h.changes;
  loans = same.loans ∙ h.loans;
  waiting = λ server. same.waiting server ∙ h.waiting server;
}

-- ---- the parts of what is held that each rule leaves

-- of the node
pub record SameNode (node new : NodeValue) : Type 0 where
  pub setting : new.setting ≡ node.setting
  pub at : new.manager.node ≡ node.manager.node
  pub in_inc : new.manager.inc ≡ node.manager.inc

-- of what it keeps for clients
pub record SameClients (node new : NodeValue) : Type 0 where
  pub commands : new.commands ≡ node.commands
  pub labels : new.kept.now.labels ≡ node.kept.now.labels
  pub outcomes : new.kept.now.outcomes ≡ node.kept.now.outcomes

-- the machine's state of the node
pub record SameState (state new : machine.NodeValue) : Type 0 where
  pub up : new.up ≡ state.up
  pub inc : new.inc ≡ state.inc
  pub begun : new.begun ≡ state.begun
  pub format : new.format ≡ state.format

-- what an owner is told of is left of each transaction
abbrev pub seen : TransactionValue → Option ClientNo × Cell
seen tx = (tx.owner, tx.cell)

abbrev pub KeepsSeen : BookValue → BookValue → Type 0
KeepsSeen book new = (t : Tid) → option_map seen (find_transaction new t) ≡ option_map seen (find_transaction book t)

-- and what its client was told, but for what it waits for
abbrev pub said_to : Owner → Owner
said_to owner = record owner { waiting = [] }

abbrev pub KeepsOwners : BookValue → BookValue → Type 0
KeepsOwners book new = (k : ℕ) → option_map said_to (slice_get new.owners k) ≡ option_map said_to (slice_get book.owners k)

pub of_said : (owner : Owner) (said : Answer) → is_known owner said ≡ is_known (said_to owner) said
of_said owner answers.Done = refl
of_said owner (answers.Value text) = refl
of_said owner (answers.Left ticks) = refl
of_said owner (answers.Names list) = refl
of_said owner (answers.Notes list) = refl
of_said owner (answers.Busy holder) = refl
of_said owner answers.Absent = refl
of_said owner answers.TooMany = refl
of_said owner answers.TooLong = refl
of_said owner answers.Committed = refl
of_said owner (answers.Aborted cause) = refl
of_said owner said = refl

-- and whether commit was asked for, and how it ended, of what the node has
abbrev pub told_of : Participant → Bool × Option Outcome
told_of part = (part.asked, part.outcome)

abbrev pub KeepsTold : NodeValue → NodeValue → Type 0
KeepsTold node new = (t : Tid) → option_map told_of (tm.part_of t new.manager) ≡ option_map told_of (tm.part_of t node.manager)

-- a value of which a part is alike
pub found_alike : {X Y : Type 0} (g : X → Y) (a b : Option X) (x : X) → option_map g a ≡ option_map g b → b ≡ Some x → (y : X) × (a ≡ Some y) × (g y ≡ g x)
found_alike g None b x same is = absurd (cc (rw is at same))
found_alike g (Some y) b x same is = (y, refl, same_Some _ _ (rw is at same))

module _ (book new_book : BookValue) (keeps : KeepsSeen book new_book) where
  found_on : (t : Tid) (tx : TransactionValue) → find_transaction book t ≡ Some tx → (now : TransactionValue) × (find_transaction new_book t ≡ Some now) × (seen now ≡ seen tx)
  found_on t tx found = found_alike seen (find_transaction new_book t) (find_transaction book t) tx (keeps t) found

  pub owner_on : (t : Tid) (client : ClientNo) → IsOwner book t client → IsOwner new_book t client
  owner_on t client h = let now = found_on t h.tx h.found in record { tx = now.0; found = now.1; owns = ap (λ (p : Option ClientNo × Cell). p.0) now.2 ∙ h.owns }

  found_back : (t : Tid) (tx : TransactionValue) → find_transaction new_book t ≡ Some tx → (was : TransactionValue) × (find_transaction book t ≡ Some was) × (seen was ≡ seen tx)
  found_back t tx found = found_alike seen (find_transaction book t) (find_transaction new_book t) tx (sym (keeps t)) found

  pub owner_back : (t : Tid) (client : ClientNo) → IsOwner new_book t client → IsOwner book t client
  owner_back t client h = let was = found_back t h.tx h.found in record { tx = was.0; found = was.1; owns = ap (λ (p : Option ClientNo × Cell). p.0) was.2 ∙ h.owns }

  pub known_on : (t : Tid) → is_some (find_transaction new_book t) ≡ true → is_some (find_transaction book t) ≡ true
  known_on t is = by (find_transaction new_book t) (find_transaction book t) (keeps t) is
    where
      by : (a b : Option TransactionValue) → option_map seen a ≡ option_map seen b → is_some a ≡ true → is_some b ≡ true
      by None b e h = absurd (cc h)
      by (Some x) None e h = absurd (cc e)
      by (Some x) (Some y) e h = refl

-- ---- clients

module _ (book new_book : BookValue) (owners : KeepsOwners book new_book) where
  owner_there : (client : ClientNo) (owner : Owner) → slice_get book.owners client.0 ≡ Some owner → (now : Owner) × (slice_get new_book.owners client.0 ≡ Some now) × (said_to now ≡ said_to owner)
  owner_there client owner there = found_alike said_to (slice_get new_book.owners client.0) (slice_get book.owners client.0) owner (owners client.0) there

  told_on : (client : ClientNo) (decided : Decided) → MayBeTold book client decided → MayBeTold new_book client decided
  told_on client decided k =
      let now = owner_there client k.owner k.there in
      record { owner = now.0; there = now.1; known = of_said now.0 (outcome_answer decided) ∙ (ap (λ (o : Owner). is_known o (outcome_answer decided)) now.2 ∙ (sym (of_said k.owner (outcome_answer decided)) ∙ k.known)) }

  pub behind_on : (client : ClientNo) (line : ℕ) → IsBehind book client line → IsBehind new_book client line
  behind_on client line b =
      let now = owner_there client b.owner b.there in
      record { owner = now.0; there = now.1; less = ap (λ (o : Owner). nat_lt o.line line) now.2 ∙ b.less }

  pub ended_on : KeepsSeen book new_book → (t : Tid) (decided : Decided) → HasEnded book t decided → HasEnded new_book t decided
  ended_on seen_on t decided h =
      let now = found_alike seen (find_transaction new_book t) (find_transaction book t) h.tx (seen_on t) h.found in
      record {
        tx = now.0;
        found = now.1;
        as_kept = subst (λ (c : Cell). is_outcome decided.outcome c ≡ true) (sym (ap (λ (p : Option ClientNo × Cell). p.1) now.2)) h.as_kept;
        told = λ client owns. told_on client decided (h.told client (sym (ap (λ (p : Option ClientNo × Cell). p.0) now.2) ∙ owns));
      }

-- who waits for a commit waits on
pub asking_on : (node new : NodeValue) → SameClients node new → (t : Tid) (client : ClientNo) → IsAsking node t client → IsAsking new t client
asking_on node new kept t client h = record {
  command = h.command;
  waits = ap (λ (cs : List (ClientNo × OpenCommand)). lookup (is_at (client_cmp client)) cs) kept.commands ∙ h.waits;
  commits = h.commits;
  unissued = h.unissued;
  begun = h.begun;
  labelled = ap (find (has_label h.command.line.label)) kept.labels ∙ h.labelled;
  of = h.of;
  owned = h.owned;
}

module _ (book new_book : BookValue) (node new : NodeValue) (seen_on : KeepsSeen book new_book) (owners : KeepsOwners book new_book) (same : SameNode node new) (kept : SameClients node new)
    (h : HoldsClients book node) where
  label_back : (label : List ℕ) (begun : KeptLabel) → label_at label new ≡ Some begun → label_at label node ≡ Some begun
  label_back label begun is = ap (find (has_label label)) (sym kept.labels) ∙ is

  -- where it is shown who waits for a commit
  pub clients_with : ((t : Tid) (client : ClientNo) (part : Participant) → t.home ≡ node.setting.node → tm.part_of t new.manager ≡ Some part → part.outcome ≡ None → part.asked ≡ true → IsOwner book t client → IsAsking new t client)
      → HoldsClients new_book new
  clients_with asking = record {
    apart = subst (λ (cs : List (ClientNo × OpenCommand)). IsRising client_cmp cs) (sym kept.commands) h.apart;
    lines = λ client command is. behind_on book new_book owners client command.line.line (h.lines client command (ap (λ (cs : List (ClientNo × OpenCommand)). lookup (is_at (client_cmp client)) cs) (sym kept.commands) ∙ is));
    labels = λ label begun t client is of owned. owner_on book new_book seen_on t client (h.labels label begun t client (label_back label begun is) of owned);
    outcomes = λ t decided is. ended_on book new_book owners seen_on t decided (h.outcomes t decided (ap (find (is_outcome_of t)) (sym kept.outcomes) ∙ is));
    asking = λ t client part at known unknown asked owns. asking t client part (at ∙ ap (λ s. s.node) same.setting) known unknown asked (owner_back book new_book seen_on t client owns);
  }

  pub clients_on : KeepsTold node new → HoldsClients new_book new
  clients_on told = clients_with asked_on
    where
      asked_on : (t : Tid) (client : ClientNo) (part : Participant) → t.home ≡ node.setting.node → tm.part_of t new.manager ≡ Some part → part.outcome ≡ None → part.asked ≡ true → IsOwner book t client → IsAsking new t client
      asked_on t client part at known unknown asked owns =
          let was = found_alike told_of (tm.part_of t node.manager) (tm.part_of t new.manager) part (sym (told t)) known in
          asking_on node new kept t client (h.asking t client was.0 at was.1 (ap (λ (p : Bool × Option Outcome). p.1) was.2 ∙ unknown) (ap (λ (p : Bool × Option Outcome). p.0) was.2 ∙ asked) owns)

-- ---- all of it

module _ (stamp : ℕ) (book new_book : BookValue) (node new : NodeValue) (h : Holds stamp book node) where
  pub held_on : (same : SameNode node new) → new.manager.begun ≡ node.manager.begun → (state : machine.NodeValue) → SameState h.state state
      → is_next stamp node.setting.node.0 new_book ≡ true → length new_book.nodes ≡ length book.nodes → slice_get new_book.nodes node.setting.node.0 ≡ Some state
      → ((t : Tid) → is_some (find_transaction new_book t) ≡ true → is_some (find_transaction book t) ≡ true) → ((t : Tid) → HoldsAt node.setting.node node.setting.inc t (find_transaction new_book t) (face_of new t)) → HoldsClients new_book new
      → HoldsServers (is_seen new_book node.setting.node) state new.servers → ((t : Tid) → HoldsWaitsAt node.setting.node node.setting.inc t (find_transaction new_book t) (face_of new t).waiting new.servers)
      → Holds stamp new_book new
  held_on same begun state left order run there stands at clients servers waits = record {
    servers = subst (λ (n : NodeNo). HoldsServers (is_seen new_book n) state new.servers) (sym here) servers;
    waits = λ t. subst (λ (n : NodeNo). HoldsWaitsAt n new.setting.inc t (find_transaction new_book t) (face_of new t).waiting new.servers) (sym here)
        (subst (λ (i : ℕ). HoldsWaitsAt node.setting.node i t (find_transaction new_book t) (face_of new t).waiting new.servers) (sym (ap (λ s. s.inc) same.setting)) (waits t));
    order = subst (λ (n : NodeNo). is_next stamp n.0 new_book ≡ true) (sym here) order;
    run = run ∙ (h.run ∙ sym (ap (λ s. s.nodes) same.setting));
    state = state;
    there = subst (λ (n : NodeNo). slice_get new_book.nodes n.0 ≡ Some state) (sym here) there;
    same = record {
      up = left.up ∙ h.same.up;
      inc = left.inc ∙ (h.same.inc ∙ sym (ap (λ s. s.inc) same.setting));
      begun = left.begun ∙ (h.same.begun ∙ sym begun);
      extra = ap machine.extra_of left.format ∙ (h.same.extra ∙ sym (ap (λ s. s.extra) same.setting));
      keep = ap machine.keep_of left.format ∙ (h.same.keep ∙ sym (ap (λ s. s.keep) same.setting));
      at = same.at ∙ (h.same.at ∙ sym here);
      in_inc = same.in_inc ∙ (h.same.in_inc ∙ sym (ap (λ s. s.inc) same.setting));
    };
    at = λ t. subst (λ (n : NodeNo). HoldsAt n new.setting.inc t (find_transaction new_book t) (face_of new t)) (sym here)
        (subst (λ (i : ℕ). HoldsAt node.setting.node i t (find_transaction new_book t) (face_of new t)) (sym (ap (λ s. s.inc) same.setting)) (at t));
    begun = λ t home is. subst (λ (i : ℕ). HasBegun i new.manager.begun t) (sym (ap (λ s. s.inc) same.setting))
        (subst (λ (n : ℕ). HasBegun node.setting.inc n t) (sym begun) (h.begun t (home ∙ here) (stands t is)));
    clients = clients;
  }
    where
      here : new.setting.node ≡ node.setting.node
      here = ap (λ s. s.node) same.setting

-- where one transaction alone is changed
pub at_each : (here : NodeNo) (inc : ℕ) (book new_book : BookValue) (node new : NodeValue) (tid : Tid)
    → ((t : Tid) → HoldsAt here inc t (find_transaction book t) (face_of node t))
    → ((t : Tid) → Apart tid t → find_transaction new_book t ≡ find_transaction book t)
    → ((t : Tid) → Apart tid t → SameFace (face_of node t) (face_of new t))
    → HoldsAt here inc tid (find_transaction new_book tid) (face_of new tid)
    → (t : Tid) → HoldsAt here inc t (find_transaction new_book t) (face_of new t)
at_each here inc book new_book node new tid h found faces own t = by (same_or_apart tid t)
  where
    by : (tid ≡ t) ⊎ Apart tid t → HoldsAt here inc t (find_transaction new_book t) (face_of new t)
    by (inl same) = subst (λ (u : Tid). HoldsAt here inc u (find_transaction new_book u) (face_of new u)) same own
    by (inr far) = subst (λ (o : Option TransactionValue). HoldsAt here inc t o (face_of new t)) (sym (found t far)) (at_alike here inc t (find_transaction book t) (face_of node t) (face_of new t) (faces t far) (h t))

-- where none is
pub at_none : (here : NodeNo) (inc : ℕ) (book : BookValue) (node new : NodeValue)
    → ((t : Tid) → HoldsAt here inc t (find_transaction book t) (face_of node t))
    → ((t : Tid) → SameFace (face_of node t) (face_of new t))
    → (t : Tid) → HoldsAt here inc t (find_transaction book t) (face_of new t)
at_none here inc book node new h faces t = at_alike here inc t (find_transaction book t) (face_of node t) (face_of new t) (faces t) (h t)
