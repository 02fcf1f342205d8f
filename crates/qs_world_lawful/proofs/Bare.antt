-- What a node keeps of a transaction beside its members, its outcome and its numbers: nothing is held of that.
use Rattle.qs_world_lawful.proofs.Words.{◌≡◌, ◌⊎◌, ℕ, true, false, [], Option, Some, None, refl, sym, ap, subst, ◌∙◌, length, option_map, is_at, tid_cmp, NodeNo, Tid, changed_alike, TransactionValue, BookValue, find_transaction, Record, Manager, Participant, log, log_if, tid_of, Work, with_manager, peer_of, member_of, has_noted, awaits_note, face_of, at_server, Holds, HoldsHome, HoldsMember, HoldsTid, HoldsAt, HoldsWork, book_at, some_same}
use Rattle.qs_engage.specs.Nodes.{no_nodes}
use Rattle.qs_tm.specs.Manager as tm
use Rattle.qs_node_step.specs.State.{NodeValue}
use Rattle.qs_world_lawful.specs.Face.{Face}
use Rattle.qs_world_lawful.proofs.Frames.{told_of, held_on, clients_on}
use Rattle.qs_world_lawful.proofs.Growing.{kept_on}

-- without all that
abbrev pub bare : Participant → Participant
bare part = record part {
  owner = None;
  begun_at = 0;
  involved = false;
  blocked = false;
  causes = [];
  told = no_nodes;
  tell = no_nodes;
  acknowledged = no_nodes;
  log = record { unended = false; prepared = false; listed = false };
}

abbrev with_known : Face → Option Participant → Face
with_known face known = record face { known = known }

home_bare : (tx : TransactionValue) (part other : Participant) → bare other ≡ bare part → HoldsHome tx (Some part) → HoldsHome tx (Some other)
home_bare tx part other same h = record {
  runs = λ is. refl;
  undecided = λ p is unknown. h.undecided part refl (sym (ap (λ (q : Participant). q.outcome) same) ∙ (ap (λ (q : Participant). q.outcome) (some_same is) ∙ unknown));
  asked = λ p is still. h.asked part refl still ∙ (sym (ap (λ (q : Participant). q.asked) same) ∙ ap (λ (q : Participant). q.asked) (some_same is));
}

tid_bare : (here : NodeNo) (inc : ℕ) (tid : Tid) (tx : TransactionValue) (face : Face) (part other : Participant) → bare other ≡ bare part → HoldsTid here inc tid tx (with_known face (Some part)) → HoldsTid here inc tid tx (with_known face (Some other))
tid_bare here inc tid tx face part other same h = record {
  sized = ap (λ (q : Participant). length q.members) same ∙ h.sized;
  members = λ held server kept. subst (λ (p : Participant). HoldsMember tx (at_server here server) inc (member_of p server)) (sym same) (h.members refl server kept);
  asked = λ is. h.asked (sym (ap (λ (q : Participant). q.asked) same) ∙ is);
  outcome = λ o is. h.outcome o (sym (ap (λ (q : Participant). q.outcome) same) ∙ is);
  silent = λ is. ap (λ (q : Participant). q.outcome) same ∙ h.silent is;
  local = h.local;
  sent = λ held peer far. h.sent refl peer far ∙ sym (ap (λ (q : Participant). (peer_of q.engage peer).sent) same);
  pending = h.pending;
  noted = λ held count some is. subst (λ (p : Participant). (has_noted count p ≡ true) ⊎ (awaits_note p ≡ true)) (sym same) (h.noted refl count some is);
  queued = h.queued;
  made = h.made;
  yielded = h.yielded;
  home = λ at in_inc. home_bare tx part other same (h.home at in_inc);
}

pub at_bare : (here : NodeNo) (inc : ℕ) (tid : Tid) (o : Option TransactionValue) (face : Face) (known other : Option Participant) → option_map bare other ≡ option_map bare known → HoldsAt here inc tid o (with_known face known) → HoldsAt here inc tid o (with_known face other)
at_bare here inc tid o face None None same h = h
at_bare here inc tid o face None (Some y) same h = absurd (cc same)
at_bare here inc tid o face (Some x) None same h = absurd (cc same)
at_bare here inc tid None face (Some x) (Some y) same h = absurd (nothing h.known)
  where
    nothing : Some x ≡ None → ⊥
    nothing e = cc e
at_bare here inc tid (Some tx) face (Some x) (Some y) same h = tid_bare here inc tid tx face x y (some_same same) h

told_bare : (known other : Option Participant) → option_map bare other ≡ option_map bare known → option_map told_of other ≡ option_map told_of known
told_bare None None same = refl
told_bare None (Some y) same = absurd (cc same)
told_bare (Some x) None same = absurd (cc same)
told_bare (Some x) (Some y) same = ap (λ (q : Participant). Some (told_of q)) (some_same same)

-- the manager keeps the same of each transaction but for that
pub record SameManager (manager new : Manager) : Type 0 where
  pub node : new.node ≡ manager.node
  pub inc : new.inc ≡ manager.inc
  pub begun : new.begun ≡ manager.begun
  pub parts : (t : Tid) → option_map bare (tm.part_of t new) ≡ option_map bare (tm.part_of t manager)

pub bare_part : (tid : Tid) (g : Participant → Participant) → ((p : Participant) → bare (g p) ≡ bare p) → (manager : Manager) → SameManager manager (tm.with_part tid g manager)
bare_part tid g keeps manager = record { node = refl; inc = refl; begun = refl; parts = λ t. changed_alike (is_at (tid_cmp tid)) bare g keeps (is_at (tid_cmp t)) manager.known }

pub held_bare : (stamp : ℕ) (book : BookValue) (node : NodeValue) (manager : Manager) → SameManager node.manager manager → Holds stamp book node → Holds stamp book (record node { manager = manager })
held_bare stamp book node manager same h =
    held_on stamp book book node (record node { manager = manager }) h (record { setting = refl; at = same.node; in_inc = same.inc }) same.begun h.state (record { up = refl; inc = refl; begun = refl; format = refl })
    h.order refl h.there (λ t is. is)
    (λ t. at_bare node.setting.node node.setting.inc t (find_transaction book t) (face_of node t) (tm.part_of t node.manager) (tm.part_of t manager) (same.parts t) (h.at t))
    (clients_on book book node (record node { manager = manager }) (λ t. refl) (λ k. refl) (record { setting = refl; at = same.node; in_inc = same.inc }) (record { commands = refl; labels = refl; outcomes = refl }) h.clients
    (λ t. told_bare (tm.part_of t node.manager) (tm.part_of t manager) (same.parts t))) h.servers h.waits

pub by_bare : (stamp : ℕ) (before : BookValue) (work : Work) (tid : Tid) (g : Participant → Participant) → ((p : Participant) → bare (g p) ≡ bare p) → HoldsWork stamp before work → HoldsWork stamp before (with_manager (tm.with_part tid g) work)
by_bare stamp before work tid g keeps h = kept_on stamp before work (with_manager (tm.with_part tid g) work) h refl refl (held_bare stamp (book_at stamp before work) work.node (tm.with_part tid g work.node.manager) (bare_part tid g keeps work.node.manager) h.holds)

-- a record is appended to the log
pub by_log : (stamp : ℕ) (before : BookValue) (work : Work) (rec : Record) → HoldsWork stamp before work → HoldsWork stamp before (log rec work)
by_log stamp before work rec h = kept_on stamp before work (log rec work) h refl refl
    (held_bare stamp (book_at stamp before work) work.node (tm.logged (tid_of rec) rec work.node.manager) (bare_part (tid_of rec) _ (λ p. refl) work.node.manager) h.holds)

pub by_log_if : (stamp : ℕ) (before : BookValue) (work : Work) (o : Option Record) → HoldsWork stamp before work → HoldsWork stamp before (log_if o work)
by_log_if stamp before work None h = h
by_log_if stamp before work (Some rec) h = by_log stamp before work rec h
