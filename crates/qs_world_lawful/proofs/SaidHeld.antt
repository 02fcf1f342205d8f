-- In the middle of a step what a node has pending is what the machine has, and the servers that it has still to tell how a transaction ends
-- are those that are still to learn it.
use Rattle.qs_world_lawful.proofs.Words.{◌≡◌, ℕ, ◌==◌, ◌||◌, ◌++◌, not, Bool, true, false, List, [], ◌∷◌, length, Option, Some, None, refl, sym, ap, subst, ◌∙◌, is_some, filter, list_any, NodeNo, ServerNo, Tid, AllLearn, is_server, keeps_contents, BookValue, crossed_in, find_transaction, inc_at, pending_in, member_at, TransactionValue, is_commit, may_learn_still, changes_in, Share, server_at, is_due_at, learners, member_of, servers_due, class_of, Participant, face_of, is_held, part_in, part_or_new}
use Rattle.qs_world_lawful.proofs.Words.{Holds, HoldsAt, is_seen, seen_in, eqb-true}
use Rattle.qs_book_machine.specs.Nodes as machine
use Rattle.qs_book_machine.specs.Transaction.{part_of}
use Rattle.qs_ops.specs.Servers.{files_no}
use Rattle.qs_node_step.specs.State.{NodeValue}
use Rattle.qs_tm.specs.Manager as tm
use Rattle.qs_tm.specs.Members.{all_servers, is_to_learn}
use Rattle.qs_tm.specs.declared.participant.Due.TheVariants as dues
use Rattle.qs_world_lawful.specs.Saying.{ArePending}
use Rattle.qs_world_lawful.proofs.Tables.{own_share}

-- files, or audit
pub either_server : (P : ℕ → Type 0) → P 0 → P 1 → (server : ℕ) → keeps_contents server ≡ true → P server
either_server P files audit server keeps = by (server == 0) (server == 1) refl refl keeps
  where
    by : (a b : Bool) → (server == 0) ≡ a → (server == 1) ≡ b → (a || b) ≡ true → P server
    by true b is other e = subst P (sym (eqb-true server 0 is)) files
    by false true is other e = subst P (sym (eqb-true server 1 other)) audit
    by false false is other e = absurd (cc e)

module _ (stamp : ℕ) (book : BookValue) (node : NodeValue) (tid : Tid) (h : Holds stamp book node) where
  abbrev own : NodeNo
  own = node.setting.node

  -- ---- what is pending

  seen_then : (server : ℕ) → crossed_in (find_transaction book tid) (member_at own.0 server) ≡ false → is_seen book own server tid ≡ true
  seen_then server clean = by (find_transaction book tid) refl
    where
      by : (o : Option TransactionValue) → find_transaction book tid ≡ o → seen_in own server (find_transaction book tid) ≡ true
      by None none = ap (seen_in own server) none
      by (Some tx) has = ap (seen_in own server) has ∙ ap not (sym (ap (λ (o : Option TransactionValue). crossed_in o (member_at own.0 server)) has) ∙ clean)

  abbrev IsPendingAt : ℕ → Type 0
  IsPendingAt server = crossed_in (find_transaction book tid) (member_at own.0 server) ≡ false → machine.pending_at h.state tid server ≡ changes_in (server_at node.servers (record { 0 = server })) tid

  pending_at : (server : ℕ) → keeps_contents server ≡ true → IsPendingAt server
  pending_at = either_server IsPendingAt
      (λ clean. ap (λ (s : Share). s.changes) (own_share (is_seen book own 0) h.state.files node.servers.files.table h.servers.files tid (seen_then 0 clean)))
      (λ clean. ap (λ (s : Share). s.changes) (own_share (is_seen book own 1) h.state.audit node.servers.audit.table h.servers.audit tid (seen_then 1 clean)))

  inc_is : inc_at book (record { 0 = own.0 }) ≡ node.setting.inc
  inc_is = ap (λ (o : Option machine.NodeValue). elim o [ None ↦ 0 | Some state ↦ state.inc ]) h.there ∙ h.same.inc

  counted : pending_in (find_transaction book tid) (member_at own.0 files_no) (inc_at book (record { 0 = own.0 })) ≡ length (changes_in node.servers.files tid)
  counted = ap (pending_in (find_transaction book tid) (member_at own.0 files_no)) inc_is ∙ by (find_transaction book tid) refl (h.at tid)
    where
      by : (o : Option TransactionValue) → find_transaction book tid ≡ o → HoldsAt own node.setting.inc tid o (face_of node tid) → pending_in o (member_at own.0 files_no) node.setting.inc ≡ length (changes_in node.servers.files tid)
      by None none e = sym e.changes
      by (Some tx) has e = e.pending

  pub pending_of : (server : ServerNo) → keeps_contents server.0 ≡ true → ArePending own.0 book h.state tid server (changes_in (server_at node.servers server) tid)
  pending_of server keeps = record {
    changes = pending_at server.0 keeps;
    count = λ is. ap (λ (k : ℕ). pending_in (find_transaction book tid) (member_at own.0 k) (inc_at book (record { 0 = own.0 }))) is
        ∙ (counted ∙ ap (λ (k : ℕ). length (changes_in (server_at node.servers (record { 0 = k })) tid)) (sym is));
  }

  -- ---- who is still to learn

  module _ (part : Participant) (known : tm.part_of tid node.manager ≡ Some part) where
    abbrev first : ServerNo → Bool
    first = is_due_at dues.FirstTold part

    any_on : (test : ServerNo → Bool) (xs ys : List ServerNo) → list_any test xs ≡ true → list_any test (xs ++ ys) ≡ true
    any_on test [] ys e = absurd (cc e)
    any_on test (x ∷ xs) ys e = by (test x) refl (any_on test xs ys)
      where
        by : (b : Bool) → test x ≡ b → (list_any test xs ≡ true → list_any test (xs ++ ys) ≡ true) → list_any test ((x ∷ xs) ++ ys) ≡ true
        by true is more = rw is refl
        by false is more = rw is (more (rw is at e))

    any_kept : (test p : ServerNo → Bool) (x : ServerNo) (xs : List ServerNo) → test x ≡ true → p x ≡ true → list_any test (filter p (x ∷ xs)) ≡ true
    any_kept test p x xs is kept = rw (kept, is) refl

    any_behind : (test p : ServerNo → Bool) (x : ServerNo) (xs : List ServerNo) → list_any test (filter p xs) ≡ true → list_any test (filter p (x ∷ xs)) ≡ true
    any_behind test p x xs any = by (p x) refl
      where
        either : (b : Bool) → list_any test (filter p xs) ≡ true → (b || list_any test (filter p xs)) ≡ true
        either true e = refl
        either false e = e

        by : (b : Bool) → p x ≡ b → list_any test (filter p (x ∷ xs)) ≡ true
        by true is = rw is (either (test x) any)
        by false is = rw is any

    abbrev IsLearner : ℕ → Type 0
    IsLearner server = is_to_learn (class_of server) (member_of part (record { 0 = server })) ≡ true → list_any (is_server server) (learners part) ≡ true

    first_learns : (server : ℕ) → list_any (is_server server) (servers_due dues.FirstTold part) ≡ true → list_any (is_server server) (learners part) ≡ true
    first_learns server e = any_on (is_server server) (servers_due dues.FirstTold part ++ servers_due dues.ThenTold part) (servers_due dues.LastTold part) (any_on (is_server server) (servers_due dues.FirstTold part) (servers_due dues.ThenTold part) e)

    abbrev no : ℕ → ServerNo
    no server = record { 0 = server }

    abbrev behind_audit : List ServerNo
    behind_audit = no 2 ∷ no 3 ∷ no 4 ∷ no 5 ∷ no 6 ∷ []

    servers_are : servers_due dues.FirstTold part ≡ filter first (no 0 ∷ no 1 ∷ behind_audit)
    unfolding all_servers
    servers_are = refl

    learner : (server : ℕ) → keeps_contents server ≡ true → IsLearner server
    learner = either_server IsLearner
        (λ due. first_learns 0 (ap (list_any (is_server 0)) servers_are ∙ any_kept (is_server 0) first (no 0) (no 1 ∷ behind_audit) refl due))
        (λ due. first_learns 1 (ap (list_any (is_server 1)) servers_are ∙ any_behind (is_server 1) first (no 0) (no 1 ∷ behind_audit) (any_kept (is_server 1) first (no 1) behind_audit refl due)))

    abbrev IsDueIn : TransactionValue → ℕ → Type 0
    IsDueIn tx server = may_learn_still (part_of tx (record { node = own; server = record { 0 = server } }) node.setting.inc) ≡ is_to_learn (class_of server) (member_of part (record { 0 = server }))

    face_part : part_in (face_of node tid) ≡ part
    face_part = ap part_or_new known

    due_in : (tx : TransactionValue) → find_transaction book tid ≡ Some tx → (server : ℕ) → keeps_contents server ≡ true → IsDueIn tx server
    due_in tx found = either_server (IsDueIn tx)
        ((holds.members held (record { 0 = 0 }) refl).learns refl ∙ ap (λ (p : Participant). is_to_learn (class_of 0) (member_of p (record { 0 = 0 }))) face_part)
        ((holds.members held (record { 0 = 1 }) refl).learns refl ∙ ap (λ (p : Participant). is_to_learn (class_of 1) (member_of p (record { 0 = 1 }))) face_part)
      where
        holds : HoldsAt own node.setting.inc tid (Some tx) (face_of node tid)
        holds = subst (λ (o : Option TransactionValue). HoldsAt own node.setting.inc tid o (face_of node tid)) found (h.at tid)

        held : is_held tx (face_of node tid) ≡ true
        held = ap (λ (o : Option Participant). is_some o || not (is_commit tx.cell)) known

    pub learners_of : AllLearn book tid own.0 h.state (learners part)
    learners_of tx server found keeps due =
        learner server.0 keeps (sym (due_in tx found server.0 keeps) ∙ (ap (λ (inc : ℕ). may_learn_still (part_of tx (record { node = own; server = server }) inc)) (sym h.same.inc) ∙ due))

pub pending_held : (stamp : ℕ) (book : BookValue) (node : NodeValue) (tid : Tid) (server : ServerNo) (h : Holds stamp book node) → keeps_contents server.0 ≡ true → ArePending node.setting.node.0 book h.state tid server (changes_in (server_at node.servers server) tid)
pending_held stamp book node tid server h keeps = pending_of stamp book node tid h server keeps

pub learners_held : (stamp : ℕ) (book : BookValue) (node : NodeValue) (tid : Tid) (part : Participant) (h : Holds stamp book node) → tm.part_of tid node.manager ≡ Some part → AllLearn book tid node.setting.node.0 h.state (learners part)
learners_held stamp book node tid part h known = learners_of stamp book node tid h part known
