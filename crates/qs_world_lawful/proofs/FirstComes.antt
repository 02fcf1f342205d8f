-- The first step of an incarnation leaves what comes: a client's line, and a message, come as they came before it; and what was young is.
use Rattle.qs_world_lawful.proofs.Words.{◌≡◌, ◌⊎◌, inl, inr, ◌<◌, ◌≤◌, ◌-◌, ℕ, Bool, true, false, List, [], ◌∷◌, Option, Some, None, refl, ap, sym, subst, ◌∙◌, fold, if◌then◌else◌, is_at, lookup, tid_cmp, NodeNo, Outcome, ServerNo, Tid, listed, changed_none, lookup_changed, BookValue, find_transaction, inc_at, with_transaction, TransactionValue, learnt, RequestNo, Record, log, log_if, member_here, send, tid_of, due_endings, end_member, end_members, give_notices, learn_member, learners_at}
use Rattle.qs_world_lawful.proofs.Words.{begin_incarnation, known_tids, resume_home, resume_part, resume_tid, Work, here, record_learnt, Setting, Manager, Participant, book_at, standing_ops}
use Rattle.qs_base.specs.declared.identifiers.Outcome.TheVariants as outcomes
use Rattle.qs_book_journal.specs.declared.entry.Act.TheVariants as acts
use Rattle.qs_book_machine.specs.Transaction.{ended}
use Rattle.qs_packet.specs.declared.message.Message.TheVariants as messages
use Rattle.qs_node_step.specs.State.{NodeValue, part_of, with_node}
use Rattle.qs_tm.specs.Manager as tm
use Rattle.qs_tm.specs.Outcomes as outcome_rules
use Rattle.qs_world_lawful.specs.NodeFacts.{AreYoung, IsYoung}
use Rattle.qs_world_lawful.proofs.Apart.{Apart, same_or_apart}
use Rattle.qs_world_lawful.proofs.Asking.{sent_each_entries, sent_each_node, sent_entries, sent_node}
use Rattle.qs_world_lawful.proofs.Faces.{part_apart, part_changed, part_unknown}
use Rattle.qs_world_lawful.proofs.Growing.{book_now}
use Rattle.qs_world_lawful.proofs.LeftElse.{same_book}
use Rattle.qs_world_lawful.proofs.Steps.{tx_apart}
use Rattle.qs_world_lawful.proofs.Truths.{of_some}

-- what stands of a transaction stood of it before
pub record StoodBefore (book : BookValue) (tid : Tid) (later : TransactionValue) : Type 0 where
  pub tx : TransactionValue
  pub found : find_transaction book tid ≡ Some tx
  pub standing : (at : RequestNo) (to : NodeNo) (server : ServerNo) → standing_ops later at to server ≡ standing_ops tx at to server

-- the machine goes on, and neither owners nor labels nor requests change
pub record StillBook (old new : BookValue) : Type 0 where
  pub owners : new.owners ≡ old.owners
  pub labels : new.labels ≡ old.labels
  pub stood : (tid : Tid) (later : TransactionValue) → find_transaction new tid ≡ Some later → StoodBefore old tid later

pub record StillComing (stamp : ℕ) (before : BookValue) (work new : Work) : Type 0 where
  pub setting : new.node.setting ≡ work.node.setting
  pub commands : new.node.commands ≡ work.node.commands
  pub queues : new.node.queues ≡ work.node.queues
  pub young : AreYoung work.node → AreYoung new.node
  pub book : StillBook (book_at stamp before work) (book_at stamp before new)

still_self : (book : BookValue) → StillBook book book
still_self book = record { owners = refl; labels = refl; stood = λ tid tx found. record { tx = tx; found = found; standing = λ at to server. refl } }

-- a transaction changes, and its requests do not
changed_still : (tid : Tid) (f : TransactionValue → TransactionValue) → ((tx : TransactionValue) (at : RequestNo) (to : NodeNo) (server : ServerNo) → standing_ops (f tx) at to server ≡ standing_ops tx at to server) → (book new : BookValue)
    → new.owners ≡ book.owners → new.labels ≡ book.labels → ((t : Tid) → find_transaction new t ≡ lookup (is_at (tid_cmp t)) (with_transaction tid f book).transactions) → StillBook book new
changed_still tid f same book new owners labels is = record { owners = owners; labels = labels; stood = λ t later found. of t later (same_or_apart tid t) (sym (is t) ∙ found) }
  where
    own : (later : TransactionValue) (o : Option TransactionValue) → find_transaction book tid ≡ o → lookup (is_at (tid_cmp tid)) (with_transaction tid f book).transactions ≡ Some later → StoodBefore book tid later
    own later None none at = absurd (no (sym (changed_none (is_at (tid_cmp tid)) f book.transactions none) ∙ at))
      where
        no : None ≡ Some later → ⊥
        no e = cc e
    own later (Some tx) found at = record { tx = tx; found = found; standing = λ r to server. ap (λ (x : TransactionValue). standing_ops x r to server) (of_some (sym at ∙ lookup_changed (is_at (tid_cmp tid)) f book.transactions tx found)) ∙ same tx r to server }

    of : (t : Tid) (later : TransactionValue) → (tid ≡ t) ⊎ Apart tid t → lookup (is_at (tid_cmp t)) (with_transaction tid f book).transactions ≡ Some later → StoodBefore book t later
    of t later (inl e) at = subst (λ (u : Tid). lookup (is_at (tid_cmp u)) (with_transaction tid f book).transactions ≡ Some later → StoodBefore book u later) e (own later (find_transaction book tid) refl) at
    of t later (inr far) at = record { tx = later; found = sym (tx_apart tid t f book.transactions far) ∙ at; standing = λ r to server. refl }

-- what changes one transaction, and neither its home nor its outcome nor when it began, leaves what is young
young_part : (node : NodeValue) (tid : Tid) (f : Participant → Participant) → ((p : Participant) → (f p).engage.home ≡ p.engage.home) → ((p : Participant) → (f p).outcome ≡ p.outcome) → ((p : Participant) → (f p).begun_at ≡ p.begun_at) → (fresh : NodeValue)
    → fresh.setting ≡ node.setting → fresh.manager ≡ tm.with_part tid f node.manager → AreYoung node → AreYoung fresh
young_part node tid f homes outcomes begun fresh setting manager young t q known home none = of (same_or_apart tid t)
  where
    known_now : tm.part_of t (tm.with_part tid f node.manager) ≡ Some q
    known_now = ap (tm.part_of t) (sym manager) ∙ known

    on : (p : Participant) → IsYoung node p → p.begun_at ≡ q.begun_at → IsYoung fresh q
    on p y same = record {
      begun = subst (λ (m : Manager). q.begun_at ≤ m.ticks) (sym manager) (subst (λ (b : ℕ). b ≤ node.manager.ticks) same y.begun);
      age = λ a limit. subst (λ (m : Manager). m.ticks - q.begun_at < a) (sym manager) (subst (λ (b : ℕ). node.manager.ticks - b < a) same (y.age a (ap (λ (s : Setting). s.age) (sym setting) ∙ limit)));
    }

    own : (o : Option Participant) → tm.part_of tid node.manager ≡ o → tm.part_of tid (tm.with_part tid f node.manager) ≡ Some q → IsYoung fresh q
    own None is at = absurd (no (sym (part_unknown tid f node.manager is) ∙ at))
      where
        no : None ≡ Some q → ⊥
        no e = cc e
    own (Some p) is at = on p (young tid p is (sym (homes p) ∙ (ap (λ (x : Participant). x.engage.home) same ∙ home)) (sym (outcomes p) ∙ (ap (λ (x : Participant). x.outcome) same ∙ none))) (sym (begun p) ∙ ap (λ (x : Participant). x.begun_at) same)
      where
        same : f p ≡ q
        same = of_some (sym (part_changed tid f node.manager p is) ∙ at)

    of : (tid ≡ t) ⊎ Apart tid t → IsYoung fresh q
    of (inl e) = own (tm.part_of tid node.manager) refl (subst (λ (u : Tid). tm.part_of u (tm.with_part tid f node.manager) ≡ Some q) (sym e) known_now)
    of (inr far) = on q (young t q (sym (part_apart tid t f node.manager far) ∙ known_now) home none) refl

module _ (stamp : ℕ) (before : BookValue) where
  abbrev Still : Work → Work → Type 0
  Still work new = StillComing stamp before work new

  coming_self : (work : Work) → Still work work
  coming_self work = record { setting = refl; commands = refl; queues = refl; young = λ y. y; book = still_self (book_at stamp before work) }

  still_then : (old mid new : BookValue) → StillBook old mid → StillBook mid new → StillBook old new
  still_then old mid new a b = record {
    owners = b.owners ∙ a.owners;
    labels = b.labels ∙ a.labels;
    stood = λ tid later found. let m : StoodBefore mid tid later = b.stood tid later found in let o : StoodBefore old tid m.tx = a.stood tid m.tx m.found in record { tx = o.tx; found = o.found; standing = λ at to server. m.standing at to server ∙ o.standing at to server };
  }

  coming_then : (work mid new : Work) → Still work mid → Still mid new → Still work new
  coming_then work mid new a b = record {
    setting = b.setting ∙ a.setting;
    commands = b.commands ∙ a.commands;
    queues = b.queues ∙ a.queues;
    young = λ y. b.young (a.young y);
    book = still_then (book_at stamp before work) (book_at stamp before mid) (book_at stamp before new) a.book b.book;
  }

  coming_fold : {A : Type 0} (f : Work → A → Work) → ((work : Work) (x : A) → Still work (f work x)) → (xs : List A) (work : Work) → Still work (fold f work xs)
  coming_fold f each [] work = coming_self work
  coming_fold f each (x ∷ xs) work = coming_then work (f work x) (fold f (f work x) xs) (each work x) (coming_fold f each xs (f work x))

  -- the same node, and the same entries
  coming_same : (work new : Work) → new.node ≡ work.node → new.out.entries ≡ work.out.entries → Still work new
  coming_same work new node entries = record {
    setting = ap (λ n. n.setting) node;
    commands = ap (λ n. n.commands) node;
    queues = ap (λ n. n.queues) node;
    young = λ y. subst AreYoung (sym node) y;
    book = subst (StillBook (book_at stamp before work)) (sym (same_book stamp before tid_any work new (ap (λ n. n.setting) node) entries)) (still_self (book_at stamp before work));
  }
    where
      tid_any : Tid
      tid_any = record { home = record { 0 = 0 }; inc = 0; seq = 0 }

  coming_end : (tid : Tid) (work : Work) (s : ServerNo) → Still work (end_member tid work s)
  coming_end tid work s = record {
    setting = refl;
    commands = refl;
    queues = refl;
    young = young_part work.node tid (outcome_rules.settled s) (λ p. refl) (λ p. refl) (λ p. refl) (end_member tid work s).node refl refl;
    book = subst (StillBook (book_at stamp before work)) (sym (book_now stamp before work (end_member tid work s) (acts.Ending tid (member_here work s)) refl refl))
        (changed_still tid (ended (member_here work s) (inc_at (book_at stamp before work) (here work))) (λ tx at to server. refl) (book_at stamp before work) _ refl refl (λ t. refl));
  }

  coming_learn : (tid : Tid) (work : Work) (s : ServerNo) → Still work (learn_member tid outcomes.Abort work s)
  coming_learn tid work s = record {
    setting = refl;
    commands = refl;
    queues = refl;
    young = young_part work.node tid (outcome_rules.settled s) (λ p. refl) (λ p. refl) (λ p. refl) (learn_member tid outcomes.Abort work s).node refl refl;
    book = subst (StillBook (book_at stamp before work)) (sym (book_now stamp before work (learn_member tid outcomes.Abort work s) (acts.Learn tid (member_here work s) outcomes.Abort) refl refl))
        (changed_still tid (learnt (member_here work s) (inc_at (book_at stamp before work) (here work)) outcomes.Abort) (λ tx at to server. refl) (book_at stamp before work) _ refl refl (λ t. refl));
  }

  coming_log : (o : Option Record) (work : Work) → Still work (log_if o work)
  coming_log None work = coming_self work
  coming_log (Some rec) work = record {
    setting = refl;
    commands = refl;
    queues = refl;
    young = young_part work.node (tid_of rec) (outcome_rules.logged rec) (λ p. refl) (λ p. refl) (λ p. refl) (log rec work).node refl refl;
    book = still_self (book_at stamp before work);
  }

  coming_notices : (tid : Tid) (work : Work) → Still work (give_notices tid outcomes.Abort work)
  coming_notices tid work = coming_then work (end_members tid work) (give_notices tid outcomes.Abort work) (coming_fold (end_member tid) (coming_end tid) (due_endings tid work) work)
      (coming_fold (learn_member tid outcomes.Abort) (coming_learn tid) (learners_at tid (end_members tid work)) (end_members tid work))

  coming_home : (tid : Tid) (part : Participant) (o : Outcome) (work : Work) → Still work (resume_home tid part o work)
  coming_home tid part outcomes.Commit work = coming_same work (resume_home tid part outcomes.Commit work) (sent_each_node (messages.Tell tid outcomes.Commit) (listed part.tell) work) (sent_each_entries (messages.Tell tid outcomes.Commit) (listed part.tell) work)
  coming_home tid part outcomes.Abort work = coming_then work (give_notices tid outcomes.Abort work) (resume_home tid part outcomes.Abort work) (coming_notices tid work) (coming_log (record_learnt tid outcomes.Abort part) (give_notices tid outcomes.Abort work))

  coming_resume : (work : Work) (tid : Tid) → Still work (resume_tid work tid)
  coming_resume work tid = by (part_of tid work)
    where
      decided : (part : Participant) (o : Option Outcome) → Still work (elim o [ None ↦ send tid.home (messages.Inquire tid) work | Some outcome ↦ resume_home tid part outcome work ])
      decided part None = coming_same work (send tid.home (messages.Inquire tid) work) (sent_node tid.home (messages.Inquire tid) work) (sent_entries tid.home (messages.Inquire tid) work)
      decided part (Some outcome) = coming_home tid part outcome work

      by : (o : Option Participant) → Still work (elim o [ None ↦ work | Some part ↦ resume_part tid part work ])
      by None = coming_self work
      by (Some part) = decided part part.outcome

  pub coming_first : (work : Work) → Still work (begin_incarnation work)
  coming_first work = by work.node.is_first
    where
      started : Work
      started = with_node (λ node. record node { is_first = false }) work

      begun : Still work started
      begun = record { setting = refl; commands = refl; queues = refl; young = λ y t p known home none. record { begun = (y t p known home none).begun; age = (y t p known home none).age }; book = still_self (book_at stamp before work) }

      by : (b : Bool) → Still work (if b then fold resume_tid started (known_tids work) else work)
      by true = coming_then work started (fold resume_tid started (known_tids work)) begun (coming_fold resume_tid coming_resume (known_tids work) started)
      by false = coming_self work
