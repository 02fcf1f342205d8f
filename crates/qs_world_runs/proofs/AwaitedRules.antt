-- What waits for its reply waits on through each rule that decides nothing of its transaction: as messages are sent, servers are told, and outcomes are told, taken in and asked for.
use Rattle.qs_world_runs.proofs.Words.{◌≡◌, ◌⊎◌, inl, inr, ℕ, Bool, true, false, List, [], ◌∷◌, ◌++◌, fold, Option, Some, None, refl, sym, ap, subst, ◌∙◌, if◌then◌else◌, is_at, find, list_any, lookup, remove_entry, is_some, same_tid-self, ClientNo, Member, NodeNo, ServerNo, Tid, listed, Engage, is_outcome_of, Decided, Answer, Cause, Message, Record, kept_outcome, become_asked, block, where_undecided, answer, is_other, log_if, send, send_each, send_next, tid_of, decide_as, due_endings}
use Rattle.qs_world_runs.proofs.Words.{end_member, end_members, give_notices, learn_member, learn_members, learners_at, notify, Work, client_cmp, with_manager, forget, OpenCommand, is_undecided, Decision, Participant, same_or_apart, IsWaiting, WaitsAt}
use Rattle.qs_base.specs.declared.identifiers.Outcome.{Outcome}
use Rattle.qs_base.specs.declared.identifiers.Outcome.TheVariants as outcomes
use Rattle.qs_engage.specs.Engage as engage
use Rattle.qs_book_laws.proofs.Shares.{removed_apart}
use Rattle.qs_packet.specs.declared.message.Message.TheVariants as messages
use Rattle.qs_node_step.specs.Bringing.{log}
use Rattle.qs_node_step.specs.Deciding.{decide, decide_commit}
use Rattle.qs_node_step.specs.State.{part_of}
use Rattle.qs_tm.specs.Manager as tm
use Rattle.qs_tm.specs.Outcomes as outcome_rules
use Rattle.qs_tm.specs.Participant as participant
use Rattle.qs_world_lawful.proofs.Apart.{Apart}
use Rattle.qs_world_runs.specs.Awaited.{WaitsOn}
use Rattle.qs_world_runs.proofs.AwaitedKept.{IsFree, IsOther, Stays, borrowed_on, forget_on, free_other, part_on, with_borrowed}
use Rattle.qs_base_lemmas.proofs.Tests.{none_is}

module _ (D : Type 0) (tid : Tid) (member : Member) (number : ℕ) where
  abbrev pub On : Work → Work → Type 0
  On work new = WaitsOn D tid member number work new

  abbrev pub Kept : (Participant → Participant) → Type 0
  Kept f = Stays tid member number f

  abbrev pub Free : ClientNo → Work → Type 0
  Free client work = IsFree tid member number client work.node.commands D

  abbrev pub Other : ClientNo → Work → Type 0
  Other client work = WaitsAt tid member number work.node → IsOther tid member number client work.node.commands work.node.kept.now work.node.setting.inc D

  pub free_so : (client : ClientNo) (work : Work) → Free client work → Other client work
  free_so client work free w = free_other tid member number client work.node.commands work.node.kept.now work.node.setting.inc D free

  -- what waits waits on, and what is kept as decided is kept
  pub waits_on : (work new : Work) → (WaitsAt tid member number work.node → WaitsAt tid member number new.node ⊎ D) → (is_some (kept_outcome tid work.node) ≡ true → is_some (kept_outcome tid new.node) ≡ true) → On work new
  waits_on work new goes kept (inr k) = inl (inr (kept k))
  waits_on work new goes kept (inl w) = by (goes w)
    where
      by : WaitsAt tid member number new.node ⊎ D → IsWaiting tid member number new.node ⊎ D
      by (inl v) = inl (inl v)
      by (inr d) = inr d

  -- ---- one after another, and cases

  pub itself_on : (work : Work) → On work work
  itself_on work w = inl w

  pub then_on : (a b c : Work) → On a b → On b c → On a c
  then_on a b c p q w = by (p w)
    where
      by : IsWaiting tid member number b.node ⊎ D → IsWaiting tid member number c.node ⊎ D
      by (inl v) = q v
      by (inr d) = inr d

  pub if_on : (b : Bool) (x y work : Work) → (b ≡ true → On work x) → (b ≡ false → On work y) → On work (if b then x else y)
  if_on true x y work p q = p refl
  if_on false x y work p q = q refl

  pub fold_on : {A : Type 0} (f : Work → A → Work) → ((w : Work) (x : A) → On w (f w x)) → (xs : List A) (work : Work) → On work (fold f work xs)
  fold_on f each [] work = itself_on work
  fold_on f each (x ∷ xs) work = then_on work (f work x) (fold f work (x ∷ xs)) (each work x) (fold_on f each xs (f work x))

  pub undecided_on : (t : Tid) (rule : Participant → Work → Work) (work : Work) → ((part : Participant) → part_of t work ≡ Some part → part.outcome ≡ None → On work (rule part work)) → On work (where_undecided t rule work)
  undecided_on t rule work each = by (part_of t work) refl
    where
      by : (o : Option Participant) → part_of t work ≡ o → On work (elim o [ None ↦ work | Some part ↦ if is_undecided part then rule part work else work ])
      by None is = itself_on work
      by (Some part) is = if_on (is_undecided part) (rule part work) work work (λ so. each part is (none_is part.outcome so)) (λ so. itself_on work)

  -- ---- messages, records and answers

  pub send_on : (to : NodeNo) (message : Message) (work : Work) → On work (send to message work)
  send_on to message work = by (is_other work.node.setting to)
    where
      by : (b : Bool) → On work (if b then record work { out = record work.out { messages = work.out.messages ++ record { to = to; message = message } ∷ [] } } else work)
      by true w = inl w
      by false w = inl w

  pub send_each_on : (nodes : List NodeNo) (message : Message) (work : Work) → On work (send_each nodes message work)
  send_each_on nodes message work = fold_on (send_next message) (λ w to. send_on to message w) nodes work

  pub change_on : (t : Tid) (f : Participant → Participant) (work : Work) → (t ≡ tid → Kept f) → On work (with_manager (tm.with_part t f) work)
  change_on t f work keeps = waits_on work (with_manager (tm.with_part t f) work) (λ w. inl (part_on tid member number work.node.commands work.node.kept.now work.node.setting.inc t f work.node.manager keeps w)) (λ k. k)

  pub log_on : (rec : Record) (work : Work) → On work (log rec work)
  log_on rec work = waits_on work (log rec work) (λ w. inl (part_on tid member number work.node.commands work.node.kept.now work.node.setting.inc (tid_of rec) (outcome_rules.logged rec) work.node.manager
      (λ same. record { home = λ p. refl; superior = λ p is. is; outcome = λ p. refl; waiting = λ p request m k a. a }) w)) (λ k. k)

  pub log_if_on : (o : Option Record) (work : Work) → On work (log_if o work)
  log_if_on None work = itself_on work
  log_if_on (Some rec) work = log_on rec work

  pub answer_on : (client : ClientNo) (said : Answer) (work : Work) → Other client work → On work (answer client said work)
  answer_on client said work other = by (lookup (is_at (client_cmp client)) work.node.commands)
    where
      closed : OpenCommand → Work
      closed command = record work {
        node = record work.node { commands = remove_entry (is_at (client_cmp client)) work.node.commands };
        out = record work.out {
          answers = work.out.answers ++ record { client = client; answer = record { line = command.line.line; answer = said } } ∷ [];
          entries = work.out.entries ++ Rattle.qs_book_journal.specs.declared.entry.Act.TheVariants.Answer client command.line.line said ∷ [];
        };
      }

      by : (o : Option OpenCommand) → On work (elim o [ None ↦ work | Some command ↦ closed command ])
      by None = itself_on work
      by (Some command) = waits_on work (closed command) (λ w. with_borrowed tid member number work.node.manager work.node.commands (remove_entry (is_at (client_cmp client)) work.node.commands) work.node.kept.now work.node.kept.now work.node.setting.inc D
          (borrowed_on tid member number work.node.kept.now work.node.setting.inc D client work.node.commands (remove_entry (is_at (client_cmp client)) work.node.commands) (other w) (λ c far. removed_apart (is_at (client_cmp client)) (is_at (client_cmp c)) far.1 work.node.commands)) w) (λ k. k)

  -- ---- what a rule decides

  -- a change that takes in an outcome
  pub decided_on : (t : Tid) (f : Participant → Participant) (work : Work) → (t ≡ tid → D) → On work (with_manager (tm.with_part t f) work)
  decided_on t f work decides w = by (same_or_apart t tid)
    where
      by : (t ≡ tid) ⊎ Apart t tid → IsWaiting tid member number (with_manager (tm.with_part t f) work).node ⊎ D
      by (inl e) = inr (decides e)
      by (inr far) = change_on t f work (λ e. absurd (far.differ e)) w

  -- what is decided here is kept so
  kept_last : (outcome : Outcome) (cause : Option Cause) (ds : List Decided) → is_some (find (is_outcome_of tid) (ds ++ record { tid = tid; outcome = outcome; cause = cause } ∷ [])) ≡ true
  kept_last outcome cause [] = rw (same_tid-self tid) refl
  kept_last outcome cause (d ∷ ds) = of (is_outcome_of tid d) refl (kept_last outcome cause ds)
    where
      of : (b : Bool) → is_outcome_of tid d ≡ b → is_some (find (is_outcome_of tid) (ds ++ record { tid = tid; outcome = outcome; cause = cause } ∷ [])) ≡ true → is_some (find (is_outcome_of tid) (d ∷ ds ++ record { tid = tid; outcome = outcome; cause = cause } ∷ [])) ≡ true
      of true is more = rw is refl
      of false is more = rw is more

  kept_more : (ds : List Decided) (x : Decided) → is_some (find (is_outcome_of tid) ds) ≡ true → is_some (find (is_outcome_of tid) (ds ++ x ∷ [])) ≡ true
  kept_more [] x is = absurd (cc is)
  kept_more (d ∷ ds) x is = of (is_outcome_of tid d) refl is (kept_more ds x)
    where
      of : (b : Bool) → is_outcome_of tid d ≡ b → is_some (find (is_outcome_of tid) (d ∷ ds)) ≡ true → (is_some (find (is_outcome_of tid) ds) ≡ true → is_some (find (is_outcome_of tid) (ds ++ x ∷ [])) ≡ true) → is_some (find (is_outcome_of tid) (d ∷ ds ++ x ∷ [])) ≡ true
      of true so any more = rw so refl
      of false so any more = rw so (more (rw so at any))

  notify_on : (t : Tid) (work : Work) (server : ServerNo) → (t ≡ tid → Kept (outcome_rules.settled server))
  notify_on t work server same = record { home = λ p. refl; superior = λ p is. is; outcome = λ p. refl; waiting = λ p request m k a. a }

  pub ended_on : (t : Tid) (work : Work) → On work (end_members t work)
  ended_on t work = fold_on (end_member t) (λ w s. change_on t (outcome_rules.settled s) w (notify_on t w s)) (due_endings t work) work

  learnt_on : (t : Tid) (outcome : Outcome) (work : Work) → On work (learn_members t outcome work)
  learnt_on t outcome work = fold_on (learn_member t outcome) (λ w s. change_on t (outcome_rules.settled s) w (notify_on t w s)) (learners_at t work) work

  pub notices_on : (t : Tid) (outcome : Outcome) (work : Work) → On work (give_notices t outcome work)
  notices_on t outcomes.Commit work = learnt_on t outcomes.Commit work
  notices_on t outcomes.Abort work = then_on work (end_members t work) (learn_members t outcomes.Abort (end_members t work)) (ended_on t work) (learnt_on t outcomes.Abort (end_members t work))

  made_on : (t : Tid) (outcome : Outcome) (cause : Option Cause) (made : Decision) (work : Work) → On work (decide_as t outcome cause made work)
  made_on t outcome cause made work = then_on work entered (decide_as t outcome cause made work) (by (same_or_apart t tid))
      (then_on entered (give_notices t outcome entered) (decide_as t outcome cause made work) (notices_on t outcome entered) (send_each_on made.tell (messages.Tell t outcome) (give_notices t outcome entered)))
    where
      managed : Work
      managed = with_manager (tm.decide t outcome) work

      entered : Work
      entered = Rattle.qs_node_step.specs.Bringing.enter (Rattle.qs_book_journal.specs.declared.entry.Act.TheVariants.Decide t outcome cause) (Rattle.qs_node_step.specs.Deciding.keep_outcome t outcome cause (log_if made.rec managed))

      by : (t ≡ tid) ⊎ Apart t tid → On work entered
      by (inl e) = λ w. inl (inr (subst (λ (u : Tid). is_some (find (is_outcome_of tid) ((log_if made.rec managed).node.kept.now.outcomes ++ record { tid = u; outcome = outcome; cause = cause } ∷ [])) ≡ true) (sym e) (kept_last outcome cause (log_if made.rec managed).node.kept.now.outcomes)))
      by (inr far) = then_on work managed entered (change_on t (outcome_rules.decided outcome) work (λ e. absurd (far.differ e)))
          (then_on managed (log_if made.rec managed) entered (log_if_on made.rec managed)
          (waits_on (log_if made.rec managed) entered (λ w. inl w) (kept_more (log_if made.rec managed).node.kept.now.outcomes (record { tid = t; outcome = outcome; cause = cause }))))

  pub decide_on : (t : Tid) (outcome : Outcome) (cause : Option Cause) (work : Work) → On work (decide t outcome cause work)
  decide_on t outcome cause work = made_on t outcome cause (tm.decision t outcome work.node.manager) work

  pub commit_on : (t : Tid) (work : Work) → On work (decide_commit t work)
  commit_on t work = by (tm.need_past t work.room work.node.manager)
    where
      by : (o : Option ℕ) → On work (elim o [ None ↦ decide t outcomes.Commit None work | Some need ↦ decide t outcomes.Abort (Some (Rattle.qs_ops.specs.declared.answer.Cause.TheVariants.Room need work.room)) work ])
      by None = decide_on t outcomes.Commit None work
      by (Some need) = decide_on t outcomes.Abort (Some (Rattle.qs_ops.specs.declared.answer.Cause.TheVariants.Room need work.room)) work

  -- ---- forgetting, and changes that are plain

  -- what is forgotten is decided, or not engaged
  pub forgets_on : (t : Tid) (work : Work) → (t ≡ tid → WaitsAt tid member number work.node → ⊥) → On work (forget t work)
  forgets_on t work none = waits_on work (forget t work) (λ w. inl (forget_on tid member number work.node.commands work.node.kept.now work.node.setting.inc t work.node.manager (λ e. none e w) w)) (λ k. k)

  pub plain : (f : Participant → Participant) → ((p : Participant) → (f p).engage ≡ p.engage) → ((p : Participant) → (f p).outcome ≡ p.outcome) → ((p : Participant) → (f p).waiting ≡ p.waiting) → Kept f
  plain f engaged outcome waiting = record {
    home = λ p. ap (λ (e : Engage). e.home) (engaged p);
    superior = λ p is. ap (λ (e : Engage). is_some e.superior) (engaged p) ∙ is;
    outcome = outcome;
    waiting = λ p request m k a. subst (Rattle.qs_world_runs.specs.Awaited.Among request) (sym (waiting p)) a;
  }

  -- ---- asking, and refusals

  pub become_on : (t : Tid) (part : Participant) (work : Work) → On work (become_asked t part work)
  become_on t part work = then_on work (with_manager (tm.ask t) work) (become_asked t part work) (change_on t participant.ask work (λ same. plain participant.ask (λ p. refl) (λ p. refl) (λ p. refl)))
      (send_each_on (listed (engage.uncovered part.engage)) (messages.AskVote t) (with_manager (tm.ask t) work))

  pub block_on : (t : Tid) (cause : Cause) (work : Work) → On work (block t cause work)
  block_on t cause work = then_on work (with_manager (tm.refused t) work) (block t cause work) (change_on t participant.refused work (λ same. plain participant.refused (λ p. refl) (λ p. refl) (λ p. refl)))
      (change_on t (participant.add_cause cause) (with_manager (tm.refused t) work) (λ same. plain (participant.add_cause cause) (λ p. refl) (λ p. refl) (λ p. refl)))
