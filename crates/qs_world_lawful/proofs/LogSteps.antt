-- A whole step keeps what is held of the log, on the disk and with what waits for the next force.
use Rattle.qs_world_lawful.proofs.Words.{◌≡◌, ℕ, Bool, true, false, List, [], ◌++◌, Option, Some, None, refl, sym, ap, subst, ◌∙◌, fold, if◌then◌else◌, append-nil, lookup, is_at, ClientNo, Outcome, Tid, listed, Command, KeptLabel, Decided, Inv, BookValue, IsLawful, book_after, Record, recovery, Manager, Participant, kept_outcome, is_aborted, send, send_each, decided_answer, resume_home, resume_part, resume_tid, known_tids, begin_incarnation, label_at, settle, Work, here, work_on, client_cmp, is_owner}
use Rattle.qs_world_lawful.proofs.Words.{happen, owner_waits, borrower_waits, waits_at, wait_command, wait_on, waiting_clients, answer_waiting, step_work, Event, Issued, OpenCommand, entries_of, entries_so_far, book_at, IsTrueEvent, HoldsLogged, KnowsLog, HoldsHost, HoldsLogs, KeepsLogs}
use Rattle.qs_base.specs.declared.identifiers.Outcome.TheVariants as outcomes
use Rattle.qs_ops.specs.declared.answer.Answer.TheVariants as answers
use Rattle.qs_packet.specs.declared.message.Message.TheVariants as messages
use Rattle.qs_node_step.specs.Bringing.{answer}
use Rattle.qs_node_step.specs.State.{NodeValue, part_of, with_node}
use Rattle.qs_node_step.specs.Step.{request_waits}
use Rattle.qs_world_lawful.specs.Logged.{HoldsAmid}
use Rattle.qs_world_lawful.proofs.LogEndings.{by_resumed}
use Rattle.qs_world_lawful.proofs.LogHappening.{by_happen}
use Rattle.qs_world_lawful.proofs.LogKeeps.{keeps_self, keeps_then, by_quiet, later_self, amid_on}
use Rattle.qs_world_lawful.proofs.LogSettling.{keeps_if, keeps_fold, by_settle}
use Rattle.qs_world_lawful.proofs.QuietCommands.{quiet_borrower}
use Rattle.qs_world_lawful.proofs.QuietRequests.{quiet_node}
use Rattle.qs_world_lawful.proofs.Recordless.{Quiet, quiet_self, quiet_if, quiet_fold, quiet_send, quiet_sends, quiet_answer}

-- ---- commands that stayed open

quiet_issued : (client : ClientNo) (issued : Issued) (work : Work) → Quiet work (request_waits client issued work)
quiet_issued client issued work = quiet_if (is_aborted issued.tid work.node) work (answer client answers.Ended work) work (quiet_answer client answers.Ended work) (quiet_self work)

quiet_owner : (client : ClientNo) (o : Option Tid) (command : Command) (work : Work) → Quiet work (owner_waits client o command work)
quiet_owner client None command work = quiet_self work
quiet_owner client (Some tid) command work = by (kept_outcome tid work.node)
  where
    by : (o : Option Decided) → Quiet work (elim o [ None ↦ work | Some decided ↦ answer client (decided_answer decided command) work ])
    by None = quiet_self work
    by (Some decided) = quiet_answer client (decided_answer decided command) work

quiet_lent : (client : ClientNo) (o : Option Issued) (t : Option Tid) (command : Command) (work : Work) → Quiet work (borrower_waits client o t command work)
quiet_lent client (Some issued) t command work = quiet_issued client issued work
quiet_lent client None None command work = quiet_self work
quiet_lent client None (Some tid) command work = quiet_borrower client tid command work

quiet_waits : (client : ClientNo) (command : OpenCommand) (begun : KeptLabel) (work : Work) → Quiet work (waits_at client command begun work)
quiet_waits client command begun work = quiet_if (is_owner client begun.owner) work (owner_waits client begun.tid command.line.command work) (borrower_waits client command.issued begun.tid command.line.command work)
    (quiet_owner client begun.tid command.line.command work) (quiet_lent client command.issued begun.tid command.line.command work)

quiet_command : (client : ClientNo) (command : OpenCommand) (work : Work) → Quiet work (wait_command client command work)
quiet_command client command work = by (label_at command.line.label work.node)
  where
    by : (o : Option KeptLabel) → Quiet work (elim o [ None ↦ work | Some begun ↦ waits_at client command begun work ])
    by None = quiet_self work
    by (Some begun) = quiet_waits client command begun work

quiet_wait : (work : Work) (client : ClientNo) → Quiet work (wait_on work client)
quiet_wait work client = by (lookup (is_at (client_cmp client)) work.node.commands)
  where
    by : (o : Option OpenCommand) → Quiet work (elim o [ None ↦ work | Some command ↦ wait_command client command work ])
    by None = quiet_self work
    by (Some command) = quiet_command client command work

pub quiet_waiting : (work : Work) → Quiet work (answer_waiting work)
quiet_waiting work = quiet_fold wait_on quiet_wait (waiting_clients work) work

module _ (stamp : ℕ) (before : BookValue) (i : Inv before) (disk waiting : List Record) where
  abbrev Keeps : Work → Work → Type 0
  Keeps work new = KeepsLogs stamp before disk waiting work new

  -- ---- the first step of an incarnation

  by_resume : (work : Work) (tid : Tid) → Keeps work (resume_tid work tid)
  by_resume work tid = by (part_of tid work) refl
    where
      of : (part : Participant) → part_of tid work ≡ Some part → (o : Option Outcome) → part.outcome ≡ o → Keeps work (elim o [ None ↦ send tid.home (messages.Inquire tid) work | Some outcome ↦ resume_home tid part outcome work ])
      of part known None is = by_quiet stamp before i disk waiting work (send tid.home (messages.Inquire tid) work) (quiet_send tid.home (messages.Inquire tid) work)
      of part known (Some outcomes.Commit) is = by_quiet stamp before i disk waiting work (send_each (listed part.tell) (messages.Tell tid outcomes.Commit) work) (quiet_sends (listed part.tell) (messages.Tell tid outcomes.Commit) work)
      of part known (Some outcomes.Abort) is = by_resumed stamp before i disk waiting tid work part known is

      by : (o : Option Participant) → part_of tid work ≡ o → Keeps work (elim o [ None ↦ work | Some part ↦ resume_part tid part work ])
      by None known = keeps_self stamp before i disk waiting work
      by (Some part) known = of part known part.outcome refl

  pub by_begin_incarnation : (work : Work) → Keeps work (begin_incarnation work)
  by_begin_incarnation work =
      let begun : Work = with_node (λ node. record node { is_first = false }) work in
      keeps_if stamp before i disk waiting work.node.is_first work (fold resume_tid begun (known_tids work)) work
      (keeps_then stamp before i disk waiting work begun (fold resume_tid begun (known_tids work)) (by_quiet stamp before i disk waiting work begun (quiet_node work begun refl refl refl))
      (keeps_fold stamp before i disk waiting resume_tid by_resume (known_tids work) begun))
      (keeps_self stamp before i disk waiting work)

  -- ---- the step

  pub by_step : (node : NodeValue) (event : Event) (free : ℕ) → IsTrueEvent before event → Keeps (work_on node free) (step_work node event free)
  by_step node event free is =
      let start : Work = work_on node free in
      let begun : Work = begin_incarnation start in
      let happened : Work = happen event begun in
      let settled : Work = settle happened in
      keeps_then stamp before i disk waiting start begun (step_work node event free) (by_begin_incarnation start)
      (keeps_then stamp before i disk waiting begun happened (step_work node event free) (by_happen stamp before i disk waiting event begun is)
      (keeps_then stamp before i disk waiting happened settled (step_work node event free) (by_settle stamp before i disk waiting happened)
      (by_quiet stamp before i disk waiting settled (answer_waiting settled) (quiet_waiting settled))))

  -- ---- the log of a node between its steps

  pub starts : (node : NodeValue) (free : ℕ) → HoldsHost node.setting.node.0 before node.manager disk waiting → HoldsLogs stamp before disk waiting (work_on node free)
  starts node free h = record {
    since = later_self before;
    state = h.state;
    there = h.there;
    named = h.named;
    all = subst (λ (rs : List Record). HoldsLogged node.setting.node.0 before h.state (recovery (disk ++ rs))) (sym (append-nil waiting)) h.all;
    knows = subst (λ (rs : List Record). KnowsLog before node.manager (recovery (disk ++ rs))) (sym (append-nil waiting)) h.knows;
    on_disk = λ unforced. h.on_disk;
    alike = λ unforced. ap (λ (rs : List Record). (recovery (disk ++ rs)).committed) (append-nil waiting) ∙ h.alike;
  }

  -- where it was forced, all is on the disk
  ends : (n : ℕ) (book : BookValue) (manager : Manager) (records : List Record) (force : Bool) → HoldsAmid before disk waiting n book manager records force
      → HoldsHost n book manager (if force then disk ++ (waiting ++ records) else disk) (if force then [] else waiting ++ records)
  ends n book manager records false h = record { state = h.state; there = h.there; named = h.named; all = h.all; knows = h.knows; on_disk = h.on_disk refl; alike = h.alike refl }
  ends n book manager records true h =
      let now : List Record = disk ++ (waiting ++ records) in
      record {
        state = h.state;
        there = h.there;
        named = h.named;
        all = subst (λ (rs : List Record). HoldsLogged n book h.state (recovery rs)) (sym (append-nil now)) h.all;
        knows = subst (λ (rs : List Record). KnowsLog book manager (recovery rs)) (sym (append-nil now)) h.knows;
        on_disk = h.all;
        alike = ap (λ (rs : List Record). (recovery rs).committed) (append-nil now);
      }

  pub host_kept : (node : NodeValue) (event : Event) (free : ℕ) → IsTrueEvent before event → HoldsHost node.setting.node.0 before node.manager disk waiting
      → IsLawful before (entries_of node.setting.node.0 stamp (step_work node event free).out.entries)
      → HoldsHost node.setting.node.0 (book_after before (entries_of node.setting.node.0 stamp (step_work node event free).out.entries)) (step_work node event free).node.manager
      (if (step_work node event free).out.force then disk ++ (waiting ++ (step_work node event free).out.records) else disk) (if (step_work node event free).out.force then [] else waiting ++ (step_work node event free).out.records)
  host_kept node event free is h lawful =
      let w : Work = step_work node event free in
      let k : Keeps (work_on node free) w = by_step node event free is in
      let n_is : (here w).0 ≡ node.setting.node.0 = ap (λ s. s.node.0) k.setting in
      let entries_are : entries_so_far stamp w ≡ entries_of node.setting.node.0 stamp w.out.entries = ap (λ (n : ℕ). entries_of n stamp w.out.entries) n_is in
      let held : HoldsLogs stamp before disk waiting w = k.keeps (subst (IsLawful before) (sym entries_are) lawful) (starts node free h) in
      ends node.setting.node.0 (book_after before (entries_of node.setting.node.0 stamp w.out.entries)) w.node.manager w.out.records w.out.force
      (amid_on stamp before i disk waiting (here w).0 node.setting.node.0 (sym n_is) (book_at stamp before w) (book_after before (entries_of node.setting.node.0 stamp w.out.entries)) (ap (book_after before) (sym entries_are))
      w.out.records w.out.records refl w.out.force w.out.force refl w.node.manager held)
