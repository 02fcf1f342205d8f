-- A node stays sound where commands that stayed open are answered, and so over a whole step.
use Rattle.qs_world_refine.proofs.Words.{◌≡◌, ℕ, Bool, true, false, List, [], ◌∷◌, ◌++◌, Option, Some, None, refl, sym, subst, ◌∙◌, fold, if◌then◌else◌, list_all, lookup, set_value, remove_entry, is_at, ClientNo, Member, Tid, same_node, is_for, Command, first_untaken, last_taken, take_first, give_back, Decided, Lent, Answer, Op, client_server, Outstanding, kept_outcome, is_void, take, lent_command, with_loan, loan_command, borrower_command, enter, send, answer, request_as, request_command}
use Rattle.qs_world_refine.proofs.Words.{with_issued, decided_answer, next_number, enter_issue, with_local, issue_here, issue_away, issue_as, ask_on, is_asked, label_of, label_at, NodeValue, Work, here, with_manager, with_queues, with_kept, with_doings, client_cmp, work_on, is_owner, owner_waits, borrower_waits, wait_command, wait_on, waiting_clients, happen, Issued, OpenCommand, is_sound, goes_in_run, StaysSound, commands_in_run, is_open_in_run, begun}
use Rattle.qs_ipc.specs.Ipc as ipc
use Rattle.qs_book_journal.specs.declared.script_line.Command.TheVariants as commands
use Rattle.qs_node_kept.specs.declared.kept.KeptLabel.{KeptLabel}
use Rattle.qs_ops.specs.declared.answer.Answer.TheVariants as answers
use Rattle.qs_packet.specs.declared.message.Message.TheVariants as messages
use Rattle.qs_tm.specs.Manager as tm
use Rattle.qs_node_step.specs.Borrowing.{is_aborted}
use Rattle.qs_node_step.specs.Step.{waits_at}
use Rattle.qs_world_refine.specs.SoundSteps.{settled, AnswerWaitingSound, StepSound}
use Rattle.qs_world_refine.proofs.SoundParts.{and_both, both_and}
use Rattle.qs_world_refine.proofs.SoundRules.{send_node, answer_sound}
use Rattle.qs_world_refine.proofs.SoundCommands.{borrower_command_sound}
use Rattle.qs_world_refine.proofs.SoundHappen.{happen_sound}
use Rattle.qs_world_refine.proofs.SoundRestart.{begin_incarnation_sound}
use Rattle.qs_world_refine.proofs.SoundSettle.{settle_sound}

-- ---- what is open goes to nodes of the run

module _ (p : ClientNo → Bool) (q : ClientNo × OpenCommand → Bool) where
  pub all_left : (es : List (ClientNo × OpenCommand)) → list_all q es ≡ true → list_all q (remove_entry p es) ≡ true
  all_left [] all = refl
  all_left (e ∷ es) all = by (p e.0) refl (all_left es (and_both (q e) (list_all q es) all).1)
    where
      by : (b : Bool) → p e.0 ≡ b → list_all q (remove_entry p es) ≡ true → list_all q (remove_entry p (e ∷ es)) ≡ true
      by true is rest = rw is (and_both (q e) (list_all q es) all).1
      by false is rest = rw is (both_and (q e) (list_all q (remove_entry p es)) (and_both (q e) (list_all q es) all).0 rest)

  pub all_changed : (f : OpenCommand → OpenCommand) → ((k : ClientNo) (command : OpenCommand) → q (k, f command) ≡ q (k, command)) → (es : List (ClientNo × OpenCommand)) (v : OpenCommand) → lookup p es ≡ Some v
      → list_all q es ≡ true → list_all q (set_value p es (f v)) ≡ true
  all_changed f same [] v found all = refl
  all_changed f same (e ∷ es) v found all = by (p e.0) refl (all_changed f same es v)
    where
      both : (q e ≡ true) × (list_all q es ≡ true)
      both = and_both (q e) (list_all q es) all

      by : (b : Bool) → p e.0 ≡ b → (lookup p es ≡ Some v → list_all q es ≡ true → list_all q (set_value p es (f v)) ≡ true) → list_all q (set_value p (e ∷ es) (f v)) ≡ true
      by true is more = let value : Some e.1 ≡ Some v = rw is at found in
          rw is (both_and (q (e.0, f v)) (list_all q es) (same e.0 v ∙ subst (λ (x : OpenCommand). q (e.0, x) ≡ true) (cc (value)) both.0) both.1)
      by false is more = rw is (both_and (q e) (list_all q (set_value p es (f v))) both.0 (more (rw is at found) both.1))

abbrev Leaves : Work → Work → Type 0
Leaves work new = commands_in_run work.node ≡ true → commands_in_run new.node ≡ true

answer_leaves : (client : ClientNo) (said : Answer) (work : Work) → Leaves work (answer client said work)
answer_leaves client said work = by (lookup (is_at (client_cmp client)) work.node.commands)
  where
    by : (o : Option OpenCommand) → Leaves work (elim o [
      | None ↦ work
      | Some command ↦ record work {
        node = record work.node { commands = remove_entry (is_at (client_cmp client)) work.node.commands };
        out = record work.out {
          answers = work.out.answers ++ record { client = client; answer = record { line = command.line.line; answer = said } } ∷ [];
          entries = work.out.entries ++ Rattle.qs_book_journal.specs.declared.entry.Act.TheVariants.Answer client command.line.line said ∷ [];
        };
      }
    ])
    by None is = is
    by (Some command) is = all_left (is_at (client_cmp client)) (is_open_in_run work.node.setting.nodes) work.node.commands is

-- ---- a request leaves what is open

module _ (tid : Tid) (request : Outstanding) (op : Op) where
  here_leaves : (work : Work) → commands_in_run work.node ≡ true → commands_in_run (issue_here tid request op work).node ≡ true
  here_leaves work is = by (is_for request.member.server op)
    where
      issued : Work
      issued = with_local tid request.number (enter_issue tid request op work)

      by : (b : Bool) → commands_in_run (if b then with_queues (ipc.enqueue request.member.server (record { tid = tid; from = here work; number = request.number; op = op; stale = false })) issued else issued).node ≡ true
      by true = is
      by false = is

  away_leaves : (work : Work) → commands_in_run work.node ≡ true → commands_in_run (issue_away tid request op work).node ≡ true
  away_leaves work is = asked (is_asked tid work)
    where
      sent : Work
      sent = with_manager (tm.sent tid request.member.node) (enter_issue tid request op work)

      posted : Work
      posted = send request.member.node (messages.Request tid (label_of tid work.node) request.member request.number request.issuer op) sent

      open_posted : commands_in_run posted.node ≡ true
      open_posted = subst (λ (n : NodeValue). commands_in_run n ≡ true) (sym (send_node request.member.node (messages.Request tid (label_of tid work.node) request.member request.number request.issuer op) sent)) is

      asked : (b : Bool) → commands_in_run (ask_on b tid request.member.node posted).node ≡ true
      asked true = subst (λ (n : NodeValue). commands_in_run n ≡ true) (sym (send_node request.member.node (messages.AskVote tid) posted)) open_posted
      asked false = open_posted

  issue_leaves : (work : Work) → commands_in_run work.node ≡ true → commands_in_run (issue_as tid request op work).node ≡ true
  issue_leaves work is = by (same_node request.member.node (here work))
    where
      by : (b : Bool) → commands_in_run (if b then issue_here tid request op work else issue_away tid request op work).node ≡ true
      by true = here_leaves work is
      by false = away_leaves work is

request_leaves : (client : ClientNo) (tid : Tid) (member : Member) (op : Op) (work : Work) → Leaves work (request_command client tid member op work)
request_leaves client tid member op work = by (next_number tid member.node work)
  where
    issued_leaves : (issued : Issued) → Leaves work (with_issued client issued work)
    issued_leaves issued is = at (lookup (is_at (client_cmp client)) work.node.commands) refl
      where
        at : (o : Option OpenCommand) → lookup (is_at (client_cmp client)) work.node.commands ≡ o
            → list_all (is_open_in_run work.node.setting.nodes) (elim o [ None ↦ work.node.commands | Some v ↦ set_value (is_at (client_cmp client)) work.node.commands (record v { issued = Some issued }) ]) ≡ true
        at None none = is
        at (Some v) found = all_changed (is_at (client_cmp client)) (is_open_in_run work.node.setting.nodes) (λ command. record command { issued = Some issued }) (λ k command. refl) work.node.commands v found is

    by : (o : Option ℕ) → Leaves work (elim o [ None ↦ work | Some number ↦ request_as client tid member op number work ])
    by None = λ is. is
    by (Some number) = λ is. issue_leaves tid (record { issuer = client_server client; member = member; number = number; count = 0 }) op
        (with_issued client (record { tid = tid; member = member; number = number }) work) (issued_leaves (record { tid = tid; member = member; number = number }) is)

-- ---- what a borrower commands

lent_leaves : (client : ClientNo) (tid : Tid) (command : Command) (work : Work) → Leaves work (lent_command client tid command work)
lent_leaves client tid commands.Begin work = λ is. is
lent_leaves client tid commands.Commit work = λ is. is
lent_leaves client tid commands.Abort work = λ is. is
lent_leaves client tid commands.Take work = λ is. is
lent_leaves client tid commands.Yield work = λ is. answer_leaves client answers.Done given is
  where
    given : Work
    given = with_doings tid (λ doings. record doings { yielded = true })
        (enter (Rattle.qs_book_journal.specs.declared.entry.Act.TheVariants.Yield tid client) (with_kept (λ kept. record kept { loans = give_back client tid kept.loans }) work))
lent_leaves client tid (commands.Request member op) work = request_leaves client tid member op work

loan_leaves : (client : ClientNo) (tid : Tid) (command : Command) (work : Work) → Leaves work (loan_command client tid command work)
loan_leaves client tid command work = by (last_taken client tid work.node.kept.now.loans)
  where
    picked : (loan : Lent) (a b : Bool) → Leaves work (if a then answer client answers.NotYours work else if b then answer client answers.Ended work else lent_command client tid command work)
    picked loan true b = answer_leaves client answers.NotYours work
    picked loan false true = answer_leaves client answers.Ended work
    picked loan false false = lent_leaves client tid command work

    by : (o : Option Lent) → Leaves work (elim o [ None ↦ work | Some loan ↦ with_loan client tid command loan work ])
    by None = λ is. is
    by (Some loan) = picked loan loan.yielded (is_void tid loan work.node)

borrower_leaves : (client : ClientNo) (tid : Tid) (command : Command) (work : Work) → Leaves work (borrower_command client tid command work)
borrower_leaves client tid commands.Take work = by (first_untaken client tid work.node.kept.now.loans)
  where
    by : (o : Option Lent) → Leaves work (elim o [ None ↦ work | Some loan ↦ take client tid loan work ])
    by None = λ is. is
    by (Some loan) = λ is. answer_leaves client (if is_void tid loan work.node then answers.Ended else answers.Done) (with_kept (λ kept. record kept { loans = take_first client tid kept.loans }) work) is
borrower_leaves client tid commands.Begin work = loan_leaves client tid commands.Begin work
borrower_leaves client tid commands.Commit work = loan_leaves client tid commands.Commit work
borrower_leaves client tid commands.Abort work = loan_leaves client tid commands.Abort work
borrower_leaves client tid commands.Yield work = loan_leaves client tid commands.Yield work
borrower_leaves client tid (commands.Request member op) work = loan_leaves client tid (commands.Request member op) work

-- ---- an open command

abbrev pub Carries : Work → Work → Type 0
Carries work new = (is_sound work.node ≡ true) × (commands_in_run work.node ≡ true) → (is_sound new.node ≡ true) × (commands_in_run new.node ≡ true)

both_carry : (work new : Work) → StaysSound work new → Leaves work new → Carries work new
both_carry work new sound leaves = λ has. (sound has.0, leaves has.1)

answer_carries : (client : ClientNo) (said : Answer) (work : Work) → Carries work (answer client said work)
answer_carries client said work = both_carry work (answer client said work) (answer_sound client said work) (answer_leaves client said work)

module _ (client : ClientNo) (command : OpenCommand) (work : Work) (in_run : goes_in_run work.node.setting.nodes command.line.command ≡ true) where
  owner_carries : (o : Option Tid) → Carries work (owner_waits client o command.line.command work)
  owner_carries None = λ has. has
  owner_carries (Some tid) = by (kept_outcome tid work.node)
    where
      by : (o : Option Decided) → Carries work (elim o [ None ↦ work | Some decided ↦ answer client (decided_answer decided command.line.command) work ])
      by None = λ has. has
      by (Some decided) = answer_carries client (decided_answer decided command.line.command) work

  borrower_carries : (issued : Option Issued) (o : Option Tid) → Carries work (borrower_waits client issued o command.line.command work)
  borrower_carries (Some issued) o = by (is_aborted issued.tid work.node)
    where
      by : (b : Bool) → Carries work (if b then answer client answers.Ended work else work)
      by true = answer_carries client answers.Ended work
      by false = λ has. has
  borrower_carries None None = λ has. has
  borrower_carries None (Some tid) = both_carry work (borrower_command client tid command.line.command work) (borrower_command_sound client tid command.line.command work in_run) (borrower_leaves client tid command.line.command work)

  label_carries : (begun : KeptLabel) (b : Bool) → Carries work (if b then owner_waits client begun.tid command.line.command work else borrower_waits client command.issued begun.tid command.line.command work)
  label_carries begun true = owner_carries begun.tid
  label_carries begun false = borrower_carries command.issued begun.tid

  command_carries : Carries work (wait_command client command work)
  command_carries = by (label_at command.line.label work.node)
    where
      by : (o : Option KeptLabel) → Carries work (elim o [ None ↦ work | Some begun ↦ waits_at client command begun work ])
      by None = λ has. has
      by (Some begun) = label_carries begun (is_owner client begun.owner)

pub found_all : (p : ClientNo → Bool) (q : ClientNo × OpenCommand → Bool) (r : OpenCommand → Bool) → ((e : ClientNo × OpenCommand) → q e ≡ r e.1) → (es : List (ClientNo × OpenCommand)) (v : OpenCommand) → lookup p es ≡ Some v → list_all q es ≡ true → r v ≡ true
found_all p q r same [] v found all = absurd (cc (found))
found_all p q r same (e ∷ es) v found all = by (p e.0) refl (found_all p q r same es v)
  where
    both : (q e ≡ true) × (list_all q es ≡ true)
    both = and_both (q e) (list_all q es) all

    by : (b : Bool) → p e.0 ≡ b → (lookup p es ≡ Some v → list_all q es ≡ true → r v ≡ true) → r v ≡ true
    by true is more = let value : Some e.1 ≡ Some v = rw is at found in subst (λ (x : OpenCommand). r x ≡ true) (cc (value)) (sym (same e) ∙ both.0)
    by false is more = more (rw is at found) both.1

pub wait_carries : (work : Work) (client : ClientNo) → Carries work (wait_on work client)
wait_carries work client = by (lookup (is_at (client_cmp client)) work.node.commands) refl
  where
    by : (o : Option OpenCommand) → lookup (is_at (client_cmp client)) work.node.commands ≡ o → Carries work (elim o [ None ↦ work | Some command ↦ wait_command client command work ])
    by None none = λ has. has
    by (Some command) found = λ has. command_carries client command work
        (found_all (is_at (client_cmp client)) (is_open_in_run work.node.setting.nodes) (λ command. goes_in_run work.node.setting.nodes command.line.command) (λ e. refl) work.node.commands command found has.1) has

waits_carry : (clients : List ClientNo) (work : Work) → Carries work (fold wait_on work clients)
waits_carry [] work = λ has. has
waits_carry (client ∷ clients) work = λ has. waits_carry clients (wait_on work client) (wait_carries work client has)

pub answer_waiting_sound : AnswerWaitingSound
answer_waiting_sound work in_run = λ sound. (waits_carry (waiting_clients work) work (sound, in_run)).0

-- ---- the whole step

pub step_sound : StepSound
step_sound node event free may in_run sound =
    answer_waiting_sound (settled node event free) in_run
    (settle_sound (happen event (begun node free)) (happen_sound event (begun node free) may (begin_incarnation_sound (work_on node free) sound)))
