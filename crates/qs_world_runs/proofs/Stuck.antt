-- What keeps a node from being ready for a transaction stays so through the rest of its step: its own turn, that of every other, and commands that stayed open.
use Rattle.qs_world_runs.proofs.Words.{◌≡◌, ℕ, Bool, true, false, List, [], ◌∷◌, Option, Some, None, refl, sym, subst, ◌∙◌, if◌then◌else◌, ◌&&◌, not, is_at, lookup, same_tid, ClientNo, Member, Tid, Command, first_untaken, last_taken, give_back, take_first, KeptLabel, Decided, Lent, Cause, Op, client_server, kept_outcome, borrower_command, is_aborted, is_void, lent_command, loan_command, take, with_loan, answer, enter, log_if, decided_answer, request_as, request_command, decide_as, end_members}
use Rattle.qs_world_runs.proofs.Words.{give_notices, keep_outcome, label_at, forget_rule, is_pass_due, may_answer, pass_rule, ready, ready_rule, refusal_goes_to, refuse_elsewhere, refuse_rule, send_refusal, settle_tid, try, is_busy, Work, client_cmp, doings_of, with_manager, with_doings, with_kept, borrower_waits, is_owner, owner_waits, wait_command, wait_on, waits_at, forget, vote_pass, Issued, OpenCommand, is_undecided, Decision, Participant, settle_leaves, same_is}
use Rattle.qs_base.specs.declared.identifiers.Outcome.TheVariants as outcomes
use Rattle.qs_book_journal.specs.declared.entry.Act.TheVariants as acts
use Rattle.qs_book_journal.specs.declared.script_line.Command.TheVariants as commands
use Rattle.qs_ops.specs.declared.answer.Answer.TheVariants as answers
use Rattle.qs_packet.specs.declared.message.Message.TheVariants as messages
use Rattle.qs_node_step.specs.Commands.{with_issued}
use Rattle.qs_node_step.specs.Deciding.{decide}
use Rattle.qs_node_step.specs.Requests.{next_number}
use Rattle.qs_node_step.specs.State.{part_of}
use Rattle.qs_tm.specs.Manager as tm
use Rattle.qs_tm.specs.Outcomes as outcome_rules
use Rattle.qs_tm.specs.Participant as participant
use Rattle.qs_world_runs.proofs.Onward.{IsStuck, aborted_onward, causes_onward, onward_itself, stuck_kept, stuck_unready}
use Rattle.qs_world_runs.proofs.StuckRules.{Keeps, Kept, Sticks, answer_keeps, end_keeps, issue_keeps, keeps_fold, keeps_itself, keeps_on, keeps_part, keeps_same, learn_keeps, log_keeps, pass_keeps, send_keeps, sends_keep, sticks_on}
use Rattle.std.proofs.lemmas.Bool.{and_left}

module _ (t : Tid) where
  -- ---- its own turn

  passes : (work : Work) (part : Participant) → Keeps t work (pass_rule t part work)
  passes work part = by (is_pass_due t part work)
    where
      by : (b : Bool) → Keeps t work (if b then vote_pass t work else work)
      by true = pass_keeps t t work
      by false = keeps_itself t work

  -- it is not ready
  readies : (work : Work) (part : Participant) → part_of t work ≡ Some part → IsStuck part → Kept t work (ready_rule t part work) part
  readies work part known stuck = by (may_answer t part work) (and_left (participant.is_ready (is_busy t work.node part) part) (not (participant.needs_pass part) && not (doings_of t work).prepared) (stuck_unready part stuck (is_busy t work.node part)))
    where
      by : (b : Bool) → b ≡ false → Kept t work (if b then ready t part work else work) part
      by true is = absurd (cc is)
      by false is = record { next = part; known = known; onward = onward_itself part; setting = refl }

  -- a home aborts
  abort_keeps : (cause : Option Cause) (work : Work) → Keeps t work (decide t outcomes.Abort cause work)
  abort_keeps cause work = by (tm.decision t outcomes.Abort work.node.manager)
    where
      by : (made : Decision) → Keeps t work (decide_as t outcomes.Abort cause made work)
      by made =
          keeps_on t work decided (decide_as t outcomes.Abort cause made work) (keeps_part t t (outcome_rules.decided outcomes.Abort) work decided aborted_onward refl refl)
          (keeps_on t decided logged (decide_as t outcomes.Abort cause made work) (log_keeps t made.rec decided)
          (keeps_on t logged entered (decide_as t outcomes.Abort cause made work) (keeps_same t logged entered refl refl)
          (keeps_on t entered (end_members t entered) (decide_as t outcomes.Abort cause made work) (end_keeps t t entered)
          (keeps_on t (end_members t entered) (give_notices t outcomes.Abort entered) (decide_as t outcomes.Abort cause made work) (learn_keeps t t outcomes.Abort (end_members t entered))
          (sends_keep t made.tell (messages.Tell t outcomes.Abort) (give_notices t outcomes.Abort entered))))))
        where
          decided : Work
          decided = with_manager (tm.decide t outcomes.Abort) work

          logged : Work
          logged = log_if made.rec decided

          entered : Work
          entered = enter (acts.Decide t outcomes.Abort cause) (keep_outcome t outcomes.Abort cause logged)

  refuses : (work : Work) (part : Participant) → Keeps t work (refuse_rule t part work)
  refuses work part = by part.engage.home part.causes
    where
      taken : Work
      taken = with_manager (tm.take_causes t) work

      by : (b : Bool) (list : List Cause) → Keeps t work (if b then elim list [ [] ↦ work | cause ∷ more ↦ decide t outcomes.Abort (Some cause) work ] else refuse_elsewhere t part work)
      by true [] = keeps_itself t work
      by true (cause ∷ more) = abort_keeps (Some cause) work
      by false list = keeps_on t work taken (refuse_elsewhere t part work) (keeps_part t t participant.take_causes work taken causes_onward refl refl)
          (keeps_fold t (send_refusal t (refusal_goes_to t part)) (λ work cause. send_keeps t (refusal_goes_to t part) (messages.VotedAbort t cause) work) part.causes taken)

  forgets : (work : Work) (part : Participant) → part_of t work ≡ Some part → IsStuck part → Kept t work (forget_rule t part work) part
  forgets work part known stuck = by (participant.is_forgotten part) (stuck_kept part stuck)
    where
      by : (b : Bool) → b ≡ false → Kept t work (if b then forget t work else work) part
      by true is = absurd (cc is)
      by false is = record { next = part; known = known; onward = onward_itself part; setting = refl }

  tried : (rule : Tid → Participant → Work → Work) → ((work : Work) (part : Participant) → part_of t work ≡ Some part → IsStuck part → Kept t work (rule t part work) part) → (work : Work) → Sticks t work (try t rule work)
  tried rule each work part known stuck = subst (λ (o : Option Participant). Kept t work (elim o [ None ↦ work | Some p ↦ if is_undecided p then rule t p work else work ]) part) (sym known) (by (is_undecided part))
    where
      by : (b : Bool) → Kept t work (if b then rule t part work else work) part
      by true = each work part known stuck
      by false = record { next = part; known = known; onward = onward_itself part; setting = refl }

  pub passed_sticks : (work : Work) → Sticks t work (try t pass_rule work)
  passed_sticks work = tried pass_rule (λ work part known stuck. passes work part part known) work

  -- what is left of it behind its votes
  pub rest_sticks : (work : Work) → Sticks t (try t pass_rule work) (settle_tid work t)
  rest_sticks work =
      sticks_on t (try t pass_rule work) readied (settle_tid work t) (tried ready_rule readies (try t pass_rule work))
      (sticks_on t readied refused (settle_tid work t) (tried refuse_rule (λ work part known stuck. refuses work part part known) readied) (tried forget_rule forgets refused))
    where
      readied : Work
      readied = try t ready_rule (try t pass_rule work)

      refused : Work
      refused = try t refuse_rule readied

  pub settle_sticks : (work : Work) (tid : Tid) → Sticks t work (settle_tid work tid)
  settle_sticks work tid = by (same_tid t tid) refl
    where
      by : (b : Bool) → same_tid t tid ≡ b → Sticks t work (settle_tid work tid)
      by true same = subst (λ (k : Tid). Sticks t work (settle_tid work k)) (same_is t tid same) (sticks_on t work (try t pass_rule work) (settle_tid work t) (passed_sticks work) (rest_sticks work))
      by false apart = λ part known stuck. let left = settle_leaves t tid apart work in record { next = part; known = left.node.part ∙ known; onward = onward_itself part; setting = left.node.around.setting }

  -- ---- commands that stayed open

  request_keeps : (client : ClientNo) (tid : Tid) (member : Member) (op : Op) (work : Work) → Keeps t work (request_command client tid member op work)
  request_keeps client tid member op work = by (next_number tid member.node work)
    where
      by : (o : Option ℕ) → Keeps t work (elim o [ None ↦ work | Some number ↦ request_as client tid member op number work ])
      by None = keeps_itself t work
      by (Some number) = keeps_on t work marked (request_as client tid member op number work) (keeps_same t work marked refl refl)
          (issue_keeps t tid (record { issuer = client_server client; member = member; number = number; count = 0 }) op marked)
        where
          marked : Work
          marked = with_issued client (record { tid = tid; member = member; number = number }) work

  lent_keeps : (client : ClientNo) (tid : Tid) (command : Command) (work : Work) → Keeps t work (lent_command client tid command work)
  lent_keeps client tid commands.Yield work = keeps_on t work given (lent_command client tid commands.Yield work) (keeps_same t work given refl refl) (answer_keeps t client answers.Done given)
    where
      given : Work
      given = with_doings tid (λ doings. record doings { yielded = true }) (enter (acts.Yield tid client) (with_kept (λ kept. record kept { loans = give_back client tid kept.loans }) work))
  lent_keeps client tid (commands.Request member op) work = request_keeps client tid member op work
  lent_keeps client tid commands.Begin work = keeps_itself t work
  lent_keeps client tid commands.Commit work = keeps_itself t work
  lent_keeps client tid commands.Abort work = keeps_itself t work
  lent_keeps client tid commands.Take work = keeps_itself t work

  loan_keeps : (client : ClientNo) (tid : Tid) (command : Command) (work : Work) → Keeps t work (loan_command client tid command work)
  loan_keeps client tid command work = by (last_taken client tid work.node.kept.now.loans)
    where
      of : (a b : Bool) → Keeps t work (if a then answer client answers.NotYours work else if b then answer client answers.Ended work else lent_command client tid command work)
      of true b = answer_keeps t client answers.NotYours work
      of false true = answer_keeps t client answers.Ended work
      of false false = lent_keeps client tid command work

      by : (o : Option Lent) → Keeps t work (elim o [ None ↦ work | Some loan ↦ with_loan client tid command loan work ])
      by None = keeps_itself t work
      by (Some loan) = of loan.yielded (is_void tid loan work.node)

  take_keeps : (client : ClientNo) (tid : Tid) (o : Option Lent) (work : Work) → Keeps t work (elim o [ None ↦ work | Some loan ↦ take client tid loan work ])
  take_keeps client tid None work = keeps_itself t work
  take_keeps client tid (Some loan) work = keeps_on t work taken (take client tid loan work) (keeps_same t work taken refl refl) (answer_keeps t client (if is_void tid loan work.node then answers.Ended else answers.Done) taken)
    where
      taken : Work
      taken = with_kept (λ kept. record kept { loans = take_first client tid kept.loans }) work

  borrower_keeps : (client : ClientNo) (tid : Tid) (command : Command) (work : Work) → Keeps t work (borrower_command client tid command work)
  borrower_keeps client tid commands.Take work = take_keeps client tid (first_untaken client tid work.node.kept.now.loans) work
  borrower_keeps client tid commands.Begin work = loan_keeps client tid commands.Begin work
  borrower_keeps client tid commands.Commit work = loan_keeps client tid commands.Commit work
  borrower_keeps client tid commands.Abort work = loan_keeps client tid commands.Abort work
  borrower_keeps client tid commands.Yield work = loan_keeps client tid commands.Yield work
  borrower_keeps client tid (commands.Request member op) work = loan_keeps client tid (commands.Request member op) work

  pub wait_keeps : (work : Work) (client : ClientNo) → Keeps t work (wait_on work client)
  wait_keeps work client = by (lookup (is_at (client_cmp client)) work.node.commands)
    where
      owner : (o : Option Tid) (command : Command) → Keeps t work (owner_waits client o command work)
      owner None command = keeps_itself t work
      owner (Some tid) command = told (kept_outcome tid work.node)
        where
          told : (o : Option Decided) → Keeps t work (elim o [ None ↦ work | Some decided ↦ answer client (decided_answer decided command) work ])
          told None = keeps_itself t work
          told (Some decided) = answer_keeps t client (decided_answer decided command) work

      borrower : (issued : Option Issued) (o : Option Tid) (command : Command) → Keeps t work (borrower_waits client issued o command work)
      borrower (Some issued) o command = aborted (is_aborted issued.tid work.node)
        where
          aborted : (b : Bool) → Keeps t work (if b then answer client answers.Ended work else work)
          aborted true = answer_keeps t client answers.Ended work
          aborted false = keeps_itself t work
      borrower None None command = keeps_itself t work
      borrower None (Some tid) command = borrower_keeps client tid command work

      at : (command : OpenCommand) (o : Option KeptLabel) → Keeps t work (elim o [ None ↦ work | Some begun ↦ waits_at client command begun work ])
      at command None = keeps_itself t work
      at command (Some begun) = which (is_owner client begun.owner)
        where
          which : (b : Bool) → Keeps t work (if b then owner_waits client begun.tid command.line.command work else borrower_waits client command.issued begun.tid command.line.command work)
          which true = owner begun.tid command.line.command
          which false = borrower command.issued begun.tid command.line.command

      by : (o : Option OpenCommand) → Keeps t work (elim o [ None ↦ work | Some command ↦ wait_command client command work ])
      by None = keeps_itself t work
      by (Some command) = at command (label_at command.line.label work.node)
