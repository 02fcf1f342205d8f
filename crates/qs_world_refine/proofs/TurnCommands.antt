-- What clients command leaves the records of a transaction in turn.
use Rattle.qs_world_refine.proofs.Words.{◌≡◌, ℕ, ◌+◌, ◌||◌, Bool, true, false, List, [], ◌∷◌, ◌++◌, Option, Some, None, refl, sym, subst, ◌∙◌, list_any, same_tid, ClientNo, Member, Tid, no_nodes, Nodes, Command, ScriptLine, first_untaken, last_taken, take_first, give_back, Decided, Lent, Op, Record, is_one, begun_participant, BeginFault, Participant, kept_outcome, is_void, take, take_command, yield, lent_command, with_loan, loan_command, borrower_command, begin_as, begin_or_refuse, begin_command}
use Rattle.qs_world_refine.proofs.Words.{request_as, request_command, with_issued, enter_ask, ask, open_command, decided_answer, owner_command, enter, decide, next_number, label_at, put_label, Work, part_of, with_manager, is_owner, labelled, obey, with_command, command_came, Issued, is_loose_of, node_no, begun, or_left, or_right}
use Rattle.qs_base.specs.declared.identifiers.Outcome.TheVariants as outcomes
use Rattle.qs_engage.specs.Nodes.{has_node}
use Rattle.qs_book_journal.specs.declared.script_line.Command.TheVariants as commands
use Rattle.qs_node_kept.specs.declared.kept.KeptLabel.{KeptLabel}
use Rattle.qs_ops.specs.declared.answer.Answer.TheVariants as answers
use Rattle.qs_ops.specs.declared.answer.Cause.TheVariants as causes
use Rattle.qs_record.specs.declared.record.Record.TheVariants as records
use Rattle.qs_tm.specs.Manager as tm
use Rattle.qs_tm.specs.declared.manager.BeginFault.TheVariants as faults
use Rattle.qs_world_refine.proofs.TurnOn.{Case, fate_at, became, same_acks, open_apart, is_aborted_of, is_end_of, Turned, TurnedAs, TurnsOn, NoLoose, on_itself, on_then, if_on, rest_on, enter_on, answer_on, kept_on, doings_on}
use Rattle.qs_world_refine.proofs.TurnRecords.{nobody, put_on}
use Rattle.qs_world_refine.proofs.TurnOutcomes.{IsOpenAt, decide_on}
use Rattle.qs_world_refine.proofs.TurnRules.{issue_as_on, become_asked_on, undecided_on}

-- what ends a transaction need not be forced
aborted_loose : (t : Tid) (rec : Record) → is_aborted_of t rec ≡ true → is_loose_of t rec ≡ true
aborted_loose t (records.Prepare other server covers changes) is = absurd (cc (is))
aborted_loose t (records.Commit other told) is = absurd (cc (is))
aborted_loose t (records.Aborted other) is = rw is refl
aborted_loose t (records.End other) is = absurd (cc (is))

end_loose : (t : Tid) (rec : Record) → is_end_of t rec ≡ true → is_loose_of t rec ≡ true
end_loose t (records.Prepare other server covers changes) is = absurd (cc (is))
end_loose t (records.Commit other told) is = absurd (cc (is))
end_loose t (records.Aborted other) is = absurd (cc (is))
end_loose t (records.End other) is = rw is refl

pub any_wider : {A : Type 0} (p q : A → Bool) → ((x : A) → p x ≡ true → q x ≡ true) → (xs : List A) → list_any p xs ≡ true → list_any q xs ≡ true
any_wider p q each [] is = is
any_wider p q each (x ∷ xs) is = by (p x) refl is (any_wider p q each xs)
  where
    by : (b : Bool) → p x ≡ b → (b || list_any p xs) ≡ true → (list_any p xs ≡ true → list_any q xs ≡ true) → (q x || list_any q xs) ≡ true
    by true its has more = or_left (q x) (list_any q xs) (each x its)
    by false its has more = or_right (q x) (list_any q xs) (more has)

-- ---- what clients command

-- a transaction begins, of which nothing is known
-- where it is this one, none of its records waits to end it
abbrev pub MayBeginIn : Case → Work → Type 0
MayBeginIn k work = same_tid k.tid (tm.next_tid work.node.manager) ≡ true → NoLoose k work.out.records × (fate_at k.tid work.node ≡ None)

begin_as_on : {k : Case} (line : ScriptLine) (work : Work) → MayBeginIn k work → TurnsOn k work (begin_as line (tm.next_tid work.node.manager) work)
begin_as_on {k} line work may =
    on_then (rest_on work counted refl refl refl refl)
    (on_then (put_on (tm.next_tid work.node.manager) new counted (λ same. (may same).1) first)
    (on_then (rest_on begun (put_label (record { label = line.label; tid = Some (tm.next_tid work.node.manager); owner = Some line.client }) begun) refl refl refl refl) (on_then (enter_on _ _) (answer_on line.client answers.Done _))))
  where
    new : Participant
    new = begun_participant line.client work.node.manager.ticks

    begun : Work
    begun = with_manager (tm.begin line.client) work

    counted : Work
    counted = with_manager (λ manager. record manager { begun = manager.begun + 1 }) work

    first : same_tid k.tid (tm.next_tid work.node.manager) ≡ true → Turned k counted → TurnedAs k counted.node.setting.node (became None no_nodes) counted.out.records
    first same is = record {
      aborted = λ has. absurd (loose (is_aborted_of k.tid) (λ rec of_it. aborted_loose k.tid rec of_it) has);
      ended = λ has. absurd (loose (is_end_of k.tid) (λ rec of_it. end_loose k.tid rec of_it) has);
      ends = is.ends;
      turn = is.turn;
      learnt = λ away acks its. absurd (open_apart outcomes.Commit acks no_nodes (sym its));
      acked = λ o acks its m has. absurd (nobody m (subst (λ (a : Nodes). has_node a (node_no m) ≡ true) (sym (same_acks None o no_nodes acks its)) has));
    }
      where
        loose : (p : Record → Bool) → ((rec : Record) → p rec ≡ true → is_loose_of k.tid rec ≡ true) → list_any p (k.before ++ work.out.records) ≡ true → ⊥
        loose p each has = let some : list_any (is_loose_of k.tid) (k.before ++ work.out.records) ≡ true = any_wider p (is_loose_of k.tid) each (k.before ++ work.out.records) has in let none = (may same).0 in cc (some, none)

pub begin_command_on : {k : Case} (line : ScriptLine) (work : Work) → MayBeginIn k work → TurnsOn k work (begin_command line work)
begin_command_on {k} line work may = by (tm.begin_fault work.room work.node.manager)
  where
    by : (o : Option BeginFault) → TurnsOn k work (begin_or_refuse line o work)
    by None = begin_as_on line work may
    by (Some (faults.LogFull need room)) = on_then (rest_on work (put_label (record { label = line.label; tid = None; owner = Some line.client }) work) refl refl refl refl) (answer_on line.client (answers.LogFull need room) _)
    by (Some (faults.Last number)) = on_itself work
    by (Some faults.NoMemory) = on_itself work

-- what is open waits for its reply
issued_on : {k : Case} (client : ClientNo) (issued : Issued) (work : Work) → TurnsOn k work (with_issued client issued work)
issued_on {k} client issued work = rest_on work (with_issued client issued work) refl refl refl refl

request_command_on : {k : Case} (client : ClientNo) (tid : Tid) (member : Member) (op : Op) (work : Work) → TurnsOn k work (request_command client tid member op work)
request_command_on {k} client tid member op work = by (next_number tid member.node work)
  where
    by : (o : Option ℕ) → TurnsOn k work (elim o [ None ↦ work | Some number ↦ request_as client tid member op number work ])
    by None = on_itself work
    by (Some number) = on_then (issued_on client (record { tid = tid; member = member; number = number }) work) (issue_as_on tid _ op (with_issued client (record { tid = tid; member = member; number = number }) work))

ask_on : {k : Case} (tid : Tid) (part : Participant) (work : Work) → TurnsOn k work (ask tid part work)
ask_on {k} tid part work = if_on part.asked (on_itself work) (on_then (enter_on _ work) (on_then (doings_on tid (λ doings. record doings { asked = true }) _) (become_asked_on tid part (enter_ask tid work))))

only : (tid : Tid) (part : Participant) (work : Work) → part_of tid work ≡ Some part → part.outcome ≡ None → IsOpenAt tid work
only tid part work known open_now other its = let one : part ≡ other = (let both : Some part ≡ Some other = sym known ∙ its in cc (both)) in subst (λ (p : Participant). p.outcome ≡ None) one open_now

open_command_on : {k : Case} (client : ClientNo) (tid : Tid) (command : Command) (work : Work) → TurnsOn k work (open_command client tid command work)
open_command_on {k} client tid commands.Commit work = undecided_on tid (ask tid) work (λ part known open_now. ask_on tid part work)
open_command_on {k} client tid commands.Abort work = undecided_on tid (λ part. decide tid outcomes.Abort (Some causes.Asked)) work (λ part known open_now. decide_on tid outcomes.Abort (Some causes.Asked) work (λ same. only tid part work known open_now) (λ same away commit. absurd (cc (commit))) (λ commit. absurd (cc (commit))))
open_command_on {k} client tid (commands.Request member op) work = request_command_on client tid member op work
open_command_on {k} client tid commands.Begin work = on_itself work
open_command_on {k} client tid commands.Take work = on_itself work
open_command_on {k} client tid commands.Yield work = on_itself work

owner_command_on : {k : Case} (client : ClientNo) (tid : Option Tid) (command : Command) (work : Work) → TurnsOn k work (owner_command client tid command work)
owner_command_on {k} client None command work = answer_on client answers.NotBegun work
owner_command_on {k} client (Some tid) command work = by (kept_outcome tid work.node)
  where
    by : (o : Option Decided) → TurnsOn k work (elim o [ None ↦ open_command client tid command work | Some decided ↦ Rattle.qs_node_step.specs.Bringing.answer client (decided_answer decided command) work ])
    by None = open_command_on client tid command work
    by (Some decided) = answer_on client (decided_answer decided command) work

take_on : {k : Case} (client : ClientNo) (tid : Tid) (loan : Lent) (work : Work) → TurnsOn k work (take client tid loan work)
take_on {k} client tid loan work = on_then (kept_on (λ kept. record kept { loans = take_first client tid kept.loans }) (λ _. refl) work) (answer_on client _ _)

take_command_on : {k : Case} (client : ClientNo) (tid : Tid) (work : Work) → TurnsOn k work (take_command client tid work)
take_command_on {k} client tid work = by (first_untaken client tid work.node.kept.now.loans)
  where
    by : (o : Option Lent) → TurnsOn k work (elim o [ None ↦ work | Some loan ↦ take client tid loan work ])
    by None = on_itself work
    by (Some loan) = take_on client tid loan work

yield_on : {k : Case} (client : ClientNo) (tid : Tid) (work : Work) → TurnsOn k work (yield client tid work)
yield_on {k} client tid work =
    on_then (kept_on (λ kept. record kept { loans = give_back client tid kept.loans }) (λ _. refl) work)
    (on_then (enter_on _ _) (on_then (doings_on tid (λ doings. record doings { yielded = true }) _) (answer_on client answers.Done _)))

lent_command_on : {k : Case} (client : ClientNo) (tid : Tid) (command : Command) (work : Work) → TurnsOn k work (lent_command client tid command work)
lent_command_on {k} client tid commands.Yield work = yield_on client tid work
lent_command_on {k} client tid (commands.Request member op) work = request_command_on client tid member op work
lent_command_on {k} client tid commands.Begin work = on_itself work
lent_command_on {k} client tid commands.Commit work = on_itself work
lent_command_on {k} client tid commands.Abort work = on_itself work
lent_command_on {k} client tid commands.Take work = on_itself work

loan_command_on : {k : Case} (client : ClientNo) (tid : Tid) (command : Command) (work : Work) → TurnsOn k work (loan_command client tid command work)
loan_command_on {k} client tid command work = by (last_taken client tid work.node.kept.now.loans)
  where
    by : (o : Option Lent) → TurnsOn k work (elim o [ None ↦ work | Some loan ↦ with_loan client tid command loan work ])
    by None = on_itself work
    by (Some loan) = if_on loan.yielded (answer_on client answers.NotYours work) (if_on (is_void tid loan work.node) (answer_on client answers.Ended work) (lent_command_on client tid command work))

pub borrower_command_on : {k : Case} (client : ClientNo) (tid : Tid) (command : Command) (work : Work) → TurnsOn k work (borrower_command client tid command work)
borrower_command_on {k} client tid commands.Take work = take_command_on client tid work
borrower_command_on {k} client tid commands.Yield work = loan_command_on client tid commands.Yield work
borrower_command_on {k} client tid (commands.Request member op) work = loan_command_on client tid (commands.Request member op) work
borrower_command_on {k} client tid commands.Begin work = loan_command_on client tid commands.Begin work
borrower_command_on {k} client tid commands.Commit work = loan_command_on client tid commands.Commit work
borrower_command_on {k} client tid commands.Abort work = loan_command_on client tid commands.Abort work

labelled_on : {k : Case} (client : ClientNo) (begun : KeptLabel) (command : Command) (work : Work) → TurnsOn k work (labelled client begun command work)
labelled_on {k} client begun command work = if_on (is_owner client begun.owner) (owner_command_on client begun.tid command work) (by begun.tid)
  where
    by : (o : Option Tid) → TurnsOn k work (elim o [ None ↦ work | Some tid ↦ borrower_command client tid command work ])
    by None = on_itself work
    by (Some tid) = borrower_command_on client tid command work

obey_on : {k : Case} (line : ScriptLine) (command : Command) (work : Work) → TurnsOn k work (elim (label_at line.label work.node) [ None ↦ work | Some begun ↦ labelled line.client begun command work ])
obey_on {k} line command work = by (label_at line.label work.node)
  where
    by : (o : Option KeptLabel) → TurnsOn k work (elim o [ None ↦ work | Some begun ↦ labelled line.client begun command work ])
    by None = on_itself work
    by (Some begun) = labelled_on line.client begun command work

pub command_came_on : {k : Case} (line : ScriptLine) (work : Work) → (line.command ≡ commands.Begin → MayBeginIn k work) → TurnsOn k work (command_came line work)
command_came_on {k} line work may = on_then (rest_on work (with_command line work) refl refl refl refl) (by line.command may)
  where
    by : (command : Command) → (command ≡ commands.Begin → MayBeginIn k work) → TurnsOn k (with_command line work) (obey line command (with_command line work))
    by commands.Begin new = begin_command_on line (with_command line work) (new refl)
    by commands.Commit new = obey_on line commands.Commit (with_command line work)
    by commands.Abort new = obey_on line commands.Abort (with_command line work)
    by commands.Take new = obey_on line commands.Take (with_command line work)
    by commands.Yield new = obey_on line commands.Yield (with_command line work)
    by (commands.Request member op) new = obey_on line (commands.Request member op) (with_command line work)
