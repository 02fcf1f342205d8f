-- A command that comes, and one that stayed open: what is done for it keeps to the rules of clients.
use Rattle.std.proofs.Common.{◌≡◌, ◌∙◌, ℕ, Bool, true, false, Option, Some, None, inl, inr, refl, sym, ap, subst}
use Rattle.std.specs.Prelude.{◌⊎◌, slice_get, if◌then◌else◌}
use Rattle.std.specs.BTreeMap.{is_at}
use Rattle.std.specs.Map.{lookup}
use Rattle.qs_base.specs.declared.identifiers.ClientNo.{ClientNo}
use Rattle.qs_base.specs.declared.identifiers.Member.{Member}
use Rattle.qs_base.specs.declared.identifiers.Outcome.TheVariants as outcomes
use Rattle.qs_base.specs.declared.identifiers.Tid.{Tid}
use Rattle.qs_base_lemmas.proofs.Tests.{some_same}
use Rattle.qs_engage.specs.Nodes.{same_node}
use Rattle.qs_ops.specs.declared.answer.Answer.TheVariants as answers
use Rattle.qs_ops.specs.declared.answer.Cause.TheVariants as causes
use Rattle.qs_ops.specs.declared.operation.Op.{Op}
use Rattle.qs_book_journal.specs.declared.entry.Act.TheVariants as acts
use Rattle.qs_book_journal.specs.declared.script_line.Command.{Command}
use Rattle.qs_book_journal.specs.declared.script_line.Command.TheVariants as commands
use Rattle.qs_book_journal.specs.declared.script_line.ScriptLine.{ScriptLine}
use Rattle.qs_book_conformance.specs.Commands.{is_take}
use Rattle.qs_book_conformance.specs.Course.{ClientValue, CourseValue}
use Rattle.qs_node_kept.specs.Loans.{first_untaken, give_back, last_taken, take_first}
use Rattle.qs_node_kept.specs.declared.kept.KeptLabel.{KeptLabel}
use Rattle.qs_node_kept.specs.declared.kept.Lent.{Lent}
use Rattle.qs_node_servers.specs.Servers.{client_server}
use Rattle.qs_node_step.specs.Answering.{kept_outcome}
use Rattle.qs_node_step.specs.Asking.{become_asked, where_undecided}
use Rattle.qs_node_step.specs.Borrowing.{borrower_command, is_aborted, is_void, lent_command, loan_command, take, with_loan}
use Rattle.qs_node_step.specs.Bringing.{answer, enter, send}
use Rattle.qs_node_step.specs.Commands.{ask, begin_command, begin_or_refuse, decided_answer, enter_ask, open_command, owner_command, request_as, request_command}
use Rattle.qs_node_step.specs.Deciding.{decide}
use Rattle.qs_node_step.specs.Requests.{ask_on, enter_issue, is_asked, issue_away, issue_here, label_of, next_number, with_local}
use Rattle.qs_node_step.specs.Serving.{label_at, put_label}
use Rattle.qs_node_step.specs.State.{Work, client_cmp, here, part_of, with_doings, with_kept, with_manager}
use Rattle.qs_node_step.specs.Step.{borrower_waits, is_owner, labelled, obey, owner_waits, wait_command, wait_on, waits_at}
use Rattle.qs_node_step.specs.declared.state.Issued.{Issued}
use Rattle.qs_node_step.specs.declared.state.OpenCommand.{OpenCommand}
use Rattle.qs_packet.specs.declared.message.Message.{Message}
use Rattle.qs_packet.specs.declared.message.Message.TheVariants as messages
use Rattle.qs_tm.specs.Manager as tm
use Rattle.qs_tm.specs.declared.manager.BeginFault.{BeginFault}
use Rattle.qs_tm.specs.declared.manager.BeginFault.TheVariants as faults
use Rattle.qs_tm.specs.Participant.{is_undecided}
use Rattle.qs_tm.specs.declared.participant.Outstanding.{Outstanding}
use Rattle.qs_tm.specs.declared.participant.Participant.{Participant}
use Rattle.qs_world_course.specs.Clients.{IsOver}
use Rattle.qs_world_course.specs.Reasons.{IsUnseen}
use Rattle.qs_world_walk.specs.Deed as d
use Rattle.qs_world_walk.specs.Deed.{Why, answer_by, closed, did, fresh_command, issued_by}
use Rattle.qs_world_walk.specs.May.{HasLoan, InHand, IsMet, IsOpen, MayUse}
use Rattle.qs_world_walk.proofs.First.{sent_is}
use Rattle.qs_world_walk.proofs.Rules.{closed_is, waiting_is}
use Rattle.qs_world_said.specs.Amid.{DoneFor, IsFor, IsSaidSo, JustCame, clients_of, course_amid, unhanded}
use Rattle.qs_world_said.specs.Deeds.{IsIssuedAs, IsOfLast, IsOwners, Knows}
use Rattle.qs_world_said.specs.Knows.{IsNewLabel, KnowsRoom}
use Rattle.qs_world_said.proofs.Answers.{ended_keeps, not_its_keeps, over_keeps, unbegun_keeps, void_keeps}
use Rattle.qs_world_said.proofs.Begins.{begins_keep, refuses_keep}
use Rattle.qs_world_said.proofs.Comes.{rests_keep}
use Rattle.qs_world_said.proofs.InHand.{not_over_lent, not_over_owned, not_over_unlent}
use Rattle.qs_world_said.proofs.LoanDeeds.{takes_keep, yields_keep}
use Rattle.qs_world_said.proofs.Issues.{issues_away_keep, issues_here_keep}
use Rattle.qs_world_said.proofs.Makes.{aborts_keep, asks_keep}
use Rattle.qs_world_said.proofs.Quiet as quiet
use Rattle.qs_world_said.proofs.Unseen.{unseen_keeps}

-- ---- tests and look-ups: what each branch gives

pub if_gives : (P : Work → Type 0) (b : Bool) (x y : Work) → (b ≡ true → P x) → (b ≡ false → P y) → P (if b then x else y)
if_gives P true x y p q = p refl
if_gives P false x y p q = q refl

pub elim_gives : {A : Type 0} (P : Work → Type 0) (o : Option A) (n : Work) (f : A → Work) → (o ≡ None → P n) → ((x : A) → o ≡ Some x → P (f x)) → P (elim o [ None ↦ n | Some x ↦ f x ])
elim_gives P None n f p q = p refl
elim_gives P (Some x) n f p q = q x refl

open_gives : (P : Work → Type 0) (tid : Tid) (rule : Participant → Work → Work) (work : Work) → P work → ((part : Participant) → IsOpen tid part work → P (rule part work)) → P (where_undecided tid rule work)
open_gives P tid rule work h each = elim_gives P (part_of tid work) work (λ part. if is_undecided part then rule part work else work) (λ none. h)
    (λ part known. if_gives P (is_undecided part) (rule part work) work (λ is. each part (record { known = known; undecided = is })) (λ is. h))

module _ (stamp : ℕ) (before : CourseValue) where
  abbrev pub P : Work → Type 0
  P work = IsSaidSo stamp before None work

  pub unseen : (work new : Work) → IsUnseen work new → P work → P new
  unseen work new u h = unseen_keeps stamp before work new u None h

  -- ---- a command in hand

  -- nothing is done for it, and it is no line that came again and is over
  abbrev IsLeft : ClientNo → OpenCommand → Work → Type 0
  IsLeft client command work = (command.line.command ≡ commands.Take) ⊎ (IsOver client (unhanded (clients_of work)) command.line.label → ⊥)

  module _ (client : ClientNo) (command : OpenCommand) (work : Work) (there : InHand client command work) (knows : Knows stamp before work) (came : Option ClientNo) (mine : IsFor client came) (h : IsSaidSo stamp before came work)
      (rests : IsLeft client command work → P work) where
    answered : (why : Why) → DoneFor stamp before client work (did (d.Answers client command why) work) → P (answer client (answer_by command why) work)
    answered why row = closed_is P client command work there (λ c. closed client c (answer_by command why) work) work (row came mine h)

    owned_left : (tid : Tid) → IsMet client command true (Some tid) work → kept_outcome tid work.node ≡ None → P work
    owned_left tid met none = rests (inr (λ over. not_over_owned work client command true tid met over refl none))

    lent_left : (tid : Tid) → IsMet client command false (Some tid) work → (loan : Lent) → HasLoan client tid loan work → P work
    lent_left tid met loan has = rests (inr (λ over. not_over_lent work client command false tid met over refl loan has))

    used_left : (tid : Tid) → MayUse client command tid work → P work
    used_left tid (inl (met, none)) = owned_left tid met none
    used_left tid (inr (met, (loan, has))) = lent_left tid met loan has

    -- what is not issued yet may be
    module _ (fresh : command.issued ≡ None) where
      requests : (tid : Tid) (member : Member) (op : Op) → command.line.command ≡ commands.Request member op → MayUse client command tid work → P (request_command client tid member op work)
      requests tid member op is uses = elim_gives P (next_number tid member.node work) work (λ number. request_as client tid member op number work) (λ none. used_left tid uses)
          (λ number next. if_gives P (same_node member.node (here (noted number))) (issue_here tid (request number) op (noted number)) (issue_away tid (request number) op (noted number)) (λ own. goes_here number) (λ far. goes_away number))
        where
          request : ℕ → Outstanding
          request number = record { issuer = client_server client; member = member; number = number; count = 0 }

          noted : ℕ → Work
          noted number = issued_by (d.Client client command) tid (request number) work

          made : ℕ → Work
          made number = with_manager (tm.sent tid member.node) (enter_issue tid (request number) op (noted number))

          message : ℕ → Message
          message number = messages.Request tid (label_of tid (noted number).node) member number (client_server client) op

          issues : (number : ℕ) → IsIssuedAs client command tid (request number) op work
          issues number = record { there = there; fresh = fresh; asks = is; issuer = refl; uses = uses }

          goes_here : (number : ℕ) → P (issue_here tid (request number) op (noted number))
          goes_here number = waiting_is P member.server (record { tid = tid; from = here (noted number); number = number; op = op; stale = false }) (with_local tid number (enter_issue tid (request number) op (noted number)))
              (issues_here_keep stamp before work client command tid (request number) op knows (issues number) came mine h)

          asks_on : (b : Bool) (w : Work) → P w → P (ask_on b tid member.node w)
          asks_on false w g = g
          asks_on true w g = quiet.sends P unseen member.node (messages.AskVote tid) w g

          goes_away : (number : ℕ) → P (issue_away tid (request number) op (noted number))
          goes_away number = asks_on (is_asked tid (noted number)) (send member.node (message number) (made number))
              (sent_is P member.node (message number) (made number) (issues_away_keep stamp before work client command tid (request number) op knows (issues number) came mine h))

      pub borrows : (tid : Tid) → IsMet client command false (Some tid) work → P (borrower_command client tid command.line.command work)
      borrows tid met = by command.line.command refl
        where
          taken : (loan : Lent) → first_untaken client tid work.node.kept.now.loans ≡ Some loan → command.line.command ≡ commands.Take → P (take client tid loan work)
          taken loan untaken is = closed_is P client command (with_kept (λ kept. record kept { loans = take_first client tid kept.loans }) work) there
              (λ c. closed client c (if is_void tid loan work.node then answers.Ended else answers.Done) (with_kept (λ kept. record kept { loans = take_first client tid kept.loans }) work))
              (with_kept (λ kept. record kept { loans = take_first client tid kept.loans }) work) (takes_keep stamp before work client command tid loan knows there is met untaken came mine h)

          given : Work
          given = with_doings tid (λ doings. record doings { yielded = true }) (enter (acts.Yield tid client) (with_kept (λ kept. record kept { loans = give_back client tid kept.loans }) work))

          lent : (c : Command) → command.line.command ≡ c → (loan : Lent) → HasLoan client tid loan work → P (lent_command client tid c work)
          lent commands.Begin is loan has = lent_left tid met loan has
          lent commands.Commit is loan has = lent_left tid met loan has
          lent commands.Abort is loan has = lent_left tid met loan has
          lent commands.Take is loan has = lent_left tid met loan has
          lent commands.Yield is loan has = closed_is P client command given there (λ c. closed client c answers.Done given) given (yields_keep stamp before work client command tid loan knows there is met has came mine h)
          lent (commands.Request member op) is loan has = requests tid member op is (inr (met, (loan, has)))

          loans : (c : Command) → command.line.command ≡ c → is_take c ≡ false → P (loan_command client tid c work)
          loans c is other = elim_gives P (last_taken client tid work.node.kept.now.loans) work (λ loan. with_loan client tid c loan work)
              (λ none. rests (inr (λ over. not_over_unlent work client command false tid met over refl none)))
              (λ loan last. if_gives P loan.yielded (answer client answers.NotYours work) (if is_void tid loan work.node then answer client answers.Ended work else lent_command client tid c work)
              (λ yielded. answered (d.NotIts loan) (not_its_keeps stamp before work client command tid loan knows (of_last loan last) yielded))
              (λ free. if_gives P (is_void tid loan work.node) (answer client answers.Ended work) (lent_command client tid c work)
              (λ void. answered (d.Void loan) (void_keeps stamp before work client command tid loan knows (of_last loan last) free void))
              (λ good. lent c is loan (record { last = last; kept = free; good = good }))))
            where
              of_last : (loan : Lent) → last_taken client tid work.node.kept.now.loans ≡ Some loan → IsOfLast client command tid loan work
              of_last loan last = record { there = there; met = met; last = last; untaken = subst (λ (x : Command). is_take x ≡ false) (sym is) other }

          by : (c : Command) → command.line.command ≡ c → P (borrower_command client tid c work)
          by commands.Take is = elim_gives P (first_untaken client tid work.node.kept.now.loans) work (λ loan. take client tid loan work) (λ none. rests (inl is)) (λ loan untaken. taken loan untaken is)
          by commands.Begin is = loans commands.Begin is refl
          by commands.Commit is = loans commands.Commit is refl
          by commands.Abort is = loans commands.Abort is refl
          by commands.Yield is = loans commands.Yield is refl
          by (commands.Request member op) is = loans (commands.Request member op) is refl

  -- ---- one that stayed open

  pub waits : (client : ClientNo) (work : Work) → Knows stamp before work → P work → P (wait_on work client)
  waits client work knows h = elim_gives P (lookup (is_at (client_cmp client)) work.node.commands) work (λ command. wait_command client command work) (λ none. h)
      (λ command there. elim_gives P (label_at command.line.label work.node) work (λ begun. waits_at client command begun work) (λ none. h)
      (λ begun is. if_gives P (is_owner client begun.owner) (owner_waits client begun.tid command.line.command work) (borrower_waits client command.issued begun.tid command.line.command work)
      (λ own. owners command there begun.tid (record { begun = begun; met = is; own_is = own; of_is = refl }))
      (λ own. borrowers command there command.issued refl begun.tid (record { begun = begun; met = is; own_is = own; of_is = refl }))))
    where
      none_came : IsFor client None
      none_came other is = absurd (cc is)

      told : (command : OpenCommand) → InHand client command work → (why : Why) → DoneFor stamp before client work (did (d.Answers client command why) work) → P (answer client (answer_by command why) work)
      told command there why row = answered client command work there knows None none_came h (λ left. h) why row

      owners : (command : OpenCommand) → InHand client command work → (o : Option Tid) → IsMet client command true o work → P (owner_waits client o command.line.command work)
      owners command there None met = h
      owners command there (Some tid) met = elim_gives P (kept_outcome tid work.node) work (λ decided. answer client (decided_answer decided command.line.command) work) (λ none. h)
          (λ decided is. told command there (d.Over decided) (over_keeps stamp before work client command tid decided knows there met is))

      borrowers : (command : OpenCommand) → InHand client command work → (i : Option Issued) → command.issued ≡ i → (o : Option Tid) → IsMet client command false o work → P (borrower_waits client i o command.line.command work)
      borrowers command there (Some issued) is o met = if_gives P (is_aborted issued.tid work.node) (answer client answers.Ended work) work
          (λ over. told command there (d.Ended issued) (ended_keeps stamp before work client command o issued knows there met is over)) (λ on. h)
      borrowers command there None is None met = h
      borrowers command there None is (Some tid) met = borrows client command work there knows None none_came h (λ left. h) is tid met

  -- ---- one that comes

  module _ (line : ScriptLine) (work : Work) (there : InHand line.client (fresh_command line) work) (knows : Knows stamp before work)
      (just : (state : ClientValue) → slice_get (course_amid stamp before work).clients line.client.0 ≡ Some state → JustCame (clients_of work) line.client state)
      (new : line.command ≡ commands.Begin → IsNewLabel (course_amid stamp before work) work.node line.label) (room : KnowsRoom (course_amid stamp before work) work.node)
      (h : IsSaidSo stamp before (Some line.client) work) where
    abbrev client : ClientNo
    client = line.client

    abbrev command : OpenCommand
    command = fresh_command line

    mine : IsFor client (Some client)
    mine other is = some_same (sym is)

    rests : IsLeft client command work → P work
    rests left = rests_keep stamp before work line there left h

    told : (why : Why) → DoneFor stamp before client work (did (d.Answers client command why) work) → P (answer client (answer_by command why) work)
    told why row = answered client command work there knows (Some client) mine h rests why row

    unmet : label_at line.label work.node ≡ None → P work
    unmet none = rests (inr (λ over. absurd (cc (sym over.labelled ∙ none))))

    owners_line : (o : Option Tid) → IsMet client command true o work → P (owner_command client o line.command work)
    owners_line None met = told d.Unbegun (unbegun_keeps stamp before work client command knows there met)
    owners_line (Some tid) met = elim_gives P (kept_outcome tid work.node) (open_command client tid line.command work) (λ decided. answer client (decided_answer decided line.command) work)
        (λ none. opens line.command refl none) (λ decided is. told (d.Over decided) (over_keeps stamp before work client command tid decided knows there met is))
      where
        left : kept_outcome tid work.node ≡ None → P work
        left none = owned_left client command work there knows (Some client) mine h rests tid met none

        owners : kept_outcome tid work.node ≡ None → IsOwners (course_amid stamp before work) line tid work
        owners none = record { there = there; met = met; undecided = none; came = just }

        opens : (c : Command) → line.command ≡ c → kept_outcome tid work.node ≡ None → P (open_command client tid c work)
        opens commands.Begin is none = left none
        opens commands.Take is none = left none
        opens commands.Yield is none = left none
        opens commands.Commit is none = open_gives P tid (ask tid) work (left none) (λ part running. if_gives P part.asked work (become_asked tid part (enter_ask tid work)) (λ asked. left none)
            (λ asked. quiet.asked_then P unseen tid part (enter_ask tid work) (asks_keep stamp before work line tid knows (owners none) is (Some client) mine h)))
        opens commands.Abort is none = open_gives P tid (λ part. decide tid outcomes.Abort (Some causes.Asked)) work (left none)
            (λ part running. quiet.decides P unseen tid outcomes.Abort (Some causes.Asked) work (aborts_keep stamp before work line tid knows (owners none) is (Some client) mine h))
        opens (commands.Request member op) is none = requests client command work there knows (Some client) mine h rests refl tid member op is (inl (met, none))

    begins_line : line.command ≡ commands.Begin → P (begin_command line work)
    begins_line is = by (tm.begin_fault work.room work.node.manager) refl
      where
        begun : Work
        begun = enter (acts.Begin (tm.next_tid work.node.manager) line.label client)
            (put_label (record { label = line.label; tid = Some (tm.next_tid work.node.manager); owner = Some client }) (with_manager (tm.begin client) work))

        refused : Work
        refused = put_label (record { label = line.label; tid = None; owner = Some client }) work

        by : (fault : Option BeginFault) → tm.begin_fault work.room work.node.manager ≡ fault → P (begin_or_refuse line fault work)
        by None none = closed_is P client command begun there (λ c. closed client c answers.Done begun) begun (begins_keep stamp before work line knows there is (new is) (Some client) mine h)
        by (Some (faults.LogFull need free)) full = closed_is P client command refused there (λ c. closed client c (answers.LogFull need free) refused) refused
            (refuses_keep stamp before work line need free knows there is full (new is) room (Some client) mine h)
        by (Some (faults.Last value)) last = unmet (new is).unmet
        by (Some faults.NoMemory) last = unmet (new is).unmet

    pub obeys : P (obey line line.command work)
    obeys = by line.command refl
      where
        met_by : Command → Work
        met_by c = elim (label_at line.label work.node) [ None ↦ work | Some begun ↦ labelled client begun c work ]

        untold : (begun : KeptLabel) → label_at line.label work.node ≡ Some begun → begun.tid ≡ None → P work
        untold begun met none = rests (inr (λ over. absurd (cc (sym over.of ∙ (ap (λ (b : KeptLabel). b.tid) (some_same (sym over.labelled ∙ met)) ∙ none)))))

        labels : P (met_by line.command)
        labels = elim_gives P (label_at line.label work.node) work (λ begun. labelled client begun line.command work) unmet
            (λ begun met. if_gives P (is_owner client begun.owner) (owner_command client begun.tid line.command work) (elim begun.tid [ None ↦ work | Some tid ↦ borrower_command client tid line.command work ])
            (λ own. owners_line begun.tid (record { begun = begun; met = met; own_is = own; of_is = refl }))
            (λ own. elim_gives P begun.tid work (λ tid. borrower_command client tid line.command work) (untold begun met)
            (λ tid of. borrows client command work there knows (Some client) mine h rests refl tid (record { begun = begun; met = met; own_is = own; of_is = of }))))

        by : (c : Command) → line.command ≡ c → P (obey line c work)
        by commands.Begin is = begins_line is
        by commands.Commit is = subst (λ (c : Command). P (met_by c)) is labels
        by commands.Abort is = subst (λ (c : Command). P (met_by c)) is labels
        by commands.Take is = subst (λ (c : Command). P (met_by c)) is labels
        by commands.Yield is = subst (λ (c : Command). P (met_by c)) is labels
        by (commands.Request member op) is = subst (λ (c : Command). P (met_by c)) is labels
