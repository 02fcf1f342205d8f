-- Which clause an entry breaks that is no restart, it breaks whatever Commits the logs held as the run began.
use Rattle.std.proofs.Common.{[], ◌∷◌, ◌≡◌, ◌∙◌, ℕ, ◌+◌, Bool, false, List, refl, sym, ap, map, length, Option, Some, None}
use Rattle.std.specs.Prelude.{not, slice_get, if◌then◌else◌}
use Rattle.std.proofs.lemmas.Bool.{not-true}
use Rattle.qs_base.specs.declared.identifiers.ClientNo.{ClientNo}
use Rattle.qs_base.specs.declared.identifiers.Member.{Member}
use Rattle.qs_base.specs.declared.identifiers.NodeNo.{NodeNo}
use Rattle.qs_base.specs.declared.identifiers.Outcome.{Outcome}
use Rattle.qs_base.specs.declared.identifiers.Tid.{Tid}
use Rattle.qs_base.specs.declared.identifiers.Outcome.TheVariants as outcomes
use Rattle.qs_base_lemmas.proofs.Tests.{and_first, and_last}
use Rattle.qs_ops.specs.declared.answer.Cause.{Cause}
use Rattle.qs_ops.specs.declared.operation.Op.{Op}
use Rattle.qs_ops.specs.declared.reply.Reply.{Reply}
use Rattle.qs_ops.specs.declared.vote.Vote.{Vote}
use Rattle.qs_ops.specs.declared.vote.Vote.TheVariants as votes
use Rattle.qs_ops.specs.declared.vote.Reason.TheVariants as reasons
use Rattle.qs_ops.specs.declared.reply.Reply.TheVariants as replies
use Rattle.qs_ops.specs.declared.answer.Cause.TheVariants as causes
use Rattle.qs_book_journal.specs.declared.entry.Act.{Act}
use Rattle.qs_book_journal.specs.declared.entry.Act.TheVariants as acts
use Rattle.qs_book_journal.specs.declared.entry.Entry.{Entry}
use Rattle.qs_book_machine.specs.Book.{BookValue, find_transaction}
use Rattle.qs_book_machine.specs.Nodes.{NodeValue}
use Rattle.qs_book_machine.specs.Lawful.{broken, broken_at, broken_node, effect, is_in_order}
use Rattle.qs_book_machine.specs.Clauses.{broken_issue, request_here, is_crossed_busy, is_reply, broken_request, broken_serve, is_vote_due, is_files_vote, is_audit_vote, is_names_vote, is_server_vote, has_vote, broken_vote, broken_counted, may_decide, is_room_cause, is_gone_cause, is_cause, broken_outcome, broken_decide, broken_loan, broken_yield, broken_ending, broken_learn}
use Rattle.qs_book_machine.specs.Transaction.{TransactionValue, part_of, is_crossed, is_covering, learnt_abort}
use Rattle.qs_book_machine.specs.declared.transaction.Request.{Request}
use Rattle.qs_world_forgetting.specs.BookCommits.{EachStretchIsSame, no_restart, EachEntryIsSame, book_without, is_restart, without_commits}
use Rattle.qs_world_forgetting.proofs.EntriesDo.{act_goes, get_without, length_without, opt_without}

-- ---- which clause it breaks

serve_reply : (here : ℕ) (node : NodeValue) (transactions : List (Tid × TransactionValue)) (tid : Tid) (op : Op) (reply : Reply) → is_crossed_busy here (without_commits node) transactions tid op reply ≡ is_crossed_busy here node transactions tid op reply
serve_reply here node transactions tid op replies.Done = refl
serve_reply here node transactions tid op (replies.Value text) = refl
serve_reply here node transactions tid op (replies.Left ticks) = refl
serve_reply here node transactions tid op (replies.Names list) = refl
serve_reply here node transactions tid op (replies.Notes list) = refl
serve_reply here node transactions tid op (replies.Busy holder) = refl
serve_reply here node transactions tid op replies.Absent = refl
serve_reply here node transactions tid op replies.TooMany = refl
serve_reply here node transactions tid op replies.TooLong = refl

reply_without : (here : ℕ) (node : NodeValue) (transactions : List (Tid × TransactionValue)) (tid : Tid) (tx : TransactionValue) (member : Member) (op : Op) (reply : Reply) → is_reply here (without_commits node) transactions tid tx member op reply ≡ is_reply here node transactions tid tx member op reply
reply_without here node transactions tid tx member op reply = rw (serve_reply here node transactions tid op reply) refl

request_without : (here : ℕ) (node : NodeValue) (transactions : List (Tid × TransactionValue)) (tid : Tid) (tx : TransactionValue) (member : Member) (o : Option Request) (reply : Reply) → broken_request here (without_commits node) transactions tid tx member o reply ≡ broken_request here node transactions tid tx member o reply
request_without here node transactions tid tx member None reply = refl
request_without here node transactions tid tx member (Some request) reply = ap (λ (b : Bool). if not b then Some 31 else if learnt_abort tx member.node node.inc then Some 32 else None) (reply_without here node transactions tid tx member request.op reply)

serve_without : (here : ℕ) (node : NodeValue) (transactions : List (Tid × TransactionValue)) (tid : Tid) (o : Option TransactionValue) (member : Member) (from number : ℕ) (reply : Reply) → broken_serve here (without_commits node) transactions tid o member from number reply ≡ broken_serve here node transactions tid o member from number reply
serve_without here node transactions tid None member from number reply = refl
serve_without here node transactions tid (Some tx) member from number reply = request_without here node transactions tid tx member (request_here here tx member from number) reply

files_vote : (node : NodeValue) (tid : Tid) (v : Vote) → is_files_vote (without_commits node) tid v ≡ is_files_vote node tid v
files_vote node tid votes.ReadOnly = refl
files_vote node tid votes.Recoverable = refl
files_vote node tid votes.Volatile = refl
files_vote node tid (votes.Abort (reasons.Quota bytes limit)) = refl
files_vote node tid (votes.Abort (reasons.LogRoom need room)) = refl
files_vote node tid (votes.Abort (reasons.Taken name)) = refl
files_vote node tid (votes.Abort (reasons.Code code)) = refl

audit_vote : (node : NodeValue) (tid : Tid) (v : Vote) → is_audit_vote (without_commits node) tid v ≡ is_audit_vote node tid v
audit_vote node tid votes.ReadOnly = refl
audit_vote node tid votes.Recoverable = refl
audit_vote node tid votes.Volatile = refl
audit_vote node tid (votes.Abort (reasons.Quota bytes limit)) = refl
audit_vote node tid (votes.Abort (reasons.LogRoom need room)) = refl
audit_vote node tid (votes.Abort (reasons.Taken name)) = refl
audit_vote node tid (votes.Abort (reasons.Code code)) = refl

names_vote : (node : NodeValue) (tid : Tid) (v : Vote) → is_names_vote (without_commits node) tid v ≡ is_names_vote node tid v
names_vote node tid votes.ReadOnly = refl
names_vote node tid votes.Recoverable = refl
names_vote node tid votes.Volatile = refl
names_vote node tid (votes.Abort (reasons.Quota bytes limit)) = refl
names_vote node tid (votes.Abort (reasons.LogRoom need room)) = refl
names_vote node tid (votes.Abort (reasons.Taken name)) = refl
names_vote node tid (votes.Abort (reasons.Code code)) = refl

server_vote : (node : NodeValue) (server : ℕ) (tid : Tid) (v : Vote) → is_server_vote (without_commits node) server tid v ≡ is_server_vote node server tid v
server_vote node server tid v = rw (files_vote node tid v, audit_vote node tid v, names_vote node tid v) refl

vote_without : (here : ℕ) (node : NodeValue) (tid : Tid) (o : Option TransactionValue) (member : Member) (v : Vote) (covers : ℕ) → broken_vote here (without_commits node) tid o member v covers ≡ broken_vote here node tid o member v covers
vote_without here node tid None member v covers = refl
vote_without here node tid (Some tx) member v covers =
    ap (λ (b : Bool). if not (is_vote_due here tx member (part_of tx member node.inc)) then Some 40 else if not (is_covering tx member node.inc covers) then Some 41 else if not (if is_crossed tx member then has_vote member.server.0 v else b) then Some 42 else None)
    (server_vote node member.server.0 tid v)

issue_without : (here : ℕ) (node : NodeValue) (nodes : ℕ) (tid : Tid) (o : Option TransactionValue) (issuer member : Member) (number : ℕ) (op : Op) → broken_issue here (without_commits node) nodes tid o issuer member number op ≡ broken_issue here node nodes tid o issuer member number op
issue_without here node nodes tid None issuer member number op = refl
issue_without here node nodes tid (Some tx) issuer member number op = refl

counted_without : (here : ℕ) (node : NodeValue) (nodes : ℕ) (o : Option TransactionValue) (peer : NodeNo) (up_to : ℕ) → broken_counted here (without_commits node) nodes o peer up_to ≡ broken_counted here node nodes o peer up_to
counted_without here node nodes None peer up_to = refl
counted_without here node nodes (Some tx) peer up_to = refl

gone_without : (nodes : List NodeValue) (tx : TransactionValue) (peer : NodeNo) (inc : ℕ) → is_gone_cause (slice_get (map without_commits nodes) peer.0) tx peer inc ≡ is_gone_cause (slice_get nodes peer.0) tx peer inc
gone_without nodes tx peer inc = ap (λ (o : Option NodeValue). is_gone_cause o tx peer inc) (get_without nodes peer.0) ∙ by (slice_get nodes peer.0)
  where
    by : (o : Option NodeValue) → is_gone_cause (opt_without o) tx peer inc ≡ is_gone_cause o tx peer inc
    by None = refl
    by (Some x) = refl

cause_without : (node : NodeValue) (nodes : List NodeValue) (tid : Tid) (tx : TransactionValue) (stamp : ℕ) (cause : Cause) → is_cause (without_commits node) (map without_commits nodes) tid tx stamp cause ≡ is_cause node nodes tid tx stamp cause
cause_without node nodes tid tx stamp causes.Asked = refl
cause_without node nodes tid tx stamp (causes.Voted member reason) = refl
cause_without node nodes tid tx stamp (causes.Gone peer inc) = gone_without nodes tx peer inc
cause_without node nodes tid tx stamp (causes.Home inc) = refl
cause_without node nodes tid tx stamp (causes.Room need room) = ap (λ (n : ℕ). is_room_cause node n tid tx need room) (length_without nodes)
cause_without node nodes tid tx stamp (causes.Old age) = refl

outcome_without : (node : NodeValue) (nodes : List NodeValue) (tid : Tid) (tx : TransactionValue) (stamp : ℕ) (outcome : Outcome) (cause : Option Cause) → broken_outcome (without_commits node) (map without_commits nodes) tid tx stamp outcome cause ≡ broken_outcome node nodes tid tx stamp outcome cause
outcome_without node nodes tid tx stamp outcomes.Commit None = refl
outcome_without node nodes tid tx stamp outcomes.Commit (Some cause) = refl
outcome_without node nodes tid tx stamp outcomes.Abort None = refl
outcome_without node nodes tid tx stamp outcomes.Abort (Some cause) = ap (λ (b : Bool). if b then None else Some 72) (cause_without node nodes tid tx stamp cause)

decide_without : (here : ℕ) (node : NodeValue) (nodes : List NodeValue) (tid : Tid) (o : Option TransactionValue) (stamp : ℕ) (outcome : Outcome) (cause : Option Cause) → broken_decide here (without_commits node) (map without_commits nodes) tid o stamp outcome cause ≡ broken_decide here node nodes tid o stamp outcome cause
decide_without here node nodes tid None stamp outcome cause = refl
decide_without here node nodes tid (Some tx) stamp outcome cause = ap (λ (o : Option ℕ). if may_decide here tid tx then o else Some 70) (outcome_without node nodes tid tx stamp outcome cause)

ending_without : (here : ℕ) (node : NodeValue) (o : Option TransactionValue) (member : Member) → broken_ending here (without_commits node) o member ≡ broken_ending here node o member
ending_without here node None member = refl
ending_without here node (Some tx) member = refl

learn_without : (here : ℕ) (node : NodeValue) (o : Option TransactionValue) (member : Member) (outcome : Outcome) → broken_learn here (without_commits node) o member outcome ≡ broken_learn here node o member outcome
learn_without here node None member outcome = refl
learn_without here node (Some tx) member outcome = refl

loan_without : (here : ℕ) (node : NodeValue) (o : Option TransactionValue) (client : ClientNo) (stamp : ℕ) → broken_loan here (without_commits node) o client stamp ≡ broken_loan here node o client stamp
loan_without here node None client stamp = refl
loan_without here node (Some tx) client stamp = refl

yield_without : (here : ℕ) (node : NodeValue) (o : Option TransactionValue) (client : ClientNo) → broken_yield here (without_commits node) o client ≡ broken_yield here node o client
yield_without here node None client = refl
yield_without here node (Some tx) client = refl

pub clause_goes : (stamp here : ℕ) (act : Act) → is_restart act ≡ false → (book : BookValue) (node : NodeValue) → broken_node (book_without book) stamp here (without_commits node) act ≡ broken_node book stamp here node act
clause_goes stamp here (acts.Begin tid label client) e book node = refl
clause_goes stamp here (acts.Issue tid issuer member number op) e book node =
    ap (λ (o : Option ℕ). if node.up then o else Some 2) (ap (λ (n : ℕ). broken_issue here (without_commits node) n tid (find_transaction book tid) issuer member number op) (length_without book.nodes) ∙ issue_without here node (length book.nodes) tid (find_transaction book tid) issuer member number op)
clause_goes stamp here (acts.Serve tid member from number reply) e book node = ap (λ (o : Option ℕ). if node.up then o else Some 2) (serve_without here node book.transactions tid (find_transaction book tid) member from.0 number reply)
clause_goes stamp here (acts.Vote tid member v covers) e book node = ap (λ (o : Option ℕ). if node.up then o else Some 2) (vote_without here node tid (find_transaction book tid) member v covers)
clause_goes stamp here (acts.Decide tid outcome cause) e book node = ap (λ (o : Option ℕ). if node.up then o else Some 2) (decide_without here node book.nodes tid (find_transaction book tid) stamp outcome cause)
clause_goes stamp here (acts.Learn tid member outcome) e book node = ap (λ (o : Option ℕ). if node.up then o else Some 2) (learn_without here node (find_transaction book tid) member outcome)
clause_goes stamp here (acts.Loan tid client) e book node = ap (λ (o : Option ℕ). if node.up then o else Some 2) (loan_without here node (find_transaction book tid) client stamp)
clause_goes stamp here (acts.Yield tid client) e book node = ap (λ (o : Option ℕ). if node.up then o else Some 2) (yield_without here node (find_transaction book tid) client)
clause_goes stamp here acts.Tick e book node = refl
clause_goes stamp here (acts.Restart inc pend done) e book node = absurd (cc e)
clause_goes stamp here (acts.Ask tid) e book node = refl
clause_goes stamp here (acts.Counted tid peer up_to) e book node =
    ap (λ (o : Option ℕ). if node.up then o else Some 2) (ap (λ (n : ℕ). broken_counted here (without_commits node) n (find_transaction book tid) peer up_to) (length_without book.nodes) ∙ counted_without here node (length book.nodes) (find_transaction book tid) peer up_to)
clause_goes stamp here (acts.Ending tid member) e book node = ap (λ (o : Option ℕ). if node.up then o else Some 2) (ending_without here node (find_transaction book tid) member)
clause_goes stamp here (acts.Answer client line said) e book node = refl
clause_goes stamp here (acts.Crash cause) e book node = refl

-- ---- entries

at_without : (stamp here : ℕ) (act : Act) → is_restart act ≡ false → (book : BookValue) (o : Option NodeValue) → broken_at (book_without book) stamp here (opt_without o) act ≡ broken_at book stamp here o act
at_without stamp here act e book None = refl
at_without stamp here act e book (Some node) = clause_goes stamp here act e book node

broken_without : (book : BookValue) (entry : Entry) → is_restart entry.act ≡ false → broken (book_without book) entry ≡ broken book entry
broken_without book entry e = ap (λ (o : Option ℕ). if is_in_order book entry then o else Some 1)
    (ap (λ (o : Option NodeValue). broken_at (book_without book) entry.stamp entry.node.0 o entry.act) (get_without book.nodes entry.node.0)
    ∙ at_without entry.stamp entry.node.0 entry.act e book (slice_get book.nodes entry.node.0))

effect_without : (book : BookValue) (entry : Entry) → is_restart entry.act ≡ false → effect (book_without book) entry ≡ book_without (effect book entry)
effect_without book entry e = ap (λ (b : BookValue). record b { stamp = entry.stamp; node = entry.node.0; place = book.place + 1 }) (act_goes entry.stamp entry.node.0 entry.act e book)

pub each_entry_is_same : EachEntryIsSame
each_entry_is_same book other entry e same = record {
  clause = sym (broken_without book entry e) ∙ ap (λ (b : BookValue). broken b entry) same ∙ broken_without other entry e;
  effects = sym (effect_without book entry e) ∙ ap (λ (b : BookValue). effect b entry) same ∙ effect_without other entry e;
}

-- ---- a stretch of them

pub each_stretch_is_same : EachStretchIsSame
each_stretch_is_same book other [] none same lawful = (tt, same)
each_stretch_is_same book other (entry ∷ entries) none same (now, later) =
    let one = each_entry_is_same book other entry (not-true (is_restart entry.act) (and_first (no_restart entry) _ none)) same in
    let rest = each_stretch_is_same (effect book entry) (effect other entry) entries (and_last (no_restart entry) _ none) one.effects later in
    ((sym one.clause ∙ now, rest.0), rest.1)
