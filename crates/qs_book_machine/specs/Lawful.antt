-- The lawful step of the reference machine, and lawful histories.
use Rattle.std.specs.Prelude.{◌≡◌, ℕ, ◌+◌, ◌==◌, ◌^◌, Bool, not, ◌&&◌, ◌||◌, List, [], ◌∷◌, length, Option, Some, None, nat_lt, slice_get, if◌then◌else◌, ⊤}
use Rattle.qs_book_journal.specs.declared.entry.Act.{Act}
use Rattle.qs_book_journal.specs.declared.entry.Act.TheVariants.{Begin, Issue, Serve, Ask, Counted, Decide, Ending, Learn, Answer, Loan, Yield, Tick, Crash, Restart}
use Rattle.qs_book_journal.specs.declared.entry.Act.TheVariants as acts
use Rattle.qs_book_journal.specs.declared.entry.Entry.{Entry}
use Rattle.qs_book_machine.specs.Transaction.{asked_at}
use Rattle.qs_book_machine.specs.Book.{BookValue, find_transaction, with_node, with_transaction, begin, issue, serve, vote, decide, learn, answer, count, end, loan, give_back, tick_node, crash_node}
use Rattle.qs_book_machine.specs.Clauses.{broken_begin, broken_issue, broken_serve, broken_ask, broken_vote, broken_counted, broken_decide, broken_answer, broken_loan, broken_yield, broken_ending, broken_learn, broken_crash}
use Rattle.qs_book_machine.specs.Restart.{broken_restart, restart}
use Rattle.qs_book_machine.specs.Nodes.{NodeValue}

-- ---- the lawful step

-- 1 stamp order: (stamp, node) is not below that of the entry before, and the stamp is below 2^62
abbrev pub is_in_order : BookValue → Entry → Bool
is_in_order book entry =
    nat_lt entry.stamp (2 ^ 62)
    && (nat_lt book.stamp entry.stamp || ((book.stamp == entry.stamp) && not (nat_lt entry.node.0 book.node)))

-- the first clause that the act of a node that is up breaks: how a transaction ends, ..
abbrev pub broken_end : BookValue → ℕ → ℕ → NodeValue → Act → Option ℕ
broken_end book stamp here node (Ask tid) = broken_ask here tid (find_transaction book tid)
broken_end book stamp here node (Counted tid peer up_to) =
    broken_counted here node (length book.nodes) (find_transaction book tid) peer up_to
broken_end book stamp here node (Decide tid outcome cause) =
    broken_decide here node book.nodes tid (find_transaction book tid) stamp outcome cause
broken_end book stamp here node (Ending tid member) = broken_ending here node (find_transaction book tid) member
broken_end book stamp here node (Learn tid member outcome) = broken_learn here node (find_transaction book tid) member outcome
broken_end book stamp here node (Answer client line answer) = broken_answer (slice_get book.owners client.0) line answer
broken_end book stamp here node (Loan tid client) = broken_loan here node (find_transaction book tid) client stamp
broken_end book stamp here node (Yield tid client) = broken_yield here node (find_transaction book tid) client
broken_end book stamp here node (Crash cause) = broken_crash cause
broken_end book stamp here node (Restart inc pend done) = Some 2
broken_end book stamp here node act = None

-- .. and how it begins and works
abbrev pub broken_act : BookValue → ℕ → ℕ → NodeValue → Act → Option ℕ
broken_act book stamp here node (Begin tid label client) = broken_begin here node book.labels tid label
broken_act book stamp here node (Issue tid issuer member number op) =
    broken_issue here node (length book.nodes) tid (find_transaction book tid) issuer member number op
broken_act book stamp here node (Serve tid member from number reply) =
    broken_serve here node book.transactions tid (find_transaction book tid) member from.0 number reply
broken_act book stamp here node (acts.Vote tid member vote covers) =
    broken_vote here node tid (find_transaction book tid) member vote covers
broken_act book stamp here node act = broken_end book stamp here node act

-- 2 node is up: a restart stands where the node is down, every other act where it is up
abbrev pub broken_node : BookValue → ℕ → ℕ → NodeValue → Act → Option ℕ
broken_node book stamp here node (Restart inc pend done) =
    if node.up then Some 2 else broken_restart here book node inc pend done
broken_node book stamp here node act = if node.up then broken_act book stamp here node act else Some 2

abbrev pub broken_at : BookValue → ℕ → ℕ → Option NodeValue → Act → Option ℕ
broken_at book stamp here None act = Some 2
broken_at book stamp here (Some node) act = broken_node book stamp here node act

-- the first clause that the entry breaks
abbrev pub broken : BookValue → Entry → Option ℕ
broken book entry =
    if is_in_order book entry
    then broken_at book entry.stamp entry.node.0 (slice_get book.nodes entry.node.0) entry.act
    else Some 1

-- ---- what a lawful step does

-- the acts that only tell what happened
abbrev pub effect_told : ℕ → Act → BookValue → BookValue
effect_told here (Ask tid) book = with_transaction tid (asked_at book.place) book
effect_told here (Counted tid peer up_to) book = count here tid peer up_to book
effect_told here (Ending tid member) book = end here tid member book
effect_told here (Answer client line said) book = answer client line book
effect_told here (Crash cause) book = with_node here (crash_node book.place) book
effect_told here act book = book

abbrev pub effect_act : ℕ → ℕ → Act → BookValue → BookValue
effect_act stamp here (Begin tid label client) book = begin here tid label client book
effect_act stamp here (Issue tid issuer member number op) book = issue here tid issuer member number op book
effect_act stamp here (Serve tid member from number reply) book = serve here tid member from number stamp reply book
effect_act stamp here (acts.Vote tid member ballot covers) book = vote here tid member ballot covers book
effect_act stamp here (Decide tid outcome cause) book = decide tid outcome cause book
effect_act stamp here (Learn tid member outcome) book = learn here tid member outcome book
effect_act stamp here (Loan tid client) book = loan here tid client book
effect_act stamp here (Yield tid client) book = give_back here tid client book
effect_act stamp here Tick book = with_node here (tick_node stamp) book
effect_act stamp here (Restart inc pend done) book = restart here inc pend done book
effect_act stamp here act book = effect_told here act book

abbrev pub effect : BookValue → Entry → BookValue
effect book entry = record (effect_act entry.stamp entry.node.0 entry.act book) {
  stamp = entry.stamp;
  node = entry.node.0;
  place = book.place + 1;
}

-- ---- histories

-- each entry is a lawful step from the book of the entries before it
abbrev pub IsLawful : BookValue → List Entry → Type 0
IsLawful book [] = ⊤
IsLawful book (entry ∷ entries) = (broken book entry ≡ None) × IsLawful (effect book entry) entries

-- the book after a history
abbrev pub book_after : BookValue → List Entry → BookValue
book_after book [] = book
book_after book (entry ∷ entries) = book_after (effect book entry) entries

-- the place of the first entry that is no lawful step, and its first broken clause
abbrev pub first_broken : BookValue → List Entry → Option (ℕ × ℕ)
first_broken book [] = None
first_broken book (entry ∷ entries) = elim (broken book entry) [
  | Some clause ↦ Some (0, clause)
  | None ↦ further (first_broken (effect book entry) entries)
]
  where
    further : Option (ℕ × ℕ) → Option (ℕ × ℕ)
    further None = None
    further (Some at) = Some (at.0 + 1, at.1)
