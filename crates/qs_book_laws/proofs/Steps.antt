-- Every lawful step keeps the invariant of outcomes, and so does every lawful history.
use Rattle.qs_book_laws.proofs.Words.{◌≡◌, ℕ, [], ◌∷◌, ◌++◌, ◌+◌, Bool, true, false, not, List, Option, Some, None, refl, if◌then◌else◌, slice_get, nat_lt, Outcome, Tid, Cause, Act, Begin, Issue, Serve, Ask, Counted, Decide, Ending, Learn, Loan, Yield, Tick, Crash, Restart, Entry, TransactionValue, is_open, BookValue, find_transaction, broken_decide, may_decide, broken_outcome, is_in_order, broken_act, broken_node, broken_at, broken, effect_act, effect, IsLawful, book_after, NodeValue}
use Rattle.qs_book_laws.proofs.Words.{broken_restart, and_last, ltb-true}
use Rattle.qs_book_journal.specs.declared.entry.Act.TheVariants.{Answer}
use Rattle.qs_book_journal.specs.declared.entry.Act.TheVariants as acts
use Rattle.qs_book_machine.specs.Clauses.{broken_begin, is_next_tid, is_fresh}
use Rattle.qs_book_laws.proofs.Acts as of
use Rattle.qs_book_laws.proofs.Outcomes.{Inv, Moves, moves_then, untold, by_alike, by_begin, by_decide}
use Rattle.qs_book_laws.proofs.Restarts.{by_restart}

-- the first test of a clause passed
pub passed : (b : Bool) (n : ℕ) (rest : Option ℕ) → (if not b then Some n else rest) ≡ None → b ≡ true
passed true n rest h = refl
passed false n rest h = absurd (cc h)

-- and so did the rest
pub past : (b : Bool) (n : ℕ) (rest : Option ℕ) → (if not b then Some n else rest) ≡ None → rest ≡ None
past true n rest h = h
past false n rest h = absurd (cc h)

pub held : (b : Bool) (n : ℕ) (rest : Option ℕ) → (if b then rest else Some n) ≡ None → (b ≡ true) × (rest ≡ None)
held true n rest h = (refl, h)
held false n rest h = absurd (cc h)

pub unheld : (b : Bool) (n : ℕ) (rest : Option ℕ) → (if b then Some n else rest) ≡ None → rest ≡ None
unheld true n rest h = absurd (cc h)
unheld false n rest h = h

pub begin_may : (here : ℕ) (node : NodeValue) (labels : List (List ℕ × Tid)) (tid : Tid) (label : List ℕ) → broken_begin here node labels tid label ≡ None → is_next_tid here node tid ≡ true
begin_may here node labels tid label h = passed (is_next_tid here node tid) 10 (if not (is_fresh labels label) then Some 11 else None) h

pub decide_may : (here : ℕ) (node : NodeValue) (nodes : List NodeValue) (tid : Tid) (o : Option TransactionValue) (stamp : ℕ) (outcome : Outcome) (cause : Option Cause)
    → broken_decide here node nodes tid o stamp outcome cause ≡ None → (tx : TransactionValue) × (o ≡ Some tx) × (is_open tx.cell ≡ true)
decide_may here node nodes tid None stamp outcome cause h = absurd (cc h)
decide_may here node nodes tid (Some tx) stamp outcome cause h =
    (tx, refl, and_last _ _ (held (may_decide here tid tx) 70 (broken_outcome node nodes tid tx stamp outcome cause) h).0)

-- an act of a node that is up
acted : (book : BookValue) (stamp here : ℕ) (node : NodeValue) (act : Act) → Inv book → slice_get book.nodes here ≡ Some node
    → broken_act book stamp here node act ≡ None → Moves book (effect_act stamp here act book)
acted book stamp here node (Begin tid label client) i at h = by_begin book here node tid label client i at (begin_may here node book.labels tid label h)
acted book stamp here node (Issue tid issuer member number op) i at h = by_alike book _ i (of.by_issue here tid issuer member number op book)
acted book stamp here node (Serve tid member from number reply) i at h = by_alike book _ i (of.by_serve here tid member from number stamp reply book)
acted book stamp here node (acts.Vote tid member ballot covers) i at h = by_alike book _ i (of.by_vote here tid member ballot covers book)
acted book stamp here node (Ask tid) i at h = by_alike book _ i (of.by_ask tid book)
acted book stamp here node (Counted tid peer up_to) i at h = by_alike book _ i (of.by_count here tid peer up_to book)
acted book stamp here node (Decide tid outcome cause) i at h =
    let may : (tx : TransactionValue) × (find_transaction book tid ≡ Some tx) × (is_open tx.cell ≡ true) = decide_may here node book.nodes tid (find_transaction book tid) stamp outcome cause h in
    by_decide book tid may.0 outcome cause i may.1 may.2
acted book stamp here node (Ending tid member) i at h = by_alike book _ i (of.by_end here tid member book)
acted book stamp here node (Learn tid member outcome) i at h = by_alike book _ i (of.by_learn here tid member outcome book)
acted book stamp here node (Answer client line said) i at h = by_alike book _ i (of.by_answer client line book)
acted book stamp here node (Loan tid client) i at h = by_alike book _ i (of.by_loan here tid client book)
acted book stamp here node (Yield tid client) i at h = by_alike book _ i (of.by_yield here tid client book)
acted book stamp here node Tick i at h = by_alike book _ i (of.by_tick here stamp book)
acted book stamp here node (Crash cause) i at h = by_alike book _ i (of.by_crash here book)
acted book stamp here node (Restart inc pend done) i at h = absurd (cc h)

node_acted : (book : BookValue) (stamp here : ℕ) (node : NodeValue) (act : Act) → Inv book → slice_get book.nodes here ≡ Some node
    → broken_node book stamp here node act ≡ None → Moves book (effect_act stamp here act book)
node_acted book stamp here node (Restart inc pend done) i at h =
    by_restart here inc pend done book node i at (ltb-true node.inc inc (passed (nat_lt node.inc inc) 110 _ (unheld node.up 2 (broken_restart here book node inc pend done) h)))
node_acted book stamp here node act i at h = acted book stamp here node act i at (held node.up 2 (broken_act book stamp here node act) h).1

pub at_acted : (book : BookValue) (stamp here : ℕ) (o : Option NodeValue) (act : Act) → Inv book → slice_get book.nodes here ≡ o
    → broken_at book stamp here o act ≡ None → Moves book (effect_act stamp here act book)
at_acted book stamp here None act i at h = absurd (cc h)
at_acted book stamp here (Some node) act i at h = node_acted book stamp here node act i at h

pub stepped : (book : BookValue) (entry : Entry) → Inv book → broken book entry ≡ None → Moves book (effect book entry)
stepped book entry i h =
    let m : Moves book (effect_act entry.stamp entry.node.0 entry.act book) =
    at_acted book entry.stamp entry.node.0 (slice_get book.nodes entry.node.0) entry.act i refl (held (is_in_order book entry) 1 _ h).1 in
    stamped book (effect_act entry.stamp entry.node.0 entry.act book) entry.stamp entry.node.0 (book.place + 1) m
  where
    stamped : (old new : BookValue) (stamp node place : ℕ) → Moves old new → Moves old (record new { stamp = stamp; node = node; place = place })
    stamped old new stamp node place m =
        let last : BookValue = record new { stamp = stamp; node = node; place = place } in
        moves_then old new last m (untold new last m.inv (λ tid seen is closed. is) (λ client. refl) m.inv.begun)

-- after a lawful history the invariant holds, and what was decided before it is so still
pub ran : (entries : List Entry) (book : BookValue) → Inv book → IsLawful book entries → Moves book (book_after book entries)
ran [] book i h = record { inv = i; kept = λ tid seen is closed. is }
ran (entry ∷ entries) book i h =
    let m : Moves book (effect book entry) = stepped book entry i h.0 in
    moves_then book (effect book entry) (book_after (effect book entry) entries) m (ran entries (effect book entry) m.inv h.1)

-- a history in two parts
pub after_both : (entries more : List Entry) (book : BookValue) → book_after book (entries ++ more) ≡ book_after (book_after book entries) more
after_both [] more book = refl
after_both (entry ∷ entries) more book = after_both entries more (effect book entry)

pub lawful_front : (entries more : List Entry) (book : BookValue) → IsLawful book (entries ++ more) → IsLawful book entries
lawful_front [] more book h = tt
lawful_front (entry ∷ entries) more book h = (h.0, lawful_front entries more (effect book entry) h.1)

pub lawful_rest : (entries more : List Entry) (book : BookValue) → IsLawful book (entries ++ more) → IsLawful (book_after book entries) more
lawful_rest [] more book h = h
lawful_rest (entry ∷ entries) more book h = lawful_rest entries more (effect book entry) h.1
