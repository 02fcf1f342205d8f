-- The laws of outcomes, from the invariant.
use Rattle.qs_book_laws.proofs.Words.{◌≡◌, ℕ, ◌∷◌, ◌++◌, true, false, List, Option, Some, None, refl, sym, ap, subst, ◌∙◌, if◌then◌else◌, slice_get, nat_lt, option_map, ClientNo, Member, Outcome, Tid, Cause, Act, Entry, TransactionValue, is_open, is_outcome, cell_of, part_of, Cell, BookValue, find_transaction, cell_of_transaction, broken_learn, may_learn, is_in_order, broken_act, broken_node, broken_at, broken, IsLawful, book_after, NodeValue, opening, Opened, Owner, IsCoherent, IsDecided}
use Rattle.qs_base.specs.declared.identifiers.Outcome.TheVariants as outcomes
use Rattle.qs_ops.specs.declared.answer.Answer.{Answer}
use Rattle.qs_ops.specs.declared.answer.Answer.TheVariants as answers
use Rattle.qs_book_journal.specs.declared.entry.Act.TheVariants as acts
use Rattle.qs_book_machine.specs.declared.transaction.Cell.TheVariants as cells
use Rattle.qs_book_machine.specs.Clauses.{broken_answer, is_known}
use Rattle.qs_book_laws.specs.Laws.{HasCommitted, HasAborted, IsTrueAnswer}
use Rattle.qs_book_laws.proofs.Faces.{Face, face, face_at, told_of}
use Rattle.qs_book_laws.proofs.Outcomes.{Inv, Moves, Kept, HasCommit, HasAbort}
use Rattle.qs_book_laws.proofs.Openings.{opening_holds}
use Rattle.qs_book_laws.proofs.Steps.{held, passed, past, ran, after_both, lawful_front, lawful_rest}
use Rattle.qs_base_lemmas.proofs.Tests.{and_first}

-- ---- a cell that is decided

-- the transaction that a face is of
pub faced : (o : Option TransactionValue) (seen : Face) → option_map face o ≡ Some seen → (tx : TransactionValue) × (o ≡ Some tx) × (face tx ≡ seen)
faced None seen h = absurd (cc h)
faced (Some tx) seen h = (tx, refl, cc h)

cell_seen : (o : Option TransactionValue) (cell : Cell) → cell_of_transaction o ≡ Some cell → (seen : Face) × (option_map face o ≡ Some seen) × (seen.cell ≡ cell)
cell_seen None cell h = absurd (cc h)
cell_seen (Some tx) cell h = (face tx, refl, cc h)

seen_cell : (o : Option TransactionValue) (seen : Face) → option_map face o ≡ Some seen → cell_of_transaction o ≡ Some seen.cell
seen_cell None seen h = absurd (cc h)
seen_cell (Some tx) seen h = let e : face tx ≡ seen = cc h in ap (λ (f : Face). Some f.cell) e

pub stays : (old new : BookValue) (tid : Tid) (cell : Cell) → Kept old new → IsDecided old tid cell → IsDecided new tid cell
stays old new tid cell kept d =
    let s : (seen : Face) × (face_at old tid ≡ Some seen) × (seen.cell ≡ cell) = cell_seen (find_transaction old tid) cell d.cell_is in
    record {
      decided = d.decided;
      cell_is = seen_cell (find_transaction new tid) s.0 (kept tid s.0 s.1 (ap is_open s.2 ∙ d.decided)) ∙ ap Some s.2;
    }

pub decided_stays : (opened : List Opened) (entries more : List Entry) (tid : Tid) (cell : Cell) → IsCoherent opened → IsLawful (opening opened) entries → IsLawful (book_after (opening opened) entries) more
    → IsDecided (book_after (opening opened) entries) tid cell → IsDecided (book_after (opening opened) (entries ++ more)) tid cell
decided_stays opened entries more tid cell coherent lawful then_lawful d =
    let m : Moves (opening opened) (book_after (opening opened) entries) = ran entries (opening opened) (opening_holds opened coherent) lawful in
    let n : Moves (book_after (opening opened) entries) (book_after (book_after (opening opened) entries) more) = ran more (book_after (opening opened) entries) m.inv then_lawful in
    subst (λ (book : BookValue). IsDecided book tid cell) (sym (after_both entries more (opening opened)))
    (stays (book_after (opening opened) entries) (book_after (book_after (opening opened) entries) more) tid cell n.kept d)

-- ---- an entry of an act

-- the act of a lawful entry, other than a restart, stands at a node that is up
pub at_up : (book : BookValue) (stamp here : ℕ) (o : Option NodeValue) (act : Act) → ((node : NodeValue) → broken_node book stamp here node act ≡ (if node.up then broken_act book stamp here node act else Some 2))
    → broken_at book stamp here o act ≡ None → (node : NodeValue) × (broken_act book stamp here node act ≡ None)
at_up book stamp here None act plain h = absurd (cc h)
at_up book stamp here (Some node) act plain h = (node, (held node.up 2 (broken_act book stamp here node act) (sym (plain node) ∙ h)).1)

pub lawful_act : (book : BookValue) (entry : Entry) (act : Act) → entry.act ≡ act → ((node : NodeValue) → broken_node book entry.stamp entry.node.0 node act ≡ (if node.up then broken_act book entry.stamp entry.node.0 node act else Some 2))
    → broken book entry ≡ None → (node : NodeValue) × (broken_act book entry.stamp entry.node.0 node act ≡ None)
lawful_act book entry act is plain h =
    at_up book entry.stamp entry.node.0 (slice_get book.nodes entry.node.0) act plain
    (subst (λ (a : Act). broken_at book entry.stamp entry.node.0 (slice_get book.nodes entry.node.0) a ≡ None) is (held (is_in_order book entry) 1 _ h).1)

-- ---- what members learn

outcome_cell : (outcome : Outcome) (cell : Cell) → is_outcome outcome cell ≡ true → cell ≡ cell_of outcome
outcome_cell outcomes.Commit cells.Commit h = refl
outcome_cell outcomes.Abort cells.Abort h = refl
outcome_cell outcome cell h = absurd (cc h)

closed_outcome : (outcome : Outcome) → is_open (cell_of outcome) ≡ false
closed_outcome outcomes.Commit = refl
closed_outcome outcomes.Abort = refl

pub learns_cell : (here : ℕ) (node : NodeValue) (o : Option TransactionValue) (member : Member) (outcome : Outcome) → broken_learn here node o member outcome ≡ None → cell_of_transaction o ≡ Some (cell_of outcome)
learns_cell here node None member outcome h = absurd (cc h)
learns_cell here node (Some tx) member outcome h =
    let may : may_learn here tx member (part_of tx member node.inc) outcome ≡ true = passed (may_learn here tx member (part_of tx member node.inc) outcome) 95 _ h in
    ap Some (outcome_cell outcome tx.cell (and_first _ _ (and_first _ _ may)))

learns_decided : (book : BookValue) (entry : Entry) (tid : Tid) (member : Member) (outcome : Outcome) → entry.act ≡ acts.Learn tid member outcome → broken book entry ≡ None → IsDecided book tid (cell_of outcome)
learns_decided book entry tid member outcome is h =
    let at : (node : NodeValue) × (broken_act book entry.stamp entry.node.0 node (acts.Learn tid member outcome) ≡ None) = lawful_act book entry (acts.Learn tid member outcome) is (λ node. refl) h in
    record {
      decided = closed_outcome outcome;
      cell_is = learns_cell entry.node.0 at.0 (find_transaction book tid) member outcome at.1;
    }

pub learns : (opened : List Opened) (before after : List Entry) (entry : Entry) (tid : Tid) (member : Member) (outcome : Outcome) → IsLawful (opening opened) (before ++ (entry ∷ after)) → entry.act ≡ acts.Learn tid member outcome
    → IsDecided (book_after (opening opened) before) tid (cell_of outcome)
learns opened before after entry tid member outcome lawful is =
    learns_decided (book_after (opening opened) before) entry tid member outcome is (lawful_rest before (entry ∷ after) (opening opened) lawful).0

one_cell : (book : BookValue) (tid : Tid) (a b : Outcome) → IsDecided book tid (cell_of a) → IsDecided book tid (cell_of b) → a ≡ b
one_cell book tid a b p q = same a b (cc (p.cell_is, q.cell_is))
  where
    same : (a b : Outcome) → Some (cell_of a) ≡ Some (cell_of b) → a ≡ b
    same outcomes.Commit outcomes.Commit e = refl
    same outcomes.Abort outcomes.Abort e = refl
    same outcomes.Commit outcomes.Abort e = absurd (cc e)
    same outcomes.Abort outcomes.Commit e = absurd (cc e)

pub learn_alike : (opened : List Opened) (before between after : List Entry) (first second : Entry) (tid : Tid) (member other : Member) (outcome last : Outcome) → IsCoherent opened
    → IsLawful (opening opened) (before ++ (first ∷ (between ++ (second ∷ after)))) → first.act ≡ acts.Learn tid member outcome → second.act ≡ acts.Learn tid other last → outcome ≡ last
learn_alike opened before between after first second tid member other outcome last coherent lawful is then_is =
    let book : BookValue = book_after (opening opened) before in
    let m : Moves (opening opened) book = ran before (opening opened) (opening_holds opened coherent) (lawful_front before (first ∷ (between ++ (second ∷ after))) (opening opened) lawful) in
    let here : IsLawful book (first ∷ (between ++ (second ∷ after))) = lawful_rest before (first ∷ (between ++ (second ∷ after))) (opening opened) lawful in
    let n : Moves book (book_after book (first ∷ between)) = ran (first ∷ between) book m.inv (lawful_front (first ∷ between) (second ∷ after) book here) in
    let there : IsLawful (book_after book (first ∷ between)) (second ∷ after) = lawful_rest (first ∷ between) (second ∷ after) book here in
    one_cell (book_after book (first ∷ between)) tid outcome last
    (stays book (book_after book (first ∷ between)) tid (cell_of outcome) n.kept (learns_decided book first tid member outcome is here.0))
    (learns_decided (book_after book (first ∷ between)) second tid other last then_is there.0)

-- ---- what clients are told

commit_of : (book : BookValue) (client : ClientNo) → HasCommit book client.0 → HasCommitted book client
commit_of book client h =
    let at : (tx : TransactionValue) × (find_transaction book h.tid ≡ Some tx) × (face tx ≡ h.seen) = faced (find_transaction book h.tid) h.seen h.found in
    record {
      tid = h.tid;
      transaction = at.0;
      found = at.1;
      owned = ap (λ (f : Face). f.owner) at.2 ∙ h.owned;
      committed = ap (λ (f : Face). f.cell) at.2 ∙ h.committed;
    }

abort_of : (book : BookValue) (client : ClientNo) (cause : Cause) → HasAbort book client.0 cause → HasAborted book client cause
abort_of book client cause h =
    let at : (tx : TransactionValue) × (find_transaction book h.tid ≡ Some tx) × (face tx ≡ h.seen) = faced (find_transaction book h.tid) h.seen h.found in
    record {
      tid = h.tid;
      transaction = at.0;
      found = at.1;
      owned = ap (λ (f : Face). f.owner) at.2 ∙ h.owned;
      aborted = ap (λ (f : Face). f.cell) at.2 ∙ h.aborted;
      why = ap (λ (f : Face). f.cause) at.2 ∙ h.why;
    }

knows : (o : Option Owner) (line : ℕ) (answer : Answer) → broken_answer o line answer ≡ None → (owner : Owner) × (o ≡ Some owner) × (is_known owner answer ≡ true)
knows None line answer h = absurd (cc h)
knows (Some owner) line answer h = (owner, refl, passed (is_known owner answer) 81 None (past (nat_lt owner.line line) 80 _ h))

true_answer : (book : BookValue) (client : ClientNo) (answer : Answer) (owner : Owner) → Inv book → slice_get book.owners client.0 ≡ Some owner → is_known owner answer ≡ true → IsTrueAnswer book client answer
true_answer book client answers.Committed owner i at known = commit_of book client (i.commits client.0 (told_of owner) (ap (option_map told_of) at) known)
true_answer book client (answers.Aborted cause) owner i at known = abort_of book client cause (i.aborts client.0 (told_of owner) cause (ap (option_map told_of) at) known)
true_answer book client answer owner i at known = tt

pub answers_truly : (opened : List Opened) (before after : List Entry) (entry : Entry) (client : ClientNo) (line : ℕ) (answer : Answer) → IsCoherent opened
    → IsLawful (opening opened) (before ++ (entry ∷ after)) → entry.act ≡ acts.Answer client line answer → IsTrueAnswer (book_after (opening opened) before) client answer
answers_truly opened before after entry client line answer coherent lawful is =
    let book : BookValue = book_after (opening opened) before in
    let m : Moves (opening opened) book = ran before (opening opened) (opening_holds opened coherent) (lawful_front before (entry ∷ after) (opening opened) lawful) in
    let at : (node : NodeValue) × (broken_act book entry.stamp entry.node.0 node (acts.Answer client line answer) ≡ None) =
    lawful_act book entry (acts.Answer client line answer) is (λ node. refl) (lawful_rest before (entry ∷ after) (opening opened) lawful).0 in
    let known : (owner : Owner) × (slice_get book.owners client.0 ≡ Some owner) × (is_known owner answer ≡ true) = knows (slice_get book.owners client.0) line answer at.1 in
    true_answer book client answer known.0 m.inv known.1 known.2
