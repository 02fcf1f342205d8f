-- What a vote needs beside what its member has pending is made by no entry but an Ask, a request served of its transaction or a restart.
use Rattle.qs_world_runs.proofs.Words.{◌≡◌, ℕ, ◌+◌, ◌==◌, ◌&&◌, ◌||◌, not, Bool, true, false, List, [], ◌∷◌, ◌++◌, Option, Some, None, refl, sym, ap, subst, ◌∙◌, nat_lt, is_at, list_any, is_some, slice_get, unwrap_or, list_any-append, same_member-true, same_tid-self, same_tid-true, same_member, same_tid, Member, Tid, Act, life_itself, changed_apart, Inv, held, Gives, GivesFor, Obliged, BookValue, find_transaction, inc_at, borrower_at, broken, broken_act, broken_at, effect, TransactionValue}
use Rattle.qs_world_runs.proofs.Words.{cell_of, changed_value, decided_at, ended_part, given_back, is_commit, is_covering, learnt_part, life, life_cmp, no_part, voted_part, yielded_part, Cell, Life, Part, Cause, Vote, entries_of, entry_of, effects_of, Event, IsVoteDue, Here, IsKept, IsOrdinary, Trace, and_parts, or_parts, eqb-true}
use Rattle.qs_base.specs.declared.identifiers.Outcome.{Outcome}
use Rattle.qs_base.specs.declared.identifiers.Outcome.TheVariants as outcomes
use Rattle.qs_book_journal.specs.declared.entry.Act.TheVariants as acts
use Rattle.qs_book_laws.proofs.Counts.{life_exact}
use Rattle.qs_book_laws.proofs.Steps.{decide_may, passed, past, stepped}
use Rattle.qs_book_machine.specs.Clauses.{broken_vote, is_vote_due}
use Rattle.qs_book_machine.specs.Lawful.{IsLawful, is_in_order}
use Rattle.qs_book_machine.specs.Nodes as machine
use Rattle.qs_book_machine.specs.Transaction.{ended, is_open, is_start, learnt, lent, made_part, part_of, starts_after, voted}
use Rattle.qs_book_machine.specs.declared.transaction.Cell.TheVariants as cells
use Rattle.qs_book_machine.specs.declared.transaction.Start.{Start}
use Rattle.qs_ops.specs.declared.vote.Vote.TheVariants as votes
use Rattle.qs_node_step.specs.State.{NodeValue}
use Rattle.qs_world_runs.specs.CutVotes.{StepsVoteDue, is_due_vote}
use Rattle.qs_world_runs.specs.Firsts.{is_asked_or_served, is_vote_of, votes_first}
use Rattle.qs_world_runs.specs.PlacesGo.{is_restart}
use Rattle.qs_world_runs.proofs.PlacedActs.{step_here}
use Rattle.qs_world_runs.proofs.PlacesGo.{inc_stays}
use Rattle.qs_world_runs.proofs.TraceStages.{step_traced}
use Rattle.qs_world_runs.proofs.VotesFirst.{steps_vote_first}
use Rattle.qs_world_runs.proofs.DueParts.{any_put, changed_tally, learnt_tally, part_in, tally, voted_off}

module _ (tid : Tid) (member : Member) (inc covers : ℕ) where
  abbrev due_by : Option ℕ → Cell → ℕ × (ℕ × ℕ) → Bool → Bool
  due_by asked cell t starts = (is_some asked && not (is_commit cell)) && (nat_lt t.1.0 t.0 && ((covers == t.0 + t.1.1) || starts))

  abbrev Unable : TransactionValue → Type 0
  Unable tx = is_due_vote member inc covers tx ≡ true → ⊥

  -- what leaves its tally
  tallied : (tx later : TransactionValue) → later.asked ≡ tx.asked → later.cell ≡ tx.cell → later.starts ≡ tx.starts → tally (part_of later member inc) ≡ tally (part_of tx member inc) → is_due_vote member inc covers later ≡ is_due_vote member inc covers tx
  tallied tx later a c s t =
      ap (λ (x : Option ℕ). due_by x later.cell (tally (part_of later member inc)) (list_any (is_start member inc (part_of later member inc).served covers) later.starts)) a
      ∙ (ap (λ (x : Cell). due_by tx.asked x (tally (part_of later member inc)) (list_any (is_start member inc (part_of later member inc).served covers) later.starts)) c
      ∙ (ap (λ (x : List Start). due_by tx.asked tx.cell (tally (part_of later member inc)) (list_any (is_start member inc (part_of later member inc).served covers) x)) s
      ∙ ap (λ (x : ℕ × (ℕ × ℕ)). due_by tx.asked tx.cell x (list_any (is_start member inc x.0 covers) tx.starts)) t))

  changed_due : (at : Life) (f : Part → Part) (tx later : TransactionValue) → ((part : Part) → tally (f part) ≡ tally part) → later.asked ≡ tx.asked → later.cell ≡ tx.cell → later.starts ≡ tx.starts → later.parts ≡ changed_value (is_at (life_cmp at)) f tx.parts
      → Unable tx → Unable later
  changed_due at f tx later same a c s ps p is =
      p (sym (tallied tx later a c s (ap (λ (es : List (Life × Part)). tally (part_in es (life member inc))) ps ∙ changed_tally (is_at (life_cmp at)) (is_at (life_cmp (life member inc))) f same tx.parts)) ∙ is)

  -- a vote of the member leaves nothing to vote on, and one of another what there was
  module _ (other : Member) (now : ℕ) (ballot : Vote) (tx : TransactionValue) where
    abbrev later : TransactionValue
    later = voted other now ballot tx

    voted_due : Unable tx → Unable later
    voted_due p is = by (is_at (life_cmp (life other now)) (life member inc)) refl
      where
        starts_same : (b : Vote) (n served : ℕ) → is_at (life_cmp (life other now)) (life member inc) ≡ false → list_any (is_start member inc served covers) (starts_after b (life other now) n tx.starts) ≡ list_any (is_start member inc served covers) tx.starts
        starts_same (votes.Abort reason) n served far = refl
        starts_same votes.Volatile n served far = refl
        starts_same votes.Recoverable n served far = refl
        starts_same votes.ReadOnly n served far = any_put (is_start member inc served covers) (record { life = life other now; served = n }) tx.starts (of (same_member other member) refl)
          where
            of_inc : (c : Bool) → (now == inc) ≡ c → same_member other member ≡ true → ((now == inc) && (n + covers == served)) ≡ false
            of_inc false apart same = rw apart refl
            of_inc true near same = absurd (let one : other ≡ member = same_member-true other member same in let two : now ≡ inc = eqb-true now inc near in
                let e : life other now ≡ life member inc = ap (λ (m : Member). life m now) one ∙ ap (λ (i : ℕ). life member i) two in
                let there : is_at (life_cmp (life other now)) (life member inc) ≡ true = subst (λ (l : Life). is_at (life_cmp l) (life member inc) ≡ true) (sym e) (rw (life_itself (life member inc)) refl) in cc (far, there))

            of : (b : Bool) → same_member other member ≡ b → (same_member other member && ((now == inc) && (n + covers == served))) ≡ false
            of false apart = rw apart refl
            of true same = rw same (of_inc (now == inc) refl same)

        off : nat_lt (part_of later member inc).voted (part_of later member inc).served ≡ false → ⊥
        off none = let less : nat_lt (part_of later member inc).voted (part_of later member inc).served ≡ true = (and_parts (nat_lt (part_of later member inc).voted (part_of later member inc).served) (is_covering later member inc covers) (and_parts (is_some later.asked && not (is_commit later.cell)) (nat_lt (part_of later member inc).voted (part_of later member inc).served && is_covering later member inc covers) is).1).0 in cc (none, less)

        by : (b : Bool) → is_at (life_cmp (life other now)) (life member inc) ≡ b → ⊥
        by true near = off (subst (λ (l : Life). nat_lt (part_in (changed_value (is_at (life_cmp l)) (voted_part ballot) tx.parts) (life member inc)).voted (part_in (changed_value (is_at (life_cmp l)) (voted_part ballot) tx.parts) (life member inc)).served ≡ false)
            (sym (life_exact (life other now) (life member inc) near)) (voted_off ballot tx.parts (life member inc)))
        by false far = p (sym (ap (λ (part : Part). due_by tx.asked tx.cell (tally part) (list_any (is_start member inc part.served covers) later.starts)) parts
            ∙ ap (λ (b : Bool). due_by tx.asked tx.cell (tally (part_of tx member inc)) b) (starts_same ballot (part_of tx other now).served (part_of tx member inc).served far)) ∙ is)
          where
            apart : (k : Life) → is_at (life_cmp (life member inc)) k ≡ true → is_at (life_cmp (life other now)) k ≡ false
            apart k at = subst (λ (l : Life). is_at (life_cmp (life other now)) l ≡ false) (life_exact (life member inc) k at) far

            parts : part_of later member inc ≡ part_of tx member inc
            parts = ap (λ (o : Option Part). unwrap_or o no_part) (changed_apart (is_at (life_cmp (life other now))) (is_at (life_cmp (life member inc))) apart (voted_part ballot) tx.parts)

  -- ---- an entry

  gives : (book : BookValue) (t : Tid) (f : TransactionValue → TransactionValue) → ((tx : TransactionValue) → Unable tx → Unable (f tx)) → Gives tid Unable Unable book t f
  gives book t f keeps = record { own = λ same tx found p. keeps tx p; other = λ apart tx p. p }

  aside : (book : BookValue) (t : Tid) (f : TransactionValue → TransactionValue) → same_tid t tid ≡ false → Gives tid Unable Unable book t f
  aside book t f apart = record { own = λ same tx found p. absurd (cc (same, apart)); other = λ apart tx p. p }

  gives_for : (book : BookValue) (t : Tid) (f : Member → TransactionValue → TransactionValue) (o : Option Member) → ((other : Member) (tx : TransactionValue) → Unable tx → Unable (f other tx)) → GivesFor tid Unable Unable book t f o
  gives_for book t f None keeps = λ tx p. p
  gives_for book t f (Some other) keeps = gives book t (f other) (keeps other)

  module _ (n stamp : ℕ) where
    -- what is decided was open
    decide_open : (book : BookValue) (t : Tid) (outcome : Outcome) (cause : Option Cause) → broken book (entry_of n stamp (acts.Decide t outcome cause)) ≡ None → (tx : TransactionValue) × (find_transaction book t ≡ Some tx) × (is_open tx.cell ≡ true)
    decide_open book t outcome cause h = at (slice_get book.nodes n) (held (is_in_order book (entry_of n stamp (acts.Decide t outcome cause))) 1 _ h).1
      where
        at : (o : Option machine.NodeValue) → broken_at book stamp n o (acts.Decide t outcome cause) ≡ None → (tx : TransactionValue) × (find_transaction book t ≡ Some tx) × (is_open tx.cell ≡ true)
        at None is = absurd (cc is)
        at (Some node) is = decide_may n node book.nodes t (find_transaction book t) stamp outcome cause (held node.up 2 (broken_act book stamp n node (acts.Decide t outcome cause)) is).1

    not_commit : (c : Cell) → is_open c ≡ true → is_commit c ≡ false
    not_commit cells.Open is = refl
    not_commit cells.Commit is = absurd (cc is)
    not_commit cells.Abort is = absurd (cc is)

    decide_due : (book : BookValue) (t : Tid) (outcome : Outcome) (cause : Option Cause) → broken book (entry_of n stamp (acts.Decide t outcome cause)) ≡ None → Gives tid Unable Unable book t (decided_at book.place outcome cause)
    decide_due book t outcome cause h = record { own = λ same tx found p is. own same tx found p is; other = λ apart tx p. p }
      where
        one : (tx other : TransactionValue) → Some other ≡ Some tx → is_open other.cell ≡ true → is_open tx.cell ≡ true
        one tx other e is = subst (λ (x : TransactionValue). is_open x.cell ≡ true) same is
          where
            same : other ≡ tx
            same = cc e

        own : same_tid t tid ≡ true → (tx : TransactionValue) → find_transaction book tid ≡ Some tx → Unable tx → Unable (decided_at book.place outcome cause tx)
        own same tx found p is = let d = decide_open book t outcome cause h in
            let there : find_transaction book tid ≡ Some d.0 = subst (λ (x : Tid). find_transaction book x ≡ Some d.0) (same_tid-true t tid same) d.1 in
            let undecided : is_commit tx.cell ≡ false = not_commit tx.cell (one tx d.0 (sym there ∙ found) d.2) in
            let two = and_parts (is_some tx.asked && not (is_commit (cell_of outcome))) (nat_lt (part_of tx member inc).voted (part_of tx member inc).served && is_covering tx member inc covers) is in
            p (of (is_some tx.asked) (is_commit (cell_of outcome)) (is_commit tx.cell) (nat_lt (part_of tx member inc).voted (part_of tx member inc).served && is_covering tx member inc covers) undecided two.0 two.1)
          where
            of : (a b c d : Bool) → c ≡ false → (a && not b) ≡ true → d ≡ true → ((a && not c) && d) ≡ true
            of true b c d un is rest = rw (un, rest) refl
            of false b c d un is rest = absurd (cc is)

    stays_unable : (book : BookValue) (act : Act) → broken book (entry_of n stamp act) ≡ None → is_asked_or_served tid act ≡ false → is_restart act ≡ false → Obliged tid Unable Unable book stamp n act
    stays_unable book (acts.Begin t label client) h off still = λ tx p. p
    stays_unable book (acts.Issue t issuer other number op) h off still = gives book t _ (λ tx p is. p is)
    stays_unable book (acts.Serve t other from number reply) h off still = aside book t _ off
    stays_unable book (acts.Vote t other ballot covers) h off still = gives book t _ (λ tx p. voted_due other _ ballot tx p)
    stays_unable book (acts.Ask t) h off still = aside book t _ off
    stays_unable book (acts.Counted t peer up_to) h off still = gives book t _ (λ tx p is. p is)
    stays_unable book (acts.Decide t outcome cause) h off still = decide_due book t outcome cause h
    stays_unable book (acts.Ending t other) h off still = gives book t _ (λ tx p. changed_due (life other _) ended_part tx (ended other (inc_at book (record { 0 = n })) tx) (λ part. refl) refl refl refl refl p)
    stays_unable book (acts.Learn t other outcomes.Commit) h off still = gives book t _ (λ tx p. changed_due (life other _) (learnt_part outcomes.Commit) tx (learnt other _ outcomes.Commit tx) (learnt_tally outcomes.Commit) refl refl refl refl p)
    stays_unable book (acts.Learn t other outcomes.Abort) h off still = gives book t _ (λ tx p. changed_due (life other _) (learnt_part outcomes.Abort) tx (learnt other _ outcomes.Abort tx) (learnt_tally outcomes.Abort) refl refl refl refl p)
    stays_unable book (acts.Answer client line said) h off still = ((λ node now tx p is. p is), λ tx p. p)
    stays_unable book (acts.Loan t client) h off still = gives_for book t _ (borrower_at client n) (λ other tx p. changed_due (life other _) made_part tx (lent other _ tx) (λ part. refl) refl refl refl refl p)
    stays_unable book (acts.Yield t client) h off still = gives_for book t _ (borrower_at client n) (λ other tx p. changed_due (life other _) yielded_part tx (given_back other _ tx) (λ part. refl) refl refl refl refl p)
    stays_unable book acts.Tick h off still = λ tx p. p
    stays_unable book (acts.Crash cause) h off still = λ tx p. p
    stays_unable book (acts.Restart now pend done) h off still = absurd (cc still)

    -- ---- the vote itself

    due_at : (book : BookValue) (ballot : Vote) → broken book (entry_of n stamp (acts.Vote tid member ballot covers)) ≡ None → inc_at book (record { 0 = n }) ≡ inc → Here tid Unable book → ⊥
    due_at book ballot h now un = at (slice_get book.nodes n) refl (held (is_in_order book (entry_of n stamp (acts.Vote tid member ballot covers))) 1 _ h).1
      where
        of : (a b c d e : Bool) → (a && ((b && c) && d)) ≡ true → e ≡ true → ((b && c) && (d && e)) ≡ true
        of true true true true e is last = last
        of true true true false e is last = absurd (cc is)
        of true true false d e is last = absurd (cc is)
        of true false c d e is last = absurd (cc is)
        of false b c d e is last = absurd (cc is)

        of_known : (node : machine.NodeValue) → node.inc ≡ inc → (x : Option TransactionValue) → find_transaction book tid ≡ x → broken_vote n node tid x member ballot covers ≡ None → ⊥
        of_known node same None none is = absurd (cc is)
        of_known node same (Some tx) found is = un tx found (subst (λ (i : ℕ). is_due_vote member i covers tx ≡ true) same
            (of _ (is_some tx.asked) (not (is_commit tx.cell)) (nat_lt (part_of tx member node.inc).voted (part_of tx member node.inc).served) (is_covering tx member node.inc covers)
            (passed (is_vote_due n tx member (part_of tx member node.inc)) 40 _ is) (passed (is_covering tx member node.inc covers) 41 _ (past (is_vote_due n tx member (part_of tx member node.inc)) 40 _ is))))

        at : (o : Option machine.NodeValue) → slice_get book.nodes n ≡ o → broken_at book stamp n o (acts.Vote tid member ballot covers) ≡ None → ⊥
        at None there is = absurd (cc is)
        at (Some node) there is = of_known node (sym (ap (λ (o : Option machine.NodeValue). elim o [ None ↦ 0 | Some state ↦ state.inc ]) there) ∙ now) (find_transaction book tid) refl
            (held node.up 2 (broken_act book stamp n node (acts.Vote tid member ballot covers)) is).1

    never_due : (ballot : Vote) (before after : List Act) (book : BookValue) → Inv book → IsLawful book (entries_of n stamp (before ++ acts.Vote tid member ballot covers ∷ after)) → list_any (is_asked_or_served tid) before ≡ false → list_any is_restart before ≡ false
        → inc_at book (record { 0 = n }) ≡ inc → Here tid Unable book → ⊥
    never_due ballot [] after book i lawful off still now un = due_at book ballot lawful.0 now un
    never_due ballot (act ∷ before) after book i lawful off still now un = let p = or_parts (is_asked_or_served tid act) _ off in let q = or_parts (is_restart act) _ still in
        never_due ballot before after (effect book (entry_of n stamp act)) (stepped book (entry_of n stamp act) i lawful.0).inv lawful.1 p.1 q.1
        (inc_stays n stamp (act ∷ []) book (rw q.0 refl) (lawful.0, tt) ∙ now)
        (step_here tid Unable Unable book (entry_of n stamp act) i lawful.0 (stays_unable book act lawful.0 p.0 q.0) (λ label client ticks is. λ due. cc due) un)

-- ---- a whole step

-- no step enters a restart
no_restart : (act : Act) → IsOrdinary act → is_restart act ≡ false
no_restart (acts.Begin tid label client) is = refl
no_restart (acts.Issue tid issuer member number op) is = refl
no_restart (acts.Serve tid member from number reply) is = refl
no_restart (acts.Vote tid member ballot covers) is = refl
no_restart (acts.Ask tid) is = refl
no_restart (acts.Counted tid peer up_to) is = refl
no_restart (acts.Decide tid outcome cause) is = refl
no_restart (acts.Ending tid member) is = refl
no_restart (acts.Learn tid member outcome) is = refl
no_restart (acts.Answer client line said) is = refl
no_restart (acts.Loan tid client) is = refl
no_restart (acts.Yield tid client) is = refl
no_restart acts.Tick is = refl
no_restart (acts.Crash cause) is = refl
no_restart (acts.Restart inc pend done) is = absurd is

abbrev Restless : Trace → Type 0
Restless t = list_any is_restart t.entries ≡ false

one_more : (es : List Act) (act : Act) → is_restart act ≡ false → list_any is_restart es ≡ false → list_any is_restart (es ++ act ∷ []) ≡ false
one_more es act off so = list_any-append is_restart es (act ∷ []) ∙ rw (so, off) refl

restless_kept : IsKept Restless
restless_kept = record {
  enters = λ t act is so. one_more t.entries act (no_restart act is) so;
  sends = λ t to message asks so. so;
  closes = λ t client command said there so. one_more t.entries _ refl so;
  begins = λ t line tid there is so. one_more (t.entries ++ acts.Begin tid line.label line.client ∷ []) _ refl (one_more t.entries _ refl so);
  refuses = λ t line so. so;
  marks = λ t client issued so. so;
  issues = λ t tid issuer member number op so. one_more t.entries _ refl so;
  asks = λ t tid label issuer member number op away so. one_more t.entries _ refl so;
  queues = λ t server delivery own so. so;
  serves = λ t server delivery reply next so. one_more t.entries _ refl so;
  leaves = λ t server so. so;
  forgets = λ t tid so. so;
  stales = λ t peer so. so;
}

pub restless : (node : NodeValue) (event : Event) (free : ℕ) → list_any is_restart (effects_of node event free).entries ≡ false
restless node event free = step_traced Restless Restless restless_kept restless_kept node event free (record { lets = λ t so. so; comes = λ t line is so. so; learns = λ t peer tid label member number issuer op is so. so; takes = λ t peer tid label member number issuer op is so. so }) refl

front_off : (p : Act → Bool) (before after : List Act) → list_any p (before ++ after) ≡ false → list_any p before ≡ false
front_off p before after off = (or_parts (list_any p before) (list_any p after) (sym (list_any-append p before after) ∙ off)).0

-- before a vote nothing came that comes only behind votes
unserved_before : (tid : Tid) (came : Bool) (before : List Act) (vote : Act) (after : List Act) → is_vote_of tid vote ≡ true → votes_first tid came (before ++ vote ∷ after) ≡ true → (came || list_any (is_asked_or_served tid) before) ≡ false
unserved_before tid came [] vote after is first = by came (and_parts (not (is_vote_of tid vote && came)) _ first).0
  where
    by : (c : Bool) → not (is_vote_of tid vote && c) ≡ true → (c || false) ≡ false
    by false so = refl
    by true so = absurd (let off : not (is_vote_of tid vote && true) ≡ false = rw is refl in cc (off, so))
unserved_before tid came (act ∷ before) vote after is first =
    or_next came (is_asked_or_served tid act) (list_any (is_asked_or_served tid) before) (unserved_before tid (came || is_asked_or_served tid act) before vote after is (and_parts (not (is_vote_of tid act && came)) _ first).1)
  where
    or_next : (a b c : Bool) → ((a || b) || c) ≡ false → (a || (b || c)) ≡ false
    or_next true b c so = so
    or_next false b c so = so

pub steps_vote_due : StepsVoteDue
steps_vote_due tid n stamp node event free book i lawful member ballot covers e = by (find_transaction book tid) refl
  where
    never : Here tid (Unable tid member (inc_at book (record { 0 = n })) covers) book → ⊥
    never = never_due tid member (inc_at book (record { 0 = n })) covers n stamp ballot e.before e.after book i
        (subst (λ (done : List Act). IsLawful book (entries_of n stamp done)) e.is lawful)
        (unserved_before tid false e.before (acts.Vote tid member ballot covers) e.after (same_tid-self tid) (subst (λ (done : List Act). votes_first tid false done ≡ true) e.is (steps_vote_first tid node event free)))
        (front_off is_restart e.before (acts.Vote tid member ballot covers ∷ e.after) (subst (λ (done : List Act). list_any is_restart done ≡ false) e.is (restless node event free)))
        refl

    due : (tx : TransactionValue) → find_transaction book tid ≡ Some tx → (b : Bool) → is_due_vote member (inc_at book (record { 0 = n })) covers tx ≡ b → is_due_vote member (inc_at book (record { 0 = n })) covers tx ≡ true
    due tx found true is = is
    due tx found false is = absurd (never (λ x there un. let same : tx ≡ x = one x there in let off : is_due_vote member (inc_at book (record { 0 = n })) covers x ≡ false = subst (λ (t : TransactionValue). is_due_vote member (inc_at book (record { 0 = n })) covers t ≡ false) same is in cc (off, un)))
      where
        one : (x : TransactionValue) → find_transaction book tid ≡ Some x → tx ≡ x
        one x there = same (sym found ∙ there)
          where
            same : Some tx ≡ Some x → tx ≡ x
            same e = cc e

    by : (o : Option TransactionValue) → find_transaction book tid ≡ o → IsVoteDue book tid member (inc_at book (record { 0 = n })) covers
    by None none = absurd (never (λ x there. absurd (cc (none, there))))
    by (Some tx) found = record { tx = tx; found = found; due = due tx found _ refl }
