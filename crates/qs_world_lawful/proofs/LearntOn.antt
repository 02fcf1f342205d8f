-- Each act of a node that runs leaves what members learnt: a transaction stays in the machine, and what learnt commit has learnt it.
use Rattle.qs_world_lawful.proofs.Words.{◌≡◌, ℕ, [], ◌∷◌, Bool, true, false, List, Option, Some, None, refl, ap, subst, sym, inl, inr, ◌∙◌, fold, arith, if◌then◌else◌, slice_get, nat_lt, ⊤, lookup, set_value, is_at, list_any, Ordering, Less, Equal, Greater, insert_key, nat_tests, tid_cmp, member_cmp, same_member, same_member-self, ClientNo, Member, Outcome, Tid, Act, Op, TransactionValue, has_learnt, with_learnt, learnt, issued, decided_at, Asking, Request, RequestNo, link_to, borrower_at}
use Rattle.qs_world_lawful.proofs.Words.{effect_act, BookValue, find_transaction, with_transaction, with_owner, with_waiting, with_crossing, crosses, hear, waiting_of, loan_to, give_back_from, inc_at, begin, serve_node, end_node, learn_node, doubts_after, LearntOn, at_exact, Either, changed_either, lookup_put_apart, some_same, or_left, or_right}
use Rattle.qs_base.specs.declared.identifiers.Outcome.TheVariants as outcomes
use Rattle.qs_book_journal.specs.declared.entry.Act.TheVariants as acts
use Rattle.qs_book_machine.specs.Book.{with_node, issue, answer, vote_here}
use Rattle.qs_world_lawful.specs.Logged.{HasLearntMore}

pub learnt_self : (book : BookValue) → LearntOn book book
learnt_self book tid tx found = (tx, found, λ member is. is)

pub learnt_then : (old mid new : BookValue) → LearntOn old mid → LearntOn mid new → LearntOn old new
learnt_then old mid new a b tid tx found =
    let p : HasLearntMore (find_transaction mid tid) tx = a tid tx found in
    let q : HasLearntMore (find_transaction new tid) p.0 = b tid p.0 p.1 in
    (q.0, q.1, λ member is. q.2 member (p.2 member is))

-- a change that keeps what was learnt
pub transaction_learnt : (tid : Tid) (f : TransactionValue → TransactionValue) → ((tx : TransactionValue) (member : Member) → has_learnt tx member ≡ true → has_learnt (f tx) member ≡ true) → (book : BookValue) → LearntOn book (with_transaction tid f book)
transaction_learnt tid f keeps book t tx found = by (find_transaction book tid) refl
  where
    at : (v : TransactionValue) → Either (find_transaction book t) (find_transaction (with_transaction tid f book) t) v (f v) → HasLearntMore (find_transaction (with_transaction tid f book) t) tx
    at v (inl same) = (tx, same ∙ found, λ member is. is)
    at v (inr now) =
        let e : v ≡ tx = some_same (sym now.0 ∙ found) in
        (f v, now.1, λ member is. keeps v member (ap (λ (x : TransactionValue). has_learnt x member) e ∙ is))

    by : (o : Option TransactionValue) → find_transaction book tid ≡ o → HasLearntMore (find_transaction (with_transaction tid f book) t) tx
    by None is = (tx, none_changed is ∙ found, λ member is. is)
      where
        none_changed : find_transaction book tid ≡ None → find_transaction (with_transaction tid f book) t ≡ find_transaction book t
        none_changed e = subst (λ (o : Option TransactionValue). lookup (is_at (tid_cmp t)) (elim o [ None ↦ book.transactions | Some v ↦ set_value (is_at (tid_cmp tid)) book.transactions (f v) ]) ≡ find_transaction book t) (sym e) refl
    by (Some v) is = at v (changed_either (is_at (tid_cmp tid)) (is_at (tid_cmp t)) f book.transactions v is)

either_learnt : (b : Bool) (old x y : BookValue) → LearntOn old x → LearntOn old y → LearntOn old (if b then x else y)
either_learnt true old x y p q = p
either_learnt false old x y p q = q

-- ---- what is put into a list of members is more

equal_members : (m n : Member) → member_cmp m n ≡ Equal → same_member m n ≡ true
equal_members m n is = grind (arith, nat_tests, is)

put_among : (test : Member → Bool) (member : Member) (ms : List Member) → list_any test ms ≡ true → list_any test (insert_key member_cmp ms member) ≡ true
put_among test member [] h = absurd (cc h)
put_among test member (m ∷ ms) h = by (member_cmp member m) refl (put_among test member ms)
  where
    split : (a b : Bool) → test m ≡ a → list_any test ms ≡ b → (list_any test ms ≡ true → list_any test (insert_key member_cmp ms member) ≡ true) → list_any test (m ∷ insert_key member_cmp ms member) ≡ true
    split true b is _ more = rw is refl
    split false true is rest more = rw is (more rest)
    split false false is rest more = absurd (cc (rw (is, rest) at h))

    by : (r : Ordering) → member_cmp member m ≡ r → (list_any test ms ≡ true → list_any test (insert_key member_cmp ms member) ≡ true) → list_any test (insert_key member_cmp (m ∷ ms) member) ≡ true
    by Less is more = rw is (or_right (test member) (list_any test (m ∷ ms)) h)
    by Equal is more = rw is h
    by Greater is more = rw is (split (test m) (list_any test ms) refl refl more)

put_in : (member : Member) (ms : List Member) → list_any (same_member member) (insert_key member_cmp ms member) ≡ true
put_in member [] = or_left (same_member member member) false (same_member-self member)
put_in member (m ∷ ms) = by (member_cmp member m) refl (put_in member ms)
  where
    by : (r : Ordering) → member_cmp member m ≡ r → list_any (same_member member) (insert_key member_cmp ms member) ≡ true → list_any (same_member member) (insert_key member_cmp (m ∷ ms) member) ≡ true
    by Less is more = rw is (or_left (same_member member member) _ (same_member-self member))
    by Equal is more = rw is (or_left (same_member member m) _ (equal_members member m is))
    by Greater is more = rw is (or_right (same_member member m) _ more)

-- a member that learns commit has learnt it
pub has_learnt_now : (member : Member) (inc : ℕ) (tx : TransactionValue) → has_learnt (learnt member inc outcomes.Commit tx) member ≡ true
has_learnt_now member inc tx = put_in member tx.learnt

pub more_learnt : (member : Member) (tx : TransactionValue) (other : Member) → has_learnt tx other ≡ true → has_learnt (with_learnt member tx) other ≡ true
more_learnt member tx other is = put_among (same_member other) member tx.learnt is

learnt_by_act : (member : Member) (inc : ℕ) (outcome : Outcome) (tx : TransactionValue) (other : Member) → has_learnt tx other ≡ true → has_learnt (learnt member inc outcome tx) other ≡ true
learnt_by_act member inc outcomes.Commit tx other is = put_among (same_member other) member tx.learnt is
learnt_by_act member inc outcomes.Abort tx other is = is

-- ---- acts

waiting_learnt : (tid : Tid) (issuer member : Member) (book : BookValue) → LearntOn book (with_waiting tid issuer member book)
waiting_learnt tid issuer member book = either_learnt (nat_lt 31 issuer.server.0) book _ _ (learnt_self book) (learnt_self book)

crossing_learnt : (b : Bool) (tid : Tid) (member : Member) (book : BookValue) → LearntOn book (with_crossing b tid member book)
crossing_learnt true tid member book = learnt_self book
crossing_learnt false tid member book = learnt_self book

by_issue : (here : ℕ) (tid : Tid) (issuer member : Member) (number : ℕ) (op : Op) (book : BookValue) → LearntOn book (issue here tid issuer member number op book)
by_issue here tid issuer member number op book =
    let at : RequestNo = record { link = link_to here member; number = number } in
    let request : Request = record { issuer = issuer; member = member; op = op; inc = inc_at book (record { 0 = here }); served = false } in
    let f : TransactionValue → TransactionValue = issued at request (inc_at book member.node) book.place in
    let one : BookValue = with_transaction tid f book in
    let two : BookValue = with_waiting tid issuer member one in
    learnt_then book two (with_crossing (crosses (find_transaction book tid) at member) tid member two) (learnt_then book one two (transaction_learnt tid f (λ tx m is. is) book) (waiting_learnt tid issuer member one))
    (crossing_learnt (crosses (find_transaction book tid) at member) tid member two)

heard_learnt : (asks : List Asking) (book : BookValue) → LearntOn book (fold hear book asks)
heard_learnt [] book = learnt_self book
heard_learnt (ask ∷ asks) book = learnt_then book (hear book ask) (fold hear (hear book ask) asks) (transaction_learnt ask.tid _ (λ tx m is. is) book) (heard_learnt asks (hear book ask))

by_answer : (client : ClientNo) (line : ℕ) (book : BookValue) → LearntOn book (answer client line book)
by_answer client line book = heard_learnt (waiting_of (slice_get book.owners client.0)) (with_owner client.0 (λ owner. record owner { line = line; waiting = [] }) book)

lent_learnt : (inc : ℕ) (tid : Tid) (o : Option Member) (book : BookValue) → LearntOn book (loan_to inc tid o book)
lent_learnt inc tid None book = learnt_self book
lent_learnt inc tid (Some member) book = transaction_learnt tid _ (λ tx m is. is) book

given_learnt : (inc : ℕ) (tid : Tid) (o : Option Member) (book : BookValue) → LearntOn book (give_back_from inc tid o book)
given_learnt inc tid None book = learnt_self book
given_learnt inc tid (Some member) book = transaction_learnt tid _ (λ tx m is. is) book

-- a begin, where it is new
by_begin : (here : ℕ) (tid : Tid) (label : List ℕ) (client : ClientNo) (book : BookValue) → find_transaction book tid ≡ None → LearntOn book (begin here tid label client book)
by_begin here tid label client book none t tx found = by (is_at (tid_cmp t) tid) refl
  where
    is_equal : (x : Tid) → tid_cmp tid x ≡ Equal → is_at (tid_cmp tid) x ≡ true
    is_equal x same = rw same refl

    clash : {X : Type 0} → Some tx ≡ None → X
    clash e = absurd (cc e)

    by : (b : Bool) → is_at (tid_cmp t) tid ≡ b → HasLearntMore (find_transaction (begin here tid label client book) t) tx
    by true same = clash (sym found ∙ (ap (find_transaction book) (at_exact t tid same) ∙ none))
    by false other = (tx, lookup_put_apart tid_cmp tid _ (λ x same. at_exact tid x (is_equal x same)) (is_at (tid_cmp t)) other book.transactions ∙ found, λ member is. is)

-- it is no begin of what stands, and no restart
abbrev pub IsNewBegin : BookValue → Act → Type 0
IsNewBegin book (acts.Begin tid label client) = find_transaction book tid ≡ None
IsNewBegin book (acts.Restart inc pend done) = ⊥
IsNewBegin book act = ⊤

pub acted_learnt : (stamp here : ℕ) (act : Act) (book : BookValue) → IsNewBegin book act → LearntOn book (effect_act stamp here act book)
acted_learnt stamp here (acts.Begin tid label client) book new = by_begin here tid label client book new
acted_learnt stamp here (acts.Issue tid issuer member number op) book new = by_issue here tid issuer member number op book
acted_learnt stamp here (acts.Serve tid member from number reply) book new =
    transaction_learnt tid _ (λ tx m is. is) (with_node here (serve_node (find_transaction book tid) (record { link = record { from = from; to = member.node }; number = number }) tid member reply) book)
acted_learnt stamp here (acts.Vote tid member ballot covers) book new = transaction_learnt tid _ (λ tx m is. is) (vote_here here tid member ballot covers (find_transaction book tid) book)
acted_learnt stamp here (acts.Ask tid) book new = transaction_learnt tid _ (λ tx m is. is) book
acted_learnt stamp here (acts.Counted tid peer up_to) book new = transaction_learnt tid _ (λ tx m is. is) book
acted_learnt stamp here (acts.Decide tid outcome cause) book new = transaction_learnt tid (decided_at book.place outcome cause) (λ tx m is. is) book
acted_learnt stamp here (acts.Ending tid member) book new = transaction_learnt tid _ (λ tx m is. is) (with_node here (end_node tid) book)
acted_learnt stamp here (acts.Learn tid member outcome) book new =
    transaction_learnt tid (learnt member (inc_at book (record { 0 = here })) outcome) (learnt_by_act member (inc_at book (record { 0 = here })) outcome)
    (with_node here (λ node. doubts_after tid member.server.0 (learn_node outcome tid member.server.0 node)) book)
acted_learnt stamp here (acts.Answer client line said) book new = by_answer client line book
acted_learnt stamp here (acts.Loan tid client) book new = lent_learnt _ tid (borrower_at client here) book
acted_learnt stamp here (acts.Yield tid client) book new = given_learnt _ tid (borrower_at client here) book
acted_learnt stamp here acts.Tick book new = learnt_self book
acted_learnt stamp here (acts.Crash cause) book new = learnt_self book
acted_learnt stamp here (acts.Restart inc pend done) book new = absurd new
