-- Through every lawful history: a link to a node is open where it was and is not counted since, or where an issue since is open.
use Rattle.qs_book_laws.proofs.Words.{◌≡◌, ℕ, ◌≤◌, ◌==◌, ◌&&◌, ◌||◌, Bool, true, false, not, List, [], ◌∷◌, Option, Some, None, refl, sym, ap, subst, ◌∙◌, if◌then◌else◌, arith, nat_tests, slice_get, length, nat_lt, nat_le, list_any, same_tid, Member, NodeNo, Outcome, Tid, same_tid-true, files_no, Op, Act, Begin, Issue, Serve, Ask, Counted, Decide, Ending, Learn, Loan, Yield, Tick, Crash, Restart, Entry, TransactionValue, sent_on, sent_in, is_commit, is_open_link, learnt, lent, given_back}
use Rattle.qs_book_laws.proofs.Words.{BookValue, find_transaction, inc_at, link_to, borrower_at, broken_issue, is_numbered, broken_issuer, is_in_order, broken_act, broken_at, broken, effect, IsLawful, book_after, NodeValue, is_count_of, is_counted, false-or, or_assoc}
use Rattle.qs_base.specs.declared.identifiers.Outcome.TheVariants as outcomes
use Rattle.qs_book_journal.specs.declared.entry.Act.TheVariants.{Answer}
use Rattle.qs_book_journal.specs.declared.entry.Act.TheVariants as acts
use Rattle.qs_book_machine.specs.Transaction.{next_number}
use Rattle.qs_book_machine.specs.Clauses.{is_for, broken_counted, may_count}
use Rattle.qs_book_laws.proofs.Always.{unknown}
use Rattle.qs_book_laws.proofs.Holding.{left_of, right_of, same_number}
use Rattle.qs_book_laws.proofs.LinkCounts.{stays}
use Rattle.qs_book_laws.proofs.LinkLists.{Sents}
use Rattle.qs_book_laws.proofs.LinkSteps.{is_lasting_issue, some_last, Sound, Stay, keeps, uncounted, issue_gives, count_gives}
use Rattle.qs_book_laws.proofs.Outcomes.{Inv}
use Rattle.qs_book_laws.proofs.Steps.{held, stepped}
use Rattle.qs_book_laws.proofs.Takes.{some_same}
use Rattle.qs_book_laws.proofs.Turns.{Stands, Gives, GivesFor, Obliged, step_turns}

-- ---- what the clauses say of an issue and of a count

number_is : (here : ℕ) (v : NodeValue) (nodes : ℕ) (t : Tid) (tx : TransactionValue) (issuer member : Member) (n : ℕ) (op : Op) → broken_issue here v nodes t (Some tx) issuer member n op ≡ None → n ≡ next_number tx (link_to here member) v.inc
number_is here v nodes t tx issuer member n op h =
    same_number n (next_number tx (link_to here member) v.inc)
    (left_of (n == next_number tx (link_to here member) v.inc) (is_for op member && nat_lt member.node.0 nodes)
    (right_of (not (is_commit tx.cell)) _ (held (is_numbered here v nodes tx member n op) 20 (broken_issuer here v t tx issuer op) h).0))

count_is : (here : ℕ) (v : NodeValue) (nodes : ℕ) (tx : TransactionValue) (peer : NodeNo) (upto : ℕ) → broken_counted here v nodes (Some tx) peer upto ≡ None → upto ≤ sent_in v.inc (sent_on tx (record { from = record { 0 = here }; to = peer }))
count_is here v nodes tx peer upto h =
    below upto (sent_in v.inc (sent_on tx (record { from = record { 0 = here }; to = peer })))
    (right_of (not (peer.0 == here) && nat_lt peer.0 nodes) (nat_le upto (sent_in v.inc (sent_on tx (record { from = record { 0 = here }; to = peer }))))
    (allowed (may_count here v nodes tx peer upto) h))
  where
    below : (a b : ℕ) → nat_le a b ≡ true → a ≤ b
    below a b k = grind (arith, nat_tests)

    clause : Bool → Option ℕ
    clause b = if b then None else Some 60

    allowed : (b : Bool) → clause b ≡ None → b ≡ true
    allowed true k = refl
    allowed false k = absurd (cc k)

module _ (tid : Tid) (node : NodeNo) where
  -- ---- a step

  module _ (book : BookValue) (entry : Entry) (since : List Entry) (i : Inv book) (h : broken book entry ≡ None) (g : Bool) where
    abbrev P : TransactionValue → Type 0
    P tx = Stay tid node (inc_at book) (entry ∷ since) g tx.sent

    abbrev Q : Act → TransactionValue → Type 0
    Q act tx = Stay tid node (inc_at (effect book entry)) since (g || is_lasting_issue tid node entry.node act since) tx.sent

    still : (act : Act) → entry.act ≡ act → ((n : ℕ) → is_count_of tid node n act ≡ false) → is_lasting_issue tid node entry.node act since ≡ false → (tx : TransactionValue) → P tx → Q act tx
    still act is none never tx p = keeps tid node book entry since i h g (uncounted tid node book entry since i h g act is none) (is_lasting_issue tid node entry.node act since) never tx p

    plainly : (act : Act) → entry.act ≡ act → ((n : ℕ) → is_count_of tid node n act ≡ false) → is_lasting_issue tid node entry.node act since ≡ false → (t : Tid) (f : TransactionValue → TransactionValue) → ((tx : TransactionValue) → (f tx).sent ≡ tx.sent)
        → Gives tid P (Q act) book t f
    plainly act is none never t f same = record {
      own = λ eq tx found p. subst (λ (es : Sents). Stay tid node (inc_at (effect book entry)) since (g || is_lasting_issue tid node entry.node act since) es) (sym (same tx)) (still act is none never tx p);
      other = λ apart. still act is none never;
    }

    learnt_sent : (m : Member) (k : ℕ) (outcome : Outcome) (tx : TransactionValue) → (learnt m k outcome tx).sent ≡ tx.sent
    learnt_sent m k outcomes.Commit tx = refl
    learnt_sent m k outcomes.Abort tx = refl

    lends : (act : Act) → entry.act ≡ act → ((n : ℕ) → is_count_of tid node n act ≡ false) → is_lasting_issue tid node entry.node act since ≡ false → (t : Tid) (o : Option Member) (f : Member → TransactionValue → TransactionValue)
        → ((m : Member) (tx : TransactionValue) → (f m tx).sent ≡ tx.sent) → GivesFor tid P (Q act) book t f o
    lends act is none never t None f same = still act is none never
    lends act is none never t (Some m) f same = plainly act is none never t (f m) (same m)

    inc_there : (v : NodeValue) → slice_get book.nodes entry.node.0 ≡ Some v → v.inc ≡ inc_at book entry.node
    inc_there v at = sym (ap inc_in at)
      where
        inc_in : Option NodeValue → ℕ
        inc_in o = elim o [ None ↦ 0 | Some w ↦ w.inc ]

    owed : (v : NodeValue) (act : Act) → slice_get book.nodes entry.node.0 ≡ Some v → entry.act ≡ act → broken_act book entry.stamp entry.node.0 v act ≡ None → Obliged tid P (Q act) book entry.stamp entry.node.0 act
    owed v (Begin t label client) at is k = still (Begin t label client) is (λ n. refl) refl
    owed v (Issue t issuer m n op) at is k =
        issue_gives tid node book entry since i h g t issuer m n op is
        (λ tx found. subst (λ (c : ℕ). n ≡ next_number tx (link_to entry.node.0 m) c) (inc_there v at)
        (number_is entry.node.0 v (length book.nodes) t tx issuer m n op (subst (λ (o : Option TransactionValue). broken_issue entry.node.0 v (length book.nodes) t o issuer m n op ≡ None) found k)))
    owed v (Serve t m from n reply) at is k = plainly (Serve t m from n reply) is (λ n. refl) refl t _ (λ tx. refl)
    owed v (acts.Vote t m ballot covers) at is k = plainly (acts.Vote t m ballot covers) is (λ n. refl) refl t _ (λ tx. refl)
    owed v (Ask t) at is k = plainly (Ask t) is (λ n. refl) refl t _ (λ tx. refl)
    owed v (Counted t peer upto) at is k =
        count_gives tid node book entry since i h g t peer upto is
        (λ tx found. subst (λ (c : ℕ). upto ≤ sent_in c (sent_on tx (record { from = entry.node; to = peer }))) (inc_there v at)
        (count_is entry.node.0 v (length book.nodes) tx peer upto (subst (λ (o : Option TransactionValue). broken_counted entry.node.0 v (length book.nodes) o peer upto ≡ None) found k)))
    owed v (Decide t outcome cause) at is k = plainly (Decide t outcome cause) is (λ n. refl) refl t _ (λ tx. refl)
    owed v (Ending t m) at is k = plainly (Ending t m) is (λ n. refl) refl t _ (λ tx. refl)
    owed v (Learn t m outcome) at is k = plainly (Learn t m outcome) is (λ n. refl) refl t _ (learnt_sent m (inc_at book entry.node) outcome)
    owed v (Answer client line said) at is k = ((λ n c tx p. record { sound = p.sound; is = p.is }), still (Answer client line said) is (λ n. refl) refl)
    owed v (Loan t client) at is k = lends (Loan t client) is (λ n. refl) refl t (borrower_at client entry.node.0) (λ m. lent m (inc_at book entry.node)) (λ m tx. refl)
    owed v (Yield t client) at is k = lends (Yield t client) is (λ n. refl) refl t (borrower_at client entry.node.0) (λ m. given_back m (inc_at book entry.node)) (λ m tx. refl)
    owed v Tick at is k = still Tick is (λ n. refl) refl
    owed v (Crash cause) at is k = still (Crash cause) is (λ n. refl) refl
    owed v (Restart inc pend done) at is k = absurd (cc k)

    by_node : (o : Option NodeValue) (act : Act) → slice_get book.nodes entry.node.0 ≡ o → entry.act ≡ act → broken_at book entry.stamp entry.node.0 o act ≡ None → Obliged tid P (Q act) book entry.stamp entry.node.0 act
    by_node None act at is k = absurd (cc k)
    by_node (Some v) (Restart inc pend done) at is k =
        (record { learnt = λ m tx p. p; decided = λ place outcome cause tx p. p; found = λ server covers changes tx p. p }, still (Restart inc pend done) is (λ n. refl) refl)
    by_node (Some v) act at is k = owed v act at is (held v.up 2 (broken_act book entry.stamp entry.node.0 v act) k).1

    step : Stands tid P book → Stands tid (Q entry.act) (effect book entry)
    step s = step_turns tid P (Q entry.act) book entry i h (by_node (slice_get book.nodes entry.node.0) entry.act refl refl (held (is_in_order book entry) 1 _ h).1) s

  -- ---- along a history

  abbrev pub sent_of : Option TransactionValue → Sents
  sent_of None = []
  sent_of (Some tx) = tx.sent

  abbrev pub Known : BookValue → Type 0
  Known book = (tx : TransactionValue) → find_transaction book tid ≡ Some tx → Sound tid node (inc_at book) tx.sent

  record Passed (book : BookValue) (entry : Entry) (since : List Entry) : Type 0 where
    known : Known (effect book entry)
    is :
        list_any (stays tid node (inc_at (effect book entry)) since) (sent_of (find_transaction (effect book entry) tid))
        ≡ (list_any (stays tid node (inc_at book) (entry ∷ since)) (sent_of (find_transaction book tid)) || is_lasting_issue tid node entry.node entry.act since)

  -- nothing is issued of a transaction that is not known
  not_issued : (book : BookValue) (stamp here : ℕ) (o : Option NodeValue) (act : Act) (from : NodeNo) (since : List Entry) → find_transaction book tid ≡ None → broken_at book stamp here o act ≡ None → is_lasting_issue tid node from act since ≡ false
  not_issued book stamp here None act from since none k = absurd (cc k)
  not_issued book stamp here (Some v) (Issue t issuer m n op) from since none k = by (same_tid t tid) refl
    where
      refused : (o : Option TransactionValue) → o ≡ None → broken_issue here v (length book.nodes) t o issuer m n op ≡ None → ⊥
      refused None is q = absurd (cc q)
      refused (Some tx) is q = absurd (cc is)

      by : (b : Bool) → same_tid t tid ≡ b → ((b && (m.node.0 == node.0)) && ((issuer.server.0 == files_no) || not (is_counted tid node from n since))) ≡ false
      by false apart = refl
      by true same = absurd (refused (find_transaction book t) (ap (find_transaction book) (same_tid-true t tid same) ∙ none) (held v.up 2 (broken_act book stamp here v (Issue t issuer m n op)) k).1)
  not_issued book stamp here (Some v) act from since none k = refl

  passed : (book : BookValue) (entry : Entry) (since : List Entry) → Inv book → broken book entry ≡ None → Known book → Passed book entry since
  passed book entry since i h known = by (find_transaction book tid) refl
    where
      x : Bool
      x = is_lasting_issue tid node entry.node entry.act since

      S : Sents → Bool
      S es = list_any (stays tid node (inc_at (effect book entry)) since) es

      from_none : find_transaction book tid ≡ None → Passed book entry since
      from_none none = record {
        known = λ tx there. subst (λ (es : Sents). Sound tid node (inc_at (effect book entry)) es) (sym (bare tx there)) (record { rising = tt; fit = tt });
        is =
            nothing (find_transaction (effect book entry) tid) refl
            ∙ sym (ap (λ (o : Option TransactionValue). list_any (stays tid node (inc_at book) (entry ∷ since)) (sent_of o) || x) none
            ∙ not_issued book entry.stamp entry.node.0 (slice_get book.nodes entry.node.0) entry.act entry.node since none (held (is_in_order book entry) 1 _ h).1);
      }
        where
          bare : (tx : TransactionValue) → find_transaction (effect book entry) tid ≡ Some tx → tx.sent ≡ []
          bare = unknown tid (λ (tx : TransactionValue). tx.sent ≡ []) book entry h (λ label client ticks. refl) none

          nothing : (o : Option TransactionValue) → find_transaction (effect book entry) tid ≡ o → S (sent_of (find_transaction (effect book entry) tid)) ≡ false
          nothing None there = ap (λ (o : Option TransactionValue). S (sent_of o)) there
          nothing (Some tx) there = ap (λ (o : Option TransactionValue). S (sent_of o)) there ∙ ap S (bare tx there)

      from_some : (tx : TransactionValue) → find_transaction book tid ≡ Some tx → Passed book entry since
      from_some tx found =
          let g : Bool = list_any (stays tid node (inc_at book) (entry ∷ since)) tx.sent in
          let s : Stands tid (Q book entry since i h g entry.act) (effect book entry) = step book entry since i h g (record { tx = tx; found = found; holds = record { sound = known tx found; is = refl } }) in
          record {
            known = λ t there. subst (λ (y : TransactionValue). Sound tid node (inc_at (effect book entry)) y.sent) (some_same s.tx t (sym s.found ∙ there)) s.holds.sound;
            is =
                ap (λ (o : Option TransactionValue). S (sent_of o)) s.found
                ∙ (s.holds.is ∙ ap (λ (o : Option TransactionValue). list_any (stays tid node (inc_at book) (entry ∷ since)) (sent_of o) || x) (sym found));
          }

      by : (o : Option TransactionValue) → find_transaction book tid ≡ o → Passed book entry since
      by None none = from_none none
      by (Some tx) found = from_some tx found

  now : (inc : NodeNo → ℕ) (es : Sents) → list_any (is_open_link node) es ≡ list_any (stays tid node inc []) es
  now inc [] = refl
  now inc (e ∷ es) = ap (λ (b : Bool). ((e.0.to.0 == node.0) && (e.1.lost || (e.1.by_files || b))) || list_any (is_open_link node) es) (plain_now (nat_lt e.1.counted e.1.count) (e.1.inc == inc e.0.from)) ∙ ap (λ (b : Bool). stays tid node inc [] e || b) (now inc es)
    where
      plain_now : (a b : Bool) → a ≡ (a && not (b && false))
      plain_now true true = refl
      plain_now true false = refl
      plain_now false b = refl

  pub through : (entries : List Entry) (book : BookValue) → Inv book → IsLawful book entries → Known book
      → list_any (is_open_link node) (sent_of (find_transaction (book_after book entries) tid)) ≡ (list_any (stays tid node (inc_at book) entries) (sent_of (find_transaction book tid)) || some_last tid node entries)
  through [] book i lawful known = now (inc_at book) (sent_of (find_transaction book tid)) ∙ false-or (list_any (stays tid node (inc_at book) []) (sent_of (find_transaction book tid)))
  through (entry ∷ since) book i lawful known =
      let p : Passed book entry since = passed book entry since i lawful.0 known in
      through since (effect book entry) (stepped book entry i lawful.0).inv lawful.1 p.known
      ∙ (ap (λ (b : Bool). b || some_last tid node since) p.is ∙ or_assoc (list_any (stays tid node (inc_at book) (entry ∷ since)) (sent_of (find_transaction book tid))) (is_lasting_issue tid node entry.node entry.act since) (some_last tid node since))
