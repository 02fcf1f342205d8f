-- Through every lawful step: what waits, what is open and what was reached towards a node, of a transaction.
use Rattle.qs_book_laws.proofs.Words.{◌≡◌, ℕ, ◌+◌, ◌-◌, ◌==◌, ◌&&◌, ◌||◌, Bool, true, false, List, [], ◌∷◌, ◌++◌, Option, Some, None, refl, sym, ap, subst, ◌∙◌, fold, if◌then◌else◌, arith, slice_get, length, same_tid, ClientNo, Member, NodeNo, Outcome, Tid, same_tid-true, files_no, is_client_no, Op, Act, Begin, Issue, Serve, Ask, Counted, Decide, Ending, Learn, Loan, Yield, Tick, Crash, Restart, TransactionValue, heard, learnt, lent, given_back, issued, is_by_client, counted, Link, Request}
use Rattle.qs_book_laws.proofs.Words.{RequestNo, BookValue, find_transaction, with_owner, answer, hear, waiting_of, inc_at, link_to, borrower_at, broken_issue, is_numbered, broken_issuer, broken_act, NodeValue, Asking, Owner, zero_plus, or_left, or_right}
use Rattle.qs_base.specs.declared.identifiers.Outcome.TheVariants as outcomes
use Rattle.qs_ops.specs.declared.answer.Answer.{Answer as Said}
use Rattle.qs_book_journal.specs.declared.entry.Act.TheVariants.{Answer}
use Rattle.qs_book_journal.specs.declared.entry.Act.TheVariants as acts
use Rattle.qs_book_machine.specs.Clauses.{is_files_here, is_client_here, may_issue}
use Rattle.qs_book_laws.proofs.Holding.{left_of, right_of}
use Rattle.qs_book_laws.proofs.Pace.{Before, After, stay, issued_near, issued_far, counted_near, counted_far, heard_near, heard_far}
use Rattle.qs_book_laws.proofs.Steps.{held}
use Rattle.qs_book_laws.proofs.Turns.{Stands, Gives, GivesFor, Obliged, turn, stands_as, stands_by}
use Rattle.qs_book_laws.proofs.Unanswered.{Waits, is_to, times, all_of, own_of, without, times_split, times_more, same_node}
use Rattle.qs_book_laws.proofs.Waiting.{waits_after}
use Rattle.qs_base_lemmas.proofs.Tests.{plus_zero}

-- ---- who issues

issuer_is : (here : ℕ) (node : NodeValue) (nodes : ℕ) (tid : Tid) (tx : TransactionValue) (issuer member : Member) (n : ℕ) (op : Op) → broken_issue here node nodes tid (Some tx) issuer member n op ≡ None → ((issuer.server.0 == files_no) || is_client_no issuer.server.0) ≡ true
issuer_is here node nodes tid tx issuer member n op h = by (is_files_here here issuer) refl (held (is_numbered here node nodes tx member n op) 20 (broken_issuer here node tid tx issuer op) h).1
  where
    by : (b : Bool) → is_files_here here issuer ≡ b → broken_issuer here node tid tx issuer op ≡ None → ((issuer.server.0 == files_no) || is_client_no issuer.server.0) ≡ true
    by true is k = or_left (issuer.server.0 == files_no) (is_client_no issuer.server.0) (right_of (issuer.node.0 == here) (issuer.server.0 == files_no) is)
    by false is k =
        let may : may_issue here node tid tx issuer ≡ true = allowed (may_issue here node tid tx issuer) (unfiled is k) in
        or_right (issuer.server.0 == files_no) (is_client_no issuer.server.0) (right_of (issuer.node.0 == here) (is_client_no issuer.server.0) (left_of (is_client_here here issuer) _ may))
      where
        clause : Bool → Option ℕ
        clause b = if b then None else Some 21

        unfiled : is_files_here here issuer ≡ false → broken_issuer here node tid tx issuer op ≡ None → clause (may_issue here node tid tx issuer) ≡ None
        unfiled e q = rw e at q

        allowed : (b : Bool) → clause b ≡ None → b ≡ true
        allowed true q = refl
        allowed false q = absurd (cc q)

module _ (tid : Tid) (node : NodeNo) (gone : ℕ) where
  abbrev pub Goes : Bool → ℕ → ℕ → TransactionValue → Type 0
  Goes g inc w tx = Before node gone g inc w tx.sent tx.peers

  abbrev pub Went : Bool → ℕ → ℕ → TransactionValue → Type 0
  Went g inc w tx = After node gone g inc w tx.sent tx.peers

  abbrev pub count : List Waits → ℕ
  count ws = times tid node (all_of ws)

  -- ---- acts of a node that is up, an answer aside

  module _ (g : Bool) (inc : ℕ) (ws : List Waits) (book : BookValue) (stamp here : ℕ) (at_node : inc_at book node ≡ inc) where
    abbrev w : ℕ
    w = count ws

    plain : (t : Tid) (f : TransactionValue → TransactionValue) → ((tx : TransactionValue) → Goes g inc w tx → Went g inc w (f tx)) → Gives tid (Goes g inc w) (Went g inc w) book t f
    plain t f same = record { own = λ is tx found p. same tx p; other = λ apart tx p. stay node gone g inc w tx.sent tx.peers p }

    still : (tx : TransactionValue) → Goes g inc w tx → Went g inc w tx
    still tx p = stay node gone g inc w tx.sent tx.peers p

    learnt_still : (other : Member) (k : ℕ) (outcome : Outcome) (tx : TransactionValue) → Goes g inc w tx → Went g inc w (learnt other k outcome tx)
    learnt_still other k outcomes.Commit tx p = still tx p
    learnt_still other k outcomes.Abort tx p = still tx p

    lends : (t : Tid) (o : Option Member) (f : Member → TransactionValue → TransactionValue) → ((m : Member) (tx : TransactionValue) → Goes g inc w tx → Went g inc w (f m tx)) → GivesFor tid (Goes g inc w) (Went g inc w) book t f o
    lends t None f same = still
    lends t (Some m) f same = plain t (f m) (same m)

    -- how an issue changes what waits
    issue_count : (t : Tid) (issuer member : Member) (n : ℕ) (op : Op) (b c : Bool) → is_to tid node (record { tid = t; node = member.node }) ≡ b → is_client_no issuer.server.0 ≡ c
        → count (waits_after ws (Issue t issuer member n op)) ≡ (if b then (if c then w + 1 else w) else w)
    issue_count t issuer member n op b c is who = ap (λ (x : Bool). count (if x then ws ++ new ∷ [] else ws)) who ∙ by b c is
      where
        new : Waits
        new = record { client = issuer.server.0 - 32; asking = record { tid = t; node = member.node } }

        by : (b c : Bool) → is_to tid node new.asking ≡ b → count (if c then ws ++ new ∷ [] else ws) ≡ (if b then (if c then w + 1 else w) else w)
        by true true e = times_more tid node ws new ∙ ap (λ (x : Bool). w + (if x then 1 else 0)) e
        by false true e = times_more tid node ws new ∙ (ap (λ (x : Bool). w + (if x then 1 else 0)) e ∙ plus_zero w)
        by true false e = refl
        by false false e = refl

    issue_owed : (t : Tid) (issuer member : Member) (n : ℕ) (op : Op) → ((tx : TransactionValue) → find_transaction book t ≡ Some tx → ((issuer.server.0 == files_no) || is_client_no issuer.server.0) ≡ true)
        → Obliged tid (Goes g inc w) (Went g inc (count (waits_after ws (Issue t issuer member n op)))) book stamp here (Issue t issuer member n op)
    issue_owed t issuer member n op who = record {
      own = λ same tx found p. near same tx (who tx (ap (find_transaction book) (same_tid-true t tid same) ∙ found)) p (member.node.0 == node.0) refl;
      other = λ apart tx p.
          subst (λ (k : ℕ). Went g inc k tx) (sym (issue_count t issuer member n op false (is_client_no issuer.server.0) (ap (λ (x : Bool). x && (member.node.0 == node.0)) apart) refl)) (still tx p);
    }
      where
        no : RequestNo
        no = record { link = link_to here member; number = n }

        request : Request
        request = record { issuer = issuer; member = member; op = op; inc = inc_at book (record { 0 = here }); served = false }

        near : same_tid t tid ≡ true → (tx : TransactionValue) → ((issuer.server.0 == files_no) || is_client_no issuer.server.0) ≡ true → Goes g inc w tx → (b : Bool) → (member.node.0 == node.0) ≡ b
            → Went g inc (count (waits_after ws (Issue t issuer member n op))) (issued no request (inc_at book member.node) book.place tx)
        near same tx by_whom p true is =
            subst (λ (k : ℕ). Went g inc k (issued no request (inc_at book member.node) book.place tx)) (sym (issue_count t issuer member n op true (is_client_no issuer.server.0) (rw (same, is) refl) refl))
            (subst (λ (k : ℕ). Went g inc (if is_by_client request then w + 1 else w) (issued no request k book.place tx)) (sym (ap (inc_at book) (same_node member.node node is) ∙ at_node))
            (issued_near node gone g inc w tx p no request book.place is by_whom))
        near same tx by_whom p false is =
            subst (λ (k : ℕ). Went g inc k (issued no request (inc_at book member.node) book.place tx)) (sym (issue_count t issuer member n op false (is_client_no issuer.server.0) (rw (same, is) refl) refl))
            (still (issued no request (inc_at book member.node) book.place tx) (issued_far node gone g inc w tx p no request (inc_at book member.node) book.place is))

    count_owed : (t : Tid) (peer : NodeNo) (so_far : ℕ) → Obliged tid (Goes g inc w) (Went g inc w) book stamp here (Counted t peer so_far)
    count_owed t peer so_far = record { own = λ same tx found p. near tx p (peer.0 == node.0) refl; other = λ apart tx p. still tx p }
      where
        link : Link
        link = record { from = record { 0 = here }; to = peer }

        near : (tx : TransactionValue) → Goes g inc w tx → (b : Bool) → (peer.0 == node.0) ≡ b → Went g inc w (counted link (inc_at book (record { 0 = here })) so_far (inc_at book peer) tx)
        near tx p true is =
            subst (λ (k : ℕ). Went g inc w (counted link (inc_at book (record { 0 = here })) so_far k tx)) (sym (ap (inc_at book) (same_node peer node is) ∙ at_node))
            (still (counted link (inc_at book (record { 0 = here })) so_far inc tx) (counted_near node gone g inc w tx p link (inc_at book (record { 0 = here })) so_far is))
        near tx p false is = still (counted link (inc_at book (record { 0 = here })) so_far (inc_at book peer) tx) (counted_far node gone g inc w tx p link (inc_at book (record { 0 = here })) so_far (inc_at book peer) is)

    pub act_owed : (v : NodeValue) (act : Act) → broken_act book stamp here v act ≡ None → ((client : ClientNo) (line : ℕ) (said : Said) → act ≡ Answer client line said → ⊥)
        → Obliged tid (Goes g inc w) (Went g inc (count (waits_after ws act))) book stamp here act
    act_owed v (Begin t label client) h none = still
    act_owed v (Issue t issuer member n op) h none = issue_owed t issuer member n op (λ tx found. issuer_is here v (length book.nodes) t tx issuer member n op (subst (λ (o : Option TransactionValue). broken_issue here v (length book.nodes) t o issuer member n op ≡ None) found h))
    act_owed v (Serve t member from n reply) h none = plain t _ still
    act_owed v (acts.Vote t member ballot covers) h none = plain t _ still
    act_owed v (Ask t) h none = plain t _ still
    act_owed v (Counted t peer so_far) h none = count_owed t peer so_far
    act_owed v (Decide t outcome cause) h none = plain t _ still
    act_owed v (Ending t member) h none = plain t _ still
    act_owed v (Learn t member outcome) h none = plain t _ (learnt_still member (inc_at book (record { 0 = here })) outcome)
    act_owed v (Answer client line said) h none = absurd (none client line said refl)
    act_owed v (Loan t client) h none = lends t (borrower_at client here) (λ m. lent m (inc_at book (record { 0 = here }))) (λ m. still)
    act_owed v (Yield t client) h none = lends t (borrower_at client here) (λ m. given_back m (inc_at book (record { 0 = here }))) (λ m. still)
    act_owed v Tick h none = still
    act_owed v (Crash cause) h none = still
    act_owed v (Restart new pend done) h none = absurd (cc h)

  -- ---- an answer

  hear_all : (g : Bool) (inc rest : ℕ) (asks : List Asking) (book : BookValue) → inc_at book node ≡ inc → Stands tid (Goes g inc (times tid node asks + rest)) book → Stands tid (Goes g inc rest) (fold hear book asks)
  hear_all g inc rest [] book at_node s = stands_by tid (Goes g inc (0 + rest)) (Goes g inc rest) book (λ tx p. subst (λ (k : ℕ). Goes g inc k tx) (zero_plus rest) p) s
  hear_all g inc rest (ask ∷ asks) book at_node s = hear_all g inc rest asks (hear book ask) at_node (turn tid (Goes g inc first) (Goes g inc left) book ask.tid (heard ask.node (inc_at book ask.node)) gives s)
    where
      first : ℕ
      first = ((if is_to tid node ask then 1 else 0) + times tid node asks) + rest

      left : ℕ
      left = times tid node asks + rest

      one : (b : Bool) → is_to tid node ask ≡ b → first ≡ (if b then 1 + left else left)
      one b is = ap (λ (x : Bool). ((if x then 1 else 0) + times tid node asks) + rest) is ∙ by b (times tid node asks) rest
        where
          none : (m n : ℕ) → (0 + m) + n ≡ m + n
          none m n = omega arith

          some : (m n : ℕ) → (1 + m) + n ≡ 1 + (m + n)
          some m n = omega arith

          by : (b : Bool) (m n : ℕ) → ((if b then 1 else 0) + m) + n ≡ (if b then 1 + (m + n) else m + n)
          by true m n = some m n
          by false m n = none m n

      near : same_tid ask.tid tid ≡ true → (tx : TransactionValue) → Goes g inc first tx → (b : Bool) → (ask.node.0 == node.0) ≡ b → Goes g inc left (heard ask.node (inc_at book ask.node) tx)
      near same tx p true is =
          subst (λ (k : ℕ). Goes g inc left (heard ask.node k tx)) (sym (ap (inc_at book) (same_node ask.node node is) ∙ at_node))
          (heard_near node gone g inc first tx p ask.node left is (one true (rw (same, is) refl)))
      near same tx p false is =
          subst (λ (k : ℕ). Goes g inc k (heard ask.node (inc_at book ask.node) tx)) (one false (rw (same, is) refl))
          (heard_far node gone g inc first tx p ask.node (inc_at book ask.node) is)

      gives : Gives tid (Goes g inc first) (Goes g inc left) book ask.tid (heard ask.node (inc_at book ask.node))
      gives = record {
        own = λ same tx found p. near same tx p (ask.node.0 == node.0) refl;
        other = λ apart tx p. subst (λ (k : ℕ). Goes g inc k tx) (one false (ap (λ (x : Bool). x && (ask.node.0 == node.0)) apart)) p;
      }

  pub answer_goes : (g : Bool) (inc : ℕ) (ws : List Waits) (book : BookValue) (client : ClientNo) (line : ℕ) (owner : Owner) → inc_at book node ≡ inc → slice_get book.owners client.0 ≡ Some owner → owner.waiting ≡ own_of client.0 ws
      → Stands tid (Goes g inc (count ws)) book → Stands tid (Goes g inc (count (without client.0 ws))) (answer client line book)
  answer_goes g inc ws book client line owner at_node there is s =
      subst (λ (asks : List Asking). Stands tid (Goes g inc (count (without client.0 ws))) (fold hear first asks)) (sym (ap waiting_of there ∙ is))
      (hear_all g inc (count (without client.0 ws)) (own_of client.0 ws) first at_node
      (stands_by tid (Goes g inc (count ws)) (Goes g inc (times tid node (own_of client.0 ws) + count (without client.0 ws))) first (λ tx p. subst (λ (k : ℕ). Goes g inc k tx) (times_split tid node client.0 ws) p)
      (stands_as tid (Goes g inc (count ws)) book first refl s)))
    where
      first : BookValue
      first = with_owner client.0 (λ (o : Owner). record o { line = line; waiting = [] }) book
