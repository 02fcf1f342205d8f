-- While the only node of a run goes on in one incarnation, each entry leaves a transaction clean, or gives a number to a request of what began in another incarnation.
use Rattle.qs_world_runs.proofs.Words.{◌≡◌, ◌⊎◌, inl, inr, ℕ, ◌+◌, ◌≤◌, ◌<◌, ◌==◌, ◌&&◌, not, nat_lt, Bool, true, false, List, [], ◌∷◌, Option, Some, None, refl, ap, subst, ◌∙◌, arith, eqb-true, ltb-true, slice_get_within, is_at, lookup, is_some, length, slice_get, same_tid-true, same_tid, Member, Tid, Act, CrashCause, Entry, Found, ran_run, held, Gives, GivesFor, Obliged, BookValue, find_transaction, inc_at, borrower_at, broken_issue, broken_issuer, link_to, book_after, broken, broken_act}
use Rattle.qs_world_runs.proofs.Words.{broken_at, effect, TransactionValue, crossed_by, is_commit, is_empty, issued, link_cmp, sent_in, sent_on, standing_request, Link, Request, RequestNo, Sent, Op, entry_of, Actor, actor, lasts_on, LastsWell, way_between, AreIssued, Field, Here, HasGiven}
use Rattle.qs_base.specs.declared.identifiers.Outcome.TheVariants as outcomes
use Rattle.qs_book_journal.specs.declared.entry.Act.TheVariants as acts
use Rattle.qs_book_laws.proofs.Holding.{right_of}
use Rattle.qs_book_laws.proofs.Pasts.{inc_rises}
use Rattle.qs_book_machine.specs.Clauses.{is_for, is_numbered}
use Rattle.qs_book_machine.specs.Lawful.{IsLawful, is_in_order}
use Rattle.qs_book_machine.specs.Nodes as machine
use Rattle.qs_book_machine.specs.Transaction.{begun, next_number, served_in}
use Rattle.qs_world_runs.proofs.PlacedActs.{step_here}
use Rattle.qs_world_runs.proofs.PlacedIssued.{counted_given, given_own, issued_left, issued_on, none_stood, numbered_next, served_on}
use Rattle.qs_world_runs.proofs.RepliesEntries.{given_as, given_issued}

-- a lawful issue goes to a node of the run
goes_in_run : (book : BookValue) (n stamp : ℕ) (t : Tid) (issuer member : Member) (number : ℕ) (op : Op) → broken book (entry_of n stamp (acts.Issue t issuer member number op)) ≡ None
    → (tx : TransactionValue) → find_transaction book t ≡ Some tx → nat_lt member.node.0 (length book.nodes) ≡ true
goes_in_run book n stamp t issuer member number op h tx found = by (slice_get book.nodes n) (held (is_in_order book (entry_of n stamp (acts.Issue t issuer member number op))) 1 _ h).1
  where
    of : (v : machine.NodeValue) → broken_issue n v (length book.nodes) t (Some tx) issuer member number op ≡ None → nat_lt member.node.0 (length book.nodes) ≡ true
    of v k = right_of (is_for op member) (nat_lt member.node.0 (length book.nodes))
        (right_of (number == next_number tx (link_to n member) v.inc) (is_for op member && nat_lt member.node.0 (length book.nodes))
        (right_of (not (is_commit tx.cell)) _ (held (is_numbered n v (length book.nodes) tx member number op) 20 (broken_issuer n v t tx issuer op) k).0))

    by : (o : Option machine.NodeValue) → broken_at book stamp n o (acts.Issue t issuer member number op) ≡ None → nat_lt member.node.0 (length book.nodes) ≡ true
    by None k = absurd (cc k)
    by (Some v) k = of v (subst (λ (o : Option TransactionValue). broken_issue n v (length book.nodes) t o issuer member number op ≡ None) found (held v.up 2 (broken_act book stamp n v (acts.Issue t issuer member number op)) k).1)

only : (n size : ℕ) → size ≡ 1 → n < size → n ≡ 0
only n size one low = omega (arith, one, low)

module _ (tid : Tid) (base : Field) where
  -- every node runs, in the incarnation in which the transaction began
  abbrev pub as_begun : Field
  as_begun = record base { up = λ k. true; inc = λ k. tid.inc }

  -- each request that stands has a number that was given in that incarnation, and none crossed another
  pub record IsClean (tx : TransactionValue) : Type 0 where
    pub issued : AreIssued tx as_begun
    pub uncrossed : is_empty tx.crossed ≡ true

  pub clean_left : (tx later : TransactionValue) → later.requests ≡ tx.requests → ((k : ℕ) (l : Link) → sent_in k (sent_on later l) ≡ sent_in k (sent_on tx l)) → later.crossed ≡ tx.crossed → IsClean tx → IsClean later
  clean_left tx later requests given crossed clean = record {
    issued = issued_left tx later as_begun as_begun requests given (λ k. refl) (λ k. refl) clean.issued;
    uncrossed = ap (λ (xs : List (Member × ℕ)). is_empty xs) crossed ∙ clean.uncrossed;
  }

  -- what begins, or stood in a log as the run opened, has no requests
  pub clean_bare : (tx : TransactionValue) → tx.requests ≡ [] → tx.crossed ≡ [] → IsClean tx
  clean_bare tx none whole = record {
    issued = λ at member stands. absurd (let off : is_some (standing_request tx at member) ≡ false = rw none refl in cc (off, stands));
    uncrossed = ap (λ (xs : List (Member × ℕ)). is_empty xs) whole;
  }

  module _ (j : ℕ) where
    -- the only node gave a number of it in incarnation j, and it began in another one
    pub record IsLate (tx : TransactionValue) : Type 0 where
      pub apart : (j == tid.inc) ≡ false
      pub given : HasGiven 0 j 0 1 tx

    abbrev pub Goes : TransactionValue → Type 0
    Goes tx = IsClean tx ⊎ IsLate tx

    goes_left : (tx later : TransactionValue) → later.requests ≡ tx.requests → ((k : ℕ) (l : Link) → sent_in k (sent_on later l) ≡ sent_in k (sent_on tx l)) → later.crossed ≡ tx.crossed → Goes tx → Goes later
    goes_left tx later requests given crossed (inl clean) = inl (clean_left tx later requests given crossed clean)
    goes_left tx later requests given crossed (inr late) = inr (record { apart = late.apart; given = given_as 0 j 0 1 tx later (given j (way_between 0 0 1).link) late.given })

    goes_same : (tx later : TransactionValue) → later.requests ≡ tx.requests → later.sent ≡ tx.sent → later.crossed ≡ tx.crossed → Goes tx → Goes later
    goes_same tx later requests sent crossed = goes_left tx later requests (λ k l. ap (λ (es : List (Link × Sent)). sent_in k (lookup (is_at (link_cmp l)) es)) sent) crossed

    module _ (book : BookValue) (one : length book.nodes ≡ 1) (now : inc_at book (record { 0 = 0 }) ≡ j) where
      gives : (t : Tid) (f : TransactionValue → TransactionValue) → ((tx : TransactionValue) → Goes tx → Goes (f tx)) → Gives tid Goes Goes book t f
      gives t f keeps = record { own = λ same tx found g. keeps tx g; other = λ apart tx g. g }

      gives_for : (t : Tid) (f : Member → TransactionValue → TransactionValue) → ((other : Member) (tx : TransactionValue) → Goes tx → Goes (f other tx)) → (o : Option Member) → GivesFor tid Goes Goes book t f o
      gives_for t f keeps None = λ tx g. g
      gives_for t f keeps (Some other) = gives t (f other) (keeps other)

      issue_goes : (stamp here : ℕ) → here ≡ 0 → (t : Tid) (issuer other : Member) (k : ℕ) (op : Op) → broken book (entry_of here stamp (acts.Issue t issuer other k op)) ≡ None → Obliged tid Goes Goes book stamp here (acts.Issue t issuer other k op)
      issue_goes stamp here is t issuer other k op fine = record { own = λ same tx found g. own same tx found g; other = λ apart tx g. g }
        where
          at : RequestNo
          at = record { link = link_to here other; number = k }

          request : Request
          request = record { issuer = issuer; member = other; op = op; inc = inc_at book (record { 0 = here }); served = false }

          here_now : inc_at book (record { 0 = here }) ≡ j
          here_now = ap (λ (n : ℕ). inc_at book (record { 0 = n })) is ∙ now

          own : same_tid t tid ≡ true → (tx : TransactionValue) → find_transaction book tid ≡ Some tx → Goes tx → Goes (issued at request (inc_at book other.node) book.place tx)
          own same tx found (inr late) = inr (record { apart = late.apart; given = given_issued 0 j 0 1 tx at request (inc_at book other.node) book.place (λ from. here_now) late.given })
          own same tx found (inl clean) = by (j == tid.inc) refl
            where
              found_it : find_transaction book t ≡ Some tx
              found_it = ap (find_transaction book) (same_tid-true t tid same) ∙ found

              next : k ≡ sent_in (inc_at book (record { 0 = here })) (sent_on tx at.link) + 1
              next = numbered_next book here stamp t issuer other k op fine tx found_it

              link_is : at.link ≡ (way_between 0 0 1).link
              link_is = own_link here other.node.0 is (only other.node.0 (length book.nodes) one (ltb-true other.node.0 (length book.nodes) (goes_in_run book here stamp t issuer other k op fine tx found_it)))
                where
                  own_link : (a b : ℕ) → a ≡ 0 → b ≡ 0 → ◌≡◌ {A = Link} (record { from = record { 0 = a }; to = record { 0 = b } }) (way_between 0 0 1).link
                  own_link a b p q = rw (p, q) refl

              uncrossed : standing_request tx at other ≡ None → is_empty tx.crossed ≡ true → is_empty (crossed_by (standing_request tx at other) book.place other tx.crossed) ≡ true
              uncrossed none e = rw none e

              some : (a b : ℕ) → a ≡ b + 1 → 1 ≤ a
              some a b e = omega (arith, e)

              by : (b : Bool) → (j == tid.inc) ≡ b → Goes (issued at request (inc_at book other.node) book.place tx)
              by true e = let same_inc : request.inc ≡ tid.inc = here_now ∙ eqb-true j tid.inc e in inl (record {
                issued = issued_on tx at request (inc_at book other.node) book.place as_begun as_begun (λ n. refl) (λ n. refl) refl same_inc next clean.issued;
                uncrossed = uncrossed (none_stood tx at request (inc_at book other.node) book.place as_begun same_inc next clean.issued other) clean.uncrossed;
              })
              by false e = inr (record {
                apart = e;
                given = subst (λ (l : Link). 1 ≤ sent_in j (sent_on (issued at request (inc_at book other.node) book.place tx) l)) link_is
                    (subst (λ (i : ℕ). 1 ≤ sent_in i (sent_on (issued at request (inc_at book other.node) book.place tx) at.link)) here_now (some _ _ (given_own tx at request (inc_at book other.node) book.place)));
              })

      serve_goes : (at : RequestNo) (other : Member) (inc stamp : ℕ) (done : Bool) (tx : TransactionValue) → Goes tx → Goes (served_in at other inc stamp done tx)
      serve_goes at other inc stamp done tx (inl clean) = inl (record { issued = served_on tx at other inc stamp done as_begun as_begun (λ k. refl) (λ k. refl) clean.issued; uncrossed = clean.uncrossed })
      serve_goes at other inc stamp done tx (inr late) = inr (record { apart = late.apart; given = late.given })

      obliged : (stamp here : ℕ) → here ≡ 0 → (act : Act) → broken book (entry_of here stamp act) ≡ None → Obliged tid Goes Goes book stamp here act
      obliged stamp here is (acts.Begin t label client) fine = λ tx g. g
      obliged stamp here is (acts.Issue t issuer other k op) fine = issue_goes stamp here is t issuer other k op fine
      obliged stamp here is (acts.Serve t other from k reply) fine = gives t _ (λ tx g. serve_goes _ other _ stamp _ tx g)
      obliged stamp here is (acts.Vote t other ballot covers) fine = gives t _ (λ tx g. goes_same tx _ refl refl refl g)
      obliged stamp here is (acts.Ask t) fine = gives t _ (λ tx g. goes_same tx _ refl refl refl g)
      obliged stamp here is (acts.Counted t peer up_to) fine = gives t _ (λ tx g. goes_left tx _ refl (counted_given (record { from = record { 0 = here }; to = peer }) (inc_at book (record { 0 = here })) up_to (inc_at book peer) tx) refl g)
      obliged stamp here is (acts.Decide t outcome cause) fine = gives t _ (λ tx g. goes_same tx _ refl refl refl g)
      obliged stamp here is (acts.Ending t other) fine = gives t _ (λ tx g. goes_same tx _ refl refl refl g)
      obliged stamp here is (acts.Learn t other outcomes.Commit) fine = gives t _ (λ tx g. goes_same tx _ refl refl refl g)
      obliged stamp here is (acts.Learn t other outcomes.Abort) fine = gives t _ (λ tx g. goes_same tx _ refl refl refl g)
      obliged stamp here is (acts.Answer client line said) fine = ((λ node inc tx g. goes_same tx _ refl refl refl g), (λ tx g. g))
      obliged stamp here is (acts.Loan t client) fine = gives_for t _ (λ other tx g. goes_same tx _ refl refl refl g) (borrower_at client here)
      obliged stamp here is (acts.Yield t client) fine = gives_for t _ (λ other tx g. goes_same tx _ refl refl refl g) (borrower_at client here)
      obliged stamp here is acts.Tick fine = λ tx g. g
      obliged stamp here is (acts.Crash cause) fine = λ tx g. g
      obliged stamp here is (acts.Restart inc pend done) fine = (
        record {
          learnt = λ member tx g. goes_same tx _ refl refl refl g;
          decided = λ place outcome cause tx g. goes_same tx _ refl refl refl g;
          found = λ server covers changes tx g. goes_same tx _ refl refl refl g;
        },
        λ tx g. g,
      )

    -- ---- a history in which the node begins no other incarnation

    pub goes_on : (entries : List Entry) (book : BookValue) → LastsWell book → IsLawful book entries → length book.nodes ≡ 1 → inc_at book (record { 0 = 0 }) ≡ j → inc_at (book_after book entries) (record { 0 = 0 }) ≡ j → Here tid Goes book → Here tid Goes (book_after book entries)
    goes_on [] book w lawful one now then all = all
    goes_on (entry ∷ entries) book w lawful one now then all = goes_on entries (effect book entry) (lasts_on book entry w lawful.0) lawful.1 (ran_run (entry ∷ []) book ∙ one) still then
        (step_here tid Goes Goes book entry w.inv lawful.0 (obliged book one now entry.stamp entry.node.0 here_is entry.act lawful.0)
        (λ label client ticks is. inl (clean_bare (begun label client ticks) refl refl)) all)
      where
        a : Actor book entry
        a = actor book entry lawful.0

        here_is : entry.node.0 ≡ 0
        here_is = only entry.node.0 (length book.nodes) one (slice_get_within book.nodes entry.node.0 a.state a.there)

        amid : (p q r : ℕ) → p ≡ j → p ≤ q → q ≤ r → r ≡ j → q ≡ j
        amid p q r x y z v = omega (arith, x, y, z, v)

        still : inc_at (effect book entry) (record { 0 = 0 }) ≡ j
        still = amid _ _ _ now (inc_rises (record { 0 = 0 }) 0 (entry ∷ []) book (lawful.0, tt)) (inc_rises (record { 0 = 0 }) 0 entries (effect book entry) lawful.1) then

  -- ---- a crash, and a restart

  pub crash_clean : (book : BookValue) (n stamp : ℕ) (cause : CrashCause) → LastsWell book → broken book (entry_of n stamp (acts.Crash cause)) ≡ None → Here tid IsClean book → Here tid IsClean (effect book (entry_of n stamp (acts.Crash cause)))
  crash_clean book n stamp cause w fine all = step_here tid IsClean IsClean book (entry_of n stamp (acts.Crash cause)) w.inv fine (λ tx c. c) (λ label client ticks is. clean_bare (begun label client ticks) refl refl) all

  pub restart_clean : (book : BookValue) (n stamp inc : ℕ) (pend : List Found) (done : List Tid) → LastsWell book → broken book (entry_of n stamp (acts.Restart inc pend done)) ≡ None → Here tid IsClean book → Here tid IsClean (effect book (entry_of n stamp (acts.Restart inc pend done)))
  restart_clean book n stamp inc pend done w fine all = step_here tid IsClean IsClean book (entry_of n stamp (acts.Restart inc pend done)) w.inv fine (
    record {
      learnt = λ member tx c. clean_left tx _ refl (λ k l. refl) refl c;
      decided = λ place outcome cause tx c. clean_left tx _ refl (λ k l. refl) refl c;
      found = λ server covers changes tx c. clean_left tx _ refl (λ k l. refl) refl c;
    },
    λ tx c. c,
  )
      (λ label client ticks is. clean_bare (begun label client ticks) refl refl) all
