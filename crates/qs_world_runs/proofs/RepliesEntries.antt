-- That a node gave a number, and that the request under it stands no more, stays so through each entry of a history, while the node begins no later incarnation.
use Rattle.qs_world_runs.proofs.Words.{◌≡◌, ◌⊎◌, inl, inr, ℕ, ◌+◌, ◌≤◌, ◌<◌, Bool, true, false, List, Option, Some, None, refl, sym, ap, subst, ◌∙◌, arith, insert_entry, is_at, find, lookup, is_some, same_tid-true, member_cmp, same_tid, Member, Tid, Act, Entry, paced, Inv, Gives, GivesFor, Obliged, step_turns, restarts, BookValue, find_transaction, inc_at, borrower_at, link_to, broken, effect, TransactionValue, crossed_by, is_crossed, is_standing, issued, link_cmp, requests_in, sent_in}
use Rattle.qs_world_runs.proofs.Words.{sent_on, standing_request, Request, RequestNo, Op, entry_of, way_between, HasGiven, IsOfLast, IsServed, le_le}
use Rattle.qs_base.specs.declared.identifiers.Outcome.TheVariants as outcomes
use Rattle.qs_book_journal.specs.declared.entry.Act.TheVariants as acts
use Rattle.qs_book_laws.proofs.LinkCounts.{Paced}
use Rattle.qs_book_laws.proofs.Maps.{put_known}
use Rattle.qs_book_laws.proofs.Reaching.{link_exact}
use Rattle.qs_book_machine.specs.Transaction.{counted, served_in}
use Rattle.qs_world_runs.specs.RepliesTrue.{GivenStays, ServedStays}
use Rattle.qs_world_runs.proofs.PlacedIssued.{counted_given, given_other, given_own, numbered_next, stood_or_new, stood_served}
use Rattle.qs_base_lemmas.proofs.Tests.{le_lt_le}

-- ---- crossings stay

crossed_more : (o : Option Request) (place : ℕ) (member m : Member) (xs : List (Member × ℕ)) → is_some (lookup (is_at (member_cmp m)) xs) ≡ true → is_some (lookup (is_at (member_cmp m)) (crossed_by o place member xs)) ≡ true
crossed_more None place member m xs is = is
crossed_more (Some earlier) place member m xs is = by (lookup (is_at (member_cmp member)) xs)
  where
    by : (o : Option ℕ) → is_some (lookup (is_at (member_cmp m)) (elim o [ Some first ↦ xs | None ↦ insert_entry member_cmp xs member place ])) ≡ true
    by (Some first) = is
    by None = put_known member_cmp member place (is_at (member_cmp m)) xs is

-- ---- what leaves how many were given

module _ (n i m number : ℕ) where
  pub given_as : (tx later : TransactionValue) → sent_in i (sent_on later (way_between n m number).link) ≡ sent_in i (sent_on tx (way_between n m number).link) → HasGiven n i m number tx → HasGiven n i m number later
  given_as tx later is h = subst (λ (k : ℕ). number ≤ k) (sym is) h

  -- an issue gives no fewer, in the incarnation in which its node is
  pub given_issued : (tx : TransactionValue) (at : RequestNo) (request : Request) (peer_inc place : ℕ) → (at.link.from.0 ≡ n → request.inc ≡ i) → HasGiven n i m number tx → HasGiven n i m number (issued at request peer_inc place tx)
  given_issued tx at request peer_inc place now h = by (is_at (link_cmp (way_between n m number).link) at.link) refl
    where
      new : TransactionValue
      new = issued at request peer_inc place tx

      more : (a b : ℕ) → b ≡ a + 1 → a ≤ b
      more a b e = omega (arith, e)

      own : at.link ≡ (way_between n m number).link → HasGiven n i m number new
      own is = subst (λ l. number ≤ sent_in i (sent_on new l)) is
          (subst (λ (k : ℕ). number ≤ sent_in k (sent_on new at.link)) (now (ap (λ l. l.from.0) is))
          (le_le number (sent_in request.inc (sent_on tx at.link)) (sent_in request.inc (sent_on new at.link))
          (subst (λ (k : ℕ). number ≤ sent_in k (sent_on tx at.link)) (sym (now (ap (λ l. l.from.0) is))) (subst (λ l. number ≤ sent_in i (sent_on tx l)) (sym is) h))
          (more _ _ (given_own tx at request peer_inc place))))

      by : (b : Bool) → is_at (link_cmp (way_between n m number).link) at.link ≡ b → HasGiven n i m number new
      by true is = own (sym (link_exact (way_between n m number).link at.link is))
      by false apart = given_as tx new (ap (sent_in i) (given_other tx at request peer_inc place (way_between n m number).link apart)) h

-- ---- each entry leaves it

module _ (tid : Tid) (n i : ℕ) (book : BookValue) (now : inc_at book (record { 0 = n }) ≡ i) where
  here_now : (here : ℕ) → here ≡ n → inc_at book (record { 0 = here }) ≡ i
  here_now here is = ap (λ (k : ℕ). inc_at book (record { 0 = k })) is ∙ now

  module _ (P : TransactionValue → Type 0) where
    gives : (t : Tid) (f : TransactionValue → TransactionValue) → ((tx : TransactionValue) → P tx → P (f tx)) → Gives tid P P book t f
    gives t f keeps = record { own = λ same tx found p. keeps tx p; other = λ apart tx p. p }

    gives_for : (t : Tid) (f : Member → TransactionValue → TransactionValue) → ((other : Member) (tx : TransactionValue) → P tx → P (f other tx)) → (o : Option Member) → GivesFor tid P P book t f o
    gives_for t f keeps None = λ tx p. p
    gives_for t f keeps (Some other) = gives t (f other) (keeps other)

  module _ (m number : ℕ) where
    abbrev G : TransactionValue → Type 0
    G = HasGiven n i m number

    given_obliged : (stamp here : ℕ) (act : Act) → Obliged tid G G book stamp here act
    given_obliged stamp here (acts.Begin t label client) = λ tx p. p
    given_obliged stamp here (acts.Issue t issuer other k op) = gives G t _ (λ tx p. given_issued n i m number tx (record { link = link_to here other; number = k }) (record { issuer = issuer; member = other; op = op; inc = inc_at book (record { 0 = here }); served = false }) (inc_at book other.node) book.place (here_now here) p)
    given_obliged stamp here (acts.Serve t other from k reply) = gives G t _ (λ tx p. p)
    given_obliged stamp here (acts.Vote t other ballot covers) = gives G t _ (λ tx p. p)
    given_obliged stamp here (acts.Ask t) = gives G t _ (λ tx p. p)
    given_obliged stamp here (acts.Counted t peer up_to) = gives G t _ (λ tx p. given_as n i m number tx (counted (record { from = record { 0 = here }; to = peer }) (inc_at book (record { 0 = here })) up_to (inc_at book peer) tx) (counted_given (record { from = record { 0 = here }; to = peer }) (inc_at book (record { 0 = here })) up_to (inc_at book peer) tx i (way_between n m number).link) p)
    given_obliged stamp here (acts.Decide t outcome cause) = gives G t _ (λ tx p. p)
    given_obliged stamp here (acts.Ending t other) = gives G t _ (λ tx p. p)
    given_obliged stamp here (acts.Learn t other outcomes.Commit) = gives G t _ (λ tx p. p)
    given_obliged stamp here (acts.Learn t other outcomes.Abort) = gives G t _ (λ tx p. p)
    given_obliged stamp here (acts.Answer client line said) = ((λ node inc tx p. p), (λ tx p. p))
    given_obliged stamp here (acts.Loan t client) = gives_for G t _ (λ other tx p. p) (borrower_at client here)
    given_obliged stamp here (acts.Yield t client) = gives_for G t _ (λ other tx p. p) (borrower_at client here)
    given_obliged stamp here acts.Tick = λ tx p. p
    given_obliged stamp here (acts.Crash cause) = λ tx p. p
    given_obliged stamp here (acts.Restart inc pend done) = (record { learnt = λ member tx p. p; decided = λ place outcome cause tx p. p; found = λ server covers changes tx p. p }, λ tx p. p)

  module _ (member : Member) (number : ℕ) where
    abbrev S : TransactionValue → Type 0
    S = IsServed n i member number

    abbrev key : RequestNo
    key = way_between n member.node.0 number

    -- with the same requests, crossings and numbers
    left : (tx later : TransactionValue) → later.requests ≡ tx.requests → later.crossed ≡ tx.crossed → sent_in i (sent_on later key.link) ≡ sent_in i (sent_on tx key.link) → S tx → S later
    left tx later requests crossed sent s = record { none = by s.none; given = given_as n i member.node.0 number tx later sent s.given }
      where
        by : (is_crossed tx member ≡ true) ⊎ (standing_request tx key member ≡ None) → (is_crossed later member ≡ true) ⊎ (standing_request later key member ≡ None)
        by (inl is) = inl (ap (λ (xs : List (Member × ℕ)). is_some (lookup (is_at (member_cmp member)) xs)) crossed ∙ is)
        by (inr none) = inr (ap (λ (rs : List (RequestNo × List Request)). find (is_standing member) (requests_in rs key)) requests ∙ none)

    same_left : (tx later : TransactionValue) → later.requests ≡ tx.requests → later.crossed ≡ tx.crossed → later.sent ≡ tx.sent → S tx → S later
    same_left tx later requests crossed sent = left tx later requests crossed (ap (λ es. sent_in i (lookup (is_at (link_cmp key.link)) es)) sent)

    -- none that stood stands
    none_still : (tx later : TransactionValue) → (is_some (standing_request later key member) ≡ true → is_some (standing_request tx key member) ≡ true) → standing_request tx key member ≡ None → standing_request later key member ≡ None
    none_still tx later back none = by (standing_request later key member) refl
      where
        by : (o : Option Request) → standing_request later key member ≡ o → standing_request later key member ≡ None
        by None is = is
        by (Some r) is = absurd (let stood : is_some (standing_request tx key member) ≡ true = back (ap is_some is) in cc (sym (ap is_some none) ∙ stood))

    issued_on : (stamp here : ℕ) (t : Tid) (issuer other : Member) (k : ℕ) (op : Op) → broken book (entry_of here stamp (acts.Issue t issuer other k op)) ≡ None → Obliged tid S S book stamp here (acts.Issue t issuer other k op)
    issued_on stamp here t issuer other k op fine = record { own = λ same tx found s. own same tx found s; other = λ apart tx s. s }
      where
        at : RequestNo
        at = record { link = link_to here other; number = k }

        request : Request
        request = record { issuer = issuer; member = other; op = op; inc = inc_at book (record { 0 = here }); served = false }

        own : same_tid t tid ≡ true → (tx : TransactionValue) → find_transaction book tid ≡ Some tx → S tx → S (issued at request (inc_at book other.node) book.place tx)
        own same tx found s = record { none = by s.none; given = given_issued n i member.node.0 number tx at request (inc_at book other.node) book.place (here_now here) s.given }
          where
            new : TransactionValue
            new = issued at request (inc_at book other.node) book.place tx

            never : (a b : ℕ) → a ≡ b + 1 → a ≤ b → ⊥
            never a b p q = omega (arith, p, q)

            next : k ≡ sent_in (inc_at book (record { 0 = here })) (sent_on tx at.link) + 1
            next = numbered_next book here stamp t issuer other k op fine tx (ap (find_transaction book) (same_tid-true t tid same) ∙ found)

            its : key ≡ at → ⊥
            its is = never k (sent_in i (sent_on tx at.link)) (subst (λ (j : ℕ). k ≡ sent_in j (sent_on tx at.link) + 1) (here_now here (ap (λ (r : RequestNo). r.link.from.0) (sym is))) next)
                (subst (λ (r : RequestNo). r.number ≤ sent_in i (sent_on tx r.link)) is s.given)

            back : is_some (standing_request new key member) ≡ true → is_some (standing_request tx key member) ≡ true
            back stands = of (stood_or_new tx at request (inc_at book other.node) book.place key member stands)
              where
                of : (key ≡ at) ⊎ (is_some (standing_request tx key member) ≡ true) → is_some (standing_request tx key member) ≡ true
                of (inl is) = absurd (its is)
                of (inr stood) = stood

            by : (is_crossed tx member ≡ true) ⊎ (standing_request tx key member ≡ None) → (is_crossed new member ≡ true) ⊎ (standing_request new key member ≡ None)
            by (inl is) = inl (crossed_more (standing_request tx at other) book.place other member tx.crossed is)
            by (inr none) = inr (none_still tx new back none)

    served_on : (at : RequestNo) (other : Member) (inc stamp : ℕ) (done : Bool) (tx : TransactionValue) → S tx → S (served_in at other inc stamp done tx)
    served_on at other inc stamp done tx s = record { none = by s.none; given = s.given }
      where
        later : TransactionValue
        later = served_in at other inc stamp done tx

        by : (is_crossed tx member ≡ true) ⊎ (standing_request tx key member ≡ None) → (is_crossed later member ≡ true) ⊎ (standing_request later key member ≡ None)
        by (inl is) = inl is
        by (inr none) = inr (none_still tx later (stood_served tx at other inc stamp done key member) none)

    served_obliged : (stamp here : ℕ) (act : Act) → broken book (entry_of here stamp act) ≡ None → Obliged tid S S book stamp here act
    served_obliged stamp here (acts.Begin t label client) fine = λ tx p. p
    served_obliged stamp here (acts.Issue t issuer other k op) fine = issued_on stamp here t issuer other k op fine
    served_obliged stamp here (acts.Serve t other from k reply) fine = gives S t _ (λ tx p. served_on _ other _ stamp _ tx p)
    served_obliged stamp here (acts.Vote t other ballot covers) fine = gives S t _ (λ tx p. same_left tx _ refl refl refl p)
    served_obliged stamp here (acts.Ask t) fine = gives S t _ (λ tx p. same_left tx _ refl refl refl p)
    served_obliged stamp here (acts.Counted t peer up_to) fine = gives S t _ (λ tx p. left tx _ refl refl (counted_given (record { from = record { 0 = here }; to = peer }) (inc_at book (record { 0 = here })) up_to (inc_at book peer) tx i key.link) p)
    served_obliged stamp here (acts.Decide t outcome cause) fine = gives S t _ (λ tx p. same_left tx _ refl refl refl p)
    served_obliged stamp here (acts.Ending t other) fine = gives S t _ (λ tx p. same_left tx _ refl refl refl p)
    served_obliged stamp here (acts.Learn t other outcomes.Commit) fine = gives S t _ (λ tx p. same_left tx _ refl refl refl p)
    served_obliged stamp here (acts.Learn t other outcomes.Abort) fine = gives S t _ (λ tx p. same_left tx _ refl refl refl p)
    served_obliged stamp here (acts.Answer client line said) fine = ((λ node inc tx p. same_left tx _ refl refl refl p), (λ tx p. p))
    served_obliged stamp here (acts.Loan t client) fine = gives_for S t _ (λ other tx p. same_left tx _ refl refl refl p) (borrower_at client here)
    served_obliged stamp here (acts.Yield t client) fine = gives_for S t _ (λ other tx p. same_left tx _ refl refl refl p) (borrower_at client here)
    served_obliged stamp here acts.Tick fine = λ tx p. p
    served_obliged stamp here (acts.Crash cause) fine = λ tx p. p
    served_obliged stamp here (acts.Restart inc pend done) fine = (record { learnt = λ m tx p. same_left tx _ refl refl refl p; decided = λ place outcome cause tx p. same_left tx _ refl refl refl p; found = λ server covers changes tx p. same_left tx _ refl refl refl p }, λ tx p. p)

-- ---- while the node begins no later incarnation

pub stays : (book : BookValue) (entry : Entry) (n i : ℕ) (tid : Tid) (P Q : TransactionValue → Type 0) → Inv book → broken book entry ≡ None → (inc_at book (record { 0 = n }) ≡ i → Obliged tid P Q book entry.stamp entry.node.0 entry.act) → IsOfLast book n i tid P → IsOfLast (effect book entry) n i tid Q
stays book entry n i tid P Q inv fine obliged last = of (restarts (record { 0 = n }) entry) refl
  where
    pace : Paced tid (record { 0 = n }) entry (inc_at book) (inc_at (effect book entry))
    pace = paced tid (record { 0 = n }) book entry fine

    never : (a b c : ℕ) → a ≤ b → b < c → c ≡ a → ⊥
    never a b c p q e = omega (arith, p, q, e)

    of : (b : Bool) → restarts (record { 0 = n }) entry ≡ b → IsOfLast (effect book entry) n i tid Q
    of true is = record {
      begun = le_lt_le _ _ _ last.begun (pace.later (record { 0 = n }) is);
      holds = λ now. absurd (never _ _ _ last.begun (pace.later (record { 0 = n }) is) now);
    }
    of false is = record {
      begun = subst (λ (k : ℕ). i ≤ k) (sym (pace.still (record { 0 = n }) is)) last.begun;
      holds = λ now. let was : inc_at book (record { 0 = n }) ≡ i = sym (pace.still (record { 0 = n }) is) ∙ now in step_turns tid P Q book entry inv fine (obliged was) (last.holds was);
    }

pub given_stays : GivenStays
given_stays book entry n i m tid number inv fine = stays book entry n i tid (HasGiven n i m number) (HasGiven n i m number) inv fine (λ now. given_obliged tid n i book now m number entry.stamp entry.node.0 entry.act)

pub served_stays : ServedStays
served_stays book entry n i tid member number inv fine = stays book entry n i tid (IsServed n i member number) (IsServed n i member number) inv fine (λ now. served_obliged tid n i book now member number entry.stamp entry.node.0 entry.act fine)
