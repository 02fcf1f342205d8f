-- What all places hold of a transaction goes on through each act: those that bear on it, where the field has room for what they do, and all others.
use Rattle.qs_world_runs.proofs.Words.{◌≡◌, ◌⊎◌, inl, inr, ℕ, ◌<◌, Bool, true, false, List, Option, Some, None, refl, sym, ap, subst, ◌∙◌, le_refl, is_some, is_at, lookup, same_tid-true, same_tid, ClientNo, Member, NodeNo, Tid, Act, Entry, Inv, Gives, GivesFor, Obliged, step_turns, BookValue, find_transaction, inc_at, borrower_at, broken, effect, TransactionValue, cell_of, changed_value, crossed_by, ended_part, given_back, is_empty, issued, learnt_part, life, life_cmp, link_cmp, sent_in}
use Rattle.qs_world_runs.proofs.Words.{sent_on, standing_request, voted_part, yielded_part, Life, Link, Part, Request, RequestNo, Sent, class_of, Op, Reply, Vote, same_or_apart, Begins, Turning, by_entry, AreIssued, Field, IsMember, IsPresent, OpenPlaced, is_against, is_loud, Here, eqb-self, same_Some}
use Rattle.qs_base.specs.declared.identifiers.Class.TheVariants as classes
use Rattle.qs_base.specs.declared.identifiers.Outcome.{Outcome}
use Rattle.qs_base.specs.declared.identifiers.Outcome.TheVariants as outcomes
use Rattle.qs_book_journal.specs.declared.entry.Act.TheVariants as acts
use Rattle.qs_book_laws.proofs.Turns.{Same}
use Rattle.qs_book_machine.specs.Book.{is_done}
use Rattle.qs_book_machine.specs.Transaction.{begun, ended, is_open, learnt, lent, next_number, served_in, voted}
use Rattle.qs_book_machine.specs.declared.transaction.Refusal.{Refusal}
use Rattle.qs_ops.specs.declared.vote.Vote.TheVariants as votes
use Rattle.qs_world_lawful.proofs.Apart.{Apart}
use Rattle.qs_world_runs.proofs.PlacedIssued.{counted_given, issued_left, issued_on, none_stood, served_on}
use Rattle.qs_world_runs.proofs.PlacedTx.{Grows, IsBare, PlacedIn, SameDeeds, bare_same, in_grown, in_part, placed_in, placed_of}
use Rattle.qs_world_runs.proofs.PlacedServes.{LessRoom, MoreRoom, in_issued, lent_placed, served_placed}

-- ---- the field grows

itself_grows : (tid : Tid) (field : Field) → Grows tid field field
itself_grows tid field = record {
  nodes = record { size = refl; up = λ k. refl; inc = λ k. refl };
  room = λ at. record { runs = λ up server. le_refl _; stopped = λ off server. le_refl _ };
}

pub open_grown : (tid : Tid) (old new : Field) → Grows tid old new → (tx : TransactionValue) → OpenPlaced tid old tx → OpenPlaced tid new tx
open_grown tid old new g tx p undecided = let its = p undecided in placed_of tid tx new (issued_left tx tx old new refl (λ k l. refl) g.nodes.up g.nodes.inc its.issued) its.unrefused its.uncrossed (in_grown tid old new g tx.requests tx.parts (placed_in tid tx old its))

-- ---- acts that do not bear on it

module _ (tid : Tid) (field : Field) where
  abbrev P : TransactionValue → Type 0
  P = OpenPlaced tid field

  -- what leaves its requests and how many were given, votes against it and crossings, and of each part what was done
  left : (old new : TransactionValue) → new.requests ≡ old.requests → ((k : ℕ) (l : Link) → sent_in k (sent_on new l) ≡ sent_in k (sent_on old l)) → new.parts ≡ old.parts → new.refusals ≡ old.refusals → new.crossed ≡ old.crossed → (is_open new.cell ≡ true → is_open old.cell ≡ true) → P old → P new
  left old new rs given ps fs xs stays p undecided = let its = p (stays undecided) in
      placed_of tid new field (issued_left old new field field rs given (λ k. refl) (λ k. refl) its.issued) (ap (λ (fs : List Refusal). is_empty fs) fs ∙ its.unrefused) (ap (λ (xs : List (Member × ℕ)). is_empty xs) xs ∙ its.uncrossed)
      (subst (λ (requests : List (RequestNo × List Request)). PlacedIn tid field requests new.parts) (sym rs) (subst (λ (parts : List (Life × Part)). PlacedIn tid field old.requests parts) (sym ps) (placed_in tid old field its)))

  -- what leaves requests and links
  as_before : (old new : TransactionValue) → new.requests ≡ old.requests → new.sent ≡ old.sent → AreIssued old field → AreIssued new field
  as_before old new rs sent are = issued_left old new field field rs (λ k l. ap (λ (es : List (Link × Sent)). sent_in k (lookup (is_at (link_cmp l)) es)) sent) (λ k. refl) (λ k. refl) are

  -- a part of which no deed changes
  deeds : (member : Member) (inc : ℕ) (f : Part → Part) → ((part : Part) → SameDeeds part (f part)) → (tx : TransactionValue) → P tx
      → is_open tx.cell ≡ true → PlacedIn tid field tx.requests (changed_value (is_at (life_cmp (life member inc))) f tx.parts)
  deeds member inc f same tx p undecided = in_part tid field field (itself_grows tid field) (life member inc) f (λ part bare. bare_same field (life member inc) part (f part) (same part) bare) tx.requests tx.parts (placed_in tid tx field (p undecided))

  ended_kept : (member : Member) (inc : ℕ) → Same P (λ (tx : TransactionValue). P (ended member inc tx))
  ended_kept member inc tx p undecided = let its = p undecided in
      placed_of tid (ended member inc tx) field (as_before tx (ended member inc tx) refl refl its.issued) its.unrefused its.uncrossed (deeds member inc ended_part (λ part. record { served = refl; voted = refl; covered = refl; made = refl; yielded = refl }) tx p undecided)

  learnt_same : (outcome : Outcome) (part : Part) → SameDeeds part (learnt_part outcome part)
  learnt_same outcomes.Commit part = record { served = refl; voted = refl; covered = refl; made = refl; yielded = refl }
  learnt_same outcomes.Abort part = record { served = refl; voted = refl; covered = refl; made = refl; yielded = refl }

  learnt_kept : (member : Member) (inc : ℕ) (outcome : Outcome) → Same P (λ (tx : TransactionValue). P (learnt member inc outcome tx))
  learnt_kept member inc outcomes.Commit tx p undecided = let its = p undecided in
      placed_of tid (learnt member inc outcomes.Commit tx) field (as_before tx (learnt member inc outcomes.Commit tx) refl refl its.issued) its.unrefused its.uncrossed (deeds member inc (learnt_part outcomes.Commit) (learnt_same outcomes.Commit) tx p undecided)
  learnt_kept member inc outcomes.Abort tx p undecided = let its = p undecided in
      placed_of tid (learnt member inc outcomes.Abort tx) field (as_before tx (learnt member inc outcomes.Abort tx) refl refl its.issued) its.unrefused its.uncrossed (deeds member inc (learnt_part outcomes.Abort) (learnt_same outcomes.Abort) tx p undecided)

  -- each change by a function that keeps it
  gives : (book : BookValue) (t : Tid) (f : TransactionValue → TransactionValue) → ((tx : TransactionValue) → P tx → P (f tx)) → Gives tid P P book t f
  gives book t f keeps = record { own = λ same tx found p. keeps tx p; other = λ apart tx p. p }

  aside : (book : BookValue) (t : Tid) (f : TransactionValue → TransactionValue) → same_tid t tid ≡ false → Gives tid P P book t f
  aside book t f apart = record { own = λ same tx found p. absurd (cc (same, apart)); other = λ apart tx p. p }

  aside_for : (book : BookValue) (t : Tid) (f : Member → TransactionValue → TransactionValue) (o : Option Member) → same_tid t tid ≡ false → GivesFor tid P P book t f o
  aside_for book t f None apart = λ tx p. p
  aside_for book t f (Some other) apart = aside book t (f other) apart

  never_open : (outcome : Outcome) → is_open (cell_of outcome) ≡ true → ⊥
  never_open outcomes.Commit is = cc is
  never_open outcomes.Abort is = cc is

  pub quiet_obliged : (book : BookValue) (stamp here : ℕ) (act : Act) → is_loud tid act ≡ false → Obliged tid P P book stamp here act
  quiet_obliged book stamp here (acts.Begin t label client) quiet = λ tx p. p
  quiet_obliged book stamp here (acts.Issue t issuer other n op) quiet = aside book t _ quiet
  quiet_obliged book stamp here (acts.Serve t other from n reply) quiet = aside book t _ quiet
  quiet_obliged book stamp here (acts.Vote t other ballot covers) quiet = aside book t _ quiet
  quiet_obliged book stamp here (acts.Ask t) quiet = gives book t _ (λ tx p. left tx _ refl (λ k l. refl) refl refl refl (λ is. is) p)
  quiet_obliged book stamp here (acts.Counted t peer up_to) quiet = gives book t _ (λ tx p. left tx _ refl (counted_given (record { from = record { 0 = here }; to = peer }) (inc_at book (record { 0 = here })) up_to (inc_at book peer) tx) refl refl refl (λ is. is) p)
  quiet_obliged book stamp here (acts.Decide t outcome cause) quiet = gives book t _ (λ tx p undecided. absurd (never_open outcome undecided))
  quiet_obliged book stamp here (acts.Ending t other) quiet = gives book t _ (λ tx p. ended_kept other _ tx p)
  quiet_obliged book stamp here (acts.Learn t other outcome) quiet = gives book t _ (λ tx p. learnt_kept other _ outcome tx p)
  quiet_obliged book stamp here (acts.Answer client line said) quiet = ((λ node inc tx p. left tx _ refl (λ k l. refl) refl refl refl (λ is. is) p), λ tx p. p)
  quiet_obliged book stamp here (acts.Loan t client) quiet = aside_for book t _ (borrower_at client here) quiet
  quiet_obliged book stamp here (acts.Yield t client) quiet = aside_for book t _ (borrower_at client here) quiet
  quiet_obliged book stamp here acts.Tick quiet = λ tx p. p
  quiet_obliged book stamp here (acts.Crash cause) quiet = λ tx p. p
  quiet_obliged book stamp here (acts.Restart inc pend done) quiet = absurd (cc quiet)

  -- one that begins has nothing anywhere
  pub begun_placed : (label : List ℕ) (client : ClientNo) (ticks : ℕ) → P (begun label client ticks)
  begun_placed label client ticks undecided = record { numbers = tt; members = tt; requests = tt; issued = λ at member stands. absurd (cc stands); lives = tt; unrefused = refl; uncrossed = refl }

-- ---- an entry, whatever it is of the transaction

module _ (tid : Tid) (P Q : TransactionValue → Type 0) (book : BookValue) (entry : Entry) (i : Inv book) (h : broken book entry ≡ None) where
  pub step_here : Obliged tid P Q book entry.stamp entry.node.0 entry.act → ((label : List ℕ) (client : ClientNo) (ticks : ℕ) → entry.act ≡ acts.Begin tid label client → Q (begun label client ticks)) → Here tid P book → Here tid Q (effect book entry)
  step_here g fresh before later found = by (find_transaction book tid) refl
    where
      known : (tx : TransactionValue) → find_transaction book tid ≡ Some tx → Q later
      known tx is = let s = step_turns tid P Q book entry i h g (record { tx = tx; found = is; holds = before tx is }) in subst Q (same_Some s.tx later (sym s.found ∙ found)) s.holds

      new : find_transaction book tid ≡ None → Begins book entry ⊎ Turning book entry → Q later
      new none (inr t) = absurd (let still : find_transaction (effect book entry) tid ≡ None = t.turned.none tid none in cc (still, found))
      new none (inl b) = own (same_or_apart b.tid tid)
        where
          own : (b.tid ≡ tid) ⊎ Apart b.tid tid → Q later
          own (inl same) = subst Q (same_Some _ later (sym b.stands ∙ (ap (find_transaction (effect book entry)) same ∙ found))) (fresh b.label b.client _ (b.act ∙ ap (λ (u : Tid). acts.Begin u b.label b.client) same))
          own (inr apart) = absurd (let still : find_transaction (effect book entry) tid ≡ None = b.others tid apart ∙ none in cc (still, found))

      by : (o : Option TransactionValue) → find_transaction book tid ≡ o → Q later
      by None none = new none (by_entry book entry i h)
      by (Some tx) is = known tx is

-- ---- acts that do, of this transaction

module _ (tid : Tid) (old new : Field) where
  -- a request is issued that has room, under the next number: it crosses none
  pub issue_obliged : (g : Grows tid old new) (book : BookValue) (stamp here : ℕ) (t : Tid) (issuer member : Member) (number : ℕ) (op : Op) → here < new.size → new.up here ≡ true → inc_at book (record { 0 = here }) ≡ new.inc here → member.node.0 < new.size
      → MoreRoom tid old new (record { link = record { from = record { 0 = here }; to = member.node }; number = number }) (record { issuer = issuer; member = member; op = op; inc = inc_at book (record { 0 = here }); served = false })
      → ((tx : TransactionValue) → find_transaction book t ≡ Some tx → number ≡ next_number tx (record { from = record { 0 = here }; to = member.node }) (inc_at book (record { 0 = here })))
      → Obliged tid (OpenPlaced tid old) (OpenPlaced tid new) book stamp here (acts.Issue t issuer member number op)
  issue_obliged g book stamp here t issuer member number op n_in up now m_in room next = record {
    own = λ same tx found p undecided. let its = p undecided in let last : number ≡ next_number tx at.link request.inc = next tx (ap (find_transaction book) (same_tid-true t tid same) ∙ found) in
        placed_of tid (issued at request (inc_at book member.node) book.place tx) new (issued_on tx at request (inc_at book member.node) book.place old new g.nodes.up g.nodes.inc up now last its.issued)
        its.unrefused (uncrossed tx (none_stood tx at request (inc_at book member.node) book.place old (now ∙ g.nodes.inc here) last its.issued member) its.uncrossed)
        (in_issued tid old new g at request n_in m_in (eqb-self member.node.0) room tx.requests tx.parts (placed_in tid tx old its));
    other = λ far tx p. open_grown tid old new g tx p;
  }
    where
      at : RequestNo
      at = record { link = record { from = record { 0 = here }; to = member.node }; number = number }

      request : Request
      request = record { issuer = issuer; member = member; op = op; inc = inc_at book (record { 0 = here }); served = false }

      uncrossed : (tx : TransactionValue) → standing_request tx at member ≡ None → is_empty tx.crossed ≡ true → is_empty (crossed_by (standing_request tx at member) book.place member tx.crossed) ≡ true
      uncrossed tx none is = rw none is

  -- a vote is cast for a commit
  for_it : (ballot : Vote) → is_against ballot ≡ false → (tx : TransactionValue) (member : Member) (inc : ℕ) → (voted member inc ballot tx).refusals ≡ tx.refusals
  for_it (votes.Abort reason) against tx member inc = absurd (cc against)
  for_it votes.ReadOnly against tx member inc = refl
  for_it votes.Volatile against tx member inc = refl
  for_it votes.Recoverable against tx member inc = refl

  cast_bare : (ballot : Vote) → is_against ballot ≡ false → (member : Member) (inc : ℕ) (part : Part) → IsPresent new (life member inc) → IsBare old (life member inc) part → IsBare new (life member inc) (voted_part ballot part)
  cast_bare (votes.Abort reason) against member inc part present bare = absurd (cc against)
  cast_bare votes.ReadOnly against member inc part present bare = record { member = bare.member; cast = λ two. refl; made = bare.made; lives = inl present }
  cast_bare votes.Volatile against member inc part present bare = record { member = bare.member; cast = λ two. refl; made = bare.made; lives = inl present }
  cast_bare votes.Recoverable against member inc part present bare = record { member = bare.member; cast = λ two. refl; made = bare.made; lives = inl present }

  pub vote_obliged : (g : Grows tid old new) (book : BookValue) (stamp here : ℕ) (t : Tid) (member : Member) (ballot : Vote) (covers : ℕ) → is_against ballot ≡ false → IsPresent new (life member (inc_at book (record { 0 = here })))
      → Obliged tid (OpenPlaced tid old) (OpenPlaced tid new) book stamp here (acts.Vote t member ballot covers)
  vote_obliged g book stamp here t member ballot covers against present = record {
    own = λ same tx found p undecided. let its = p undecided in
        placed_of tid (voted member inc ballot tx) new (issued_left tx (voted member inc ballot tx) old new refl (λ k l. refl) g.nodes.up g.nodes.inc its.issued) (ap (λ (fs : List Refusal). is_empty fs) (for_it ballot against tx member inc) ∙ its.unrefused) its.uncrossed
        (in_part tid old new g (life member inc) (voted_part ballot) (λ part bare. cast_bare ballot against member inc part present bare) tx.requests tx.parts (placed_in tid tx old its));
    other = λ far tx p. open_grown tid old new g tx p;
  }
    where
      inc : ℕ
      inc = inc_at book (record { 0 = here })

  -- a loan is given back
  pub yield_obliged : (g : Grows tid old new) (book : BookValue) (stamp here : ℕ) (t : Tid) (client : ClientNo) → ((member : Member) → borrower_at client here ≡ Some member → IsPresent new (life member (inc_at book (record { 0 = here }))))
      → Obliged tid (OpenPlaced tid old) (OpenPlaced tid new) book stamp here (acts.Yield t client)
  yield_obliged g book stamp here t client present = by (borrower_at client here) refl
    where
      inc : ℕ
      inc = inc_at book (record { 0 = here })

      by : (o : Option Member) → borrower_at client here ≡ o → GivesFor tid (OpenPlaced tid old) (OpenPlaced tid new) book t (λ member. given_back member inc) o
      by None none = λ tx p. open_grown tid old new g tx p
      by (Some member) is = record {
        own = λ same tx found p undecided. let its = p undecided in
            placed_of tid (given_back member inc tx) new (issued_left tx (given_back member inc tx) old new refl (λ k l. refl) g.nodes.up g.nodes.inc its.issued) its.unrefused its.uncrossed
            (in_part tid old new g (life member inc) yielded_part (λ part bare. record { member = bare.member; cast = bare.cast; made = bare.made; lives = inl (present member is) }) tx.requests tx.parts (placed_in tid tx old its));
        other = λ far tx p. open_grown tid old new g tx p;
      }

-- ---- one is served, and lent where its member is a client

module _ (tid : Tid) (old new : Field) (book : BookValue) (here : ℕ) (t : Tid) (member : Member) (from : NodeNo) (number : ℕ) (same : same_tid t tid ≡ true) where
  abbrev at : RequestNo
  at = record { link = record { from = from; to = member.node }; number = number }

  abbrev inc : ℕ
  inc = inc_at book (record { 0 = here })

  -- each other transaction is another's
  own_alone : (P Q : TransactionValue → Type 0) (f : TransactionValue → TransactionValue) → ((tx : TransactionValue) → find_transaction book tid ≡ Some tx → P tx → Q (f tx)) → Gives tid P Q book t f
  own_alone P Q f goes = record { own = λ is tx found p. goes tx found p; other = λ apart. absurd (cc (same, apart)) }

  pub serve_obliged : (stamp : ℕ) (reply : Reply) (less : LessRoom tid old new at member) → IsMember member.server → IsPresent new (life member inc) → ((tx : TransactionValue) → find_transaction book tid ≡ Some tx → is_some (standing_request tx at member) ≡ true)
      → (class_of member.server.0 ≡ classes.Activity → ⊥) → Obliged tid (OpenPlaced tid old) (OpenPlaced tid new) book stamp here (acts.Serve t member from number reply)
  serve_obliged stamp reply less is_member present stands plain = own_alone (OpenPlaced tid old) (OpenPlaced tid new) (served_in at member inc stamp (is_done reply)) (λ tx found p undecided. let its = p undecided in
      placed_of tid (served_in at member inc stamp (is_done reply) tx) new (served_on tx at member inc stamp (is_done reply) old new less.nodes.up less.nodes.inc its.issued) its.unrefused its.uncrossed (served_placed tid tx old new at member inc stamp (is_done reply) less is_member present (stands tx found) (placed_in tid tx old its) plain))

  -- what was so placed before it was served
  pub record WasServed (stamp : ℕ) (done : Bool) (later : TransactionValue) : Type 0 where
    pub before : TransactionValue
    pub is : later ≡ served_in at member inc stamp done before
    pub stood : is_some (standing_request before at member) ≡ true
    pub placed : OpenPlaced tid old before

  pub client_obliged : (stamp : ℕ) (reply : Reply) → ((tx : TransactionValue) → find_transaction book tid ≡ Some tx → is_some (standing_request tx at member) ≡ true)
      → Obliged tid (OpenPlaced tid old) (λ (later : TransactionValue). WasServed stamp (is_done reply) later) book stamp here (acts.Serve t member from number reply)
  client_obliged stamp reply stands = own_alone (OpenPlaced tid old) (λ (later : TransactionValue). WasServed stamp (is_done reply) later) (served_in at member inc stamp (is_done reply)) (λ tx found p. record { before = tx; is = refl; stood = stands tx found; placed = p })

  pub loan_obliged : (after : BookValue) (stamp : ℕ) (done : Bool) (client : ClientNo) (less : LessRoom tid old new at member) → IsMember member.server → IsPresent new (life member inc) → class_of member.server.0 ≡ classes.Activity
      → inc_at after (record { 0 = here }) ≡ inc → borrower_at client here ≡ Some member → Obliged tid (λ (later : TransactionValue). WasServed stamp done later) (OpenPlaced tid new) after stamp here (acts.Loan t client)
  loan_obliged after stamp done client less is_member present is_client now is = subst (λ (o : Option Member). GivesFor tid (λ (later : TransactionValue). WasServed stamp done later) (OpenPlaced tid new) after t (λ other. lent other (inc_at after (record { 0 = here }))) o) (sym is)
      (subst (λ (k : ℕ). Gives tid (λ (later : TransactionValue). WasServed stamp done later) (OpenPlaced tid new) after t (lent member k)) (sym now)
      (record { own = λ its later found was. lends later was; other = λ apart. absurd (cc (same, apart)) }))
    where
      lends : (later : TransactionValue) → WasServed stamp done later → OpenPlaced tid new (lent member inc later)
      lends later was = subst (λ (x : TransactionValue). OpenPlaced tid new (lent member inc x)) (sym was.is) (λ undecided. let its = was.placed undecided in
          placed_of tid (lent member inc (served_in at member inc stamp done was.before)) new
          (issued_left (served_in at member inc stamp done was.before) (lent member inc (served_in at member inc stamp done was.before)) new new refl (λ k l. refl) (λ k. refl) (λ k. refl) (served_on was.before at member inc stamp done old new less.nodes.up less.nodes.inc its.issued)) its.unrefused its.uncrossed (lent_placed tid was.before old new at member inc stamp done less is_member present was.stood (placed_in tid was.before old its) is_client))
