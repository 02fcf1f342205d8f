-- What another node does leaves what is held of the log of a node.
use Rattle.qs_world_lawful.proofs.Words.{◌≡◌, ℕ, ◌==◌, Bool, true, false, List, [], ◌∷◌, ◌++◌, Option, Some, None, refl, sym, ap, ◌∙◌, fold, if◌then◌else◌, slice_get, is_some, option_map, is_at, tid_cmp, Member, Tid, Act, Found, vote_by, restart_nodes, elsewhere, changed_alike, Inv, held, Facet, facet, TransactionValue, has_learnt, with_learnt, found_at, decided_at, BookValue, find_transaction, with_transaction, changed_at, learn_node, doubts_after, inc_at, broken, broken_at, effect, effect_act}
use Rattle.qs_world_lawful.proofs.Words.{is_among, member_at, record_at, is_open_here, learn_found, commit_found, vote_found, count_of, begun_tid, abort_begun, up_to, begun_at, put_new_votes, restart, restarted_node, reopened, with_votes, new_votes, Cause, Record, recovery, Manager, entry_of, Later, LearntOn, IsNamed, HoldsHost}
use Rattle.qs_base.specs.declared.identifiers.Outcome.TheVariants as outcomes
use Rattle.qs_book_journal.specs.declared.entry.Act.TheVariants as acts
use Rattle.qs_book_laws.proofs.Steps.{stepped}
use Rattle.qs_book_laws.proofs.Stills.{facet_at}
use Rattle.qs_book_machine.specs.Book.{decide}
use Rattle.qs_book_machine.specs.Lawful.{is_in_order}
use Rattle.qs_book_machine.specs.Nodes as machine
use Rattle.qs_ops.specs.declared.answer.Cause.TheVariants as causes
use Rattle.qs_ops.specs.declared.vote.Vote.TheVariants as votes
use Rattle.qs_world_lawful.proofs.LearntOn.{learnt_self, learnt_then, transaction_learnt, more_learnt}
use Rattle.qs_world_lawful.proofs.LogActs.{is_begun, plain_facets, acted_later, with_facet}
use Rattle.qs_world_lawful.proofs.LogFrames.{later, logged_on}
use Rattle.qs_world_lawful.proofs.Marks.{knows_on, knows_self}
use Rattle.qs_world_lawful.proofs.NamedActs.{named_after}

-- ---- a restart

-- the same transactions stand, and what has learnt has learnt
pub record Grows (old new : BookValue) : Type 0 where
  pub learnt : LearntOn old new
  pub same : (tid : Tid) → is_some (find_transaction new tid) ≡ is_some (find_transaction old tid)

grows_self : (book : BookValue) → Grows book book
grows_self book = record { learnt = learnt_self book; same = λ tid. refl }

grows_then : (old mid new : BookValue) → Grows old mid → Grows mid new → Grows old new
grows_then old mid new a b = record { learnt = learnt_then old mid new a.learnt b.learnt; same = λ tid. b.same tid ∙ a.same tid }

grows_if : (b : Bool) (old x y : BookValue) → Grows old x → Grows old y → Grows old (if b then x else y)
grows_if true old x y p q = p
grows_if false old x y p q = q

grows_fold : {A : Type 0} (f : BookValue → A → BookValue) → ((book : BookValue) (x : A) → Grows book (f book x)) → (xs : List A) (book : BookValue) → Grows book (fold f book xs)
grows_fold f each [] book = grows_self book
grows_fold f each (x ∷ xs) book = grows_then book (f book x) (fold f (f book x) xs) (each book x) (grows_fold f each xs (f book x))

some_of : (o p : Option TransactionValue) → option_map (λ (x : TransactionValue). true) p ≡ option_map (λ (x : TransactionValue). true) o → is_some p ≡ is_some o
some_of None None e = refl
some_of None (Some y) e = absurd (cc e)
some_of (Some x) None e = absurd (cc e)
some_of (Some x) (Some y) e = refl

grows_at : (tid : Tid) (f : TransactionValue → TransactionValue) → ((tx : TransactionValue) (member : Member) → has_learnt tx member ≡ true → has_learnt (f tx) member ≡ true) → (book : BookValue) → Grows book (with_transaction tid f book)
grows_at tid f keeps book = record {
  learnt = transaction_learnt tid f keeps book;
  same = λ t. some_of (find_transaction book t) (find_transaction (with_transaction tid f book) t) (changed_alike (is_at (tid_cmp tid)) (λ (x : TransactionValue). true) f (λ x. refl) (is_at (tid_cmp t)) book.transactions);
}

grows_decided : (tid : Tid) (commits : Bool) (cause : Option Cause) (book : BookValue) → Grows book (decide tid (if commits then outcomes.Commit else outcomes.Abort) cause book)
grows_decided tid commits cause book =
    let g = grows_at tid (decided_at book.place (if commits then outcomes.Commit else outcomes.Abort) cause) (λ tx m is. is) book in
    record { learnt = g.learnt; same = g.same }

grows_learn : (here : ℕ) (tid : Tid) (server : ℕ) (book : BookValue) → Grows book (learn_found here tid server book)
grows_learn here tid server book = grows_if (is_some (record_at here book tid server)) book (with_transaction tid (with_learnt (member_at here server)) book) book (grows_at tid (with_learnt (member_at here server)) (more_learnt (member_at here server)) book) (grows_self book)

grows_commit : (here : ℕ) (book : BookValue) (tid : Tid) → Grows book (commit_found here book tid)
grows_commit here book tid =
    let zeroth : BookValue = learn_found here tid 0 book in
    let first : BookValue = learn_found here tid 1 zeroth in
    let sixth : BookValue = learn_found here tid 6 first in
    grows_then book zeroth (commit_found here book tid) (grows_learn here tid 0 book)
    (grows_then zeroth first (commit_found here book tid) (grows_learn here tid 1 zeroth)
    (grows_then first sixth (commit_found here book tid) (grows_learn here tid 6 first)
    (grows_if (is_open_here here tid (find_transaction sixth tid)) sixth (decide tid outcomes.Commit None sixth) sixth (grows_decided tid true None sixth) (grows_self sixth))))

grows_vote : (here inc : ℕ) (done : List Tid) (book : BookValue) (found : Found) → Grows book (vote_found here inc done book found)
grows_vote here inc done book found =
    let f : TransactionValue → TransactionValue = found_at (member_at here found.server.0) inc found.covers (count_of (record_at here book found.tid found.server.0)) in
    grows_if (is_among done found.tid) book book (with_transaction found.tid f book) (grows_self book) (grows_at found.tid f (λ tx m is. is) book)

grows_abort : (here inc : ℕ) (book : BookValue) (seq : ℕ) → Grows book (abort_begun here inc book seq)
grows_abort here inc book seq =
    grows_if (is_open_here here (begun_tid here inc seq) (find_transaction book (begun_tid here inc seq))) book (decide (begun_tid here inc seq) outcomes.Abort (Some (causes.Home inc)) book) book
    (grows_decided (begun_tid here inc seq) false (Some (causes.Home inc)) book) (grows_self book)

grows_restart : (here inc : ℕ) (pend : List Found) (done : List Tid) (book : BookValue) → Grows book (restart here inc pend done book)
grows_restart here inc pend done book =
    let read : BookValue = put_new_votes here pend book in
    let committed : BookValue = fold (commit_found here) read done in
    let voted : BookValue = fold (vote_found here inc done) committed pend in
    let was : ℕ = inc_at read (record { 0 = here }) in
    let g = grows_then read committed (fold (abort_begun here was) voted (up_to (begun_at here read))) (grows_fold (commit_found here) (grows_commit here) done read)
    (grows_then committed voted (fold (abort_begun here was) voted (up_to (begun_at here read))) (grows_fold (vote_found here inc done) (grows_vote here inc done) pend committed)
    (grows_fold (abort_begun here was) (grows_abort here was) (up_to (begun_at here read)) voted)) in
    record { learnt = g.learnt; same = g.same }

-- ---- any act

module _ (book : BookValue) (i : Inv book) (stamp m n : ℕ) (far : (m == n) ≡ false) where
  -- what is on record at a node is changed there alone
  facets : (act : Act) → facet_at (effect_act stamp m act book) n ≡ facet_at book n
  facets (acts.Vote tid member votes.Recoverable covers) = ap (option_map facet) (elsewhere (vote_by book m tid member votes.Recoverable covers) book.nodes m n far)
  facets (acts.Vote tid member votes.ReadOnly covers) = plain_facets stamp m (acts.Vote tid member votes.ReadOnly covers) book refl n
  facets (acts.Vote tid member votes.Volatile covers) = plain_facets stamp m (acts.Vote tid member votes.Volatile covers) book refl n
  facets (acts.Vote tid member (votes.Abort reason) covers) = plain_facets stamp m (acts.Vote tid member (votes.Abort reason) covers) book refl n
  facets (acts.Learn tid member outcomes.Commit) = ap (option_map facet) (elsewhere (λ node. doubts_after tid member.server.0 (learn_node outcomes.Commit tid member.server.0 node)) book.nodes m n far)
  facets (acts.Learn tid member outcomes.Abort) = plain_facets stamp m (acts.Learn tid member outcomes.Abort) book refl n
  facets (acts.Restart inc pend done) =
      ap (λ (nodes : List machine.NodeValue). option_map facet (slice_get nodes n)) (restart_nodes m inc pend done book)
      ∙ (ap (option_map facet) (elsewhere (restarted_node (reopened m inc pend done (put_new_votes m pend book)) pend done) (changed_at m (with_votes (new_votes m book pend)) book.nodes) m n far)
      ∙ ap (option_map facet) (elsewhere (with_votes (new_votes m book pend)) book.nodes m n far))
  facets (acts.Begin tid label client) = plain_facets stamp m (acts.Begin tid label client) book refl n
  facets (acts.Issue tid issuer member number op) = plain_facets stamp m (acts.Issue tid issuer member number op) book refl n
  facets (acts.Serve tid member from number reply) = plain_facets stamp m (acts.Serve tid member from number reply) book refl n
  facets (acts.Ask tid) = refl
  facets (acts.Counted tid peer up_to) = plain_facets stamp m (acts.Counted tid peer up_to) book refl n
  facets (acts.Decide tid outcome cause) = refl
  facets (acts.Ending tid member) = plain_facets stamp m (acts.Ending tid member) book refl n
  facets (acts.Answer client line said) = plain_facets stamp m (acts.Answer client line said) book refl n
  facets (acts.Loan tid client) = plain_facets stamp m (acts.Loan tid client) book refl n
  facets (acts.Yield tid client) = plain_facets stamp m (acts.Yield tid client) book refl n
  facets acts.Tick = plain_facets stamp m acts.Tick book refl n
  facets (acts.Crash cause) = plain_facets stamp m (acts.Crash cause) book refl n

  actor : (act : Act) → broken book (entry_of m stamp act) ≡ None → (state : machine.NodeValue) × (slice_get book.nodes m ≡ Some state)
  actor act lawful = by (slice_get book.nodes m) refl (held (is_in_order book (entry_of m stamp act)) 1 _ lawful).1
    where
      by : (o : Option machine.NodeValue) → slice_get book.nodes m ≡ o → broken_at book stamp m o act ≡ None → (state : machine.NodeValue) × (slice_get book.nodes m ≡ Some state)
      by None is h = absurd (cc h)
      by (Some state) is h = (state, is)

  grown : (act : Act) → broken book (entry_of m stamp act) ≡ None → Later book (effect book (entry_of m stamp act))
  grown act lawful = by act (is_begun act) refl lawful
    where
      by : (act : Act) (b : Bool) → is_begun act ≡ b → broken book (entry_of m stamp act) ≡ None → Later book (effect book (entry_of m stamp act))
      by act true goes lawful = let a = actor act lawful in acted_later book stamp m a.0 i a.1 act goes lawful
      by (acts.Restart inc pend done) false goes lawful = later book (effect book (entry_of m stamp (acts.Restart inc pend done))) (stepped book (entry_of m stamp (acts.Restart inc pend done)) i lawful).kept (grows_restart m inc pend done book).learnt
      by act false goes lawful = absurd (cc goes)

  named_still : (act : Act) → broken book (entry_of m stamp act) ≡ None → IsNamed book → IsNamed (effect book (entry_of m stamp act))
  named_still act lawful named = by act (is_begun act) refl lawful
    where
      by : (act : Act) (b : Bool) → is_begun act ≡ b → broken book (entry_of m stamp act) ≡ None → IsNamed (effect book (entry_of m stamp act))
      by act true goes lawful = let a = actor act lawful in named_after book stamp m a.0 a.1 act goes lawful named
      by (acts.Restart inc pend done) false goes lawful = λ tid is. named tid (sym ((grows_restart m inc pend done book).same tid) ∙ is)
      by act false goes lawful = absurd (cc goes)

  pub by_other : (manager : Manager) (disk waiting : List Record) (act : Act) → broken book (entry_of m stamp act) ≡ None → HoldsHost n book manager disk waiting → HoldsHost n (effect book (entry_of m stamp act)) manager disk waiting
  by_other manager disk waiting act lawful h =
      let new : BookValue = effect book (entry_of m stamp act) in
      let on : Later book new = grown act lawful in
      let at = with_facet (slice_get new.nodes n) (facet h.state) (facets act ∙ ap (option_map facet) h.there) in
      record {
        state = at.0;
        there = at.1;
        named = named_still act lawful h.named;
        all = logged_on n book new h.state at.0 (recovery (disk ++ waiting)) on (ap (λ (f : Facet). f.committed) at.2) (ap (λ (f : Facet). f.records) at.2) h.all;
        knows = knows_on book new manager manager (recovery (disk ++ waiting)) on (knows_self manager) h.knows;
        on_disk = logged_on n book new h.state at.0 (recovery disk) on (ap (λ (f : Facet). f.committed) at.2) (ap (λ (f : Facet). f.records) at.2) h.on_disk;
        alike = h.alike;
      }
