-- While a transaction is not decided, and not crossed there, what files and audit have on record of it is not empty, nor what they have pending.
use Rattle.qs_book_laws.proofs.Words.{◌≡◌, ◌⊎◌, inl, inr, ℕ, ◌==◌, ◌||◌, ◌++◌, not, Bool, true, false, List, [], ◌∷◌, Option, Some, None, refl, sym, ap, subst, ◌∙◌, fold, length, if◌then◌else◌, slice_get, AllByRecursion, is_at}
use Rattle.qs_book_laws.proofs.Words.{Member, Outcome, Tid, Act, Entry, Found, BookValue, cell_of_transaction, crossed_in, find_transaction, broken_vote, is_server_vote, is_vote_due, broken, broken_act, effect, NodeValue, changes_of, pending_at, record_of, voter, voter_cmp, changes_at, is_among, is_found, member_at, new_votes, new_votes_at, put_new_votes, record_at, reopened, restarted_node, with_votes, without_records, TransactionValue, is_covering, is_crossed, part_of, OnRecord, Voter, TableValue, applied, share_of, Op, Vote, change_served, crossed_at, held_at, keeps_contents, lets_go, votes_on}
use Rattle.qs_base.specs.declared.identifiers.Outcome.TheVariants as outcomes
use Rattle.qs_book_journal.specs.declared.entry.Act.TheVariants as acts
use Rattle.qs_book_machine.specs.Clauses.{is_vote}
use Rattle.qs_book_machine.specs.Restart.{with_vote}
use Rattle.qs_book_machine.specs.declared.transaction.Cell.TheVariants as cells
use Rattle.qs_ops.specs.Table.{has_changes}
use Rattle.qs_ops.specs.declared.vote.Vote.TheVariants as votes
use Rattle.qs_book_laws.specs.Served.{IsLogged}
use Rattle.qs_book_laws.proofs.Again.{effect_nodes, is_logged, logged_there, record_there, reopened_there, restart_node, votes_new}
use Rattle.qs_book_laws.proofs.Alikes.{voter_equal, voter_exact, voter_itself}
use Rattle.qs_book_laws.proofs.Ballots.{ballot_mark}
use Rattle.qs_book_laws.proofs.Covered.{one_more}
use Rattle.qs_book_laws.proofs.Covers.{SameMark}
use Rattle.qs_book_laws.proofs.Durable.{IsLearn, IsRestart, IsVote, going, learn_gone, record_marked, recorded, voting}
use Rattle.qs_book_laws.proofs.Ends.{has_nothing, held_there, lawful_node, puts_on_record}
use Rattle.qs_book_laws.proofs.Found.{forgot_others, pending_again}
use Rattle.qs_book_laws.proofs.FoundOnly.{recorded_was}
use Rattle.qs_book_laws.proofs.Grows.{step_grows}
use Rattle.qs_book_laws.proofs.Histories.{learns_cell, stays}
use Rattle.qs_book_laws.proofs.Holding.{vote_here, which}
use Rattle.qs_book_laws.proofs.Leaves.{serves_on, step_leaves}
use Rattle.qs_book_laws.proofs.Maps.{lookup_put, lookup_put_apart}
use Rattle.qs_book_laws.proofs.Outcomes.{Inv}
use Rattle.qs_book_laws.proofs.Recovers.{forgotten, votes_none}
use Rattle.qs_book_laws.proofs.Serves.{step_serves}
use Rattle.qs_book_laws.proofs.Shares.{number}
use Rattle.qs_book_laws.proofs.Steps.{passed, past, stepped}
use Rattle.qs_book_laws.proofs.Tidy.{AllTidy, votes_tidy}
use Rattle.qs_book_laws.proofs.Votes.{IsNew}

-- ---- a vote that goes on record has changes

some_there : (table : TableValue) (tid : Tid) → has_changes table tid ≡ true → (share_of table tid).changes ≡ [] → ⊥
some_there table tid h none = cc (sym h ∙ ap (λ (ops : List Op). not (length ops == 0)) none)

recoverable_votes : (here : ℕ) (node : NodeValue) (tid : Tid) (o : Option TransactionValue) (member : Member) (covers : ℕ) → broken_vote here node tid o member votes.Recoverable covers ≡ None → crossed_in o member ≡ false → is_server_vote node member.server.0 tid votes.Recoverable ≡ true
recoverable_votes here node tid None member covers h plain = absurd (cc h)
recoverable_votes here node tid (Some tx) member covers h plain =
    let one = past (is_vote_due here tx member (part_of tx member node.inc)) 40 _ h in
    let two = past (is_covering tx member node.inc covers) 41 _ one in
    by (is_crossed tx member) plain (passed (is_vote node tid tx member votes.Recoverable) 42 None two)
  where
    by : (c : Bool) → c ≡ false → (if c then (member.server.0 == 0) || (member.server.0 == 1) else is_server_vote node member.server.0 tid votes.Recoverable) ≡ true → is_server_vote node member.server.0 tid votes.Recoverable ≡ true
    by true plain v = absurd (cc plain)
    by false plain v = v

has_something : (book : BookValue) (entry : Entry) (tid : Tid) (member : Member) (covers : ℕ) → keeps_contents member.server.0 ≡ true → broken book entry ≡ None → crossed_at book tid member ≡ false
    → entry.act ≡ acts.Vote tid member votes.Recoverable covers → held_at book tid member ≡ [] → ⊥
has_something book entry tid member covers keeps h plain is none =
    let at : (node : NodeValue) × (slice_get book.nodes entry.node.0 ≡ Some node) × (broken_act book entry.stamp entry.node.0 node (acts.Vote tid member votes.Recoverable covers) ≡ None) =
    lawful_node book entry (acts.Vote tid member votes.Recoverable covers) is (λ node. refl) h in
    let e : member.node.0 ≡ entry.node.0 = vote_here entry.node.0 at.0 tid (find_transaction book tid) member votes.Recoverable covers at.2 in
    let w : (b : Bool) × (member.server.0 ≡ number b) = which member.server.0 keeps in
    of w.0 at.0 member.server.0 w.1 (recoverable_votes entry.node.0 at.0 tid (find_transaction book tid) member covers at.2 plain)
    (sym (held_there book tid member at.0 (ap (slice_get book.nodes) e ∙ at.1)) ∙ none)
  where
    of : (b : Bool) (node : NodeValue) (s : ℕ) → s ≡ number b → is_server_vote node s tid votes.Recoverable ≡ true → pending_at node tid s ≡ [] → ⊥
    of true node s same v nothing = some_there node.files tid (subst (λ (n : ℕ). is_server_vote node n tid votes.Recoverable ≡ true) same v) (subst (λ (n : ℕ). pending_at node tid n ≡ []) same nothing)
    of false node s same v nothing = some_there node.audit tid (subst (λ (n : ℕ). is_server_vote node n tid votes.Recoverable ≡ true) same v) (subst (λ (n : ℕ). pending_at node tid n ≡ []) same nothing)

-- ---- votes that are new hold what was pending

fresh_held : (book : BookValue) (node : NodeValue) (new : List (Voter × OnRecord)) → AllByRecursion (IsNew book node) new → (v : NodeValue) (tid : Tid) (s : ℕ) → (record_of v tid s ≡ None) ⊎ (changes_of (record_of v tid s) ≡ pending_at node tid s)
    → (record_of (with_votes new v) tid s ≡ None) ⊎ (changes_of (record_of (with_votes new v) tid s) ≡ pending_at node tid s)
fresh_held book node [] all v tid s had = had
fresh_held book node (vote ∷ new) all v tid s had = fresh_held book node new all.1 (with_vote v vote) tid s (by (is_at (voter_cmp (voter tid s)) vote.0) refl)
  where
    by : (b : Bool) → is_at (voter_cmp (voter tid s)) vote.0 ≡ b → (record_of (with_vote v vote) tid s ≡ None) ⊎ (changes_of (record_of (with_vote v vote) tid s) ≡ pending_at node tid s)
    by true same =
        let v_is : voter tid s ≡ vote.0 = voter_exact (voter tid s) vote.0 same in
        let put : record_of (with_vote v vote) vote.0.tid vote.0.server.0 ≡ Some vote.1 = lookup_put voter_cmp vote.0 vote.1 (voter_itself vote.0) v.records in
        inr (subst (λ (w : Voter). changes_of (record_of (with_vote v vote) w.tid w.server.0) ≡ pending_at node w.tid w.server.0) (sym v_is) (ap changes_of put ∙ all.0.changes))
    by false other =
        let same : record_of (with_vote v vote) tid s ≡ record_of v tid s = lookup_put_apart voter_cmp vote.0 vote.1 (λ x. voter_equal vote.0 x) (is_at (voter_cmp (voter tid s))) other v.records in
        subst (λ (o : Option OnRecord). (o ≡ None) ⊎ (changes_of o ≡ pending_at node tid s)) (sym same) had

-- ---- one entry

empty_front : (xs ys : List Op) → xs ++ ys ≡ [] → xs ≡ []
empty_front [] ys h = refl
empty_front (x ∷ xs) ys h = absurd (cc h)

module _ (tid : Tid) (member : Member) (keeps : keeps_contents member.server.0 ≡ true) where
  side : (b : Bool) × (member.server.0 ≡ number b)
  side = which member.server.0 keeps

  abbrev pub Undecided : BookValue → Type 0
  Undecided book = (cell_of_transaction (find_transaction book tid) ≡ Some cells.Commit → ⊥) × (cell_of_transaction (find_transaction book tid) ≡ Some cells.Abort → ⊥)

  abbrev pub IsFilled : BookValue → Type 0
  IsFilled book = (rec : OnRecord) → record_at member.node.0 book tid member.server.0 ≡ Some rec → crossed_at book tid member ≡ false → Undecided book → (rec.changes ≡ [] → ⊥) × (held_at book tid member ≡ [] → ⊥)

  module _ (book : BookValue) (entry : Entry) (i : Inv book) (tidy : AllTidy book.nodes) (last : broken book entry ≡ None) (filled : IsFilled book) where
    abbrev new : BookValue
    new = effect book entry

    module _ (rec : OnRecord) (at_new : record_at member.node.0 new tid member.server.0 ≡ Some rec) (plain_new : crossed_at new tid member ≡ false) (open_new : Undecided new) where
      plain_old : crossed_at book tid member ≡ false
      plain_old = by (crossed_at book tid member) refl
        where
          by : (b : Bool) → crossed_at book tid member ≡ b → b ≡ false
          by false is = refl
          by true is = absurd (cc (sym ((step_grows tid member book entry i last).crossed is) ∙ plain_new))

      open_old : Undecided book
      open_old = (λ is. open_new.0 (stays book new tid cells.Commit (stepped book entry i last).kept (record { decided = refl; cell_is = is })).cell_is, λ is. open_new.1 (stays book new tid cells.Abort (stepped book entry i last).kept (record { decided = refl; cell_is = is })).cell_is)

      same_record : SameMark tid member book new → record_at member.node.0 book tid member.server.0 ≡ Some rec
      same_record same = record_marked tid member book ∙ (ap recorded (sym same) ∙ (sym (record_marked tid member new) ∙ at_new))

      before : SameMark tid member book new → (rec.changes ≡ [] → ⊥) × (held_at book tid member ≡ [] → ⊥)
      before same = filled rec (same_record same) plain_old open_old

      keeps_on : lets_go tid member entry.node.0 entry.act ≡ false → SameMark tid member book new → (rec.changes ≡ [] → ⊥) × (held_at new tid member ≡ [] → ⊥)
      keeps_on off same = let old = before same in (
        old.0,
        λ none. old.1 (empty_front (held_at book tid member) (change_served book tid member entry.act) (sym (one_more book entry tid member keeps last plain_old off plain_new) ∙ none)),
      )

      -- it votes
      votes_so : lets_go tid member entry.node.0 entry.act ≡ false → IsVote tid member entry.act → (rec.changes ≡ [] → ⊥) × (held_at new tid member ≡ [] → ⊥)
      votes_so off (ballot, covers, its) = of ballot its
        where
          of : (ballot : Vote) → entry.act ≡ acts.Vote tid member ballot covers → (rec.changes ≡ [] → ⊥) × (held_at new tid member ≡ [] → ⊥)
          of votes.ReadOnly its = absurd ((before (ballot_mark tid member book entry votes.ReadOnly covers last its refl)).1 (has_nothing book entry tid member covers keeps last plain_old its))
          of (votes.Abort reason) its = keeps_on off (ballot_mark tid member book entry (votes.Abort reason) covers last its refl)
          of votes.Volatile its = keeps_on off (ballot_mark tid member book entry votes.Volatile covers last its refl)
          of votes.Recoverable its =
              let some : held_at book tid member ≡ [] → ⊥ = has_something book entry tid member covers keeps last plain_old its in (
                λ none. some (sym (ap changes_of (sym at_new ∙ puts_on_record book entry tid member covers last its)) ∙ none),
                λ none. some (empty_front (held_at book tid member) (change_served book tid member entry.act) (sym (one_more book entry tid member keeps last plain_old off plain_new) ∙ none)),
              )

      -- its node restarts
      module _ (inc : ℕ) (pend : List Found) (done : List Tid) (its : entry.act ≡ acts.Restart inc pend done) (here : entry.node.0 ≡ member.node.0) where
        abbrev mid : BookValue
        mid = put_new_votes member.node.0 pend book

        node : (node : NodeValue) × (slice_get book.nodes member.node.0 ≡ Some node)
        node = let at = restart_node book entry member.node.0 inc pend done last its here in (at.0, at.1)

        abbrev voted : NodeValue
        voted = with_votes (new_votes member.node.0 book pend) node.0

        node_new : slice_get new.nodes member.node.0 ≡ Some (restarted_node (reopened member.node.0 inc pend done mid) pend done voted)
        node_new = ap (λ (nodes : List NodeValue). slice_get nodes member.node.0) (effect_nodes book entry member.node.0 inc pend done its here) ∙ reopened_there member.node.0 inc pend done book node.0 node.1

        stood : (record_of (fold without_records voted done) tid member.server.0 ≡ Some rec) × (is_found pend (voter tid member.server.0) ≡ true)
        stood = recorded_was pend (fold without_records voted done) tid member.server.0 rec (sym (record_there new tid member.node.0 member.server.0 _ node_new) ∙ at_new)

        off_done : (b : Bool) → is_among done tid ≡ b → is_among done tid ≡ false
        off_done false off = off
        off_done true on = absurd (let none : record_of (fold without_records voted done) tid member.server.0 ≡ None =
            subst (λ (k : ℕ). record_of (fold without_records voted done) tid k ≡ None) (sym side.1)
            (forgotten side.0 done tid voted (votes_tidy (new_votes member.node.0 book pend) node.0 (tidy member.node.0 node.0 node.1)) on) in cc (sym stood.0 ∙ none))

        apart : is_among done tid ≡ false
        apart = off_done (is_among done tid) refl

        in_voted : record_of voted tid member.server.0 ≡ Some rec
        in_voted = sym (forgot_others done tid member.server.0 voted apart) ∙ stood.0

        logged_is : changes_of (record_at member.node.0 mid tid member.server.0) ≡ rec.changes
        logged_is = ap changes_of (logged_there book pend tid member node.0 node.1 ∙ in_voted)

        held_node : held_at book tid member ≡ pending_at node.0 tid member.server.0
        held_node = held_there book tid member node.0 node.1

        votes_as : (r : Option OnRecord) → record_of node.0 tid member.server.0 ≡ r → rec.changes ≡ [] → ⊥
        votes_as (Some r) is none =
            let old = filled r (record_there book tid member.node.0 member.server.0 node.0 node.1 ∙ is) plain_old open_old in
            of old.0 old.1 (is_logged book entry inc pend done tid member last its here)
          where
            of : (r.changes ≡ [] → ⊥) → (held_at book tid member ≡ [] → ⊥) → IsLogged book pend tid member → ⊥
            of one two (inl same) = one (sym (ap changes_of (record_there book tid member.node.0 member.server.0 node.0 node.1 ∙ is)) ∙ (sym same ∙ (logged_is ∙ none)))
            of one two (inr same) = two (sym same ∙ (logged_is ∙ none))
        votes_as None is none = by (fresh_held book node.0 (new_votes member.node.0 book pend) (votes_new book member.node.0 node.0 pend node.1) node.0 tid member.server.0 (inl is))
          where
            by : (record_of voted tid member.server.0 ≡ None) ⊎ (changes_of (record_of voted tid member.server.0) ≡ pending_at node.0 tid member.server.0) → ⊥
            by (inl absent) = cc (sym in_voted ∙ absent)
            by (inr same) =
                let nothing : pending_at node.0 tid member.server.0 ≡ [] = sym same ∙ (ap changes_of in_voted ∙ none) in
                let old : record_of voted tid member.server.0 ≡ record_of node.0 tid member.server.0 =
                ap (λ (o : Option NodeValue). record_of (with_votes (new_votes_at member.node.0 book o pend) node.0) tid member.server.0) node.1
                ∙ votes_none member.node.0 book node.0 tid member.server.0 plain_old nothing pend node.0 in
                cc (sym in_voted ∙ (old ∙ is))

        without : NodeValue → Tid → NodeValue
        without w t = without_records w t

        held_again : (b : Bool) → is_found pend (voter tid (number b)) ≡ true → crossed_in (find_transaction mid tid) (member_at member.node.0 (number b)) ≡ false
            → pending_at (restarted_node (reopened member.node.0 inc pend done mid) pend done voted) tid (number b) ≡ changes_at member.node.0 mid (number b) tid
        unfolding without
        held_again true found plain = pending_again member.node.0 mid 0 done tid 0 apart plain pend (record (applied (fold without voted done).files (reopened member.node.0 inc pend done mid).files) { shares = [] }) (inl found)
        held_again false found plain = pending_again member.node.0 mid 1 done tid 0 apart plain pend (record (applied (fold without voted done).audit (reopened member.node.0 inc pend done mid).audit) { shares = [] }) (inl found)

        held_new : held_at new tid member ≡ rec.changes
        held_new = held_there new tid member _ node_new
            ∙ (subst (λ (k : ℕ). pending_at (restarted_node (reopened member.node.0 inc pend done mid) pend done voted) tid k ≡ changes_at member.node.0 mid k tid) (sym side.1)
            (held_again side.0 (subst (λ (k : ℕ). is_found pend (voter tid k) ≡ true) side.1 stood.1) (subst (λ (k : ℕ). crossed_in (find_transaction mid tid) (member_at member.node.0 k) ≡ false) side.1 plain_old))
            ∙ logged_is)

        restarts_so : (rec.changes ≡ [] → ⊥) × (held_at new tid member ≡ [] → ⊥)
        restarts_so = let some : rec.changes ≡ [] → ⊥ = votes_as (record_of node.0 tid member.server.0) refl in (some, λ none. some (sym held_new ∙ none))

      goes_so : lets_go tid member entry.node.0 entry.act ≡ true → (rec.changes ≡ [] → ⊥) × (held_at new tid member ≡ [] → ⊥)
      goes_so on = goes (going tid member entry.node.0 entry.act on)
        where
          learns : (outcome : Outcome) → entry.act ≡ acts.Learn tid member outcome → ⊥
          learns outcomes.Commit its = cc (sym at_new ∙ (learn_gone tid member book entry keeps tidy last its).on_record)
          learns outcomes.Abort its =
              let at_node : (node : NodeValue) × (slice_get book.nodes entry.node.0 ≡ Some node) × (broken_act book entry.stamp entry.node.0 node (acts.Learn tid member outcomes.Abort) ≡ None) =
              lawful_node book entry (acts.Learn tid member outcomes.Abort) its (λ node. refl) last in
              open_old.1 (learns_cell entry.node.0 at_node.0 (find_transaction book tid) member outcomes.Abort at_node.2)

          read_only : (ballot : Vote) (covers : ℕ) → entry.act ≡ acts.Vote tid member ballot covers → ballot ≡ votes.ReadOnly
          read_only ballot covers its = of ballot (subst (λ (a : Act). lets_go tid member entry.node.0 a ≡ true) its on)
            where
              of : (b : Vote) → lets_go tid member entry.node.0 (acts.Vote tid member b covers) ≡ true → b ≡ votes.ReadOnly
              of votes.ReadOnly e = refl
              of (votes.Abort reason) e = absurd (cc e)
              of votes.Volatile e = absurd (cc e)
              of votes.Recoverable e = absurd (cc e)

          goes : IsVote tid member entry.act ⊎ (IsLearn tid member entry.act ⊎ IsRestart member.node.0 entry.node.0 entry.act) → (rec.changes ≡ [] → ⊥) × (held_at new tid member ≡ [] → ⊥)
          goes (inl vote) =
              let its : entry.act ≡ acts.Vote tid member votes.ReadOnly vote.1 = vote.2 ∙ ap (λ (b : Vote). acts.Vote tid member b vote.1) (read_only vote.0 vote.1 vote.2) in
              absurd ((before (ballot_mark tid member book entry votes.ReadOnly vote.1 last its refl)).1 (has_nothing book entry tid member vote.1 keeps last plain_old its))
          goes (inr (inl learn)) = absurd (learns learn.0 learn.1)
          goes (inr (inr (inc, pend, done, its, here))) = restarts_so inc pend done its here

      all_so : (rec.changes ≡ [] → ⊥) × (held_at new tid member ≡ [] → ⊥)
      all_so = by (lets_go tid member entry.node.0 entry.act) refl (votes_on tid member entry.act) refl (serves_on tid member entry.act) refl
        where
          by : (a : Bool) → lets_go tid member entry.node.0 entry.act ≡ a → (b : Bool) → votes_on tid member entry.act ≡ b → (c : Bool) → serves_on tid member entry.act ≡ c → (rec.changes ≡ [] → ⊥) × (held_at new tid member ≡ [] → ⊥)
          by true on b is c so = goes_so on
          by false off true is c so = votes_so off (voting tid member entry.act is)
          by false off false quiet true serves = keeps_on off (step_serves tid member side.0 side.1 book entry last serves).mark
          by false off false quiet false idle = keeps_on off (step_leaves tid member book entry i last off quiet idle).mark

    -- what was not empty is not
    pub filled_step : IsFilled new
    filled_step rec at_new plain_new open_new = all_so rec at_new plain_new open_new
