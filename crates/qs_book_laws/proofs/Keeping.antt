-- What a member has pending and on record of a transaction that may still be committed is what it served, as far as its
-- votes cover that. Every entry keeps this so but a restart of the member's node, which is treated apart.
use Rattle.qs_book_laws.proofs.Words.{◌≡◌, ℕ, ◌+◌, ◌<◌, ◌≤◌, ◌==◌, Bool, true, false, not, ◌&&◌, List, [], ◌∷◌, ◌++◌, Option, Some, None, refl, sym, ap, subst, ◌∙◌, arith, nat_tests, append-nil, is_some, slice_get, option_map, Member, Outcome, Tid, same_tid-true, same_member-true, Op, Vote, Act, Entry, Found, TransactionValue, is_open, is_crossed, is_outcome, part_of, Cell, BookValue, find_transaction, crossed_in, broken_learn, may_learn, broken_act, broken, effect, NodeValue, changes_of}
use Rattle.qs_book_laws.proofs.Words.{OnRecord, held_at, crossed_at, is_share, change_served, keeps_contents, lets_go, votes_on, le_one_more}
use Rattle.qs_base.specs.declared.identifiers.Outcome.TheVariants as outcomes
use Rattle.qs_ops.specs.declared.vote.Vote.TheVariants as votes
use Rattle.qs_book_journal.specs.declared.entry.Act.TheVariants as acts
use Rattle.qs_book_machine.specs.declared.transaction.Cell.TheVariants as cells
use Rattle.qs_book_laws.proofs.Ballots.{IsEven, Evens, ballot_known, ballot_evens, ballot_mark, against_leaves, not_volatile, recorded_mark, lets_all_go}
use Rattle.qs_book_laws.proofs.Counts.{Count, count_of, no_count, is_for_commit}
use Rattle.qs_book_laws.proofs.Covered.{one_more}
use Rattle.qs_book_laws.proofs.Covering.{nothing_served}
use Rattle.qs_book_laws.proofs.Covers.{Mark, mark_of}
use Rattle.qs_book_laws.proofs.Ends.{lawful_node, has_nothing}
use Rattle.qs_book_laws.proofs.Faces.{Face, face, recorded_by}
use Rattle.qs_book_laws.proofs.Grows.{Grows, step_grows}
use Rattle.qs_book_laws.proofs.Holding.{left_of, right_of, clash, which}
use Rattle.qs_book_laws.proofs.Leaves.{Leaves, serves_on, step_leaves}
use Rattle.qs_book_laws.proofs.Outcomes.{Inv, Kept}
use Rattle.qs_book_laws.proofs.Serves.{Serves, step_serves}
use Rattle.qs_book_laws.proofs.Shares.{number}
use Rattle.qs_book_laws.proofs.Steps.{passed, stepped}
use Rattle.qs_book_laws.proofs.Takes.{some_same}
use Rattle.qs_book_laws.proofs.Tidy.{AllTidy}
use Rattle.qs_base_lemmas.proofs.Tests.{lt_apart, eqb_turned, eq_le}

-- ---- transactions that may still be committed at a member

-- it did not begin yet, or is open, and is not crossed there
abbrev pub is_live : Option TransactionValue → Member → Bool
is_live None member = true
is_live (Some tx) member = is_open tx.cell && not (is_crossed tx member)

pub live_plain : (o : Option TransactionValue) (member : Member) → is_live o member ≡ true → crossed_in o member ≡ false
live_plain None member h = refl
live_plain (Some tx) member h = by (is_open tx.cell) (is_crossed tx member) h
  where
    by : (a b : Bool) → (a && not b) ≡ true → b ≡ false
    by true true h = absurd (cc h)
    by true false h = refl
    by false b h = absurd (cc h)

pub live_open : (o : Option TransactionValue) (member : Member) (tx : TransactionValue) → is_live o member ≡ true → o ≡ Some tx → is_open tx.cell ≡ true
live_open o member tx h is = left_of (is_open tx.cell) (not (is_crossed tx member)) (subst (λ (p : Option TransactionValue). is_live p member ≡ true) is h)

-- a decided one is none of them
pub not_live : (o : Option TransactionValue) (member : Member) (seen : Face) → option_map face o ≡ Some seen → is_open seen.cell ≡ false → is_live o member ≡ true → ⊥
not_live None member seen is closed live = absurd (cc is)
not_live (Some tx) member seen is closed live =
    let same : face tx ≡ seen = some_same (face tx) seen is in
    clash (live_open (Some tx) member tx live refl) (ap (λ (f : Face). is_open f.cell) same ∙ closed)

-- what may still be committed could be so before
pub live_before : (tid : Tid) (member : Member) (old new : BookValue) → Kept old new → Grows tid member old new → is_live (find_transaction new tid) member ≡ true → is_live (find_transaction old tid) member ≡ true
live_before tid member old new kept grows live = of (find_transaction old tid) refl
  where
    opened : (tx : TransactionValue) → find_transaction old tid ≡ Some tx → (b : Bool) → is_open tx.cell ≡ b → b ≡ true
    opened tx is true h = refl
    opened tx is false h = absurd (not_live (find_transaction new tid) member (face tx) (kept tid (face tx) (ap (λ (o : Option TransactionValue). option_map face o) is) h) h live)

    plain : (tx : TransactionValue) → find_transaction old tid ≡ Some tx → (b : Bool) → is_crossed tx member ≡ b → b ≡ false
    plain tx is false h = refl
    plain tx is true h =
        let before : crossed_at old tid member ≡ true = ap (λ (o : Option TransactionValue). crossed_in o member) is ∙ h in
        absurd (clash (grows.crossed before) (live_plain (find_transaction new tid) member live))

    of : (o : Option TransactionValue) → find_transaction old tid ≡ o → is_live o member ≡ true
    of None is = refl
    of (Some tx) is =
        let a : is_open tx.cell ≡ true = opened tx is (is_open tx.cell) refl in
        let b : is_crossed tx member ≡ false = plain tx is (is_crossed tx member) refl in
        rw (a, b) refl

-- ---- numbers

apart_above : (m n : ℕ) → n < m → (m == n) ≡ false
apart_above m n h = grind (arith, nat_tests)

never : (m n : ℕ) → m ≤ n → m ≡ n + 1 → ⊥
never m n h k = omega arith

front_empty : (xs ys : List Op) → xs ++ ys ≡ [] → xs ≡ []
front_empty [] ys h = refl
front_empty (x ∷ xs) ys h = absurd (cc h)

-- ---- the invariant

module _ (tid : Tid) (member : Member) where
  pub record Keeping (book : BookValue) (changes : List Op) : Type 0 where
    pub mark : Mark
    pub at : mark_of book tid member ≡ Some mark
    -- what is pending is what was served, where the votes of earlier incarnations covered it
    pub pending : ((i : ℕ) → i < mark.inc → IsEven (count_of book tid member i)) → held_at book tid member ≡ changes
    -- what is on record is what is pending, where the votes of this incarnation cover it
    pub on_record : IsEven (count_of book tid member mark.inc) → changes_of mark.rec ≡ held_at book tid member
    pub above : (i : ℕ) → mark.inc < i → count_of book tid member i ≡ no_count
    pub most : (i : ℕ) → (count_of book tid member i).covered ≤ (count_of book tid member i).served
    pub empty : held_at book tid member ≡ [] → changes_of mark.rec ≡ []
    pub unknown : is_some (find_transaction book tid) ≡ false → mark.rec ≡ None

  unknown_before : (old new : BookValue) → Grows tid member old new → is_some (find_transaction new tid) ≡ false → is_some (find_transaction old tid) ≡ false
  unknown_before old new grows none = by (is_some (find_transaction old tid)) refl
    where
      by : (b : Bool) → is_some (find_transaction old tid) ≡ b → b ≡ false
      by false is = refl
      by true is = absurd (clash (grows.known is) none)

  quiet_keeps : (old new : BookValue) (changes : List Op) → Leaves tid member old new → Grows tid member old new → held_at new tid member ≡ held_at old tid member → Keeping old changes → Keeping new changes
  quiet_keeps old new changes leaves grows holds k = record {
    mark = k.mark;
    at = leaves.mark ∙ k.at;
    pending = λ even. holds ∙ k.pending (λ i below. subst IsEven (leaves.count i) (even i below));
    on_record = λ even. k.on_record (subst IsEven (leaves.count k.mark.inc) even) ∙ sym holds;
    above = λ i above. leaves.count i ∙ k.above i above;
    most = λ i. subst (λ (c : Count). c.covered ≤ c.served) (sym (leaves.count i)) (k.most i);
    empty = λ none. k.empty (sym holds ∙ none);
    unknown = λ none. k.unknown (unknown_before old new grows none);
  }

  serving_keeps : (old new : BookValue) (changes more : List Op) → Serves tid member old new → Grows tid member old new → held_at new tid member ≡ held_at old tid member ++ more → Keeping old changes → Keeping new (changes ++ more)
  serving_keeps old new changes more serves grows holds k = record {
    mark = k.mark;
    at = serves.mark ∙ k.at;
    pending = λ even. holds ∙ ap (λ (ops : List Op). ops ++ more) (k.pending (λ i below. subst IsEven (serves.others k.mark k.at i (lt_apart i k.mark.inc below)) (even i below)));
    on_record = λ even.
        let late : (count_of old tid member k.mark.inc).covered ≡ (count_of old tid member k.mark.inc).served + 1 = subst IsEven (serves.here k.mark k.at) even in
        absurd (never (count_of old tid member k.mark.inc).covered (count_of old tid member k.mark.inc).served (k.most k.mark.inc) late);
    above = λ i above. serves.others k.mark k.at i (apart_above i k.mark.inc above) ∙ k.above i above;
    most = λ i. most i (i == k.mark.inc) refl;
    empty = λ none. k.empty (front_empty (held_at old tid member) more (sym holds ∙ none));
    unknown = λ none. absurd (clash (grows.known serves.known) none);
  }
    where
      most : (i : ℕ) (b : Bool) → (i == k.mark.inc) ≡ b → (count_of new tid member i).covered ≤ (count_of new tid member i).served
      most i true is =
          subst (λ (n : ℕ). (count_of new tid member n).covered ≤ (count_of new tid member n).served) (eqb_turned i k.mark.inc is)
          (subst (λ (c : Count). c.covered ≤ c.served) (sym (serves.here k.mark k.at)) (le_one_more (count_of old tid member k.mark.inc).covered (count_of old tid member k.mark.inc).served (k.most k.mark.inc)))
      most i false far = subst (λ (c : Count). c.covered ≤ c.served) (sym (serves.others k.mark k.at i far)) (k.most i)

  -- a vote to commit, with what is on record after it
  voting_keeps : (old new : BookValue) (changes : List Op) (rec : Option OnRecord) → (k : Keeping old changes) → Evens tid member old new → is_some (find_transaction new tid) ≡ true → held_at new tid member ≡ held_at old tid member
      → mark_of new tid member ≡ Some (record { inc = k.mark.inc; rec = rec }) → changes_of rec ≡ held_at new tid member → Keeping new changes
  voting_keeps old new changes rec k evens known holds marked recorded = record {
    mark = record { inc = k.mark.inc; rec = rec };
    at = marked;
    pending = λ even. holds ∙ k.pending (λ i below. subst IsEven (evens.others k.mark k.at i (lt_apart i k.mark.inc below)) (even i below));
    on_record = λ even. recorded;
    above = λ i above. evens.others k.mark k.at i (apart_above i k.mark.inc above) ∙ k.above i above;
    most = λ i. most i (i == k.mark.inc) refl;
    empty = λ none. recorded ∙ none;
    unknown = λ none. absurd (clash known none);
  }
    where
      most : (i : ℕ) (b : Bool) → (i == k.mark.inc) ≡ b → (count_of new tid member i).covered ≤ (count_of new tid member i).served
      most i true is =
          subst (λ (n : ℕ). (count_of new tid member n).covered ≤ (count_of new tid member n).served) (eqb_turned i k.mark.inc is)
          (eq_le (count_of new tid member k.mark.inc).covered (count_of new tid member k.mark.inc).served (evens.here k.mark k.at))
      most i false far = subst (λ (c : Count). c.covered ≤ c.served) (sym (evens.others k.mark k.at i far)) (k.most i)

  -- ---- a step

  module _ (keeps : keeps_contents member.server.0 ≡ true) (book : BookValue) (entry : Entry) (changes : List Op)
      (i : Inv book) (tidy : AllTidy book.nodes) (h : broken book entry ≡ None)
      (live : is_live (find_transaction (effect book entry) tid) member ≡ true) (k : Keeping book changes) where
    abbrev later : BookValue
    later = effect book entry

    side : (b : Bool) × (member.server.0 ≡ number b)
    side = which member.server.0 keeps

    pub grows : Grows tid member book later
    grows = step_grows tid member book entry i h

    pub was_live : is_live (find_transaction book tid) member ≡ true
    was_live = live_before tid member book later (stepped book entry i h).kept grows live

    plain : crossed_at book tid member ≡ false
    plain = live_plain (find_transaction book tid) member was_live

    plain_later : crossed_at later tid member ≡ false
    plain_later = live_plain (find_transaction later tid) member live

    abbrev pub Stays : Type 0
    Stays = Keeping later (changes ++ change_served book tid member entry.act)

    -- where nothing is served, the changes are the same
    unserved : serves_on tid member entry.act ≡ false → Keeping later changes → Stays
    unserved idle kept = subst (Keeping later) (sym (ap (λ (ops : List Op). changes ++ ops) (nothing_served book tid member entry.act idle) ∙ append-nil changes)) kept

    held_same : lets_go tid member entry.node.0 entry.act ≡ false → serves_on tid member entry.act ≡ false → held_at later tid member ≡ held_at book tid member
    held_same holds idle =
        one_more book entry tid member keeps h plain holds plain_later
        ∙ (ap (λ (ops : List Op). held_at book tid member ++ ops) (nothing_served book tid member entry.act idle) ∙ append-nil (held_at book tid member))

    quiet : lets_go tid member entry.node.0 entry.act ≡ false → votes_on tid member entry.act ≡ false → serves_on tid member entry.act ≡ false → Stays
    quiet holds silent idle = unserved idle (quiet_keeps book later changes (step_leaves tid member book entry i h holds silent idle) grows (held_same holds idle) k)

    quietly : (act : Act) → entry.act ≡ act → lets_go tid member entry.node.0 act ≡ false → votes_on tid member act ≡ false → serves_on tid member act ≡ false → Stays
    quietly act is holds silent idle =
        quiet (ap (lets_go tid member entry.node.0) is ∙ holds) (ap (votes_on tid member) is ∙ silent) (ap (serves_on tid member) is ∙ idle)

    serving : lets_go tid member entry.node.0 entry.act ≡ false → serves_on tid member entry.act ≡ true → Stays
    serving holds serves =
        serving_keeps book later changes (change_served book tid member entry.act) (step_serves tid member side.0 side.1 book entry h serves) grows (one_more book entry tid member keeps h plain holds plain_later) k

    -- ---- its own votes

    module _ (ballot : Vote) (covers : ℕ) (act_is : entry.act ≡ acts.Vote tid member ballot covers) where
      idle_vote : serves_on tid member entry.act ≡ false
      idle_vote = ap (serves_on tid member) act_is

      known_vote : is_some (find_transaction later tid) ≡ true
      known_vote = grows.known (ballot_known tid member book entry ballot covers h act_is)

    reads_only : (covers : ℕ) → entry.act ≡ acts.Vote tid member votes.ReadOnly covers → Stays
    reads_only covers act_is =
        let none : held_at book tid member ≡ [] = has_nothing book entry tid member covers keeps h plain act_is in
        let gone : held_at later tid member ≡ [] = lets_all_go tid member side.0 side.1 book entry covers act_is h (λ node at. tidy member.node.0 node at) in
        unserved (idle_vote votes.ReadOnly covers act_is)
        (voting_keeps book later changes k.mark.rec k (ballot_evens tid member book entry votes.ReadOnly covers h act_is refl) (known_vote votes.ReadOnly covers act_is) (gone ∙ sym none)
        (ballot_mark tid member book entry votes.ReadOnly covers h act_is refl ∙ k.at) (k.empty none ∙ sym gone))

    recorded : (covers : ℕ) → entry.act ≡ acts.Vote tid member votes.Recoverable covers → Stays
    recorded covers act_is =
        let same : held_at later tid member ≡ held_at book tid member = held_same (ap (lets_go tid member entry.node.0) act_is) (idle_vote votes.Recoverable covers act_is) in
        unserved (idle_vote votes.Recoverable covers act_is)
        (voting_keeps book later changes (Some (recorded_by book entry.node.0 tid member covers (held_at book tid member))) k (ballot_evens tid member book entry votes.Recoverable covers h act_is refl) (known_vote votes.Recoverable covers act_is) same
        (recorded_mark tid member book entry covers k.mark act_is h k.at) (sym same))

    refuses : (ballot : Vote) (covers : ℕ) → entry.act ≡ acts.Vote tid member ballot covers → lets_go tid member entry.node.0 (acts.Vote tid member ballot covers) ≡ false → is_for_commit ballot ≡ false → Stays
    refuses ballot covers act_is holds against =
        let same : held_at later tid member ≡ held_at book tid member = held_same (ap (lets_go tid member entry.node.0) act_is ∙ holds) (idle_vote ballot covers act_is) in
        unserved (idle_vote ballot covers act_is) (quiet_keeps book later changes (against_leaves tid member book entry ballot covers act_is against h) grows same k)

    votes_own : (ballot : Vote) (covers : ℕ) → entry.act ≡ acts.Vote tid member ballot covers → Stays
    votes_own votes.ReadOnly covers act_is = reads_only covers act_is
    votes_own votes.Recoverable covers act_is = recorded covers act_is
    votes_own votes.Volatile covers act_is = absurd (not_volatile tid member side.0 side.1 book entry covers act_is h plain)
    votes_own (votes.Abort reason) covers act_is = refuses (votes.Abort reason) covers act_is refl refl

    -- ---- it learns nothing of an open transaction

    open_cell : (outcome : Outcome) (cell : Cell) → is_open cell ≡ true → is_outcome outcome cell ≡ true → ⊥
    open_cell outcomes.Commit cells.Open o is = absurd (cc is)
    open_cell outcomes.Abort cells.Open o is = absurd (cc is)
    open_cell outcome cells.Commit o is = absurd (cc o)
    open_cell outcome cells.Abort o is = absurd (cc o)

    learnt_open : (here : ℕ) (node : NodeValue) (o : Option TransactionValue) (outcome : Outcome) → is_live o member ≡ true → broken_learn here node o member outcome ≡ None → ⊥
    learnt_open here node None outcome l b = absurd (cc b)
    learnt_open here node (Some tx) outcome l b =
        let may : may_learn here tx member (part_of tx member node.inc) outcome ≡ true = passed (may_learn here tx member (part_of tx member node.inc) outcome) 95 _ b in
        open_cell outcome tx.cell (live_open (Some tx) member tx l refl) (left_of (is_outcome outcome tx.cell) (member.node.0 == here) (left_of _ _ may))

    learns_own : (outcome : Outcome) → entry.act ≡ acts.Learn tid member outcome → ⊥
    learns_own outcome act_is =
        let at : (node : NodeValue) × (slice_get book.nodes entry.node.0 ≡ Some node) × (broken_act book entry.stamp entry.node.0 node (acts.Learn tid member outcome) ≡ None) =
        lawful_node book entry (acts.Learn tid member outcome) act_is (λ node. refl) h in
        learnt_open entry.node.0 at.0 (find_transaction book tid) outcome was_live at.2

    -- ---- each entry

    vote_alone : (t : Tid) (other : Member) (ballot : Vote) (covers : ℕ) → is_share tid member t other ≡ false → lets_go tid member entry.node.0 (acts.Vote t other ballot covers) ≡ false
    vote_alone t other votes.ReadOnly covers apart = apart
    vote_alone t other votes.Recoverable covers apart = refl
    vote_alone t other votes.Volatile covers apart = refl
    vote_alone t other (votes.Abort reason) covers apart = refl

    same_t : (t : Tid) (other : Member) → is_share tid member t other ≡ true → t ≡ tid
    same_t t other mine = same_tid-true t tid (left_of _ _ mine)

    same_m : (t : Tid) (other : Member) → is_share tid member t other ≡ true → other ≡ member
    same_m t other mine = same_member-true other member (right_of _ _ mine)

    pub step_keeps : (act : Act) → entry.act ≡ act → ((inc : ℕ) (pend : List Found) (done : List Tid) → entry.act ≡ acts.Restart inc pend done → entry.node.0 ≡ member.node.0 → Stays) → Stays
    step_keeps (acts.Serve t other from n_th reply) act_is restarts = by (is_share tid member t other) refl
      where
        by : (b : Bool) → is_share tid member t other ≡ b → Stays
        by true mine = serving (ap (lets_go tid member entry.node.0) act_is) (ap (serves_on tid member) act_is ∙ mine)
        by false apart = quietly (acts.Serve t other from n_th reply) act_is refl refl apart
    step_keeps (acts.Vote t other ballot covers) act_is restarts = by (is_share tid member t other) refl
      where
        by : (b : Bool) → is_share tid member t other ≡ b → Stays
        by true mine = votes_own ballot covers (act_is ∙ (ap (λ (x : Tid). acts.Vote x other ballot covers) (same_t t other mine) ∙ ap (λ (x : Member). acts.Vote tid x ballot covers) (same_m t other mine)))
        by false apart = quietly (acts.Vote t other ballot covers) act_is (vote_alone t other ballot covers apart) apart refl
    step_keeps (acts.Learn t other outcome) act_is restarts = by (is_share tid member t other) refl
      where
        by : (b : Bool) → is_share tid member t other ≡ b → Stays
        by true mine = absurd (learns_own outcome (act_is ∙ (ap (λ (x : Tid). acts.Learn x other outcome) (same_t t other mine) ∙ ap (λ (x : Member). acts.Learn tid x outcome) (same_m t other mine))))
        by false apart = quietly (acts.Learn t other outcome) act_is apart refl refl
    step_keeps (acts.Restart inc pend done) act_is restarts = by (entry.node.0 == member.node.0) refl
      where
        by : (b : Bool) → (entry.node.0 == member.node.0) ≡ b → Stays
        by true near = restarts inc pend done act_is (sym (eqb_turned entry.node.0 member.node.0 near))
        by false far = quietly (acts.Restart inc pend done) act_is far refl refl
    step_keeps act act_is restarts = quietly act act_is refl refl refl
