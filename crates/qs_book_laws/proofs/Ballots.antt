-- A vote of a member's own: one to commit covers all that it served in this incarnation.
use Rattle.qs_book_laws.proofs.Words.{◌≡◌, ℕ, ◌==◌, Bool, true, false, List, [], Option, Some, None, refl, sym, ap, subst, ◌∙◌, if◌then◌else◌, unwrap_or, slice_get, is_some, option_map, lookup, is_at, tid_cmp, Member, Tid, Op, Vote, Act, Entry, TableValue, share_of, released, nothing_held, Share, TransactionValue, part_of, is_crossed, is_covering, voted, BookValue, find_transaction, changed_at, crossed_in, vote, vote_node, inc_at, broken_vote, is_vote_due, is_server_vote, has_vote, broken_act}
use Rattle.qs_book_laws.proofs.Words.{broken, effect_act, effect, NodeValue, pending_at, voter, voter_cmp, OnRecord, held_at, crossed_at}
use Rattle.qs_ops.specs.declared.vote.Vote.TheVariants as votes
use Rattle.qs_book_journal.specs.declared.entry.Act.TheVariants as acts
use Rattle.qs_book_machine.specs.Clauses.{is_vote}
use Rattle.qs_book_laws.proofs.Acts as alike
use Rattle.qs_book_laws.proofs.Alikes.{at_exact, voter_itself}
use Rattle.qs_book_laws.proofs.Counts.{Count, count_of, of_transaction, abort_counts, is_for_commit, voted_count, voted_later}
use Rattle.qs_book_laws.proofs.Covers.{Mark, mark_in, mark_of, SameMark, still_mark}
use Rattle.qs_book_laws.proofs.Ends.{lawful_node, held_there}
use Rattle.qs_book_laws.proofs.Holding.{vote_here}
use Rattle.qs_book_laws.proofs.Holds.{changes_in, with_table_gives}
use Rattle.qs_book_laws.proofs.Leaves.{Leaves}
use Rattle.qs_book_laws.proofs.Maps.{lookup_changed, lookup_put, changed_at_here}
use Rattle.qs_book_laws.proofs.Rising.{removed}
use Rattle.qs_book_laws.proofs.Serves.{inc_marked, inc_there, count_for}
use Rattle.qs_book_laws.proofs.Shares.{number, table}
use Rattle.qs_book_laws.proofs.StillActs as still
use Rattle.qs_book_laws.proofs.Steps.{passed, past}
use Rattle.qs_book_laws.proofs.Tidy.{IsTidy, IsTidyTable}
use Rattle.qs_book_laws.proofs.Faces.{vote_by, recorded_by, pending_now}

-- all that was served is covered
abbrev pub IsEven : Count → Type 0
IsEven k = k.covered ≡ k.served

-- what a lawful vote says
pub record Ballot (here : ℕ) (node : NodeValue) (tid : Tid) (o : Option TransactionValue) (member : Member) (ballot : Vote) : Type 0 where
  pub transaction : TransactionValue
  pub found : o ≡ Some transaction
  pub rules : is_crossed transaction member ≡ false → is_server_vote node member.server.0 tid ballot ≡ true

lawful_ballot : (here : ℕ) (node : NodeValue) (tid : Tid) (o : Option TransactionValue) (member : Member) (ballot : Vote) (covers : ℕ) → broken_vote here node tid o member ballot covers ≡ None → Ballot here node tid o member ballot
lawful_ballot here node tid None member ballot covers h = absurd (cc h)
lawful_ballot here node tid (Some tx) member ballot covers h =
    let one = past (is_vote_due here tx member (part_of tx member node.inc)) 40 _ h in
    let two = past (is_covering tx member node.inc covers) 41 _ one in
    let ruled : is_vote node tid tx member ballot ≡ true = passed (is_vote node tid tx member ballot) 42 None two in
    record { transaction = tx; found = refl; rules = λ plain. by (is_crossed tx member) plain ruled }
  where
    by : (c : Bool) → c ≡ false → (if c then has_vote member.server.0 ballot else is_server_vote node member.server.0 tid ballot) ≡ true → is_server_vote node member.server.0 tid ballot ≡ true
    by true plain v = absurd (cc plain)
    by false plain v = v

-- files and audit do not vote volatile
never_volatile : (b : Bool) (s : ℕ) (node : NodeValue) (tid : Tid) → s ≡ number b → is_server_vote node s tid votes.Volatile ≡ true → ⊥
never_volatile true s node tid is h = absurd (cc (subst (λ (n : ℕ). is_server_vote node n tid votes.Volatile ≡ true) is h))
never_volatile false s node tid is h = absurd (cc (subst (λ (n : ℕ). is_server_vote node n tid votes.Volatile ≡ true) is h))

module _ (tid : Tid) (member : Member) where
  -- a vote to commit
  pub record Evens (old new : BookValue) : Type 0 where
    pub here : (mark : Mark) → mark_of old tid member ≡ Some mark → IsEven (count_of new tid member mark.inc)
    pub others : (mark : Mark) → mark_of old tid member ≡ Some mark → (k : ℕ) → (k == mark.inc) ≡ false → count_of new tid member k ≡ count_of old tid member k

  module _ (book : BookValue) (entry : Entry) (ballot : Vote) (covers : ℕ) (h : broken book entry ≡ None) (act_is : entry.act ≡ acts.Vote tid member ballot covers) where
    at_node : (node : NodeValue) × (slice_get book.nodes entry.node.0 ≡ Some node) × (broken_act book entry.stamp entry.node.0 node (acts.Vote tid member ballot covers) ≡ None)
    at_node = lawful_node book entry (acts.Vote tid member ballot covers) act_is (λ node. refl) h

    near : member.node.0 ≡ entry.node.0
    near = vote_here entry.node.0 at_node.0 tid (find_transaction book tid) member ballot covers at_node.2

    there : slice_get book.nodes member.node.0 ≡ Some at_node.0
    there = ap (slice_get book.nodes) near ∙ at_node.1

    says : Ballot entry.node.0 at_node.0 tid (find_transaction book tid) member ballot
    says = lawful_ballot entry.node.0 at_node.0 tid (find_transaction book tid) member ballot covers at_node.2

    pub ballot_known : is_some (find_transaction book tid) ≡ true
    ballot_known = ap (λ (o : Option TransactionValue). is_some o) says.found

    ruled : crossed_at book tid member ≡ false → is_server_vote at_node.0 member.server.0 tid ballot ≡ true
    ruled plain = says.rules (sym (ap (λ (o : Option TransactionValue). crossed_in o member) says.found) ∙ plain)

    found : find_transaction (effect book entry) tid ≡ Some (voted member at_node.0.inc ballot says.transaction)
    found =
        ap (λ (a : Act). lookup (is_at (tid_cmp tid)) (effect_act entry.stamp entry.node.0 a book).transactions) act_is
        ∙ (lookup_changed (is_at (tid_cmp tid)) (voted member (inc_at book (record { 0 = entry.node.0 })) ballot) book.transactions says.transaction says.found
        ∙ ap (λ (inc : ℕ). Some (voted member inc ballot says.transaction)) (inc_there book entry.node.0 at_node.0 at_node.1))

    inc_is : (mark : Mark) → mark_of book tid member ≡ Some mark → mark.inc ≡ at_node.0.inc
    inc_is mark marked = ap (λ (m : Mark). m.inc) (inc_marked tid member book at_node.0 mark there marked)

    pub ballot_evens : is_for_commit ballot ≡ true → Evens book (effect book entry)
    ballot_evens commits = record {
      here = λ mark marked.
          subst (λ (k : ℕ). IsEven (count_of (effect book entry) tid member k)) (sym (inc_is mark marked))
          (subst IsEven (sym (count_for tid member (effect book entry) _ found at_node.0.inc)) (voted_count member at_node.0.inc ballot says.transaction commits));
      others = λ mark marked k far.
          count_for tid member (effect book entry) _ found k
          ∙ (voted_later member k at_node.0.inc ballot says.transaction (subst (λ (n : ℕ). (k == n) ≡ false) (inc_is mark marked) far)
          ∙ sym (count_for tid member book says.transaction says.found k));
    }

    -- what is on record stays where the vote does not go there
    pub ballot_mark : still.goes_on_record ballot ≡ false → SameMark tid member book (effect book entry)
    ballot_mark off =
        subst (λ (a : Act). SameMark tid member book (effect_act entry.stamp entry.node.0 a book)) (sym act_is)
        (still_mark tid member book (vote entry.node.0 tid member ballot covers book) (still.by_vote entry.node.0 tid member ballot covers book off) (alike.by_vote entry.node.0 tid member ballot covers book))

    node_after : slice_get (effect book entry).nodes member.node.0 ≡ Some (vote_by book entry.node.0 tid member ballot covers at_node.0)
    node_after =
        ap (λ (a : Act). slice_get (effect_act entry.stamp entry.node.0 a book).nodes member.node.0) act_is
        ∙ subst (λ (n : ℕ). slice_get (changed_at n (vote_by book entry.node.0 tid member ballot covers) book.nodes) member.node.0 ≡ Some (vote_by book entry.node.0 tid member ballot covers at_node.0)) near
        (changed_at_here (vote_by book entry.node.0 tid member ballot covers) book.nodes member.node.0 at_node.0 there)

  -- a vote against commit changes neither
  pub against_leaves : (book : BookValue) (entry : Entry) (ballot : Vote) (covers : ℕ) → entry.act ≡ acts.Vote tid member ballot covers → is_for_commit ballot ≡ false → broken book entry ≡ None → Leaves tid member book (effect book entry)
  against_leaves book entry votes.ReadOnly covers act_is against h = absurd (cc against)
  against_leaves book entry votes.Volatile covers act_is against h = absurd (cc against)
  against_leaves book entry votes.Recoverable covers act_is against h = absurd (cc against)
  against_leaves book entry (votes.Abort reason) covers act_is against h = record {
    mark = ballot_mark book entry (votes.Abort reason) covers h act_is refl;
    count = λ k.
        ap (λ (a : Act). count_of (effect_act entry.stamp entry.node.0 a book) tid member k) act_is
        ∙ of_transaction tid member tid (voted member (inc_at book (record { 0 = entry.node.0 })) (votes.Abort reason))
        (λ inc tx. abort_counts member member inc (inc_at book (record { 0 = entry.node.0 })) tx (votes.Abort reason) (λ part. refl)) book k;
  }

  pub not_volatile : (b : Bool) → member.server.0 ≡ number b → (book : BookValue) (entry : Entry) (covers : ℕ) → entry.act ≡ acts.Vote tid member votes.Volatile covers → broken book entry ≡ None → crossed_at book tid member ≡ false → ⊥
  not_volatile b is book entry covers act_is h plain =
      never_volatile b member.server.0 (at_node book entry votes.Volatile covers h act_is).0 tid is (ruled book entry votes.Volatile covers h act_is plain)

  -- a vote that goes on record
  pub recorded_mark : (book : BookValue) (entry : Entry) (covers : ℕ) (mark : Mark) → entry.act ≡ acts.Vote tid member votes.Recoverable covers → broken book entry ≡ None → mark_of book tid member ≡ Some mark
      → mark_of (effect book entry) tid member ≡ Some (record { inc = mark.inc; rec = Some (recorded_by book entry.node.0 tid member covers (held_at book tid member)) })
  recorded_mark book entry covers mark act_is h marked =
      ap (λ (o : Option NodeValue). option_map (mark_in tid member.server.0) o) (node_after book entry votes.Recoverable covers h act_is)
      ∙ (ap (λ (o : Option OnRecord). Some (made node.inc o)) (lookup_put voter_cmp (voter tid member.server.0) (recorded_by book entry.node.0 tid member covers (pending_at node tid member.server.0)) (voter_itself (voter tid member.server.0)) node.records)
      ∙ (ap (λ (inc : ℕ). Some (made inc (Some (recorded_by book entry.node.0 tid member covers (pending_at node tid member.server.0))))) (sym (inc_is book entry votes.Recoverable covers h act_is mark marked))
      ∙ ap (λ (ops : List Op). Some (made mark.inc (Some (recorded_by book entry.node.0 tid member covers ops)))) (sym (held_there book tid member node (there book entry votes.Recoverable covers h act_is)))))
    where
      node : NodeValue
      node = (at_node book entry votes.Recoverable covers h act_is).0

      made : ℕ → Option OnRecord → Mark
      made inc rec = record { inc = inc; rec = rec }

  -- after a read-only vote nothing is pending
  pub lets_all_go : (b : Bool) → member.server.0 ≡ number b → (book : BookValue) (entry : Entry) (covers : ℕ) → entry.act ≡ acts.Vote tid member votes.ReadOnly covers → broken book entry ≡ None
      → ((node : NodeValue) → slice_get book.nodes member.node.0 ≡ Some node → IsTidy node) → held_at (effect book entry) tid member ≡ []
  lets_all_go b is book entry covers act_is h tidy =
      held_there (effect book entry) tid member (vote_by book entry.node.0 tid member votes.ReadOnly covers node) (node_after book entry votes.ReadOnly covers h act_is)
      ∙ (held_by b member.server.0 is ∙ (with_table_gives b tid member.server.0 (λ t. released t tid) is node ∙ gone (table b node) (tidy_table b)))
    where
      node : NodeValue
      node = (at_node book entry votes.ReadOnly covers h act_is).0

      held_by : (c : Bool) (s : ℕ) → s ≡ number c → pending_at (vote_node (pending_now book entry.node.0 tid member) (crossed_in (find_transaction book tid) member) tid s votes.ReadOnly covers node) tid s ≡ changes_in c tid (vote_node (pending_now book entry.node.0 tid member) (crossed_in (find_transaction book tid) member) tid s votes.ReadOnly covers node)
      held_by true s e = subst (λ (n : ℕ). pending_at (vote_node (pending_now book entry.node.0 tid member) (crossed_in (find_transaction book tid) member) tid n votes.ReadOnly covers node) tid n ≡ changes_in true tid (vote_node (pending_now book entry.node.0 tid member) (crossed_in (find_transaction book tid) member) tid n votes.ReadOnly covers node)) (sym e) refl
      held_by false s e = subst (λ (n : ℕ). pending_at (vote_node (pending_now book entry.node.0 tid member) (crossed_in (find_transaction book tid) member) tid n votes.ReadOnly covers node) tid n ≡ changes_in false tid (vote_node (pending_now book entry.node.0 tid member) (crossed_in (find_transaction book tid) member) tid n votes.ReadOnly covers node)) (sym e) refl

      node_tidy : IsTidy node
      node_tidy = tidy node (there book entry votes.ReadOnly covers h act_is)

      gone : (t : TableValue) → IsTidyTable t → (share_of (released t tid) tid).changes ≡ []
      gone t rising = ap (λ (o : Option Share). (unwrap_or o nothing_held).changes) (removed tid_cmp at_exact tid t.shares rising)

      tidy_table : (c : Bool) → IsTidyTable (table c node)
      tidy_table true = node_tidy.files
      tidy_table false = node_tidy.audit
