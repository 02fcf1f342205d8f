-- What a member does with what it has pending: a vote puts it on record, or says that there is nothing; commit applies it.
use Rattle.qs_book_laws.proofs.Words.{◌≡◌, ℕ, suc, Bool, true, false, not, List, [], ◌∷◌, ◌==◌, Option, Some, None, refl, sym, ap, subst, ◌∙◌, if◌then◌else◌, arith, nat_tests, unwrap_or, slice_get, length, option_map, Member, Tid, Op, Act, Entry, TableValue, share_of, TransactionValue, part_of, is_crossed, BookValue, find_transaction, changed_at, crossed_in, learn_node, doubts_after, broken_vote, is_vote_due, is_server_vote, is_covering, is_in_order, broken_act, broken_node, broken_at, broken}
use Rattle.qs_book_laws.proofs.Words.{effect_act, effect, NodeValue, pending_at, record_of, voter, voter_cmp, record_at, OnRecord, held_at, crossed_at, keeps_contents}
use Rattle.qs_base.specs.declared.identifiers.Outcome.TheVariants as outcomes
use Rattle.qs_ops.specs.declared.vote.Vote.TheVariants as votes
use Rattle.qs_book_journal.specs.declared.entry.Act.TheVariants as acts
use Rattle.qs_ops.specs.Table.{has_changes}
use Rattle.qs_book_machine.specs.Clauses.{is_vote}
use Rattle.qs_book_laws.specs.Served.{HasApplied}
use Rattle.qs_book_laws.proofs.Alikes.{voter_itself}
use Rattle.qs_book_laws.proofs.Holding.{vote_here, learn_here, which}
use Rattle.qs_book_laws.proofs.Maps.{lookup_put, changed_at_here}
use Rattle.qs_book_laws.proofs.Shares.{number}
use Rattle.qs_book_laws.proofs.Steps.{held, passed, past}
use Rattle.qs_book_laws.proofs.Takes.{some_same}
use Rattle.qs_book_laws.proofs.Faces.{vote_by, recorded_by}

at_up : (book : BookValue) (stamp here : ℕ) (o : Option NodeValue) (act : Act) → ((node : NodeValue) → broken_node book stamp here node act ≡ (if node.up then broken_act book stamp here node act else Some 2))
    → broken_at book stamp here o act ≡ None → (node : NodeValue) × (o ≡ Some node) × (broken_act book stamp here node act ≡ None)
at_up book stamp here None act plain h = absurd (cc h)
at_up book stamp here (Some node) act plain h = (node, refl, (held node.up 2 (broken_act book stamp here node act) (sym (plain node) ∙ h)).1)

-- the node of a lawful entry that is no restart
pub lawful_node : (book : BookValue) (entry : Entry) (act : Act) → entry.act ≡ act → ((node : NodeValue) → broken_node book entry.stamp entry.node.0 node act ≡ (if node.up then broken_act book entry.stamp entry.node.0 node act else Some 2))
    → broken book entry ≡ None → (node : NodeValue) × (slice_get book.nodes entry.node.0 ≡ Some node) × (broken_act book entry.stamp entry.node.0 node act ≡ None)
lawful_node book entry act is plain h =
    at_up book entry.stamp entry.node.0 (slice_get book.nodes entry.node.0) act plain
    (subst (λ (a : Act). broken_at book entry.stamp entry.node.0 (slice_get book.nodes entry.node.0) a ≡ None) is (held (is_in_order book entry) 1 _ h).1)

-- what the member of a node that is there holds
pub held_there : (book : BookValue) (tid : Tid) (member : Member) (node : NodeValue) → slice_get book.nodes member.node.0 ≡ Some node → held_at book tid member ≡ pending_at node tid member.server.0
held_there book tid member node at = ap (λ (o : Option NodeValue). unwrap_or (option_map (λ (v : NodeValue). pending_at v tid member.server.0) o) []) at

-- ---- a vote

pub puts_on_record : (book : BookValue) (entry : Entry) (tid : Tid) (member : Member) (covers : ℕ) → broken book entry ≡ None → entry.act ≡ acts.Vote tid member votes.Recoverable covers
    → record_at member.node.0 (effect book entry) tid member.server.0 ≡ Some (recorded_by book entry.node.0 tid member covers (held_at book tid member))
puts_on_record book entry tid member covers h is =
    let at : (node : NodeValue) × (slice_get book.nodes entry.node.0 ≡ Some node) × (broken_act book entry.stamp entry.node.0 node (acts.Vote tid member votes.Recoverable covers) ≡ None) =
    lawful_node book entry (acts.Vote tid member votes.Recoverable covers) is (λ node. refl) h in
    let e : member.node.0 ≡ entry.node.0 = vote_here entry.node.0 at.0 tid (find_transaction book tid) member votes.Recoverable covers at.2 in
    let there : slice_get book.nodes member.node.0 ≡ Some at.0 = ap (slice_get book.nodes) e ∙ at.1 in
    let rec : OnRecord = recorded_by book entry.node.0 tid member covers (pending_at at.0 tid member.server.0) in
    let f : NodeValue → NodeValue = vote_by book entry.node.0 tid member votes.Recoverable covers in
    let changed : slice_get (effect_act entry.stamp entry.node.0 (acts.Vote tid member votes.Recoverable covers) book).nodes member.node.0 ≡ Some (f at.0) =
    subst (λ (n : ℕ). slice_get (changed_at n f book.nodes) member.node.0 ≡ Some (f at.0)) e (changed_at_here f book.nodes member.node.0 at.0 there) in
    let last : slice_get (effect book entry).nodes member.node.0 ≡ Some (f at.0) =
    subst (λ (a : Act). slice_get (effect_act entry.stamp entry.node.0 a book).nodes member.node.0 ≡ Some (f at.0)) (sym is) changed in
    ap on_record last
    ∙ (lookup_put voter_cmp (voter tid member.server.0) rec (voter_itself (voter tid member.server.0)) at.0.records
    ∙ ap (λ (ops : List Op). Some (made ops)) (sym (held_there book tid member at.0 there)))
  where
    on_record : Option NodeValue → Option OnRecord
    on_record o = elim o [ None ↦ None | Some v ↦ record_of v tid member.server.0 ]

    made : List Op → OnRecord
    made ops = recorded_by book entry.node.0 tid member covers ops

nothing_there : (table : TableValue) (tid : Tid) → not (has_changes table tid) ≡ true → (share_of table tid).changes ≡ []
nothing_there table tid h = by (share_of table tid).changes h
  where
    by : (ops : List Op) → not (not (length ops == 0)) ≡ true → ops ≡ []
    by [] h = refl
    by (op ∷ ops) h = absurd (wrong (length ops) h)
      where
        wrong : (n : ℕ) → not (not (suc n == 0)) ≡ true → ⊥
        wrong n k = grind (arith, nat_tests, k)

read_only_votes : (here : ℕ) (node : NodeValue) (tid : Tid) (o : Option TransactionValue) (member : Member) (covers : ℕ) → broken_vote here node tid o member votes.ReadOnly covers ≡ None → crossed_in o member ≡ false → is_server_vote node member.server.0 tid votes.ReadOnly ≡ true
read_only_votes here node tid None member covers h plain = absurd (cc h)
read_only_votes here node tid (Some tx) member covers h plain =
    let one = past (is_vote_due here tx member (part_of tx member node.inc)) 40 _ h in
    let two = past (is_covering tx member node.inc covers) 41 _ one in
    let vote : is_vote node tid tx member votes.ReadOnly ≡ true = passed (is_vote node tid tx member votes.ReadOnly) 42 None two in
    by (is_crossed tx member) plain vote
  where
    by : (c : Bool) → c ≡ false → (if c then true else is_server_vote node member.server.0 tid votes.ReadOnly) ≡ true → is_server_vote node member.server.0 tid votes.ReadOnly ≡ true
    by true plain v = absurd (cc plain)
    by false plain v = v

pub has_nothing : (book : BookValue) (entry : Entry) (tid : Tid) (member : Member) (covers : ℕ) → keeps_contents member.server.0 ≡ true → broken book entry ≡ None → crossed_at book tid member ≡ false
    → entry.act ≡ acts.Vote tid member votes.ReadOnly covers → held_at book tid member ≡ []
has_nothing book entry tid member covers keeps h plain is =
    let at : (node : NodeValue) × (slice_get book.nodes entry.node.0 ≡ Some node) × (broken_act book entry.stamp entry.node.0 node (acts.Vote tid member votes.ReadOnly covers) ≡ None) =
    lawful_node book entry (acts.Vote tid member votes.ReadOnly covers) is (λ node. refl) h in
    let e : member.node.0 ≡ entry.node.0 = vote_here entry.node.0 at.0 tid (find_transaction book tid) member votes.ReadOnly covers at.2 in
    let w : (b : Bool) × (member.server.0 ≡ number b) = which member.server.0 keeps in
    held_there book tid member at.0 (ap (slice_get book.nodes) e ∙ at.1)
    ∙ of w.0 at.0 member.server.0 w.1 (read_only_votes entry.node.0 at.0 tid (find_transaction book tid) member covers at.2 plain)
  where
    of : (b : Bool) (node : NodeValue) (s : ℕ) → s ≡ number b → is_server_vote node s tid votes.ReadOnly ≡ true → pending_at node tid s ≡ []
    of true node s same v = subst (λ (n : ℕ). pending_at node tid n ≡ []) (sym same) (nothing_there node.files tid (subst (λ (n : ℕ). is_server_vote node n tid votes.ReadOnly ≡ true) same v))
    of false node s same v = subst (λ (n : ℕ). pending_at node tid n ≡ []) (sym same) (nothing_there node.audit tid (subst (λ (n : ℕ). is_server_vote node n tid votes.ReadOnly ≡ true) same v))

-- ---- commit

learning : Tid → ℕ → NodeValue → NodeValue
learning tid s v = doubts_after tid s (learn_node outcomes.Commit tid s v)

applies : (b : Bool) (tid : Tid) (node : NodeValue) → HasApplied (number b) (pending_at node tid (number b)) node (doubts_after tid (number b) (learn_node outcomes.Commit tid (number b) node))
applies true tid node = record { contents = refl; notes = refl }
applies false tid node = record { contents = refl; notes = refl }

pub applies_all : (book : BookValue) (entry : Entry) (tid : Tid) (member : Member) (was at_last : NodeValue) → keeps_contents member.server.0 ≡ true → broken book entry ≡ None → entry.act ≡ acts.Learn tid member outcomes.Commit
    → slice_get book.nodes member.node.0 ≡ Some was → slice_get (effect book entry).nodes member.node.0 ≡ Some at_last → HasApplied member.server.0 (held_at book tid member) was at_last
applies_all book entry tid member was at_last keeps h is was_is last_is =
    let at : (node : NodeValue) × (slice_get book.nodes entry.node.0 ≡ Some node) × (broken_act book entry.stamp entry.node.0 node (acts.Learn tid member outcomes.Commit) ≡ None) =
    lawful_node book entry (acts.Learn tid member outcomes.Commit) is (λ node. refl) h in
    let e : member.node.0 ≡ entry.node.0 = learn_here entry.node.0 at.0 (find_transaction book tid) member outcomes.Commit at.2 in
    let w : (b : Bool) × (member.server.0 ≡ number b) = which member.server.0 keeps in
    let f : NodeValue → NodeValue = λ (v : NodeValue). doubts_after tid member.server.0 (learn_node outcomes.Commit tid member.server.0 v) in
    let changed : slice_get (effect_act entry.stamp entry.node.0 (acts.Learn tid member outcomes.Commit) book).nodes member.node.0 ≡ Some (f was) =
    subst (λ (n : ℕ). slice_get (changed_at n f book.nodes) member.node.0 ≡ Some (f was)) e (changed_at_here f book.nodes member.node.0 was was_is) in
    let last : slice_get (effect book entry).nodes member.node.0 ≡ Some (f was) =
    subst (λ (a : Act). slice_get (effect_act entry.stamp entry.node.0 a book).nodes member.node.0 ≡ Some (f was)) (sym is) changed in
    let same : f was ≡ at_last = some_same (f was) at_last (sym last ∙ last_is) in
    subst (λ (v : NodeValue). HasApplied member.server.0 (held_at book tid member) was v) same
    (subst (λ (ops : List Op). HasApplied member.server.0 ops was (f was)) (sym (held_there book tid member was was_is))
    (subst (λ (s : ℕ). HasApplied s (pending_at was tid s) was (doubts_after tid s (learn_node outcomes.Commit tid s was))) (sym w.1) (applies w.0 tid was)))
