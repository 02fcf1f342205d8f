-- As commit is decided, a member's record is all that it has pending.
use Rattle.qs_book_laws.proofs.Words.{◌≡◌, ℕ, ◌≤◌, Bool, true, false, List, [], ◌∷◌, ◌++◌, ◌&&◌, Option, Some, None, refl, sym, ap, subst, ◌∙◌, le_refl, unwrap_or, slice_get, option_map, list_all, lookup, is_at, append-nil, tid_cmp, Member, Tid, Op, Act, Entry, class_of, TransactionValue, changed_value, life, life_cmp, no_part, voted, is_unanimous, agrees, agrees_in, is_empty, Life, Part, BookValue, find_transaction, changed_at, broken_decide, broken_outcome, may_decide, broken_act, broken}
use Rattle.qs_book_laws.proofs.Words.{effect_act, effect, IsLawful, book_after, NodeValue, pending_at, record_of, changes_of, voter, voter_cmp, opening, record_at, Opened, OnRecord, IsCoherent, change_served, crossed_at, held_at, keeps_contents, lets_go}
use Rattle.qs_base.specs.declared.identifiers.Outcome.TheVariants as outcomes
use Rattle.qs_ops.specs.declared.vote.Vote.TheVariants as votes
use Rattle.qs_book_journal.specs.declared.entry.Act.TheVariants as acts
use Rattle.qs_book_laws.specs.Served.{NeverVotes, IsHolding}
use Rattle.qs_book_laws.proofs.Alikes.{voter_itself}
use Rattle.qs_book_laws.proofs.Counts.{Count, counts, count_in, voted_count, count_of, no_count, life_exact}
use Rattle.qs_book_laws.proofs.Covering.{Covers, step_covers}
use Rattle.qs_book_laws.proofs.Covers.{Mark, mark_in}
use Rattle.qs_book_laws.proofs.Serves.{inc_there}
use Rattle.qs_book_laws.proofs.Ends.{lawful_node, held_there}
use Rattle.qs_book_laws.proofs.Found.{entry_passes}
use Rattle.qs_book_laws.proofs.Holding.{left_of, right_of, same_number, which, vote_here, holds_what_it_served}
use Rattle.qs_book_laws.proofs.Maps.{changed_none, lookup_changed, lookup_put, changed_at_here}
use Rattle.qs_book_laws.proofs.Openings.{opening_holds}
use Rattle.qs_book_laws.proofs.Outcomes.{Inv, Moves}
use Rattle.qs_book_laws.proofs.Shares.{number}
use Rattle.qs_book_laws.proofs.Steps.{held, stepped, ran, after_both, lawful_front, lawful_rest}
use Rattle.qs_book_laws.proofs.Faces.{vote_by, recorded_by}
use Rattle.qs_base_lemmas.proofs.Tests.{eq_le}

-- ---- the vote

count_most : (tid : Tid) (member : Member) (inc : ℕ) (es : List (Tid × TransactionValue)) → (o : Option TransactionValue) → lookup (is_at (tid_cmp tid)) es ≡ o
    → (unwrap_or (option_map (count_in member inc) (lookup (is_at (tid_cmp tid)) (changed_value (is_at (tid_cmp tid)) (voted member inc votes.Recoverable) es))) no_count).covered
    ≤ (unwrap_or (option_map (count_in member inc) (lookup (is_at (tid_cmp tid)) (changed_value (is_at (tid_cmp tid)) (voted member inc votes.Recoverable) es))) no_count).served
count_most tid member inc es None is =
    subst (λ (o : Option TransactionValue). (unwrap_or (option_map (count_in member inc) o) no_count).covered ≤ (unwrap_or (option_map (count_in member inc) o) no_count).served)
    (sym (changed_none (is_at (tid_cmp tid)) (voted member inc votes.Recoverable) es is)) (le_refl 0)
count_most tid member inc es (Some tx) is =
    subst (λ (o : Option TransactionValue). (unwrap_or (option_map (count_in member inc) o) no_count).covered ≤ (unwrap_or (option_map (count_in member inc) o) no_count).served)
    (sym (lookup_changed (is_at (tid_cmp tid)) (voted member inc votes.Recoverable) es tx is)) (eq_le _ _ (voted_count member inc votes.Recoverable tx refl))

first_covers : (book : BookValue) (entry : Entry) (tid : Tid) (member : Member) (covers : ℕ) → broken book entry ≡ None → entry.act ≡ acts.Vote tid member votes.Recoverable covers
    → held_at (effect book entry) tid member ≡ held_at book tid member → Covers tid member (effect book entry)
first_covers book entry tid member covers h is same =
    let at : (node : NodeValue) × (slice_get book.nodes entry.node.0 ≡ Some node) × (broken_act book entry.stamp entry.node.0 node (acts.Vote tid member votes.Recoverable covers) ≡ None) =
    lawful_node book entry (acts.Vote tid member votes.Recoverable covers) is (λ node. refl) h in
    let e : member.node.0 ≡ entry.node.0 = vote_here entry.node.0 at.0 tid (find_transaction book tid) member votes.Recoverable covers at.2 in
    let there : slice_get book.nodes member.node.0 ≡ Some at.0 = ap (slice_get book.nodes) e ∙ at.1 in
    let rec : OnRecord = recorded_by book entry.node.0 tid member covers (pending_at at.0 tid member.server.0) in
    let f : NodeValue → NodeValue = vote_by book entry.node.0 tid member votes.Recoverable covers in
    let changed : slice_get (effect_act entry.stamp entry.node.0 (acts.Vote tid member votes.Recoverable covers) book).nodes member.node.0 ≡ Some (f at.0) =
    subst (λ (n : ℕ). slice_get (changed_at n f book.nodes) member.node.0 ≡ Some (f at.0)) e (changed_at_here f book.nodes member.node.0 at.0 there) in
    let last : slice_get (effect book entry).nodes member.node.0 ≡ Some (f at.0) =
    subst (λ (a : Act). slice_get (effect_act entry.stamp entry.node.0 a book).nodes member.node.0 ≡ Some (f at.0)) (sym is) changed in
    let put : record_of (f at.0) tid member.server.0 ≡ Some rec = lookup_put voter_cmp (voter tid member.server.0) rec (voter_itself (voter tid member.server.0)) at.0.records in
    let transactions : (effect book entry).transactions ≡ changed_value (is_at (tid_cmp tid)) (voted member at.0.inc votes.Recoverable) book.transactions =
    ap (λ (a : Act). (effect_act entry.stamp entry.node.0 a book).transactions) is ∙ ap (λ (inc : ℕ). changed_value (is_at (tid_cmp tid)) (voted member inc votes.Recoverable) book.transactions) (inc_there book entry.node.0 at.0 at.1) in
    record {
      mark = mark_in tid member.server.0 (f at.0);
      at = ap (λ (o : Option NodeValue). option_map (mark_in tid member.server.0) o) last;
      most =
          subst (λ (ts : List (Tid × TransactionValue)). (unwrap_or (option_map (count_in member at.0.inc) (lookup (is_at (tid_cmp tid)) ts)) no_count).covered ≤ (unwrap_or (option_map (count_in member at.0.inc) (lookup (is_at (tid_cmp tid)) ts)) no_count).served)
          (sym transactions) (count_most tid member at.0.inc book.transactions (find_transaction book tid) refl);
      all = λ equal. same ∙ (held_there book tid member at.0 there ∙ sym (ap changes_of put));
    }

-- ---- the history between

pub one_more : (book : BookValue) (entry : Entry) (tid : Tid) (member : Member) → keeps_contents member.server.0 ≡ true → broken book entry ≡ None → crossed_at book tid member ≡ false → lets_go tid member entry.node.0 entry.act ≡ false
    → crossed_at (effect book entry) tid member ≡ false → held_at (effect book entry) tid member ≡ held_at book tid member ++ change_served book tid member entry.act
one_more book entry tid member keeps h plain holds then_plain =
    holds_what_it_served book (entry ∷ []) tid member keeps (h, tt) (plain, (holds, then_plain))
    ∙ ap (λ (ops : List Op). held_at book tid member ++ ops) (append-nil (change_served book tid member entry.act))

first_plain : (book : BookValue) (entries : List Entry) (tid : Tid) (member : Member) → IsHolding book tid member entries → crossed_at book tid member ≡ false
first_plain book [] tid member holding = holding
first_plain book (entry ∷ entries) tid member holding = holding.0

ran_covers : (entries : List Entry) (book : BookValue) (tid : Tid) (member : Member) → keeps_contents member.server.0 ≡ true → Inv book → IsLawful book entries → IsHolding book tid member entries → NeverVotes tid member entries
    → Covers tid member book → Covers tid member (book_after book entries)
ran_covers [] book tid member keeps i lawful holding never c = c
ran_covers (entry ∷ entries) book tid member keeps i lawful holding never c =
    let w : (b : Bool) × (member.server.0 ≡ number b) = which member.server.0 keeps in
    ran_covers entries (effect book entry) tid member keeps (stepped book entry i lawful.0).inv lawful.1 holding.1.1 never.1
    (step_covers tid member w.0 w.1 book entry i lawful.0 holding.1.0 never.0
    (one_more book entry tid member keeps lawful.0 holding.0 holding.1.0 (first_plain (effect book entry) entries tid member holding.1.1)) c)

-- ---- the decision

pub agrees_all : (b : Bool) (member : Member) (inc : ℕ) (tx : TransactionValue) → member.server.0 ≡ number b → list_all agrees tx.parts ≡ true → (count_in member inc tx).covered ≡ (count_in member inc tx).served
agrees_all b member inc tx is all = by (lookup (is_at (life_cmp (life member inc))) tx.parts) refl
  where
    class : (c : Bool) (s : ℕ) (part : Part) → s ≡ number c → agrees_in (class_of s) part ≡ true → part.covered ≡ part.served
    class true s part e h = same_number part.covered part.served (subst (λ (n : ℕ). agrees_in (class_of n) part ≡ true) e h)
    class false s part e h = same_number part.covered part.served (subst (λ (n : ℕ). agrees_in (class_of n) part ≡ true) e h)

    by : (o : Option Part) → lookup (is_at (life_cmp (life member inc))) tx.parts ≡ o → (counts (unwrap_or o no_part)).covered ≡ (counts (unwrap_or o no_part)).served
    by None found = refl
    by (Some part) found =
        let at : (k : Life) × (is_at (life_cmp (life member inc)) k ≡ true) × (agrees (k, part) ≡ true) = entry_passes (is_at (life_cmp (life member inc))) agrees tx.parts part found all in
        let same : life member inc ≡ at.0 = life_exact (life member inc) at.0 at.1 in
        class b member.server.0 part is (subst (λ (l : Life). agrees (l, part) ≡ true) (sym same) at.2)

all_agree : (here : ℕ) (node : NodeValue) (nodes : List NodeValue) (tid : Tid) (o : Option TransactionValue) (stamp : ℕ) → broken_decide here node nodes tid o stamp outcomes.Commit None ≡ None → (tx : TransactionValue) × (o ≡ Some tx) × (list_all agrees tx.parts ≡ true)
all_agree here node nodes tid None stamp h = absurd (cc h)
all_agree here node nodes tid (Some tx) stamp h =
    let one = (held (may_decide here tid tx) 70 (broken_outcome node nodes tid tx stamp outcomes.Commit None) h).1 in
    let two : is_unanimous tx ≡ true = (held (is_unanimous tx) 71 None one).0 in
    (tx, refl, left_of (list_all agrees tx.parts) (is_empty tx.refusals && is_empty tx.crossed) (right_of _ _ two))

-- what is on record there, of the mark
pub marked : (tid : Tid) (member : Member) (o : Option NodeValue) (mark : Mark) → option_map (mark_in tid member.server.0) o ≡ Some mark → (elim o [ None ↦ None | Some v ↦ record_of v tid member.server.0 ]) ≡ mark.rec
marked tid member None mark e = absurd (cc e)
marked tid member (Some v) mark e = ap rec_in e
  where
    rec_in : Option Mark → Option OnRecord
    rec_in None = None
    rec_in (Some m) = m.rec

last_covers : (book : BookValue) (entry : Entry) (tid : Tid) (member : Member) → keeps_contents member.server.0 ≡ true → broken book entry ≡ None → entry.act ≡ acts.Decide tid outcomes.Commit None → Covers tid member book
    → changes_of (record_at member.node.0 book tid member.server.0) ≡ held_at book tid member
last_covers book entry tid member keeps h is c =
    let w : (b : Bool) × (member.server.0 ≡ number b) = which member.server.0 keeps in
    let at : (node : NodeValue) × (slice_get book.nodes entry.node.0 ≡ Some node) × (broken_act book entry.stamp entry.node.0 node (acts.Decide tid outcomes.Commit None) ≡ None) =
    lawful_node book entry (acts.Decide tid outcomes.Commit None) is (λ node. refl) h in
    let agree : (tx : TransactionValue) × (find_transaction book tid ≡ Some tx) × (list_all agrees tx.parts ≡ true) = all_agree entry.node.0 at.0 book.nodes tid (find_transaction book tid) entry.stamp at.2 in
    let count : count_of book tid member c.mark.inc ≡ count_in member c.mark.inc agree.0 = ap (λ (o : Option TransactionValue). unwrap_or (option_map (count_in member c.mark.inc) o) no_count) agree.1 in
    let equal : (count_of book tid member c.mark.inc).covered ≡ (count_of book tid member c.mark.inc).served =
    subst (λ (k : Count). k.covered ≡ k.served) (sym count) (agrees_all w.0 member c.mark.inc agree.0 w.1 agree.2) in
    ap changes_of (marked tid member (slice_get book.nodes member.node.0) c.mark c.at) ∙ sym (c.all equal)

pub record_covers : (opened : List Opened) (before between after : List Entry) (vote decision : Entry) (tid : Tid) (member : Member) (covers : ℕ) → IsCoherent opened → keeps_contents member.server.0 ≡ true
    → IsLawful (opening opened) (before ++ (vote ∷ (between ++ (decision ∷ after)))) → vote.act ≡ acts.Vote tid member votes.Recoverable covers → decision.act ≡ acts.Decide tid outcomes.Commit None
    → IsHolding (book_after (opening opened) before) tid member (vote ∷ between) → NeverVotes tid member between
    → changes_of (record_at member.node.0 (book_after (opening opened) (before ++ (vote ∷ between))) tid member.server.0) ≡ held_at (book_after (opening opened) (before ++ (vote ∷ between))) tid member
record_covers opened before between after vote decision tid member covers coherent keeps lawful voted decided holding never =
    let book : BookValue = book_after (opening opened) before in
    let here : IsLawful book (vote ∷ (between ++ (decision ∷ after))) = lawful_rest before (vote ∷ (between ++ (decision ∷ after))) (opening opened) lawful in
    let m : Moves (opening opened) book = ran before (opening opened) (opening_holds opened coherent) (lawful_front before (vote ∷ (between ++ (decision ∷ after))) (opening opened) lawful) in
    let one : held_at (effect book vote) tid member ≡ held_at book tid member ++ change_served book tid member vote.act =
    one_more book vote tid member keeps here.0 holding.0 holding.1.0 (first_plain (effect book vote) between tid member holding.1.1) in
    let same : held_at (effect book vote) tid member ≡ held_at book tid member =
    one ∙ (ap (λ (a : Act). held_at book tid member ++ change_served book tid member a) voted ∙ append-nil (held_at book tid member)) in
    let first : Covers tid member (effect book vote) = first_covers book vote tid member covers here.0 voted same in
    let last : Covers tid member (book_after (effect book vote) between) =
    ran_covers between (effect book vote) tid member keeps (stepped book vote m.inv here.0).inv (lawful_front between (decision ∷ after) (effect book vote) here.1) holding.1.1 never first in
    subst (λ (b : BookValue). changes_of (record_at member.node.0 b tid member.server.0) ≡ held_at b tid member) (sym (after_both before (vote ∷ between) (opening opened)))
    (last_covers (book_after (effect book vote) between) decision tid member keeps (lawful_rest between (decision ∷ after) (effect book vote) here.1).0 decided last)
