-- A vote that goes on record, and the votes that a restart finds.
use Rattle.qs_book_laws.proofs.Words.{◌≡◌, ◌⊎◌, ℕ, [], ◌∷◌, ◌++◌, ◌==◌, ◌&&◌, Bool, true, false, not, List, Option, Some, None, inl, refl, sym, ap, subst, ◌∙◌, if◌then◌else◌, is_some, nat_lt, flat_map, AllByRecursion, option_map, insert_entry, is_at, Equal, Member, Tid, Vote, Found, class_of, is_two_phase, TransactionValue, is_commit, part_of, BookValue, find_transaction, broken_vote, is_vote_due, has_vote, NodeValue, voter, voter_cmp, record_of, pending_at, changes_of, new_vote, is_new_vote}
use Rattle.qs_book_laws.proofs.Words.{with_votes, vote_as_stopped, OnRecord, Voter, and_last}
use Rattle.qs_book_machine.specs.Transaction.{was_in_commit, was_committed, is_before}
use Rattle.qs_book_machine.specs.Restart.{is_on_record, could_vote, with_vote}
use Rattle.qs_book_laws.proofs.Alikes.{voter_exact, voter_equal, voter_itself}
use Rattle.qs_book_laws.proofs.Maps.{lookup_put, lookup_put_apart}
use Rattle.qs_book_laws.proofs.Shut.{Changes, changes_none, put_changes}
use Rattle.qs_book_laws.proofs.Steps.{passed}
use Rattle.qs_book_laws.proofs.Stills.{Facet, facet, asked_of, asks_at}
use Rattle.qs_ops.specs.declared.vote.Vote.TheVariants as votes
use Rattle.qs_base_lemmas.proofs.Tests.{and_first}

second_of : (a b c d : Bool) → (a && ((b && c) && d)) ≡ true → b ≡ true
second_of a b c d h = and_first b c (and_first (b && c) d (and_last a ((b && c) && d) h))

none_of : (o : Option ℕ) → Some o ≡ Some None → o ≡ None
none_of o e = cc

-- ---- a vote

asked_voted : (here : ℕ) (node : NodeValue) (tid : Tid) (o : Option TransactionValue) (member : Member) (ballot : Vote) (covers : ℕ) → broken_vote here node tid o member ballot covers ≡ None → option_map asked_of o ≡ Some None → ⊥
asked_voted here node tid None member ballot covers h asks = absurd (cc h)
asked_voted here node tid (Some tx) member ballot covers h asks =
    let due : is_vote_due here tx member (part_of tx member node.inc) ≡ true = passed (is_vote_due here tx member (part_of tx member node.inc)) 40 _ h in
    let asked : is_some tx.asked ≡ true = second_of (is_two_phase (class_of member.server.0) && (member.node.0 == here)) (is_some tx.asked) (not (is_commit tx.cell)) (nat_lt (part_of tx member node.inc).voted (part_of tx member node.inc).served) due in
    none tx.asked asked (none_of tx.asked asks)
  where
    none : (o : Option ℕ) → is_some o ≡ true → o ≡ None → ⊥
    none None h is = absurd (cc h)
    none (Some at) h is = absurd (cc is)

pub vote_changes : (book : BookValue) (here : ℕ) (node : NodeValue) (tid : Tid) (member : Member) (ballot : Vote) (covers : ℕ) (rec : OnRecord) → broken_vote here node tid (find_transaction book tid) member ballot covers ≡ None
    → Changes book (facet node) (record (facet node) { records = insert_entry voter_cmp node.records (voter tid member.server.0) rec })
vote_changes book here node tid member ballot covers rec h =
    put_changes book (facet node) (facet node) (voter tid member.server.0) rec (changes_none book (facet node)) (asked_voted here node tid (find_transaction book tid) member ballot covers h)

-- ---- votes that a restart finds

-- a vote that is new: commit was asked for, and it has what was pending
pub record IsNew (book : BookValue) (node : NodeValue) (vote : Voter × OnRecord) : Type 0 where
  pub asked : asks_at book vote.0.tid ≡ Some None → ⊥
  pub changes : vote.1.changes ≡ pending_at node vote.0.tid vote.0.server.0

not_before : (place : ℕ) (o : Option ℕ) → is_before place o ≡ true → o ≡ None → ⊥
not_before place None h is = absurd (cc h)
not_before place (Some at) h is = absurd (cc is)

asked_new : (here : ℕ) (node : NodeValue) (o : Option TransactionValue) (found : Found) → is_new_vote here node o found ≡ true → option_map asked_of o ≡ Some None → ⊥
asked_new here node None found h asks = absurd (cc h)
asked_new here node (Some tx) found h asks =
    let could : could_vote here node tx found ≡ true = and_last (not (is_on_record node found)) (could_vote here node tx found) h in
    let was : was_in_commit node.stopped tx ≡ true = and_first (was_in_commit node.stopped tx) _ (and_last (has_vote found.server.0 votes.Recoverable) _ could) in
    let before : is_before node.stopped tx.asked ≡ true = and_first (is_before node.stopped tx.asked) (not (was_committed node.stopped tx)) was in
    not_before node.stopped tx.asked before (none_of tx.asked asks)

new_made : (book : BookValue) (here : ℕ) (node : NodeValue) (found : Found) (more : List (Voter × OnRecord)) → AllByRecursion (IsNew book node) more → AllByRecursion (IsNew book node) (new_vote here book node found ++ more)
new_made book here node found more all = by (is_new_vote here node (find_transaction book found.tid) found) refl
  where
    vote : Voter × OnRecord
    vote = (voter found.tid found.server.0, vote_as_stopped here book node found)

    by : (b : Bool) → is_new_vote here node (find_transaction book found.tid) found ≡ b → AllByRecursion (IsNew book node) ((if b then vote ∷ [] else []) ++ more)
    by true is = (record { asked = asked_new here node (find_transaction book found.tid) found is; changes = refl }, all)
    by false is = all

pub votes_made : (book : BookValue) (here : ℕ) (node : NodeValue) (pend : List Found) → AllByRecursion (IsNew book node) (flat_map (new_vote here book node) pend)
votes_made book here node [] = tt
votes_made book here node (found ∷ pend) = new_made book here node found (flat_map (new_vote here book node) pend) (votes_made book here node pend)

pub votes_change : (book : BookValue) (node : NodeValue) (votes : List (Voter × OnRecord)) → AllByRecursion (IsNew book node) votes → (was : Facet) (v : NodeValue) → Changes book was (facet v) → Changes book was (facet (with_votes votes v))
votes_change book node [] all was v changes = changes
votes_change book node (vote ∷ votes) all was v changes =
    votes_change book node votes all.1 was (with_vote v vote) (put_changes book was (facet v) vote.0 vote.1 changes all.0.asked)

-- the server's changes: what was pending, or what was on record
abbrev pub IsHeld : NodeValue → NodeValue → Tid → ℕ → Type 0
IsHeld node v tid server = (changes_of (record_of v tid server) ≡ pending_at node tid server) ⊎ (changes_of (record_of v tid server) ≡ changes_of (record_of node tid server))

pub votes_held : (book : BookValue) (node : NodeValue) (votes : List (Voter × OnRecord)) → AllByRecursion (IsNew book node) votes → (v : NodeValue) (tid : Tid) (server : ℕ) → IsHeld node v tid server → IsHeld node (with_votes votes v) tid server
votes_held book node [] all v tid server held = held
votes_held book node (vote ∷ votes) all v tid server held = votes_held book node votes all.1 (with_vote v vote) tid server (by (is_at (voter_cmp (voter tid server)) vote.0) refl)
  where
    exact : (x : Voter) → voter_cmp vote.0 x ≡ Equal → vote.0 ≡ x
    exact x same = voter_equal vote.0 x same

    by : (b : Bool) → is_at (voter_cmp (voter tid server)) vote.0 ≡ b → IsHeld node (with_vote v vote) tid server
    by true same =
        let v_is : voter tid server ≡ vote.0 = voter_exact (voter tid server) vote.0 same in
        let put : record_of (with_vote v vote) vote.0.tid vote.0.server.0 ≡ Some vote.1 = lookup_put voter_cmp vote.0 vote.1 (voter_itself vote.0) v.records in
        let at_vote : changes_of (record_of (with_vote v vote) vote.0.tid vote.0.server.0) ≡ pending_at node vote.0.tid vote.0.server.0 = ap changes_of put ∙ all.0.changes in
        inl (subst (λ (w : Voter). changes_of (record_of (with_vote v vote) w.tid w.server.0) ≡ pending_at node w.tid w.server.0) (sym v_is) at_vote)
    by false other =
        let same : record_of (with_vote v vote) tid server ≡ record_of v tid server = lookup_put_apart voter_cmp vote.0 vote.1 exact (is_at (voter_cmp (voter tid server))) other v.records in
        subst (λ (o : Option OnRecord). (changes_of o ≡ pending_at node tid server) ⊎ (changes_of o ≡ changes_of (record_of node tid server))) (sym same) held

pub votes_leave : (votes : List (Voter × OnRecord)) (v : NodeValue) → (((with_votes votes v).files ≡ v.files) × ((with_votes votes v).audit ≡ v.audit) × ((with_votes votes v).committed ≡ v.committed))
votes_leave [] v = (refl, refl, refl)
votes_leave (vote ∷ votes) v = votes_leave votes (with_vote v vote)
