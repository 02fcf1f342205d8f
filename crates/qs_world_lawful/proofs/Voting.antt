-- A server votes: the rule as a whole, but for its Prepare.
use Rattle.qs_world_lawful.proofs.Words.{is_seen, HoldsWaits, ◌≡◌, ℕ, ◌+◌, ◌==◌, Bool, true, false, List, [], ◌∷◌, Option, Some, None, Less, Equal, Greater, refl, sym, ap, subst, ◌∙◌, length, nat_lt, not, ◌&&◌, ◌||◌, list_any, insert_key, Ordering, same_member, Member, NodeNo, ServerNo, Tid, same_member-true, class_of, is_two_phase, changes_in, after_vote, Vote, TransactionValue, life, is_start, start_cmp, starts_after, voted, voted_part, Part, Start, BookValue, find_transaction, inc_at, vote_node}
use Rattle.qs_world_lawful.proofs.Words.{pending_in, crossed_in, broken, member_of, with_member, with_causes_of, MemberPart, Participant, with_server, Work, enter_vote, served_count, entry_of, face_of, at_server, HoldsMember, HoldsTid, HoldsWork, book_at}
use Rattle.qs_world_lawful.proofs.Alike.{voted_servers}
use Rattle.qs_world_lawful.proofs.Files.{voted_share}
use Rattle.qs_world_lawful.proofs.MemberWaits.{seen_here, voted_waits}
use Rattle.qs_world_lawful.proofs.Steps.{waits_of}
use Rattle.qs_ops.specs.declared.vote.Vote.TheVariants as votes
use Rattle.qs_book_journal.specs.declared.entry.Act.TheVariants as acts
use Rattle.qs_book_machine.specs.Transaction.{part_of}
use Rattle.qs_tm.specs.Manager as tm
use Rattle.qs_tm.specs.Members as rules
use Rattle.qs_tm.specs.Participant as participant
use Rattle.qs_node_step.specs.State.{NodeValue}
use Rattle.qs_world_lawful.specs.Holds.{is_kept}
use Rattle.qs_world_lawful.proofs.Casting.{cast, voted_member}
use Rattle.qs_world_lawful.proofs.Clauses.{of_tid}
use Rattle.qs_world_lawful.proofs.Files.{voted_apart}
use Rattle.qs_world_lawful.proofs.Growing.{entered}
use Rattle.qs_world_lawful.proofs.MemberRule.{by_member, inc_here, parts_alike}
use Rattle.qs_world_lawful.proofs.MemberTid.{member_tid, rest_of, IsOther}
use Rattle.qs_world_lawful.proofs.Parts.{changed_part_apart, aborts_alike, with_own, with_other, set_size}
use Rattle.qs_world_lawful.proofs.States.{vote_state}

-- ---- the machine

voted_rest : (member : Member) (inc : ℕ) (ballot : Vote) (tx : TransactionValue) → rest_of (voted member inc ballot tx) ≡ rest_of tx
voted_rest member inc ballot tx = refl

voted_aborted : (ballot : Vote) (p : Part) → (voted_part ballot p).aborted ≡ p.aborted
voted_aborted (votes.Abort reason) p = refl
voted_aborted votes.ReadOnly p = refl
voted_aborted votes.Volatile p = refl
voted_aborted votes.Recoverable p = refl

-- a start of one member is none of another's
any_put : (p : Start → Bool) (k : Start) (xs : List Start) → p k ≡ false → list_any p (insert_key start_cmp xs k) ≡ list_any p xs
any_put p k [] out = rw out refl
any_put p k (x ∷ xs) out = by (start_cmp k x) refl (any_put p k xs out)
  where
    by : (r : Ordering) → start_cmp k x ≡ r → list_any p (insert_key start_cmp xs k) ≡ list_any p xs → list_any p (insert_key start_cmp (x ∷ xs) k) ≡ list_any p (x ∷ xs)
    by Less is more = rw is (rw out refl)
    by Equal is more = rw is refl
    by Greater is more = rw is (ap (λ (b : Bool). p x || b) more)

starts_other : (ballot : Vote) (here : NodeNo) (inc n : ℕ) (server other : ServerNo) → IsOther server other → (served covers : ℕ) (starts : List Start)
    → list_any (is_start (at_server here other) inc served covers) (starts_after ballot (life (at_server here server) inc) n starts) ≡ list_any (is_start (at_server here other) inc served covers) starts
starts_other (votes.Abort reason) here inc n server other far served covers starts = refl
starts_other votes.Volatile here inc n server other far served covers starts = refl
starts_other votes.Recoverable here inc n server other far served covers starts = refl
starts_other votes.ReadOnly here inc n server other far served covers starts = any_put (is_start (at_server here other) inc served covers) (record { life = life (at_server here server) inc; served = n }) starts (out (same_member (at_server here server) (at_server here other)) refl)
  where
    out : (b : Bool) → same_member (at_server here server) (at_server here other) ≡ b → (same_member (at_server here server) (at_server here other) && ((inc == inc) && (n + covers == served))) ≡ false
    out false is = rw is refl
    out true is = absurd (far (ap (λ (m : Member). m.server.0) (same_member-true (at_server here server) (at_server here other) is)))

-- ---- the rule

module _ (stamp : ℕ) (before : BookValue) (work : Work) (tid : Tid) (server : ServerNo) (ballot : Vote) (part : Participant) (tx : TransactionValue) (h : HoldsWork stamp before work)
    (known : tm.part_of tid work.node.manager ≡ Some part) (found : find_transaction (book_at stamp before work) tid ≡ Some tx) (kept : is_kept server ≡ true) (two : is_two_phase (class_of server.0) ≡ true)
    (due : rules.is_covering (member_of part server) ≡ false) where
  abbrev node : NodeValue
  node = work.node

  abbrev here : NodeNo
  here = node.setting.node

  abbrev inc : ℕ
  inc = node.setting.inc

  abbrev book : BookValue
  book = book_at stamp before work

  abbrev member : Member
  member = at_server here server

  abbrev count : ℕ
  count = served_count tid server work

  count_is : count ≡ (member_of part server).served
  count_is = ap (λ (o : Option Participant). elim o [ None ↦ 0 | Some p ↦ (member_of p server).served ]) known

  abbrev p_now : Participant → Participant
  p_now = participant.voted member ballot count

  abbrev f : ℕ → TransactionValue → TransactionValue
  f i = voted member i ballot

  held : HoldsTid here inc tid tx (record (face_of node tid) { known = Some part })
  held = subst (λ (o : Option Participant). HoldsTid here inc tid tx (record (face_of node tid) { known = o })) known (of_tid stamp book node h.holds tid tx found)

  voter_due : nat_lt (part_of tx member inc).voted (part_of tx member inc).served ≡ true
  voter_due = ((held.members refl server kept).votes two).is_due ∙ ap not due

  own_is : member_of (p_now part) server ≡ cast ballot (member_of part server)
  own_is = with_own server (record (member_of part server) { vote = Some (record { ballot = rules.ballot_of ballot; covers = count }) }) (with_causes_of member ballot part) held.sized kept
      ∙ ap (λ (n : ℕ). record (member_of part server) { vote = Some (record { ballot = rules.ballot_of ballot; covers = n }) }) count_is

  own : HoldsMember (f inc tx) member inc (member_of (p_now part) server)
  own = subst (λ (m : MemberPart). HoldsMember (f inc tx) member inc m) (sym own_is) (voted_member tx member inc ballot (member_of part server) (held.members refl server kept) two voter_due)

  module _ (pending : (part_of (f inc tx) (at_server here rules.files_no) inc).pending ≡ length (changes_in (with_server server (λ value. after_vote value tid ballot) node.servers).files tid)) where
    own_tid : HoldsTid here inc tid (f inc tx) (record (face_of node tid) { known = Some (p_now part); changes = length (changes_in (with_server server (λ value. after_vote value tid ballot) node.servers).files tid) })
    own_tid = member_tid here inc tid tx (f inc tx) (face_of node tid) part (p_now part) server (length (changes_in (with_server server (λ value. after_vote value tid ballot) node.servers).files tid)) held kept
        refl refl (set_size server.0 (record (member_of part server) { vote = Some (record { ballot = rules.ballot_of ballot; covers = count }) }) part.members)
        (λ other far. changed_part_apart (life member inc) (voted_part ballot) tx.parts other inc far)
        (λ other far served covers. starts_other ballot here inc (part_of tx member inc).served server other far served covers tx.starts)
        own
        (λ other far. with_other server other (record (member_of part server) { vote = Some (record { ballot = rules.ballot_of ballot; covers = count }) }) (with_causes_of member ballot part) far)
        (λ is. held.silent (sym (aborts_alike tx (f inc tx) here inc (λ m. parts_alike (λ (p : Part). p.aborted) (life member inc) (voted_part ballot) (voted_aborted ballot) tx.parts m inc)) ∙ is))
        pending

    pub by_vote : broken book (entry_of here.0 stamp (acts.Vote tid member ballot count)) ≡ None → HoldsWork stamp before (enter_vote tid server ballot work)
    by_vote lawful = entered stamp before work (enter_vote tid server ballot work) (acts.Vote tid member ballot count) h refl refl lawful
        (by_member stamp book node server tid part tx h.holds known found (acts.Vote tid member ballot count) (f (inc_at book (record { 0 = here.0 })))
        (vote_node (pending_in (find_transaction book tid) member (inc_at book (record { 0 = here.0 }))) (crossed_in (find_transaction book tid) member) tid server.0 ballot count)
        (λ value. after_vote value tid ballot) p_now refl
        (λ x. refl) (vote_state _ _ tid server.0 ballot count) (λ q. refl) (λ t far value. voted_apart tid t ballot value far)
        (subst (λ (i : ℕ). HoldsTid here inc tid (f i tx) (record (face_of node tid) { known = Some (p_now part); changes = length (changes_in (with_server server (λ value. after_vote value tid ballot) node.servers).files tid) })) (sym (inc_here stamp book node h.holds)) own_tid)
        (λ x. refl) (voted_servers (is_seen book here) h.holds.state node.servers h.holds.servers server tid ballot _ count _ (seen_here book here server tid)) (λ t far value. voted_share tid t ballot value far)
        (subst (λ (i : ℕ). HoldsWaits here inc tid (f i tx) (face_of node tid).waiting (with_server server (λ value. after_vote value tid ballot) node.servers)) (sym (inc_here stamp book node h.holds))
        (voted_waits here inc tid tx (face_of node tid).waiting node.servers (is_seen book here) h.holds.state h.holds.servers (waits_of stamp book node h.holds tid tx found) server ballot)))
