-- When an act of a node that runs is a lawful step: each clause, from what the machine and the node hold alike.
use Rattle.qs_world_lawful.proofs.Words.{◌≡◌, ◌≢◌, ℕ, ◌+◌, ◌==◌, ◌≤◌, Bool, true, false, List, Option, Some, None, refl, sym, ap, subst, ◌∙◌, arith, nat_lt, nat_tests, not, ◌&&◌, ◌||◌, slice_get, is_some, is_none, if◌then◌else◌, nat_le, list_any, ClientNo, Member, NodeNo, Outcome, ServerNo, Tid, class_of, is_two_phase, learns_outcome, Answer, Reply, Vote, Act, TransactionValue, is_open, is_commit, is_covering, learnt_abort, standing_request, sent_in, sent_on, may_learn_still, Request, BookValue}
use Rattle.qs_world_lawful.proofs.Words.{find_transaction, is_fresh, is_reply, is_vote, is_known, broken, broken_node, broken_act, Owner, peer_of, member_of, Participant, entry_of, is_held, face_of, part_in, at_server, Holds, HoldsTid, HoldsAt, eqb-self}
use Rattle.qs_base.specs.declared.identifiers.Outcome.TheVariants as outcomes
use Rattle.qs_book_journal.specs.declared.entry.Act.TheVariants as acts
use Rattle.qs_book_machine.specs.Transaction.{part_of}
use Rattle.qs_book_machine.specs.Clauses.{waits_for, earlier_servers}
use Rattle.qs_book_machine.specs.Nodes as machine
use Rattle.qs_tm.specs.Manager as tm
use Rattle.qs_node_step.specs.State.{NodeValue}
use Rattle.qs_tm.specs.Members as rules
use Rattle.qs_world_lawful.specs.Holds.{is_kept}

-- ---- clauses 1 and 2

abbrev clause : ℕ → Option ℕ
clause n = Some n

module _ (stamp : ℕ) (book : BookValue) (node : NodeValue) (h : Holds stamp book node) where
  -- an act is lawful where it breaks no clause of its own
  pub lawful_act : (act : Act) → ((state : machine.NodeValue) → broken_node book stamp node.setting.node.0 state act ≡ (if state.up then broken_act book stamp node.setting.node.0 state act else Some 2))
      → broken_act book stamp node.setting.node.0 h.state act ≡ None → broken book (entry_of node.setting.node.0 stamp act) ≡ None
  lawful_act act runs is = rw (h.order, h.there, runs h.state, h.same.up) is

  -- and where it is lawful it breaks none
  pub act_allowed : (act : Act) → ((state : machine.NodeValue) → broken_node book stamp node.setting.node.0 state act ≡ (if state.up then broken_act book stamp node.setting.node.0 state act else Some 2))
      → broken book (entry_of node.setting.node.0 stamp act) ≡ None → broken_act book stamp node.setting.node.0 h.state act ≡ None
  act_allowed act runs is = rw (h.order, h.there, runs h.state, h.same.up) at is

  -- ---- 10, 11

  own : (m a j i s n b : ℕ) → m ≡ a → j ≡ s → i ≡ s → n ≡ b → ((m == a) && ((j == i) && (b + 1 == n + 1))) ≡ true
  own m a j i s n b p q r e = grind (arith, nat_tests, p, q, r, e)

  pub may_begin : (label : List ℕ) (client : ClientNo) → is_fresh book.labels label ≡ true → broken book (entry_of node.setting.node.0 stamp (acts.Begin (tm.next_tid node.manager) label client)) ≡ None
  may_begin label client fresh = lawful_act (acts.Begin (tm.next_tid node.manager) label client) (λ state. refl) (both _ _ (own node.manager.node.0 node.setting.node.0 node.manager.inc h.state.inc node.setting.inc h.state.begun node.manager.begun (ap (λ n. n.0) h.same.at) h.same.in_inc h.same.inc h.same.begun) fresh)
    where
      both : (a b : Bool) → a ≡ true → b ≡ true → (if not a then clause 10 else if not b then clause 11 else None) ≡ None
      both a b p q = rw (p, q) refl

  -- ---- ticks

  pub may_tick : broken book (entry_of node.setting.node.0 stamp acts.Tick) ≡ None
  may_tick = lawful_act acts.Tick (λ state. refl) refl

  -- ---- 50

  module _ (tid : Tid) (tx : TransactionValue) (found : find_transaction book tid ≡ Some tx) where
    pub of_tid : HoldsTid node.setting.node node.setting.inc tid tx (face_of node tid)
    of_tid = subst (λ (o : Option TransactionValue). HoldsAt node.setting.node node.setting.inc tid o (face_of node tid)) found (h.at tid)

    is_home : tid.home ≡ node.setting.node → (tid.home.0 == node.setting.node.0) ≡ true
    is_home e = grind (arith, nat_tests, e)

    -- the owner asks for commit, where its home was not asked and has no outcome
    pub may_ask : (part : Participant) → tm.part_of tid node.manager ≡ Some part → tid.home ≡ node.setting.node → tid.inc ≡ node.setting.inc → part.asked ≡ false → part.outcome ≡ None
        → broken book (entry_of node.setting.node.0 stamp (acts.Ask tid)) ≡ None
    may_ask part known home inc asked unknown =
        let still : is_open tx.cell ≡ true = (of_tid.home home inc).undecided part known unknown in
        lawful_act (acts.Ask tid) (λ state. refl) (rw found (allowed _ _ _ (is_home home) still (none _ ((of_tid.home home inc).asked part known still ∙ asked))))
      where
        allowed : (a b c : Bool) → a ≡ true → b ≡ true → c ≡ true → (if a && (b && c) then None else clause 50) ≡ None
        allowed a b c p q r = rw (p, q, r) refl

        none : (o : Option ℕ) → is_some o ≡ false → is_none o ≡ true
        none None e = refl
        none (Some n) e = absurd (cc e)

    -- what is known is held, and so is what is not committed
    pub known_held : is_some (tm.part_of tid node.manager) ≡ true → is_held tx (face_of node tid) ≡ true
    known_held known = rw known refl

    pub open_held : is_commit tx.cell ≡ false → is_held tx (face_of node tid) ≡ true
    open_held still = by (is_some (tm.part_of tid node.manager)) (is_commit tx.cell) still
      where
        by : (a b : Bool) → b ≡ false → (a || not b) ≡ true
        by true b e = refl
        by false b e = ap not e

    -- ---- 60

    -- a peer's answer up to a number that was sent to it
    pub may_count : (peer : NodeNo) (up_to : ℕ) → is_some (tm.part_of tid node.manager) ≡ true → (peer.0 == node.setting.node.0) ≡ false → nat_lt peer.0 node.setting.nodes ≡ true → up_to ≤ (peer_of (part_in (face_of node tid)).engage peer).sent
        → broken book (entry_of node.setting.node.0 stamp (acts.Counted tid peer up_to)) ≡ None
    may_count peer up_to known other in_run most =
        lawful_act (acts.Counted tid peer up_to) (λ state. refl)
        (rw found (allowed _ _ _ other (subst (λ n. nat_lt peer.0 n ≡ true) (sym h.run) in_run) (within up_to _ _ most (counted_is peer other))))
      where
        allowed : (a b c : Bool) → a ≡ false → b ≡ true → c ≡ true → (if (not a && b) && c then None else clause 60) ≡ None
        allowed a b c p q r = rw (p, q, r) refl

        within : (u a b : ℕ) → u ≤ b → a ≡ b → nat_le u a ≡ true
        within u a b most same = grind (arith, nat_tests, most, same)

        apart : (p : NodeNo) → (p.0 == node.setting.node.0) ≡ false → p.0 ≢ node.setting.node.0
        apart p far e = grind (arith, nat_tests)

        counted_is : (p : NodeNo) → (p.0 == node.setting.node.0) ≡ false → sent_in h.state.inc (sent_on tx (record { from = record { 0 = node.setting.node.0 }; to = p })) ≡ (peer_of (part_in (face_of node tid)).engage p).sent
        counted_is p far = ap (λ inc. sent_in inc (sent_on tx (record { from = node.setting.node; to = p }))) h.same.inc ∙ of_tid.sent (known_held known) p (apart p far)

    -- ---- 30, 31, 32

    -- a member serves a request that stands, with the reply of its server
    pub may_serve : (member : Member) (from : NodeNo) (number : ℕ) (reply : Reply) (request : Request) → member.node ≡ node.setting.node
        → standing_request tx (record { link = record { from = from; to = member.node }; number = number }) member ≡ Some request
        → is_reply node.setting.node.0 h.state book.transactions tid tx member request.op reply ≡ true
        → (part_in (face_of node tid)).outcome ≡ None
        → broken book (entry_of node.setting.node.0 stamp (acts.Serve tid member from number reply)) ≡ None
    may_serve member from number reply request near stands due unknown =
        lawful_act (acts.Serve tid member from number reply) (λ state. refl)
        (rw (found, is_near, stands, due, silent_here) refl)
      where
        is_near : (member.node.0 == node.setting.node.0) ≡ true
        is_near = grind (arith, nat_tests, near)

        silent_by : (b : Bool) → (b ≡ true → (part_in (face_of node tid)).outcome ≡ Some outcomes.Abort) → b ≡ false
        silent_by false s = refl
        silent_by true s = absurd (cc (sym unknown ∙ s refl))

        silent_here : learnt_abort tx member.node h.state.inc ≡ false
        silent_here = ap (λ n. learnt_abort tx n h.state.inc) near ∙ (ap (learnt_abort tx node.setting.node) h.same.inc ∙ silent_by (learnt_abort tx node.setting.node node.setting.inc) of_tid.silent)

    -- ---- 40, 41, 42

    -- a member votes, where its vote is due and the transaction is not committed
    pub may_vote : (server : ServerNo) (ballot : Vote) → is_kept server ≡ true → is_two_phase (class_of server.0) ≡ true → (part_in (face_of node tid)).asked ≡ true → is_commit tx.cell ≡ false
        → rules.is_covering (member_of (part_in (face_of node tid)) server) ≡ false
        → is_vote h.state tid tx (at_server node.setting.node server) ballot ≡ true
        → broken book (entry_of node.setting.node.0 stamp (acts.Vote tid (at_server node.setting.node server) ballot (member_of (part_in (face_of node tid)) server).served)) ≡ None
    may_vote server ballot kept two asked still due right =
        lawful_act (acts.Vote tid (at_server node.setting.node server) ballot (member_of (part_in (face_of node tid)) server).served) (λ state. refl)
        (rw found (allowed _ _ _ _ _ _ _ two (eqb-self node.setting.node.0) (of_tid.asked asked) still open_vote covers right))
      where
        open_vote : nat_lt (part_of tx (at_server node.setting.node server) h.state.inc).voted (part_of tx (at_server node.setting.node server) h.state.inc).served ≡ true
        open_vote =
            ap (λ inc. nat_lt (part_of tx (at_server node.setting.node server) inc).voted (part_of tx (at_server node.setting.node server) inc).served) h.same.inc
            ∙ ((of_tid.members (open_held still) server kept).votes two).is_due ∙ ap not due

        covers : is_covering tx (at_server node.setting.node server) h.state.inc (member_of (part_in (face_of node tid)) server).served ≡ true
        covers = ap (λ inc. is_covering tx (at_server node.setting.node server) inc (member_of (part_in (face_of node tid)) server).served) h.same.inc ∙ (of_tid.members (open_held still) server kept).covers two

        allowed : (a b c d e f g : Bool) → a ≡ true → b ≡ true → c ≡ true → d ≡ false → e ≡ true → f ≡ true → g ≡ true
            → (if not ((a && b) && ((c && not d) && e)) then clause 40 else if not f then clause 41 else if not g then clause 42 else None) ≡ None
        allowed a b c d e f g p q r s t u v = rw (p, q, r, s, t, u, v) refl

    -- ---- 95, 96, 97

    -- a member that is to learn learns the outcome that its node knows, where no earlier one is still to
    pub may_learn : (server : ServerNo) (outcome : Outcome) → is_kept server ≡ true → is_some (tm.part_of tid node.manager) ≡ true → (part_in (face_of node tid)).outcome ≡ Some outcome → learns_outcome (class_of server.0) ≡ true
        → rules.is_to_learn (class_of server.0) (member_of (part_in (face_of node tid)) server) ≡ true
        → list_any (waits_for tx (at_server node.setting.node server) h.state.inc) (earlier_servers (class_of server.0)) ≡ false
        → broken book (entry_of node.setting.node.0 stamp (acts.Learn tid (at_server node.setting.node server) outcome)) ≡ None
    may_learn server outcome kept known knows told due first =
        lawful_act (acts.Learn tid (at_server node.setting.node server) outcome) (λ state. refl)
        (rw found (allowed _ _ _ _ _ _ (of_tid.outcome outcome knows) (eqb-self node.setting.node.0) told still first))
      where
        still : may_learn_still (part_of tx (at_server node.setting.node server) h.state.inc) ≡ true
        still = ap (λ inc. may_learn_still (part_of tx (at_server node.setting.node server) inc)) h.same.inc ∙ ((of_tid.members (known_held known) server kept).learns told ∙ due)

        allowed : (a b c d e f : Bool) → a ≡ true → b ≡ true → c ≡ true → (d && not e) ≡ true → f ≡ false
            → (if not ((a && b) && (c && d)) then clause 95 else if e then clause 96 else if f then clause 97 else None) ≡ None
        allowed a b c true false f p q r s t = rw (p, q, r, t) refl
        allowed a b c true true f p q r s t = absurd (cc s)
        allowed a b c false e f p q r s t = absurd (cc s)

  -- ---- 80, 81

  pub may_answer : (client : ClientNo) (line : ℕ) (said : Answer) (owner : Owner) → slice_get book.owners client.0 ≡ Some owner → nat_lt owner.line line ≡ true → is_known owner said ≡ true
      → broken book (entry_of node.setting.node.0 stamp (acts.Answer client line said)) ≡ None
  may_answer client line said owner there less known = lawful_act (acts.Answer client line said) (λ state. refl) (rw (there, less, known) refl)
