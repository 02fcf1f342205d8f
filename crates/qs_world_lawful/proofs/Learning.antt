-- A server learns how a transaction ends, or is told that it ends: the rules as a whole.
use Rattle.qs_world_lawful.proofs.Words.{is_seen, HoldsWaits, names_no, windows_no, scratch_no, is_client_no, Cell, is_commit, is_outcome, ◌≡◌, ℕ, ◌==◌, ◌≤◌, Bool, true, false, Option, Some, None, refl, sym, ap, subst, ◌∙◌, arith, length, nat_tests, not, ◌&&◌, ◌||◌, unwrap_or, is_some, if◌then◌else◌, list_any, lookup, is_at, Class, Member, NodeNo, Outcome, ServerNo, Tid, class_of, is_two_phase, learns_outcome, changes_in, after_notice, Notice, TransactionValue, no_part, life, life_cmp}
use Rattle.qs_world_lawful.proofs.Words.{changed_value, learnt, learnt_part, ended_part, is_start, learnt_abort, Part, BookValue, find_transaction, inc_at, learn_node, doubts_after, end_node, broken, lookup_changed, member_of, MemberPart, Participant, learn_member, end_member, notice_of, with_server, Work, entry_of, face_of, at_server, HoldsMember, HoldsTid, HoldsWork, book_at, eqb-true, eqb-self, and_first}
use Rattle.qs_world_lawful.proofs.Alike.{learnt_servers}
use Rattle.qs_world_lawful.proofs.ServedTables.{ended_servers}
use Rattle.qs_world_lawful.proofs.Files.{noted_share}
use Rattle.qs_world_lawful.proofs.MemberWaits.{seen_committed, learnt_waits, ended_waits}
use Rattle.qs_world_lawful.proofs.Steps.{waits_of}
use Rattle.qs_ops.specs.Servers.{files_no, timers_no}
use Rattle.qs_book_machine.specs.declared.transaction.Cell.TheVariants as cells
use Rattle.qs_base.specs.declared.identifiers.Class.TheVariants as classes
use Rattle.qs_base.specs.declared.identifiers.Outcome.TheVariants as outcomes
use Rattle.qs_ops.specs.declared.vote.Notice.TheVariants as notices
use Rattle.qs_book_journal.specs.declared.entry.Act.TheVariants as acts
use Rattle.qs_book_machine.specs.Transaction.{part_of, ended, is_let_go, is_abort}
use Rattle.qs_book_machine.specs.Clauses as clauses
use Rattle.qs_tm.specs.Manager as tm
use Rattle.qs_tm.specs.Members as rules
use Rattle.qs_tm.specs.Outcomes as outcome_rules
use Rattle.qs_node_step.specs.State.{NodeValue}
use Rattle.qs_world_lawful.specs.Holds.{is_kept}
use Rattle.qs_world_lawful.proofs.Casting.{told_all, learnt_member}
use Rattle.qs_world_lawful.proofs.Clauses.{lawful_act, of_tid}
use Rattle.qs_world_lawful.proofs.Files.{noted_apart}
use Rattle.qs_world_lawful.proofs.Frames.{seen}
use Rattle.qs_world_lawful.proofs.Growing.{entered}
use Rattle.qs_world_lawful.proofs.MemberRule.{by_member, inc_here, parts_alike}
use Rattle.qs_world_lawful.proofs.MemberTid.{member_tid, rest_of}
use Rattle.qs_world_lawful.proofs.Parts.{LivesApart, changed_part_apart, aborts_alike, with_own, with_other, set_size}
use Rattle.qs_world_lawful.proofs.States.{learn_state}

-- ---- the machine

learnt_rest : (member : Member) (inc : ℕ) (outcome : Outcome) (tx : TransactionValue) → rest_of (learnt member inc outcome tx) ≡ rest_of tx
learnt_rest member inc outcomes.Commit tx = refl
learnt_rest member inc outcomes.Abort tx = refl

learnt_seen : (member : Member) (inc : ℕ) (outcome : Outcome) (tx : TransactionValue) → seen (learnt member inc outcome tx) ≡ seen tx
learnt_seen member inc outcomes.Commit tx = refl
learnt_seen member inc outcomes.Abort tx = refl

learnt_starts : (member : Member) (inc : ℕ) (outcome : Outcome) (tx : TransactionValue) → (learnt member inc outcome tx).starts ≡ tx.starts
learnt_starts member inc outcomes.Commit tx = refl
learnt_starts member inc outcomes.Abort tx = refl

learnt_parts : (member : Member) (inc : ℕ) (outcome : Outcome) (tx : TransactionValue) → (learnt member inc outcome tx).parts ≡ changed_value (is_at (life_cmp (life member inc))) (learnt_part outcome) tx.parts
learnt_parts member inc outcomes.Commit tx = refl
learnt_parts member inc outcomes.Abort tx = refl

pub learnt_elsewhere : (member : Member) (inc : ℕ) (outcome : Outcome) (tx : TransactionValue) (other : Member) → LivesApart (life member inc) (life other inc) → part_of (learnt member inc outcome tx) other inc ≡ part_of tx other inc
learnt_elsewhere member inc outcome tx other far = ap (λ ps. unwrap_or (lookup (is_at (life_cmp (life other inc))) ps) no_part) (learnt_parts member inc outcome tx) ∙ changed_part_apart (life member inc) (learnt_part outcome) tx.parts other inc far

learnt_crossed : (member : Member) (inc : ℕ) (outcome : Outcome) (tx : TransactionValue) → (learnt member inc outcome tx).crossed ≡ tx.crossed
learnt_crossed member inc outcomes.Commit tx = refl
learnt_crossed member inc outcomes.Abort tx = refl

-- ---- the rules

module _ (stamp : ℕ) (before : BookValue) (work : Work) (tid : Tid) (server : ServerNo) (part : Participant) (tx : TransactionValue) (h : HoldsWork stamp before work)
    (known : tm.part_of tid work.node.manager ≡ Some part) (found : find_transaction (book_at stamp before work) tid ≡ Some tx) (kept : is_kept server ≡ true) where
  abbrev node : NodeValue
  node = work.node

  abbrev here : NodeNo
  here = node.setting.node

  abbrev inc : ℕ
  inc = node.setting.inc

  abbrev book : BookValue
  book = book_at stamp before work

  abbrev member : Member
  member = at_server here server

  abbrev p_now : Participant → Participant
  p_now = outcome_rules.settled server

  held : HoldsTid here inc tid tx (record (face_of node tid) { known = Some part })
  held = subst (λ (o : Option Participant). HoldsTid here inc tid tx (record (face_of node tid) { known = o })) known (of_tid stamp book node h.holds tid tx found)

  waits : HoldsWaits here inc tid tx (face_of node tid).waiting node.servers
  waits = waits_of stamp book node h.holds tid tx found

  own_is : member_of (p_now part) server ≡ told_all (member_of part server)
  own_is = with_own server (told_all (member_of part server)) part held.sized kept

  abbrev changes_after : Notice → ℕ
  changes_after notice = length (changes_in (with_server server (λ value. after_notice value tid notice) node.servers).files tid)

  -- ---- it learns the outcome that its node knows

  module _ (outcome : Outcome) (knows : part.outcome ≡ Some outcome) (told : learns_outcome (class_of server.0) ≡ true) (due : rules.is_to_learn (class_of server.0) (member_of part server) ≡ true) where
    part_due : (part_of tx member inc).due ≡ true
    part_due = and_first (part_of tx member inc).due (not (is_let_go (part_of tx member inc))) ((held.members refl server kept).learns told ∙ due)

    abbrev after : TransactionValue
    after = learnt member inc outcome tx

    own : HoldsMember after member inc (member_of (p_now part) server)
    own = subst (λ (m : MemberPart). HoldsMember after member inc m) (sym own_is) (learnt_member tx member inc outcome (member_of part server) (held.members refl server kept) told part_due)

    parts_on : (other : Member) → LivesApart (life member inc) (life other inc) → part_of after other inc ≡ part_of tx other inc
    parts_on other far = learnt_elsewhere member inc outcome tx other far

    silent_on : (o : Outcome) → part.outcome ≡ Some o → learnt_abort (learnt member inc o tx) here inc ≡ true → part.outcome ≡ Some outcomes.Abort
    silent_on outcomes.Commit is e = held.silent (sym (aborts_alike tx (learnt member inc outcomes.Commit tx) here inc (λ m. parts_alike (λ (p : Part). p.aborted) (life member inc) (learnt_part outcomes.Commit) (λ p. refl) tx.parts m inc)) ∙ e)
    silent_on outcomes.Abort is e = is

    -- what is committed is crossed nowhere
    whole : outcome ≡ outcomes.Commit → is_seen book here server.0 tid ≡ true
    whole is = seen_committed book here server tid tx found (waits.whole (committed tx.cell (held.outcome outcomes.Commit (knows ∙ ap Some is))))
      where
        committed : (c : Cell) → is_outcome outcomes.Commit c ≡ true → is_commit c ≡ true
        committed cells.Commit e = refl
        committed cells.Open e = absurd (cc e)
        committed cells.Abort e = absurd (cc e)

    module _ (pending : (part_of after (at_server here rules.files_no) inc).pending ≡ changes_after (notice_of outcome)) where
      own_tid : HoldsTid here inc tid after (record (face_of node tid) { known = Some (p_now part); changes = changes_after (notice_of outcome) })
      own_tid = member_tid here inc tid tx after (face_of node tid) part (p_now part) server (changes_after (notice_of outcome)) held kept
          (learnt_rest member inc outcome tx) refl (set_size server.0 (told_all (member_of part server)) part.members)
          parts_on (λ other far served covers. ap (list_any (is_start (at_server here other) inc served covers)) (learnt_starts member inc outcome tx))
          own (λ other far. with_other server other (told_all (member_of part server)) part far) (silent_on outcome knows) pending

      pub by_learn : broken book (entry_of here.0 stamp (acts.Learn tid member outcome)) ≡ None → HoldsWork stamp before (learn_member tid outcome work server)
      by_learn lawful = entered stamp before work (learn_member tid outcome work server) (acts.Learn tid member outcome) h refl refl lawful
          (by_member stamp book node server tid part tx h.holds known found (acts.Learn tid member outcome) (learnt member (inc_at book (record { 0 = here.0 })) outcome)
          (λ state. doubts_after tid server.0 (learn_node outcome tid server.0 state)) (λ value. after_notice value tid (notice_of outcome)) p_now refl
          (learnt_seen member (inc_at book (record { 0 = here.0 })) outcome) (learn_state outcome tid server.0) (λ q. refl) (λ t far value. noted_apart tid t (notice_of outcome) value far)
          (subst (λ (i : ℕ). HoldsTid here inc tid (learnt member i outcome tx) (record (face_of node tid) { known = Some (p_now part); changes = changes_after (notice_of outcome) })) (sym (inc_here stamp book node h.holds)) own_tid)
          (learnt_crossed member (inc_at book (record { 0 = here.0 })) outcome) (learnt_servers (is_seen book here) h.holds.state node.servers h.holds.servers server tid outcome whole) (λ t far value. noted_share tid t (notice_of outcome) value far)
          (subst (λ (i : ℕ). HoldsWaits here inc tid (learnt member i outcome tx) (face_of node tid).waiting (with_server server (λ value. after_notice value tid (notice_of outcome)) node.servers)) (sym (inc_here stamp book node h.holds))
          (learnt_waits here inc tid tx (face_of node tid).waiting node.servers (is_seen book here) h.holds.state h.holds.servers waits server outcome)))

  -- ---- an immediate server is told that the transaction ends

  module _ (immediate : rules.is_immediate (class_of server.0) ≡ true) (fresh : (member_of part server).fresh ≡ true) where
    abbrev ended_tx : TransactionValue
    ended_tx = ended member inc tx

    due_is : (part_of tx member inc).due ≡ true
    due_is = (held.members refl server kept).ends immediate ∙ fresh

    there : lookup (is_at (life_cmp (life member inc))) tx.parts ≡ Some (part_of tx member inc)
    there = by (lookup (is_at (life_cmp (life member inc))) tx.parts) due_is
      where
        by : (o : Option Part) → (unwrap_or o no_part).due ≡ true → o ≡ Some (unwrap_or o no_part)
        by None e = absurd (cc e)
        by (Some p) e = refl

    ended_is : part_of ended_tx member inc ≡ ended_part (part_of tx member inc)
    ended_is = ap (λ (o : Option Part). unwrap_or o no_part) (lookup_changed (is_at (life_cmp (life member inc))) ended_part tx.parts (part_of tx member inc) there)

    no_voter : (c : Class) → rules.is_immediate c ≡ true → is_two_phase c ≡ true → ⊥
    no_voter classes.Recoverable is e = cc is
    no_voter classes.Volatile is e = cc is
    no_voter classes.Immediate is e = cc e
    no_voter classes.Standard is e = cc is
    no_voter classes.Delayed is e = cc is
    no_voter classes.Activity is e = cc is

    no_learner : (c : Class) → rules.is_immediate c ≡ true → learns_outcome c ≡ true → ⊥
    no_learner classes.Recoverable is e = cc is
    no_learner classes.Volatile is e = cc is
    no_learner classes.Immediate is e = cc e
    no_learner classes.Standard is e = cc is
    no_learner classes.Delayed is e = cc is
    no_learner classes.Activity is e = cc is

    ended_own : HoldsMember ended_tx member inc (told_all (member_of part server))
    ended_own = record {
      covers = λ two. rw ended_is ((held.members refl server kept).covers two);
      voted = subst (λ (p : Part). p.voted ≤ p.served) (sym ended_is) (held.members refl server kept).voted;
      votes = λ two. absurd (no_voter (class_of server.0) immediate two);
      learns = λ told. absurd (no_learner (class_of server.0) immediate told);
      ends = λ is. ap (λ (p : Part). p.due) ended_is;
    }

    module _ (pending : (part_of ended_tx (at_server here rules.files_no) inc).pending ≡ changes_after notices.Ending) where
      ended_tid : HoldsTid here inc tid ended_tx (record (face_of node tid) { known = Some (p_now part); changes = changes_after notices.Ending })
      ended_tid = member_tid here inc tid tx ended_tx (face_of node tid) part (p_now part) server (changes_after notices.Ending) held kept
          refl refl (set_size server.0 (told_all (member_of part server)) part.members)
          (λ other far. changed_part_apart (life member inc) ended_part tx.parts other inc far) (λ other far served covers. refl)
          (subst (λ (m : MemberPart). HoldsMember ended_tx member inc m) (sym own_is) ended_own)
          (λ other far. with_other server other (told_all (member_of part server)) part far)
          (λ is. held.silent (sym (aborts_alike tx ended_tx here inc (λ m. parts_alike (λ (p : Part). p.aborted) (life member inc) ended_part (λ p. refl) tx.parts m inc)) ∙ is)) pending

      -- it is asked for commit, or aborted
      pub by_end : (is_some tx.asked || is_abort tx.cell) ≡ true → HoldsWork stamp before (end_member tid work server)
      by_end ends = entered stamp before work (end_member tid work server) (acts.Ending tid member) h refl refl
          (lawful_act stamp book node h.holds (acts.Ending tid member) (λ state. refl) (rw found (allowed _ _ _ _ (same_immediate (class_of server.0) immediate) (eqb-self here.0) (ap (λ (i : ℕ). (part_of tx member i).due) h.holds.same.inc ∙ due_is) ends)))
          (by_member stamp book node server tid part tx h.holds known found (acts.Ending tid member) (ended member (inc_at book (record { 0 = here.0 })))
          (end_node tid) (λ value. after_notice value tid notices.Ending) p_now refl
          (λ x. refl) (λ s. record { up = refl; inc = refl; begun = refl; format = refl }) (λ q. refl) (λ t far value. noted_apart tid t notices.Ending value far)
          (subst (λ (i : ℕ). HoldsTid here inc tid (ended member i tx) (record (face_of node tid) { known = Some (p_now part); changes = changes_after notices.Ending })) (sym (inc_here stamp book node h.holds)) ended_tid)
          (λ x. refl) (ended_servers (is_seen book here) h.holds.state node.servers h.holds.servers server (at_timers server.0 immediate) tid) (λ t far value. noted_share tid t notices.Ending value far)
          (subst (λ (i : ℕ). HoldsWaits here inc tid (ended member i tx) (face_of node tid).waiting (with_server server (λ value. after_notice value tid notices.Ending) node.servers)) (sym (inc_here stamp book node h.holds))
          (ended_waits here inc tid tx (face_of node tid).waiting node.servers (is_seen book here) h.holds.state h.holds.servers waits server (no_files server.0 (at_timers server.0 immediate)))))
        where
          clause : ℕ → Option ℕ
          clause n = Some n

          -- timers alone are immediate
          at_timers : (n : ℕ) → rules.is_immediate (class_of n) ≡ true → n ≡ timers_no
          at_timers n = by (n == names_no) (n == timers_no) (n == windows_no) (n == scratch_no) (is_client_no n) refl
            where
              by : (a b c d e : Bool) → (n == timers_no) ≡ b → rules.is_immediate (if a then classes.Volatile else if b then classes.Immediate else if c then classes.Standard else if d then classes.Delayed else if e then classes.Activity else classes.Recoverable) ≡ true → n ≡ timers_no
              by a true c d e at is = eqb-true n timers_no at
              by true false c d e at is = absurd (cc is)
              by false false true d e at is = absurd (cc is)
              by false false false true e at is = absurd (cc is)
              by false false false false true at is = absurd (cc is)
              by false false false false false at is = absurd (cc is)

          no_files : (n : ℕ) → n ≡ timers_no → (n == files_no) ≡ false
          no_files n e = grind (arith, nat_tests, e)

          same_immediate : (c : Class) → rules.is_immediate c ≡ true → clauses.is_immediate c ≡ true
          same_immediate classes.Immediate e = refl
          same_immediate classes.Recoverable e = absurd (cc e)
          same_immediate classes.Volatile e = absurd (cc e)
          same_immediate classes.Standard e = absurd (cc e)
          same_immediate classes.Delayed e = absurd (cc e)
          same_immediate classes.Activity e = absurd (cc e)

          allowed : (a b c d : Bool) → a ≡ true → b ≡ true → c ≡ true → d ≡ true → (if (a && b) && (c && d) then None else clause 90) ≡ None
          allowed a b c d p q r s = rw (p, q, r, s) refl
