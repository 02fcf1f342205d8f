-- The servers of a node learn how a transaction ends, all of them in order of their classes: the rule as a whole.
use Rattle.qs_world_lawful.proofs.Words.{◌≡◌, ◌≢◌, ℕ, ◌==◌, Bool, true, false, List, [], ◌∷◌, Option, Some, None, refl, sym, ap, subst, ◌∙◌, length, ◌||◌, is_some, if◌then◌else◌, ⊤, list_any, Class, Member, Outcome, ServerNo, Tid, class_of, learns_outcome, changes_in, after_notice, TransactionValue, learnt, learnt_part, may_learn_still, Part, BookValue, find_transaction, broken, member_of, MemberPart, Participant, with_server, learn_member, notice_of, Work, entry_of, face_of, part_in, part_or_new}
use Rattle.qs_world_lawful.proofs.Words.{at_server, HoldsFiles, Holds, HoldsAt, HoldsTid, HoldsWork, book_at, and_first, eqb-true, eqb-false}
use Rattle.qs_base.specs.declared.identifiers.Class.TheVariants as classes
use Rattle.qs_base.specs.declared.identifiers.Outcome.TheVariants as outcomes
use Rattle.qs_ops.specs.Servers as numbers
use Rattle.qs_book_journal.specs.declared.entry.Act.TheVariants as acts
use Rattle.qs_book_machine.specs.Transaction.{part_of}
use Rattle.qs_book_machine.specs.Clauses.{waits_for, earlier_servers}
use Rattle.qs_tm.specs.Manager as tm
use Rattle.qs_tm.specs.Members as rules
use Rattle.qs_tm.specs.Members.{all_servers}
use Rattle.qs_tm.specs.Outcomes as outcome_rules
use Rattle.qs_node_step.specs.State.{NodeValue}
use Rattle.qs_world_lawful.specs.Holds.{is_kept}
use Rattle.qs_world_lawful.proofs.Casting.{told_all, part_learnt}
use Rattle.qs_world_lawful.proofs.Clauses.{may_learn, of_tid}
use Rattle.qs_world_lawful.proofs.Faces.{part_changed}
use Rattle.qs_world_lawful.proofs.Learning.{by_learn, learnt_elsewhere}
use Rattle.qs_world_lawful.proofs.MemberTid.{lives_apart}
use Rattle.qs_world_lawful.proofs.Parts.{with_own, with_other}
use Rattle.qs_world_lawful.proofs.Pending.{notice_filed, learnt_pending, elsewhere_pending}

-- a server by number
abbrev pub no : ℕ → ServerNo
no n = record { 0 = n }

-- what the node knows stands in the machine
pub stands : (stamp : ℕ) (book : BookValue) (node : NodeValue) (tid : Tid) (part : Participant) → Holds stamp book node → tm.part_of tid node.manager ≡ Some part → (tx : TransactionValue) × (find_transaction book tid ≡ Some tx)
stands stamp book node tid part h known = by (find_transaction book tid) refl (h.at tid)
  where
    clash : Some part ≡ None → ⊥
    clash e = cc e

    by : (o : Option TransactionValue) → find_transaction book tid ≡ o → HoldsAt node.setting.node node.setting.inc tid o (face_of node tid) → (tx : TransactionValue) × (find_transaction book tid ≡ Some tx)
    by None is none = absurd (clash (sym known ∙ none.known))
    by (Some tx) is held = (tx, is)

-- a work in the middle of it: what is held, and what its node knows
pub record Midst (stamp : ℕ) (before : BookValue) (tid : Tid) (outcome : Outcome) (work : Work) : Type 0 where
  pub held : HoldsWork stamp before work
  pub files : HoldsFiles work.node.servers
  pub part : Participant
  pub known : tm.part_of tid work.node.manager ≡ Some part
  pub knows : part.outcome ≡ Some outcome

-- ---- earlier servers

abbrev Every : {A : Type 0} → (A → Type 0) → List A → Type 0
Every P [] = ⊤
Every P (x ∷ xs) = P x × Every P xs

abbrev Learns : ℕ → Type 0
Learns e = (is_kept (no e) ≡ true) × (learns_outcome (class_of e) ≡ true)

earlier_learn : (c : Class) → Every Learns (earlier_servers c)
earlier_learn classes.Standard = ((refl, refl), ((refl, refl), ((refl, refl), ((refl, refl), tt))))
earlier_learn classes.Delayed = ((refl, refl), ((refl, refl), ((refl, refl), ((refl, refl), ((refl, refl), tt)))))
earlier_learn classes.Recoverable = tt
earlier_learn classes.Volatile = tt
earlier_learn classes.Immediate = tt
earlier_learn classes.Activity = tt

-- ---- one server

abbrev pub learn_if : Bool → Tid → Outcome → ServerNo → Work → Work
learn_if b tid outcome server work = if b then learn_member tid outcome work server else work

module _ (stamp : ℕ) (before : BookValue) (tid : Tid) (outcome : Outcome) where
  -- that server is still to learn
  abbrev pub left : {work : Work} → Midst stamp before tid outcome work → ServerNo → Bool
  left m server = rules.is_to_learn (class_of server.0) (member_of m.part server)

  -- the work after one server, and what is left then
  pub record Next (work : Work) (m : Midst stamp before tid outcome work) (server : ServerNo) (new : Work) : Type 0 where
    pub after : Midst stamp before tid outcome new
    pub done : left after server ≡ false
    pub others : (x : ServerNo) → server.0 ≢ x.0 → left after x ≡ left m x

  nothing_left : (c : Class) (m : MemberPart) → rules.is_to_learn c (told_all m) ≡ false
  nothing_left classes.Recoverable m = refl
  nothing_left classes.Volatile m = refl
  nothing_left classes.Immediate m = refl
  nothing_left classes.Standard m = refl
  nothing_left classes.Delayed m = refl
  nothing_left classes.Activity m = refl

  module _ (work : Work) (m : Midst stamp before tid outcome work) (server : ServerNo) (kept : is_kept server ≡ true) (told : learns_outcome (class_of server.0) ≡ true)
      (first : list_any (λ (e : ℕ). left m (no e)) (earlier_servers (class_of server.0)) ≡ false) where
    abbrev node : NodeValue
    node = work.node

    abbrev book : BookValue
    book = book_at stamp before work

    in_machine : (tx : TransactionValue) × (find_transaction book tid ≡ Some tx)
    in_machine = stands stamp book node tid m.part m.held.holds m.known

    abbrev tx : TransactionValue
    tx = in_machine.0

    abbrev member : Member
    member = at_server node.setting.node server

    abbrev inc : ℕ
    inc = node.setting.inc

    of_held : HoldsTid node.setting.node inc tid tx (record (face_of node tid) { known = Some m.part })
    of_held = subst (λ (o : Option Participant). HoldsTid node.setting.node inc tid tx (record (face_of node tid) { known = o })) m.known (of_tid stamp book node m.held.holds tid tx in_machine.1)

    waits_alike : (es : List ℕ) → Every Learns es → list_any (waits_for tx member m.held.holds.state.inc) es ≡ list_any (λ (e : ℕ). left m (no e)) es
    waits_alike [] ok = refl
    waits_alike (e ∷ es) ok = or_both _ _ _ _ (ap (λ (i : ℕ). may_learn_still (part_of tx (at_server node.setting.node (no e)) i)) m.held.holds.same.inc ∙ (of_held.members refl (no e) ok.0.0).learns ok.0.1) (waits_alike es ok.1)
      where
        or_both : (a b c d : Bool) → a ≡ b → c ≡ d → (a || c) ≡ (b || d)
        or_both a b c d p q = rw (p, q) refl

    module _ (due : left m server ≡ true) where
      in_face : part_in (face_of node tid) ≡ m.part
      in_face = ap part_or_new m.known

      lawful : broken book (entry_of node.setting.node.0 stamp (acts.Learn tid member outcome)) ≡ None
      lawful = may_learn stamp book node m.held.holds tid tx in_machine.1 server outcome kept (ap is_some m.known) (ap (λ (p : Participant). p.outcome) in_face ∙ m.knows) told
          (ap (λ (p : Participant). rules.is_to_learn (class_of server.0) (member_of p server)) in_face ∙ due) (waits_alike (earlier_servers (class_of server.0)) (earlier_learn (class_of server.0)) ∙ first)

      part_due : (part_of tx member inc).due ≡ true
      part_due = and_first (part_of tx member inc).due _ ((of_held.members refl server kept).learns told ∙ due)

      pending : (part_of (learnt member inc outcome tx) (at_server node.setting.node rules.files_no) inc).pending ≡ length (changes_in (with_server server (λ value. after_notice value tid (notice_of outcome)) node.servers).files tid)
      pending = by (server.0 == numbers.files_no) refl
        where
          none_pending : (o : Outcome) (p : Part) → (learnt_part o p).pending ≡ 0
          none_pending outcomes.Commit p = refl
          none_pending outcomes.Abort p = refl

          by : (b : Bool) → (server.0 == numbers.files_no) ≡ b → (part_of (learnt member inc outcome tx) (at_server node.setting.node rules.files_no) inc).pending ≡ length (changes_in (with_server server (λ value. after_notice value tid (notice_of outcome)) node.servers).files tid)
          by true is =
              let it : server ≡ rules.files_no = ap (λ (n : ℕ). record { 0 = n }) (eqb-true server.0 numbers.files_no is) in
              subst (λ (s : ServerNo). (part_of (learnt member inc outcome tx) (at_server node.setting.node s) inc).pending ≡ length (changes_in (with_server server (λ value. after_notice value tid (notice_of outcome)) node.servers).files tid)) it
              (ap (λ (p : Part). p.pending) (part_learnt tx member inc outcome (member_of m.part server) (of_held.members refl server kept) told part_due) ∙ (none_pending outcome (part_of tx member inc) ∙ sym (learnt_pending node.servers m.files server tid outcome is)))
          by false is =
              ap (λ (p : Part). p.pending) (learnt_elsewhere member inc outcome tx (at_server node.setting.node rules.files_no) (lives_apart node.setting.node inc server rules.files_no (eqb-false server.0 numbers.files_no is)))
              ∙ (of_held.pending ∙ sym (elsewhere_pending node.servers m.files server tid (λ value. after_notice value tid (notice_of outcome)) is))

      learnt_now : Midst stamp before tid outcome (learn_member tid outcome work server)
      learnt_now = record {
        held = by_learn stamp before work tid server m.part tx m.held m.known in_machine.1 kept outcome m.knows told due pending lawful;
        files = notice_filed node.servers m.files server tid (notice_of outcome);
        part = outcome_rules.settled server m.part;
        known = part_changed tid (outcome_rules.settled server) node.manager m.part m.known;
        knows = m.knows;
      }

      pub next_learnt : Next work m server (learn_member tid outcome work server)
      unfolding learnt_now
      next_learnt = record {
        after = learnt_now;
        done = ap (rules.is_to_learn (class_of server.0)) (with_own server (told_all (member_of m.part server)) m.part of_held.sized kept) ∙ nothing_left (class_of server.0) (member_of m.part server);
        others = λ x far. ap (rules.is_to_learn (class_of x.0)) (with_other server x (told_all (member_of m.part server)) m.part far);
      }

    -- where it is to learn it learns
    pub next : (b : Bool) → left m server ≡ b → Next work m server (learn_if b tid outcome server work)
    next true due = next_learnt due
    next false none = record { after = m; done = none; others = λ x far. refl }
