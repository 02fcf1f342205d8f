-- A vote of files for commit that owes no note is noted: in the machine as well, or its transaction is crossed at the audit server.
use Rattle.std.proofs.Common.{◌≡◌, ◌∙◌, ℕ, ◌==◌, Bool, true, false, List, [], ◌∷◌, Option, Some, None, refl, sym, ap, subst, inl, inr, arith}
use Rattle.std.proofs.lemmas.Bool.{eqb-true}
use Rattle.std.proofs.lemmas.Bool.Decides.{nat_tests}
use Rattle.std.specs.BTreeMap.{is_at}
use Rattle.std.specs.List.{list_any}
use Rattle.std.specs.Prelude.{◌&&◌, ◌||◌, if◌then◌else◌, is_some, nat_lt, not, slice_get}
use Rattle.qs_base.specs.Order.{tid_cmp}
use Rattle.qs_base.specs.declared.identifiers.Member.{Member}
use Rattle.qs_base.specs.declared.identifiers.NodeNo.{NodeNo}
use Rattle.qs_base.specs.declared.identifiers.ServerNo.{ServerNo}
use Rattle.qs_base.specs.declared.identifiers.Tid.{Tid}
use Rattle.qs_base_lemmas.proofs.Tests.{some_same}
use Rattle.qs_book_journal.specs.declared.entry.Act.TheVariants as acts
use Rattle.qs_book_laws.proofs.Turns.{Stands}
use Rattle.qs_book_machine.specs.Book.{BookValue, find_transaction, inc_at}
use Rattle.qs_book_machine.specs.Clauses.{files_count, note_text}
use Rattle.qs_book_machine.specs.Nodes as machine
use Rattle.qs_book_machine.specs.Restart.{member_at}
use Rattle.qs_book_machine.specs.Transaction.{TransactionValue, has_note, is_crossed, part_of}
use Rattle.qs_ops.specs.Server.{ServerValue, changes_vote, vote_of}
use Rattle.qs_ops.specs.Servers.{audit_no, files_no}
use Rattle.qs_ops.specs.declared.vote.Vote.{Vote}
use Rattle.qs_ops.specs.declared.vote.Vote.TheVariants as votes
use Rattle.qs_book_conformance.specs.Course.{CourseValue}
use Rattle.qs_book_conformance.specs.Files.{broken_owed_note, is_noted, needs_no_note}
use Rattle.qs_book_conformance.specs.declared.fault.Rule.{Rule}
use Rattle.qs_book_conformance.specs.declared.fault.Rule.TheVariants as rules
use Rattle.qs_node_step.specs.State.{Work}
use Rattle.qs_node_step.specs.Voting.{change_count, vote_frame}
use Rattle.qs_node_step.specs.declared.setting.Setting.{Setting}
use Rattle.qs_tm.specs.Manager as tm
use Rattle.qs_tm.specs.Participant.{has_noted, is_count}
use Rattle.qs_tm.specs.declared.manager.Manager.{Manager}
use Rattle.qs_tm.specs.declared.participant.Participant.{Participant}
use Rattle.qs_world_lawful.specs.Logs.{Every}
use Rattle.qs_world_walk.specs.May.{MayVote}
use Rattle.qs_world_filed.specs.Parts.{broken_ballot_note, broken_noting}
use Rattle.qs_world_filed.specs.Replied.{IsToldOf, ToldNotes}
use Rattle.qs_world_filed.proofs.Counts.{CountsSo, pend}
use Rattle.qs_world_filed.proofs.NotesParts.{part_found, tid_at}
use Rattle.qs_world_filed.proofs.SetTable.{files_at}

any_so : (P : ℕ → Type 0) (count : ℕ) (xs : List ℕ) → Every P xs → list_any (is_count count) xs ≡ true → P count
any_so P count [] all has = absurd (cc has)
any_so P count (x ∷ xs) all has = by (is_count count x) refl has (any_so P count xs all.1)
  where
    by : (b : Bool) → is_count count x ≡ b → (b || list_any (is_count count) xs) ≡ true → (list_any (is_count count) xs ≡ true → P count) → P count
    by true is has rest = subst P (eqb-true x count is) all.0
    by false is has rest = rest has

-- what is noted is told
told_count : (book : BookValue) (setting : Setting) (m : Manager) (tid : Tid) (count : ℕ) → ToldNotes book setting m.known → tm.told_of tid false (has_noted count) m ≡ true → Stands tid (IsToldOf setting tid count) book
told_count book setting m tid count all has = by (tm.part_of tid m) refl has
  where
    by : (o : Option Participant) → tm.part_of tid m ≡ o → (elim o [ None ↦ false | Some p ↦ has_noted count p ]) ≡ true → Stands tid (IsToldOf setting tid count) book
    by None unknown has = absurd (cc has)
    by (Some p) known has = let its = part_found (λ (e : Tid × Participant). Every (λ (c : ℕ). Stands e.0 (IsToldOf setting e.0 c) book) e.1.noted) (is_at (tid_cmp tid)) m.known p all known in
        subst (λ (t : Tid). Stands t (IsToldOf setting t count) book) (sym (tid_at tid its.0 its.1.0)) (any_so (λ (c : ℕ). Stands its.0 (IsToldOf setting its.0 c) book) count p.noted its.1.1 has)

-- ---- what it has changed it has noted

owes_none : (a b c d : Bool) → a ≡ true → b ≡ true → c ≡ true → ((a && b) && (c && not d)) ≡ false → d ≡ true
owes_none a b c true is some more off = refl
owes_none a b c false is some more off = absurd (let on : ((a && b) && (c && true)) ≡ true = rw (is, some, more) refl in cc (on, off))

more_than_none : (n : ℕ) → not (n == 0) ≡ true → nat_lt 0 n ≡ true
more_than_none n is = grind (arith, nat_tests, is)

module _ (setting : Setting) (now : CourseValue) (w : Work) (same : w.node.setting ≡ setting) (audit : now.audit ≡ setting.audit) (inc : inc_at now.book (record { 0 = setting.node.0 }) ≡ setting.inc)
    (counts : CountsSo setting.node setting.inc now.book w.node.servers) (told : ToldNotes now.book setting w.node.manager.known) (tid : Tid) where
  abbrev count : ℕ
  count = change_count tid w.node

  -- of a transaction of the machine
  noted : (state : machine.NodeValue) (tx : TransactionValue) (node : NodeNo) → slice_get now.book.nodes setting.node.0 ≡ Some state → find_transaction now.book tid ≡ Some tx → setting.audit ≡ Some node → tm.told_of tid false (has_noted count) w.node.manager ≡ true
      → (needs_no_note (Some node) tx || is_noted state setting.node.0 tid tx) ≡ true
  noted state tx node there found audit_is has = of (subst (λ (x : TransactionValue). IsToldOf setting tid count x) (some_same (sym s.found ∙ found)) s.holds)
    where
      s : Stands tid (IsToldOf setting tid count) now.book
      s = told_count now.book setting w.node.manager tid count told has

      inc_is : state.inc ≡ setting.inc
      inc_is = sym (ap (λ (o : Option machine.NodeValue). elim o [ None ↦ 0 | Some v ↦ v.inc ]) there) ∙ inc

      count_is : files_count setting.node.0 state tx ≡ count
      count_is = ap (λ (i : ℕ). (part_of tx (member_at setting.node.0 files_no) i).pending) inc_is ∙ (sym (ap (pend setting.node setting.inc) found) ∙ counts tid)

      either : (a b : Bool) → b ≡ true → (a || b) ≡ true
      either true b is = refl
      either false b is = is

      of : IsToldOf setting tid count tx → (needs_no_note (Some node) tx || is_noted state setting.node.0 tid tx) ≡ true
      of (inl is) = either (needs_no_note (Some node) tx) (is_noted state setting.node.0 tid tx)
          (subst (λ (k : ℕ × ℕ). has_note tx (record { node = record { 0 = setting.node.0 }; inc = k.0; text = note_text tid setting.node.0 k.1 }) ≡ true) (ap (λ (i : ℕ). (i, count)) (sym inc_is) ∙ ap (λ (c : ℕ). (state.inc, c)) (sym count_is)) is)
      of (inr (member, (at, crossed))) = rw (subst (λ (m : Member). is_crossed tx m ≡ true) member_is crossed) refl
        where
          member_is : member ≡ member_at node.0 audit_no
          member_is = ap (λ (k : NodeNo). record { node = k; server = member.server }) (some_same (sym at.0 ∙ audit_is)) ∙ ap (λ (k : ℕ). record { node = node; server = record { 0 = k } }) (eqb-true member.server.0 audit_no at.1)

  -- and of its note
  owed : (state : machine.NodeValue) (tx : TransactionValue) → slice_get now.book.nodes setting.node.0 ≡ Some state → find_transaction now.book tid ≡ Some tx → (is_some setting.audit ≡ true → tm.told_of tid false (has_noted count) w.node.manager ≡ true) → broken_owed_note now state setting.node.0 tid tx ≡ None
  owed state tx there found has = ap (λ (o : Option NodeNo). if needs_no_note o tx || is_noted state setting.node.0 tid tx then None else Some rules.NoteWasServed) audit ∙ by setting.audit refl
    where
      by : (o : Option NodeNo) → setting.audit ≡ o → ◌≡◌ {A = Option Rule} (if needs_no_note o tx || is_noted state setting.node.0 tid tx then None else Some rules.NoteWasServed) None
      by None is = refl
      by (Some node) is = ap (λ (b : Bool). if b then None else Some rules.NoteWasServed) (noted state tx node there found is (has (ap is_some is)))

  -- ---- a vote of files for commit has changes, and owes no note

  module _ (server : ServerNo) (ballot : Vote) (m : MayVote tid server ballot w) where
    has : (server.0 == files_no) ≡ true → ballot ≡ votes.Recoverable → is_some setting.audit ≡ true → tm.told_of tid false (has_noted count) w.node.manager ≡ true
    has at is some = owes_none (server.0 == files_no) (is_some w.node.setting.audit) (nat_lt 0 count) (tm.told_of tid false (has_noted count) w.node.manager) at (ap (λ (t : Setting). is_some t.audit) same ∙ some)
        (more_than_none count (changed (not (count == 0)) (ap (λ (v : ServerValue). vote_of v tid w.room (vote_frame w)) (sym (files_at w.node.servers server at)) ∙ (m.is ∙ is)))) m.noted
      where
        changed : (b : Bool) → (if b then changes_vote w.node.servers.files.kind w.node.servers.files.table tid w.room (vote_frame w) else votes.ReadOnly) ≡ votes.Recoverable → b ≡ true
        changed true e = refl
        changed false e = absurd (cc e)

    pub vote_noted : (covers : ℕ) → broken_noting now setting.node.0 (acts.Vote tid (record { node = setting.node; server = server }) ballot covers) ≡ None
    vote_noted covers = by (server.0 == files_no) refl
      where
        of : (b : Vote) → (b ≡ votes.Recoverable → is_some setting.audit ≡ true → tm.told_of tid false (has_noted count) w.node.manager ≡ true) → (n : Option machine.NodeValue) → slice_get now.book.nodes setting.node.0 ≡ n → (o : Option TransactionValue) → find_transaction now.book tid ≡ o
            → broken_ballot_note now n setting.node.0 tid o b ≡ None
        of b its None is None found = refl
        of b its None is (Some tx) found = refl
        of b its (Some state) is None found = refl
        of votes.Recoverable its (Some state) is (Some tx) found = owed state tx is found (its refl)
        of votes.ReadOnly its (Some state) is (Some tx) found = refl
        of votes.Volatile its (Some state) is (Some tx) found = refl
        of (votes.Abort reason) its (Some state) is (Some tx) found = refl

        by : (b : Bool) → (server.0 == files_no) ≡ b → (if b then broken_ballot_note now (slice_get now.book.nodes setting.node.0) setting.node.0 tid (find_transaction now.book tid) ballot else None) ≡ None
        by false is = refl
        by true is = of ballot (has is) (slice_get now.book.nodes setting.node.0) refl (find_transaction now.book tid) refl
