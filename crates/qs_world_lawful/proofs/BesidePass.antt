-- A vote pass: what stands in the middle of it stands after it, where the counts that notes tell have room.
use Rattle.qs_world_lawful.proofs.Words.{◌≡◌, ℕ, ◌==◌, ◌<◌, ◌≤◌, ◌^◌, Bool, true, false, List, [], ◌∷◌, Option, Some, None, refl, sym, ap, subst, ◌∙◌, arith, length, fold, nat_lt, if◌then◌else◌, nat_tests, filter, ◌&&◌, ◌||◌, not, is_some, NodeNo, ServerNo, Tid, BookValue, find_transaction, TransactionValue, class_of, is_two_phase, ServerValue, after_vote, changes_in, changes_vote, vote_of, has_changes, share_of, Note, ServerKind, Vote, Reason, Record, server_at, end_member, is_lent, is_pass_due}
use Rattle.qs_world_lawful.proofs.Words.{is_put_off, pass_rule, Work, doings_of, here, change_count, due_votes, enter_vote, issue_note, log_vote, owes_note, served_count, vote_frame, vote_next, vote_pass, vote_with, awaits_note, is_due_at, member_of, needs_pass, servers_due, Participant, InRun, HoldsWork, book_at, at_server, face_of, MayPass, HoldsTid, and_first}
use Rattle.qs_ipc.specs.Ipc as ipc
use Rattle.qs_book_machine.specs.Transaction.{part_of}
use Rattle.qs_ops.specs.Server.{vote_need}
use Rattle.qs_ops.specs.Table.{view_bytes}
use Rattle.qs_ops.specs.declared.server.ServerKind.TheVariants as kinds
use Rattle.qs_ops.specs.declared.vote.Vote.TheVariants as votes
use Rattle.qs_ops.specs.declared.vote.Reason.TheVariants as reasons
use Rattle.qs_record.specs.declared.record.Record.TheVariants as records
use Rattle.qs_node_servers.specs.Servers.{audit_no}
use Rattle.qs_node_step.specs.Voting.{note_text}
use Rattle.qs_tm.specs.Manager as tm
use Rattle.qs_tm.specs.Members as rules
use Rattle.qs_tm.specs.Members.{all_servers}
use Rattle.qs_tm.specs.Outcomes as outcome_rules
use Rattle.qs_tm.specs.Participant as participant
use Rattle.qs_tm.specs.declared.participant.Due.TheVariants as dues
use Rattle.qs_world_lawful.specs.Holds.{is_kept}
use Rattle.qs_world_lawful.proofs.Apart.{Apart}
use Rattle.qs_world_lawful.proofs.BesideClocks.{ticks_still, voting_ticks}
use Rattle.qs_world_lawful.proofs.BesideGoes.{Goes, goes_if, goes_self, goes_then}
use Rattle.qs_world_lawful.proofs.BesideNotice.{goes_ended}
use Rattle.qs_world_lawful.proofs.BesideRequests.{goes_issued}
use Rattle.qs_world_lawful.proofs.BesideVoted.{goes_voted}
use Rattle.qs_world_lawful.proofs.Clauses.{of_tid}
use Rattle.qs_world_lawful.proofs.Endings.{end_if, endings_are}
use Rattle.qs_world_lawful.proofs.Faces.{part_apart, part_changed}
use Rattle.qs_world_lawful.proofs.LearningAll.{stands}
use Rattle.qs_world_lawful.proofs.Passing.{Passing, files_next, others_next}
use Rattle.qs_world_lawful.proofs.PassingAll.{AreDue, AreOthers, IsApartFrom, due_on, ended_due, ended_passing, others, plain_due, plain_passing, they_are}
use Rattle.qs_world_lawful.proofs.Truths.{clash}

-- ---- who reads only has nothing pending

in_room : (b : Bool) (reason : Reason) → (if b then votes.Abort reason else votes.Recoverable) ≡ votes.ReadOnly → ⊥
in_room true reason e = cc e
in_room false reason e = cc e

files_read : (quota : ℕ) (value : ServerValue) → value.kind ≡ kinds.Files quota → (tid : Tid) (room frame : ℕ) → vote_of value tid room frame ≡ votes.ReadOnly → has_changes value.table tid ≡ false
files_read quota value is tid room frame = by (has_changes value.table tid) refl
  where
    quota_vote : (b c : Bool) (r s : Reason) → (if b then votes.Abort r else (if c then votes.Abort s else votes.Recoverable)) ≡ votes.ReadOnly → ⊥
    quota_vote true c r s e = cc e
    quota_vote false c r s e = in_room c s e

    by : (b : Bool) → has_changes value.table tid ≡ b → (if b then changes_vote value.kind value.table tid room frame else votes.ReadOnly) ≡ votes.ReadOnly → b ≡ false
    by false e h = refl
    by true e h = absurd (quota_vote (nat_lt quota (view_bytes value.table tid)) (nat_lt room (vote_need value.table tid frame)) (reasons.Quota (view_bytes value.table tid) quota) (reasons.LogRoom (vote_need value.table tid frame) room) (subst (λ (k : ServerKind). changes_vote k value.table tid room frame ≡ votes.ReadOnly) is h))

none_changed : (value : ServerValue) (tid : Tid) → has_changes value.table tid ≡ false → length (changes_in value tid) ≡ 0
none_changed value tid none = of (length (share_of value.table tid).changes) none
  where
    of : (n : ℕ) → not (n == 0) ≡ false → n ≡ 0
    of n e = grind (arith, nat_tests, e)

module _ (stamp : ℕ) (before : BookValue) (run : InRun before) (tid : Tid) where
  abbrev On : Work → Work → Type 0
  On work new = Goes stamp before run work new

  -- ---- one server

  module _ (work : Work) (m : Passing stamp before tid work) (server : ServerNo) (kept : is_kept server ≡ true) (due : rules.is_vote_due server (member_of m.part server) ≡ true) where
    tx : (tx : TransactionValue) × (find_transaction (book_at stamp before work) tid ≡ Some tx)
    tx = stands stamp (book_at stamp before work) work.node tid m.part m.held.holds m.known

    its : (t : TransactionValue) → find_transaction (book_at stamp before work) tid ≡ Some t → HoldsTid work.node.setting.node work.node.setting.inc tid t (record (face_of work.node tid) { known = Some m.part })
    its t found = subst (λ (o : Option Participant). HoldsTid work.node.setting.node work.node.setting.inc tid t (record (face_of work.node tid) { known = o })) m.known (of_tid stamp (book_at stamp before work) work.node m.held.holds tid t found)

    two : is_two_phase (class_of server.0) ≡ true
    two = and_first (rules.votes_here server) (not (rules.is_covering (member_of m.part server))) due

    count_is : served_count tid server work ≡ (member_of m.part server).served
    count_is = ap (λ (o : Option Participant). elim o [ None ↦ 0 | Some p ↦ (member_of p server).served ]) m.known

    abbrev entered : Vote → Work
    entered ballot = enter_vote tid server ballot work

    abbrev voted_part : Vote → Participant
    voted_part ballot = participant.voted (record { node = here work; server = server }) ballot (served_count tid server work) m.part

    voted_known : (ballot : Vote) → tm.part_of tid (entered ballot).node.manager ≡ Some (voted_part ballot)
    voted_known ballot = part_changed tid (participant.voted (record { node = here work; server = server }) ballot (served_count tid server work)) work.node.manager m.part m.known

    -- its vote, and its Prepare with it
    goes_ballot : (ballot : Vote) → (ballot ≡ votes.ReadOnly → server ≡ rules.files_no → length (changes_in work.node.servers.files tid) ≡ 0) → (v : Vote) → ballot ≡ v → On work (log_vote v tid server (enter_vote tid server ballot work))
    goes_ballot ballot nothing v is = of v is
      where
        zero_pending : ballot ≡ votes.ReadOnly → server ≡ rules.files_no → (t : TransactionValue) → find_transaction (book_at stamp before work) tid ≡ Some t → (part_of t (at_server work.node.setting.node rules.files_no) work.node.setting.inc).pending ≡ 0
        zero_pending read files t found = (its t found).pending ∙ nothing read files

        ticks : (entered ballot).node.servers.timers.timers.ticks ≡ work.node.servers.timers.timers.ticks
        ticks = ticks_still server (λ value. after_vote value tid ballot) (voting_ticks tid ballot) work.node.servers

        others : (t : Tid) → Apart tid t → tm.part_of t (entered ballot).node.manager ≡ tm.part_of t work.node.manager
        others t far = part_apart tid t (participant.voted (record { node = here work; server = server }) ballot (served_count tid server work)) work.node.manager far

        plain : (ballot ≡ votes.Recoverable → ⊥) → On work (enter_vote tid server ballot work)
        plain never = goes_voted stamp before run work (entered ballot) tid server ballot (served_count tid server work) m.part m.part.log m.known (voted_known ballot) others refl refl refl refl ticks refl refl (its tx.0 tx.1).sized kept two count_is
            ((λ is. absurd (never is)), (λ other. refl)) zero_pending

        rec : Record
        rec = records.Prepare tid server (served_count tid server (entered ballot)) (changes_in (server_at (entered ballot).node.servers server) tid)

        of : (v : Vote) → ballot ≡ v → On work (log_vote v tid server (enter_vote tid server ballot work))
        of (votes.Abort reason) is = plain (λ e. never (sym is ∙ e))
          where
            never : votes.Abort reason ≡ votes.Recoverable → ⊥
            never e = cc e
        of votes.ReadOnly is = plain (λ e. never (sym is ∙ e))
          where
            never : votes.ReadOnly ≡ votes.Recoverable → ⊥
            never e = cc e
        of votes.Volatile is = plain (λ e. never (sym is ∙ e))
          where
            never : votes.Volatile ≡ votes.Recoverable → ⊥
            never e = cc e
        of votes.Recoverable is = goes_voted stamp before run work (log_vote votes.Recoverable tid server (entered ballot)) tid server ballot (served_count tid server work) m.part (outcome_rules.in_log rec m.part.log) m.known
            (part_changed tid (outcome_rules.logged rec) (entered ballot).node.manager (voted_part ballot) (voted_known ballot))
            (λ t far. part_apart tid t (outcome_rules.logged rec) (entered ballot).node.manager far ∙ others t far) refl refl refl refl ticks refl refl (its tx.0 tx.1).sized kept two count_is
            ((λ e. refl), (λ other. absurd (other is))) zero_pending

    read_none : vote_of (server_at work.node.servers server) tid work.room (vote_frame work) ≡ votes.ReadOnly → server ≡ rules.files_no → length (changes_in work.node.servers.files tid) ≡ 0
    read_none read files = none_changed work.node.servers.files tid (files_read m.held.holds.servers.kinds.quota work.node.servers.files m.held.holds.servers.kinds.files tid work.room (vote_frame work)
        (subst (λ (s : ServerNo). vote_of (server_at work.node.servers s) tid work.room (vote_frame work) ≡ votes.ReadOnly) files read))

    goes_vote : On work (vote_with tid server (vote_of (server_at work.node.servers server) tid work.room (vote_frame work)) work)
    goes_vote = goes_ballot (vote_of (server_at work.node.servers server) tid work.room (vote_frame work)) read_none (vote_of (server_at work.node.servers server) tid work.room (vote_frame work)) refl

    -- or its note
    goes_note : change_count tid work.node < 2 ^ 64 → (o : Option NodeNo) → On work (issue_note tid o work)
    goes_note room None = goes_self stamp before run work
    goes_note room (Some to) = goes_issued stamp before run tid rules.files_no (record { node = to; server = audit_no }) (Note (note_text tid (here work) (change_count tid work.node))) (change_count tid work.node) work
        (λ number files. record { part = m.part; known = m.known; op_is = refl; room = room; pending = λ t found. equal _ _ ((its t found).pending) })
      where
        equal : (a b : ℕ) → a ≡ b → b ≤ a
        equal a b e = grind (arith, e)

    pub goes_vote_next : (rules.same_server server rules.files_no ≡ true → change_count tid work.node < 2 ^ 64) → On work (vote_next tid work server)
    goes_vote_next room = goes_if stamp before run (owes_note tid server work) work _ _ (λ owes. goes_note (room (files owes)) work.node.setting.audit) (λ none. goes_vote)
      where
        files : owes_note tid server work ≡ true → rules.same_server server rules.files_no ≡ true
        files owes = and_first (rules.same_server server rules.files_no) (is_some work.node.setting.audit) (and_first (rules.same_server server rules.files_no && is_some work.node.setting.audit) _ owes)

  -- ---- all of them, files first

  abbrev no : ℕ → ServerNo
  no n = record { 0 = n }

  others_go : (start : Participant) (ss : List ServerNo) → AreOthers ss → (work : Work) (m : Passing stamp before tid work) → AreDue stamp before tid start m ss → On work (fold (vote_next tid) work (filter (is_due_at dues.Vote start) ss))
  others_go start [] ok work m same = goes_self stamp before run work
  others_go start (s ∷ ss) ok work m same = by (is_due_at dues.Vote start s) refl (λ w k alike. others_go start ss ok.3 w k alike)
    where
      by : (b : Bool) → is_due_at dues.Vote start s ≡ b → ((w : Work) (k : Passing stamp before tid w) → AreDue stamp before tid start k ss → On w (fold (vote_next tid) w (filter (is_due_at dues.Vote start) ss)))
          → On work (fold (vote_next tid) work (if b then s ∷ filter (is_due_at dues.Vote start) ss else filter (is_due_at dues.Vote start) ss))
      by false is more = more work m same.1
      by true is more =
          let n = others_next stamp before tid work m s ok.0 (same.0 ∙ is) ok.1 in
          goes_then stamp before run work (vote_next tid work s) _ (goes_vote_next work m s ok.0 (same.0 ∙ is) (λ files. absurd (clash (sym ok.1 ∙ files))))
          (more (vote_next tid work s) n.after (due_on stamp before tid start s work (vote_next tid work s) m n.after n.others ss ok.2 same.1))

  all_go : (start : Participant) (work : Work) (m : Passing stamp before tid work) → AreDue stamp before tid start m (no 0 ∷ others stamp before tid start) → awaits_note m.part ≡ false
      → ((to : NodeNo) → work.node.setting.audit ≡ Some to → (nat_lt to.0 work.node.setting.nodes ≡ true) × (to.0 < length m.part.engage.peers)) → change_count tid work.node < 2 ^ 64 → On work (fold (vote_next tid) work (servers_due dues.Vote start))
  unfolding all_servers
  all_go start work m same idle audit room = by (is_due_at dues.Vote start (no 0)) refl
    where
      far : IsApartFrom (no 0) (others stamp before tid start)
      far = (refl, (refl, (refl, (refl, (refl, (refl, tt))))))

      by : (b : Bool) → is_due_at dues.Vote start (no 0) ≡ b → On work (fold (vote_next tid) work (if b then no 0 ∷ filter (is_due_at dues.Vote start) (others stamp before tid start) else filter (is_due_at dues.Vote start) (others stamp before tid start)))
      by false is = others_go start (others stamp before tid start) (they_are stamp before tid start) work m same.1
      by true is =
          let n = files_next stamp before tid work m (no 0) refl (same.0 ∙ is) idle audit in
          goes_then stamp before run work (vote_next tid work (no 0)) _ (goes_vote_next work m (no 0) refl (same.0 ∙ is) (λ files. room))
          (others_go start (others stamp before tid start) (they_are stamp before tid start) (vote_next tid work (no 0)) n.after (due_on stamp before tid start (no 0) work (vote_next tid work (no 0)) m n.after n.others (others stamp before tid start) far same.1))

  module _ (work : Work) (h : HoldsWork stamp before work) (part : Participant) (known : tm.part_of tid work.node.manager ≡ Some part) (asked : part.asked ≡ true) (idle : awaits_note part ≡ false) (given : MayPass stamp before work tid part)
      (room : change_count tid work.node < 2 ^ 64) where
    ended : (b : Bool) → (member_of part (no 3)).fresh ≡ b → On work (fold (vote_next tid) (end_if b tid work) (servers_due dues.Vote part))
    ended false fresh = all_go part work (plain_passing stamp before tid work h part known asked idle given) (plain_due stamp before tid work h part known asked idle given) idle given.audit room
    ended true fresh = goes_then stamp before run work (end_member tid work (no 3)) _ (goes_ended stamp before run work tid (no 3))
        (all_go part (end_member tid work (no 3)) (ended_passing stamp before tid work h part known asked idle given fresh) (ended_due stamp before tid work h part known asked idle given fresh) idle given.audit room)

    pub goes_pass : On work (vote_pass tid work)
    goes_pass = subst (λ (w : Work). On work (fold (vote_next tid) w (due_votes tid work))) (sym (endings_are tid part work known))
        (subst (λ (ss : List ServerNo). On work (fold (vote_next tid) (end_if (member_of part (no 3)).fresh tid work) ss)) (sym (ap (λ (o : Option Participant). elim o [ None ↦ [] | Some p ↦ servers_due dues.Vote p ]) known))
        (ended (member_of part (no 3)).fresh refl))

  pub goes_pass_rule : (work : Work) → HoldsWork stamp before work → (part : Participant) → tm.part_of tid work.node.manager ≡ Some part → (is_pass_due tid part work ≡ true → MayPass stamp before work tid part) → (is_pass_due tid part work ≡ true → change_count tid work.node < 2 ^ 64) → On work (pass_rule tid part work)
  goes_pass_rule work h part known given room = goes_if stamp before run (is_pass_due tid part work) work (vote_pass tid work) work (λ due. goes_pass work h part known (parts due).0 (parts due).1 (given due) (room due)) (λ none. goes_self stamp before run work)
    where
      parts : is_pass_due tid part work ≡ true → (part.asked ≡ true) × (awaits_note part ≡ false)
      parts due = of part.asked (ipc.waits tid work.node.queues) (is_lent tid work.node) (awaits_note part) (needs_pass part) (not (is_put_off (doings_of tid work))) due
        where
          of : (a b c d e f : Bool) → ((a && not (b || (c || d))) && (e && f)) ≡ true → (a ≡ true) × (d ≡ false)
          of true false false false e f is = (refl, refl)
          of true true c d e f is = absurd (cc is)
          of true false true d e f is = absurd (cc is)
          of true false false true e f is = absurd (cc is)
          of false b c d e f is = absurd (cc is)
