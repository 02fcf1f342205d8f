-- The vote pass: timers are told that the transaction ends, files issue their note or vote, and each other server votes whose vote is due.
use Rattle.qs_world_lawful.proofs.Words.{◌≡◌, ◌≢◌, ℕ, ◌<◌, Bool, true, false, List, Option, Some, None, refl, sym, ap, ◌∙◌, nat_lt, length, [], ◌∷◌, ◌++◌, not, ◌&&◌, is_some, if◌then◌else◌, Member, NodeNo, ServerNo, Tid, same_node, BookValue, find_transaction, TransactionValue, class_of, is_two_phase, changes_in, vote_of, Op, Note, Vote, Record, server_at, member_here, send, ask_on, enter_issue, is_asked, issue_as, issue_away, issue_here, label_of, next_number, with_local, Work, here, with_manager}
use Rattle.qs_world_lawful.proofs.Words.{with_queues, change_count, enter_vote, issue_note, log_vote, owes_note, served_count, vote_frame, vote_next, vote_with, awaits_note, has_noted, is_due_at, member_of, servers_due, with_causes_of, MemberPart, Outstanding, Participant, HoldsWork, book_at, IsUncommitted, crosses, inc_at, with_transaction, with_waiting, link_to, changed_value, issued, voted, Request, RequestNo, tid_cmp, is_at}
use Rattle.qs_ipc.specs.Ipc as ipc
use Rattle.qs_ipc.specs.Queue.{is_for}
use Rattle.qs_ops.specs.declared.vote.Vote.TheVariants as votes
use Rattle.qs_packet.specs.declared.message.Message.TheVariants as messages
use Rattle.qs_record.specs.declared.record.Record.TheVariants as records
use Rattle.qs_node_servers.specs.Servers.{audit_no}
use Rattle.qs_node_step.specs.Requests.{issue}
use Rattle.qs_node_step.specs.State.{NodeValue}
use Rattle.qs_node_step.specs.Voting.{note_text}
use Rattle.qs_tm.specs.Manager as tm
use Rattle.qs_tm.specs.Members as rules
use Rattle.qs_tm.specs.Members.{all_servers}
use Rattle.qs_tm.specs.Outcomes as outcome_rules
use Rattle.qs_tm.specs.Participant as participant
use Rattle.qs_world_lawful.specs.Holds.{is_kept}
use Rattle.qs_world_lawful.proofs.Asking.{sent_entries, sent_node}
use Rattle.qs_world_lawful.proofs.ByRules.{by_own_vote}
use Rattle.qs_world_lawful.proofs.Faces.{part_changed}
use Rattle.qs_world_lawful.proofs.FilesHeld.{files_held}
use Rattle.qs_world_lawful.proofs.LearningAll.{stands}
use Rattle.qs_world_lawful.proofs.NotesIssued.{by_note}
use Rattle.qs_world_lawful.proofs.Crossing.{crossing_txs, waiting_txs}
use Rattle.qs_world_lawful.proofs.Growing.{book_with}
use Rattle.qs_world_lawful.proofs.Parts.{with_other}
use Rattle.qs_world_lawful.proofs.Uncommitted.{uncommitted_on}
use Rattle.qs_book_journal.specs.declared.entry.Act.TheVariants as acts

-- a work in the middle of a pass
pub record Passing (stamp : ℕ) (before : BookValue) (tid : Tid) (work : Work) : Type 0 where
  pub held : HoldsWork stamp before work
  pub part : Participant
  pub known : tm.part_of tid work.node.manager ≡ Some part
  pub asked : part.asked ≡ true
  pub open_still : IsUncommitted stamp before work tid

-- ---- what a note that is issued leaves of its transaction

record IsSoStill (stamp : ℕ) (before : BookValue) (tid : Tid) (part : Participant) (work : Work) : Type 0 where
  now : Participant
  known : tm.part_of tid work.node.manager ≡ Some now
  asked : now.asked ≡ part.asked
  members : now.members ≡ part.members
  open_still : IsUncommitted stamp before work tid

module _ (stamp : ℕ) (before : BookValue) (tid : Tid) (part : Participant) (work : Work) (known : tm.part_of tid work.node.manager ≡ Some part) (tx : TransactionValue) (found : find_transaction (book_at stamp before work) tid ≡ Some tx)
    (still : IsUncommitted stamp before work tid) (op : Op) where
  -- an issue leaves the cell
  issued_open : (request : Outstanding) (new : Work) → new.node.setting ≡ work.node.setting → new.out.entries ≡ work.out.entries ++ acts.Issue tid (member_here work request.issuer) request.member request.number op ∷ [] → IsUncommitted stamp before new tid
  issued_open request new setting entries = uncommitted_on stamp before tid work new (acts.Issue tid (member_here work request.issuer) request.member request.number op) f tx (λ x. refl) txs found setting entries still
    where
      key : RequestNo
      key = record { link = link_to (here work).0 request.member; number = request.number }

      its : Request
      its = record { issuer = member_here work request.issuer; member = request.member; op = op; inc = inc_at (book_at stamp before work) (record { 0 = (here work).0 }); served = false }

      f : TransactionValue → TransactionValue
      f = issued key its (inc_at (book_at stamp before work) request.member.node) (book_at stamp before work).place

      txs : (book_with stamp before work (acts.Issue tid (member_here work request.issuer) request.member request.number op)).transactions ≡ changed_value (is_at (tid_cmp tid)) f (book_at stamp before work).transactions
      txs = crossing_txs (crosses (find_transaction (book_at stamp before work) tid) key request.member) tid request.member (with_waiting tid (member_here work request.issuer) request.member (with_transaction tid f (book_at stamp before work)))
          ∙ waiting_txs tid (member_here work request.issuer) request.member (with_transaction tid f (book_at stamp before work))

  here_still : (request : Outstanding) → IsSoStill stamp before tid part (issue_here tid request op work)
  here_still request = by (is_for request.member.server op)
    where
      now : tm.part_of tid (enter_issue tid request op work).node.manager ≡ Some (participant.issued request part)
      now = part_changed tid (participant.issued request) work.node.manager part known

      by : (b : Bool) → IsSoStill stamp before tid part (if b then with_queues (ipc.enqueue request.member.server (record { tid = tid; from = here work; number = request.number; op = op; stale = false })) (with_local tid request.number (enter_issue tid request op work))
          else with_local tid request.number (enter_issue tid request op work))
      by true = record { now = participant.issued request part; known = now; asked = refl; members = refl; open_still = issued_open request (with_queues (ipc.enqueue request.member.server (record { tid = tid; from = here work; number = request.number; op = op; stale = false })) (with_local tid request.number (enter_issue tid request op work))) refl refl }
      by false = record { now = participant.issued request part; known = now; asked = refl; members = refl; open_still = issued_open request (with_local tid request.number (enter_issue tid request op work)) refl refl }

  away_still : (request : Outstanding) → IsSoStill stamp before tid part (issue_away tid request op work)
  away_still request = by (is_asked tid work)
    where
      counted : Work
      counted = with_manager (tm.sent tid request.member.node) (enter_issue tid request op work)

      told : Work
      told = send request.member.node (messages.Request tid (label_of tid work.node) request.member request.number request.issuer op) counted

      now : tm.part_of tid counted.node.manager ≡ Some (participant.sent request.member.node (participant.issued request part))
      now = part_changed tid (participant.sent request.member.node) (tm.issued tid request work.node.manager) (participant.issued request part) (part_changed tid (participant.issued request) work.node.manager part known)

      told_is : tm.part_of tid told.node.manager ≡ Some (participant.sent request.member.node (participant.issued request part))
      told_is = ap (λ (n : NodeValue). tm.part_of tid n.manager) (sent_node request.member.node (messages.Request tid (label_of tid work.node) request.member request.number request.issuer op) counted) ∙ now

      told_setting : told.node.setting ≡ work.node.setting
      told_setting = ap (λ (n : NodeValue). n.setting) (sent_node request.member.node (messages.Request tid (label_of tid work.node) request.member request.number request.issuer op) counted)

      told_entries : told.out.entries ≡ work.out.entries ++ acts.Issue tid (member_here work request.issuer) request.member request.number op ∷ []
      told_entries = sent_entries request.member.node (messages.Request tid (label_of tid work.node) request.member request.number request.issuer op) counted

      by : (b : Bool) → IsSoStill stamp before tid part (ask_on b tid request.member.node told)
      by false = record { now = participant.sent request.member.node (participant.issued request part); known = told_is; asked = refl; members = refl; open_still = issued_open request told told_setting told_entries }
      by true = record {
        now = participant.sent request.member.node (participant.issued request part);
        known = ap (λ (n : NodeValue). tm.part_of tid n.manager) (sent_node request.member.node (messages.AskVote tid) told) ∙ told_is;
        asked = refl;
        members = refl;
        open_still = issued_open request (send request.member.node (messages.AskVote tid) told) (ap (λ (n : NodeValue). n.setting) (sent_node request.member.node (messages.AskVote tid) told) ∙ told_setting) (sent_entries request.member.node (messages.AskVote tid) told ∙ told_entries);
      }

  issued_still : (issuer : ServerNo) (member : Member) (count : ℕ) → IsSoStill stamp before tid part (issue tid issuer member op count work)
  issued_still issuer member count = by (next_number tid member.node work)
    where
      given : (number : ℕ) (b : Bool) → IsSoStill stamp before tid part (if b then issue_here tid (record { issuer = issuer; member = member; number = number; count = count }) op work else issue_away tid (record { issuer = issuer; member = member; number = number; count = count }) op work)
      given number true = here_still (record { issuer = issuer; member = member; number = number; count = count })
      given number false = away_still (record { issuer = issuer; member = member; number = number; count = count })

      by : (o : Option ℕ) → IsSoStill stamp before tid part (elim o [ None ↦ work | Some number ↦ issue_as tid (record { issuer = issuer; member = member; number = number; count = count }) op work ])
      by None = record { now = part; known = known; asked = refl; members = refl; open_still = still }
      by (Some number) = given number (same_node member.node (here work))

-- ---- one server

module _ (stamp : ℕ) (before : BookValue) (tid : Tid) where
  -- that server's vote is due
  abbrev pub left : {work : Work} → Passing stamp before tid work → ServerNo → Bool
  left m server = rules.is_vote_due server (member_of m.part server)

  pub record Next (work : Work) (m : Passing stamp before tid work) (server : ServerNo) (new : Work) : Type 0 where
    pub after : Passing stamp before tid new
    pub others : (x : ServerNo) → server.0 ≢ x.0 → left after x ≡ left m x

  module _ (work : Work) (m : Passing stamp before tid work) (server : ServerNo) (kept : is_kept server ≡ true) (due : left m server ≡ true) where
    in_machine : (tx : TransactionValue) × (find_transaction (book_at stamp before work) tid ≡ Some tx)
    in_machine = stands stamp (book_at stamp before work) work.node tid m.part m.held.holds m.known

    two : (a b : Bool) → (a && not b) ≡ true → (a ≡ true) × (b ≡ false)
    two true false e = (refl, refl)
    two true true e = absurd (cc e)
    two false b e = absurd (cc e)

    abbrev count : ℕ
    count = served_count tid server work

    abbrev cast_now : Vote → MemberPart
    cast_now ballot = record (member_of m.part server) { vote = Some (record { ballot = rules.ballot_of ballot; covers = count }) }

    abbrev voted_part : Vote → Participant
    voted_part ballot = participant.voted (member_here work server) ballot count m.part

    voted_known : (ballot : Vote) → tm.part_of tid (enter_vote tid server ballot work).node.manager ≡ Some (voted_part ballot)
    voted_known ballot = part_changed tid (participant.voted (member_here work server) ballot count) work.node.manager m.part m.known

    voted_open : (ballot : Vote) (new : Work) → new.node.setting ≡ work.node.setting → new.out.entries ≡ work.out.entries ++ acts.Vote tid (member_here work server) ballot count ∷ [] → IsUncommitted stamp before new tid
    voted_open ballot new setting entries = uncommitted_on stamp before tid work new (acts.Vote tid (member_here work server) ballot count) (voted (member_here work server) (inc_at (book_at stamp before work) (record { 0 = (here work).0 })) ballot) in_machine.0 (λ x. refl) refl in_machine.1 setting entries m.open_still

    others_on : (ballot : Vote) (x : ServerNo) → server.0 ≢ x.0 → rules.is_vote_due x (member_of (voted_part ballot) x) ≡ left m x
    others_on ballot x far = ap (rules.is_vote_due x) (with_other server x (cast_now ballot) (with_causes_of (member_here work server) ballot m.part) far)

    logged : (ballot b : Vote) → HoldsWork stamp before (log_vote b tid server (enter_vote tid server ballot work)) → Next work m server (log_vote b tid server (enter_vote tid server ballot work))
    logged ballot (votes.Abort reason) k = record { after = record { held = k; part = voted_part ballot; known = voted_known ballot; asked = m.asked; open_still = voted_open ballot (enter_vote tid server ballot work) refl refl }; others = others_on ballot }
    logged ballot votes.ReadOnly k = record { after = record { held = k; part = voted_part ballot; known = voted_known ballot; asked = m.asked; open_still = voted_open ballot (enter_vote tid server ballot work) refl refl }; others = others_on ballot }
    logged ballot votes.Volatile k = record { after = record { held = k; part = voted_part ballot; known = voted_known ballot; asked = m.asked; open_still = voted_open ballot (enter_vote tid server ballot work) refl refl }; others = others_on ballot }
    logged ballot votes.Recoverable k = record {
      after = record {
        held = k;
        part = outcome_rules.logged rec (voted_part ballot);
        known = part_changed tid (outcome_rules.logged rec) (enter_vote tid server ballot work).node.manager (voted_part ballot) (voted_known ballot);
        asked = m.asked;
        open_still = voted_open ballot (log_vote votes.Recoverable tid server (enter_vote tid server ballot work)) refl refl;
      };
      others = others_on ballot;
    }
      where
        rec : Record
        rec = records.Prepare tid server (served_count tid server (enter_vote tid server ballot work)) (changes_in (server_at (enter_vote tid server ballot work).node.servers server) tid)

    -- it votes
    voted_next : Next work m server (vote_with tid server (vote_of (server_at work.node.servers server) tid work.room (vote_frame work)) work)
    voted_next =
        let parts = two (is_two_phase (class_of server.0)) (rules.is_covering (member_of m.part server)) due in
        logged ballot ballot (by_own_vote stamp before work tid m.part in_machine.0 m.held (files_held stamp before work m.held) m.known in_machine.1 server kept parts.0 m.asked (m.open_still in_machine.0 in_machine.1) parts.1)
      where
        ballot : Vote
        ballot = vote_of (server_at work.node.servers server) tid work.room (vote_frame work)

    -- a server that owes no note
    pub others_next : rules.same_server server rules.files_no ≡ false → Next work m server (vote_next tid work server)
    others_next far = by (rules.same_server server rules.files_no) far
      where
        by : (b : Bool) → b ≡ false
            → Next work m server (if (b && is_some work.node.setting.audit) && (nat_lt 0 (change_count tid work.node) && not (tm.told_of tid false (has_noted (change_count tid work.node)) work.node.manager)) then issue_note tid work.node.setting.audit work
            else vote_with tid server (vote_of (server_at work.node.servers server) tid work.room (vote_frame work)) work)
        by true e = absurd (cc e)
        by false e = voted_next

    -- files, which wait for no note
    module _ (idle : awaits_note m.part ≡ false) (audit : (to : NodeNo) → work.node.setting.audit ≡ Some to → (nat_lt to.0 work.node.setting.nodes ≡ true) × (to.0 < length m.part.engage.peers)) where
      noted_next : owes_note tid server work ≡ true → Next work m server (issue_note tid work.node.setting.audit work)
      noted_next owes = by work.node.setting.audit refl
        where
          parts : (a b c d : Bool) → ((a && b) && (c && not d)) ≡ true → (c ≡ true) × (d ≡ false)
          parts true true true false e = (refl, refl)
          parts true true true true e = absurd (cc e)
          parts true true false d e = absurd (cc e)
          parts true false c d e = absurd (cc e)
          parts false b c d e = absurd (cc e)

          its : (nat_lt 0 (change_count tid work.node) ≡ true) × (tm.told_of tid false (has_noted (change_count tid work.node)) work.node.manager ≡ false)
          its = parts (rules.same_server server rules.files_no) (is_some work.node.setting.audit) (nat_lt 0 (change_count tid work.node)) (tm.told_of tid false (has_noted (change_count tid work.node)) work.node.manager) owes

          unnoted : has_noted (change_count tid work.node) m.part ≡ false
          unnoted = sym (ap (λ (o : Option Participant). elim o [ None ↦ false | Some p ↦ has_noted (change_count tid work.node) p ]) m.known) ∙ its.1

          still : (to : NodeNo) → IsSoStill stamp before tid m.part (issue_note tid (Some to) work)
          still to = issued_still stamp before tid m.part work m.known in_machine.0 in_machine.1 m.open_still (Note (note_text tid (here work) (change_count tid work.node))) rules.files_no (record { node = to; server = audit_no }) (change_count tid work.node)

          by : (o : Option NodeNo) → work.node.setting.audit ≡ o → Next work m server (issue_note tid o work)
          by None is = record { after = m; others = λ x far. refl }
          by (Some to) is = let s = still to in record {
            after = record {
              held = by_note stamp before work m.held tid m.part in_machine.0 m.known in_machine.1 m.asked (m.open_still in_machine.0 in_machine.1) its.0 unnoted idle to (audit to is).0 (audit to is).1;
              part = s.now;
              known = s.known;
              asked = s.asked ∙ m.asked;
              open_still = s.open_still;
            };
            others = λ x far. ap (λ (ms : List MemberPart). rules.is_vote_due x (member_of (record m.part { members = ms }) x)) s.members;
          }

      pub files_next : Next work m server (vote_next tid work server)
      files_next = by (owes_note tid server work) refl
        where
          by : (b : Bool) → owes_note tid server work ≡ b → Next work m server (if b then issue_note tid work.node.setting.audit work else vote_with tid server (vote_of (server_at work.node.servers server) tid work.room (vote_frame work)) work)
          by true is = noted_next is
          by false is = voted_next
