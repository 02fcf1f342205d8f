-- A server votes, and its Prepare goes to the log: the rule as a whole.
use Rattle.qs_world_lawful.proofs.Words.{◌≡◌, ℕ, ◌==◌, Bool, true, false, Option, Some, None, refl, sym, ap, subst, ◌∙◌, length, not, unwrap_or, tid_cmp, NodeNo, ServerNo, Tid, tid_itself, lookup_put, class_of, is_two_phase, ServerValue, changes_in, after_vote, voted_in, share_of, nothing_held, Share, Vote, TransactionValue, life, voted, voted_part, Part, BookValue, find_transaction, broken, member_of, Participant, ServersValue, server_at, with_server, Work, with_doings, enter_vote, log_vote}
use Rattle.qs_world_lawful.proofs.Words.{vote_with, served_count, entry_of, face_of, at_server, HoldsFiles, HoldsTid, HoldsWork, book_at, eqb-true, eqb-false}
use Rattle.qs_ops.specs.Servers as numbers
use Rattle.qs_ops.specs.declared.vote.Vote.TheVariants as votes
use Rattle.qs_book_journal.specs.declared.entry.Act.TheVariants as acts
use Rattle.qs_book_machine.specs.Transaction.{part_of}
use Rattle.qs_record.specs.declared.record.Record.TheVariants as records
use Rattle.qs_tm.specs.Manager as tm
use Rattle.qs_tm.specs.Members as rules
use Rattle.qs_world_lawful.specs.Holds.{is_kept}
use Rattle.qs_world_lawful.proofs.Asking.{same_work}
use Rattle.qs_world_lawful.proofs.Bare.{by_log}
use Rattle.qs_world_lawful.proofs.Casting.{part_voted}
use Rattle.qs_world_lawful.proofs.Clauses.{of_tid}
use Rattle.qs_world_lawful.proofs.MemberTid.{lives_apart}
use Rattle.qs_world_lawful.proofs.Parts.{changed_part_apart}
use Rattle.qs_world_lawful.proofs.Pending.{files_here, elsewhere_pending, gone, vote_files}
use Rattle.qs_world_lawful.proofs.Voting.{by_vote}

-- what files have pending after a vote of theirs
abbrev pending_after : Vote → ℕ → ℕ
pending_after votes.ReadOnly n = 0
pending_after votes.Volatile n = n
pending_after votes.Recoverable n = n
pending_after (votes.Abort reason) n = n

part_pending : (ballot : Vote) (p : Part) → (voted_part ballot p).pending ≡ pending_after ballot p.pending
part_pending votes.ReadOnly p = refl
part_pending votes.Volatile p = refl
part_pending votes.Recoverable p = refl
part_pending (votes.Abort reason) p = refl

share_pending : (servers : ServersValue) (f : HoldsFiles servers) (tid : Tid) (ballot : Vote) → length (share_of (voted_in servers.files.table tid ballot) tid).changes ≡ pending_after ballot (length (share_of servers.files.table tid).changes)
share_pending servers f tid votes.ReadOnly = ap (λ (s : Share). length s.changes) (gone servers.files.table tid f.rising)
share_pending servers f tid votes.Volatile = ap (λ (o : Option Share). length (unwrap_or o nothing_held).changes) (lookup_put tid_cmp tid (record (share_of servers.files.table tid) { voted = true }) (tid_itself tid) servers.files.table.shares)
share_pending servers f tid votes.Recoverable = refl
share_pending servers f tid (votes.Abort reason) = ap (λ (o : Option Share). length (unwrap_or o nothing_held).changes) (lookup_put tid_cmp tid (record (share_of servers.files.table tid) { voted = false }) (tid_itself tid) servers.files.table.shares)

module _ (stamp : ℕ) (before : BookValue) (work : Work) (tid : Tid) (server : ServerNo) (ballot : Vote) (part : Participant) (tx : TransactionValue) (h : HoldsWork stamp before work) (files : HoldsFiles work.node.servers)
    (known : tm.part_of tid work.node.manager ≡ Some part) (found : find_transaction (book_at stamp before work) tid ≡ Some tx) (kept : is_kept server ≡ true) (two : is_two_phase (class_of server.0) ≡ true)
    (due : rules.is_covering (member_of part server) ≡ false) where
  abbrev here : NodeNo
  here = work.node.setting.node

  abbrev inc : ℕ
  inc = work.node.setting.inc

  held : HoldsTid here inc tid tx (record (face_of work.node tid) { known = Some part })
  held = subst (λ (o : Option Participant). HoldsTid here inc tid tx (record (face_of work.node tid) { known = o })) known (of_tid stamp (book_at stamp before work) work.node h.holds tid tx found)

  pending : (part_of (voted (at_server here server) inc ballot tx) (at_server here rules.files_no) inc).pending ≡ length (changes_in (with_server server (λ value. after_vote value tid ballot) work.node.servers).files tid)
  pending = by (server.0 == numbers.files_no) refl
    where
      by : (b : Bool) → (server.0 == numbers.files_no) ≡ b → (part_of (voted (at_server here server) inc ballot tx) (at_server here rules.files_no) inc).pending ≡ length (changes_in (with_server server (λ value. after_vote value tid ballot) work.node.servers).files tid)
      by true is =
          let it : server ≡ rules.files_no = ap (λ (n : ℕ). record { 0 = n }) (eqb-true server.0 numbers.files_no is) in
          subst (λ (s : ServerNo). (part_of (voted (at_server here server) inc ballot tx) (at_server here s) inc).pending ≡ length (changes_in (with_server server (λ value. after_vote value tid ballot) work.node.servers).files tid)) it
          (ap (λ (p : Part). p.pending) (part_voted tx (at_server here server) inc ballot (member_of part server) (held.members refl server kept) two (((held.members refl server kept).votes two).is_due ∙ ap not due))
          ∙ (part_pending ballot (part_of tx (at_server here server) inc)
          ∙ (ap (pending_after ballot) (subst (λ (s : ServerNo). (part_of tx (at_server here s) inc).pending ≡ length (changes_in work.node.servers.files tid)) (sym it) held.pending)
          ∙ sym (ap (λ (s : ServerValue). length (changes_in s tid)) (files_here server (λ value. after_vote value tid ballot) work.node.servers is ∙ vote_files work.node.servers files server tid ballot) ∙ share_pending work.node.servers files tid ballot))))
      by false is =
          ap (λ (p : Part). p.pending) (changed_part_apart (life (at_server here server) inc) (voted_part ballot) tx.parts (at_server here rules.files_no) inc (lives_apart here inc server rules.files_no (eqb-false server.0 numbers.files_no is)))
          ∙ (held.pending ∙ sym (elsewhere_pending work.node.servers files server tid (λ value. after_vote value tid ballot) is))

  -- its entry breaks no clause of its own
  pub by_vote_with : broken (book_at stamp before work) (entry_of here.0 stamp (acts.Vote tid (at_server here server) ballot (served_count tid server work))) ≡ None → HoldsWork stamp before (vote_with tid server ballot work)
  by_vote_with lawful = of ballot
    where
      mid : Work
      mid = enter_vote tid server ballot work

      entered : HoldsWork stamp before mid
      entered = by_vote stamp before work tid server ballot part tx h known found kept two due pending lawful

      of : (b : Vote) → HoldsWork stamp before (log_vote b tid server mid)
      of (votes.Abort reason) = entered
      of votes.ReadOnly = entered
      of votes.Volatile = entered
      of votes.Recoverable =
          let noted = with_doings tid (λ doings. record doings { prepared = true }) mid in
          by_log stamp before noted (records.Prepare tid server (served_count tid server mid) (changes_in (server_at mid.node.servers server) tid)) (same_work stamp before mid noted refl refl entered)
