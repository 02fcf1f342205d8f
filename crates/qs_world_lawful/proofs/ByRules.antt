-- A server that serves or votes by the rules of its kind does so lawfully: no more is asked of the entry.
use Rattle.qs_world_lawful.proofs.Words.{IsWithin, waiting_ops, standing_ops, ServerNo, Tid, last_number, Delivery, HoldsWork, book_at, at_server, face_of, part_in, part_or_new, HoldsFiles, BookValue, find_transaction, is_reply, is_vote, broken, TransactionValue, has_note, is_commit, served_in, standing_request, Request, class_of, is_two_phase, reply_of, vote_of, server_at, Reply, Vote, enter_serve, lent_to, make_loan, Work, served_count, vote_frame, vote_with, awaits_note, has_noted, member_of}
use Rattle.qs_world_lawful.proofs.Words.{Participant, entry_of, Bool, ◌∷◌, None, Option, Some, ap, false, refl, subst, sym, true, ℕ, ◌==◌, ◌∙◌, ◌≡◌, ◌≤◌, ◌⊎◌, eqb-true}
use Rattle.qs_ipc.specs.Queue.{is_for}
use Rattle.qs_world_lawful.proofs.Clauses.{may_serve, may_vote}
use Rattle.qs_world_lawful.proofs.ServingFiled.{by_serving_filed}
use Rattle.qs_world_lawful.proofs.VotingWhole.{by_vote_with}
use Rattle.qs_world_lawful.specs.Face.{waiting_at}
use Rattle.qs_world_lawful.specs.Holds.{is_kept}
use Rattle.qs_book_machine.specs.Book.{is_done}
use Rattle.qs_book_machine.specs.Clauses.{note_text}
use Rattle.qs_world_lawful.proofs.NamesVote.{names_right}
use Rattle.qs_world_lawful.proofs.VoteRules.{vote_is_right}
use Rattle.qs_book_journal.specs.declared.entry.Act.TheVariants as acts
use Rattle.qs_ops.specs.Servers as numbers
use Rattle.qs_tm.specs.Manager as tm
use Rattle.qs_tm.specs.Members as rules

module _ (stamp : ℕ) (before : BookValue) (work : Work) (tid : Tid) (part : Participant) (tx : TransactionValue) (h : HoldsWork stamp before work) (files : HoldsFiles work.node.servers)
    (known : tm.part_of tid work.node.manager ≡ Some part) (found : find_transaction (book_at stamp before work) tid ≡ Some tx) where
  part_here : part_in (face_of work.node tid) ≡ part
  part_here = ap part_or_new known

  -- a server votes by the rules once its transaction is asked for commit
  pub by_voting_rules : (server : ServerNo) (ballot : Vote) → is_kept server ≡ true → is_two_phase (class_of server.0) ≡ true → part.asked ≡ true → is_commit tx.cell ≡ false → rules.is_covering (member_of part server) ≡ false
      → is_vote h.holds.state tid tx (at_server work.node.setting.node server) ballot ≡ true → HoldsWork stamp before (vote_with tid server ballot work)
  by_voting_rules server ballot kept two asked still due right =
      by_vote_with stamp before work tid server ballot part tx h files known found kept two due
      (ap (λ (n : ℕ). broken (book_at stamp before work) (entry_of work.node.setting.node.0 stamp (acts.Vote tid (at_server work.node.setting.node server) ballot n))) count
      ∙ may_vote stamp (book_at stamp before work) work.node h.holds tid tx found server ballot kept two
      (ap (λ (p : Participant). p.asked) part_here ∙ asked) still (ap (λ (p : Participant). rules.is_covering (member_of p server)) part_here ∙ due) right)
    where
      count : served_count tid server work ≡ (member_of (part_in (face_of work.node tid)) server).served
      count = ap (λ (o : Option Participant). elim o [ None ↦ 0 | Some p ↦ (member_of p server).served ]) known ∙ sym (ap (λ (p : Participant). (member_of p server).served) part_here)

  -- and each votes by them
  pub by_own_vote : (server : ServerNo) → is_kept server ≡ true → is_two_phase (class_of server.0) ≡ true → part.asked ≡ true → is_commit tx.cell ≡ false → rules.is_covering (member_of part server) ≡ false
      → HoldsWork stamp before (vote_with tid server (vote_of (server_at work.node.servers server) tid work.room (vote_frame work)) work)
  by_own_vote server kept two asked still due =
      by_voting_rules server (vote_of (server_at work.node.servers server) tid work.room (vote_frame work)) kept two asked still due (of (server.0 == numbers.names_no) refl)
    where
      of : (b : Bool) → (server.0 == numbers.names_no) ≡ b → is_vote h.holds.state tid tx (at_server work.node.setting.node server) (vote_of (server_at work.node.servers server) tid work.room (vote_frame work)) ≡ true
      of false is = vote_is_right stamp (book_at stamp before work) work.node h.holds tid tx found server kept two is work.room
      of true is = subst (λ (n : ℕ). is_vote h.holds.state tid tx (at_server work.node.setting.node (record { 0 = n })) (vote_of (server_at work.node.servers (record { 0 = n })) tid work.room (vote_frame work)) ≡ true)
          (sym (eqb-true server.0 numbers.names_no is)) (names_right stamp (book_at stamp before work) work.node h.holds tid tx found work.room)

-- a member serves by the rules what stands there, where no outcome is known
pub by_serving_rules : (stamp : ℕ) (before : BookValue) (work : Work) (server : ServerNo) (delivery : Delivery) (reply : Reply) (part : Participant) (tx : TransactionValue) → (h : HoldsWork stamp before work) → HoldsFiles work.node.servers
    → tm.part_of delivery.tid work.node.manager ≡ Some part → find_transaction (book_at stamp before work) delivery.tid ≡ Some tx → part.outcome ≡ None
    → (is_kept server ≡ true → ((member_of part server).served == last_number) ≡ false)
    → IsWithin (delivery.op ∷ waiting_ops (record { link = record { from = delivery.from; to = work.node.setting.node }; number = delivery.number }) (waiting_at work.node delivery.tid server)) (standing_ops tx (record { link = record { from = delivery.from; to = work.node.setting.node }; number = delivery.number }) work.node.setting.node server)
    → ((count : ℕ) → 1 ≤ count → has_note (served_in (record { link = record { from = delivery.from; to = work.node.setting.node }; number = delivery.number }) (at_server work.node.setting.node server) work.node.setting.inc stamp (is_done reply) tx)
    (record { node = work.node.setting.node; inc = work.node.setting.inc; text = note_text delivery.tid work.node.setting.node.0 count }) ≡ true → (has_noted count part ≡ true) ⊎ (awaits_note part ≡ true))
    → is_for server delivery.op ≡ true
    → ((server.0 == numbers.files_no) ≡ true → reply_of work.node.servers.files delivery.tid delivery.op ≡ Some reply)
    → (request : Request) → standing_request tx (record { link = record { from = delivery.from; to = work.node.setting.node }; number = delivery.number }) (at_server work.node.setting.node server) ≡ Some request
    → is_reply work.node.setting.node.0 h.holds.state (book_at stamp before work).transactions delivery.tid tx (at_server work.node.setting.node server) request.op reply ≡ true
    → HoldsWork stamp before (make_loan delivery.tid (lent_to delivery.op) (enter_serve server delivery reply work))
by_serving_rules stamp before work server delivery reply part tx h files known found unknown room one noted fits by request stands right =
    by_serving_filed stamp before work server delivery reply part tx h files known found room one noted fits by
    (may_serve stamp (book_at stamp before work) work.node h.holds delivery.tid tx found (at_server work.node.setting.node server) delivery.from delivery.number reply request refl stands right
    (ap (λ (o : Option Participant). (part_or_new o).outcome) known ∙ unknown))
