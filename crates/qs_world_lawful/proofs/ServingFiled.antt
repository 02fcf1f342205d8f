-- A member serves a request with its server's reply: the rule as a whole, with files as they are.
use Rattle.qs_world_lawful.proofs.Words.{IsWithin, waiting_ops, standing_ops, ◌∷◌, ◌≡◌, ◌⊎◌, ℕ, ◌==◌, ◌≤◌, Bool, true, false, Some, None, refl, ap, subst, length, if◌then◌else◌, ServerNo, last_number, Delivery, changes_in, after_serving, reply_of, Reply, TransactionValue, served_in, has_note, RequestNo, BookValue, find_transaction, broken, member_of, has_noted, awaits_note, Participant, is_client, with_server, enter_serve, make_loan, lent_to, Work, entry_of, at_server, HoldsFiles, HoldsWork}
use Rattle.qs_world_lawful.proofs.Words.{book_at, eqb-true}
use Rattle.qs_ipc.specs.Queue.{is_for}
use Rattle.qs_ops.specs.Servers as numbers
use Rattle.qs_book_journal.specs.declared.entry.Act.TheVariants as acts
use Rattle.qs_book_machine.specs.Transaction.{part_of}
use Rattle.qs_book_machine.specs.Book.{is_done}
use Rattle.qs_book_machine.specs.Clauses.{note_text}
use Rattle.qs_tm.specs.Manager as tm
use Rattle.qs_tm.specs.Members as rules
use Rattle.qs_world_lawful.specs.Face.{waiting_at}
use Rattle.qs_world_lawful.specs.Holds.{is_kept}
use Rattle.qs_world_lawful.proofs.Clauses.{of_tid}
use Rattle.qs_world_lawful.proofs.ServedPending.{serve_pending, lend_pending}
use Rattle.qs_world_lawful.proofs.ServingWhole.{by_serving}

pub by_serving_filed : (stamp : ℕ) (before : BookValue) (work : Work) (server : ServerNo) (delivery : Delivery) (reply : Reply) (part : Participant) (tx : TransactionValue) → HoldsWork stamp before work → HoldsFiles work.node.servers
    → tm.part_of delivery.tid work.node.manager ≡ Some part → find_transaction (book_at stamp before work) delivery.tid ≡ Some tx
    → (is_kept server ≡ true → ((member_of part server).served == last_number) ≡ false)
    → IsWithin (delivery.op ∷ waiting_ops (record { link = record { from = delivery.from; to = work.node.setting.node }; number = delivery.number }) (waiting_at work.node delivery.tid server)) (standing_ops tx (record { link = record { from = delivery.from; to = work.node.setting.node }; number = delivery.number }) work.node.setting.node server)
    → ((count : ℕ) → 1 ≤ count → has_note (served_in (record { link = record { from = delivery.from; to = work.node.setting.node }; number = delivery.number }) (at_server work.node.setting.node server) work.node.setting.inc stamp (is_done reply) tx)
    (record { node = work.node.setting.node; inc = work.node.setting.inc; text = note_text delivery.tid work.node.setting.node.0 count }) ≡ true → (has_noted count part ≡ true) ⊎ (awaits_note part ≡ true))
    → is_for server delivery.op ≡ true
    → ((server.0 == numbers.files_no) ≡ true → reply_of work.node.servers.files delivery.tid delivery.op ≡ Some reply)
    → broken (book_at stamp before work) (entry_of work.node.setting.node.0 stamp (acts.Serve delivery.tid (at_server work.node.setting.node server) delivery.from delivery.number reply)) ≡ None
    → HoldsWork stamp before (make_loan delivery.tid (lent_to delivery.op) (enter_serve server delivery reply work))
by_serving_filed stamp before work server delivery reply part tx h files known found room one noted fits answers lawful =
    by_serving stamp before work server delivery reply part tx h known found room one (pending (is_client server) refl) noted fits lawful
  where
    at : RequestNo
    at = record { link = record { from = delivery.from; to = work.node.setting.node }; number = delivery.number }

    was : (part_of tx (at_server work.node.setting.node rules.files_no) work.node.setting.inc).pending ≡ length (changes_in work.node.servers.files delivery.tid)
    was = (of_tid stamp (book_at stamp before work) work.node h.holds delivery.tid tx found).pending

    own : (server.0 == numbers.files_no) ≡ true → is_for rules.files_no delivery.op ≡ true
    own is = subst (λ (s : ServerNo). is_for s delivery.op ≡ true) (ap (λ (n : ℕ). record { 0 = n }) (eqb-true server.0 numbers.files_no is)) fits

    pending : (b : Bool) → is_client server ≡ b
        → (part_of (served_in at (at_server work.node.setting.node server) work.node.setting.inc stamp (is_done reply) tx) (at_server work.node.setting.node rules.files_no) work.node.setting.inc).pending
        ≡ length (changes_in (if is_client server then work.node.servers else with_server server (λ value. after_serving value delivery.tid delivery.op reply) work.node.servers).files delivery.tid)
    pending true is = lend_pending work.node.servers files server delivery.tid delivery.op reply work.node.setting.node work.node.setting.inc stamp at tx was is
    pending false is = serve_pending work.node.servers files server delivery.tid delivery.op reply work.node.setting.node work.node.setting.inc stamp at tx was is (λ e. (own e, answers e))
