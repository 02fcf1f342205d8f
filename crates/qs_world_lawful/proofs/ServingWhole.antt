-- A member serves a request, and a client that takes a loan makes it at once: the rule as a whole, but for its reply.
use Rattle.qs_world_lawful.proofs.Words.{IsWithin, waiting_ops, standing_ops, ◌∷◌, ◌≡◌, ◌⊎◌, ℕ, ◌==◌, ◌≤◌, Bool, true, false, Option, Some, None, refl, ap, subst, ◌∙◌, length, nat_lt, if◌then◌else◌, ClientNo, NodeNo, ServerNo, last_number, Delivery, changes_in, after_serving, client_no, Op, Lend, Reply, TransactionValue, served_in, has_note, is_loan_due, RequestNo, BookValue, find_transaction, broken, member_of, has_noted, awaits_note, Participant, is_client, with_server, enter_serve, make_loan}
use Rattle.qs_world_lawful.proofs.Words.{lent_to, Work, entry_of, at_server, HoldsWork, book_at, eqb-true}
use Rattle.qs_ipc.specs.Queue.{is_for}
use Rattle.qs_book_journal.specs.declared.entry.Act.TheVariants as acts
use Rattle.qs_book_machine.specs.Transaction.{part_of, borrower}
use Rattle.qs_book_machine.specs.Book.{is_done}
use Rattle.qs_book_machine.specs.Clauses.{note_text}
use Rattle.qs_tm.specs.Manager as tm
use Rattle.qs_tm.specs.Members as rules
use Rattle.qs_world_lawful.specs.Face.{waiting_at}
use Rattle.qs_world_lawful.specs.Holds.{is_kept}
use Rattle.qs_world_lawful.proofs.Lending.{by_loan}
use Rattle.qs_world_lawful.proofs.LoanDue.{serve_due}
use Rattle.qs_world_lawful.proofs.ServingOne.{by_serve, found_served, served_setting}

abbrev is_its : ServerNo → Option ServerNo → Bool
is_its server o = elim o [ None ↦ false | Some its ↦ its.0 == server.0 ]

module _ (stamp : ℕ) (before : BookValue) (work : Work) (server : ServerNo) (delivery : Delivery) (reply : Reply) (part : Participant) (tx : TransactionValue) (h : HoldsWork stamp before work)
    (known : tm.part_of delivery.tid work.node.manager ≡ Some part) (found : find_transaction (book_at stamp before work) delivery.tid ≡ Some tx) where
  abbrev here : NodeNo
  here = work.node.setting.node

  abbrev inc : ℕ
  inc = work.node.setting.inc

  abbrev at : RequestNo
  at = record { link = record { from = delivery.from; to = here }; number = delivery.number }

  abbrev served : Work
  served = enter_serve server delivery reply work

  abbrev after : TransactionValue
  after = served_in at (at_server here server) inc stamp (is_done reply) tx

  -- a client that lends is the server that its number says
  lender : (client : ClientNo) → is_for server (Lend client) ≡ true → (nat_lt client.0 224 ≡ true) × (client_no client.0 ≡ server.0)
  lender client fits = by (nat_lt client.0 224) refl fits
    where
      by : (b : Bool) → nat_lt client.0 224 ≡ b → is_its server (if b then Some (record { 0 = client_no client.0 }) else None) ≡ true → (nat_lt client.0 224 ≡ true) × (client_no client.0 ≡ server.0)
      by true is e = (is, eqb-true (client_no client.0) server.0 e)
      by false is e = absurd (cc e)

  pub by_serving : (is_kept server ≡ true → ((member_of part server).served == last_number) ≡ false)
      → IsWithin (delivery.op ∷ waiting_ops at (waiting_at work.node delivery.tid server)) (standing_ops tx at here server)
      → (part_of after (at_server here rules.files_no) inc).pending ≡ length (changes_in (if is_client server then work.node.servers else with_server server (λ value. after_serving value delivery.tid delivery.op reply) work.node.servers).files delivery.tid)
      → ((count : ℕ) → 1 ≤ count → has_note after (record { node = here; inc = inc; text = note_text delivery.tid here.0 count }) ≡ true → (has_noted count part ≡ true) ⊎ (awaits_note part ≡ true))
      → is_for server delivery.op ≡ true
      → broken (book_at stamp before work) (entry_of here.0 stamp (acts.Serve delivery.tid (at_server here server) delivery.from delivery.number reply)) ≡ None
      → HoldsWork stamp before (make_loan delivery.tid (lent_to delivery.op) (enter_serve server delivery reply work))
  by_serving room one pending noted fits lawful = of delivery.op fits
    where
      held : HoldsWork stamp before served
      held = by_serve stamp before work server delivery reply part tx h known found room one pending noted lawful

      setting : served.node.setting ≡ work.node.setting
      setting = served_setting stamp before work server delivery reply part tx h known found

      lend : (client : ClientNo) → nat_lt client.0 224 ≡ true → client_no client.0 ≡ server.0 → HoldsWork stamp before (make_loan delivery.tid (Some client) served)
      lend client small is = by_loan stamp before served delivery.tid client after held (found_served stamp before work server delivery reply part tx h known found) small due
        where
          its : borrower client here ≡ at_server here server
          its = ap (λ (n : ℕ). at_server here (record { 0 = n })) is

          due_here : is_loan_due after (borrower client here) inc stamp ≡ true
          due_here = subst (λ m. is_loan_due (served_in at m inc stamp (is_done reply) tx) (borrower client here) inc stamp ≡ true) its (serve_due at client here inc stamp (is_done reply) tx)

          due : is_loan_due after (borrower client served.node.setting.node) served.node.setting.inc stamp ≡ true
          due = ap (λ s. is_loan_due after (borrower client s.node) s.inc stamp) setting ∙ due_here

      of : (op : Op) → is_for server op ≡ true → HoldsWork stamp before (make_loan delivery.tid (lent_to op) served)
      of (Lend client) e = let l = lender client e in lend client l.0 l.1
      of op e = held
