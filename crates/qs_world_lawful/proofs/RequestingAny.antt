-- A client commands a request to any server of the run: of the node itself, or of another node.
use Rattle.qs_world_lawful.proofs.Words.{◌≡◌, ◌≢◌, ℕ, ◌==◌, ◌+◌, Bool, true, false, Option, Some, None, refl, sym, ap, subst, ◌∙◌, nat_lt, not, ◌&&◌, ◌||◌, if◌then◌else◌, list_any, lookup, is_at, ClientNo, Member, NodeNo, Tid, last_number, peer_of, same_node, last_taken, KeptLabel, Lent, BookValue, find_transaction, broken, TransactionValue, is_commit, Op, client_server, is_aborted, is_void, request_command, with_issued, issue_away, issue_here, next_local, label_at, Work, client_cmp, OpenCommand}
use Rattle.qs_world_lawful.proofs.Words.{Outstanding, Participant, entry_of, HoldsWork, book_at, at_server, face_of, is_loan_here, part_or_new, MayRequest, IsOwner, eqb-true, eqb-false}
use Rattle.qs_base.specs.declared.identifiers.Outcome.TheVariants as outcomes
use Rattle.qs_book_journal.specs.declared.entry.Act.TheVariants as acts
use Rattle.qs_book_journal.specs.declared.script_line.Command.TheVariants as commands
use Rattle.qs_tm.specs.Manager as tm
use Rattle.qs_tm.specs.Outcomes.{is_abort}
use Rattle.qs_world_lawful.proofs.BorrowersCommands.{present_stands}
use Rattle.qs_world_lawful.proofs.Commanding.{not_asking}
use Rattle.qs_world_lawful.proofs.Issuing.{borrower_issues}
use Rattle.qs_world_lawful.proofs.IssuingAway.{by_issue_away, by_owner_away, next_away}
use Rattle.qs_world_lawful.proofs.LearningAll.{stands}
use Rattle.qs_world_lawful.proofs.Requesting.{by_borrowers_request, by_issued, by_owners_request}

node_is : (a b : NodeNo) → same_node a b ≡ true → a ≡ b
node_is a b e = ap (λ (n : ℕ). record { 0 = n }) (eqb-true a.0 b.0 e)

node_far : (a b : NodeNo) → same_node a b ≡ false → a.0 ≢ b.0
node_far a b e = eqb-false a.0 b.0 e

module _ (stamp : ℕ) (before : BookValue) (work : Work) (h : HoldsWork stamp before work) (client : ClientNo) (command : OpenCommand) (waits : lookup (is_at (client_cmp client)) work.node.commands ≡ Some command)
    (other : command.line.command ≡ commands.Commit → ⊥) (tid : Tid) (member : Member) (op : Op) (may : MayRequest work tid member op) (part : Participant) (known : tm.part_of tid work.node.manager ≡ Some part) where
  abbrev as_issued : ℕ → Work
  as_issued number = with_issued client (record { tid = tid; member = member; number = number }) work

  abbrev request : ℕ → Outstanding
  request number = record { issuer = client_server client; member = member; number = number; count = 0 }

  abbrev next : ℕ
  next = (peer_of part.engage member.node).sent + 1

  noted : (number : ℕ) → HoldsWork stamp before (as_issued number)
  noted number = by_issued stamp before work h client command waits other (record { tid = tid; member = member; number = number })

  sent_as : tm.sent_as tid member.node work.node.manager ≡ (if (peer_of part.engage member.node).sent == last_number then None else Some next)
  sent_as = ap (λ (o : Option Participant). elim o [ None ↦ None | Some p ↦ (if (peer_of p.engage member.node).sent == last_number then None else Some ((peer_of p.engage member.node).sent + 1)) ]) known

  -- to another node
  away_by : same_node member.node work.node.setting.node ≡ false → (((peer_of part.engage member.node).sent == last_number) ≡ false → HoldsWork stamp before (issue_away tid (request next) op (as_issued next))) → HoldsWork stamp before (request_command client tid member op work)
  away_by far each = by (same_node member.node work.node.setting.node) far
    where
      numbered : (b : Bool) → ((peer_of part.engage member.node).sent == last_number) ≡ b
          → HoldsWork stamp before (elim (if b then None else Some next) [ None ↦ work | Some number ↦ issue_away tid (request number) op (as_issued number) ])
      numbered true full = h
      numbered false room = each room

      by : (b : Bool) → b ≡ false
          → HoldsWork stamp before (elim (if b then next_local tid work.node else tm.sent_as tid member.node work.node.manager) [ None ↦ work | Some number ↦ (if b then issue_here tid (request number) op (as_issued number) else issue_away tid (request number) op (as_issued number)) ])
      by true e = absurd (cc e)
      by false e = subst (λ (o : Option ℕ). HoldsWork stamp before (elim o [ None ↦ work | Some number ↦ issue_away tid (request number) op (as_issued number) ])) (sym sent_as)
          (numbered ((peer_of part.engage member.node).sent == last_number) refl)

  -- ---- of the owner

  module _ (begun : KeptLabel) (labelled : label_at command.line.label work.node ≡ Some begun) (of : begun.tid ≡ Some tid) (owned : begun.owner ≡ Some client) (home : tid.home ≡ work.node.setting.node) (inc : tid.inc ≡ work.node.setting.inc) (unknown : part.outcome ≡ None) where
    its : IsOwner (book_at stamp before work) tid client
    its = h.holds.clients.labels command.line.label begun tid client labelled of owned

    unasked : (b : Bool) → part.asked ≡ b → part.asked ≡ false
    unasked false e = e
    unasked true e = absurd (not_asking work.node client command waits other tid (h.holds.clients.asking tid client part home known unknown e its))

    pub by_owners_any : HoldsWork stamp before (request_command client tid member op work)
    by_owners_any = by (same_node member.node work.node.setting.node) refl
      where
        by : (b : Bool) → same_node member.node work.node.setting.node ≡ b → HoldsWork stamp before (request_command client tid member op work)
        by true near = by_owners_request stamp before work h client command waits other tid member op (node_is member.node work.node.setting.node near) may.fits part known begun labelled of owned home inc unknown
        by false far = away_by far (λ room. by_owner_away stamp before (as_issued next) tid (request next) op part its.tx (noted next) known its.found (node_far member.node work.node.setting.node far) room (may.slot part known)
            client refl refl may.fits may.in_run its.owns home inc (unasked part.asked refl) unknown)

  -- ---- of a borrower

  module _ (small : nat_lt client.0 224 ≡ true) (open_still : (tx : TransactionValue) → find_transaction (book_at stamp before work) tid ≡ Some tx → is_commit tx.cell ≡ false)
      (last : Lent) (taken : last_taken client tid work.node.kept.now.loans ≡ Some last) (stood : last.yielded ≡ false) (valid : is_void tid last work.node ≡ false) where
    in_machine : (tx : TransactionValue) × (find_transaction (book_at stamp before work) tid ≡ Some tx)
    in_machine = stands stamp (book_at stamp before work) work.node tid part h.holds known

    clash : true ≡ false → ⊥
    clash e = cc e

    left_of : (a b : Bool) → (not a || b) ≡ false → a ≡ true
    left_of true b e = refl
    left_of false b e = absurd (cc e)

    right_of : (a b : Bool) → (a || b) ≡ false → b ≡ false
    right_of false b e = e
    right_of true b e = absurd (cc e)

    lent : list_any (λ (loan : Lent). is_loan_here client work.node.setting.inc loan && not loan.yielded) (face_of work.node tid).loans ≡ true
    lent = present_stands client tid work.node.setting.inc work.node.kept.now.loans last taken stood (left_of (last.inc == work.node.setting.inc) (is_aborted tid work.node) valid)

    unaborted : part.outcome ≢ Some outcomes.Abort
    unaborted aborted = clash (sym (ap (λ (o : Option Participant). elim o [ None ↦ false | Some p ↦ is_abort p.outcome ]) known ∙ ap is_abort aborted) ∙ right_of (not (last.inc == work.node.setting.inc)) (is_aborted tid work.node) valid)

    pub by_borrowers_any : HoldsWork stamp before (request_command client tid member op work)
    by_borrowers_any = by (same_node member.node work.node.setting.node) refl
      where
        by : (b : Bool) → same_node member.node work.node.setting.node ≡ b → HoldsWork stamp before (request_command client tid member op work)
        by true near = by_borrowers_request stamp before work h client command waits other tid member op (node_is member.node work.node.setting.node near) may.fits part known in_machine.0 in_machine.1 small lent unaborted (open_still in_machine.0 in_machine.1)
        by false far = away_by far (λ room. by_issue_away stamp before (as_issued next) tid (request next) op part in_machine.0 (noted next) known in_machine.1 (node_far member.node work.node.setting.node far) room (may.slot part known)
            (subst (λ (n : ℕ). broken (book_at stamp before work) (entry_of work.node.setting.node.0 stamp (acts.Issue tid (at_server work.node.setting.node (client_server client)) member n op)) ≡ None)
            (next_away work.node tid member.node (node_far member.node work.node.setting.node far) ∙ ap (λ (p : Participant). (peer_of p.engage member.node).sent + 1) (ap part_or_new known))
            (borrower_issues stamp (book_at stamp before work) work.node h.holds tid in_machine.0 in_machine.1 client member op small lent
            (λ aborted. unaborted (sym (ap (λ (o : Option Participant). (part_or_new o).outcome) known) ∙ aborted)) (open_still in_machine.0 in_machine.1) may.fits may.in_run)))
