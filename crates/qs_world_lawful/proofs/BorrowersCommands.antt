-- A command of a client that does not own the transaction comes and is obeyed: as a whole.
use Rattle.qs_world_lawful.proofs.Words.{◌≡◌, ℕ, ◌==◌, Bool, true, false, List, [], ◌∷◌, Option, Some, None, refl, sym, ap, subst, ◌∙◌, nat_lt, true≢false, tied_itself, nat_cmp_total, not, ◌&&◌, is_some, if◌then◌else◌, filter, list_any, lookup, is_at, same_tid, ClientNo, Member, Tid, same_tid-self, Op, Command, ScriptLine, lookup_put, TransactionValue, is_commit, BookValue, find_transaction, Participant, last_taken, KeptLabel, Lent, borrower_command, is_void, is_aborted, request_command, label_at}
use Rattle.qs_world_lawful.proofs.Words.{Work, client_cmp, is_owner, labelled, obey, with_command, command_came, OpenCommand, is_loan_in, is_loan_here, IsBehind, HoldsWork, book_at, not-true, and_parts, or_last, eqb-self, some_same}
use Rattle.qs_ipc.specs.Queue as queues
use Rattle.qs_book_journal.specs.declared.script_line.Command.TheVariants as commands
use Rattle.qs_tm.specs.Manager as tm
use Rattle.qs_tm.specs.Outcomes.{is_abort}
use Rattle.qs_node_kept.specs.Loans.{is_taken}
use Rattle.qs_world_lawful.proofs.Loans.{taken_of, last_is, later_is}
use Rattle.qs_world_lawful.proofs.Requesting.{by_borrowers_request}
use Rattle.qs_world_lawful.proofs.Silent.{by_command}
use Rattle.qs_world_lawful.proofs.Waiting.{by_borrower_command}
use Rattle.qs_base_lemmas.proofs.Tests.{not_implied}

-- ---- a present loan that stands is one of the transaction's that stand

module _ (client : ClientNo) (tid : Tid) (inc : ℕ) where
  abbrev pub stands : Lent → Bool
  stands loan = is_loan_here client inc loan && not loan.yielded

  pub present_stands : (loans : List Lent) (last : Lent) → last_taken client tid loans ≡ Some last → last.yielded ≡ false → (last.inc == inc) ≡ true
      → list_any (λ (loan : Lent). is_loan_here client inc loan && not loan.yielded) (filter (is_loan_in tid) loans) ≡ true
  present_stands [] last is free in_inc = absurd (cc is)
  present_stands (loan ∷ loans) last is free in_inc = by (is_taken client tid loan && not (is_some (last_taken client tid loans))) refl (present_stands loans last)
    where
      own : same_tid tid loan.tid ≡ true → (loan.client.0 == client.0) ≡ true → (loan.inc == inc) ≡ true → loan.yielded ≡ false → list_any stands (filter (is_loan_in tid) (loan ∷ loans)) ≡ true
      own p q r s = rw p (rw (q, r, s) refl)

      past : (a : Bool) → is_loan_in tid loan ≡ a → (b : Bool) → stands loan ≡ b → list_any stands (filter (is_loan_in tid) loans) ≡ true → list_any stands (filter (is_loan_in tid) (loan ∷ loans)) ≡ true
      past true p true q rest = rw p (rw q refl)
      past true p false q rest = rw p (rw q rest)
      past false p b q rest = rw p rest

      by : (b : Bool) → (is_taken client tid loan && not (is_some (last_taken client tid loans))) ≡ b
          → (last_taken client tid loans ≡ Some last → last.yielded ≡ false → (last.inc == inc) ≡ true → list_any stands (filter (is_loan_in tid) loans) ≡ true) → list_any stands (filter (is_loan_in tid) (loan ∷ loans)) ≡ true
      by true this more =
          let parts = and_parts (is_taken client tid loan) (not (is_some (last_taken client tid loans))) this in
          let it : loan ≡ last = last_is client tid loan last loans parts.0 (not-true _ parts.1) is in
          let of = taken_of client tid loan parts.0 in
          own (subst (λ (t : Tid). same_tid tid t ≡ true) (sym of.1) (same_tid-self tid)) of.0 (subst (λ (l : Lent). (l.inc == inc) ≡ true) (sym it) in_inc) (ap (λ (l : Lent). l.yielded) it ∙ free)
      by false this more = past (is_loan_in tid loan) refl (stands loan) refl (more (later_is client tid loan last loans this is) free in_inc)

module _ (stamp : ℕ) (before : BookValue) (work : Work) (h : HoldsWork stamp before work) (line : ScriptLine) (free : lookup (is_at (client_cmp line.client)) work.node.commands ≡ None) (behind : IsBehind (book_at stamp before work) line.client line.line)
    (begun : KeptLabel) (known : label_at line.label work.node ≡ Some begun) (tid : Tid) (of : begun.tid ≡ Some tid) (other : is_owner line.client begun.owner ≡ false) (small : nat_lt line.client.0 224 ≡ true) where
  abbrev open_work : Work
  open_work = with_command line work

  abbrev command : OpenCommand
  command = record { line = line; issued = None }

  came : HoldsWork stamp before (with_command line work)
  came = by_command stamp before work h line free behind

  waits : lookup (is_at (client_cmp line.client)) (with_command line work).node.commands ≡ Some (record { line = line; issued = None })
  waits = lookup_put client_cmp line.client (record { line = line; issued = None }) (tied_itself nat_cmp_total line.client.0) work.node.commands

  -- the command itself
  its : (c : OpenCommand) → lookup (is_at (client_cmp line.client)) open_work.node.commands ≡ Some c → c ≡ command
  its c is = some_same (sym is ∙ waits)

  its_begun : (c : OpenCommand) (b : KeptLabel) → lookup (is_at (client_cmp line.client)) open_work.node.commands ≡ Some c → label_at c.line.label open_work.node ≡ Some b → b ≡ begun
  its_begun c b is labels = some_same (sym (subst (λ (x : OpenCommand). label_at x.line.label open_work.node ≡ Some b) (its c is) labels) ∙ known)

  -- by its label it is not the owner's command
  by_label_at : (c : Command) → HoldsWork stamp before (borrower_command line.client tid c open_work)
      → HoldsWork stamp before (elim (label_at line.label work.node) [ None ↦ open_work | Some b ↦ labelled line.client b c open_work ])
  by_label_at c held = subst (λ (o : Option KeptLabel). HoldsWork stamp before (elim o [ None ↦ open_work | Some b ↦ labelled line.client b c open_work ])) (sym known)
      (as_other (is_owner line.client begun.owner) other _ (subst (λ (o : Option Tid). HoldsWork stamp before (elim o [ None ↦ open_work | Some t ↦ borrower_command line.client t c open_work ])) (sym of) held))
    where
      as_other : (b : Bool) → b ≡ false → (owners : Work) → HoldsWork stamp before (elim begun.tid [ None ↦ open_work | Some t ↦ borrower_command line.client t c open_work ])
          → HoldsWork stamp before (if b then owners else elim begun.tid [ None ↦ open_work | Some t ↦ borrower_command line.client t c open_work ])
      as_other false e owners held = held
      as_other true e owners held = absurd (cc e)

  -- what a client commands that does not own it; a request is lawful to issue where its loan stands
  module _ (requests : (member : Member) (op : Op) (last : Lent) → line.command ≡ commands.Request member op → last_taken line.client tid work.node.kept.now.loans ≡ Some last → last.yielded ≡ false → is_void tid last work.node ≡ false
      → HoldsWork stamp before (request_command line.client tid member op (with_command line work))) where
    by_its : (c : Command) → line.command ≡ c → HoldsWork stamp before (borrower_command line.client tid c open_work)
    by_its c is = by_borrower_command stamp before open_work came line.client small
        (λ o b t is_open labels of_b owned. absurd (true≢false (sym (ap (is_owner line.client) (sym (ap (λ (x : KeptLabel). x.owner) (its_begun o b is_open labels)) ∙ owned) ∙ eqb-self line.client.0) ∙ other)))
        (λ o b t member op last is_open labels of_b unissued requested taken stood valid. at_tid t (some_same (sym of ∙ (sym (ap (λ (x : KeptLabel). x.tid) (its_begun o b is_open labels)) ∙ of_b))) member op last (sym (ap (λ (x : OpenCommand). x.line.command) (its o is_open)) ∙ requested) taken stood valid)
        command waits begun known other refl tid of c is
      where
        at_tid : (t : Tid) → tid ≡ t → (member : Member) (op : Op) (last : Lent) → line.command ≡ commands.Request member op → last_taken line.client t work.node.kept.now.loans ≡ Some last → last.yielded ≡ false → is_void t last work.node ≡ false
            → HoldsWork stamp before (request_command line.client t member op open_work)
        at_tid t same = subst (λ (u : Tid). (member : Member) (op : Op) (last : Lent) → line.command ≡ commands.Request member op → last_taken line.client u work.node.kept.now.loans ≡ Some last → last.yielded ≡ false → is_void u last work.node ≡ false
            → HoldsWork stamp before (request_command line.client u member op open_work)) same requests

    pub by_borrower_came : (line.command ≡ commands.Begin → ⊥) → HoldsWork stamp before (command_came line work)
    by_borrower_came no_begin = by line.command refl
      where
        by : (c : Command) → line.command ≡ c → HoldsWork stamp before (obey line c open_work)
        by commands.Begin is = absurd (no_begin is)
        by commands.Commit is = by_label_at commands.Commit (by_its commands.Commit is)
        by commands.Abort is = by_label_at commands.Abort (by_its commands.Abort is)
        by commands.Take is = by_label_at commands.Take (by_its commands.Take is)
        by commands.Yield is = by_label_at commands.Yield (by_its commands.Yield is)
        by (commands.Request member op) is = by_label_at (commands.Request member op) (by_its (commands.Request member op) is)

  -- where its requests go to servers of its node, of what is known here and not committed
  pub by_borrower_came_here : ((member : Member) (op : Op) → line.command ≡ commands.Request member op → (member.node ≡ work.node.setting.node) × (queues.is_for member.server op ≡ true))
      → (part : Participant) → tm.part_of tid work.node.manager ≡ Some part → (tx : TransactionValue) → find_transaction (book_at stamp before work) tid ≡ Some tx → is_commit tx.cell ≡ false
      → (line.command ≡ commands.Begin → ⊥) → HoldsWork stamp before (command_came line work)
  by_borrower_came_here fits part has tx found still = by_borrower_came (λ member op last requested taken stood valid.
      by_borrowers_request stamp before open_work came line.client command waits (λ commits. differ member op (sym requested ∙ commits)) tid member op (fits member op requested).0 (fits member op requested).1 part has tx found small
      (present_stands line.client tid work.node.setting.inc work.node.kept.now.loans last taken stood (not_implied (last.inc == work.node.setting.inc) (is_aborted tid work.node) valid))
      (λ aborted. true≢false (sym (ap (λ (o : Option Participant). elim o [ None ↦ false | Some p ↦ is_abort p.outcome ]) has ∙ ap is_abort aborted) ∙ or_last (not (last.inc == work.node.setting.inc)) (is_aborted tid work.node) valid)) still)
    where
      differ : (member : Member) (op : Op) → commands.Request member op ≡ commands.Commit → ⊥
      differ member op e = cc e
