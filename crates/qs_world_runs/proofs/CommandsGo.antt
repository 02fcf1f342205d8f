-- A command comes, or one that stayed open is looked at again: a request that it issues is issued well, or its transaction is doomed; a loan is given back.
use Rattle.qs_world_runs.proofs.Words.{◌≡◌, ◌⊎◌, inl, inr, ℕ, Bool, true, false, List, Option, Some, None, refl, sym, ap, subst, ◌∙◌, if◌then◌else◌, is_at, lookup, same_tid, ClientNo, Member, Tid, Command, ScriptLine, last_taken, KeptLabel, Decided, Lent, BookValue, Answer, Op, client_server, kept_outcome, borrower_command, is_aborted, is_void, lent_command, loan_command, with_loan, yield, answer, decided_answer, open_command, owner_command, request_as, request_command, label_at, Work, client_cmp}
use Rattle.qs_world_runs.proofs.Words.{borrower_waits, command_came, is_owner, labelled, obey, owner_waits, wait_command, wait_on, waits_at, with_command, Issued, OpenCommand, IsDoomed, same_is, Field, IssuesWell, WaitsWell, same_Some}
use Rattle.qs_book_journal.specs.declared.script_line.Command.TheVariants as commands
use Rattle.qs_ops.specs.declared.answer.Answer.TheVariants as answers
use Rattle.qs_node_step.specs.Commands.{with_issued}
use Rattle.qs_node_step.specs.Requests.{next_number}
use Rattle.qs_world_runs.specs.PlacesGo.{CommandGoes, CommandsWell, Goes, MayGoYet, WaitGoes}
use Rattle.qs_world_runs.proofs.LeftSteps.{aborting_leaves, asking_leaves, begun_leaves, request_leaves, take_leaves, yield_leaves}
use Rattle.qs_world_runs.proofs.PlacedVotes.{yield_placed}
use Rattle.qs_world_runs.proofs.PlacesGo.{beside, goes_by, goes_itself, goes_left, goes_then, is_beside, issue_goes_on}
use Rattle.qs_world_runs.proofs.PlacesLeft.{answer_leaves, same_leaves}

module _ (D : Type 0) (t : Tid) (base : Field) (knows : ℕ → ℕ) (n stamp : ℕ) (before : BookValue) where
  abbrev G : Work → Work → Type 0
  G work new = Goes D t base knows n stamp before work new

  still : (work : Work) → G work work
  still work = goes_itself D t base knows n stamp before work

  said : (client : ClientNo) (what : Answer) (work : Work) → G work (answer client what work)
  said client what work = goes_left D t base knows n stamp before work (answer client what work) (answer_leaves t client what work)

  -- its own, or another's
  case : (P : Tid → Type 0) (tid : Tid) → (tid ≡ t → P t) → (same_tid tid t ≡ false → P tid) → P tid
  case P tid own other = which (same_tid tid t) refl
    where
      which : (b : Bool) → same_tid tid t ≡ b → P tid
      which true same = subst P (sym (same_is tid t same)) (own (same_is tid t same))
      which false apart = other apart

  -- ---- a request, and a loan given back

  abbrev RequestsWell : ClientNo → Member → Op → Work → Type 0
  RequestsWell client member op work = (number : ℕ) → next_number t member.node work ≡ Some number
      → D ⊎ IssuesWell t base knows n stamp before (record { issuer = client_server client; member = member; number = number; count = 0 }) op (with_issued client (record { tid = t; member = member; number = number }) work)

  own_request : (client : ClientNo) (member : Member) (op : Op) (work : Work) → RequestsWell client member op work → G work (request_command client t member op work)
  own_request client member op work well = by (next_number t member.node work) refl
    where
      by : (o : Option ℕ) → next_number t member.node work ≡ o → G work (elim o [ None ↦ work | Some number ↦ request_as client t member op number work ])
      by None none = still work
      by (Some number) some = goes_then D t base knows n stamp before work (with_issued client (record { tid = t; member = member; number = number }) work) (request_as client t member op number work)
          (goes_left D t base knows n stamp before work (with_issued client (record { tid = t; member = member; number = number }) work) (same_leaves t work (with_issued client (record { tid = t; member = member; number = number }) work) refl refl refl refl))
          (issue_goes_on D t base knows n stamp before (with_issued client (record { tid = t; member = member; number = number }) work) (record { issuer = client_server client; member = member; number = number; count = 0 }) op (well number some))

  request_goes : (client : ClientNo) (tid : Tid) (member : Member) (op : Op) (work : Work) → (tid ≡ t → RequestsWell client member op work) → G work (request_command client tid member op work)
  request_goes client tid member op work well = case (λ (k : Tid). G work (request_command client k member op work)) tid (λ same. own_request client member op work (well same))
      (λ apart. goes_left D t base knows n stamp before work (request_command client tid member op work) (request_leaves t tid apart client member op work))

  yield_goes : (client : ClientNo) (tid : Tid) (work : Work) → G work (yield client tid work)
  yield_goes client tid work = case (λ (k : Tid). G work (yield client k work)) tid
      (λ same. goes_by D t base knows n stamp before (beside t) work (yield client t work) (yield_leaves (beside t) t (is_beside t) client work) (λ is lawful placed. inr (yield_placed t base knows n stamp before is.inv work is.here is.in_run is.up is.inc client lawful placed)))
      (λ apart. goes_left D t base knows n stamp before work (yield client tid work) (yield_leaves t tid apart client work))

  -- ---- the owner

  open_goes : (client : ClientNo) (tid : Tid) (command : Command) (work : Work) → ((member : Member) (op : Op) → command ≡ commands.Request member op → tid ≡ t → RequestsWell client member op work) → G work (open_command client tid command work)
  open_goes client tid commands.Commit work well = goes_left D t base knows n stamp before work (open_command client tid commands.Commit work) (asking_leaves t tid work)
  open_goes client tid commands.Abort work well = goes_left D t base knows n stamp before work (open_command client tid commands.Abort work) (aborting_leaves t tid work)
  open_goes client tid (commands.Request member op) work well = request_goes client tid member op work (λ same. well member op refl same)
  open_goes client tid commands.Begin work well = still work
  open_goes client tid commands.Take work well = still work
  open_goes client tid commands.Yield work well = still work

  owner_goes : (client : ClientNo) (o : Option Tid) (command : Command) (work : Work) → ((member : Member) (op : Op) → o ≡ Some t → kept_outcome t work.node ≡ None → command ≡ commands.Request member op → RequestsWell client member op work) → G work (owner_command client o command work)
  owner_goes client None command work well = said client answers.NotBegun work
  owner_goes client (Some tid) command work well = by (kept_outcome tid work.node) refl
    where
      by : (o : Option Decided) → kept_outcome tid work.node ≡ o → G work (elim o [ None ↦ open_command client tid command work | Some decided ↦ answer client (decided_answer decided command) work ])
      by None none = open_goes client tid command work (λ member op is same. well member op (ap (λ (k : Tid). Some k) same) (ap (λ (k : Tid). kept_outcome k work.node) (sym same) ∙ none) is)
      by (Some decided) some = said client (decided_answer decided command) work

  -- ---- a borrower

  abbrev LendsWell : ClientNo → Tid → Command → Work → Type 0
  LendsWell client tid command work = (member : Member) (op : Op) (loan : Lent) → tid ≡ t → last_taken client tid work.node.kept.now.loans ≡ Some loan → loan.yielded ≡ false → is_void tid loan work.node ≡ false → command ≡ commands.Request member op → RequestsWell client member op work

  lent_goes : (client : ClientNo) (tid : Tid) (command : Command) (work : Work) → ((member : Member) (op : Op) → command ≡ commands.Request member op → tid ≡ t → RequestsWell client member op work) → G work (lent_command client tid command work)
  lent_goes client tid commands.Yield work well = yield_goes client tid work
  lent_goes client tid (commands.Request member op) work well = request_goes client tid member op work (λ same. well member op refl same)
  lent_goes client tid commands.Begin work well = still work
  lent_goes client tid commands.Commit work well = still work
  lent_goes client tid commands.Abort work well = still work
  lent_goes client tid commands.Take work well = still work

  loan_goes : (client : ClientNo) (tid : Tid) (command : Command) (work : Work) → LendsWell client tid command work → G work (loan_command client tid command work)
  loan_goes client tid command work well = by (last_taken client tid work.node.kept.now.loans) refl
    where
      of : (loan : Lent) → last_taken client tid work.node.kept.now.loans ≡ Some loan → (a b : Bool) → loan.yielded ≡ a → is_void tid loan work.node ≡ b
          → G work (if a then answer client answers.NotYours work else if b then answer client answers.Ended work else lent_command client tid command work)
      of loan some true b given void = said client answers.NotYours work
      of loan some false true given void = said client answers.Ended work
      of loan some false false given void = lent_goes client tid command work (λ member op is same. well member op loan same some given void is)

      by : (o : Option Lent) → last_taken client tid work.node.kept.now.loans ≡ o → G work (elim o [ None ↦ work | Some loan ↦ with_loan client tid command loan work ])
      by None none = still work
      by (Some loan) some = of loan some loan.yielded (is_void tid loan work.node) refl refl

  borrower_goes : (client : ClientNo) (tid : Tid) (command : Command) (work : Work) → LendsWell client tid command work → G work (borrower_command client tid command work)
  borrower_goes client tid commands.Take work well = goes_left D t base knows n stamp before work (borrower_command client tid commands.Take work) (take_leaves t client tid work)
  borrower_goes client tid commands.Yield work well = loan_goes client tid commands.Yield work well
  borrower_goes client tid (commands.Request member op) work well = loan_goes client tid (commands.Request member op) work well
  borrower_goes client tid commands.Begin work well = loan_goes client tid commands.Begin work well
  borrower_goes client tid commands.Commit work well = loan_goes client tid commands.Commit work well
  borrower_goes client tid commands.Abort work well = loan_goes client tid commands.Abort work well

  -- ---- a command, by its label

  lends : (client : ClientNo) (label : List ℕ) (begun : KeptLabel) (command : Command) (work : Work) → CommandsWell D t base knows n stamp before client label command work → label_at label work.node ≡ Some begun → is_owner client begun.owner ≡ false → (tid : Tid) → begun.tid ≡ Some tid → LendsWell client tid command work
  lends client label begun command work well found other tid is member op loan same some given void request number numbered =
      well begun member op number found (is ∙ ap (λ (k : Tid). Some k) same)
      (inr (other, (loan, ap (λ (k : Tid). last_taken client k work.node.kept.now.loans) (sym same) ∙ some, given, ap (λ (k : Tid). is_void k loan work.node) (sym same) ∙ void))) request numbered

  labelled_goes : (client : ClientNo) (label : List ℕ) (begun : KeptLabel) (command : Command) (work : Work) → CommandsWell D t base knows n stamp before client label command work → label_at label work.node ≡ Some begun → G work (labelled client begun command work)
  labelled_goes client label begun command work well found = by (is_owner client begun.owner) refl
    where
      lent : is_owner client begun.owner ≡ false → (o : Option Tid) → begun.tid ≡ o → G work (elim o [ None ↦ work | Some tid ↦ borrower_command client tid command work ])
      lent other None none = still work
      lent other (Some tid) is = borrower_goes client tid command work (lends client label begun command work well found other tid is)

      by : (b : Bool) → is_owner client begun.owner ≡ b → G work (if b then owner_command client begun.tid command work else elim begun.tid [ None ↦ work | Some tid ↦ borrower_command client tid command work ])
      by true owns = owner_goes client begun.tid command work (λ member op is kept request number numbered. well begun member op number found is (inl (owns, kept)) request numbered)
      by false other = lent other begun.tid refl

  at_label : (line : ScriptLine) (command : Command) (work : Work) → CommandsWell D t base knows n stamp before line.client line.label command work → G work (elim (label_at line.label work.node) [ None ↦ work | Some begun ↦ labelled line.client begun command work ])
  at_label line command work well = by (label_at line.label work.node) refl
    where
      by : (o : Option KeptLabel) → label_at line.label work.node ≡ o → G work (elim o [ None ↦ work | Some begun ↦ labelled line.client begun command work ])
      by None none = still work
      by (Some begun) found = labelled_goes line.client line.label begun command work well found

  obey_goes : (line : ScriptLine) (command : Command) (work : Work) → CommandsWell D t base knows n stamp before line.client line.label command work → G work (obey line command work)
  obey_goes line commands.Begin work well = goes_left D t base knows n stamp before work (obey line commands.Begin work) (begun_leaves t line work)
  obey_goes line commands.Commit work well = at_label line commands.Commit work well
  obey_goes line commands.Abort work well = at_label line commands.Abort work well
  obey_goes line commands.Take work well = at_label line commands.Take work well
  obey_goes line commands.Yield work well = at_label line commands.Yield work well
  obey_goes line (commands.Request member op) work well = at_label line (commands.Request member op) work well

  pub command_goes_on : (line : ScriptLine) (work : Work) → CommandsWell D t base knows n stamp before line.client line.label line.command (with_command line work) → G work (command_came line work)
  command_goes_on line work well = goes_then D t base knows n stamp before work (with_command line work) (command_came line work) (goes_left D t base knows n stamp before work (with_command line work) (same_leaves t work (with_command line work) refl refl refl refl))
      (obey_goes line line.command (with_command line work) well)

  -- ---- one that stayed open

  pub wait_goes_on : (work : Work) (client : ClientNo) → WaitsWell D t base knows n stamp before work client → G work (wait_on work client)
  wait_goes_on work client well = by (lookup (is_at (client_cmp client)) work.node.commands) refl
    where
      owner : (o : Option Tid) (command : Command) → G work (owner_waits client o command work)
      owner None command = still work
      owner (Some tid) command = told (kept_outcome tid work.node)
        where
          told : (o : Option Decided) → G work (elim o [ None ↦ work | Some decided ↦ answer client (decided_answer decided command) work ])
          told None = still work
          told (Some decided) = said client (decided_answer decided command) work

      borrower : (label : List ℕ) (begun : KeptLabel) (issued : Option Issued) (command : Command) → (issued ≡ None → CommandsWell D t base knows n stamp before client label command work) → label_at label work.node ≡ Some begun → is_owner client begun.owner ≡ false → (o : Option Tid) → begun.tid ≡ o
          → G work (borrower_waits client issued o command work)
      borrower label begun (Some issued) command w found other o is = aborted (is_aborted issued.tid work.node)
        where
          aborted : (b : Bool) → G work (if b then answer client answers.Ended work else work)
          aborted true = said client answers.Ended work
          aborted false = still work
      borrower label begun None command w found other None is = still work
      borrower label begun None command w found other (Some tid) is = borrower_goes client tid command work (lends client label begun command work (w refl) found other tid is)

      at : (command : OpenCommand) → (MayGoYet client command work → CommandsWell D t base knows n stamp before client command.line.label command.line.command work) → (o : Option KeptLabel) → label_at command.line.label work.node ≡ o → G work (elim o [ None ↦ work | Some begun ↦ waits_at client command begun work ])
      at command w None none = still work
      at command w (Some begun) found = which (is_owner client begun.owner) refl
        where
          which : (b : Bool) → is_owner client begun.owner ≡ b → G work (if b then owner_waits client begun.tid command.line.command work else borrower_waits client command.issued begun.tid command.line.command work)
          which true owns = owner begun.tid command.line.command
          which false other = borrower command.line.label begun command.issued command.line.command
              (λ none. w (record { unissued = none; lent = λ b is. subst (λ (k : KeptLabel). is_owner client k.owner ≡ false) (same_Some begun b (sym found ∙ is)) other })) found other begun.tid refl

      by : (o : Option OpenCommand) → lookup (is_at (client_cmp client)) work.node.commands ≡ o → G work (elim o [ None ↦ work | Some command ↦ wait_command client command work ])
      by None none = still work
      by (Some command) some = at command (well command some) (label_at command.line.label work.node) refl

pub command_goes : CommandGoes
command_goes w t base knows n stamp before work line well = command_goes_on (IsDoomed w) t base knows n stamp before line work well

pub wait_goes : WaitGoes
wait_goes w t base knows n stamp before work client well = wait_goes_on (IsDoomed w) t base knows n stamp before work client well
