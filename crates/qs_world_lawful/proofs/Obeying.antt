-- A command comes and is obeyed: of the client that begins a transaction, and of its owner; each as a whole.
use Rattle.qs_world_lawful.proofs.Words.{◌≡◌, ℕ, Bool, true, false, Option, Some, None, refl, sym, ap, subst, ◌∙◌, tied_itself, nat_cmp_total, if◌then◌else◌, lookup, is_at, Member, Tid, Op, Command, ScriptLine, lookup_put, BookValue, is_fresh, Participant, KeptLabel, kept_outcome, borrower_command, owner_command, request_command, label_at, Work, client_cmp, is_owner, labelled, obey, with_command, command_came, OpenCommand, HoldsFiles, IsBehind, IsAsking, HoldsWork, book_at, eqb-self, some_same}
use Rattle.qs_world_lawful.proofs.Words.{none-some}
use Rattle.qs_ipc.specs.Queue as queues
use Rattle.qs_ops.specs.declared.answer.Answer.TheVariants as answers
use Rattle.qs_book_journal.specs.declared.script_line.Command.TheVariants as commands
use Rattle.qs_tm.specs.Manager as tm
use Rattle.qs_node_step.specs.Bringing.{answer}
use Rattle.qs_world_lawful.proofs.Answers.{by_answer}
use Rattle.qs_world_lawful.proofs.Commanding.{by_begin_command}
use Rattle.qs_world_lawful.proofs.OwnersAnswers.{by_owner_command}
use Rattle.qs_world_lawful.proofs.OwnersCommands.{by_commit_command, by_abort_command}
use Rattle.qs_world_lawful.proofs.Requesting.{by_owners_request}
use Rattle.qs_world_lawful.proofs.Silent.{by_command}

module _ (stamp : ℕ) (before : BookValue) (work : Work) (h : HoldsWork stamp before work) (line : ScriptLine) (free : lookup (is_at (client_cmp line.client)) work.node.commands ≡ None) (behind : IsBehind (book_at stamp before work) line.client line.line) where
  abbrev open_work : Work
  open_work = with_command line work

  abbrev command : OpenCommand
  command = record { line = line; issued = None }

  pub came : HoldsWork stamp before (with_command line work)
  came = by_command stamp before work h line free behind

  pub waits : lookup (is_at (client_cmp line.client)) (with_command line work).node.commands ≡ Some (record { line = line; issued = None })
  waits = lookup_put client_cmp line.client (record { line = line; issued = None }) (tied_itself nat_cmp_total line.client.0) work.node.commands

  -- the client begins a transaction under a fresh label
  pub by_begin_came : line.command ≡ commands.Begin → is_fresh (book_at stamp before work).labels line.label ≡ true → HoldsWork stamp before (command_came line work)
  by_begin_came begins fresh = subst (λ (c : Command). HoldsWork stamp before (obey line c open_work)) (sym begins) (by_begin_command stamp before open_work line came begins waits fresh)

  -- ---- a label with no transaction that is known here

  -- each command but that to begin is obeyed by its label
  by_label : (line.command ≡ commands.Begin → ⊥) → ((c : Command) → line.command ≡ c → HoldsWork stamp before (elim (label_at line.label work.node) [ None ↦ open_work | Some b ↦ labelled line.client b c open_work ])) → HoldsWork stamp before (command_came line work)
  by_label no_begin each = by line.command refl
    where
      by : (c : Command) → line.command ≡ c → HoldsWork stamp before (obey line c open_work)
      by commands.Begin is = absurd (no_begin is)
      by commands.Commit is = each commands.Commit is
      by commands.Abort is = each commands.Abort is
      by commands.Take is = each commands.Take is
      by commands.Yield is = each commands.Yield is
      by (commands.Request member op) is = each (commands.Request member op) is

  -- a label that the node has not met: the command waits
  pub by_unmet_came : (line.command ≡ commands.Begin → ⊥) → label_at line.label work.node ≡ None → HoldsWork stamp before (command_came line work)
  by_unmet_came no_begin unmet = by_label no_begin (λ c is. subst (λ (o : Option KeptLabel). HoldsWork stamp before (elim o [ None ↦ open_work | Some b ↦ labelled line.client b c open_work ])) (sym unmet) came)

  -- one whose begin was refused: its client is told so, another's command waits
  pub by_refused_came : (line.command ≡ commands.Begin → ⊥) → (begun : KeptLabel) → label_at line.label work.node ≡ Some begun → begun.tid ≡ None → HoldsWork stamp before (command_came line work)
  by_refused_came no_begin begun known refused = by_label no_begin (λ c is. subst (λ (o : Option KeptLabel). HoldsWork stamp before (elim o [ None ↦ open_work | Some b ↦ labelled line.client b c open_work ])) (sym known)
      (subst (λ (o : Option Tid). HoldsWork stamp before (if is_owner line.client begun.owner then owner_command line.client o c open_work else elim o [ None ↦ open_work | Some t ↦ borrower_command line.client t c open_work ])) (sym refused) (by (is_owner line.client begun.owner))))
    where
      idle : (t : Tid) → IsAsking open_work.node t line.client → ⊥
      idle t a =
          let same : command ≡ a.command = some_same (sym waits ∙ a.waits) in
          let label : label_at line.label open_work.node ≡ Some a.begun = subst (λ (x : OpenCommand). label_at x.line.label open_work.node ≡ Some a.begun) (sym same) a.labelled in
          let begun_same : begun ≡ a.begun = some_same (sym known ∙ label) in
          none-some t (sym refused ∙ (ap (λ (b : KeptLabel). b.tid) begun_same ∙ a.of))

      by : (b : Bool) → HoldsWork stamp before (if b then answer line.client answers.NotBegun open_work else open_work)
      by true = by_answer stamp before open_work line.client answers.NotBegun came (λ owner there. refl) idle
      by false = came

  -- ---- the owner: what runs still began here since the node started

  module _ (begun : KeptLabel) (known : label_at line.label work.node ≡ Some begun) (tid : Tid) (of : begun.tid ≡ Some tid) (owned : begun.owner ≡ Some line.client)
      (now : kept_outcome tid work.node ≡ None → (tid.home ≡ work.node.setting.node) × (tid.inc ≡ work.node.setting.inc)) (inc : (part : Participant) → tm.part_of tid work.node.manager ≡ Some part → part.outcome ≡ None → tid.inc ≡ work.node.setting.inc) where
    owns : is_owner line.client begun.owner ≡ true
    owns = ap (is_owner line.client) owned ∙ eqb-self line.client.0

    -- by its label it is the owner's command
    by_label_at : (c : Command) → HoldsWork stamp before (owner_command line.client (Some tid) c open_work)
        → HoldsWork stamp before (elim (label_at line.label work.node) [ None ↦ open_work | Some b ↦ labelled line.client b c open_work ])
    by_label_at c held = subst (λ (o : Option KeptLabel). HoldsWork stamp before (elim o [ None ↦ open_work | Some b ↦ labelled line.client b c open_work ])) (sym known)
        (as_owner (is_owner line.client begun.owner) owns _ (subst (λ (o : Option Tid). HoldsWork stamp before (owner_command line.client o c open_work)) (sym of) held))
      where
        as_owner : (b : Bool) → b ≡ true → (other : Work) → HoldsWork stamp before (owner_command line.client begun.tid c open_work) → HoldsWork stamp before (if b then owner_command line.client begun.tid c open_work else other)
        as_owner true e other its = its
        as_owner false e other its = absurd (cc e)

    pub by_commit_came : line.command ≡ commands.Commit → HoldsWork stamp before (command_came line work)
    by_commit_came commits = subst (λ (c : Command). HoldsWork stamp before (obey line c open_work)) (sym commits)
        (by_label_at commands.Commit (by_owner_command stamp before open_work came line.client command waits begun known tid of owned inc commands.Commit
        (λ kept. by_commit_command stamp before open_work came line.client command waits begun known tid of owned (now kept).0 (now kept).1 commits refl)))

    pub by_abort_came : line.command ≡ commands.Abort → HoldsFiles work.node.servers → HoldsWork stamp before (command_came line work)
    by_abort_came aborts files = subst (λ (c : Command). HoldsWork stamp before (obey line c open_work)) (sym aborts)
        (by_label_at commands.Abort (by_owner_command stamp before open_work came line.client command waits begun known tid of owned inc commands.Abort
        (λ kept. by_abort_command stamp before open_work came line.client command waits begun known tid of owned (now kept).0 (now kept).1 aborts files)))

    -- a request is issued where no outcome is kept
    pub by_any_request_came : (member : Member) (op : Op) → line.command ≡ commands.Request member op → (kept_outcome tid work.node ≡ None → HoldsWork stamp before (request_command line.client tid member op open_work)) → HoldsWork stamp before (command_came line work)
    by_any_request_came member op requests issues = subst (λ (c : Command). HoldsWork stamp before (obey line c open_work)) (sym requests)
        (by_label_at (commands.Request member op) (by_owner_command stamp before open_work came line.client command waits begun known tid of owned inc (commands.Request member op) issues))

    -- what is a borrower's to command leaves all
    pub by_take_came : line.command ≡ commands.Take → HoldsWork stamp before (command_came line work)
    by_take_came takes = subst (λ (c : Command). HoldsWork stamp before (obey line c open_work)) (sym takes)
        (by_label_at commands.Take (by_owner_command stamp before open_work came line.client command waits begun known tid of owned inc commands.Take (λ kept. came)))

    pub by_yield_came : line.command ≡ commands.Yield → HoldsWork stamp before (command_came line work)
    by_yield_came yields = subst (λ (c : Command). HoldsWork stamp before (obey line c open_work)) (sym yields)
        (by_label_at commands.Yield (by_owner_command stamp before open_work came line.client command waits begun known tid of owned inc commands.Yield (λ kept. came)))

    -- where no outcome is kept, the transaction runs here
    pub by_request_came : (member : Member) (op : Op) → line.command ≡ commands.Request member op → member.node ≡ work.node.setting.node → queues.is_for member.server op ≡ true
        → (kept_outcome tid work.node ≡ None → (part : Participant) × (tm.part_of tid work.node.manager ≡ Some part) × (part.outcome ≡ None)) → HoldsWork stamp before (command_came line work)
    by_request_came member op requests near fits runs = subst (λ (c : Command). HoldsWork stamp before (obey line c open_work)) (sym requests)
        (by_label_at (commands.Request member op) (by_owner_command stamp before open_work came line.client command waits begun known tid of owned inc (commands.Request member op)
        (λ kept. let its = runs kept in by_owners_request stamp before open_work came line.client command waits (λ is. differ (sym requests ∙ is)) tid member op near fits its.0 its.1 begun known of owned (now kept).0 (now kept).1 its.2)))
      where
        differ : commands.Request member op ≡ commands.Commit → ⊥
        differ e = cc e
