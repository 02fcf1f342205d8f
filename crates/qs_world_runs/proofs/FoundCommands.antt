-- What a command of a client issues, as it comes or once it stayed open, finds what it needs, or went out late and is awaited.
use Rattle.qs_world_runs.proofs.Words.{◌≡◌, ◌⊎◌, inl, inr, ℕ, ◌<◌, ◌≤◌, nat_lt, Bool, true, false, List, Option, Some, None, refl, sym, ap, subst, ◌∙◌, if◌then◌else◌, is_at, lookup, ClientNo, Member, Tid, next_sent, same_node, Command, ScriptLine, last_taken, KeptLabel, Decided, Lent, Op, client_server, kept_outcome, borrower_command, is_void, lent_command, with_loan, answer, decided_answer, open_command, owner_command, request_as, request_command, issue_as, next_local, label_at, Work, client_cmp}
use Rattle.qs_world_runs.proofs.Words.{here, borrower_waits, command_came, is_owner, labelled, obey, owner_waits, wait_command, wait_on, waits_at, with_command, Issued, OpenCommand, Outstanding, Participant, is_undecided, is_sound, IsRunning, Field, IssueFinds, WaitFinds, ltb-true, same_Some}
use Rattle.qs_ipc.specs.Queue.{is_for}
use Rattle.qs_book_journal.specs.declared.script_line.Command.TheVariants as commands
use Rattle.qs_ops.specs.declared.answer.Answer.TheVariants as answers
use Rattle.qs_node_step.specs.Commands.{with_issued}
use Rattle.qs_node_step.specs.Requests.{next_number}
use Rattle.qs_node_step.specs.State.{part_of}
use Rattle.qs_tm.specs.Manager as tm
use Rattle.qs_world_refine.proofs.HomeAborts.{none_is}
use Rattle.qs_world_refine.proofs.SoundCommands.{loan_open}
use Rattle.qs_world_refine.proofs.SoundHolds.{is_held, is_open, told_part}
use Rattle.qs_world_refine.proofs.SoundParts.{and_both}
use Rattle.qs_world_lawful.specs.NodeFacts.{AreLabels}
use Rattle.qs_world_runs.specs.PlacesFound.{CommandFinds}
use Rattle.qs_world_runs.specs.PlacesGo.{IsObeyed}
use Rattle.qs_world_runs.proofs.FoundIssued.{Supplies, issued_found}
use Rattle.qs_world_runs.proofs.Onward.{onward_itself}

-- ---- what a command that is obeyed comes to

module _ (t : Tid) (client : ClientNo) (member : Member) (op : Op) (number : ℕ) (work : Work) (numbered : next_number t member.node work ≡ Some number) where
  requests : request_command client t member op work ≡ request_as client t member op number work
  requests = ap (λ (o : Option ℕ). elim o [ None ↦ work | Some k ↦ request_as client t member op k work ]) numbered

  pub owner_requests : kept_outcome t work.node ≡ None → owner_command client (Some t) (commands.Request member op) work ≡ request_as client t member op number work
  owner_requests kept = ap (λ (o : Option Decided). elim o [ None ↦ open_command client t (commands.Request member op) work | Some decided ↦ answer client (decided_answer decided (commands.Request member op)) work ]) kept ∙ requests

  pub borrower_requests : (loan : Lent) → last_taken client t work.node.kept.now.loans ≡ Some loan → loan.yielded ≡ false → is_void t loan work.node ≡ false → borrower_command client t (commands.Request member op) work ≡ request_as client t member op number work
  borrower_requests loan found given valid =
      ap (λ (o : Option Lent). elim o [ None ↦ work | Some l ↦ with_loan client t (commands.Request member op) l work ]) found
      ∙ (ap (λ (b : Bool). if b then answer client answers.NotYours work else if is_void t loan work.node then answer client answers.Ended work else lent_command client t (commands.Request member op) work) given
      ∙ (ap (λ (b : Bool). if b then answer client answers.Ended work else lent_command client t (commands.Request member op) work) valid ∙ requests))

pub obeyed_requests : (t : Tid) (client : ClientNo) (begun : KeptLabel) (command : Command) (member : Member) (op : Op) (number : ℕ) (work : Work) → begun.tid ≡ Some t → IsObeyed t client begun work → command ≡ commands.Request member op → next_number t member.node work ≡ Some number
    → labelled client begun command work ≡ request_as client t member op number work
obeyed_requests t client begun command member op number work its obeyed is numbered = ap (λ (c : Command). labelled client begun c work) is ∙ by obeyed
  where
    at : (b : Bool) → is_owner client begun.owner ≡ b → labelled client begun (commands.Request member op) work ≡ (if b then owner_command client begun.tid (commands.Request member op) work else elim begun.tid [ None ↦ work | Some tid ↦ borrower_command client tid (commands.Request member op) work ])
    at b owns = ap (λ (c : Bool). if c then owner_command client begun.tid (commands.Request member op) work else elim begun.tid [ None ↦ work | Some tid ↦ borrower_command client tid (commands.Request member op) work ]) owns

    by : IsObeyed t client begun work → labelled client begun (commands.Request member op) work ≡ request_as client t member op number work
    by (inl owner) = at true owner.0 ∙ (ap (λ (o : Option Tid). owner_command client o (commands.Request member op) work) its ∙ owner_requests t client member op number work numbered owner.1)
    by (inr borrower) = at false borrower.0 ∙ (ap (λ (o : Option Tid). elim o [ None ↦ work | Some tid ↦ borrower_command client tid (commands.Request member op) work ]) its
        ∙ borrower_requests t client member op number work numbered borrower.1.0 borrower.1.1 borrower.1.2 borrower.1.3)

-- its labels are those of a node that keeps what its clients own
abbrev pub HasLabels : Work → Type 0
HasLabels work = AreLabels work.node.setting work.node.manager work.node.kept.now

-- the transaction is not decided then
pub obeyed_open : (t : Tid) (client : ClientNo) (begun : KeptLabel) (label : List ℕ) (work : Work) (part : Participant) → is_sound work.node ≡ true → HasLabels work → label_at label work.node ≡ Some begun → begun.tid ≡ Some t → IsObeyed t client begun work
    → part_of t work ≡ Some part → part.outcome ≡ None
obeyed_open t client begun label work part sound labels found its (inr borrower) known =
    none_is part (and_both (is_undecided part) (is_held part) (told_part is_open t work.node.manager part known (loan_open client t borrower.1.0 work borrower.1.1 borrower.1.2 borrower.1.3 sound))).0
obeyed_open t client begun label work part sound labels found its (inl owner) known = by begun.owner refl owner.0
  where
    of : IsRunning work.node.manager t → part.outcome ≡ None
    of runs = subst (λ (p : Participant). p.outcome ≡ None) (same_Some runs.part part (sym runs.known ∙ known)) runs.undecided

    by : (o : Option ClientNo) → begun.owner ≡ o → is_owner client o ≡ true → part.outcome ≡ None
    by None none owns = absurd (cc owns)
    by (Some c) some owns = of (labels.runs label begun t c found its some owner.1)

module _ (D : Type 0) (t : Tid) (base : Field) (knows : ℕ → ℕ) (small : base.size ≤ 16) where
  -- ---- a command, at its label

  module _ (client : ClientNo) (label : List ℕ) (command : Command) (work new : Work) (sound : is_sound work.node ≡ true) (labels : HasLabels work) (size : work.node.setting.nodes ≡ base.size)
      (fits : (member : Member) (op : Op) → command ≡ commands.Request member op → (is_for member.server op ≡ true) × (nat_lt member.node.0 work.node.setting.nodes ≡ true))
      (comes_to : (begun : KeptLabel) → label_at label work.node ≡ Some begun → begun.tid ≡ Some t → labelled client begun command work ≡ new) (supplies : Supplies D t base knows work new) where
    pub command_found : CommandFinds D t base knows client label command work
    command_found begun member op number found its obeyed is numbered = by (part_of t work) refl (same_node member.node (here work)) refl
      where
        marked : Work
        marked = with_issued client (record { tid = t; member = member; number = number }) work

        request : Outstanding
        request = record { issuer = client_server client; member = member; number = number; count = 0 }

        fit : (is_for member.server op ≡ true) × (nat_lt member.node.0 work.node.setting.nodes ≡ true)
        fit = fits member op is

        then_new : issue_as t request op marked ≡ new
        then_new = sym (obeyed_requests t client begun command member op number work its obeyed is numbered) ∙ comes_to begun found its

        known_then : (part : Participant) → part_of t work ≡ Some part → D ⊎ IssueFinds base knows request op marked
        known_then part known = issued_found D t base knows work marked part part request op known (obeyed_open t client begun label work part sound labels found its obeyed known) (onward_itself part) known refl sound size small fit.0 fit.1 numbered
            (subst (λ (k : Work). Supplies D t base knows work k) (sym then_new) supplies)

        -- a request to a server of its own node needs nothing more
        own : same_node member.node (here work) ≡ true → D ⊎ IssueFinds base knows request op marked
        own at = inr (record { fits = fit.0; in_run = subst (λ (k : ℕ). member.node.0 < k) size (ltb-true member.node.0 work.node.setting.nodes fit.1); reaches = λ other. absurd (cc (at, other)) })

        never : same_node member.node (here work) ≡ false → part_of t work ≡ None → ⊥
        never other none = clash (sym (ap (λ (o : Option Participant). elim o [ None ↦ None | Some part ↦ next_sent member.node part.engage ]) none)
            ∙ (sym (ap (λ (b : Bool). if b then next_local t work.node else tm.sent_as t member.node work.node.manager) other) ∙ numbered))
          where
            clash : None ≡ Some number → ⊥
            clash e = cc e

        by : (o : Option Participant) → part_of t work ≡ o → (b : Bool) → same_node member.node (here work) ≡ b → D ⊎ IssueFinds base knows request op marked
        by (Some part) known b at = known_then part known
        by None none true at = own at
        by None none false other = absurd (never other none)

  -- ---- one that stayed open

  module _ (work : Work) (client : ClientNo) (sound : is_sound work.node ≡ true) (labels : HasLabels work) (size : work.node.setting.nodes ≡ base.size)
      (fits : (command : OpenCommand) → lookup (is_at (client_cmp client)) work.node.commands ≡ Some command → (member : Member) (op : Op) → command.line.command ≡ commands.Request member op → (is_for member.server op ≡ true) × (nat_lt member.node.0 work.node.setting.nodes ≡ true))
      (supplies : Supplies D t base knows work (wait_on work client)) where
    pub wait_found : WaitFinds D t base knows work client
    wait_found command here_so yet = command_found client command.line.label command.line.command work (wait_on work client) sound labels size (fits command here_so) comes_to supplies
      where
        comes_to : (begun : KeptLabel) → label_at command.line.label work.node ≡ Some begun → begun.tid ≡ Some t → labelled client begun command.line.command work ≡ wait_on work client
        comes_to begun found its =
            at_label ∙ (borrows ∙ (sym waits ∙ (sym opened ∙ sym there)))
          where
            -- both are what a borrower commands
            at_label : labelled client begun command.line.command work ≡ (elim begun.tid [ None ↦ work | Some tid ↦ borrower_command client tid command.line.command work ])
            at_label = ap (λ (b : Bool). if b then owner_command client begun.tid command.line.command work else elim begun.tid [ None ↦ work | Some tid ↦ borrower_command client tid command.line.command work ]) (yet.lent begun found)

            borrows : (elim begun.tid [ None ↦ work | Some tid ↦ borrower_command client tid command.line.command work ]) ≡ borrower_command client t command.line.command work
            borrows = ap (λ (o : Option Tid). elim o [ None ↦ work | Some tid ↦ borrower_command client tid command.line.command work ]) its

            waits : waits_at client command begun work ≡ borrower_command client t command.line.command work
            waits = ap (λ (b : Bool). if b then owner_waits client begun.tid command.line.command work else borrower_waits client command.issued begun.tid command.line.command work) (yet.lent begun found)
                ∙ (ap (λ (o : Option Issued). borrower_waits client o begun.tid command.line.command work) yet.unissued ∙ ap (λ (o : Option Tid). borrower_waits client None o command.line.command work) its)

            opened : wait_command client command work ≡ waits_at client command begun work
            opened = ap (λ (o : Option KeptLabel). elim o [ None ↦ work | Some b ↦ waits_at client command b work ]) found

            there : wait_on work client ≡ wait_command client command work
            there = ap (λ (o : Option OpenCommand). elim o [ None ↦ work | Some c ↦ wait_command client c work ]) here_so

  -- ---- one that comes

  module _ (line : ScriptLine) (first : Work) (sound : is_sound first.node ≡ true) (labels : HasLabels first) (size : first.node.setting.nodes ≡ base.size)
      (fits : (member : Member) (op : Op) → line.command ≡ commands.Request member op → (is_for member.server op ≡ true) × (nat_lt member.node.0 first.node.setting.nodes ≡ true))
      (supplies : Supplies D t base knows first (command_came line first)) where
    pub come_found : CommandFinds D t base knows line.client line.label line.command (with_command line first)
    come_found begun member op number found its obeyed is numbered =
        command_found line.client line.label line.command (with_command line first) (command_came line first) sound labels size fits comes_to opened begun member op number found its obeyed is numbered
      where
        opened : Supplies D t base knows (with_command line first) (command_came line first)
        opened m late unreached = supplies m (record { number = late.number; old = late.old; was = late.was; undecided = late.undecided; later = late.later; part = late.part; now = late.now; awaits = late.awaits; uncommitted = late.uncommitted; in_run = late.in_run; other = late.other }) unreached

        comes_to : (b : KeptLabel) → label_at line.label (with_command line first).node ≡ Some b → b.tid ≡ Some t → labelled line.client b line.command (with_command line first) ≡ command_came line first
        comes_to b there of = sym (ap (λ (c : Command). obey line c (with_command line first)) is ∙ (ap (λ (o : Option KeptLabel). elim o [ None ↦ with_command line first | Some k ↦ labelled line.client k (commands.Request member op) (with_command line first) ]) there
            ∙ sym (ap (λ (c : Command). labelled line.client b c (with_command line first)) is)))
