-- Whatever holds from the beginning to the end of each thing that a step does to what its node keeps of transactions, and of each record that it makes, holds of its rules.
use Rattle.std.proofs.Common.{◌≡◌, Bool, true, false, List, [], ◌∷◌, ◌++◌, Option, Some, None, refl, sym, ap, ◌∙◌, fold, if◌then◌else◌}
use Rattle.std.specs.Map.{lookup, remove_entry}
use Rattle.std.specs.BTreeMap.{is_at}
use Rattle.qs_base.specs.declared.identifiers.ClientNo.{ClientNo}
use Rattle.qs_base.specs.declared.identifiers.NodeNo.{NodeNo}
use Rattle.qs_base.specs.declared.identifiers.ServerNo.{ServerNo}
use Rattle.qs_base.specs.declared.identifiers.Tid.{Tid}
use Rattle.qs_book_journal.specs.declared.entry.Act.{Act}
use Rattle.qs_book_journal.specs.declared.entry.Act.TheVariants as acts
use Rattle.qs_ops.specs.declared.answer.Answer.{Answer}
use Rattle.qs_packet.specs.declared.message.Message.{Message}
use Rattle.qs_record.specs.declared.record.Record.{Record}
use Rattle.qs_record.specs.declared.record.Record.TheVariants as made
use Rattle.qs_node_step.specs.Asking.{where_undecided}
use Rattle.qs_node_step.specs.Bringing.{answer, enter, is_other, log, send, send_each, send_next}
use Rattle.qs_node_step.specs.State.{Work, client_cmp, part_of, with_manager}
use Rattle.qs_node_step.specs.Voting.{vote_with}
use Rattle.qs_node_step.specs.declared.state.OpenCommand.{OpenCommand}
use Rattle.qs_tm.specs.Manager as tm
use Rattle.qs_tm.specs.Outcomes.{aborted_participant}
use Rattle.qs_tm.specs.Participant.{is_undecided, new_participant}
use Rattle.qs_tm.specs.declared.participant.Participant.{Participant}
use Rattle.std.specs.Prelude.{◌||◌, is_some, is_none}
use Rattle.qs_base.specs.declared.identifiers.Outcome.{Outcome}
use Rattle.std.specs.Option.{option_map}
use Rattle.qs_base.specs.declared.identifiers.Outcome.TheVariants as outcomes
use Rattle.qs_ops.specs.Server.{vote_of}
use Rattle.qs_node_servers.specs.Servers.{server_at}
use Rattle.qs_node_step.specs.Bringing.{log_if}
use Rattle.qs_node_step.specs.Voting.{vote_frame}
use Rattle.qs_tm.specs.Outcomes as outcome_rules
use Rattle.qs_tm.specs.declared.manager.Manager.{Manager}
use Rattle.qs_tm.specs.declared.participant.InLog.{InLog}
use Rattle.qs_node_room.proofs.Roomy.{Steady}

-- a record that ends the transaction, of which the log has something
pub data IsEndOf : Tid → Record → Type 0 where
  ByCommit : (tid : Tid) → IsEndOf tid (made.Commit tid [])
  ByAborted : (tid : Tid) → IsEndOf tid (made.Aborted tid)
  ByEnd : (tid : Tid) → IsEndOf tid (made.End tid)

abbrev pub log_of : Tid → Work → Option InLog
log_of tid work = option_map (λ (part : Participant). part.log) (part_of tid work)

abbrev pub no_log : InLog
no_log = record { unended = false; prepared = false; listed = false }

pub record Goes (R : Work → Work → Type 0) : Type 0 where
  pub self : (work : Work) → R work work
  pub both : (work mid new : Work) → R work mid → R mid new → R work new
  pub still : (work new : Work) → new.out.records ≡ work.out.records → new.node.manager.known ≡ work.node.manager.known → new.room ≡ work.room → new.node.setting ≡ work.node.setting → new.node.manager.keep ≡ work.node.manager.keep → new.node.manager.extra ≡ work.node.manager.extra → R work new
  pub part : (tid : Tid) (f : Participant → Participant) (work : Work) → ((part : Participant) → Steady part (f part)) → R work (with_manager (tm.with_part tid f) work)
  pub put : (tid : Tid) (part : Participant) (work : Work) → part_of tid work ≡ None → part.log ≡ no_log → R work (with_manager (tm.put_part tid part) work)
  pub ends : (tid : Tid) (rec : Record) (work : Work) (l : InLog) → IsEndOf tid rec → log_of tid work ≡ Some l → (l.prepared || l.listed) ≡ true → R work (log rec work)
  pub commit : (tid : Tid) (part : Participant) (work : Work) → part_of tid work ≡ Some part → part.outcome ≡ None → tm.need_past tid work.room work.node.manager ≡ None → R work (log_if (outcome_rules.record_of tid outcomes.Commit part) (with_manager (tm.decide tid outcomes.Commit) work))
  pub vote : (tid : Tid) (server : ServerNo) (work : Work) → is_some (part_of tid work) ≡ true → R work (vote_with tid server (vote_of (server_at work.node.servers server) tid work.room (vote_frame work)) work)
  pub forget : (tid : Tid) (part : Participant) (work : Work) → part_of tid work ≡ Some part → part.outcome ≡ None → part.involved ≡ false → R work (with_manager (tm.forget tid) work)
  pub drop : (tid : Tid) (work : Work) → log_of tid work ≡ Some no_log → R work (with_manager (tm.forget tid) work)

-- what is not known is found nowhere
unknown : (tid : Tid) (manager : Manager) → tm.knows tid manager ≡ false → tm.part_of tid manager ≡ None
unknown tid manager is = by (tm.part_of tid manager) refl
  where
    by : (o : Option Participant) → tm.part_of tid manager ≡ o → o ≡ None
    by None at = refl
    by (Some part) at = absurd (cc (sym (ap is_some at) ∙ is))

module _ (R : Work → Work → Type 0) (g : Goes R) where
  pub goes_if : (b : Bool) (work x y : Work) → R work x → R work y → R work (if b then x else y)
  goes_if true work x y p q = p
  goes_if false work x y p q = q

  pub goes_elim : {A : Type 0} (o : Option A) (work new : Work) (f : A → Work) → R work new → ((a : A) → R work (f a)) → R work (elim o [ None ↦ new | Some a ↦ f a ])
  goes_elim None work new f p q = p
  goes_elim (Some a) work new f p q = q a

  pub goes_fold : {A : Type 0} (f : Work → A → Work) → ((work : Work) (a : A) → R work (f work a)) → (xs : List A) (work : Work) → R work (fold f work xs)
  goes_fold f each [] work = g.self work
  goes_fold f each (x ∷ xs) work = g.both work (f work x) (fold f (f work x) xs) (each work x) (goes_fold f each xs (f work x))

  pub goes_where : (tid : Tid) (rule : Participant → Work → Work) (work : Work) → ((part : Participant) → part_of tid work ≡ Some part → part.outcome ≡ None → R work (rule part work)) → R work (where_undecided tid rule work)
  goes_where tid rule work each = by (part_of tid work) refl
    where
      by : (o : Option Participant) → part_of tid work ≡ o → R work (elim o [ None ↦ work | Some part ↦ if is_undecided part then rule part work else work ])
      by None none = g.self work
      by (Some part) known = at (is_undecided part) refl
        where
          none : (o : Option Outcome) → is_none o ≡ true → o ≡ None
          none None is = refl
          none (Some outcome) is = absurd (cc is)

          at : (b : Bool) → is_undecided part ≡ b → R work (if b then rule part work else work)
          at true is = each part known (none part.outcome is)
          at false is = g.self work

  -- ---- what all rules are made of

  pub goes_enter : (act : Act) (work : Work) → R work (enter act work)
  goes_enter act work = g.still work (enter act work) refl refl refl refl refl refl

  pub goes_send : (to : NodeNo) (message : Message) (work : Work) → R work (send to message work)
  goes_send to message work = goes_if (is_other work.node.setting to) work _ work (g.still work _ refl refl refl refl refl refl) (g.self work)

  pub goes_sends : (nodes : List NodeNo) (message : Message) (work : Work) → R work (send_each nodes message work)
  goes_sends nodes message work = goes_fold (send_next message) (λ w to. goes_send to message w) nodes work

  pub goes_answer : (client : ClientNo) (said : Answer) (work : Work) → R work (answer client said work)
  goes_answer client said work = by (lookup (is_at (client_cmp client)) work.node.commands)
    where
      answered : OpenCommand → Work
      answered command = record work {
        node = record work.node { commands = remove_entry (is_at (client_cmp client)) work.node.commands };
        out = record work.out {
          answers = work.out.answers ++ record { client = client; answer = record { line = command.line.line; answer = said } } ∷ [];
          entries = work.out.entries ++ acts.Answer client command.line.line said ∷ [];
        };
      }

      by : (o : Option OpenCommand) → R work (elim o [ None ↦ work | Some command ↦ answered command ])
      by None = g.self work
      by (Some command) = g.still work (answered command) refl refl refl refl refl refl

  -- ---- one more transaction is known

  goes_known : (tid : Tid) (part : Participant) → part.log ≡ no_log → (work : Work) → R work (with_manager (λ manager. if tm.knows tid manager then manager else tm.put_part tid part manager) work)
  goes_known tid part sized work = by (tm.knows tid work.node.manager) refl
    where
      by : (b : Bool) → tm.knows tid work.node.manager ≡ b → R work (with_manager (λ manager. if b then manager else tm.put_part tid part manager) work)
      by true is = g.self work
      by false is = g.put tid part work (unknown tid work.node.manager is) sized

  pub goes_meet : (tid : Tid) (work : Work) → R work (with_manager (tm.meet tid) work)
  goes_meet tid work = goes_known tid (new_participant (tm.is_home tid work.node.manager)) refl work

  pub goes_keep : (tid : Tid) (work : Work) → R work (with_manager (tm.keep_abort tid) work)
  goes_keep tid work = goes_known tid (aborted_participant (tm.is_home tid work.node.manager)) refl work
