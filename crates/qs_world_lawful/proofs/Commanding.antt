-- A client commands that a transaction begins: the rule as a whole, with its answer.
use Rattle.qs_world_lawful.proofs.Words.{◌≡◌, ℕ, true, Option, Some, None, refl, sym, ap, ◌∙◌, lookup, is_at, ClientNo, Tid, ScriptLine, BookValue, is_fresh, BeginFault, begin_or_refuse, begin_as, refuse_begin, put_label, Work, client_cmp, OpenCommand, IsAsking, HoldsWork, book_at, none-some, some_same}
use Rattle.qs_node_step.specs.Commands.{begin_command}
use Rattle.qs_ops.specs.declared.answer.Answer.TheVariants as answers
use Rattle.qs_book_journal.specs.declared.script_line.Command.TheVariants as commands
use Rattle.qs_tm.specs.Manager as tm
use Rattle.qs_tm.specs.declared.manager.BeginFault.TheVariants as faults
use Rattle.qs_node_step.specs.State.{NodeValue}
use Rattle.qs_world_lawful.proofs.Answers.{by_answer}
use Rattle.qs_world_lawful.proofs.Beginning.{begun_work, by_begin}
use Rattle.qs_world_lawful.proofs.Silent.{by_label}

-- who commands something else does not wait for a commit
pub not_asking : (node : NodeValue) (client : ClientNo) (command : OpenCommand) → lookup (is_at (client_cmp client)) node.commands ≡ Some command → (command.line.command ≡ commands.Commit → ⊥) → (t : Tid) → IsAsking node t client → ⊥
not_asking node client command waits other t a = other (ap (λ (c : OpenCommand). c.line.command) (some_same (sym waits ∙ a.waits)) ∙ a.commits)

module _ (stamp : ℕ) (before : BookValue) (work : Work) (line : ScriptLine) (h : HoldsWork stamp before work) (begins : line.command ≡ commands.Begin)
    (waits : lookup (is_at (client_cmp line.client)) work.node.commands ≡ Some (record { line = line; issued = None })) where
  no_commit : line.command ≡ commands.Commit → ⊥
  no_commit is = clash (sym begins ∙ is)
    where
      clash : commands.Begin ≡ commands.Commit → ⊥
      clash e = cc e

  begun : is_fresh (book_at stamp before work).labels line.label ≡ true → HoldsWork stamp before (begin_as line (tm.next_tid work.node.manager) work)
  begun fresh = by_answer stamp before (begun_work stamp before work line.label line.client h fresh) line.client answers.Done (by_begin stamp before work line.label line.client h fresh) (λ owner there. refl)
      (not_asking (begun_work stamp before work line.label line.client h fresh).node line.client (record { line = line; issued = None }) waits no_commit)

  refused : (need room : ℕ) → HoldsWork stamp before (refuse_begin line need room work)
  refused need room = by_answer stamp before (put_label (record { label = line.label; tid = None; owner = Some line.client }) work) line.client (answers.LogFull need room)
      (by_label stamp before work h (record { label = line.label; tid = None; owner = Some line.client }) (λ t c is owned. none-some t is)) (λ owner there. refl)
      (not_asking (put_label (record { label = line.label; tid = None; owner = Some line.client }) work).node line.client (record { line = line; issued = None }) waits no_commit)

  -- whether the log has room or not
  pub by_begin_command : is_fresh (book_at stamp before work).labels line.label ≡ true → HoldsWork stamp before (begin_command line work)
  by_begin_command fresh = by (tm.begin_fault work.room work.node.manager)
    where
      by : (fault : Option BeginFault) → HoldsWork stamp before (begin_or_refuse line fault work)
      by None = begun fresh
      by (Some (faults.LogFull need room)) = refused need room
      by (Some (faults.Last value)) = h
      by (Some faults.NoMemory) = h
