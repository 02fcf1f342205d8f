-- The owner of a transaction commands commit or abort: each as a whole, from what the node itself holds.
use Rattle.qs_world_lawful.proofs.Words.{◌≡◌, ℕ, Bool, true, false, Option, Some, None, refl, sym, ap, subst, ◌∙◌, is_some, slice_get, if◌then◌else◌, is_at, lookup, ClientNo, Outcome, Tid, BookValue, is_undecided, Participant, KeptLabel, where_undecided, become_asked, open_command, ask, enter_ask, label_at, Work, client_cmp, OpenCommand, HoldsWork, book_at, HoldsFiles, IsAsking, IsOwner, none_is, some_same}
use Rattle.qs_base.specs.declared.identifiers.Outcome.TheVariants as outcomes
use Rattle.qs_ops.specs.declared.answer.Cause.TheVariants as causes
use Rattle.qs_book_journal.specs.declared.script_line.Command.TheVariants as commands
use Rattle.qs_tm.specs.Manager as tm
use Rattle.qs_node_step.specs.Deciding.{decide}
use Rattle.qs_world_lawful.proofs.Asking.{by_ask}
use Rattle.qs_world_lawful.proofs.DecidingByRules.{by_asked_abort}

module _ (stamp : ℕ) (before : BookValue) (work : Work) (h : HoldsWork stamp before work) (client : ClientNo) (command : OpenCommand) (waits : lookup (is_at (client_cmp client)) work.node.commands ≡ Some command)
    (begun : KeptLabel) (labelled : label_at command.line.label work.node ≡ Some begun) (tid : Tid) (of : begun.tid ≡ Some tid) (owned : begun.owner ≡ Some client) (home : tid.home ≡ work.node.setting.node) (inc : tid.inc ≡ work.node.setting.inc) where
  its : IsOwner (book_at stamp before work) tid client
  its = h.holds.clients.labels command.line.label begun tid client labelled of owned

  is_its : (c : ClientNo) → its.tx.owner ≡ Some c → client ≡ c
  is_its c owns = some_same (sym its.owns ∙ owns)

  slot : (c : ClientNo) → its.tx.owner ≡ Some c → is_some (slice_get (book_at stamp before work).owners c.0) ≡ true
  slot c owns = subst (λ (d : ClientNo). is_some (slice_get (book_at stamp before work).owners d.0) ≡ true) (is_its c owns)
      (ap is_some (h.holds.clients.lines client command waits).there)

  -- a rule for what is undecided here
  undecided : (rule : Participant → Work → Work) → ((part : Participant) → tm.part_of tid work.node.manager ≡ Some part → part.outcome ≡ None → HoldsWork stamp before (rule part work)) → HoldsWork stamp before (where_undecided tid rule work)
  undecided rule each = by (tm.part_of tid work.node.manager) refl
    where
      inner : (part : Participant) → tm.part_of tid work.node.manager ≡ Some part → (b : Bool) → is_undecided part ≡ b → HoldsWork stamp before (if b then rule part work else work)
      inner part known true is = each part known (none_is part.outcome is)
      inner part known false is = h

      by : (o : Option Participant) → tm.part_of tid work.node.manager ≡ o → HoldsWork stamp before (elim o [ None ↦ work | Some part ↦ if is_undecided part then rule part work else work ])
      by None unknown = h
      by (Some part) known = inner part known (is_undecided part) refl

  -- commit is asked for, once
  pub by_commit_command : command.line.command ≡ commands.Commit → command.issued ≡ None → HoldsWork stamp before (open_command client tid commands.Commit work)
  by_commit_command commits unissued = undecided (ask tid) (λ part known unknown. by part known unknown part.asked refl)
    where
      asking : (c : ClientNo) → its.tx.owner ≡ Some c → IsAsking work.node tid c
      asking c owns = subst (IsAsking work.node tid) (is_its c owns)
          (record { command = command; waits = waits; commits = commits; unissued = unissued; begun = begun; labelled = labelled; of = of; owned = owned })

      by : (part : Participant) → tm.part_of tid work.node.manager ≡ Some part → part.outcome ≡ None → (b : Bool) → part.asked ≡ b → HoldsWork stamp before (ask tid part work)
      by part known unknown false unasked = by_ask stamp before work tid part its.tx h known its.found asking home inc unasked unknown
      by part known unknown true asked = subst (λ (b : Bool). HoldsWork stamp before (if b then work else become_asked tid part (enter_ask tid work))) (sym asked) h

  -- it is aborted, where it is undecided
  pub by_abort_command : command.line.command ≡ commands.Abort → HoldsFiles work.node.servers → HoldsWork stamp before (open_command client tid commands.Abort work)
  by_abort_command aborts files =
      undecided (λ part. decide tid outcomes.Abort (Some causes.Asked))
      (λ part known unknown. by_asked_abort stamp before work tid part its.tx h files known its.found home inc unknown slot (unasked part known unknown part.asked refl))
    where
      differ : commands.Abort ≡ commands.Commit → ⊥
      differ e = cc e

      unasked : (part : Participant) → tm.part_of tid work.node.manager ≡ Some part → part.outcome ≡ None → (b : Bool) → part.asked ≡ b → part.asked ≡ false
      unasked part known unknown false e = e
      unasked part known unknown true e =
          let a : IsAsking work.node tid client = h.holds.clients.asking tid client part home known unknown e its in
          absurd (differ (sym aborts ∙ (ap (λ (c : OpenCommand). c.line.command) (some_same (sym waits ∙ a.waits)) ∙ a.commits)))
