-- Through each deed of a step the node has issued the notes that it waits for or has noted: the table of its deeds.
use Rattle.std.proofs.Common.{◌≡◌, ◌∙◌, ℕ, ◌+◌, ◌==◌, Bool, true, false, List, [], ◌∷◌, ◌++◌, Option, Some, None, refl, sym, ap, subst, arith}
use Rattle.std.proofs.lemmas.Bool.Decides.{nat_tests}
use Rattle.std.specs.BTreeMap.{insert_entry, is_at}
use Rattle.std.specs.Map.{remove_entry}
use Rattle.std.specs.Prelude.{◌||◌, if◌then◌else◌}
use Rattle.qs_base.specs.Order.{tid_cmp}
use Rattle.qs_base.specs.declared.identifiers.ClientNo.{ClientNo}
use Rattle.qs_base.specs.declared.identifiers.Member.{Member}
use Rattle.qs_base.specs.declared.identifiers.ServerNo.{ServerNo}
use Rattle.qs_base.specs.declared.identifiers.Tid.{Tid}
use Rattle.qs_book_journal.specs.declared.entry.Act.{Act}
use Rattle.qs_book_journal.specs.declared.entry.Act.TheVariants as acts
use Rattle.qs_book_laws.specs.Lives.{is_restart}
use Rattle.qs_book_machine.specs.Book.{BookValue, inc_at}
use Rattle.qs_book_machine.specs.Clauses.{note_text}
use Rattle.qs_ipc.specs.declared.delivery.Delivery.{Delivery}
use Rattle.qs_ops.specs.Servers.{files_no}
use Rattle.qs_ops.specs.declared.answer.Answer.TheVariants as answers
use Rattle.qs_ops.specs.declared.operation.Op.{Op}
use Rattle.qs_ops.specs.declared.operation.Op.TheVariants.{Note}
use Rattle.qs_ops.specs.declared.reply.Reply.{Reply}
use Rattle.qs_ops.specs.declared.vote.Vote.TheVariants as votes
use Rattle.qs_record.specs.declared.record.Record.TheVariants as records
use Rattle.qs_tm.specs.Manager as tm
use Rattle.qs_tm.specs.Members.{class_here, is_told_class}
use Rattle.qs_tm.specs.Outcomes as outcome_rules
use Rattle.qs_tm.specs.Outcomes.{aborted_participant}
use Rattle.qs_tm.specs.Participant as participant
use Rattle.qs_tm.specs.Participant.{begun_participant, is_by_files, member_of, new_participant}
use Rattle.qs_tm.specs.declared.manager.Manager.{Manager}
use Rattle.qs_tm.specs.declared.participant.Outstanding.{Outstanding}
use Rattle.qs_tm.specs.declared.participant.Participant.{Participant}
use Rattle.qs_engage.specs.Engage.{last_number}
use Rattle.qs_node_step.specs.Bringing.{member_here, tid_of}
use Rattle.qs_node_step.specs.Serving.{lent_to}
use Rattle.qs_node_step.specs.State.{Work, here}
use Rattle.qs_node_step.specs.Voting as voting
use Rattle.qs_node_step.specs.Voting.{served_count}
use Rattle.qs_node_step.specs.declared.event.Event.{Event}
use Rattle.qs_node_step.specs.declared.setting.Setting.{Setting}
use Rattle.qs_world_lawful.proofs.LastsWell.{LastsWell}
use Rattle.qs_world_walk.specs.Deed.{loan_entered}
use Rattle.qs_world_walk.specs.Deed as d
use Rattle.qs_world_walk.specs.May.{MayIssue}
use Rattle.qs_world_walk.specs.Stage.{Stage}
use Rattle.qs_world_walk.specs.Walked.{Table}
use Rattle.qs_world_filed.specs.Noting.{IssuedNotes, KnowsNotes, WasIssued}
use Rattle.qs_world_filed.proofs.NotesGoing.{Noting, act_on, issue_on, known_on}
use Rattle.qs_world_filed.proofs.NotesParts.{all_fewer, all_left, all_put, noted_known, part_found, parts_changed, parts_removed, tid_at, waits_issued}

-- a serve leaves what waits
served_waiting : (server : ServerNo) (part : Participant) → (participant.served server part).waiting ≡ part.waiting
served_waiting server part = by ((member_of part server).served == last_number)
  where
    by : (b : Bool) → (if b then part else record (participant.with_member server (record (member_of part server) { served = (member_of part server).served + 1; fresh = true }) part) { involved = part.involved || is_told_class (class_here server) }).waiting ≡ part.waiting
    by true = refl
    by false = refl

pub served_noted : (server : ServerNo) (part : Participant) → (participant.served server part).noted ≡ part.noted
served_noted server part = by ((member_of part server).served == last_number)
  where
    by : (b : Bool) → (if b then part else record (participant.with_member server (record (member_of part server) { served = (member_of part server).served + 1; fresh = true }) part) { involved = part.involved || is_told_class (class_here server) }).noted ≡ part.noted
    by true = refl
    by false = refl

-- clients issue what is no note
client_far : (k n : ℕ) → n ≡ k + 32 → (n == 0) ≡ true → ⊥
client_far k n is at = grind (arith, nat_tests, is, at)

module _ (setting : Setting) (stamp : ℕ) (before : BookValue) (well : LastsWell before) (first : inc_at before (record { 0 = setting.node.0 }) ≡ setting.inc) where
  abbrev N : List Act → List (Tid × Participant) → Type 0
  N done known = Noting setting stamp before well first done known

  pub record Now (now : Setting) (done : List Act) (known : List (Tid × Participant)) : Type 0 where
    pub same : now ≡ setting
    pub going : N done known

  abbrev pub IsNoting : Stage → Work → Type 0
  IsNoting stage work = Now work.node.setting work.out.entries work.node.manager.known

  -- ---- what a deed is made of

  part : {now : Setting} {done : List Act} {known : List (Tid × Participant)} (tid : Tid) (f : Participant → Participant) → ((p : Participant) → (f p).waiting ≡ p.waiting) → ((p : Participant) → (f p).noted ≡ p.noted)
      → Now now done known → Now now done (tm.changed_value (is_at (tid_cmp tid)) f known)
  part {done = done} {known = known} tid f waiting noted h = record { same = h.same; going = known_on setting stamp before well first done known (tm.changed_value (is_at (tid_cmp tid)) f known) (λ book k. all_left book setting tid f waiting noted known k) h.going }

  fewer : {now : Setting} {done : List Act} {known : List (Tid × Participant)} (tid : Tid) (member : Member) (number : ℕ) → Now now done known → Now now done (tm.changed_value (is_at (tid_cmp tid)) (participant.drop_waiting member number) known)
  fewer {done = done} {known = known} tid member number h = record { same = h.same; going = known_on setting stamp before well first done known (tm.changed_value (is_at (tid_cmp tid)) (participant.drop_waiting member number) known) (λ book k. all_fewer book setting tid member number known k) h.going }

  put : {now : Setting} {done : List Act} {known : List (Tid × Participant)} (tid : Tid) (new : Participant) → new.waiting ≡ [] → new.noted ≡ [] → Now now done known → Now now done (insert_entry tid_cmp known tid new)
  put {done = done} {known = known} tid new waiting noted h = record { same = h.same; going = known_on setting stamp before well first done known (insert_entry tid_cmp known tid new) (λ book k. all_put book setting tid new waiting noted known k) h.going }

  removed : {now : Setting} {done : List Act} {known : List (Tid × Participant)} (tid : Tid) → Now now done known → Now now done (remove_entry (is_at (tid_cmp tid)) known)
  removed {done = done} {known = known} tid h = record { same = h.same; going = known_on setting stamp before well first done known (remove_entry (is_at (tid_cmp tid)) known) (λ book k. parts_removed (λ (e : Tid × Participant). KnowsNotes book setting e.0 e.1) (is_at (tid_cmp tid)) known k) h.going }

  act : {now : Setting} {done : List Act} {known : List (Tid × Participant)} (it : Act) → is_restart it ≡ false → Now now done known → Now now (done ++ it ∷ []) known
  act {done = done} {known = known} it ordinary h = record { same = h.same; going = act_on setting stamp before well first done it known ordinary h.going }

  met : {now : Setting} {done : List Act} (tid : Tid) (m : Manager) → Now now done m.known → Now now done (tm.meet tid m).known
  met {now = now} {done = done} tid m h = by (tm.knows tid m)
    where
      by : (b : Bool) → Now now done (if b then m else tm.put_part tid (new_participant (tm.is_home tid m)) m).known
      by true = h
      by false = put tid (new_participant (tm.is_home tid m)) refl refl h

  aborted : {now : Setting} {done : List Act} (tid : Tid) (m : Manager) → Now now done m.known → Now now done (tm.keep_abort tid m).known
  aborted {now = now} {done = done} tid m h = by (tm.knows tid m)
    where
      by : (b : Bool) → Now now done (if b then m else tm.put_part tid (aborted_participant (tm.is_home tid m)) m).known
      by true = h
      by false = put tid (aborted_participant (tm.is_home tid m)) refl refl h

  -- ---- requests

  its_note : (by : d.Issuer) (tid : Tid) (request : Outstanding) (op : Op) (w : Work) → w.node.setting ≡ setting → MayIssue by tid request op w → is_by_files request ≡ true → (setting.audit ≡ Some request.member.node) × ((request.issuer.0 ≡ files_no) × (op ≡ Note (note_text tid setting.node.0 request.count)))
  its_note (d.Client client command) tid request op w same m files = absurd (client_far client.0 request.issuer.0 (ap (λ (s : ServerNo). s.0) m.1.1.0) files)
  its_note (d.Files server) tid request op w same m files =
      (ap (λ (t : Setting). t.audit) (sym same) ∙ m.1.1.0, (ap (λ (s : ServerNo). s.0) m.1.1.1.0, m.1.1.1.1.0 ∙ (ap (λ (c : ℕ). Note (voting.note_text tid (here w) c)) (sym m.1.1.1.1.1) ∙ ap (λ (t : Setting). Note (voting.note_text tid t.node request.count)) same)))

  issued : {done : List Act} {known : List (Tid × Participant)} (now : Setting) (tid : Tid) (request : Outstanding) (op : Op) → (is_by_files request ≡ true → (setting.audit ≡ Some request.member.node) × ((request.issuer.0 ≡ files_no) × (op ≡ Note (note_text tid setting.node.0 request.count))))
      → Now now done known → Now now (done ++ acts.Issue tid (record { node = now.node; server = request.issuer }) request.member request.number op ∷ []) (tm.changed_value (is_at (tid_cmp tid)) (participant.issued request) known)
  issued {done = done} {known = known} now tid request op its h = record {
    same = h.same;
    going = subst (λ (t : Setting). N (done ++ acts.Issue tid (record { node = t.node; server = request.issuer }) request.member request.number op ∷ []) (tm.changed_value (is_at (tid_cmp tid)) (participant.issued request) known)) (sym h.same)
        (issue_on setting stamp before well first done tid request op known its h.going);
  }

  -- files note the reply that they waited for
  noted : {now : Setting} {done : List Act} (m : Manager) (tid : Tid) (member : Member) (number : ℕ) (request : Outstanding) → tm.told_of tid None (participant.waiting_for member number) m ≡ Some request → is_by_files request ≡ true → Now now done m.known
      → Now now done (tm.changed_value (is_at (tid_cmp tid)) (participant.note_served request.count) (tm.changed_value (is_at (tid_cmp tid)) (participant.drop_waiting member number) m.known))
  noted {done = done} m tid member number request waits files h = record { same = h.same; going = known_on setting stamp before well first done m.known _ by h.going }
    where
      of : (book : BookValue) → IssuedNotes book setting m.known → (o : Option Participant) → tm.part_of tid m ≡ o → (elim o [ None ↦ None | Some p ↦ participant.waiting_for member number p ]) ≡ Some request → WasIssued book setting tid request.count
      of book k None none waits = absurd (cc waits)
      of book k (Some p) known waits = let its = part_found (λ (e : Tid × Participant). KnowsNotes book setting e.0 e.1) (is_at (tid_cmp tid)) m.known p k known in
          waits_issued book setting tid member number request p (subst (λ (t : Tid). KnowsNotes book setting t p) (sym (tid_at tid its.0 its.1.0)) its.1.1) waits files

      by : (book : BookValue) → IssuedNotes book setting m.known → IssuedNotes book setting (tm.changed_value (is_at (tid_cmp tid)) (participant.note_served request.count) (tm.changed_value (is_at (tid_cmp tid)) (participant.drop_waiting member number) m.known))
      by book k = parts_changed (λ (e : Tid × Participant). KnowsNotes book setting e.0 e.1) (is_at (tid_cmp tid)) (participant.note_served request.count) (tm.changed_value (is_at (tid_cmp tid)) (participant.drop_waiting member number) m.known)
          (λ t v at its. noted_known book setting t request.count v (subst (λ (u : Tid). WasIssued book setting u request.count) (tid_at tid t at) (of book k (tm.part_of tid m) refl waits)) its)
          (all_fewer book setting tid member number m.known k)

  lent : {now : Setting} {done : List Act} {known : List (Tid × Participant)} (tid : Tid) (o : Option ClientNo) → Now now done known → Now now (loan_entered tid o done) known
  lent tid None h = h
  lent tid (Some client) h = act (acts.Loan tid client) refl h

  served : (server : ServerNo) (delivery : Delivery) (reply : Reply) (w : Work) → Now w.node.setting w.out.entries w.node.manager.known
      → Now w.node.setting (loan_entered delivery.tid (lent_to delivery.op) (w.out.entries ++ acts.Serve delivery.tid (member_here w server) delivery.from delivery.number reply ∷ [])) (tm.served delivery.tid server w.node.manager).known
  served server delivery reply w h = lent delivery.tid (lent_to delivery.op) (act (acts.Serve delivery.tid (member_here w server) delivery.from delivery.number reply) refl (part delivery.tid (participant.served server) (served_waiting server) (served_noted server) h))

  -- ---- the table

  pub noting_table : (event : Event) → Table event IsNoting
  noting_table event (d.Meets tid) when w m h = met tid w.node.manager h
  noting_table event (d.Engages tid peer number) when w m h = part tid (participant.requested peer number) (λ p. refl) (λ p. refl) h
  noting_table event d.Ticks when w m h = act acts.Tick refl h
  noting_table event (d.Logs tid rec) when w m h = part (tid_of rec) (outcome_rules.logged rec) (λ p. refl) (λ p. refl) h
  noting_table event (d.Ends tid server) when w m h = act (acts.Ending tid (member_here w server)) refl (part tid (outcome_rules.settled server) (λ p. refl) (λ p. refl) h)
  noting_table event (d.Learns tid outcome server) when w m h = act (acts.Learn tid (member_here w server) outcome) refl (part tid (outcome_rules.settled server) (λ p. refl) (λ p. refl) h)
  noting_table event (d.Begins line) when w m h = act (acts.Answer line.client line.line answers.Done) refl (act (acts.Begin (tm.next_tid w.node.manager) line.label line.client) refl (put (tm.next_tid w.node.manager) (begun_participant line.client w.node.manager.ticks) refl refl h))
  noting_table event (d.Refuses line need room) when w m h = act (acts.Answer line.client line.line (answers.LogFull need room)) refl h
  noting_table event (d.Answers client command why) when w m h = act (acts.Answer client command.line.line (d.answer_by command why)) refl h
  noting_table event (d.Takes client command tid loan) when w m h = act _ refl h
  noting_table event (d.Yields client command tid loan) when w m h = act (acts.Answer client command.line.line answers.Done) refl (act (acts.Yield tid client) refl h)
  noting_table event (d.Asks line tid) when w m h = part tid participant.ask (λ p. refl) (λ p. refl) (act (acts.Ask tid) refl h)
  noting_table event (d.IssuesHere by tid request op) when w m h = issued w.node.setting tid request op (its_note by tid request op w h.same m.1.1) h
  noting_table event (d.IssuesAway by tid request op) when w m h = part tid (participant.sent request.member.node) (λ p. refl) (λ p. refl) (issued w.node.setting tid request op (its_note by tid request op w h.same m.1.1) h)
  noting_table event (d.Serves server delivery reply) when w m h = served server delivery reply w h
  noting_table event (d.ServesAway server delivery reply) when w m h = served server delivery reply w h
  noting_table event (d.NotesReply tid member number request) when w m h = noted w.node.manager tid member number request m.0 m.1.0 h
  noting_table event (d.GivesReply tid member number request command reply) when w m h = act _ refl (fewer tid member number h)
  noting_table event (d.LosesReply tid member number request) when w m h = fewer tid member number h
  noting_table event (d.BecomesAsked peer tid) when w m h = part tid participant.ask (λ p. refl) (λ p. refl) h
  noting_table event (d.Counts peer tid up_to told) when w m h = act (acts.Counted tid peer up_to) refl (part tid (participant.counted tid.home peer up_to told) (λ p. refl) (λ p. refl) h)
  noting_table event (d.Blocks tid cause) when w m h = part tid (participant.add_cause cause) (λ p. refl) (λ p. refl) (part tid participant.refused (λ p. refl) (λ p. refl) h)
  noting_table event (d.Votes tid server ballot) when w m h = act (acts.Vote tid (member_here w server) ballot (served_count tid server w)) refl (part tid (participant.voted (member_here w server) ballot (served_count tid server w)) (λ p. refl) (λ p. refl) h)
  noting_table event (d.Prepares tid server) when w m h = part tid _ (λ p. refl) (λ p. refl)
      (act (acts.Vote tid (member_here w server) votes.Recoverable (served_count tid server w)) refl (part tid (participant.voted (member_here w server) votes.Recoverable (served_count tid server w)) (λ p. refl) (λ p. refl) h))
  noting_table event (d.SaysYes tid known superior) when w m h = part tid participant.released (λ p. refl) (λ p. refl) h
  noting_table event (d.TakesCauses tid) when w m h = part tid participant.take_causes (λ p. refl) (λ p. refl) h
  noting_table event (d.Forgets tid known) when w m h = removed tid h
  noting_table event (d.Decides tid outcome cause) when w m h = act (acts.Decide tid outcome cause) refl (part tid (outcome_rules.decided outcome) (λ p. refl) (λ p. refl) h)
  noting_table event (d.TakesOutcome tid outcome) when w m h = part tid (outcome_rules.took_outcome outcome) (λ p. refl) (λ p. refl) h
  noting_table event (d.KeepsAbort tid) when w m h = aborted tid w.node.manager h
  noting_table event (d.KeepsTold tid peer) when w m h = part tid (outcome_rules.add_tell peer) (λ p. refl) (λ p. refl) (aborted tid w.node.manager h)
  noting_table event (d.TakesNames tid further) when w m h = part tid (outcome_rules.take_names tid.home further) (λ p. refl) (λ p. refl) h
  noting_table event (d.Acknowledges tid peer) when w m h = part tid (outcome_rules.acknowledged peer) (λ p. refl) (λ p. refl) h
  noting_table event (d.EndsCommit tid peer) when w m h = removed tid (part tid (outcome_rules.logged (records.End tid)) (λ p. refl) (λ p. refl) (part tid (outcome_rules.acknowledged peer) (λ p. refl) (λ p. refl) h))
  noting_table event (d.AddsTold tid peer) when w m h = part tid (participant.add_told peer) (λ p. refl) (λ p. refl) h
  noting_table event (d.AddsTell tid peer) when w m h = part tid (outcome_rules.add_tell peer) (λ p. refl) (λ p. refl) h
  noting_table event (d.Notices tid peer) when w m h = part tid (participant.restarted peer) (λ p. refl) (λ p. refl) h
  noting_table event deed when w m h = h
