-- Through each deed of a step each note that files have noted is told, or its transaction is crossed: the table of its deeds, where the replies that files take are true.
use Rattle.std.proofs.Common.{◌≡◌, ◌∙◌, ℕ, Bool, true, false, List, [], ◌∷◌, ◌++◌, Option, Some, None, refl, sym, ap, subst}
use Rattle.std.proofs.lemmas.Bool.{eqb-true}
use Rattle.std.specs.BTreeMap.{insert_entry, is_at}
use Rattle.std.specs.Map.{remove_entry}
use Rattle.std.specs.Prelude.{if◌then◌else◌}
use Rattle.qs_base.specs.Order.{tid_cmp}
use Rattle.qs_base.specs.declared.identifiers.ClientNo.{ClientNo}
use Rattle.qs_base.specs.declared.identifiers.Member.{Member}
use Rattle.qs_base.specs.declared.identifiers.NodeNo.{NodeNo}
use Rattle.qs_base.specs.declared.identifiers.ServerNo.{ServerNo}
use Rattle.qs_base.specs.declared.identifiers.Tid.{Tid}
use Rattle.qs_book_journal.specs.declared.entry.Act.{Act}
use Rattle.qs_book_journal.specs.declared.entry.Act.TheVariants as acts
use Rattle.qs_book_journal.specs.declared.entry.Entry.{Entry}
use Rattle.qs_book_laws.proofs.Steps.{lawful_front, lawful_rest}
use Rattle.qs_book_laws.proofs.Turns.{Stands}
use Rattle.qs_book_machine.specs.Book.{BookValue, inc_at}
use Rattle.qs_book_machine.specs.Lawful.{IsLawful, book_after, broken, effect}
use Rattle.qs_ipc.specs.declared.delivery.Delivery.{Delivery}
use Rattle.qs_ops.specs.declared.answer.Answer.TheVariants as answers
use Rattle.qs_ops.specs.declared.reply.Reply.{Reply}
use Rattle.qs_ops.specs.declared.vote.Vote.TheVariants as votes
use Rattle.qs_packet.specs.declared.message.Message.TheVariants as messages
use Rattle.qs_record.specs.declared.record.Record.TheVariants as records
use Rattle.qs_tm.specs.Manager as tm
use Rattle.qs_tm.specs.Outcomes as outcome_rules
use Rattle.qs_tm.specs.Outcomes.{aborted_participant}
use Rattle.qs_tm.specs.Participant as participant
use Rattle.qs_tm.specs.Participant.{begun_participant, is_by_files, new_participant}
use Rattle.qs_tm.specs.declared.manager.Manager.{Manager}
use Rattle.qs_tm.specs.declared.participant.Outstanding.{Outstanding}
use Rattle.qs_tm.specs.declared.participant.Participant.{Participant}
use Rattle.qs_node_step.specs.Bringing.{member_here, tid_of}
use Rattle.qs_node_step.specs.Serving.{lent_to}
use Rattle.qs_node_step.specs.State.{Work, here}
use Rattle.qs_node_step.specs.Voting.{served_count}
use Rattle.qs_node_step.specs.declared.event.Event.{Event}
use Rattle.qs_node_step.specs.declared.event.Event.TheVariants as events
use Rattle.qs_node_step.specs.declared.setting.Setting.{Setting}
use Rattle.qs_world.specs.Posting.{entries_of, entry_of}
use Rattle.qs_world_lawful.specs.Logs.{Every}
use Rattle.qs_world_lawful.proofs.LastsOpening.{lasts_ran}
use Rattle.qs_world_lawful.proofs.LastsWell.{LastsWell}
use Rattle.qs_world_lawful.proofs.LogRecords.{every_append}
use Rattle.qs_world_runs.specs.RepliesTrue.{IsOfLast, IsServed}
use Rattle.qs_world_runs.proofs.PlacesGo.{inc_stays}
use Rattle.qs_world_runs.proofs.RepliesMoves.{served_on}
use Rattle.qs_world_walk.specs.Deed.{Deed, did, loan_entered}
use Rattle.qs_world_walk.specs.Deed as d
use Rattle.qs_world_walk.specs.May.{RepliesNow}
use Rattle.qs_world_walk.specs.May as may
use Rattle.qs_world_walk.specs.Stage.{Stage}
use Rattle.qs_world_walk.specs.When.{When, next_stage, stage_of}
use Rattle.qs_world_filed.specs.Replied.{IsToldOf, StandsNoMore, ToldNotes}
use Rattle.qs_world_walk.specs.May.{May}
use Rattle.qs_world_filed.proofs.Going.{acts_more}
use Rattle.qs_world_filed.proofs.NotesGoing.{book_at, book_both}
use Rattle.qs_world_filed.proofs.NotesParts.{every_so, parts_changed, parts_put, parts_removed, tid_at}
use Rattle.qs_world_filed.proofs.NotesReplied.{no_more, told_of, waits_so}
use Rattle.qs_world_filed.proofs.NotesServed.{loan_leaves, serve_ends, told_stays}
use Rattle.qs_world_filed.proofs.NotesTable.{IsNoting, Now, served_noted}
use Rattle.qs_world_filed.proofs.NotesTold.{AllTold, entries_told}

-- ---- through an entry

pub told_on : (setting : Setting) (book : BookValue) (entry : Entry) → LastsWell book → broken book entry ≡ None → (known : List (Tid × Participant)) → ToldNotes book setting known → ToldNotes (effect book entry) setting known
told_on setting book entry w fine known all = every_so (λ (e : Tid × Participant). Every (λ (count : ℕ). Stands e.0 (IsToldOf setting e.0 count) book) e.1.noted) (λ (e : Tid × Participant). Every (λ (count : ℕ). Stands e.0 (IsToldOf setting e.0 count) (effect book entry)) e.1.noted)
    (λ e its. every_so (λ (count : ℕ). Stands e.0 (IsToldOf setting e.0 count) book) (λ (count : ℕ). Stands e.0 (IsToldOf setting e.0 count) (effect book entry)) (λ count s. told_stays setting e.0 count book entry w.inv fine s) e.1.noted its) known all

module _ (setting : Setting) (stamp : ℕ) (before : BookValue) (well : LastsWell before) (first : inc_at before (record { 0 = setting.node.0 }) ≡ setting.inc) (all : AllTold before) (event : Event)
    (came : (peer : NodeNo) (tid : Tid) (member : Member) (number : ℕ) (reply : Reply) → event ≡ events.Received peer (messages.Answered tid member number reply) → IsOfLast before setting.node.0 setting.inc tid (IsServed setting.node.0 setting.inc member number)) where
  abbrev at : List Act → BookValue
  at done = book_at setting stamp before well first done

  abbrev Lawful : List Act → Type 0
  Lawful done = IsLawful before (entries_of setting.node.0 stamp done)

  pub record Telling (done : List Act) (known : List (Tid × Participant)) : Type 0 where
    pub tells : Lawful done → ToldNotes (at done) setting known

  abbrev pub IsTelling : Stage → Work → Type 0
  IsTelling stage work = Telling work.out.entries work.node.manager.known

  -- one more act
  record Split (done : List Act) (act : Act) : Type 0 where
    front : Lawful done
    fine : broken (at done) (entry_of setting.node.0 stamp act) ≡ None
    lasts : LastsWell (at done)
    then_is : at (done ++ act ∷ []) ≡ effect (at done) (entry_of setting.node.0 stamp act)

  split : (done : List Act) (act : Act) → Lawful (done ++ act ∷ []) → Split done act
  split done act lawful = record {
    front = lawful_front (entries_of setting.node.0 stamp done) (entry_of setting.node.0 stamp act ∷ []) before whole;
    fine = (lawful_rest (entries_of setting.node.0 stamp done) (entry_of setting.node.0 stamp act ∷ []) before whole).0;
    lasts = lasts_ran (entries_of setting.node.0 stamp done) before well (lawful_front (entries_of setting.node.0 stamp done) (entry_of setting.node.0 stamp act ∷ []) before whole);
    then_is = ap (book_after before) (acts_more setting.node.0 stamp done (act ∷ [])) ∙ book_both before (entries_of setting.node.0 stamp done) (entry_of setting.node.0 stamp act ∷ []);
  }
    where
      whole : IsLawful before (entries_of setting.node.0 stamp done ++ entry_of setting.node.0 stamp act ∷ [])
      whole = subst (IsLawful before) (acts_more setting.node.0 stamp done (act ∷ [])) lawful

  -- ---- what a deed is made of

  act : {done : List Act} {known : List (Tid × Participant)} (it : Act) → Telling done known → Telling (done ++ it ∷ []) known
  act {done = done} {known = known} it h = record { tells = λ lawful. let s = split done it lawful in subst (λ (b : BookValue). ToldNotes b setting known) (sym s.then_is) (told_on setting (at done) (entry_of setting.node.0 stamp it) s.lasts s.fine known (h.tells s.front)) }

  part : {done : List Act} {known : List (Tid × Participant)} (tid : Tid) (f : Participant → Participant) → ((p : Participant) → (f p).noted ≡ p.noted) → Telling done known → Telling done (tm.changed_value (is_at (tid_cmp tid)) f known)
  part {done = done} {known = known} tid f noted h = record {
    tells = λ lawful. parts_changed (λ (e : Tid × Participant). Every (λ (count : ℕ). Stands e.0 (IsToldOf setting e.0 count) (at done)) e.1.noted) (is_at (tid_cmp tid)) f known
        (λ t v on its. subst (Every (λ (count : ℕ). Stands t (IsToldOf setting t count) (at done))) (sym (noted v)) its) (h.tells lawful);
  }

  put : {done : List Act} {known : List (Tid × Participant)} (tid : Tid) (new : Participant) → new.noted ≡ [] → Telling done known → Telling done (insert_entry tid_cmp known tid new)
  put {done = done} {known = known} tid new noted h = record {
    tells = λ lawful. parts_put (λ (e : Tid × Participant). Every (λ (count : ℕ). Stands e.0 (IsToldOf setting e.0 count) (at done)) e.1.noted) tid new known
        (λ t. subst (Every (λ (count : ℕ). Stands t (IsToldOf setting t count) (at done))) (sym noted) tt) (h.tells lawful);
  }

  removed : {done : List Act} {known : List (Tid × Participant)} (tid : Tid) → Telling done known → Telling done (remove_entry (is_at (tid_cmp tid)) known)
  removed {done = done} {known = known} tid h = record { tells = λ lawful. parts_removed (λ (e : Tid × Participant). Every (λ (count : ℕ). Stands e.0 (IsToldOf setting e.0 count) (at done)) e.1.noted) (is_at (tid_cmp tid)) known (h.tells lawful) }

  met : {done : List Act} (tid : Tid) (m : Manager) → Telling done m.known → Telling done (tm.meet tid m).known
  met {done = done} tid m h = by (tm.knows tid m)
    where
      by : (b : Bool) → Telling done (if b then m else tm.put_part tid (new_participant (tm.is_home tid m)) m).known
      by true = h
      by false = put tid (new_participant (tm.is_home tid m)) refl h

  aborted : {done : List Act} (tid : Tid) (m : Manager) → Telling done m.known → Telling done (tm.keep_abort tid m).known
  aborted {done = done} tid m h = by (tm.knows tid m)
    where
      by : (b : Bool) → Telling done (if b then m else tm.put_part tid (aborted_participant (tm.is_home tid m)) m).known
      by true = h
      by false = put tid (aborted_participant (tm.is_home tid m)) refl h

  lent : {done : List Act} {known : List (Tid × Participant)} (tid : Tid) (o : Option ClientNo) → Telling done known → Telling (loan_entered tid o done) known
  lent tid None h = h
  lent tid (Some client) h = act (acts.Loan tid client) h

  served : (server : ServerNo) (delivery : Delivery) (reply : Reply) (w : Work) → Telling w.out.entries w.node.manager.known
      → Telling (loan_entered delivery.tid (lent_to delivery.op) (w.out.entries ++ acts.Serve delivery.tid (member_here w server) delivery.from delivery.number reply ∷ [])) (tm.served delivery.tid server w.node.manager).known
  served server delivery reply w h = lent delivery.tid (lent_to delivery.op) (act (acts.Serve delivery.tid (member_here w server) delivery.from delivery.number reply) (part delivery.tid (participant.served server) (served_noted server) h))

  -- ---- a reply that files take

  -- of a server here, which served just now
  own_serve : (done : List Act) (tid : Tid) (member : Member) (from : NodeNo) (number : ℕ) (reply : Reply) → Lawful (done ++ acts.Serve tid member from number reply ∷ []) → Stands tid (StandsNoMore from.0 member number) (at (done ++ acts.Serve tid member from number reply ∷ []))
  own_serve done tid member from number reply lawful = let s = split done (acts.Serve tid member from number reply) lawful in subst (Stands tid (StandsNoMore from.0 member number)) (sym s.then_is) (serve_ends (at done) setting.node.0 stamp tid member from number reply s.lasts s.fine)

  own_ends : (done : List Act) (tid : Tid) (member : Member) (from : NodeNo) (number : ℕ) (reply : Reply) (o : Option ClientNo) → Lawful (loan_entered tid o (done ++ acts.Serve tid member from number reply ∷ []))
      → Stands tid (StandsNoMore from.0 member number) (at (loan_entered tid o (done ++ acts.Serve tid member from number reply ∷ [])))
  own_ends done tid member from number reply None lawful = own_serve done tid member from number reply lawful
  own_ends done tid member from number reply (Some client) lawful = let s = split (done ++ acts.Serve tid member from number reply ∷ []) (acts.Loan tid client) lawful in subst (Stands tid (StandsNoMore from.0 member number)) (sym s.then_is)
      (loan_leaves (at (done ++ acts.Serve tid member from number reply ∷ [])) setting.node.0 stamp tid tid client from.0 member number s.lasts.inv s.fine (own_serve done tid member from number reply s.front))

  ends : (w : Work) (tid : Tid) (member : Member) (number : ℕ) (reply : Reply) → RepliesNow event tid member number reply w → Now setting stamp before well first w.node.setting w.out.entries w.node.manager.known → Lawful w.out.entries → Stands tid (StandsNoMore setting.node.0 member number) (at w.out.entries)
  ends w tid member number reply (may.Came peer is) k lawful = no_more (at w.out.entries) setting.node.0 setting.inc tid member number
      ((served_on (entries_of setting.node.0 stamp w.out.entries) before well lawful setting.node.0 setting.inc tid member number (came peer tid member number reply is)).holds (inc_stays setting.node.0 stamp w.out.entries before (k.going lawful).still lawful ∙ first))
  ends w tid member number reply (may.ServedHere server delivery s near tid_is member_is number_is) k lawful =
      subst (λ (t : Tid). Stands t (StandsNoMore setting.node.0 member number) (at w.out.entries)) tid_is
      (subst (λ (x : ℕ × (Member × ℕ)). Stands delivery.tid (StandsNoMore x.0 x.1.0 x.1.1) (at w.out.entries)) all_is
      (subst (λ (es : List Act). Stands delivery.tid (StandsNoMore delivery.from.0 (member_here s.old server) delivery.number) (at es)) (sym entries_are)
      (own_ends s.old.out.entries delivery.tid (member_here s.old server) delivery.from delivery.number reply (lent_to delivery.op) (subst Lawful entries_are lawful))))
    where
      entries_are : w.out.entries ≡ loan_entered delivery.tid (lent_to delivery.op) (s.old.out.entries ++ acts.Serve delivery.tid (member_here s.old server) delivery.from delivery.number reply ∷ [])
      entries_are = ap (λ (x : Work). x.out.entries) s.is

      node_is : w.node.setting ≡ s.old.node.setting
      node_is = ap (λ (x : Work). x.node.setting) s.is

      from_is : delivery.from.0 ≡ setting.node.0
      from_is = eqb-true delivery.from.0 (here w).0 near ∙ ap (λ (t : Setting). t.node.0) k.same

      served_is : member_here s.old server ≡ member
      served_is = ap (λ (t : Setting). record { node = t.node; server = server }) (sym node_is) ∙ sym member_is

      all_is : ◌≡◌ {A = ℕ × (Member × ℕ)} (delivery.from.0, (member_here s.old server, delivery.number)) (setting.node.0, (member, number))
      all_is = ap (λ (x : ℕ). (x, (member_here s.old server, delivery.number))) from_is ∙ (ap (λ (x : Member). (setting.node.0, (x, delivery.number))) served_is ∙ ap (λ (x : ℕ). (setting.node.0, (member, x))) number_is)

  noted : (w : Work) (tid : Tid) (member : Member) (number : ℕ) (request : Outstanding) → tm.told_of tid None (participant.waiting_for member number) w.node.manager ≡ Some request → is_by_files request ≡ true → (reply : Reply) → RepliesNow event tid member number reply w
      → Now setting stamp before well first w.node.setting w.out.entries w.node.manager.known → Telling w.out.entries w.node.manager.known
      → Telling w.out.entries (tm.changed_value (is_at (tid_cmp tid)) (participant.note_served request.count) (tm.changed_value (is_at (tid_cmp tid)) (participant.drop_waiting member number) w.node.manager.known))
  noted w tid member number request waits files reply now k h = record {
    tells = λ lawful. parts_changed (λ (e : Tid × Participant). Every (λ (count : ℕ). Stands e.0 (IsToldOf setting e.0 count) (at w.out.entries)) e.1.noted) (is_at (tid_cmp tid)) (participant.note_served request.count) (tm.changed_value (is_at (tid_cmp tid)) (participant.drop_waiting member number) w.node.manager.known)
        (λ t v on its. every_append (λ (count : ℕ). Stands t (IsToldOf setting t count) (at w.out.entries)) v.noted (request.count ∷ []) its (subst (λ (u : Tid). Stands u (IsToldOf setting u request.count) (at w.out.entries)) (tid_at tid t on) (new lawful), tt))
        ((part tid (participant.drop_waiting member number) (λ p. refl) h).tells lawful);
  }
    where
      new : Lawful w.out.entries → Stands tid (IsToldOf setting tid request.count) (at w.out.entries)
      new lawful = told_of (at w.out.entries) setting setting.node.0 tid member number request.count refl (λ tx found. entries_told (entries_of setting.node.0 stamp w.out.entries) before well lawful all tid tx found)
          (waits_so (at w.out.entries) setting w.node.manager tid member number request (k.going lawful).notes waits files) (ends w tid member number reply now k lawful)

  -- ---- the table

  pub telling_table : (deed : Deed) (when : When deed) (work : Work) → May event deed work → IsNoting setting stamp before well first (stage_of deed when) work → IsTelling (stage_of deed when) work → IsTelling (next_stage deed when) (did deed work)
  telling_table (d.Meets tid) when w m k h = met tid w.node.manager h
  telling_table (d.Engages tid peer number) when w m k h = part tid (participant.requested peer number) (λ p. refl) h
  telling_table d.Ticks when w m k h = act acts.Tick h
  telling_table (d.Logs tid rec) when w m k h = part (tid_of rec) (outcome_rules.logged rec) (λ p. refl) h
  telling_table (d.Ends tid server) when w m k h = act (acts.Ending tid (member_here w server)) (part tid (outcome_rules.settled server) (λ p. refl) h)
  telling_table (d.Learns tid outcome server) when w m k h = act (acts.Learn tid (member_here w server) outcome) (part tid (outcome_rules.settled server) (λ p. refl) h)
  telling_table (d.Begins line) when w m k h = act (acts.Answer line.client line.line answers.Done) (act (acts.Begin (tm.next_tid w.node.manager) line.label line.client) (put (tm.next_tid w.node.manager) (begun_participant line.client w.node.manager.ticks) refl h))
  telling_table (d.Refuses line need room) when w m k h = act (acts.Answer line.client line.line (answers.LogFull need room)) h
  telling_table (d.Answers client command why) when w m k h = act (acts.Answer client command.line.line (d.answer_by command why)) h
  telling_table (d.Takes client command tid loan) when w m k h = act _ h
  telling_table (d.Yields client command tid loan) when w m k h = act (acts.Answer client command.line.line answers.Done) (act (acts.Yield tid client) h)
  telling_table (d.Asks line tid) when w m k h = part tid participant.ask (λ p. refl) (act (acts.Ask tid) h)
  telling_table (d.IssuesHere by tid request op) when w m k h = part tid (participant.issued request) (λ p. refl) (act _ h)
  telling_table (d.IssuesAway by tid request op) when w m k h = part tid (participant.sent request.member.node) (λ p. refl) (part tid (participant.issued request) (λ p. refl) (act _ h))
  telling_table (d.Serves server delivery reply) when w m k h = served server delivery reply w h
  telling_table (d.ServesAway server delivery reply) when w m k h = served server delivery reply w h
  telling_table (d.NotesReply tid member number request) when w m k h = noted w tid member number request m.0 m.1.0 m.1.1.0 m.1.1.1 k h
  telling_table (d.GivesReply tid member number request command reply) when w m k h = act _ (part tid (participant.drop_waiting member number) (λ p. refl) h)
  telling_table (d.LosesReply tid member number request) when w m k h = part tid (participant.drop_waiting member number) (λ p. refl) h
  telling_table (d.BecomesAsked peer tid) when w m k h = part tid participant.ask (λ p. refl) h
  telling_table (d.Counts peer tid up_to told) when w m k h = act (acts.Counted tid peer up_to) (part tid (participant.counted tid.home peer up_to told) (λ p. refl) h)
  telling_table (d.Blocks tid cause) when w m k h = part tid (participant.add_cause cause) (λ p. refl) (part tid participant.refused (λ p. refl) h)
  telling_table (d.Votes tid server ballot) when w m k h = act (acts.Vote tid (member_here w server) ballot (served_count tid server w)) (part tid (participant.voted (member_here w server) ballot (served_count tid server w)) (λ p. refl) h)
  telling_table (d.Prepares tid server) when w m k h = part tid _ (λ p. refl) (act (acts.Vote tid (member_here w server) votes.Recoverable (served_count tid server w)) (part tid (participant.voted (member_here w server) votes.Recoverable (served_count tid server w)) (λ p. refl) h))
  telling_table (d.SaysYes tid known superior) when w m k h = part tid participant.released (λ p. refl) h
  telling_table (d.TakesCauses tid) when w m k h = part tid participant.take_causes (λ p. refl) h
  telling_table (d.Forgets tid known) when w m k h = removed tid h
  telling_table (d.Decides tid outcome cause) when w m k h = act (acts.Decide tid outcome cause) (part tid (outcome_rules.decided outcome) (λ p. refl) h)
  telling_table (d.TakesOutcome tid outcome) when w m k h = part tid (outcome_rules.took_outcome outcome) (λ p. refl) h
  telling_table (d.KeepsAbort tid) when w m k h = aborted tid w.node.manager h
  telling_table (d.KeepsTold tid peer) when w m k h = part tid (outcome_rules.add_tell peer) (λ p. refl) (aborted tid w.node.manager h)
  telling_table (d.TakesNames tid further) when w m k h = part tid (outcome_rules.take_names tid.home further) (λ p. refl) h
  telling_table (d.Acknowledges tid peer) when w m k h = part tid (outcome_rules.acknowledged peer) (λ p. refl) h
  telling_table (d.EndsCommit tid peer) when w m k h = removed tid (part tid (outcome_rules.logged (records.End tid)) (λ p. refl) (part tid (outcome_rules.acknowledged peer) (λ p. refl) h))
  telling_table (d.AddsTold tid peer) when w m k h = part tid (participant.add_told peer) (λ p. refl) h
  telling_table (d.AddsTell tid peer) when w m k h = part tid (outcome_rules.add_tell peer) (λ p. refl) h
  telling_table (d.Notices tid peer) when w m k h = part tid (participant.restarted peer) (λ p. refl) h
  telling_table deed when w m k h = h
