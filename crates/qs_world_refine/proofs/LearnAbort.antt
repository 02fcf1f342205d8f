-- Another node than the home learns abort, whether it knew the transaction or not: Learn_abort; and Told goes.
use Rattle.qs_world_refine.proofs.Words.{◌≡◌, ℕ, Bool, true, false, List, [], ◌++◌, Option, Some, None, unwrap_or, refl, sym, subst, ap, ◌∙◌, if◌then◌else◌, is_some, filter, is_at, tid_cmp, NodeNo, Tid, same_node, is_no_node, listed, Message, Record, recovery, named_by, aborted_participant, new_participant, is_undecided, Participant, is_forced, send, log_if, give_notices, Sending, Work, here, part_of, with_manager, message_came, learn, learn_unknown, names_of, Aborted, IsLawful, Face, node_no}
use Rattle.qs_world_refine.proofs.Words.{all_said, face, face_at, part_at, unknown_at_home, NamedGoes, sight_faced, Scene, sight_during, ShowsWork, handed, Sight, ShowsSight, Goes}
use Rattle.qs_base.specs.declared.identifiers.Outcome.TheVariants as outcomes
use Rattle.qs_packet.specs.declared.message.Message.TheVariants as messages
use Rattle.qs_record.specs.declared.record.Record.TheVariants as records
use Rattle.qs_tm.specs.Manager as tm
use Rattle.qs_tm.specs.Outcomes as outcome_rules
use Rattle.qs_world_agree.specs.World.{World}
use Rattle.qs_world_refine.specs.AbortRules.{IsToldAbort, TellAbortGoes, TellAbortUnknownGoes}
use Rattle.qs_world_refine.specs.Shows.{sent_to}
use Rattle.qs_world_refine.specs.Steps.{Knows}
use Rattle.qs_world_refine.proofs.Alike.{SameFace, face_on, found_itself}
use Rattle.qs_world_refine.proofs.During.{Quiet, forced_log, recovery_same, local_shown, face_here, runs}
use Rattle.qs_world_refine.proofs.Keeping.{part_keeps}
use Rattle.qs_world_refine.proofs.Known.{is_open}
use Rattle.qs_world_refine.proofs.LearningAbort.{learn_abort}
use Rattle.qs_world_refine.proofs.Maps.{lookup_changed, lookup_put}
use Rattle.qs_world_refine.proofs.MetWork.{tid_itself}
use Rattle.qs_world_refine.proofs.NodeSets.{none_listed}
use Rattle.qs_world_refine.proofs.Notices.{Learns, notices_learn}
use Rattle.qs_world_refine.proofs.Reading.{part_known}
use Rattle.qs_world_refine.proofs.StartWorlds.{nobody}
use Rattle.qs_world_refine.proofs.TellAbortCame as came

-- ---- it knew the transaction

module _ (tid : Tid) (scene : Scene) (n m i : ℕ) (rest : List Message) (work : Work) (part : Participant) (w : World) (lawful : IsLawful w) (shown : ShowsWork tid scene n work w) (is : IsToldAbort tid scene n m i rest work)
    (knows : Knows tid work part) (undecided : part.outcome ≡ None) (nobody_told : is_no_node part.tell ≡ true) where
  abbrev later : Scene
  later = handed scene m i n rest

  abbrev x : Sight
  x = sight_during tid later n work

  face_before : x.face n ≡ face work.node tid part
  face_before = came.face_before tid scene n m i rest work w lawful shown is part knows

  turn : NamedGoes tid x (sight_faced x n (record (x.face n) { outcome = Aborted })) w n
  turn = learn_abort tid x w n lawful (came.shown_later tid scene n m i rest work w lawful shown is) (runs tid later n work (came.at_later tid scene n m i rest work w lawful shown is work refl)) (rw face_before (rw undecided refl))
      (came.told tid scene n m i rest work w lawful shown is) (came.met tid scene n m i rest work w lawful shown is) (came.elsewhere tid scene n m i rest work w lawful shown is) (came.home_in tid scene n m i rest work w lawful shown is)
      (λ k. ap (λ (f : Face). f.tell k) face_before ∙ none_listed part.tell k knows.whole.tell nobody_told)

  abbrev took : Work
  took = with_manager (tm.took_outcome tid outcomes.Abort) work

  abbrev noticed : Work
  noticed = give_notices tid outcomes.Abort took

  abbrev learnt : Option Record → Work
  learnt rec = log_if rec noticed

  notices : Learns tid took noticed
  notices = notices_learn tid outcomes.Abort took

  known_took : part_of tid took ≡ Some (outcome_rules.took_outcome outcomes.Abort part)
  known_took = lookup_changed (is_at (tid_cmp tid)) (outcome_rules.took_outcome outcomes.Abort) work.node.manager.known part knows.known

  face_noticed : SameFace (record (face work.node tid part) { outcome = Aborted }) (face_at noticed.node tid)
  face_noticed = face_on (record (face work.node tid part) { outcome = Aborted }) (face_at took.node tid) (face_at noticed.node tid)
      (rw (part_known tid took.node (outcome_rules.took_outcome outcomes.Abort part) known_took)
      (record { is_home = refl; on = rw (came.not_here tid scene n m i rest work w lawful shown is) refl; superior = refl; last = λ k. refl; sent = λ k. refl; covered = λ k. refl; waits = λ s. refl; uncast = λ s. refl; loans = refl; asked = refl; blocked = refl; involved = refl; told = λ k. refl; outcome = refl; tell = λ k. refl }))
      notices.keeps.face

  -- Aborted is not forced: it counts at the end of the step
  abbrev rec : Record
  rec = records.Aborted tid

  face_logged : SameFace (face_at noticed.node tid) (face_at (learnt (Some rec)).node tid)
  face_logged = (part_keeps tid (outcome_rules.logged rec) noticed
      (λ part. record { is_home = refl; on = refl; superior = refl; last = λ k. refl; sent = λ k. refl; covered = λ k. refl; waits = λ s. refl; uncast = λ s. refl; loans = refl; asked = refl; blocked = refl; involved = refl; told = λ k. refl; outcome = refl; tell = λ k. refl })).face

  quiet_of : (new : Work) → new.out.messages ≡ work.out.messages → ((log : List Record) → forced_log log new ≡ forced_log log work) → Quiet tid work new
  quiet_of new messages_same logs_same = record { sends = λ q. ap (λ (l : List Sending). all_said tid (sent_to q l)) messages_same; logs = λ log. rw (logs_same log) (found_itself tid (forced_log log work)) }

  learnt_goes : (new : Work) → new.node.setting ≡ work.node.setting → Quiet tid work new → SameFace (record (face work.node tid part) { outcome = Aborted }) (face_at new.node tid)
      → (if is_undecided part then learn tid outcomes.Abort part work else work) ≡ new → Goes tid later n (message_came (node_no m) (messages.Tell tid outcomes.Abort) work) w
  learnt_goes new setting quiet same new_is = subst (λ (k : Work). Goes tid later n k w) (sym (came.known_is_came tid scene n m i rest work w lawful shown is part knows new new_is))
      (came.told_put tid scene n m i rest work w lawful shown is new (record (x.face n) { outcome = Aborted }) (listed (named_by tid.home part)) turn refl setting
      (local_shown tid later n work new turn.next quiet (record (face work.node tid part) { outcome = Aborted }) (subst (λ (f : Face). ShowsSight tid (sight_faced x n (record f { outcome = Aborted })) turn.next) face_before turn.shown) same)
      (came.names tid scene n m i rest work w lawful shown is part knows))

  noticed_log : (log : List Record) → forced_log log noticed ≡ forced_log log work
  noticed_log log = ap (λ (l : List Record). recovery (log ++ filter is_forced l)) notices.silent.records

  learn_is : (b : Bool) → part.log.prepared ≡ b → (if is_undecided part then learn tid outcomes.Abort part work else work) ≡ learnt (if b then Some rec else None)
  learn_is b prepared = ap (λ (u : Bool). if u then learn tid outcomes.Abort part work else work) (is_open part undecided) ∙ ap (λ (p : Bool). log_if (if p then Some rec else None) noticed) prepared

  pub abort_goes : Goes tid later n (message_came (node_no m) (messages.Tell tid outcomes.Abort) work) w
  abort_goes = by part.log.prepared refl
    where
      by : (b : Bool) → part.log.prepared ≡ b → Goes tid later n (message_came (node_no m) (messages.Tell tid outcomes.Abort) work) w
      by true prepared = learnt_goes (learnt (Some rec)) notices.silent.setting (quiet_of (learnt (Some rec)) notices.silent.messages (λ log. recovery_same tid noticed rec log refl ∙ noticed_log log))
          (face_on (record (face work.node tid part) { outcome = Aborted }) (face_at noticed.node tid) (face_at (learnt (Some rec)).node tid) face_noticed face_logged) (learn_is true prepared)
      by false prepared = learnt_goes noticed notices.silent.setting (quiet_of noticed notices.silent.messages noticed_log) face_noticed (learn_is false prepared)

pub tell_abort : TellAbortGoes
tell_abort tid scene n m i rest work part w lawful shown is knows undecided nobody_told = abort_goes tid scene n m i rest work part w lawful shown is knows undecided nobody_told

-- ---- it knew nothing of it

module _ (tid : Tid) (scene : Scene) (n m i : ℕ) (rest : List Message) (work : Work) (w : World) (lawful : IsLawful w) (shown : ShowsWork tid scene n work w) (is : IsToldAbort tid scene n m i rest work)
    (manager_is : work.node.manager.node ≡ work.node.setting.node) (none : part_of tid work ≡ None) where
  abbrev later_of : Scene
  later_of = handed scene m i n rest

  abbrev seen : Sight
  seen = sight_during tid later_of n work

  abbrev kept : Work
  kept = with_manager (tm.keep_abort tid) work

  not_home : same_node tid.home (here work) ≡ false
  not_home = came.not_home tid scene n m i rest work w lawful shown is

  part_none : part_at work.node tid ≡ new_participant false
  part_none = by (part_of tid work) none (same_node tid.home (here work)) not_home
    where
      by : (o : Option Participant) → o ≡ None → (b : Bool) → b ≡ false → unwrap_or o (if b then unknown_at_home work.node tid else new_participant false) ≡ new_participant false
      by o is b home = rw (is, home) refl

  face_unknown : seen.face n ≡ face work.node tid (new_participant false)
  face_unknown = face_here tid later_of n work ∙ ap (λ (p : Participant). face work.node tid p) part_none

  turn_unknown : NamedGoes tid seen (sight_faced seen n (record (seen.face n) { outcome = Aborted })) w n
  turn_unknown = learn_abort tid seen w n lawful (came.shown_later tid scene n m i rest work w lawful shown is) (runs tid later_of n work (came.at_later tid scene n m i rest work w lawful shown is work refl)) (rw face_unknown refl)
      (came.told tid scene n m i rest work w lawful shown is) (came.met tid scene n m i rest work w lawful shown is) (came.elsewhere tid scene n m i rest work w lawful shown is) (came.home_in tid scene n m i rest work w lawful shown is)
      (λ k. ap (λ (f : Face). f.tell k) face_unknown ∙ nobody k)

  known_kept : part_of tid kept ≡ Some (aborted_participant false)
  known_kept = by (part_of tid work) none (same_node tid.home work.node.manager.node) (ap (λ (k : NodeNo). same_node tid.home k) manager_is ∙ not_home)
    where
      by : (o : Option Participant) → o ≡ None → (b : Bool) → b ≡ false → tm.part_of tid (if is_some o then work.node.manager else tm.put_part tid (aborted_participant b) work.node.manager) ≡ Some (aborted_participant false)
      by o is false home = rw is (lookup_put tid_cmp tid (aborted_participant false) (tid_itself tid) work.node.manager.known)
      by o is true home = absurd (cc home)

  face_kept : SameFace (record (face work.node tid (new_participant false)) { outcome = Aborted }) (face kept.node tid (aborted_participant false))
  face_kept = record { is_home = refl; on = rw (came.not_here tid scene n m i rest work w lawful shown is) refl; superior = refl; last = λ k. refl; sent = λ k. refl; covered = λ k. refl; waits = λ s. refl; uncast = λ s. refl; loans = refl; asked = refl; blocked = refl; involved = refl; told = λ k. refl; outcome = refl; tell = λ k. refl }

  pub unknown_goes : Goes tid later_of n (message_came (node_no m) (messages.Tell tid outcomes.Abort) work) w
  unknown_goes = subst (λ (k : Work). Goes tid later_of n k w) (sym work_is)
      (came.told_put tid scene n m i rest work w lawful shown is kept (record (seen.face n) { outcome = Aborted }) [] turn_unknown refl refl
      (local_shown tid later_of n work kept turn_unknown.next (record { sends = λ q. refl; logs = λ log. found_itself tid _ }) (record (face work.node tid (new_participant false)) { outcome = Aborted })
      (subst (λ (f : Face). ShowsSight tid (sight_faced seen n (record f { outcome = Aborted })) turn_unknown.next) face_unknown turn_unknown.shown)
      (rw (part_known tid kept.node (aborted_participant false) known_kept) face_kept))
      (λ k named. absurd (cc named)))
    where
      work_is : message_came (node_no m) (messages.Tell tid outcomes.Abort) work ≡ send (node_no m) (messages.Told tid []) kept
      work_is = came.came_is tid scene n m i rest work w lawful shown is
          ∙ ap (λ (o : Option Participant). send (node_no m) (messages.Told tid (elim o [ None ↦ [] | Some part ↦ names_of tid outcomes.Abort part ])) (elim o [ None ↦ learn_unknown tid outcomes.Abort work | Some part ↦ if is_undecided part then learn tid outcomes.Abort part work else work ])) none

pub tell_abort_unknown : TellAbortUnknownGoes
tell_abort_unknown tid scene n m i rest work w lawful shown is manager_is none = unknown_goes tid scene n m i rest work w lawful shown is manager_is none
