-- A home that is ready decides commit: Commit, Commit and End, or Commit_unlogged; and then it tells each node that is to be told.
use Rattle.qs_world_refine.proofs.Words.{◌≡◌, ℕ, ◌==◌, Bool, true, false, List, [], ◌∷◌, ◌++◌, Option, Some, None, refl, sym, subst, ap, ◌∙◌, if◌then◌else◌, filter, NodeNo, Tid, is_no_node, listed, Cause, Record, Recovery, found_record, recovery, Participant, is_forced, send_each, decide, is_busy, Sending, Work, Open, Committed, IsLawful, IsHome, HasNoDoubt, Face, node_no, names_node, all_said, face, face_at, began_here, place, SightGoes, FaceReady, sight_faced, sight_committed, Scene}
use Rattle.qs_world_refine.proofs.Words.{sight_during, ShowsWork, Sight, ShowsSight, Goes}
use Rattle.qs_base.specs.declared.identifiers.Outcome.TheVariants as outcomes
use Rattle.qs_packet.specs.declared.message.Message.TheVariants as messages
use Rattle.qs_record.specs.declared.record.Record.TheVariants as records
use Rattle.qs_tm.specs.Outcomes as outcome_rules
use Rattle.qs_tm.specs.Participant as participant
use Rattle.qs_world_agree.specs.World.{World}
use Rattle.qs_world_refine.specs.DecisionLaws.{DecideCommitGoes}
use Rattle.qs_world_refine.specs.Shows.{sent_to}
use Rattle.qs_world_refine.proofs.Alike.{SameFace, SameFound, found_itself}
use Rattle.qs_world_refine.proofs.Deciding as deciding
use Rattle.qs_world_refine.proofs.Deciding.{IsOwn, none_own, some_own}
use Rattle.qs_world_refine.proofs.During.{Quiet, forced_log, local_shown, runs}
use Rattle.qs_world_refine.proofs.EventGoes.{commit, commit_unlogged, undecided_cell}
use Rattle.qs_world_refine.proofs.Facts.{invariant}
use Rattle.qs_world_refine.proofs.Logging.{logged_shown}
use Rattle.qs_world_refine.proofs.NodeReady.{face_ready}
use Rattle.qs_world_refine.proofs.NodeSets.{listed_has, none_listed}
use Rattle.qs_world_refine.proofs.Notices.{Silent}
use Rattle.qs_world_refine.proofs.OutcomeGoes.{commit_alone}
use Rattle.qs_world_refine.proofs.Refaced.{refaced, retold}
use Rattle.qs_world_refine.proofs.SendGoes.{goes_on, tells_go}

module _ (tid : Tid) (scene : Scene) (cause : Option Cause) (work : Work) (part : Participant) (w : World) (is_home : IsHome tid scene work part) (shown : ShowsWork tid scene tid.home.0 work w) where
  abbrev h : ℕ
  h = tid.home.0

  abbrev x : Sight
  x = sight_during tid scene h work

  abbrev noticed : Option Record → Work
  noticed rec = deciding.noticed tid scene outcomes.Commit cause work part is_home rec

  abbrev decided_face : Face
  decided_face = deciding.decided_face tid scene outcomes.Commit cause work part is_home

  face_before : x.face h ≡ face work.node tid part
  face_before = deciding.face_before tid scene outcomes.Commit cause work part is_home

  began : began_here work.node tid ≡ true
  began = deciding.began tid scene outcomes.Commit cause work part is_home

  face_noticed : (rec : Option Record) → IsOwn tid rec → SameFace decided_face (face_at (noticed rec).node tid)
  face_noticed rec own = deciding.face_noticed tid scene outcomes.Commit cause work part is_home rec own

  silent : (rec : Option Record) → Silent (deciding.entered tid scene outcomes.Commit cause work part is_home rec) (noticed rec)
  silent rec = (deciding.learnt tid scene outcomes.Commit cause work part is_home rec).silent

  -- ---- then it tells

  told_each : (rec : Option Record) → IsOwn tid rec → (nodes : List NodeNo) → Goes tid scene h (noticed rec) w → Goes tid scene h (send_each nodes (messages.Tell tid outcomes.Commit) (noticed rec)) w
  told_each rec own nodes turn = goes_on tid scene h (send_each nodes (messages.Tell tid outcomes.Commit) (noticed rec)) w turn.next turn.leads
      (tells_go tid scene h refl nodes (noticed rec) turn.next (deciding.at_noticed tid scene outcomes.Commit cause work part is_home rec) (face_noticed rec own).outcome turn.shown)

  -- what is seen once the event happened
  retold_here : (found : ℕ → Recovery) (v : World) → ShowsSight tid (record x { face = λ k. if k == h then record (x.face h) { on = false; outcome = Committed } else x.face k; found = found }) v
      → ShowsSight tid (record x { face = λ k. if k == h then decided_face else x.face k; found = found }) v
  retold_here found v seen = refaced tid x v h (record (face work.node tid part) { on = false; outcome = Committed }) decided_face x.said found (retold (record (face work.node tid part) { on = false; outcome = Committed }) decided_face.tell (place h (x.inc h)) v refl)
      (subst (λ (f : Face). ShowsSight tid (record x { face = λ k. if k == h then record f { on = false; outcome = Committed } else x.face k; found = found }) v) face_before seen)

  logged_goes : (nodes : List NodeNo) → SightGoes tid (sight_committed tid x nodes) w → Goes tid scene h (noticed (Some (records.Commit tid nodes))) w
  logged_goes nodes turn = record {
    next = turn.next;
    leads = turn.leads;
    shown = logged_shown tid scene h (records.Commit tid nodes) work (noticed (Some (records.Commit tid nodes))) turn.next refl
        (silent (Some (records.Commit tid nodes))).records (silent (Some (records.Commit tid nodes))).messages decided_face
        (retold_here (λ k. if k == h then found_record (x.found h) (records.Commit tid nodes) else x.found k) turn.next turn.shown)
        (face_noticed (Some (records.Commit tid nodes)) (some_own tid (records.Commit tid nodes) refl));
  }

  unlogged_goes : SightGoes tid (sight_faced x h (record (x.face h) { on = false; outcome = Committed })) w → Goes tid scene h (noticed None) w
  unlogged_goes turn = record {
    next = turn.next;
    leads = turn.leads;
    shown = local_shown tid scene h work (noticed None) turn.next quiet decided_face (retold_here x.found turn.next turn.shown) (face_noticed None (none_own tid));
  }
    where
      quiet : Quiet tid work (noticed None)
      quiet = record { sends = λ q. ap (λ (l : List Sending). all_said tid (sent_to q l)) (silent None).messages; logs = λ log. alike log }
        where
          alike : (log : List Record) → SameFound tid (forced_log log work) (forced_log log (noticed None))
          alike log = rw (ap (λ (l : List Record). recovery (log ++ filter is_forced l)) (silent None).records) (found_itself tid (forced_log log work))

  -- ---- the rule

  module _ (lawful : IsLawful w) (ready : participant.is_ready (is_busy tid work.node part) part ≡ true) (clear : HasNoDoubt tid scene h work part) where
    on : (face work.node tid part).on ≡ true
    on = rw (began, is_home.undecided) refl

    ready_here : FaceReady (x.face h) (place h (scene.inc h)) w
    ready_here = rw face_before (face_ready tid (place h (scene.inc h)) work.node part w is_home.knows.whole (λ s. shown.stage.classes (w.node (place h (scene.inc h))) s) is_home.undecided on ready)

    here : (x.face h).is_home ≡ true
    here = rw face_before began

    cell : w.cell ≡ Open
    cell = undecided_cell tid x w lawful shown (runs tid scene h work is_home.at) (sym is_home.first) ready_here.undecided

    unended : w.unended ≡ false
    unended = by w.unended refl
      where
        by : (b : Bool) → w.unended ≡ b → b ≡ false
        by false is = refl
        by true is = absurd (let decided : w.cell ≡ Committed = (invariant w lawful).outcomes.logged ((invariant w lawful).outcomes.stands is) in cc (decided, cell))

    told_listed : (m : ℕ) → (x.face h).told m ≡ names_node (listed part.told) (node_no m)
    told_listed m = ap (λ (f : Face). f.told m) face_before ∙ sym (listed_has part.told m is_home.knows.whole.told)

    committed : (nodes : List NodeNo) → listed part.told ≡ nodes → SightGoes tid (sight_committed tid x nodes) w
    committed [] is = commit_alone tid x w lawful shown (runs tid scene h work is_home.at) (sym is_home.first) here ready_here (λ m. told_listed m ∙ ap (λ (l : List NodeNo). names_node l (node_no m)) is)
    committed (first ∷ others) is = commit tid x w first others lawful shown (runs tid scene h work is_home.at) (sym is_home.first) here ready_here (λ m. told_listed m ∙ ap (λ (l : List NodeNo). names_node l (node_no m)) is) unended

    unlogged : part.log.prepared ≡ false → is_no_node part.told ≡ true → SightGoes tid (sight_faced x h (record (x.face h) { on = false; outcome = Committed })) w
    unlogged unprepared nobody = commit_unlogged tid x w lawful shown (runs tid scene h work is_home.at) (sym is_home.first) here ready_here
        (λ m. ap (λ (f : Face). f.told m) face_before ∙ none_listed part.told m is_home.knows.whole.told nobody)
        (λ s. (shown.logs h is_home.at.in_run).prepared s ∙ clear unprepared s)

    pub decide_goes : Goes tid scene h (decide tid outcomes.Commit cause work) w
    decide_goes = by (part.log.prepared) (is_no_node part.told) refl refl
      where
        logs : List NodeNo
        logs = listed part.told

        rec_is : (b : Bool) → outcome_rules.writes_commit part ≡ b → outcome_rules.record_of tid outcomes.Commit part ≡ (if b then Some (records.Commit tid logs) else None)
        rec_is b is = ap (λ (b : Bool). if b then Some (records.Commit tid logs) else None) is

        written : outcome_rules.writes_commit part ≡ true → Goes tid scene h (decide tid outcomes.Commit cause work) w
        written is = subst (λ (k : Work). Goes tid scene h k w) (sym (deciding.decide_is tid scene outcomes.Commit cause work part is_home (Some (records.Commit tid logs)) (rec_is true is)))
            (told_each (Some (records.Commit tid logs)) (some_own tid (records.Commit tid logs) refl) logs (logged_goes logs (committed logs refl)))

        by : (a b : Bool) → part.log.prepared ≡ a → is_no_node part.told ≡ b → Goes tid scene h (decide tid outcomes.Commit cause work) w
        by true b ea eb = written (rw ea refl)
        by false false ea eb = written (rw (ea, eb) refl)
        by false true ea eb = subst (λ (k : Work). Goes tid scene h k w) (sym (deciding.decide_is tid scene outcomes.Commit cause work part is_home None (rec_is false (rw (ea, eb) refl)))) (told_each None (none_own tid) logs (unlogged_goes (unlogged ea eb)))

pub decide_commit : DecideCommitGoes
decide_commit tid scene cause work part w lawful shown is_home ready clear = decide_goes tid scene cause work part w is_home shown lawful ready clear
