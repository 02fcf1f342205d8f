-- A Tell with commit comes to a node that is undecided: Learn where it is involved, else Acknowledge; and Told goes.
use Rattle.qs_world_refine.proofs.Words.{◌≡◌, ◌≢◌, inl, inr, ℕ, ◌<◌, ◌==◌, ◌&&◌, Bool, true, false, List, [], ◌∷◌, ◌++◌, Option, Some, None, refl, sym, subst, ap, ◌∙◌, arith, if◌then◌else◌, filter, is_at, eqb-true, nat_tests, tid_cmp, NodeNo, Tid, same_node, Message, Record, Recovery, recovery, found_record, is_undecided, Participant, is_other, is_forced, send, log, log_if, give_notices, Sending, Setting, Work, here, part_of, with_manager, tell_came, take_outcome, learn, learn_unknown, names_at}
use Rattle.qs_world_refine.proofs.Words.{names_of, Open, Committed, IsLawful, Face, Said, Outcome_told, Taken_in, Link, link, IsLink, IsEmpty, node_no, all_said, face, face_at, began_here, place, sight_faced, Scene, sight_during, ShowsWork, handed, Sight, ShowsSight, is_in_doubt, IsAt, IsNext, IsKnown, Goes}
use Rattle.qs_base.specs.declared.identifiers.Outcome.TheVariants as outcomes
use Rattle.qs_packet.specs.declared.message.Message.TheVariants as messages
use Rattle.qs_record.specs.declared.record.Record.TheVariants as records
use Rattle.qs_tm.specs.Manager as tm
use Rattle.qs_tm.specs.Outcomes as outcome_rules
use Rattle.qs_world_agree.specs.World.{World}
use Rattle.qs_world_refine.specs.Seen.{AckGoes, sight_learnt}
use Rattle.qs_world_refine.specs.Shows.{sent_to}
use Rattle.qs_world_refine.specs.Steps.{Knows}
use Rattle.qs_world_refine.proofs.Alike.{SameFace, SameFound, face_on, same_itself, found_itself, sight_alike}
use Rattle.qs_world_refine.proofs.Around.{known_is, place_some}
use Rattle.qs_world_refine.proofs.During.{Quiet, quiet_itself, forced_log, local_shown, face_here, runs, meets}
use Rattle.qs_world_refine.proofs.Handing.{taken_shown, head_said}
use Rattle.qs_world_refine.proofs.Keeping.{part_keeps}
use Rattle.qs_world_refine.proofs.Known.{told_is, is_open}
use Rattle.qs_world_refine.proofs.Learning as learning
use Rattle.qs_world_refine.proofs.LogEnds.{doubt_ended}
use Rattle.qs_world_refine.proofs.Logging.{logged_shown}
use Rattle.qs_world_refine.proofs.Maps.{lookup_changed}
use Rattle.qs_world_refine.proofs.Notices.{notices_learn}
use Rattle.qs_world_refine.proofs.Posting.{put_shown, send_is}
use Rattle.qs_world_refine.proofs.Reading.{part_known}
use Rattle.qs_world_refine.proofs.Same.{tid_same}
use Rattle.qs_world_refine.proofs.Streams.{ended}

-- ---- a link to which one message is put that the machine doesn't count

ends_empty : (l : Link) → IsEmpty (ended l l)
ends_empty l = record { requests = omega arith; closers = omega arith; inquiries = λ _. omega arith; all_requests = λ _. refl; all_closers = λ _. refl; all_inquiries = λ _ _. refl }

-- a Told on commit is put where the place has acknowledged it
pub told_put : (tid : Tid) (scene : Scene) (n m i : ℕ) (work : Work) (w : World) → IsAt scene n work → IsKnown scene n m i → w.ack_put (place n (scene.inc n)) ≡ true → ShowsWork tid scene n work w
    → ShowsWork tid scene n (send (node_no m) (messages.Told tid []) work) w
told_put tid scene n m i work w at peer acks shown = subst (λ (k : Work). ShowsWork tid scene n k w) (sym (send_is (node_no m) (messages.Told tid []) work goes_out))
    (put_shown tid scene n (node_no m) (messages.Told tid []) (Taken_in []) work work w (quiet_itself tid work) (rw (tid_same tid) refl) m i refl peer.knows peer.some ((sight_during tid scene n work).face n)
    (learning.uncounted_said tid (sight_during tid scene n work) w n m i (Taken_in []) shown (runs tid scene n work at) peer.in_run (inl (acks, refl), ends_empty (link w (place n (scene.inc n)) (place m i))))
    (rw (face_here tid scene n work) (same_itself (face_at work.node tid))))
  where
    goes_out : is_other work.node.setting (node_no m) ≡ true
    goes_out = rw (at.node, at.nodes) (grind (arith, nat_tests, peer.other, peer.in_run))

-- ---- the rule

module _ (tid : Tid) (scene : Scene) (n m i : ℕ) (rest : List Message) (work : Work) (part : Participant) (w : World)
    (at : IsAt scene n work) (next : IsNext scene n m i (messages.Tell tid outcomes.Commit) rest) (from_home : m ≡ tid.home.0) (knows : Knows tid work part) (undecided : part.outcome ≡ None) (away : part.engage.home ≡ false)
    (shown : ShowsWork tid scene n work w) where
  abbrev later : Scene
  later = handed scene m i n rest

  abbrev x : Sight
  x = sight_during tid later n work

  elsewhere : tid.home.0 ≢ n
  elsewhere = λ e. next.from.other (from_home ∙ e)

  home_in : tid.home.0 < scene.size
  home_in = subst (λ (k : ℕ). k < scene.size) from_home next.from.in_run

  at_later : IsAt later n work
  at_later = record { in_run = at.in_run; up = at.up; node = at.node; nodes = at.nodes; inc = at.inc }

  peer_later : IsKnown later n m i
  peer_later = record { in_run = next.from.in_run; other = next.from.other; knows = next.from.knows; some = next.from.some }

  link_before : IsLink (link w (place m i) (place n (scene.inc n))) (Outcome_told true ∷ all_said tid rest)
  link_before = subst (λ (l : List Said). IsLink (link w (place m i) (place n (scene.inc n))) l) head (shown.links m i n (scene.inc n) next.from.in_run at.in_run at.up refl)
    where
      head : (sight_during tid scene n work).said m i n (scene.inc n) ≡ Outcome_told true ∷ all_said tid rest
      head = head_said tid scene n m i (messages.Tell tid outcomes.Commit) rest work.out.messages next ∙ rw (tid_same tid) refl

  told : w.tell_commit n ≡ true
  told = ap w.tell_commit (sym (shown.stage.nodes n (scene.inc n) at.in_run)) ∙ link_before.0

  met : w.peer (place n (scene.inc n)) tid.home.0 ≢ 0
  met = subst (λ (k : ℕ). w.peer (place n (scene.inc n)) k ≢ 0) from_home (λ e. none (sym (shown.stage.peers n m at.in_run next.from.in_run at.up ∙ rw next.from.knows (known_is m i next.from.some)) ∙ e))
    where
      none : place m i ≡ 0 → ⊥
      none e = let some = place_some m i next.from.some in omega (arith, e, some)

  shown_later : ShowsWork tid later n work w
  shown_later = taken_shown tid scene n m i (messages.Tell tid outcomes.Commit) rest work work w next (quiet_itself tid work) ((sight_during tid scene n work).face n)
      (learning.uncounted_taken tid (sight_during tid scene n work) w n m i (all_said tid rest) shown (runs tid scene n work at) (meets tid scene n m i work next.from) link_before.1)
      (rw (face_here tid scene n work) (same_itself (face_at work.node tid)))

  face_before : x.face n ≡ face work.node tid part
  face_before = face_here tid later n work ∙ ap (λ (p : Participant). face work.node tid p) (part_known tid work.node part knows.known)

  not_here : began_here work.node tid ≡ false
  not_here = by (same_node tid.home work.node.setting.node) (rw at.node (grind (arith, nat_tests, elsewhere)))
    where
      by : (b : Bool) → b ≡ false → (b && (tid.inc == work.node.setting.inc)) ≡ false
      by b e = rw e refl

  abbrev took : Work
  took = with_manager (tm.took_outcome tid outcomes.Commit) work

  abbrev noticed : Work
  noticed = give_notices tid outcomes.Commit took

  known_took : part_of tid took ≡ Some (outcome_rules.took_outcome outcomes.Commit part)
  known_took = lookup_changed (is_at (tid_cmp tid)) (outcome_rules.took_outcome outcomes.Commit) work.node.manager.known part knows.known

  -- what is seen of the node once its servers learnt it
  face_noticed : (f : Face) → SameFace f (face took.node tid (outcome_rules.took_outcome outcomes.Commit part)) → SameFace f (face_at noticed.node tid)
  face_noticed f same = face_on f (face_at took.node tid) (face_at noticed.node tid) (rw (part_known tid took.node (outcome_rules.took_outcome outcomes.Commit part) known_took) same) (notices_learn tid outcomes.Commit took).keeps.face

  abbrev rec : Record
  rec = records.Commit tid []

  log_face : SameFace (face_at noticed.node tid) (face_at (log rec noticed).node tid)
  log_face = (part_keeps tid (outcome_rules.logged rec) noticed
      (λ part. record { is_home = refl; on = refl; superior = refl; last = λ m. refl; sent = λ m. refl; covered = λ m. refl; waits = λ s. refl; uncast = λ s. refl; loans = refl; asked = refl; blocked = refl; involved = refl; told = λ m. refl; outcome = refl; tell = λ m. refl })).face

  at_end : IsAt later n noticed
  at_end = record { in_run = at.in_run; up = at.up; node = ap (λ (s : Setting). s.node) setting_is ∙ at.node; nodes = ap (λ (s : Setting). s.nodes) setting_is ∙ at.nodes; inc = ap (λ (s : Setting). s.inc) setting_is ∙ at.inc }
    where
      setting_is : noticed.node.setting ≡ work.node.setting
      setting_is = (notices_learn tid outcomes.Commit took).silent.setting

  at_logged : IsAt later n (log rec noticed)
  at_logged = record { in_run = at_end.in_run; up = at_end.up; node = at_end.node; nodes = at_end.nodes; inc = at_end.inc }

  -- ---- it is involved

  module _ (involved : part.involved ≡ true) where
    open_now : (x.face n).outcome ≡ Open
    open_now = rw face_before (rw undecided refl)

    involved_now : (x.face n).involved ≡ true
    involved_now = rw face_before involved

    face_took : SameFace (record (face work.node tid part) { outcome = Committed }) (face took.node tid (outcome_rules.took_outcome outcomes.Commit part))
    face_took = record { is_home = refl; on = rw not_here refl; superior = refl; last = λ m. refl; sent = λ m. refl; covered = λ m. refl; waits = λ s. refl; uncast = λ s. refl; loans = refl; asked = refl; blocked = refl; involved = refl; told = λ m. refl; outcome = rw (involved, away) refl; tell = λ m. refl }

    same_now : SameFace (record (x.face n) { outcome = Committed }) (face_at noticed.node tid)
    same_now = rw face_before (face_noticed (record (face work.node tid part) { outcome = Committed }) face_took)

    learn_turn : (found : Recovery) → ((s : ℕ) → is_in_doubt tid s found ≡ false) → AckGoes tid (sight_learnt x n found) w (place n (scene.inc n))
    learn_turn found clear = learning.learn tid x w n found shown_later (runs tid later n work at_later) open_now involved_now told met elsewhere home_in clear

    -- with a Prepare in its log
    logged_goes : AckGoes tid (sight_learnt x n (found_record (x.found n) rec)) w (place n (scene.inc n)) → Goes tid later n (send (node_no m) (messages.Told tid []) (log rec noticed)) w
    logged_goes turn = record {
      next = turn.next;
      leads = turn.leads;
      shown = told_put tid later n m i (log rec noticed) turn.next at_logged peer_later turn.acks
          (logged_shown tid later n rec work (log rec noticed) turn.next refl (ap (λ (l : List Record). l ++ rec ∷ []) (notices_learn tid outcomes.Commit took).silent.records) (notices_learn tid outcomes.Commit took).silent.messages
          (record (x.face n) { outcome = Committed }) turn.shown (face_on (record (x.face n) { outcome = Committed }) (face_at noticed.node tid) (face_at (log rec noticed).node tid) same_now log_face));
    }

    pub prepared_goes : Goes tid later n (send (node_no m) (messages.Told tid []) (log rec noticed)) w
    prepared_goes = logged_goes (learn_turn (found_record (x.found n) rec) (λ s. doubt_ended tid s (x.found n).prepared))

    -- and with none: nothing of it stands in its log
    learnt_goes : AckGoes tid (sight_learnt x n (x.found n)) w (place n (scene.inc n)) → Goes tid later n (send (node_no m) (messages.Told tid []) noticed) w
    learnt_goes turn = record {
      next = turn.next;
      leads = turn.leads;
      shown = told_put tid later n m i noticed turn.next at_end peer_later turn.acks (local_shown tid later n work noticed turn.next quiet_now (record (x.face n) { outcome = Committed }) faced same_now);
    }
      where
        quiet_now : Quiet tid work noticed
        quiet_now = record { sends = λ q. ap (λ (l : List Sending). all_said tid (sent_to q l)) (notices_learn tid outcomes.Commit took).silent.messages; logs = λ log. alike log }
          where
            alike : (log : List Record) → SameFound tid (forced_log log work) (forced_log log noticed)
            alike log = rw (ap (λ (l : List Record). recovery (log ++ filter is_forced l)) (notices_learn tid outcomes.Commit took).silent.records) (found_itself tid (forced_log log work))

        faced : ShowsSight tid (sight_faced x n (record (x.face n) { outcome = Committed })) turn.next
        faced = sight_alike tid (sight_learnt x n (x.found n)) (sight_faced x n (record (x.face n) { outcome = Committed })) turn.next
            (record { size = refl; inc = refl; up = refl; knows = refl; face = λ k. same_itself ((sight_faced x n (record (x.face n) { outcome = Committed })).face k); said = λ a k b l. refl; unmet = λ a b. refl; found = λ k. by k (k == n) refl }) turn.shown
          where
            by : (k : ℕ) (b : Bool) → (k == n) ≡ b → SameFound tid (if b then x.found n else x.found k) (x.found k)
            by k true e = rw (eqb-true k n e) (found_itself tid (x.found n))
            by k false e = found_itself tid (x.found k)

    pub unprepared_goes : ((s : ℕ) → is_in_doubt tid s (x.found n) ≡ false) → Goes tid later n (send (node_no m) (messages.Told tid []) noticed) w
    unprepared_goes clear = learnt_goes (learn_turn (x.found n) clear)

  -- ---- it is not: nothing of it is learnt but that it is over

  module _ (uninvolved : part.involved ≡ false) (off : (face work.node tid part).on ≡ false) where
    face_kept : SameFace (face work.node tid part) (face took.node tid (outcome_rules.took_outcome outcomes.Commit part))
    face_kept = record { is_home = refl; on = rw not_here refl; superior = refl; last = λ m. refl; sent = λ m. refl; covered = λ m. refl; waits = λ s. refl; uncast = λ s. refl; loans = refl; asked = refl; blocked = refl; involved = refl; told = λ m. refl; outcome = rw (undecided, uninvolved, away) refl; tell = λ m. refl }

    turn_ack : AckGoes tid (sight_faced x n (x.face n)) w (place n (scene.inc n))
    turn_ack = learning.acknowledge tid x w n shown_later (runs tid later n work at_later) told met elsewhere home_in (inr (rw face_before (rw undecided refl), rw face_before uninvolved, rw face_before off))

    pub acknowledged_goes : Goes tid later n (send (node_no m) (messages.Told tid []) noticed) w
    acknowledged_goes = record {
      next = turn_ack.next;
      leads = turn_ack.leads;
      shown = told_put tid later n m i noticed turn_ack.next at_end peer_later turn_ack.acks (local_shown tid later n work noticed turn_ack.next quiet_now (x.face n) turn_ack.shown (rw face_before (face_noticed (face work.node tid part) face_kept)));
    }
      where
        quiet_now : Quiet tid work noticed
        quiet_now = record { sends = λ q. ap (λ (l : List Sending). all_said tid (sent_to q l)) (notices_learn tid outcomes.Commit took).silent.messages; logs = λ log. alike log }
          where
            alike : (log : List Record) → SameFound tid (forced_log log work) (forced_log log noticed)
            alike log = rw (ap (λ (l : List Record). recovery (log ++ filter is_forced l)) (notices_learn tid outcomes.Commit took).silent.records) (found_itself tid (forced_log log work))

  -- ---- the rule

  -- what it comes to
  tell_is : (b : Bool) → part.log.prepared ≡ b → tell_came (node_no m) tid outcomes.Commit work ≡ send (node_no m) (messages.Told tid []) (log_if (if b then Some rec else None) noticed)
  tell_is b prepared =
      ap (λ (h : Bool). if h then work else send (node_no m) (messages.Told tid (names_at tid outcomes.Commit work)) (take_outcome tid outcomes.Commit work)) not_home
      ∙ (ap (λ (l : List NodeNo). send (node_no m) (messages.Told tid l) (take_outcome tid outcomes.Commit work)) (told_is tid [] (names_of tid outcomes.Commit) work.node.manager part knows.known)
      ∙ (ap (λ (o : Option Participant). send (node_no m) (messages.Told tid []) (elim o [ None ↦ learn_unknown tid outcomes.Commit work | Some part ↦ if is_undecided part then learn tid outcomes.Commit part work else work ])) knows.known
      ∙ (ap (λ (u : Bool). send (node_no m) (messages.Told tid []) (if u then learn tid outcomes.Commit part work else work)) (is_open part undecided)
      ∙ ap (λ (p : Bool). send (node_no m) (messages.Told tid []) (log_if (if p then Some rec else None) noticed)) prepared)))
    where
      not_home : same_node tid.home (here work) ≡ false
      not_home = rw at.node (grind (arith, nat_tests, elsewhere))

  pub tell_goes : IsLawful w → (part.log.prepared ≡ true → part.involved ≡ true) → (part.log.prepared ≡ false → (s : ℕ) → is_in_doubt tid s (x.found n) ≡ false) → Goes tid later n (tell_came (node_no m) tid outcomes.Commit work) w
  tell_goes lawful prepares clear = by part.log.prepared refl part.involved refl
    where
      off : part.involved ≡ false → (face work.node tid part).on ≡ false
      off _ = sym (ap (λ (f : Face). f.on) face_before) ∙ (sym (shown_later.faces n at.in_run at.up).engaged ∙ (lawful.settled (lawful.agreed.told_commit n told)).passive (place n (scene.inc n)))

      by : (b : Bool) → part.log.prepared ≡ b → (c : Bool) → part.involved ≡ c → Goes tid later n (tell_came (node_no m) tid outcomes.Commit work) w
      by true prepared c involved = subst (λ (k : Work). Goes tid later n k w) (sym (tell_is true prepared)) (prepared_goes (prepares prepared))
      by false prepared true involved = subst (λ (k : Work). Goes tid later n k w) (sym (tell_is false prepared)) (unprepared_goes involved (clear prepared))
      by false prepared false involved = subst (λ (k : Work). Goes tid later n k w) (sym (tell_is false prepared)) (acknowledged_goes involved (off involved))
