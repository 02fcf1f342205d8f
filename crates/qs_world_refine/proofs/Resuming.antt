-- What is told again as another node restarted, and what the first step of an incarnation of the home's node does: Tell, Tell_abort and Name_again.
use Rattle.qs_world_refine.proofs.Words.{◌≡◌, ◌≢◌, ℕ, ◌==◌, ◌&&◌, ◌||◌, not, Bool, true, false, [], ◌∷◌, Some, None, refl, sym, subst, ap, ◌∙◌, arith, if◌then◌else◌, is_some, eqb-true, and_from, and_right, and_parts, nat_tests, same_node, listed, is_abort, is_told_again, named_by, Participant, send, log_if, give_notices, name_again, Work, Aborted, Face, node_no, names_node, face, face_at, NamedGoes, drew, sight_faced, sight_during, ShowsWork, Sight, Goes}
use Rattle.qs_base.specs.declared.identifiers.Outcome.{Outcome}
use Rattle.qs_base.specs.declared.identifiers.Outcome.TheVariants as outcomes
use Rattle.qs_engage.specs.Nodes.{has_node}
use Rattle.qs_packet.specs.declared.message.Message.TheVariants as messages
use Rattle.qs_record.specs.declared.record.Record.TheVariants as records
use Rattle.qs_tm.specs.Outcomes as outcome_rules
use Rattle.qs_world_refine.specs.RestartLaws.{TellAgainGoes, NameHomeGoes, NameOtherGoes, ResumeCommitGoes, ResumeAbortGoes}
use Rattle.qs_world_refine.proofs.Alike.{SameFace, same_itself, found_itself}
use Rattle.qs_world_refine.proofs.During.{quiet_itself, forced_log, recovery_same, local_shown, face_here, runs}
use Rattle.qs_world_refine.proofs.Keeping.{Keeps, keeps_on, keeps_goes, nothing_goes, part_keeps}
use Rattle.qs_world_refine.proofs.LearningAbort as event
use Rattle.qs_world_refine.proofs.NamesPut.{names_put}
use Rattle.qs_world_refine.proofs.Notices.{notices_learn}
use Rattle.qs_world_refine.proofs.Reading.{part_known}
use Rattle.qs_world_refine.proofs.SendGoes.{tells_go, tells_abort}
use Rattle.qs_world_refine.proofs.TellAbortCame.{named_drew}

-- ---- it is told again

pub tell_again_goes : TellAgainGoes
tell_again_goes tid scene m outcome work part w shown at knows home decided = by (is_told_again (node_no m) part) refl
  where
    face_is : face_at work.node tid ≡ face work.node tid part
    face_is = ap (λ (p : Participant). face work.node tid p) (part_known tid work.node part knows.known)

    tells : is_told_again (node_no m) part ≡ true → (k : ℕ) → names_node (node_no m ∷ []) (node_no k) ≡ true → (face_at work.node tid).tell k ≡ true
    tells is k named = ap (λ (f : Face). f.tell k) face_is ∙ (ap (λ (j : ℕ). has_node part.tell (node_no j)) (only (k == m) refl named) ∙ (and_parts (is_some part.outcome) (has_node part.tell (node_no m)) (and_parts (is_some part.outcome && has_node part.tell (node_no m)) (is_abort part.outcome || not (has_node part.acknowledged (node_no m))) is).0).1)
      where
        only : (b : Bool) → (k == m) ≡ b → (b || false) ≡ true → k ≡ m
        only true e _ = eqb-true k m e
        only false e is = absurd (cc is)

    told : (o : Outcome) → part.outcome ≡ Some o → is_told_again (node_no m) part ≡ true → Goes tid scene tid.home.0 (send (node_no m) (messages.Tell tid o) work) w
    told outcomes.Commit decided is = tells_go tid scene tid.home.0 refl (node_no m ∷ []) work w at (ap (λ (f : Face). f.outcome) face_is ∙ rw (decided, home) refl) shown
    told outcomes.Abort decided is = tells_abort tid scene tid.home.0 refl (node_no m ∷ []) work w at (ap (λ (f : Face). f.outcome) face_is ∙ rw decided refl) (tells is) shown

    by : (b : Bool) → is_told_again (node_no m) part ≡ b → Goes tid scene tid.home.0 (if b then send (node_no m) (messages.Tell tid outcome) work else work) w
    by true is = told outcome decided is
    by false is = nothing_goes tid scene tid.home.0 work w shown

-- ---- who was drawn in is named again

pub name_home : NameHomeGoes
name_home tid scene n i work part w lawful shown at peer knows aborted = subst (λ (k : Work). Goes tid scene n k w) (sym work_is)
    (names_put tid scene n tid.home.0 i work w lawful peer work (x.face n) (listed (named_by tid.home part)) turn now at seen names)
  where
    x : Sight
    x = sight_during tid scene n work

    face_before : x.face n ≡ face work.node tid part
    face_before = face_here tid scene n work ∙ ap (λ (p : Participant). face work.node tid p) (part_known tid work.node part knows.known)

    now : (x.face n).outcome ≡ Aborted
    now = rw face_before (rw aborted refl)

    turn : NamedGoes tid x (sight_faced x n (x.face n)) w n
    turn = event.name_again tid x w n shown (runs tid scene n work at) now peer.other peer.in_run

    seen : ShowsWork tid scene n work turn.next
    seen = local_shown tid scene n work work turn.next (quiet_itself tid work) (x.face n) turn.shown (rw (face_here tid scene n work) (same_itself (face_at work.node tid)))

    names : (k : ℕ) → names_node (listed (named_by tid.home part)) (node_no k) ≡ true → (k ≢ tid.home.0) × (drew (x.face n) k ≡ true)
    names k named = let pair = named_drew tid.home part k knows.whole (omega (arith, peer.in_run, shown.stage.small)) named in (pair.0, rw face_before pair.1)

    work_is : name_again (node_no tid.home.0) tid part work ≡ send (node_no tid.home.0) (messages.Told tid (listed (named_by tid.home part))) work
    work_is = ap (λ (b : Bool). if b then send (node_no tid.home.0) (messages.Told tid (listed (named_by tid.home part))) work else work) (and_from (is_abort part.outcome) (same_node tid.home (node_no tid.home.0)) (rw aborted refl) (grind (arith, nat_tests)))

pub name_other : NameOtherGoes
name_other tid scene n m work part w shown other = by (is_abort part.outcome && same_node tid.home (node_no m)) (and_right (is_abort part.outcome) (same_node tid.home (node_no m)) (grind (arith, nat_tests, other)))
  where
    by : (b : Bool) → b ≡ false → Goes tid scene n (if b then send (node_no m) (messages.Told tid (listed (named_by tid.home part))) work else work) w
    by b is = rw is (nothing_goes tid scene n work w shown)

-- ---- the first step of an incarnation

pub resume_commit : ResumeCommitGoes
resume_commit tid scene work part w shown at knows home committed = tells_go tid scene tid.home.0 refl (listed part.tell) work w at (ap (λ (f : Face). f.outcome) face_is ∙ rw (committed, home) refl) shown
  where
    face_is : face_at work.node tid ≡ face work.node tid part
    face_is = ap (λ (p : Participant). face work.node tid p) (part_known tid work.node part knows.known)

pub resume_abort : ResumeAbortGoes
resume_abort tid scene n work part w shown = by part.log.prepared
  where
    noticed : Work
    noticed = give_notices tid outcomes.Abort work

    noticed_keeps : Keeps tid work noticed
    noticed_keeps = (notices_learn tid outcomes.Abort work).keeps

    hidden : (part : Participant) → SameFace (face noticed.node tid part) (face noticed.node tid (outcome_rules.logged (records.Aborted tid) part))
    hidden part = record { is_home = refl; on = refl; superior = refl; last = λ m. refl; sent = λ m. refl; covered = λ m. refl; waits = λ s. refl; uncast = λ s. refl; loans = refl; asked = refl; blocked = refl; involved = refl; told = λ m. refl; outcome = refl; tell = λ m. refl }

    logged : Work
    logged = log_if (Some (records.Aborted tid)) noticed

    -- Aborted is not forced: it counts at the end of the step
    logged_keeps : Keeps tid noticed logged
    logged_keeps = record {
      face = (part_keeps tid (outcome_rules.logged (records.Aborted tid)) noticed hidden).face;
      quiet = record { sends = λ q. refl; logs = λ log. rw (recovery_same tid noticed (records.Aborted tid) log refl) (found_itself tid (forced_log log noticed)) };
    }

    by : (b : Bool) → Goes tid scene n (log_if (if b then Some (records.Aborted tid) else None) noticed) w
    by true = keeps_goes tid scene n work logged w (keeps_on tid work noticed logged noticed_keeps logged_keeps) shown
    by false = keeps_goes tid scene n work noticed w noticed_keeps shown
