-- Messages about an outcome that bring nothing new: Acknowledge where commit is told again, and no event otherwise.
use Rattle.qs_world_refine.proofs.Words.{◌≡◌, ◌≢◌, ◌⊎◌, inl, inr, ℕ, ◌<◌, Bool, true, false, List, [], ◌∷◌, ◌++◌, Option, Some, None, unwrap_or, refl, sym, subst, ap, ◌∙◌, arith, if◌then◌else◌, nat_tests, NodeNo, Tid, same_node, Message, new_participant, is_undecided, Participant, send, Work, here, part_of, message_came, learn, learn_unknown, names_at, names_of, take_outcome, told_at_home, told_unknown, told_known, take_names, keep_abort_told, Open, Committed, Face, Said, Outcome_told, Taken_in}
use Rattle.qs_world_refine.proofs.Words.{link, IsLink, node_no, said, all_said, face, face_at, part_at, unknown_at_home, began_here, place, sight_faced, Scene, sight_during, ShowsWork, handed, Sight, IsAt, IsNext, Goes}
use Rattle.qs_base.specs.declared.identifiers.Outcome.{Outcome}
use Rattle.qs_base.specs.declared.identifiers.Outcome.TheVariants as outcomes
use Rattle.qs_packet.specs.declared.message.Message.TheVariants as messages
use Rattle.qs_world_agree.specs.World.{World}
use Rattle.qs_world_refine.specs.AgainLaws.{IsToldCommit, TellCommitUnknownGoes, TellCommitAgainGoes, TellHomeGoes, ToldElsewhereGoes, ToldRunningGoes, ToldNobodyGoes}
use Rattle.qs_world_refine.specs.Seen.{AckGoes}
use Rattle.qs_world_refine.proofs.Alike.{same_itself}
use Rattle.qs_world_refine.proofs.Around.{known_is, place_some}
use Rattle.qs_world_refine.proofs.During.{quiet_itself, local_shown, face_here, runs, meets}
use Rattle.qs_world_refine.proofs.Handing.{taken_shown, head_said}
use Rattle.qs_world_refine.proofs.Keeping.{nothing_goes}
use Rattle.qs_world_refine.proofs.Learning.{acknowledge, uncounted_taken}
use Rattle.qs_world_refine.proofs.Reading.{part_known}
use Rattle.qs_world_refine.proofs.Same.{tid_same}
use Rattle.qs_world_refine.proofs.TellCame.{told_put}

-- ---- a message that the machine's links don't count is handed up, and nothing else happens

module _ (tid : Tid) (scene : Scene) (n m i : ℕ) (message : Message) (rest : List Message) (what : Said) (work : Work) (w : World) (shown : ShowsWork tid scene n work w) (at : IsAt scene n work) (next : IsNext scene n m i message rest) (says : said tid message ≡ what ∷ []) where
  pub first_link : IsLink (link w (place m i) (place n (scene.inc n))) (what ∷ all_said tid rest)
  first_link = subst (λ (l : List Said). IsLink (link w (place m i) (place n (scene.inc n))) l) head (shown.links m i n (scene.inc n) next.from.in_run at.in_run at.up refl)
    where
      head : (sight_during tid scene n work).said m i n (scene.inc n) ≡ what ∷ all_said tid rest
      head = head_said tid scene n m i message rest work.out.messages next ∙ ap (λ (l : List Said). l ++ all_said tid rest) says

  pub handed_on : IsLink (link w (place m i) (place n (scene.inc n))) (all_said tid rest) → ShowsWork tid (handed scene m i n rest) n work w
  handed_on behind = taken_shown tid scene n m i message rest work work w next (quiet_itself tid work) ((sight_during tid scene n work).face n)
      (uncounted_taken tid (sight_during tid scene n work) w n m i (all_said tid rest) shown (runs tid scene n work at) (meets tid scene n m i work next.from) behind)
      (rw (face_here tid scene n work) (same_itself (face_at work.node tid)))

  pub nothing_came : IsLink (link w (place m i) (place n (scene.inc n))) (all_said tid rest) → message_came (node_no m) message work ≡ work → Goes tid (handed scene m i n rest) n (message_came (node_no m) message work) w
  nothing_came behind is = subst (λ (k : Work). Goes tid (handed scene m i n rest) n k w) (sym is) (nothing_goes tid (handed scene m i n rest) n work w (handed_on behind))

pub says_told : (tid : Tid) (further : List NodeNo) → said tid (messages.Told tid further) ≡ Taken_in further ∷ []
says_told tid further = rw (tid_same tid) refl

home_is : (tid : Tid) (scene : Scene) (work : Work) → IsAt scene tid.home.0 work → same_node tid.home (here work) ≡ true
home_is tid scene work at = rw at.node (grind (arith, nat_tests))

home_is_not : (tid : Tid) (scene : Scene) (n : ℕ) (work : Work) → IsAt scene n work → tid.home.0 ≢ n → same_node tid.home (here work) ≡ false
home_is_not tid scene n work at away = rw at.node (grind (arith, nat_tests, away))

pub tell_home : TellHomeGoes
tell_home tid scene m i outcomes.Commit rest work w shown at next =
    nothing_came tid scene tid.home.0 m i (messages.Tell tid outcomes.Commit) rest (Outcome_told true) work w shown at next (rw (tid_same tid) refl)
    (first_link tid scene tid.home.0 m i (messages.Tell tid outcomes.Commit) rest (Outcome_told true) work w shown at next (rw (tid_same tid) refl)).1
    (ap (λ (b : Bool). if b then work else send (node_no m) (messages.Told tid (names_at tid outcomes.Commit work)) (take_outcome tid outcomes.Commit work)) (home_is tid scene work at))
tell_home tid scene m i outcomes.Abort rest work w shown at next =
    nothing_came tid scene tid.home.0 m i (messages.Tell tid outcomes.Abort) rest (Outcome_told false) work w shown at next (rw (tid_same tid) refl)
    (first_link tid scene tid.home.0 m i (messages.Tell tid outcomes.Abort) rest (Outcome_told false) work w shown at next (rw (tid_same tid) refl)).1
    (ap (λ (b : Bool). if b then work else send (node_no m) (messages.Told tid (names_at tid outcomes.Abort work)) (take_outcome tid outcomes.Abort work)) (home_is tid scene work at))

pub told_elsewhere : ToldElsewhereGoes
told_elsewhere tid scene n m i further rest work w shown at next away =
    nothing_came tid scene n m i (messages.Told tid further) rest (Taken_in further) work w shown at next (says_told tid further)
    (first_link tid scene n m i (messages.Told tid further) rest (Taken_in further) work w shown at next (says_told tid further)).1
    (ap (λ (b : Bool). if b then told_at_home (node_no m) tid further work else work) (home_is_not tid scene n work at away))

pub told_running : ToldRunningGoes
told_running tid scene m i further rest work part w shown at next known undecided =
    nothing_came tid scene tid.home.0 m i (messages.Told tid further) rest (Taken_in further) work w shown at next (says_told tid further)
    (first_link tid scene tid.home.0 m i (messages.Told tid further) rest (Taken_in further) work w shown at next (says_told tid further)).1
    (ap (λ (b : Bool). if b then told_at_home (node_no m) tid further work else work) (home_is tid scene work at)
    ∙ (ap (λ (o : Option Participant). elim o [ None ↦ told_unknown (node_no m) tid further work | Some part ↦ told_known (node_no m) tid further part.outcome work ]) known
    ∙ ap (λ (o : Option Outcome). told_known (node_no m) tid further o work) undecided))

pub told_nobody : ToldNobodyGoes
told_nobody tid scene m i further rest work w shown at next none nobody =
    nothing_came tid scene tid.home.0 m i (messages.Told tid further) rest (Taken_in further) work w shown at next (says_told tid further)
    (first_link tid scene tid.home.0 m i (messages.Told tid further) rest (Taken_in further) work w shown at next (says_told tid further)).1
    (ap (λ (b : Bool). if b then told_at_home (node_no m) tid further work else work) (home_is tid scene work at)
    ∙ (ap (λ (o : Option Participant). elim o [ None ↦ told_unknown (node_no m) tid further work | Some part ↦ told_known (node_no m) tid further part.outcome work ]) none
    ∙ ap (λ (b : Bool). if b then take_names tid further (keep_abort_told tid (node_no m) work) else work) nobody))

-- ---- commit is told to a node that has nothing to learn

module _ (tid : Tid) (scene : Scene) (n m i : ℕ) (rest : List Message) (work : Work) (w : World) (shown : ShowsWork tid scene n work w) (is : IsToldCommit tid scene n m i rest work) where
  abbrev later : Scene
  later = handed scene m i n rest

  abbrev x : Sight
  x = sight_during tid later n work

  pub away : tid.home.0 ≢ n
  away = λ e. is.next.from.other (is.from_home ∙ e)

  link_before : IsLink (link w (place m i) (place n (scene.inc n))) (Outcome_told true ∷ all_said tid rest)
  link_before = first_link tid scene n m i (messages.Tell tid outcomes.Commit) rest (Outcome_told true) work w shown is.at is.next (rw (tid_same tid) refl)

  pub told : w.tell_commit n ≡ true
  told = ap w.tell_commit (sym (shown.stage.nodes n (scene.inc n) is.at.in_run)) ∙ link_before.0

  met : w.peer (place n (scene.inc n)) tid.home.0 ≢ 0
  met = subst (λ (k : ℕ). w.peer (place n (scene.inc n)) k ≢ 0) is.from_home (λ e. none (sym (shown.stage.peers n m is.at.in_run is.next.from.in_run is.at.up ∙ rw is.next.from.knows (known_is m i is.next.from.some)) ∙ e))
    where
      none : place m i ≡ 0 → ⊥
      none e = let some = place_some m i is.next.from.some in omega (arith, e, some)

  at_later : IsAt later n work
  at_later = record { in_run = is.at.in_run; up = is.at.up; node = is.at.node; nodes = is.at.nodes; inc = is.at.inc }

  pub acknowledges : ((x.face n).outcome ≡ Committed) ⊎ (((x.face n).outcome ≡ Open) × ((x.face n).involved ≡ false) × ((x.face n).on ≡ false)) → message_came (node_no m) (messages.Tell tid outcomes.Commit) work ≡ send (node_no m) (messages.Told tid []) work
      → Goes tid later n (message_came (node_no m) (messages.Tell tid outcomes.Commit) work) w
  acknowledges may work_is = subst (λ (k : Work). Goes tid later n k w) (sym work_is) (put turn)
    where
      turn : AckGoes tid (sight_faced x n (x.face n)) w (place n (scene.inc n))
      turn = acknowledge tid x w n (handed_on tid scene n m i (messages.Tell tid outcomes.Commit) rest (Outcome_told true) work w shown is.at is.next (rw (tid_same tid) refl) link_before.1) (runs tid later n work at_later) told met away
          (subst (λ (k : ℕ). k < scene.size) is.from_home is.next.from.in_run) may

      put : AckGoes tid (sight_faced x n (x.face n)) w (place n (scene.inc n)) → Goes tid later n (send (node_no m) (messages.Told tid []) work) w
      put turn = record {
        next = turn.next;
        leads = turn.leads;
        shown = told_put tid later n m i work turn.next at_later (record { in_run = is.next.from.in_run; other = is.next.from.other; knows = is.next.from.knows; some = is.next.from.some }) turn.acks
            (local_shown tid later n work work turn.next (quiet_itself tid work) (x.face n) turn.shown (rw (face_here tid later n work) (same_itself (face_at work.node tid))));
      }

  not_home : same_node tid.home (here work) ≡ false
  not_home = home_is_not tid scene n work is.at away

  pub not_here : began_here work.node tid ≡ false
  not_here = rw not_home refl

  came_is : message_came (node_no m) (messages.Tell tid outcomes.Commit) work ≡ send (node_no m) (messages.Told tid (names_at tid outcomes.Commit work)) (take_outcome tid outcomes.Commit work)
  came_is = ap (λ (b : Bool). if b then work else send (node_no m) (messages.Told tid (names_at tid outcomes.Commit work)) (take_outcome tid outcomes.Commit work)) not_home

  pub found_is : (o : Option Participant) → part_of tid work ≡ o → elim o [ None ↦ work | Some part ↦ if is_undecided part then learn tid outcomes.Commit part work else work ] ≡ work
      → message_came (node_no m) (messages.Tell tid outcomes.Commit) work ≡ send (node_no m) (messages.Told tid []) work
  found_is None found still = came_is ∙ ap (λ (o : Option Participant). send (node_no m) (messages.Told tid (elim o [ None ↦ [] | Some part ↦ names_of tid outcomes.Commit part ])) (elim o [ None ↦ learn_unknown tid outcomes.Commit work | Some part ↦ if is_undecided part then learn tid outcomes.Commit part work else work ])) found
  found_is (Some part) found still = came_is
      ∙ (ap (λ (o : Option Participant). send (node_no m) (messages.Told tid (elim o [ None ↦ [] | Some part ↦ names_of tid outcomes.Commit part ])) (elim o [ None ↦ learn_unknown tid outcomes.Commit work | Some part ↦ if is_undecided part then learn tid outcomes.Commit part work else work ])) found
      ∙ ap (λ (k : Work). send (node_no m) (messages.Told tid []) k) still)

pub tell_commit_unknown : TellCommitUnknownGoes
tell_commit_unknown tid scene n m i rest work w shown is none =
    acknowledges tid scene n m i rest work w shown is (inr (rw face_is refl, rw face_is refl, rw face_is (rw (not_here tid scene n m i rest work w shown is) refl))) (found_is tid scene n m i rest work w shown is None none refl)
  where
    part_none : part_at work.node tid ≡ new_participant false
    part_none = by (part_of tid work) none (same_node tid.home (here work)) (home_is_not tid scene n work is.at (away tid scene n m i rest work w shown is))
      where
        by : (o : Option Participant) → o ≡ None → (b : Bool) → b ≡ false → unwrap_or o (if b then unknown_at_home work.node tid else new_participant false) ≡ new_participant false
        by o is b home = rw (is, home) refl

    face_is : (sight_during tid (handed scene m i n rest) n work).face n ≡ face work.node tid (new_participant false)
    face_is = face_here tid (handed scene m i n rest) n work ∙ ap (λ (p : Participant). face work.node tid p) part_none

pub tell_commit_again : TellCommitAgainGoes
tell_commit_again tid scene n m i rest work part w lawful shown is knows away_home committed =
    acknowledges tid scene n m i rest work w shown is (by part.involved refl) (found_is tid scene n m i rest work w shown is (Some part) knows.known (rw committed refl))
  where
    face_is : (sight_during tid (handed scene m i n rest) n work).face n ≡ face work.node tid part
    face_is = face_here tid (handed scene m i n rest) n work ∙ ap (λ (p : Participant). face work.node tid p) (part_known tid work.node part knows.known)

    off : (face work.node tid part).on ≡ false
    off = sym (ap (λ (f : Face). f.on) (face_here tid scene n work ∙ ap (λ (p : Participant). face work.node tid p) (part_known tid work.node part knows.known)))
        ∙ (sym (shown.faces n is.at.in_run is.at.up).engaged ∙ (lawful.settled (lawful.agreed.told_commit n (told tid scene n m i rest work w shown is))).passive (place n (scene.inc n)))

    by : (b : Bool) → part.involved ≡ b → (((sight_during tid (handed scene m i n rest) n work).face n).outcome ≡ Committed) ⊎ ((((sight_during tid (handed scene m i n rest) n work).face n).outcome ≡ Open) × (((sight_during tid (handed scene m i n rest) n work).face n).involved ≡ false) × (((sight_during tid (handed scene m i n rest) n work).face n).on ≡ false))
    by true involved = inl (rw face_is (rw (committed, involved, away_home) refl))
    by false involved = inr (rw face_is (rw (committed, involved, away_home) refl), rw face_is involved, rw face_is off)
