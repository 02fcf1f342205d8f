-- A node sends an inquiry to the home's node, as its superior or the home restarted, or as it begins with a Prepare in doubt.
use Rattle.qs_world_refine.proofs.Words.{◌≡◌, ◌≢◌, inl, ℕ, ◌<◌, ◌&&◌, not, Bool, true, false, Option, Some, None, refl, ap, ◌∙◌, if◌then◌else◌, Tid, Participant, send, is_orphaned_by, resume_home, Work, Open, IsLawful, ShowsFace, MayInquire, Inquired, node_no, face, place, Scene, sight_during, ShowsWork, Sight, IsAt, Goes}
use Rattle.qs_base.specs.declared.identifiers.Outcome.{Outcome}
use Rattle.qs_packet.specs.declared.message.Message.TheVariants as messages
use Rattle.qs_world_agree.specs.World.{World}
use Rattle.qs_world_refine.specs.InquireLaws.{InquireRuleGoes, ResumeDoubtGoes}
use Rattle.qs_world_refine.specs.Steps.{Knows}
use Rattle.qs_world_refine.proofs.During.{face_here, runs}
use Rattle.qs_world_refine.proofs.Inquiring as event
use Rattle.qs_world_refine.proofs.Keeping.{nothing_goes}
use Rattle.qs_world_refine.proofs.Reading.{part_known}
use Rattle.qs_world_refine.proofs.Same.{tid_same}
use Rattle.qs_world_refine.proofs.SendGoes.{send_goes}

module _ (tid : Tid) (scene : Scene) (n : ℕ) (work : Work) (part : Participant) (w : World) (lawful : IsLawful w) (shown : ShowsWork tid scene n work w) (at : IsAt scene n work) (knows : Knows tid work part)
    (undecided : part.outcome ≡ None) (away : tid.home.0 ≢ n) (home_in : tid.home.0 < scene.size) where
  abbrev x : Sight
  x = sight_during tid scene n work

  pub face_before : x.face n ≡ face work.node tid part
  face_before = face_here tid scene n work ∙ ap (λ (p : Participant). face work.node tid p) (part_known tid work.node part knows.known)

  pub open_now : (x.face n).outcome ≡ Open
  open_now = rw face_before (rw undecided refl)

  pub inquires : MayInquire w (place n (scene.inc n)) → Goes tid scene n (send tid.home (messages.Inquire tid) work) w
  inquires may = send_goes tid scene n tid.home (messages.Inquire tid) Inquired work w at (rw (tid_same tid) refl) shown
      (λ in_run other some. event.inquire tid x w n (scene.knows n tid.home.0) lawful shown (runs tid scene n work at) (record { in_run = in_run; other = other; knows = refl; some = some }) open_now may)
      (λ _ none. event.inquire_waits tid x w n shown (runs tid scene n work at) away home_in none open_now may)

pub inquire_goes : InquireRuleGoes
inquire_goes tid scene n m new work part w lawful shown at knows undecided away home_in may = by (not part.engage.home && is_orphaned_by (node_no m) new tid part)
  where
    by : (b : Bool) → Goes tid scene n (if b then send tid.home (messages.Inquire tid) work else work) w
    by true = inquires tid scene n work part w lawful shown at knows undecided away home_in may
    by false = nothing_goes tid scene n work w shown

pub resume_doubt : ResumeDoubtGoes
resume_doubt tid scene n work part w lawful shown at knows undecided involved away home_in = by part.outcome undecided
  where
    here : ShowsFace ((sight_during tid scene n work).face n) (place n (scene.inc n)) w
    here = shown.faces n at.in_run at.up

    may : MayInquire w (place n (scene.inc n))
    may = inl ((here.running (open_now tid scene n work part w lawful shown at knows undecided away home_in)).involved ∙ rw (face_before tid scene n work part w lawful shown at knows undecided away home_in) involved)

    by : (o : Option Outcome) → o ≡ None → Goes tid scene n (elim o [ None ↦ send tid.home (messages.Inquire tid) work | Some outcome ↦ resume_home tid part outcome work ]) w
    by None is = inquires tid scene n work part w lawful shown at knows undecided away home_in may
    by (Some outcome) is = absurd (cc is)
