-- A piece of a step that changes what a node keeps of the transaction, and nothing of its face.
use Rattle.qs_world_refine.proofs.Words.{◌≡◌, ℕ, ◌==◌, Bool, true, false, Option, Some, None, [], ◌∷◌, ◌++◌, refl, if◌then◌else◌, is_at, lookup, remove_entry, tid_cmp, ClientNo, Tid, Answer, Participant, OpenCommand, answer, Work, with_manager, client_cmp, face, face_at, Scene, sight_during, ShowsWork, Goes}
use Rattle.qs_book_journal.specs.declared.entry.Act.TheVariants as acts
use Rattle.qs_tm.specs.Manager as tm
use Rattle.qs_world_agree.specs.World.{World}
use Rattle.qs_world_refine.proofs.Alike.{SameFace, found_itself, same_itself, face_on, sight_alike}
use Rattle.qs_world_refine.proofs.During.{Quiet, Leaves, quiet_itself, quiet_on, leaves_itself, said_same, unmet_same, found_same}
use Rattle.qs_world_refine.proofs.Frames.{out_leaves}
use Rattle.qs_world_refine.proofs.Maps.{lookup_changed, changed_none}
use Rattle.qs_world_refine.proofs.Reading.{face_for, part_known}

pub record Keeps (tid : Tid) (work new : Work) : Type 0 where
  pub face : SameFace (face_at work.node tid) (face_at new.node tid)
  pub quiet : Quiet tid work new

pub leaves_keeps : (tid : Tid) (work new : Work) → Leaves tid work new → Keeps tid work new
leaves_keeps tid work new same = record { face = face_for tid work.node new.node same.node; quiet = same.quiet }

pub keeps_itself : (tid : Tid) (work : Work) → Keeps tid work work
keeps_itself tid work = record { face = same_itself (face_at work.node tid); quiet = quiet_itself tid work }

pub keeps_on : (tid : Tid) (a b c : Work) → Keeps tid a b → Keeps tid b c → Keeps tid a c
keeps_on tid a b c first second = record {
  face = face_on (face_at a.node tid) (face_at b.node tid) (face_at c.node tid) first.face second.face;
  quiet = quiet_on tid a b c first.quiet second.quiet;
}

pub keeps_shown : (tid : Tid) (scene : Scene) (n : ℕ) (work new : Work) (w : World) → Keeps tid work new → ShowsWork tid scene n work w → ShowsWork tid scene n new w
keeps_shown tid scene n work new w same shown = sight_alike tid (sight_during tid scene n work) (sight_during tid scene n new) w
    (record {
      size = refl;
      inc = refl;
      up = refl;
      knows = refl;
      face = λ k. by k (k == n);
      said = said_same tid scene n work new w same.quiet;
      unmet = unmet_same tid scene n work new w same.quiet;
      found = found_same tid scene n work new w same.quiet;
    }) shown
  where
    by : (k : ℕ) (b : Bool) → SameFace (if b then face_at work.node tid else face_at (scene.node k) tid) (if b then face_at new.node tid else face_at (scene.node k) tid)
    by k true = same.face
    by k false = same_itself (face_at (scene.node k) tid)

pub nothing_goes : (tid : Tid) (scene : Scene) (n : ℕ) (work : Work) (w : World) → ShowsWork tid scene n work w → Goes tid scene n work w
nothing_goes tid scene n work w shown = record { next = w; leads = record { events = []; run = refl }; shown = shown }

pub keeps_goes : (tid : Tid) (scene : Scene) (n : ℕ) (work new : Work) (w : World) → Keeps tid work new → ShowsWork tid scene n work w → Goes tid scene n new w
keeps_goes tid scene n work new w same shown = nothing_goes tid scene n new w (keeps_shown tid scene n work new w same shown)

-- ---- what is kept is changed, and its face is not

module _ (tid : Tid) (f : Participant → Participant) (work : Work) (hidden : (part : Participant) → SameFace (face work.node tid part) (face work.node tid (f part))) where
  abbrev changed : Work
  changed = with_manager (tm.with_part tid f) work

  known_face : (part : Participant) → tm.part_of tid work.node.manager ≡ Some part → SameFace (face_at work.node tid) (face_at changed.node tid)
  known_face part known = rw (part_known tid work.node part known, part_known tid changed.node (f part) (lookup_changed (is_at (tid_cmp tid)) f work.node.manager.known part known)) (hidden part)

  unknown_face : tm.part_of tid work.node.manager ≡ None → SameFace (face_at work.node tid) (face_at changed.node tid)
  unknown_face none = rw (changed_none (is_at (tid_cmp tid)) f work.node.manager.known none) (same_itself (face_at work.node tid))

  pub part_keeps : Keeps tid work changed
  part_keeps = record { face = by (tm.part_of tid work.node.manager) refl; quiet = record { sends = λ q. refl; logs = λ log. found_itself tid _ } }
    where
      by : (o : Option Participant) → tm.part_of tid work.node.manager ≡ o → SameFace (face_at work.node tid) (face_at changed.node tid)
      by None none = unknown_face none
      by (Some part) known = known_face part known

-- ---- a client is answered

pub answer_leaves : (tid : Tid) (client : ClientNo) (said : Answer) (work : Work) → Leaves tid work (answer client said work)
answer_leaves tid client said work = by (lookup (is_at (client_cmp client)) work.node.commands)
  where
    by : (o : Option OpenCommand) → Leaves tid work (elim o [
      | None ↦ work
      | Some command ↦ record work {
        node = record work.node { commands = remove_entry (is_at (client_cmp client)) work.node.commands };
        out = record work.out {
          answers = work.out.answers ++ record { client = client; answer = record { line = command.line.line; answer = said } } ∷ [];
          entries = work.out.entries ++ acts.Answer client command.line.line said ∷ [];
        };
      }
    ])
    by None = leaves_itself tid work
    by (Some command) = out_leaves tid work _ (record { around = record { setting = refl; waits = λ s. refl; loans = refl; past = refl }; part = refl }) refl refl
