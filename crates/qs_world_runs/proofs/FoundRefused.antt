-- Where a node is blocked for a transaction, the machine may have it refused there as well: what shows it shows it then too.
use Rattle.qs_world_runs.proofs.Words.{◌≡◌, ℕ, ◌<◌, ◌==◌, Bool, true, false, List, [], ◌∷◌, Option, Some, None, refl, sym, ap, subst, ◌∙◌, if◌then◌else◌, eqb-true, Tid, Record, Participant, World, Leads, IsDoomed, ShowsAll, ShowsFace, face_at, place, scene_of, sight, eqb-self, same_Some}
use Rattle.qs_record.specs.declared.record.Record.TheVariants as records
use Rattle.qs_tm.specs.Manager as tm
use Rattle.qs_world_agree.specs.World as machine
use Rattle.qs_world_agree.specs.World.{with_at}
use Rattle.qs_world_agree.specs.Step.{Refuse}
use Rattle.qs_world_agree.proofs.Doomed.{refusal_dooms}
use Rattle.qs_world_refine.specs.Faces.{Face, ShowsOpen}
use Rattle.qs_world_refine.specs.MoveLaws.{AllClose, MayClose}
use Rattle.qs_world_refine.specs.NodeFaces.{face}
use Rattle.qs_world_refine.specs.Sights.{Sight, ShowsLog, ShowsSight}
use Rattle.qs_world_refine.proofs.Facts.{lawful_on}
use Rattle.qs_world_refine.proofs.Placing.{placed_stay}
use Rattle.qs_world_refine.proofs.Reading.{part_known}
use Rattle.qs_world_runs.proofs.Onward.{IsHeldUp}
use Rattle.std.proofs.lemmas.Option.{none-some}

abbrev pub refused_at : machine.World → ℕ → machine.World
refused_at w p = record w { refused = with_at w.refused p true }

pub refused_leads : (w : machine.World) (p : ℕ) → w.up p ≡ true → Leads w (refused_at w p)
refused_leads w p up = record { events = Refuse p ∷ []; run = (refused_at w p, (up, refl), refl) }

module _ (t : Tid) (w : machine.World) (p : ℕ) where
  abbrev v : machine.World
  v = refused_at w p

  closes_still : (k q : ℕ) (list : List Record) → AllClose t k q w list → AllClose t k q v list
  closes_still k q [] is = is
  closes_still k q (rec ∷ rest) is = (one rec is.0, closes_still k q rest is.1)
    where
      one : (r : Record) → MayClose t k q w r → MayClose t k q v r
      one (records.Prepare other server covers changes) so = so
      one (records.Commit other told) so = so
      one (records.Aborted other) so = so
      one (records.End other) so = so

  face_still : (f : Face) (q : ℕ) → ((q == p) ≡ true → f.blocked ≡ true) → ShowsFace f q w → ShowsFace f q v
  face_still f q blocked is = record {
    up = is.up;
    outcome = is.outcome;
    engaged = is.engaged;
    superior = is.superior;
    last = is.last;
    last_new = is.last_new;
    sent = is.sent;
    told_in = is.told_in;
    tell = is.tell;
    running = λ undecided. running (is.running undecided);
  }
    where
      running : ShowsOpen f q w → ShowsOpen f q v
      running o = record {
        covered = o.covered;
        asked = o.asked;
        refused = λ free. by (q == p) refl free;
        gone = o.gone;
        abort_vote = o.abort_vote;
        waits = o.waits;
        uncast = o.uncast;
        loans = o.loans;
        involved = o.involved;
        told = o.told;
      }
        where
          by : (b : Bool) → (q == p) ≡ b → f.blocked ≡ false → (if b then true else w.refused q) ≡ false
          by true at free = let on : f.blocked ≡ true = blocked at in absurd (cc (on, free))
          by false other free = o.refused free

  log_still : (k : ℕ) (x : Sight) → ShowsLog t k (x.found k) w → ShowsLog t k (x.found k) v
  log_still k x is = record { prepared = is.prepared; committed = is.committed; unended = is.unended; named = is.named }

  sight_still : (x : Sight) → ((k : ℕ) → k < x.size → (place k (x.inc k) == p) ≡ true → (x.face k).blocked ≡ true) → ShowsSight t x w → ShowsSight t x v
  sight_still x blocked is = record {
    stage = record { small = is.stage.small; numbered = is.stage.numbered; home = is.stage.home; nodes = is.stage.nodes; classes = is.stage.classes; present = is.stage.present; up = is.stage.up; peers = is.stage.peers };
    faces = λ k low up. face_still (x.face k) (place k (x.inc k)) (blocked k low) (is.faces k low up);
    links = is.links;
    unmet = is.unmet;
    logs = λ k low. log_still k x (is.logs k low);
  }

module _ (t : Tid) (world : World) (n : ℕ) (w : machine.World) (all : ShowsAll t world w) (low : n < world.size) (up : world.channels.up n ≡ true) (part : Participant) (known : tm.part_of t (world.hosts n).node.manager ≡ Some part) (blocked : part.blocked ≡ true) where
  abbrev pub p : ℕ
  p = place n (world.channels.inc n)

  pub leads_refused : Leads w (refused_at w p)
  leads_refused = refused_leads w p (all.seen.shown.faces n low up).up

  blocked_there : (k : ℕ) → k < world.size → (place k (world.channels.inc k) == p) ≡ true → (face_at (world.hosts k).node t).blocked ≡ true
  blocked_there k k_low at = subst (λ (j : ℕ). (face_at (world.hosts j).node t).blocked ≡ true) (sym same) (ap (λ (q : Participant). q.blocked) (part_known t (world.hosts n).node part known) ∙ blocked)
    where
      same : k ≡ n
      same = sym (all.seen.shown.stage.nodes k (world.channels.inc k) k_low) ∙ (ap w.node (eqb-true (place k (world.channels.inc k)) p at) ∙ all.seen.shown.stage.nodes n (world.channels.inc n) low)

  pub shows_refused : ShowsAll t world (refused_at w p)
  shows_refused = record {
    seen = record {
      lawful = lawful_on w (refused_at w p) all.seen.lawful leads_refused;
      placed = placed_stay w (refused_at w p) all.seen.lawful all.seen.placed leads_refused;
      shown = sight_still t w p (sight t (scene_of world)) blocked_there all.seen.shown;
      closes = λ k k_low k_up. closes_still t w p k (place k (world.channels.inc k)) (world.hosts k).waiting (all.seen.closes k k_low k_up);
    };
    outcome = record { learnt = all.outcome.learnt; acknowledged = all.outcome.acknowledged };
    kept = record { now = all.kept.now; saved = all.kept.saved };
  }

-- ---- what shows it after a step, refused there where its node is blocked

-- where the node is held up and undecided it is doomed
pub record Refused (t : Tid) (after : World) (n : ℕ) (w : machine.World) : Type 0 where
  pub next : machine.World
  pub leads : Leads w next
  pub shows : ShowsAll t after next
  pub held : (part : Participant) → tm.part_of t (after.hosts n).node.manager ≡ Some part → IsHeldUp part → part.outcome ≡ None → IsDoomed next

module _ (t : Tid) (after : World) (n : ℕ) (w : machine.World) (all : ShowsAll t after w) (low : n < after.size) (up : after.channels.up n ≡ true)
    (on : (part : Participant) → tm.part_of t (after.hosts n).node.manager ≡ Some part → IsHeldUp part → part.outcome ≡ None → (face (after.hosts n).node t part).on ≡ true) where
  pub refused_then : Refused t after n w
  refused_then = by (tm.part_of t (after.hosts n).node.manager) refl
    where
      blocked_or : (part : Participant) → tm.part_of t (after.hosts n).node.manager ≡ Some part → (b : Bool) → part.blocked ≡ b → Refused t after n w
      blocked_or part known false free = record {
        next = w;
        leads = record { events = []; run = refl };
        shows = all;
        held = λ p its held undecided. absurd (never p its held);
      }
        where
          never : (p : Participant) → tm.part_of t (after.hosts n).node.manager ≡ Some p → IsHeldUp p → ⊥
          never p its held = let so : part.blocked ≡ true = subst (λ (k : Participant). k.blocked ≡ true) (same_Some p part (sym its ∙ known)) held.blocked in cc (so, free)
      blocked_or part known true blocked = record {
        next = refused_at w (place n (after.channels.inc n));
        leads = leads_refused t after n w all low up part known blocked;
        shows = shows_refused t after n w all low up part known blocked;
        held = dooms;
      }
        where
          shown : ShowsAll t after (refused_at w (place n (after.channels.inc n)))
          shown = shows_refused t after n w all low up part known blocked

          picked : (b : Bool) → b ≡ true → (if b then true else w.refused (place n (after.channels.inc n))) ≡ true
          picked b is = rw is refl

          dooms : (p : Participant) → tm.part_of t (after.hosts n).node.manager ≡ Some p → IsHeldUp p → p.outcome ≡ None → IsDoomed (refused_at w (place n (after.channels.inc n)))
          dooms p its held undecided = refusal_dooms (refused_at w (place n (after.channels.inc n))) (place n (after.channels.inc n)) shown.seen.lawful.reached
              ((shown.seen.shown.faces n low up).engaged ∙ (ap (λ (k : Participant). (face (after.hosts n).node t k).on) (part_known t (after.hosts n).node p its) ∙ on p its held undecided))
              (picked (place n (after.channels.inc n) == place n (after.channels.inc n)) (eqb-self (place n (after.channels.inc n))))

      by : (o : Option Participant) → tm.part_of t (after.hosts n).node.manager ≡ o → Refused t after n w
      by None none = record { next = w; leads = record { events = []; run = refl }; shows = all; held = λ p its held undecided. absurd (none-some p (sym none ∙ its)) }
      by (Some part) known = blocked_or part known part.blocked refl
