-- A Covered or VotedYes comes to a node that knows the transaction and not its outcome: Count.
use Rattle.qs_world_refine.proofs.Words.{◌≡◌, ℕ, ◌<◌, ◌==◌, ◌||◌, max, Bool, true, false, List, [], ◌∷◌, Option, Some, None, refl, ap, ◌∙◌, arith, if◌then◌else◌, is_at, eqb-true, tid_cmp, NodeNo, Tid, peer_of, joined, PeerPart, Message, Manager, Participant, closer_came, count, NodeValue, Work, part_of, Open, Face, node_no, names_node, Closed, said, all_said, face, face_at, Scene, sight_during, ShowsWork, handed, SightGoes, IsAt, IsWhole, IsNext, IsToldSet, Goes}
use Rattle.qs_engage.specs.Nodes.{has_node}
use Rattle.qs_tm.specs.Manager as tm
use Rattle.qs_tm.specs.Participant.{counted}
use Rattle.qs_world_agree.specs.World.{World, with_at}
use Rattle.qs_world_refine.specs.Seen.{sight_counted}
use Rattle.qs_world_refine.specs.Seen as seen
use Rattle.qs_world_refine.specs.Steps.{Knows}
use Rattle.qs_world_refine.proofs.Alike.{SameFace, same_itself}
use Rattle.qs_world_refine.proofs.Arrays.{peer_put, node_dropped}
use Rattle.qs_world_refine.proofs.During.{Leaves, Quiet, leaves_itself, face_here, runs, meets}
use Rattle.qs_world_refine.proofs.EventGoes as event
use Rattle.qs_world_refine.proofs.Frames.{out_leaves, part_leaves}
use Rattle.qs_world_refine.proofs.Handing.{taken_shown, head_said}
use Rattle.qs_world_refine.proofs.Known.{undecided_is}
use Rattle.qs_world_refine.proofs.LogFrames.{Apart}
use Rattle.qs_world_refine.proofs.Maps.{lookup_changed}
use Rattle.qs_world_refine.proofs.NodeSets.{joined_has, joined_length}
use Rattle.qs_world_refine.proofs.Reading.{part_known}

-- ---- the face

module _ (tid : Tid) (m up_to : ℕ) (told : List NodeNo) (node : NodeValue) (manager : Manager) (part : Participant) (whole : IsWhole part) (in_run : m < 16) (home_in : tid.home.0 < 16)
    (sets : IsToldSet tid told) (lacks : has_node part.told tid.home ≡ false) where
  abbrev counted_part : Participant
  counted_part = counted tid.home (node_no m) up_to told part

  peer_is : (k : ℕ) → peer_of counted_part.engage (node_no k) ≡ (if k == m then record (peer_of part.engage (node_no m)) { covered = max (peer_of part.engage (node_no m)).covered up_to } else peer_of part.engage (node_no k))
  peer_is k = peer_put m k _ part.engage (rw whole.peers in_run)

  kept : (g : PeerPart → ℕ) → ((e : PeerPart) → g (record e { covered = max e.covered up_to }) ≡ g e) → (k : ℕ) → g (peer_of counted_part.engage (node_no k)) ≡ g (peer_of part.engage (node_no k))
  kept g keeps k = ap g (peer_is k) ∙ by (k == m) refl
    where
      by : (b : Bool) → (k == m) ≡ b → g (if b then record (peer_of part.engage (node_no m)) { covered = max (peer_of part.engage (node_no m)).covered up_to } else peer_of part.engage (node_no k)) ≡ g (peer_of part.engage (node_no k))
      by true e = rw (eqb-true k m e) (keeps (peer_of part.engage (node_no m)))
      by false e = refl

  covered_is : (k : ℕ) → (peer_of counted_part.engage (node_no k)).covered ≡ with_at (λ n. (peer_of part.engage (node_no n)).covered) m (max (peer_of part.engage (node_no m)).covered up_to) k
  covered_is k = ap (λ (e : PeerPart). e.covered) (peer_is k) ∙ by (k == m)
    where
      by : (b : Bool) → (if b then record (peer_of part.engage (node_no m)) { covered = max (peer_of part.engage (node_no m)).covered up_to } else peer_of part.engage (node_no k)).covered ≡ (if b then max (peer_of part.engage (node_no m)).covered up_to else (peer_of part.engage (node_no k)).covered)
      by true = refl
      by false = refl

  told_is : (k : ℕ) → has_node counted_part.told (node_no k) ≡ (if has_node part.told (node_no k) then true else names_node told (node_no k))
  told_is k =
      node_dropped tid.home.0 k (joined part.told told) (rw (joined_length told part.told, whole.told) home_in)
      ∙ (ap (λ (b : Bool). if k == tid.home.0 then false else b) (joined_has told part.told k (λ named. rw whole.told ((sets k named).0))) ∙ by (k == tid.home.0) refl)
    where
      or_if : (a b : Bool) → (a || b) ≡ (if a then true else b)
      or_if true b = refl
      or_if false b = refl

      none : (a b : Bool) → a ≡ false → b ≡ false → false ≡ (if a then true else b)
      none a b first second = rw (first, second) refl

      not_named : (b : Bool) → names_node told (node_no k) ≡ b → k ≡ tid.home.0 → b ≡ false
      not_named true named same = absurd ((sets k named).1 same)
      not_named false named same = refl

      by : (b : Bool) → (k == tid.home.0) ≡ b → (if b then false else (has_node part.told (node_no k) || names_node told (node_no k))) ≡ (if has_node part.told (node_no k) then true else names_node told (node_no k))
      by true e = none (has_node part.told (node_no k)) (names_node told (node_no k)) (ap (λ (n : ℕ). has_node part.told (node_no n)) (eqb-true k tid.home.0 e) ∙ lacks) (not_named (names_node told (node_no k)) refl (eqb-true k tid.home.0 e))
      by false e = or_if (has_node part.told (node_no k)) (names_node told (node_no k))

  pub face_counted : SameFace (seen.counted (face node tid part) m up_to (λ k. names_node told (node_no k))) (face (record node { manager = manager }) tid counted_part)
  face_counted = record {
    is_home = refl;
    on = refl;
    superior = refl;
    last = kept (λ (e : PeerPart). e.last) (λ e. refl);
    sent = kept (λ (e : PeerPart). e.sent) (λ e. refl);
    covered = covered_is;
    waits = λ s. refl;
    uncast = λ s. refl;
    loans = refl;
    asked = refl;
    blocked = refl;
    involved = refl;
    told = told_is;
    outcome = refl;
    tell = λ k. refl;
  }

-- ---- the rule

module _ (tid : Tid) (scene : Scene) (n m i up_to : ℕ) (told : List NodeNo) (message : Message) (rest : List Message) (work : Work) (part : Participant) (w : World)
    (at : IsAt scene n work) (next : IsNext scene n m i message rest) (says : said tid message ≡ Closed up_to told ∷ [])
    (knows : Knows tid work part) (undecided : part.outcome ≡ None) (sets : IsToldSet tid told) (lacks : has_node part.told tid.home ≡ false) (home_in : tid.home.0 < 16)
    (shown : ShowsWork tid scene n work w) where
  abbrev counted_work : Work
  counted_work = count (node_no m) tid up_to told work

  face_before : (sight_during tid scene n work).face n ≡ face work.node tid part
  face_before = face_here tid scene n work ∙ ap (λ (p : Participant). face work.node tid p) (part_known tid work.node part knows.known)

  open_before : ((sight_during tid scene n work).face n).outcome ≡ Open
  open_before = ap (λ (f : Face). f.outcome) face_before ∙ rw undecided refl

  head : (sight_during tid scene n work).said m i n (scene.inc n) ≡ Closed up_to told ∷ all_said tid rest
  head = head_said tid scene n m i message rest work.out.messages next ∙ rw says refl

  known_after : part_of tid counted_work ≡ Some (counted tid.home (node_no m) up_to told part)
  known_after = lookup_changed (is_at (tid_cmp tid)) (counted tid.home (node_no m) up_to told) work.node.manager.known part knows.known

  quiet : Quiet tid work counted_work
  quiet = record { sends = λ q. refl; logs = λ log. Rattle.qs_world_refine.proofs.Alike.found_itself tid _ }

  same_face : SameFace (seen.counted ((sight_during tid scene n work).face n) m up_to (λ k. names_node told (node_no k))) (face_at counted_work.node tid)
  same_face = rw (face_before, part_known tid counted_work.node (counted tid.home (node_no m) up_to told part) known_after)
      (face_counted tid m up_to told work.node (tm.counted tid (node_no m) up_to told work.node.manager) part knows.whole (omega (arith, next.from.in_run, shown.stage.small)) home_in sets lacks)

  turn : SightGoes tid (sight_counted (sight_during tid scene n work) n m i up_to (λ k. names_node told (node_no k)) (all_said tid rest)) w
  turn = event.count tid (sight_during tid scene n work) w n m i up_to told (all_said tid rest) shown (runs tid scene n work at) (meets tid scene n m i work next.from) head open_before

  pub closer_goes : Goes tid (handed scene m i n rest) n (closer_came (node_no m) tid up_to told work) w
  closer_goes = record {
    next = turn.next;
    leads = turn.leads;
    shown = rw (undecided_is tid (λ part. count (node_no m) tid up_to told) work part knows.known undecided)
        (taken_shown tid scene n m i message rest work counted_work turn.next next quiet (seen.counted ((sight_during tid scene n work).face n) m up_to (λ k. names_node told (node_no k))) turn.shown same_face);
  }

-- ---- every other transaction

pub closer_leaves : (t tid : Tid) (peer : NodeNo) (up_to : ℕ) (told : List NodeNo) (work : Work) → Apart t tid → Leaves t work (closer_came peer tid up_to told work)
closer_leaves t tid peer up_to told work apart = by (part_of tid work)
  where
    counts : Leaves t work (count peer tid up_to told work)
    counts = out_leaves t work (count peer tid up_to told work) (part_leaves t tid (counted tid.home peer up_to told) work apart).node refl refl

    decided : (b : Bool) → Leaves t work (if b then count peer tid up_to told work else work)
    decided true = counts
    decided false = leaves_itself t work

    by : (o : Option Participant) → Leaves t work (elim o [ None ↦ work | Some part ↦ if Rattle.qs_tm.specs.Participant.is_undecided part then count peer tid up_to told work else work ])
    by None = leaves_itself t work
    by (Some part) = decided (Rattle.qs_tm.specs.Participant.is_undecided part)
