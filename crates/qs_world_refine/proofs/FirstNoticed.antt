-- A node finds in the first step of an incarnation that another one restarted: its machine comes to know that before the node looks at what its log left open.
use Rattle.qs_world_refine.proofs.Words.{◌≡◌, ◌≢◌, ◌⊎◌, inl, inr, ℕ, ◌<◌, ◌≤◌, ◌==◌, ◌&&◌, not, Bool, true, false, List, [], ◌++◌, Option, Some, None, fold, refl, sym, ap, subst, ◌∙◌, arith, if◌then◌else◌, is_at, list_any, tid_cmp, Tid, peer_of, no_peer, is_covered, PeerPart, is_one, is_owed_by, Outstanding, Participant, block, notice_tid, peer_restarted, Work, part_of, with_manager, with_queues, Face, node_no, face, face_at, part_at, noticed, IsNoticed, all_said, Scene, ShowsWork, sight_during}
use Rattle.qs_world_refine.proofs.Words.{Stands, GoesOn, Goes, or_from}
use Rattle.std.specs.Prelude.{slice_set}
use Rattle.std.proofs.lemmas.List.{set-get_or}
use Rattle.qs_engage.specs.Engage.{is_open_to}
use Rattle.qs_ipc.specs.Ipc as ipc
use Rattle.qs_ops.specs.declared.answer.Cause.TheVariants as causes
use Rattle.qs_tm.specs.Manager as tm
use Rattle.qs_tm.specs.Participant as participant
use Rattle.qs_tm.specs.Participant.{waits_for, is_to}
use Rattle.qs_tm.specs.declared.manager.Which.TheVariants as whiches
use Rattle.qs_world_agree.specs.World.{World}
use Rattle.qs_world_refine.specs.Shows.{sent_to}
use Rattle.qs_world_refine.proofs.Alike.{SameFace, same_itself, found_itself, sight_alike}
use Rattle.qs_world_refine.proofs.During.{Leaves, quiet_itself}
use Rattle.qs_world_refine.proofs.Keeping.{Keeps, keeps_goes}
use Rattle.qs_world_refine.proofs.Reading.{part_known}
use Rattle.qs_world_refine.proofs.RestartTurn.{IsFound, own_turn}
use Rattle.qs_world_refine.proofs.RestartStands.{unconcerned, unknown_turn, others, others_leave, is_concerned, same_turns}
use Rattle.qs_world_refine.proofs.Maps.{lookup_changed}
use Rattle.qs_world_refine.proofs.Moving.{knows_as}
use Rattle.qs_world_refine.proofs.RestartFrames.{marked_leaves}
use Rattle.qs_world_refine.proofs.SettleStands.{stands_left, goes_further, stands_itself}
use Rattle.qs_world_refine.proofs.SoundAge.{put_all}
use Rattle.qs_world_refine.proofs.SoundQueued.{marked_sound}
use Rattle.qs_world_refine.proofs.SoundViews.{seen}
use Rattle.qs_world_refine.proofs.Turns.{turns, fold_split, Never, Once, turn_of}

-- ---- what it took up has nothing to do with the other node

-- nothing went to that node or came from it, and no reply of it is awaited
pub record HasNothing (m : ℕ) (part : Participant) : Type 0 where
  pub peer : peer_of part.engage (node_no m) ≡ no_peer
  pub waiting : part.waiting ≡ []

module _ (t : Tid) (scene : Scene) (n m old new : ℕ) (work : Work) (w : World) (is : Stands t scene n work w) (found : IsNoticed t scene n m old new work) where
  -- so the machine may come to know of the restart
  pub noticed_first : ((part : Participant) → part_of t work ≡ Some part → HasNothing m part) → GoesOn t (noticed scene n m new) n work w
  noticed_first nothing = by (part_of t work) refl
    where
      by : (o : Option Participant) → part_of t work ≡ o → GoesOn t (noticed scene n m new) n work w
      by None none = unknown_turn t scene n m old new work w is found none
      by (Some part) known = unconcerned t scene n m old new work w is found (at (λ e. e.last)) (at (λ e. e.sent)) (at (λ e. e.covered))
        where
          at : (g : PeerPart → ℕ) → g (peer_of (part_at work.node t).engage (node_no m)) ≡ g no_peer
          at g = ap (λ (p : Participant). g (peer_of p.engage (node_no m))) (part_known t work.node part known) ∙ ap g (nothing part known).peer

-- ---- then each transaction is looked at, with the restart known

-- what is known of other nodes, told otherwise
module _ (t : Tid) (scene : Scene) (knows : ℕ → ℕ → ℕ) (same : (a b : ℕ) → knows a b ≡ scene.knows a b) (n : ℕ) where
  abbrev other : Scene
  other = record scene { knows = knows }

  pub told_alike : (work : Work) (v : World) → ShowsWork t scene n work v → ShowsWork t other n work v
  told_alike work v shown = sight_alike t (record (sight_during t scene n work) { knows = knows }) (sight_during t other n work) v
      (record {
        size = refl;
        inc = refl;
        up = refl;
        knows = refl;
        face = λ k. same_itself ((sight_during t scene n work).face k);
        said = λ p k q l. ap (λ (i : ℕ). if (p == n) && ((k == scene.inc n) && ((l == i) && not (l == 0))) then all_said t (scene.pending p k q l) ++ all_said t (sent_to q work.out.messages) else all_said t (scene.pending p k q l)) (same n q);
        unmet = λ p q. ap (λ (i : ℕ). if (p == n) && (i == 0) then all_said t (scene.unmet p q) ++ all_said t (sent_to q work.out.messages) else all_said t (scene.unmet p q)) (same n q);
        found = λ k. found_itself t ((sight_during t scene n work).found k);
      }) (knows_as t (sight_during t scene n work) v knows same shown)

  pub stands_alike : (work : Work) (v : World) → Stands t scene n work v → Stands t other n work v
  stands_alike work v is = record {
    at = record { in_run = is.at.in_run; up = is.at.up; node = is.at.node; nodes = is.at.nodes; inc = is.at.inc };
    home_in = is.home_in;
    sound = is.sound;
    kinds = is.kinds;
    lawful = is.lawful;
    shown = told_alike work v is.shown;
    clear = is.clear;
    superior = λ part k known has. subst (λ (i : ℕ). 1 ≤ i) (sym (same n k)) (is.superior part k known has);
  }

module _ (t : Tid) (scene : Scene) (n m old new : ℕ) (m_in : m < scene.size) (apart : m ≢ n) (some : 1 ≤ new) where
  abbrev later : Scene
  later = noticed scene n m new

  abbrev turn : Work → Tid → Work
  turn = notice_tid (node_no m) old new

  -- that it is known is known
  known_twice : (a b : ℕ) → (noticed later n m new).knows a b ≡ later.knows a b
  known_twice a b = by ((a == n) && (b == m))
    where
      by : (c : Bool) → (if c then new else (if c then new else scene.knows a b)) ≡ (if c then new else scene.knows a b)
      by true = refl
      by false = refl

  module _ (work : Work) (w : World) (is : Stands t later n work w) (part : Participant) (known : part_of t work ≡ Some part) (nothing : HasNothing m part) where
    -- the numbers of its requests do not change
    restarted_same : participant.restarted (node_no m) part ≡ part
    restarted_same = ap (λ (ps : List PeerPart). record part { engage = record part.engage { peers = ps } })
        (ap (λ (e : PeerPart). slice_set part.engage.peers m (record e { last = 0 })) nothing.peer ∙ (ap (λ (e : PeerPart). slice_set part.engage.peers m e) (sym nothing.peer) ∙ set-get_or part.engage.peers m no_peer))

    abbrev renumbered : Work
    renumbered = with_manager (tm.restarted t (node_no m)) work

    face_same : face_at renumbered.node t ≡ face_at work.node t
    face_same = ap (λ (p : Participant). face work.node t p) (part_known t renumbered.node part renumbered_known) ∙ sym (ap (λ (p : Participant). face work.node t p) (part_known t work.node part known))
      where
        renumbered_known : part_of t renumbered ≡ Some part
        renumbered_known = lookup_changed (is_at (tid_cmp t)) (participant.restarted (node_no m)) work.node.manager.known part known ∙ ap (λ (p : Participant). Some p) restarted_same

    keeps : Keeps t work renumbered
    keeps = record {
      face = subst (λ (f : Face). SameFace (face_at work.node t) f) (sym face_same) (same_itself (face_at work.node t));
      quiet = record { sends = (quiet_itself t work).sends; logs = (quiet_itself t work).logs };
    }

    numbered : Goes t (noticed later n m new) n renumbered w
    numbered = keeps_goes t (noticed later n m new) n work renumbered w keeps (told_alike t later (noticed later n m new).knows known_twice n work w is.shown)

    owed : is_owed_by (node_no m) part ≡ false
    owed = or_from (is_open_to (node_no m) part.engage) (waits_for (node_no m) part) (ap (λ (e : PeerPart). not (is_covered e)) nothing.peer) (ap (λ (l : List Outstanding). list_any (is_to (node_no m)) l) nothing.waiting)

    found_known : IsFound t later n m old new work w part
    found_known = record {
      other = apart;
      in_run = m_in;
      later = some;
      more = λ k has. subst (λ (i : ℕ). 1 ≤ i) (sym (known_twice n k)) has;
      gone = λ undecided. subst (λ (b : Bool). Goes t (noticed later n m new) n (if b then block t (causes.Gone (node_no m) old) renumbered else renumbered) w) (sym owed) numbered;
      decided = λ outcome decided. numbered;
    }

    pub looked_at : m < 16 → GoesOn t later n (turn work t) w
    looked_at small = record { next = own.next; leads = own.leads; stands = stands_alike t (noticed later n m new) later.knows (λ a b. sym (known_twice a b)) n (turn work t) own.next own.stands }
      where
        own : GoesOn t (noticed later n m new) n (turn work t) w
        own = own_turn t later n m old new work w is part known found_known small

  all_looked : m < 16 → (work : Work) (w : World) → ((part : Participant) → part_of t work ≡ Some part → HasNothing m part) → Stands t later n work w
      → GoesOn t later n (fold turn work (turns (is_concerned m) work.node.manager.known)) w
  all_looked small work w nothing is = by (turn_of t (is_concerned m) work.node.manager.known (seen work.node is.sound).ordered)
    where
      by : Never t (is_concerned m) work.node.manager.known ⊎ Once t (is_concerned m) work.node.manager.known → GoesOn t later n (fold turn work (turns (is_concerned m) work.node.manager.known)) w
      by (inl never) = stands_itself t later n (fold turn work (turns (is_concerned m) work.node.manager.known)) w (others t scene n m old new small later (turns (is_concerned m) work.node.manager.known) work w never.apart is)
      by (inr once) = subst (λ (k : Work). GoesOn t later n k w) (sym (ap (fold turn work) once.is ∙ fold_split turn once.front t once.back work))
          (goes_further t later n (fold turn (turn (fold turn work once.front) t) once.back) w own.next own.leads
          (stands_itself t later n (fold turn (turn (fold turn work once.front) t) once.back) own.next (others t scene n m old new small later once.back (turn (fold turn work once.front) t) own.next once.after own.stands)))
        where
          front : Work
          front = fold turn work once.front

          left : Leaves t work front
          left = others_leave t scene n m old new small once.front work once.before

          own : GoesOn t later n (turn front t) w
          own = looked_at front w (others t scene n m old new small later once.front work w once.before is) once.part (left.node.part ∙ once.known) (nothing once.part once.known) small

  pub noticed_then : (work : Work) (w : World) → ((part : Participant) → part_of t work ≡ Some part → HasNothing m part) → Stands t later n work w → GoesOn t later n (peer_restarted (node_no m) old new work) w
  noticed_then work w nothing is = subst (λ (tids : List Tid). GoesOn t later n (fold turn marked tids) w) (sym list_is)
      (all_looked small marked w nothing (stands_left t later n work marked w (marked_leaves t (node_no m) work) (marked_sound (node_no m) work.node is.sound) is.kinds is))
    where
      marked : Work
      marked = with_queues (ipc.mark_queues (node_no m)) work

      small : m < 16
      small = below m scene.size m_in is.shown.stage.small
        where
          below : (a b : ℕ) → a < b → b ≤ 16 → a < 16
          below a b less most = omega (arith, less, most)

      list_is : tm.concerned (node_no m) work.node.manager ≡ turns (is_concerned m) work.node.manager.known
      list_is = put_all (whiches.Concerned (node_no m)) work.node.manager.known [] ∙ same_turns m work.node.manager.known
