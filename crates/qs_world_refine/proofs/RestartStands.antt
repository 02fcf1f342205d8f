-- A node finds that another one restarted, and what stood of a transaction stands.
use Rattle.qs_world_refine.proofs.Words.{◌≡◌, ◌⊎◌, inl, inr, ℕ, ◌<◌, ◌≤◌, ◌==◌, ◌&&◌, ◌||◌, not, Bool, true, false, List, [], ◌∷◌, Option, Some, None, fold, refl, sym, subst, ap, ◌∙◌, arith, if◌then◌else◌, unwrap_or, eqb-true, Tid, peer_of, same_node, is_one, Participant, notice_tid, Work, part_of, with_queues, node_no, face_at, part_at, noticed, IsNoticed, Scene, sight_during, Sight, Stands, GoesOn, Goes, no_peer, PeerPart, Face, ShowsFace, place, unknown, is_past_commit}
use Rattle.qs_base.specs.declared.identifiers.Outcome.TheVariants as outcomes
use Rattle.qs_engage.specs.Engage.{is_idle_with}
use Rattle.qs_ipc.specs.Ipc as ipc
use Rattle.qs_tm.specs.Manager as tm
use Rattle.qs_tm.specs.Participant as participant
use Rattle.qs_tm.specs.declared.manager.Which.TheVariants as whiches
use Rattle.qs_world_agree.specs.World.{World}
use Rattle.qs_world_refine.specs.RestartFound.{PeerRestartedGoes}
use Rattle.qs_world_refine.proofs.During.{Leaves, leaves_itself}
use Rattle.qs_world_refine.proofs.KindsKept.{fold_kinds}
use Rattle.qs_world_refine.proofs.PeerNoticed.{noticed_goes, find_gone_goes, notice_decided as notice_decided_goes}
use Rattle.qs_world_refine.proofs.RestartFrames.{marked_leaves, notice_leaves, notice_kinds}
use Rattle.qs_world_refine.proofs.SettleRules.{beside}
use Rattle.qs_world_refine.proofs.SettleStands.{stands_left, goes_further, stands_itself, whole_known}
use Rattle.qs_world_refine.proofs.SoundParts.{and_both}
use Rattle.qs_world_refine.proofs.SoundQueued.{marked_sound}
use Rattle.qs_world_refine.proofs.SoundRestart.{notice_sound}
use Rattle.qs_world_refine.proofs.SoundViews.{seen}
use Rattle.qs_world_refine.proofs.Turns.{Entry, turns, AllApart, turns_leave, turns_sound, fold_split, Never, Once, turn_of}
use Rattle.qs_engage.specs.Engage.{is_idle}
use Rattle.qs_tm.specs.Manager.{concerns}
use Rattle.qs_world_agree.specs.World.{with_at}
use Rattle.qs_world_refine.proofs.Alike.{SameFace}
use Rattle.qs_world_refine.proofs.During.{quiet_itself, face_here}
use Rattle.qs_world_refine.proofs.Reading.{part_known}
use Rattle.qs_world_refine.proofs.RestartOwn.{knows_more, stands_later}
use Rattle.qs_world_refine.proofs.RestartTurn.{IsFound, own_turn}
use Rattle.qs_world_refine.proofs.SoundAge.{picked, put_all}
use Rattle.qs_world_refine.proofs.StartWorlds.{alike_at}

-- ---- nothing of it has to do with the other node

pub none_shown : (f : Face) (m : ℕ) → f.last m ≡ 0 → SameFace (record f { last = with_at f.last m 0; blocked = f.blocked }) f
none_shown f m none = record { is_home = refl; on = refl; superior = refl; last = λ k. by k (k == m) refl; sent = λ k. refl; covered = λ k. refl; waits = λ s. refl; uncast = λ s. refl; loans = refl; asked = refl; blocked = refl; involved = refl; told = λ k. refl; outcome = refl; tell = λ k. refl }
  where
    by : (k : ℕ) (b : Bool) → (k == m) ≡ b → f.last k ≡ (if b then 0 else f.last k)
    by k true same = ap f.last (eqb-true k m same) ∙ none
    by k false other = refl

module _ (t : Tid) (scene : Scene) (n m old new : ℕ) (work : Work) (w : World) (is : Stands t scene n work w) (found : IsNoticed t scene n m old new work) where
  abbrev x : Sight
  x = sight_during t scene n work

  pub unconcerned : (face_at work.node t).last m ≡ 0 → (face_at work.node t).sent m ≡ 0 → (face_at work.node t).covered m ≡ 0 → GoesOn t (noticed scene n m new) n work w
  unconcerned last sent covered = record {
    next = turn.next;
    leads = turn.leads;
    stands = stands_later t scene n m old new work work w turn.next (knows_more t scene n m old new found.later found.knows) is turn.leads turn.shown (leaves_itself (beside t) work) (λ sound. sound) (λ kinds. kinds) is.clear is.superior;
  }
    where
      before : x.face n ≡ face_at work.node t
      before = face_here t scene n work

      here : ShowsFace (x.face n) (place n (scene.inc n)) w
      here = is.shown.faces n is.at.in_run is.at.up

      turn : Goes t (noticed scene n m new) n work w
      turn = noticed_goes t scene n m old new work w is.lawful is.shown is.at found (x.face n).blocked work (quiet_itself t work)
          (subst (λ (f : Face). SameFace (record f { last = with_at f.last m 0; blocked = f.blocked }) (face_at work.node t)) (sym before) (none_shown (face_at work.node t) m last))
          (λ running free. (free, (here.running running).covered m ∙ (ap (λ (f : Face). f.covered m) before ∙ (covered ∙ sym (ap (λ (f : Face). f.sent m) before ∙ sent)))))

  -- it is not known
  pub unknown_turn : part_of t work ≡ None → GoesOn t (noticed scene n m new) n work w
  unknown_turn none = unconcerned (ap (λ (e : PeerPart). e.last) nothing) (ap (λ (e : PeerPart). e.sent) nothing) (ap (λ (e : PeerPart). e.covered) nothing)
    where
      picked_at : (b : Bool) (c : Bool) → peer_of (if b then record (participant.new_participant true) { outcome = if c then Some outcomes.Commit else None } else participant.new_participant false).engage (node_no m) ≡ no_peer
      picked_at true c = alike_at 16 m no_peer
      picked_at false c = alike_at 16 m no_peer

      nothing : peer_of (part_at work.node t).engage (node_no m) ≡ no_peer
      nothing = ap (λ (o : Option Participant). peer_of (unwrap_or o (unknown work.node t)).engage (node_no m)) none ∙ picked_at (same_node t.home work.node.setting.node) (is_past_commit work.node t)

  -- it has nothing to do with that node
  idle_turn : (part : Participant) → part_of t work ≡ Some part → concerns (node_no m) t part ≡ false → GoesOn t (noticed scene n m new) n work w
  idle_turn part known apart = unconcerned (ap (λ (p : Participant). (peer_of p.engage (node_no m)).last) at ∙ three.1.1) (ap (λ (p : Participant). (peer_of p.engage (node_no m)).sent) at ∙ three.0) (ap (λ (p : Participant). (peer_of p.engage (node_no m)).covered) at ∙ three.1.0)
    where
      at : part_at work.node t ≡ part
      at = part_known t work.node part known

      still : is_idle_with (node_no m) part.engage ≡ true
      still = by (same_node t.home (node_no m)) (is_idle_with (node_no m) part.engage) _ apart
        where
          by : (a b c : Bool) → ((a || not b) || c) ≡ false → b ≡ true
          by true b c is = absurd (cc is)
          by false true c is = refl
          by false false c is = absurd (cc is)

      three : ((peer_of part.engage (node_no m)).sent ≡ 0) × (((peer_of part.engage (node_no m)).covered ≡ 0) × ((peer_of part.engage (node_no m)).last ≡ 0))
      three = all (peer_of part.engage (node_no m)) still
        where
          all : (e : PeerPart) → is_idle e ≡ true → (e.sent ≡ 0) × ((e.covered ≡ 0) × (e.last ≡ 0))
          all e is =
              let both : (((e.sent == 0) && (e.covered == 0)) ≡ true) × ((e.last == 0) ≡ true) = and_both ((e.sent == 0) && (e.covered == 0)) (e.last == 0) is in
              let first : ((e.sent == 0) ≡ true) × ((e.covered == 0) ≡ true) = and_both (e.sent == 0) (e.covered == 0) both.0 in
              (eqb-true e.sent 0 first.0, (eqb-true e.covered 0 first.1, eqb-true e.last 0 both.1))

-- ---- each has its turn

abbrev pub is_concerned : ℕ → Entry → Bool
is_concerned m e = is_one (whiches.Concerned (node_no m)) e.0 e.1

pub same_turns : (m : ℕ) (es : List Entry) → picked (whiches.Concerned (node_no m)) es ≡ turns (is_concerned m) es
same_turns m [] = refl
same_turns m (e ∷ es) = by (is_concerned m e) (same_turns m es)
  where
    by : (b : Bool) → picked (whiches.Concerned (node_no m)) es ≡ turns (is_concerned m) es → (if b then e.0 ∷ picked (whiches.Concerned (node_no m)) es else picked (whiches.Concerned (node_no m)) es) ≡ (if b then e.0 ∷ turns (is_concerned m) es else turns (is_concerned m) es)
    by true more = ap (λ (l : List Tid). e.0 ∷ l) more
    by false more = more

module _ (t : Tid) (scene : Scene) (n m old new : ℕ) (small : m < 16) where
  abbrev turn : Work → Tid → Work
  turn = notice_tid (node_no m) old new

  pub others_leave : (tids : List Tid) (work : Work) → AllApart t tids → Leaves t work (fold turn work tids)
  others_leave tids work apart = turns_leave t turn (λ tid off work. notice_leaves (node_no m) old new t tid off work) tids work apart

  pub others : (some : Scene) (tids : List Tid) (work : Work) (w : World) → AllApart t tids → Stands t some n work w → Stands t some n (fold turn work tids) w
  others some tids work w apart is = stands_left t some n work (fold turn work tids) w (others_leave tids work apart)
      (turns_sound turn (λ work tid. notice_sound (node_no m) old new small work tid) tids work is.sound) (fold_kinds turn (notice_kinds (node_no m) old new) tids work is.kinds) is

  found_left : (work now : Work) → Leaves t work now → IsNoticed t scene n m old new work → IsNoticed t scene n m old new now
  found_left work now left found = record { in_run = found.in_run; other = found.other; knows = found.knows; some = found.some; later = found.later; begun = found.begun; fresh = found.fresh; silent = left.quiet.sends m ∙ found.silent }

  -- it is noticed in this turn
  found_here : (work : Work) (w : World) → Stands t scene n work w → IsNoticed t scene n m old new work → (part : Participant) → part_of t work ≡ Some part → IsFound t scene n m old new work w part
  found_here work w is found part known = record {
    other = found.other;
    in_run = found.in_run;
    later = omega (arith, found.later);
    more = knows_more t scene n m old new found.later found.knows;
    gone = λ undecided. find_gone_goes t scene n m old new work part w is.lawful is.shown is.at found (whole_known t scene n work w is part known) undecided;
    decided = λ outcome decided. notice_decided_goes t scene n m old new outcome work part w is.lawful is.shown is.at found (whole_known t scene n work w is part known) decided;
  }

  all_noticed : (work : Work) (w : World) → IsNoticed t scene n m old new work → Stands t scene n work w → GoesOn t (noticed scene n m new) n (fold turn work (turns (is_concerned m) work.node.manager.known)) w
  all_noticed work w found is = by (turn_of t (is_concerned m) work.node.manager.known (seen work.node is.sound).ordered)
    where
      by : Never t (is_concerned m) work.node.manager.known ⊎ Once t (is_concerned m) work.node.manager.known → GoesOn t (noticed scene n m new) n (fold turn work (turns (is_concerned m) work.node.manager.known)) w
      by (inl never) = last (part_of t work) refl
        where
          done : Work
          done = fold turn work (turns (is_concerned m) work.node.manager.known)

          left : Leaves t work (fold turn work (turns (is_concerned m) work.node.manager.known))
          left = others_leave (turns (is_concerned m) work.node.manager.known) work never.apart

          stands : Stands t scene n (fold turn work (turns (is_concerned m) work.node.manager.known)) w
          stands = others scene (turns (is_concerned m) work.node.manager.known) work w never.apart is

          last : (o : Option Participant) → part_of t work ≡ o → GoesOn t (noticed scene n m new) n (fold turn work (turns (is_concerned m) work.node.manager.known)) w
          last None none = unknown_turn t scene n m old new (fold turn work (turns (is_concerned m) work.node.manager.known)) w stands (found_left work (fold turn work (turns (is_concerned m) work.node.manager.known)) left found) (left.node.part ∙ none)
          last (Some part) known = idle_turn t scene n m old new (fold turn work (turns (is_concerned m) work.node.manager.known)) w stands (found_left work (fold turn work (turns (is_concerned m) work.node.manager.known)) left found) part (left.node.part ∙ known) (never.passed part known)
      by (inr once) = subst (λ (k : Work). GoesOn t (noticed scene n m new) n k w) (sym (ap (fold turn work) once.is ∙ fold_split turn once.front t once.back work))
          (goes_further t (noticed scene n m new) n (fold turn (turn (fold turn work once.front) t) once.back) w own.next own.leads
          (stands_itself t (noticed scene n m new) n (fold turn (turn (fold turn work once.front) t) once.back) own.next (others (noticed scene n m new) once.back (turn (fold turn work once.front) t) own.next once.after own.stands)))
        where
          left : Leaves t work (fold turn work once.front)
          left = others_leave once.front work once.before

          own : GoesOn t (noticed scene n m new) n (turn (fold turn work once.front) t) w
          own = own_turn t scene n m old new (fold turn work once.front) w (others scene once.front work w once.before is) once.part (left.node.part ∙ once.known)
              (found_here (fold turn work once.front) w (others scene once.front work w once.before is) (found_left work (fold turn work once.front) left found) once.part (left.node.part ∙ once.known)) small

pub peer_restarted_goes : PeerRestartedGoes
peer_restarted_goes t scene n m old new work w found is = subst (λ (tids : List Tid). GoesOn t (noticed scene n m new) n (fold (notice_tid (node_no m) old new) marked tids) w) (sym list_is)
    (all_noticed t scene n m old new small marked w (record { in_run = found.in_run; other = found.other; knows = found.knows; some = found.some; later = found.later; begun = found.begun; fresh = found.fresh; silent = found.silent })
    (stands_left t scene n work marked w (marked_leaves t (node_no m) work) (marked_sound (node_no m) work.node is.sound) is.kinds is))
  where
    marked : Work
    marked = with_queues (ipc.mark_queues (node_no m)) work

    small : m < 16
    small = below m scene.size found.in_run is.shown.stage.small
      where
        below : (a b : ℕ) → a < b → b ≤ 16 → a < 16
        below a b less most = omega (arith, less, most)

    list_is : tm.concerned (node_no m) work.node.manager ≡ turns (is_concerned m) work.node.manager.known
    list_is = put_all (whiches.Concerned (node_no m)) work.node.manager.known [] ∙ same_turns m work.node.manager.known
