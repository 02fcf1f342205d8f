-- A node finds that another one restarted: the turn of one transaction, in which its machine comes to know it.
use Rattle.qs_world_refine.proofs.Words.{◌≡◌, ◌≢◌, ℕ, ◌<◌, ◌≤◌, ◌==◌, ◌&&◌, not, nat_lt, Bool, true, false, Option, Some, None, refl, sym, subst, ap, ◌∙◌, arith, if◌then◌else◌, is_at, eqb-true, nat_tests, tid_cmp, NodeNo, Tid, peer_of, same_node, is_one, Participant, find_gone, is_orphaned_by, inquire, notice_decided, notice_part, notice_tid, Work, part_of, with_manager, IsLawful, node_no, noticed, Scene, ShowsWork, same_flag, is_superior, StaysSound, Stands, GoesOn, IsAt, Goes, length-set, listed}
use Rattle.qs_world_refine.proofs.Words.{PeerPart, is_abort, named_by, is_owed_by, block, send, name_again, IsWhole, never_both}
use Rattle.qs_base.specs.declared.identifiers.Outcome.{Outcome}
use Rattle.qs_base.specs.declared.identifiers.Outcome.TheVariants as outcomes
use Rattle.qs_tm.specs.Manager as tm
use Rattle.qs_tm.specs.Participant as participant
use Rattle.qs_world_agree.specs.World.{World}
use Rattle.qs_world_refine.specs.Steps.{Knows}
use Rattle.qs_world_refine.proofs.DecidedStands.{KeepOutcomes}
use Rattle.qs_world_refine.proofs.During.{Leaves}
use Rattle.qs_world_refine.proofs.Facts.{lawful_on}
use Rattle.qs_world_refine.proofs.InquireSent.{inquire_goes}
use Rattle.qs_world_refine.proofs.Keeping.{nothing_goes}
use Rattle.qs_world_refine.proofs.KindsKept.{KeepsKinds}
use Rattle.qs_world_refine.proofs.PassCarried.{Carries}
use Rattle.qs_world_refine.proofs.RestartFrames.{notice_leaves, notice_kinds, undecided_carries, decided_outcomes}
use Rattle.qs_world_refine.proofs.Resuming.{tell_again_goes, name_home, name_other}
use Rattle.qs_world_refine.proofs.SendGoes.{goes_on}
use Rattle.qs_world_refine.proofs.SettleRules.{beside, beside_apart, clear_carried, answers_carried}
use Rattle.qs_world_refine.proofs.SettleStands.{whole_known}
use Rattle.qs_world_refine.proofs.SoundHolds.{known_sound}
use Rattle.qs_world_refine.proofs.SoundRestart.{notice_sound}
use Rattle.qs_world_refine.proofs.Arrays.{peer_put}
use Rattle.qs_ops.specs.declared.answer.Cause.TheVariants as causes
use Rattle.qs_packet.specs.declared.message.Message.TheVariants as messages
use Rattle.qs_node_step.specs.Restarts.{tell_again}
use Rattle.qs_world_refine.proofs.DecidedStands.{decided_clear, decided_answers}
use Rattle.qs_world_refine.proofs.Maps.{lookup_changed}
use Rattle.qs_world_refine.proofs.SoundParts.{and_both}
use Rattle.qs_world_refine.proofs.Orphaned.{IsOrphan, orphan_inquires}
use Rattle.qs_world_refine.proofs.SettleStands.{at_home}
use Rattle.qs_world_refine.proofs.RestartOwn.{stands_later, names_same}

-- ---- its own turn

-- the machine comes to know the restart in this turn, or knows it
pub record IsFound (t : Tid) (scene : Scene) (n m old new : ℕ) (work : Work) (w : World) (part : Participant) : Type 0 where
  pub other : m ≢ n
  pub in_run : m < scene.size
  pub later : 1 ≤ new
  pub more : (k : ℕ) → 1 ≤ scene.knows n k → 1 ≤ (noticed scene n m new).knows n k
  pub gone : part.outcome ≡ None → Goes t (noticed scene n m new) n (find_gone (node_no m) old t part (with_manager (tm.restarted t (node_no m)) work)) w
  pub decided : (outcome : Outcome) → part.outcome ≡ Some outcome → Goes t (noticed scene n m new) n (with_manager (tm.restarted t (node_no m)) work) w

module _ (t : Tid) (scene : Scene) (n m old new : ℕ) (work : Work) (w : World) (is : Stands t scene n work w) (part : Participant) (known : part_of t work ≡ Some part) (found : IsFound t scene n m old new work w part) (small : m < 16) where
  turn_is : notice_tid (node_no m) old new work t ≡ notice_part (node_no m) old new t part (with_manager (tm.restarted t (node_no m)) work)
  turn_is = ap (λ (o : Option Participant). elim o [ None ↦ work | Some part ↦ notice_part (node_no m) old new t part (with_manager (tm.restarted t (node_no m)) work) ]) known

  left : Leaves (beside t) work (notice_tid (node_no m) old new work t)
  left = notice_leaves (node_no m) old new (beside t) t (beside_apart t) work

  sound : StaysSound work (notice_tid (node_no m) old new work t)
  sound = notice_sound (node_no m) old new small work t

  kinds : KeepsKinds work (notice_tid (node_no m) old new work t)
  kinds = notice_kinds (node_no m) old new work t

  knows : Knows t work part
  knows = whole_known t scene n work w is part known

  -- it inquires, where it is orphaned
  asks : (mid : Work) (v : World) (p : Participant) → IsLawful v → ShowsWork t (noticed scene n m new) n mid v → IsAt (noticed scene n m new) n mid → Knows t mid p → p.outcome ≡ None → (p.engage.home ≡ false → IsOrphan m p) → (t.home.0 == n) ≡ false
      → Goes t (noticed scene n m new) n (inquire (node_no m) new t p mid) v
  asks mid v p lawful shown at its_knows undecided its away = by p.engage.home refl (is_orphaned_by (node_no m) new t p) refl
    where
      other : t.home.0 ≢ n
      other same = never_both (t.home.0 == n) (grind (arith, nat_tests, same)) away

      now_known : (a b : Bool) → a ≡ true → b ≡ true → (if a && b then new else scene.knows n m) ≡ new
      now_known a b is so = rw (is, so) refl

      by : (h : Bool) → p.engage.home ≡ h → (b : Bool) → is_orphaned_by (node_no m) new t p ≡ b → Goes t (noticed scene n m new) n (inquire (node_no m) new t p mid) v
      by false home true orphan = inquire_goes t (noticed scene n m new) n m new mid p v lawful shown at its_knows undecided other is.home_in (orphan_inquires t (noticed scene n m new) n m new mid v p lawful shown at is.home_in found.in_run (now_known (n == n) (m == m) (grind (arith, nat_tests)) (grind (arith, nat_tests))) found.later away its_knows.known undecided (its home) orphan)
      by true home b orphan = rw home (nothing_goes t (noticed scene n m new) n mid v shown)
      by false home false orphan = rw (home, orphan) (nothing_goes t (noticed scene n m new) n mid v shown)

  -- where it is not decided
  undecided_turn : part.outcome ≡ None → GoesOn t (noticed scene n m new) n (notice_tid (node_no m) old new work t) w
  undecided_turn undecided = record {
    next = whole.next;
    leads = whole.leads;
    stands = stands_later t scene n m old new work (notice_tid (node_no m) old new work t) w whole.next found.more is whole.leads whole.shown left sound kinds
        (clear_carried t scene n work (notice_tid (node_no m) old new work t) w is part known undecided (carries part known)) (answers_carried t scene n work (notice_tid (node_no m) old new work t) w is part known undecided (carries part known));
  }
    where
      both_are : notice_tid (node_no m) old new work t ≡ inquire (node_no m) new t part (find_gone (node_no m) old t part (with_manager (tm.restarted t (node_no m)) work))
      both_are = turn_is ∙ ap (λ (o : Option Outcome). elim o [
        | None ↦ inquire (node_no m) new t part (find_gone (node_no m) old t part (with_manager (tm.restarted t (node_no m)) work))
        | Some outcome ↦ notice_decided (node_no m) t outcome part (with_manager (tm.restarted t (node_no m)) work)
      ]) undecided

      carries : Carries t work (notice_tid (node_no m) old new work t)
      carries = subst (λ (k : Work). Carries t work k) (sym both_are) (undecided_carries (node_no m) old new t part work)

      first : Goes t (noticed scene n m new) n (find_gone (node_no m) old t part (with_manager (tm.restarted t (node_no m)) work)) w
      first = found.gone undecided

      whole : Goes t (noticed scene n m new) n (notice_tid (node_no m) old new work t) w
      whole = subst (λ (k : Work). Goes t (noticed scene n m new) n k w) (sym both_are)
          (goes_on t (noticed scene n m new) n (inquire (node_no m) new t part (find_gone (node_no m) old t part (with_manager (tm.restarted t (node_no m)) work))) w first.next first.leads
          (inquires (is_owed_by (node_no m) part) refl (t.home.0 == n) refl))
        where
          at_gone : (b : Bool) → IsAt (noticed scene n m new) n (if b then block t (causes.Gone (node_no m) old) (with_manager (tm.restarted t (node_no m)) work) else with_manager (tm.restarted t (node_no m)) work)
          at_gone true = record { in_run = is.at.in_run; up = is.at.up; node = is.at.node; nodes = is.at.nodes; inc = is.at.inc }
          at_gone false = record { in_run = is.at.in_run; up = is.at.up; node = is.at.node; nodes = is.at.nodes; inc = is.at.inc }

          -- what is kept of it then answers alike
          inquires : (b : Bool) → is_owed_by (node_no m) part ≡ b → (h : Bool) → (t.home.0 == n) ≡ h → Goes t (noticed scene n m new) n (inquire (node_no m) new t part (find_gone (node_no m) old t part (with_manager (tm.restarted t (node_no m)) work))) first.next
          inquires b owed true here = subst (λ (h : Bool). Goes t (noticed scene n m new) n (if not h && is_orphaned_by (node_no m) new t part then send t.home (messages.Inquire t) (find_gone (node_no m) old t part (with_manager (tm.restarted t (node_no m)) work)) else find_gone (node_no m) old t part (with_manager (tm.restarted t (node_no m)) work)) first.next)
              (sym (at_home t scene n work w is part known undecided here)) (nothing_goes t (noticed scene n m new) n (find_gone (node_no m) old t part (with_manager (tm.restarted t (node_no m)) work)) first.next first.shown)
          inquires b owed false away = asked b owed
            where
              gone_is : (b : Bool) → is_owed_by (node_no m) part ≡ b → find_gone (node_no m) old t part (with_manager (tm.restarted t (node_no m)) work) ≡ (if b then block t (causes.Gone (node_no m) old) (with_manager (tm.restarted t (node_no m)) work) else with_manager (tm.restarted t (node_no m)) work)
              gone_is b is = ap (λ (b : Bool). if b then block t (causes.Gone (node_no m) old) (with_manager (tm.restarted t (node_no m)) work) else with_manager (tm.restarted t (node_no m)) work) is

              numbered_known : part_of t (with_manager (tm.restarted t (node_no m)) work) ≡ Some (participant.restarted (node_no m) part)
              numbered_known = lookup_changed (is_at (tid_cmp t)) (participant.restarted (node_no m)) work.node.manager.known part known

              blocked_known : part_of t (block t (causes.Gone (node_no m) old) (with_manager (tm.restarted t (node_no m)) work)) ≡ Some (participant.add_cause (causes.Gone (node_no m) old) (participant.refused (participant.restarted (node_no m) part)))
              blocked_known = lookup_changed (is_at (tid_cmp t)) (participant.add_cause (causes.Gone (node_no m) old)) (tm.refused t (tm.restarted t (node_no m) work.node.manager)).known (participant.refused (participant.restarted (node_no m) part))
                  (lookup_changed (is_at (tid_cmp t)) participant.refused (tm.restarted t (node_no m) work.node.manager).known (participant.restarted (node_no m) part) numbered_known)

              whole_then : IsWhole (participant.restarted (node_no m) part)
              whole_then = record { peers = length-set part.engage.peers m _ ∙ knows.whole.peers; members = knows.whole.members; told = knows.whole.told; tell = knows.whole.tell; acknowledged = knows.whole.acknowledged }

              orphan : part.engage.home ≡ false → IsOrphan m (participant.restarted (node_no m) part)
              orphan home = record {
                last = λ s other answers was. same_last s other answers was;
                anew = ap (λ (e : PeerPart). e.last) (peer_put m m (record (peer_of part.engage (node_no m)) { last = 0 }) part.engage (rw knows.whole.peers small)) ∙ picked (m == m) (grind (arith, nat_tests));
              }
                where
                  picked : (b : Bool) → b ≡ true → (if b then record (peer_of part.engage (node_no m)) { last = 0 } else peer_of part.engage (node_no m)).last ≡ 0
                  picked b is = rw is refl

                  same_last : (s other : NodeNo) → part.engage.superior ≡ Some s → part.engage.last_superior ≡ Some other → other.0 ≡ s.0
                  same_last s other answers was = eqb-true other.0 s.0 (subst (λ (o : Option NodeNo). (elim o [ None ↦ false | Some other ↦ same_node other s ]) ≡ true) was (tested s answers))
                    where
                      tested : (s : NodeNo) → part.engage.superior ≡ Some s → (elim part.engage.last_superior [ None ↦ false | Some other ↦ same_node other s ]) ≡ true
                      tested s answers = (and_both (nat_lt s.0 work.node.setting.nodes && not (same_node s work.node.setting.node)) (elim part.engage.last_superior [ None ↦ false | Some other ↦ same_node other s ])
                          (and_both (not part.engage.home) (is_superior work.node part.engage.last_superior s) (subst (λ (o : Option NodeNo). (elim o [ None ↦ true | Some superior ↦ not part.engage.home && is_superior work.node part.engage.last_superior superior ]) ≡ true) answers
                          (known_sound t work.node part known is.sound).superior)).1).1

              asked : (b : Bool) → is_owed_by (node_no m) part ≡ b → Goes t (noticed scene n m new) n (inquire (node_no m) new t part (find_gone (node_no m) old t part (with_manager (tm.restarted t (node_no m)) work))) first.next
              asked true owed = subst (λ (k : Work). ShowsWork t (noticed scene n m new) n k first.next → Goes t (noticed scene n m new) n (inquire (node_no m) new t part k) first.next) (sym (gone_is true owed))
                  (λ shown. asks (block t (causes.Gone (node_no m) old) (with_manager (tm.restarted t (node_no m)) work)) first.next (participant.add_cause (causes.Gone (node_no m) old) (participant.refused (participant.restarted (node_no m) part))) (lawful_on w first.next is.lawful first.leads) shown (at_gone true)
                  (record { known = blocked_known; whole = record { peers = whole_then.peers; members = whole_then.members; told = whole_then.told; tell = whole_then.tell; acknowledged = whole_then.acknowledged } }) undecided (λ home. record { last = (orphan home).last; anew = (orphan home).anew }) away) first.shown
              asked false owed = subst (λ (k : Work). ShowsWork t (noticed scene n m new) n k first.next → Goes t (noticed scene n m new) n (inquire (node_no m) new t part k) first.next) (sym (gone_is false owed))
                  (λ shown. asks (with_manager (tm.restarted t (node_no m)) work) first.next (participant.restarted (node_no m) part) (lawful_on w first.next is.lawful first.leads) shown (at_gone false) (record { known = numbered_known; whole = whole_then }) undecided orphan away) first.shown

  -- where it is decided
  decided_turn : (outcome : Outcome) → part.outcome ≡ Some outcome → GoesOn t (noticed scene n m new) n (notice_tid (node_no m) old new work t) w
  decided_turn outcome decided = record {
    next = whole.next;
    leads = whole.leads;
    stands = stands_later t scene n m old new work (notice_tid (node_no m) old new work t) w whole.next found.more is whole.leads whole.shown left sound kinds
        (decided_clear t scene n work (notice_tid (node_no m) old new work t) w is part known outcome decided keeps) (decided_answers t scene n work (notice_tid (node_no m) old new work t) w is part known outcome decided keeps);
  }
    where
      both_are : notice_tid (node_no m) old new work t ≡ notice_decided (node_no m) t outcome part (with_manager (tm.restarted t (node_no m)) work)
      both_are = turn_is ∙ ap (λ (o : Option Outcome). elim o [
        | None ↦ inquire (node_no m) new t part (find_gone (node_no m) old t part (with_manager (tm.restarted t (node_no m)) work))
        | Some outcome ↦ notice_decided (node_no m) t outcome part (with_manager (tm.restarted t (node_no m)) work)
      ]) decided

      keeps : KeepOutcomes t work (notice_tid (node_no m) old new work t)
      keeps = subst (λ (k : Work). KeepOutcomes t work k) (sym both_are) (decided_outcomes (node_no m) old new t part outcome work)

      first : Goes t (noticed scene n m new) n (with_manager (tm.restarted t (node_no m)) work) w
      first = found.decided outcome decided

      then_knows : Knows t (with_manager (tm.restarted t (node_no m)) work) (participant.restarted (node_no m) part)
      then_knows = record {
        known = lookup_changed (is_at (tid_cmp t)) (participant.restarted (node_no m)) work.node.manager.known part known;
        whole = record { peers = length-set part.engage.peers m _ ∙ knows.whole.peers; members = knows.whole.members; told = knows.whole.told; tell = knows.whole.tell; acknowledged = knows.whole.acknowledged };
      }

      then_at : IsAt (noticed scene n m new) n (with_manager (tm.restarted t (node_no m)) work)
      then_at = record { in_run = is.at.in_run; up = is.at.up; node = is.at.node; nodes = is.at.nodes; inc = is.at.inc }

      tells : part.engage.home ≡ true → Goes t (noticed scene n m new) n (tell_again (node_no m) t outcome part (with_manager (tm.restarted t (node_no m)) work)) first.next
      tells home = told n at_node then_at first.shown
        where
          at_node : t.home.0 ≡ n
          at_node = eqb-true t.home.0 n (sym (ap (λ (k : NodeNo). same_node t.home k) is.at.node) ∙ on part.engage.home (same_node t.home work.node.setting.node) home (known_sound t work.node part known is.sound).homed)
            where
              on : (a b : Bool) → a ≡ true → same_flag a b ≡ true → b ≡ true
              on true b e so = so
              on false b e so = absurd (cc e)

          told : (k : ℕ) → t.home.0 ≡ k → IsAt (noticed scene n m new) k (with_manager (tm.restarted t (node_no m)) work) → ShowsWork t (noticed scene n m new) k (with_manager (tm.restarted t (node_no m)) work) first.next
              → Goes t (noticed scene n m new) k (tell_again (node_no m) t outcome part (with_manager (tm.restarted t (node_no m)) work)) first.next
          told k same = subst (λ (j : ℕ). IsAt (noticed scene n m new) j (with_manager (tm.restarted t (node_no m)) work) → ShowsWork t (noticed scene n m new) j (with_manager (tm.restarted t (node_no m)) work) first.next
              → Goes t (noticed scene n m new) j (tell_again (node_no m) t outcome part (with_manager (tm.restarted t (node_no m)) work)) first.next) same
              (λ at shown. tell_again_goes t (noticed scene n m new) m outcome (with_manager (tm.restarted t (node_no m)) work) (participant.restarted (node_no m) part) first.next shown at then_knows home decided)

      names : (o : Outcome) → outcome ≡ o → Goes t (noticed scene n m new) n (name_again (node_no m) t part (with_manager (tm.restarted t (node_no m)) work)) first.next
      names outcomes.Commit same = subst (λ (b : Bool). Goes t (noticed scene n m new) n (if b then send (node_no m) (messages.Told t (listed (named_by t.home part))) (with_manager (tm.restarted t (node_no m)) work) else with_manager (tm.restarted t (node_no m)) work) first.next) (sym off)
          (nothing_goes t (noticed scene n m new) n (with_manager (tm.restarted t (node_no m)) work) first.next first.shown)
        where
          off : (is_abort part.outcome && same_node t.home (node_no m)) ≡ false
          off = ap (λ (o : Option Outcome). is_abort o && same_node t.home (node_no m)) (decided ∙ ap (λ (o : Outcome). Some o) same)
      names outcomes.Abort same = named (t.home.0 == m) refl
        where
          named : (b : Bool) → (t.home.0 == m) ≡ b → Goes t (noticed scene n m new) n (name_again (node_no m) t part (with_manager (tm.restarted t (node_no m)) work)) first.next
          named true to_home = subst (λ (k : Work). Goes t (noticed scene n m new) n k first.next) (names_same t m small part knows.whole (with_manager (tm.restarted t (node_no m)) work))
              (subst (λ (k : ℕ). Goes t (noticed scene n m new) n (name_again (node_no k) t (participant.restarted (node_no m) part) (with_manager (tm.restarted t (node_no m)) work)) first.next) (eqb-true t.home.0 m to_home)
              (name_home t (noticed scene n m new) n new (with_manager (tm.restarted t (node_no m)) work) (participant.restarted (node_no m) part) first.next (lawful_on w first.next is.lawful first.leads) first.shown then_at
              (record { in_run = is.home_in; other = λ same. found.other (sym (eqb-true t.home.0 m to_home) ∙ same); knows = rw (eqb-true t.home.0 m to_home) (now_known (n == n) (m == m) (grind (arith, nat_tests)) (grind (arith, nat_tests))); some = omega (arith, found.later) })
              then_knows (decided ∙ ap (λ (o : Outcome). Some o) same)))
            where
              now_known : (a b : Bool) → a ≡ true → b ≡ true → (if a && b then new else scene.knows n m) ≡ new
              now_known a b is so = rw (is, so) refl
          named false away = name_other t (noticed scene n m new) n m (with_manager (tm.restarted t (node_no m)) work) part first.next first.shown (λ same. apart same)
            where
              apart : t.home.0 ≡ m → ⊥
              apart same = never_both (t.home.0 == m) (grind (arith, nat_tests, same)) away

      whole : Goes t (noticed scene n m new) n (notice_tid (node_no m) old new work t) w
      whole = subst (λ (k : Work). Goes t (noticed scene n m new) n k w) (sym both_are)
          (goes_on t (noticed scene n m new) n (notice_decided (node_no m) t outcome part (with_manager (tm.restarted t (node_no m)) work)) w first.next first.leads (by part.engage.home refl))
        where
          by : (h : Bool) → part.engage.home ≡ h → Goes t (noticed scene n m new) n (if h then tell_again (node_no m) t outcome part (with_manager (tm.restarted t (node_no m)) work) else name_again (node_no m) t part (with_manager (tm.restarted t (node_no m)) work)) first.next
          by true home = tells home
          by false away = names outcome refl

  pub own_turn : GoesOn t (noticed scene n m new) n (notice_tid (node_no m) old new work t) w
  own_turn = by part.outcome refl
    where
      by : (o : Option Outcome) → part.outcome ≡ o → GoesOn t (noticed scene n m new) n (notice_tid (node_no m) old new work t) w
      by None undecided = undecided_turn undecided
      by (Some outcome) decided = decided_turn outcome decided
