-- A request comes to a node that knows its transaction: it is taken in or dropped, and gives the node its superior, or is covered at once.
use Rattle.qs_world_refine.proofs.Words.{◌≡◌, ◌≢◌, ◌⊎◌, ℕ, ◌<◌, ◌==◌, Bool, true, false, List, [], ◌∷◌, Some, None, refl, sym, subst, ap, ◌∙◌, arith, if◌then◌else◌, is_at, nat_tests, tid_cmp, Member, NodeNo, ServerNo, Tid, is_for, Delivery, Op, Message, new_participant, Participant, is_other, send, Work, part_of, with_manager, with_queues, Open, Aborted, IsLawful, node_no, Requested, Closed, said, all_said, face, began_here, place, SightGoes, Runs, took_in, engaged_by, sight_taken, sight_returned}
use Rattle.qs_world_refine.proofs.Words.{Scene, sight_during, ShowsWork, handed, Sight, IsAt, IsWhole, IsNext, Goes}
use Rattle.qs_base.specs.declared.identifiers.Outcome.TheVariants as outcomes
use Rattle.qs_engage.specs.Engage.{with_superior}
use Rattle.qs_engage.specs.declared.engage.Engage.{Engage}
use Rattle.qs_ipc.specs.Ipc as ipc
use Rattle.qs_packet.specs.declared.message.Message.TheVariants as messages
use Rattle.qs_tm.specs.Manager as tm
use Rattle.qs_tm.specs.Participant as participant
use Rattle.qs_node_step.specs.Requests.{enqueue}
use Rattle.qs_world_agree.specs.World.{World, with_at}
use Rattle.qs_world_refine.specs.Seen.{sight_engaged, sight_covered}
use Rattle.qs_world_refine.proofs.Alike.{found_itself}
use Rattle.qs_world_refine.proofs.During.{Quiet, face_here, meets}
use Rattle.qs_world_refine.proofs.EventGoes as event
use Rattle.qs_world_refine.proofs.Refusing as refusing
use Rattle.qs_world_refine.proofs.Taking as taking
use Rattle.qs_world_refine.proofs.Handing.{taken_shown, head_said}
use Rattle.qs_world_refine.proofs.Maps.{lookup_changed}
use Rattle.qs_world_refine.proofs.Posting.{sent_work, send_is}
use Rattle.qs_world_refine.proofs.Reading.{part_known}
use Rattle.qs_world_refine.proofs.Requested.{with_number, superior_kept, superior_new, face_took, face_engaged, face_numbered, face_superior}
use Rattle.qs_world_refine.proofs.Returning.{returned_shown}
use Rattle.qs_world_refine.proofs.Same.{tid_same}

module _ (tid : Tid) (scene : Scene) (n m i number : ℕ) (label : List ℕ) (member : Member) (issuer : ServerNo) (op : Op) (rest : List Message) (work : Work) (part : Participant) (w : World)
    (at : IsAt scene n work) (next : IsNext scene n m i (messages.Request tid label member number issuer op) rest)
    (known : part_of tid work ≡ Some part) (whole : IsWhole part) (lawful : IsLawful w) (shown : ShowsWork tid scene n work w) where
  abbrev pub delivery : Delivery
  delivery = record { tid = tid; from = node_no m; number = number; op = op; stale = false }

  abbrev pub message : Message
  message = messages.Request tid label member number issuer op

  abbrev pub x : Sight
  x = sight_during tid scene n work

  -- what the node is once the request was counted, and once it waits
  abbrev pub counted : Work
  counted = with_manager (tm.requested tid (node_no m) number) work

  abbrev pub queued : Work
  queued = record work { node = record work.node { manager = tm.requested tid (node_no m) number work.node.manager; queues = ipc.enqueue member.server delivery work.node.queues } }

  m_in : m < 16
  m_in = omega (arith, next.from.in_run, shown.stage.small)

  face_before : x.face n ≡ face work.node tid part
  face_before = face_here tid scene n work ∙ ap (λ (p : Participant). face work.node tid p) (part_known tid work.node part known)

  head : x.said m i n (scene.inc n) ≡ Requested number member.server.0 ∷ all_said tid rest
  head = head_said tid scene n m i message rest work.out.messages next ∙ rw (tid_same tid) refl

  known_after : (e : Engage) → with_superior (node_no m) (with_number m number part.engage) ≡ e → tm.part_of tid (tm.requested tid (node_no m) number work.node.manager) ≡ Some (record part { engage = e })
  known_after e is =
      lookup_changed (is_at (tid_cmp tid)) (participant.requested (node_no m) number) work.node.manager.known part known
      ∙ ap (λ (e : Engage). Some (record part { engage = e })) is

  quiet_counted : Quiet tid work counted
  quiet_counted = record { sends = λ q. refl; logs = λ log. found_itself tid _ }

  quiet_queued : Quiet tid work queued
  quiet_queued = record { sends = λ q. refl; logs = λ log. found_itself tid _ }

  here_runs : Runs x n
  here_runs = record { in_run = at.in_run; up = at.up }

  -- where it is taken in, the work that waits is this
  queued_is : is_for member.server op ≡ true → enqueue member.server delivery counted ≡ queued
  queued_is its = by (is_for member.server op) its
    where
      by : (b : Bool) → b ≡ true → (if b then with_queues (ipc.enqueue member.server delivery) counted else counted) ≡ queued
      by b is = rw is refl

  abbrev back : Message
  back = messages.Covered tid number

  goes_out : is_other counted.node.setting (node_no m) ≡ true
  goes_out = rw (at.node, at.nodes) (grind (arith, nat_tests, next.from.other, next.from.in_run))

  not_zero : (scene.knows n m == 0) ≡ false
  not_zero = positive (scene.knows n m) next.from.knows
    where
      positive : (k : ℕ) → k ≡ i → (k == 0) ≡ false
      positive k is = grind (arith, nat_tests, is, next.from.some)

  says_back : said tid (messages.Covered tid number) ≡ Closed number [] ∷ []
  says_back = rw (tid_same tid) refl

  -- ---- taken in

  module _ (its : is_for member.server op ≡ true) (undecided : part.outcome ≡ None) where
    open_before : (x.face n).outcome ≡ Open
    open_before = rw face_before (rw undecided refl)

    -- from a node that becomes the superior
    pub engage_goes : part.engage.home ≡ false → part.engage.superior ≡ None → began_here work.node tid ≡ false → tid.home.0 ≢ n → tid.home.0 < scene.size
        → Goes tid (handed scene m i n rest) n (enqueue member.server delivery counted) w
    engage_goes away free not_here elsewhere home_in = record {
      next = turn.next;
      leads = turn.leads;
      shown = subst (λ (k : Work). ShowsWork tid (handed scene m i n rest) n k turn.next) (sym (queued_is its))
          (taken_shown tid scene n m i message rest work queued turn.next next quiet_queued (took_in (engaged_by (x.face n) m) m number member.server.0) turn.shown
          (rw (face_before, part_known tid queued.node _ (known_after _ (superior_new (node_no m) (with_number m number part.engage) away free)))
          (face_engaged tid m number member.server.0 delivery work.node queued.node.manager part whole m_in (tid_same tid) not_here)));
    }
      where
        off : (x.face n).on ≡ false
        off = rw face_before (rw (not_here, free) refl)

        turn : SightGoes tid (sight_engaged x n m i number member.server.0 (all_said tid rest)) w
        turn = event.engage tid x w n m i number member.server.0 (all_said tid rest) shown here_runs (meets tid scene n m i work next.from) head open_before off elsewhere home_in

    -- from the superior
    pub join_goes : (superior : NodeNo) → part.engage.home ≡ false → part.engage.superior ≡ Some superior → superior.0 ≡ m → began_here work.node tid ≡ false → place n (scene.inc n) ≢ w.home
        → Goes tid (handed scene m i n rest) n (enqueue member.server delivery counted) w
    join_goes superior away has same not_here not_home = record {
      next = turn.next;
      leads = turn.leads;
      shown = subst (λ (k : Work). ShowsWork tid (handed scene m i n rest) n k turn.next) (sym (queued_is its))
          (taken_shown tid scene n m i message rest work queued turn.next next quiet_queued (took_in (x.face n) m number member.server.0) turn.shown
          (rw (face_before, part_known tid queued.node _ (known_after _ (superior_kept (node_no m) superior (with_number m number part.engage) away has)))
          (face_took tid m number member.server.0 delivery work.node queued.node.manager part whole m_in (tid_same tid))));
    }
      where
        turn : SightGoes tid (sight_taken x n m i (took_in (x.face n) m number member.server.0) (all_said tid rest)) w
        turn = taking.join tid x w n m i number member.server.0 (all_said tid rest) shown here_runs (meets tid scene n m i work next.from) head open_before
            (rw face_before (rw (not_here, has) refl)) (rw face_before not_here) (rw face_before (rw has same)) not_home

    -- from another, and at the home
    pub cover_goes : with_superior (node_no m) (with_number m number part.engage) ≡ with_number m number part.engage → (face work.node tid part).on ≡ true
        → (((face work.node tid part).is_home ≡ true) × (place n (scene.inc n) ≡ w.home)) ⊎ (((face work.node tid part).is_home ≡ false) × (m ≢ (face work.node tid part).superior))
        → Goes tid (handed scene m i n rest) n (enqueue member.server delivery (send (node_no m) back counted)) w
    cover_goes kept on apart = record {
      next = turn.next;
      leads = turn.leads;
      shown = subst (λ (k : Work). ShowsWork tid (handed scene m i n rest) n k turn.next) (sym sent_is)
          (returned_shown tid scene n m number back rest work queued turn.next quiet_queued next.from.other not_zero says_back i next.from.knows (took_in (x.face n) m number member.server.0) turn.shown
          (rw (face_before, part_known tid queued.node _ (known_after _ kept))
          (face_took tid m number member.server.0 delivery work.node queued.node.manager part whole m_in (tid_same tid))));
    }
      where
        turn : SightGoes tid (sight_covered x n m i number member.server.0 (all_said tid rest)) w
        turn = event.cover tid x w n m i number member.server.0 (all_said tid rest) lawful shown here_runs (meets tid scene n m i work next.from) head open_before (rw face_before on) (rw face_before apart)

        sent_is : enqueue member.server delivery (send (node_no m) back counted) ≡ sent_work (node_no m) back queued
        sent_is = ap (λ (k : Work). enqueue member.server delivery k) (send_is (node_no m) back counted goes_out) ∙ by (is_for member.server op) its
          where
            by : (b : Bool) → b ≡ true → (if b then with_queues (ipc.enqueue member.server delivery) (sent_work (node_no m) back counted) else sent_work (node_no m) back counted) ≡ sent_work (node_no m) back queued
            by b is = rw is refl

  -- ---- dropped

  module _ (aborted : part.outcome ≡ Some outcomes.Abort) where
    aborted_before : (x.face n).outcome ≡ Aborted
    aborted_before = rw face_before (rw aborted refl)

    pub drop_engage_goes : part.engage.home ≡ false → part.engage.superior ≡ None → began_here work.node tid ≡ false → tid.home.0 ≢ n → tid.home.0 < scene.size
        → Goes tid (handed scene m i n rest) n counted w
    drop_engage_goes away free not_here elsewhere home_in = record {
      next = turn.next;
      leads = turn.leads;
      shown = taken_shown tid scene n m i message rest work counted turn.next next quiet_counted (record (engaged_by (x.face n) m) { last = with_at (x.face n).last m number }) turn.shown
          (rw (face_before, part_known tid counted.node _ (known_after _ (superior_new (node_no m) (with_number m number part.engage) away free)))
          (face_superior tid m number work.node counted.node.manager part whole m_in not_here));
    }
      where
        turn : SightGoes tid (sight_taken x n m i (record (engaged_by (x.face n) m) { last = with_at (x.face n).last m number }) (all_said tid rest)) w
        turn = taking.drop_engage tid x w n m i number member.server.0 (all_said tid rest) shown here_runs (meets tid scene n m i work next.from) head aborted_before (rw face_before (rw (not_here, free) refl)) elsewhere home_in

    pub drop_join_goes : (superior : NodeNo) → part.engage.home ≡ false → part.engage.superior ≡ Some superior → superior.0 ≡ m → began_here work.node tid ≡ false → place n (scene.inc n) ≢ w.home
        → Goes tid (handed scene m i n rest) n counted w
    drop_join_goes superior away has same not_here not_home = record {
      next = turn.next;
      leads = turn.leads;
      shown = taken_shown tid scene n m i message rest work counted turn.next next quiet_counted (record (x.face n) { last = with_at (x.face n).last m number }) turn.shown
          (rw (face_before, part_known tid counted.node _ (known_after _ (superior_kept (node_no m) superior (with_number m number part.engage) away has)))
          (face_numbered tid m number work.node counted.node.manager part whole m_in));
    }
      where
        turn : SightGoes tid (sight_taken x n m i (record (x.face n) { last = with_at (x.face n).last m number }) (all_said tid rest)) w
        turn = taking.drop_join tid x w n m i number member.server.0 (all_said tid rest) shown here_runs (meets tid scene n m i work next.from) head aborted_before
            (rw face_before (rw (not_here, has) refl)) (rw face_before not_here) (rw face_before (rw has same)) not_home

    pub drop_cover_goes : (superior : NodeNo) → part.engage.home ≡ false → part.engage.superior ≡ Some superior → superior.0 ≢ m → began_here work.node tid ≡ false
        → Goes tid (handed scene m i n rest) n (send (node_no m) back counted) w
    drop_cover_goes superior away has other not_here = record {
      next = turn.next;
      leads = turn.leads;
      shown = subst (λ (k : Work). ShowsWork tid (handed scene m i n rest) n k turn.next) (sym (send_is (node_no m) back counted goes_out))
          (returned_shown tid scene n m number back rest work counted turn.next quiet_counted next.from.other not_zero says_back i next.from.knows (record (x.face n) { last = with_at (x.face n).last m number }) turn.shown
          (rw (face_before, part_known tid counted.node _ (known_after _ (superior_kept (node_no m) superior (with_number m number part.engage) away has)))
          (face_numbered tid m number work.node counted.node.manager part whole m_in)));
    }
      where
        turn : SightGoes tid (sight_returned x n m i number (record (x.face n) { last = with_at (x.face n).last m number }) (all_said tid rest)) w
        turn = refusing.drop_cover tid x w n m i number member.server.0 (all_said tid rest) lawful shown here_runs (meets tid scene n m i work next.from) head aborted_before
            (rw face_before (rw (not_here, has) refl)) (rw face_before not_here) (rw face_before (rw has other))

  -- at the home, where it is decided
  pub drop_home_goes : with_superior (node_no m) (with_number m number part.engage) ≡ with_number m number part.engage → tid.home.0 ≡ n → (face work.node tid part).on ≡ false
      → Goes tid (handed scene m i n rest) n (send (node_no m) back counted) w
  drop_home_goes kept home off = record {
    next = turn.next;
    leads = turn.leads;
    shown = subst (λ (k : Work). ShowsWork tid (handed scene m i n rest) n k turn.next) (sym (send_is (node_no m) back counted goes_out))
        (returned_shown tid scene n m number back rest work counted turn.next quiet_counted next.from.other not_zero says_back i next.from.knows (record (x.face n) { last = with_at (x.face n).last m number }) turn.shown
        (rw (face_before, part_known tid counted.node _ (known_after _ kept))
        (face_numbered tid m number work.node counted.node.manager part whole m_in)));
  }
    where
      turn : SightGoes tid (sight_returned x n m i number (record (x.face n) { last = with_at (x.face n).last m number }) (all_said tid rest)) w
      turn = refusing.drop_home tid x w n m i number member.server.0 (all_said tid rest) (with_at (x.face n).last m number) lawful shown here_runs (meets tid scene n m i work next.from) head home (rw face_before off)
