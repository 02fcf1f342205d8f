-- The request that waits first at a server is served: Serve, Serve_told or Lend.
use Rattle.qs_world_refine.proofs.Words.{◌≡◌, ◌⊎◌, inl, inr, ℕ, ◌+◌, ◌-◌, ◌<◌, ◌≤◌, ◌==◌, ◌||◌, nat_le, Bool, true, false, List, [], ◌∷◌, ◌++◌, length, Option, Some, None, refl, sym, subst, ap, ◌∙◌, arith, if◌then◌else◌, slice_index_or, filter, is_at, nat_tests, get_or_past, set_past, filter-append, tid_cmp, ClientNo, NodeNo, Tid, last_number, same_node, queue_at, first_of, count_of, Delivery, class_of, after_serving, Op, Reply, no_member, class_here, is_told_class, member_of, is_undecided, Cast}
use Rattle.qs_world_refine.proofs.Words.{MemberPart, Participant, Lent, member_here, enter, send, reply_came, ServersValue, with_server, is_client, serve_next, serve_or_drop, serve, reply_here, enter_serve, make_loan, lent_to, give_reply, is_standing_loan, Work, here, part_of, with_manager, with_queues, with_doings, change_server, Open, Face, face, uncast_of, loans_at, class_in, SightGoes, served_one, lent_one, sight_faced, Scene, sight_during, ShowsWork, Sight, ShowsSight, server_no}
use Rattle.qs_world_refine.proofs.Words.{is_covered_vote, IsAt, Goes, or-false, or-true, eqb-self}
use Rattle.std.proofs.Common.{length-append}
use Rattle.qs_base.specs.declared.identifiers.Class.TheVariants as classes
use Rattle.qs_ipc.specs.Ipc as ipc
use Rattle.qs_book_journal.specs.declared.entry.Act.TheVariants as acts
use Rattle.qs_packet.specs.declared.message.Message.TheVariants as messages
use Rattle.qs_tm.specs.Manager as tm
use Rattle.qs_tm.specs.Participant as participant
use Rattle.qs_world_agree.specs.World.{World, OnePhase, with_at}
use Rattle.qs_world_refine.specs.Steps.{Knows}
use Rattle.qs_world_refine.proofs.Alike.{SameFace, found_itself}
use Rattle.qs_world_refine.proofs.Arrays.{member_put}
use Rattle.qs_world_refine.proofs.During.{send_leaves, local_shown, face_here, runs}
use Rattle.qs_world_refine.proofs.EventGoes as event
use Rattle.qs_world_refine.proofs.Keeping.{Keeps, keeps_itself, leaves_keeps, keeps_shown}
use Rattle.qs_world_refine.proofs.Known.{told_is, is_open}
use Rattle.qs_world_refine.proofs.Maps.{lookup_changed}
use Rattle.qs_world_refine.proofs.Queues.{waits_first, waits_next}
use Rattle.qs_world_refine.proofs.QuietCame.{reply_keeps}
use Rattle.qs_world_refine.proofs.Reading.{part_known}
use Rattle.qs_world_refine.proofs.Same.{tid_same}

-- ---- what is kept once a server served one request more

abbrev more_served : MemberPart → MemberPart
more_served member = record member { served = member.served + 1; fresh = true }

abbrev more_part : ℕ → Participant → Participant
more_part s part = record (participant.with_member (server_no s) (more_served (member_of part (server_no s))) part) { involved = part.involved || is_told_class (class_here (server_no s)) }

served_is : (s : ℕ) (part : Participant) → ((member_of part (server_no s)).served == last_number) ≡ false → participant.served (server_no s) part ≡ more_part s part
served_is s part left = ap (λ (b : Bool). if b then part else more_part s part) left

-- no more requests were voted for than were served
uncast_more : (member : MemberPart) → is_covered_vote member ≡ true → uncast_of (more_served member) ≡ uncast_of member + 1
uncast_more member covered = by member.vote covered
  where
    less : (a b : ℕ) → b ≤ a → (a + 1) - b ≡ (a - b) + 1
    less a b le = omega (arith, le)

    by : (o : Option Cast) → (elim o [ None ↦ true | Some cast ↦ nat_le cast.covers member.served ]) ≡ true
        → (elim o [ None ↦ member.served + 1 | Some cast ↦ (member.served + 1) - cast.covers ]) ≡ (elim o [ None ↦ member.served | Some cast ↦ member.served - cast.covers ]) + 1
    by None is = refl
    by (Some cast) is = less member.served cast.covers (grind (arith, nat_tests, is))

module _ (tid : Tid) (scene : Scene) (n s : ℕ) (from : NodeNo) (number : ℕ) (op : Op) (stale : Bool) (rest : List Delivery) (reply : Reply) (work : Work) (part : Participant) (w : World)
    (at : IsAt scene n work) (knows : Knows tid work part) (undecided : part.outcome ≡ None)
    (first : (queue_at work.node.queues (server_no s)).waiting ≡ record { tid = tid; from = from; number = number; op = op; stale = stale } ∷ rest)
    (replies : reply_here (server_no s) tid op work.node ≡ Some reply) (shown : ShowsWork tid scene n work w) where
  abbrev d : Delivery
  d = record { tid = tid; from = from; number = number; op = op; stale = stale }

  abbrev taken : Work
  taken = with_queues (ipc.after_next (server_no s)) work

  -- what its server is then; a client is none
  abbrev values : ServersValue
  values = if is_client (server_no s) then taken.node.servers else with_server (server_no s) (λ value. after_serving value tid op reply) taken.node.servers

  abbrev entered : Work
  entered = enter (acts.Serve tid (member_here taken (server_no s)) from number reply)
      (with_manager (tm.served tid (server_no s))
      (with_doings tid (λ doings. record doings { served = true }) (record taken { node = record taken.node { servers = values } })))

  entered_is : enter_serve (server_no s) d reply taken ≡ entered
  entered_is = ap (λ (k : Work). enter (acts.Serve tid (member_here taken (server_no s)) from number reply) (with_manager (tm.served tid (server_no s)) (with_doings tid (λ doings. record doings { served = true }) k))) (by (is_client (server_no s)))
    where
      by : (b : Bool) → (if b then taken else change_server (server_no s) (λ value. after_serving value tid op reply) taken)
          ≡ record taken { node = record taken.node { servers = if b then taken.node.servers else with_server (server_no s) (λ value. after_serving value tid op reply) taken.node.servers } }
      by true = refl
      by false = refl

  abbrev pub x : Sight
  x = sight_during tid scene n work

  abbrev left_waiting : ℕ
  left_waiting = count_of tid rest

  face_before : x.face n ≡ face work.node tid part
  face_before = face_here tid scene n work ∙ ap (λ (p : Participant). face work.node tid p) (part_known tid work.node part knows.known)

  open_before : (x.face n).outcome ≡ Open
  open_before = rw face_before (rw undecided refl)

  one_waits : (x.face n).waits s ≡ left_waiting + 1
  one_waits = rw face_before (waits_first tid s s d rest work.node.queues first (tid_same tid))

  rule_is : serve_next work (server_no s) ≡ give_reply (member_here taken (server_no s)) d reply (make_loan tid (lent_to op) entered)
  rule_is =
      ap (λ (l : List Delivery). elim (first_of l) [ None ↦ work | Some delivery ↦ serve_or_drop (server_no s) delivery taken ]) first
      ∙ (ap (λ (b : Bool). if b then elim (reply_here (server_no s) tid op taken.node) [ None ↦ taken | Some reply ↦ serve (server_no s) d reply taken ] else taken) (told_is tid false is_undecided taken.node.manager part knows.known ∙ is_open part undecided)
      ∙ (ap (λ (o : Option Reply). elim o [ None ↦ taken | Some reply ↦ serve (server_no s) d reply taken ]) replies
      ∙ ap (λ (k : Work). give_reply (member_here taken (server_no s)) d reply (make_loan tid (lent_to op) k)) entered_is))

  -- its reply goes out, or is taken here
  reply_kept : (made : Work) → Keeps tid made (give_reply (member_here taken (server_no s)) d reply made)
  reply_kept made = by (same_node from (here made)) stale
    where
      by : (b c : Bool) → Keeps tid made (if b then reply_came tid (member_here taken (server_no s)) number reply made else if c then made else send from (messages.Answered tid (member_here taken (server_no s)) number reply) made)
      by true c = reply_keeps tid (member_here taken (server_no s)) number reply made
      by false true = keeps_itself tid made
      by false false = leaves_keeps tid made _ (send_leaves tid from (messages.Answered tid (member_here taken (server_no s)) number reply) made refl)

  known_after : ((member_of part (server_no s)).served == last_number) ≡ false → part_of tid entered ≡ Some (more_part s part)
  known_after left = lookup_changed (is_at (tid_cmp tid)) (participant.served (server_no s)) work.node.manager.known part knows.known ∙ ap (λ (p : Participant). Some p) (served_is s part left)

  -- ---- a server of the node

  module _ (server_in : s < 7) (left : ((member_of part (server_no s)).served == last_number) ≡ false) (covered : is_covered_vote (member_of part (server_no s)) ≡ true) (no_loan : lent_to op ≡ None) where
    uncast_is : (r : ℕ) → uncast_of (member_of (more_part s part) (server_no r)) ≡ with_at (λ k. uncast_of (member_of part (server_no k))) s (uncast_of (member_of part (server_no s)) + 1) r
    uncast_is r = ap uncast_of (member_put s r (more_served (member_of part (server_no s))) part (rw knows.whole.members server_in)) ∙ by (r == s)
      where
        by : (b : Bool) → uncast_of (if b then more_served (member_of part (server_no s)) else member_of part (server_no r)) ≡ (if b then uncast_of (member_of part (server_no s)) + 1 else uncast_of (member_of part (server_no r)))
        by true = uncast_more (member_of part (server_no s)) covered
        by false = refl

    face_served : (involved : Bool) → (part.involved || is_told_class (class_here (server_no s))) ≡ involved → SameFace (record (served_one (face work.node tid part) s left_waiting) { involved = involved }) (face entered.node tid (more_part s part))
    face_served involved is = record {
      is_home = refl;
      on = refl;
      superior = refl;
      last = λ m. refl;
      sent = λ m. refl;
      covered = λ m. refl;
      waits = λ r. waits_next tid s r d rest work.node.queues first;
      uncast = uncast_is;
      loans = refl;
      asked = refl;
      blocked = refl;
      involved = is;
      told = λ m. refl;
      outcome = rw undecided refl;
      tell = λ m. refl;
    }

    entered_shown : (v : World) (involved : Bool) → (part.involved || is_told_class (class_here (server_no s))) ≡ involved → ShowsSight tid (sight_faced x n (record (served_one (face work.node tid part) s left_waiting) { involved = involved })) v → ShowsWork tid scene n entered v
    entered_shown v involved is after =
        local_shown tid scene n work entered v (record { sends = λ q. refl; logs = λ log. found_itself tid _ }) (record (served_one (face work.node tid part) s left_waiting) { involved = involved }) after
        (rw (part_known tid entered.node (more_part s part) (known_after left)) (face_served involved is))

    last_shown : (v : World) → ShowsWork tid scene n entered v → ShowsWork tid scene n (serve_next work (server_no s)) v
    last_shown v before = subst (λ (k : Work). ShowsWork tid scene n k v) (sym (rule_is ∙ ap (λ (o : Option ClientNo). give_reply (member_here taken (server_no s)) d reply (make_loan tid o entered)) no_loan))
        (keeps_shown tid scene n entered (give_reply (member_here taken (server_no s)) d reply entered) v (reply_kept entered) before)

    -- one that votes, or is told nothing
    pub serve_goes : (class_of s ≡ classes.Recoverable) ⊎ ((class_of s ≡ classes.Volatile) ⊎ (class_of s ≡ classes.Immediate)) → Goes tid scene n (serve_next work (server_no s)) w
    serve_goes class = record {
      next = turn.next;
      leads = turn.leads;
      shown = last_shown turn.next (entered_shown turn.next part.involved (not_told class) (subst (λ (f : Face). ShowsSight tid (sight_faced x n (served_one f s left_waiting)) turn.next) face_before turn.shown));
    }
      where
        not_told : (class_of s ≡ classes.Recoverable) ⊎ ((class_of s ≡ classes.Volatile) ⊎ (class_of s ≡ classes.Immediate)) → (part.involved || is_told_class (class_of s)) ≡ part.involved
        not_told (inl is) = rw is (or-false part.involved)
        not_told (inr (inl is)) = rw is (or-false part.involved)
        not_told (inr (inr is)) = rw is (or-false part.involved)

        turn : SightGoes tid (sight_faced x n (served_one (x.face n) s left_waiting)) w
        turn = event.serve tid x w n s left_waiting shown (runs tid scene n work at) open_before one_waits class

    -- one that is told without a vote
    pub serve_told_goes : (class_of s ≡ classes.Standard) ⊎ (class_of s ≡ classes.Delayed) → Goes tid scene n (serve_next work (server_no s)) w
    serve_told_goes class = record {
      next = turn.next;
      leads = turn.leads;
      shown = last_shown turn.next (entered_shown turn.next true (is_told class) (subst (λ (f : Face). ShowsSight tid (sight_faced x n (record (served_one f s left_waiting) { involved = true })) turn.next) face_before turn.shown));
    }
      where
        is_told : (class_of s ≡ classes.Standard) ⊎ (class_of s ≡ classes.Delayed) → (part.involved || is_told_class (class_of s)) ≡ true
        is_told (inl is) = rw is (or-true part.involved)
        is_told (inr is) = rw is (or-true part.involved)

        one_phase : (class_of s ≡ classes.Standard) ⊎ (class_of s ≡ classes.Delayed) → class_in (class_of s) ≡ OnePhase
        one_phase (inl is) = rw is refl
        one_phase (inr is) = rw is refl

        turn : SightGoes tid (sight_faced x n (record (served_one (x.face n) s left_waiting) { involved = true })) w
        turn = event.serve_told tid x w n s left_waiting shown (runs tid scene n work at) open_before one_waits (one_phase class)

  -- ---- a client that takes a loan

  module _ (client_no : 7 ≤ s) (client : ClientNo) (lends : lent_to op ≡ Some client) (class : class_of s ≡ classes.Activity) where
    no_part : member_of part (server_no s) ≡ no_member
    no_part = get_or_past part.members s no_member (rw knows.whole.members client_no)

    left_client : ((member_of part (server_no s)).served == last_number) ≡ false
    left_client = rw no_part refl

    same_members : (more_part s part).members ≡ part.members
    same_members = set_past part.members s (more_served (member_of part (server_no s))) (rw knows.whole.members client_no)

    abbrev lent : Lent
    lent = record { tid = tid; client = client; inc = work.node.setting.inc; taken = false; yielded = false }

    abbrev loaned : Work
    loaned = make_loan tid (Some client) entered

    one_more : loans_at loaned.node tid ≡ loans_at work.node tid + 1
    one_more = ap length (filter-append (is_standing_loan tid work.node.setting.inc) work.node.kept.now.loans (lent ∷ []) ∙ ap (λ (l : List Lent). filter (is_standing_loan tid work.node.setting.inc) work.node.kept.now.loans ++ l) stands)
        ∙ length-append (filter (is_standing_loan tid work.node.setting.inc) work.node.kept.now.loans) (lent ∷ [])
      where
        stands : filter (is_standing_loan tid work.node.setting.inc) (lent ∷ []) ≡ lent ∷ []
        stands = rw (tid_same tid, eqb-self work.node.setting.inc) refl

    face_lent : SameFace (lent_one (face work.node tid part) s left_waiting) (face loaned.node tid (more_part s part))
    face_lent = record {
      is_home = refl;
      on = refl;
      superior = refl;
      last = λ m. refl;
      sent = λ m. refl;
      covered = λ m. refl;
      waits = λ r. waits_next tid s r d rest work.node.queues first;
      uncast = λ r. ap (λ (l : List MemberPart). uncast_of (slice_index_or l r no_member)) same_members;
      loans = one_more;
      asked = refl;
      blocked = refl;
      involved = rw class (or-false part.involved);
      told = λ m. refl;
      outcome = rw undecided refl;
      tell = λ m. refl;
    }

    pub lend_goes : Goes tid scene n (serve_next work (server_no s)) w
    lend_goes = record {
      next = turn.next;
      leads = turn.leads;
      shown = subst (λ (k : Work). ShowsWork tid scene n k turn.next) (sym (rule_is ∙ ap (λ (o : Option ClientNo). give_reply (member_here taken (server_no s)) d reply (make_loan tid o entered)) lends))
          (keeps_shown tid scene n loaned (give_reply (member_here taken (server_no s)) d reply loaned) turn.next (reply_kept loaned)
          (local_shown tid scene n work loaned turn.next (record { sends = λ q. refl; logs = λ log. found_itself tid _ }) (lent_one (x.face n) s left_waiting) turn.shown
          (rw (face_before, part_known tid loaned.node (more_part s part) (known_after left_client)) face_lent)));
    }
      where
        turn : SightGoes tid (sight_faced x n (lent_one (x.face n) s left_waiting)) w
        turn = event.lend tid x w n s left_waiting shown (runs tid scene n work at) open_before one_waits class
