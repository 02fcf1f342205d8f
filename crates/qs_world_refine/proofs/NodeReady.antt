-- A node that may answer is ready in the machine's sense: nothing waits, no loan stands, all is voted for and all is covered.
use Rattle.qs_world_refine.proofs.Words.{◌≡◌, ◌⊎◌, inl, inr, ℕ, ◌+◌, ◌-◌, ◌<◌, ◌≤◌, ◌==◌, ◌&&◌, ◌||◌, not, nat_lt, Bool, true, false, List, [], ◌∷◌, length, Option, Some, None, refl, sym, ap, arith, if◌then◌else◌, slice_index_or, zero, suc, filter, list_all, list_any, is_at, nat_tests, get_or_past, Class, ServerNo, Tid, peer_of, is_covered, no_peer, PeerPart, IpcValue, queue_at, server_cmp, waits_in, count_of, Delivery, class_of, is_two_phase, no_member, member_of, Cast, MemberPart, Participant}
use Rattle.qs_world_refine.proofs.Words.{Lent, is_busy, is_lent, is_standing_loan, NodeValue, Open, Votes, node_no, face, uncast_of, class_in, FaceReady, server_no, IsWhole, and_last, and_first, and_parts, or_parts, not-true}
use Rattle.qs_base.specs.declared.identifiers.Class.TheVariants as classes
use Rattle.qs_engage.specs.Engage.{is_passive}
use Rattle.qs_ipc.specs.Ipc as ipc
use Rattle.qs_ipc.specs.Queue.{is_of, waits_at}
use Rattle.qs_tm.specs.Members.{all_servers, is_covering, is_against}
use Rattle.qs_tm.specs.Participant as participant
use Rattle.qs_tm.specs.Participant.{all_agree, agrees_at}
use Rattle.qs_world_agree.specs.World as machine
use Rattle.qs_world_agree.specs.World.{World}

-- ---- tests of two parts

-- ---- nothing waits

none_counted : (tid : Tid) (waiting : List Delivery) → list_any (is_of tid) waiting ≡ false → count_of tid waiting ≡ 0
none_counted tid [] none = refl
none_counted tid (d ∷ rest) none = by (is_of tid d) none (none_counted tid rest)
  where
    by : (b : Bool) → (b || list_any (is_of tid) rest) ≡ false → (list_any (is_of tid) rest ≡ false → count_of tid rest ≡ 0) → (if b then count_of tid rest + 1 else count_of tid rest) ≡ 0
    by true none more = absurd (cc none)
    by false none more = more none

pub none_waits : (tid : Tid) (queues : IpcValue) (s : ServerNo) → ipc.waits tid queues ≡ false → count_of tid (queue_at queues s).waiting ≡ 0
none_waits tid [] s none = refl
none_waits tid (e ∷ es) s none = by (is_at (server_cmp s) e.0) refl (none_waits tid es s (or_parts (waits_at tid e.1) (ipc.waits tid es) none).1)
  where
    by : (b : Bool) → is_at (server_cmp s) e.0 ≡ b → count_of tid (queue_at es s).waiting ≡ 0 → count_of tid (queue_at (e ∷ es) s).waiting ≡ 0
    by true is more = rw is (none_counted tid e.1.waiting (or_parts (waits_at tid e.1) (ipc.waits tid es) none).0)
    by false is more = rw is more

-- ---- no loan stands

pub none_lent : (test : Lent → Bool) (loans : List Lent) → list_any test loans ≡ false → length (filter test loans) ≡ 0
none_lent test [] none = refl
none_lent test (l ∷ loans) none = by (test l) none (none_lent test loans)
  where
    by : (b : Bool) → (b || list_any test loans) ≡ false → (list_any test loans ≡ false → length (filter test loans) ≡ 0) → length (if b then l ∷ filter test loans else filter test loans) ≡ 0
    by true none more = absurd (cc none)
    by false none more = more none

-- ---- all is covered

covered_at : (peers : List PeerPart) (m : ℕ) → list_all is_covered peers ≡ true → is_covered (slice_index_or peers m no_peer) ≡ true
covered_at [] m all = refl
covered_at (p ∷ peers) zero all = (and_parts (is_covered p) (list_all is_covered peers) all).0
covered_at (p ∷ peers) (suc m) all = covered_at peers m (and_parts (is_covered p) (list_all is_covered peers) all).1

-- ---- all is voted for

-- the servers of a node, by number
agreed_at : (part : Participant) (s : ℕ) → s < 7 → all_agree part ≡ true → agrees_at part (server_no s) ≡ true
unfolding all_servers
agreed_at part s below all = pick s below
  where
    from_1 : list_all (agrees_at part) (server_no 1 ∷ server_no 2 ∷ server_no 3 ∷ server_no 4 ∷ server_no 5 ∷ server_no 6 ∷ []) ≡ true
    from_1 = and_last (agrees_at part (server_no 0)) _ all

    from_2 : list_all (agrees_at part) (server_no 2 ∷ server_no 3 ∷ server_no 4 ∷ server_no 5 ∷ server_no 6 ∷ []) ≡ true
    from_2 = and_last (agrees_at part (server_no 1)) _ from_1

    from_3 : list_all (agrees_at part) (server_no 3 ∷ server_no 4 ∷ server_no 5 ∷ server_no 6 ∷ []) ≡ true
    from_3 = and_last (agrees_at part (server_no 2)) _ from_2

    from_4 : list_all (agrees_at part) (server_no 4 ∷ server_no 5 ∷ server_no 6 ∷ []) ≡ true
    from_4 = and_last (agrees_at part (server_no 3)) _ from_3

    from_5 : list_all (agrees_at part) (server_no 5 ∷ server_no 6 ∷ []) ≡ true
    from_5 = and_last (agrees_at part (server_no 4)) _ from_4

    from_6 : list_all (agrees_at part) (server_no 6 ∷ []) ≡ true
    from_6 = and_last (agrees_at part (server_no 5)) _ from_5

    pick : (s : ℕ) → s < 7 → agrees_at part (server_no s) ≡ true
    pick zero below = and_first (agrees_at part (server_no 0)) _ all
    pick (suc zero) below = and_first (agrees_at part (server_no 1)) _ from_1
    pick (suc (suc zero)) below = and_first (agrees_at part (server_no 2)) _ from_2
    pick (suc (suc (suc zero))) below = and_first (agrees_at part (server_no 3)) _ from_3
    pick (suc (suc (suc (suc zero)))) below = and_first (agrees_at part (server_no 4)) _ from_4
    pick (suc (suc (suc (suc (suc zero))))) below = and_first (agrees_at part (server_no 5)) _ from_5
    pick (suc (suc (suc (suc (suc (suc zero)))))) below = and_first (agrees_at part (server_no 6)) _ from_6
    pick (suc (suc (suc (suc (suc (suc (suc s))))))) below = absurd (omega (arith, below))

-- a vote that covers all leaves nothing
covering_none : (member : MemberPart) → is_covering member ≡ true → uncast_of member ≡ 0
covering_none member covers = by member.vote covers
  where
    same : (a b : ℕ) → (b == a) ≡ true → a - b ≡ 0
    same a b is = grind (arith, nat_tests, is)

    zero_is : (a : ℕ) → (a == 0) ≡ true → a ≡ 0
    zero_is a is = grind (arith, nat_tests, is)

    by : (o : Option Cast) → (elim o [ None ↦ member.served == 0 | Some cast ↦ cast.covers == member.served ]) ≡ true → ◌≡◌ {A = ℕ} (elim o [ None ↦ member.served | Some cast ↦ member.served - cast.covers ]) 0
    by None is = zero_is member.served is
    by (Some cast) is = same member.served cast.covers is

agreeing_none : (part : Participant) (s : ℕ) → agrees_at part (server_no s) ≡ true → is_two_phase (class_of s) ≡ true → uncast_of (member_of part (server_no s)) ≡ 0
agreeing_none part s agreed votes = covering_none (member_of part (server_no s)) (by (is_two_phase (class_of s)) votes agreed)
  where
    by : (b : Bool) → b ≡ true → (not b || (is_covering (member_of part (server_no s)) && not (is_against (member_of part (server_no s))))) ≡ true → is_covering (member_of part (server_no s)) ≡ true
    by true is agreed = (and_parts (is_covering (member_of part (server_no s))) (not (is_against (member_of part (server_no s)))) agreed).0
    by false is agreed = absurd (cc is)

-- ---- the face

pub face_ready : (tid : Tid) (q : ℕ) (node : NodeValue) (part : Participant) (w : World) → IsWhole part → ((s : ℕ) → w.class (w.node q) s ≡ class_in (class_of s))
    → part.outcome ≡ None → (face node tid part).on ≡ true → participant.is_ready (is_busy tid node part) part ≡ true → FaceReady (face node tid part) q w
face_ready tid q node part w whole classes_are undecided on ready = record {
  on = on;
  asked = asked.0;
  undecided = rw undecided refl;
  free = not-true part.blocked asked.1;
  loans = none_lent (is_standing_loan tid node.setting.inc) node.kept.now.loans (or_parts (is_lent tid node) (participant.awaits_note part) busy.1).0;
  waits = λ s. none_waits tid node.queues (server_no s) busy.0;
  voted = voted;
  covered = λ m. less (peer_of part.engage (node_no m)) (covered_at part.engage.peers m passive);
}
  where
    parts : ((part.asked && not part.blocked) ≡ true) × (((not (is_busy tid node part) && is_passive part.engage) && all_agree part) ≡ true)
    parts = and_parts (part.asked && not part.blocked) ((not (is_busy tid node part) && is_passive part.engage) && all_agree part) ready

    asked : (part.asked ≡ true) × (not part.blocked ≡ true)
    asked = and_parts part.asked (not part.blocked) parts.0

    quiet : ((not (is_busy tid node part) && is_passive part.engage) ≡ true) × (all_agree part ≡ true)
    quiet = and_parts (not (is_busy tid node part) && is_passive part.engage) (all_agree part) parts.1

    passive : is_passive part.engage ≡ true
    passive = (and_parts (not (is_busy tid node part)) (is_passive part.engage) quiet.0).1

    busy : (ipc.waits tid node.queues ≡ false) × ((is_lent tid node || participant.awaits_note part) ≡ false)
    busy = or_parts (ipc.waits tid node.queues) (is_lent tid node || participant.awaits_note part) (not-true (is_busy tid node part) (and_parts (not (is_busy tid node part)) (is_passive part.engage) quiet.0).0)

    less : (p : PeerPart) → is_covered p ≡ true → p.sent ≤ p.covered
    less p is = grind (arith, nat_tests, is)

    voted : (s : ℕ) → Votes w q s → uncast_of (member_of part (server_no s)) ≡ 0
    voted s votes = by (nat_lt s 7) refl
      where
        two_phase : (c : Class) → class_in c ≡ w.class (w.node q) s → (w.class (w.node q) s ≡ machine.Recoverable) ⊎ (w.class (w.node q) s ≡ machine.Volatile) → is_two_phase c ≡ true
        two_phase classes.Recoverable is votes = refl
        two_phase classes.Volatile is votes = refl
        two_phase classes.Immediate is (inl v) = absurd (cc (is, v))
        two_phase classes.Immediate is (inr v) = absurd (cc (is, v))
        two_phase classes.Standard is (inl v) = absurd (cc (is, v))
        two_phase classes.Standard is (inr v) = absurd (cc (is, v))
        two_phase classes.Delayed is (inl v) = absurd (cc (is, v))
        two_phase classes.Delayed is (inr v) = absurd (cc (is, v))
        two_phase classes.Activity is (inl v) = absurd (cc (is, v))
        two_phase classes.Activity is (inr v) = absurd (cc (is, v))

        by : (b : Bool) → nat_lt s 7 ≡ b → uncast_of (member_of part (server_no s)) ≡ 0
        by true below = agreeing_none part s (agreed_at part s (grind (arith, nat_tests, below)) quiet.1) (two_phase (class_of s) (sym (classes_are s)) votes)
        by false past = ap uncast_of (get_or_past part.members s no_member (rw whole.members (grind (arith, nat_tests, past))))
