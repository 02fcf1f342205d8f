-- A node that is not engaged is idle; and once commit is decided none is engaged, and no request is on its way.
use Rattle.qs_world_refine.proofs.Words.{◌≡◌, ◌≢◌, ◌==◌, ℕ, ◌+◌, ◌<◌, ◌≤◌, ◌&&◌, ◌||◌, not, Bool, true, false, List, [], ◌∷◌, Option, Some, None, is_none, is_some, refl, sym, ap, subst, ◌∙◌, arith, if◌then◌else◌, NodeNo, Tid, same_node, is_lent, NodeValue, needs_pass, is_undecided, Participant, Said, Requested, Closed, Outcome_told, Taken_in, Inquired, Link, link, waiting_link, IsLink, face_at, began_here, part_at, place, is_sound, may_be_served, where_so, same_flag}
use Rattle.qs_ipc.specs.Ipc as ipc
use Rattle.qs_tm.specs.Manager as tm
use Rattle.qs_world_agree.specs.Doomed.{IsLeft}
use Rattle.qs_world_agree.proofs.Doomed.{left_open, kept_back_open, engaged_is_open}
use Rattle.qs_world_refine.specs.CommitLaws.{has_request, IsIdle, OffIdle, CommitIdle, CommitClear, CommitUnmet}
use Rattle.qs_world_refine.proofs.Crashing.{all_within}
use Rattle.qs_world_refine.proofs.SoundHolds.{known_sound}
use Rattle.qs_world_refine.proofs.SoundKnown.{nothing_waits, nothing_lent}
use Rattle.qs_world_refine.proofs.SoundParts.{and_both}
use Rattle.qs_world_refine.proofs.SoundViews.{PartSound, is_apart}

-- ---- channels

-- a request on its way was put, and not handed up
pub requested : (saids : List Said) (l : Link) → has_request saids ≡ true → IsLink l saids → l.received < l.posted
requested [] l has is = absurd (cc has)
requested (Requested number server ∷ rest) l has is = let all = all_within rest (record l { received = l.received + 1 }) is.2 in omega (arith, all.requests)
requested (Closed number told ∷ rest) l has is = requested rest (record l { taken = l.taken + 1 }) has is.2
requested (Outcome_told commit ∷ rest) l has is = requested rest l has is.1
requested (Taken_in further ∷ rest) l has is = requested rest l has is.1
requested (Inquired ∷ rest) l has is = requested rest (record l { inquiry_taken = l.inquiry_taken + 1 }) has is

pub never : (b : Bool) → (b ≡ true → ⊥) → b ≡ false
never true no_more = absurd (no_more refl)
never false no_more = refl

pub commit_clear : CommitClear
commit_clear tid x w lawful committed shown n i m n_in m_in up =
    never (has_request (x.said n i m (x.inc m))) (λ has.
    left_open w (place n i) (place m (x.inc m)) (w.received (place m (x.inc m)) (place n i) + 1) lawful.reached
    (next (requested (x.said n i m (x.inc m)) (link w (place n i) (place m (x.inc m))) has (shown.links n i m (x.inc m) n_in m_in up refl))) committed)
  where
    next : w.received (place m (x.inc m)) (place n i) < w.posted (place n i) (place m (x.inc m)) → IsLeft w (place n i) (place m (x.inc m)) (w.received (place m (x.inc m)) (place n i) + 1)
    next less = record { number = omega arith; put = omega (arith, less); untaken = omega arith }

pub commit_unmet : CommitUnmet
commit_unmet tid x w lawful committed shown n m n_in m_in up unknown =
    never (has_request (x.unmet n m)) (λ has.
    kept_back_open w (place n (x.inc n)) m 1 lawful.reached (record {
      number = omega arith;
      was_sent = requested (x.unmet n m) (waiting_link w (place n (x.inc n)) m) has (shown.unmet n m n_in m_in up unknown);
      unknown = shown.stage.peers n m n_in m_in up ∙ rw unknown refl;
    }) committed)

-- ---- nodes

module _ (tid : Tid) (node : NodeValue) (sound : is_sound node ≡ true) where
  -- of what it does not know nothing waits, and nothing is lent
  none_of : tm.part_of tid node.manager ≡ None → may_be_served node tid ≡ false
  none_of none = ap (λ (o : Option Participant). elim o [ None ↦ false | Some part ↦ is_undecided part || Rattle.qs_tm.specs.Outcomes.is_abort part.outcome ]) none

  unknown_idle : tm.part_of tid node.manager ≡ None → IsIdle tid node
  unknown_idle none = record {
    waits = nothing_waits node tid (none_of none) sound;
    lent = nothing_lent node tid (none_of none) sound;
    due = λ part known. absurd (let both : None ≡ Some part = sym none ∙ known in cc (both));
  }

  -- who answers to nobody is idle
  free_idle : (part : Participant) → tm.part_of tid node.manager ≡ Some part → part.outcome ≡ None → part.engage.home ≡ false → part.engage.superior ≡ None → IsIdle tid node
  free_idle part known open_now away free = record {
    waits = idle.0;
    lent = idle.1;
    due = λ other its. let one : part ≡ other = (let both : Some part ≡ Some other = sym known ∙ its in cc (both)) in subst (λ (p : Participant). needs_pass p ≡ false) one idle.2;
  }
    where
      s : PartSound node tid part
      s = known_sound tid node part known sound

      apart : is_apart part ≡ true
      apart = rw (away, open_now, free) refl

      idle : (ipc.waits tid node.queues ≡ false) × (is_lent tid node ≡ false) × (needs_pass part ≡ false)
      idle = by (is_apart part) (ipc.waits tid node.queues) (is_lent tid node) (needs_pass part) apart s.idle
        where
          by : (c a b m : Bool) → c ≡ true → where_so c (not a && (not b && not m)) ≡ true → (a ≡ false) × (b ≡ false) × (m ≡ false)
          by true false false false so is = (refl, refl, refl)
          by true true b m so is = absurd (cc is)
          by true false true m so is = absurd (cc is)
          by true false false true so is = absurd (cc is)
          by false a b m so is = absurd (cc so)

-- a node that is not engaged is idle for what it has not decided
pub off_idle : OffIdle
off_idle tid node sound off undecided = by (tm.part_of tid node.manager) refl
  where
    at : (part : Participant) → tm.part_of tid node.manager ≡ Some part → (if began_here node tid then not (is_some part.outcome) else is_some part.engage.superior) ≡ false
    at part known = subst (λ (p : Participant). (if began_here node tid then not (is_some p.outcome) else is_some p.engage.superior) ≡ false) (ap (λ (o : Option Participant). Rattle.std.proofs.Common.unwrap_or o (Rattle.qs_world_refine.specs.NodeFaces.unknown node tid)) known) off

    by : (o : Option Participant) → tm.part_of tid node.manager ≡ o → IsIdle tid node
    by None none = unknown_idle tid node sound none
    by (Some part) known = home part.engage.home refl
      where
        s : PartSound node tid part
        s = known_sound tid node part known sound

        so_then : (a b : Bool) → where_so a b ≡ true → a ≡ true → b ≡ true
        so_then true b is so = is
        so_then false b is so = absurd (cc so)

        same : (h b : Bool) → same_flag h b ≡ true → b ≡ h
        same true b is = is
        same false true is = absurd (cc is)
        same false false is = refl

        at_home : same_node tid.home node.setting.node ≡ part.engage.home
        at_home = same part.engage.home (same_node tid.home node.setting.node) s.homed

        superior : (b c : Bool) → b ≡ false → (if b then not (is_some part.outcome) else c) ≡ false → c ≡ false
        superior true c is so = absurd (cc is)
        superior false c is so = so

        none : (o : Option NodeNo) → is_some o ≡ false → o ≡ None
        none None is = refl
        none (Some x) is = absurd (cc is)

        -- a home that has not decided is engaged
        never_home : part.engage.home ≡ true → ⊥
        never_home is =
            let began : began_here node tid ≡ true = rw (at_home, is) ((and_both (tid.inc == node.setting.inc) _ (so_then (part.engage.home && is_undecided part) _ s.began (rw (is, undecided part known) refl))).0) in
            let on : (if began_here node tid then not (is_some part.outcome) else is_some part.engage.superior) ≡ true = rw (began, undecided part known) refl in
            let no_more : (if began_here node tid then not (is_some part.outcome) else is_some part.engage.superior) ≡ false = at part known in
            cc (on, no_more)

        home : (h : Bool) → part.engage.home ≡ h → IsIdle tid node
        home true is = absurd (never_home is)
        home false is = free_idle tid node sound part known (undecided part known) is (none part.engage.superior (superior (began_here node tid) (is_some part.engage.superior) (rw (at_home, is) refl) (at part known)))

pub commit_idle : CommitIdle
commit_idle tid node q w lawful committed face sound undecided =
    off_idle tid node sound (never (face_at node tid).on (λ on. engaged_is_open w q lawful.reached (face.engaged ∙ on) committed)) undecided
