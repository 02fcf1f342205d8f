-- What keeps a node from being ready for a transaction: a request of it that is not covered, or that it is blocked while it is engaged. Most changes of what is kept of one leave that.
use Rattle.qs_world_runs.proofs.Words.{◌≡◌, ◌⊎◌, inl, inr, ℕ, ◌+◌, ◌<◌, ◌≤◌, ◌==◌, ◌&&◌, ◌||◌, not, nat_lt, nat_le, Bool, true, false, List, [], ◌∷◌, length, Option, Some, None, is_none, is_some, zero, suc, refl, sym, ap, subst, ◌∙◌, arith, if◌then◌else◌, le_refl, list_all, slice_index_or, eqb-true, or_cases, or_left, nat_tests, Member, NodeNo, ServerNo, is_covered, is_passive, last_number, next_sent, no_peer, peer_of, with_peer, Engage, PeerPart, Vote, Record, ballot_of, all_agree}
use Rattle.qs_world_runs.proofs.Words.{is_forgotten, is_ready, is_undecided, Outstanding, Participant, le_next, le_le, and_first, and_last, same_Some}
use Rattle.std.proofs.lemmas.List.{length-set, set_past}
use Rattle.qs_base.specs.declared.identifiers.Outcome.TheVariants as outcomes
use Rattle.qs_tm.specs.Members.{is_binding, is_refusal}
use Rattle.qs_tm.specs.Outcomes as outcome_rules
use Rattle.qs_tm.specs.Participant as participant
use Rattle.qs_world_refine.proofs.Arrays.{peer_put}
use Rattle.qs_base_lemmas.proofs.Tests.{and_not}

-- ---- what keeps it from being ready

-- request k to that node is not covered
pub record Awaits (m : NodeNo) (k : ℕ) (part : Participant) : Type 0 where
  pub sent : k ≤ (peer_of part.engage m).sent
  pub uncovered : (peer_of part.engage m).covered < k
  pub involved : part.involved ≡ true

-- it is blocked at its home, or where it answers to another node
pub record IsHeldUp (part : Participant) : Type 0 where
  pub blocked : part.blocked ≡ true
  pub engaged : (part.engage.home || is_some part.engage.superior) ≡ true

abbrev pub IsStuck : Participant → Type 0
IsStuck part = ((m : NodeNo) × ((k : ℕ) × Awaits m k part)) ⊎ IsHeldUp part

-- ---- what leaves it

pub record Onward (part next : Participant) : Type 0 where
  pub home : next.engage.home ≡ part.engage.home
  pub superior : next.engage.superior ≡ part.engage.superior
  pub peers : length next.engage.peers ≡ length part.engage.peers
  pub sent : (m : NodeNo) → (peer_of part.engage m).sent ≤ (peer_of next.engage m).sent
  pub covered : (m : NodeNo) → (peer_of next.engage m).covered ≡ (peer_of part.engage m).covered
  pub blocked : part.blocked ≡ true → next.blocked ≡ true
  pub involved : part.involved ≡ true → next.involved ≡ true
  pub outcome : (next.outcome ≡ part.outcome) ⊎ (next.outcome ≡ Some outcomes.Abort)

-- the engagement stays as it is
plainly : (part next : Participant) → next.engage ≡ part.engage → (part.blocked ≡ true → next.blocked ≡ true) → (part.involved ≡ true → next.involved ≡ true) → (next.outcome ≡ part.outcome) ⊎ (next.outcome ≡ Some outcomes.Abort) → Onward part next
plainly part next same blocked involved outcome = record {
  home = ap (λ (e : Engage). e.home) same;
  superior = ap (λ (e : Engage). e.superior) same;
  peers = ap (λ (e : Engage). length e.peers) same;
  sent = λ m. subst (λ (e : Engage). (peer_of part.engage m).sent ≤ (peer_of e m).sent) (sym same) (le_refl (peer_of part.engage m).sent);
  covered = λ m. ap (λ (e : Engage). (peer_of e m).covered) same;
  blocked = blocked;
  involved = involved;
  outcome = outcome;
}

pub onward_itself : (part : Participant) → Onward part part
onward_itself part = plainly part part refl (λ h. h) (λ h. h) (inl refl)

pub onward_on : (a b c : Participant) → Onward a b → Onward b c → Onward a c
onward_on a b c first second = record {
  home = second.home ∙ first.home;
  superior = second.superior ∙ first.superior;
  peers = second.peers ∙ first.peers;
  sent = λ m. le_le (peer_of a.engage m).sent (peer_of b.engage m).sent (peer_of c.engage m).sent (first.sent m) (second.sent m);
  covered = λ m. second.covered m ∙ first.covered m;
  blocked = λ h. second.blocked (first.blocked h);
  involved = λ h. second.involved (first.involved h);
  outcome = ends second.outcome first.outcome;
}
  where
    ends : (c.outcome ≡ b.outcome) ⊎ (c.outcome ≡ Some outcomes.Abort) → (b.outcome ≡ a.outcome) ⊎ (b.outcome ≡ Some outcomes.Abort) → (c.outcome ≡ a.outcome) ⊎ (c.outcome ≡ Some outcomes.Abort)
    ends (inr aborted) before = inr aborted
    ends (inl same) (inl before) = inl (same ∙ before)
    ends (inl same) (inr aborted) = inr (same ∙ aborted)

pub awaits_on : (m : NodeNo) (k : ℕ) (part next : Participant) → Onward part next → Awaits m k part → Awaits m k next
awaits_on m k part next onward awaits = record {
  sent = le_le k (peer_of part.engage m).sent (peer_of next.engage m).sent awaits.sent (onward.sent m);
  uncovered = subst (λ (c : ℕ). c < k) (sym (onward.covered m)) awaits.uncovered;
  involved = onward.involved awaits.involved;
}

pub held_on : (part next : Participant) → Onward part next → IsHeldUp part → IsHeldUp next
held_on part next onward held = record { blocked = onward.blocked held.blocked; engaged = ap (λ (h : Bool). h || is_some next.engage.superior) onward.home ∙ (ap (λ (o : Option NodeNo). part.engage.home || is_some o) onward.superior ∙ held.engaged) }

pub stuck_on : (part next : Participant) → Onward part next → IsStuck part → IsStuck next
stuck_on part next onward (inl awaits) = inl (awaits.0, (awaits.1.0, awaits_on awaits.0 awaits.1.0 part next onward awaits.1.1))
stuck_on part next onward (inr held) = inr (held_on part next onward held)

-- ---- changes of what is kept

pub settled_onward : (server : ServerNo) (part : Participant) → Onward part (outcome_rules.settled server part)
settled_onward server part = plainly part (outcome_rules.settled server part) refl (λ h. h) (λ h. h) (inl refl)

pub voted_onward : (member : Member) (ballot : Vote) (covers : ℕ) (part : Participant) → Onward part (participant.voted member ballot covers part)
voted_onward member ballot covers part = plainly part (participant.voted member ballot covers part) refl (or_left part.blocked (is_refusal (ballot_of ballot))) (or_left part.involved (is_binding (ballot_of ballot))) (inl refl)

pub logged_onward : (rec : Record) (part : Participant) → Onward part (outcome_rules.logged rec part)
logged_onward rec part = plainly part (outcome_rules.logged rec part) refl (λ h. h) (λ h. h) (inl refl)

pub issued_onward : (request : Outstanding) (part : Participant) → Onward part (participant.issued request part)
issued_onward request part = plainly part (participant.issued request part) refl (λ h. h) (λ h. h) (inl refl)

pub causes_onward : (part : Participant) → Onward part (participant.take_causes part)
causes_onward part = plainly part (participant.take_causes part) refl (λ h. h) (λ h. h) (inl refl)

pub aborted_onward : (part : Participant) → Onward part (outcome_rules.decided outcomes.Abort part)
aborted_onward part = plainly part (outcome_rules.decided outcomes.Abort part) refl (λ h. h) (λ h. h) (inr refl)

-- ---- one request more

module _ (to : NodeNo) (engage : Engage) where
  abbrev more : PeerPart
  more = record (peer_of engage to) { sent = (peer_of engage to).sent + 1 }

  abbrev Rises : PeerPart → PeerPart → Type 0
  Rises old new = (old.sent ≤ new.sent) × (new.covered ≡ old.covered)

  rises_itself : (p : PeerPart) → Rises p p
  rises_itself p = (le_refl p.sent, refl)

  rises_one : (p : PeerPart) → Rises p (record p { sent = p.sent + 1 })
  rises_one p = (le_next p.sent, refl)

  peer_rises : (k : NodeNo) → Rises (peer_of engage k) (peer_of (with_peer to more engage) k)
  peer_rises k = by (nat_lt to.0 (length engage.peers)) refl
    where
      at : (b : Bool) → (k.0 == to.0) ≡ b → Rises (peer_of engage k) (if b then more else peer_of engage k)
      at true same = subst (λ (j : ℕ). Rises (slice_index_or engage.peers j no_peer) more) (sym (eqb-true k.0 to.0 same)) (rises_one (peer_of engage to))
      at false other = rises_itself (peer_of engage k)

      by : (b : Bool) → nat_lt to.0 (length engage.peers) ≡ b → Rises (peer_of engage k) (peer_of (with_peer to more engage) k)
      by true within = subst (λ (p : PeerPart). Rises (peer_of engage k) p) (sym (peer_put to.0 k.0 more engage (grind (arith, nat_tests, within)))) (at (k.0 == to.0) refl)
      by false past = subst (λ (l : List PeerPart). Rises (peer_of engage k) (slice_index_or l k.0 no_peer)) (sym (set_past engage.peers to.0 more (grind (arith, nat_tests, past)))) (rises_itself (peer_of engage k))

pub sent_onward : (to : NodeNo) (part : Participant) → Onward part (participant.sent to part)
sent_onward to part = by ((peer_of part.engage to).sent == last_number)
  where
    with_engage : (e : Engage) → e.home ≡ part.engage.home → e.superior ≡ part.engage.superior → length e.peers ≡ length part.engage.peers → ((k : NodeNo) → Rises to part.engage (peer_of part.engage k) (peer_of e k)) → Onward part (record part { engage = e; involved = true })
    with_engage e home superior peers rises = record { home = home; superior = superior; peers = peers; sent = λ k. (rises k).0; covered = λ k. (rises k).1; blocked = λ h. h; involved = λ h. refl; outcome = inl refl }

    by : (b : Bool) → Onward part (record part { engage = if b then part.engage else with_peer to (more to part.engage) part.engage; involved = true })
    by true = with_engage part.engage refl refl refl (λ k. rises_itself to part.engage (peer_of part.engage k))
    by false = with_engage (with_peer to (more to part.engage) part.engage) refl refl (length-set part.engage.peers to.0 (more to part.engage)) (peer_rises to part.engage)

-- so a request that is sent under the next number is awaited, where none is covered that was not sent
pub sent_awaits : (to : NodeNo) (number : ℕ) (part : Participant) → to.0 < length part.engage.peers → (peer_of part.engage to).covered ≤ (peer_of part.engage to).sent → next_sent to part.engage ≡ Some number → Awaits to number (participant.sent to part)
sent_awaits to number part within covered numbered = by ((peer_of part.engage to).sent == last_number) numbered
  where
    there : peer_of (with_peer to (more to part.engage) part.engage) to ≡ more to part.engage
    there = peer_put to.0 to.0 (more to part.engage) part.engage within ∙ at (to.0 == to.0) (grind (arith, nat_tests))
      where
        at : (b : Bool) → b ≡ true → (if b then more to part.engage else peer_of part.engage to) ≡ more to part.engage
        at true is = refl
        at false is = absurd (cc is)

    by : (b : Bool) → (if b then None else Some ((peer_of part.engage to).sent + 1)) ≡ Some number → Awaits to number (record part { engage = if b then part.engage else with_peer to (more to part.engage) part.engage; involved = true })
    by true is = absurd (cc is)
    by false is = record {
      sent = subst (λ (p : PeerPart). number ≤ p.sent) (sym there) (least number ((peer_of part.engage to).sent) (same_Some ((peer_of part.engage to).sent + 1) number is));
      uncovered = subst (λ (p : PeerPart). p.covered < number) (sym there) (below number ((peer_of part.engage to).sent) ((peer_of part.engage to).covered) (same_Some ((peer_of part.engage to).sent + 1) number is) covered);
      involved = refl;
    }
      where
        least : (n s : ℕ) → s + 1 ≡ n → n ≤ s + 1
        least n s is = omega (arith, is)

        below : (n s c : ℕ) → s + 1 ≡ n → c ≤ s → c < n
        below n s c is less = omega (arith, is, less)

-- ---- what is stuck is not ready, and not forgotten

covered_at : (peers : List PeerPart) (m : ℕ) → list_all is_covered peers ≡ true → is_covered (slice_index_or peers m no_peer) ≡ true
covered_at [] m all = refl
covered_at (p ∷ peers) zero all = and_first (is_covered p) (list_all is_covered peers) all
covered_at (p ∷ peers) (suc m) all = covered_at peers m (and_last (is_covered p) (list_all is_covered peers) all)

not_passive : (m : NodeNo) (k : ℕ) (part : Participant) → Awaits m k part → is_passive part.engage ≡ false
not_passive m k part awaits = by (is_passive part.engage) refl
  where
    never : (sent covered : ℕ) → k ≤ sent → covered < k → nat_le sent covered ≡ true → ⊥
    never sent covered more less is = grind (arith, nat_tests, more, less, is)

    by : (b : Bool) → is_passive part.engage ≡ b → b ≡ false
    by true is = absurd (never (peer_of part.engage m).sent (peer_of part.engage m).covered awaits.sent awaits.uncovered (covered_at part.engage.peers m.0 is))
    by false is = refl

pub stuck_unready : (part : Participant) → IsStuck part → (busy : Bool) → is_ready busy part ≡ false
stuck_unready part (inl awaits) busy = off (part.asked && not part.blocked) (not busy) (is_passive part.engage) (all_agree part) (not_passive awaits.0 awaits.1.0 part awaits.1.1)
  where
    off : (a b c d : Bool) → c ≡ false → (a && ((b && c) && d)) ≡ false
    off true true c d is = rw is refl
    off true false c d is = refl
    off false b c d is = refl
stuck_unready part (inr held) busy = off part.asked part.blocked ((not busy && is_passive part.engage) && all_agree part) held.blocked
  where
    off : (a b c : Bool) → b ≡ true → ((a && not b) && c) ≡ false
    off true b c is = rw is refl
    off false b c is = refl

pub stuck_kept : (part : Participant) → IsStuck part → is_forgotten part ≡ false
stuck_kept part stuck = by stuck
  where
    off : (u h n i r : Bool) → (n && not i) ≡ false → ((u && not h) && ((n && not i) && r)) ≡ false
    off true true n i r is = refl
    off true false n i r is = rw is refl
    off false h n i r is = refl

    away : (u h n i r : Bool) → h ≡ true → ((u && not h) && ((n && not i) && r)) ≡ false
    away true h n i r is = rw is refl
    away false h n i r is = refl

    answers : (o : Option NodeNo) (i : Bool) → is_some o ≡ true → (is_none o && not i) ≡ false
    answers (Some node) i is = refl
    answers None i is = absurd (cc is)

    by : IsStuck part → is_forgotten part ≡ false
    by (inl awaits) = off (is_undecided part) part.engage.home (is_none part.engage.superior) part.involved _ (and_not (is_none part.engage.superior) part.involved awaits.1.1.involved)
    by (inr held) = at (or_cases part.engage.home (is_some part.engage.superior) held.engaged)
      where
        at : (part.engage.home ≡ true) ⊎ (is_some part.engage.superior ≡ true) → is_forgotten part ≡ false
        at (inl home) = away (is_undecided part) part.engage.home (is_none part.engage.superior) part.involved _ home
        at (inr superior) = off (is_undecided part) part.engage.home (is_none part.engage.superior) part.involved _ (answers part.engage.superior part.involved superior)
