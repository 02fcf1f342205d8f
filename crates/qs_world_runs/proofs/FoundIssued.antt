-- A request that is issued fits and reaches its node; or it went out to one that it does not reach, and is awaited.
use Rattle.qs_world_runs.proofs.Words.{◌≡◌, ◌⊎◌, inl, inr, ℕ, ◌+◌, ◌<◌, ◌≤◌, ◌==◌, ◌&&◌, not, nat_le, nat_lt, Bool, true, false, length, Some, None, refl, sym, ap, subst, ◌∙◌, arith, if◌then◌else◌, is_at, nat_tests, tid_cmp, NodeNo, Tid, last_number, next_sent, peer_of, same_node, Op, is_other, enter_issue, issue_as, issue_away, issue_here, next_local, Work, here, with_manager, Setting, Outstanding, Participant, is_sound, is_sound_peer, known_sound, Field, IssueFinds, Reaches, same_Some}
use Rattle.qs_world_runs.proofs.Words.{apart_turned}
use Rattle.qs_base.specs.declared.identifiers.Outcome.TheVariants as outcomes
use Rattle.qs_engage.specs.Nodes.{all_nodes}
use Rattle.qs_ipc.specs.Queue.{is_for}
use Rattle.qs_node_step.specs.Requests.{next_number}
use Rattle.qs_node_step.specs.State.{part_of}
use Rattle.qs_tm.specs.Manager as tm
use Rattle.qs_tm.specs.Participant as participant
use Rattle.qs_world_refine.proofs.Known.{told_is}
use Rattle.qs_world_refine.proofs.Maps.{lookup_changed}
use Rattle.qs_world_refine.proofs.NodeSets.{all_named}
use Rattle.qs_world_refine.proofs.PassGoes.{whole_of}
use Rattle.qs_world_refine.proofs.SoundCount.{all_at}
use Rattle.qs_world_refine.proofs.SoundParts.{and_both}
use Rattle.qs_world_runs.proofs.Onward.{Awaits, Onward, awaits_on, onward_on, sent_awaits, sent_onward, issued_onward}
use Rattle.qs_world_runs.proofs.StuckRules.{Kept, goes_out}
use Rattle.std.proofs.lemmas.Bool.{leb-true}

abbrev pub IsUncommitted : Participant → Type 0
IsUncommitted part = (part.outcome ≡ None) ⊎ (part.outcome ≡ Some outcomes.Abort)

pub uncommitted_on : (part next : Participant) → Onward part next → IsUncommitted part → IsUncommitted next
uncommitted_on part next onward is = by onward.outcome is
  where
    by : (next.outcome ≡ part.outcome) ⊎ (next.outcome ≡ Some outcomes.Abort) → IsUncommitted part → IsUncommitted next
    by (inr aborted) before = inr aborted
    by (inl same) (inl open_now) = inl (same ∙ open_now)
    by (inl same) (inr aborted) = inr (same ∙ aborted)

-- from one work to a later one a request of the transaction went to that node, which is another one of the run, and is awaited
pub record Late (t : Tid) (work new : Work) (m : NodeNo) : Type 0 where
  pub number : ℕ
  pub old : Participant
  pub was : part_of t work ≡ Some old
  pub undecided : old.outcome ≡ None
  pub later : (peer_of old.engage m).sent < number
  pub part : Participant
  pub now : part_of t new ≡ Some part
  pub awaits : Awaits m number part
  pub uncommitted : IsUncommitted part
  pub in_run : nat_lt m.0 work.node.setting.nodes ≡ true
  pub other : same_node m (here work) ≡ false

module _ (base : Field) (knows : ℕ → ℕ) where
  reached : (m : ℕ) → Reaches base knows m ⊎ (Reaches base knows m → ⊥)
  reached m = by (knows m == 0) (base.up m) (knows m == base.inc m) refl refl refl
    where
      by : (a b c : Bool) → (knows m == 0) ≡ a → base.up m ≡ b → (knows m == base.inc m) ≡ c → Reaches base knows m ⊎ (Reaches base knows m → ⊥)
      by true b c none up at = inl (inl none)
      by false true true none up at = inl (inr (up, rw (at, none) refl))
      by false true false none up at = inr (λ r. never r)
        where
          never : Reaches base knows m → ⊥
          never (inl is) = cc (none, is)
          never (inr is) = off (knows m == base.inc m) (not (knows m == 0)) at is.1
            where
              off : (x y : Bool) → x ≡ false → (x && y) ≡ true → ⊥
              off true y e is = cc e
              off false y e is = cc is
      by false false c none up at = inr (λ r. never r)
        where
          never : Reaches base knows m → ⊥
          never (inl is) = cc (none, is)
          never (inr is) = let so = is.0 in cc (up, so)

-- what a sound node keeps of a transaction has a place for each node, and covered no more than was sent
pub record IsCounted (part : Participant) (m : NodeNo) : Type 0 where
  pub within : m.0 < length part.engage.peers
  pub covered : (peer_of part.engage m).covered ≤ (peer_of part.engage m).sent

pub counted_sound : (t : Tid) (work : Work) (part : Participant) (m : NodeNo) → is_sound work.node ≡ true → part_of t work ≡ Some part → m.0 < 16 → IsCounted part m
counted_sound t work part m sound known low = record {
  within = subst (λ (k : ℕ). m.0 < k) (sym (whole_of part (known_sound t work.node part known sound).whole).peers) low;
  covered = leb-true (peer_of part.engage m).covered (peer_of part.engage m).sent (and_both (nat_le (peer_of part.engage m).covered (peer_of part.engage m).sent) _ (all_at (is_sound_peer work.node part) all_nodes m.0 (known_sound t work.node part known sound).peers (all_named m.0 low))).0;
}

counted_on : (part next : Participant) (m : NodeNo) → Onward part next → IsCounted part m → IsCounted next m
counted_on part next m onward is = record {
  within = subst (λ (k : ℕ). m.0 < k) (sym onward.peers) is.within;
  covered = up (peer_of part.engage m).covered (peer_of next.engage m).covered (peer_of part.engage m).sent (peer_of next.engage m).sent (onward.covered m) is.covered (onward.sent m);
}
  where
    up : (c d s r : ℕ) → d ≡ c → c ≤ s → s ≤ r → d ≤ r
    up c d s r e p q = omega (arith, e, p, q)

module _ (D : Type 0) (t : Tid) (base : Field) (knows : ℕ → ℕ) where
  -- what is known of a request that went out to a node which it does not reach gives that it is doomed
  abbrev pub Supplies : Work → Work → Type 0
  Supplies work new = (m : NodeNo) → Late t work new m → (Reaches base knows m.0 → ⊥) → D

  module _ (work mid : Work) (old part : Participant) (request : Outstanding) (op : Op) (was : part_of t work ≡ Some old) (undecided : old.outcome ≡ None) (onward : Onward old part) (known : part_of t mid ≡ Some part) (setting : mid.node.setting ≡ work.node.setting)
      (sound : is_sound work.node ≡ true) (size : work.node.setting.nodes ≡ base.size) (small : base.size ≤ 16) (fits : is_for request.member.server op ≡ true) (in_run : nat_lt request.member.node.0 work.node.setting.nodes ≡ true)
      (numbered : next_number t request.member.node mid ≡ Some request.number) (supplies : Supplies work (issue_as t request op mid)) where
    abbrev m : NodeNo
    m = request.member.node

    low : m.0 < base.size
    low = subst (λ (k : ℕ). m.0 < k) size (grind (arith, nat_tests, in_run))

    counted : IsCounted part m
    counted = counted_on old part m onward (counted_sound t work old m sound was (up m.0 base.size low small))
      where
        up : (a b : ℕ) → a < b → b ≤ 16 → a < 16
        up a b p q = omega (arith, p, q)

    module _ (other : same_node m (here mid) ≡ false) where
      goes : is_other mid.node.setting m ≡ true
      goes = by (m.0 == mid.node.setting.node.0) (nat_lt m.0 mid.node.setting.nodes) other (ap (λ (s : Setting). nat_lt m.0 s.nodes) setting ∙ in_run)
        where
          by : (a b : Bool) → (m.0 == mid.node.setting.node.0) ≡ false → nat_lt m.0 mid.node.setting.nodes ≡ true → is_other mid.node.setting m ≡ true
          by a b apart within = rw (apart_turned m.0 mid.node.setting.node.0 apart, within) refl

      sent_number : next_sent m part.engage ≡ Some request.number
      sent_number =
          sym (told_is t None (λ part. next_sent m part.engage) mid.node.manager part known)
          ∙ (sym (ap (λ (b : Bool). if b then next_local t mid.node else tm.sent_as t m mid.node.manager) other) ∙ numbered)

      late : Late t work (issue_as t request op mid) m
      late = subst (λ (b : Bool). Late t work (if b then issue_here t request op mid else issue_away t request op mid) m) (sym other) (by out)
        where
          sent_part : Participant
          sent_part = participant.sent m (participant.issued request part)

          counted_work : Work
          counted_work = with_manager (tm.sent t m) (enter_issue t request op mid)

          known_sent : part_of t counted_work ≡ Some sent_part
          known_sent = lookup_changed (is_at (tid_cmp t)) (participant.sent m) _ (participant.issued request part)
              (lookup_changed (is_at (tid_cmp t)) (participant.issued request) mid.node.manager.known part known)

          out : Kept t counted_work (issue_away t request op mid) sent_part
          out = goes_out t t request op mid sent_part known_sent

          number_is : (s : ℕ) → next_sent m part.engage ≡ Some request.number → s ≤ (peer_of part.engage m).sent → s < request.number
          number_is s is less = picked ((peer_of part.engage m).sent == last_number) is
            where
              above : (a b c : ℕ) → a + 1 ≡ c → b ≤ a → b < c
              above a b c e p = omega (arith, e, p)

              picked : (b : Bool) → (if b then None else Some ((peer_of part.engage m).sent + 1)) ≡ Some request.number → s < request.number
              picked true is = absurd (cc is)
              picked false is = above (peer_of part.engage m).sent s request.number (same_Some ((peer_of part.engage m).sent + 1) request.number is) less

          by : Kept t counted_work (issue_away t request op mid) sent_part → Late t work (issue_away t request op mid) m
          by kept = record {
            number = request.number;
            old = old;
            was = was;
            undecided = undecided;
            later = number_is (peer_of old.engage m).sent sent_number (onward.sent m);
            part = kept.next;
            now = kept.known;
            awaits = awaits_on m request.number sent_part kept.next kept.onward (sent_awaits m request.number (participant.issued request part) counted.within counted.covered sent_number);
            uncommitted = uncommitted_on old kept.next (onward_on old part kept.next onward (onward_on part sent_part kept.next (onward_on part (participant.issued request part) sent_part (issued_onward request part) (sent_onward m (participant.issued request part))) kept.onward)) (inl undecided);
            in_run = in_run;
            other = ap (λ (s : Setting). same_node m s.node) (sym setting) ∙ other;
          }

    pub issued_found : D ⊎ IssueFinds base knows request op mid
    issued_found = by (same_node m (here mid)) refl
      where
        far : same_node m (here mid) ≡ false → Reaches base knows m.0 ⊎ (Reaches base knows m.0 → ⊥) → D ⊎ IssueFinds base knows request op mid
        far other (inl reaches) = inr (record { fits = fits; in_run = low; reaches = λ _. (goes other, reaches) })
        far other (inr not_so) = inl (supplies m (late other) not_so)

        by : (b : Bool) → same_node m (here mid) ≡ b → D ⊎ IssueFinds base knows request op mid
        by true same = inr (record { fits = fits; in_run = low; reaches = λ other. absurd (cc (same, other)) })
        by false other = far other (reached base knows m.0)
