-- In a vote pass of a transaction each note finds what it needs, or went out late and is awaited; and each vote is for commit, or the node is held up.
use Rattle.qs_world_runs.proofs.Words.{◌≡◌, ◌⊎◌, inl, inr, ℕ, ◌≤◌, ◌==◌, ◌&&◌, ◌||◌, not, nat_lt, Bool, true, false, List, [], ◌∷◌, Option, Some, None, is_some, fold, refl, sym, ap, subst, ◌∙◌, if◌then◌else◌, is_at, tid_cmp, NodeNo, ServerNo, Tid, vote_of, Vote, server_at, member_here, end_members, issue_as, is_busy, is_lent, is_pass_due, is_put_off, Work, doings_of, due_votes, issue_note, owes_note, served_count, vote_frame, vote_next, vote_pass, vote_with, Setting, is_undecided, needs_pass}
use Rattle.qs_world_runs.proofs.Words.{Participant, is_audit, is_sound, where_so, known_sound, is_apart, seen, AtEach, Field, is_against, PassFinds, note_op, note_request, or-true}
use Rattle.qs_ipc.specs.Ipc as ipc
use Rattle.qs_ops.specs.declared.vote.Vote.TheVariants as votes
use Rattle.qs_node_step.specs.Requests.{next_number}
use Rattle.qs_node_step.specs.State.{part_of}
use Rattle.qs_tm.specs.Participant as participant
use Rattle.qs_world_refine.proofs.Known.{is_open}
use Rattle.qs_world_refine.proofs.Maps.{lookup_changed}
use Rattle.qs_world_refine.proofs.SoundParts.{and_both}
use Rattle.qs_world_runs.specs.PlacesFound.{VoteFinds}
use Rattle.qs_world_runs.proofs.FoundIssued.{IsUncommitted, Late, Supplies, issued_found, uncommitted_on}
use Rattle.qs_world_runs.proofs.Onward.{IsHeldUp, Onward, awaits_on, held_on, onward_on, voted_onward}
use Rattle.qs_world_runs.proofs.StuckRules.{Keeps, Kept, end_keeps, keeps_fold, next_keeps}

-- ---- late still

pub late_on : (t : Tid) (work a b : Work) (m : NodeNo) → Keeps t a b → Late t work a m → Late t work b m
late_on t work a b m keeps late = by (keeps late.part late.now)
  where
    by : Kept t a b late.part → Late t work b m
    by kept = record {
      number = late.number;
      old = late.old;
      was = late.was;
      undecided = late.undecided;
      later = late.later;
      part = kept.next;
      now = kept.known;
      awaits = awaits_on m late.number late.part kept.next kept.onward late.awaits;
      uncommitted = uncommitted_on late.part kept.next kept.onward late.uncommitted;
      in_run = late.in_run;
      other = late.other;
    }

-- ---- who has a vote to cast is at home, or answers to another node

voter_engaged : (t : Tid) (work : Work) (part : Participant) → is_sound work.node ≡ true → part_of t work ≡ Some part → part.outcome ≡ None → is_pass_due t part work ≡ true → (part.engage.home || is_some part.engage.superior) ≡ true
voter_engaged t work part sound known undecided due =
    some part.engage.home (is_undecided part) (is_some part.engage.superior) (is_open part undecided)
    (held (is_apart part) (ipc.waits t work.node.queues) (is_lent t work.node) (needs_pass part) needs (known_sound t work.node part known sound).idle)
  where
    needs : needs_pass part ≡ true
    needs = (and_both (needs_pass part) (not (is_put_off (doings_of t work))) (and_both (part.asked && not (is_busy t work.node part)) _ due).1).0

    held : (c a b m : Bool) → m ≡ true → where_so c (not a && (not b && not m)) ≡ true → c ≡ false
    held false a b m is so = refl
    held true true b m is so = absurd (cc so)
    held true false true m is so = absurd (cc so)
    held true false false true is so = absurd (cc so)
    held true false false false is so = absurd (cc is)

    some : (h u s : Bool) → u ≡ true → (not h && (u && not (if h then u else s))) ≡ false → (h || s) ≡ true
    some true u s is apart = refl
    some false false s is apart = absurd (cc is)
    some false true true is apart = refl
    some false true false is apart = absurd (cc apart)

module _ (D : Type 0) (t : Tid) (base : Field) (knows : ℕ → ℕ) (small : base.size ≤ 16) (work : Work) (sound : is_sound work.node ≡ true) (size : work.node.setting.nodes ≡ base.size) (lates : Supplies D t base knows work (vote_pass t work))
    (held_up : (part : Participant) → part_of t (vote_pass t work) ≡ Some part → IsHeldUp part → IsUncommitted part → D) where
  module _ (old : Participant) (was : part_of t work ≡ Some old) (undecided : old.outcome ≡ None) (engaged : (old.engage.home || is_some old.engage.superior) ≡ true) where
    -- ---- at the turn of a server

    module _ (s : ServerNo) (rest : List ServerNo) (now : Work) (part : Participant) (known : part_of t now ≡ Some part) (onward : Onward old part) (setting : now.node.setting ≡ work.node.setting) (ends : fold (vote_next t) now (s ∷ rest) ≡ vote_pass t work) where
      then_on : Keeps t (vote_next t now s) (vote_pass t work)
      then_on = subst (λ (k : Work). Keeps t (vote_next t now s) k) ends (keeps_fold t (vote_next t) (next_keeps t t) rest (vote_next t now s))

      audit_in : (node : NodeNo) → now.node.setting.audit ≡ Some node → nat_lt node.0 work.node.setting.nodes ≡ true
      audit_in node audited = subst (λ (o : Option NodeNo). is_audit work.node.setting.nodes o ≡ true) (sym (ap (λ (g : Setting). g.audit) setting) ∙ audited) audits
        where
          audits : is_audit work.node.setting.nodes work.node.setting.audit ≡ true
          audits = last _ (work.node.manager.node.0 == work.node.setting.node.0) (work.node.manager.inc == work.node.setting.inc) (work.node.manager.extra == work.node.setting.extra) (work.node.manager.keep == work.node.setting.keep) (is_audit work.node.setting.nodes work.node.setting.audit) (seen work.node sound).fits
            where
              last : (a b c d e f : Bool) → (a && (b && (c && (d && (e && f))))) ≡ true → f ≡ true
              last true true true true true f is = is
              last false b c d e f is = absurd (cc is)
              last true false c d e f is = absurd (cc is)
              last true true false d e f is = absurd (cc is)
              last true true true false e f is = absurd (cc is)
              last true true true true false f is = absurd (cc is)

      note_is : owes_note t s now ≡ true → (node : NodeNo) (number : ℕ) → now.node.setting.audit ≡ Some node → next_number t node now ≡ Some number → vote_next t now s ≡ issue_as t (note_request t node number now) (note_op t now) now
      note_is owes node number audited numbered =
          ap (λ (b : Bool). if b then issue_note t now.node.setting.audit now else vote_with t s (vote_of (server_at now.node.servers s) t now.room (vote_frame now)) now) owes
          ∙ (ap (λ (o : Option NodeNo). issue_note t o now) audited
          ∙ ap (λ (o : Option ℕ). elim o [ None ↦ now | Some k ↦ issue_as t (note_request t node k now) (note_op t now) now ]) numbered)

      vote_is : owes_note t s now ≡ false → vote_next t now s ≡ vote_with t s (vote_of (server_at now.node.servers s) t now.room (vote_frame now)) now
      vote_is free = ap (λ (b : Bool). if b then issue_note t now.node.setting.audit now else vote_with t s (vote_of (server_at now.node.servers s) t now.room (vote_frame now)) now) free

      against : (ballot : Vote) → vote_next t now s ≡ vote_with t s ballot now → D ⊎ (is_against ballot ≡ false)
      against votes.ReadOnly is = inr refl
      against votes.Volatile is = inr refl
      against votes.Recoverable is = inr refl
      against (votes.Abort reason) is = inl (by (then_on voted known_voted))
        where
          voted : Participant
          voted = participant.voted (member_here now s) (votes.Abort reason) (served_count t s now) part

          known_voted : part_of t (vote_next t now s) ≡ Some voted
          known_voted = ap (λ (k : Work). part_of t k) is ∙ lookup_changed (is_at (tid_cmp t)) (participant.voted (member_here now s) (votes.Abort reason) (served_count t s now)) now.node.manager.known part known

          held : IsHeldUp voted
          held = record { blocked = or-true part.blocked; engaged = ap (λ (h : Bool). h || is_some part.engage.superior) onward.home ∙ (ap (λ (o : Option NodeNo). old.engage.home || is_some o) onward.superior ∙ engaged) }

          open_voted : IsUncommitted voted
          open_voted = uncommitted_on old voted (onward_on old part voted onward (voted_onward (member_here now s) (votes.Abort reason) (served_count t s now) part)) (inl undecided)

          by : Kept t (vote_next t now s) (vote_pass t work) voted → D
          by kept = held_up kept.next kept.known (held_on voted kept.next kept.onward held) (uncommitted_on voted kept.next kept.onward open_voted)

      vote_found : VoteFinds D t base knows now s
      vote_found = record {
        notes = λ owes node number audited numbered. issued_found D t base knows work now old part (note_request t node number now) (note_op t now) was undecided onward known setting sound size small refl (audit_in node audited) numbered
            (λ m late unreached. lates m (late_on t work (vote_next t now s) (vote_pass t work) m then_on (subst (λ (k : Work). Late t work k m) (sym (note_is owes node number audited numbered)) late)) unreached);
        votes = λ free. against (vote_of (server_at now.node.servers s) t now.room (vote_frame now)) (vote_is free);
      }

    votes_found : (list : List ServerNo) (now : Work) (part : Participant) → part_of t now ≡ Some part → Onward old part → now.node.setting ≡ work.node.setting → fold (vote_next t) now list ≡ vote_pass t work → AtEach (VoteFinds D t base knows) (vote_next t) now list
    votes_found [] now part known onward setting ends = tt
    votes_found (s ∷ rest) now part known onward setting ends =
        let kept : Kept t now (vote_next t now s) part = next_keeps t t now s part known in
        (vote_found s rest now part known onward setting ends, votes_found rest (vote_next t now s) kept.next kept.known (onward_on old part kept.next onward kept.onward) (kept.setting ∙ setting) ends)

  pub pass_found : PassFinds D t base knows work
  pass_found part known undecided due = by (end_keeps t t work part known)
    where
      by : Kept t work (end_members t work) part → AtEach (VoteFinds D t base knows) (vote_next t) (end_members t work) (due_votes t work)
      by kept = votes_found part known undecided (voter_engaged t work part sound known undecided due) (due_votes t work) (end_members t work) kept.next kept.known kept.onward kept.setting refl
