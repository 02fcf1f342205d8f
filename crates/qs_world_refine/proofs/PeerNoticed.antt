-- A node finds that another one restarted, and looks at one transaction: Notice.
use Rattle.qs_world_refine.proofs.Words.{◌≡◌, ℕ, ◌≤◌, ◌==◌, ◌&&◌, ◌||◌, not, Bool, true, false, List, [], ◌++◌, Option, Some, refl, sym, ap, ◌∙◌, arith, if◌then◌else◌, nat_le, is_at, eqb-true, nat_tests, tid_cmp, Tid, peer_of, is_covered, PeerPart, is_owed_by, Participant, block, Work, part_of, with_manager, Open, IsLawful, Face, ShowsFace, Said, node_no, all_said, face, face_at, outcome_seen, place, noticed, IsNoticed, SightGoes, Scene, said_during, unmet_during, sight_during, ShowsWork, Sight}
use Rattle.qs_world_refine.proofs.Words.{IsAt, Goes, or_first, or_last}
use Rattle.qs_base.specs.declared.identifiers.Outcome.{Outcome}
use Rattle.qs_base.specs.declared.identifiers.Outcome.TheVariants as outcomes
use Rattle.qs_engage.specs.Engage as engage
use Rattle.qs_engage.specs.Engage.{is_open_to}
use Rattle.qs_ops.specs.declared.answer.Cause.TheVariants as causes
use Rattle.qs_tm.specs.Manager as tm
use Rattle.qs_tm.specs.Participant as participant
use Rattle.qs_tm.specs.Participant.{waits_for}
use Rattle.qs_world_agree.specs.World.{World, with_at}
use Rattle.qs_world_refine.specs.RestartLaws.{FindGoneGoes, NoticeDecidedGoes}
use Rattle.qs_world_refine.specs.Seen.{sight_noticed}
use Rattle.qs_world_refine.specs.Shows.{sent_to}
use Rattle.qs_world_refine.specs.Steps.{Knows}
use Rattle.qs_world_refine.proofs.Alike.{SameFace, same_itself, found_itself, sight_alike}
use Rattle.qs_world_refine.proofs.Arrays.{peer_put}
use Rattle.qs_world_refine.proofs.During.{Quiet, face_here, found_same, runs}
use Rattle.qs_world_refine.proofs.EventGoes.{notice}
use Rattle.qs_world_refine.proofs.Facts.{invariant}
use Rattle.qs_world_refine.proofs.Maps.{lookup_changed}
use Rattle.qs_world_refine.proofs.Reading.{part_known}
use Rattle.qs_world_refine.proofs.Sending.{append_nil}

module _ (tid : Tid) (scene : Scene) (n m old new : ℕ) (work : Work) (w : World) (lawful : IsLawful w) (shown : ShowsWork tid scene n work w) (at : IsAt scene n work) (is : IsNoticed tid scene n m old new work) where
  abbrev pub x : Sight
  x = sight_during tid scene n work

  abbrev later : Scene
  later = noticed scene n m new

  same_test : (b : ℕ) → (b == m) ≡ false → (if (n == n) && (b == m) then new else scene.knows n b) ≡ scene.knows n b
  same_test b is = rw is (off (n == n))
    where
      off : (c : Bool) → (if c && false then new else scene.knows n b) ≡ scene.knows n b
      off true = refl
      off false = refl

  silent_at : (after : Work) → Quiet tid work after → (b : ℕ) → (b == m) ≡ true → all_said tid (sent_to b after.out.messages) ≡ []
  silent_at after quiet b e = ap (λ (k : ℕ). all_said tid (sent_to k after.out.messages)) (eqb-true b m e) ∙ (quiet.sends m ∙ is.silent)

  -- nothing that was sent in the step changes its link, since none of it goes to that node
  said_is : (after : Work) → Quiet tid work after → (a k b l : ℕ) → said_during tid later n after.out.messages a k b l ≡ said_during tid scene n work.out.messages a k b l
  said_is after quiet a k b l = by (b == m) refl
    where
      none : (t : Bool) (sent : List Said) → sent ≡ [] → (if t then all_said tid (scene.pending a k b l) ++ sent else all_said tid (scene.pending a k b l)) ≡ all_said tid (scene.pending a k b l)
      none true sent is = ap (λ (s : List Said). all_said tid (scene.pending a k b l) ++ s) is ∙ append_nil (all_said tid (scene.pending a k b l))
      none false sent is = refl

      by : (c : Bool) → (b == m) ≡ c → said_during tid later n after.out.messages a k b l ≡ said_during tid scene n work.out.messages a k b l
      by true e =
          none ((a == n) && ((k == scene.inc n) && ((l == (if (n == n) && (b == m) then new else scene.knows n b)) && not (l == 0)))) (all_said tid (sent_to b after.out.messages)) (silent_at after quiet b e)
          ∙ sym (none ((a == n) && ((k == scene.inc n) && ((l == scene.knows n b) && not (l == 0)))) (all_said tid (sent_to b work.out.messages)) (sym (quiet.sends b) ∙ silent_at after quiet b e))
      by false e = rw (same_test b e, quiet.sends b) refl

  unmet_is : (after : Work) → Quiet tid work after → (a b : ℕ) → unmet_during tid later n after.out.messages a b ≡ unmet_during tid scene n work.out.messages a b
  unmet_is after quiet a b = by (b == m) refl
    where
      none : (t : Bool) (sent : List Said) → sent ≡ [] → (if t then all_said tid (scene.unmet a b) ++ sent else all_said tid (scene.unmet a b)) ≡ all_said tid (scene.unmet a b)
      none true sent is = ap (λ (s : List Said). all_said tid (scene.unmet a b) ++ s) is ∙ append_nil (all_said tid (scene.unmet a b))
      none false sent is = refl

      by : (c : Bool) → (b == m) ≡ c → unmet_during tid later n after.out.messages a b ≡ unmet_during tid scene n work.out.messages a b
      by true e =
          none ((a == n) && ((if (n == n) && (b == m) then new else scene.knows n b) == 0)) (all_said tid (sent_to b after.out.messages)) (silent_at after quiet b e)
          ∙ sym (none ((a == n) && (scene.knows n b == 0)) (all_said tid (sent_to b work.out.messages)) (sym (quiet.sends b) ∙ silent_at after quiet b e))
      by false e = rw (same_test b e, quiet.sends b) refl

  nothing_there : x.said n (x.inc n) m new ≡ []
  nothing_there = off ((n == n) && ((scene.inc n == scene.inc n) && ((new == scene.knows n m) && not (new == 0)))) (unknown (new == scene.knows n m) (apart (scene.knows n m) is.knows)) ∙ ap (all_said tid) is.fresh
    where
      apart : (k : ℕ) → k ≡ old → (new == k) ≡ false
      apart k e = grind (arith, nat_tests, e, is.later)

      unknown : (b : Bool) → b ≡ false → ((n == n) && ((scene.inc n == scene.inc n) && (b && not (new == 0)))) ≡ false
      unknown b e = rw e (both (n == n) (scene.inc n == scene.inc n))
        where
          both : (p q : Bool) → (p && (q && false)) ≡ false
          both true true = refl
          both true false = refl
          both false q = refl

      off : (t : Bool) → t ≡ false → (if t then all_said tid (scene.pending n (scene.inc n) m new) ++ all_said tid (sent_to m work.out.messages) else all_said tid (scene.pending n (scene.inc n) m new)) ≡ all_said tid (scene.pending n (scene.inc n) m new)
      off t e = rw e refl

  -- the node changed as the event changed its face
  pub noticed_goes : (blocked : Bool) (after : Work) → Quiet tid work after → SameFace (record (x.face n) { last = with_at (x.face n).last m 0; blocked = blocked }) (face_at after.node tid)
      → ((x.face n).outcome ≡ Open → blocked ≡ false → ((x.face n).blocked ≡ false) × (w.covered (place n (x.inc n)) m ≡ (x.face n).sent m)) → Goes tid later n after w
  noticed_goes blocked after quiet same owed = record {
    next = turn.next;
    leads = turn.leads;
    shown = sight_alike tid (sight_noticed x n m new blocked) (sight_during tid later n after) turn.next
        (record { size = refl; inc = refl; up = refl; knows = refl; face = λ k. by k (k == n); said = said_is after quiet; unmet = unmet_is after quiet; found = found_same tid scene n work after w quiet }) turn.shown;
  }
    where
      turn : SightGoes tid (sight_noticed x n m new blocked) w
      turn = notice tid x w n m old new blocked lawful shown (runs tid scene n work at) (record { in_run = is.in_run; other = is.other; knows = is.knows; some = is.some }) is.later is.begun nothing_there owed

      by : (k : ℕ) (b : Bool) → SameFace (if b then record (x.face n) { last = with_at (x.face n).last m 0; blocked = blocked } else (if b then face_at work.node tid else face_at (scene.node k) tid)) (if b then face_at after.node tid else face_at (scene.node k) tid)
      by k true = same
      by k false = same_itself (face_at (scene.node k) tid)

  -- ---- what is kept of the transaction

  module _ (part : Participant) (knows : Knows tid work part) where
    pub face_before : x.face n ≡ face work.node tid part
    face_before = face_here tid scene n work ∙ ap (λ (p : Participant). face work.node tid p) (part_known tid work.node part knows.known)

    abbrev pub restarted : Work
    restarted = with_manager (tm.restarted tid (node_no m)) work

    pub known_restarted : part_of tid restarted ≡ Some (participant.restarted (node_no m) part)
    known_restarted = lookup_changed (is_at (tid_cmp tid)) (participant.restarted (node_no m)) work.node.manager.known part knows.known

    peer_is : (k : ℕ) → peer_of (engage.restarted (node_no m) part.engage) (node_no k) ≡ (if k == m then record (peer_of part.engage (node_no m)) { last = 0 } else peer_of part.engage (node_no k))
    peer_is k = peer_put m k (record (peer_of part.engage (node_no m)) { last = 0 }) part.engage (rw knows.whole.peers (omega (arith, is.in_run, shown.stage.small)))

    kept : (g : PeerPart → ℕ) → ((e : PeerPart) → g (record e { last = 0 }) ≡ g e) → (k : ℕ) → g (peer_of (engage.restarted (node_no m) part.engage) (node_no k)) ≡ g (peer_of part.engage (node_no k))
    kept g same k = ap g (peer_is k) ∙ by (k == m) refl
      where
        by : (b : Bool) → (k == m) ≡ b → g (if b then record (peer_of part.engage (node_no m)) { last = 0 } else peer_of part.engage (node_no k)) ≡ g (peer_of part.engage (node_no k))
        by true e = same (peer_of part.engage (node_no m)) ∙ ap (λ (j : ℕ). g (peer_of part.engage (node_no j))) (sym (eqb-true k m e))
        by false e = refl

    last_is : (k : ℕ) → (peer_of (engage.restarted (node_no m) part.engage) (node_no k)).last ≡ with_at (face work.node tid part).last m 0 k
    last_is k = ap (λ (e : PeerPart). e.last) (peer_is k) ∙ by (k == m)
      where
        by : (b : Bool) → (if b then record (peer_of part.engage (node_no m)) { last = 0 } else peer_of part.engage (node_no k)).last ≡ (if b then 0 else (peer_of part.engage (node_no k)).last)
        by true = refl
        by false = refl

    pub face_restarted : (blocked : Bool) (p : Participant) → p.engage ≡ engage.restarted (node_no m) part.engage → p.members ≡ part.members → p.outcome ≡ part.outcome → p.asked ≡ part.asked → p.involved ≡ part.involved → p.told ≡ part.told → p.tell ≡ part.tell → p.blocked ≡ blocked
        → SameFace (record (face work.node tid part) { last = with_at (face work.node tid part).last m 0; blocked = blocked }) (face restarted.node tid p)
    face_restarted blocked p engage_is members outcome asked involved told tell blocked_is = record {
      is_home = refl;
      on = rw (outcome, engage_is) refl;
      superior = rw engage_is refl;
      last = λ k. rw engage_is (last_is k);
      sent = λ k. rw engage_is (kept (λ (e : PeerPart). e.sent) (λ e. refl) k);
      covered = λ k. rw engage_is (kept (λ (e : PeerPart). e.covered) (λ e. refl) k);
      waits = λ s. refl;
      uncast = λ s. rw members refl;
      loans = refl;
      asked = asked;
      blocked = blocked_is;
      involved = involved;
      told = λ k. rw told refl;
      outcome = rw (outcome, engage_is, involved) refl;
      tell = λ k. rw tell refl;
    }

    here : ShowsFace (x.face n) (place n (scene.inc n)) w
    here = shown.faces n at.in_run at.up

    -- what was sent is covered, where the machine's counts say so
    pub all_covered : (x.face n).outcome ≡ Open → (peer_of part.engage (node_no m)).sent ≤ (peer_of part.engage (node_no m)).covered → w.covered (place n (x.inc n)) m ≡ (x.face n).sent m
    all_covered undecided below = same (w.covered (place n (scene.inc n)) m) (w.sent (place n (scene.inc n)) m) ((x.face n).sent m) ((x.face n).covered m) ((here.running undecided).covered m) (here.sent (λ e. cc (e, undecided)) m) ((invariant w lawful).counts.covered_sent (place n (scene.inc n)) m) (rw face_before below)
      where
        same : (a b c d : ℕ) → a ≡ d → b ≡ c → a ≤ b → c ≤ d → a ≡ c
        same a b c d e f g h = omega (arith, e, f, g, h)

pub find_gone_goes : FindGoneGoes
find_gone_goes tid scene n m old new work part w lawful shown at is knows undecided = by (is_owed_by (node_no m) part) refl
  where
    after : Work
    after = with_manager (tm.restarted tid (node_no m)) work

    covered_is : is_owed_by (node_no m) part ≡ false → (peer_of part.engage (node_no m)).sent ≤ (peer_of part.engage (node_no m)).covered
    covered_is e = within (peer_of part.engage (node_no m)) (or_first (is_open_to (node_no m) part.engage) (waits_for (node_no m) part) e)
      where
        within : (p : PeerPart) → not (is_covered p) ≡ false → p.sent ≤ p.covered
        within p e = test (nat_le p.sent p.covered) refl e
          where
            test : (b : Bool) → nat_le p.sent p.covered ≡ b → not b ≡ false → p.sent ≤ p.covered
            test true below e = grind (arith, nat_tests, below)
            test false below e = absurd (cc e)

    gone : Work
    gone = block tid (causes.Gone (node_no m) old) after

    known_gone : part_of tid gone ≡ Some (participant.add_cause (causes.Gone (node_no m) old) (participant.refused (participant.restarted (node_no m) part)))
    known_gone = lookup_changed (is_at (tid_cmp tid)) (participant.add_cause (causes.Gone (node_no m) old)) (tm.refused tid after.node.manager).known (participant.refused (participant.restarted (node_no m) part))
        (lookup_changed (is_at (tid_cmp tid)) participant.refused after.node.manager.known (participant.restarted (node_no m) part) (known_restarted tid scene n m old new work w lawful shown at is part knows))

    by : (b : Bool) → is_owed_by (node_no m) part ≡ b → Goes tid (noticed scene n m new) n (if b then gone else after) w
    by true owed = noticed_goes tid scene n m old new work w lawful shown at is true gone (record { sends = λ q. refl; logs = λ log. found_itself tid _ })
        (rw (face_before tid scene n m old new work w lawful shown at is part knows, part_known tid gone.node (participant.add_cause (causes.Gone (node_no m) old) (participant.refused (participant.restarted (node_no m) part))) known_gone)
        (face_restarted tid scene n m old new work w lawful shown at is part knows true (participant.add_cause (causes.Gone (node_no m) old) (participant.refused (participant.restarted (node_no m) part))) refl refl refl refl refl refl refl refl))
        (λ _ e. absurd (cc e))
    by false owed = noticed_goes tid scene n m old new work w lawful shown at is part.blocked after (record { sends = λ q. refl; logs = λ log. found_itself tid _ })
        (rw (face_before tid scene n m old new work w lawful shown at is part knows, part_known tid after.node (participant.restarted (node_no m) part) (known_restarted tid scene n m old new work w lawful shown at is part knows))
        (face_restarted tid scene n m old new work w lawful shown at is part knows part.blocked (participant.restarted (node_no m) part) refl refl refl refl refl refl refl refl))
        (λ undecided free. (rw (face_before tid scene n m old new work w lawful shown at is part knows) free, all_covered tid scene n m old new work w lawful shown at is part knows undecided (covered_is owed)))

pub notice_decided : NoticeDecidedGoes
notice_decided tid scene n m old new outcome work part w lawful shown at is knows decided =
    noticed_goes tid scene n m old new work w lawful shown at is part.blocked after (record { sends = λ q. refl; logs = λ log. found_itself tid _ })
    (rw (face_before tid scene n m old new work w lawful shown at is part knows, part_known tid after.node (participant.restarted (node_no m) part) (known_restarted tid scene n m old new work w lawful shown at is part knows))
    (face_restarted tid scene n m old new work w lawful shown at is part knows part.blocked (participant.restarted (node_no m) part) refl refl refl refl refl refl refl refl))
    (λ undecided free. (rw (face_before tid scene n m old new work w lawful shown at is part knows) free, none_sent undecided))
  where
    after : Work
    after = with_manager (tm.restarted tid (node_no m)) work

    x : Sight
    x = sight_during tid scene n work

    here : ShowsFace (x.face n) (place n (scene.inc n)) w
    here = shown.faces n at.in_run at.up

    -- a commit that reads as open is of a node that is not involved, and so has sent nothing
    open_uninvolved : (o : Outcome) (b : Bool) → outcome_seen (Some o) b ≡ Open → b ≡ false
    open_uninvolved outcomes.Commit true e = absurd (cc e)
    open_uninvolved outcomes.Commit false e = refl
    open_uninvolved outcomes.Abort b e = absurd (cc e)

    uninvolved : (x.face n).outcome ≡ Open → part.involved ≡ false
    uninvolved undecided = or_last part.engage.home part.involved (open_uninvolved outcome (part.engage.home || part.involved)
        (sym (ap (λ (o : Option Outcome). outcome_seen o (part.engage.home || part.involved)) decided) ∙ (sym (ap (λ (f : Face). f.outcome) (face_before tid scene n m old new work w lawful shown at is part knows)) ∙ undecided)))

    none_sent : (x.face n).outcome ≡ Open → w.covered (place n (x.inc n)) m ≡ (x.face n).sent m
    none_sent undecided = none (w.covered (place n (scene.inc n)) m) (w.sent (place n (scene.inc n)) m) ((x.face n).sent m) (here.sent (λ e. cc (e, undecided)) m) ((invariant w lawful).counts.covered_sent (place n (scene.inc n)) m)
        ((invariant w lawful).involved (place n (scene.inc n)) m).sender
      where
        free : w.involved (place n (scene.inc n)) ≡ false
        free = (here.running undecided).involved ∙ rw (face_before tid scene n m old new work w lawful shown at is part knows) (uninvolved undecided)

        none : (a b c : ℕ) → b ≡ c → a ≤ b → (1 ≤ b → w.involved (place n (scene.inc n)) ≡ true) → a ≡ c
        none a b c e below sender = grind (arith, free, sender, e, below)
