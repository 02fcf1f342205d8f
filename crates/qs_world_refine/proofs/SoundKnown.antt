-- What waits or is lent is of a transaction that a sound node knows; so one that it gets to know is idle.
use Rattle.qs_world_refine.proofs.Words.{◌≡◌, ◌==◌, ◌&&◌, ◌||◌, not, Bool, true, false, List, [], ◌∷◌, Option, Some, None, is_some, refl, sym, ap, subst, ◌∙◌, arith, list_all, list_any, insert_entry, nat_tests, tid_exact, tid_cmp, same_tid, Tid, IpcValue, waits_in, QueueValue, is_for, Delivery, is_standing_loan, Lent, is_abort, is_undecided, Participant, was_committed, put_label, is_lent, NodeValue, Work, began_here, is_sound, is_sound_part, is_sound_queue, is_sound_delivery, is_sound_loan}
use Rattle.qs_world_refine.proofs.Words.{is_sound_label, may_be_served, is_past, where_so}
use Rattle.qs_ipc.specs.Ipc as ipc
use Rattle.qs_ipc.specs.Queue.{is_of}
use Rattle.qs_node_kept.specs.declared.kept.KeptLabel.{KeptLabel}
use Rattle.qs_tm.specs.Manager as tm
use Rattle.qs_world_refine.proofs.Maps.{lookup_put}
use Rattle.qs_world_refine.proofs.Others.{put_apart}
use Rattle.qs_world_refine.proofs.SoundParts.{and_both}
use Rattle.qs_world_refine.proofs.SoundBegin.{all_last, all_put, order_put}
use Rattle.qs_world_refine.proofs.SoundViews.{PartSound, seen, sound_as, part_as}
use Rattle.qs_world_refine.proofs.SoundFrames.{moved, queues_moved, loans_moved, labels_moved}
use Rattle.qs_world_refine.proofs.SoundQueued.{either}

pub same_is : (t u : Tid) → same_tid t u ≡ true → t ≡ u
same_is t u is = tid_exact t u (grind (arith, nat_tests, is))

-- ---- what waits and is lent

module _ (node : NodeValue) (t : Tid) where
  delivery_served : (d : Delivery) (a b : Bool) → (a && (may_be_served node d.tid && b)) ≡ true → is_of t d ≡ true → may_be_served node t ≡ true
  delivery_served d a b its is = subst (λ (u : Tid). may_be_served node u ≡ true) (sym (same_is t d.tid is)) (and_both (may_be_served node d.tid) b (and_both a (may_be_served node d.tid && b) its).1).0

  waiting_served : (q : QueueValue) (server : Rattle.qs_base.specs.declared.identifiers.ServerNo.ServerNo) (ds : List Delivery) → list_all (is_sound_delivery node server) ds ≡ true → list_any (is_of t) ds ≡ true → may_be_served node t ≡ true
  waiting_served q server [] all is = absurd (cc (is))
  waiting_served q server (d ∷ ds) all is =
      let both : (is_sound_delivery node server d ≡ true) × (list_all (is_sound_delivery node server) ds ≡ true) = and_both (is_sound_delivery node server d) (list_all (is_sound_delivery node server) ds) all in
      either (is_of t d) (list_any (is_of t) ds) is (may_be_served node t)
      (delivery_served d (is_for server d.op) _ both.0) (waiting_served q server ds both.1)

  pub waits_served : (queues : IpcValue) → list_all (is_sound_queue node) queues ≡ true → ipc.waits t queues ≡ true → may_be_served node t ≡ true
  waits_served [] all is = absurd (cc (is))
  waits_served (q ∷ queues) all is =
      let both : (is_sound_queue node q ≡ true) × (list_all (is_sound_queue node) queues ≡ true) = and_both (is_sound_queue node q) (list_all (is_sound_queue node) queues) all in
      either (waits_in t q) (ipc.waits t queues) is (may_be_served node t) (waiting_served q.1 q.0 q.1.waiting both.0) (waits_served queues both.1)

  loan_served : (loan : Lent) → is_sound_loan node loan ≡ true → is_standing_loan t node.setting.inc loan ≡ true → may_be_served node t ≡ true
  loan_served loan its is =
      let both : (same_tid t loan.tid ≡ true) × ((not loan.yielded && (loan.inc == node.setting.inc)) ≡ true) = and_both (same_tid t loan.tid) (not loan.yielded && (loan.inc == node.setting.inc)) is in
      let same : t ≡ loan.tid = same_is t loan.tid both.0 in
      subst (λ (u : Tid). may_be_served node u ≡ true) (sym same)
      (by (is_standing_loan loan.tid node.setting.inc loan) (subst (λ (u : Tid). is_standing_loan u node.setting.inc loan ≡ true) same is) its)
    where
      by : (b : Bool) → b ≡ true → where_so b (may_be_served node loan.tid) ≡ true → may_be_served node loan.tid ≡ true
      by true so is = is
      by false so is = absurd (cc (so))

  pub lent_served : (loans : List Lent) → list_all (is_sound_loan node) loans ≡ true → list_any (is_standing_loan t node.setting.inc) loans ≡ true → may_be_served node t ≡ true
  lent_served [] all is = absurd (cc (is))
  lent_served (loan ∷ loans) all is =
      let both : (is_sound_loan node loan ≡ true) × (list_all (is_sound_loan node) loans ≡ true) = and_both (is_sound_loan node loan) (list_all (is_sound_loan node) loans) all in
      either (is_standing_loan t node.setting.inc loan) (list_any (is_standing_loan t node.setting.inc) loans) is (may_be_served node t) (loan_served loan both.0) (lent_served loans both.1)

  not_so : (b : Bool) → (b ≡ true → may_be_served node t ≡ true) → may_be_served node t ≡ false → b ≡ false
  not_so true more off = let is : may_be_served node t ≡ true = more refl in absurd (cc (is, off))
  not_so false more off = refl

  pub nothing_waits : may_be_served node t ≡ false → is_sound node ≡ true → ipc.waits t node.queues ≡ false
  nothing_waits off sound = not_so (ipc.waits t node.queues) (waits_served node.queues (seen node sound).queues) off

  pub nothing_lent : may_be_served node t ≡ false → is_sound node ≡ true → is_lent t node ≡ false
  nothing_lent off sound = not_so (is_lent t node) (lent_served node.kept.now.loans (seen node sound).loans) off

-- ---- a label is learnt

pub label_sound : (begun : KeptLabel) (work : Work) → is_sound_label work.node begun ≡ true → is_sound work.node ≡ true → is_sound (put_label begun work).node ≡ true
label_sound begun work its sound =
    let s = seen work.node sound in
    sound_as (put_label begun work).node (record {
      fits = s.fits;
      ordered = s.ordered;
      parts = s.parts;
      queues = s.queues;
      loans = s.loans;
      labels = all_last (is_sound_label work.node) work.node.kept.now.labels begun s.labels its;
    })

-- ---- a transaction gets known

module _ (tid : Tid) (part : Participant) (node : NodeValue) (none : tm.part_of tid node.manager ≡ None) where
  abbrev known : List (Tid × Participant)
  known = insert_entry tid_cmp node.manager.known tid part

  abbrev served_as : Option Participant → Bool
  served_as o = elim o [ None ↦ false | Some p ↦ is_undecided p || is_abort p.outcome ]

  serves : (t : Tid) → may_be_served node t ≡ true → may_be_served (moved node known node.queues node.kept) t ≡ true
  serves t is = by (same_tid t tid) refl
    where
      by : (b : Bool) → same_tid t tid ≡ b → may_be_served (moved node known node.queues node.kept) t ≡ true
      by true same =
          let off : may_be_served node tid ≡ false = ap served_as none in
          let so : may_be_served node tid ≡ true = subst (λ (u : Tid). may_be_served node u ≡ true) (same_is t tid same) is in
          absurd (cc (off, so))
      by false apart = ap served_as (put_apart t tid part node.manager apart) ∙ is

  past : (t : Tid) → is_past node t ≡ true → is_past (moved node known node.queues node.kept) t ≡ true
  past t is = by (same_tid t tid) refl
    where
      known_now : tm.knows tid (tm.put_part tid part node.manager) ≡ true
      known_now = ap (λ (o : Option Participant). is_some o) (lookup_put tid_cmp tid part (grind (arith, nat_tests)) node.manager.known)

      past_now : (a b c : Bool) → b ≡ true → where_so (a && not b) c ≡ true
      past_now true b c so = rw so refl
      past_now false b c so = refl

      by : (b : Bool) → same_tid t tid ≡ b → is_past (moved node known node.queues node.kept) t ≡ true
      by true same = subst (λ (u : Tid). is_past (moved node known node.queues node.kept) u ≡ true) (sym (same_is t tid same))
          (past_now (began_here node tid) (tm.knows tid (tm.put_part tid part node.manager)) (was_committed tid node) known_now)
      by false apart = ap (λ (o : Option Participant). where_so (began_here node t && not (is_some o)) (was_committed t node)) (put_apart t tid part node.manager apart) ∙ is

  pub put_sound : PartSound node tid part → is_sound node ≡ true → is_sound (record node { manager = tm.put_part tid part node.manager }) ≡ true
  put_sound its sound =
      let s = seen node sound in
      sound_as (record node { manager = tm.put_part tid part node.manager }) (record {
        fits = s.fits;
        ordered = order_put tid part node.manager.known s.ordered;
        parts = all_put tid part (is_sound_part node) node.manager.known (part_as node tid part its) s.parts;
        queues = queues_moved node known node.queues node.kept serves node.queues s.queues;
        loans = loans_moved node known node.queues node.kept serves node.kept.now.loans s.loans;
        labels = labels_moved node known node.queues node.kept past node.kept.now.labels s.labels;
      })
