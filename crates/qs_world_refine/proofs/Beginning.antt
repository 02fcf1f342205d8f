-- A client begins a transaction: its face stays, and every other transaction is left as it was.
use Rattle.qs_world_refine.proofs.Words.{◌≡◌, ◌+◌, Bool, true, false, Option, Some, None, unwrap_or, refl, arith, if◌then◌else◌, Equal, nat_tests, tid_cmp, Tid, same_node, ScriptLine, new_participant, begun_participant, Participant, was_committed, enter, begin_as, put_label, Work, part_of, with_manager, face, part_at, began_here, is_past_commit}
use Rattle.qs_base.specs.declared.identifiers.Outcome.TheVariants as outcomes
use Rattle.qs_book_journal.specs.declared.entry.Act.TheVariants as acts
use Rattle.qs_node_kept.specs.declared.kept.KeptLabel.{KeptLabel}
use Rattle.qs_ops.specs.declared.answer.Answer.TheVariants as answers
use Rattle.qs_tm.specs.Manager as tm
use Rattle.qs_world_refine.specs.Starts.{MayBeginAt}
use Rattle.qs_world_refine.proofs.Alike.{SameFace}
use Rattle.qs_world_refine.proofs.During.{Leaves, leaves_on}
use Rattle.qs_world_refine.proofs.Frames.{out_leaves}
use Rattle.qs_world_refine.proofs.Keeping.{Keeps, leaves_keeps, keeps_on, answer_leaves}
use Rattle.qs_world_refine.proofs.LogFrames.{Apart}
use Rattle.qs_world_refine.proofs.Maps.{lookup_put}
use Rattle.qs_world_refine.proofs.Others.{put_apart}
use Rattle.qs_world_refine.proofs.Reading.{part_known}

tid_itself : (tid : Tid) → tid_cmp tid tid ≡ Equal
tid_itself tid = grind (arith, nat_tests)

module _ (line : ScriptLine) (work : Work) where
  abbrev tid : Tid
  tid = tm.next_tid work.node.manager

  abbrev mid : Work
  mid = with_manager (tm.begin line.client) work

  abbrev label : KeptLabel
  label = record { label = line.label; tid = Some tid; owner = Some line.client }

  abbrev entered : Work
  entered = enter (acts.Begin tid line.label line.client) (put_label label mid)

  rest_leaves : (t : Tid) → Leaves t mid (begin_as line tid work)
  rest_leaves t = leaves_on t mid entered (begin_as line tid work)
      (out_leaves t mid entered (record { around = record { setting = refl; waits = λ s. refl; loans = refl; past = refl }; part = refl }) refl refl)
      (answer_leaves t line.client answers.Done entered)

  -- another transaction
  pub begin_leaves : (t : Tid) → Apart t tid → Leaves t work (begin_as line tid work)
  begin_leaves t apart = leaves_on t work mid (begin_as line tid work)
      (out_leaves t work mid (record { around = record { setting = refl; waits = λ s. refl; loans = refl; past = refl }; part = put_apart t tid (begun_participant line.client work.node.manager.ticks) (record work.node.manager { begun = work.node.manager.begun + 1 }) apart }) refl refl)
      (rest_leaves t)

  module _ (may : MayBeginAt work) where
    known_after : part_of tid mid ≡ Some (begun_participant line.client work.node.manager.ticks)
    known_after = lookup_put tid_cmp tid (begun_participant line.client work.node.manager.ticks) (tid_itself tid) work.node.manager.known

    began : began_here work.node tid ≡ true
    began = rw (may.node, may.inc) (grind (arith, nat_tests))

    past : is_past_commit work.node tid ≡ false
    past = picked (began_here work.node tid) began (was_committed tid work.node) may.fresh
      where
        picked : (b : Bool) → b ≡ true → (c : Bool) → c ≡ false → (if b then c else Rattle.std.specs.List.list_any (Rattle.qs_base.specs.Order.same_tid tid) work.node.committed) ≡ false
        picked b is c clear = rw (is, clear) refl

    home : same_node tid.home work.node.setting.node ≡ true
    home = rw may.node (grind (arith, nat_tests))

    part_before : part_at work.node tid ≡ new_participant true
    part_before = by (part_of tid work) may.unknown (same_node tid.home work.node.setting.node) home (is_past_commit work.node tid) past
      where
        by : (o : Option Participant) → o ≡ None → (h : Bool) → h ≡ true → (c : Bool) → c ≡ false
            → unwrap_or o (if h then record (new_participant true) { outcome = if c then Some outcomes.Commit else None } else new_participant false) ≡ new_participant true
        by o none h is c clear = rw (none, is, clear) refl

    begun_keeps : Keeps tid work mid
    begun_keeps = record {
      face = rw (part_before, part_known tid mid.node (begun_participant line.client work.node.manager.ticks) known_after) same;
      quiet = record { sends = λ q. refl; logs = λ log. Rattle.qs_world_refine.proofs.Alike.found_itself tid _ };
    }
      where
        same : SameFace (face work.node tid (new_participant true)) (face mid.node tid (begun_participant line.client work.node.manager.ticks))
        same = record { is_home = refl; on = refl; superior = refl; last = λ m. refl; sent = λ m. refl; covered = λ m. refl; waits = λ s. refl; uncast = λ s. refl; loans = refl; asked = refl; blocked = refl; involved = refl; told = λ m. refl; outcome = refl; tell = λ m. refl }

    pub begin_keeps : Keeps tid work (begin_as line tid work)
    begin_keeps = keeps_on tid work mid (begin_as line tid work) begun_keeps (leaves_keeps tid mid (begin_as line tid work) (rest_leaves tid))
