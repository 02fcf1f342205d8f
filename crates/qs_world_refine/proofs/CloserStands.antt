-- A Covered or VotedYes comes, and what stood of its transaction stands.
use Rattle.qs_world_refine.proofs.Words.{◌≡◌, ◌≢◌, ℕ, ◌<◌, ◌≤◌, ◌==◌, ◌&&◌, not, nat_lt, Bool, true, false, List, [], ◌∷◌, Option, Some, None, is_some, refl, sym, subst, ap, ◌∙◌, arith, if◌then◌else◌, is_none, unwrap_or, is_at, nat_tests, tid_cmp, NodeNo, Tid, same_node, Message, new_participant, is_undecided, Participant, closer_came, count, Work, part_of, Open, Face, Closed, names_node, node_no, said, all_said, began_here, face, face_at, is_past_commit, unknown, SightGoes, sight_taken, Scene}
use Rattle.qs_world_refine.proofs.Words.{handed, sight_during, ShowsWork, StaysSound, Stands, GoesOn, IsNext, IsToldSet, Goes, not-true}
use Rattle.qs_base.specs.declared.identifiers.Outcome.{Outcome}
use Rattle.qs_base.specs.declared.identifiers.Outcome.TheVariants as outcomes
use Rattle.qs_engage.specs.Nodes.{has_node}
use Rattle.qs_packet.specs.declared.message.Message.TheVariants as messages
use Rattle.qs_tm.specs.Participant as participant
use Rattle.qs_world_agree.specs.World.{World}
use Rattle.qs_world_refine.specs.CloserWhole.{CountsNoMore, CoveredStands, VotedYesStands}
use Rattle.qs_world_refine.proofs.Alike.{same_itself}
use Rattle.qs_world_refine.proofs.CloserCame.{closer_goes, closer_leaves}
use Rattle.qs_world_refine.proofs.CountDecided.{count_decided}
use Rattle.qs_world_refine.proofs.During.{Leaves, quiet_itself, face_here, runs, meets}
use Rattle.qs_world_refine.proofs.Handing.{taken_shown, head_said}
use Rattle.qs_world_refine.proofs.KindsKept.{KeepsKinds}
use Rattle.qs_world_refine.proofs.Known.{undecided_is}
use Rattle.qs_world_refine.proofs.Maps.{lookup_changed}
use Rattle.qs_world_refine.proofs.MessageKinds.{message_kinds}
use Rattle.qs_world_refine.proofs.MessageStands.{fits_sound}
use Rattle.qs_world_refine.proofs.OutcomeAfter.{decided_after, stands_after, unknown_after}
use Rattle.qs_world_refine.proofs.PassCarried.{Carried}
use Rattle.qs_world_refine.proofs.Same.{tid_same}
use Rattle.qs_world_refine.proofs.SettleRules.{beside, beside_apart, answers_carried, clear_carried}
use Rattle.qs_world_refine.proofs.SettleStands.{whole_known}
use Rattle.qs_world_refine.proofs.SoundHolds.{known_sound}
use Rattle.qs_world_refine.proofs.Taking.{ignore}

module _ (t : Tid) (scene : Scene) (n m i up_to : ℕ) (told : List NodeNo) (message : Message) (rest : List Message) (work : Work) (w : World)
    (next : IsNext scene n m i message rest) (says : said t message ≡ Closed up_to told ∷ []) (sets : IsToldSet t told) (counts : CountsNoMore t work)
    (is : Stands t scene n work w) (sound : StaysSound work (closer_came (node_no m) t up_to told work)) (kinds : KeepsKinds work (closer_came (node_no m) t up_to told work)) where
  abbrev new : Work
  new = closer_came (node_no m) t up_to told work

  left : Leaves (beside t) work (closer_came (node_no m) t up_to told work)
  left = closer_leaves (beside t) t (node_no m) up_to told work (beside_apart t)

  -- ---- it is taken, and nothing comes of it

  taken : (turn : SightGoes t (sight_taken (sight_during t scene n work) n m i ((sight_during t scene n work).face n) (all_said t rest)) w) → closer_came (node_no m) t up_to told work ≡ work
      → Goes t (handed scene m i n rest) n (closer_came (node_no m) t up_to told work) w
  taken turn same = record {
    next = turn.next;
    leads = turn.leads;
    shown = subst (λ (k : Work). ShowsWork t (handed scene m i n rest) n k turn.next) (sym same)
        (taken_shown t scene n m i message rest work work turn.next next (quiet_itself t work) ((sight_during t scene n work).face n) turn.shown (rw (face_here t scene n work) (same_itself (face_at work.node t))));
  }

  head : (sight_during t scene n work).said m i n (scene.inc n) ≡ Closed up_to told ∷ all_said t rest
  head = head_said t scene n m i message rest work.out.messages next ∙ rw says refl

  ignored : (face_at work.node t).on ≡ false → closer_came (node_no m) t up_to told work ≡ work → Goes t (handed scene m i n rest) n (closer_came (node_no m) t up_to told work) w
  ignored off same = taken (ignore t (sight_during t scene n work) w n m i up_to told (all_said t rest) is.shown (runs t scene n work is.at) (meets t scene n m i work next.from) head (rw (face_here t scene n work) off)) same

  -- ---- it is not known

  module _ (none : part_of t work ≡ None) where
    same_unknown : closer_came (node_no m) t up_to told work ≡ work
    same_unknown = ap (λ (o : Option Participant). elim o [ None ↦ work | Some part ↦ if is_undecided part then count (node_no m) t up_to told work else work ]) none

    off_unknown : (face_at work.node t).on ≡ false
    off_unknown = ap (λ (o : Option Participant). (face work.node t (unwrap_or o (unknown work.node t))).on) none
        ∙ by (same_node t.home work.node.setting.node) (t.inc == work.node.setting.inc) (is_past_commit work.node t) (counts.kept none)
      where
        by : (a b p : Bool) → ((a && b) ≡ true → p ≡ true)
            → (if a && b then not (is_some (if a then record (new_participant true) { outcome = if p then Some outcomes.Commit else None } else new_participant false).outcome)
            else is_some (if a then record (new_participant true) { outcome = if p then Some outcomes.Commit else None } else new_participant false).engage.superior) ≡ false
        by true true true past = refl
        by true true false past = absurd (cc (past refl))
        by true false p past = refl
        by false b p past = refl

    stands_unknown : GoesOn t (handed scene m i n rest) n (closer_came (node_no m) t up_to told work) w
    stands_unknown = unknown_after t scene n m i rest work (closer_came (node_no m) t up_to told work) w is (ignored off_unknown same_unknown) left sound kinds
        none (ap (λ (k : Work). part_of t k) same_unknown ∙ none) (ap (λ (k : Work). k.out.records) same_unknown)

  -- ---- it is known

  module _ (part : Participant) (known : part_of t work ≡ Some part) where
    face_is : face_at work.node t ≡ face work.node t part
    face_is = ap (λ (o : Option Participant). face work.node t (unwrap_or o (unknown work.node t))) known

    -- and not decided
    counted : part.outcome ≡ None → GoesOn t (handed scene m i n rest) n (closer_came (node_no m) t up_to told work) w
    counted undecided = stands_after t scene n m i rest work (closer_came (node_no m) t up_to told work) w is
        (closer_goes t scene n m i up_to told message rest work part w is.at next says (whole_known t scene n work w is part known) undecided sets lacks (omega (arith, is.home_in, is.shown.stage.small)) is.shown)
        left sound kinds
        (clear_carried t scene n work (closer_came (node_no m) t up_to told work) w is part known undecided carried) (answers_carried t scene n work (closer_came (node_no m) t up_to told work) w is part known undecided carried)
      where
        lacks : has_node part.told t.home ≡ false
        lacks = not-true (has_node part.told t.home) (known_sound t work.node part known is.sound).outside

        carried : Carried t work (closer_came (node_no m) t up_to told work) part
        carried = subst (λ (k : Work). Carried t work k part) (sym (undecided_is t (λ part. count (node_no m) t up_to told) work part known undecided)) (record {
          next = participant.counted t.home (node_no m) up_to told part;
          known = lookup_changed (is_at (tid_cmp t)) (participant.counted t.home (node_no m) up_to told) work.node.manager.known part known;
          outcome = refl;
          superior = λ k has. has;
          unprepared = λ off. (off, refl);
        })

    -- and decided
    module _ (outcome : Outcome) (decided : part.outcome ≡ Some outcome) where
      same_decided : closer_came (node_no m) t up_to told work ≡ work
      same_decided = ap (λ (o : Option Participant). elim o [ None ↦ work | Some part ↦ if is_undecided part then count (node_no m) t up_to told work else work ]) known
          ∙ ap (λ (o : Option Outcome). if is_none o then count (node_no m) t up_to told work else work) decided

      goes : (o : Outcome) → outcome ≡ o → Goes t (handed scene m i n rest) n (closer_came (node_no m) t up_to told work) w
      goes outcomes.Commit commit = ignored (ap (λ (f : Face). f.on) face_is
          ∙ by (began_here work.node t) part.outcome part.engage.superior (decided ∙ ap (λ (o : Outcome). Some o) commit) (counts.released part known (decided ∙ ap (λ (o : Outcome). Some o) commit))) same_decided
        where
          by : (b : Bool) (o : Option Outcome) (s : Option NodeNo) → o ≡ Some outcomes.Commit → s ≡ None → (if b then not (is_some o) else is_some s) ≡ false
          by true o s so none = rw so refl
          by false o s so none = rw none refl
      goes outcomes.Abort abort = taken (count_decided t (sight_during t scene n work) w n m i up_to told (all_said t rest) is.shown (runs t scene n work is.at) (meets t scene n m i work next.from) head closed) same_decided
        where
          aborted : ((sight_during t scene n work).face n).outcome ≡ Rattle.qs_world_agree.specs.World.Aborted
          aborted = ap (λ (f : Face). f.outcome) (face_here t scene n work ∙ face_is) ∙ rw (decided ∙ ap (λ (o : Outcome). Some o) abort) refl

          closed : ((sight_during t scene n work).face n).outcome ≢ Open
          closed open_now = absurd (cc (sym aborted ∙ open_now))

      stands_decided : GoesOn t (handed scene m i n rest) n (closer_came (node_no m) t up_to told work) w
      stands_decided = decided_after t scene n m i rest work (closer_came (node_no m) t up_to told work) w is (goes outcome refl) left sound kinds
          part (ap (λ (k : Work). part_of t k) same_decided ∙ known) (ap is_some decided) (λ k has. is.superior part k known has)

  pub closer_stands : GoesOn t (handed scene m i n rest) n (closer_came (node_no m) t up_to told work) w
  closer_stands = by (part_of t work) refl
    where
      known : (part : Participant) → part_of t work ≡ Some part → (o : Option Outcome) → part.outcome ≡ o → GoesOn t (handed scene m i n rest) n (closer_came (node_no m) t up_to told work) w
      known part at None undecided = counted part at undecided
      known part at (Some outcome) decided = stands_decided part at outcome decided

      by : (o : Option Participant) → part_of t work ≡ o → GoesOn t (handed scene m i n rest) n (closer_came (node_no m) t up_to told work) w
      by None none = stands_unknown none
      by (Some part) at = known part at part.outcome refl

pub covered_stands : CoveredStands
covered_stands t scene n m i up_to rest work w next fits counts is =
    closer_stands t scene n m i up_to [] (messages.Covered t up_to) rest work w next (rw (tid_same t) refl) nobody counts is
    (fits_sound t scene n m i (messages.Covered t up_to) rest work w next is fits) (message_kinds (node_no m) (messages.Covered t up_to) work)
  where
    nobody : IsToldSet t []
    nobody k named = absurd (cc named)

pub voted_yes_stands : VotedYesStands
voted_yes_stands t scene n m i up_to told rest work w next fits unnamed counts is =
    closer_stands t scene n m i up_to told (messages.VotedYes t up_to told) rest work w next (rw (tid_same t) refl) sets counts is
    (fits_sound t scene n m i (messages.VotedYes t up_to told) rest work w next is fits) (message_kinds (node_no m) (messages.VotedYes t up_to told) work)
  where
    sets : IsToldSet t told
    sets k named = (in_run (fits.1.0 k named), apart k named)
      where
        in_run : nat_lt k work.node.setting.nodes ≡ true → k < 16
        in_run below = subst (λ (s : ℕ). s ≤ 16 → nat_lt k s ≡ true → k < 16) (sym is.at.nodes) (small k scene.size) (subst (λ (s : ℕ). s ≤ 16) (sym is.at.nodes) is.shown.stage.small) below
          where
            small : (k s : ℕ) → s ≤ 16 → nat_lt k s ≡ true → k < 16
            small k s most so = grind (arith, nat_tests, most, so)

        apart : (k : ℕ) → names_node told (node_no k) ≡ true → k ≢ t.home.0
        apart k named same = absurd (cc (sym (subst (λ (j : ℕ). names_node told (node_no j) ≡ true) same named) ∙ unnamed))
